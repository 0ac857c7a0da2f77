use Rattle.bound_laws.proofs.FitsWhole.{every_step_fits}
use Rattle.bound_laws.proofs.laws.fits_laws.Goals as goal

pub returns : goal.returns
returns c = record { fits = every_step_fits }
