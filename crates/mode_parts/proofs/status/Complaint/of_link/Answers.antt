-- What is said of a link type that is read, and of another.
use Rattle.std.proofs.Common.{List, ℕ, ◌++◌, codes, ap, append-nil, inl, inr, refl}
use Rattle.std.proofs.lemmas.Bool.{false≢true}
use Rattle.std.specs.Fmt.{decimal}
use Rattle.mode_parts.proofs.status.Complaint.of_link.Goals as goal

pub returns-in-Some : goal.returns-in-Some
returns-in-Some c =
    inl (
      c.in-Some._link,
      c.in-Some.ensures.found,
      ap (λ (t : List ℕ). codes "flowdir: give --link " ++ t) (append-nil (decimal c.args.found)),
    )

pub returns-in-None : goal.returns-in-None
returns-in-None c = inr (λ link is. false≢true (c.in-None.ensures.none link is), refl)
