use Rattle.shared_table.proofs.GlanceLemmas.{load_can, load_keeps, load_leads, load_fits_there}
use Rattle.shared_table.proofs.glancing.GlancingSteps.load.Goals as goal

pub load-requires : goal.load-requires
load-requires g c = load_can g.B.Glance.key g.B.Glance.since c.self.inside.words.now.key
    c.self.inside.words.now.table_id c.self.inside.token c.self.invariant _ c.self.view_is
    c.args.at c.requires.asked c.place_laws.ensures.within _ _

pub invariant_of-self : goal.invariant_of-self
invariant_of-self g c = load_keeps g.B.Glance.key g.B.Glance.since c.self.inside.words.now.key
    c.self.inside.words.now.table_id c.self.inside.token c.self.invariant _ c.self.view_is
    c.args.at c.requires.asked c.load.new.seat c.load.result c.load.ensures.2 c.load.ensures.0

pub returns-clause-goes : goal.returns-clause-goes
returns-clause-goes g c = load_leads g.B.Glance.key g.B.Glance.since c.self.inside.words.now.key
    c.self.inside.words.now.table_id c.self.inside.token c.self.invariant _ c.self.view_is
    c.args.at c.requires.asked c.load.new.seat c.load.result c.load.ensures.2

pub returns-clause-fits : goal.returns-clause-fits
returns-clause-fits g c = load_fits_there g.B.Glance.key g.B.Glance.since c.self.inside.words.now.key
    c.self.inside.words.now.table_id c.self.inside.token c.self.invariant _ c.self.view_is
    c.args.at c.requires.asked c.load.new.seat c.load.result c.load.ensures.2
