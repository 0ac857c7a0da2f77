use Rattle.shared_table.proofs.GlanceLemmas.{exchanges_none}
use Rattle.shared_table.proofs.glancing.GlancingSteps.exchange.Goals as goal

-- a reader asks for no exchange
pub returns : goal.returns
returns g c = absurd (exchanges_none g.B.Glance.key g.B.Glance.since c.self.inside.words.now.key
    c.self.inside.words.now.table_id c.self.inside.token c.self.invariant _ c.self.view_is
    c.args._at c.args.old c.args._new c.requires.asked)
