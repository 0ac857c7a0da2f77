use Rattle.shared_table.proofs.GlanceLemmas.{stores_none}
use Rattle.shared_table.proofs.glancing.GlancingSteps.store.Goals as goal

-- a reader asks for no store
pub returns : goal.returns
returns g c = absurd (stores_none g.B.Glance.key g.B.Glance.since c.self.inside.words.now.key
    c.self.inside.words.now.table_id c.self.inside.token c.self.invariant _ c.self.view_is
    c.args._at c.args._word c.requires.asked c.requires.goes_on)
