use Rattle.shared_table.proofs.GlanceLemmas.{glanced}
use Rattle.shared_table.proofs.glancing.Glancing.into_token.Goals as goal

-- a reader that has a reply has glanced
pub returns-clause-glanced : goal.returns-clause-glanced
returns-clause-glanced g c = glanced g.B.Glance.key g.B.Glance.since c.self.inside.words.now.key
    c.self.inside.words.now.table_id c.self.inside.token c.self.invariant _ c.self.view_is
