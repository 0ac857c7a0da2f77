use Rattle.shared_table.proofs.GlanceLemmas.{stands_there, stands_few}
use Rattle.shared_table.proofs.glancing.GlancingSteps.stands.Goals as goal

pub returns-clause-on_word : goal.returns-clause-on_word
returns-clause-on_word g c = stands_there g.B.Glance.key g.B.Glance.since c.self.inside.words.now.key
    c.self.inside.words.now.table_id c.self.inside.token c.self.invariant _ c.self.view_is

pub returns-clause-counts : goal.returns-clause-counts
returns-clause-counts g c = stands_few g.B.Glance.key g.B.Glance.since c.self.inside.words.now.key
    c.self.inside.words.now.table_id c.self.inside.token c.self.invariant _ c.self.view_is
