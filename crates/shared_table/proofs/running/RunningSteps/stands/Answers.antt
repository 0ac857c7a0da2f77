use Rattle.shared_table.proofs.StepLemmas.{stands_on_word, stands_counts}
use Rattle.shared_table.proofs.running.RunningSteps.stands.Goals as goal

pub returns-clause-on_word : goal.returns-clause-on_word
returns-clause-on_word g c = stands_on_word g.B.Asked.asked g.B.Asked.was c.self.inside.words.now.key
    c.self.inside.words.now.table_id c.self.inside.token c.self.inside.late c.self.inside.zeros c.self.inside.done
    c.self.invariant _ c.self.view_is c.requires

pub returns-clause-counts : goal.returns-clause-counts
returns-clause-counts g c = stands_counts g.B.Asked.asked g.B.Asked.was c.self.inside.words.now.key
    c.self.inside.words.now.table_id c.self.inside.token c.self.inside.late c.self.inside.zeros c.self.inside.done
    c.self.invariant _ c.self.view_is c.requires
