use Rattle.lasting_laws.proofs.FixedRuns.{fixed_depth_never_freezes}
use Rattle.lasting_laws.proofs.Ended.{ended_are_applied, numbers_have_one_reply}
use Rattle.lasting_laws.proofs.laws.shown_facts.Goals as goal

pub returns : goal.returns
returns c =
    record {
      applied = ended_are_applied;
      one_reply = numbers_have_one_reply;
      never_frozen = fixed_depth_never_freezes;
    }
