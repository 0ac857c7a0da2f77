use Rattle.batch_answers.proofs.Answers.{none_is_refused, all_are_answered, served_as_one_thread}
use Rattle.batch_answers.proofs.Printed.{printed_stand_once}
use Rattle.batch_answers.proofs.laws.answer_laws.Goals as goal

pub returns : goal.returns
returns c = record {
  none = none_is_refused;
  all = all_are_answered;
  one_thread = served_as_one_thread;
  once = printed_stand_once;
}
