use Rattle.report_reading.proofs.AnswerLemmas.{answers_more}
use Rattle.report_reading.proofs.answers.Answers.answer.Goals as goal

pub returns : goal.returns
returns c = λ entries are seat few ends.
    answers_more c.args.self.now (record { calls = c.push.new.self; counts = c.count-number.new.counts }) entries
    c.args.line.now c.args.reply c.args.steps c.args.seen c.count-number.result are seat few ends
    c.in_ok-push.ensures.items (c.count-number.ensures.number seat) (c.count-number.ensures.counts seat)
