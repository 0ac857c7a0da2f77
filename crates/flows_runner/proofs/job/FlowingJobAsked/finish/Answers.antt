-- The block at the end, if none stands there yet, and the ending make the report whole.
use Rattle.std.proofs.Common.{◌∙◌, ◌++◌, ℕ, List, ap}
use Rattle.report_text.specs.Report.{input_line}
use Rattle.flows_runner.proofs.EndLemmas.{end_texts, ended, follows}
use Rattle.flows_runner.proofs.job.FlowingJobAsked.finish.Goals as goal

pub put_closed-requires : goal.put_closed-requires
put_closed-requires c =
    let going = c.requires.going in
    end_texts c.args.self.now going.packets going.served c.in_ok-last.last
    (c.in_ok-last.ensures.block going.packets going.blocks going.served going.so)

pub returns : goal.returns
returns c =
    follows c.input_text.result c.input_text.ensures.appended
    (λ is. ended c.args.self.now c.in_ok-last.last c.args.ending.now c.args.text.now.items
    c.input_text.new.out.items (is ∙ ap (λ (l : List ℕ). l ++ input_line c.args.ending.now) c.in_ok-put_closed.ensures)
    c.in_ok-last.ensures.block)
