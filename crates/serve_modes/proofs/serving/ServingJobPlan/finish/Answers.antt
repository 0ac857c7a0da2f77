-- The sessions and the last lines make the report whole.
use Rattle.std.proofs.Common.{◌++◌, ap, subst, sym, ◌∙◌}
use Rattle.std.specs.List.{All, flat_map}
use Rattle.key_texts.specs.FlowText.{HasText}
use Rattle.report_text.specs.Report.{session_line, tail_lines}
use Rattle.serve_modes.specs.Served.{tail_with}
use Rattle.mode_parts.proofs.PileLemmas.{OnOk-weaker}
use Rattle.serve_modes.proofs.JobLemmas.{done_whole}
use Rattle.serve_modes.proofs.TextLemmas.{texts-left}
use Rattle.serve_modes.proofs.serving.ServingJobPlan.finish.Goals as goal

pub put_sessions-requires : goal.put_sessions-requires
put_sessions-requires c =
    let going = c.requires.going.going in
    subst (All (λ pair. HasText pair.key)) (sym (c.deref.ensures.value ∙ going.1.pairs))
    (texts-left c.args.self.now.service going.0 c.served_laws.ensures.right c.session_laws.ensures going.1.served
    going.1.texts)

pub returns : goal.returns
returns c =
    OnOk-weaker c.tail_text.result
    (λ appended plan batches put done.
    done_whole c.args.self.now plan batches put c.args.ending.now c.args.packets c.args.text.now.items
    c.tail_text.new.out.items done c.requires.going.count
    (appended ∙ ap (λ t. c.put_sessions.new.text.items ++ tail_lines t) c.tail_with-tail.ensures
    ∙ ap (λ t. t ++ tail_lines (tail_with c.args.self.now.service c.args.packets c.args.self.now.progress.totals
    c.args.self.now.progress.leaves c.args.self.now.progress.depth c.args.ending.now)) (c.in_ok-put_sessions.ensures
    ∙ ap (λ pairs. c.args.text.now.items ++ flat_map session_line pairs) c.deref.ensures.value)))
    c.tail_text.ensures.appended
