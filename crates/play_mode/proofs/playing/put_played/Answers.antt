use Rattle.std.proofs.Common.{◌++◌, ap, ◌∙◌}
use Rattle.std.specs.List.{flat_map}
use Rattle.report_text.specs.Report.{order_lines, outcome_line, pending_line}
use Rattle.play_mode.proofs.PlayReports.{lines-played, on_ok}
use Rattle.play_mode.proofs.playing.put_played.Goals as goal

pub returns : goal.returns
returns c =
    on_ok c.order_text.result c.order_text.ensures.appended (λ appended.
    lines-played c.args.seats c.args.played.now c.args.text.now.items c.put_outcomes.new.text.items
    c.put_pending.new.text.items c.order_text.new.out.items
    (c.in_ok-put_outcomes.ensures
    ∙ ap (λ outcomes. c.args.text.now.items ++ flat_map (λ one. outcome_line c.args.seats one.0 one.1) outcomes)
    c.deref.ensures.value)
    (c.in_ok-put_pending.ensures
    ∙ ap (λ pending. c.put_outcomes.new.text.items ++ flat_map (pending_line c.args.seats) pending)
    c.deref-2.ensures.value)
    (appended ∙ ap (λ order. c.put_pending.new.text.items ++ order_lines order) c.deref-3.ensures.value))
