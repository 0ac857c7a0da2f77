-- What is told of the play can be printed, and the text is its report.
use Rattle.std.proofs.Common.{◌++◌, ℕ, List, true, length, All, refl, subst, sym, ap, ◌∙◌, arith}
use Rattle.std.specs.List.{flat_map}
use Rattle.plain_map.specs.declared.calls.Call.{Call}
use Rattle.plain_map.specs.declared.keys.Pair.{Pair}
use Rattle.key_texts.specs.FlowText.{HasText}
use Rattle.report_text.specs.declared.parts.Head.{Head}
use Rattle.report_told.specs.Rules.{IsBatch, IsHead, IsTail}
use Rattle.report_text.specs.Report.{head_line, session_line, tail_lines}
use Rattle.table_model.specs.Schedules.{CanPlay}
use Rattle.play_runner.specs.declared.values.Played.{Played}
use Rattle.play_runner.specs.Played.{IsPlayed}
use Rattle.batch_deals.specs.declared.service.Service.{Service}
use Rattle.batch_deals.specs.Dealt.{shares_of}
use Rattle.mode_parts.specs.Planned.{head_of}
use Rattle.play_mode.specs.Playing.{IsRightPlay, play_in, play_setup, schedule_in}
use Rattle.play_mode.proofs.PlayReports.{IsPlayOf-done, call-texts, depth-fits, ended-texts, pairs-texts, report-played, under-way-texts}
use Rattle.play_mode.proofs.playing.report_of.Goals as goal

pub head_fits-requires-clause-batch : goal.head_fits-requires-clause-batch
head_fits-requires-clause-batch c =
    subst (λ (head : Head). IsBatch head.play head.batch) (sym c.head_of-head.ensures)
    (record { range = (omega arith, omega arith); one = λ yes. refl })

pub put_played-requires-clause-ended : goal.put_played-requires-clause-ended
put_played-requires-clause-ended c =
    let service : Service = c.args.service.now in
    let calls : List (ℕ × Call) = c.args.input.now.calls.items in
    let played : Played = c.in_ok-played.played in
    let comes : IsPlayed (play_setup service calls) (play_in c.args.plan.now service calls) played =
    subst (λ (all : List (ℕ × Call)). IsPlayed (play_setup service all) (play_in c.args.plan.now service all) played)
    c.deref.ensures.value c.in_ok-played.ensures.played in
    ended-texts c.args.plan.now service calls played comes
    (call-texts 0 c.args.input.now.packets calls c.requires.between)

pub put_played-requires-clause-under_way : goal.put_played-requires-clause-under_way
put_played-requires-clause-under_way c =
    let service : Service = c.args.service.now in
    let calls : List (ℕ × Call) = c.args.input.now.calls.items in
    let played : Played = c.in_ok-played.played in
    let comes : IsPlayed (play_setup service calls) (play_in c.args.plan.now service calls) played =
    subst (λ (all : List (ℕ × Call)). IsPlayed (play_setup service all) (play_in c.args.plan.now service all) played)
    c.deref.ensures.value c.in_ok-played.ensures.played in
    under-way-texts c.args.plan.now service calls played comes
    (call-texts 0 c.args.input.now.packets calls c.requires.between)

pub put_sessions-requires : goal.put_sessions-requires
put_sessions-requires c =
    let service : Service = c.args.service.now in
    let calls : List (ℕ × Call) = c.args.input.now.calls.items in
    let played : Played = c.in_ok-played.played in
    let comes : IsPlayed (play_setup service calls) (play_in c.args.plan.now service calls) played =
    subst (λ (all : List (ℕ × Call)). IsPlayed (play_setup service all) (play_in c.args.plan.now service all) played)
    c.deref.ensures.value c.in_ok-played.ensures.played in
    let can : CanPlay (play_setup service calls) (shares_of service calls) =
    subst (λ (all : List (ℕ × Call)). CanPlay (play_setup service all) (shares_of service all)) c.deref.ensures.value
    c.in_ok-played.ensures.can in
    let right : IsRightPlay (play_setup service calls) (play_in c.args.plan.now service calls) =
    c.playing_laws.ensures.right (play_setup service calls) (shares_of service calls) c.args.plan.now.stops
    (schedule_in c.args.plan.now) can in
    subst (All (λ (pair : Pair). HasText pair.key)) (sym c.deref-2.ensures.value)
    (pairs-texts c.args.plan.now service calls played comes
    (call-texts 0 c.args.input.now.packets calls c.requires.between) right c.session_laws.ensures)

pub play_tail-tail-requires-clause-depth : goal.play_tail-tail-requires-clause-depth
play_tail-tail-requires-clause-depth c =
    let service : Service = c.args.service.now in
    let calls : List (ℕ × Call) = c.args.input.now.calls.items in
    let played : Played = c.in_ok-played.played in
    let comes : IsPlayed (play_setup service calls) (play_in c.args.plan.now service calls) played =
    subst (λ (all : List (ℕ × Call)). IsPlayed (play_setup service all) (play_in c.args.plan.now service all) played)
    c.deref.ensures.value c.in_ok-played.ensures.played in
    let can : CanPlay (play_setup service calls) (shares_of service calls) =
    subst (λ (all : List (ℕ × Call)). CanPlay (play_setup service all) (shares_of service all)) c.deref.ensures.value
    c.in_ok-played.ensures.can in
    let right : IsRightPlay (play_setup service calls) (play_in c.args.plan.now service calls) =
    c.playing_laws.ensures.right (play_setup service calls) (shares_of service calls) c.args.plan.now.stops
    (schedule_in c.args.plan.now) can in
    depth-fits c.args.plan.now service calls played comes right

pub returns : goal.returns
returns c =
    let service : Service = c.args.service.now in
    let calls : List (ℕ × Call) = c.args.input.now.calls.items in
    let played : Played = c.in_ok-played.played in
    let comes : IsPlayed (play_setup service calls) (play_in c.args.plan.now service calls) played =
    subst (λ (all : List (ℕ × Call)). IsPlayed (play_setup service all) (play_in c.args.plan.now service all) played)
    c.deref.ensures.value c.in_ok-played.ensures.played in
    let can : CanPlay (play_setup service calls) (shares_of service calls) =
    subst (λ (all : List (ℕ × Call)). CanPlay (play_setup service all) (shares_of service all)) c.deref.ensures.value
    c.in_ok-played.ensures.can in
    IsPlayOf-done c.args.plan.now service calls played comes c.args.input.now.packets c.args.input.now.ending
    c.tail_text.new.out.items c.playing_laws.ensures.right c.playing_laws.ensures.answered
    c.requires.asks can c.requires.between.ascend
    (subst IsHead c.head_of-head.ensures c.head_fits.ensures)
    (subst (IsTail (head_of true c.args.plan.now)) c.play_tail-tail.ensures
    (subst (λ (head : Head). IsTail head c.play_tail-tail.result) c.head_of-head.ensures c.tail_fits.ensures))
    (report-played c.args.plan.now service c.args.input.now.packets (length calls) played c.args.input.now.ending
    c.new-text.result.items c.head_text.new.out.items c.put_played.new.text.items c.put_sessions.new.text.items
    c.tail_text.new.out.items c.new-text.ensures.items
    (c.in_ok-head_text.ensures.appended ∙ ap (λ head. c.new-text.result.items ++ head_line head) c.head_of-head.ensures)
    c.in_ok-put_played.ensures
    (c.in_ok-put_sessions.ensures
    ∙ ap (λ pairs. c.put_played.new.text.items ++ flat_map session_line pairs) c.deref-2.ensures.value)
    (c.in_ok-tail_text.ensures.appended
    ∙ ap (λ tail. c.put_sessions.new.text.items ++ tail_lines tail) c.play_tail-tail.ensures))
