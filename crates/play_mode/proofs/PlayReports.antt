-- The report of a play: its text, and that it is what the definitions say.
use Rattle.std.proofs.Common.{◌≡◌, ◌<◌, ◌≤◌, ◌^◌, ℕ, List, [], ◌++◌, length, Option, Result, Ok, Err, refl, sym, ap, subst, ◌∙◌, append_assoc, append-nil, arith}
use Rattle.std.specs.Prelude.{OnOk, true}
use Rattle.std.specs.List.{All, flat_map}
use Rattle.std.proofs.lemmas.List.Elements.{All-weaker}
use Rattle.std.proofs.lemmas.List.Sorted.{All-permutation}
use Rattle.step_counts.specs.declared.rows.SeatRows.{SeatRows}
use Rattle.plain_map.specs.declared.calls.Call.{Call}
use Rattle.plain_map.specs.declared.keys.Pair.{Pair}
use Rattle.plain_map.specs.declared.records.Pending.{Pending}
use Rattle.plain_map.specs.Calls.{key_in}
use Rattle.plain_map.specs.Asked.{SessionsAreAsked}
use Rattle.key_texts.specs.FlowText.{HasText}
use Rattle.trace_share.specs.declared.outcome.Outcome.{Outcome}
use Rattle.capture_faults.specs.declared.ending.Ending.{Ending}
use Rattle.report_text.specs.Report.{batch_lines, call_in as call_of, head_line, order_lines, outcome_line, pending_line, report_of, session_line, tail_lines}
use Rattle.report_told.specs.Rules.{IsHead, IsTail}
use Rattle.table_model.specs.Setup.{Setup}
use Rattle.table_model.specs.Worlds.{World}
use Rattle.table_model.specs.Closed.{closed_depth}
use Rattle.table_model.specs.Schedules.{CanPlay, Play}
use Rattle.play_runner.specs.declared.values.Played.{Played}
use Rattle.play_runner.specs.Played.{IsPlayed}
use Rattle.batch_deals.specs.declared.service.Service.{Service}
use Rattle.batch_deals.specs.Dealt.{shares_of}
use Rattle.batch_deals.proofs.Deals.{dealt_hold}
use Rattle.batch_deals.proofs.Shallow.{shallow}
use Rattle.command_line.specs.declared.plan.Plan.{Plan}
use Rattle.mode_parts.specs.Reading.{AreBetween, Ascending, IsBetween}
use Rattle.mode_parts.specs.Planned.{IsServiceOf, head_of}
use Rattle.play_mode.specs.Playing.{IsPlayOf, IsRightPlay, PlaysAreAnswered, PlaysAreRight, play_in, play_report, play_setup, play_tail, played_lines, ranges_for, schedule_in}
use Rattle.play_mode.proofs.DealtLemmas.{ToldRight, told-dealt}
use Rattle.play_mode.proofs.PlayLines.{lines-right}
use Rattle.play_mode.proofs.PlayTurns.{ascending-turn, dealt-turn, play_turns}
use Rattle.play_mode.proofs.PlayTexts.{CallHasText, texts-ended, texts-pairs, texts-under-way}
use Rattle.play_mode.proofs.UnrefusedPlays.{NotRefused}

-- what follows where all went well
pub on_ok : {T E P Q : Type 0} (result : Result T E) → OnOk result P → (P → Q) → OnOk result Q
on_ok (Ok done) p make = make p
on_ok (Err failed) p make = tt

-- the keys of a capture's calls have texts
pub call-texts : (first last : ℕ) (calls : List (ℕ × Call)) → AreBetween first last calls → All CallHasText calls
call-texts first last calls between =
    All-weaker (IsBetween first last) CallHasText (λ (call : ℕ × Call) is. is.text) calls between.each

-- the lines of what a play comes to, one part after the other
pub lines-played :
    (seats : ℕ) (played : Played) (start ended under_way text : List ℕ) →
    ended ≡ start ++ flat_map (λ (one : ℕ × Outcome). outcome_line seats one.0 one.1) played.outcomes.items →
    under_way ≡ ended ++ flat_map (pending_line seats) played.pending.items →
    text ≡ under_way ++ order_lines played.order.items → text ≡ start ++ batch_lines seats (played_lines played)
unfolding batch_lines
lines-played seats played start ended under_way text a b c =
    let outcomes : List ℕ = flat_map (λ (one : ℕ × Outcome). outcome_line seats one.0 one.1) played.outcomes.items in
    let pending : List ℕ = flat_map (pending_line seats) played.pending.items in
    let order : List ℕ = order_lines played.order.items in
    c ∙ ap (λ (t : List ℕ). t ++ order) (b ∙ ap (λ (t : List ℕ). t ++ pending) a)
    ∙ append_assoc (start ++ outcomes) pending order ∙ append_assoc start outcomes (pending ++ order)

-- the whole text, one part after the other
pub report-played :
    (plan : Plan) (service : Service) (packets calls : ℕ) (played : Played) (ending : Ending)
    (none head lines sessions text : List ℕ) →
    none ≡ [] → head ≡ none ++ head_line (head_of true plan) →
    lines ≡ head ++ batch_lines plan.seats (played_lines played) →
    sessions ≡ lines ++ flat_map session_line played.pairs.items →
    text ≡ sessions ++ tail_lines (play_tail service packets calls played ending) →
    text ≡ report_of (play_report plan service packets calls played ending)
unfolding report_of
report-played plan service packets calls played ending none head lines sessions text a b c d e =
    let first : List ℕ = head_line (head_of true plan) in
    let batch : List ℕ = batch_lines plan.seats (played_lines played) in
    let pairs : List ℕ = flat_map session_line played.pairs.items in
    let tail : List ℕ = tail_lines (play_tail service packets calls played ending) in
    e ∙ ap (λ (t : List ℕ). t ++ tail) (d ∙ ap (λ (t : List ℕ). t ++ pairs) (c
    ∙ ap (λ (t : List ℕ). t ++ batch) (b ∙ ap (λ (t : List ℕ). t ++ first) a)))
    ∙ append_assoc (first ++ batch) pairs tail ∙ append_assoc first batch (pairs ++ tail)
    ∙ ap (λ (t : List ℕ). first ++ (t ++ (pairs ++ tail))) (sym (append-nil batch))

module _ (plan : Plan) (service : Service) (calls : List (ℕ × Call)) (played : Played)
    (comes : IsPlayed (play_setup service calls) (play_in plan service calls) played) where
  abbrev setup : Setup
  setup = play_setup service calls

  abbrev play : Play
  play = play_in plan service calls

  module _ (each : All CallHasText calls) where
    told : ToldRight CallHasText setup play
    told = told-dealt CallHasText setup (shares_of service calls) plan.stops (schedule_in plan)
        (dealt_hold CallHasText service.share service.settings.seats calls each)

    -- the calls that ended can be printed, those that are under way, and the pairs
    pub ended-texts : All (λ (ended : ℕ × Outcome). HasText (key_in (call_of ended.1))) played.outcomes.items
    ended-texts = texts-ended setup play played told comes

    pub under-way-texts : All (λ (begun : Pending). HasText (key_in begun.call)) played.pending.items
    under-way-texts = texts-under-way setup play played told comes

    pub pairs-texts : IsRightPlay setup play → SessionsAreAsked →
        All (λ (pair : Pair). HasText pair.key) played.pairs.items
    pairs-texts right asked = texts-pairs setup play played told comes right refl asked

  -- the depth of the directory is small
  pub depth-fits : IsRightPlay setup play → played.depth < 2 ^ 32
  depth-fits right =
      let deep : closed_depth setup.shape play.world.words ≤ service.settings.depth =
      subst (λ (world : World). closed_depth setup.shape world.words ≤ service.settings.depth) (sym right.comes)
      (shallow setup play.events right.run) in
      omega (arith, comes.depth, deep, service.settings.depth_in_range.1)

  -- the text is the report
  pub IsPlayOf-done :
      (packets : ℕ) (ending : Ending) (text : List ℕ) → PlaysAreRight → PlaysAreAnswered → IsServiceOf plan service →
      CanPlay setup (shares_of service calls) → Ascending calls → IsHead (head_of true plan) →
      IsTail (head_of true plan) (play_tail service packets (length calls) played ending) →
      text ≡ report_of (play_report plan service packets (length calls) played ending) →
      IsPlayOf plan packets calls ending text
  IsPlayOf-done packets ending text right answered asks can ascend head tail is =
      let shares : List (List (ℕ × Call)) = shares_of service calls in
      let play_right : IsRightPlay setup play = right setup shares plan.stops (schedule_in plan) can in
      record {
        service = service;
        played = played;
        asks = asks;
        right = play_right;
        comes_to = comes;
        lines = lines-right setup play played play_right comes
            (play_turns setup shares plan.stops can
            (dealt-turn service.share service.settings.seats calls (ascending-turn calls ascend)) (schedule_in plan));
        answered = λ none.
            All-permutation NotRefused _ played.outcomes.items comes.outcomes
            (answered setup (shares_of service calls) plan.stops (schedule_in plan) can
            (ap (λ (rows : Option SeatRows). ranges_for service.settings rows (shares_of service calls))
            (asks.rows ∙ none)));
        head = head;
        tail = tail;
        text_is = is;
      }
