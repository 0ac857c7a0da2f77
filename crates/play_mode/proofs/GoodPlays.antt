-- The report of a play is good: its lines tell of the play's one order.
use Rattle.std.proofs.Common.{append-nil, ◌≡◌, ◌≤◌, ◌<◌, ℕ, ◌+◌, List, [], ◌∷◌, true, false, length, map, Option, refl, sym, ap, ◌∙◌, subst, arith, All}
use Rattle.std.specs.Prelude.{filter, flat_map, IsPermutation}
use Rattle.std.specs.FinMap.{empty}
use Rattle.std.specs.List.Sorted.{IsNonDecreasingBy}
use Rattle.std.proofs.lemmas.Bool.{and_parts}
use Rattle.std.proofs.lemmas.List.Elements.{All-map, All-weaker}
use Rattle.std.proofs.lemmas.List.Sorted.{All-permutation, IsNonDecreasingBy-from_sort}
use Rattle.step_counts.specs.StepCounts.{step_bound}
use Rattle.plain_map.specs.declared.calls.Call.{Call}
use Rattle.plain_map.specs.declared.keys.Pair.{Pair}
use Rattle.plain_map.specs.declared.records.CallId.{CallId}
use Rattle.plain_map.specs.declared.records.Pending.{Pending}
use Rattle.plain_map.specs.declared.records.Record.{Record}
use Rattle.plain_map.specs.declared.rules.Rules.{Rules}
use Rattle.plain_map.specs.PlainObject.{pairs_of}
use Rattle.plain_map.specs.History.{Legal, Placed, Whole, ids_of, packet_of, sessions_after}
use Rattle.trace_share.specs.declared.outcome.Outcome.{Outcome}
use Rattle.trace_share.specs.Outcomes.{asked_in}
use Rattle.table_model.specs.Setup.{Setup, rules_of, settings_of}
use Rattle.table_model.specs.Worlds.{World}
use Rattle.table_model.specs.Order.{order_of, took_effect}
use Rattle.table_model.specs.Closed.{begun_of, closed_pairs, closing_of, sessions_with}
use Rattle.table_model.specs.Promises.{HasSteps}
use Rattle.table_model.specs.Schedules.{Play, Segment, play_of}
use Rattle.order_laws.proofs.Reopens.{sorted_pairs_are_held}
use Rattle.report_text.specs.Report.{Report}
use Rattle.report_told.specs.Points.{IsShortEnough, rules_told}
use Rattle.report_told.specs.Rules.{IsHead, IsSettingsOf, IsTail, Rise, times}
use Rattle.plain_map.specs.Calls.{is_update}
use Rattle.report_promises.specs.Good.{AreCountedBySeat, HasBegun, HasEnded, IsFitting, IsGood, answered_on, begun_in, calls_begun, calls_ended, ended_in, packets_in}
use Rattle.capture_faults.specs.declared.ending.Ending.{Ending}
use Rattle.command_line.specs.declared.plan.Plan.{Plan}
use Rattle.batch_deals.specs.declared.service.Service.{Service}
use Rattle.batch_deals.specs.Dealt.{shares_of}
use Rattle.batch_deals.proofs.Deals.{dealt_hold}
use Rattle.trace_share.proofs.OnceLemmas.{deals_each_once}
use Rattle.mode_parts.specs.declared.calling.Calling.{Calling}
use Rattle.mode_parts.specs.Callings.{calling_of}
use Rattle.mode_parts.specs.Planned.{head_of}
use Rattle.mode_parts.specs.PacketCalls.{MakeCalls}
use Rattle.play_runner.specs.declared.values.Played.{Played}
use Rattle.play_runner.specs.Played.{IsPlayed, most_steps_in, outcomes_of, packet_in}
use Rattle.play_mode.specs.Playing.{HasRightLines, IsPlayOf, IsRightPlay, play_in, play_limit, play_report, play_setup, play_tail, schedule_in}
use Rattle.play_mode.proofs.DealtLemmas.{told-dealt}
use Rattle.mode_parts.proofs.GoodCalls.{calls_few}
use Rattle.play_mode.proofs.PlayEnds.{lines_begun, lines_ended, lines_seats}
use Rattle.play_mode.proofs.PlayPackets.{few_lines, lines_apart, lines_rise}

-- the names of calls have their packets
ids_packets : (order : List Placed) → map (λ (id : CallId). id.packet) (ids_of order) ≡ map packet_of order
ids_packets [] = refl
ids_packets (placed ∷ order) = ap (λ (packets : List ℕ). packet_of placed ∷ packets) (ids_packets order)

-- the report tells what a play on this table came to
pub record TellsPlay (setup : Setup) (played : Played) (report : Report) : Type 0 where
  pub ended : ended_in report ≡ played.outcomes.items
  pub begun : begun_in report ≡ played.pending.items
  pub order : packets_in report ≡ map (λ id. id.packet) played.order.items
  pub pairs : report.pairs ≡ played.pairs.items
  pub play : report.head.play ≡ true
  pub settings : IsSettingsOf report.head (settings_of setup)
  pub hashing : setup.hashing ≡ report.head.hashing
  pub update : report.tail.update ≡ most_steps_in true played.outcomes.items
  pub lookup : report.tail.lookup ≡ most_steps_in false played.outcomes.items
  pub bound : report.tail.bound ≡ step_bound (settings_of setup)

module _ (setup : Setup) (shares : List (List (ℕ × Call))) (stops : List (Option ℕ)) (schedule : List Segment)
    (played : Played) (report : Report) where
  -- the play, and its one order
  abbrev play : Play
  play = play_of setup shares stops schedule

  abbrev all : List Placed
  all = order_of setup.shape (closing_of (play_of setup shares stops schedule).world)

  module _ (right : IsRightPlay setup (play_of setup shares stops schedule))
      (comes : IsPlayed setup (play_of setup shares stops schedule) played)
      (told : HasRightLines setup (play_of setup shares stops schedule) played)
      (tells : TellsPlay setup played report) (first : setup.first ≡ []) where
    abbrev lines : List (ℕ × Outcome)
    lines = played.outcomes.items

    -- the rules are those of the head
    rules_are : rules_of setup ≡ rules_told report.head
    rules_are = λ i. record {
      items = tells.settings.items_are i;
      depth = tells.settings.depth_is i;
      hashing = tells.hashing i;
    }

    -- so the order is legal by the head's rules
    good_legal : Legal (rules_told report.head) empty all
    good_legal =
        subst (λ (rules : Rules). Legal rules empty all) rules_are
        (subst (λ (pairs : List Pair). Legal (rules_of setup) (sessions_with (rules_of setup) pairs) all) first
        right.right.legal)

    -- and leaves the report's pairs
    good_sessions : report.pairs ≡ pairs_of (sessions_after (rules_told report.head) empty all)
    good_sessions =
        tells.pairs
        ∙ sorted_pairs_are_held setup play.events played.pairs.items right.run
        (subst (λ (w : World). IsPermutation (closed_pairs setup.shape w.words) played.pairs.items) right.comes
        comes.pairs) comes.sorted
        ∙ ap (λ (w : World). pairs_of (sessions_after (rules_of setup) (sessions_with (rules_of setup) setup.first)
        (order_of setup.shape (closing_of w)))) (sym right.comes)
        ∙ ap (λ (pairs : List Pair). pairs_of (sessions_after (rules_of setup) (sessions_with (rules_of setup) pairs)
        all)) first
        ∙ ap (λ (rules : Rules). pairs_of (sessions_after rules empty all)) rules_are

    -- no update takes more steps than the bound
    good_steps : All (IsShortEnough report.tail.bound) (answered_on lines)
    good_steps =
        All-weaker (HasSteps setup play.world.words) (IsShortEnough report.tail.bound)
        (λ (r : Record) has update. subst (λ (bound : ℕ). r.steps ≤ bound) (sym tells.bound)
        (has.0 update)) (answered_on lines) told.steps

    -- what takes effect is an update
    took_updates : (u : Pending) → took_effect setup.shape play.world.words u ≡ true → is_update u.call ≡ true
    took_updates u took = (and_parts (is_update u.call) _ took).0

    module _ (fit : All (All (IsFitting report.head.calls)) shares) (calls : List (ℕ × Call))
        (dealt : IsPermutation (flat_map (λ own. own) shares) calls) (calling : Calling) (packets : List (List ℕ))
        (makes : MakeCalls calling 1 packets calls) (few : length packets ≤ 200) where
      few_all : length lines ≤ 200
      few_all = omega (
        arith,
        few,
        calls_few calling 1 packets calls makes,
        few_lines setup shares stops schedule right.run right.comes calls dealt lines comes.outcomes
            played.pending.items comes.pending,
      )

      -- what was asked on each line can be told
      good_asked : All (IsFitting report.head.calls) (calls_ended lines)
      good_asked =
          All-map (IsFitting report.head.calls) (λ (line : ℕ × Outcome). asked_in line.1) lines
          (All-permutation (λ (line : ℕ × Outcome). IsFitting report.head.calls (asked_in line.1))
          (outcomes_of setup play.events) lines
          comes.outcomes (told-dealt (IsFitting report.head.calls) setup shares stops schedule fit).ended)

      -- also of calls under way
      good_under_way : All (IsFitting report.head.calls) (calls_begun played.pending.items)
      good_under_way =
          All-map (IsFitting report.head.calls) (λ (u : Pending). (u.packet, u.call)) played.pending.items
          (subst (All (λ (u : Pending). IsFitting report.head.calls (u.packet, u.call))) (sym comes.pending)
          (told-dealt (IsFitting report.head.calls) setup shares stops schedule fit).under_way)

      -- the calls that ended rise by packet
      good_rise : IsNonDecreasingBy packet_in lines → Rise (map (λ asked. asked.0) (calls_ended lines))
      good_rise = lines_rise setup shares stops schedule right.run right.comes calls dealt lines comes.outcomes
          played.pending.items comes.pending calling packets makes

      -- and none is of a packet of a call under way
      good_apart : (ended : List (ℕ × Outcome)) (begun : List Pending) → ended ≡ lines →
          begun ≡ played.pending.items → (packet : ℕ) → 1 ≤ times packet (map (λ u. u.packet) begun) →
          times packet (map (λ asked. asked.0) (calls_ended ended)) + times packet (map (λ u. u.packet) begun) ≤ 1
      good_apart ended begun one other packet some =
          let begun_same : times packet (map (λ (u : Pending). u.packet) begun)
          ≡ times packet (map (λ (u : Pending). u.packet) played.pending.items) =
          ap (λ (us : List Pending). times packet (map (λ (u : Pending). u.packet) us)) other in
          omega (
            arith,
            begun_same,
            ap (λ (ls : List (ℕ × Outcome)). times packet (map (λ (asked : ℕ × Call). asked.0) (calls_ended ls))) one,
            lines_apart setup shares stops schedule right.run right.comes calls dealt lines comes.outcomes
                played.pending.items comes.pending calling packets makes packet (omega (arith, some, begun_same)),
          )

      -- each call of the lines that is in the order is there once
      good_whole : (ended : List (ℕ × Outcome)) (begun : List Pending) → ended ≡ lines →
          begun ≡ played.pending.items →
          Whole (answered_on ended) (filter (took_effect setup.shape play.world.words) begun) all
      good_whole ended begun one other =
          subst (λ (us : List Pending). Whole (answered_on ended)
          (filter (took_effect setup.shape play.world.words) us) all) (sym other)
          (subst (λ (ls : List (ℕ × Outcome)). Whole (answered_on ls)
          (filter (took_effect setup.shape play.world.words) played.pending.items) all) (sym one) told.whole)

      -- so the report is good
      pub good_play : IsHead report.head → IsTail report.head report.tail → IsGood report all
      good_play head tail = record {
        head = head;
        tail = tail;
        asked = subst (λ (ls : List (ℕ × Outcome)). All (IsFitting report.head.calls) (calls_ended ls))
            (sym tells.ended) good_asked;
        seats = subst (All (λ line. line.0 < report.head.seats)) (sym tells.ended)
            (lines_seats setup play.events right.run report.head tells.settings lines comes.outcomes);
        ended = subst (All (λ (line : ℕ × Outcome). HasEnded report.head line.1)) (sym tells.ended)
            (lines_ended setup play.events right.run report.head tells.settings lines comes.outcomes
            head.settings.seats_in_range.1 (omega (arith, tail.update, tells.update))
            (omega (arith, tail.lookup, tells.lookup)));
        few = omega (arith, few_all, ap length tells.ended);
        under_way = subst (λ (us : List Pending). All (IsFitting report.head.calls) (calls_begun us))
            (sym tells.begun) good_under_way;
        begun = subst (All (HasBegun report))
            (ap begun_of (sym right.comes) ∙ sym comes.pending ∙ sym tells.begun)
            (lines_begun setup play.events right.run report.head tells.settings lines comes.outcomes report refl
            tells.play tells.ended head.settings.seats_in_range.1 (omega (arith, few_all)));
        rise = subst (λ (ls : List (ℕ × Outcome)). Rise (map (λ asked. asked.0) (calls_ended ls))) (sym tells.ended)
            (good_rise (IsNonDecreasingBy-from_sort packet_in lines comes.in_order));
        apart = good_apart (ended_in report) (begun_in report) tells.ended tells.begun;
        numbered = subst AreCountedBySeat (sym tells.ended) told.numbered;
        took = took_effect setup.shape play.world.words;
        updates = took_updates;
        whole = good_whole (ended_in report) (begun_in report) tells.ended tells.begun;
        order = tells.order ∙ ap (map (λ id. id.packet)) comes.order ∙ ids_packets all;
        after = right.right.after;
        legal = good_legal;
        sessions = good_sessions;
        steps = subst (λ (ls : List (ℕ × Outcome)). All (IsShortEnough report.tail.bound) (answered_on ls))
            (sym tells.ended) good_steps;
      }

-- the report that `play` puts is good, by the play's one order
pub play_is_good : (plan : Plan) (packets : List (List ℕ)) (calls : List (ℕ × Call)) (ending : Ending) (text : List ℕ)
    (p : IsPlayOf plan (length packets) calls ending text) → MakeCalls (calling_of plan) 1 packets calls →
    length packets ≤ play_limit →
    All (IsFitting plan.calls) calls → IsHead (head_of true plan) →
    IsTail (head_of true plan) (play_tail p.service (length packets) (length calls) p.played ending) →
    IsGood (play_report plan p.service (length packets) (length calls) p.played ending)
    (order_of (play_setup p.service calls).shape (closing_of (play_in plan p.service calls).world))
play_is_good plan packets calls ending text p makes few fitting head tail =
    let service : Service = p.service in
    let report : Report = play_report plan service (length packets) (length calls) p.played ending in
    let tells : TellsPlay (play_setup service calls) p.played report = record {
      ended = append-nil p.played.outcomes.items;
      begun = append-nil p.played.pending.items;
      order = ap (map (λ (id : CallId). id.packet)) (append-nil p.played.order.items);
      pairs = refl;
      play = refl;
      settings = p.asks.settings;
      hashing = p.asks.hashing;
      update = refl;
      lookup = refl;
      bound = refl;
    } in
    let seats : 0 < service.settings.seats =
    omega (arith, head.settings.seats_in_range.0, p.asks.settings.seats_are) in
    good_play (play_setup service calls) (shares_of service calls) plan.stops (schedule_in plan) p.played report p.right
    p.comes_to p.lines tells refl
    (dealt_hold (IsFitting plan.calls) service.share service.settings.seats calls fitting) calls
    (deals_each_once service.share service.settings.seats calls seats) (calling_of plan) packets makes few head tail
