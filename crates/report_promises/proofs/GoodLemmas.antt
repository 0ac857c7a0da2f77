-- The text of a good report is certified.
use Rattle.std.proofs.Common.{◌≡◌, ℕ, suc, ◌^◌, ◌<◌, ◌≤◌, List, [], ◌∷◌, ◌++◌, map, get_or, sym, ap, ◌∙◌, subst, arith}
use Rattle.std.specs.Prelude.{All, filter, flat_map}
use Rattle.std.specs.List.{AllByRecursion}
use Rattle.std.specs.FinMap.{empty}
use Rattle.std.proofs.lemmas.List.Elements.{All-append, All-filter, All-from_recursion, All-map, All-weaker, recursion_from_All}
use Rattle.std.proofs.lemmas.List.Sorted.{All-permutation}
use Rattle.plain_map.specs.declared.calls.Call.{Call}
use Rattle.plain_map.specs.declared.records.Record.{Record}
use Rattle.plain_map.specs.declared.records.Pending.{Pending}
use Rattle.plain_map.specs.PlainObject.{pairs_of}
use Rattle.plain_map.specs.History.{Placed, answered, pending as waiting, After, Legal, number_of, packet_of, sessions_after}
use Rattle.plain_map.proofs.AskedLemmas.{All-unmap}
use Rattle.trace_share.specs.declared.outcome.Outcome.{Outcome}
use Rattle.trace_share.specs.declared.outcome.Outcome.TheVariants.{Answered, Refused}
use Rattle.trace_share.specs.Outcomes.{asked_in, record_in}
use Rattle.key_texts.specs.declared.rules.CallRule.{CallRule}
use Rattle.report_text.specs.declared.parts.Head.{Head}
use Rattle.report_text.specs.Report.{Report, report_of}
use Rattle.report_told.specs.Told.{Told}
use Rattle.report_told.specs.Rules.{AreSessions, IsInGrammar, times}
use Rattle.plain_map.specs.Calls.{is_update}
use Rattle.report_told.specs.Points.{IsRight, IsShortEnough, IsWhole, answered_packets, answers_of, calls_told, effect_packets, order_told, pending_told, placed_told, records_told, rules_told, standing}
use Rattle.report_told.specs.Verdicts.{Certified}
use Rattle.report_promises.specs.Good.{GoodIsCertified, HasBegun, HasEnded, IsFitting, IsGood, answered_on, begun_in, calls_ended, ended_in, packets_in}
use Rattle.report_promises.proofs.ToldOf.{begun, placed_as, plain, told_of}
use Rattle.report_promises.proofs.TextLemmas.{CanBeTold, HasCounts, text_told}
use Rattle.report_promises.proofs.NumberLemmas.{answers_are, records_are, waits_are}
use Rattle.report_promises.proofs.HeldLemmas.{CanBeAsked, HasToldReply, IsToldReply, order_told as order_replies}
use Rattle.report_promises.proofs.PlacedLemmas.{after_told, calls_of, legal_told, order_as, sessions_told, with_packet}
use Rattle.report_promises.proofs.SeenLemmas.{HasSeenFew, all_seen_few, few_answered, of_answered, order_few, seen_told}
use Rattle.report_promises.proofs.WholeLemmas.{begun_updates, calls_once, plain_packets, record_packets, stands_so, waiting_packets}
use Rattle.report_promises.proofs.GrammarLemmas.{IsLine, IsWait, entries_told, order_is}

-- ---- from lines to the calls on them, and back

-- what holds of what was asked on lines holds of their answered calls
asked_on : (P : ℕ × Call → Type 0) (lines : List (ℕ × Outcome)) → AllByRecursion P (calls_ended lines) →
    AllByRecursion (λ (r : Record). P (r.packet, r.call)) (answered_on lines)
asked_on P [] all = tt
asked_on P ((seat, Answered r) ∷ lines) all = (all.0, asked_on P lines all.1)
asked_on P ((seat, Refused packet asked full) ∷ lines) all = asked_on P lines all.1

-- what is known of a line
record IsKnown (head : Head) (line : ℕ × Outcome) : Type 0 where
  fits : IsLine head line
  -- what the text tells
  told : CanBeTold head.seats line.1

-- what is known of an answered call
record IsKnownAnswer (r : Record) : Type 0 where
  reply : IsToldReply r.packet r.call r.reply
  seen : HasSeenFew (answered r)

-- an answered call of which this is known, or a refused one, is told on a line that may stand so
one_known : (head : Head) (line : ℕ × Outcome) → head.seats ≤ 8 → IsFitting head.calls (asked_in line.1) →
    line.0 < head.seats →
    HasEnded head line.1 → AllByRecursion IsKnownAnswer (record_in line.1) → IsKnown head line
one_known head (seat, Answered r) few fits inside ended answers = record {
  fits = (
    record {
      packet_fits = fits.packet;
      seat_is = inside;
      flow = fits.flow;
      rule = fits.rule_is;
      value = fits.value;
      amount = fits.amount;
    },
    (
      answers.0.reply.fits,
      ended.0,
      seen_told head.seats r.seen ended.1 (λ s within. answers.0.seen s (omega (arith, few, within))),
    ),
  );
  told = (answers.0.reply.tells, ended.1);
}
one_known head (seat, Refused packet asked full) few fits inside ended answers = record {
  fits = (
    record {
      packet_fits = fits.packet;
      seat_is = inside;
      flow = fits.flow;
      rule = fits.rule_is;
      value = fits.value;
      amount = fits.amount;
    },
    ended,
  );
  told = tt;
}

-- the records of a line, and of those behind it
answers_parted : (P : Record → Type 0) (outcome : Outcome) (later : List Record) →
    AllByRecursion P (record_in outcome ++ later) → AllByRecursion P (record_in outcome) × AllByRecursion P later
answers_parted P (Answered r) later all = ((all.0, tt), all.1)
answers_parted P (Refused packet asked full) later all = (tt, all)

-- so are all calls that ended
all_known : (head : Head) (lines : List (ℕ × Outcome)) → head.seats ≤ 8 →
    AllByRecursion (IsFitting head.calls) (calls_ended lines) →
    AllByRecursion (λ (line : ℕ × Outcome). line.0 < head.seats) lines →
    AllByRecursion (λ (line : ℕ × Outcome). HasEnded head line.1) lines →
    AllByRecursion IsKnownAnswer (answered_on lines) → AllByRecursion (IsKnown head) lines
all_known head [] few fits seats ended answers = tt
all_known head (line ∷ lines) few fits seats ended answers =
    let both = answers_parted IsKnownAnswer line.1 (answered_on lines) answers in (
      one_known head line few fits.0 seats.0 ended.0 both.0,
      all_known head lines few fits.1 seats.1 ended.1 both.1,
    )

-- what is known of each is known of each part
lines_of : (head : Head) (lines : List (ℕ × Outcome)) → AllByRecursion (IsKnown head) lines →
    AllByRecursion (IsLine head) lines × AllByRecursion (λ (line : ℕ × Outcome). CanBeTold head.seats line.1) lines
lines_of head [] all = (tt, tt)
lines_of head (line ∷ lines) all =
    let later = lines_of head lines all.1 in
    ((all.0.fits, later.0), (all.0.told, later.1))

-- what is known of answered calls, put together
both_known : (rs : List Record) → AllByRecursion (λ (r : Record). HasToldReply (answered r)) rs →
    AllByRecursion (λ (r : Record). HasSeenFew (answered r)) rs → AllByRecursion IsKnownAnswer rs
both_known [] replies seen = tt
both_known (r ∷ rs) replies seen =
    (record { reply = replies.0; seen = seen.0 }, both_known rs replies.1 seen.1)

-- ---- a good report

module _ (report : Report) (all : List Placed) (good : IsGood report all) where
  -- how many seats there are
  abbrev seats : ℕ
  seats = report.head.seats

  -- which calls packets make
  abbrev rule : CallRule
  rule = report.head.calls

  -- the calls that ended, with their seats
  abbrev lines : List (ℕ × Outcome)
  lines = ended_in report

  -- the calls under way
  abbrev us : List Pending
  us = begun_in report

  -- those that took effect
  abbrev effects : List Pending
  effects = filter good.took us

  abbrev told : Told
  told = told_of report

  -- there are eight seats at most
  few_seats : seats ≤ 8
  few_seats = good.head.settings.seats_in_range.1

  -- each call of the order can be told
  asked : AllByRecursion (CanBeAsked rule) all
  asked =
      recursion_from_All (CanBeAsked rule) all
      (All-permutation (CanBeAsked rule) (map answered (answered_on lines) ++ map waiting effects) all good.whole
      (All-append (CanBeAsked rule) (map answered (answered_on lines)) (map waiting effects)
      (All-map (CanBeAsked rule) answered (answered_on lines)
      (All-from_recursion (λ (r : Record). IsFitting rule (r.packet, r.call)) (answered_on lines)
      (asked_on (IsFitting rule) lines (recursion_from_All (IsFitting rule) (calls_ended lines) good.asked))))
      (All-map (CanBeAsked rule) waiting effects
      (All-filter good.took (λ (u : Pending). IsFitting rule (u.packet, u.call)) us
      (All-unmap (IsFitting rule) (λ (u : Pending). (u.packet, u.call)) us good.under_way)))))

  -- each reply can be told, and so can each session that is left
  replies : AllByRecursion HasToldReply all
      × AreSessions (pairs_of (sessions_after (rules_told report.head) empty all))
  replies = order_replies rule (rules_told report.head) all asked good.legal

  -- numbers fit
  next_few : (u : Pending) → HasBegun report u → u.number < 2 ^ 32
  next_few u is = omega (arith, is.number, few_answered u.seat lines, good.few)

  -- the numbers in the order fit
  numbers : All (λ (p : Placed). number_of p < 2 ^ 32) all
  numbers =
      order_few lines effects all good.numbered good.few
      (All-filter good.took (λ (u : Pending). u.number < 2 ^ 32) us
      (All-weaker (HasBegun report) (λ (u : Pending). u.number < 2 ^ 32) next_few us good.begun)) good.whole

  -- so do the counts that answered calls had seen
  answers : AllByRecursion IsKnownAnswer (answered_on lines)
  answers =
      both_known (answered_on lines)
      (of_answered HasToldReply (answered_on lines) effects all good.whole
      (All-from_recursion HasToldReply all replies.0))
      (of_answered HasSeenFew (answered_on lines) effects all good.whole (all_seen_few all good.after numbers))

  -- each line of a call that ended may stand so
  known : AllByRecursion (IsLine report.head) lines
      × AllByRecursion (λ (line : ℕ × Outcome). CanBeTold seats line.1) lines
  known =
      lines_of report.head lines
      (all_known report.head lines few_seats (recursion_from_All (IsFitting rule) (calls_ended lines) good.asked)
      (recursion_from_All (λ (line : ℕ × Outcome). line.0 < seats) lines good.seats)
      (recursion_from_All (λ (line : ℕ × Outcome). HasEnded report.head line.1) lines good.ended) answers)

  -- calls under way
  wait_known : (u : Pending) → HasBegun report u → IsFitting rule (u.packet, u.call) → IsWait report.head u
  wait_known u is fits = (
    is.play,
    record {
      packet_fits = fits.packet;
      seat_is = is.seat;
      flow = fits.flow;
      rule = fits.rule_is;
      value = fits.value;
      amount = fits.amount;
    },
    seen_told seats u.seen is.long (λ s within. is.fit s 0 (omega (arith, within, is.long))),
  )

  -- each line of a call under way may stand so
  waits_known : AllByRecursion (IsWait report.head) us
  waits_known =
      recursion_from_All (IsWait report.head) us
      (λ k d inside. wait_known (get_or us k d) (good.begun k d inside)
      (All-unmap (IsFitting rule) (λ (u : Pending). (u.packet, u.call)) us good.under_way k d inside))

  -- and has a count for each seat
  waits_long : AllByRecursion (HasCounts seats) us
  waits_long = recursion_from_All (HasCounts seats) us
      (All-weaker (HasBegun report) (HasCounts seats) (λ u is. is.long) us good.begun)

  -- the packets of the order
  packets_few : AllByRecursion (λ packet. packet < 2 ^ 32) (packets_in report)
  packets_few =
      subst (AllByRecursion (λ packet. packet < 2 ^ 32)) (sym good.order)
      (recursion_from_All (λ packet. packet < 2 ^ 32) (map packet_of all)
      (All-map (λ packet. packet < 2 ^ 32) packet_of all
      (All-weaker (CanBeAsked rule) (λ (p : Placed). packet_of p < 2 ^ 32) (λ p fits. fits.packet) all
      (All-from_recursion (CanBeAsked rule) all asked))))

  -- the report is in the grammar
  in_grammar : IsInGrammar told
  in_grammar = record {
    head = good.head;
    entries = entries_told report known.0 waits_known packets_few good.rise good.apart;
    sessions = subst AreSessions (sym good.sessions) replies.1;
    tail = good.tail;
  }

  -- ---- the order

  -- no packet is of two calls
  once : (packet : ℕ) → times packet (map packet_of (calls_of (answered_on lines) us)) ≤ 1
  once = calls_once lines us good.rise good.apart

  -- the answered calls are told
  records : records_told told ≡ map (plain seats) (answered_on lines)
  records = records_are report good.numbered

  -- a call under way is its seat's next among the lines
  abbrev IsNext : Pending → Type 0
  IsNext u = u.number ≡ suc (answers_of u.seat told.entries)

  -- and so it is
  is_next : (u : Pending) → HasBegun report u → IsNext u
  is_next u is = omega (arith, is.number, answers_are report good.numbered u.seat)

  -- the calls under way are told
  waits : pending_told told ≡ map (begun seats) us
  waits =
      waits_are report
      (recursion_from_All IsNext us (All-weaker (HasBegun report) IsNext is_next us good.begun))

  -- the packets of the order are told
  order : order_told told ≡ map packet_of all
  order = order_is report ∙ good.order

  -- and so is the order of the calls
  placed : placed_told told ≡ map (placed_as seats) all
  placed =
      ap (flat_map (with_packet (calls_told told))) order
      ∙ ap (λ (rs : List Record). flat_map (with_packet (map answered rs ++ map waiting (pending_told told)))
      (map packet_of all)) records
      ∙ ap (λ (vs : List Pending). flat_map (with_packet (map answered (map (plain seats) (answered_on lines))
      ++ map waiting vs)) (map packet_of all)) waits
      ∙ order_as seats (answered_on lines) us good.took all once good.whole

  -- ---- the points

  -- each packet stands in it as often as it must
  whole : IsWhole told
  whole packet =
      let so = stands_so (answered_on lines) us good.took all good.updates good.whole packet (once packet) in
      let stands : standing told packet ≡ times packet (map packet_of all) = ap (times packet) order in
      let answered_are : times packet (answered_packets told) ≡ times packet (record_packets (answered_on lines)) =
      ap (λ (rs : List Record). times packet (record_packets rs)) records
      ∙ ap (times packet) (plain_packets seats (answered_on lines)) in
      let effects_are : times packet (effect_packets told)
      ≡ times packet (waiting_packets (filter (λ u. is_update u.call) us)) =
      ap (λ (vs : List Pending). times packet (waiting_packets (filter (λ u. is_update u.call) vs))) waits
      ∙ ap (times packet) (begun_updates seats us) in
      record {
        once = λ some. stands ∙ so.once (omega (arith, some, answered_are));
        at_most = λ some. omega (arith, stands, so.at_most);
        known = λ some. omega (arith, some, stands, answered_are, effects_are, so.known);
      }

  -- the report is right
  right : IsRight told
  right = record {
    whole = whole;
    after = subst After (sym placed) (after_told seats all good.after);
    legal = subst (Legal (rules_told report.head) empty) (sym placed)
        (legal_told seats (rules_told report.head) empty all good.legal);
    sessions =
        good.sessions
        ∙ ap pairs_of (sym (ap (sessions_after (rules_told report.head) empty) placed
        ∙ sessions_told seats (rules_told report.head) empty all));
    steps = subst (All (IsShortEnough report.tail.bound)) (sym records)
        (All-map (IsShortEnough report.tail.bound) (plain seats) (answered_on lines) good.steps);
  }

  -- so its text is certified
  certified : Certified (report_of report)
  certified = (told, record { text_is = text_told report known.1 waits_long; in_grammar = in_grammar }, right)

-- the text of a good report is certified
pub good_is_certified : GoodIsCertified
good_is_certified = certified
