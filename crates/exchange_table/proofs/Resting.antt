-- A seat that copies one bucket after the other, and what that comes to between two meetings.
use Rattle.std.proofs.Common.{◌≡◌, inl, inr, ℕ, zero, suc, ◌+◌, ◌<◌, ◌≤◌, List, [], ◌∷◌, ◌++◌, length, get_or, set, refl, sym, ap, ◌∙◌, subst, arith, append_assoc, append-nil}
use Rattle.std.specs.Prelude.{All, flat_map, map}
use Rattle.std.specs.List.{range_with_len}
use Rattle.std.proofs.lemmas.Bool.{cases_eq}
use Rattle.std.proofs.lemmas.Grind.{flat_map-append}
use Rattle.std.proofs.lemmas.List.{length-append, map-append}
use Rattle.std.proofs.lemmas.List.Elements.{All-head, All-tail}
use Rattle.plain_map.specs.declared.keys.Pair.{Pair}
use Rattle.plain_map.specs.PlainObject.{InRange}
use Rattle.exchange_model.specs.Plans.{IsPlan, Plan, buckets_of, rules_of}
use Rattle.exchange_model.specs.Steps.{Idle, SeatNow}
use Rattle.exchange_model.specs.Goes.{Copied}
use Rattle.exchange_model.specs.Worlds.{Answer, Asker, BySeat, Event, IsRun, seat_in, world_after}
use Rattle.exchange_table.specs.Parties.{Holding, PartyValue, answers_by, own_answers, party}
use Rattle.exchange_table.specs.Joins.{ComesTo, knowing}
use Rattle.exchange_table.specs.Values.{IsSame, TableValue, answered_updates}
use Rattle.exchange_table.specs.Meetings.{AreSeatsFrom, AreSeatsOf, HaveMet, informed}
use Rattle.exchange_table.specs.Rests.{AreCopies, BucketCopy, HasCopied, HasCopiedOne, HaveRested, IsCopy, answers_of, pairs_of}
use Rattle.exchange_model.specs.Laws.{pairs_in}
use Rattle.exchange_laws.proofs.TiedRuns.{updates_are_ordered}
use Rattle.exchange_table.proofs.Events.{own_stays}
use Rattle.exchange_table.proofs.AllPairs.{all_told}

-- what a table is opened with is in the ranges of the plain map
ranges : {plan : Plan} → IsPlan plan → InRange (rules_of plan)
ranges o = record { some_room = o.some_room; items = o.items; depth = o.depth }

-- ---- one copy after the other

pub copied_none : (p : PartyValue) → HasCopied 0 p p []
copied_none p = record {
  later = [];
  grown = sym (append-nil p.holding.known);
  copies = [];
  many = refl;
  each = tt;
  own = sym (append-nil (own_answers p.holding));
  pairs_are = refl;
  updates = refl;
}

more_copies : (who : Asker) (start bucket : ℕ) (copies : List BucketCopy) (copy : BucketCopy) →
    AreCopies who start bucket copies → IsCopy who start (bucket + length copies) copy →
    AreCopies who start bucket (copies ++ copy ∷ [])
more_copies who start bucket [] copy are is =
    (subst (λ b. IsCopy who start b copy) (let none : bucket + 0 ≡ bucket = omega arith in none) is, tt)
more_copies who start bucket (c ∷ copies) copy are is = (
  are.0,
  more_copies who start (suc bucket) copies copy are.1
      (subst (λ b. IsCopy who start b copy)
      (let same : bucket + suc (length copies) ≡ suc bucket + length copies = omega arith in same) is),
)

pub copied_more : (count : ℕ) (was now then : PartyValue) (pairs after : List Pair) → HasCopied count was now pairs →
    IsSame was now → HasCopiedOne count now then pairs after → IsSame now then →
    answered_updates then ≡ answered_updates now → HasCopied (count + 1) was then after
copied_more count was now then pairs after copied same one same_then updates =
    let a = one.answers in
    let copy : BucketCopy = record { answer = a.answer; pairs = one.told } in
    record {
      later = copied.later ++ a.later;
      grown = a.grown ∙ ap (λ (es : List Event). es ++ a.later) copied.grown
          ∙ append_assoc was.holding.known copied.later a.later;
      copies = copied.copies ++ copy ∷ [];
      many = length-append copied.copies (copy ∷ []) ∙ ap (λ n. n + 1) copied.many;
      each = more_copies was.holding.who (length was.holding.known) 0 copied.copies copy copied.each (record {
        by = a.by ∙ same_then.who ∙ same.who;
        asks = a.asks ∙ ap Copied (let at : count ≡ 0 + length copied.copies = (let many = copied.many in
            omega (arith, many)) in at);
        tells = a.tells;
        after =
            (let long = ap (λ (es : List Event). length es) copied.grown
            ∙ length-append was.holding.known copied.later in
            let far = a.after in omega (arith, long, far));
      });
      own = a.own ∙ ap (λ (as_now : List Answer). as_now ++ a.answer ∷ []) copied.own
          ∙ append_assoc (own_answers was.holding) (answers_of copied.copies) (a.answer ∷ [])
          ∙ ap (λ (more : List Answer). own_answers was.holding ++ more)
          (sym (map-append (λ (c : BucketCopy). c.answer) copied.copies (copy ∷ [])));
      pairs_are = one.pairs_are ∙ ap (λ (ps : List Pair). ps ++ one.told) copied.pairs_are
          ∙ ap (λ (ps : List Pair). pairs_of copied.copies ++ ps) (sym (append-nil one.told))
          ∙ sym (flat_map-append (λ (c : BucketCopy). c.pairs) copied.copies (copy ∷ []));
      updates = updates ∙ copied.updates;
    }

-- ---- between two meetings

-- what a party is told stays, while others go on
own_still : (known : List Event) (h : Holding) → ComesTo known h →
    answers_by h.who (world_after h.plan known).answers ≡ own_answers h
own_still known h comes =
    subst (λ (es : List Event). answers_by h.who (world_after h.plan es).answers ≡ own_answers h) (sym comes.grown)
    (own_stays h.plan h.who h.known comes.later (subst (IsRun h.plan) comes.grown comes.run) comes.none)

-- a seat that took no step meanwhile is as it was, and has the same answers
record IsStill (plan : Plan) (first last : List Event) (seat : ℕ) : Type 0 where
  state : seat_in (world_after plan last) seat ≡ seat_in (world_after plan first) seat
  own : answers_by (BySeat seat) (world_after plan last).answers
      ≡ answers_by (BySeat seat) (world_after plan first).answers

still_from : (t : TableValue) (first last : List Event) (k : ℕ) (ps : List PartyValue) → AreSeatsFrom t k ps →
    All (λ (p : PartyValue). ComesTo last p.holding) (map (informed first) ps) → (seat : ℕ) → k ≤ seat →
    seat < k + length ps → IsStill t.plan first last seat
still_from t first last k [] are comes seat least less = absurd (omega (arith, least, less))
still_from t first last k (p ∷ ps) are comes seat least less = elim (cases_eq seat k) [
  | inl same ↦
      let here : ComesTo last (knowing first p.holding) =
      All-head (λ (q : PartyValue). ComesTo last q.holding) (informed first p) (map (informed first) ps) comes in
      let who : p.holding.who ≡ BySeat seat = are.1 ∙ ap BySeat (sym same) in
      record {
        state = subst (λ (z : Plan × Asker). party (world_after (z.0) last) (z.1)
            ≡ party (world_after (z.0) first) (z.1)) (λ i. (are.0.plan i, who i)) here.state;
        own = subst (λ (z : Plan × Asker). answers_by (z.1) (world_after (z.0) last).answers
            ≡ answers_by (z.1) (world_after (z.0) first).answers) (λ i. (are.0.plan i, who i))
            (own_still last (knowing first p.holding) here);
      }
  | inr other ↦ still_from t first last (suc k) ps are.2
      (All-tail (λ (q : PartyValue). ComesTo last q.holding) (informed first p) (map (informed first) ps) comes) seat
      (omega (arith, least, other)) (omega (arith, less))
]

-- what they know last is all that counts
informed_twice : (first last : List Event) (ps : List PartyValue) →
    map (informed last) (map (informed first) ps) ≡ map (informed last) ps
informed_twice first last [] = refl
informed_twice first last (p ∷ ps) = ap (λ (qs : List PartyValue). informed last p ∷ qs) (informed_twice first last ps)

-- the first seat went from here to there meanwhile
module _ (t : TableValue) (q : PartyValue) (qs : List PartyValue) (are : AreSeatsOf t (q ∷ qs)) (mid : List PartyValue)
    (met : HaveMet t (q ∷ qs) mid) (then : PartyValue) (now : List PartyValue) (count : ℕ) (pairs : List Pair)
    (same : IsSame (informed met.known q) then) (copied : HasCopied count (informed met.known q) then pairs)
    (again : HaveMet t (then ∷ map (informed met.known) qs) now) (all : count ≡ buckets_of t.plan.settings) where
  abbrev first : List Event
  first = met.known

  abbrev last : List Event
  last = again.known

  comes : ComesTo last then.holding
  comes = All-head (λ (p : PartyValue). ComesTo last p.holding) then (map (informed first) qs) again.each

  abbrev later : List Event
  later = copied.later ++ comes.later

  last_is : last ≡ first ++ later
  last_is = comes.grown ∙ ap (λ (es : List Event). es ++ comes.later) copied.grown
      ∙ append_assoc first copied.later comes.later

  -- it is the first seat of the table
  plan_then : then.holding.plan ≡ t.plan
  plan_then = same.plan ∙ are.each.0.plan

  who_then : then.holding.who ≡ BySeat 0
  who_then = same.who ∙ are.each.1

  now_is : now ≡ map (informed last) (q ∷ qs)
  now_is = again.are ∙ (λ i. informed_then i ∷ informed_twice first last qs i)
    where
      informed_then : informed last then ≡ informed last q
      informed_then i = record {
        table_id = same.table i;
        holding = record { plan = same.plan i; who = same.who i; known = last };
      }

  others_still : (seat : ℕ) → 0 < seat → seat < t.plan.settings.seats → IsStill t.plan first last seat
  others_still seat some less = still_from t first last 1 qs are.each.2
      (All-tail (λ (p : PartyValue). ComesTo last p.holding) then (map (informed first) qs) again.each) seat
      (omega (arith, some)) (let total = are.count in omega (arith, less, total))

  -- no update was answered
  first_updates : (seat_in (world_after t.plan last) 0).answered ≡ (seat_in (world_after t.plan first) 0).answered
  first_updates =
      subst (λ (z : Plan × Asker). (party (world_after t.plan last) (BySeat 0)).answered
      ≡ (party (world_after (z.0) first) (z.1)).answered) (λ i. (are.each.0.plan i, are.each.1 i))
      (subst (λ (z : Plan × Asker). (party (world_after (z.0) last) (z.1)).answered
      ≡ answered_updates (informed first q)) (λ i. (plan_then i, who_then i))
      (ap (λ (s : SeatNow). s.answered) comes.state ∙ copied.updates))

  all_updates : (seat : ℕ) → seat < t.plan.settings.seats →
      (seat_in (world_after t.plan last) seat).answered ≡ (seat_in (world_after t.plan first) seat).answered
  all_updates zero less = first_updates
  all_updates (suc seat) less =
      ap (λ (s : SeatNow). s.answered) (others_still (suc seat) (omega arith) less).state

  first_own : answers_by (BySeat 0) (world_after t.plan last).answers
      ≡ answers_by (BySeat 0) (world_after t.plan first).answers ++ answers_of copied.copies
  first_own =
      subst (λ (z : Plan × Asker). answers_by (BySeat 0) (world_after t.plan last).answers
      ≡ answers_by (z.1) (world_after (z.0) first).answers ++ answers_of copied.copies)
      (λ i. (are.each.0.plan i, are.each.1 i))
      (subst (λ (z : Plan × Asker). answers_by (z.1) (world_after (z.0) last).answers
      ≡ own_answers (knowing first q.holding) ++ answers_of copied.copies) (λ i. (plan_then i, who_then i))
      (own_still last then.holding comes ∙ copied.own))

  run_all : IsRun t.plan (first ++ later)
  run_all = subst (IsRun t.plan) last_is again.run

  idle_all : (seat : ℕ) → seat < t.plan.settings.seats →
      (seat_in (world_after t.plan (first ++ later)) seat).stand ≡ Idle
  idle_all seat less =
      subst (λ (es : List Event). (seat_in (world_after t.plan es) seat).stand ≡ Idle) last_is (again.idle seat less)

  none_updated : (seat : ℕ) → seat < t.plan.settings.seats →
      (seat_in (world_after t.plan (first ++ later)) seat).answered
      ≡ (seat_in (world_after t.plan first) seat).answered
  none_updated seat less = subst (λ (es : List Event). (seat_in (world_after t.plan es) seat).answered
      ≡ (seat_in (world_after t.plan first) seat).answered) last_is (all_updates seat less)

  all_copies : AreCopies (BySeat 0) (length first) 0 copied.copies
  all_copies = subst (λ (who : Asker). AreCopies who (length first) 0 copied.copies) are.each.1 copied.each

  all_own : answers_by (BySeat 0) (world_after t.plan (first ++ later)).answers
      ≡ answers_by (BySeat 0) (world_after t.plan first).answers ++ answers_of copied.copies
  all_own = subst (λ (es : List Event). answers_by (BySeat 0) (world_after t.plan es).answers
      ≡ answers_by (BySeat 0) (world_after t.plan first).answers ++ answers_of copied.copies) last_is first_own

  rested : HaveRested t (q ∷ qs) now pairs
  rested = record {
    first = first;
    later = later;
    run = run_all;
    each = met.each;
    are = now_is ∙ ap (λ (es : List Event). map (informed es) (q ∷ qs)) last_is;
    idle_first = met.idle;
    idle_last = idle_all;
    updates = none_updated;
    copies = copied.copies;
    count = copied.many ∙ all;
    copied = all_copies;
    own = all_own;
    others = λ seat some less.
        subst (λ (es : List Event). answers_by (BySeat seat) (world_after t.plan es).answers
        ≡ answers_by (BySeat seat) (world_after t.plan first).answers) last_is (others_still seat some less).own;
    pairs_are = copied.pairs_are;
    all = record {
      are = copied.pairs_are
          ∙ all_told t.plan first later run_all met.idle idle_all none_updated copied.copies all_copies
          (let few : length copied.copies ≤ buckets_of t.plan.settings = omega (arith, copied.many, all) in few) all_own
          ∙ ap (λ (n : ℕ). flat_map (λ (b : ℕ). pairs_in t.plan (world_after t.plan first) b) (range_with_len 0 n))
          (copied.many ∙ all);
      order = updates_are_ordered t.plan first met.run (ranges met.run.opened);
    };
  }

pub have_rested : (t : TableValue) (was mid now : List PartyValue) (d then : PartyValue) (count : ℕ)
    (pairs : List Pair) → AreSeatsOf t was → HaveMet t was mid → IsSame (get_or mid 0 d) then →
    HasCopied count (get_or mid 0 d) then pairs → count ≡ buckets_of t.plan.settings →
    HaveMet t (set mid 0 then) now → HaveRested t was now pairs
have_rested t [] mid now d then count pairs are met same copied all again =
    absurd (let total = are.count in omega (arith, total, met.run.opened.some_seat))
have_rested t (q ∷ qs) mid now d then count pairs are met same copied all again =
    let at : IsSame (informed met.known q) then × HasCopied count (informed met.known q) then pairs
    × HaveMet t (then ∷ map (informed met.known) qs) now =
    subst (λ (ps : List PartyValue). IsSame (get_or ps 0 d) then × HasCopied count (get_or ps 0 d) then pairs
    × HaveMet t (set ps 0 then) now) met.are (same, copied, again) in
    rested t q qs are mid met then now count pairs at.0 at.1 at.2 all

-- a seat that has met the others has the answers that it had
pub still_counted : (t : TableValue) (was mid : List PartyValue) (d first : PartyValue) (rest : List PartyValue) →
    HaveMet t was mid → was ≡ first ∷ rest →
    length (own_answers (get_or mid 0 d).holding) ≡ length (own_answers first.holding)
still_counted t was mid d first rest met is =
    let comes : ComesTo met.known first.holding =
    All-head (λ (p : PartyValue). ComesTo met.known p.holding) first rest
    (subst (All (λ (p : PartyValue). ComesTo met.known p.holding)) is met.each) in
    let mid_is : mid ≡ informed met.known first ∷ map (informed met.known) rest =
    met.are ∙ ap (map (informed met.known)) is in
    ap (λ (ps : List PartyValue). length (own_answers (get_or ps 0 d).holding)) mid_is
    ∙ ap (λ (l : List Answer). length l) (own_still met.known first.holding comes)
