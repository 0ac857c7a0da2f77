-- A whole try, after its look.
use Rattle.std.proofs.Common.{◌≡◌, ◌≢◌, ℕ, ◌+◌, ◌-◌, ◌*◌, ◌/◌, ◌^◌, ◌<◌, ◌≤◌, Bool, true, false, length, Option, Some, None, refl, sym, ap, subst, ◌∙◌, arith}
use Rattle.std.proofs.lemmas.Bool.{cond-true, cond-false}
use Rattle.std.proofs.lemmas.Nat.{shr_below}
use Rattle.std.specs.Prelude.{◌==◌, if◌then◌else◌, MatchOption}
use Rattle.plain_map.specs.declared.calls.Call.{Call}
use Rattle.plain_map.specs.declared.calls.Reply.{Reply}
use Rattle.plain_map.specs.declared.rules.Rules.{Rules}
use Rattle.word_rows.specs.ReplyWords.{reply_of_word}
use Rattle.plain_map.specs.Calls.{key_in}
use Rattle.bucket_states.specs.Items.{reply_in, value_at}
use Rattle.bucket_states.specs.Places.{IsPlaceOf}
use Rattle.exchange_model.specs.Plans.{Plan, rules_of}
use Rattle.exchange_model.specs.Codes.{is_spent}
use Rattle.exchange_model.specs.Steps.{Goes, LoadPending, Stand, StoreRow, Try}
use Rattle.exchange_model.specs.Goes.{Ends, Fate, On, Refuses, Spends, by_entry, ends_with, entry_for, gives_up, is_announced, is_quiet, looked, lost, unless_spent}
use Rattle.exchange_calls.specs.Attempts.{HasTried, IsSeen}
use Rattle.exchange_calls.specs.Desks.{IsOf}
use Rattle.exchange_calls.specs.Found.{HasFoundAll, IsMade, IsPending}
use Rattle.exchange_calls.specs.Going.{Going, IsOpen, on}
use Rattle.exchange_calls.specs.Hands.{HasLooked, making, trying}
use Rattle.exchange_calls.specs.Marks.{entries_of, mark_of}
use Rattle.exchange_calls.specs.Quiet.{IsQuietBy}
use Rattle.exchange_calls.specs.Tries.{AreRowsOf, HasPut, IsPutting, swapped}
use Rattle.exchange_calls.specs.declared.attempts.Seen.{Seen}
use Rattle.exchange_calls.specs.declared.attempts.Tried.TheVariants.{Done, Lost}
use Rattle.exchange_calls.specs.declared.desk.Desk.{Desk}
use Rattle.exchange_calls.specs.declared.hand.Hand.{Hand}
use Rattle.exchange_calls.specs.declared.marks.Mark.{Mark}
use Rattle.exchange_calls.specs.declared.own_rows.OwnRows.{OwnRows}
use Rattle.exchange_calls.proofs.FindLemmas.{words_same}
use Rattle.exchange_calls.proofs.GoesLemmas.{making_free, making_kept, making_on, making_posted}
use Rattle.exchange_calls.proofs.OpsLemmas.{entry_by, found_entry}
use Rattle.exchange_calls.proofs.PlaceLemmas.{of_same, rules_same}

-- rows are the seat's wherever it stands
pub rows_stay : (f now : Going) (rows : OwnRows) → now.now.free ≡ f.now.free → now.now.kept ≡ f.now.kept →
    AreRowsOf f rows → AreRowsOf now rows
rows_stay f now rows free kept are = record { free = are.free ∙ sym free; kept = are.kept ∙ sym kept }

-- ---- the update is still to be made

module _ (now : Going) (call : Call) (announced : Bool) (seen : Seen) (hand : Hand)
    (s : IsSeen now call announced seen hand) (desk : Desk) (is : IsOf now desk) where
  abbrev pub attempt : Try
  attempt = trying seen.turn seen.word hand

  -- where the fate of the look leads on
  unless_spent_plan : now.plan ≡ s.first.plan
  unless_spent_plan = ap (λ (g : Going). g.plan) s.goes

  is_first : IsOf s.first desk
  is_first =
      of_same now s.first desk (sym unless_spent_plan) (sym (ap (λ (g : Going). g.seat) s.goes)) is

  spent_is : is_spent s.first.plan seen.word
      ≡ (seen.word / 2 ^ desk.sizes.row_bits == 2 ^ (64 - desk.sizes.row_bits) - 1)
  spent_is = ap (λ (k : ℕ). seen.word / 2 ^ k == 2 ^ (64 - k) - 1) is_first.row_bits

  module _ (last : Bool)
      (last_is : last ≡ (seen.word / 2 ^ desk.sizes.row_bits == 2 ^ (64 - desk.sizes.row_bits) - 1)) where
    test_is : is_spent s.first.plan seen.word ≡ last
    test_is = spent_is ∙ sym last_is

    -- the bucket is spent
    pub seen_spent : last ≡ true → now ≡ making s.first call (gives_up (is_announced seen.turn))
    seen_spent is_so = s.goes ∙ ap (making s.first call)
        (cond-true (is_spent s.first.plan seen.word) (gives_up (is_announced seen.turn)) (On (LoadPending attempt))
        (test_is ∙ is_so))

    -- or not
    module _ (no_ : last ≡ false) where
      pub seen_pending : now ≡ on s.first (Goes call (LoadPending attempt))
      seen_pending = s.goes ∙ ap (making s.first call)
          (cond-false (is_spent s.first.plan seen.word) (gives_up (is_announced seen.turn)) (On (LoadPending attempt))
          (test_is ∙ no_))

      pub pends_stand : now.now.stand ≡ Goes call (LoadPending attempt)
      pends_stand = ap (λ (g : Going). g.now.stand) seen_pending

      pub pends_few : length hand.items.items ≤ now.plan.settings.items
      pends_few = omega (arith, s.few_items, ap (λ (p : Plan). p.settings.items) unless_spent_plan)

      abbrev pub pends : IsPending now call announced hand
      pends = record {
        attempt = attempt;
        stand = pends_stand;
        turn = s.turn;
        items = refl;
        marks = refl;
        spelled = s.spelled;
        small = s.small;
        few_items = pends_few;
      }

      -- there is a further generation
      pub next_there : seen.word < 2 ^ 64 →
          seen.word / 2 ^ desk.sizes.row_bits + 1 < 2 ^ (64 - desk.sizes.row_bits)
      next_there fits =
          let bits : ℕ = desk.sizes.row_bits in
          let e : 64 ≡ (64 - bits) + bits = omega (arith, desk.sizes.few_bits) in
          let low : seen.word / 2 ^ bits < 2 ^ (64 - bits) =
          shr_below seen.word (64 - bits) bits (subst (λ (n : ℕ). seen.word < 2 ^ n) e fits) in
          let other : seen.word / 2 ^ bits ≢ 2 ^ (64 - bits) - 1 =
          λ same. is_not (seen.word / 2 ^ bits) (2 ^ (64 - bits) - 1) same (sym last_is ∙ no_) in
          omega (arith, low, other)
        where
          is_not : (a b : ℕ) → a ≡ b → (a == b) ≡ false → ⊥
          is_not a b same other = (let one = words_same a b same in cc)

      -- the row is made
      module _ (mid : Going) (new : Hand) (reply : Option Reply)
          (h : HasFoundAll now mid call attempt new reply) where
        mid_is : mid ≡ on s.first (Goes call (StoreRow attempt h.found 0))
        mid_is =
            h.goes ∙ ap (λ (g : Going). on g (Goes call (StoreRow attempt h.found 0))) seen_pending

        pub mid_plan : mid.plan ≡ now.plan
        mid_plan = ap (λ (g : Going). g.plan) h.goes

        pub mid_seat : mid.seat ≡ now.seat
        mid_seat = ap (λ (g : Going). g.seat) h.goes

        pub mid_rows : (rows : OwnRows) → AreRowsOf now rows → AreRowsOf mid rows
        mid_rows rows are =
            rows_stay now mid rows (ap (λ (g : Going). g.now.free) h.goes) (ap (λ (g : Going). g.now.kept) h.goes) are

        pub mid_some : 1 ≤ length now.now.free → 1 ≤ length mid.now.free
        mid_some some = omega (arith, some, ap (λ (g : Going). length g.now.free) h.goes)

        pub puts_few : length h.found ≤ mid.plan.settings.seats
        puts_few = omega (arith, h.few, ap (λ (p : Plan). p.settings.seats) mid_plan)

        pub puts_stand : mid.now.stand ≡ Goes call (StoreRow attempt h.found 0)
        puts_stand = ap (λ (g : Going). g.now.stand) h.goes

        pub puts_made : IsMade mid.plan mid.seat attempt h.found new reply
        puts_made =
            subst (λ (q : ℕ). IsMade mid.plan q attempt h.found new reply) (sym mid_seat)
            (subst (λ (p : Plan). IsMade p now.seat attempt h.found new reply) (sym mid_plan) h.is_made)

        abbrev pub puts : IsPutting mid call seen.word new reply
        puts = record {
          attempt = attempt;
          found = h.found;
          word_is = refl;
          few = puts_few;
          stand = puts_stand;
          is_made = puts_made;
        }

        swapped_making : (g : Going) (stand : Stand) (word : ℕ) (next : Fate) →
            making (swapped (on g stand) word) call next ≡ making (swapped g word) call next
        swapped_making g stand word (On step) = refl
        swapped_making g stand word (Ends told) = refl
        swapped_making g stand word Spends = refl
        swapped_making g stand word Refuses = refl

        pub put_is_tried : (end : Going) (rows : OwnRows) (told : Reply) →
            HasPut mid end call seen.word seen.turn rows (Some told) →
            HasTried s.first end call seen.turn rows (Done told)
        put_is_tried end rows told put = record {
          after = swapped s.first seen.word;
          same = refl;
          rows_are = rows_stay (swapped mid seen.word) (swapped s.first seen.word) rows
              (sym (ap (λ (g : Going). (swapped g seen.word).now.free) mid_is))
              (sym (ap (λ (g : Going). (swapped g seen.word).now.kept) mid_is)) put.1;
          goes = put.0
              ∙ ap (λ (g : Going). making (swapped g seen.word) call (ends_with (is_announced seen.turn) (Some told)))
              mid_is
              ∙ swapped_making s.first (Goes call (StoreRow attempt h.found 0)) seen.word
              (ends_with (is_announced seen.turn) (Some told));
        }

        pub lost_is_tried : (end : Going) (rows : OwnRows) → HasPut mid end call seen.word seen.turn rows None →
            HasTried s.first end call seen.turn rows Lost
        lost_is_tried end rows put = (
          put.0 ∙ ap (λ (g : Going). making g call (lost seen.turn)) mid_is
              ∙ making_on s.first call (StoreRow attempt h.found 0) (lost seen.turn),
          rows_stay mid s.first rows (sym (ap (λ (g : Going). g.now.free) mid_is))
              (sym (ap (λ (g : Going). g.now.kept) mid_is)) put.1,
        )

-- ---- the look

module _ (f now : Going) (call : Call) (turn word : ℕ) (hand : Hand) (k : HasLooked f now call turn word hand)
    (desk : Desk) (is : IsOf f desk) where
  pub looked_of : IsOf now desk
  looked_of = of_same f now desk (ap (λ (g : Going). g.plan) k.goes) (ap (λ (g : Going). g.seat) k.goes) is

  pub looked_plan : now.plan ≡ f.plan
  looked_plan = ap (λ (g : Going). g.plan) k.goes

  pub looked_posted : now.now.posted ≡ f.now.posted
  looked_posted =
      ap (λ (g : Going). g.now.posted) k.goes
      ∙ making_posted f call (looked f.plan f.seat f.now call (trying turn word hand))

  looked_free : now.now.free ≡ f.now.free
  looked_free =
      ap (λ (g : Going). g.now.free) k.goes
      ∙ making_free f call (looked f.plan f.seat f.now call (trying turn word hand))

  pub looked_rows : (rows : OwnRows) → AreRowsOf f rows → AreRowsOf now rows
  looked_rows rows are =
      rows_stay f now rows looked_free
      (ap (λ (g : Going). g.now.kept) k.goes
      ∙ making_kept f call (looked f.plan f.seat f.now call (trying turn word hand))) are

  pub looked_some : 1 ≤ length f.now.free → 1 ≤ length now.now.free
  looked_some some = omega (arith, some, ap length looked_free)

  quiet_same : is_quiet desk.rules hand.items.items call ≡ is_quiet (rules_of f.plan) hand.items.items call
  quiet_same = ap (λ (r : Rules). is_quiet r hand.items.items call) (rules_same f desk is)

  -- nobody else knows of it
  module _ (solo : is_announced turn ≡ false) where
    solo_goes : now ≡ making f call (if is_quiet (rules_of f.plan) hand.items.items call
        then Ends (reply_in (rules_of f.plan) hand.items.items call)
        else unless_spent f.plan (trying turn word hand))
    solo_goes = k.goes ∙ ap (making f call)
        (cond-false (is_announced turn)
        (by_entry f.plan (trying turn word hand) (entry_for f.seat f.now.posted (entries_of hand.marks.items)))
        (if is_quiet (rules_of f.plan) hand.items.items call
        then Ends (reply_in (rules_of f.plan) hand.items.items call)
        else unless_spent f.plan (trying turn word hand)) solo)

    -- it changes nothing
    pub solo_quiet : (rows : OwnRows) → AreRowsOf f rows → (reply : Reply) →
        IsQuietBy desk.rules hand.items.items call (Some reply) → HasTried f now call turn rows (Done reply)
    solo_quiet rows are reply q = record {
      after = f;
      same = refl;
      rows_are = are;
      goes = solo_goes ∙ ap (making f call)
          (cond-true (is_quiet (rules_of f.plan) hand.items.items call)
          (Ends (reply_in (rules_of f.plan) hand.items.items call))
          (unless_spent f.plan (trying turn word hand)) (sym quiet_same ∙ q.0)
          ∙ ap Ends (sym (q.1 ∙ ap (λ (r : Rules). reply_in r hand.items.items call) (rules_same f desk is)))
          ∙ sym (ap (λ (b : Bool). ends_with b (Some reply)) solo));
    }

    pub solo_on : IsQuietBy desk.rules hand.items.items call None →
        now ≡ making f call (unless_spent f.plan (trying turn word hand))
    solo_on q = solo_goes ∙ ap (making f call)
        (cond-false (is_quiet (rules_of f.plan) hand.items.items call)
        (Ends (reply_in (rules_of f.plan) hand.items.items call))
        (unless_spent f.plan (trying turn word hand)) (sym quiet_same ∙ q))

  -- it is announced
  module _ (shared : is_announced turn ≡ true) (entry number : ℕ) (low : desk.holder < 64)
      (number_is : number ≡ f.now.posted) (entry_is : entry ≡ desk.holder + number * 2 ^ 6) where
    shared_goes : now ≡ making f call
        (by_entry f.plan (trying turn word hand) (entry_by (mark_of entry hand.marks.items)))
    shared_goes = k.goes ∙ ap (making f call)
        (cond-true (is_announced turn)
        (by_entry f.plan (trying turn word hand) (entry_for f.seat f.now.posted (entries_of hand.marks.items)))
        (if is_quiet (rules_of f.plan) hand.items.items call
        then Ends (reply_in (rules_of f.plan) hand.items.items call)
        else unless_spent f.plan (trying turn word hand)) shared
        ∙ ap (by_entry f.plan (trying turn word hand))
        ((λ i. entry_for (is.seat i) (sym number_is i) (entries_of hand.marks.items))
        ∙ found_entry hand.marks.items desk.holder number low
        ∙ ap (λ (w : ℕ). entry_by (mark_of w hand.marks.items)) (sym entry_is)))

    -- the row has its entry
    pub shared_done : (rows : OwnRows) → AreRowsOf f rows → (mark : Mark) (reply : Reply) →
        mark_of entry hand.marks.items ≡ Some mark → reply_of_word mark.reply ≡ Some reply →
        HasTried f now call turn rows (Done reply)
    shared_done rows are mark reply found told = record {
      after = f;
      same = refl;
      rows_are = are;
      goes = shared_goes
          ∙ ap (λ (o : Option Mark). making f call (by_entry f.plan (trying turn word hand) (entry_by o))) found
          ∙ ap (λ (o : Option Reply). making f call (ends_with true o)) told
          ∙ sym (ap (λ (b : Bool). making f call (ends_with b (Some reply))) shared);
    }

    -- with a reply
    pub shared_replies : (mark : Mark) → mark_of entry hand.marks.items ≡ Some mark → reply_of_word mark.reply ≢ None
    shared_replies mark found none =
        subst (λ (g : Going). IsOpen g.now.stand)
        (shared_goes
        ∙ ap (λ (o : Option Mark). making f call (by_entry f.plan (trying turn word hand) (entry_by o))) found
        ∙ ap (λ (o : Option Reply). making f call (ends_with true o)) none) k.open_

    pub shared_on : mark_of entry hand.marks.items ≡ None →
        now ≡ making f call (unless_spent f.plan (trying turn word hand))
    shared_on none = shared_goes
        ∙ ap (λ (o : Option Mark). making f call (by_entry f.plan (trying turn word hand) (entry_by o))) none

  -- the update is still to be made
  abbrev pub seen_on : (announced : Bool) (at : Option ℕ) →
      now ≡ making f call (unless_spent f.plan (trying turn word hand)) → is_announced turn ≡ announced →
      MatchOption at (value_at (key_in call) hand.items.items ≡ None) (IsPlaceOf (key_in call) hand.items.items) →
      IsSeen now call announced (record { turn = turn; word = word; at = at }) hand
  seen_on announced at goes turn_is place = record {
    first = f;
    goes = goes;
    turn = turn_is;
    place = place;
    small = k.small;
    spelled = k.spelled;
    few_items = k.few_items;
  }
