-- The own call of a try, at the seat's turn among the others or alone.
use Rattle.std.proofs.Common.{◌≡◌, ◌≢◌, ℕ, ◌+◌, ◌<◌, ◌≤◌, Bool, true, false, List, [], ◌∷◌, length, Option, Some, None, refl, sym, ap, ◌∙◌, subst, arith}
use Rattle.std.specs.Prelude.{◌==◌, nat_lt, if◌then◌else◌, All}
use Rattle.std.proofs.lemmas.Bool.{cond-true, cond-false}
use Rattle.std.proofs.lemmas.List.{length-append}
use Rattle.bucket_states.proofs.AnswerLemmas.{lt_false}
use Rattle.plain_map.specs.declared.calls.Call.{Call}
use Rattle.plain_map.specs.declared.calls.Reply.{Reply}
use Rattle.plain_map.specs.declared.rules.Rules.{Rules}
use Rattle.plain_map.specs.declared.keys.Pair.{Pair}
use Rattle.plain_map.specs.Updates.{IsSmallPair, IsUpdate}
use Rattle.bucket_states.specs.Items.{items_after, reply_in}
use Rattle.exchange_model.specs.Plans.{more, rules_of}
use Rattle.exchange_model.specs.Codes.{Entry, all_entry_words}
use Rattle.exchange_model.specs.Steps.{Change, Found, Goes, LoadAnnounced, LoadPending, Makes, StoreRow, Takes, Try, applied, entry_of, made, with_found}
use Rattle.exchange_model.specs.Goes.{On, after_pending, found_alone, found_so_far, is_announced, ops_or_row, own_op, share_of}
use Rattle.exchange_calls.specs.Going.{Going, goes, on, task}
use Rattle.exchange_calls.specs.Going.Task.{Load}
use Rattle.exchange_calls.specs.Desks.{IsOf}
use Rattle.exchange_calls.specs.Found.{Finding, HasApplied, HasFound, HasFoundAll, IsFindingAll, IsMade, IsPending, own_marks}
use Rattle.exchange_calls.specs.Hands.{making}
use Rattle.exchange_calls.specs.Marks.{entries_of, mark_words}
use Rattle.exchange_calls.specs.declared.desk.Desk.{Desk}
use Rattle.exchange_calls.specs.declared.hand.Hand.{Hand}
use Rattle.exchange_calls.specs.declared.marks.Mark.{Mark}
use Rattle.exchange_calls.proofs.FindLemmas.{words_differ, words_same}
use Rattle.exchange_calls.proofs.GoesLemmas.{plain_goes, stands_here, step_asks}
use Rattle.exchange_calls.proofs.MadeLemmas.{alone_many, made_applied, made_by, own_alone, replied_own}
use Rattle.exchange_calls.proofs.PlaceLemmas.{of_same, rules_same}

-- the entries of the own op
abbrev pub own_entries : (announced : Bool) (seat number : ℕ) → Reply → List Entry
own_entries announced seat number reply = if announced then entry_of seat number reply else []

-- what they are by their words
entries_spelled : (announced : Bool) (seat number : ℕ) (reply : Reply) →
    all_entry_words (own_entries announced seat number reply) ≡ mark_words (own_marks announced seat number reply)
entries_spelled true seat number reply = refl
entries_spelled false seat number reply = refl

entries_many : (announced : Bool) (seat number : ℕ) (reply : Reply) →
    length (own_entries announced seat number reply) ≡ length (own_marks announced seat number reply)
entries_many true seat number reply = refl
entries_many false seat number reply = refl

marks_few : (announced : Bool) (seat number : ℕ) (reply : Reply) → length (own_marks announced seat number reply) ≤ 1
marks_few true seat number reply = omega arith
marks_few false seat number reply = omega arith

-- the own op is applied so
found_applied : (rules : Rules) (c : Change) (announced : Bool) (seat number : ℕ) (call : Call) →
    with_found rules c seat (if announced then Takes (record { number = number; call = call }) else Makes call)
    ≡ applied rules c seat call (own_entries announced seat number)
found_applied rules c true seat number call = refl
found_applied rules c false seat number call = refl

-- ---- among the others

module _ (f now : Going) (call : Call) (attempt : Try) (announced : Bool) (q : ℕ) (old new : Hand)
    (reply : Option Reply) (h : Finding f now call attempt announced q old reply) (desk : Desk) (is : IsOf now desk)
  where
    is_first : IsOf f desk
    is_first =
        of_same now f desk (sym (ap (λ (g : Going). g.plan) h.so_far.goes))
        (sym (ap (λ (g : Going). g.seat) h.so_far.goes)) is

    posted_same : now.now.posted ≡ f.now.posted
    posted_same = ap (λ (g : Going). g.now.posted) h.so_far.goes

    -- this is the own seat
    module _ (here : q ≡ desk.holder) (number : ℕ) (number_is : number ≡ now.now.posted) (r : Reply)
        (update : IsUpdate call) (a : HasApplied desk.rules call announced desk.holder number old new r) where
      same : length h.so_far.found ≡ f.seat
      same = h.so_far.many ∙ here ∙ sym is_first.seat

      abbrev one : Found
      one = own_op f.now.posted attempt.turn call

      abbrev with_it : List Found
      with_it = more h.so_far.found one

      rules_are : desk.rules ≡ rules_of f.plan
      rules_are = rules_same f desk is_first

      reply_is : r ≡ reply_in (rules_of f.plan) old.items.items call
      reply_is = a.reply_is ∙ ap (λ (rules : Rules). reply_in rules old.items.items call) rules_are

      own_next : found_so_far f.plan f.seat f.now call attempt h.so_far.found
          ≡ found_so_far f.plan f.seat f.now call attempt with_it
      own_next =
          ap (ops_or_row f.plan attempt)
          (cond-true (length h.so_far.found == f.seat) with_it h.so_far.found
          (words_same (length h.so_far.found) f.seat same)
          ∙ sym (cond-false (length with_it == f.seat) (more with_it one) with_it
          (words_differ (length with_it) f.seat
          (λ e. absurd (omega (arith, e, same, length-append h.so_far.found (one ∷ [])))))))

      seat_is : length h.so_far.found ≡ desk.holder
      seat_is = h.so_far.many ∙ here

      pub own_found_here : Finding f now call attempt announced (q + 1) new (Some r)
      own_found_here =
          let found : List Found = h.so_far.found in
          let old_change : Change = made f.plan attempt found in
          let rules = rules_of f.plan in
          let told : Reply = reply_in rules old.items.items call in
          record {
            so_far = record {
              found = with_it;
              many = omega (arith, h.so_far.many, length-append found (one ∷ []));
              goes = h.so_far.goes ∙ ap (making f call) own_next;
              is_made = made_applied f.plan f.seat attempt found old reply h.so_far.is_made new one call
                  (own_entries announced (length found) number) (own_marks announced desk.holder number r) (Some r)
                  (ap (λ (b : Bool). with_found rules old_change (length found)
                  (if b then Takes (record { number = f.now.posted; call = call }) else Makes call)) h.turn
                  ∙ ap (λ (n : ℕ). with_found rules old_change (length found)
                  (if announced then Takes (record { number = n; call = call }) else Makes call))
                  (sym (number_is ∙ posted_same))
                  ∙ found_applied rules old_change announced (length found) number call)
                  update
                  (entries_spelled announced (length found) number told
                  ∙ (λ i. mark_words (own_marks announced (seat_is i) number (sym reply_is i))))
                  (entries_many announced (length found) number told
                  ∙ (λ i. length (own_marks announced (seat_is i) number (sym reply_is i))))
                  (marks_few announced desk.holder number r)
                  (a.items ∙ ap (λ (rs : Rules). items_after rs old.items.items call) rules_are) a.marks a.next
                  (replied_own f.plan f.seat attempt found old reply h.so_far.is_made call told same
                  (h.fresh (omega (arith, same, h.so_far.many))) ∙ ap Some (sym reply_is));
            };
            turn = h.turn;
            fresh = λ e. absurd (omega (arith, e, same, h.so_far.many));
          }

    -- it is another one, which is looked at
    pub other_found : (end : Going) → HasFound f end call attempt (q + 1) new reply →
        Finding f end call attempt announced (q + 1) new reply
    other_found end so_far = record {
      so_far = so_far;
      turn = h.turn;
      fresh = λ e. h.fresh (omega (arith, e));
    }

    -- all are looked at
    pub all_found : desk.sizes.seats ≤ q → q ≤ desk.sizes.seats → desk.holder < desk.sizes.seats →
        HasFoundAll f now call attempt old reply
    all_found low high within =
        let found : List Found = h.so_far.found in
        let apart : length found ≢ f.seat = λ e. omega (arith, e, h.so_far.many, low, within, is_first.seat) in
        record {
          found = found;
          few = omega (arith, h.so_far.many, high, is_first.seats);
          goes = h.so_far.goes
              ∙ ap (making f call)
              (ap (ops_or_row f.plan attempt)
              (cond-false (length found == f.seat) (more found (own_op f.now.posted attempt.turn call)) found
              (words_differ (length found) f.seat apart))
              ∙ ap On (cond-false (nat_lt (length found) f.plan.settings.seats) (LoadAnnounced attempt found)
              (StoreRow attempt found 0) (lt_false (length found) f.plan.settings.seats
              (omega (arith, h.so_far.many, low, is_first.seats)))));
          is_made = h.so_far.is_made;
        }

-- ---- what is pending

module _ (now : Going) (call : Call) (announced : Bool) (hand : Hand) (p : IsPending now call announced hand)
    (desk : Desk) (is : IsOf now desk) where
  here : now ≡ on now (Goes call (LoadPending p.attempt))
  here = stands_here now (Goes call (LoadPending p.attempt)) p.stand

  pub pending_asked : (at : ℕ) → at ≡ 0 → task now ≡ Load at
  pending_asked at at_is = step_asks now now call (LoadPending p.attempt) here ∙ ap Load (sym at_is)

  -- it leads on
  pub pending_goes : (next : Going) (word : ℕ) → next ≡ goes now word →
      next ≡ making now call (after_pending now.plan now.seat now.now call p.attempt word)
  pending_goes next word step = plain_goes now now next call (LoadPending p.attempt) word here refl step

  -- with no entry of the new row yet
  module _ (clear : Hand) (items : clear.items.items ≡ hand.items.items) (marks : clear.marks.items ≡ hand.marks.items)
      (none : clear.next.items ≡ []) where
    pub begins : IsMade now.plan now.seat p.attempt [] clear None
    begins = record {
      items = p.items ∙ sym items;
      entries = ap mark_words (sym none);
      many = ap length (sym none);
      replied = refl;
      marks = p.marks ∙ ap entries_of (sym marks);
      spelled = subst (λ (ms : List Mark). all_entry_words (entries_of ms) ≡ mark_words ms) (sym marks) p.spelled;
      small = subst (λ (ps : List Pair). All IsSmallPair ps) (sym items) p.small;
      few_items = omega (arith, p.few_items, ap length items);
      few = omega (arith, ap length none);
    }

    module _ (next : Going) (word share : ℕ) (step : next ≡ goes now word)
        (share_is : share ≡ (if announced then 1 else 0)) where
      told : next ≡ making now call (after_pending now.plan now.seat now.now call p.attempt word)
      told = plain_goes now now next call (LoadPending p.attempt) word here refl step

      same_share : share ≡ share_of (is_announced p.attempt.turn)
      same_share = share_is ∙ ap (λ (b : Bool). if b then 1 else 0) (sym p.turn)

      pub through : word ≢ share →
          next ≡ making now call (found_so_far now.plan now.seat now.now call p.attempt [])
      through other =
          told ∙ ap (making now call)
          (cond-false (word == share_of (is_announced p.attempt.turn))
          (On (StoreRow p.attempt (found_alone now.seat (own_op now.now.posted p.attempt.turn call)
          now.plan.settings.seats []) 0))
          (found_so_far now.plan now.seat now.now call p.attempt [])
          (words_differ word (share_of (is_announced p.attempt.turn)) (λ e. other (e ∙ sym same_share))))

      -- another one is counted
      abbrev pub goes_through : word ≢ share → IsFindingAll next call announced clear
      goes_through other = record {
        first = now;
        attempt = p.attempt;
        finds = record {
          so_far = record { found = []; many = refl; goes = through other; is_made = begins };
          turn = p.turn;
          fresh = λ _. refl;
        };
      }

      -- or none is
      module _ (alone : word ≡ share) (within : desk.holder < desk.sizes.seats) (number : ℕ)
          (number_is : number ≡ now.now.posted) (update : IsUpdate call) (new : Hand) (r : Reply)
          (a : HasApplied desk.rules call announced desk.holder number clear new r) where
        pub found_alone_here : HasFoundAll now next call p.attempt new (Some r)
        found_alone_here =
            let rules = rules_of now.plan in
            let own : Found = own_op now.now.posted p.attempt.turn call in
            let all : List Found = found_alone now.seat own now.plan.settings.seats [] in
            let first : Change = made now.plan p.attempt [] in
            let rules_are : desk.rules ≡ rules = rules_same now desk is in
            let reply_is : r ≡ reply_in rules clear.items.items call =
            a.reply_is ∙ ap (λ (rs : Rules). reply_in rs clear.items.items call) rules_are in
            let told_by : Reply = reply_in rules clear.items.items call in
            record {
              found = all;
              few = omega (arith, alone_many now.seat own now.plan.settings.seats []);
              goes = told ∙ ap (making now call)
                  (cond-true (word == share_of (is_announced p.attempt.turn)) (On (StoreRow p.attempt all 0))
                  (found_so_far now.plan now.seat now.now call p.attempt [])
                  (words_same word (share_of (is_announced p.attempt.turn)) (alone ∙ same_share)));
              is_made = made_by now.plan now.seat p.attempt [] clear None begins all now.seat new call
                  (own_entries announced now.seat number) (own_marks announced desk.holder number r) (Some r)
                  (own_alone rules first now.seat own now.plan.settings.seats [] (omega arith)
                  (omega (arith, within, is.seat, is.seats))
                  ∙ ap (λ (b : Bool). with_found rules first now.seat
                  (if b then Takes (record { number = now.now.posted; call = call }) else Makes call)) p.turn
                  ∙ ap (λ (n : ℕ). with_found rules first now.seat
                  (if announced then Takes (record { number = n; call = call }) else Makes call)) (sym number_is)
                  ∙ found_applied rules first announced now.seat number call)
                  update
                  (entries_spelled announced now.seat number told_by
                  ∙ (λ i. mark_words (own_marks announced (is.seat i) number (sym reply_is i))))
                  (entries_many announced now.seat number told_by
                  ∙ (λ i. length (own_marks announced (is.seat i) number (sym reply_is i))))
                  (omega (
                    arith,
                    ap length none,
                    marks_few announced desk.holder number r,
                    alone_many now.seat own now.plan.settings.seats [],
                    within,
                    is.seats,
                  ))
                  (a.items ∙ ap (λ (rs : Rules). items_after rs clear.items.items call) rules_are) a.marks a.next
                  (cond-true (now.seat == now.seat) (Some told_by) None (words_same now.seat now.seat refl)
                  ∙ ap Some (sym reply_is));
            }

-- ---- a caller stays what it is

module _ (f start now : Going) (call : Call) (attempt : Try) (announced : Bool) (p q : ℕ) (old new : Hand)
    (was reply : Option Reply) (b : Finding f start call attempt announced p old was)
    (e : Finding f now call attempt announced q new reply) where
  pub finds_plan : now.plan ≡ start.plan
  finds_plan = ap (λ (g : Going). g.plan) e.so_far.goes ∙ sym (ap (λ (g : Going). g.plan) b.so_far.goes)

  pub finds_of : (desk : Desk) → IsOf start desk → IsOf now desk
  finds_of desk is =
      of_same start now desk finds_plan
      (ap (λ (g : Going). g.seat) e.so_far.goes ∙ sym (ap (λ (g : Going). g.seat) b.so_far.goes)) is

  pub finds_posted : now.now.posted ≡ start.now.posted
  finds_posted = ap (λ (g : Going). g.now.posted) e.so_far.goes ∙ sym (ap (λ (g : Going). g.now.posted) b.so_far.goes)
