-- The calls of a seat come one after the other: at each moment of a lookup or a copy its earlier updates are answered,
-- and its later ones have not begun.
use Rattle.std.proofs.Common.{◌≡◌, ℕ, zero, suc, ◌+◌, ◌≤◌, ◌⊎◌, inl, inr, List, [], ◌∷◌, ◌++◌, length, map, get_or, refl, sym, ap, ◌∙◌, subst, arith, append_assoc, append-nil}
use Rattle.std.specs.Prelude.{drop}
use Rattle.list_laws.proofs.Lists.{flat_map_append}
use Rattle.std.specs.List.{range_with_len}
use Rattle.std.proofs.lemmas.List.{length-append}
use Rattle.plain_map.specs.declared.calls.Call.{Call}
use Rattle.plain_map.specs.declared.calls.Call.TheVariants.{Insert, Remove, Lookup, Tally, Count, Put}
use Rattle.plain_map.specs.declared.keys.Key.{Key}
use Rattle.plain_map.specs.Updates.{IsUpdate}
use Rattle.exchange_model.specs.Plans.{Plan, holders_of}
use Rattle.exchange_model.specs.Steps as S
use Rattle.exchange_model.specs.Steps.{Stand, SeatNow, Aim, OfKey, OfBucket}
use Rattle.exchange_model.specs.Goes.{Asked, Called, Copied, Told, Replied, Pairs, Again, Spent, Refused, asked_by_aim}
use Rattle.exchange_model.specs.Worlds.{World, Answer, Event, IsRun, happens, nobody, opening_seat, opening_world, seat_in, world_after}
use Rattle.map_laws.specs.ByKey.{Made}
use Rattle.exchange_laws.specs.Orders.{answers_by}
use Rattle.exchange_laws.specs.OneByOne.{HasJustMade, HasNoUpdate, IsLooking, LooksAreInTurn, update_made, update_told, updates_among}
use Rattle.exchange_laws.proofs.OwnedRuns.{after_both, back_follows, owned_holds}
use Rattle.exchange_laws.proofs.SpentBuckets.{spent_first, spent_follow}
use Rattle.exchange_laws.proofs.CallEvents.{event_happens, run_first}
use Rattle.exchange_laws.proofs.CallPhases.{Phase, resting, updating, looking, phase_at, phase_of, IsBegun, IsEnded, Passes, stays, begins, ends, passes}

-- ---- lists

-- the last of a list is one in it that has nothing behind it, or one of its front
pub record InFront {A : Type 0} (xs before : List A) (a : A) : Type 0 where
  pub after : List A
  pub is : xs ≡ before ++ a ∷ after

pub record IsLast {A : Type 0} (xs before : List A) (a b : A) : Type 0 where
  pub front : before ≡ xs
  pub same : a ≡ b

nothing_is_more : {A : Type 0} (x : A) (xs : List A) → [] ≡ x ∷ xs → ⊥
nothing_is_more x xs e = (let h = ap length e in absurd (omega (arith, h)))

pub in_longer : {A : Type 0} (xs before after : List A) (a b : A) → xs ++ b ∷ [] ≡ before ++ a ∷ after →
    InFront xs before a ⊎ IsLast xs before a b
in_longer [] [] after a b e = inr (record { front = refl; same = sym (ap (λ (l : List _). get_or l 0 b) e) })
in_longer [] (c ∷ before) after a b e =
    absurd ((let h = ap length e in let l = length-append before (a ∷ after) in omega (arith, h, l)))
in_longer (x ∷ xs) [] after a b e = inl (record {
  after = xs;
  is = ap (λ (c : _). c ∷ xs) (ap (λ (l : List _). get_or l 0 b) e);
})
in_longer (x ∷ xs) (c ∷ before) after a b e = elim (in_longer xs before after a b (ap (drop 1) e)) [
  | inl k ↦ inl (record {
    after = k.after;
    is = (λ i. ap (λ (l : List _). get_or l 0 b) e i ∷ k.is i);
  })
  | inr k ↦ inr (record {
    front = (λ i. ap (λ (l : List _). get_or l 0 b) (sym e) i ∷ k.front i);
    same = k.same;
  })
]

-- a front of a list with one element more is that list, or a front of the list
pub shorter : {A : Type 0} (xs front back : List A) (b : A) → xs ++ b ∷ [] ≡ front ++ back →
    ((rest : List A) × (xs ≡ front ++ rest)) ⊎ (front ≡ xs ++ b ∷ [])
shorter xs front [] b e = inr (sym (append-nil front) ∙ sym e)
shorter [] [] (c ∷ back) b e = inl ([], refl)
shorter [] (d ∷ front) (c ∷ back) b e =
    absurd ((let h = ap length e in let l = length-append front (c ∷ back) in omega (arith, h, l)))
shorter (x ∷ xs) [] (c ∷ back) b e = inl (x ∷ xs, refl)
shorter (x ∷ xs) (d ∷ front) (c ∷ back) b e = elim (shorter xs front (c ∷ back) b (ap (drop 1) e)) [
  | inl k ↦ inl (k.0, (λ i. ap (λ (l : List _). get_or l 0 b) e i ∷ k.1 i))
  | inr k ↦ inr (λ i. ap (λ (l : List _). get_or l 0 b) (sym e) i ∷ k i)
]

-- ---- updates and looks

-- a look is no update
no_update : (a : Answer) → IsLooking a.asked → update_made a.asked a.told ≡ []
no_update a k = go a.asked k
  where
    lookup : (key : Key) (told : Told) → update_told (Lookup key) told ≡ []
    lookup key (Replied reply) = refl
    lookup key (Pairs pairs) = refl
    lookup key Again = refl
    lookup key Spent = refl
    lookup key Refused = refl

    go : (asked : Asked) → IsLooking asked → update_made asked a.told ≡ []
    go (Called (Lookup key)) k = lookup key a.told
    go (Called (Insert key value)) k = absurd k
    go (Called (Remove key)) k = absurd k
    go (Called (Tally key amount)) k = absurd k
    go (Called (Count key value amount)) k = absurd k
    go (Called (Put key value)) k = absurd k
    go (Copied bucket) k = refl

-- and an update is no look
not_both : (call : Call) → IsUpdate call → IsLooking (Called call) → ⊥
not_both (Lookup key) u k = u
not_both (Insert key value) u k = k
not_both (Remove key) u k = k
not_both (Tally key amount) u k = k
not_both (Count key value amount) u k = k
not_both (Put key value) u k = k

aim_looks : (aim : Aim) → IsLooking (asked_by_aim aim)
aim_looks (OfKey key) = tt
aim_looks (OfBucket bucket) = tt

-- a look more adds no update
look_more : (answers : List Answer) (a : Answer) → IsLooking a.asked →
    updates_among (answers ++ a ∷ []) ≡ updates_among answers
look_more answers a k =
    flat_map_append (λ (b : Answer). update_made b.asked b.told) answers (a ∷ [])
    ∙ ap (λ (l : List Made). updates_among answers ++ (l ++ [])) (no_update a k)
    ∙ append-nil (updates_among answers)

-- ---- a seat's call that is under way

-- what is known of it
abbrev IsSound : Phase → Type 0
IsSound resting = Unit {0}
IsSound (updating call began) = IsUpdate call
IsSound (looking asked began) = IsLooking asked

-- a look that had begun by then
abbrev IsLookedAt : Phase → (n : ℕ) → Type 0
IsLookedAt resting n = ⊥
IsLookedAt (updating call began) n = ⊥
IsLookedAt (looking asked began) n = began ≤ n

at_rest : (now : SeatNow) → now.stand ≡ S.Idle → phase_of now ≡ resting
at_rest now e = ap (λ (s : Stand). phase_at s now.course.began) e

calm_at : (stand : Stand) (began n : ℕ) → IsLookedAt (phase_at stand began) n → HasNoUpdate stand
calm_at S.Idle began n k = tt
calm_at (S.Goes call step) began n k = k
calm_at (S.Glances aim glance) began n k = tt

begun_sound : (phase : Phase) (n : ℕ) → IsBegun phase n → IsSound phase
begun_sound resting n k = absurd k
begun_sound (updating call began) n k = k.0
begun_sound (looking asked began) n k = k.0

begun_at : (phase : Phase) (n m : ℕ) → IsBegun phase n → IsLookedAt phase m → n ≤ m
begun_at resting n m b k = absurd k
begun_at (updating call began) n m b k = absurd k
begun_at (looking asked began) n m b k = (let e = b.1 in omega (arith, e, k))

-- the answer of a look that ends
ended_look : (phase : Phase) (a : Answer) → IsSound phase → IsEnded phase a → IsLooking a.asked → (n : ℕ) →
    a.began ≤ n → IsLookedAt phase n
ended_look resting a sound ended look n since =
    absurd (not_both ended.call ended.update (subst IsLooking ended.is look))
ended_look (updating call began) a sound ended look n since =
    absurd (not_both call sound (subst IsLooking ended look))
ended_look (looking asked began) a sound ended look n since = (let e = ended.1 in omega (arith, e, since))

module _ (plan : Plan) (q : ℕ) where
  abbrev at : List Event → World
  at es = world_after plan es

  abbrev own : List Event → List Answer
  own es = answers_by q (at es).answers

  abbrev phase : List Event → Phase
  phase es = phase_of (seat_in (at es) q)

  -- what is known at each moment
  record Known (es : List Event) : Type 0 where
    pub sound : IsSound (phase es)
    pub looked : (before after : List Answer) (a : Answer) → own es ≡ before ++ a ∷ after → IsLooking a.asked →
        (front back : List Event) → es ≡ front ++ back → a.began ≤ length front → length front ≤ a.ended →
        HasJustMade plan front q before
    pub looks : (front back : List Event) → es ≡ front ++ back → IsLookedAt (phase es) (length front) →
        HasJustMade plan front q (own es)
    pub past : (before after : List Answer) (a : Answer) → own es ≡ before ++ a ∷ after → a.ended ≤ length es

  module _ (es : List Event) (e : Event) (k : Known es) (clock : (at es).clock ≡ length es) where
    abbrev es' : List Event
    es' = es ++ e ∷ []

    long : length es' ≡ length es + 1
    long = length-append es (e ∷ [])

    -- an earlier answer
    old_looked : (before after : List Answer) (a : Answer) → own es ≡ before ++ a ∷ after → IsLooking a.asked →
        (front back : List Event) → es' ≡ front ++ back → a.began ≤ length front → length front ≤ a.ended →
        HasJustMade plan front q before
    old_looked before after a is look front back cut since until = elim (shorter es front back e cut) [
      | inl f ↦ k.looked before after a is look front f.0 f.1 since until
      | inr same ↦ absurd ((let p = k.past before after a is in let n = ap length same in let l = long in
          omega (arith, p, n, l, until)))
    ]

    past_on : own es' ≡ own es → (before after : List Answer) (a : Answer) → own es' ≡ before ++ a ∷ after →
        a.ended ≤ length es'
    past_on same before after a is =
        (let p = k.past before after a (sym same ∙ is) in let l = long in omega (arith, p, l))

    looked_on : own es' ≡ own es → (before after : List Answer) (a : Answer) → own es' ≡ before ++ a ∷ after →
        IsLooking a.asked → (front back : List Event) → es' ≡ front ++ back → a.began ≤ length front →
        length front ≤ a.ended → HasJustMade plan front q before
    looked_on same before after a is = old_looked before after a (sym same ∙ is)

    just : (front : List Event) → front ≡ es' → (n : ℕ) → IsLookedAt (phase es') n → HasJustMade plan front q (own es')
    just front is n look = subst (λ (f : List Event). HasJustMade plan f q (own es')) (sym is)
        (record { made = refl; none = calm_at (seat_in (at es') q).stand (seat_in (at es') q).course.began n look })

    -- its call goes on
    when_stays : phase es' ≡ phase es → own es' ≡ own es → Known es'
    when_stays ph same = record {
      sound = subst IsSound (sym ph) k.sound;
      looked = looked_on same;
      looks = λ front back cut look. elim (shorter es front back e cut) [
        | inl f ↦ subst (HasJustMade plan front q) (sym same)
            (k.looks front f.0 f.1 (subst (λ (p : Phase). IsLookedAt p (length front)) ph look))
        | inr is ↦ just front is (length front) look
      ];
      past = past_on same;
    }

    -- one begins
    when_begins : (seat_in (at es) q).stand ≡ S.Idle → IsBegun (phase es') (length es) → own es' ≡ own es → Known es'
    when_begins idle begun same = record {
      sound = begun_sound (phase es') (length es) begun;
      looked = looked_on same;
      looks = λ front back cut look. elim (shorter es front back e cut) [
        | inl f ↦ (
            let late = begun_at (phase es') (length es) (length front) begun look in
            let is : front ≡ es = whole_front front f.0 f.1 late in
            subst (λ (g : List Event). HasJustMade plan g q (own es')) (sym is) (record {
              made = ap updates_among (sym same);
              none = subst HasNoUpdate (sym idle) tt;
            }))
        | inr is ↦ just front is (length front) look
      ];
      past = past_on same;
    }
      where
        whole_front : (front rest : List Event) → es ≡ front ++ rest → length es ≤ length front → front ≡ es
        whole_front front [] is late = sym (is ∙ append-nil front)
        whole_front front (d ∷ rest) is late = absurd ((let h = ap length is in let l = length-append front (d ∷ rest)
            in omega (arith, h, l, late)))

    -- one ends
    module _ (a : Answer) (idle : (seat_in (at es') q).stand ≡ S.Idle) (more : own es' ≡ own es ++ a ∷ [])
        (ended : a.ended ≡ length es + 1) (of : IsEnded (phase es) a) where
      last_looked : (before : List Answer) → before ≡ own es → IsLooking a.asked → (front back : List Event) →
          es' ≡ front ++ back → a.began ≤ length front → HasJustMade plan front q before
      last_looked before is look front back cut since = elim (shorter es front back e cut) [
        | inl f ↦ subst (HasJustMade plan front q) (sym is)
            (k.looks front f.0 f.1 (ended_look (phase es) a k.sound of look (length front) since))
        | inr same ↦ subst (λ (g : List Event). HasJustMade plan g q before) (sym same) (record {
          made = ap updates_among more ∙ look_more (own es) a look ∙ ap updates_among (sym is);
          none = subst HasNoUpdate (sym idle) tt;
        })
      ]

      when_ends : Known es'
      when_ends = record {
        sound = subst IsSound (sym (at_rest (seat_in (at es') q) idle)) tt;
        looked = λ before after b is look front back cut since until.
            elim (in_longer (own es) before after b a (sym more ∙ is)) [
              | inl f ↦ old_looked before f.after b f.is look front back cut since until
              | inr l ↦ last_looked before l.front (subst (λ (c : Answer). IsLooking c.asked) l.same look) front back
                  cut (subst (λ (c : Answer). c.began ≤ length front) l.same since)
            ];
        looks = λ front back cut look. absurd (subst (λ (p : Phase). IsLookedAt p (length front))
            (at_rest (seat_in (at es') q) idle) look);
        past = λ before after b is. elim (in_longer (own es) before after b a (sym more ∙ is)) [
          | inl f ↦ (let p = k.past before f.after b f.is in let l = long in omega (arith, p, l))
          | inr l ↦ (let s = ap (λ (c : Answer). c.ended) l.same in let n = long in omega (arith, s, n, ended))
        ];
      }

    next : Passes q (at es) (at es') → Known es'
    next (stays ph same) = when_stays ph same
    next (begins idle begun same) = when_begins idle (subst (IsBegun (phase es')) clock begun) same
    next (ends a idle more ended of) = when_ends a idle more (ended ∙ ap (λ (n : ℕ). n + 1) clock) of

  -- ---- runs

  -- so many events have come
  clock_is : (es : List Event) → IsRun plan es → (at es).clock ≡ length es
  clock_is es run =
      (spent_follow plan run.opened [] es (opening_world plan) (spent_first plan run.opened) run.follow).seen.clock

  all_more : (rest es : List Event) → IsRun plan (es ++ rest) → Known es → Known (es ++ rest)
  all_more [] es run k = subst Known (sym (append-nil es)) k
  all_more (e ∷ rest) es run k =
      let first = run_first plan es (e ∷ rest) run in
      let follow = back_follows plan es (e ∷ rest) (opening_world plan) run.follow in
      let world : at (es ++ e ∷ []) ≡ happens plan (at es) e = after_both plan es (e ∷ []) (opening_world plan) in
      let long = (owned_holds plan es first).long in
      let event = (event_happens plan (at es) long e follow.0).0 in
      let then : Known (es ++ e ∷ []) =
      next es e k (clock_is es first)
      (subst (Passes q (at es)) (sym world) (passes plan q (at es) (happens plan (at es) e) event)) in
      subst Known (append_assoc es (e ∷ []) rest)
      (all_more rest (es ++ e ∷ []) (subst (IsRun plan) (sym (append_assoc es (e ∷ []) rest)) run) then)

  nothing_before : (xs ys : List Event) → [] ≡ xs ++ ys → xs ≡ []
  nothing_before [] ys e = refl
  nothing_before (x ∷ xs) ys e = absurd (nothing_is_more x (xs ++ ys) e)

  -- each seat opens idle
  opens_idle : (seats : List ℕ) → (i : ℕ) →
      (get_or (map (opening_seat plan) seats) i nobody).stand ≡ S.Idle
  opens_idle [] i = refl
  opens_idle (s ∷ seats) zero = refl
  opens_idle (s ∷ seats) (suc i) = opens_idle seats i

  idle_first : (seat_in (at []) q).stand ≡ S.Idle
  idle_first = opens_idle (range_with_len 0 (holders_of plan.settings)) q

  no_answer : (before after : List Answer) (a : Answer) → own [] ≡ before ++ a ∷ after → ⊥
  no_answer before after a is =
      (let h = ap length is in let l = length-append before (a ∷ after) in absurd (omega (arith, h, l)))

  at_first : Known []
  at_first = record {
    sound = subst IsSound (sym (at_rest (seat_in (at []) q) idle_first)) tt;
    looked = λ before after a is look front back cut since until. absurd (no_answer before after a is);
    looks = λ front back cut look. absurd (subst (λ (p : Phase). IsLookedAt p (length front))
        (at_rest (seat_in (at []) q) idle_first) look);
    past = λ before after a is. absurd (no_answer before after a is);
  }

  known : (es : List Event) → IsRun plan es → Known es
  known es run = all_more es [] run at_first

-- ---- THE RESULTS

pub looks_are_in_turn : LooksAreInTurn
looks_are_in_turn plan events run q before after a is look front back cut since until =
    (known plan q events run).looked before after a is look front back cut since until
