-- The outcomes of all seats, put together call by call.
use Rattle.std.proofs.Common.{◌≡◌, ℕ, ◌<◌, ◌≤◌, ◌+◌, Bool, true, false, cond, ◌==◌, List, [], ◌∷◌, ◌++◌, length, map, take, drop, set, get_or, filter, replicate, refl, sym, ap, ◌∙◌, subst, inl, inr, zero-add, length-append, arith, Vec, Global}
use Rattle.std.specs.Prelude.{All}
use Rattle.std.specs.List.{enumerate_from}
use Rattle.std.proofs.lemmas.Bool.{cases_eq}
use Rattle.std.proofs.lemmas.List.{append-nil, get_or-set_other, get_or-set_same, length-map, map-append, take_all, take_more, get_or-map, take-append-drop}
use Rattle.std.proofs.lemmas.List.Elements.{All-nil, All-push, filter-append}
use Rattle.std.proofs.lemmas.List.FromFn.{get_or-map-range_with_len, length-enumerate_from, length-map-range_with_len}
use Rattle.plain_map.specs.declared.calls.Call.{Call}
use Rattle.trace_share.specs.declared.deals.Share.{Share}
use Rattle.trace_share.specs.declared.outcome.Outcome.{Outcome}
use Rattle.trace_share.specs.Deal.{makes, calls_of, dealt}
use Rattle.trace_share.specs.Outcomes.{asked_in}
use Rattle.trace_share.proofs.DealLemmas.{calls_until, map_cond, other_is, same_is, until_more}
use Rattle.batch_runner.specs.Served.{AreInPacketOrder}

-- the calls of a seat from the i-th of all on
unfoldable pub calls_from : Share → ℕ → List (ℕ × Call) → ℕ → ℕ → List (ℕ × Call)
calls_from share seats calls i seat =
    map (λ placed. placed.1) (filter (makes share seats (length calls) seat) (drop i (enumerate_from 0 calls)))

-- are what is left of its calls
cut_at : (share : Share) (seats : ℕ) (calls : List (ℕ × Call)) (i seat : ℕ) →
    calls_of share seats calls seat ≡ calls_until share seats calls i seat ++ calls_from share seats calls i seat
unfolding calls_of calls_until calls_from
cut_at share seats calls i seat =
    let placed : List (ℕ × (ℕ × Call)) = enumerate_from 0 calls in
    let test : ℕ × (ℕ × Call) → Bool = makes share seats (length calls) seat in
    let last : ℕ × (ℕ × Call) → ℕ × Call = λ p. p.1 in
    ap (λ (ps : List (ℕ × (ℕ × Call))). map last (filter test ps)) (sym (take-append-drop i placed))
    ∙ ap (map last) (filter-append test (take i placed) (drop i placed))
    ∙ map-append last (filter test (take i placed)) (filter test (drop i placed))

-- before the first call there is none, and after the last one all
until_none : (share : Share) (seats : ℕ) (calls : List (ℕ × Call)) (seat : ℕ) →
    calls_until share seats calls 0 seat ≡ []
unfolding calls_until
until_none share seats calls seat = refl

until_all : (share : Share) (seats : ℕ) (calls : List (ℕ × Call)) (i seat : ℕ) → length calls ≤ i →
    calls_until share seats calls i seat ≡ calls_of share seats calls seat
unfolding calls_until calls_of
until_all share seats calls i seat past =
    let size : length (enumerate_from 0 calls) ≡ length calls = length-enumerate_from 0 calls in
    ap (λ (placed : List (ℕ × (ℕ × Call))).
    map (λ (p : ℕ × (ℕ × Call)). p.1) (filter (makes share seats (length calls) seat) placed))
    (take_all i (enumerate_from 0 calls) (omega arith))

-- what stands behind a front is the next
next_of : {A : Type 0} (front back : List A) (x d : A) → get_or (front ++ x ∷ back) (length front) d ≡ x
next_of [] back x d = refl
next_of (y ∷ front) back x d = next_of front back x d

-- the logs of seats that made what was dealt to them
abbrev pub AreOf : Share → (seats : ℕ) → List (ℕ × Call) → List (List Outcome) → Type 0
AreOf share seats calls logs = map (λ (log : List Outcome). map asked_in log) logs ≡ dealt share seats calls

many_logs : (share : Share) (seats : ℕ) (calls : List (ℕ × Call)) (logs : List (List Outcome)) →
    AreOf share seats calls logs → length logs ≡ seats
unfolding dealt
many_logs share seats calls logs are =
    sym (length-map logs (λ (log : List Outcome). map asked_in log)) ∙ ap length are
    ∙ length-map-range_with_len (calls_of share seats calls) 0 seats

pub log_asked : (share : Share) (seats : ℕ) (calls : List (ℕ × Call)) (logs : List (List Outcome)) (seat : ℕ) →
    AreOf share seats calls logs → seat < seats →
    map asked_in (get_or logs seat []) ≡ calls_of share seats calls seat
unfolding dealt
log_asked share seats calls logs seat are below =
    let f : List Outcome → List (ℕ × Call) = λ (log : List Outcome). map asked_in log in
    sym (get_or-map f logs seat [] [] (omega (arith, below, many_logs share seats calls logs are)))
    ∙ ap (λ (lists : List (List (ℕ × Call))). get_or lists seat []) are
    ∙ get_or-map-range_with_len (calls_of share seats calls) 0 seats seat seat [] below (zero-add seat)

-- the outcomes of the first calls: so many were taken of each log
pub record Until (share : Share) (seats : ℕ) (calls : List (ℕ × Call)) (logs : List (List Outcome)) (place : ℕ)
    (taken : List ℕ) (outcomes : List (ℕ × Outcome)) : Type 0 where
  pub asked : map (λ o. asked_in o.1) outcomes ≡ take place calls
  pub seats_are : All (λ o. o.0 < length logs) outcomes
  pub each : (seat : ℕ) → seat < seats →
      map (λ o. o.1) (filter (λ o. o.0 == seat) outcomes) ≡ take (get_or taken seat 0) (get_or logs seat [])
  pub counts : (seat : ℕ) → seat < seats → get_or taken seat 0 ≡ length (calls_until share seats calls place seat)

module _ (share : Share) (seats : ℕ) (calls : List (ℕ × Call)) (logs : List (List Outcome))
    (are : AreOf share seats calls logs) where
  pub many : length logs ≡ seats
  many = many_logs share seats calls logs are

  -- none yet
  pub until_start : (taken : List ℕ) → ((seat : ℕ) → get_or taken seat 0 ≡ 0) → Until share seats calls logs 0 taken []
  until_start taken none = record {
    asked = refl;
    seats_are = All-nil (λ (o : ℕ × Outcome). o.0 < length logs);
    each = λ seat below. ap (λ (n : ℕ). take n (get_or logs seat [])) (sym (none seat));
    counts = λ seat below. none seat ∙ sym (ap length (until_none share seats calls seat));
  }

  module _ (place : ℕ) (call : ℕ × Call) (taken : List ℕ) (outcomes : List (ℕ × Outcome)) (seat : ℕ)
      (u : Until share seats calls logs place taken outcomes) (inside : place < length calls)
      (is : call ≡ get_or calls place call) (below : seat < seats)
      (own : (s : ℕ) → s < seats → makes share seats (length calls) s (place, call) ≡ (seat == s)) where
    abbrev pub log : List Outcome
    log = get_or logs seat []

    abbrev pub front : List (ℕ × Call)
    front = calls_until share seats calls place seat

    abbrev pub back : List (ℕ × Call)
    back = calls_from share seats calls (place + 1) seat

    longer : calls_until share seats calls (place + 1) seat ≡ front ++ call ∷ []
    longer = until_more share seats calls place seat call true inside is (own seat below ∙ same_is seat seat refl)

    -- the seat's calls are cut at this one
    there : map asked_in log ≡ front ++ call ∷ back
    there = log_asked share seats calls logs seat are below ∙ cut_at share seats calls (place + 1) seat
        ∙ ap (λ (xs : List (ℕ × Call)). xs ++ back) longer ∙ joined front
      where
        joined : (xs : List (ℕ × Call)) → (xs ++ call ∷ []) ++ back ≡ xs ++ call ∷ back
        joined [] = refl
        joined (x ∷ xs) = ap (λ ys. x ∷ ys) (joined xs)

    -- so one is left in its log
    pub one_left : get_or taken seat 0 < length log
    one_left = omega (
      arith,
      u.counts seat below,
      ap length there,
      length-map log asked_in,
      length-append front (call ∷ back),
    )

    module _ (outcome : Outcome) (at : outcome ≡ get_or log (get_or taken seat 0) outcome) where
      -- which is of this call
      asked_is : asked_in outcome ≡ call
      asked_is = ap asked_in at
          ∙ sym (get_or-map asked_in log (get_or taken seat 0) outcome call one_left)
          ∙ (λ i. get_or (there i) (u.counts seat below i) call)
          ∙ next_of front back call call

      -- one more
      pub until_next : (now : List ℕ) (more : List (ℕ × Outcome)) → seat < length taken →
          now ≡ set taken seat (get_or taken seat 0 + 1) → more ≡ outcomes ++ (seat, outcome) ∷ [] →
          Until share seats calls logs (place + 1) now more
      until_next now more room now_is more_is = record {
        asked = ap (map asked_at) more_is ∙ map-append asked_at outcomes ((seat, outcome) ∷ [])
            ∙ (λ i. u.asked i ++ asked_is i ∷ [])
            ∙ sym (take_more calls place call inside ∙ ap (λ (x : ℕ × Call). take place calls ++ x ∷ []) (sym is));
        seats_are = subst (All (λ (o : ℕ × Outcome). o.0 < length logs)) (sym more_is)
            (All-push (λ (o : ℕ × Outcome). o.0 < length logs) outcomes (seat, outcome) u.seats_are
            (omega (arith, below, many)));
        each = λ s under. ap (λ (os : List (ℕ × Outcome)). kept s os) more_is ∙ grown s
            ∙ each_at s under ∙ ap (λ (t : List ℕ). take (get_or t s 0) (get_or logs s [])) (sym now_is);
        counts = λ s under. ap (λ (t : List ℕ). get_or t s 0) now_is ∙ count_at s under;
      }
        where
          asked_at : ℕ × Outcome → ℕ × Call
          asked_at o = asked_in o.1

          kept : ℕ → List (ℕ × Outcome) → List Outcome
          kept s os = map (λ (o : ℕ × Outcome). o.1) (filter (λ (o : ℕ × Outcome). o.0 == s) os)

          grown : (s : ℕ) → kept s (outcomes ++ (seat, outcome) ∷ [])
              ≡ kept s outcomes ++ cond (seat == s) (outcome ∷ []) []
          grown s =
              let test : ℕ × Outcome → Bool = λ (o : ℕ × Outcome). o.0 == s in
              let last : ℕ × Outcome → Outcome = λ (o : ℕ × Outcome). o.1 in
              ap (map last) (filter-append test outcomes ((seat, outcome) ∷ []))
              ∙ map-append last (filter test outcomes) (cond (seat == s) ((seat, outcome) ∷ []) [])
              ∙ ap (λ (os : List Outcome). kept s outcomes ++ os) (map_cond last (seat == s) (seat, outcome) [])

          then : List ℕ
          then = set taken seat (get_or taken seat 0 + 1)

          each_at : (s : ℕ) → s < seats →
              kept s outcomes ++ cond (seat == s) (outcome ∷ []) [] ≡ take (get_or then s 0) (get_or logs s [])
          each_at s under = elim (cases_eq seat s) [
            | inl same ↦ subst
                (λ (k : ℕ). kept k outcomes ++ cond (seat == k) (outcome ∷ []) []
                ≡ take (get_or then k 0) (get_or logs k []))
                same own_each
            | inr other ↦
                ap (λ (b : Bool). kept s outcomes ++ cond b (outcome ∷ []) []) (other_is seat s other)
                ∙ append-nil (kept s outcomes) ∙ u.each s under
                ∙ ap (λ (n : ℕ). take n (get_or logs s []))
                (sym (get_or-set_other taken seat s (get_or taken seat 0 + 1) 0 (λ (e : s ≡ seat). other (sym e))))
          ]
            where
              own_each : kept seat outcomes ++ cond (seat == seat) (outcome ∷ []) [] ≡ take (get_or then seat 0) log
              own_each =
                  ap (λ (b : Bool). kept seat outcomes ++ cond b (outcome ∷ []) []) (same_is seat seat refl)
                  ∙ ap (λ (os : List Outcome). os ++ outcome ∷ []) (u.each seat below)
                  ∙ ap (λ (x : Outcome). take (get_or taken seat 0) log ++ x ∷ []) at
                  ∙ sym (take_more log (get_or taken seat 0) outcome one_left)
                  ∙ ap (λ (n : ℕ). take n log) (sym (get_or-set_same taken seat (get_or taken seat 0 + 1) 0 room))

          count_at : (s : ℕ) → s < seats → get_or then s 0 ≡ length (calls_until share seats calls (place + 1) s)
          count_at s under = elim (cases_eq seat s) [
            | inl same ↦ subst
                (λ (k : ℕ). get_or then k 0 ≡ length (calls_until share seats calls (place + 1) k)) same
                (get_or-set_same taken seat (get_or taken seat 0 + 1) 0 room
                ∙ omega (arith, u.counts seat below, ap length longer, length-append front (call ∷ [])))
            | inr other ↦
                get_or-set_other taken seat s (get_or taken seat 0 + 1) 0 (λ (e : s ≡ seat). other (sym e))
                ∙ u.counts s under
                ∙ ap length (sym (until_more share seats calls place s call false inside is
                (own s under ∙ other_is seat s other) ∙ append-nil (calls_until share seats calls place s)))
          ]

  -- after the last call all are there
  pub until_end : (place : ℕ) (taken : List ℕ) (outcomes : List (ℕ × Outcome)) → length calls ≤ place →
      Until share seats calls logs place taken outcomes → AreInPacketOrder calls logs outcomes
  until_end place taken outcomes past u = record {
    asked = u.asked ∙ take_all place calls past;
    seats = u.seats_are;
    each = λ seat inside.
        let below : seat < seats = omega (arith, inside, many) in
        let asked = log_asked share seats calls logs seat are below in
        let full : length (get_or logs seat []) ≤ get_or taken seat 0 =
        omega (
          arith,
          u.counts seat below,
          ap length (until_all share seats calls place seat past),
          ap length asked,
          length-map (get_or logs seat []) asked_in,
        ) in
        u.each seat below ∙ take_all (get_or taken seat 0) (get_or logs seat []) full;
  }

-- a row of zeros
abbrev pub zeros : ℕ → List ℕ
zeros n = replicate n 0

-- a log among those that are held
pub held_log : (logs : List (Vec Outcome Global)) (seat : ℕ) (log : Vec Outcome Global) → seat < length logs →
    log ≡ get_or logs seat log → log.items ≡ get_or (map (λ (l : Vec Outcome Global). l.items) logs) seat []
held_log logs seat log inside is =
    ap (λ (l : Vec Outcome Global). l.items) is
    ∙ sym (get_or-map (λ (l : Vec Outcome Global). l.items) logs seat log [] inside)
