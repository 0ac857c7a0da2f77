-- Outcomes as a line, and whose calls are by key.
use Rattle.std.proofs.Common.{◌≡◌, ℕ, ◌<◌, ◌≤◌, ◌%◌, Bool, true, false, cond, List, [], ◌∷◌, map, length, get_or, refl, inl, inr, sym, ap, subst, ◌∙◌, arith}
use Rattle.std.specs.Prelude.{filter, ◌==◌}
use Rattle.std.specs.List.{enumerate_from, range_with_len}
use Rattle.std.proofs.lemmas.Bool.{eq-eqb, eqb-true, cases_Bool, cases_lt}
use Rattle.std.proofs.lemmas.List.{length-map}
use Rattle.std.proofs.lemmas.List.FromFn.{get_or-map-range_with_len, length-map-range_with_len}
use Rattle.std.proofs.Math.ListN.{get_or-map, get_or-eq_default}
use Rattle.plain_map.specs.declared.calls.Call.{Call}
use Rattle.plain_map.specs.declared.records.Record.{Record}
use Rattle.plain_map.specs.Calls.{key_in}
use Rattle.list_laws.proofs.Lists.{In, in_cut, in_map, map_in, in_filter, filter_in}
use Rattle.trace_share.specs.declared.outcome.Outcome.{Outcome}
use Rattle.trace_share.specs.declared.outcome.Outcome.TheVariants.{Answered, Refused}
use Rattle.trace_share.specs.declared.deals.Share.TheVariants.{Flow}
use Rattle.trace_share.specs.Deal.{makes, calls_of, dealt, flow_hash}
use Rattle.trace_share.specs.Outcomes.{asked_in, records_in}
use Rattle.batch_laws.specs.Threads.{IsLineOf, OutcomesAreLines, FlowsAreByKey, OneSeatIsByKey}
use Rattle.batch_laws.proofs.Lines.{is_of}
use Rattle.list_laws.proofs.Places.{all_in}
use Rattle.list_laws.proofs.Places.{in_all}

-- ---- whose a call of a line is

-- it stands in its seat's log
in_its_log : (logs : List (List Record)) (line : List Record) (r : Record) → IsLineOf logs line → In r line →
    In r (get_or logs r.seat [])
in_its_log logs line r is i =
    subst (In r) (is r.seat) (filter_in (is_of r.seat) line r i (eq-eqb r.seat r.seat refl))

-- so its seat has a log
its_seat_below : (logs : List (List Record)) (line : List Record) (r : Record) → IsLineOf logs line → In r line →
    r.seat < length logs
its_seat_below logs line r is i = elim (cases_lt r.seat (length logs)) [
  | inl below ↦ below
  | inr beyond ↦ let none : In r [] = subst (In r) (get_or-eq_default logs [] (omega (arith, beyond)))
      (in_its_log logs line r is i) in elim none [ ]
]

pub one_seat_is_by_key : OneSeatIsByKey
one_seat_is_by_key logs line one is = all_in (λ (r : Record). r.seat ≡ 0) line
    (λ r i. omega (arith, its_seat_below logs line r is i, one))

-- ---- calls that are dealt by flow

-- a record was asked
pub asked_there : (log : List Outcome) (r : Record) → In r (records_in log) → In (r.packet, r.call) (map asked_in log)
asked_there [] r i = elim i [ ]
asked_there (Answered made ∷ log) r (inl is) = inl (ap (λ (x : Record). (x.packet, x.call)) is)
asked_there (Answered made ∷ log) r (inr i) = inr (asked_there log r i)
asked_there (Refused packet call full ∷ log) r i = inr (asked_there log r i)

-- a seat makes the calls of its flows
of_flow : (seats seat : ℕ) (calls : List (ℕ × Call)) (call : ℕ × Call) → In call (calls_of Flow seats calls seat) →
    flow_hash (key_in call.1) % seats ≡ seat
unfolding calls_of makes
of_flow seats seat calls call i =
    let placed = in_map (λ (p : ℕ × (ℕ × Call)). p.1)
    (filter (makes Flow seats (length calls) seat) (enumerate_from 0 calls)) call i in
    let made = in_filter (makes Flow seats (length calls) seat) (enumerate_from 0 calls) placed.0 placed.1 in
    let key : flow_hash (key_in placed.0.1.1) % seats ≡ seat =
    eqb-true (flow_hash (key_in placed.0.1.1) % seats) seat made.1 in
    ap (λ (c : ℕ × Call). flow_hash (key_in c.1) % seats) placed.2 ∙ key

-- so does each that has a share
of_share : (seats seat : ℕ) (calls : List (ℕ × Call)) (call : ℕ × Call) →
    In call (get_or (dealt Flow seats calls) seat []) → flow_hash (key_in call.1) % seats ≡ seat
unfolding dealt
of_share seats seat calls call i = elim (cases_lt seat seats) [
  | inl below ↦ of_flow seats seat calls call
      (subst (In call) (get_or-map-range_with_len (calls_of Flow seats calls) 0 seats seat seat [] below (omega arith))
      i)
  | inr beyond ↦ let none : In call [] = subst (In call) (get_or-eq_default
      (map (calls_of Flow seats calls) (range_with_len 0 seats)) []
      (omega (arith, beyond, length-map-range_with_len (calls_of Flow seats calls) 0 seats))) i in elim none [ ]
]

pub flows_are_by_key : FlowsAreByKey
flows_are_by_key seats calls logs line shares is = all_in
    (λ (r : Record). r.seat ≡ flow_hash (key_in r.call) % seats) line (λ r i.
    let log = get_or logs r.seat [] in
    let there : In r (records_in log) = subst (In r)
    (get_or-map (λ (log : List Outcome). records_in log) logs r.seat [])
    (in_its_log (map (λ log. records_in log) logs) line r is i) in
    sym (of_share seats r.seat calls (r.packet, r.call)
    (subst (In (r.packet, r.call))
    (sym (get_or-map (λ (log : List Outcome). map asked_in log) logs r.seat [])
    ∙ ap (λ lists. get_or lists r.seat []) shares) (asked_there log r there))))

-- ---- outcomes as a line

-- where none passes a test, none is left
filter_none : {A : Type 0} → (p : A → Bool) (xs : List A) → ((x : A) → In x xs → p x ≡ false) → filter p xs ≡ []
filter_none p [] fails = refl
filter_none p (x ∷ xs) fails =
    ap (λ b. cond b (x ∷ filter p xs) (filter p xs)) (fails x (inl refl))
    ∙ filter_none p xs (λ y i. fails y (inr i))

-- the outcomes of a seat
abbrev seat_is : ℕ → ℕ × Outcome → Bool
seat_is seat o = o.0 == seat

-- the records of a seat are those of its outcomes
records_of : (seat : ℕ) (outcomes : List (ℕ × Outcome)) →
    ((o : ℕ × Outcome) (r : Record) → In o outcomes → o.1 ≡ Answered r → r.seat ≡ o.0) →
    filter (is_of seat) (records_in (map (λ o. o.1) outcomes))
    ≡ records_in (map (λ o. o.1) (filter (seat_is seat) outcomes))
records_of seat [] own = refl
records_of seat ((at, Answered r) ∷ outcomes) own =
    go (at == seat) (ap (λ s. s == seat) (own (at, Answered r) r (inl refl) refl))
    (records_of seat outcomes (λ o x i. own o x (inr i)))
  where
    go : (b : Bool) → (r.seat == seat) ≡ b →
        filter (is_of seat) (records_in (map (λ o. o.1) outcomes))
        ≡ records_in (map (λ o. o.1) (filter (seat_is seat) outcomes)) →
        cond (r.seat == seat) (r ∷ filter (is_of seat) (records_in (map (λ o. o.1) outcomes)))
        (filter (is_of seat) (records_in (map (λ o. o.1) outcomes)))
        ≡ records_in (map (λ o. o.1) (cond b ((at, Answered r) ∷ filter (seat_is seat) outcomes)
        (filter (seat_is seat) outcomes)))
    go true e others = ap (λ b. cond b (r ∷ filter (is_of seat) (records_in (map (λ o. o.1) outcomes)))
        (filter (is_of seat) (records_in (map (λ o. o.1) outcomes)))) e ∙ ap (λ rs. r ∷ rs) others
    go false e others = ap (λ b. cond b (r ∷ filter (is_of seat) (records_in (map (λ o. o.1) outcomes)))
        (filter (is_of seat) (records_in (map (λ o. o.1) outcomes)))) e ∙ others
records_of seat ((at, Refused packet call full) ∷ outcomes) own =
    go (at == seat) (records_of seat outcomes (λ o x i. own o x (inr i)))
  where
    go : (b : Bool) →
        filter (is_of seat) (records_in (map (λ o. o.1) outcomes))
        ≡ records_in (map (λ o. o.1) (filter (seat_is seat) outcomes)) →
        filter (is_of seat) (records_in (map (λ o. o.1) outcomes))
        ≡ records_in (map (λ o. o.1) (cond b ((at, Refused packet call full) ∷ filter (seat_is seat) outcomes)
        (filter (seat_is seat) outcomes)))
    go true others = others
    go false others = others

-- an outcome with a record gives its record
record_there : (log : List Outcome) (r : Record) → In (Answered r) log → In r (records_in log)
record_there [] r i = elim i [ ]
record_there (Answered made ∷ log) r (inl is) = inl (let same : r ≡ made = cc in same)
record_there (Answered made ∷ log) r (inr i) = inr (record_there log r i)
record_there (Refused packet call full ∷ log) r (inl is) = (let no : Answered r ≡ Refused packet call full = is in cc)
record_there (Refused packet call full ∷ log) r (inr i) = record_there log r i

pub outcomes_are_lines : OutcomesAreLines
outcomes_are_lines logs outcomes numbered of seat =
    records_of seat outcomes own ∙ elim (cases_lt seat (length logs)) [
      | inl below ↦ ap (λ log. records_in log) (of.each seat below)
          ∙ sym (get_or-map (λ (log : List Outcome). records_in log) logs seat [])
      | inr beyond ↦ ap (λ os. records_in (map (λ o. o.1) os)) (none beyond)
          ∙ sym (get_or-eq_default (map (λ (log : List Outcome). records_in log) logs) []
          (omega (arith, beyond, length-map logs (λ (log : List Outcome). records_in log))))
    ]
  where
    -- an outcome's record stands in the log of its seat, and is the seat's
    own : (o : ℕ × Outcome) (r : Record) → In o outcomes → o.1 ≡ Answered r → r.seat ≡ o.0
    own o r i is =
        let below : o.0 < length logs = in_all (λ (p : ℕ × Outcome). p.0 < length logs) outcomes o of.seats i in
        let mapped : In o.1 (map (λ (p : ℕ × Outcome). p.1) (filter (seat_is o.0) outcomes)) =
        map_in (λ (p : ℕ × Outcome). p.1) (filter (seat_is o.0) outcomes) o
        (filter_in (seat_is o.0) outcomes o i (eq-eqb o.0 o.0 refl)) in
        let there : In (Answered r) (get_or logs o.0 []) =
        subst (λ x. In x (get_or logs o.0 [])) is (subst (In o.1) (of.each o.0 below) mapped) in
        let made : In r (get_or (map (λ (log : List Outcome). records_in log) logs) o.0 []) =
        subst (In r) (sym (get_or-map (λ (log : List Outcome). records_in log) logs o.0 []))
        (record_there (get_or logs o.0 []) r there) in
        let cut = in_cut r (get_or (map (λ (log : List Outcome). records_in log) logs) o.0 []) made in
        (numbered o.0 cut.0 cut.1 r cut.2).1

    -- a seat without a log has no outcomes
    none : length logs ≤ seat → filter (seat_is seat) outcomes ≡ []
    none beyond = filter_none (seat_is seat) outcomes (λ o i. elim (cases_Bool (seat_is seat o)) [
      | inr other ↦ other
      | inl same ↦ absurd (omega (
        arith,
        beyond,
        eqb-true o.0 seat same,
        in_all (λ (p : ℕ × Outcome). p.0 < length logs) outcomes o of.seats i,
      ))
    ])
