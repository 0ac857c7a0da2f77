-- The orders of batches, one after the other, are one.
use Rattle.std.proofs.Common.{◌≡◌, ℕ, ◌+◌, ◌-◌, ◌≤◌, List, [], ◌∷◌, ◌++◌, map, length, refl, inl, inr, sym, ap, ◌∙◌, subst, append-nil, append_assoc, length-append, arith}
use Rattle.std.specs.Prelude.{slice_index, slice_index_or, flat_map, IsPermutation}
use Rattle.std.specs.List.{Contains}
use Rattle.std.proofs.lemmas.List.{get_or-map, map-append, length-map}
use Rattle.std.proofs.lemmas.List.Sorted.{IsPermutation-refl, IsPermutation-map, IsPermutation-append, Contains-permutation}
use Rattle.std.proofs.lemmas.List.Elements.{Contains-append_left}
use Rattle.plain_map.specs.declared.records.Record.{Record}
use Rattle.plain_map.specs.declared.rules.Rules.{Rules}
use Rattle.plain_map.specs.PlainObject.{Sessions, map_after}
use Rattle.plain_map.specs.History.{Placed, answered, pending, seat_of, number_of, seen_of, Legal, After, IsAfter, Whole, Stands, sessions_after}
use Rattle.plain_map.proofs.OrderLemmas.{Legal-append, sessions_after-append}
use Rattle.batch_history.specs.Batches.{gone_on, placed_on, Batch, answered_then, all_records, all_calls, AreNumbered, AreInOrder, BatchesAreOneOrder, records_of, CallsAreNumberedOn}
use Rattle.batch_history.proofs.Cuts.{cut, MapCut, map_cut, split_at}
use Rattle.batch_history.proofs.GoneOn.{index_then, in_logs, seat_on, number_on, seen_on_is, AllStand, stands_either}

-- ---- the replies do not see numbers

-- an order stays legal where its numbers go on
legal_on : (rules : Rules) (sessions : Sessions) (before : List ℕ) (order : List Placed) →
    Legal rules sessions order → Legal rules sessions (map (placed_on before) order)
legal_on rules sessions before [] legal = tt
legal_on rules sessions before (answered r ∷ order) legal =
    (legal.0, legal_on rules (map_after rules sessions r.call) before order legal.1)
legal_on rules sessions before (pending u ∷ order) legal =
    (tt, legal_on rules (map_after rules sessions u.call) before order legal.1)

-- and leaves the same
sessions_on : (rules : Rules) (sessions : Sessions) (before : List ℕ) (order : List Placed) →
    sessions_after rules sessions (map (placed_on before) order) ≡ sessions_after rules sessions order
sessions_on rules sessions before [] = refl
sessions_on rules sessions before (answered r ∷ order) =
    sessions_on rules (map_after rules sessions r.call) before order
sessions_on rules sessions before (pending u ∷ order) =
    sessions_on rules (map_after rules sessions u.call) before order

-- so all are legal, one after the other
legal_all : (rules : Rules) (first last : Sessions) (batches : List Batch) (before : List ℕ) →
    AreInOrder rules first batches last → Legal rules first (all_calls before batches)
    × (sessions_after rules first (all_calls before batches) ≡ last)
legal_all rules first last [] before a = (tt, sym a)
legal_all rules first last (batch ∷ batches) before a =
    let now = map (placed_on before) batch.order in
    let then = all_calls (answered_then before batch) batches in
    let left : sessions_after rules first now ≡ sessions_after rules first batch.order =
    sessions_on rules first before batch.order in
    let rest = legal_all rules (sessions_after rules first batch.order) last batches
    (answered_then before batch) a.1 in (
      Legal-append rules first now then (legal_on rules first before batch.order a.0.legal)
          (subst (λ s. Legal rules s then) (sym left) rest.0),
      sessions_after-append rules first now then ∙ ap (λ s. sessions_after rules s then) left ∙ rest.1,
    )

-- ---- each call stands once

-- records whose numbers have gone on
records_on : (before : List ℕ) (rs : List Record) →
    map (placed_on before) (map answered rs ++ []) ≡ map answered (map (gone_on before) rs)
records_on before [] = refl
records_on before (r ∷ rs) = ap (λ ps. answered (gone_on before r) ∷ ps) (records_on before rs)

whole_all : (rules : Rules) (first last : Sessions) (batches : List Batch) (before : List ℕ) →
    AreInOrder rules first batches last →
    IsPermutation (map answered (all_records before batches)) (all_calls before batches)
whole_all rules first last [] before a = IsPermutation-refl []
whole_all rules first last (batch ∷ batches) before a =
    let rs = flat_map (λ log. log) batch.logs in
    let now = map (placed_on before) batch.order in
    let here : IsPermutation (map answered (map (gone_on before) rs)) now =
    subst (λ ps. IsPermutation ps now) (records_on before rs)
    (IsPermutation-map (placed_on before) (map answered rs ++ []) batch.order a.0.whole) in
    let rest = whole_all rules (sessions_after rules first batch.order) last batches (answered_then before batch)
    a.1 in
    subst (λ ps. IsPermutation ps (now ++ all_calls (answered_then before batch) batches))
    (sym (map-append answered (map (gone_on before) rs) (all_records (answered_then before batch) batches)))
    (IsPermutation-append (map answered (map (gone_on before) rs)) now
    (map answered (all_records (answered_then before batch) batches))
    (all_calls (answered_then before batch) batches) here rest)

-- ---- each call stands after what its caller had seen

-- the calls of a batch after those of the earlier ones
after_on : (before : List ℕ) (prior order : List Placed) → AllStand before prior → After prior → After order →
    After (prior ++ map (placed_on before) order)
after_on before prior order all earlier own front later placed e = elim (cut prior (map (placed_on before) order) front
    later placed e) [
      | inl old ↦ earlier front old.more placed old.is
      | inr new ↦ go new.more new.before_is (map_cut (placed_on before) order new.more later placed new.is)
    ]
  where
    -- a call of the batch
    here : (xs : List Placed) (p : Placed) → IsAfter xs p →
        IsAfter (prior ++ map (placed_on before) xs) (placed_on before p)
    here xs p a = record {
      own = λ number least less.
          let seat = seat_of p in
          subst (λ s. Stands (prior ++ map (placed_on before) xs) s number) (sym (seat_on before p))
          (stands_either before prior xs seat (number_of p - 1) all
          (λ n l few. a.own n l (omega (arith, l, few))) number least
          (omega (arith, less, number_on before p)));
      seen = λ seat number inside least few.
          stands_either before prior xs seat (seen_of p seat) all (λ n l f. a.seen seat n inside l f) number least
          (omega (arith, few, seen_on_is before p seat));
    }

    go : (more : List Placed) → front ≡ prior ++ more → MapCut (placed_on before) order more placed →
        IsAfter front placed
    go more front_is m = subst (λ xs. IsAfter xs placed) (sym (front_is ∙ ap (λ xs. prior ++ xs) m.front_is))
        (subst (IsAfter (prior ++ map (placed_on before) m.front)) (sym m.at_is)
        (here m.front m.at (own m.front m.back m.at m.is)))

-- an answered call stands among the calls
contains_map : (rs : List Record) (r : Record) → Contains rs r → Contains (map answered rs) (answered r)
contains_map rs r there = (
  there.0,
  omega (arith, there.1, length-map rs answered),
  get_or-map answered rs there.0 r (answered r) there.1 ∙ ap answered there.2,
)

-- then all that the seats have answered stand there
all_then : (before : List ℕ) (prior : List Placed) (batch : Batch) → AllStand before prior → AreNumbered batch.logs →
    Whole (flat_map (λ log. log) batch.logs) [] batch.order →
    AllStand (answered_then before batch) (prior ++ map (placed_on before) batch.order)
all_then before prior batch all numbered whole seat number least few =
    stands_either before prior batch.order seat (length (slice_index_or batch.logs seat [])) all own number least
    (omega (arith, few, index_then before batch seat))
  where
    own : (n : ℕ) → 1 ≤ n → n ≤ length (slice_index_or batch.logs seat []) → Stands batch.order seat n
    own n l most =
        let rs = flat_map (λ log. log) batch.logs in
        let s = split_at (slice_index_or batch.logs seat []) (n - 1) (omega (arith, l, most)) in
        let is = numbered seat s.front s.back s.at s.is in
        let placed : Contains (map answered rs ++ []) (answered s.at) =
        Contains-append_left (map answered rs) [] (answered s.at)
        (contains_map rs s.at (in_logs batch.logs seat s.at s.there)) in
        let there = Contains-permutation (map answered rs ++ []) batch.order (answered s.at) whole placed in
        (there.0, answered s.at, there.1, there.2, (is.1, omega (arith, is.0, s.place, l)))

-- so all calls of all batches stand so
after_all : (rules : Rules) (first last : Sessions) (batches : List Batch) (before : List ℕ) (prior : List Placed) →
    AreInOrder rules first batches last → AllStand before prior → After prior →
    After (prior ++ all_calls before batches)
after_all rules first last [] before prior a all earlier = subst After (sym (append-nil prior)) earlier
after_all rules first last (batch ∷ batches) before prior a all earlier =
    let now = map (placed_on before) batch.order in
    subst After (append_assoc prior now (all_calls (answered_then before batch) batches))
    (after_all rules (sessions_after rules first batch.order) last batches (answered_then before batch)
    (prior ++ now) a.1 (all_then before prior batch all a.0.numbered a.0.whole)
    (after_on before prior batch.order all earlier a.0.after))

-- before the first batch nothing stands
none_stand : AllStand [] []
none_stand seat number least few = absurd (omega (arith, least, few))

none_after : After []
none_after front later placed e = absurd (omega (arith, ap length e, length-append front (placed ∷ later)))

pub batches_are_one_order : BatchesAreOneOrder
batches_are_one_order rules first last batches a =
    let legal = legal_all rules first last batches [] a in
    record {
      legal = legal.0;
      after = after_all rules first last batches [] [] a none_stand none_after;
      whole = subst (λ ps. IsPermutation ps (all_calls [] batches))
          (sym (append-nil (map answered (all_records [] batches)))) (whole_all rules first last batches [] a);
      leaves = legal.1;
    }

-- ---- numbers go on

-- from those that were answered before
numbered_all : (rules : Rules) (first last : Sessions) (batches : List Batch) (before : List ℕ) (seat : ℕ)
    (front back : List Record) (r : Record) → AreInOrder rules first batches last →
    records_of before batches seat ≡ front ++ r ∷ back →
    (r.number ≡ slice_index before seat + length front + 1) × (r.seat ≡ seat)
numbered_all rules first last [] before seat front back r a e =
    absurd (omega (arith, ap length e, length-append front (r ∷ back)))
numbered_all rules first last (batch ∷ batches) before seat front back r a e =
    elim (cut (map (gone_on before) log) (records_of (answered_then before batch) batches seat) front back r e) [
      | inl old ↦ here (map_cut (gone_on before) log front old.more r old.is)
      | inr new ↦ later new.more new.before_is
          (numbered_all rules (sessions_after rules first batch.order) last batches (answered_then before batch) seat
          new.more back r a.1 new.is)
    ]
  where
    log : List Record
    log = slice_index_or batch.logs seat []

    here : MapCut (gone_on before) log front r →
        (r.number ≡ slice_index before seat + length front + 1) × (r.seat ≡ seat)
    here m =
        let is = a.0.numbered seat m.front m.back m.at m.is in
        let long : length front ≡ length m.front = ap length m.front_is ∙ length-map m.front (gone_on before) in (
          ap (λ (x : Record). x.number) m.at_is ∙ ap (λ s. slice_index before s + m.at.number) is.1
              ∙ omega (arith, is.0, long),
          ap (λ (x : Record). x.seat) m.at_is ∙ is.1,
        )

    later : (more : List Record) → front ≡ map (gone_on before) log ++ more →
        (r.number ≡ slice_index (answered_then before batch) seat + length more + 1) × (r.seat ≡ seat) →
        (r.number ≡ slice_index before seat + length front + 1) × (r.seat ≡ seat)
    later more front_is k = (
      omega (
        arith,
        k.0,
        index_then before batch seat,
        ap length front_is,
        length-append (map (gone_on before) log) more,
        length-map log (gone_on before),
      ),
      k.1,
    )

pub calls_are_numbered_on : CallsAreNumberedOn
calls_are_numbered_on rules first last batches seat front back r a e =
    (let is = numbered_all rules first last batches [] seat front back r a e in (omega (arith, is.0), is.1))
