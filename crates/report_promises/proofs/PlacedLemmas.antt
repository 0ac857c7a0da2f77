-- The order that a report tells is its order: after, legal and with the same sessions.
use Rattle.std.proofs.Common.{◌≡◌, ℕ, zero, suc, ◌-◌, ◌<◌, ◌≤◌, ◌==◌, Bool, List, [], ◌∷◌, ◌++◌, map, length, get_or, take, refl, sym, ap, ◌∙◌, subst, arith}
use Rattle.std.specs.Prelude.{All, Contains, filter, flat_map, replicate, slice_index}
use Rattle.std.specs.List.{AllByRecursion}
use Rattle.std.proofs.lemmas.List.{get_or-map, length-map}
use Rattle.std.proofs.lemmas.List.Elements.{All-append, All-contains_itself, All-filter, All-map, All-weaker, Contains-append_left, Contains-append_right, recursion_from_All}
use Rattle.std.proofs.lemmas.List.Sorted.{All-permutation}
use Rattle.plain_map.specs.declared.rules.Rules.{Rules}
use Rattle.plain_map.specs.declared.records.TheConstants.{MOST_SEATS}
use Rattle.plain_map.specs.declared.records.Record.{Record}
use Rattle.plain_map.specs.declared.records.Pending.{Pending}
use Rattle.plain_map.specs.PlainObject.{Sessions, map_after}
use Rattle.plain_map.specs.History.{Placed, answered, pending as waiting, After, IsAfter, Legal, Stands, Whole, number_of, packet_of, seat_of, seen_of, sessions_after}
use Rattle.report_told.specs.Rules.{times}
use Rattle.report_told.proofs.TimesLemmas.{filter_one}
use Rattle.trace_share.proofs.CutLemmas.{heads, tails}
use Rattle.list_laws.proofs.Cuts.{zero_at}
use Rattle.report_promises.proofs.ToldOf.{begun, placed_as, plain}

-- ---- each call of the order is the one call of its packet

-- all calls, those under way too
abbrev pub calls_of : List Record → List Pending → List Placed
calls_of records us = map answered records ++ map waiting us

-- calls as they are told have their packets
packets_kept : (seats : ℕ) (calls : List Placed) → map packet_of (map (placed_as seats) calls) ≡ map packet_of calls
packets_kept seats [] = refl
packets_kept seats (answered r ∷ calls) = ap (λ ps. r.packet ∷ ps) (packets_kept seats calls)
packets_kept seats (waiting u ∷ calls) = ap (λ ps. u.packet ∷ ps) (packets_kept seats calls)

-- so has one
packet_kept : (seats : ℕ) (placed : Placed) → packet_of (placed_as seats placed) ≡ packet_of placed
packet_kept seats (answered r) = refl
packet_kept seats (waiting u) = refl

-- the answered calls and those under way, as they are told
calls_as : (seats : ℕ) (records : List Record) (us : List Pending) →
    map answered (map (plain seats) records) ++ map waiting (map (begun seats) us)
    ≡ map (placed_as seats) (calls_of records us)
calls_as seats [] us = waits_as us
  where
    waits_as : (vs : List Pending) → map waiting (map (begun seats) vs) ≡ map (placed_as seats) (map waiting vs)
    waits_as [] = refl
    waits_as (v ∷ vs) = ap (λ ps. waiting (begun seats v) ∷ ps) (waits_as vs)
calls_as seats (r ∷ records) us = ap (λ ps. answered (plain seats r) ∷ ps) (calls_as seats records us)

-- the calls with a packet
abbrev pub with_packet : List Placed → (packet : ℕ) → List Placed
with_packet calls packet = filter (λ placed. packet_of placed == packet) calls

module _ (seats : ℕ) (calls : List Placed) (once : (packet : ℕ) → times packet (map packet_of calls) ≤ 1) where
  -- a call is the one call of its packet
  one_placed : (placed : Placed) → Contains calls placed →
      with_packet (map (placed_as seats) calls) (packet_of placed) ≡ placed_as seats placed ∷ []
  one_placed placed (i, inside, is) =
      let d : Placed = placed_as seats placed in
      let there : get_or (map (placed_as seats) calls) i d ≡ d =
      get_or-map (placed_as seats) calls i placed d inside ∙ ap (placed_as seats) is in
      filter_one packet_of (packet_of placed) (map (placed_as seats) calls) i d
      (subst (λ (packets : List ℕ). times (packet_of placed) packets ≤ 1) (sym (packets_kept seats calls))
      (once (packet_of placed)))
      (subst (λ (n : ℕ). i < n) (sym (length-map calls (placed_as seats))) inside)
      (ap packet_of there ∙ packet_kept seats placed)
      ∙ ap (λ (p : Placed). p ∷ []) there

  -- so an order's packets tell its calls
  each_placed : (order : List Placed) → AllByRecursion (Contains calls) order →
      flat_map (with_packet (map (placed_as seats) calls)) (map packet_of order) ≡ map (placed_as seats) order
  each_placed [] all = refl
  each_placed (placed ∷ order) all =
      ap (λ ps. ps ++ flat_map (with_packet (map (placed_as seats) calls)) (map packet_of order))
      (one_placed placed all.0)
      ∙ ap (λ ps. placed_as seats placed ∷ ps) (each_placed order all.1)

-- what stands in a whole order is one of the calls
all_known : (records : List Record) (us effects : List Pending) (order : List Placed) →
    All (Contains us) effects → Whole records effects order → All (Contains (calls_of records us)) order
all_known records us effects order of whole =
    All-permutation (Contains calls) (map answered records ++ map waiting effects) order whole
    (All-append (Contains calls) (map answered records) (map waiting effects)
    (All-weaker (Contains (map answered records)) (Contains calls)
    (λ p there. Contains-append_left (map answered records) (map waiting us) p there) (map answered records)
    (All-contains_itself (map answered records)))
    (All-map (Contains calls) waiting effects
    (All-weaker (Contains us) (λ (u : Pending). Contains calls (waiting u)) waits effects of)))
  where
    calls : List Placed
    calls = calls_of records us

    waits : (u : Pending) → Contains us u → Contains calls (waiting u)
    waits u there =
        Contains-append_right (map answered records) (map waiting us) (waiting u) (
          there.0,
          subst (λ (n : ℕ). there.0 < n) (sym (length-map us waiting)) there.1,
          get_or-map waiting us there.0 u (waiting u) there.1 ∙ ap waiting there.2,
        )

-- so the order is told as it is
pub order_as : (seats : ℕ) (records : List Record) (us : List Pending) (took : Pending → Bool) (order : List Placed) →
    ((packet : ℕ) → times packet (map packet_of (calls_of records us)) ≤ 1) →
    Whole records (filter took us) order →
    flat_map (with_packet (map answered (map (plain seats) records) ++ map waiting (map (begun seats) us)))
    (map packet_of order) ≡ map (placed_as seats) order
order_as seats records us took order once whole =
    ap (λ (calls : List Placed). flat_map (with_packet calls) (map packet_of order)) (calls_as seats records us)
    ∙ each_placed seats (calls_of records us) once order
    (recursion_from_All (Contains (calls_of records us)) order
    (all_known records us (filter took us) order (All-filter took (Contains us) us (All-contains_itself us)) whole))

-- ---- the points

-- as they are told, calls have the replies that they had
pub legal_told : (seats : ℕ) (rules : Rules) (m : Sessions) (order : List Placed) → Legal rules m order →
    Legal rules m (map (placed_as seats) order)
legal_told seats rules m [] legal = tt
legal_told seats rules m (answered r ∷ later) legal =
    (legal.0, legal_told seats rules (map_after rules m r.call) later legal.1)
legal_told seats rules m (waiting u ∷ later) legal =
    (tt, legal_told seats rules (map_after rules m u.call) later legal.1)

-- and leave the sessions that they left
pub sessions_told : (seats : ℕ) (rules : Rules) (m : Sessions) (order : List Placed) →
    sessions_after rules m (map (placed_as seats) order) ≡ sessions_after rules m order
sessions_told seats rules m [] = refl
sessions_told seats rules m (answered r ∷ later) = sessions_told seats rules (map_after rules m r.call) later
sessions_told seats rules m (waiting u ∷ later) = sessions_told seats rules (map_after rules m u.call) later

-- where a mapped list is cut, the list is
record IsCutSo (seats : ℕ) (order before later : List Placed) (placed : Placed) : Type 0 where
  own_before : List Placed
  own : Placed
  own_later : List Placed
  cut : order ≡ own_before ++ own ∷ own_later
  before_is : before ≡ map (placed_as seats) own_before
  placed_is : placed ≡ placed_as seats own

-- each cut of the mapped list is one of the list
cut_so : (seats : ℕ) (order before later : List Placed) (placed : Placed) →
    map (placed_as seats) order ≡ before ++ placed ∷ later → IsCutSo seats order before later placed
cut_so seats [] [] later placed is = absurd (omega (arith, ap length is))
cut_so seats [] (b ∷ before) later placed is = absurd (omega (arith, ap length is))
cut_so seats (p ∷ order) [] later placed is = record {
  own_before = [];
  own = p;
  own_later = order;
  cut = refl;
  before_is = refl;
  placed_is = sym (heads (placed_as seats p) placed (map (placed_as seats) order) later is);
}
cut_so seats (p ∷ order) (b ∷ before) later placed is =
    let next = cut_so seats order before later placed
    (tails (placed_as seats p) b (map (placed_as seats) order) (before ++ placed ∷ later) is) in
    record {
      own_before = p ∷ next.own_before;
      own = next.own;
      own_later = next.own_later;
      cut = ap (λ ps. p ∷ ps) next.cut;
      before_is =
          ap (λ (q : Placed). q ∷ before)
          (sym (heads (placed_as seats p) b (map (placed_as seats) order) (before ++ placed ∷ later) is))
          ∙ ap (λ ps. placed_as seats p ∷ ps) next.before_is;
      placed_is = next.placed_is;
    }

-- no more is told to have been seen
count_trimmed : (seats others : ℕ) (counts : List ℕ) (seat : ℕ) →
    slice_index (take seats counts ++ replicate others 0) seat ≤ slice_index counts seat
count_trimmed zero others counts seat = omega (arith, zero_at others seat)
count_trimmed (suc seats) others [] seat = omega (arith, zero_at others seat)
count_trimmed (suc seats) others (n ∷ counts) zero = omega arith
count_trimmed (suc seats) others (n ∷ counts) (suc seat) = count_trimmed seats others counts seat

-- so it is for what a call had seen
seen_as : (seats : ℕ) (placed : Placed) (seat : ℕ) → seen_of (placed_as seats placed) seat ≤ seen_of placed seat
seen_as seats (answered r) seat = count_trimmed seats (MOST_SEATS - seats) r.seen.counts seat
seen_as seats (waiting u) seat = count_trimmed seats (MOST_SEATS - seats) u.seen.counts seat

-- as it is told, a call has its seat
seat_as : (seats : ℕ) (placed : Placed) → seat_of (placed_as seats placed) ≡ seat_of placed
seat_as seats (answered r) = refl
seat_as seats (waiting u) = refl

-- and its number
number_as : (seats : ℕ) (placed : Placed) → number_of (placed_as seats placed) ≡ number_of placed
number_as seats (answered r) = refl
number_as seats (waiting u) = refl

-- a call that stands is told as standing
stands_as : (seats : ℕ) (order : List Placed) (seat number : ℕ) → Stands order seat number →
    Stands (map (placed_as seats) order) seat number
stands_as seats order seat number (k, placed, inside, is, (of, named)) = (
  k,
  placed_as seats placed,
  subst (λ (n : ℕ). k < n) (sym (length-map order (placed_as seats))) inside,
  get_or-map (placed_as seats) order k placed (placed_as seats placed) inside ∙ ap (placed_as seats) is,
  (seat_as seats placed ∙ of, number_as seats placed ∙ named),
)

-- what stands before a call is told before it
after_as : (seats : ℕ) (before : List Placed) (placed : Placed) → IsAfter before placed →
    IsAfter (map (placed_as seats) before) (placed_as seats placed)
after_as seats before placed after = record {
  own = λ number least below.
      subst (λ (s : ℕ). Stands (map (placed_as seats) before) s number) (sym (seat_as seats placed))
      (stands_as seats before (seat_of placed) number
      (after.own number least (omega (arith, below, number_as seats placed))));
  seen = λ seat number inside least seen.
      stands_as seats before seat number
      (after.seen seat number inside least (omega (arith, seen, seen_as seats placed seat)));
}

-- an order that is after is told so
pub after_told : (seats : ℕ) (order : List Placed) → After order → After (map (placed_as seats) order)
after_told seats order after before later placed is =
    let so = cut_so seats order before later placed is in
    subst (λ (b : List Placed). IsAfter b placed) (sym so.before_is)
    (subst (λ (p : Placed). IsAfter (map (placed_as seats) so.own_before) p) (sym so.placed_is)
    (after_as seats so.own_before so.own (after so.own_before so.own_later so.own so.cut)))
