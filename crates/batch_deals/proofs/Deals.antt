-- What holds of all calls holds of each seat's share.
use Rattle.std.proofs.Common.{◌≡◌, ℕ, ◌<◌, ◌≤◌, ◌+◌, Bool, List, [], ◌∷◌, length, map, filter, get_or, sym, ap, subst, ◌∙◌, arith, vec_len, Vec, Global}
use Rattle.std.specs.Prelude.{All, Option, Some, None}
use Rattle.std.specs.List.{enumerate_from, range_with_len}
use Rattle.std.proofs.lemmas.List.{length-map, length-replicate}
use Rattle.std.proofs.lemmas.List.Sums.{count_by-le-length, length-filter}
use Rattle.std.proofs.lemmas.List.Elements.{All-nil, All-cons, All-head, All-tail, All-map, All-filter, All-weaker}
use Rattle.std.proofs.lemmas.List.FromFn.{length-enumerate_from, length-map-range_with_len}
use Rattle.hash_bits.specs.declared.hashing.Hashing.{Hashing}
use Rattle.step_counts.specs.declared.rows.SeatRows.{SeatRows}
use Rattle.step_counts.specs.declared.settings.Settings.{Settings}
use Rattle.plain_map.specs.declared.calls.Call.{Call}
use Rattle.plain_map.specs.declared.keys.Pair.{Pair}
use Rattle.table_model.specs.Needs.{batch_rows_of}
use Rattle.plain_map.specs.Calls.{is_update}
use Rattle.trace_share.specs.declared.deals.Share.{Share}
use Rattle.trace_share.specs.Deal.{makes, calls_of, dealt}
use Rattle.batch_rows.specs.declared.demand.Demand.{Demand}
use Rattle.batch_rows.specs.BatchRows.{rows_of, rules_in, splits_in_calls, updates_in_calls}
use Rattle.batch_rows.specs.Demands.{IsDemandOf}

-- there is a share for each seat
pub long_dealt : (share : Share) (seats : ℕ) (calls : List (ℕ × Call)) → length (dealt share seats calls) ≡ seats
unfolding dealt
long_dealt share seats calls = length-map-range_with_len (calls_of share seats calls) 0 seats

-- what holds of the calls of every seat
dealt_all : (share : Share) (seats : ℕ) (calls : List (ℕ × Call)) (P : List (ℕ × Call) → Type 0) →
    ((seat : ℕ) → P (calls_of share seats calls seat)) → All P (dealt share seats calls)
unfolding dealt
dealt_all share seats calls P each =
    All-map P (calls_of share seats calls) (range_with_len 0 seats)
    (λ k d less. each (get_or (range_with_len 0 seats) k d))

-- a seat has no more calls than there are
few_of : (share : Share) (seats : ℕ) (calls : List (ℕ × Call)) (seat : ℕ) →
    length (calls_of share seats calls seat) ≤ length calls
unfolding calls_of
few_of share seats calls seat =
    let placed : List (ℕ × (ℕ × Call)) = enumerate_from 0 calls in
    let test : ℕ × (ℕ × Call) → Bool = makes share seats (length calls) seat in
    omega (
      arith,
      length-map (filter test placed) (λ (p : ℕ × (ℕ × Call)). p.1),
      length-filter test placed,
      count_by-le-length test placed,
      length-enumerate_from 0 calls,
    )

pub dealt_few : (share : Share) (seats : ℕ) (calls : List (ℕ × Call)) →
    All (λ (s : List (ℕ × Call)). length s ≤ length calls) (dealt share seats calls)
dealt_few share seats calls =
    dealt_all share seats calls (λ (s : List (ℕ × Call)). length s ≤ length calls) (few_of share seats calls)

-- each of them is one of all
all_placed : (P : ℕ × Call → Type 0) (n : ℕ) (calls : List (ℕ × Call)) → All P calls →
    All (λ (p : ℕ × (ℕ × Call)). P p.1) (enumerate_from n calls)
all_placed P n [] all = All-nil (λ (p : ℕ × (ℕ × Call)). P p.1)
all_placed P n (call ∷ calls) all =
    All-cons (λ (p : ℕ × (ℕ × Call)). P p.1) (n, call) (enumerate_from (n + 1) calls) (All-head P call calls all)
    (all_placed P (n + 1) calls (All-tail P call calls all))

all_of : (P : ℕ × Call → Type 0) (share : Share) (seats : ℕ) (calls : List (ℕ × Call)) (seat : ℕ) → All P calls →
    All P (calls_of share seats calls seat)
unfolding calls_of
all_of P share seats calls seat all =
    All-map P (λ (p : ℕ × (ℕ × Call)). p.1) (filter (makes share seats (length calls) seat) (enumerate_from 0 calls))
    (All-filter (makes share seats (length calls) seat) (λ (p : ℕ × (ℕ × Call)). P p.1) (enumerate_from 0 calls)
    (all_placed P 0 calls all))

pub dealt_hold : (P : ℕ × Call → Type 0) (share : Share) (seats : ℕ) (calls : List (ℕ × Call)) → All P calls →
    All (λ (s : List (ℕ × Call)). All P s) (dealt share seats calls)
dealt_hold P share seats calls all =
    dealt_all share seats calls (λ (s : List (ℕ × Call)). All P s) (λ seat. all_of P share seats calls seat all)

-- of lists that are held
pub of_items : (P : List (ℕ × Call) → Type 0) (shares : List (Vec (ℕ × Call) Global)) →
    All P (map (λ (share : Vec (ℕ × Call) Global). share.items) shares) →
    All (λ (share : Vec (ℕ × Call) Global). P share.items) shares
of_items P [] all = All-nil (λ (share : Vec (ℕ × Call) Global). P share.items)
of_items P (share ∷ shares) all =
    let items : List (List (ℕ × Call)) = map (λ (s : Vec (ℕ × Call) Global). s.items) shares in
    All-cons (λ (s : Vec (ℕ × Call) Global). P s.items) share shares (All-head P share.items items all)
    (of_items P shares (All-tail P share.items items all))

pub few_items : (limit : ℕ) (calls : List (ℕ × Call)) (share : Share) (seats : ℕ)
    (shares : List (Vec (ℕ × Call) Global)) → length calls < limit →
    map (λ (s : Vec (ℕ × Call) Global). s.items) shares ≡ dealt share seats calls →
    All (λ (s : Vec (ℕ × Call) Global). vec_len s < limit) shares
few_items limit calls share seats shares few is =
    let each = of_items (λ (s : List (ℕ × Call)). length s ≤ length calls) shares
    (subst (All (λ (s : List (ℕ × Call)). length s ≤ length calls)) (sym is) (dealt_few share seats calls)) in
    All-weaker (λ (s : Vec (ℕ × Call) Global). length s.items ≤ length calls)
    (λ (s : Vec (ℕ × Call) Global). vec_len s < limit) (λ s less. omega (arith, less, few, s.ok.0)) shares each

-- a seat makes no more updates than there are calls
pub few_updates : (limit : ℕ) (calls : List (ℕ × Call)) (share : Share) (seats : ℕ) (updates : List ℕ) →
    length calls < limit → updates ≡ map updates_in_calls (dealt share seats calls) →
    All (λ number. number < limit) updates
few_updates limit calls share seats updates few is =
    subst (All (λ number. number < limit)) (sym is)
    (All-map (λ number. number < limit) updates_in_calls (dealt share seats calls)
    (All-weaker (λ (s : List (ℕ × Call)). length s ≤ length calls)
    (λ (s : List (ℕ × Call)). updates_in_calls s < limit)
    (λ s less. omega (arith, less, few, count_by-le-length (λ (asked : ℕ × Call). is_update asked.1) s))
    (dealt share seats calls) (dealt_few share seats calls)))

-- what is asked of a table by these shares is asked by the seats that they are dealt to
pub demand_dealt : (calls : List (ℕ × Call)) (share : Share) (seats : ℕ) (shares others : List (Vec (ℕ × Call) Global))
    (demand : Demand) → others ≡ shares →
    map (λ (s : Vec (ℕ × Call) Global). s.items) shares ≡ dealt share seats calls →
    IsDemandOf calls (map (λ (s : Vec (ℕ × Call) Global). s.items) others) demand →
    IsDemandOf calls (dealt share seats calls) demand
demand_dealt calls share seats shares others demand same is asked =
    subst (λ (lists : List (List (ℕ × Call))). IsDemandOf calls lists demand)
    (ap (map (λ (s : Vec (ℕ × Call) Global). s.items)) same ∙ is) asked

-- there are rows for each share
pub long_rows : (s : Settings) (hashing : Hashing) (given : Option SeatRows) (first : List Pair)
    (calls : List (ℕ × Call))
    (shares : List (List (ℕ × Call))) → length (rows_of s hashing given first calls shares) ≡ length shares
long_rows s hashing (Some rows) first calls shares = length-replicate (length shares) rows
long_rows s hashing None first calls shares =
    length-map shares (λ (share : List (ℕ × Call)).
    batch_rows_of s (updates_in_calls share) (splits_in_calls (rules_in s hashing) s.start first calls))
