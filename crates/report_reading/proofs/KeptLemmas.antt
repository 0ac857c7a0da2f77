-- What is kept in the end.
use Rattle.std.proofs.Common.{◌≡◌, ℕ, zero, suc, ◌+◌, ◌-◌, ◌^◌, ◌<◌, ◌≤◌, min, List, [], ◌∷◌, length, get_or, Option, Some, refl, sym, ap, ◌∙◌, arith}
use Rattle.std.specs.Prelude.{map}
use Rattle.std.proofs.Math.ListN.{set}
use Rattle.std.specs.Vec.{with_items}
use Rattle.std.specs.declared.vec.Vec.{Vec}
use Rattle.std.proofs.Common.{Global}
use Rattle.std.proofs.lemmas.List.{length-map, with_items_is}
use Rattle.std.specs.Prelude.{flat_map, slice_get, slice_index}
use Rattle.std.specs.Option.{option_map_or}
use Rattle.std.specs.List.{AllByRecursion}
use Rattle.std.proofs.lemmas.List.Elements.{recursion_from_All}
use Rattle.std.proofs.lemmas.Option.{slice_get-get_or}
use Rattle.plain_map.specs.declared.records.Pending.{Pending}
use Rattle.report_text.specs.declared.parts.Head.{Head}
use Rattle.report_told.specs.Told.{Entry, call, pending, order, Told}
use Rattle.report_told.specs.Rules.{IsEntry}
use Rattle.report_told.specs.Points.{answers_of, pending_in}
use Rattle.report_told.specs.declared.told.PendingLine.{PendingLine}
use Rattle.report_reading.specs.declared.answers.Answers.{Answers}
use Rattle.report_reading.specs.declared.entries.Entries.{Entries}
use Rattle.report_reading.specs.declared.kept.Kept.{Kept}
use Rattle.report_reading.specs.Answers.{AreAnswers}
use Rattle.report_reading.specs.Entries.{Holds, unnumbered}
use Rattle.report_reading.specs.Kept.{IsKept, next_number, with_number}
use Rattle.report_reading.proofs.AnswerLemmas.{few_answers}

-- the first so many elements mapped
abbrev pub mapped_to : {A : Type 0} → (A → A) → ℕ → List A → List A
mapped_to f zero xs = xs
mapped_to f (suc i) [] = []
mapped_to f (suc i) (x ∷ xs) = f x ∷ mapped_to f i xs

pub mapped_more : {A : Type 0} (f : A → A) (i : ℕ) (xs : List A) (d : A) → i < length xs →
    set (mapped_to f i xs) i (f (get_or (mapped_to f i xs) i d)) ≡ mapped_to f (suc i) xs
mapped_more f zero [] d inside = absurd (omega arith)
mapped_more f zero (x ∷ xs) d inside = refl
mapped_more f (suc i) [] d inside = absurd (omega arith)
mapped_more f (suc i) (x ∷ xs) d inside = ap (λ ys. f x ∷ ys) (mapped_more f i xs d (omega arith))

pub mapped_all : {A : Type 0} (f : A → A) (xs : List A) → mapped_to f (length xs) xs ≡ map f xs
mapped_all f [] = refl
mapped_all f (x ∷ xs) = ap (λ ys. f x ∷ ys) (mapped_all f xs)

-- Numbers of pending calls.

number_is : (kept : Answers) (all : List Entry) (seat : ℕ) → AreAnswers kept all → seat < 8 →
    length all < 2 ^ 32 - 1 → next_number kept.counts seat ≡ suc (answers_of seat all)
number_is kept all seat are low few =
    let inside : seat < length kept.counts = omega (arith, are.long) in
    let found : slice_get kept.counts seat ≡ Some (slice_index kept.counts seat) =
    slice_get-get_or kept.counts seat 0 inside in
    let count : slice_index kept.counts seat ≡ answers_of seat all = are.counts seat low in
    ap (λ (o : Option ℕ). option_map_or (λ n. min (n + 1) 4294967295) o 0) found
    ∙ omega (arith, count, few_answers seat all)

pending_numbered : (kept : Answers) (h : Head) (all es : List Entry) → AreAnswers kept all → h.seats ≤ 8 →
    length all < 2 ^ 32 - 1 → AllByRecursion (IsEntry h) es →
    map (with_number kept.counts) (flat_map unnumbered es) ≡ flat_map (pending_in all) es
pending_numbered kept h all [] are low few each = refl
pending_numbered kept h all (call told ∷ es) are low few each = pending_numbered kept h all es are low few each.1
pending_numbered kept h all (order packets ∷ es) are low few each = pending_numbered kept h all es are low few each.1
pending_numbered kept h all (pending told ∷ es) are low few each =
    let seat : told.seat < h.seats = each.0.1.seat_is in
    let number : next_number kept.counts told.seat ≡ suc (answers_of told.seat all) =
    number_is kept all told.seat are (omega arith) few in
    ap (λ (n : ℕ). with_this told n ∷ map (with_number kept.counts) (flat_map unnumbered es)) number
    ∙ ap (λ (us : List Pending). with_this told (suc (answers_of told.seat all)) ∷ us)
    (pending_numbered kept h all es are low few each.1)
  where
    with_this : PendingLine → ℕ → Pending
    with_this told n =
        record { seat = told.seat; number = n; packet = told.packet; call = told.call; seen = told.seen }

pub kept_is : (kept : Entries) (made : Kept) (told : Told) → Holds kept told.head told.entries →
    length told.entries < 2 ^ 32 - 1 → made.head ≡ kept.head → made.bound ≡ told.tail.bound →
    made.calls.items ≡ kept.answers.calls.items →
    made.pending.items ≡ map (with_number kept.answers.counts) kept.pending.items →
    made.order.items ≡ kept.order.items → made.pairs.items ≡ told.pairs → IsKept made told
kept_is kept made told holds few heads bound calls pendings orders pairs = record {
  head = heads ∙ holds.head_is;
  bound = bound;
  calls = calls ∙ holds.answers.calls;
  pending =
      pendings ∙ ap (map (with_number kept.answers.counts)) holds.pending
      ∙ pending_numbered kept.answers told.head told.entries told.entries holds.answers
      holds.in_range.settings.seats_in_range.1 few
      (recursion_from_All (IsEntry told.head) told.entries holds.are.each);
  order = orders ∙ holds.order;
  pairs = pairs;
}

with_this_number : Pending → ℕ → Pending
with_this_number u n = record { seat = u.seat; number = n; packet = u.packet; call = u.call; seen = u.seen }

-- one pending call more is numbered
pub numbered_more : (counts : List ℕ) (xs ys : List Pending) (i number : ℕ) (d : Pending) →
    ys ≡ mapped_to (with_number counts) i xs → i < length xs → number ≡ next_number counts (get_or ys i d).seat →
    set ys i (record {
      seat = (get_or ys i d).seat;
      number = number;
      packet = (get_or ys i d).packet;
      call = (get_or ys i d).call;
      seen = (get_or ys i d).seen;
    }) ≡ mapped_to (with_number counts) (i + 1) xs
unfolding with_this_number
numbered_more counts xs ys i number d are inside is =
    let next : i + 1 ≡ suc i = omega arith in
    ap (λ (n : ℕ). set ys i (with_this_number (get_or ys i d) n)) is
    ∙ ap (λ (zs : List Pending). set zs i (with_number counts (get_or zs i d))) are
    ∙ mapped_more (with_number counts) i xs d inside
    ∙ ap (λ (n : ℕ). mapped_to (with_number counts) n xs) (sym next)

pub numbered_all : (counts : List ℕ) (xs ys : List Pending) (i : ℕ) → ys ≡ mapped_to (with_number counts) i xs →
    i ≡ length xs → ys ≡ map (with_number counts) xs
numbered_all counts xs ys i are all =
    are ∙ ap (λ (n : ℕ). mapped_to (with_number counts) n xs) all ∙ mapped_all (with_number counts) xs

-- what is written over the elements of a vector is its elements
pub refilled : (v : Vec Pending Global) (read made : List Pending) (f : Pending → Pending) → read ≡ v.items →
    made ≡ map f read → (with_items v made).items ≡ map f v.items
refilled v read made f is mapped =
    let long : length made ≡ v.len =
    omega (arith, ap length mapped, length-map read f, ap length is, v.ok.0) in
    with_items_is v made long ∙ mapped ∙ ap (map f) is
