-- Parts of a list next to one another, and bytes that are gathered in turns.
use Rattle.std.proofs.Common.{◌≡◌, ℕ, ◌+◌, ◌-◌, ◌≤◌, List, [], ◌++◌, length, take, drop, Option, Some, None, sym, ap, ◌∙◌, subst, arith, append_assoc, append-nil, length-append, length-take-le, length-drop}
use Rattle.std.specs.List.{slice_range, copy_within}
use Rattle.std.specs.Io.KnownBytes.{Consumes, IsAtEnd, Keeps}
use Rattle.std.proofs.Math.Seq.{take-append-add, drop-append_seam}
use Rattle.std.proofs.lemmas.List.{drop-drop, take-take, take_all, drop-append-le, take-append-le, nil_from_length, drop_all}
use Rattle.std.proofs.lemmas.List.Edits.{length-between}
use Rattle.std.proofs.lemmas.Slice.{between_is}
use Rattle.std.proofs.KnownBytes.{Consumes-nil, Consumes-kept, Consumes-trans}
use borrow.Rule.Slice.PartMut.{put_mid}
use Rattle.edge_traits.specs.Edge.{IsEndExactly}
use Rattle.byte_window.specs.Window.{Held, Gathers, IsDrained}

-- ---- parts of a list

-- a range that begins later is the rest of it
pub range_rest : (xs : List ℕ) (i j n : ℕ) → slice_range xs (i + n) j ≡ drop n (slice_range xs i j)
range_rest xs i j n = between_is xs (i + n) j ∙ sym (drop-drop n i (take j xs)) ∙ ap (drop n) (sym (between_is xs i j))

-- a range that ends earlier is its front
pub range_front : (xs : List ℕ) (i j n : ℕ) → i + n ≤ j → slice_range xs i (i + n) ≡ take n (slice_range xs i j)
range_front xs i j n within =
    let same : i + n - i ≡ n = omega arith in
    ap (λ k. take k (drop i xs)) same ∙ sym (take-take n (j - i) (drop i xs) (omega arith))

-- what stands behind a part after more was written behind it
pub range_grown : (xs ys taken : List ℕ) (i j k : ℕ) → i ≤ j → j ≤ length xs → take j xs ++ taken ≡ take k ys
    → slice_range xs i j ++ taken ≡ slice_range ys i k
range_grown xs ys taken i j k order inside grown =
    let long : i ≤ length (take j xs) = omega (arith, length-take-le j xs inside) in
    ap (λ l. l ++ taken) (between_is xs i j) ∙ sym (drop-append-le i (take j xs) taken long) ∙ ap (drop i) grown
    ∙ sym (between_is ys i k)

-- a part before which and in which nothing was written
pub range_kept : (xs ys : List ℕ) (i j : ℕ) → take j ys ≡ take j xs → slice_range ys i j ≡ slice_range xs i j
range_kept xs ys i j same = between_is ys i j ∙ ap (drop i) same ∙ sym (between_is xs i j)

-- what stands behind a place after the n bytes behind the first k were written over by these k
pub range_removed : (xs : List ℕ) (i k n j : ℕ) → i + k + n ≤ j → j ≤ length xs
    → slice_range (copy_within xs i (i + k) (i + n)) (i + n) j
    ≡ take k (slice_range xs i j) ++ drop (k + n) (slice_range xs i j)
range_removed xs i k n j within inside =
    let kept : List ℕ = take k (drop i xs) in
    let front : List ℕ = take (i + n) xs in
    let behind : List ℕ = drop (i + n + k) xs in
    let size : length kept ≡ k = length-take-le k (drop i xs) (omega (arith, length-drop i xs)) in
    let place : length front ≡ i + n = length-take-le (i + n) xs (omega arith) in
    let same : i + k - i ≡ k = omega arith in
    let there : copy_within xs i (i + k) (i + n) ≡ front ++ (kept ++ behind) =
    ap (λ m. (front ++ take m (drop i xs)) ++ drop (i + n + m) xs) same ∙ append_assoc front kept behind in
    let much : j - (i + n) ≡ k + (j - (i + n + k)) = omega arith in
    let long : k ≤ j - i = omega arith in
    let order : i + n + k ≡ i + (k + n) = omega arith in
    let moved : slice_range (copy_within xs i (i + k) (i + n)) (i + n) j
    ≡ take (k + (j - (i + n + k))) (kept ++ behind) =
    ap (λ l. take (j - (i + n)) (drop (i + n) l)) there
    ∙ ap (λ m. take (j - (i + n)) (drop m (front ++ (kept ++ behind)))) (sym place)
    ∙ ap (take (j - (i + n))) (drop-append_seam front (kept ++ behind))
    ∙ ap (λ m. take m (kept ++ behind)) much in
    let cut : take (k + (j - (i + n + k))) (kept ++ behind) ≡ kept ++ take (j - (i + n + k)) behind =
    ap (λ m. take (m + (j - (i + n + k))) (kept ++ behind)) (sym size)
    ∙ take-append-add kept behind (j - (i + n + k)) in
    let first : kept ≡ take k (slice_range xs i j) = sym (take-take k (j - i) (drop i xs) long) in
    let last : take (j - (i + n + k)) behind ≡ drop (k + n) (slice_range xs i j) =
    ap (λ m. take (j - m) (drop m xs)) order ∙ range_rest xs i j (k + n) in
    moved ∙ cut ∙ ap (λ l. l ++ take (j - (i + n + k)) behind) first
    ∙ ap (λ l. take k (slice_range xs i j) ++ l) last

-- what was put first into a list that was filled up
pub range_first : (xs ys zs : List ℕ) (n : ℕ) → ys ≡ take n xs ++ zs → length xs ≤ n → slice_range ys 0 (length xs) ≡ xs
range_first xs ys zs n is long =
    between_is ys 0 (length xs) ∙ ap (take (length xs)) (is ∙ ap (λ l. l ++ zs) (take_all n xs long))
    ∙ take-append-le (length xs) xs zs (omega arith) ∙ take_all (length xs) xs (omega arith)

-- what stands behind a place, without its last n bytes
pub range_cut : (xs : List ℕ) (i k n j : ℕ) → i + k + n ≡ j → j ≤ length xs
    → slice_range xs i (i + k) ≡ take k (slice_range xs i j) ++ drop (k + n) (slice_range xs i j)
range_cut xs i k n j all inside =
    let short : length (slice_range xs i j) ≤ k + n = omega (arith, length-between xs i j inside) in
    range_front xs i j k (omega arith) ∙ sym (append-nil (take k (slice_range xs i j)))
    ∙ ap (λ l. take k (slice_range xs i j) ++ l) (sym (drop_all (k + n) (slice_range xs i j) short))

-- the front of a list after a write of ys behind the first a
pub take_written : (xs ys : List ℕ) (a k n : ℕ) → a ≤ length xs → n ≤ length ys
    → take a xs ++ take n ys ≡ take (a + n) (put_mid a k xs ys)
take_written xs ys a k n inside few =
    let front = take a xs in
    let size : length front ≡ a = length-take-le a xs inside in
    let behind = ys ++ drop k (drop a xs) in
    ap (λ l. front ++ l) (sym (take-append-le n ys (drop k (drop a xs)) few)) ∙ sym (take-append-add front behind n)
    ∙ ap (λ m. take (m + n) (front ++ behind)) size

-- the front of a list that was filled up, as long as it was before
pub take_filled : (xs more : List ℕ) (n k : ℕ) → k ≡ length xs → k ≤ n → take k (take n xs ++ more) ≡ xs
take_filled xs more n k size long =
    ap (λ l. take k (l ++ more)) (take_all n xs (omega arith)) ∙ take-append-le k xs more (omega arith)
    ∙ take_all k xs (omega arith)

-- ---- a window's value

-- what a window holds, by its two parts
abbrev pub the_held : List ℕ → List ℕ → Held
the_held last unread = record { last = last; unread = unread }

-- it is one where the parts are
pub make_held : (a b c d : List ℕ) → a ≡ c → b ≡ d → the_held a b ≡ the_held c d
make_held a b c d p q = ap (λ (l : List ℕ). the_held l b) p ∙ ap (λ (l : List ℕ). the_held c l) q

-- ---- bytes gathered in turns

-- where nothing was taken
pub gathers_none : (old new : List ℕ) (before after : Option (List ℕ)) → new ≡ old → Keeps before after
    → Gathers old new before after
gathers_none old new before after same kept =
    record {
      taken = [];
      held = append-nil old ∙ sym same;
      told = Consumes-kept before before after [] (Consumes-nil before) kept;
    }

-- where one read followed another
pub gathers_more : (old mid new : List ℕ) (before between after : Option (List ℕ)) → Gathers old mid before between
    → Gathers mid new between after → Gathers old new before after
gathers_more old mid new before between after first second =
    record {
      taken = first.taken ++ second.taken;
      held = sym (append_assoc old first.taken second.taken) ∙ ap (λ l. l ++ second.taken) first.held ∙ second.held;
      told = Consumes-trans before between after first.taken second.taken first.told second.told;
    }

-- a read that gave nothing left nothing
pub gathered_none : (mid new : List ℕ) (between after : Option (List ℕ)) → Gathers mid new between after
    → length mid + 0 ≡ length new → new ≡ mid
gathered_none mid new between after read size =
    let none : read.taken ≡ [] = nil_from_length read.taken
    (omega (arith, length-append mid read.taken, ap length read.held)) in
    sym read.held ∙ ap (λ l. mid ++ l) none ∙ append-nil mid

-- where the source was at its end, all it had is held
all_held : (old mid taken : List ℕ) (before between : Option (List ℕ)) → Consumes before between taken
    → old ++ taken ≡ mid → IsAtEnd between → IsDrained old mid before
all_held old mid taken None between told held end = tt
all_held old mid taken (Some xs) None told held end = absurd told
all_held old mid taken (Some xs) (Some ys) told held end =
    ap (λ l. old ++ l) (told ∙ ap (λ l. taken ++ l) end ∙ append-nil taken) ∙ held

-- all is held once a read gives nothing
pub drained : (old mid new : List ℕ) (before between after : Option (List ℕ)) → Gathers old mid before between
    → Gathers mid new between after → length mid + 0 ≡ length new → IsAtEnd between
    → IsDrained old new before
drained old mid new before between after first second size end =
    subst (λ l. IsDrained old l before) (sym (gathered_none mid new between after second size))
    (all_held old mid first.taken before between first.told first.held end)

-- the end of the input, as a source tells it
pub at_end : (before : Option (List ℕ)) (count : ℕ) → IsEndExactly count before → count ≡ 0 → IsAtEnd before
at_end None count exactly none = tt
at_end (Some bytes) count exactly none = exactly.0 none

-- ---- answers
