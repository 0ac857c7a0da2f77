-- The counts that a call saw, with commas between.
use Rattle.std.proofs.Common.{◌≡◌, ℕ, zero, suc, ◌+◌, ◌<◌, ◌≤◌, List, [], ◌∷◌, ◌++◌, codes, decimal, length, take, sym, ap, ◌∙◌, append_assoc, append-nil, arith}
use Rattle.std.specs.Prelude.{flat_map, slice_index}
use Rattle.std.specs.List.{join_by}
use Rattle.std.proofs.lemmas.List.{take_more}
use Rattle.std.proofs.lemmas.List.Concat.{flat_map-append}
use Rattle.batch_history.specs.Batches.{with_counts}
use Rattle.report_text.specs.Lines.{counts_word}

-- counts that are put together are no fewer
pub length-with_counts : (before counts : List ℕ) → length counts ≤ length (with_counts before counts)
length-with_counts [] counts = omega arith
length-with_counts (b ∷ before) [] = omega arith
length-with_counts (b ∷ before) (c ∷ counts) = omega (arith, length-with_counts before counts)

-- the word of one count
pub counts_first : (counts : List ℕ) → 0 < length counts → counts_word 1 counts ≡ decimal (slice_index counts 0)
unfolding counts_word
counts_first [] some = absurd (omega arith)
counts_first (count ∷ counts) some = append-nil (decimal count)

-- one count more
pub counts_more : (counts : List ℕ) (i : ℕ) → 0 < i → i < length counts →
    counts_word (i + 1) counts ≡ counts_word i counts ++ (codes "," ++ decimal (slice_index counts i))
unfolding counts_word
counts_more counts zero later inside = absurd (omega arith)
counts_more [] (suc i) later inside = absurd (omega arith)
counts_more (count ∷ counts) (suc i) later inside =
    let each : ℕ → List ℕ = λ n. codes "," ++ decimal n in
    let front : List ℕ = take i counts in
    let next : ℕ = slice_index counts i in
    let more : take (i + 1) counts ≡ front ++ next ∷ [] = take_more counts i 0 (omega arith) in
    let succ : suc (i + 1) ≡ suc i + 1 = omega arith in
    ap (λ (n : ℕ). join_by decimal (codes ",") (take n (count ∷ counts))) (sym succ)
    ∙ ap (λ (ns : List ℕ). decimal count ++ flat_map each ns) more
    ∙ ap (λ (text : List ℕ). decimal count ++ text)
    (flat_map-append each front (next ∷ [])
    ∙ ap (λ (text : List ℕ). flat_map each front ++ text) (append-nil (each next)))
    ∙ sym (append_assoc (decimal count) (flat_map each front) (each next))

-- so it is with the text before them
pub text_more : (start text comma new : List ℕ) (counts : List ℕ) (i : ℕ) → 0 < i → i < length counts →
    text ≡ start ++ counts_word i counts → comma ≡ text ++ codes "," → new ≡ comma ++ decimal (slice_index counts i) →
    new ≡ start ++ counts_word (i + 1) counts
text_more start text comma new counts i later inside so_far put digits =
    let next : List ℕ = decimal (slice_index counts i) in
    digits
    ∙ ap (λ (t : List ℕ). t ++ next) (put ∙ ap (λ (t : List ℕ). t ++ codes ",") so_far)
    ∙ append_assoc (start ++ counts_word i counts) (codes ",") next
    ∙ append_assoc start (counts_word i counts) (codes "," ++ next)
    ∙ ap (λ (t : List ℕ). start ++ t) (sym (counts_more counts i later inside))
