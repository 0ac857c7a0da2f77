-- A word of a part of the words.
use Rattle.std.proofs.Common.{◌≡◌, ℕ, ◌+◌, ◌*◌, ◌<◌, ◌≤◌, List, map, get_or, sym, ◌∙◌, arith}
use Rattle.std.specs.Prelude.{◌-◌}
use Rattle.std.specs.List.{range_with_len}
use Rattle.std.proofs.lemmas.List.{get_or-drop, get_or_past}
use Rattle.std.proofs.lemmas.List.FromFn.{get_or-map-range_with_len, length-map-range_with_len}
use Rattle.word_rows.specs.Shape.{Shape}
use Rattle.word_rows.specs.BucketWords.{seat_part}
use Rattle.table_model.specs.Reading.{applied_at, bucket_spelling}
use Rattle.step_counts.specs.declared.TheConstants.{ITEM_WORDS}

-- the number of a seat stands at two words for each seat before
pub applied_at-seat : (shape : Shape) (words : List ℕ) (row seat : ℕ) → seat < shape.settings.seats →
    get_or (bucket_spelling shape words row) (5 + ITEM_WORDS * shape.settings.items + seat * 2) 0
    ≡ applied_at shape words row seat
applied_at-seat shape words row seat inside =
    sym (get_or-map-range_with_len
    (λ s. get_or (seat_part shape.settings (bucket_spelling shape words row)) (s * 2) 0) 0 shape.settings.seats seat
    seat 0 inside (omega arith)
    ∙ get_or-drop (5 + ITEM_WORDS * shape.settings.items) (bucket_spelling shape words row) (seat * 2) 0)

-- and from the last seat on there is none
pub applied_at-past : (shape : Shape) (words : List ℕ) (row seat : ℕ) → shape.settings.seats ≤ seat →
    applied_at shape words row seat ≡ 0
applied_at-past shape words row seat past =
    let f : ℕ → ℕ = λ s. get_or (seat_part shape.settings (bucket_spelling shape words row)) (s * 2) 0 in
    get_or_past (map f (range_with_len 0 shape.settings.seats)) seat 0
    (omega (arith, length-map-range_with_len f 0 shape.settings.seats))
