-- A seat's words in a row.
use Rattle.std.proofs.Common.{◌≡◌, ℕ, ◌+◌, ◌*◌, ◌<◌, List, ◌∙◌, ap, arith, None}
use Rattle.std.proofs.lemmas.List.{get_or-drop}
use Rattle.std.proofs.lemmas.List.FromFn.{get_or-map-range_with_len}
use Rattle.std.specs.Prelude.{slice_index, slice_index_or}
use Rattle.step_counts.specs.declared.TheConstants.{ITEM_WORDS}
use Rattle.step_counts.specs.declared.settings.Settings.{Settings}
use Rattle.word_rows.specs.ReplyWords.{reply_of_word}
use Rattle.word_rows.specs.BucketWords.{bucket_of_words, seat_part}

-- the number of a seat's last update
pub applied_at : (settings : Settings) (words : List ℕ) (seat at : ℕ) → seat < settings.seats →
    at ≡ 5 + ITEM_WORDS * settings.items + seat * 2 →
    slice_index (bucket_of_words settings words).applied seat ≡ slice_index words at
applied_at settings words seat at h is =
    get_or-map-range_with_len (λ (s : ℕ). slice_index (seat_part settings words) (s * 2)) 0 settings.seats seat seat
    0 h (omega arith)
    ∙ get_or-drop (5 + ITEM_WORDS * settings.items) words (seat * 2) 0
    ∙ (let there : 5 + ITEM_WORDS * settings.items + seat * 2 ≡ at = omega (arith, is) in
    ap (λ (k : ℕ). slice_index words k) there)

-- and the reply
pub reply_at : (settings : Settings) (words : List ℕ) (seat at : ℕ) → seat < settings.seats →
    at ≡ 5 + ITEM_WORDS * settings.items + seat * 2 + 1 →
    slice_index_or (bucket_of_words settings words).replies seat None ≡ reply_of_word (slice_index words at)
reply_at settings words seat at h is =
    get_or-map-range_with_len (λ (s : ℕ). reply_of_word (slice_index (seat_part settings words) (s * 2 + 1))) 0
    settings.seats seat seat None h (omega arith)
    ∙ ap reply_of_word (get_or-drop (5 + ITEM_WORDS * settings.items) words (seat * 2 + 1) 0)
    ∙ (let there : 5 + ITEM_WORDS * settings.items + (seat * 2 + 1) ≡ at = omega (arith, is) in
    ap (λ (k : ℕ). reply_of_word (slice_index words k)) there)
