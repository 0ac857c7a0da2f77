-- What the words of a bucket row have to say, place by place, to be the spelling of one.
use Rattle.std.specs.Prelude.{◌≡◌, ℕ, ◌+◌, ◌*◌, ◌^◌, ◌<◌, ◌≤◌, ◌↔◌, List, drop, slice_index, None}
use Rattle.std.specs.List.{All}
use Rattle.step_counts.specs.declared.TheConstants.{COUNT_PLACE, ITEM_WORDS, SEAT_WORDS}
use Rattle.step_counts.specs.declared.settings.Settings.{Settings}
use Rattle.plain_map.specs.declared.keys.TheConstants.{KEY_WORDS}
use Rattle.plain_map.specs.Updates.{value_limit, number_limit}
use Rattle.word_rows.specs.ReplyWords.{word_of_reply, reply_of_word}
use Rattle.word_rows.specs.BucketWords.{item_part, seat_part}

-- the head: a prefix of its depth, a depth within the greatest, a mark, a count within the room
pub record HeadStands (settings : Settings) (words : List ℕ) : Type 0 where
  pub depth : slice_index words 1 ≤ settings.depth
  pub prefix : slice_index words 0 < 2 ^ slice_index words 1
  pub frozen : slice_index words 3 ≤ 1
  pub count : slice_index words COUNT_PLACE ≤ settings.items

-- an item: a value and bytes that can be kept
abbrev pub ItemStands : List ℕ → (i : ℕ) → Type 0
ItemStands words i = (slice_index words (i * ITEM_WORDS + KEY_WORDS) < value_limit)
    × (slice_index words (i * ITEM_WORDS + (KEY_WORDS + 1)) < value_limit)

-- the items: so many that can be kept, and zeros from there on
pub record ItemsStand (count : ℕ) (words : List ℕ) : Type 0 where
  pub values : (i : ℕ) → i < count → ItemStands words i
  pub zeros : All (λ word. word ≡ 0) (drop (count * ITEM_WORDS) words)

-- a seat: a number that fits, a word that spells a reply, and a reply exactly where the number is not 0
pub record SeatStands (number word : ℕ) : Type 0 where
  pub few : number < number_limit
  pub spelled : word_of_reply (reply_of_word word) ≡ word
  pub paired : (number ≡ 0) ↔ (reply_of_word word ≡ None)

-- every seat
abbrev pub SeatsStand : (seats : ℕ) → List ℕ → Type 0
SeatsStand seats words = (seat : ℕ) → seat < seats →
    SeatStands (slice_index words (seat * SEAT_WORDS)) (slice_index words (seat * SEAT_WORDS + 1))

-- all of a bucket row's words
pub record BucketStands (settings : Settings) (words : List ℕ) : Type 0 where
  pub head : HeadStands settings words
  pub items : ItemsStand (slice_index words COUNT_PLACE) (item_part settings words)
  pub seats : SeatsStand settings.seats (seat_part settings words)
