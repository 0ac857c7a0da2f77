-- How a bucket row is spelled.
use Rattle.std.specs.Prelude.{◌≡◌, ℕ, ◌+◌, ◌*◌, ◌^◌, ◌<◌, ◌≤◌, ◌==◌, ◌↔◌, Bool, true, false, List, [], ◌∷◌, ◌++◌, length, take, drop, replicate, slice_get, slice_index, slice_index_or, Option, None}
use Rattle.std.specs.Option.{option_map_or}
use Rattle.std.specs.List.{All}
use Rattle.step_counts.specs.declared.TheConstants.{BUCKET_HEAD_WORDS, COUNT_PLACE, ITEM_WORDS, SEAT_WORDS}
use Rattle.step_counts.specs.declared.settings.Settings.{Settings}
use Rattle.plain_map.specs.declared.calls.Reply.{Reply}
use Rattle.plain_map.specs.declared.keys.Pair.{Pair}
use Rattle.plain_map.specs.Rows.{BucketContent}
use Rattle.plain_map.specs.Updates.{number_limit, IsSmallPair, IsUpdateReply}
use Rattle.word_rows.specs.BaseWords.{IsBase, word_of_base, base_of_word}
use Rattle.word_rows.specs.Blocks.{blocks, block, first_values}
use Rattle.word_rows.specs.KeyWords.{words_of_pair, pair_of_words}
use Rattle.word_rows.specs.ReplyWords.{word_of_reply, reply_of_word}

-- a seat's applied number, and the reply that there is exactly where the number is not 0
pub record IsAnswered (number : ℕ) (reply : Option Reply) : Type 0 where
  pub few : number < number_limit
  pub answer : IsUpdateReply reply
  pub paired : (number ≡ 0) ↔ (reply ≡ None)

-- items that can be spelled in this much room
pub record AreItems (room : ℕ) (items : List Pair) : Type 0 where
  pub fit : length items ≤ room
  pub values : All IsSmallPair items

-- numbers and replies of this many seats
pub record AreAnswered (seats : ℕ) (applied : List ℕ) (replies : List (Option Reply)) : Type 0 where
  pub each_number : length applied ≡ seats
  pub each_reply : length replies ≡ seats
  pub answered : (seat : ℕ) → seat < seats → IsAnswered (slice_index applied seat) (slice_index_or replies seat None)

-- a bucket row that can be spelled
pub record IsBucket (settings : Settings) (row : BucketContent) : Type 0 where
  pub prefix : row.prefix < 2 ^ row.depth
  pub depth : row.depth ≤ settings.depth
  pub base : IsBase row.base
  pub items : AreItems settings.items row.items
  pub seats : AreAnswered settings.seats row.applied row.replies

-- 1 where it holds
abbrev pub word_of_flag : Bool → ℕ
word_of_flag true = 1
word_of_flag false = 0

-- the words of the i-th place for an item, zeros where there is no item
abbrev pub item_place : List Pair → ℕ → List ℕ
item_place items i = option_map_or words_of_pair (slice_get items i) (replicate ITEM_WORDS 0)

-- the words of all places for items
abbrev pub item_words : (room : ℕ) → List Pair → List ℕ
item_words room items = blocks (item_place items) room

-- a seat's words: the number of its last update in here, and the reply
abbrev pub seat_place : List ℕ → List (Option Reply) → ℕ → List ℕ
seat_place applied replies seat = slice_index applied seat ∷ word_of_reply (slice_index_or replies seat None) ∷ []

-- the words of all seats
abbrev pub seat_words : (seats : ℕ) → List ℕ → List (Option Reply) → List ℕ
seat_words seats applied replies = blocks (seat_place applied replies) seats

-- prefix, depth, base, whether it is frozen, and how many items there are
abbrev pub head_words : BucketContent → List ℕ
head_words row = row.prefix ∷ row.depth ∷ word_of_base row.base ∷ word_of_flag row.frozen ∷ length row.items ∷ []

-- the words of a bucket row
abbrev pub words_of_bucket : Settings → BucketContent → List ℕ
words_of_bucket settings row =
    head_words row ++ item_words settings.items row.items ++ seat_words settings.seats row.applied row.replies

-- the items that these words spell
abbrev pub items_of_words : (count : ℕ) → List ℕ → List Pair
items_of_words count words = first_values (λ i. pair_of_words (block ITEM_WORDS i words)) count

-- the numbers and the replies
abbrev pub applied_of_words : (seats : ℕ) → List ℕ → List ℕ
applied_of_words seats words = first_values (λ seat. slice_index words (seat * SEAT_WORDS)) seats

-- and the replies
abbrev pub replies_of_words : (seats : ℕ) → List ℕ → List (Option Reply)
replies_of_words seats words = first_values (λ seat. reply_of_word (slice_index words (seat * SEAT_WORDS + 1))) seats

-- the parts of a bucket row's words after its head
abbrev pub item_part : Settings → List ℕ → List ℕ
item_part settings words = take (ITEM_WORDS * settings.items) (drop BUCKET_HEAD_WORDS words)

-- and of the seats
abbrev pub seat_part : Settings → List ℕ → List ℕ
seat_part settings words = drop (BUCKET_HEAD_WORDS + ITEM_WORDS * settings.items) words

-- the bucket row that these words spell, where they spell one
abbrev pub bucket_of_words : Settings → List ℕ → BucketContent
bucket_of_words settings words = record {
  prefix = slice_index words 0;
  depth = slice_index words 1;
  base = base_of_word (slice_index words 2);
  frozen = slice_index words 3 == 1;
  items = items_of_words (slice_index words COUNT_PLACE) (item_part settings words);
  applied = applied_of_words settings.seats (seat_part settings words);
  replies = replies_of_words settings.seats (seat_part settings words);
}

-- the words are the spelling of this bucket row
abbrev pub SpellsBucket : Settings → BucketContent → List ℕ → Type 0
SpellsBucket settings row words = IsBucket settings row × (words ≡ words_of_bucket settings row)

-- they are that of some bucket row
abbrev pub SpellSomeBucket : Settings → List ℕ → Type 0
SpellSomeBucket settings words = (row : BucketContent) × SpellsBucket settings row words
