-- What a row says stays small: keys of 64 bits, values and bytes that can be kept, and replies that can be spelled. So
-- each of its words has 64 bits.
use Rattle.std.proofs.Common.{◌≡◌, ℕ, zero, suc, ◌+◌, ◌*◌, ◌/◌, ◌%◌, ◌^◌, ◌<◌, ◌≤◌, Bool, true, false, cond, List, [], ◌∷◌, ◌++◌, length, Option, Some, None, refl, subst, arith}
use Rattle.std.specs.Prelude.{◌==◌, take, drop, slice_index}
use Rattle.std.specs.List.{AllByRecursion as Each}
use Rattle.std.specs.Option.{option_map_or}
use Rattle.std.proofs.lemmas.Option.{same_Some}
use Rattle.list_laws.proofs.Totals.{each-append}
use Rattle.plain_map.specs.declared.calls.Call.{Call}
use Rattle.plain_map.specs.declared.calls.Call.TheVariants.{Insert, Remove, Lookup, Tally, Count, Put}
use Rattle.plain_map.specs.declared.calls.Reply.{Reply}
use Rattle.plain_map.specs.declared.calls.Reply.TheVariants.{New, Old, NoRoom, Gone, Found as Shown, Absent, Sum}
use Rattle.plain_map.specs.declared.keys.Key.{Key}
use Rattle.plain_map.specs.declared.keys.Pair.{Pair}
use Rattle.plain_map.specs.declared.keys.TheConstants.{KEY_WORDS}
use Rattle.plain_map.specs.declared.rules.Rules.{Rules}
use Rattle.plain_map.specs.Calls.{key_in}
use Rattle.plain_map.specs.Keys.{Session, IsKey, held_in, pair_of, words_of_key, key_of_words}
use Rattle.plain_map.specs.PlainObject.{new_session, counted_session, count_reply, gone_from, grown, insert_reply, revalued, sum_of}
use Rattle.plain_map.specs.Updates.{IsSmallPair, IsUpdate, IsUpdateReply, value_limit}
use Rattle.word_rows.specs.OpWords.{call_of_kind, words_of_call}
use Rattle.word_rows.specs.ReplyWords.{word_of_reply}
use Rattle.word_rows.specs.KeyWords.{words_of_pair}
use Rattle.bucket_states.specs.Items.{same_key, with_change, changed_in, without, appended, revised_in, value_at, has_place, items_after, reply_in}
use Rattle.bucket_states.proofs.ValueLemmas.{summed-small}
use Rattle.exchange_model.specs.Plans.{Plan, IsPlan, rules_of}
use Rattle.exchange_model.specs.Codes.{Entry, Row, call_in, number_in, entry_words, all_entry_words, pair_words, row_words}
use Rattle.exchange_model.specs.Steps.{Found, NoOp, Keeps, Takes, Makes, Change, entry_of, with_found, with_all, change}
use Rattle.exchange_laws.proofs.RowWords.{IsRow}

-- ---- what is small

abbrev pub IsWord : (word : ℕ) → Type 0
IsWord word = word < 2 ^ 64

abbrev pub SmallPair : Pair → Type 0
SmallPair pair = IsKey pair.key × IsSmallPair pair

abbrev pub SmallEntry : Entry → Type 0
SmallEntry entry = (entry.seat + entry.number * 64 < 2 ^ 64) × IsUpdateReply entry.reply

pub record SmallRow (row : Row) : Type 0 where
  pub items : Each SmallPair row.items
  pub entries : Each SmallEntry row.entries

-- an update of a key that there can be
abbrev pub SmallCall : Call → Type 0
SmallCall call = IsUpdate call × IsKey (key_in call)

-- what was found of a seat
abbrev pub SmallFound : Found → Type 0
SmallFound NoOp = Unit {0}
SmallFound (Keeps entry) = SmallEntry entry
SmallFound (Takes op) = SmallCall op.call × (op.number < 2 ^ 57)
SmallFound (Makes call) = SmallCall call

-- ---- items after a call

without_each : (key : Key) (items : List Pair) → Each SmallPair items → Each SmallPair (without key items)
without_each key [] each = tt
without_each key (pair ∷ pairs) each = go (same_key pair.key key) (without_each key pairs each.1)
  where
    go : (b : Bool) → Each SmallPair (without key pairs) → Each SmallPair (cond b pairs (pair ∷ without key pairs))
    go true rest = each.1
    go false rest = (each.0, rest)

abbrev KeepsSmall : (Session → Session) → Type 0
KeepsSmall change = (pair : Pair) → SmallPair pair → SmallPair (with_change change pair)

changed_each : (key : Key) (change : Session → Session) → KeepsSmall change → (items : List Pair) →
    Each SmallPair items → Each SmallPair (changed_in key change items)
changed_each key change keeps [] each = tt
changed_each key change keeps (pair ∷ pairs) each =
    go (same_key pair.key key) (changed_each key change keeps pairs each.1)
  where
    go : (b : Bool) → Each SmallPair (changed_in key change pairs) →
        Each SmallPair (cond b (with_change change pair ∷ pairs) (pair ∷ changed_in key change pairs))
    go true rest = (keeps pair each.0, each.1)
    go false rest = (each.0, rest)

appended_each : (items : List Pair) (pair : Pair) (held : Option Session) (place : Bool) → Each SmallPair items →
    SmallPair pair → Each SmallPair (appended items pair held place)
appended_each items pair (Some held) place each small = each
appended_each items pair None true each small = each-append SmallPair items (pair ∷ []) each (small, tt)
appended_each items pair None false each small = each

revised_each : (items : List Pair) (key : Key) (new : Session) (change : Session → Session) (held : Option Session)
    (place : Bool) → Each SmallPair items → SmallPair (pair_of (key, new)) → KeepsSmall change →
    Each SmallPair (revised_in items key new change held place)
revised_each items key new change (Some held) place each small keeps = changed_each key change keeps items each
revised_each items key new change None true each small keeps =
    each-append SmallPair items (pair_of (key, new) ∷ []) each (small, tt)
revised_each items key new change None false each small keeps = each

grown_keeps : (amount : ℕ) → KeepsSmall (λ held. grown held amount)
grown_keeps amount pair small = (small.0, (small.1.0, summed-small pair.bytes amount))

revalued_keeps : (value : ℕ) → value < 2 ^ 61 → KeepsSmall (λ held. revalued held value)
revalued_keeps value few pair small = (small.0, (few, small.1.1))

nothing_small : 0 < 2 ^ 61
nothing_small = omega arith

items_each : (rules : Rules) (items : List Pair) (call : Call) → SmallCall call → Each SmallPair items →
    Each SmallPair (items_after rules items call)
unfolding items_after
items_each rules items (Insert key value) small each =
    appended_each items (pair_of (key, new_session value)) (value_at key items) (has_place rules items) each
    (small.1, (small.0, nothing_small))
items_each rules items (Remove key) small each = without_each key items each
items_each rules items (Lookup key) small each = each
items_each rules items (Tally key amount) small each =
    changed_each key (λ held. grown held amount) (grown_keeps amount) items each
items_each rules items (Count key value amount) small each =
    revised_each items key (counted_session value amount) (λ held. grown held amount) (value_at key items)
    (has_place rules items) each (small.1, small.0) (grown_keeps amount)
items_each rules items (Put key value) small each =
    revised_each items key (new_session value) (λ held. revalued held value) (value_at key items)
    (has_place rules items) each (small.1, (small.0, nothing_small)) (revalued_keeps value small.0)

-- what is held at a key is small
held_small : (key : Key) (items : List Pair) (held : Session) → Each SmallPair items → value_at key items ≡ Some held →
    (held.value < 2 ^ 61) × (held.bytes < 2 ^ 61)
held_small key [] held each is = cc
held_small key (pair ∷ pairs) held each is =
    go (same_key pair.key key) is (λ later. held_small key pairs held each.1 later)
  where
    go : (b : Bool) → cond b (Some (held_in pair)) (value_at key pairs) ≡ Some held →
        (value_at key pairs ≡ Some held → (held.value < 2 ^ 61) × (held.bytes < 2 ^ 61)) →
        (held.value < 2 ^ 61) × (held.bytes < 2 ^ 61)
    go true is rest = subst (λ (s : Session). (s.value < 2 ^ 61) × (s.bytes < 2 ^ 61)) (same_Some _ _ is) each.0.1
    go false is rest = rest is

module _ (items : List Pair) (each : Each SmallPair items) where
  insert_small : (key : Key) (held : Option Session) (room : Bool) → value_at key items ≡ held →
      IsUpdateReply (Some (insert_reply held room))
  insert_small key (Some held) room is = (held_small key items held each is).0
  insert_small key None true is = tt
  insert_small key None false is = tt

  remove_small : (key : Key) (held : Option Session) → value_at key items ≡ held →
      IsUpdateReply (Some (option_map_or gone_from held Absent))
  remove_small key (Some held) is = (held_small key items held each is).0
  remove_small key None is = tt

  tally_small : (amount : ℕ) (held : Option Session) → IsUpdateReply (Some (option_map_or (sum_of amount) held Absent))
  tally_small amount (Some held) = summed-small held.bytes amount
  tally_small amount None = tt

  count_small : (amount : ℕ) (held : Option Session) (room : Bool) → IsUpdateReply (Some (count_reply amount held room))
  count_small amount (Some held) room = summed-small held.bytes amount
  count_small amount None true = tt
  count_small amount None false = tt

  reply_each : (rules : Rules) (call : Call) → SmallCall call → IsUpdateReply (Some (reply_in rules items call))
  unfolding reply_in
  reply_each rules (Insert key value) small = insert_small key (value_at key items) (has_place rules items) refl
  reply_each rules (Remove key) small = remove_small key (value_at key items) refl
  reply_each rules (Lookup key) small = absurd small.0
  reply_each rules (Tally key amount) small = tally_small amount (value_at key items)
  reply_each rules (Count key value amount) small = count_small amount (value_at key items) (has_place rules items)
  reply_each rules (Put key value) small = insert_small key (value_at key items) (has_place rules items) refl

-- ---- a row that takes what was found

module _ (rules : Rules) where
  one_small : (c : Change) (seat : ℕ) (found : Found) → SmallRow c.row → seat < 64 → SmallFound found →
      SmallRow (with_found rules c seat found).row
  one_small c seat NoOp small less is = record { items = small.items; entries = small.entries }
  one_small c seat (Keeps entry) small less is = record {
    items = small.items;
    entries = each-append SmallEntry c.row.entries (entry ∷ []) small.entries (is, tt);
  }
  one_small c seat (Takes op) small less is = record {
    items = items_each rules c.row.items op.call is.0 small.items;
    entries = each-append SmallEntry c.row.entries (entry_of seat op.number (reply_in rules c.row.items op.call))
        small.entries
        ((omega (arith, less, is.1), reply_each c.row.items small.items rules op.call is.0), tt);
  }
  one_small c seat (Makes call) small less is = record {
    items = items_each rules c.row.items call is small.items;
    entries = each-append SmallEntry c.row.entries [] small.entries tt;
  }

  all_found_small : (c : Change) (seat : ℕ) (found : List Found) → SmallRow c.row → seat + length found ≤ 64 →
      Each SmallFound found → SmallRow (with_all rules c seat found).row
  all_found_small c seat [] small less is = record { items = small.items; entries = small.entries }
  all_found_small c seat (f ∷ found) small less is =
      all_found_small (with_found rules c seat f) (suc seat) found
      (one_small c seat f small (omega (arith, less)) is.0) (omega (arith, less)) is.1

pub change_small : (plan : Plan) (row : Row) (found : List Found) → SmallRow row → length found ≤ 64 →
    Each SmallFound found → SmallRow (change plan row found).row
change_small plan row found small few is =
    all_found_small (rules_of plan) (record { row = record { items = row.items; entries = [] }; made = [] }) 0 found
    (record { items = small.items; entries = tt }) (omega (arith, few)) is

-- ---- words

-- each word of a list, and 0 behind it
pub word_each : (words : List ℕ) → Each IsWord words → (i : ℕ) → slice_index words i < 2 ^ 64
word_each [] each i = omega arith
word_each (word ∷ words) each zero = each.0
word_each (word ∷ words) each (suc i) = word_each words each.1 i

take_each : (n : ℕ) (words : List ℕ) → Each IsWord words → Each IsWord (take n words)
take_each zero words each = tt
take_each (suc n) [] each = tt
take_each (suc n) (word ∷ words) each = (each.0, take_each n words each.1)

take_few : (n : ℕ) (words : List ℕ) → length (take n words) ≤ n
take_few zero words = omega arith
take_few (suc n) [] = omega arith
take_few (suc n) (word ∷ words) = (let rest = take_few n words in omega (arith, rest))

-- behind so many words stands one more at most
last_few : (front : List ℕ) (word i : ℕ) → length front ≤ i → slice_index (front ++ word ∷ []) i ≤ word
last_few [] word zero few = omega arith
last_few [] word (suc i) few = omega arith
last_few (first ∷ front) word zero few = absurd (omega (arith, few))
last_few (first ∷ front) word (suc i) few = last_few front word i (omega (arith, few))

reply_word : (reply : Option Reply) → IsUpdateReply reply → IsWord (word_of_reply reply)
reply_word None is = omega arith
reply_word (Some New) is = omega arith
reply_word (Some (Old value)) is = omega (arith, is)
reply_word (Some NoRoom) is = omega arith
reply_word (Some (Gone value)) is = omega (arith, is)
reply_word (Some (Shown value)) is = absurd is
reply_word (Some Absent) is = omega arith
reply_word (Some (Sum total)) is = omega (arith, is)

wider : (value : ℕ) → value < 2 ^ 61 → IsWord value
wider value few = omega (arith, few)

-- the words of a key, and one more
key_words : (key : Key) → IsKey key → (rest : List ℕ) → Each IsWord rest → Each IsWord (words_of_key key ++ rest)
key_words key is rest each = (is.k0, (is.k1, (is.k2, (is.k3, (is.k4, each)))))

pair_words_each : (pairs : List Pair) → Each SmallPair pairs → Each IsWord (pair_words pairs)
pair_words_each [] each = tt
pair_words_each (pair ∷ pairs) each =
    each-append IsWord (words_of_pair pair) (pair_words pairs)
    (key_words pair.key each.0.0 (pair.value ∷ pair.bytes ∷ [])
    (wider pair.value each.0.1.0, (wider pair.bytes each.0.1.1, tt)))
    (pair_words_each pairs each.1)

entry_words_each : (entries : List Entry) → Each SmallEntry entries → Each IsWord (all_entry_words entries)
entry_words_each [] each = tt
entry_words_each (entry ∷ entries) each =
    each-append IsWord (entry_words entry) (all_entry_words entries)
    (each.0.0, (reply_word entry.reply each.0.1, tt)) (entry_words_each entries each.1)

-- THE RESULT: all words of a row have 64 bits
pub row_each : (plan : Plan) → IsPlan plan → (row : Row) → IsRow plan row → SmallRow row → Each IsWord (row_words row)
row_each plan is_plan row is small = (
  (let items = is.items in let few = is.few in
      let head : length row.items + length row.entries * 256 < 2 ^ 64 =
      omega (arith, items, few, is_plan.items, is_plan.seats) in head),
  each-append IsWord (pair_words row.items) (all_entry_words row.entries) (pair_words_each row.items small.items)
      (entry_words_each row.entries small.entries),
)

-- ---- ops

call_words : (call : Call) → SmallCall call → Each IsWord (words_of_call call)
call_words (Insert key value) small = (omega arith, key_words key small.1 (value ∷ []) (wider value small.0, tt))
call_words (Remove key) small = (omega arith, key_words key small.1 (0 ∷ []) (omega arith, tt))
call_words (Lookup key) small = absurd small.0
call_words (Tally key amount) small = (omega arith, key_words key small.1 (amount ∷ []) (wider amount small.0, tt))
call_words (Count key value amount) small =
    (omega (arith, small.0.1), key_words key small.1 (value ∷ []) (wider value small.0.0, tt))
call_words (Put key value) small = (omega arith, key_words key small.1 (value ∷ []) (wider value small.0, tt))

-- each word of an op
pub call_word : (call : Call) → SmallCall call → (i : ℕ) → slice_index (words_of_call call) i < 2 ^ 64
call_word call small i = word_each (words_of_call call) (call_words call small) i

kind_small : (kind amount : ℕ) (key : Key) (value : ℕ) → amount < 2 ^ 61 → IsKey key → value < 2 ^ 61 →
    SmallCall (call_of_kind kind amount key value)
kind_small kind amount key value amount_few is few = by_insert (kind == 1)
  where
    by_put : (put : Bool) → SmallCall (cond put (Put key value) (Remove key))
    by_put true = (few, is)
    by_put false = (tt, is)

    by_count : (count : Bool) →
        SmallCall (cond count (Count key value amount) (cond (kind == 5) (Put key value) (Remove key)))
    by_count true = ((few, amount_few), is)
    by_count false = by_put (kind == 5)

    by_tally : (tally : Bool) → SmallCall (cond tally (Tally key value) (cond (kind == 4) (Count key value amount)
        (cond (kind == 5) (Put key value) (Remove key))))
    by_tally true = (few, is)
    by_tally false = by_count (kind == 4)

    by_insert : (insert : Bool) → SmallCall (cond insert (Insert key value) (cond (kind == 3) (Tally key value)
        (cond (kind == 4) (Count key value amount) (cond (kind == 5) (Put key value) (Remove key)))))
    by_insert true = (few, is)
    by_insert false = by_tally (kind == 3)

-- whatever words spell a call, it is small
pub call_small : (words : List ℕ) → Each IsWord words → SmallCall (call_in words)
call_small words each =
    kind_small (slice_index all 0 % 8) (slice_index all 0 / 8) (key_of_words (take KEY_WORDS (drop 1 all)))
    (slice_index all (KEY_WORDS + 1)) (let first = word_each all all_each 0 in omega (arith, first))
    (record { k0 = key 0; k1 = key 1; k2 = key 2; k3 = key 3; k4 = key 4 })
    (let most = last_few (take 6 words) last 6 (take_few 6 words) in omega (arith, most, last_small))
  where
    last : ℕ
    last = slice_index words (KEY_WORDS + 1) % value_limit

    last_small : last < 2 ^ 61
    last_small = omega arith

    all : List ℕ
    all = take (KEY_WORDS + 1) words ++ last ∷ []

    all_each : Each IsWord all
    all_each = each-append IsWord (take 6 words) (last ∷ []) (take_each 6 words each) (wider last last_small, tt)

    drop_each : (ws : List ℕ) → Each IsWord ws → Each IsWord (drop 1 ws)
    drop_each [] e = tt
    drop_each (w ∷ ws) e = e.1

    key : (i : ℕ) → slice_index (take KEY_WORDS (drop 1 all)) i < 2 ^ 64
    key i = word_each (take KEY_WORDS (drop 1 all)) (take_each 5 (drop 1 all) (drop_each all all_each)) i

-- an announcement of 64 bits tells a number of 43
pub number_small : (word : ℕ) → word < 2 ^ 64 → number_in word < 2 ^ 57
number_small word few = (let less : word / 2 ^ 20 / 2 < 2 ^ 57 = omega (arith, few) in less)
