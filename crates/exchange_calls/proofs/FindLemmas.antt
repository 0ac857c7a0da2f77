-- Items that are gone through for a key, and how a look ends.
use Rattle.std.proofs.Common.{◌≡◌, ◌≢◌, ℕ, ◌+◌, ◌*◌, ◌%◌, ◌^◌, ◌<◌, ◌≤◌, ◌∙◌, true, false, List, [], ◌∷◌, ◌++◌, Some, None, refl, sym, ap, arith}
use Rattle.std.proofs.lemmas.Bool.{cond-true, cond-false}
use Rattle.std.proofs.lemmas.Bool.Decides.{nat_tests}
use Rattle.std.specs.Prelude.{◌==◌, if◌then◌else◌, min}
use Rattle.bucket_states.specs.Items.{same_key, value_at}
use Rattle.step_counts.specs.declared.TheConstants.{ITEM_WORDS}
use Rattle.plain_map.specs.declared.keys.Key.{Key}
use Rattle.plain_map.specs.declared.keys.Pair.{Pair}
use Rattle.exchange_model.specs.Codes.{count_in}
use Rattle.exchange_model.specs.Words.{RowWord, place}
use Rattle.exchange_model.specs.Steps.{Aim, OfKey, GlanceCheck, GlanceCount, GlanceItem, GlanceWord, Glances, Pass, Source, Tried, class_of_aim, row_of_source}
use Rattle.exchange_model.specs.Goes.{GlanceFate, Looks, Shows, glance_lost, gone_through, pass_fate, pass_on, pass_pair}
use Rattle.exchange_calls.specs.Going.{Going, goes, task}
use Rattle.exchange_calls.specs.Going.Task.{Load}
use Rattle.exchange_calls.specs.Desks.{IsOf}
use Rattle.exchange_calls.specs.Items.{HasFound, HasPassed, IsItem, asked_again, looking, pass_at}
use Rattle.exchange_calls.specs.declared.desk.Desk.{Desk}
use Rattle.exchange_calls.proofs.LookLemmas.{absent_still, found_last, found_none, goes_past, is_it, is_not_it, look_asks, look_goes, looking_on, looks_at, next_item, no_item}
use Rattle.exchange_calls.proofs.PlaceLemmas.{bucket_at, of_same, row_at}

-- two words are one or not
pub words_same : (a b : ℕ) → a ≡ b → (a == b) ≡ true
words_same a b is = grind (arith, nat_tests)

pub words_differ : (a b : ℕ) → a ≢ b → (a == b) ≡ false
words_differ a b is = grind (arith, nat_tests)

-- a caller stays at its desk while it looks
pub still_of : (f now : Going) (aim : Aim) (next : GlanceFate) (desk : Desk) → now ≡ looking f aim next → IsOf f desk →
    IsOf now desk
still_of f now aim next desk at is =
    of_same f now desk (ap (λ (g : Going). g.plan) at) (ap (λ (g : Going). g.seat) at) is

-- and after an asking
pub asks_of : (f : Going) (desk : Desk) → IsOf f desk → IsOf (asked_again f) desk
asks_of f desk is = of_same f (asked_again f) desk refl refl is

-- ---- the count of a row

module _ (f : Going) (desk : Desk) (is : IsOf f desk) (aim : Aim) (source : Source)
    (stand : f.now.stand ≡ Glances aim (GlanceCount source)) where
  -- it is loaded first
  pub count_asked : (row first at : ℕ) → row ≡ row_of_source f.plan source →
      first ≡ desk.first_row + row * desk.row_words →
      at ≡ first → task f ≡ Load at
  count_asked row first at row_is first_is at_is =
      look_asks f f aim (GlanceCount source) (looks_at f aim (GlanceCount source) stand)
      ∙ ap Load (row_at f desk is (row_of_source f.plan source) 0
      ∙ ap (λ (r : ℕ). desk.first_row + r * desk.row_words + 0) (sym row_is)
      ∙ omega (arith, first_is, at_is))

  -- and then the items are gone through
  pub count_loaded : (next : Going) (most count : ℕ) → next ≡ goes f most →
      count ≡ min (most % 2 ^ 8) desk.sizes.items →
      next ≡ looking f aim (pass_on source (pass_at count 0 []))
  count_loaded next most count step cut_is =
      let same : count_in f.plan most ≡ count =
      ap (λ (n : ℕ). min (most % 2 ^ 8) n) is.items ∙ sym cut_is in
      look_goes f aim (GlanceCount source) (λ t. refl) f next most (looks_at f aim (GlanceCount source) stand) step
      ∙ ap (λ (n : ℕ). looking f aim (pass_on source (pass_at n 0 []))) same

-- ---- one item

module _ (f : Going) (desk : Desk) (is : IsOf f desk) (aim : Aim) (source : Source) (count i : ℕ) (kept : List Pair)
    (now : Going) (here : now ≡ looking f aim (pass_on source (pass_at count i kept))) (inside : i < count)
    (row first at : ℕ) (row_is : row ≡ row_of_source f.plan source)
    (first_is : first ≡ desk.first_row + row * desk.row_words)
    (at_is : at ≡ first + 1 + ITEM_WORDS * i) where
  abbrev one : Pass
  one = pass_at count i kept

  at_item : now ≡ looking f aim (Looks (GlanceItem source one))
  at_item = here ∙ ap (looking f aim) (next_item source one inside)

  -- where it stands
  pub item_stands : at ≡ place f.plan (RowWord (row_of_source f.plan source) (1 + ITEM_WORDS * i))
  item_stands =
      omega (arith, first_is, at_is)
      ∙ ap (λ (r : ℕ). desk.first_row + r * desk.row_words + (1 + ITEM_WORDS * i)) row_is
      ∙ sym (row_at f desk is (row_of_source f.plan source) (1 + ITEM_WORDS * i))

  -- its first word is loaded next
  pub item_asked : (there : ℕ) → there ≡ at + 4 → task now ≡ Load there
  item_asked there there_is =
      look_asks f now aim (GlanceItem source one) at_item ∙ ap Load (omega (arith, item_stands, there_is))

  module _ (next : Going) (word : ℕ) (step : next ≡ goes now word) where
    pub item_seen : next ≡ looking f aim (pass_fate source aim one word)
    item_seen = look_goes f aim (GlanceItem source one) (λ t. refl) now next word at_item step

    module _ (may : pass_fate source aim one word ≡ Looks (GlanceItem source (record one { part = word ∷ [] }))) where
      pub item_into : next ≡ looking f aim (Looks (GlanceItem source (record one { part = word ∷ [] })))
      item_into = item_seen ∙ ap (looking f aim) may

      -- the rest of it follows
      abbrev pub item_is : IsItem next at word
      item_is = record {
        aim = aim;
        source = source;
        scan = one;
        stand = ap (λ (g : Going). g.now.stand) item_into;
        place_is = item_stands ∙ ap (λ (g : Going). place g.plan (RowWord (row_of_source g.plan source)
            (1 + ITEM_WORDS * i))) (sym item_into);
      }

      -- and it is told by the whole
      pub item_whole : (end : Going) (pair : Pair) → end ≡ looking next aim (pass_pair source aim one pair) →
          end ≡ looking f aim (pass_pair source aim one pair)
      item_whole end pair e =
          e ∙ ap (λ (g : Going). looking g aim (pass_pair source aim one pair)) item_into
          ∙ looking_on f aim (GlanceItem source (record one { part = word ∷ [] })) (pass_pair source aim one pair)

-- an item that is not the one is gone past
pub past_by_word : (f next : Going) (source : Source) (key : Key) (count i word : ℕ) (kept : List Pair) →
    next ≡ looking f (OfKey key) (pass_fate source (OfKey key) (pass_at count i kept) word) → word ≢ key.k4 →
    value_at key kept ≡ None → HasPassed f next source key count (i + 1)
past_by_word f next source key count i word kept at other none = record {
  kept = kept;
  goes = at
      ∙ ap (looking f (OfKey key))
      (goes_past source key (pass_at count i kept) word refl (words_differ word key.k4 other));
  none = none;
}

pub past_by_pair : (f next : Going) (source : Source) (key : Key) (count i : ℕ) (kept : List Pair) (pair : Pair) →
    next ≡ looking f (OfKey key) (pass_pair source (OfKey key) (pass_at count i kept) pair) →
    same_key pair.key key ≡ false → value_at key kept ≡ None → HasPassed f next source key count (i + 1)
past_by_pair f next source key count i kept pair at other none = record {
  kept = kept ++ pair ∷ [];
  goes = at ∙ ap (looking f (OfKey key)) (is_not_it source key (pass_at count i kept) pair other);
  none = absent_still key kept pair none other;
}

-- or it is found
pub found_it : (f next : Going) (source : Source) (key : Key) (count i : ℕ) (kept : List Pair) (pair : Pair) →
    next ≡ looking f (OfKey key) (pass_pair source (OfKey key) (pass_at count i kept) pair) →
    same_key pair.key key ≡ true → value_at key kept ≡ None → HasFound f next source key (Some pair.value)
found_it f next source key count i kept pair at same none = record {
  kept = kept ++ pair ∷ [];
  goes = at ∙ ap (looking f (OfKey key)) (is_it source key (pass_at count i kept) pair same);
  value = found_last key kept pair none same;
}

-- none was
pub found_nothing : (f now : Going) (source : Source) (key : Key) (count i : ℕ) → HasPassed f now source key count i →
    count ≤ i → HasFound f now source key None
found_nothing f now source key count i v all = record {
  kept = v.kept;
  goes = v.goes ∙ ap (looking f (OfKey key)) (no_item source (pass_at count i v.kept) all);
  value = found_none key v.kept v.none;
}

-- ---- a try

module _ (f : Going) (desk : Desk) (is : IsOf f desk) (aim : Aim) (left : ℕ)
    (stand : f.now.stand ≡ Glances aim (GlanceWord left)) where
  try_starts : f ≡ looking f aim (Looks (GlanceWord left))
  try_starts = looks_at f aim (GlanceWord left) stand

  module _ (next : Going) (word : ℕ) (step : next ≡ goes f word) where
    -- the bucket's word is loaded
    pub word_loaded : next ≡ looking f aim (Looks (GlanceCount (Tried left word)))
    word_loaded = look_goes f aim (GlanceWord left) (λ t. refl) f next word try_starts step

    module _ (seen : Going) (kept : List Pair) (at : seen ≡ looking next aim (gone_through (Tried left word) kept))
      where
        checks : seen ≡ looking f aim (Looks (GlanceCheck left word kept))
        checks =
            at ∙ ap (λ (g : Going). looking g aim (Looks (GlanceCheck left word kept))) word_loaded
            ∙ looking_on f aim (GlanceCount (Tried left word)) (Looks (GlanceCheck left word kept))

        -- then the bucket's word again
        pub check_asked : (bucket there : ℕ) → bucket ≡ class_of_aim f.plan aim → there ≡ desk.buckets + bucket →
            task seen ≡ Load there
        check_asked bucket there bucket_is there_is =
            look_asks f seen aim (GlanceCheck left word kept) checks
            ∙ ap Load (bucket_at f desk is (class_of_aim f.plan aim)
            ∙ ap (λ (b : ℕ). desk.buckets + b) (sym bucket_is) ∙ sym there_is)

        module _ (end : Going) (again : ℕ) (last : end ≡ goes seen again) where
          checked : end ≡ looking f aim (if again == word then Shows kept else glance_lost left)
          checked = look_goes f aim (GlanceCheck left word kept) (λ t. refl) seen end again checks last

          pub check_shows : again ≡ word → end ≡ looking f aim (Shows kept)
          check_shows same = checked ∙ ap (looking f aim)
              (cond-true (again == word) (Shows kept) (glance_lost left) (words_same again word same))

          pub check_fails : again ≢ word → end ≡ looking f aim (glance_lost left)
          check_fails other = checked ∙ ap (looking f aim)
              (cond-false (again == word) (Shows kept) (glance_lost left) (words_differ again word other))

-- the bucket's word is loaded first
pub word_asked : (f : Going) (desk : Desk) (is : IsOf f desk) (aim : Aim) (left bucket at : ℕ) →
    f.now.stand ≡ Glances aim (GlanceWord left) → bucket ≡ class_of_aim f.plan aim →
    at ≡ desk.buckets + bucket → task f ≡ Load at
word_asked f desk is aim left bucket at stand bucket_is at_is =
    look_asks f f aim (GlanceWord left) (looks_at f aim (GlanceWord left) stand)
    ∙ ap Load (bucket_at f desk is (class_of_aim f.plan aim)
    ∙ ap (λ (b : ℕ). desk.buckets + b) (sym bucket_is) ∙ sym at_is)
