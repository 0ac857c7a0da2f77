-- What a try has at hand: the row that was loaded, and the row that is made of it.
use Rattle.std.specs.Prelude.{◌≡◌, ℕ, ◌≤◌, All, List, ◌∷◌, ◌++◌, length}
use Rattle.plain_map.specs.declared.calls.Call.{Call}
use Rattle.plain_map.specs.Updates.{IsSmallPair}
use Rattle.exchange_model.specs.Codes.{Row, all_entry_words, head_word, pair_words, row_of_words}
use Rattle.exchange_model.specs.Steps.{CheckWord, Found, Goes, StoreRow, Try, new_words, next_row}
use Rattle.exchange_model.specs.Goes.{Fate, looked}
use Rattle.exchange_model.specs.Worlds.{seat_after}
use Rattle.exchange_calls.specs.Going.{Going, IsOpen, on, told_by, with_now}
use Rattle.exchange_calls.specs.Marks.{entries_of, mark_words}
use Rattle.exchange_calls.specs.declared.hand.Hand.{Hand}

-- where an update stands then, with nothing exchanged
abbrev pub making : Going → Call → Fate → Going
making g call next = with_now g (seat_after g.now call next) (told_by next g.told)

-- ---- a row that was loaded

-- what it says
abbrev pub row_at_hand : Hand → Row
row_at_hand hand = record { items = hand.items.items; entries = entries_of hand.marks.items }

-- its words are loaded
pub record HasLoaded (first now : Going) (call : Call) (turn word : ℕ) (hand : Hand) : Type 0 where
  pub head : ℕ
  pub words : List ℕ
  pub words_are : words ≡ head ∷ (pair_words hand.items.items ++ mark_words hand.marks.items)
  pub goes : now ≡ on first (Goes call (CheckWord turn word words))
  pub row : row_of_words first.plan words ≡ row_at_hand hand
  pub few_items : length hand.items.items ≤ first.plan.settings.items
  pub few_marks : length hand.marks.items ≤ first.plan.settings.seats

-- the try that loaded it
abbrev pub trying : (turn word : ℕ) → Hand → Try
trying turn word hand = record { turn = turn; word = word; row = row_at_hand hand }

-- the bucket word was the same after it, and the call has a further step
pub record HasLooked (first now : Going) (call : Call) (turn word : ℕ) (hand : Hand) : Type 0 where
  pub goes : now ≡ making first call (looked first.plan first.seat first.now call (trying turn word hand))
  pub open_ : IsOpen now.now.stand
  pub small : All IsSmallPair hand.items.items
  pub spelled : all_entry_words (entries_of hand.marks.items) ≡ mark_words hand.marks.items
  pub few_items : length hand.items.items ≤ first.plan.settings.items
  pub few_marks : length hand.marks.items ≤ first.plan.settings.seats

-- ---- a row that is stored

-- its words
abbrev pub words_at_hand : Hand → List ℕ
words_at_hand hand =
    head_word (length hand.items.items) (length hand.next.items)
    ∷ (pair_words hand.items.items ++ mark_words hand.next.items)

-- the row that is stored next has these words
pub record IsStoring (g : Going) (call : Call) (row : ℕ) (hand : Hand) : Type 0 where
  pub attempt : Try
  pub found : List Found
  pub stand : g.now.stand ≡ Goes call (StoreRow attempt found 0)
  pub words_are : new_words g.plan attempt found ≡ words_at_hand hand
  pub row_is : row ≡ next_row g.now
