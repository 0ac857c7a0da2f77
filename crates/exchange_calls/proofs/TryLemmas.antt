-- A try, from its first load to its exchange.
use Rattle.std.proofs.Common.{◌≡◌, ◌≢◌, ℕ, ◌+◌, List, [], ◌∷◌, ◌++◌, length, refl, sym, ap, subst, ◌∙◌, arith}
use Rattle.std.proofs.lemmas.Bool.{cond-true, cond-false}
use Rattle.std.specs.Prelude.{◌==◌, if◌then◌else◌, All}
use Rattle.plain_map.specs.declared.calls.Call.{Call}
use Rattle.plain_map.specs.Updates.{IsSmallPair}
use Rattle.exchange_model.specs.Plans.{Plan}
use Rattle.exchange_model.specs.Codes.{Row, all_entry_words, head_word, pair_words, row_of_words, row_words}
use Rattle.exchange_model.specs.Steps.{CheckWord, Goes, LoadRow, LoadWord, Try, bucket_of_call}
use Rattle.exchange_model.specs.Goes.{looked, lost}
use Rattle.exchange_calls.specs.Desks.{IsOf}
use Rattle.exchange_calls.specs.Going.{Fits, Going, IsOpen, IsRow, goes, on, task}
use Rattle.exchange_calls.specs.Going.Task.{Load}
use Rattle.exchange_calls.specs.Hands.{HasLoaded, HasLooked, making, row_at_hand}
use Rattle.exchange_calls.specs.Marks.{entries_of, mark_words}
use Rattle.exchange_calls.specs.declared.desk.Desk.{Desk}
use Rattle.exchange_calls.specs.declared.hand.Hand.{Hand}
use Rattle.exchange_calls.proofs.FindLemmas.{words_differ, words_same}
use Rattle.exchange_calls.proofs.GoesLemmas.{plain_goes, stands_here, step_asks}
use Rattle.exchange_calls.proofs.PlaceLemmas.{bucket_at, of_same}

-- what follows the same words is the same
cancel : (xs ys zs : List ℕ) → xs ++ ys ≡ xs ++ zs → ys ≡ zs
cancel [] ys zs e = e
cancel (x ∷ xs) ys zs e =
    let rest : xs ++ ys ≡ xs ++ zs = cc in
    cancel xs ys zs rest

tail_same : (x y : ℕ) (xs ys : List ℕ) → x ∷ xs ≡ y ∷ ys → xs ≡ ys
tail_same x y xs ys e = cc

-- ---- its look

module _ (f : Going) (desk : Desk) (is : IsOf f desk) (call : Call) (turn bucket : ℕ)
    (bucket_is : bucket ≡ bucket_of_call f.plan call) (stand : f.now.stand ≡ Goes call (LoadWord turn)) where
  here : f ≡ on f (Goes call (LoadWord turn))
  here = stands_here f (Goes call (LoadWord turn)) stand

  bucket_place : (there : ℕ) → there ≡ desk.buckets + bucket → Load there
      ≡ Load (desk.buckets + bucket_of_call f.plan call)
  bucket_place there is_there = ap Load (is_there ∙ ap (λ (b : ℕ). desk.buckets + b) bucket_is)

  -- the bucket's word first
  pub first_asked : (there : ℕ) → there ≡ desk.buckets + bucket → task f ≡ Load there
  first_asked there is_there =
      step_asks f f call (LoadWord turn) here ∙ ap Load (bucket_at f desk is (bucket_of_call f.plan call))
      ∙ sym (bucket_place there is_there)

  module _ (a : Going) (word : ℕ) (one : a ≡ goes f word) where
    row_comes : a ≡ on f (Goes call (LoadRow turn word []))
    row_comes = plain_goes f f a call (LoadWord turn) word here refl one

    pub row_stands : a.now.stand ≡ Goes call (LoadRow turn word [])
    row_stands = ap (λ (g : Going). g.now.stand) row_comes

    pub row_plan : a.plan ≡ f.plan
    row_plan = ap (λ (g : Going). g.plan) row_comes

    pub row_of : IsOf a desk
    row_of = of_same f a desk row_plan (ap (λ (g : Going). g.seat) row_comes) is

    -- then its row, and the word again
    module _ (b : Going) (hand : Hand) (l : HasLoaded a b call turn word hand) where
      checks : b ≡ on f (Goes call (CheckWord turn word l.words))
      checks = l.goes ∙ ap (λ (g : Going). on g (Goes call (CheckWord turn word l.words))) row_comes

      pub again_asked : (there : ℕ) → there ≡ desk.buckets + bucket → task b ≡ Load there
      again_asked there is_there =
          step_asks f b call (CheckWord turn word l.words) checks
          ∙ ap Load (bucket_at f desk is (bucket_of_call f.plan call)) ∙ sym (bucket_place there is_there)

      module _ (c : Going) (again : ℕ) (two : c ≡ goes b again) (fits : Fits b again) where
        abbrev loaded_try : Row → Try
        loaded_try row = record { turn = turn; word = word; row = row }

        checked : c ≡ making f call (if again == word
            then looked f.plan f.seat f.now call (loaded_try (row_of_words f.plan l.words)) else lost turn)
        checked = plain_goes f b c call (CheckWord turn word l.words) again checks refl two

        pub look_fails : again ≢ word → c ≡ making f call (lost turn)
        look_fails other = checked ∙ ap (making f call)
            (cond-false (again == word) (looked f.plan f.seat f.now call (loaded_try (row_of_words f.plan l.words)))
            (lost turn) (words_differ again word other))

        row_is : row_of_words f.plan l.words ≡ row_at_hand hand
        row_is = ap (λ (p : Plan). row_of_words p l.words) (sym row_plan) ∙ l.row

        -- the words are those of a row
        is_row : again ≡ word → IsRow f.plan l.words
        is_row same = (subst (λ (g : Going). Fits g again) checks fits).finds same

        pub look_shows : again ≡ word → HasLooked f c call turn word hand
        look_shows same = record {
          goes = checked ∙ ap (making f call)
              (cond-true (again == word) (looked f.plan f.seat f.now call (loaded_try (row_of_words f.plan l.words)))
              (lost turn) (words_same again word same))
              ∙ ap (λ (r : Row). making f call (looked f.plan f.seat f.now call (loaded_try r))) row_is;
          open_ = subst (λ (g : Going). IsOpen g.now.stand) (sym two) fits.open_;
          small = subst (λ (r : Row). All IsSmallPair r.items) row_is (is_row same).small;
          spelled =
              let words : l.words ≡ row_words (row_at_hand hand) = (is_row same).spelled ∙ ap row_words row_is in
              let both : pair_words hand.items.items ++ mark_words hand.marks.items
              ≡ pair_words hand.items.items ++ all_entry_words (entries_of hand.marks.items) =
              tail_same l.head (head_word (length hand.items.items) (length (entries_of hand.marks.items)))
              (pair_words hand.items.items ++ mark_words hand.marks.items)
              (pair_words hand.items.items ++ all_entry_words (entries_of hand.marks.items))
              (sym l.words_are ∙ words) in
              sym (cancel (pair_words hand.items.items) (mark_words hand.marks.items)
              (all_entry_words (entries_of hand.marks.items)) both);
          few_items = omega (arith, l.few_items, ap (λ (p : Plan). p.settings.items) row_plan);
          few_marks = omega (arith, l.few_marks, ap (λ (p : Plan). p.settings.seats) row_plan);
        }
