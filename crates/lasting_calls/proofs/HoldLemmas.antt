-- The held look, step by step.
use Rattle.std.proofs.Common.{◌≡◌, ◌≢◌, ℕ, ◌+◌, ◌*◌, ◌^◌, ◌<◌, ◌≤◌, ◌∙◌, refl, sym, ap, subst, arith}
use Rattle.std.proofs.lemmas.Bool.{cond-true, cond-false}
use Rattle.std.specs.Prelude.{◌==◌, if◌then◌else◌}
use Rattle.std.proofs.Math.Nat.{mul-le-mul_left}
use Rattle.lasting_model.specs.Plans.{ample}
use Rattle.lasting_model.specs.Codes.{asking, held_row, holding, row_in}
use Rattle.lasting_model.specs.Words.{Bucket, Hold, Want, place}
use Rattle.lasting_model.specs.Steps.{Goes, Glances, GlanceAsking, GlanceHeld, GlanceTake, HeldWord, Stand, StoreAsking, TakeHold}
use Rattle.lasting_calls.specs.Going.{Going, IsOn, deed, goes, on, task}
use Rattle.lasting_calls.specs.Going.Task.{Exchange, Load, Store}
use Rattle.lasting_calls.specs.Desks.{IsOf}
use Rattle.lasting_calls.specs.Items.{Holder, OfLook, OfUpdate, asked_again, bucket_of_holder, holds_row, wants}
use Rattle.lasting_calls.specs.declared.desk.Desk.{Desk}
use Rattle.lasting_calls.proofs.PlaceLemmas.{bucket_at, hold_at, want_at}
use Rattle.lasting_calls.proofs.FindLemmas.{words_same, words_differ}

-- where it stands after each step
abbrev pub asks : Holder → Stand
asks (OfLook aim) = Glances aim GlanceAsking
asks (OfUpdate u) = Goes u StoreAsking

abbrev pub loads : Holder → Stand
loads (OfLook aim) = Glances aim GlanceHeld
loads (OfUpdate u) = Goes u HeldWord

abbrev pub takes : Holder → (word : ℕ) → Stand
takes (OfLook aim) word = Glances aim (GlanceTake word)
takes (OfUpdate u) word = Goes u (TakeHold word)

-- the row that it then has
abbrev pub taken : (time word found : ℕ) → ℕ
taken time word found = if found == asking time then row_in word else held_row found

module _ (f : Going) (h : Holder) (stand : f.now.stand ≡ wants h) where
  -- one step
  want_step : (h : Holder) → goes (on f (wants h)) 0 ≡ on f (asks h)
  want_step (OfLook aim) = refl
  want_step (OfUpdate u) = refl

  ask_step : (h : Holder) → goes (on f (asks h)) 0 ≡ on (asked_again f) (loads h)
  ask_step (OfLook aim) = refl
  ask_step (OfUpdate u) = refl

  load_step : (h : Holder) (word : ℕ) → goes (on (asked_again f) (loads h)) word ≡ on (asked_again f) (takes h word)
  load_step (OfLook aim) word = refl
  load_step (OfUpdate u) word = refl

  take_step : (h : Holder) (word found : ℕ) → goes (on (asked_again f) (takes h word)) found
      ≡ on (asked_again f) (holds_row h (taken (f.now.time + 1) word found))
  take_step (OfLook aim) word found = refl
  take_step (OfUpdate u) word found = refl

  -- what each of them is
  want_task : (h : Holder) → task (on f (wants h))
      ≡ Store (place f.plan (Want f.seat)) (bucket_of_holder (ample f.plan) h)
  want_task (OfLook aim) = refl
  want_task (OfUpdate u) = refl

  ask_task : (h : Holder) → task (on f (asks h)) ≡ Store (place f.plan (Hold f.seat)) (asking (f.now.time + 1))
  ask_task (OfLook aim) = refl
  ask_task (OfUpdate u) = refl

  load_task : (h : Holder) → task (on (asked_again f) (loads h))
      ≡ Load (place f.plan (Bucket (bucket_of_holder (ample f.plan) h)))
  load_task (OfLook aim) = refl
  load_task (OfUpdate u) = refl

  take_task : (h : Holder) (word : ℕ) → task (on (asked_again f) (takes h word))
      ≡ Exchange (place f.plan (Hold f.seat)) (asking (f.now.time + 1)) (holding (row_in word))
  take_task (OfLook aim) word = refl
  take_task (OfUpdate u) word = refl

  starts : f ≡ on f (wants h)
  starts = ap (on f) stand

  module _ (a : Going) (first : a ≡ goes f 0) where
    pub wanted : a ≡ on f (asks h)
    wanted = first ∙ ap (λ (g : Going). goes g 0) starts ∙ want_step h

    module _ (b : Going) (second : b ≡ goes a 0) where
      pub asked : b ≡ on (asked_again f) (loads h)
      asked = second ∙ ap (λ (g : Going). goes g 0) wanted ∙ ask_step h

      module _ (c : Going) (word : ℕ) (third : c ≡ goes b word) where
        pub found_word : c ≡ on (asked_again f) (takes h word)
        found_word = third ∙ ap (λ (g : Going). goes g word) asked ∙ load_step h word

        pub has_taken : (d : Going) (found : ℕ) → d ≡ goes c found →
            d ≡ on (asked_again f) (holds_row h (taken (f.now.time + 1) word found))
        has_taken d found fourth =
            fourth ∙ ap (λ (g : Going). goes g found) found_word ∙ take_step h word found

  module _ (desk : Desk) (is : IsOf f desk) where
    pub want_asked : (at bucket : ℕ) → at ≡ desk.settings.seats + desk.seat →
        bucket ≡ bucket_of_holder (ample f.plan) h → task f ≡ Store at bucket
    want_asked at bucket at_is bucket_is =
        ap task starts ∙ want_task h
        ∙ (λ i. Store ((want_at f desk is f.seat ∙ ap (λ (s : ℕ). desk.settings.seats + s) is.seat ∙ sym at_is) i)
        (sym bucket_is i))

    hold_is : (at : ℕ) → at ≡ 2 * desk.settings.seats + desk.seat → place f.plan (Hold f.seat) ≡ at
    hold_is at at_is =
        hold_at f desk is f.seat ∙ ap (λ (s : ℕ). 2 * desk.settings.seats + s) is.seat ∙ sym at_is

    pub asking_asked : (a : Going) → a ≡ on f (asks h) → (at word : ℕ) → at ≡ 2 * desk.settings.seats + desk.seat →
        word ≡ asking (f.now.time + 1) → task a ≡ Store at word
    asking_asked a here at word at_is word_is =
        ap task here ∙ ask_task h ∙ (λ i. Store (hold_is at at_is i) (sym word_is i))

    pub loading_asked : (b : Going) → b ≡ on (asked_again f) (loads h) → (at bucket : ℕ) →
        at ≡ desk.buckets + bucket → bucket ≡ bucket_of_holder (ample f.plan) h → task b ≡ Load at
    loading_asked b here at bucket at_is bucket_is =
        ap task here ∙ load_task h
        ∙ ap Load (bucket_at f desk is (bucket_of_holder (ample f.plan) h)
        ∙ ap (λ (k : ℕ). desk.buckets + k) (sym bucket_is) ∙ sym at_is)

    pub taking_asked : (c : Going) (word : ℕ) → c ≡ on (asked_again f) (takes h word) → (at old new : ℕ) →
        at ≡ 2 * desk.settings.seats + desk.seat → old ≡ asking (f.now.time + 1) → new ≡ holding (row_in word) →
        task c ≡ Exchange at old new
    taking_asked c word here at old new at_is old_is new_is =
        ap task here ∙ take_task h word
        ∙ (λ i. Exchange (hold_is at at_is i) (sym old_is i) (sym new_is i))

-- a row of a table can be told in 32 bits
product_few : (a b row : ℕ) → a ≤ 8 → b ≤ 2 ^ 14 → row < a * b → row < 2 ^ 32
product_few a b row few_a few_b inside = omega (arith, inside, mul-le-mul_left a few_b, few_a)

-- the row that is held
pub held_few : (f d : Going) (h : Holder) (desk : Desk) (row : ℕ) → IsOf f desk →
    d ≡ on (asked_again f) (holds_row h row) → IsOn d.plan (deed d) → row < 2 ^ 32
held_few f d h desk row is here on_word = by h (subst (λ (g : Going). IsOn g.plan (deed g)) here on_word)
  where
    few_seats : f.plan.settings.seats ≤ 8
    few_seats = f.plan.settings.seats_in_range.1

    few_rows : f.plan.rows ≤ 2 ^ 14
    few_rows = omega (arith, is.rows, desk.few)

    by : (h : Holder) → IsOn f.plan (deed (on (asked_again f) (holds_row h row))) → row < 2 ^ 32
    by (OfLook aim) o = product_few f.plan.settings.seats f.plan.rows row few_seats few_rows o.0
    by (OfUpdate u) o = product_few f.plan.settings.seats f.plan.rows row few_seats few_rows o.0

-- which it is
pub taken_own : (time word found row : ℕ) → found ≡ asking time → row ≡ row_in word → taken time word found ≡ row
taken_own time word found row same is =
    cond-true (found == asking time) (row_in word) (held_row found) (words_same found (asking time) same) ∙ sym is

pub taken_given : (time word found row : ℕ) → found ≢ asking time → row ≡ held_row found →
    taken time word found ≡ row
taken_given time word found row other is =
    cond-false (found == asking time) (row_in word) (held_row found) (words_differ found (asking time) other) ∙ sym is
