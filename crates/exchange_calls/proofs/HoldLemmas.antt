-- The held look, step by step.
use Rattle.std.proofs.Common.{◌≡◌, ◌≢◌, ℕ, ◌+◌, ◌^◌, ◌<◌, ◌∙◌, refl, sym, ap, subst}
use Rattle.std.proofs.lemmas.Bool.{cond-true, cond-false}
use Rattle.std.specs.Prelude.{◌==◌, if◌then◌else◌}
use Rattle.exchange_model.specs.Plans.{Plan}
use Rattle.exchange_model.specs.Codes.{asking, held_row, holding, row_in}
use Rattle.exchange_model.specs.Words.{Bucket, Hold, Want, place}
use Rattle.exchange_model.specs.Steps.{Goes, Glances, GlanceAsking, GlanceHeld, GlanceTake, HeldWord, Stand, StoreAsking, TakeHold}
use Rattle.exchange_calls.specs.Going.{Going, IsOn, deed, goes, on, task}
use Rattle.exchange_calls.specs.Going.Task.{Exchange, Load, Store}
use Rattle.exchange_calls.specs.Desks.{IsOf}
use Rattle.exchange_calls.specs.Items.{Giver, Holder, LookGives, OfLook, OfUpdate, UpdateGives, asked_again, class_of_holder, given, gives, holds_row, wants}
use Rattle.exchange_calls.specs.declared.desk.Desk.{Desk}
use Rattle.exchange_calls.proofs.PlaceLemmas.{bucket_at, hold_at, row_few, want_at}
use Rattle.exchange_calls.proofs.FindLemmas.{words_same, words_differ}

-- where it stands after each step
abbrev pub asks : Holder → Stand
asks (OfLook aim) = Glances aim GlanceAsking
asks (OfUpdate u) = Goes u StoreAsking

abbrev pub loads : Holder → Stand
loads (OfLook aim) = Glances aim GlanceHeld
loads (OfUpdate u) = Goes u HeldWord

abbrev pub takes : Holder → (word : ℕ) → Stand
takes (OfLook aim) word = Glances aim (GlanceTake word)
takes (OfUpdate u) word = Goes u (TakeHold word)

-- the row that it then has
abbrev pub taken : Plan → (time word found : ℕ) → ℕ
taken plan time word found = if found == asking time then row_in plan word else held_row found

module _ (f : Going) (h : Holder) (stand : f.now.stand ≡ wants h) where
  -- one step
  want_step : (h : Holder) → goes (on f (wants h)) 0 ≡ on f (asks h)
  want_step (OfLook aim) = refl
  want_step (OfUpdate u) = refl

  ask_step : (h : Holder) → goes (on f (asks h)) 0 ≡ on (asked_again f) (loads h)
  ask_step (OfLook aim) = refl
  ask_step (OfUpdate u) = refl

  load_step : (h : Holder) (word : ℕ) → goes (on (asked_again f) (loads h)) word ≡ on (asked_again f) (takes h word)
  load_step (OfLook aim) word = refl
  load_step (OfUpdate u) word = refl

  take_step : (h : Holder) (word found : ℕ) → goes (on (asked_again f) (takes h word)) found
      ≡ on (asked_again f) (holds_row h (taken f.plan (f.now.time + 1) word found))
  take_step (OfLook aim) word found = refl
  take_step (OfUpdate u) word found = refl

  -- what each of them is
  want_task : (h : Holder) → task (on f (wants h))
      ≡ Store (place f.plan (Want f.seat)) (class_of_holder f.plan h)
  want_task (OfLook aim) = refl
  want_task (OfUpdate u) = refl

  ask_task : (h : Holder) → task (on f (asks h)) ≡ Store (place f.plan (Hold f.seat)) (asking (f.now.time + 1))
  ask_task (OfLook aim) = refl
  ask_task (OfUpdate u) = refl

  load_task : (h : Holder) → task (on (asked_again f) (loads h))
      ≡ Load (place f.plan (Bucket (class_of_holder f.plan h)))
  load_task (OfLook aim) = refl
  load_task (OfUpdate u) = refl

  take_task : (h : Holder) (word : ℕ) → task (on (asked_again f) (takes h word))
      ≡ Exchange (place f.plan (Hold f.seat)) (asking (f.now.time + 1)) (holding (row_in f.plan word))
  take_task (OfLook aim) word = refl
  take_task (OfUpdate u) word = refl

  starts : f ≡ on f (wants h)
  starts = ap (on f) stand

  module _ (a : Going) (first : a ≡ goes f 0) where
    pub wanted : a ≡ on f (asks h)
    wanted = first ∙ ap (λ (g : Going). goes g 0) starts ∙ want_step h

    module _ (b : Going) (second : b ≡ goes a 0) where
      pub asked : b ≡ on (asked_again f) (loads h)
      asked = second ∙ ap (λ (g : Going). goes g 0) wanted ∙ ask_step h

      module _ (c : Going) (word : ℕ) (third : c ≡ goes b word) where
        pub found_word : c ≡ on (asked_again f) (takes h word)
        found_word = third ∙ ap (λ (g : Going). goes g word) asked ∙ load_step h word

        pub has_taken : (d : Going) (found : ℕ) → d ≡ goes c found →
            d ≡ on (asked_again f) (holds_row h (taken f.plan (f.now.time + 1) word found))
        has_taken d found fourth =
            fourth ∙ ap (λ (g : Going). goes g found) found_word ∙ take_step h word found

  module _ (desk : Desk) (is : IsOf f desk) where
    pub want_asked : (at bucket : ℕ) → at ≡ desk.wants + desk.holder →
        bucket ≡ class_of_holder f.plan h → task f ≡ Store at bucket
    want_asked at bucket at_is bucket_is =
        ap task starts ∙ want_task h
        ∙ (λ i. Store ((want_at f desk is f.seat ∙ ap (λ (s : ℕ). desk.wants + s) is.seat ∙ sym at_is) i)
        (sym bucket_is i))

    hold_is : (at : ℕ) → at ≡ desk.holds + desk.holder → place f.plan (Hold f.seat) ≡ at
    hold_is at at_is =
        hold_at f desk is f.seat ∙ ap (λ (s : ℕ). desk.holds + s) is.seat ∙ sym at_is

    pub asking_asked : (a : Going) → a ≡ on f (asks h) → (at word : ℕ) → at ≡ desk.holds + desk.holder →
        word ≡ asking (f.now.time + 1) → task a ≡ Store at word
    asking_asked a here at word at_is word_is =
        ap task here ∙ ask_task h ∙ (λ i. Store (hold_is at at_is i) (sym word_is i))

    pub loading_asked : (b : Going) → b ≡ on (asked_again f) (loads h) → (at bucket : ℕ) →
        at ≡ desk.buckets + bucket → bucket ≡ class_of_holder f.plan h → task b ≡ Load at
    loading_asked b here at bucket at_is bucket_is =
        ap task here ∙ load_task h
        ∙ ap Load (bucket_at f desk is (class_of_holder f.plan h)
        ∙ ap (λ (k : ℕ). desk.buckets + k) (sym bucket_is) ∙ sym at_is)

    pub taking_asked : (c : Going) (word : ℕ) → c ≡ on (asked_again f) (takes h word) → (at old new : ℕ) →
        at ≡ desk.holds + desk.holder → old ≡ asking (f.now.time + 1) → new ≡ holding (row_in f.plan word) →
        task c ≡ Exchange at old new
    taking_asked c word here at old new at_is old_is new_is =
        ap task here ∙ take_task h word
        ∙ (λ i. Exchange (hold_is at at_is i) (sym old_is i) (sym new_is i))

-- the row that is held
pub held_few : (f d : Going) (h : Holder) (desk : Desk) (row : ℕ) → IsOf f desk →
    d ≡ on (asked_again f) (holds_row h row) → IsOn d.plan (deed d) → row < 2 ^ 32
held_few f d h desk row is here on_word = by h (subst (λ (g : Going). IsOn g.plan (deed g)) here on_word)
  where
    by : (h : Holder) → IsOn f.plan (deed (on (asked_again f) (holds_row h row))) → row < 2 ^ 32
    by (OfLook aim) o = row_few f desk row is o.0
    by (OfUpdate u) o = row_few f desk row is o.0

-- which it is
pub taken_own : (plan : Plan) (time word found row : ℕ) → found ≡ asking time → row ≡ row_in plan word →
    taken plan time word found ≡ row
taken_own plan time word found row same is =
    cond-true (found == asking time) (row_in plan word) (held_row found) (words_same found (asking time) same)
    ∙ sym is

pub taken_given : (plan : Plan) (time word found row : ℕ) → found ≢ asking time → row ≡ held_row found →
    taken plan time word found ≡ row
taken_given plan time word found row other is =
    cond-false (found == asking time) (row_in plan word) (held_row found)
    (words_differ found (asking time) other) ∙ sym is

-- ---- the hold is given back

module _ (f : Going) (h : Giver) (stand : f.now.stand ≡ gives h) where
  back_task : (h : Giver) → task (on f (gives h)) ≡ Store (place f.plan (Hold f.seat)) 0
  back_task (LookGives aim kept) = refl
  back_task (UpdateGives call reply) = refl

  back_step : (h : Giver) → goes (on f (gives h)) 0 ≡ given f h
  back_step (LookGives aim kept) = refl
  back_step (UpdateGives call reply) = refl

  begins : f ≡ on f (gives h)
  begins = ap (on f) stand

  pub back_asked : (desk : Desk) → IsOf f desk → (at : ℕ) → at ≡ desk.holds + desk.holder → task f ≡ Store at 0
  back_asked desk is at at_is =
      ap task begins ∙ back_task h
      ∙ ap (λ (n : ℕ). Store n 0)
      (hold_at f desk is f.seat ∙ ap (λ (s : ℕ). desk.holds + s) is.seat ∙ sym at_is)

  pub given_back : (now : Going) → now ≡ goes f 0 → now ≡ given f h
  given_back now step = step ∙ ap (λ (g : Going). goes g 0) begins ∙ back_step h
