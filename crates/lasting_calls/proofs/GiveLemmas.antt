-- A seat that asks is given a row, step by step; and what is loaded of own rows and hold words.
use Rattle.std.proofs.Common.{◌≡◌, ◌≢◌, ℕ, ◌+◌, ◌*◌, ◌%◌, ◌^◌, ◌<◌, ◌∙◌, List, ◌∷◌, sym, ap, subst, arith}
use Rattle.lasting_model.specs.Plans.{ample}
use Rattle.lasting_model.specs.Codes.{holding, row_in, time_in}
use Rattle.lasting_model.specs.Steps.{Gives, Homes, Loads, Seats, Sees, Sweep, Update}
use Rattle.lasting_model.specs.Goes.{SweepFate, by_giving, by_hold, sweep_fate}
use Rattle.lasting_calls.specs.Going.{Going, IsOn, deed, goes, task}
use Rattle.lasting_calls.specs.Going.Task.{Exchange, Load}
use Rattle.lasting_calls.specs.Desks.{IsOf}
use Rattle.lasting_calls.specs.Sweeps.{AtHold, IsAsked, swept_to}
use Rattle.lasting_calls.specs.declared.desk.Desk.{Desk}
use Rattle.lasting_calls.proofs.PlaceLemmas.{bucket_at, buckets_are, hold_at, want_at}
use Rattle.lasting_calls.proofs.SweepLemmas.{asked_word, asks_by, at_gives, at_loads, at_seats, at_sees, at_sweep, holds_by, sweep_step}

-- the desk is the same before the sweep
pub base_of : (f b : Going) (u : Update) (rows : ℕ) (sweep : Sweep) (desk : Desk) → f ≡ at_sweep b u rows sweep →
    IsOf f desk → IsOf b desk
base_of f b u rows sweep desk at is = record {
  settings = ap (λ (g : Going). g.plan.settings) (sym at) ∙ is.settings;
  hashing = ap (λ (g : Going). g.plan.hashing) (sym at) ∙ is.hashing;
  rows = ap (λ (g : Going). g.plan.rows) (sym at) ∙ is.rows;
  seat = ap (λ (g : Going). g.seat) (sym at) ∙ is.seat;
}

-- and after a step
pub swept_desk : (f b : Going) (u : Update) (left : ℕ) (next : SweepFate) (desk : Desk) → f ≡ swept_to b u left next →
    IsOf b desk → IsOf f desk
swept_desk f b u left next desk at is = record {
  settings = ap (λ (g : Going). g.plan.settings) at ∙ is.settings;
  hashing = ap (λ (g : Going). g.plan.hashing) at ∙ is.hashing;
  rows = ap (λ (g : Going). g.plan.rows) at ∙ is.rows;
  seat = ap (λ (g : Going). g.seat) at ∙ is.seat;
}

-- before it
pub unswept_desk : (f b : Going) (u : Update) (left : ℕ) (next : SweepFate) (desk : Desk) → f ≡ swept_to b u left next →
    IsOf f desk → IsOf b desk
unswept_desk f b u left next desk at is = record {
  settings = ap (λ (g : Going). g.plan.settings) (sym at) ∙ is.settings;
  hashing = ap (λ (g : Going). g.plan.hashing) (sym at) ∙ is.hashing;
  rows = ap (λ (g : Going). g.plan.rows) (sym at) ∙ is.rows;
  seat = ap (λ (g : Going). g.seat) (sym at) ∙ is.seat;
}

-- where a step leads
pub leads : (f b next : Going) (u : Update) (rows : ℕ) (sweep : Sweep) (word : ℕ) → f ≡ at_sweep b u rows sweep →
    next ≡ goes f word → next ≡ swept_to b u rows (sweep_fate (ample b.plan) b.seat sweep word)
leads f b next u rows sweep word at step =
    step ∙ ap (λ (g : Going). goes g word) at ∙ sweep_step b u rows sweep word

-- what is asked for
module _ (f b : Going) (u : Update) (rows : ℕ) (desk : Desk) where
  pub home_asked : (row : ℕ × ℕ) (todo gone : List (ℕ × ℕ)) → f ≡ at_sweep b u rows (Homes (row ∷ todo) gone) →
      IsOf f desk → (at : ℕ) → at ≡ desk.buckets + row.1 → task f ≡ Load at
  home_asked row todo gone here is at at_is =
      ap task here
      ∙ ap Load (bucket_at b desk (base_of f b u rows (Homes (row ∷ todo) gone) desk here is) row.1 ∙ sym at_is)

  pub hold_asked : (seat : ℕ) (gone : List (ℕ × ℕ)) → f ≡ at_sweep b u rows (Seats seat gone) → IsOf f desk →
      (at : ℕ) → at ≡ 2 * desk.settings.seats + seat → task f ≡ Load at
  hold_asked seat gone here is at at_is =
      ap task here
      ∙ ap Load (hold_at b desk (base_of f b u rows (Seats seat gone) desk here is) seat ∙ sym at_is)

module _ (f : Going) (seat word : ℕ) (a : IsAsked f seat word) (odd : word % 2 ≡ 1) (desk : Desk)
    (is : IsOf f desk) where
  abbrev b : Going
  b = a.first

  abbrev time : ℕ
  time = time_in word

  sees : f ≡ at_sweep b a.update a.left (Sees seat time a.gone)
  sees = a.goes ∙ at_sees b a.update a.left seat time a.gone

  desk_is : IsOf b desk
  desk_is = base_of f b a.update a.left (Sees seat time a.gone) desk sees is

  pub want_asked : (at : ℕ) → at ≡ desk.settings.seats + seat → task f ≡ Load at
  want_asked at at_is = ap task sees ∙ ap Load (want_at b desk desk_is seat ∙ sym at_is)

  module _ (one : Going) (bucket : ℕ) (first : one ≡ goes f bucket) where
    loads : one ≡ at_sweep b a.update a.left (Loads seat time bucket a.gone)
    loads =
        leads f b one a.update a.left (Sees seat time a.gone) bucket sees first
        ∙ at_loads b a.update a.left seat time bucket a.gone

    pub bucket_few : IsOn one.plan (deed one) → bucket < 2 ^ 32
    bucket_few on_word =
        let there : IsOn (at_sweep b a.update a.left (Loads seat time bucket a.gone)).plan
        (deed (at_sweep b a.update a.left (Loads seat time bucket a.gone))) =
        subst (λ (g : Going). IsOn g.plan (deed g)) loads on_word in
        omega (arith, there, buckets_are b desk desk_is, desk.starts.rows_are, desk.starts.few)

    pub bucket_asked : (at : ℕ) → at ≡ desk.buckets + bucket → task one ≡ Load at
    bucket_asked at at_is = ap task loads ∙ ap Load (bucket_at b desk desk_is bucket ∙ sym at_is)

    module _ (two : Going) (found : ℕ) (second : two ≡ goes one found) where
      gives : two ≡ at_sweep b a.update a.left (Gives seat time (row_in found) a.gone)
      gives =
          leads one b two a.update a.left (Loads seat time bucket a.gone) found loads second
          ∙ at_gives b a.update a.left seat time (row_in found) a.gone

      pub giving_asked : (at old new : ℕ) → at ≡ 2 * desk.settings.seats + seat → old ≡ word →
          new ≡ holding (row_in found) → task two ≡ Exchange at old new
      giving_asked at old new at_is old_is new_is =
          ap task gives
          ∙ (λ i. Exchange ((hold_at b desk desk_is seat ∙ sym at_is) i)
          ((asked_word word odd ∙ sym old_is) i) (sym new_is i))

      pub has_given : (three : Going) (result : ℕ) → three ≡ goes two result →
          three ≡ swept_to b a.update a.left (by_giving (ample b.plan) b.seat seat a.gone result)
      has_given three result third =
          leads two b three a.update a.left (Gives seat time (row_in found) a.gone) result gives third

-- a hold word is loaded
module _ (f : Going) (seat : ℕ) (a : AtHold f seat) (next : Going) (word : ℕ) (step : next ≡ goes f word) where
  pub hold_seen : next ≡ swept_to a.first a.update a.left (by_hold (ample a.first.plan) a.first.seat seat a.gone word)
  hold_seen =
      leads f a.first next a.update a.left (Seats seat a.gone) word
      (a.goes ∙ at_seats a.first a.update a.left seat a.gone) step

  -- the seat asks
  abbrev pub now_asked : word % 2 ≡ 1 → IsAsked next seat word
  now_asked odd = record {
    first = a.first;
    update = a.update;
    left = a.left;
    gone = a.gone;
    goes = hold_seen
        ∙ ap (swept_to a.first a.update a.left) (asks_by (ample a.first.plan) a.first.seat seat a.gone word odd);
  }

  -- or it does not
  pub not_asked : word % 2 ≢ 1 →
      next ≡ swept_to a.first a.update a.left (by_giving (ample a.first.plan) a.first.seat seat a.gone word)
  not_asked even =
      hold_seen ∙ ap (swept_to a.first a.update a.left)
      (holds_by (ample a.first.plan) a.first.seat seat a.gone word even)
