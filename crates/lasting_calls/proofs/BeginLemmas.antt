-- An update begins.
use Rattle.std.proofs.Common.{◌≡◌, ℕ, ◌^◌, ◌<◌, ◌∙◌, true, false, List, [], ◌∷◌, Option, Some, None, refl, sym, ap, subst, arith}
use Rattle.plain_map.specs.declared.calls.Call.{Call}
use Rattle.plain_map.specs.declared.calls.Call.TheVariants.{Insert, Remove, Lookup, Tally, Count, Put}
use Rattle.plain_map.specs.Calls.{key_in}
use Rattle.plain_map.specs.Keys.{IsKey}
use Rattle.plain_map.specs.Updates.{IsUpdate}
use Rattle.own_rows.specs.declared.rows.OwnRows.{OwnRows}
use Rattle.own_rows.specs.Rows.{AreSame, HasRows, IsSound, first_of}
use Rattle.lasting_model.specs.Plans.{MOST_UPDATES, PIECE}
use Rattle.lasting_model.specs.Steps.{Gives, Goes, Homes, Loads, SeatNow, Seats, Sees, Stand, Sweep, Sweeps, Update}
use Rattle.lasting_model.specs.Goes.{Told, with_free}
use Rattle.lasting_model.specs.Worlds.{CanBegin, next_update, seat_after, stand_at}
use Rattle.lasting_calls.specs.Going.{Going, begun_update, told_by, with_own}
use Rattle.lasting_calls.specs.Seats.{AreRowsOf, IsAtRest, rows_at, taken_up, todo_in, untold}
use Rattle.lasting_calls.specs.Sweeps.{HasSwept, IsSweeping}
use Rattle.std.specs.Prelude.{is_some}
use Rattle.lasting_calls.proofs.FreeLemmas.{few_free}
use Rattle.lasting_calls.proofs.SweepLemmas.{after_same}

-- an update may begin
pub can_begin : (now : SeatNow) (call : Call) → IsUpdate call → IsKey (key_in call) → now.answered < MOST_UPDATES →
    CanBegin now call
can_begin now (Insert key value) update key_is few = (update, key_is, few)
can_begin now (Remove key) update key_is few = (update, key_is, few)
can_begin now (Lookup key) update key_is few = absurd update
can_begin now (Tally key amount) update key_is few = (update, key_is, few)
can_begin now (Count key value amount) update key_is few = (update, key_is, few)
can_begin now (Put key value) update key_is few = (update, key_is, few)

-- where it takes a free row at once
begin_same : (g : Going) (n : SeatNow) (u : Update) (free : List ℕ) (told : Option Told) →
    with_own g (record n { stand = stand_at u (with_free free) }) told
    ≡ with_own g (seat_after n u (with_free free)) told
begin_same g n u [] told = refl
begin_same g n u (row ∷ free) told = refl

-- with this sweep and these named rows
abbrev pub seat_with : Going → Option Sweep → List (ℕ × ℕ) → Going
seat_with f sweep named = record f { now = record f.now { sweep = sweep; named = named } }

module _ (f : Going) (call : Call) (rows later : OwnRows) (sound : IsSound later) (same : AreSame rows later) where
  -- nothing is to be swept
  none_begins : (sweep : Option Sweep) (named : List (ℕ × ℕ)) → IsAtRest sweep →
      AreRowsOf (seat_with f sweep named) rows →
      HasRows later (taken_up (todo_in sweep) (rows_at (seat_with f sweep named).now)) →
      first_of (taken_up (todo_in sweep) (rows_at (seat_with f sweep named).now)).todo ≡ None →
      HasSwept (untold (seat_with f sweep named)) (begun_update (seat_with f sweep named) call)
      (next_update f.now call) later
  none_begins None [] rest are has none = record {
    swept = untold (seat_with f None []);
    same = refl;
    rest = tt;
    rows_are = record {
      sound = sound;
      has = has;
      first = same.first ∙ are.first;
      all = same.rows ∙ are.all;
      sweeps = omega (arith, same.sweeps, are.sweeps);
    };
    goes = begin_same (seat_with f None []) (seat_with f None []).now (next_update f.now call) f.now.free
        (told_by (with_free f.now.free) None);
  }
  none_begins None (row ∷ named) rest are has none = cc
  none_begins (Some (Homes (row ∷ todo) gone)) named rest are has none = cc
  none_begins (Some (Homes [] gone)) named rest are has none = absurd rest
  none_begins (Some (Seats seat gone)) named rest are has none = absurd rest
  none_begins (Some (Sees seat time gone)) named rest are has none = absurd rest
  none_begins (Some (Loads seat time bucket gone)) named rest are has none = absurd rest
  none_begins (Some (Gives seat time row gone)) named rest are has none = absurd rest

  -- a piece of a sweep begins
  pub record Begins (begun : Going) : Type 0 where
    pub sweeping : IsSweeping begun
    pub update_is : sweeping.update ≡ next_update f.now call
    pub rows_are : AreRowsOf begun later
    pub named : List (ℕ × ℕ)
    pub sweep : Option Sweep
    pub stand : Stand
    pub is : begun ≡ record f {
      now = record f.now { named = named; sweep = sweep; stand = stand };
      told = None;
    }

  some_begins : (sweep : Option Sweep) (named : List (ℕ × ℕ)) (row : ℕ × ℕ) → IsAtRest sweep →
      AreRowsOf (seat_with f sweep named) rows →
      HasRows later (taken_up (todo_in sweep) (rows_at (seat_with f sweep named).now)) →
      first_of (taken_up (todo_in sweep) (rows_at (seat_with f sweep named).now)).todo ≡ Some row →
      Begins (begun_update (seat_with f sweep named) call)
  some_begins None [] row rest are has some = cc
  some_begins None (first ∷ named) row rest are has some = record {
    sweeping = record {
      update = next_update f.now call;
      row = first;
      todo = named;
      gone = [];
      stand = refl;
      sweep = refl;
    };
    update_is = refl;
    rows_are = record {
      sound = sound;
      has = has;
      first = same.first ∙ are.first;
      all = same.rows ∙ are.all;
      sweeps = omega (arith, same.sweeps, are.sweeps);
    };
    named = [];
    sweep = Some (Homes (first ∷ named) []);
    stand = Goes (next_update f.now call) (Sweeps PIECE);
    is = refl;
  }
  some_begins (Some (Homes (first ∷ todo) gone)) named row rest are has some = record {
    sweeping = record {
      update = next_update f.now call;
      row = first;
      todo = todo;
      gone = gone;
      stand = refl;
      sweep = refl;
    };
    update_is = refl;
    rows_are = record {
      sound = sound;
      has = has;
      first = same.first ∙ are.first;
      all = same.rows ∙ are.all;
      sweeps = omega (arith, same.sweeps, are.sweeps);
    };
    named = named;
    sweep = Some (Homes (first ∷ todo) gone);
    stand = Goes (next_update f.now call) (Sweeps PIECE);
    is = refl;
  }
  some_begins (Some (Homes [] gone)) named row rest are has some = absurd rest
  some_begins (Some (Seats seat gone)) named row rest are has some = absurd rest
  some_begins (Some (Sees seat time gone)) named row rest are has some = absurd rest
  some_begins (Some (Loads seat time bucket gone)) named row rest are has some = absurd rest
  some_begins (Some (Gives seat time held gone)) named row rest are has some = absurd rest

  module _ (rest : IsAtRest f.now.sweep) (are : AreRowsOf f rows)
      (has : HasRows later (taken_up (todo_in f.now.sweep) (rows_at f.now))) where
    pub begins_at_once : (o : Option (ℕ × ℕ)) →
        o ≡ first_of (taken_up (todo_in f.now.sweep) (rows_at f.now)).todo → o ≡ None → (begun : Going) →
        begun ≡ begun_update f call → HasSwept (untold f) begun (next_update f.now call) later
    begins_at_once o is none begun at =
        subst (λ (g : Going). HasSwept (untold f) g (next_update f.now call) later) (sym at)
        (none_begins f.now.sweep f.now.named rest are has (sym is ∙ none))

    pub begins_sweeping : (o : Option (ℕ × ℕ)) (row : ℕ × ℕ) →
        o ≡ first_of (taken_up (todo_in f.now.sweep) (rows_at f.now)).todo → o ≡ Some row → (begun : Going) →
        begun ≡ begun_update f call → Begins begun
    begins_sweeping o row is some begun at =
        subst (λ (g : Going). Begins g) (sym at)
        (some_begins f.now.sweep f.now.named row rest are has (sym is ∙ some))

-- after the piece it stands as if the update had begun with these rows
pub swept_from : (f begun new : Going) (u : Update) (named : List (ℕ × ℕ)) (sweep : Option Sweep) (stand : Stand)
    (rows : OwnRows) →
    begun ≡ record f { now = record f.now { named = named; sweep = sweep; stand = stand }; told = None } →
    HasSwept begun new u rows → HasSwept (untold f) new u rows
swept_from f begun new u named sweep stand rows at h = record {
  swept = after;
  same = refl;
  rest = h.rest;
  rows_are = record {
    sound = are.sound;
    has = are.has;
    first = are.first;
    all = are.all;
    sweeps = are.sweeps;
  };
  goes = h.goes
      ∙ ap (λ (g : Going). with_own g (seat_after g.now u (with_free h.swept.now.free))
      (told_by (with_free h.swept.now.free) g.told)) here
      ∙ ap (λ (n : SeatNow). with_own after n (told_by (with_free h.swept.now.free) None))
      (after_same after.now stand u (with_free h.swept.now.free));
}
  where
    after : Going
    after = record (untold f) {
      now = record f.now { free = h.swept.now.free; named = h.swept.now.named; sweep = h.swept.now.sweep };
    }

    here : h.swept ≡ record after { now = record after.now { stand = stand } }
    here =
        h.same
        ∙ ap (λ (g : Going). record g {
          now = record g.now {
            free = h.swept.now.free;
            named = h.swept.now.named;
            sweep = h.swept.now.sweep;
          };
        })
        at

    are : AreRowsOf (record after { now = record after.now { stand = stand } }) rows
    are = subst (λ (g : Going). AreRowsOf g rows) here h.rows_are

-- what is next, by a test
pub none_if : (o : Option (ℕ × ℕ)) → is_some o ≡ false → o ≡ None
none_if None e = refl
none_if (Some row) e = cc

pub some_if : (o : Option (ℕ × ℕ)) → is_some o ≡ true → (row : ℕ × ℕ) × (o ≡ Some row)
some_if None e = cc
some_if (Some row) e = (row, refl)

-- the sweeps are few
pub few_sweeps : (f : Going) (rows : OwnRows) → AreRowsOf f rows → f.now.answered < MOST_UPDATES →
    rows.rows < 2 ^ 32 → rows.sweeps < 2 ^ 63
few_sweeps f rows are few small =
    omega (arith, are.sweeps, few, small, few_free rows (rows_at f.now) are.has)
