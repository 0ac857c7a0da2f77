-- An own row is looked at, and a piece of a sweep begins and ends.
use Rattle.std.proofs.Common.{◌≡◌, ℕ, ◌+◌, ◌-◌, ◌<◌, ◌∙◌, Bool, true, false, List, [], ◌∷◌, ◌++◌, Option, Some, refl, sym, ap, subst, append-nil, arith}
use Rattle.std.proofs.lemmas.Bool.{cond-true, cond-false}
use Rattle.std.specs.Prelude.{◌==◌, is_some, not}
use Rattle.own_rows.specs.declared.rows.OwnRows.{OwnRows}
use Rattle.own_rows.specs.Rows.{AreSame, HasRows, IsSound, Rows, first_of}
use Rattle.lasting_model.specs.Plans.{ample}
use Rattle.lasting_model.specs.Codes.{row_in}
use Rattle.lasting_model.specs.Steps.{Homes, Sweep, Update}
use Rattle.lasting_model.specs.Goes.{SweepsOn, homes_on, past_home, seats_from}
use Rattle.lasting_calls.specs.Going.{Going, goes, task}
use Rattle.lasting_calls.specs.Going.Task.{Load}
use Rattle.lasting_calls.specs.Desks.{IsOf}
use Rattle.lasting_calls.specs.Seats.{AreRowsOf, gone_in, todo_in}
use Rattle.lasting_calls.specs.Sweeps.{AtHome, AtSeat, HasLookedHome, HasSwept, IsSweeping, home_put, swept_to, with_rows}
use Rattle.lasting_calls.specs.declared.desk.Desk.{Desk}
use Rattle.lasting_calls.proofs.GiveLemmas.{home_asked, leads, swept_desk}
use Rattle.lasting_calls.proofs.SweepLemmas.{at_end, at_homes, at_sweep, kept_homes}

-- a test and its contrary
is_true : (d : Bool) → false ≡ not d → d ≡ true
is_true true e = refl
is_true false e = cc

is_false : (d : Bool) → true ≡ not d → d ≡ false
is_false true e = cc
is_false false e = refl

-- the row that is next, as it is found
pub home_is : (o : Option (ℕ × ℕ)) (row bucket : ℕ) (p : ℕ × ℕ) → o ≡ Some (row, bucket) → o ≡ Some p →
    (row ≡ p.0) × (bucket ≡ p.1)
home_is o row bucket p one two =
    let e : ◌≡◌ {A = ℕ × ℕ} (row, bucket) p = only (row, bucket) p (sym one ∙ two) in
    (ap (λ (q : ℕ × ℕ). q.0) e, ap (λ (q : ℕ × ℕ). q.1) e)
  where
    only : (x y : ℕ × ℕ) → Some x ≡ Some y → x ≡ y
    only x y e = cc

-- what is still to be looked at after a row
pub put_todo : (b : Bool) (r : Rows) (row : ℕ × ℕ) (todo : List (ℕ × ℕ)) → (home_put b r row todo).todo ≡ todo
put_todo true r row todo = refl
put_todo false r row todo = refl

module _ (f first : Going) (u : Update) (left : ℕ) (rows : OwnRows) (a : AtHome first f u left rows) (more : 1 < left)
  where
    abbrev base : Going
    base = with_rows first a.at.free a.at.named

    here : f ≡ at_sweep base u (left - 1) (Homes (a.row ∷ a.todo) a.gone)
    here = a.at.goes ∙ at_homes base u left (a.row ∷ a.todo) a.gone more

    -- the word of its bucket is loaded
    pub load_asked : (desk : Desk) → IsOf f desk → (at : ℕ) → at ≡ desk.buckets + a.row.1 →
        task f ≡ Load at
    load_asked desk is at at_is = home_asked f base u (left - 1) desk a.row a.todo a.gone here is at at_is

    -- the row as it was before it is put
    abbrev pub rows_before : Rows
    rows_before = record {
      generation = first.now.generation;
      free = a.at.free;
      named = a.at.named;
      todo = a.row ∷ a.todo;
      gone = a.gone;
    }

    module _ (next : Going) (word : ℕ) (step : next ≡ goes f word) (later : OwnRows) (sound : IsSound later)
        (same : AreSame rows later)
        (put : HasRows later (home_put (row_in word == a.row.0) rows_before a.row a.todo)) where
      leads_on : next ≡ swept_to base u (left - 1) (past_home (ample first.plan) first.seat a.row a.todo a.gone word)
      leads_on = leads f base next u (left - 1) (Homes (a.row ∷ a.todo) a.gone) word here step

      -- the next row, or the seats
      after : (kept gone : List (ℕ × ℕ)) (todo : List (ℕ × ℕ)) → a.todo ≡ todo →
          HasRows later (record {
            generation = first.now.generation;
            free = a.at.free;
            named = a.at.named ++ kept;
            todo = a.todo;
            gone = gone;
          }) →
          next ≡ swept_to base u (left - 1) (homes_on (ample first.plan) first.seat kept a.todo gone) →
          (done : Bool) → is_some (first_of todo) ≡ not done → HasLookedHome done first next u left later
      after kept gone [] is has at done test =
          subst (λ (d : Bool). HasLookedHome d first next u left later) (sym (is_true done test)) (record {
            left = left - 1;
            gone = gone;
            at = record {
              free = a.at.free;
              named = a.at.named ++ kept;
              sound = sound;
              has = subst
                  (λ (t : List (ℕ × ℕ)). HasRows later (record {
                    generation = first.now.generation;
                    free = a.at.free;
                    named = a.at.named ++ kept;
                    todo = t;
                    gone = gone;
                  }))
                  is has;
              first_is = same.first ∙ a.at.first_is;
              all = same.rows ∙ a.at.all;
              sweeps = omega (arith, same.sweeps, a.at.sweeps);
              goes = at
                  ∙ kept_homes first a.at.free a.at.named u (left - 1) (ample first.plan) first.seat kept a.todo gone
                  ∙ ap
                  (λ (t : List (ℕ × ℕ)). swept_to (with_rows first a.at.free (a.at.named ++ kept)) u (left - 1)
                  (homes_on (ample first.plan) first.seat [] t gone))
                  is;
            };
          })
      after kept gone (row ∷ todo) is has at done test =
          subst (λ (d : Bool). HasLookedHome d first next u left later) (sym (is_false done test)) (record {
            row = row;
            todo = todo;
            gone = gone;
            at = record {
              free = a.at.free;
              named = a.at.named ++ kept;
              sound = sound;
              has = subst
                  (λ (t : List (ℕ × ℕ)). HasRows later (record {
                    generation = first.now.generation;
                    free = a.at.free;
                    named = a.at.named ++ kept;
                    todo = t;
                    gone = gone;
                  }))
                  is has;
              first_is = same.first ∙ a.at.first_is;
              all = same.rows ∙ a.at.all;
              sweeps = omega (arith, same.sweeps, a.at.sweeps);
              goes = at
                  ∙ kept_homes first a.at.free a.at.named u (left - 1) (ample first.plan) first.seat kept a.todo gone
                  ∙ ap
                  (λ (t : List (ℕ × ℕ)). swept_to (with_rows first a.at.free (a.at.named ++ kept)) u (left - 1)
                  (homes_on (ample first.plan) first.seat [] t gone))
                  is;
            };
          })

      pub looked_home : (done : Bool) → is_some (first_of a.todo) ≡ not done →
          HasLookedHome done first next u left later
      looked_home done test = by (row_in word == a.row.0) refl
        where
          by : (b : Bool) → (row_in word == a.row.0) ≡ b → HasLookedHome done first next u left later
          by true is =
              after (a.row ∷ []) a.gone a.todo refl
              (subst (λ (b : Bool). HasRows later (home_put b rows_before a.row a.todo)) is put)
              (leads_on
              ∙ ap (swept_to base u (left - 1)) (cond-true (row_in word == a.row.0)
              (homes_on (ample first.plan) first.seat (a.row ∷ []) a.todo a.gone)
              (homes_on (ample first.plan) first.seat [] a.todo (a.row ∷ a.gone)) is))
              done test
          by false is =
              after [] (a.row ∷ a.gone) a.todo refl
              (subst
              (λ (n : List (ℕ × ℕ)). HasRows later (record {
                generation = first.now.generation;
                free = a.at.free;
                named = n;
                todo = a.todo;
                gone = a.row ∷ a.gone;
              }))
              (sym (append-nil a.at.named))
              (subst (λ (b : Bool). HasRows later (home_put b rows_before a.row a.todo)) is put))
              (leads_on
              ∙ ap (swept_to base u (left - 1)) (cond-false (row_in word == a.row.0)
              (homes_on (ample first.plan) first.seat (a.row ∷ []) a.todo a.gone)
              (homes_on (ample first.plan) first.seat [] a.todo (a.row ∷ a.gone)) is))
              done test

-- the piece begins
pub begins_home : (f : Going) (rows : OwnRows) (s : IsSweeping f) → AreRowsOf f rows → AtHome f f s.update 4 rows
begins_home f rows s are = record {
  row = s.row;
  todo = s.todo;
  gone = s.gone;
  at = record {
    free = f.now.free;
    named = f.now.named;
    sound = are.sound;
    has = subst
        (λ (o : Option Sweep). HasRows rows (record {
          generation = f.now.generation;
          free = f.now.free;
          named = f.now.named;
          todo = todo_in o;
          gone = gone_in o;
        }))
        s.sweep are.has;
    first_is = are.first;
    all = are.all;
    sweeps = are.sweeps;
    goes = (λ i. record f { now = record f.now { sweep = s.sweep i; stand = s.stand i } })
        ∙ sym (at_homes (with_rows f f.now.free f.now.named) s.update 4 (s.row ∷ s.todo) s.gone (omega arith));
  };
}

-- it is over, and rows are left to be looked at
pub piece_over : (f first : Going) (u : Update) (rows : OwnRows) (left : ℕ) → left ≡ 1 → AtHome first f u left rows →
    HasSwept first f u rows
piece_over f first u rows left last a = record {
  swept = record first {
    now = record first.now {
      free = a.at.free;
      named = a.at.named;
      sweep = Some (Homes (a.row ∷ a.todo) a.gone);
    };
  };
  same = refl;
  rest = tt;
  rows_are = record {
    sound = a.at.sound;
    has = a.at.has;
    first = a.at.first_is;
    all = a.at.all;
    sweeps = a.at.sweeps;
  };
  goes = a.at.goes ∙ at_end (with_rows first a.at.free a.at.named) u left (a.row ∷ a.todo) a.gone last;
}

-- the desk stays the same
pub home_desk : (first now : Going) (u : Update) (left : ℕ) (rows : OwnRows) (desk : Desk) → IsOf first desk →
    AtHome first now u left rows → IsOf now desk
home_desk first now u left rows desk is b =
    swept_desk now (with_rows first b.at.free b.at.named) u left
    (SweepsOn [] (Homes (b.row ∷ b.todo) b.gone)) desk b.at.goes
    (record { settings = is.settings; hashing = is.hashing; rows = is.rows; seat = is.seat })

pub seat_desk : (first now : Going) (u : Update) (seat : ℕ) (rows : OwnRows) (desk : Desk) → IsOf first desk →
    AtSeat first now u seat rows → IsOf now desk
seat_desk first now u seat rows desk is b =
    swept_desk now (with_rows first b.at.free b.at.named) u b.left
    (seats_from (ample first.plan) first.seat seat [] b.gone) desk b.at.goes
    (record { settings = is.settings; hashing = is.hashing; rows = is.rows; seat = is.seat })
