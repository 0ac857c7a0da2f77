-- A world as the held look sees it: its bucket words, its hold words, where each seat stands in its look and in its
-- sweep.
use Rattle.std.proofs.Common.{ℕ, Bool, List, Option, Some, None}
use Rattle.std.specs.Prelude.{◌==◌, if◌then◌else◌}
use Rattle.std.specs.List.{list_any}
use Rattle.lasting_model.specs.Plans.{Plan}
use Rattle.lasting_model.specs.Codes.{row_in, is_asking, time_in, held_row}
use Rattle.lasting_model.specs.Steps as S
use Rattle.lasting_model.specs.Steps.{Step, Source, Glance}
use Rattle.lasting_model.specs.Goes.{rows_of}
use Rattle.lasting_model.specs.Worlds.{Lasting, seat_in}
use Rattle.lasting_laws.proofs.Pools.{owner_in}
use Rattle.lasting_laws.proofs.Holding as H

-- a hold word
abbrev pub hold_of : ℕ → H.Hold
hold_of word =
    if word == 0 then H.Nothing else (if is_asking word then H.Asking (time_in word) else H.Holding (held_row word))

abbrev pub look_of_step : Step → H.Look
look_of_step S.StoreAsking = H.Chosen
look_of_step S.HeldWord = H.Asked
look_of_step (S.TakeHold word) = H.Loaded (row_in word)
look_of_step (S.HeldNumber row) = H.Reads row
look_of_step (S.HeldReply row) = H.Reads row
look_of_step step = H.NoLook

abbrev pub look_of_source : Source → H.Look
look_of_source (S.Tried left word) = H.NoLook
look_of_source (S.HeldIn row) = H.Reads row

abbrev pub look_of_glance : Glance → H.Look
look_of_glance S.GlanceAsking = H.Chosen
look_of_glance S.GlanceHeld = H.Asked
look_of_glance (S.GlanceTake word) = H.Loaded (row_in word)
look_of_glance (S.GlanceCount source) = look_of_source source
look_of_glance (S.GlanceItem source scan) = look_of_source source
look_of_glance glance = H.NoLook

abbrev pub look_of : S.Stand → H.Look
look_of S.Idle = H.NoLook
look_of (S.Goes u step) = look_of_step step
look_of (S.Glances aim glance) = look_of_glance glance

abbrev pub among : List ℕ → ℕ → Bool
among rows row = list_any (λ other. other == row) rows

abbrev pub sweep_of : Option S.Sweep → H.Sweep
sweep_of None = H.NoSweep
sweep_of (Some (S.Homes todo gone)) = H.Seats 0 (among (rows_of gone))
sweep_of (Some (S.Seats k gone)) = H.Seats k (among (rows_of gone))
sweep_of (Some (S.Sees k t gone)) = H.Sees k t (among (rows_of gone))
sweep_of (Some (S.Loads k t bucket gone)) = H.Loads k t bucket (among (rows_of gone))
sweep_of (Some (S.Gives k t row gone)) = H.Gives k t row (among (rows_of gone))

-- all of it. A row is free where its owner has it among its free rows
abbrev pub held_state : (plan : Plan) (x : Lasting) (home : ℕ → ℕ) (since : ℕ → ℕ → Bool) → H.State
held_state plan x home since = record {
  word = λ b. row_in (x.store.bucket b);
  home = home;
  free = λ row. among (seat_in x (owner_in plan row)).free row;
  hold = λ q. hold_of (x.store.hold q);
  want = x.store.want;
  time = λ q. (seat_in x q).time;
  look = λ q. look_of (seat_in x q).stand;
  sweep = λ q. sweep_of (seat_in x q).sweep;
  since = since;
}
