-- All seats at the opening.
use Rattle.std.specs.Prelude.{ℕ, zero, suc, List, [], ◌∷◌, ◌++◌}
use Rattle.plain_map.specs.declared.calls.Call.{Call}
use Rattle.plain_map.specs.declared.calls.Call.TheVariants.{Lookup}
use Rattle.table_model.specs.Setup.{Setup, seats_of}
use Rattle.table_model.specs.SeatStates.{fresh_seat}
use Rattle.table_model.specs.Shown.{Holding}
use Rattle.shared_table.specs.declared.view.View.{View}
use Rattle.plain_map.specs.Keys.{no_key}

-- a call that stands where none is being made
abbrev pub no_call : ℕ × Call
no_call = (0, Lookup no_key)

-- a seat that has made no call
abbrev pub fresh : Setup → (seat : ℕ) → Holding
fresh setup seat = record { setup = setup; seat = seat; state = fresh_seat; known = [] }

-- so many from one on
abbrev pub fresh_from : Setup → (seat many : ℕ) → List Holding
fresh_from setup seat zero = []
fresh_from setup seat (suc many) = fresh setup seat ∷ fresh_from setup (suc seat) many

-- the view of all seats
abbrev pub whole : Setup → View
whole setup = record { bundle = fresh_from setup 0 (seats_of setup); fronts = [] }

-- cutting the first seat off a view: what stays, and what goes
abbrev pub tail_of : List Holding → List Holding
tail_of [] = []
tail_of (h ∷ hs) = hs

-- and the first of them
abbrev pub head_of : List Holding → List Holding
head_of [] = []
head_of (h ∷ hs) = h ∷ []

-- the view without its first seat
abbrev pub others : View → View
others v = record { bundle = tail_of v.bundle; fronts = v.fronts }

-- and with it alone
abbrev pub foremost : View → View
foremost v = record { bundle = head_of v.bundle; fronts = [] }

-- putting a view before another
abbrev pub together : View → View → View
together v w = record { bundle = w.bundle ++ v.bundle; fronts = w.fronts ++ v.fronts }

-- a view that was put before another is empty then
abbrev pub spent : View
spent = record { bundle = []; fronts = [] }
