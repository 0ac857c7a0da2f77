-- The texts of a play, as definitions on the whole text: which seat goes when, and which seat is stopped.
use Rattle.std.specs.Prelude.{◌-◌, ◌==◌, ℕ, List, [], ◌∷◌, map, length, Option, Some, None, if◌then◌else◌, nat_lt}
use Rattle.std.specs.Prelude.{codes}
use Rattle.std.specs.List.{after_first, before_first, filter, position_or_len, range_with_len}
use Rattle.std.specs.Option.{option_map}
use Rattle.std.specs.Str.{bytes_eq}
use Rattle.clap.specs.Walk.{Text}
use Rattle.command_line.specs.Texts.{at_most, comma, number_between, parts_at}
use Rattle.line_fields.specs.Reading.{◌>>=◌}
use Rattle.command_line.specs.declared.plays.Segment.{Segment}

-- all of them, where each is there
abbrev pub all_of : {A : Type 0} → List (Option A) → Option (List A)
all_of [] = Some []
all_of (None ∷ more) = None
all_of (Some x ∷ more) = option_map (λ xs. x ∷ xs) (all_of more)

-- what stands before the first such character and what stands after it, where there is one
abbrev pub cut_at : (character : ℕ) → Text → Option (Text × Text)
cut_at character text =
    if nat_lt (position_or_len (λ b. b == character) text) (length text)
    then Some (before_first (λ b. b == character) text, after_first (λ b. b == character) text) else None

abbrev pub star : ℕ
star = 42

abbrev pub colon : ℕ
colon = 58

-- the number of one of so many seats
abbrev pub seat_of : (seats : ℕ) → Text → Option ℕ
seat_of seats text = number_between 0 (seats - 1) text

-- ---- a schedule: `I*K` and `I*end` with commas between

abbrev pub most_segments : ℕ
most_segments = 1000

abbrev pub most_slots : ℕ
most_slots = 1000000

-- a number of slots, or to the end
abbrev pub slots_of : Text → Option (Option ℕ)
slots_of text = if bytes_eq text (codes "end") then Some None
    else option_map (λ (slots : ℕ). Some slots) (number_between 1 most_slots text)

abbrev pub segment_of : (seats : ℕ) → Text → Option Segment
segment_of seats text = do
  sides ← cut_at star text
  seat ← seat_of seats sides.0
  slots ← slots_of sides.1
  Some (record { seat = seat; slots = slots })

-- 1 to 1,000 segments with commas between
abbrev pub schedule_of : (seats : ℕ) → Text → Option (List Segment)
schedule_of seats text =
    if at_most most_segments (length (parts_at comma text))
    then all_of (map (segment_of seats) (parts_at comma text)) else None

-- ---- stops: `I:K` with commas between, each seat at most once

abbrev pub most_steps : ℕ
most_steps = 1000000000

abbrev pub stop_of : (seats : ℕ) → Text → Option (ℕ × ℕ)
stop_of seats text = do
  sides ← cut_at colon text
  seat ← seat_of seats sides.0
  steps ← number_between 0 most_steps sides.1
  Some (seat, steps)

-- the one number of them, if any
abbrev pub at_most_one : List (ℕ × ℕ) → Option (Option ℕ)
at_most_one [] = Some None
at_most_one (stop ∷ []) = Some (Some stop.1)
at_most_one (stop ∷ other ∷ more) = None

-- where a seat is stopped, if it is: at most once
abbrev pub stop_for : List (ℕ × ℕ) → (seat : ℕ) → Option (Option ℕ)
stop_for stops seat = at_most_one (filter (λ stop. stop.0 == seat) stops)

abbrev pub stops_for : (seats : ℕ) → List (ℕ × ℕ) → Option (List (Option ℕ))
stops_for seats stops = all_of (map (stop_for stops) (range_with_len 0 seats))

abbrev pub stops_of : (seats : ℕ) → Text → Option (List (Option ℕ))
stops_of seats text = do
  stops ← all_of (map (stop_of seats) (parts_at comma text))
  stops_for seats stops
