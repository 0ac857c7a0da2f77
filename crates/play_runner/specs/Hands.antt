-- What the seats have still to do, as contracts see it.
use Rattle.std.specs.Prelude.{ℕ, ◌-◌, ◌^◌, ◌≤◌, [], List, map, length, sum_by, Option, None, slice_index_or}
use Rattle.std.specs.List.{range_with_len}
use Rattle.step_counts.specs.declared.settings.Settings.{Settings}
use Rattle.plain_map.specs.declared.calls.Call.{Call}
use Rattle.table_model.specs.Schedules as S
use Rattle.table_model.specs.Schedules.{most_slots}
use Rattle.play_runner.specs.declared.hands.Hand.{Hand}

abbrev pub as_hand : Hand → S.Hand
as_hand hand = record { calls = hand.calls.now; may = hand.may }

abbrev pub as_hands : List Hand → List S.Hand
as_hands hands = map as_hand hands

-- the hands of so many seats, as the calls are dealt and the stops are set
abbrev pub hands_of : (seats : ℕ) → List (List (ℕ × Call)) → List (Option ℕ) → List S.Hand
hands_of seats calls stops =
    map (λ seat. record { calls = slice_index_or calls seat []; may = slice_index_or stops seat None })
    (range_with_len 0 seats)

-- so few calls that each has a number
abbrev pub HasFew : S.Hand → Type 0
HasFew hand = length hand.calls ≤ 2 ^ 32 - 1

-- as many rounds as all seats together can need
abbrev pub rounds_of : Settings → List S.Hand → ℕ
rounds_of settings hands = sum_by (most_slots settings) hands

-- how many calls were not begun
abbrev pub unbegun_of : List S.Hand → ℕ
unbegun_of hands = sum_by (λ hand. length hand.calls) hands
