-- What holds before the first event of a play, and is kept by each slot, holds of the whole play.
use Rattle.std.proofs.Common.{ℕ, zero, suc, List, [], ◌∷◌, Option, fold}
use Rattle.std.specs.List.{range_with_len, sum_by}
use Rattle.std.specs.Option.{option_map_or}
use Rattle.plain_map.specs.declared.calls.Call.{Call}
use Rattle.table_model.specs.Setup.{Setup, seats_of, settings_of}
use Rattle.table_model.specs.Schedules.{Play, Segment, first_play, hand_of, most_slots, play_of, run_round, run_rounds, run_segment, scheduled, slot, slots}

module _ (setup : Setup) (Holds : Play → Type 0)
    (keeps : (seat : ℕ) (play : Play) → Holds play → Holds (slot setup seat play)) where
  slots_keep : (seat many : ℕ) (play : Play) → Holds play → Holds (slots setup seat many play)
  slots_keep seat zero play holds = holds
  slots_keep seat (suc many) play holds = slots_keep seat many (slot setup seat play) (keeps seat play holds)

  schedule_keeps : (schedule : List Segment) (play : Play) → Holds play → Holds (fold (run_segment setup) play schedule)
  schedule_keeps [] play holds = holds
  schedule_keeps (segment ∷ schedule) play holds =
      schedule_keeps schedule (run_segment setup play segment) (slots_keep segment.seat
      (option_map_or (λ many. many) segment.slots (most_slots (settings_of setup) (hand_of play segment.seat))) play
      holds)

  round_keeps : (seats : List ℕ) (play : Play) → Holds play →
      Holds (fold (λ so_far seat. slot setup seat so_far) play seats)
  round_keeps [] play holds = holds
  round_keeps (seat ∷ seats) play holds = round_keeps seats (slot setup seat play) (keeps seat play holds)

  rounds_keep : (many : ℕ) (play : Play) → Holds play → Holds (run_rounds setup many play)
  rounds_keep zero play holds = holds
  rounds_keep (suc many) play holds =
      rounds_keep many (run_round setup play) (round_keeps (range_with_len 0 (seats_of setup)) play holds)

  pub play_keeps :
      (calls : List (List (ℕ × Call))) (stops : List (Option ℕ)) (schedule : List Segment) →
      Holds (first_play setup calls stops) → Holds (play_of setup calls stops schedule)
  unfolding play_of
  play_keeps calls stops schedule first =
      rounds_keep (sum_by (most_slots (settings_of setup)) (scheduled setup calls stops schedule).hands)
      (scheduled setup calls stops schedule)
      (schedule_keeps schedule (first_play setup calls stops) first)
