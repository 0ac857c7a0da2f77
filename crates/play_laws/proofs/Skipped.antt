-- Slots that are skipped: they leave the play as it is.
use Rattle.std.proofs.Common.{◌≡◌, ℕ, zero, suc, ◌+◌, ◌<◌, fold, refl, ap, ◌∙◌, arith}
use Rattle.std.specs.List.{range_with_len}
use Rattle.table_model.specs.Setup.{Setup, seats_of}
use Rattle.table_model.specs.Schedules.{Play, run_round, run_rounds, slot, slots}

-- where one slot does nothing, so do many
pub slots_stay : (setup : Setup) (seat many : ℕ) (play : Play) → slot setup seat play ≡ play →
    slots setup seat many play ≡ play
slots_stay setup seat zero play stays = refl
slots_stay setup seat (suc many) play stays =
    ap (slots setup seat many) stays ∙ slots_stay setup seat many play stays

-- where no seat does anything, no round does
pub round_stays : (setup : Setup) (play : Play) →
    ((seat : ℕ) → seat < seats_of setup → slot setup seat play ≡ play) → run_round setup play ≡ play
round_stays setup play stay = from 0 (seats_of setup) (λ seat h. stay seat (omega (arith, h)))
  where
    from : (first many : ℕ) → ((seat : ℕ) → seat < first + many → slot setup seat play ≡ play) →
        fold (λ so_far seat. slot setup seat so_far) play (range_with_len first many) ≡ play
    from first zero stays = refl
    from first (suc many) stays =
        ap (λ (after : Play). fold (λ so_far seat. slot setup seat so_far) after (range_with_len (first + 1) many))
        (stays first (omega arith))
        ∙ from (first + 1) many (λ seat h. stays seat (omega (arith, h)))

pub rounds_stay : (setup : Setup) (many : ℕ) (play : Play) → run_round setup play ≡ play →
    run_rounds setup many play ≡ play
rounds_stay setup zero play stays = refl
rounds_stay setup (suc many) play stays = ap (run_rounds setup many) stays ∙ rounds_stay setup many play stays
