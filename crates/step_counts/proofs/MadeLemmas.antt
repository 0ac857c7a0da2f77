-- Settings that were made of numbers.
use Rattle.std.proofs.Common.{ℕ, subst}
use Rattle.step_counts.specs.declared.settings.Settings.{Settings}
use Rattle.step_counts.specs.declared.settings.TheConstants.{MOST_DEPTH, MOST_ITEMS, MOST_SEATS}
use Rattle.step_counts.specs.Made.{IsMadeOf}
use Rattle.step_counts.specs.Ranges.{AreInRange, IsWithin}

-- numbers that settings were made of are in their ranges
pub made_in_range : (s : Settings) (seats items depth start : ℕ) → IsMadeOf s seats items depth start →
    AreInRange seats items depth start
made_in_range s seats items depth start made = record {
  seats_in_range = subst (IsWithin 1 MOST_SEATS) made.seats_are s.seats_in_range;
  items_in_range = subst (IsWithin 1 MOST_ITEMS) made.items_are s.items_in_range;
  depth_in_range = subst (IsWithin 0 MOST_DEPTH) made.depth_is s.depth_in_range;
  start_in_range = subst (λ (u : ℕ × ℕ). IsWithin 0 u.0 u.1) (λ i. (made.depth_is i, made.start_is i))
      s.start_in_range;
}
