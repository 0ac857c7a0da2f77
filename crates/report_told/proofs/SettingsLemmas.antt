-- Settings of the same numbers have one bound, and need the same room.
use Rattle.std.proofs.Common.{◌≡◌, sym, ◌∙◌, refl}
use Rattle.step_counts.specs.declared.settings.Settings.{Settings}
use Rattle.step_counts.specs.StepCounts.{need_of, step_bound}
use Rattle.plain_map.specs.declared.full.FullKind.{FullKind}
use Rattle.plain_map.specs.declared.full.FullKind.TheVariants.{OpRows, BucketRows, BucketWords, DirRows}
use Rattle.report_text.specs.declared.parts.Head.{Head}
use Rattle.report_told.specs.Rules.{IsSettingsOf, part_of}

-- they have the same numbers
record AreAlike (one other : Settings) : Type 0 where
  seats : one.seats ≡ other.seats
  items : one.items ≡ other.items
  depth : one.depth ≡ other.depth

-- settings of one head have the same numbers
alike : (head : Head) (one other : Settings) → IsSettingsOf head one → IsSettingsOf head other → AreAlike one other
alike head one other is are = record {
  seats = is.seats_are ∙ sym are.seats_are;
  items = is.items_are ∙ sym are.items_are;
  depth = is.depth_is ∙ sym are.depth_is;
}

-- so the bound of these settings is that of all settings of the head
pub bound_of_settings : (head : Head) (one other : Settings) → IsSettingsOf head one → IsSettingsOf head other →
    step_bound one ≡ step_bound other
bound_of_settings head one other is are =
    let same : AreAlike one other = alike head one other is are in
    rw (same.seats, same.items, same.depth) refl

-- and so is the room that an update needs
pub need_of_settings : (head : Head) (one other : Settings) (what : FullKind) → IsSettingsOf head one →
    IsSettingsOf head other → part_of (need_of one) what ≡ part_of (need_of other) what
need_of_settings head one other OpRows is are = refl
need_of_settings head one other BucketRows is are =
    let same : AreAlike one other = alike head one other is are in
    rw (same.seats, same.depth) refl
need_of_settings head one other BucketWords is are =
    let same : AreAlike one other = alike head one other is are in
    rw (same.seats, same.depth) refl
need_of_settings head one other DirRows is are = refl
