-- What the options of a lasting table ask for, and the two numbers that are told before it is opened.
use Rattle.std.specs.Prelude.{◌≡◌, ℕ, ◌*◌, [], Option, Some, None}
use Rattle.hash_bits.specs.declared.hashing.Hashing.TheVariants.{Mix}
use Rattle.step_counts.specs.declared.settings.Settings.{Settings}
use Rattle.step_counts.specs.Made.{IsMadeOf}
use Rattle.step_counts.specs.Ranges.{AreInRange}
use Rattle.lasting_model.specs.Bounds.{update_bound}
use Rattle.lasting_model.specs.Plans.{Plan, least_rows}
use Rattle.lasting_model.specs.Words.{word_count}
use Rattle.flowdir_c.specs.declared.lasting_options.LastingOptions.{LastingOptions}

-- the numbers are in their ranges
abbrev pub AreWithin : LastingOptions → Type 0
AreWithin options = AreInRange options.seats options.items options.depth options.depth

-- the settings that they ask for, if they are in their ranges. A lasting table begins at its full depth
abbrev pub AreAsked : LastingOptions → Option Settings → Type 0
AreAsked options (Some settings) = IsMadeOf settings options.seats options.items options.depth options.depth
AreAsked options None = AreWithin options → ⊥

-- what such a table is opened with: no pairs, and for each seat the least rows with which no update is refused
abbrev pub plan_in : Settings → (seed : ℕ) → Plan
plan_in settings seed =
    record { settings = settings; hashing = Mix seed; first = []; rows = least_rows settings }

-- the bound of an update, if there are settings
abbrev pub bound_in : Option Settings → ℕ
bound_in None = 0
bound_in (Some settings) = update_bound settings

-- and the bytes of the words, eight for each
abbrev pub bytes_in : Option Settings → (seed : ℕ) → ℕ
bytes_in None seed = 0
bytes_in (Some settings) seed = 8 * word_count (plan_in settings seed)

-- the bound of an update for such options, or 0
abbrev pub IsBoundOf : LastingOptions → ℕ → Type 0
IsBoundOf options bound = (made : Option Settings) × AreAsked options made × (bound ≡ bound_in made)

-- the bytes of the words of a table of these options, or 0
abbrev pub IsMemoryOf : LastingOptions → ℕ → Type 0
IsMemoryOf options bytes =
    (made : Option Settings) × AreAsked options made × (bytes ≡ bytes_in made options.seed)
