-- What was read of a batch.
use Rattle.std.specs.Prelude.{◌≡◌, ◌≤◌, ℕ, ◌+◌, List, ◌++◌, length, Option, MatchOption, false}
use Rattle.pcapng_reader.specs.Reading.{Reading}
use Rattle.capture_loop.specs.declared.intake.Part.{Part}
use Rattle.capture_loop.specs.Reading.{HaveCome, HaveEnded}

-- Of a batch behind so many packets, of which the old ones were taken already, these more were read, by a reader that
-- stood at `old`, of a source with these bytes left before and now.
abbrev pub IsRead : (most many : ℕ) → (before now : Option (List ℕ)) → (old new : Reading) →
    (taken more : List (List ℕ)) → Part → Type 0
IsRead most many before now old new taken more part =
    (link : ℕ) (first : Option (List ℕ)) (all : List (List ℕ)) → length all ≡ many →
    HaveCome link first before old (all ++ taken) →
    MatchOption part.ending (HaveCome link first now new (all ++ (taken ++ more)))
    (HaveEnded most link first now (all ++ (taken ++ more)))

-- So these of a batch of so many were taken of what a reader held, whatever its source has left. No more than so many
-- are taken in all.
pub record IsTaken (most : ℕ) (old new : Reading) (batch many : ℕ) (more : List (List ℕ)) : Type 0 where
  pub come : (link : ℕ) (first now : Option (List ℕ)) (all : List (List ℕ)) → HaveCome link first now old all →
      HaveCome link first now new (all ++ more)
  pub going : new.ended ≡ false
  pub given : new.given ≡ many + length more
  pub few : length more ≤ batch
  pub limited : many + length more ≤ most
