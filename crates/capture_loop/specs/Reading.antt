-- How far the reading of an input has come: which packets were given out of it.
use Rattle.std.specs.Prelude.{◌≡◌, ℕ, List, [], Option, Some, Ok, Err}
use Rattle.std.specs.Option.{IfSome}
use Rattle.pcap_reader.specs.Reading.{Took}
use Rattle.pcapng_reader.specs.Reading.{HasRead, MeetsEnding, Reading}
use Rattle.capture_faults.specs.declared.ending.Ending.{Ending}
use Rattle.capture_faults.specs.declared.ending.Ending.TheVariants.{Done, ReadFault, Limit, Fault}
use Rattle.capture_loop.specs.Input.{ServesUpTo}

-- So far has an input been read, by what was taken of its source, which had these bytes left at first, and has these
-- now, where it tells them. So it is then for the bytes that it told, too.
abbrev pub HaveCome : (link : ℕ) (first now : Option (List ℕ)) → Reading → List (List ℕ) → Type 0
HaveCome link first now reading packets = Took first now (λ taken. HasRead link taken reading (Some []) packets)

-- A reader that stood at `old` met this ending, of what was taken of its source: `before` and `after` are the bytes
-- that it had left, where it tells them. Behind an end nothing is left.
abbrev pub MeetsEnd : (old new : Reading) (before after : Option (List ℕ)) → Ending → Type 0
MeetsEnd old new before after (Done rest) =
    Took before after (λ taken. MeetsEnding old new (Ok rest) taken × IfSome before (λ bytes. bytes ≡ taken))
MeetsEnd old new before after (Fault fault) = Took before after (MeetsEnding old new (Err fault))
MeetsEnd old new before after ReadFault = Took before after (λ taken. (rest : ℕ) × MeetsEnding old new (Ok rest) taken)
MeetsEnd old new before after (Limit limit) = ⊥

-- and so it ended behind these packets, where no more than `most` are taken: where the source tells its bytes, and by
-- what was taken of them
pub record HaveEnded (most : ℕ) (link : ℕ) (first now : Option (List ℕ)) (packets : List (List ℕ)) (ending : Ending) :
    Type 0 where
  pub told : (bytes : List ℕ) → first ≡ Some bytes → ServesUpTo link most bytes now packets ending
  pub took : Took first now (λ taken. ServesUpTo link most taken (Some []) packets ending)
