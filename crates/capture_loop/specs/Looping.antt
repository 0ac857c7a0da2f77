-- How far a run has come.
use Rattle.std.specs.Prelude.{◌≡◌, ◌⊎◌, ℕ, List, [], ◌++◌, length, Option, Some, None, ◌∷◌, ◌≤◌, Result, Ok, Err}
use Rattle.std.specs.Io.KnownBytes.{Appends}
use Rattle.capture_loop.specs.declared.stop.Stop.{Stop}
use Rattle.capture_loop.specs.declared.stop.Stop.TheVariants.{Memory, NotPut}
use Rattle.pcap_reader.specs.Reading.{Took}
use Rattle.capture_loop.specs.declared.portions.Portions.{Portions}
use Rattle.capture_loop.specs.Batches.{AreWholeBy, IsCutAt}
use Rattle.pcapng_reader.specs.Reading.{Reading}
use Rattle.capture_loop.specs.Reading.{HaveCome}
use Rattle.capture_loop.specs.Input.{IsFirstUpTo}

-- what was put since `before`, and what is held, are this text
pub record HasPut (before now : Option (List ℕ)) (held text : List ℕ) : Type 0 where
  pub done : List ℕ
  pub put : Appends before now done
  pub parts : done ++ held ≡ text
  -- all of it, or nothing
  pub whole : (done ≡ []) ⊎ (held ≡ [])

-- these are the first packets of an input, no more than so many: where it tells its bytes, and by what was taken of it
-- at some moment
pub record HaveFirst (most link : ℕ) (first : Option (List ℕ)) (packets : List (List ℕ)) : Type 0 where
  pub told : (bytes : List ℕ) → first ≡ Some bytes → IsFirstUpTo link most bytes packets
  pub took : (between : Option (List ℕ)) × Took first between (λ taken. IsFirstUpTo link most taken packets)

-- so many packets, which are these, were served in whole batches, cut so, and the text was put or is held
pub record Stands (portions : Portions) (served : List (List (List ℕ)) → List ℕ → Type 0) (link : ℕ)
    (first : Option (List ℕ))
    (many : ℕ)
    (all : List (List ℕ)) (before now : Option (List ℕ)) (held : List ℕ) : Type 0 where
  pub batches : List (List (List ℕ))
  pub text : List ℕ
  pub count : length all ≡ many
  pub firsts : HaveFirst portions.limit link first all
  pub whole : AreWholeBy portions all batches
  pub done : served batches text
  pub put : HasPut before now held text

-- The last of these batches, whose packets are `all`, is closed, and none of its lines is told. Those before it were
-- told, and all was read by the time that the reader stood at some place.
pub record Untold {C : Type 0} (portions : Portions) (served lines : List (List (List ℕ)) → List ℕ → Type 0)
    (tells : C → List ℕ → Type 0) (closed : C) (link : ℕ) (first left : Option (List ℕ)) (many : ℕ)
    (all : List (List ℕ)) (before now : Option (List ℕ)) (held : List ℕ) : Type 0 where
  pub packets : List (List ℕ)
  pub last : List (List ℕ)
  pub front : Stands portions lines link first (length packets) packets before now held
  pub parts : packets ++ last ≡ all
  pub long : IsCutAt portions (length packets) (length last)
  pub count : length all ≡ many
  pub few : many ≤ portions.limit
  pub some : (text : List ℕ) × tells closed text
  pub served_so : (text : List ℕ) → tells closed text → served (front.batches ++ last ∷ []) (front.text ++ text)
  pub come : (then : Reading) × HaveCome link first left then all

-- so many packets were served in whole batches of this size, and the lines of the last one may not be told yet
abbrev pub Standing : {C : Type 0} → (portions : Portions) → (served lines : List (List (List ℕ)) → List ℕ → Type 0) →
    (tells : C → List ℕ → Type 0) → Option C → (link : ℕ) → (first left : Option (List ℕ)) → (many : ℕ) →
    (all : List (List ℕ)) → (before now : Option (List ℕ)) → (held : List ℕ) → Type 0
Standing portions served lines tells None link first left many all before now held =
    Stands portions served link first many all before now held
Standing portions served lines tells (Some closed) link first left many all before now held =
    Untold portions served lines tells closed link first left many all before now held

-- a fact where a write failed
abbrev pub OnNotPut : {T : Type 0} → Result T Stop → Type 0 → Type 0
OnNotPut (Ok done) P = Unit {0}
OnNotPut (Err Memory) P = Unit {0}
OnNotPut (Err NotPut) P = P

-- a fact where memory ran out
abbrev pub OnMemory : {T : Type 0} → Result T Stop → Type 0 → Type 0
OnMemory (Ok done) P = Unit {0}
OnMemory (Err Memory) P = P
OnMemory (Err NotPut) P = Unit {0}
