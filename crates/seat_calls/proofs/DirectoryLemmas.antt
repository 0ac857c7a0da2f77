-- The entries of a directory, loaded one after the other.
use Rattle.std.proofs.Common.{◌≡◌, ℕ, ◌^◌, List, [], Option, refl, sym, ap, ◌∙◌, arith}
use Rattle.std.specs.Prelude.{unwrap_or}
use Rattle.word_rows.specs.Places.{place}
use Rattle.word_rows.specs.declared.addresses.Address.TheVariants.{DirectoryWord}
use Rattle.table_model.specs.declared.events.Action.TheVariants.{Load}
use Rattle.table_model.specs.declared.rounds.Round.{Round}
use Rattle.table_model.specs.Phases.{Phase, DirDepth, DirEntries, DirRoot}
use Rattle.table_model.specs.Goes.{after_directory}
use Rattle.seat_calls.specs.Going.{Going, Leads, goes, later, on, so_far}
use Rattle.seat_calls.specs.Tries.{directory_tried}
use Rattle.seat_calls.proofs.RunLemmas.{counted, counted_leads, later_later}

module _ (g : Going) (round : Round) (turn first root depth : ℕ) where
  -- all entries are loaded
  abbrev pub whole_directory : List ℕ → Phase
  whole_directory words = after_directory g.setup g.flight round
      (directory_tried turn first root (record { depth = depth; entries = words }))

  pub entries_lead : (start : ℕ) → start ≡ place g.setup.shape (DirectoryWord root 2) →
      Leads (counted g (2 ^ depth) (DirEntries round turn first root depth) whole_directory) start (2 ^ depth)
  entries_lead start at =
      counted_leads g (2 ^ depth) (DirEntries round turn first root depth) whole_directory start (λ words word h. refl)
      (λ words h. ap Load (omega (arith, at)))

-- the root and the depth are loaded
pub depth_loaded : (f one two : Going) (round : Round) (turn : ℕ) (first : Option ℕ) (root kept depth : ℕ) →
    f.phase ≡ DirRoot round turn first → kept ≡ unwrap_or first root → one ≡ goes f root → two ≡ goes one depth →
    (one ≡ later f 1 (DirDepth round turn kept root))
    × (two ≡ later f 2 (so_far (2 ^ depth) (DirEntries round turn kept root depth)
    (whole_directory f round turn kept root depth) []))
depth_loaded f one two round turn first root kept depth phase is first_goes then_goes =
    let here : one ≡ later f 1 (DirDepth round turn kept root) =
    first_goes ∙ ap (λ (p : Phase). goes (on f p) root) phase
    ∙ ap (λ (k : ℕ). later f 1 (DirDepth round turn k root)) (sym is) in
    let whole = so_far (2 ^ depth) (DirEntries round turn kept root depth)
    (whole_directory f round turn kept root depth) [] in
    (here, then_goes ∙ ap (λ (h : Going). goes h depth) here ∙ later_later f 1 1 whole whole)
