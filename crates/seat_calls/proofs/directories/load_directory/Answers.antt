-- The entries follow the depth and the base, and there are 2 ^ depth of them.
use Rattle.std.proofs.Common.{◌≡◌, ◌+◌, ◌≤◌, ◌^◌, ◌∙◌, ℕ, List, [], length, refl, sym, ap, subst, arith}
use Rattle.std.proofs.Math.Pow.{pow_mono}
use Rattle.std.proofs.lemmas.List.{with_items_is}
use Rattle.word_rows.specs.Shape.{Shape}
use Rattle.word_rows.specs.Places.{place}
use Rattle.word_rows.specs.declared.addresses.Address.TheVariants.{DirectoryWord}
use Rattle.table_model.specs.Setup.{settings_of}
use Rattle.table_model.specs.Phases.{DirEntries}
use Rattle.table_model.specs.Goes.{after_directory}
use Rattle.seat_calls.specs.Going.{Going, Fits, Reads, goes_by, later, so_far}
use Rattle.seat_calls.specs.Tries.{directory_tried}
use Rattle.seat_calls.proofs.RunLemmas.{later_later, row_goes, row_reads}
use Rattle.seat_calls.proofs.DirectoryLemmas.{depth_loaded, entries_lead, whole_directory}
use Rattle.seat_calls.proofs.directories.load_directory.Goals as goal

pub make_places-requires-clause-room : goal.make_places-requires-clause-room
make_places-requires-clause-room g c =
    let f : Going = g.S.Steps.now c.args.steps.now in
    let depth = c.load-depth.result in
    let both = depth_loaded f (g.S.Steps.now c.load-root.new.self)
    (g.S.Steps.now c.load-depth.new.self) c.args.round.now c.args.turn c.args.first
    c.load-root.result c.unwrap_or-first.result depth c.requires.phase c.unwrap_or-first.ensures
    c.load-root.ensures.goes c.load-depth.ensures.goes in
    let fits = subst (λ (h : Going). Fits h depth) both.0 c.load-depth.ensures.fits in
    let few : depth ≤ (settings_of f.setup).depth = fits.finds in
    let inside : depth ≤ c.args.desk.now.layout.settings.depth =
    subst (λ (s : Shape). depth ≤ s.settings.depth) c.requires.desk.shape few in
    omega (arith, pow_mono inside, c.requires.room)

pub load_run-requires-clause-reads : goal.load_run-requires-clause-reads
load_run-requires-clause-reads g c =
    let f : Going = g.S.Steps.now c.args.steps.now in
    let round = c.args.round.now in
    let root = c.load-root.result in
    let kept = c.unwrap_or-first.result in
    let depth = c.load-depth.result in
    let two : Going = g.S.Steps.now c.load-depth.new.self in
    let both = depth_loaded f (g.S.Steps.now c.load-root.new.self) two round c.args.turn c.args.first
    root kept depth c.requires.phase c.unwrap_or-first.ensures c.load-root.ensures.goes c.load-depth.ensures.goes in
    let h : Going = later f 2 (so_far (2 ^ depth) (DirEntries round c.args.turn kept root depth)
    (whole_directory f round c.args.turn kept root depth) []) in
    let at : c.directory_row-start.result ≡ place f.setup.shape (DirectoryWord root 0) =
    c.directory_row-start.ensures.value ∙ ap (λ (s : Shape). place s (DirectoryWord root 0))
    (sym c.requires.desk.shape) in
    let start = c.directory_row-start.result + 2 in
    let n = length c.deref_mut.result.now in
    subst (λ (k : Going). Reads k start n) (sym both.1)
    (row_reads h (2 ^ depth) (DirEntries round c.args.turn kept root depth)
    (whole_directory f round c.args.turn kept root depth) start
    (entries_lead h round c.args.turn kept root depth start (omega (arith, at))) _ refl refl n
    (ap (λ (ws : List ℕ). length ws) c.deref_mut.ensures.value ∙ sym c.make_places.new.directory.entries.ok.0
    ∙ c.make_places.ensures.entries))

pub returns-clause-goes : goal.returns-clause-goes
returns-clause-goes g c =
    let f : Going = g.S.Steps.now c.args.steps.now in
    let round = c.args.round.now in
    let root = c.load-root.result in
    let kept = c.unwrap_or-first.result in
    let depth = c.load-depth.result in
    let two : Going = g.S.Steps.now c.load-depth.new.self in
    let both = depth_loaded f (g.S.Steps.now c.load-root.new.self) two round c.args.turn c.args.first
    root kept depth c.requires.phase c.unwrap_or-first.ensures c.load-root.ensures.goes c.load-depth.ensures.goes in
    let words = c.load_run.new.row in
    let h : Going = later f 2 (so_far (2 ^ depth) (DirEntries round c.args.turn kept root depth)
    (whole_directory f round c.args.turn kept root depth) []) in
    let at : c.directory_row-start.result ≡ place f.setup.shape (DirectoryWord root 0) =
    c.directory_row-start.ensures.value ∙ ap (λ (s : Shape). place s (DirectoryWord root 0))
    (sym c.requires.desk.shape) in
    let start = c.directory_row-start.result + 2 in
    let long : length words ≡ 2 ^ depth =
    c.load_run.ensures.len ∙ ap (λ (ws : List ℕ). length ws) c.deref_mut.ensures.value
    ∙ sym c.make_places.new.directory.entries.ok.0 ∙ c.make_places.ensures.entries in
    let many : c.make_places.new.directory.entries.len ≡ 2 ^ depth = omega (arith, c.make_places.ensures.entries) in
    let kept_words = with_items_is c.make_places.new.directory.entries words (long ∙ sym many) in
    c.load_run.ensures.goes ∙ ap (λ (k : Going). goes_by k words) both.1
    ∙ row_goes h (2 ^ depth) (DirEntries round c.args.turn kept root depth)
    (whole_directory f round c.args.turn kept root depth) start
    (entries_lead h round c.args.turn kept root depth start (omega (arith, at))) _ refl refl words long
    ∙ later_later f 2 (2 ^ depth) h.phase (whole_directory f round c.args.turn kept root depth words)
    ∙ (λ i. later f (2 + sym many i) (after_directory f.setup f.flight round (directory_tried c.args.turn kept root
    (record { depth = sym c.make_places.ensures.depth i; entries = sym kept_words i }))))
