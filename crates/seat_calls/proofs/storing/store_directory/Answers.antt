-- The depth and the base come next, and then the entries.
use Rattle.std.proofs.Common.{◌≡◌, ◌+◌, ◌∙◌, ℕ, List, length, replicate, sym, ap, subst, arith}
use Rattle.word_rows.specs.Shape.{Shape}
use Rattle.word_rows.specs.Places.{IsAddress, place}
use Rattle.word_rows.specs.declared.addresses.Address.TheVariants.{DirectoryWord}
use Rattle.table_model.specs.declared.events.Ask.{Ask}
use Rattle.table_model.specs.declared.events.Action.TheVariants.{Store}
use Rattle.table_model.specs.Asks.{action_of}
use Rattle.table_model.specs.Phases.{DirExchange}
use Rattle.table_model.specs.Steps.{IsOnWord}
use Rattle.seat_calls.specs.Changes.{changing}
use Rattle.seat_calls.specs.Going.{Going, Writes, goes_by, later}
use Rattle.seat_calls.proofs.PutLemmas.{base_asks, base_goes, depth_asks, entries_goes, entries_write}
use Rattle.seat_calls.proofs.storing.store_directory.Goals as goal

pub directory_row-start-requires : goal.directory_row-start-requires
directory_row-start-requires g c =
    let f : Going = g.S.Steps.now c.args.steps.now in
    let d = c.args.directory.now in
    let asked = depth_asks f (changing c.args.found.now) c.args.stored c.args.number d.depth
    (c.args.found.now.attempt.root + 1) d.entries.items c.requires.phase c.requires.left in
    subst (λ (s : Shape). IsAddress s (DirectoryWord c.args.number 0)) c.requires.desk.shape
    (subst (IsOnWord f.setup.shape) asked c.stands.ensures.on_word)

pub store-requires-clause-asked : goal.store-requires-clause-asked
store-requires-clause-asked g c =
    let f : Going = g.S.Steps.now c.args.steps.now in
    let d = c.args.directory.now in
    let asked = depth_asks f (changing c.args.found.now) c.args.stored c.args.number d.depth
    (c.args.found.now.attempt.root + 1) d.entries.items c.requires.phase c.requires.left in
    let there = ap (λ (s : Shape). place s (DirectoryWord c.args.number 0)) c.requires.desk.shape
    ∙ sym c.directory_row-start.ensures.value in
    ap (λ (a : Ask). action_of f.setup.shape a) asked ∙ ap (λ (k : ℕ). Store k d.depth) there

pub store-requires-2-clause-asked : goal.store-requires-2-clause-asked
store-requires-2-clause-asked g c =
    let f : Going = g.S.Steps.now c.args.steps.now in
    let d = c.args.directory.now in
    let base : ℕ = c.args.found.now.attempt.root + 1 in
    let asked = base_asks f (changing c.args.found.now) c.args.stored c.args.number d.depth base d.entries.items
    c.requires.phase c.requires.left
    (g.S.Steps.now c.store.new.self) c.store.ensures.goes in
    let start : c.directory_row-start.result ≡ place f.setup.shape (DirectoryWord c.args.number 0) =
    c.directory_row-start.ensures.value ∙ ap (λ (s : Shape). place s (DirectoryWord c.args.number 0))
    (sym c.requires.desk.shape) in
    let there : place f.setup.shape (DirectoryWord c.args.number 1) ≡ c.directory_row-start.result + 1 =
    omega (arith, start) in
    asked ∙ ap (λ (k : ℕ). Store k base) there

pub store_run-requires-clause-writes : goal.store_run-requires-clause-writes
store_run-requires-clause-writes g c =
    let f : Going = g.S.Steps.now c.args.steps.now in
    let d = c.args.directory.now in
    let ch = changing c.args.found.now in
    let base : ℕ = c.args.found.now.attempt.root + 1 in
    let two : Going = g.S.Steps.now c.store-2.new.self in
    let start : c.directory_row-start.result ≡ place f.setup.shape (DirectoryWord c.args.number 0) =
    c.directory_row-start.ensures.value ∙ ap (λ (s : Shape). place s (DirectoryWord c.args.number 0))
    (sym c.requires.desk.shape) in
    let goes = base_goes f ch c.args.stored c.args.number d.depth base d.entries.items c.requires.phase c.requires.left
    (g.S.Steps.now c.store.new.self) two c.store.ensures.goes c.store-2.ensures.goes in
    subst (λ (ws : List ℕ). Writes two (c.directory_row-start.result + 2) ws) (sym c.deref.ensures.value)
    (entries_write f ch c.args.stored c.args.number d.depth base d.entries.items c.requires.phase c.requires.left two
    (c.directory_row-start.result + 2) goes (omega (arith, start)))

pub returns-clause-goes : goal.returns-clause-goes
returns-clause-goes g c =
    let f : Going = g.S.Steps.now c.args.steps.now in
    let d = c.args.directory.now in
    let ch = changing c.args.found.now in
    let base : ℕ = c.args.found.now.attempt.root + 1 in
    let two : Going = g.S.Steps.now c.store-2.new.self in
    let goes = base_goes f ch c.args.stored c.args.number d.depth base d.entries.items c.requires.phase c.requires.left
    (g.S.Steps.now c.store.new.self) two c.store.ensures.goes c.store-2.ensures.goes in
    let many : length d.entries.items ≡ c.len.result = sym d.entries.ok.0 ∙ sym c.len.ensures in
    entries_goes f ch c.args.stored c.args.number d.depth base d.entries.items c.requires.phase c.requires.left two
    (g.S.Steps.now c.store_run.new.steps) goes
    (c.store_run.ensures.goes ∙ ap (λ (ws : List ℕ). goes_by two (replicate (length ws) 0)) c.deref.ensures.value)
    ∙ ap (λ (k : ℕ). later f (2 + k) (DirExchange ch.round ch.attempt ch.found ch.loaded)) many
