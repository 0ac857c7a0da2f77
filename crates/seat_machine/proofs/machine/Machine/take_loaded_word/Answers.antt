-- There is room for the bucket, and the next one is loaded, or the change made.
use Rattle.std.proofs.Common.{◌≡◌, ◌∙◌, length, arith}
use Rattle.step_counts.specs.StepCounts.{bucket_row_words}
use Rattle.dir_states.specs.Views.{as_directory}
use Rattle.seat_machine.specs.View.{loaded_in, setup_of, sizes}
use Rattle.seat_machine.proofs.LoadLemmas.{few_within, room_for}
use Rattle.seat_machine.proofs.RowsLoaded.{loaded_makes, loaded_then, loads_more}
use Rattle.seat_machine.proofs.machine.Machine.take_loaded_word.Goals as goal

pub keep_loaded-requires-clause-free : goal.keep_loaded-requires-clause-free
keep_loaded-requires-clause-free c =
    let m = c.args.self.now in
    let stands = rw c.requires.stage at c.requires.kept.stage in
    let fewer = room_for (setup_of m) (as_directory m.directory) m.found.items (loaded_in m) c.args.bucket
    stands.0.few stands.1 in
    few_within m.loaded.items m.many (sizes m).seats (omega (arith, fewer, stands.0.all))
    (omega (arith, m.loaded.ok.0, c.requires.kept.room.loaded.all))

pub load_next-requires-clause-loads : goal.load_next-requires-clause-loads
load_next-requires-clause-loads c =
    let m = c.args.self.now in
    let stands = rw c.requires.stage at c.requires.kept.stage in
    let ws = c.push_reserved.new.self in
    let whole : length ws.items ≡ bucket_row_words (sizes m) =
    omega (arith, ws.ok.0, c.len.ensures, c.if-len-row_length.true, c.row_length.ensures) in
    let k = c.keep_loaded.ensures in
    loads_more m c.keep_loaded.new.self c.args.round c.args.turn c.args.first c.args.root c.args.bucket c.args.row
    c.args.word ws.items c.requires.stage c.push_reserved.ensures.items whole k.same.setup k.directory k.found k.loaded
    stands.0 stands.1 k.within

pub load_next-requires-clause-makes : goal.load_next-requires-clause-makes
load_next-requires-clause-makes c =
    let m = c.args.self.now in
    let ws = c.push_reserved.new.self in
    let whole : length ws.items ≡ bucket_row_words (sizes m) =
    omega (arith, ws.ok.0, c.len.ensures, c.if-len-row_length.true, c.row_length.ensures) in
    let k = c.keep_loaded.ensures in
    loaded_makes m c.keep_loaded.new.self c.args.round c.args.turn c.args.first c.args.root c.args.bucket c.args.row
    c.args.word ws.items c.requires.stage c.push_reserved.ensures.items whole k.same.setup k.directory k.found k.loaded
    c.requires.makes

pub returns-then-len-row_length-clause-phase : goal.returns-then-len-row_length-clause-phase
returns-then-len-row_length-clause-phase c =
    let m = c.args.self.now in
    let ws = c.push_reserved.new.self in
    let whole : length ws.items ≡ bucket_row_words (sizes m) =
    omega (arith, ws.ok.0, c.len.ensures, c.if-len-row_length.true, c.row_length.ensures) in
    let k = c.keep_loaded.ensures in
    c.load_next.ensures.phase
    ∙ loaded_then m c.keep_loaded.new.self c.args.round c.args.turn c.args.first c.args.root c.args.bucket c.args.row
    c.args.word ws.items c.requires.stage c.push_reserved.ensures.items whole k.same.setup k.directory k.found k.loaded
