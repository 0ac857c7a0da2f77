use Rattle.std.proofs.Common.{ℕ, List, ◌≡◌, ◌+◌, ◌-◌, ◌++◌, ◌∙◌, sym, ap, arith, append-nil}
use Rattle.std.specs.Prelude.{slice_index}
use Rattle.plain_map.specs.declared.records.TheConstants.{MOST_SEATS}
use Rattle.table_model.specs.Closing.{read_in}
use Rattle.history_order.specs.Tables.{all_told, told_with, count_with}
use Rattle.history_order.proofs.Ranges.{flat_goes, flat_ends}
use Rattle.history_order.proofs.Steps.{set_done, set_rest}
use Rattle.closed_words.proofs.LoopLemmas.{grows}
use Rattle.history_order.proofs.moves.tell.Goals as goal

pub loop-other-preserved : goal.loop-other-preserved
loop-other-preserved g c =
    let logs = read_in c.args.closed.now.logs.now in
    let begun = c.args.closed.now.begun.now in
    let found = c.args.found.now in
    let start : List ℕ = c.args.count.now in
    let seat : ℕ = c.args.seat in
    let unit = c.args.unit in
    let at : ℕ = c.loop-other.other in
    let number : ℕ → ℕ = λ other. count_with logs begun found seat unit other (slice_index start other) in
    let told = λ (other : ℕ). told_with logs begun found seat unit other (slice_index start other) in
    let same : slice_index c.loop-other.count at ≡ slice_index start at =
    c.loop-other.invariant.rest at (omega arith) in
    record {
      out = grows c.loop-other.out.items (told at)
          (all_told logs begun found start seat unit (at + 1) (MOST_SEATS - (at + 1)))
          (all_told logs begun found start seat unit at (MOST_SEATS - at))
          (c.args.out.now.items ++ all_told logs begun found start seat unit 0 MOST_SEATS)
          c.tell_one-in-loop-other.new.out.items
          (c.in_ok-tell_one.ensures.out ∙ ap (λ n. c.loop-other.out.items
          ++ told_with logs begun found seat unit at n) same)
          (flat_goes told at (MOST_SEATS - at) (MOST_SEATS - (at + 1)) (omega arith)) c.loop-other.invariant.out;
      done = set_done number c.loop-other.count c.tell_one-in-loop-other.new.count at
          (count_with logs begun found seat unit at (slice_index c.loop-other.count at)) (omega (
            arith,
            c.loop-other.invariant.long,
          ))
          c.in_ok-tell_one.ensures.count (ap (count_with logs begun found seat unit at) same)
          c.loop-other.invariant.done;
      long = c.tell_one-in-loop-other.array_long;
      rest = set_rest c.loop-other.count c.tell_one-in-loop-other.new.count start at
          (count_with logs begun found seat unit at (slice_index c.loop-other.count at))
          c.in_ok-tell_one.ensures.count c.loop-other.invariant.rest;
    }

pub returns-clause-out : goal.returns-clause-out
returns-clause-out g c =
    let logs = read_in c.args.closed.now.logs.now in
    let told = λ (other : ℕ). told_with logs c.args.closed.now.begun.now c.args.found.now c.args.seat c.args.unit other
    (slice_index c.args.count.now other) in
    sym (append-nil c.loop-other.out.items)
    ∙ ap (λ xs. c.loop-other.out.items ++ xs) (flat_ends told c.loop-other.other MOST_SEATS (omega arith))
    ∙ c.loop-other.invariant.out
