use Rattle.std.proofs.Common.{◌∷◌, ◌-◌, [], List, ℕ, Option, refl, ap, ◌∙◌, arith}
use Rattle.report_lines.specs.Fields.{counts_behind}
use Rattle.report_lines.proofs.CountLemmas.{seen_from, counts_begin, counts_from, counts_more, counts_no_comma, counts_no_first, counts_no_number, counts_whole}
use Rattle.report_lines.proofs.counts.counts.Goals as goal

pub loop-seat-init : goal.loop-seat-init
loop-seat-init c = counts_begin c.args.seats c.in_ok-first.first c.in_ok-first.rest.now

pub loop-seat-preserved : goal.loop-seat-preserved
loop-seat-preserved c =
    counts_more c.args.seats c.loop-seat.seat c.in-Some-number.count c.loop-seat.counts c.loop-seat.rest.now
    c.in-Some.behind.now c.in-Some-number.behind.now
    (counts_behind (c.args.seats - 1) (c.in_ok-first.first ∷ []) c.in_ok-first.rest.now) (omega arith) (omega arith)
    c.loop-seat.invariant c.in-Some.ensures c.in-Some-number.ensures.value

pub returns-in_err-first : goal.returns-in_err-first
returns-in_err-first c =
    rw c.from_residual.ensures (counts_no_first c.args.seats c.args.bytes.now c.in_err-first.ensures.value)

pub returns-in_default : goal.returns-in_default
returns-in_default c =
    let whole : Option (List ℕ × List ℕ) =
    counts_behind (c.args.seats - 1) (c.in_ok-first.first ∷ []) c.in_ok-first.rest.now in
    counts_from c.args.seats c.in_ok-first.first c.args.bytes.now c.in_ok-first.rest.now whole
    c.in_ok-first.ensures.value refl
    ∙ ap (seen_from c.args.seats) (counts_no_comma c.args.seats c.loop-seat.seat c.loop-seat.counts c.loop-seat.rest.now
    whole (omega arith) c.loop-seat.invariant c.in_default.ensures)

pub returns-in_default-number : goal.returns-in_default-number
returns-in_default-number c =
    let whole : Option (List ℕ × List ℕ) =
    counts_behind (c.args.seats - 1) (c.in_ok-first.first ∷ []) c.in_ok-first.rest.now in
    counts_from c.args.seats c.in_ok-first.first c.args.bytes.now c.in_ok-first.rest.now whole
    c.in_ok-first.ensures.value refl
    ∙ ap (seen_from c.args.seats)
    (counts_no_number c.args.seats c.loop-seat.seat c.loop-seat.counts c.loop-seat.rest.now
    c.in-Some.behind.now whole (omega arith) c.loop-seat.invariant c.in-Some.ensures
    c.in_default-number.ensures.value)

pub returns : goal.returns
returns c =
    let whole : Option (List ℕ × List ℕ) =
    counts_behind (c.args.seats - 1) (c.in_ok-first.first ∷ []) c.in_ok-first.rest.now in
    counts_from c.args.seats c.in_ok-first.first c.args.bytes.now c.in_ok-first.rest.now whole
    c.in_ok-first.ensures.value refl
    ∙ counts_whole c.args.seats c.loop-seat.seat c.loop-seat.counts c.loop-seat.rest.now whole (omega arith)
    c.loop-seat.invariant
