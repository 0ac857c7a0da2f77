use Rattle.std.proofs.Common.{◌≡◌, ℕ, ◌<◌, ◌+◌, List, [], ◌∷◌, ◌++◌, Vec, Global, length, map, get_or, set, refl, sym, ap, ◌∙◌, subst, arith}
use Rattle.std.proofs.lemmas.List.{get_or_default, length-map, length-set, map-append}
use Rattle.std.specs.Borrow.{Bor}
use Rattle.trace_share.specs.declared.outcome.Outcome.{Outcome}
use Rattle.list_laws.proofs.Cuts.{zero_at}
use Rattle.batch_runner.specs.Told.{read_there}
use Rattle.batch_runner.proofs.Merges.{Until, held_log, many, one_left, until_end, until_next, until_start, zeros}
use Rattle.batch_runner.proofs.outcomes.outcomes_of.Goals as goal

pub loop-place-init : goal.loop-place-init
loop-place-init c =
    let logs : List (List Outcome) = map (λ (log : Vec Outcome Global). log.items) c.args.logs.now in
    record {
      until = subst (Until c.args.share c.args.seats c.args.calls.now logs 0 (zeros 8))
          (sym (ap read_there c.in_ok-outcomes.ensures.items))
          (until_start c.args.share c.args.seats c.args.calls.now logs c.requires.logs (zeros 8) (zero_at 8));
      eight = refl;
    }

pub bounds-logs-seat : goal.bounds-logs-seat
bounds-logs-seat c =
    let item : Vec Outcome Global → List Outcome = λ (log : Vec Outcome Global). log.items in
    let count = many c.args.share c.args.seats c.args.calls.now (map item c.args.logs.now) c.requires.logs in
    omega (arith, count, length-map c.args.logs.now item, c.seat_for-seat.ensures.seat)

pub index-outcome-requires : goal.index-outcome-requires
index-outcome-requires c =
    let item : Vec Outcome Global → List Outcome = λ (log : Vec Outcome Global). log.items in
    let logs : List (List Outcome) = map item c.args.logs.now in
    let seat : ℕ = c.seat_for-seat.result in
    let count = many c.args.share c.args.seats c.args.calls.now logs c.requires.logs in
    let inside : seat < length c.args.logs.now =
    omega (arith, count, length-map c.args.logs.now item, c.seat_for-seat.ensures.seat) in
    let left = one_left c.args.share c.args.seats c.args.calls.now logs c.requires.logs c.loop-place.place _
    c.loop-place.taken (read_there c.loop-place.outcomes.items) seat c.loop-place.invariant.until c.loop-place-test.true
    (get_or_default c.args.calls.now c.loop-place.place _ _ c.loop-place-test.true) c.seat_for-seat.ensures.seat
    c.seat_for-seat.ensures.own in
    omega (
      arith,
      left,
      ap length (held_log c.args.logs.now seat c.index-logs-seat.result inside c.index-logs-seat.is),
      c.index-logs-seat.result.ok.0,
    )

pub overflow_add-taken : goal.overflow_add-taken
overflow_add-taken c =
    let item : Vec Outcome Global → List Outcome = λ (log : Vec Outcome Global). log.items in
    let logs : List (List Outcome) = map item c.args.logs.now in
    let seat : ℕ = c.seat_for-seat.result in
    let count = many c.args.share c.args.seats c.args.calls.now logs c.requires.logs in
    let inside : seat < length c.args.logs.now =
    omega (arith, count, length-map c.args.logs.now item, c.seat_for-seat.ensures.seat) in
    let left = one_left c.args.share c.args.seats c.args.calls.now logs c.requires.logs c.loop-place.place _
    c.loop-place.taken (read_there c.loop-place.outcomes.items) seat c.loop-place.invariant.until c.loop-place-test.true
    (get_or_default c.args.calls.now c.loop-place.place _ _ c.loop-place-test.true) c.seat_for-seat.ensures.seat
    c.seat_for-seat.ensures.own in
    omega (
      arith,
      left,
      ap length (held_log c.args.logs.now seat c.index-logs-seat.result inside c.index-logs-seat.is),
      c.index-logs-seat.result.ok.0,
      c.index-logs-seat.result.small,
    )

pub loop-place-preserved : goal.loop-place-preserved
loop-place-preserved c =
    let item : Vec Outcome Global → List Outcome = λ (log : Vec Outcome Global). log.items in
    let logs : List (List Outcome) = map item c.args.logs.now in
    let seat : ℕ = c.seat_for-seat.result in
    let taken : List ℕ = c.loop-place.taken in
    let count = many c.args.share c.args.seats c.args.calls.now logs c.requires.logs in
    let inside : seat < length c.args.logs.now =
    omega (arith, count, length-map c.args.logs.now item, c.seat_for-seat.ensures.seat) in
    let room : seat < length taken =
    omega (arith, c.loop-place.invariant.eight, c.seat_for-seat.ensures.seat, c.requires.few) in
    let log_is = held_log c.args.logs.now seat c.index-logs-seat.result inside c.index-logs-seat.is in
    let outcome : Outcome = c.index-outcome.result.now in
    let at : outcome ≡ get_or (get_or logs seat []) (get_or taken seat 0) outcome =
    c.index-outcome.ensures ∙ ap (λ (log : List Outcome). get_or log (get_or taken seat 0) outcome) log_is in
    let one : List (ℕ × Bor Outcome) = (seat, c.index-outcome.result) ∷ [] in
    let more : read_there c.push.new.self.items ≡ read_there c.loop-place.outcomes.items ++ (seat, outcome) ∷ [] =
    ap read_there c.in_ok-push.ensures.items
    ∙ map-append (λ (o : ℕ × Bor Outcome). (o.0, o.1.now)) c.loop-place.outcomes.items one in
    record {
      until = until_next c.args.share c.args.seats c.args.calls.now logs c.requires.logs c.loop-place.place _ taken
          (read_there c.loop-place.outcomes.items) seat c.loop-place.invariant.until c.loop-place-test.true
          (get_or_default c.args.calls.now c.loop-place.place _ _ c.loop-place-test.true) c.seat_for-seat.ensures.seat
          c.seat_for-seat.ensures.own outcome at (set taken seat (get_or taken seat 0 + 1))
          (read_there c.push.new.self.items) room refl more;
      eight = length-set taken seat (get_or taken seat 0 + 1) ∙ c.loop-place.invariant.eight;
    }

pub returns : goal.returns
returns c =
    until_end c.args.share c.args.seats c.args.calls.now
    (map (λ (log : Vec Outcome Global). log.items) c.args.logs.now) c.requires.logs c.loop-place.place
    c.loop-place.taken (read_there c.loop-place.outcomes.items) c.loop-place-test.false c.loop-place.invariant.until
