-- The line of one add more, which is the next answer of its seat.
use Rattle.std.proofs.Common.{◌≡◌, ◌==◌, ◌+◌, ◌%◌, ◌<◌, ℕ, List, [], Vec, Global, length, map, take, get_or, refl, sym, ap, ◌∙◌, arith}
use Rattle.std.specs.Prelude.{count_by, slice_index}
use Rattle.sim_steps.specs.declared.adds.Added.{Added}
use Rattle.totals_runner.specs.Batch.{no_answer}
use Rattle.totals_runner.proofs.LineLemmas.{log_at, next_in_turn, told_more}
use Rattle.totals_runner.proofs.lines.put_adds.Goals as goal

pub index-added-requires : goal.index-added-requires
index-added-requires c =
    let logs : List (List Added) = map (λ (l : Vec Added Global). l.items) c.args.logs.now in
    let answers : List Added = c.requires.turns.0 in
    let less : c.loop-place.place < length answers = omega (arith, c.loop-place-test.true, c.requires.turns.1) in
    let told = c.loop-place.invariant answers c.requires.turns.1 c.requires.turns.2 in
    let next = next_in_turn (length c.args.logs.now) c.args.first logs answers c.loop-place.place no_answer
    (omega (arith, c.requires.some)) c.requires.turns.2 less in
    let seat : ℕ = (c.args.first + c.loop-place.place) % length c.args.logs.now in
    let count = told.taken_are seat (omega (arith, next.seat, c.requires.few)) in
    let log = log_at c.args.logs.now seat c.index-logs-seat.result next.seat c.index-logs-seat.is in
    let long : length (get_or logs seat []) ≡ length c.index-logs-seat.result.items =
    ap (λ (xs : List Added). length xs) log in
    omega (arith, count, next.inside, long, c.index-logs-seat.result.ok.0)

pub loop-place-preserved : goal.loop-place-preserved
loop-place-preserved c = λ answers long turns.
    let logs : List (List Added) = map (λ (l : Vec Added Global). l.items) c.args.logs.now in
    let place : ℕ = c.loop-place.place in
    let seats : ℕ = length c.args.logs.now in
    let a : Added = c.index-added.result.now in
    let less : place < length answers = omega (arith, c.loop-place-test.true, long) in
    let told = c.loop-place.invariant answers long turns in
    let next = next_in_turn seats c.args.first logs answers place a (omega (arith, c.requires.some)) turns less in
    let seat : ℕ = (c.args.first + place) % seats in
    let few : seat < 8 = omega (arith, next.seat, c.requires.few) in
    let log = log_at c.args.logs.now seat c.index-logs-seat.result next.seat c.index-logs-seat.is in
    let count : slice_index c.loop-place.taken seat
    ≡ count_by (λ (x : Added). x.seat == seat) (take place answers) = told.taken_are seat few in
    let is : a ≡ get_or answers place a =
    c.index-added.ensures
    ∙ ap (λ (n : ℕ). get_or c.index-logs-seat.result.items n a) count
    ∙ ap (λ (xs : List Added). get_or xs (count_by (λ (x : Added). x.seat == seat) (take place answers)) a) (sym log)
    ∙ next.is a in
    let of : a.seat ≡ seat = ap (λ (x : Added). x.seat) is ∙ turns.turns place a less in
    told_more seats c.args.before.now c.args.most c.args.text.now.items c.loop-place.text.items
    c.add_text.new.out.items c.loop-place.steps c.max-steps.result c.loop-place.taken _ place answers a seat told less
    is of few c.in_ok-add_text.ensures.appended c.max-steps.ensures refl
