use Rattle.std.proofs.Common.{◌≡◌, ◌<◌, ◌+◌, ◌∙◌, ℕ, [], length, subst, sym, ap, arith}
use Rattle.std.specs.List.{All}
use Rattle.word_rows.specs.Shape.{Shape}
use Rattle.table_model.specs.Setup.{seats_of}
use Rattle.table_model.specs.Phases.{SeeDone}
use Rattle.table_model.specs.Goes.{after_seeing}
use Rattle.seat_calls.specs.Going.{AllFit, Going, Reads, goes_by, seeing, seen_so_far}
use Rattle.seat_calls.proofs.RunLemmas.{leads, leads_reads, seen_few, seen_first, seen_leads, seen_next, whole_is}
use Rattle.seat_calls.proofs.finding.see_done.Goals as goal

pub load_run-requires-clause-reads : goal.load_run-requires-clause-reads
load_run-requires-clause-reads g c =
    let first : Going = g.S.Steps.now c.args.steps.now in
    let d = c.requires.desk in
    let seats : seats_of first.setup ≡ c.args.desk.now.layout.settings.seats =
    ap (λ (s : Shape). s.settings.seats) d.shape in
    let start : c.done.result ≡ 1 + seats_of first.setup = omega (arith, c.done.ensures, seats) in
    let long : length c.args.seen.now ≡ seats_of first.setup = omega (arith, c.requires.seen, seats) in
    let some : 0 < seats_of first.setup = omega (arith, seats, c.args.desk.now.within) in
    subst (λ (h : Going). Reads h c.done.result (length c.args.seen.now))
    (sym (seen_first first c.requires.phase c.requires.first some))
    (subst (λ (n : ℕ). Reads (seen_so_far first []) c.done.result n) (sym long)
    (leads_reads (seen_so_far first) c.done.result (seats_of first.setup) (seen_leads first c.done.result start)))

pub returns-clause-goes : goal.returns-clause-goes
returns-clause-goes g c =
    let first : Going = g.S.Steps.now c.args.steps.now in
    let d = c.requires.desk in
    let seats : seats_of first.setup ≡ c.args.desk.now.layout.settings.seats =
    ap (λ (s : Shape). s.settings.seats) d.shape in
    let start : c.done.result ≡ 1 + seats_of first.setup = omega (arith, c.done.ensures, seats) in
    let some : 0 < seats_of first.setup = omega (arith, seats, c.args.desk.now.within) in
    let words = c.load_run.new.row in
    let long : length words ≡ seats_of first.setup = omega (arith, c.load_run.ensures.len, c.requires.seen, seats) in
    c.load_run.ensures.goes
    ∙ ap (λ (h : Going). goes_by h words) (seen_first first c.requires.phase c.requires.first some)
    ∙ leads (seen_so_far first) (seats_of first.setup) (seen_next first) words (omega (arith, long))
    ∙ ap (seeing first words) (whole_is (seats_of first.setup) (λ _. SeeDone) (λ _. after_seeing first.flight) words
    (omega (arith, long)))

pub returns-clause-few : goal.returns-clause-few
returns-clause-few g c =
    let first : Going = g.S.Steps.now c.args.steps.now in
    let d = c.requires.desk in
    let seats : seats_of first.setup ≡ c.args.desk.now.layout.settings.seats =
    ap (λ (s : Shape). s.settings.seats) d.shape in
    let some : 0 < seats_of first.setup = omega (arith, seats, c.args.desk.now.within) in
    let words = c.load_run.new.row in
    let long : length words ≡ seats_of first.setup = omega (arith, c.load_run.ensures.len, c.requires.seen, seats) in
    subst (λ (shape : Shape). All (λ w. w < shape.limit) words) d.shape
    (seen_few first words (omega (arith, long))
    (subst (λ (h : Going). AllFit h words) (seen_first first c.requires.phase c.requires.first some)
    c.load_run.ensures.fits))
