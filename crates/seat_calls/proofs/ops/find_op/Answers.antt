-- Where an announcement stands its row is one that there is.
use Rattle.std.proofs.Common.{◌≡◌, ◌-◌, ◌∙◌, [], length, ap, subst, arith}
use Rattle.word_rows.specs.Shape.{Shape}
use Rattle.word_rows.specs.Places.{IsAddress}
use Rattle.word_rows.specs.LayoutView.{shape_of}
use Rattle.word_rows.specs.declared.addresses.Address.TheVariants.{Announcement, OpWord}
use Rattle.table_model.specs.Steps.{IsOnWord}
use Rattle.seat_calls.specs.Going.{Going, asks, later}
use Rattle.seat_calls.specs.Tries.{reading}
use Rattle.seat_calls.proofs.OpsLemmas.{announcement_asks, announcement_goes, none_announced, one_announced, reading_asks}
use Rattle.seat_calls.proofs.ops.find_op.Goals as goal

pub returns-then-word-eq0-clause-goes : goal.returns-then-word-eq0-clause-goes
returns-then-word-eq0-clause-goes g c =
    let f : Going = g.S.Steps.now c.args.steps.now in
    let round = g.A.Trying.round c.args.attempt.now in
    let attempt = g.A.Trying.attempt c.args.attempt.now f.setup in
    let word = c.load-word.result in
    c.load-word.ensures.goes ∙ announcement_goes f round attempt c.args.found.now c.requires.phase word
    ∙ ap (later f 1) (none_announced f round attempt c.args.found.now word c.if-word-eq0.true)

pub op_word-start-requires : goal.op_word-start-requires
op_word-start-requires g c =
    let f : Going = g.S.Steps.now c.args.steps.now in
    let round = g.A.Trying.round c.args.attempt.now in
    let attempt = g.A.Trying.attempt c.args.attempt.now f.setup in
    let found = c.args.found.now in
    let word = c.load-word.result in
    let here : g.S.Steps.now c.load-word.new.self ≡ later f 1 (reading round attempt found (word - 1) []) =
    c.load-word.ensures.goes ∙ announcement_goes f round attempt found c.requires.phase word
    ∙ ap (later f 1) (one_announced f round attempt found word c.if-word-eq0.false) in
    let asked = subst (λ (h : Going). IsOnWord h.setup.shape (asks h)) here c.stands-2.ensures.on_word in
    subst (λ (s : Shape). IsAddress s (OpWord (word - 1) 0)) c.requires.desk.shape
    (subst (IsOnWord f.setup.shape) (reading_asks f round attempt found (word - 1) 1 []) asked)

pub load_op-op-requires-clause-few : goal.load_op-op-requires-clause-few
load_op-op-requires-clause-few g c =
    let layout = c.args.desk.now.layout in
    let there = op_word-start-requires g c.before.before in
    omega (arith, there.0, c.op_word-start.ensures, layout.shaped.few.op_rows, layout.shaped.few.bucket_words)

pub load_op-op-requires-clause-seats : goal.load_op-op-requires-clause-seats
load_op-op-requires-clause-seats g c =
    let f : Going = g.S.Steps.now c.args.steps.now in
    let round = g.A.Trying.round c.args.attempt.now in
    let attempt = g.A.Trying.attempt c.args.attempt.now f.setup in
    let found = c.args.found.now in
    let here : IsOnWord f.setup.shape (asks f) = c.stands.ensures.on_word in
    let inside : IsAddress (shape_of c.args.desk.now.layout) (Announcement (length found)) =
    subst (λ (s : Shape). IsAddress s (Announcement (length found))) c.requires.desk.shape
    (subst (IsOnWord f.setup.shape) (announcement_asks f round attempt found c.requires.phase) here) in
    omega (arith, inside)
