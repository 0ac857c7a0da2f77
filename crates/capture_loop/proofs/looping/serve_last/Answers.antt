-- The last batch is served, where one is begun.
use Rattle.std.proofs.Common.{◌≡◌, ◌++◌, ◌∷◌, [], List, ℕ, Err, ap, subst, sym, ◌∙◌, append-nil, arith}
use Rattle.std.proofs.lemmas.List.{nil_from_length}
use Rattle.capture_loop.specs.Batches.{AreBatchesBy}
use Rattle.capture_loop.specs.declared.stop.Stop.TheVariants.{Memory}
use Rattle.capture_loop.specs.Leaves.{EndsBy, LoopLeavesBy}
use Rattle.capture_loop.proofs.LeavesLemmas.{leaves_stop}
use Rattle.capture_loop.proofs.LoopLemmas.{cut_some, last_cut, last_front, last_memory, whole_cut}
use Rattle.capture_loop.proofs.looping.serve_last.Goals as goal
use Rattle.capture_loop.proofs.looping.serve_last.Goals.{else-last-eq0-via-then-last-eq0+else-many-gt0, else-last-eq0-via-else-last-eq0}

pub returns-then-many-gt0-clause-leaves : goal.returns-then-many-gt0-clause-leaves
returns-then-many-gt0-clause-leaves g c = λ plan failed since link first left before all last stands holds count ended
    met.
    let none : last ≡ [] = nil_from_length last (count ∙ c.if-last-eq0.true) in
    let same : all ++ last ≡ all = ap (λ (ps : List (List ℕ)). all ++ ps) none ∙ append-nil all in
    c.end_run.ensures.leaves plan c.args.means.now.portions failed since link first left before (all ++ last)
    stands.batches stands.text
    stands.done
    (subst (λ (ps : List (List ℕ)). AreBatchesBy c.args.means.now.portions ps stands.batches) (sym same)
    (whole_cut c.args.means.now.portions all stands.batches stands.whole
    (cut_some c.args.means.now.portions c.requires.batch.0 c.requires.every)
    (λ empty. omega (arith, empty, stands.count, c.if-many-gt0.true))))
    stands.put ended met

pub returns-in-Ok-clause-leaves : goal.returns-in-Ok-clause-leaves
returns-in-Ok-clause-leaves g c = λ plan failed since link first left before all last stands holds count ended met.
    let begun : c.args.last.packets ≡ 0 → c.args.many ≡ 0 = λ none.
    elim c.else-last-eq0.branch [
      | else-last-eq0-via-then-last-eq0+else-many-gt0 w ↦ omega (arith, w.if-many-gt0.false)
      | else-last-eq0-via-else-last-eq0 w ↦ absurd (w.if-last-eq0.false none)
    ] in
    let next = c.in-Ok.ensures.served plan stands.batches stands.text before c.args.many last stands.done
    c.requires.going holds stands.put in
    c.end_run-in-Ok.ensures.leaves plan c.args.means.now.portions failed since link first left before (all ++ last)
    (stands.batches ++ last ∷ [])
    (stands.text ++ next.0) next.1
    (last_cut c.args.means.now.portions (g.J.Job.done c.args.job.now plan) link first c.args.many c.args.last.packets
    all
    last before
    (g.K.Sink.put c.args.sink.now) c.args.text.now.items stands count
    (cut_some c.args.means.now.portions c.requires.batch.0 c.requires.every 0) c.requires.cut begun)
    next.2 ended met

pub returns-in-Err-clause-leaves : goal.returns-in-Err-clause-leaves
returns-in-Err-clause-leaves g c = λ plan failed since link first left before all last stands holds count ended met.
    let begun : c.args.last.packets ≡ 0 → c.args.many ≡ 0 = λ none.
    elim c.else-last-eq0.branch [
      | else-last-eq0-via-then-last-eq0+else-many-gt0 w ↦ omega (arith, w.if-many-gt0.false)
      | else-last-eq0-via-else-last-eq0 w ↦ absurd (w.if-last-eq0.false none)
    ] in
    let lines = g.J.Job.lines plan in
    let report = g.J.Job.report plan in
    let after = g.K.Sink.put c.serve_one.new.sink in
    let batches : List (List (List ℕ)) = stands.batches ++ last ∷ [] in
    leaves_stop c.args.means.now.portions lines report (EndsBy failed since) link first left before after
    c.in-Err.stop _ _
    c.in-Err.ensures.front
    c.in-Err.ensures.memory
    (λ front.
    let next = front plan stands.batches stands.text before c.args.many last stands.done c.requires.going holds
    stands.put in
    last_front c.args.means.now.portions lines report (EndsBy failed since) link first left before (all ++ last) batches
    c.args.last.ending ended
    (last_cut c.args.means.now.portions (g.J.Job.done c.args.job.now plan) link first c.args.many c.args.last.packets
    all
    last before
    (g.K.Sink.put c.args.sink.now) c.args.text.now.items stands count
    (cut_some c.args.means.now.portions c.requires.batch.0 c.requires.every 0) c.requires.cut begun)
    met after (stands.text ++ next.0)
    (g.met.J.Job.begins c.serve_one.new.job plan batches (stands.text ++ next.0) c.args.last.ending next.1) next.2)
    (λ same.
    subst (λ sink. LoopLeavesBy c.args.means.now.portions lines report (EndsBy failed since) link first left before
    (g.K.Sink.put sink) (Err
    Memory))
    (sym same)
    (last_memory c.args.means.now.portions lines report (EndsBy failed since) (g.J.Job.done c.args.job.now plan) link
    first
    left c.args.many all
    before
    (g.K.Sink.put c.args.sink.now) c.args.text.now.items stands
    (g.met.J.Job.told c.args.job.now plan stands.batches stands.text stands.done)))
