-- One batch more is served, and told later.
use Rattle.std.proofs.Common.{◌≡◌, ◌+◌, ◌++◌, ◌∷◌, [], List, ℕ, Vec, Global, length, map, ap, refl, subst, sym, ◌∙◌, arith}
use Rattle.plain_map.specs.declared.calls.Call.{Call}
use Rattle.trace_share.specs.declared.outcome.Outcome.{Outcome}
use Rattle.batch_deals.specs.declared.service.Service.{Service}
use Rattle.batch_runner.specs.Printed.{AreLines, CanBeTold}
use Rattle.batch_runner.specs.Served.{Served}
use Rattle.batch_runner.specs.Told.{served_with}
use Rattle.batch_runner.proofs.Lines.{lines_served, some_lines}
use Rattle.serve_modes.specs.Progress.{HasTexts, IsGoing}
use Rattle.serve_modes.proofs.JobLemmas.{done_more, texts_between}
use Rattle.serve_modes.proofs.serving.ServingJobPlan.close.Goals as goal

-- the outcomes of logs, log by log
abbrev items_of : List (Vec Outcome Global) → List (List Outcome)
items_of logs = map (λ (log : Vec Outcome Global). log.items) logs

pub keep-requires-clause-texts : goal.keep-requires-clause-texts
keep-requires-clause-texts c =
    let some = c.requires.going in
    subst HasTexts (sym c.deref-3.ensures.value)
    (texts_between some.1 (some.1 + length some.2) c.args.self.now.calls.items some.4.between)

pub returns-clause-going : goal.returns-clause-going
returns-clause-going c = λ started before packets old opened worked.
    let has = c.in_ok-closed.ensures.told in
    let served : Served = served_with c.deref.result.now c.deref-2.result.now (items_of c.in_ok-closed.logs.items)
    c.in_ok-closed.closed has.some.0 c.in_ok-closed.batch in
    let batches = old.going.0 in
    let going : IsGoing c.args.self.now.service c.keep.new.self = (
      batches ++ served ∷ [],
      c.keep.ensures.served batches served old.going.1 c.deref.ensures.value
          (c.deref-2.ensures.value ∙ sym c.deref-3.ensures.value) (has.served has.some.0 has.some.1)
          (has.told has.some.0 has.some.1),
    ) in
    record {
      given = old.given;
      going = going;
      count = omega (arith, old.count, opened.count);
      few = omega (
        arith,
        c.keep.ensures.counted,
        old.few,
        opened.between.few,
        ap length c.deref-3.ensures.value,
      );
    }

pub returns-clause-some : goal.returns-clause-some
returns-clause-some c =
    let going = c.requires.going in
    let service : Service = c.args.self.now.service in
    let before : List ℕ = c.args.self.now.progress.before in
    let closed = c.in_ok-closed.closed in
    let logs : List (List Outcome) = items_of c.in_ok-closed.logs.items in
    let is = c.in_ok-closed.ensures.closed in
    let some = some_lines service before c.deref.result.now c.deref-2.result.now closed logs c.in_ok-closed.batch
    c.in_ok-closed.ensures.told in
    let same : c.deref-2.result.now ≡ c.replace-calls.result.items = c.deref-2.ensures.value
    ∙ ap (λ (v : Vec (ℕ × Call) Global). v.items) (sym c.replace-calls.ensures.value) in
    let can : CanBeTold service c.deref-2.result.now closed logs = record {
      texts = subst HasTexts (sym c.deref-2.ensures.value)
          (texts_between going.1 (going.1 + length going.2) c.args.self.now.calls.items going.4.between);
      asked = is.asked;
      of_a_run = is.of_a_run;
    } in (
      some.0,
      (
        subst (λ (calls : List (ℕ × Call)). CanBeTold service calls closed logs) same can,
        subst (λ (calls : List (ℕ × Call)). AreLines service before calls closed logs some.0) same some.1,
      ),
    )

pub returns-clause-served : goal.returns-clause-served
returns-clause-served c = λ plan batches put started before packets done going opened worked lines tells.
    let service : Service = c.args.self.now.service in
    let closed = c.in_ok-closed.closed in
    let logs : List (List Outcome) = items_of c.in_ok-closed.logs.items in
    let has = c.in_ok-closed.ensures.told in
    let same : c.replace-calls.result.items ≡ c.deref-2.result.now =
    ap (λ (v : Vec (ℕ × Call) Global). v.items) c.replace-calls.ensures.value ∙ sym c.deref-2.ensures.value in
    let are : AreLines service c.args.self.now.progress.before c.deref-2.result.now closed logs lines =
    subst (λ (calls : List (ℕ × Call)). AreLines service c.args.self.now.progress.before calls closed logs lines) same
    tells.1 in
    let served : Served = served_with c.deref.result.now c.deref-2.result.now logs closed are.0 c.in_ok-closed.batch in
    done_more plan c.args.self.now _ batches put before packets c.args.made.shared started c.args.made.kept served lines
    done going.count opened c.deref-2.ensures.value refl refl refl
    (c.keep.ensures.served done.served served done.has c.deref.ensures.value
    (c.deref-2.ensures.value ∙ sym c.deref-3.ensures.value) (has.served are.0 are.1) (has.told are.0 are.1))
    (lines_served service c.args.self.now.progress.before c.deref.result.now c.deref-2.result.now closed logs
    c.in_ok-closed.batch lines c.in_ok-closed.ensures.closed are)
