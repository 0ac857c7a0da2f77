use Rattle.std.proofs.Common.{◌≡◌, ◌∙◌, true, false, Some, None, subst, sym, ap}
use Rattle.std.specs.Prelude.{is_some}
use Rattle.sim_steps.specs.declared.adds.Add.{Add}
use Rattle.sim_steps.specs.Program.{is_idle}
use Rattle.sim_steps.specs.Machine.{Machine, takes, answers}
use Rattle.sim_totals.specs.Rule.{Moved, AsksFor, Under, seat_of}
use Rattle.sim_totals.proofs.Calls.{asks_now, goes_under, ends_under, Ended}
use Rattle.sim_totals.proofs.steps.run_add.Goals as goal

pub perform-word-requires-clause-asked : goal.perform-word-requires-clause-asked
perform-word-requires-clause-asked g c =
    let u = c.steps.invariant.under in
    subst (λ (x : Add). AsksFor x c.next.result c.steps.token.me) c.requires.picked
    (subst (λ a. AsksFor c.args.add a c.steps.token.me) (sym c.next.ensures)
    (asks_now (seat_of c.args.token.now.me) c.args.add c.args.token.now.me c.steps.token.me c.steps.machine u))

pub steps-preserved : goal.steps-preserved
steps-preserved g c =
    let k : Machine = c.steps.machine in
    let n = c.perform-word.result in
    let then = c.perform-word.new.token.me in
    let moved : Moved c.args.add c.steps.token.me n then =
    subst (λ (x : Add). Moved x c.steps.token.me n then) (sym c.requires.picked) c.perform-word.ensures.told in
    let none : None ≡ answers k = sym c.in_default.is ∙ c.take.ensures.answer in
    let busy : is_idle (takes k n).phase ≡ false =
    ap (λ (z : Machine). is_idle z.phase) (sym c.take.ensures.machine) ∙ sym c.take.ensures.ended
    ∙ ap is_some c.in_default.is in
    record {
      table = c.perform-word.ensures.kept ∙ c.steps.invariant.table;
      under = subst (Under (seat_of c.args.token.now.me) c.args.add c.args.token.now.me then)
          (sym c.take.ensures.machine)
          (goes_under (seat_of c.args.token.now.me) c.args.add c.args.token.now.me c.steps.token.me then k n
          c.steps.invariant.under moved none busy);
    }

ended : (g : _) (c : goal.In-Some g) → Ended (seat_of c.args.token.now.me) c.args.add c.args.token.now.me
    c.perform-word.new.token.me c.take.new.self c.in-Some.added
ended g c =
    let k : Machine = c.steps.machine in
    let n = c.perform-word.result in
    let then = c.perform-word.new.token.me in
    let moved : Moved c.args.add c.steps.token.me n then =
    subst (λ (x : Add). Moved x c.steps.token.me n then) (sym c.requires.picked) c.perform-word.ensures.told in
    let some : Some c.in-Some.added ≡ answers k = sym c.in-Some.is ∙ c.take.ensures.answer in
    let idle : is_idle (takes k n).phase ≡ true =
    ap (λ (z : Machine). is_idle z.phase) (sym c.take.ensures.machine) ∙ sym c.take.ensures.ended
    ∙ ap is_some c.in-Some.is in
    subst (λ z. Ended (seat_of c.args.token.now.me) c.args.add c.args.token.now.me then z c.in-Some.added)
    (sym c.take.ensures.machine)
    (ends_under (seat_of c.args.token.now.me) c.args.add c.args.token.now.me c.steps.token.me then k n
    c.in-Some.added c.steps.invariant.under moved some idle)

pub returns-in-Some-clause-added : goal.returns-in-Some-clause-added
returns-in-Some-clause-added g c = (ended g c).added_is
