-- The share, the op's words, and the announcement.
use Rattle.std.proofs.Common.{◌∙◌, ℕ, List, take, drop, refl, ap}
use Rattle.exchange_calls.proofs.AnnounceLemmas.{announce_asked, announced_goes, call_behind, op_writes, raise_asked}
use Rattle.exchange_calls.proofs.announcing.announce.Goals as goal

pub raise-others-requires : goal.raise-others-requires
raise-others-requires g c = record {
  asked = raise_asked (g.S.Steps.now c.args.steps.now) c.args.own.now.call c.requires.phase _ c.pending-counter.ensures;
}

pub store_run-requires-clause-writes : goal.store_run-requires-clause-writes
store_run-requires-clause-writes g c =
    op_writes (g.S.Steps.now c.args.steps.now) c.args.own.now.call c.requires.phase
    (g.S.Steps.now c.raise-others.new.self) c.raise-others.result c.raise-others.ensures.goes c.args.desk.now
    c.requires.desk c.op-start.result c.op-start.ensures.value (take 7 (drop 1 c.write_op.new.out))
    (ap (λ (ws : List ℕ). take 7 (drop 1 ws)) c.write_op.ensures
    ∙ call_behind c.args.own.now.call 1 c.requires.update) c.requires.update

pub store-requires : goal.store-requires
store-requires g c = record {
  asked = announce_asked (g.S.Steps.now c.args.steps.now) c.args.own.now.call c.requires.phase
      (g.S.Steps.now c.raise-others.new.self) c.raise-others.result c.raise-others.ensures.goes c.args.desk.now
      c.requires.desk c.op-start.result c.op-start.ensures.value (take 7 (drop 1 c.write_op.new.out))
      (ap (λ (ws : List ℕ). take 7 (drop 1 ws)) c.write_op.ensures
      ∙ call_behind c.args.own.now.call 1 c.requires.update) c.requires.update
      (g.S.Steps.now c.store_run.new.steps) c.store_run.ensures.goes _ _ c.args.own.now.bucket c.args.own.now.number
      c.announced-at.ensures c.requires.bucket c.requires.number refl;
}

pub returns : goal.returns
returns g c =
    announced_goes (g.S.Steps.now c.args.steps.now) c.args.own.now.call c.requires.phase
    (g.S.Steps.now c.raise-others.new.self) c.raise-others.result c.raise-others.ensures.goes c.args.desk.now
    c.requires.desk c.op-start.result c.op-start.ensures.value (take 7 (drop 1 c.write_op.new.out))
    (ap (λ (ws : List ℕ). take 7 (drop 1 ws)) c.write_op.ensures
    ∙ call_behind c.args.own.now.call 1 c.requires.update) c.requires.update
    (g.S.Steps.now c.store_run.new.steps) c.store_run.ensures.goes (g.S.Steps.now c.store.new.self) c.store.ensures.goes
