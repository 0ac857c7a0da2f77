-- Each turn copies one more item.
use Rattle.std.proofs.Common.{◌∙◌, ◌<◌, ℕ, ◌+◌, ◌*◌, List, length, take, length-set, refl, sym, ap, arith}
use Rattle.step_counts.specs.declared.TheConstants.{ITEM_WORDS}
use Rattle.plain_map.specs.declared.keys.Pair.{Pair}
use Rattle.exchange_model.specs.Steps.{Aim, OfBucket}
use Rattle.exchange_model.specs.Goes.{pass_on}
use Rattle.exchange_calls.specs.Going.{Going}
use Rattle.exchange_calls.specs.Items.{looking, pass_at, source_of}
use Rattle.exchange_calls.proofs.RunLemmas.{take_more}
use Rattle.exchange_calls.proofs.LookLemmas.{goes_into}
use Rattle.exchange_calls.proofs.FindLemmas.{count_asked, count_loaded, item_asked, item_is, item_whole}
use Rattle.exchange_calls.proofs.looks.copy_items.Goals as goal

pub load-most-requires : goal.load-most-requires
load-most-requires g c =
    let f : Going = g.S.Steps.now c.args.steps.now in
    record {
      asked = count_asked f c.args.desk.now c.requires.desk (OfBucket c.args.bucket) (source_of c.args.source)
          c.requires.phase
          c.args.row c.row-first.result _ c.requires.row c.row-first.ensures.value refl;
    }

pub loop-i-init : goal.loop-i-init
loop-i-init g c =
    let f : Going = g.S.Steps.now c.args.steps.now in
    record {
      len = refl;
      goes = count_loaded f c.args.desk.now c.requires.desk (OfBucket c.args.bucket) (source_of c.args.source)
          c.requires.phase (g.S.Steps.now c.load-most.new.self) c.load-most.result c.count_in-count.result
          c.load-most.ensures.goes c.count_in-count.ensures.value;
    }

pub load-word-requires : goal.load-word-requires
load-word-requires g c =
    let f : Going = g.S.Steps.now c.args.steps.now in
    let v = c.loop-i.invariant in
    record {
      asked = item_asked f c.args.desk.now c.requires.desk (OfBucket c.args.bucket) (source_of c.args.source)
          c.count_in-count.result
          c.loop-i.i (take c.loop-i.i c.loop-i.out) (g.S.Steps.now c.loop-i.steps) v.goes c.loop-i-test.true
          c.args.row c.row-first.result
          (c.row-first.result + 1 + ITEM_WORDS * c.loop-i.i)
          c.requires.row c.row-first.ensures.value refl _ (omega arith);
    }

pub load_rest-pair-requires-clause-item : goal.load_rest-pair-requires-clause-item
load_rest-pair-requires-clause-item g c =
    let f : Going = g.S.Steps.now c.args.steps.now in
    let v = c.loop-i.invariant in
    let source = source_of c.args.source in
    let aim : Aim = OfBucket c.args.bucket in
    let word : ℕ = c.load-word.result in
    item_is f c.args.desk.now c.requires.desk aim source c.count_in-count.result
    c.loop-i.i (take c.loop-i.i c.loop-i.out) (g.S.Steps.now c.loop-i.steps) v.goes c.loop-i-test.true
    c.args.row c.row-first.result
    (c.row-first.result + 1 + ITEM_WORDS * c.loop-i.i)
    c.requires.row c.row-first.ensures.value refl
    (g.S.Steps.now c.load-word.new.self) word c.load-word.ensures.goes
    (goes_into source aim (pass_at c.count_in-count.result c.loop-i.i (take c.loop-i.i c.loop-i.out)) word refl refl)

pub loop-i-preserved : goal.loop-i-preserved
unfolding load_rest-pair-requires-clause-item
loop-i-preserved g c =
    let f : Going = g.S.Steps.now c.args.steps.now in
    let v = c.loop-i.invariant in
    let source = source_of c.args.source in
    let aim : Aim = OfBucket c.args.bucket in
    let i : ℕ = c.loop-i.i in
    let count : ℕ = c.count_in-count.result in
    let out : List Pair = c.loop-i.out in
    let kept : List Pair = take i out in
    let word : ℕ = c.load-word.result in
    let pair : Pair = c.load_rest-pair.result in
    let at : ℕ = c.row-first.result + 1 + ITEM_WORDS * i in
    let may = goes_into source aim (pass_at count i kept) word refl refl in
    let inside : i < length out =
    omega (arith, v.len, c.requires.room, c.count_in-count.ensures.value, c.loop-i-test.true) in
    record {
      len = length-set out i pair ∙ v.len;
      goes = item_whole f c.args.desk.now c.requires.desk aim source count i kept (g.S.Steps.now c.loop-i.steps) v.goes
          c.loop-i-test.true c.args.row c.row-first.result at c.requires.row c.row-first.ensures.value
          refl (g.S.Steps.now c.load-word.new.self) word c.load-word.ensures.goes may
          (g.S.Steps.now c.load_rest-pair.new.steps) pair
          (c.load_rest-pair.ensures (load_rest-pair-requires-clause-item g c.before))
          ∙ ap (λ (ps : List Pair). looking f aim (pass_on source (pass_at count (i + 1) ps)))
          (sym (take_more out i (i + 1) pair (omega arith) inside));
    }
