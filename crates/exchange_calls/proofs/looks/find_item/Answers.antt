-- Each turn goes past one more item, or finds the key.
use Rattle.std.proofs.Common.{◌∙◌, ℕ, ◌+◌, ◌*◌, [], refl, sym, arith}
use Rattle.step_counts.specs.declared.TheConstants.{ITEM_WORDS}
use Rattle.exchange_model.specs.Steps.{Aim, OfKey}
use Rattle.exchange_calls.specs.Going.{Going}
use Rattle.exchange_calls.specs.Items.{pass_at, source_of}
use Rattle.exchange_calls.proofs.LookLemmas.{goes_into}
use Rattle.exchange_calls.proofs.FindLemmas.{count_asked, count_loaded, found_it, item_asked, item_is, item_whole, past_by_pair, words_same}
use Rattle.exchange_calls.proofs.looks.find_item.Goals as goal

pub load-most-requires : goal.load-most-requires
load-most-requires g c =
    let f : Going = g.S.Steps.now c.args.steps.now in
    record {
      asked = count_asked f c.args.desk.now c.requires.desk (OfKey c.args.key.now) (source_of c.args.source)
          c.requires.phase
          c.args.row c.row-first.result _ c.requires.row c.row-first.ensures.value refl;
    }

pub loop-i-init : goal.loop-i-init
loop-i-init g c =
    let f : Going = g.S.Steps.now c.args.steps.now in
    record {
      kept = [];
      goes = count_loaded f c.args.desk.now c.requires.desk (OfKey c.args.key.now) (source_of c.args.source)
          c.requires.phase (g.S.Steps.now c.load-most.new.self) c.load-most.result c.count_in-count.result
          c.load-most.ensures.goes c.count_in-count.ensures.value;
      none = refl;
    }

pub load-word-requires : goal.load-word-requires
load-word-requires g c =
    let f : Going = g.S.Steps.now c.args.steps.now in
    let v = c.loop-i.invariant in
    record {
      asked = item_asked f c.args.desk.now c.requires.desk (OfKey c.args.key.now) (source_of c.args.source)
          c.count_in-count.result
          c.loop-i.i v.kept (g.S.Steps.now c.loop-i.steps) v.goes c.loop-i-test.true c.args.row c.row-first.result
          (c.row-first.result + 1 + ITEM_WORDS * c.loop-i.i)
          c.requires.row c.row-first.ensures.value refl _ (omega arith);
    }

pub load_rest-pair-requires-clause-item : goal.load_rest-pair-requires-clause-item
load_rest-pair-requires-clause-item g c =
    let f : Going = g.S.Steps.now c.args.steps.now in
    let v = c.loop-i.invariant in
    let source = source_of c.args.source in
    let aim : Aim = OfKey c.args.key.now in
    let word : ℕ = c.load-word.result in
    item_is f c.args.desk.now c.requires.desk aim source c.count_in-count.result
    c.loop-i.i v.kept (g.S.Steps.now c.loop-i.steps) v.goes c.loop-i-test.true c.args.row c.row-first.result
    (c.row-first.result + 1 + ITEM_WORDS * c.loop-i.i)
    c.requires.row c.row-first.ensures.value refl
    (g.S.Steps.now c.load-word.new.self) word c.load-word.ensures.goes
    (goes_into source aim (pass_at c.count_in-count.result c.loop-i.i v.kept) word refl
    (words_same word c.args.key.now.k4 c.if-word-key.false))

pub returns-then-has_key : goal.returns-then-has_key
returns-then-has_key g c =
    let f : Going = g.S.Steps.now c.args.steps.now in
    let v = c.loop-i.invariant in
    let source = source_of c.args.source in
    let key = c.args.key.now in
    let aim : Aim = OfKey key in
    let word : ℕ = c.load-word.result in
    let count : ℕ = c.count_in-count.result in
    let i : ℕ = c.loop-i.i in
    let first : ℕ = c.row-first.result in
    let at : ℕ = first + 1 + ITEM_WORDS * i in
    let may = goes_into source aim (pass_at count i v.kept) word refl (words_same word key.k4 c.if-word-key.false) in
    let item = item_is f c.args.desk.now c.requires.desk aim source count i v.kept (g.S.Steps.now c.loop-i.steps)
    v.goes c.loop-i-test.true c.args.row first at c.requires.row c.row-first.ensures.value
    refl (g.S.Steps.now c.load-word.new.self) word c.load-word.ensures.goes may in
    let whole = item_whole f c.args.desk.now c.requires.desk aim source count i v.kept (g.S.Steps.now c.loop-i.steps)
    v.goes c.loop-i-test.true c.args.row first at c.requires.row c.row-first.ensures.value
    refl (g.S.Steps.now c.load-word.new.self) word c.load-word.ensures.goes may
    (g.S.Steps.now c.load_rest-pair.new.steps) c.load_rest-pair.result (c.load_rest-pair.ensures item) in
    found_it f (g.S.Steps.now c.load_rest-pair.new.steps) source key count i v.kept c.load_rest-pair.result whole
    (sym c.has_key.ensures ∙ c.if-has_key.true) v.none

pub loop-i-preserved : goal.loop-i-preserved
loop-i-preserved g c =
    let f : Going = g.S.Steps.now c.args.steps.now in
    let v = c.loop-i.invariant in
    let source = source_of c.args.source in
    let key = c.args.key.now in
    let aim : Aim = OfKey key in
    let word : ℕ = c.load-word.result in
    let count : ℕ = c.count_in-count.result in
    let i : ℕ = c.loop-i.i in
    let first : ℕ = c.row-first.result in
    let at : ℕ = first + 1 + ITEM_WORDS * i in
    let may = goes_into source aim (pass_at count i v.kept) word refl (words_same word key.k4 c.if-word-key.false) in
    let item = item_is f c.args.desk.now c.requires.desk aim source count i v.kept (g.S.Steps.now c.loop-i.steps)
    v.goes c.loop-i-test.true c.args.row first at c.requires.row c.row-first.ensures.value
    refl (g.S.Steps.now c.load-word.new.self) word c.load-word.ensures.goes may in
    let whole = item_whole f c.args.desk.now c.requires.desk aim source count i v.kept (g.S.Steps.now c.loop-i.steps)
    v.goes c.loop-i-test.true c.args.row first at c.requires.row c.row-first.ensures.value
    refl (g.S.Steps.now c.load-word.new.self) word c.load-word.ensures.goes may
    (g.S.Steps.now c.load_rest-pair.new.steps) c.load_rest-pair.result (c.load_rest-pair.ensures item) in
    past_by_pair f (g.S.Steps.now c.load_rest-pair.new.steps) source key count i v.kept c.load_rest-pair.result whole
    (sym c.has_key.ensures ∙ c.if-has_key.false) v.none
