-- The exchange happened, and the call is answered in the leaf of its key.
use Rattle.std.proofs.Common.{◌≡◌, ◌+◌, ◌∙◌, List, length, map, sym, ap, subst}
use Rattle.std.proofs.lemmas.List.{length-map}
use Rattle.std.specs.Prelude.{All}
use Rattle.word_rows.specs.Shape.{Shape}
use Rattle.table_model.specs.Fits.{Makes}
use Rattle.table_model.specs.Goes.{answered_by_leaf}
use Rattle.table_model.specs.Leaves.{NewLeaf}
use Rattle.table_model.specs.Stores.{made_leaves}
use Rattle.dir_states.specs.Views.{as_leaf, as_loaded}
use Rattle.seat_calls.specs.Desks.{settings_at}
use Rattle.seat_calls.specs.Going.{Going, went}
use Rattle.seat_calls.specs.Puts.{CanBeSpelled}
use Rattle.seat_calls.specs.Tries.{directory_trying}
use Rattle.seat_calls.proofs.DeskLemmas.{rules_same}
use Rattle.seat_calls.proofs.LeafLemmas.{root_won, row_here}
use Rattle.seat_calls.proofs.directory_tries.publish.Goals as goal

pub answer_in-requires-clause-loaded : goal.answer_in-requires-clause-loaded
answer_in-requires-clause-loaded g c =
    let f : Going = g.S.Steps.now c.args.steps.now in
    let found = c.args.found.now in
    let loaded = map as_loaded found.loaded.now in
    let made = made_leaves f.setup (directory_trying found.attempt) found.ops.now loaded in
    let spelled = subst (λ (s : Shape). All (CanBeSpelled s.settings loaded) made) c.requires.desk.shape
    c.requires.makes.leaves in
    (loaded, subst (All (CanBeSpelled (settings_at c.args.desk.now) loaded)) (sym c.requires.leaves) spelled)

pub unreachable-requires : goal.unreachable-requires
unreachable-requires g c =
    let f : Going = g.S.Steps.now c.args.steps.now in
    let desk = c.args.desk.now in
    let found = c.args.found.now in
    let loaded = map as_loaded found.loaded.now in
    let won = root_won f found.attempt.round (directory_trying found.attempt) found.ops.now loaded c.requires.phase
    c.exchange.result c.if-exchange-found.false in
    let makes = subst (λ (h : Going). Makes f.setup h.phase) won c.exchange.ensures.fits.makes in
    let here = row_here f desk c.args.used.now c.requires.desk c.requires.used in
    let stuck = c.in_default.ensures f.flight c.requires.own.key in
    subst (Makes f.setup)
    ((λ i. answered_by_leaf (sym (rules_same f desk c.requires.desk) i) (c.requires.desk.seat i) f.flight
    (sym here i) (sym c.requires.leaves i)) ∙ sym stuck) makes

pub returns-clause-goes : goal.returns-clause-goes
returns-clause-goes g c =
    let f : Going = g.S.Steps.now c.args.steps.now in
    let desk = c.args.desk.now in
    let found = c.args.found.now in
    let loaded = map as_loaded found.loaded.now in
    let won = root_won f found.attempt.round (directory_trying found.attempt) found.ops.now loaded c.requires.phase
    c.exchange.result c.if-exchange-found.false in
    let here = row_here f desk c.args.used.now c.requires.desk c.requires.used in
    let many : length (made_leaves f.setup (directory_trying found.attempt) found.ops.now loaded) ≡ length
    c.args.leaves.now =
    ap (λ (ls : List NewLeaf). length ls) (sym c.requires.leaves) ∙ length-map c.args.leaves.now as_leaf in
    let answer = (λ i. answered_by_leaf (sym (rules_same f desk c.requires.desk) i) (c.requires.desk.seat i) f.flight
    (sym here i) (sym c.requires.leaves i))
    ∙ sym (c.in-Some.ensures f.flight c.requires.own.key) in
    let used = sym c.requires.used in
    c.exchange.ensures.goes ∙ won
    ∙ (λ i. went f (record {
      op_rows = (used i).op_rows;
      bucket_rows = (used i).bucket_rows + many i;
      bucket_words = (used i).bucket_words + many i;
      directory_rows = (used i).directory_rows + 1;
    }) 1 (answer i))
