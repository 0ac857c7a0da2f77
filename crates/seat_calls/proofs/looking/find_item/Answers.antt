-- Each turn reads one more item.
use Rattle.std.proofs.Common.{◌≡◌, ◌+◌, ◌*◌, ◌≤◌, ◌∙◌, ℕ, List, ◌++◌, length, sym, ap, subst, arith}
use Rattle.std.proofs.lemmas.List.{length-append}
use Rattle.step_counts.specs.declared.TheConstants.{ITEM_WORDS}
use Rattle.plain_map.specs.declared.keys.Pair.{Pair}
use Rattle.word_rows.specs.KeyWords.{pair_of_words}
use Rattle.word_rows.specs.BucketWords.{items_of_words}
use Rattle.bucket_states.specs.Items.{number_at}
use Rattle.table_model.specs.Phases.{LookItems}
use Rattle.seat_calls.specs.Going.{Going, Reads, goes_by}
use Rattle.seat_calls.specs.Items.{or_found}
use Rattle.seat_calls.proofs.RunLemmas.{counted, leads_from, reads_on}
use Rattle.seat_calls.proofs.ItemLemmas.{item_leads, items_more, number_at-more, whole_items}
use Rattle.seat_calls.proofs.looking.find_item.Goals as goal

pub load_run-requires-clause-reads : goal.load_run-requires-clause-reads
load_run-requires-clause-reads g c =
    let first : Going = g.S.Steps.now c.args.steps.now in
    let row = c.args.row in
    let count = c.args.count in
    let v = c.loop-i.invariant in
    let at : ℕ = c.args.start + ITEM_WORDS * c.loop-i.i in
    let l = item_leads first c.args.start row count c.requires.start in
    let state : List ℕ → Going = counted first (count * ITEM_WORDS) (LookItems row count)
    (whole_items first row count) in
    let room : length v.words + ITEM_WORDS ≤ count * ITEM_WORDS = omega (arith, v.long, c.loop-i-test.true) in
    let there : at ≡ c.args.start + length v.words = omega (arith, v.long) in
    subst (λ (h : Going). Reads h at ITEM_WORDS) (sym v.goes)
    (reads_on state c.args.start (count * ITEM_WORDS) l v.words at ITEM_WORDS room there)

pub loop-i-preserved : goal.loop-i-preserved
loop-i-preserved g c =
    let first : Going = g.S.Steps.now c.args.steps.now in
    let row = c.args.row in
    let count = c.args.count in
    let key = c.args.key.now in
    let v = c.loop-i.invariant in
    let item : List ℕ = c.load_run.new.row in
    let pair : Pair = c.read_pair.result in
    let l = item_leads first c.args.start row count c.requires.start in
    let state : List ℕ → Going = counted first (count * ITEM_WORDS) (LookItems row count)
    (whole_items first row count) in
    let wide : length item ≡ ITEM_WORDS = c.load_run.ensures.len in
    let room : length v.words + length item ≤ count * ITEM_WORDS =
    omega (arith, v.long, wide, c.loop-i-test.true) in
    let is : pair ≡ pair_of_words item = sym (ap pair_of_words c.read_pair.ensures) in
    record {
      words = v.words ++ item;
      long = omega (arith, length-append v.words item, v.long, wide);
      goes = c.load_run.ensures.goes ∙ ap (λ (h : Going). goes_by h item) v.goes
          ∙ leads_from state (count * ITEM_WORDS) l.next v.words item room;
      value = c.first_of-found.ensures ∙ (λ i. or_found (v.value i) key (is i))
          ∙ sym (number_at-more key (items_of_words c.loop-i.i v.words) (pair_of_words item))
          ∙ ap (number_at key) (sym (items_more v.words item c.loop-i.i v.long wide));
    }
