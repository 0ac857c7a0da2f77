use Rattle.std.proofs.Common.{◌≡◌, ℕ, ◌+◌, ◌-◌, ◌<◌, ◌^◌, length, take, get_or, set, sym, subst, ap, ◌∙◌, arith}
use Rattle.std.specs.Prelude.{count_by, nat_lt}
use Rattle.std.specs.List.{range_with_len}
use Rattle.std.proofs.lemmas.List.{get_or_read}
use Rattle.batch_rows.specs.Counts.{AreCounted, both_at}
use Rattle.batch_rows.proofs.CountLemmas.{AtLevel, count_small, last_level, next_level, no_depth, one_counted, one_depth, written_whole}
use Rattle.batch_rows.proofs.crowds.crowded.Goals as goal
use Rattle.batch_rows.proofs.crowds.crowded.Goals.{then-above-gt0, else-above-gt0}

pub overflow_add-index_mut : goal.overflow_add-index_mut
overflow_add-index_mut c =
    let counts = c.loop-key.counts.items in
    let class = c.class_of.result in
    let inside : class < length counts = omega (arith, c.loop-key.invariant.long, c.class_of.ensures.within) in
    let read : c.index_mut.result.now ≡ get_or counts class 0 =
    get_or_read counts class _ inside c.index_mut.ensures.value 0 in
    let few = count_small c.args.rules.now c.args.keys.now c.loop-key.key-index class counts
    (omega (arith, c.loop-key-test.true)) c.class_of.ensures.within c.loop-key.invariant in
    omega (arith, read, few, c.loop-key-test.true)

pub loop-key-preserved : goal.loop-key-preserved
loop-key-preserved c =
    let rules = c.args.rules.now in
    let keys = c.args.keys.now in
    let counts = c.loop-key.counts.items in
    let class = c.class_of.result in
    let inside : class < length counts = omega (arith, c.loop-key.invariant.long, c.class_of.ensures.within) in
    let read : c.index_mut.result.now ≡ get_or counts class 0 =
    get_or_read counts class _ inside c.index_mut.ensures.value 0 in
    subst (λ (n : ℕ). AreCounted rules (take (c.loop-key.key-index + 1) keys) rules.depth (set counts class (n + 1)))
    (sym read)
    (one_counted rules keys c.loop-key.key-index _ counts class c.loop-key-test.true c.class_of.ensures.value
    c.class_of.ensures.within c.loop-key.invariant)

pub loop-level-preserved : goal.loop-level-preserved
loop-level-preserved c =
    let rules = c.args.rules.now in
    let counts = c.loop-level.counts.items in
    let sums = c.halve-above.new.counts in
    let deep : ℕ = rules.depth - c.loop-level.level - 1 in
    let same : c.deref_mut.result.now ≡ counts = c.deref_mut.ensures.value in
    let many : c.places-places.result ≡ 2 ^ deep = c.places-places.ensures.exact in
    let long : length sums ≡ length counts = c.halve-above.ensures.len ∙ ap length same in
    let here : c.loop-level.level < rules.depth = omega (arith, c.loop-level-test.true) in
    subst (AtLevel rules c.args.keys.now (c.loop-level.level + 1) (c.loop-level.prefixes + c.halve-above.result)
    c.if-above-gt0.levels)
    (sym (written_whole sums counts c.loop-level.counts.len long (omega (arith, c.loop-level.counts.ok.0))))
    (next_level rules c.args.keys.now c.loop-level.level c.loop-level.prefixes c.loop-level.levels c.halve-above.result
    c.if-above-gt0.levels deep counts sums c.requires.distinct c.requires.range.depth here (omega arith)
    c.loop-level.invariant long
    (λ prefix lt. c.halve-above.ensures.sums prefix (omega (arith, lt, many)) ∙ ap (λ l. both_at l prefix) same)
    (c.halve-above.ensures.above
    ∙ (λ i. count_by (λ prefix. nat_lt rules.items (both_at (same i) prefix)) (range_with_len 0 (many i))))
    (omega (arith, c.halve-above.ensures.few, many))
    (elim c.if-above-gt0.branch [
      | then-above-gt0 w ↦
          one_depth c.halve-above.result c.if-above-gt0.levels c.loop-level.levels w.if-above-gt0.true w.levels-is
      | else-above-gt0 w ↦
          no_depth c.halve-above.result c.if-above-gt0.levels c.loop-level.levels w.if-above-gt0.false w.levels-is
    ]))

pub returns-clause-exact : goal.returns-clause-exact
returns-clause-exact c =
    let all : c.loop-level.level ≡ c.args.rules.now.depth - c.args.start =
    omega (arith, c.loop-level.auto.level-end, c.loop-level-test.false) in
    (last_level c.args.rules.now c.args.keys.now c.args.start c.loop-level.level c.loop-level.prefixes
    c.loop-level.levels c.loop-level.counts.items c.requires.within all c.loop-level.invariant).0

pub returns-clause-depth : goal.returns-clause-depth
returns-clause-depth c =
    let all : c.loop-level.level ≡ c.args.rules.now.depth - c.args.start =
    omega (arith, c.loop-level.auto.level-end, c.loop-level-test.false) in
    (last_level c.args.rules.now c.args.keys.now c.args.start c.loop-level.level c.loop-level.prefixes
    c.loop-level.levels c.loop-level.counts.items c.requires.within all c.loop-level.invariant).1
