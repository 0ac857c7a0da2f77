use Rattle.std.proofs.Common.{ℕ, ◌<◌, ◌≤◌, ◌∙◌, sym, ap, subst, arith}
use Rattle.std.proofs.lemmas.Option.{same_Some}
use Rattle.std.specs.FinMap as finite
use Rattle.plain_map.specs.PlainObject.{class_of, class_size}
use Rattle.class_map.specs.ClassCounts.{AreCountsOf}
use Rattle.plain_map.specs.Held.{sessions_of}
use Rattle.plain_map.specs.Keys.{held_in}
use Rattle.plain_map.proofs.SessionLemmas.{held_at, none_at_gap, ordered-insert, sessions_of-insert}
use Rattle.class_map.proofs.CountLemmas.{class_size-counted, AreCountsOf-gain}
use Rattle.class_map.proofs.AnswerLemmas.{insert_reply_held, brought_held, insert_reply_new, brought_new, insert_reply_full, brought_full, on_err}
use Rattle.class_map.proofs.object.PlainMap.insert.Goals as goal

-- the key is held
pub returns-in-Ok-clause-reply : goal.returns-in-Ok-clause-reply
returns-in-Ok-clause-reply c =
    let here = rw c.deref.ensures.value at c.in-Ok.ensures.found in
    sym (insert_reply_held c.args.rules.now c.args.self.now c.args.pair.key _
    (held_at c.self.inside.pairs.items c.self.invariant.ordered _ c.self.view_is _ _ here c.index.result.now
    c.index.ensures))

pub returns-in-Ok-clause-change : goal.returns-in-Ok-clause-change
returns-in-Ok-clause-change c =
    let here = rw c.deref.ensures.value at c.in-Ok.ensures.found in
    sym (brought_held c.args.rules.now c.args.self.now c.args.pair.key (held_in c.args.pair) _
    (held_at c.self.inside.pairs.items c.self.invariant.ordered _ c.self.view_is _ _ here c.index.result.now
    c.index.ensures))

-- memory is wanted only for a key that is not held
pub returns-in_err-counts-clause-err_only_at_new : goal.returns-in_err-counts-clause-err_only_at_new
returns-in_err-counts-clause-err_only_at_new c =
    let gap = rw c.deref.ensures.value at c.in-Err.ensures.absent in
    on_err _ (none_at_gap c.self.inside.pairs.items c.self.invariant.ordered c.args.self.now c.self.view_is _ _ gap)

pub returns-in_err-insert-clause-err_only_at_new : goal.returns-in_err-insert-clause-err_only_at_new
returns-in_err-insert-clause-err_only_at_new c =
    let gap = rw c.deref.ensures.value at c.in-Err.ensures.absent in
    on_err _ (none_at_gap c.self.inside.pairs.items c.self.invariant.ordered c.args.self.now c.self.view_is _ _ gap)

-- the class has room
pub invariant_of-self-then-at-from : goal.invariant_of-self-then-at-from
invariant_of-self-then-at-from c =
    let ps = c.self.inside.pairs.items in
    let gap = rw c.deref.ensures.value at c.in-Err.ensures.absent in
    let were = rw c.deref-2.ensures.value at c.in_ok-counts.ensures.counts in
    let counted : AreCountsOf c.insert.new.self.items c.gain.new.self =
    AreCountsOf-gain c.args.rules.now ps c.in_ok-counts.counts _ c.in_ok-counts.ensures.rules were
    c.class_of-class.ensures.within
    c.in-Err.at c.args.pair c.class_of-class.ensures.value c.gain.new.self c.gain.ensures.rules _
    c.in_ok-insert.ensures.items c.gain.ensures.counts in
    record {
      ordered = rw c.in_ok-insert.ensures.items
          (ordered-insert ps c.self.invariant.ordered c.args.pair.key c.in-Err.at gap (held_in c.args.pair));
      counted = λ now is. subst (AreCountsOf c.insert.new.self.items) (same_Some _ _ is) counted;
    }

pub returns-in_ok-insert-clause-reply : goal.returns-in_ok-insert-clause-reply
returns-in_ok-insert-clause-reply c =
    let rules = c.args.rules.now in
    let m = c.args.self.now in
    let key = c.args.pair.key in
    let ps = c.self.inside.pairs.items in
    let gap = rw c.deref.ensures.value at c.in-Err.ensures.absent in
    let none = none_at_gap ps c.self.invariant.ordered m c.self.view_is _ _ gap in
    let were = rw c.deref-2.ensures.value at c.in_ok-counts.ensures.counts in
    let size = class_size-counted rules ps c.in_ok-counts.counts _ c.in_ok-counts.ensures.rules were
    c.class_of-class.ensures.within c.self.invariant.ordered m c.self.view_is in
    let few : class_size rules m (class_of rules key) < rules.items =
    subst (λ (class : ℕ). class_size rules m class < rules.items) c.class_of-class.ensures.value
    (omega (arith, size, c.at.ensures, c.from.ensures, c.if-at-from.true)) in
    sym (insert_reply_new rules m key none few)

pub returns-in_ok-insert-clause-change : goal.returns-in_ok-insert-clause-change
returns-in_ok-insert-clause-change c =
    let rules = c.args.rules.now in
    let m = c.args.self.now in
    let key = c.args.pair.key in
    let ps = c.self.inside.pairs.items in
    let gap = rw c.deref.ensures.value at c.in-Err.ensures.absent in
    let none = none_at_gap ps c.self.invariant.ordered m c.self.view_is _ _ gap in
    let were = rw c.deref-2.ensures.value at c.in_ok-counts.ensures.counts in
    let size = class_size-counted rules ps c.in_ok-counts.counts _ c.in_ok-counts.ensures.rules were
    c.class_of-class.ensures.within c.self.invariant.ordered m c.self.view_is in
    let few : class_size rules m (class_of rules key) < rules.items =
    subst (λ (class : ℕ). class_size rules m class < rules.items) c.class_of-class.ensures.value
    (omega (arith, size, c.at.ensures, c.from.ensures, c.if-at-from.true)) in
    ap sessions_of c.in_ok-insert.ensures.items
    ∙ sessions_of-insert ps c.self.invariant.ordered key c.in-Err.at (held_in c.args.pair) gap
    ∙ ap (λ m. finite.insert m key (held_in c.args.pair)) c.self.view_is
    ∙ sym (brought_new rules m key none (held_in c.args.pair) few)

-- the class has none
pub returns-else-at-from-clause-reply : goal.returns-else-at-from-clause-reply
returns-else-at-from-clause-reply c =
    let rules = c.args.rules.now in
    let m = c.args.self.now in
    let key = c.args.pair.key in
    let ps = c.self.inside.pairs.items in
    let gap = rw c.deref.ensures.value at c.in-Err.ensures.absent in
    let none = none_at_gap ps c.self.invariant.ordered m c.self.view_is _ _ gap in
    let were = rw c.deref-2.ensures.value at c.in_ok-counts.ensures.counts in
    let size = class_size-counted rules ps c.in_ok-counts.counts _ c.in_ok-counts.ensures.rules were
    c.class_of-class.ensures.within c.self.invariant.ordered m c.self.view_is in
    let many : rules.items ≤ class_size rules m (class_of rules key) =
    subst (λ (class : ℕ). rules.items ≤ class_size rules m class) c.class_of-class.ensures.value
    (omega (arith, size, c.at.ensures, c.from.ensures, c.if-at-from.false)) in
    sym (insert_reply_full rules m key none many)

pub returns-else-at-from-clause-change : goal.returns-else-at-from-clause-change
returns-else-at-from-clause-change c =
    let rules = c.args.rules.now in
    let m = c.args.self.now in
    let key = c.args.pair.key in
    let ps = c.self.inside.pairs.items in
    let gap = rw c.deref.ensures.value at c.in-Err.ensures.absent in
    let none = none_at_gap ps c.self.invariant.ordered m c.self.view_is _ _ gap in
    let were = rw c.deref-2.ensures.value at c.in_ok-counts.ensures.counts in
    let size = class_size-counted rules ps c.in_ok-counts.counts _ c.in_ok-counts.ensures.rules were
    c.class_of-class.ensures.within c.self.invariant.ordered m c.self.view_is in
    let many : rules.items ≤ class_size rules m (class_of rules key) =
    subst (λ (class : ℕ). rules.items ≤ class_size rules m class) c.class_of-class.ensures.value
    (omega (arith, size, c.at.ensures, c.from.ensures, c.if-at-from.false)) in
    c.self.view_is ∙ sym (brought_full rules m key none (held_in c.args.pair) many)
