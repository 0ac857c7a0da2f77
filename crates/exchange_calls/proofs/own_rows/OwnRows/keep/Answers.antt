-- One row more is looked at.
use Rattle.std.proofs.Common.{ℕ, ◌+◌, ◌<◌, ◌∙◌, List, ◌++◌, drop, length, sym, ap, subst, arith}
use Rattle.std.specs.List.{remove}
use Rattle.exchange_model.specs.Goes.{alone}
use Rattle.exchange_calls.proofs.KeepLemmas.{Keeping, keeping_free, keeping_held, kept_held}
use Rattle.exchange_calls.proofs.own_rows.OwnRows.keep.Goals as goal
use Rattle.exchange_calls.proofs.own_rows.OwnRows.keep.Goals.{then-index-row, else-index-row}

pub loop-turn-preserved : goal.loop-turn-preserved
loop-turn-preserved c =
    let all : List ℕ = c.args.self.now.free.items in
    let before : List ℕ = c.args.self.now.kept.items in
    let free : List ℕ = c.loop-turn.self.free.items in
    let kept : List ℕ = c.loop-turn.self.kept.items in
    let i : ℕ = c.loop-turn.i in
    let turns : ℕ = c.loop-turn._turn in
    let v = c.loop-turn.invariant in
    let more : turns < length all = omega (arith, v.end, c.loop-turn-test.true) in
    elim c.if-index-row.branch [
      | then-index-row w ↦ rw (w.self-is, w.i-is) (record {
        next = v.next;
        end = v.end;
        keeping = subst (λ (xs : List ℕ). Keeping c.args.row all before xs w.push_reserved.new.self.items i (turns + 1))
            (sym w.remove.ensures.items)
            (subst (λ (xs : List ℕ). Keeping c.args.row all before (remove free i) xs i (turns + 1))
            (sym w.push_reserved.ensures.items)
            (keeping_held c.args.row all before free kept i turns c.index.result.now v.keeping more c.index.ensures
            w.if-index-row.true));
      })
      | else-index-row w ↦ rw (w.self-is, w.i-is) (record {
        next = v.next;
        end = v.end;
        keeping = keeping_free c.args.row all before free kept i turns c.index.result.now v.keeping more
            c.index.ensures w.if-index-row.false;
      })
    ]

pub returns-clause-kept : goal.returns-clause-kept
returns-clause-kept c =
    let v = c.loop-turn.invariant in
    kept_held c.args.row c.args.self.now.free.items c.args.self.now.kept.items c.loop-turn.self.free.items
    c.loop-turn.self.kept.items c.loop-turn.i c.loop-turn._turn v.keeping
    (omega (arith, v.end, c.loop-turn-test.false))
    ∙ ap (λ (n : ℕ). c.args.self.now.kept.items ++ alone c.args.row (drop n c.args.self.now.free.items))
    (sym c.requires.next)
