-- Each turn writes one more item, and the end is filled with zeros.
use Rattle.std.proofs.Common.{◌≡◌, ℕ, ◌-◌, ◌*◌, length, take, drop, replicate, sym, ◌∙◌, ap, subst, refl, arith}
use Rattle.std.proofs.lemmas.List.{length-take, length-drop}
use Rattle.word_rows.specs.Blocks.{blocks}
use Rattle.step_counts.specs.declared.TheConstants.{ITEM_WORDS}
use Rattle.word_rows.specs.BucketWords.{item_place}
use Rattle.word_rows.proofs.BlockLemmas.{blocks_zero}
use Rattle.word_rows.proofs.PartLemmas.{item_written, items_written}
use Rattle.word_rows.proofs.bucket_parts.write_items.Goals as goal

pub loop-i-init : goal.loop-i-init
loop-i-init c = record { long = refl; written = sym (blocks_zero (item_place c.args.items.now)) }

pub loop-i-preserved : goal.loop-i-preserved
loop-i-preserved c =
    let i = c.loop-i.i in
    let both = item_written c.args.items.now c.loop-i.out c.write_pair.new.out i _ _ c.loop-i.invariant.written
    (omega arith) c.write_pair.ensures (omega arith) (omega arith) in
    record { long = both.0 ∙ c.loop-i.invariant.long; written = both.1 }

pub returns : goal.returns
returns c =
    let items = c.args.items.now in
    let out = c.loop-i.out in
    let a : ℕ = length items * ITEM_WORDS in
    let all : c.loop-i.i ≡ length items = omega arith in
    let before : take a out ≡ blocks (item_place items) (length items) =
    subst (λ n. take (n * ITEM_WORDS) out ≡ blocks (item_place items) n) all c.loop-i.invariant.written in
    let rest : length (take (length out - a) (drop a out)) ≡ length out - a =
    omega (arith, length-take (length out - a) (drop a out), length-drop a out) in
    items_written items c.args.room out c.fill.new.self before (omega arith) (omega arith)
    (c.fill.ensures.after (λ y e. e) ∙ ap (λ n. replicate n 0) rest)
