-- A bucket more.
use Rattle.std.proofs.Common.{◌+◌, ◌<◌, ℕ, List, length, drop, get_or, arith}
use Rattle.std.specs.Prelude.{flat_map}
use Rattle.std.proofs.lemmas.List.{at_drop_more}
use Rattle.word_rows.specs.Shape.{Shape}
use Rattle.word_rows.specs.LayoutView.{shape_of}
use Rattle.history_order.specs.Filling.{exchanged_of}
use Rattle.closed_words.proofs.LoopLemmas.{grows}
use Rattle.history_order.proofs.Rows.{first_goes}
use Rattle.history_order.proofs.versions.write_buckets.Goals as goal

pub loop-bucket-preserved : goal.loop-bucket-preserved
loop-bucket-preserved g c =
    let shape : Shape = shape_of c.args.starts.now.layout in
    let words : List ℕ = g.W.Words.words c.args.words.now in
    let buckets : List ℕ = c.args.buckets.now in
    let i : ℕ = c.loop-bucket.bucket-index in
    let inside : i < length buckets = omega arith in
    let inv = c.loop-bucket.invariant in
    record {
      firsts = first_goes shape words buckets i inside c.loop-bucket.firsts.items c.push_some.new.list.items _
          c.in_ok-first.first c.in_ok-first.ensures.first c.in_ok-push_some.ensures inv.firsts;
      rows = grows c.loop-bucket.columns.rows.items (exchanged_of shape words (get_or buckets i 0))
          (flat_map (exchanged_of shape words) (drop (i + 1) buckets))
          (flat_map (exchanged_of shape words) (drop i buckets)) _ c.write_bucket.new.columns.rows.items
          c.in_ok-first.ensures.rows (at_drop_more (flat_map (exchanged_of shape words)) buckets i 0 inside) inv.rows;
      columns = λ logs w. c.in_ok-first.ensures.columns logs (inv.columns logs w);
    }
