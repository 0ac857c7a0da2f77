-- Each turn writes one more seat's two words.
use Rattle.std.proofs.Common.{ℕ, ◌+◌, ◌*◌, sym, ◌∙◌, ap, refl, arith, ◌∷◌, [], get_or, set}
use Rattle.std.proofs.lemmas.List.{length-set}
use Rattle.word_rows.specs.BucketWords.{seat_place}
use Rattle.word_rows.proofs.BlockLemmas.{blocks_zero}
use Rattle.word_rows.proofs.PartLemmas.{seat_written}
use Rattle.word_rows.proofs.bucket_parts.write_seats.Goals as goal

pub loop-seat-init : goal.loop-seat-init
loop-seat-init c = record {
  long = refl;
  written = sym (blocks_zero
      (seat_place c.args.applied.now c.args.replies.now));
}

pub loop-seat-preserved : goal.loop-seat-preserved
loop-seat-preserved c =
    let s = c.loop-seat.seat in
    let out = c.loop-seat.out in
    let number = get_or c.args.applied.now s 0 in
    let reply = c.reply_word.result in
    record {
      long = length-set (set out (s * 2) number) (s * 2 + 1) reply ∙ length-set out (s * 2) number
          ∙ c.loop-seat.invariant.long;
      written = seat_written (seat_place c.args.applied.now c.args.replies.now) out s number reply
          c.loop-seat.invariant.written (ap (λ (word : ℕ). number ∷ word ∷ []) (sym c.reply_word.ensures))
          (omega arith);
    }
