-- Each turn reads one more seat's two words.
use Rattle.std.proofs.Common.{◌+◌, ◌*◌, ◌∷◌, ◌++◌, ◌∙◌, [], ap, sym, refl, get_or, arith, below_more}
use Rattle.word_rows.specs.ReplyWords.{reply_of_word}
use Rattle.word_rows.specs.BucketWords.{applied_of_words, replies_of_words}
use Rattle.word_rows.proofs.PartLemmas.{first_values_next}
use Rattle.word_rows.proofs.bucket_parts.read_seats.Goals as goal

pub loop-seat-preserved : goal.loop-seat-preserved
loop-seat-preserved c =
    let words = c.args.words.now in
    let seat = c.loop-seat.seat in
    let number = c.in-Some.number in
    let reply = c.in-Some.reply in
    let told = c.in-Some.ensures in
    record {
      stands = below_more _ _ c.loop-seat.invariant.stands (told.stands.0 refl);
      numbers = c.push_reserved.ensures.items ∙ ap (λ xs. xs ++ number ∷ []) c.loop-seat.invariant.numbers
          ∙ ap (λ n. applied_of_words seat words ++ n ∷ []) told.read.0
          ∙ sym (first_values_next (λ s. get_or words (s * 2) 0) seat);
      replies = c.push_reserved-in-loop-seat.ensures.items ∙ ap (λ xs. xs ++ reply ∷ []) c.loop-seat.invariant.replies
          ∙ ap (λ r. replies_of_words seat words ++ r ∷ []) told.read.1
          ∙ sym (first_values_next (λ s. reply_of_word (get_or words (s * 2 + 1) 0)) seat);
      numbers_counted = omega (arith, c.push_reserved.ensures.len);
      replies_counted = omega (arith, c.push_reserved-in-loop-seat.ensures.len);
      numbers_room = c.push_reserved.ensures.capacity ∙ c.loop-seat.invariant.numbers_room;
      replies_room = c.push_reserved-in-loop-seat.ensures.capacity ∙ c.loop-seat.invariant.replies_room;
    }
