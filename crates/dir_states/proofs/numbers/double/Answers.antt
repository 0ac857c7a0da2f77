use Rattle.std.proofs.Common.{ℕ, ◌<◌, ◌+◌, ◌-◌, ◌^◌, ◌/◌, ◌∷◌, [], ◌++◌, subst, sym, ap, ◌∙◌, arith}
use Rattle.std.specs.Prelude.{slice_index}
use Rattle.word_rows.specs.Blocks.{first_values}
use Rattle.dir_states.proofs.NumberLemmas.{first_values-more, one_shifted}
use Rattle.dir_states.proofs.numbers.double.Goals as goal

pub push_reserved-requires : goal.push_reserved-requires
push_reserved-requires c =
    let inside : c.loop-place.place < 2 ^ c.args.depth =
    subst (λ n. c.loop-place.place < n) (one_shifted c.args.depth (omega (arith, c.requires.depth)))
    c.loop-place-test.true in
    omega (arith, inside, c.requires.room, c.loop-place.invariant.len, c.loop-place.invariant.room)

pub loop-place-preserved : goal.loop-place-preserved
loop-place-preserved c =
    let f : ℕ → ℕ = λ (place : ℕ). slice_index c.args.directory.now.entries.items
    (place / 2 ^ (c.args.depth - c.args.directory.now.depth)) in
    record {
      depth = c.loop-place.invariant.depth;
      entries =
          c.push_reserved.ensures.items
          ∙ ap (λ front. front ++ c.entry_at.result ∷ []) c.loop-place.invariant.entries
          ∙ ap (λ n. first_values f c.loop-place.place ++ n ∷ [])
          (c.entry_at.ensures ∙ ap (λ k. slice_index c.args.directory.now.entries.items (c.loop-place.place / 2 ^ k))
          c.saturating_sub-doubled.ensures)
          ∙ sym (first_values-more f c.loop-place.place);
      len = c.push_reserved.ensures.len ∙ ap (λ n. n + 1) c.loop-place.invariant.len;
      room = c.push_reserved.ensures.capacity ∙ c.loop-place.invariant.room;
    }
