-- Ops: what is spelled is read.
use Rattle.std.proofs.Common.{◌≡◌, ℕ, ◌+◌, ◌*◌, ◌/◌, ◌%◌, length, refl, ap, ◌∙◌, arith}
use Rattle.step_counts.specs.declared.TheConstants.{OP_WORDS}
use Rattle.plain_map.specs.declared.calls.Call.{Call}
use Rattle.plain_map.specs.declared.calls.Call.TheVariants.{Insert, Remove, Lookup, Tally, Count, Put}
use Rattle.word_rows.specs.declared.ops.OpRow.{OpRow}
use Rattle.plain_map.specs.Updates.{IsUpdate}
use Rattle.word_rows.specs.OpWords.{IsOp, call_of_kind, words_of_op, op_of_words}

-- an op's words are that many, and spell it
call_read : (number : ℕ) (call : Call) → IsUpdate call →
    (length (words_of_op (record { number = number; call = call })) ≡ OP_WORDS)
    × (op_of_words (words_of_op (record { number = number; call = call })) ≡ record { number = number; call = call })
call_read number (Insert key value) h = (refl, refl)
call_read number (Remove key) h = (refl, refl)
call_read number (Lookup key) h = absurd h
call_read number (Tally key amount) h = (refl, refl)
call_read number (Count key value amount) h =
    let kind : (4 + 8 * amount) % 8 ≡ 4 = omega arith in
    let rest : (4 + 8 * amount) / 8 ≡ amount = omega arith in (
      refl,
      ap (λ k. row (call_of_kind k ((4 + 8 * amount) / 8) key value)) kind
          ∙ ap (λ (a : ℕ). row (Count key value a)) rest,
    )
  where
    row : Call → OpRow
    row call = record { number = number; call = call }
call_read number (Put key value) h = (refl, refl)

-- an op that is spelled has the words of one, and is read
pub op_read : (row : OpRow) → IsOp row → (length (words_of_op row) ≡ OP_WORDS) × (op_of_words (words_of_op row) ≡ row)
op_read row h = call_read row.number row.call h.update
