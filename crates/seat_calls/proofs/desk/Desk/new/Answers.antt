-- Row 0 stands where the rows begin.
use Rattle.std.proofs.Common.{◌≡◌, ℕ, ◌+◌, ◌*◌, ◌^◌, ◌%◌, ◌≤◌, ◌∙◌, ap, arith}
use Rattle.std.proofs.lemmas.Nat.{one_shl}
use Rattle.step_counts.specs.declared.settings.Settings.{Settings}
use Rattle.step_counts.specs.StepCounts.{bucket_row_words}
use Rattle.seat_calls.proofs.desk.Desk.new.Goals as goal

pub invariant_of-result-clause-starts : goal.invariant_of-result-clause-starts
invariant_of-result-clause-starts c =
    let same = c.settings.ensures in
    let depth : ℕ = c.args.layout.settings.depth in
    let bits : c.settings.result.now.depth ≡ depth = ap (λ (s : Settings). s.depth) same in
    let inside : depth ≤ 12 = omega arith in
    let whole : 1 * 2 ^ depth % 2 ^ 64 ≡ 2 ^ depth = one_shl depth 64 (omega (arith, inside)) in
    record {
      row = c.bucket_row_words.ensures.exact ∙ ap bucket_row_words same;
      bucket = omega (arith, c.bucket_row_word.ensures);
      room = ap (λ (k : ℕ). 2 + 1 * 2 ^ k % 2 ^ 64) bits ∙ ap (λ (k : ℕ). 2 + k) whole;
      directory = omega (arith, c.directory_word.ensures);
      few = c.place_laws.ensures.few _ c.args.layout.shaped (omega arith);
    }
