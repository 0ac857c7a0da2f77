-- What has the number 0 stands where its part begins.
use Rattle.std.proofs.Common.{◌≡◌, ℕ, ◌+◌, ◌*◌, ◌^◌, ◌%◌, ◌≤◌, ◌∙◌, ap, arith}
use Rattle.std.proofs.Math.Pow.{pow_mono}
use Rattle.std.proofs.lemmas.Nat.{one_shl}
use Rattle.step_counts.specs.declared.settings.Settings.{Settings}
use Rattle.step_counts.specs.StepCounts.{bucket_row_words}
use Rattle.closed_words.proofs.starts.Starts.new.Goals as goal

pub invariant_of-result : goal.invariant_of-result
invariant_of-result c =
    let same = c.settings.ensures in
    let depth : ℕ = c.args.layout.now.settings.depth in
    let bits : c.settings.result.now.depth ≡ depth = ap (λ (s : Settings). s.depth) same in
    let inside : depth ≤ 12 = omega arith in
    let whole : 1 * 2 ^ depth % 2 ^ 64 ≡ 2 ^ depth = one_shl depth 64 (omega (arith, inside)) in
    let room : 2 + 1 * 2 ^ c.settings.result.now.depth % 2 ^ 64 ≡ 2 + 2 ^ depth =
    ap (λ (k : ℕ). 2 + 1 * 2 ^ k % 2 ^ 64) bits ∙ ap (λ (k : ℕ). 2 + k) whole in
    record {
      starts = record {
        words = omega (arith, c.bucket_word.ensures);
        rows = omega (arith, c.bucket_row_word.ensures);
        directories = omega (arith, c.directory_word.ensures);
        few = c.place_laws.ensures.few _ c.args.layout.now.shaped (omega arith);
      };
      widths = record {
        row = c.bucket_row_words.ensures.exact ∙ ap bucket_row_words same;
        room = room;
        short_row = omega (arith, c.bucket_row_words.ensures.small);
        short_room = omega (arith, room, pow_mono inside);
      };
    }
