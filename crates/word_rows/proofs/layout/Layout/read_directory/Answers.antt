use Rattle.std.proofs.Common.{rules, arith, ◌≡◌, ◌+◌, ◌-◌, ◌≤◌, ◌^◌, length, get_or, drop, ap}
use Rattle.step_counts.specs.declared.settings.Settings.{Settings}
use Rattle.std.proofs.lemmas.List.{length-take, length-drop}
use Rattle.std.proofs.Math.Pow.{pow_mono}
use Rattle.word_rows.specs.DirectoryWords.{directory_of_words}
use Rattle.word_rows.proofs.DirectoryLemmas.{directory_spelled}
use Rattle.word_rows.proofs.layout.Layout.read_directory.Goals as goal

pub unwrap-requires : goal.unwrap-requires
unwrap-requires c =
    let words = c.args.words.now in
    let depth = get_or words 0 0 in
    let deep : depth ≤ c.args.self.now.settings.depth =
    omega (arith, ap (λ (s : Settings). s.depth) c.settings.ensures) in
    let entries : length words ≡ 2 + 2 ^ depth = omega arith in
    let most : 2 ^ depth ≤ 2 ^ c.args.self.now.settings.depth = pow_mono deep in
    c.extend_from_slice.ensures.succeeds (omega (
      arith,
      length-take (length words - 2) (drop 2 words),
      length-drop 2 words,
      c.clear.ensures.len,
      c.clear.ensures.capacity,
    ))

pub returns-clause-spelled : goal.returns-clause-spelled
returns-clause-spelled c =
    let words = c.args.words.now in
    let deep : get_or words 0 0 ≤ c.args.self.now.settings.depth =
    omega (arith, ap (λ (s : Settings). s.depth) c.settings.ensures) in (
      λ _. (
        directory_of_words words,
        directory_spelled c.args.self.now.settings words deep (omega arith)
            (omega (arith, c.type_inv.words 1)),
      ),
      λ _. search rules,
    )
