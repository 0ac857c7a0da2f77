use Rattle.std.proofs.Common.{◌≡◌, ◌∙◌, length, ap, sym, subst, arith}
use Rattle.std.specs.Mem.Slots.{slots_counts, slots_items}
use Rattle.table_model.specs.Setup.{Setup, seats_of}
use Rattle.word_rows.specs.Places.{word_count}
use Rattle.shared_table.specs.Rule.{plain}
use Rattle.shared_table.specs.Values.{TableValue, Ran}
use Rattle.shared_table.proofs.Parts.{ends}
use Rattle.shared_table.proofs.directory.Directory.close_in_place.Goals as goal

pub returns-clause-ran : goal.returns-clause-ran
returns-clause-ran c =
    let k : Setup = plain c.self.inside.table.shared.key in
    let same : k ≡ c.args.self.setup = ap (λ (t : TableValue). t.setup) c.self.view_is in
    let count : seats_of k ≡ seats_of c.args.self.setup = ap seats_of same in
    let all : length c.args.seats.items ≡ seats_of k = omega (arith, c.args.seats.ok.0, c.requires.all, count) in
    let ran : Ran k (slots_items c.close_with.result.words) c.args.seats.items =
    ends k c.gather-token.result.id c.gather-token.result.me c.args.seats.items
    (slots_items c.close_with.result.words) (slots_items c.close_with.result.slots) all
    c.gather-token.ensures.idle c.gather-token.ensures.me
    c.close_with.ensures.values.2 in
    subst (λ (q : Setup). Ran q (slots_items c.close_with.result.words) c.args.seats.items) same ran

pub returns-clause-count : goal.returns-clause-count
returns-clause-count c = sym (slots_counts c.close_with.result.words).0 ∙ c.close_with.ensures.counts.0
    ∙ c.self.invariant.words ∙ ap word_count c.self.invariant.shape
    ∙ ap (λ (t : TableValue). word_count t.setup.shape) c.self.view_is
