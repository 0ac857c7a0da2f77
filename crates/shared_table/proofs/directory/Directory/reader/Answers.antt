use Rattle.std.proofs.Common.{◌≡◌, [], ◌∷◌, sym, ap, ◌∙◌, arith}
use Rattle.word_rows.specs.declared.addresses.Address.TheVariants.{Root}
use Rattle.word_rows.specs.LayoutView.{shape_of}
use Rattle.table_model.specs.Setup.{Setup, seats_of}
use Rattle.shared_table.specs.Fronts.{Front}
use Rattle.shared_table.specs.Rule.{M, plain}
use Rattle.shared_table.specs.Seating.{fresh}
use Rattle.shared_table.specs.Values.{TableValue}
use Rattle.shared_table.specs.Readers.{front_in}
use Rattle.shared_table.proofs.Loads.{enters_at, opened_as}
use Rattle.shared_table.proofs.ReaderLemmas.{stands_by}
use Rattle.shared_table.proofs.directory.Directory.reader.Goals as goal

pub load_new_seat-token-requires : goal.load_new_seat-token-requires
load_new_seat-token-requires c = (
  omega (
    arith,
    c.place_laws.ensures.within (shape_of c.self.inside.layout) Root tt,
    c.root.ensures,
    c.self.invariant.words,
  ),
  enters_at (plain c.self.inside.table.shared.key) _ _,
)

pub invariant_of-result : goal.invariant_of-result
invariant_of-result c =
    let opened : Setup = plain c.self.inside.table.shared.key in
    let entered = c.load_new_seat-token.ensures.2 in
    let same : entered.front.setup ≡ opened = entered.opened (fresh opened 0) ∙ opened_as opened (seats_of opened) in
    stands_by c.new.result c.into_badge.result.views entered.front
    (c.into_badge.ensures.2 ∙ ap (λ (m : M). m.0 ∷ []) entered.is) entered.run
    (ap (λ (s : Setup). s.shape) same ∙ sym c.self.invariant.shape ∙ ap shape_of (sym c.new.ensures.layout))
    (ap (λ (s : Setup). s.hashing) same ∙ sym c.self.invariant.hashing_is ∙ sym c.new.ensures.hashing)
    (sym c.new.ensures.seat)

pub returns : goal.returns
returns c =
    let opened : Setup = plain c.self.inside.table.shared.key in
    let entered = c.load_new_seat-token.ensures.2 in
    let same : entered.front.setup ≡ opened = entered.opened (fresh opened 0) ∙ opened_as opened (seats_of opened) in
    record {
      table = c.into_badge.ensures.0 ∙ c.load_new_seat-token.ensures.0
          ∙ ap (λ (t : TableValue). t.table_id) c.self.view_is;
      setup = ap (λ (f : Front). f.setup)
          (ap (front_in c.new.result) (c.into_badge.ensures.2 ∙ ap (λ (m : M). m.0 ∷ []) entered.is))
          ∙ same ∙ ap (λ (t : TableValue). t.setup) c.self.view_is;
    }
