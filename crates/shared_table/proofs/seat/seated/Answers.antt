use Rattle.std.proofs.Common.{◌≡◌, ◌∙◌, ◌∷◌, [], ℕ, ap, rules, subst, sym}
use Rattle.word_rows.specs.LayoutView.{shape_of}
use Rattle.word_rows.specs.Shape.{Shape}
use Rattle.table_model.specs.Shown.{Holding}
use Rattle.blank_laws.specs.OwnRows.{own_end, own_start}
use Rattle.shared_table.specs.Rule.{M}
use Rattle.shared_table.specs.Insides.{holding_in}
use Rattle.shared_table.specs.Zeros.{HasZeros}
use Rattle.shared_table.proofs.ZerosLemmas.{fresh_zeros}
use Rattle.shared_table.proofs.seat.seated.Goals as goal

pub invariant_of-result : goal.invariant_of-result
invariant_of-result c =
    let t = c.requires.token in
    let desk = c.new-desk.result in
    let at_opening : (f : Shape → ℕ → ℕ) → f (shape_of desk.layout) desk.seat ≡ f t.0.shape c.args.number =
    λ f. (λ i. f (shape_of (c.new-desk.ensures.layout i)) (c.new-desk.ensures.seat i))
    ∙ ap (λ (s : Shape). f s c.args.number) (sym t.3) in
    record {
      one = search rules;
      between = search rules;
      room_is = search rules;
      has_zeros = subst (λ (h : Holding). HasZeros h c.all.result)
          (sym (ap (holding_in desk) c.into_badge.ensures.2 ∙ ap (λ (m : M). holding_in desk (m.0 ∷ [])) t.1))
          (fresh_zeros t.0 c.args.number c.all.result t.2 (c.all.ensures.from ∙ at_opening own_start)
          (c.all.ensures.end ∙ at_opening own_end));
    }
