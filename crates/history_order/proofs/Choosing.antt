-- The ready piece of smallest rank, where no other has its rank, comes next.
use Rattle.std.proofs.Common.{◌≡◌, ℕ, zero, suc, ◌+◌, ◌<◌, ◌≤◌, Option, Some, None, true≢false, refl, inl, inr, sym, ap, ◌∙◌, subst, arith, eqb-true, eq-eqb}
use Rattle.std.specs.Prelude.{position, ◌==◌}
use Rattle.std.specs.Option.{option_map_or}
use Rattle.std.proofs.lemmas.Bool.{and_parts, and_from, cases_eq}
use Rattle.table_model.specs.Setup.{Setup, seats_of}
use Rattle.table_model.specs.Order.{Closing, Placing, is_ready, has_rank, choice_from}
use Rattle.list_laws.proofs.Lists.{in_at, position_at, position_none}
use Rattle.history_order.specs.Turns.{IsFirst, FirstReadyIsChosen, rank_in}

module _ (setup : Setup) (closing : Closing) (p : Placing) (at : ℕ) (f : IsFirst setup.shape closing p at) where
  -- of its rank it is the one that is found
  found_here : (o : Option ℕ) → position (has_rank setup.shape closing p (rank_in setup.shape closing f.piece))
      p.left ≡ o →
      o ≡ Some at
  found_here None e = absurd (true≢false (sym (and_from
      (rank_in setup.shape closing f.piece == rank_in setup.shape closing f.piece)
      (is_ready setup.shape closing p f.piece)
      (eq-eqb (rank_in setup.shape closing f.piece) (rank_in setup.shape closing f.piece) refl) f.ready)
      ∙ position_none (has_rank setup.shape closing p (rank_in setup.shape closing f.piece)) p.left f.piece e
      (in_at p.left at f.piece f.left)))
  found_here (Some k) e =
      let rank = rank_in setup.shape closing f.piece in
      let there = position_at (has_rank setup.shape closing p rank) p.left k e in
      let parts = and_parts (rank_in setup.shape closing there.0 == rank)
      (is_ready setup.shape closing p there.0) there.2 in
      ap Some (sym (f.alone k there.0 there.1 parts.1
      (eqb-true (rank_in setup.shape closing there.0) rank parts.0)))

  -- of a smaller rank none is found
  found_none : (rank : ℕ) → rank < rank_in setup.shape closing f.piece → (o : Option ℕ) →
      position (has_rank setup.shape closing p rank) p.left ≡ o → o ≡ None
  found_none rank less None e = refl
  found_none rank less (Some k) e =
      let there = position_at (has_rank setup.shape closing p rank) p.left k e in
      let parts = and_parts (rank_in setup.shape closing there.0 == rank)
      (is_ready setup.shape closing p there.0) there.2 in
      absurd (omega (
        arith,
        less,
        f.least k there.0 there.1 parts.1,
        eqb-true (rank_in setup.shape closing there.0) rank parts.0,
      ))

  -- so from each rank on it is chosen
  chosen_from : (rank ranks : ℕ) → rank ≤ rank_in setup.shape closing f.piece →
      rank_in setup.shape closing f.piece < rank + ranks → choice_from setup.shape closing p rank ranks ≡ Some at
  chosen_from rank zero low high = absurd (omega (arith, low, high))
  chosen_from rank (suc ranks) low high = elim (cases_eq (rank_in setup.shape closing f.piece) rank) [
    | inl is ↦
        ap (λ o. option_map_or Some o (choice_from setup.shape closing p (suc rank) ranks))
        (subst (λ r. position (has_rank setup.shape closing p r) p.left ≡ Some at) is
        (found_here (position (has_rank setup.shape closing p (rank_in setup.shape closing f.piece)) p.left) refl))
    | inr n ↦
        ap (λ o. option_map_or Some o (choice_from setup.shape closing p (suc rank) ranks))
        (found_none rank (omega (arith, low, n)) (position (has_rank setup.shape closing p rank) p.left) refl)
        ∙ chosen_from (suc rank) ranks (omega (arith, low, n)) (omega (arith, high))
  ]

-- whatever the closed table
pub first_is_chosen : FirstReadyIsChosen
first_is_chosen setup closing p at f =
    chosen_from setup closing p at f 0 (seats_of setup + 1) (omega arith) (omega (arith, f.seat))
