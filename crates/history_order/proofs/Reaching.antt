-- What is reached by free turns: what each turn keeps holds of it, and where nothing is left it is the one order.
use Rattle.std.proofs.Common.{◌≡◌, ℕ, List, [], ◌∷◌, ◌++◌, refl, sym, ap, ◌∙◌, subst}
use Rattle.table_model.specs.Setup.{Setup}
use Rattle.table_model.specs.Order.{Closing, Piece, Placing, start_of, order_of}
use Rattle.table_model.specs.Turns.{IsFreeTurn, AreFreeTurns}
use Rattle.table_model.specs.Histories.{closed}
use Rattle.placing_laws.proofs.Turns.{Turn, after}
use Rattle.placing_laws.proofs.Turned.{turns_do_not_matter}
use Rattle.history_order.specs.Turns.{last_of, Leads, Reaches, ReachedIsTheOrder}

module _ (setup : Setup) (closing : Closing) where
  -- no turn leads to where one is
  pub leads_start : (first : Placing) → Leads setup.shape closing first first
  leads_start first = record { placings = []; turns = tt; ends = refl }

  -- turns, and one more after them
  turns_more : (first : Placing) (placings : List Placing) (next : Placing) →
      AreFreeTurns setup.shape closing first placings →
      IsFreeTurn setup.shape closing (last_of first placings) next →
      AreFreeTurns setup.shape closing first (placings ++ next ∷ [])
  turns_more first [] next h t = (t, tt)
  turns_more first (p ∷ placings) next h t = (h.0, turns_more p placings next h.1 t)

  -- the last is then the new one
  last_more : (first : Placing) (placings : List Placing) (next : Placing) →
      next ≡ last_of first (placings ++ next ∷ [])
  last_more first [] next = refl
  last_more first (p ∷ placings) next = last_more p placings next

  -- so one more turn leads on
  pub leads_on : (first last next : Placing) → Leads setup.shape closing first last →
      IsFreeTurn setup.shape closing last next → Leads setup.shape closing first next
  leads_on first last next l t = record {
    placings = l.placings ++ next ∷ [];
    turns = turns_more first l.placings next l.turns
        (subst (λ p. IsFreeTurn setup.shape closing p next) l.ends t);
    ends = last_more first l.placings next;
  }

  -- what each turn keeps is kept by all
  turns_keep : (P : Placing → Type 0) →
      ((p : Placing) (at : ℕ) (piece : Piece) → Turn setup closing p at piece → P p →
      P (after setup closing p at piece)) →
      (first : Placing) (placings : List Placing) → AreFreeTurns setup.shape closing first placings → P first →
      P (last_of first placings)
  turns_keep P step first [] h holds = holds
  turns_keep P step first (p ∷ placings) h holds =
      let t = h.0 in
      turns_keep P step p placings h.1
      (subst P (sym t.placed) (step first t.at t.piece (record { stands = t.left; ready = t.ready }) holds))

  -- so it holds of what is reached
  pub reached_keeps : (P : Placing → Type 0) →
      ((p : Placing) (at : ℕ) (piece : Piece) → Turn setup closing p at piece → P p →
      P (after setup closing p at piece)) →
      P (start_of setup.shape closing) → (p : Placing) → Reaches setup.shape closing p → P p
  reached_keeps P step holds p r =
      subst P (sym r.ends) (turns_keep P step (start_of setup.shape closing) r.placings r.turns holds)

  -- and where nothing is left the calls stand in the one order
  pub reached_ends : (p : Placing) → Reaches setup.shape closing p → p.left ≡ [] →
      p.order ≡ order_of setup.shape closing
  reached_ends p r none = ap (λ (q : Placing). q.order) r.ends
      ∙ turns_do_not_matter setup closing r.placings r.turns (ap (λ (q : Placing). q.left) (sym r.ends) ∙ none)

-- so it is in every run
pub reached_is_the_order : ReachedIsTheOrder
reached_is_the_order setup events placing run = reached_ends setup (closed setup events) placing
