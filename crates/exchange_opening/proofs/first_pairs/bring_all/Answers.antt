-- The places so far are those of the pairs that were brought.
use Rattle.std.proofs.Common.{◌≡◌, ◌∙◌, ℕ, ◌+◌, Bool, cond, List, Vec, Global, [], ◌∷◌, ◌++◌, subst, sym, ap, arith}
use Rattle.std.proofs.lemmas.List.{append-nil}
use Rattle.exchange_opening.proofs.FirstPairs.{Brought, none_brought, one_brought}
use Rattle.exchange_opening.proofs.first_pairs.bring_all.Goals as goal
use Rattle.exchange_opening.proofs.first_pairs.bring_all.Goals.{then-bring+in_ok-push, else-bring}

pub loop-place-init : goal.loop-place-init
loop-place-init c = none_brought c.args.rules.now c.args.pairs.now c.args.lasts.now c.args.links.now
    c.new-places.result.items c.requires.lasts c.requires.links c.new-places.ensures.items

pub bring-requires-clause-linked : goal.bring-requires-clause-linked
bring-requires-clause-linked c = (c.loop-place.invariant.sessions, c.loop-place.invariant.linked)

pub loop-place-preserved : goal.loop-place-preserved
loop-place-preserved c =
    let own = c.loop-place.places.items in
    let after : (lacks : Bool) → List ℕ = λ lacks. own ++ cond lacks (c.loop-place.place ∷ []) [] in
    let items : Vec ℕ Global → List ℕ = λ v. v.items in
    let found : after c.bring.result ≡ c.if-bring.places.items = elim c.if-bring.branch [
      | then-bring+in_ok-push w ↦ ap after w.if-bring.true ∙ sym w.in_ok-push.ensures.items
          ∙ ap items (sym w.places-is)
      | else-bring w ↦ ap after w.if-bring.false ∙ append-nil own ∙ ap items (sym w.places-is)
    ] in
    subst (Brought c.args.rules.now c.args.pairs.now (c.loop-place.place + 1) c.bring.new.lasts c.bring.new.links)
    found
    (one_brought c.args.rules.now c.args.pairs.now c.loop-place.place c.loop-place.lasts c.loop-place.links
    c.bring.new.lasts c.bring.new.links c.bring.result (omega arith) c.bring.ensures own c.loop-place.invariant)
