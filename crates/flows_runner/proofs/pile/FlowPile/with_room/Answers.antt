-- No packets are held at first.
use Rattle.std.proofs.Common.{◌∙◌, [], List, Vec, Global, ap, length, refl, sym, arith}
use Rattle.std.proofs.lemmas.List.{length-map, length-replicate}
use Rattle.plain_map.specs.declared.calls.Call.{Call}
use Rattle.flows_runner.proofs.ShareLemmas.{holds_none}
use Rattle.flows_runner.proofs.pile.FlowPile.with_room.Goals as goal

pub returns-clause-holds : goal.returns-clause-holds
returns-clause-holds c =
    let shares = c.in_ok-empty_shares.field-0 in
    let long = sym (length-map shares.items (λ (own : Vec Call Global). own.items))
    ∙ ap (λ (xs : List (List Call)). length xs) c.in_ok-empty_shares.ensures
    ∙ length-replicate c.args.asked.now.seats [] in
    holds_none _ 0 c.args.asked.now.seats refl c.in_ok-empty_shares.ensures (omega (arith, long, shares.ok.0))
