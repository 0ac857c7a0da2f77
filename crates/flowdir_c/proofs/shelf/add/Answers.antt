use Rattle.std.proofs.Common.{[], ◌∷◌, ◌++◌}
use Rattle.std.proofs.lemmas.List.Elements.{All-push, All-same}
use Rattle.shared_table.specs.Values.{IsOf}
use Rattle.flowdir_c.proofs.shelf.add.Goals as goal

pub returns-then-len-capacity-clause-of : goal.returns-then-len-capacity-clause-of
returns-then-len-capacity-clause-of c = λ t old seat.
    All-same (IsOf t) c.push_reserved.new.self.items (c.args.seats.now.items ++ c.args.seat ∷ [])
    c.push_reserved.ensures.items (All-push (IsOf t) c.args.seats.now.items c.args.seat old seat)
