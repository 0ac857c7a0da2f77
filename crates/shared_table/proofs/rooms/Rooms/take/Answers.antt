use Rattle.std.proofs.Common.{Some, subst}
use Rattle.std.proofs.lemmas.List.Elements.{All-pop}
use Rattle.step_counts.specs.declared.settings.Settings.{Settings}
use Rattle.seat_calls.specs.Rooms.{HasAllRoom}
use Rattle.shared_table.proofs.rooms.Rooms.take.Goals as goal

pub returns : goal.returns
returns c =
    subst (λ (s : Settings). HasAllRoom s c.in-Some.room) (c.are_for.ensures.0 c.if-are_for.true)
    (All-pop (HasAllRoom c.args.self.now.settings) c.args.self.now.free.items c.pop.new.self.items
    (Some c.in-Some.room) c.in-Some.ensures.items c.args.self.now.all).1
