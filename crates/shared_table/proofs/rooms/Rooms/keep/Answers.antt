use Rattle.std.proofs.Common.{◌≡◌, ◌++◌, [], ◌∷◌, List, subst, sym}
use Rattle.std.proofs.lemmas.List.Elements.{All-push, All-same}
use Rattle.step_counts.specs.declared.settings.Settings.{Settings}
use Rattle.seat_calls.specs.Rooms.{HasAllRoom}
use Rattle.seat_calls.specs.declared.room.Room.{Room}
use Rattle.shared_table.proofs.rooms.Rooms.keep.Goals as goal

pub invariant_of-self : goal.invariant_of-self
invariant_of-self c =
    let settings : Settings = c.args.self.now.settings in
    let free : List Room = c.args.self.now.free.items in
    let same : settings ≡ c.args.settings.now = c.are_for.ensures.0 c.if-are_for.true in
    record {
      all = All-same (HasAllRoom settings) c.push_reserved.new.self.items (free ++ c.args.room ∷ [])
          c.push_reserved.ensures.items
          (All-push (HasAllRoom settings) free c.args.room c.args.self.now.all
          (subst (λ (s : Settings). HasAllRoom s c.args.room) (sym same) c.requires));
    }
