use Rattle.std.proofs.Common.{◌≡◌, ◌+◌, All, set, rules, sym, ap, subst, ◌∙◌}
use Rattle.std.specs.List.{insert}
use Rattle.std.proofs.lemmas.List.Elements.{All-get_or, All-push, All-set}
use Rattle.dir_states.specs.Rooms.{IsMade, HasLeafRoom}
use Rattle.dir_states.proofs.LeafLemmas.{halves-at}
use Rattle.dir_states.proofs.RoomLemmas.{All-insert}
use Rattle.dir_states.proofs.leaves.halve.Goals as goal

pub returns-clause-parts : goal.returns-clause-parts
returns-clause-parts c =
    let now : c.insert.new.self.items ≡ insert
    (set c.args.leaves.now.made.items c.args.place c.replace-whole.new.dest)
    (c.args.place + 1) c.parts-lower.result.1 =
    c.in-Ok.ensures.items in
    record {
      lower = c.parts-lower.result.0;
      upper = c.parts-lower.result.1;
      parts =
          halves-at c.args.table.now.rules c.args.leaves.now.made.items c.args.place c.index-leaf.result.now
          c.parts-lower.result.0 c.parts-lower.result.1
          c.requires.place c.index-leaf.ensures c.parts-lower.ensures.zero c.parts-lower.ensures.one;
      now_are =
          now
          ∙ ap (λ leaf. insert (set c.args.leaves.now.made.items c.args.place leaf)
          (c.args.place + 1) c.parts-lower.result.1) c.replace-whole.ensures.after;
    }

pub returns-clause-kept : goal.returns-clause-kept
returns-clause-kept c =
    let lower : IsMade c.args.table.now c.replace-whole.new.dest =
    subst (IsMade c.args.table.now) (sym c.replace-whole.ensures.after) c.parts-lower.ensures.made.0 in
    let now : c.insert.new.self.items ≡ insert
    (set c.args.leaves.now.made.items c.args.place c.replace-whole.new.dest)
    (c.args.place + 1) c.parts-lower.result.1 =
    c.in-Ok.ensures.items in
    let was : IsMade c.args.table.now c.index_mut.result.now =
    subst (IsMade c.args.table.now) (sym c.index_mut.ensures.value)
    (All-get_or (IsMade c.args.table.now) c.args.leaves.now.made.items c.args.place c.index_mut.result.now
    c.requires.place c.requires.kept.made) in
    let whole : IsMade c.args.table.now c.replace-whole.result =
    subst (IsMade c.args.table.now) (sym c.replace-whole.ensures.value) was in
    record {
      made =
          subst (All (IsMade c.args.table.now)) (sym now)
          (All-insert (IsMade c.args.table.now)
          (set c.args.leaves.now.made.items c.args.place c.replace-whole.new.dest)
          (c.args.place + 1) c.parts-lower.result.1
          (All-set (IsMade c.args.table.now) c.args.leaves.now.made.items c.args.place c.replace-whole.new.dest lower
          c.requires.kept.made)
          c.parts-lower.ensures.made.1);
      spare =
          subst (All (HasLeafRoom c.args.table.now)) (sym c.push_reserved.ensures.items)
          (All-push (HasLeafRoom c.args.table.now) c.parts-lower.new.spare.items c.replace-whole.result
          c.parts-lower.ensures.rest whole.room);
      all = search rules;
      made_room = search rules;
      spare_room = search rules;
    }
