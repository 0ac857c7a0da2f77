use Rattle.std.proofs.Common.{arith}
use Rattle.dir_states.proofs.RoomLemmas.{IsMade-half}
use Rattle.dir_states.proofs.parts.parts.Goals as goal

pub returns-clause-made : goal.returns-clause-made
returns-clause-made c = (
  IsMade-half c.args.table.now 0 c.args.from c.args.bucket.now c.spare_leaf-zero.result.bucket c.split_one.new.zero
      (omega arith) c.requires.can c.requires.few
      c.split_one.ensures.zero c.split_one.ensures.few.0 c.spare_leaf-zero.ensures.leaf c.split_one.ensures.room.0,
  IsMade-half c.args.table.now 1 c.args.from c.args.bucket.now c.spare_leaf-one.result.bucket c.split_one.new.one
      (omega arith) c.requires.can c.requires.few
      c.split_one.ensures.one c.split_one.ensures.few.1 c.spare_leaf-one.ensures.leaf c.split_one.ensures.room.1,
)
