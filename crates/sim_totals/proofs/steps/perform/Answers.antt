use Rattle.sim_steps.specs.declared.words.Ask.TheVariants.{Load, Store}
use Rattle.sim_steps.specs.declared.words.Address.TheVariants.{Root}
use Rattle.sim_totals.specs.Rule.{plain}
use Rattle.sim_totals.proofs.Moves.{desk_within, moves_to, exchanges_to, fits}
use Rattle.sim_totals.proofs.steps.perform.Goals as goal

pub place-requires-clause-address : goal.place-requires-clause-address
place-requires-clause-address g c =
    desk_within c.words.ensures.within _ (Load c.in-Load.from) c.args.token.now.me c.args.desk.now c.requires.desk
    (rw c.in-Load.is at c.requires.asked)

pub place-requires-in-Store-clause-address : goal.place-requires-in-Store-clause-address
place-requires-in-Store-clause-address g c =
    desk_within c.words.ensures.within _ (Store c.in-Store.to c.in-Store.new) c.args.token.now.me c.args.desk.now
    c.requires.desk (rw c.in-Store.is at c.requires.asked)

pub load-requires : goal.load-requires
load-requires g c =
    let h = rw c.in-Load.is at c.requires.asked in
    let desk = c.args.desk.now in
    let inside = desk_within c.words.ensures.within _ (Load c.in-Load.from) c.args.token.now.me desk c.requires.desk
    h in (
      c.requires.table,
      fits c.words.ensures.places desk c.in-Load.from c.place.result c.args.words.now.table_id.words inside
          c.place.ensures.place c.requires.size,
      moves_to (plain c.args.words.now.key) _ _ _ (Load c.in-Load.from) c.args.token.now.me desk c.place.result
          c.requires.desk c.place.ensures.place h,
    )

pub store-requires : goal.store-requires
store-requires g c =
    let h = rw c.in-Store.is at c.requires.asked in
    let desk = c.args.desk.now in
    let inside = desk_within c.words.ensures.within _ (Store c.in-Store.to c.in-Store.new) c.args.token.now.me desk
    c.requires.desk h in (
      c.requires.table,
      fits c.words.ensures.places desk c.in-Store.to c.place-in-Store.result c.args.words.now.table_id.words inside
          c.place-in-Store.ensures.place c.requires.size,
      moves_to (plain c.args.words.now.key) _ _ _ (Store c.in-Store.to c.in-Store.new) c.args.token.now.me desk
          c.place-in-Store.result c.requires.desk c.place-in-Store.ensures.place h,
    )

pub compare_exchange-requires : goal.compare_exchange-requires
compare_exchange-requires g c =
    let h = rw c.in-Exchange.is at c.requires.asked in
    let desk = c.args.desk.now in (
      c.requires.table,
      fits c.words.ensures.places desk Root c.place-in-Exchange.result c.args.words.now.table_id.words tt
          c.place-in-Exchange.ensures.place c.requires.size,
      exchanges_to (plain c.args.words.now.key) _ _ _ c.in-Exchange.old c.in-Exchange.new c.args.token.now.me desk
          c.place-in-Exchange.result c.requires.desk c.place-in-Exchange.ensures.place h,
    )
