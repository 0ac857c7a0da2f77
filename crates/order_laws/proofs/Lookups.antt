-- Each answered lookup stands after exactly those updates of its row's keys that are applied in its row.
use Rattle.std.proofs.Common.{◌≡◌, ℕ, true, false, List, ◌∷◌, ◌++◌, get_or, sym, ap, ◌∙◌, arith, eqb-true}
use Rattle.std.specs.Prelude.{All, ◌==◌}
use Rattle.std.proofs.lemmas.Bool.{and_parts, le-leb, lt-leb}
use Rattle.plain_map.specs.declared.records.Record.{Record}
use Rattle.plain_map.specs.Rows.{BucketContent}
use Rattle.plain_map.specs.Calls.{key_in, is_update}
use Rattle.plain_map.specs.History.{Placed, answered, call_in, seat_of, number_of}
use Rattle.bucket_states.specs.Items.{prefix_of}
use Rattle.bucket_states.specs.Laws.{applied_of}
use Rattle.table_model.specs.Setup.{Setup, rules_of}
use Rattle.table_model.specs.Worlds.{World, world_after}
use Rattle.table_model.specs.Reading.{bucket_row, applied_at}
use Rattle.table_model.specs.Order.{order_of}
use Rattle.table_model.specs.Closed.{closing_of}
use Rattle.table_model.specs.Histories.{is_for_row, is_in_row, LookupsStandByTheirRows}
use Rattle.table_model.specs.Turns.{OneIsReady}
use Rattle.run_invariant.proofs.Invariant.{Common, Local}
use Rattle.run_laws.proofs.Induction.{Follows}
use Rattle.closed_laws.proofs.Ledger.{applied_is}
use Rattle.closed_laws.proofs.OneReady.{one_ready}
use Rattle.order_laws.proofs.Tale.{Tale}
use Rattle.order_laws.proofs.AllRuns.{Tells, all_tell}
use Rattle.list_laws.proofs.Places.{in_at}
use Rattle.order_laws.proofs.AtEnd.{book, written, the_ledger, the_meaning, all_shown}

module _ (setup : Setup) (w : World) (c : Common) (locals : ℕ → Local) (f : Follows setup w c locals) (t : Tale)
    (y : Tells setup w c locals t) where
  -- in the order of a world
  lookups_stand : (before later : List Placed) (r : Record) →
      order_of setup.shape (closing_of w) ≡ before ++ answered r ∷ later → is_update r.call ≡ false →
      All (λ placed. is_for_row setup w.words r.place placed ≡ true → is_in_row setup w.words r.place placed ≡ true)
      before
      × All (λ placed. is_for_row setup w.words r.place placed ≡ true →
      is_in_row setup w.words r.place placed ≡ false) later
  lookups_stand before later r e u =
      let z = (all_shown setup w c locals f t y).looks before later r e u in
      let k = book setup w c locals f t y in
      let wr = written setup w c locals f t y in
      let look = (the_meaning setup w c locals f t y).looks r z.look in
      let b = look.bucket in
      let i = look.at in
      let row : bucket_row setup.shape w.words r.place ≡ bucket_row setup.shape w.words (c.row_at b i) =
      ap (bucket_row setup.shape w.words) look.is in
      let sound = f.shared.rows.sound b i look.named look.inside in
      let says = row ∙ wr.row_is b i look.named look.inside in
      let depth : (bucket_row setup.shape w.words r.place).depth ≡ c.deep b =
      ap (λ (x : BucketContent). x.depth) says ∙ sound.depth_is in
      let prefix : (bucket_row setup.shape w.words r.place).prefix ≡ c.pre b =
      ap (λ (x : BucketContent). x.prefix) says ∙ sound.prefix_is in
      let applied : (q : ℕ) → applied_at setup.shape w.words r.place q ≡ applied_of (c.state_at b i) q =
      λ q. ap (λ x. applied_at setup.shape w.words x q) look.is
      ∙ applied_is setup (closing_of w) k wr b i q look.named look.inside in (
        (λ j d less is_for.
            let x = get_or before j d in
            let parts = and_parts (is_update (call_in x))
            (prefix_of (rules_of setup) (bucket_row setup.shape w.words r.place).depth
            (key_in (call_in x)) == (bucket_row setup.shape w.words r.place).prefix) is_for in
            let suits : prefix_of (rules_of setup) (c.deep b) (key_in (call_in x)) ≡ c.pre b =
            ap (λ n. prefix_of (rules_of setup) n (key_in (call_in x))) (sym depth)
            ∙ eqb-true (prefix_of (rules_of setup) (bucket_row setup.shape w.words r.place).depth
            (key_in (call_in x))) (bucket_row setup.shape w.words r.place).prefix parts.1 ∙ prefix in
            le-leb (number_of x) (applied_at setup.shape w.words r.place (seat_of x))
            (omega (arith, z.early x (in_at before j d less) parts.0 suits, applied (seat_of x)))),
        λ j d less is_for.
            let x = get_or later j d in
            lt-leb (number_of x) (applied_at setup.shape w.words r.place (seat_of x))
            (omega (arith, z.late x (in_at later j d less), applied (seat_of x))),
      )

-- so it is in every run
pub lookups_stand_by_their_rows : LookupsStandByTheirRows
lookups_stand_by_their_rows setup events before later r run e u =
    let a = all_tell setup events run in
    lookups_stand setup (world_after setup events) a.common a.locals a.follows a.extra a.holds before later r e u

-- and there is at most one ready piece with a call of each seat
pub one_is_ready : OneIsReady
one_is_ready setup events turns seat at other run x y =
    let a = all_tell setup events run in
    let w = world_after setup events in
    one_ready setup (closing_of w) (book setup w a.common a.locals a.follows a.extra a.holds)
    (written setup w a.common a.locals a.follows a.extra a.holds)
    (the_ledger setup w a.common a.locals a.follows a.extra a.holds) turns seat at other x y
