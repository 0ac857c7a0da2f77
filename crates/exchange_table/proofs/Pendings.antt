-- Who takes one off what is pending finds one there at least: its own share.
use Rattle.std.proofs.Common.{◌≡◌, ℕ, ◌<◌, ◌≤◌, List, Option, Some, None, refl, ap, arith}
use Rattle.exchange_model.specs.Plans.{Plan, holders_of}
use Rattle.exchange_model.specs.Steps as S
use Rattle.exchange_model.specs.Steps.{Stand, Scan, Deed, Peeking, glance_deed, scan_deed}
use Rattle.exchange_model.specs.Laws.{share}
use Rattle.exchange_model.specs.Worlds.{World, Asker, BySeat, ByReader, Event, IsRun, found_by, seat_in, world_after}
use Rattle.exchange_laws.proofs.SeatSums.{one_term}
use Rattle.exchange_laws.proofs.PendingRuns.{pending_is_always_counted}
use Rattle.exchange_calls.specs.Going.{Task, deed, deed_at, numbered}
use Rattle.exchange_calls.specs.Going.Task.{Lower}
use Rattle.exchange_table.specs.Parties.{IsParty, going_in, stand_of}
use Rattle.exchange_table.proofs.Acting.{flies_there}

abbrev code : Task → ℕ
code (Lower at) = 1
code task = 0

-- a deed that takes one off
abbrev IsLower : Deed → Type 0
IsLower (S.Lower at) = Unit {0}
IsLower deed = ⊥

is_lower : (plan : Plan) (d : Deed) (p : ℕ) → numbered plan d ≡ Lower p → IsLower d
is_lower plan S.Nothing p e = absurd (omega (arith, ap code e))
is_lower plan (S.Load from) p e = absurd (omega (arith, ap code e))
is_lower plan (S.Store to word) p e = absurd (omega (arith, ap code e))
is_lower plan (S.Swap at old new) p e = absurd (omega (arith, ap code e))
is_lower plan (S.Raise at) p e = absurd (omega (arith, ap code e))
is_lower plan (S.Lower at) p e = tt

-- no look does
no_glance : (plan : Plan) (q time : ℕ) (aim : S.Aim) (glance : S.Glance) →
    IsLower (glance_deed plan q time aim glance) → ⊥
no_glance plan q time aim (S.GlanceWord left) k = k
no_glance plan q time aim (S.GlanceCount source) k = k
no_glance plan q time aim (S.GlanceItem source pass) k = k
no_glance plan q time aim (S.GlanceCheck left word kept) k = k
no_glance plan q time aim S.GlanceWant k = k
no_glance plan q time aim S.GlanceAsking k = k
no_glance plan q time aim S.GlanceHeld k = k
no_glance plan q time aim (S.GlanceTake word) k = k
no_glance plan q time aim (S.GlanceBack kept) k = k

no_scan : (plan : Plan) (scan : Option Scan) → IsLower (scan_deed plan scan) → ⊥
no_scan plan None k = k
no_scan plan (Some (S.Seats seat left held)) k = k
no_scan plan (Some (S.Sees seat time left held)) k = k
no_scan plan (Some (S.Loads seat time class left held)) k = k
no_scan plan (Some (S.Gives seat time row left held)) k = k

module _ (plan : Plan) (events : List Event) (run : IsRun plan events) where
  abbrev x : World
  x = world_after plan events

  -- the share of a seat that stands here is a part of what is pending
  share_least : (q : ℕ) → q < plan.settings.seats → (stand : Stand) → (seat_in x q).stand ≡ stand →
      share stand ≤ x.store.pending
  share_least q less stand e =
      let sum = (pending_is_always_counted plan events run).sum in
      let part = one_term (λ (p : ℕ). share (seat_in x p).stand) q 0 plan.settings.seats (omega arith)
      (omega (arith, less)) in
      let mine = ap share e in omega (arith, sum, part, mine)

  seat_least : (q : ℕ) → q < holders_of plan.settings → (stand : Stand) → (seat_in x q).stand ≡ stand →
      IsLower (deed_at (going_in plan (BySeat q) x) stand) →
      1 ≤ found_by (deed_at (going_in plan (BySeat q) x) stand) x.store
  seat_least q inside S.Idle e k = absurd k
  seat_least q inside (S.Glances aim glance) e k = absurd (no_glance plan q (seat_in x q).time aim glance k)
  seat_least q inside (S.Goes call (S.LowerPending ending)) e k =
      share_least q (flies_there plan events run q inside (S.Goes call (S.LowerPending ending)) e tt)
      (S.Goes call (S.LowerPending ending)) e
  seat_least q inside (S.Goes call S.Scans) e k = absurd (no_scan plan (seat_in x q).scan k)
  seat_least q inside (S.Goes call (S.LoadWord turn)) e k = absurd k
  seat_least q inside (S.Goes call (S.LoadRow turn old words)) e k = absurd k
  seat_least q inside (S.Goes call (S.CheckWord turn old words)) e k = absurd k
  seat_least q inside (S.Goes call (S.LoadPending t)) e k = absurd k
  seat_least q inside (S.Goes call (S.LoadAnnounced t found)) e k = absurd k
  seat_least q inside (S.Goes call (S.LoadOp t found announced words)) e k = absurd k
  seat_least q inside (S.Goes call (S.StoreRow t found i)) e k = absurd k
  seat_least q inside (S.Goes call (S.Exchange t found)) e k = absurd k
  seat_least q inside (S.Goes call S.RaisePending) e k = absurd k
  seat_least q inside (S.Goes call (S.StoreOp i)) e k = absurd k
  seat_least q inside (S.Goes call S.Announce) e k = absurd k
  seat_least q inside (S.Goes call S.StoreWant) e k = absurd k
  seat_least q inside (S.Goes call S.StoreAsking) e k = absurd k
  seat_least q inside (S.Goes call S.HeldWord) e k = absurd k
  seat_least q inside (S.Goes call (S.TakeHold old)) e k = absurd k
  seat_least q inside (S.Goes call (S.HeldHead row)) e k = absurd k
  seat_least q inside (S.Goes call (S.HeldEntry row at left)) e k = absurd k
  seat_least q inside (S.Goes call (S.HeldReply row at)) e k = absurd k
  seat_least q inside (S.Goes call (S.GiveBack reply)) e k = absurd k
  seat_least q inside (S.Goes call (S.Over ending)) e k = absurd k
  seat_least q inside (S.Goes call S.Stuck) e k = absurd k

  reader_least : (r : ℕ) (stand : Peeking) → IsLower (deed_at (going_in plan (ByReader r) x) (stand_of stand)) → ⊥
  reader_least r S.Rests k = k
  reader_least r (S.Peeks aim glance) k = no_glance plan 0 0 aim glance k

  -- THE RESULT
  pub lower_least : (who : Asker) → IsParty plan who → (p : ℕ) → numbered plan (deed (going_in plan who x)) ≡ Lower p →
      1 ≤ found_by (deed (going_in plan who x)) x.store
  lower_least (BySeat q) inside p e =
      seat_least q inside (seat_in x q).stand refl (is_lower plan (deed (going_in plan (BySeat q) x)) p e)
  lower_least (ByReader r) inside p e =
      absurd (reader_least r (x.readers r).stand (is_lower plan (deed (going_in plan (ByReader r) x)) p e))
