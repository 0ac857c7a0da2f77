-- Each update that was made is of a seat that there is.
use Rattle.std.proofs.Common.{◌≡◌, ℕ, suc, ◌+◌, ◌<◌, ◌≤◌, Bool, true, false, cond, List, [], ◌∷◌, length, refl, sym, subst, arith, lt-ltb}
use Rattle.std.proofs.lemmas.List.Elements.{All-nil, All-cons, All-append}
use Rattle.std.specs.Prelude.{◌==◌, All}
use Rattle.plain_map.specs.declared.calls.Call.{Call}
use Rattle.plain_map.specs.declared.calls.Call.TheVariants.{Insert, Remove, Lookup, Tally, Count, Put}
use Rattle.plain_map.specs.declared.calls.Reply.{Reply}
use Rattle.plain_map.specs.declared.rules.Rules.{Rules}
use Rattle.plain_map.specs.declared.keys.Pair.{Pair}
use Rattle.bucket_states.specs.Items.{reply_in}
use Rattle.exchange_model.specs.Goes.{is_announced, is_quiet}
use Rattle.exchange_model.specs.Plans.{holders_of, Plan, rules_of}
use Rattle.exchange_model.specs.Codes.{Entry, row_of_words}
use Rattle.exchange_model.specs.Steps as S
use Rattle.exchange_model.specs.Steps.{Found, NoOp, Keeps, Takes, Makes, Change, MadeBySeat, Step, Stand, SeatNow, applied, entry_of, with_found, with_all}
use Rattle.exchange_model.specs.Worlds.{World, Event, OfSeat, OfReader, IsEvent, What, Begin, Copy, Step_on, Fits, IsFlying, made_quietly, seat_in, ticked, made_by_step, call_begins, goes_on, act, happens, opening_world, Peek, Open, Peek_on, peeks_on}
use Rattle.exchange_laws.proofs.FoundOps.{FoundOk, FoundStep, FoundAt}

module _ (plan : Plan) where
  abbrev P : MadeBySeat → Type 0
  P one = one.0 < plan.settings.seats

  -- all updates are of seats that there are
  abbrev pub AreOfSeats : World → Type 0
  AreOfSeats x = All P x.made

  applied_seats : (rules : Rules) (c : Change) (k : ℕ) (call : Call) (entries : Reply → List Entry) →
      k < plan.settings.seats →
      All P c.made → All P (applied rules c k call entries).made
  applied_seats rules c k call entries less all =
      All-append P c.made (_ ∷ []) all (All-cons P _ [] less (All-nil P))

  found_seats : (rules : Rules) (c : Change) (k : ℕ) (f : Found) → k < plan.settings.seats → All P c.made →
      All P (with_found rules c k f).made
  found_seats rules c k NoOp less all = all
  found_seats rules c k (Keeps entry) less all = all
  found_seats rules c k (Takes op) less all = applied_seats rules c k op.call (entry_of k op.number) less all
  found_seats rules c k (Makes call) less all = applied_seats rules c k call (λ reply. []) less all

  all_seats : (rules : Rules) (c : Change) (k : ℕ) (found : List Found) → k + length found ≤ plan.settings.seats →
      All P c.made →
      All P (with_all rules c k found).made
  all_seats rules c k [] less all = all
  all_seats rules c k (f ∷ found) less all =
      all_seats rules (with_found rules c k f) (suc k) found (omega (arith, less))
      (found_seats rules c k f (omega (arith, less)) all)

  step_seats : (p : ℕ) (call : Call) → p < plan.settings.seats → (step : Step) (word : ℕ) → FoundStep plan step →
      All P (made_by_step plan p call step word)
  step_seats p call inside (S.Exchange t found) word f = go (word == t.word)
    where
      go : (c : Bool) → All P (cond c (S.made plan t found).made [])
      go true = all_seats (rules_of plan) _ 0 found (let few = f.2 in omega (arith, few)) (All-nil P)
      go false = All-nil P
  step_seats p call inside (S.StoreRow t found i) word f = All-nil P
  step_seats p call inside S.Scans word f = All-nil P
  step_seats p call inside (S.LoadWord turn) word f = All-nil P
  step_seats p call inside (S.LoadRow turn old words) word f = All-nil P
  step_seats p call inside (S.CheckWord turn old words) word f = go (word == old) (is_announced turn)
    where
      items : List Pair
      items = (row_of_words plan words).items

      go : (c a : Bool) → All P (cond c (made_quietly plan p call a items) [])
      go true true = All-nil P
      go true false = quiet (is_quiet (rules_of plan) items call)
        where
          quiet : (c : Bool) → All P (cond c ((p, (call, reply_in (rules_of plan) items call)) ∷ []) [])
          quiet true = All-cons P _ [] inside (All-nil P)
          quiet false = All-nil P
      go false a = All-nil P
  step_seats p call inside (S.LoadPending t) word f = All-nil P
  step_seats p call inside (S.LoadAnnounced t found) word f = All-nil P
  step_seats p call inside (S.LoadOp t found announced words) word f = All-nil P
  step_seats p call inside (S.StoreOp i) word f = All-nil P
  step_seats p call inside S.RaisePending word f = All-nil P
  step_seats p call inside S.Announce word f = All-nil P
  step_seats p call inside S.StoreWant word f = All-nil P
  step_seats p call inside S.StoreAsking word f = All-nil P
  step_seats p call inside S.HeldWord word f = All-nil P
  step_seats p call inside (S.TakeHold old) word f = All-nil P
  step_seats p call inside (S.HeldHead row) word f = All-nil P
  step_seats p call inside (S.HeldEntry row at left) word f = All-nil P
  step_seats p call inside (S.HeldReply row at) word f = All-nil P
  step_seats p call inside (S.GiveBack reply) word f = All-nil P
  step_seats p call inside (S.Over ending) word f = All-nil P
  step_seats p call inside (S.LowerPending ending) word f = All-nil P
  step_seats p call inside S.Stuck word f = All-nil P

  module _ (x : World) (finds : FoundOk plan x) (all : AreOfSeats x) (p : ℕ)
      (inside : p < holders_of plan.settings) where
    abbrev now : SeatNow
    now = seat_in x p

    stand_seats : (stand : Stand) → now.stand ≡ stand → IsFlying plan p stand →
        AreOfSeats (ticked (goes_on plan x p now stand))
    stand_seats S.Idle e flies = all
    stand_seats (S.Goes call step) e flies =
        let f : FoundAt plan (S.Goes call step) = subst (FoundAt plan) e (finds.each p inside) in
        All-append P x.made (made_by_step plan p call step _) all (step_seats p call flies step _ f.1)
    stand_seats (S.Glances aim glance) e flies = all

    call_seats : (call : Call) → AreOfSeats (ticked (call_begins plan x p now call))
    call_seats (Lookup key) = all
    call_seats (Insert key value) = all
    call_seats (Remove key) = all
    call_seats (Tally key amount) = all
    call_seats (Count key value amount) = all
    call_seats (Put key value) = all

    seat_seats : (what : What) → Fits plan p now what → AreOfSeats (ticked (act plan x p now what))
    seat_seats (Begin call) fits = call_seats call
    seat_seats (Copy bucket) fits = all
    seat_seats Step_on fits = stand_seats now.stand refl fits

  reader_seats : (x : World) (r : ℕ) (peek : Peek) → AreOfSeats x → AreOfSeats (happens plan x (OfReader r peek))
  reader_seats x r (Open aim tries) all = all
  reader_seats x r Peek_on all = go (x.readers r).stand
    where
      go : (stand : S.Peeking) → AreOfSeats (ticked (peeks_on plan x r (x.readers r) stand))
      go S.Rests = all
      go (S.Peeks aim glance) = all

  pub seats_keep : (x : World) → FoundOk plan x → AreOfSeats x → (event : Event) → IsEvent plan x event →
      AreOfSeats (happens plan x event)
  seats_keep x finds all (OfSeat p what) fits =
      subst (λ (c : Bool). AreOfSeats (cond c (ticked (act plan x p (seat_in x p) what)) x))
      (sym (lt-ltb p (holders_of plan.settings) fits.0))
      (seat_seats x finds all p fits.0 what fits.1)
  seats_keep x finds all (OfReader r peek) fits = reader_seats x r peek all

  pub seats_first : AreOfSeats (opening_world plan)
  seats_first = All-nil P
