-- What a right order answers and leaves: a new session's value is its packet's number, values and bytes fit, and keys
-- have a text.
use Rattle.std.proofs.Common.{◌≡◌, ℕ, ◌^◌, ◌<◌, Bool, true, false, cond, List, [], ◌∷◌, map, length, get_or, Option, Some, None, refl, sym, ap, ◌∙◌, subst, arith}
use Rattle.std.specs.List.{AllByRecursion}
use Rattle.std.specs.Option.{option_map_or, unwrap_or}
use Rattle.std.specs.Ordering.{eq_by_cmp}
use Rattle.std.proofs.lemmas.List.{get_or_default}
use Rattle.std.specs.FinMap as finite
use Rattle.std.specs.FinMap.{entries-from_sorted, get-empty, get-insert, get-remove, same_entries_map}
use Rattle.plain_map.specs.declared.keys.Key.{Key}
use Rattle.plain_map.specs.declared.keys.Pair.{Pair}
use Rattle.plain_map.specs.declared.rules.Rules.{Rules}
use Rattle.plain_map.specs.declared.calls.Call.{Call}
use Rattle.plain_map.specs.declared.calls.Call.TheVariants.{Insert, Remove, Lookup, Tally, Count, Put}
use Rattle.plain_map.specs.declared.calls.Reply.{Reply}
use Rattle.plain_map.specs.declared.calls.Reply.TheVariants.{Absent}
use Rattle.plain_map.specs.Keys.{Session, entry_of, held_in, key_cmp}
use Rattle.plain_map.specs.PlainObject.{Sessions, count_reply, counted_session, found_in, gone_from, grown, has_room, insert_reply, inserted, map_after, new_session, pairs_of, reply_of, revalued, revised, sum_of, tallied}
use Rattle.plain_map.specs.Held.{sessions_of}
use Rattle.plain_map.specs.History.{Placed, answered, pending, Legal, call_in, packet_of, sessions_after}
use Rattle.plain_map.proofs.KeyLemmas.{keys_total, exact_keys, tied}
use Rattle.plain_map.proofs.SessionLemmas.{held_at, pairs_are_ordered, entries_back}
use Rattle.key_texts.specs.Inserts.{InsertsOnly}
use Rattle.key_texts.specs.declared.rules.CallRule.{CallRule}
use Rattle.flow_reading.specs.Flows.{IsFlow}
use Rattle.report_told.specs.Rules.{AreSessions, IsReply}
use Rattle.report_promises.specs.Good.{IsFitting}
use Rattle.report_promises.proofs.TextLemmas.{TellsPacket}

-- ---- what is held

-- a session that can be told
pub record IsTellable (key : Key) (held : Session) : Type 0 where
  pub flow : IsFlow key
  pub value : held.value < 2 ^ 64
  pub bytes : held.bytes < 2 ^ 64

-- so is each that is held
abbrev pub AreTellable : Sessions → Type 0
AreTellable m = (q : Key) (held : Session) → finite.get m q ≡ Some held → IsTellable q held

-- what is there is one thing
same_some : {A : Type 0} (x y : A) → Some x ≡ Some y → x ≡ y
same_some x y is = ap (λ o. unwrap_or o x) is

-- nothing is not something
none_some : {A : Type 0} (x : A) → None ≡ Some x → ⊥
none_some x is = let no : None ≡ Some x = is in cc

-- with a session more that can be told
tellable-insert : (m : Sessions) (key : Key) (new : Session) → IsTellable key new → AreTellable m →
    AreTellable (finite.insert m key new)
tellable-insert m key new good all q held is =
    go (eq_by_cmp key_cmp q key) refl (sym (get-insert keys_total m key new q) ∙ is)
  where
    go : (b : Bool) → eq_by_cmp key_cmp q key ≡ b → cond b (Some new) (finite.get m q) ≡ Some held → IsTellable q held
    go true same found =
        subst (λ (s : Session). IsTellable q s) (same_some new held found)
        (subst (λ (k : Key). IsTellable k new) (sym (exact_keys q key (tied (key_cmp q key) same))) good)
    go false same found = all q held found

-- with a key less
tellable-remove : (m : Sessions) (key : Key) → AreTellable m → AreTellable (finite.remove m key)
tellable-remove m key all q held is = go (eq_by_cmp key_cmp q key) (sym (get-remove keys_total m key q) ∙ is)
  where
    go : (b : Bool) → cond b None (finite.get m q) ≡ Some held → IsTellable q held
    go true found = absurd (none_some held found)
    go false found = all q held found

-- after an insert
tellable-inserted : (m : Sessions) (key : Key) (new : Session) (held : Option Session) (room : Bool) →
    IsTellable key new → AreTellable m → AreTellable (inserted m key new held room)
tellable-inserted m key new (Some old) room good all = all
tellable-inserted m key new None true good all = tellable-insert m key new good all
tellable-inserted m key new None false good all = all

-- after a tally, whose bytes are kept small
tellable-tallied : (m : Sessions) (key : Key) (amount : ℕ) (held : Option Session) → finite.get m key ≡ held →
    AreTellable m → AreTellable (tallied m key amount held)
tellable-tallied m key amount (Some held) is all =
    let good : IsTellable key held = all key held is in
    tellable-insert m key (grown held amount)
    (record { flow = good.flow; value = good.value; bytes = omega arith }) all
tellable-tallied m key amount None is all = all

-- after a call that changes what is held, or brings a session
tellable-revised : (m : Sessions) (key : Key) (new : Session) (change : Session → Session) (held : Option Session)
    (room : Bool) → finite.get m key ≡ held → IsTellable key new →
    ((s : Session) → IsTellable key s → IsTellable key (change s)) → AreTellable m →
    AreTellable (revised m key new change held room)
tellable-revised m key new change (Some held) room is good each all =
    tellable-insert m key (change held) (each held (all key held is)) all
tellable-revised m key new change None true is good each all = tellable-insert m key new good all
tellable-revised m key new change None false is good each all = all

-- what is held after a call that can be told
tellable-after : (rule : CallRule) (rules : Rules) (m : Sessions) (packet : ℕ) (asked : Call) → packet < 2 ^ 32 →
    IsFitting rule (packet, asked) → AreTellable m → AreTellable (map_after rules m asked)
unfolding map_after
tellable-after rule rules m packet (Insert key value) few fits all =
    tellable-inserted m key (new_session value) (finite.get m key) (has_room rules m key)
    (record { flow = fits.flow; value = omega (arith, few, fits.value); bytes = omega arith }) all
tellable-after rule rules m packet (Remove key) few fits all = tellable-remove m key all
tellable-after rule rules m packet (Lookup key) few fits all = all
tellable-after rule rules m packet (Tally key amount) few fits all =
    tellable-tallied m key amount (finite.get m key) refl all
tellable-after rule rules m packet (Count key value amount) few fits all =
    tellable-revised m key (counted_session value amount) (λ held. grown held amount) (finite.get m key)
    (has_room rules m key) refl
    (record { flow = fits.flow; value = omega (arith, few, fits.value); bytes = omega (arith, fits.amount) })
    (λ s good. record { flow = good.flow; value = good.value; bytes = omega arith }) all
tellable-after rule rules m packet (Put key value) few fits all =
    tellable-revised m key (new_session value) (λ held. revalued held value) (finite.get m key) (has_room rules m key)
    refl (record { flow = fits.flow; value = omega (arith, few, fits.value); bytes = omega arith })
    (λ s good. record { flow = good.flow; value = omega (arith, few, fits.value); bytes = good.bytes }) all

-- where nothing is held, each session can be told
tellable-empty : AreTellable finite.empty
tellable-empty q held is = absurd (none_some held (sym (get-empty key_cmp q) ∙ is))

-- ---- what is answered

-- the reply can be told beside the call
pub record IsToldReply (packet : ℕ) (asked : Call) (reply : Reply) : Type 0 where
  pub fits : IsReply reply
  pub tells : TellsPacket packet asked reply

-- the reply that tells what is held, or that nothing is
map_reply : (m : Sessions) (key : Key) (packet : ℕ) (asked : Call) (made : Session → Reply) (held : Option Session) →
    ((s : Session) → IsTellable key s → IsToldReply packet asked (made s)) → finite.get m key ≡ held → AreTellable m →
    IsToldReply packet asked (option_map_or made held Absent)
map_reply m key packet asked made (Some s) each is all = each s (all key s is)
map_reply m key packet asked made None each is all = record { fits = tt; tells = tt }

-- the reply to an insert
new_reply : (m : Sessions) (key : Key) (packet value : ℕ) (held : Option Session) (room : Bool) → value ≡ packet →
    finite.get m key ≡ held → AreTellable m → IsToldReply packet (Insert key value) (insert_reply held room)
new_reply m key packet value (Some s) room same is all = record { fits = (all key s is).value; tells = tt }
new_reply m key packet value None true same is all = record { fits = tt; tells = same }
new_reply m key packet value None false same is all = record { fits = tt; tells = tt }

-- to a count
counted_reply : (m : Sessions) (key : Key) (packet value amount : ℕ) (held : Option Session) (room : Bool) →
    value ≡ packet → finite.get m key ≡ held → AreTellable m →
    IsToldReply packet (Count key value amount) (count_reply amount held room)
counted_reply m key packet value amount (Some s) room same is all = record { fits = omega arith; tells = tt }
counted_reply m key packet value amount None true same is all = record { fits = tt; tells = same }
counted_reply m key packet value amount None false same is all = record { fits = tt; tells = tt }

-- and to a put
put_reply : (m : Sessions) (key : Key) (packet value : ℕ) (held : Option Session) (room : Bool) → value ≡ packet →
    finite.get m key ≡ held → AreTellable m → IsToldReply packet (Put key value) (insert_reply held room)
put_reply m key packet value (Some s) room same is all = record { fits = (all key s is).value; tells = tt }
put_reply m key packet value None true same is all = record { fits = tt; tells = same }
put_reply m key packet value None false same is all = record { fits = tt; tells = tt }

-- the plain map's reply can be told, where what is held can
told_reply : (rules : Rules) (m : Sessions) (packet : ℕ) (asked : Call) → InsertsOnly packet asked → AreTellable m →
    IsToldReply packet asked (reply_of rules m asked)
unfolding reply_of
told_reply rules m packet (Insert key value) value_is all =
    new_reply m key packet value (finite.get m key) (has_room rules m key) value_is refl all
told_reply rules m packet (Remove key) value_is all =
    map_reply m key packet (Remove key) gone_from (finite.get m key)
    (λ s good. record { fits = good.value; tells = tt }) refl all
told_reply rules m packet (Lookup key) value_is all =
    map_reply m key packet (Lookup key) found_in (finite.get m key)
    (λ s good. record { fits = good.value; tells = tt }) refl all
told_reply rules m packet (Tally key amount) value_is all =
    map_reply m key packet (Tally key amount) (sum_of amount) (finite.get m key)
    (λ s good. record { fits = omega arith; tells = tt }) refl all
told_reply rules m packet (Count key value amount) value_is all =
    counted_reply m key packet value amount (finite.get m key) (has_room rules m key) value_is refl all
told_reply rules m packet (Put key value) value_is all =
    put_reply m key packet value (finite.get m key) (has_room rules m key) value_is refl all

-- what was answered can be told
abbrev pub HasToldReply : Placed → Type 0
HasToldReply (answered r) = IsToldReply r.packet r.call r.reply
HasToldReply (pending u) = Unit {0}

-- it can be told what a call of the order asks
abbrev pub CanBeAsked : CallRule → Placed → Type 0
CanBeAsked rule placed = IsFitting rule (packet_of placed, call_in placed)

-- so can the reply of a call of a legal order
one_reply : (rule : CallRule) (rules : Rules) (m : Sessions) (placed : Placed) → CanBeAsked rule placed →
    AreTellable m → Legal rules m (placed ∷ []) → HasToldReply placed
one_reply rule rules m (answered r) fits all legal =
    subst (IsToldReply r.packet r.call) (sym legal.0) (told_reply rules m r.packet r.call fits.value all)
one_reply rule rules m (pending u) fits all legal = tt

-- and those of all its calls, and what it leaves
pub told_replies : (rule : CallRule) (rules : Rules) (m : Sessions) (order : List Placed) →
    AllByRecursion (CanBeAsked rule) order → Legal rules m order → AreTellable m →
    AllByRecursion HasToldReply order × AreTellable (sessions_after rules m order)
told_replies rule rules m [] fits legal all = (tt, all)
told_replies rule rules m (placed ∷ later) fits legal all =
    let next = told_replies rule rules (map_after rules m (call_in placed)) later fits.1 legal.1
    (tellable-after rule rules m (packet_of placed) (call_in placed) fits.0.packet fits.0 all) in
    ((one_reply rule rules m placed fits.0 all (legal.0, tt), next.0), next.1)

-- ---- the sessions

-- the pairs stand for the sessions
sessions_back : (m : Sessions) → sessions_of (pairs_of m) ≡ m
unfolding pairs_of sessions_of
sessions_back m =
    same_entries_map _ m (entries-from_sorted key_cmp (map entry_of (pairs_of m)) (pairs_are_ordered m)
    ∙ entries_back (finite.entries m))

-- sessions that can be told are those of a report
pub told_sessions : (m : Sessions) → AreTellable m → AreSessions (pairs_of m)
told_sessions m all = record {
  each = λ k d inside.
      (let pair : Pair = get_or (pairs_of m) k d in
      let good : IsTellable pair.key (held_in pair) =
      all pair.key (held_in pair) (held_at (pairs_of m) (pairs_are_ordered m) m (sessions_back m) pair.key k
      (record { in_range = inside; has_key = λ e. same_key k d e inside }) pair
      (get_or_default (pairs_of m) k d pair inside)) in
      (good.flow, good.value, good.bytes));
  ordered = pairs_are_ordered m;
}
  where
    same_key : (k : ℕ) (d e : Pair) → k < length (pairs_of m) →
        (get_or (pairs_of m) k e).key ≡ (get_or (pairs_of m) k d).key
    same_key k d e inside = ap (λ (p : Pair). p.key) (get_or_default (pairs_of m) k e d inside)

-- the sessions that a right order of calls leaves, from none on
pub order_told : (rule : CallRule) (rules : Rules) (order : List Placed) → AllByRecursion (CanBeAsked rule) order →
    Legal rules finite.empty order →
    AllByRecursion HasToldReply order × AreSessions (pairs_of (sessions_after rules finite.empty order))
order_told rule rules order fits legal =
    let both = told_replies rule rules finite.empty order fits legal tellable-empty in
    (both.0, told_sessions (sessions_after rules finite.empty order) both.1)
