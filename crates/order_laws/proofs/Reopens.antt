-- The closed pairs of each run can open the next table.
use Rattle.std.proofs.Common.{◌≡◌, ℕ, ◌≤◌, List, [], ◌∷◌, ◌++◌, map, get_or, None, Some, inl, inr, refl, sym, ◌∙◌, subst, arith}
use Rattle.std.specs.Prelude.{All, IsPermutation, fold}
use Rattle.std.specs.FinMap.{empty, get-empty}
use Rattle.std.proofs.lemmas.List.Sorted.{IsPermutation-trans}
use Rattle.plain_map.specs.declared.keys.Key.{Key}
use Rattle.plain_map.specs.declared.keys.Pair.{Pair}
use Rattle.plain_map.specs.declared.rules.Rules.{Rules}
use Rattle.plain_map.specs.Keys.{IsKey, Session, held_in, key_cmp}
use Rattle.plain_map.specs.Calls.{key_in}
use Rattle.plain_map.specs.Updates.{IsSmallPair}
use Rattle.plain_map.specs.PlainObject.{Sessions, brought, pairs_of, map_after, class_of, class_size}
use Rattle.plain_map.specs.History.{Placed, answered, pending, call_in, sessions_after}
use Rattle.bucket_states.specs.Parts.{HasDistinctKeys}
use Rattle.bucket_states.proofs.PartLemmas.{class_size-few}
use Rattle.table_model.specs.declared.events.Event.{Event}
use Rattle.table_model.specs.Setup.{Setup, IsPair, HaveRoom, rules_of}
use Rattle.table_model.specs.Worlds.{World, IsRun, world_after}
use Rattle.table_model.specs.Order.{order_of, effects_of, took_effect}
use Rattle.table_model.specs.Closed.{closing_of, records_of, begun_of, closed_pairs, sessions_with}
use Rattle.table_model.specs.Histories.{sessions_of_order, PairsReopen}
use Rattle.run_invariant.proofs.Invariant.{Common, Local, lead, last}
use Rattle.run_invariant.proofs.RowLemmas.{in_range}
use Rattle.run_laws.proofs.Induction.{Follows}
use Rattle.list_laws.proofs.Lists.{In, in_both, in_map, in_filter}
use Rattle.closed_laws.proofs.ClosedPairs.{held_there}
use Rattle.closed_laws.proofs.HeldPairs.{pairs_are_held}
use Rattle.order_laws.proofs.Tale.{Tale}
use Rattle.order_laws.proofs.AllRuns.{Tells, all_tell}
use Rattle.order_laws.specs.KeyOrder.{NextOpeningHasRoom, NoPairLacksRoom, PairsReopenInAnyTurn, SortedPairsAreHeld}
use Rattle.order_laws.proofs.Calls.{at_in}
use Rattle.list_laws.proofs.Places.{in_at}
use Rattle.order_laws.proofs.CallKeys.{AreGood, KeysAreGood, all_good, records_good, begun_good, keys_after, keys_brought}
use Rattle.order_laws.proofs.AtEnd.{end_holds, pairs_are_of_order}
use Rattle.order_laws.proofs.Promised.{order_is_whole}
use Rattle.order_laws.proofs.KeyOrder.{sorted_is_held}
use Rattle.order_laws.proofs.Reopened.{keys_apart, have_room, reopened}
use Rattle.list_laws.proofs.Places.{in_other_order}

-- after pairs with such keys each key that is held is one
keys_with : (rules : Rules) (pairs : List Pair) (m : Sessions) → ((p : Pair) → In p pairs → IsKey p.key) →
    KeysAreGood m → KeysAreGood (fold (λ s pair. brought rules s pair.key (held_in pair)) m pairs)
keys_with rules [] m all good = good
keys_with rules (p ∷ pairs) m all good = keys_with rules pairs (brought rules m p.key (held_in p))
    (λ q i. all q (inr i)) (keys_brought rules m p.key (held_in p) good (all p (inl refl)))

-- and after calls with such keys
keys_of_order : (rules : Rules) (order : List Placed) (m : Sessions) →
    ((x : Placed) → In x order → IsKey (key_in (call_in x))) → KeysAreGood m →
    KeysAreGood (sessions_after rules m order)
keys_of_order rules [] m all good = good
keys_of_order rules (x ∷ order) m all good = keys_of_order rules order (map_after rules m (call_in x))
    (λ q i. all q (inr i)) (keys_after rules m (call_in x) good (all x (inl refl)))

module _ (setup : Setup) (events : List Event) (run : IsRun setup events) where
  -- what the run leaves
  abbrev w : World
  w = world_after setup events

  -- all seats have such keys
  good : AreGood w.seats
  good = all_good setup events run.follow

  -- so have all calls of the order
  order_good : (x : Placed) → In x (order_of setup.shape (closing_of w)) → IsKey (key_in (call_in x))
  order_good x m =
      let records = map answered (records_of w) in
      let effects = map pending (effects_of setup.shape (closing_of w)) in
      elim (in_both x records effects (in_other_order (records ++ effects) (order_of setup.shape (closing_of w)) x
      (order_is_whole setup events run) m)) [
        | inl i ↦ let r = in_map answered (records_of w) x i in
            subst (λ z. IsKey (key_in (call_in z))) (sym r.2) (records_good w good r.0 r.1)
        | inr i ↦ let u = in_map pending (effects_of setup.shape (closing_of w)) x i in
            subst (λ z. IsKey (key_in (call_in z))) (sym u.2) (begun_good w good u.0
            (in_filter (took_effect setup.shape w.words) (begun_of w) u.0 u.1).0)
      ]

  -- and what is held
  held_good : KeysAreGood (sessions_of_order setup events)
  held_good = keys_of_order (rules_of setup) (order_of setup.shape (closing_of w))
      (sessions_with (rules_of setup) setup.first) order_good
      (keys_with (rules_of setup) setup.first empty first_good (λ q v e. none_some (sym (get-empty key_cmp q) ∙ e)))
    where
      first_good : (p : Pair) → In p setup.first → IsKey p.key
      first_good p m = let at = at_in setup.first p p m in
          subst (λ (z : Pair). IsKey z.key) (sym at.2) (run.opened.pairs at.0 p at.1).key

      none_some : {v : Session} {A : Type 0} → None ≡ Some v → A
      none_some e = cc

  module _ (c : Common) (locals : ℕ → Local) (f : Follows setup w c locals) (t : Tale)
      (y : Tells setup w c locals t) where
    -- what is held
    abbrev held : Sessions
    held = sessions_of_order setup events

    -- the closed pairs are those that are held
    moved_at_end : IsPermutation (pairs_of held) (closed_pairs setup.shape w.words)
    moved_at_end = pairs_are_of_order setup w c locals f t y

    -- no class has more keys than a bucket has room for
    few : (key : Key) → class_size (rules_of setup) held (class_of (rules_of setup) key) ≤ (rules_of setup).items
    few key =
        let b = lead setup c c.dir_top key in
        let there = f.shared.leads.there c.dir_top key (omega arith) in
        let sound = f.shared.rows.sound b (c.top b) there (omega arith) in
        omega (
          arith,
          sound.good.few,
          class_size-few (rules_of setup) (c.pre b) (c.deep b) (last c b).items held
              (end_holds setup w c locals f t y key) key (in_range setup)
              (omega (arith, sound.good.within, sound.depth_is))
              (f.shared.leads.for_it c.dir_top key (omega arith)),
        )

    -- in whatever turn
    module _ (pairs : List Pair) (moved : IsPermutation (pairs_of held) pairs) where
      -- each pair can be kept
      kept : (pair : Pair) → In pair pairs → IsPair pair
      kept pair m =
          let held_at = (pairs_are_held held).there pair (in_other_order (pairs_of held) pairs pair moved m) in
          let b = lead setup c c.dir_top pair.key in
          let there = f.shared.leads.there c.dir_top pair.key (omega arith) in
          let sound = f.shared.rows.sound b (c.top b) there (omega arith) in
          let part = end_holds setup w c locals f t y pair.key in
          let in_items = held_there (last c b).items pair.key (held_in pair)
          (part.same pair.key (f.shared.leads.for_it c.dir_top pair.key (omega arith)) ∙ held_at) in
          let at = at_in (last c b).items pair pair in_items in
          record {
            key = held_good pair.key (held_in pair) held_at;
            small = subst IsSmallPair (sym at.2) (sound.small.values at.0 pair at.1);
          }

      -- so they can open the next table
      opens_next : (All IsPair pairs) × HasDistinctKeys pairs × HaveRoom (rules_of setup) pairs
          × (sessions_with (rules_of setup) pairs ≡ held)
      opens_next =
          let room = have_room held pairs moved (rules_of setup) few in (
            (λ k d h. kept (get_or pairs k d) (in_at pairs k d h)),
            keys_apart held pairs moved,
            room,
            reopened (rules_of setup) held pairs moved room,
          )

-- after every run
pub pairs_reopen : PairsReopen
pairs_reopen setup events run =
    let a = all_tell setup events run in
    opens_next setup events run a.common a.locals a.follows a.extra a.holds
    (closed_pairs setup.shape (world_after setup events).words)
    (moved_at_end setup events run a.common a.locals a.follows a.extra a.holds)

-- in whatever turn the pairs come
pub pairs_reopen_in_any_turn : PairsReopenInAnyTurn
pairs_reopen_in_any_turn setup events pairs run moved =
    let a = all_tell setup events run in
    opens_next setup events run a.common a.locals a.follows a.extra a.holds pairs
    (IsPermutation-trans (pairs_of (sessions_of_order setup events))
    (closed_pairs setup.shape (world_after setup events).words) pairs
    (moved_at_end setup events run a.common a.locals a.follows a.extra a.holds) moved)

-- and sorted by their keys they are the pairs of what is held
pub sorted_pairs_are_held : SortedPairsAreHeld
sorted_pairs_are_held setup events pairs run moved sorted =
    let a = all_tell setup events run in
    sorted_is_held (sessions_of_order setup events) pairs
    (IsPermutation-trans (pairs_of (sessions_of_order setup events))
    (closed_pairs setup.shape (world_after setup events).words) pairs
    (moved_at_end setup events run a.common a.locals a.follows a.extra a.holds) moved) sorted

-- a pair that finds room is not one that finds none
pub no_pair_lacks_room : NoPairLacksRoom
no_pair_lacks_room rules first place room lacks =
    omega (arith, room lacks.front lacks.back lacks.pair lacks.cut, lacks.full)

-- so none of the closed pairs lacks it in the next opening
pub next_opening_has_room : NextOpeningHasRoom
next_opening_has_room setup events pairs place run moved =
    no_pair_lacks_room (rules_of setup) pairs place (pairs_reopen_in_any_turn setup events pairs run moved).2
