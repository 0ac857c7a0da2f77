-- What a bucket holds stays small.
use Rattle.std.proofs.Common.{◌≡◌, ℕ, suc, ◌+◌, ◌^◌, ◌<◌, ◌≤◌, ◌⊎◌, inl, inr, Bool, true, false, cond, List, [], ◌∷◌, length, Option, Some, None, refl, sym, subst, arith, lit<}
use Rattle.std.specs.List.{All}
use Rattle.std.specs.Option.{option_map_or}
use Rattle.std.proofs.lemmas.List.{get_or-set_same, get_or-set_other}
use Rattle.std.proofs.lemmas.List.Elements.{All-cons, All-head, All-tail, All-push}
use Rattle.std.proofs.lemmas.Bool.{cases_eq}
use Rattle.plain_map.specs.declared.keys.Key.{Key}
use Rattle.plain_map.specs.declared.keys.Pair.{Pair}
use Rattle.plain_map.specs.declared.rules.Rules.{Rules}
use Rattle.plain_map.specs.declared.calls.Call.{Call}
use Rattle.plain_map.specs.declared.calls.Call.TheVariants.{Insert, Remove, Lookup, Tally, Count, Put}
use Rattle.plain_map.specs.declared.calls.Reply.TheVariants.{Absent}
use Rattle.plain_map.specs.Keys.{Session, held_in, pair_of}
use Rattle.plain_map.specs.PlainObject.{counted_session, new_session, count_reply, gone_from, grown, insert_reply, revalued, sum_of}
use Rattle.plain_map.specs.Updates.{number_limit, summed, IsSmallPair}
use Rattle.std.proofs.lemmas.Option.{same_Some}
use Rattle.bucket_states.specs.declared.ops.Op.{Op}
use Rattle.bucket_states.specs.Items.{same_key, value_at, changed_in, with_change, without, has_place, appended, items_with, revised_in, reply_in, items_after}
use Rattle.bucket_states.specs.States.{BucketState}
use Rattle.bucket_states.specs.Change.{answered, after_op, after_seats, change}
use Rattle.bucket_states.specs.Laws.{applied_of, reply_at}
use Rattle.bucket_states.specs.Values.{IsUpdate, IsUpdateReply, AreUpdates, IsSmall, StaysSmall}
use Rattle.bucket_states.proofs.StepLemmas.{Outcome, stayed, skipped, froze, took, outcome}
use Rattle.bucket_states.proofs.WalkLemmas.{KeepsShape-after_seat}

abbrev pub Small : Pair → Type 0
Small item = IsSmallPair item

-- what is held is small
abbrev SmallHeld : Session → Type 0
SmallHeld held = (held.value < 2 ^ 61) × (held.bytes < 2 ^ 61)

-- bytes are, with whatever is added
pub summed-small : (bytes amount : ℕ) → summed bytes amount < 2 ^ 61
summed-small bytes amount = omega arith

-- a value that is held is small
held_small : (key : Key) (items : List Pair) (held : Session) → All Small items → value_at key items ≡ Some held →
    SmallHeld held
held_small key [] held small is = cc
held_small key (pair ∷ pairs) held small is =
    by_test (same_key pair.key key) is (λ later. held_small key pairs held (All-tail Small pair pairs small) later)
  where
    by_test : (b : Bool) → cond b (Some (held_in pair)) (value_at key pairs) ≡ Some held →
        (value_at key pairs ≡ Some held → SmallHeld held) → SmallHeld held
    by_test true is rest = subst SmallHeld (same_Some _ _ is) (All-head Small pair pairs small)
    by_test false is rest = rest is

-- the items but one are small
without_small : (key : Key) (items : List Pair) → All Small items → All Small (without key items)
without_small key [] small = small
without_small key (pair ∷ pairs) small =
    by_test (same_key pair.key key) (without_small key pairs (All-tail Small pair pairs small))
  where
    by_test : (b : Bool) → All Small (without key pairs) → All Small (cond b pairs (pair ∷ without key pairs))
    by_test true rest = All-tail Small pair pairs small
    by_test false rest = All-cons Small pair (without key pairs) (All-head Small pair pairs small) rest

-- and so are the items with a change in one that keeps what is held small
abbrev KeepsSmall : (change : Session → Session) → Type 0
KeepsSmall change = (held : Session) → SmallHeld held → SmallHeld (change held)

changed_small : (key : Key) (change : Session → Session) → KeepsSmall change → (items : List Pair) → All Small items →
    All Small (changed_in key change items)
changed_small key change keeps [] small = small
changed_small key change keeps (pair ∷ pairs) small =
    by_test (same_key pair.key key) (changed_small key change keeps pairs (All-tail Small pair pairs small))
  where
    own : Small pair
    own = All-head Small pair pairs small

    by_test : (b : Bool) → All Small (changed_in key change pairs) →
        All Small (cond b (with_change change pair ∷ pairs) (pair ∷ changed_in key change pairs))
    by_test true rest = All-cons Small (with_change change pair) pairs (keeps (held_in pair) own)
        (All-tail Small pair pairs small)
    by_test false rest = All-cons Small pair (changed_in key change pairs) own rest

-- more bytes do, and a small value
grown_small : (amount : ℕ) → KeepsSmall (λ held. grown held amount)
grown_small amount held small = (small.0, summed-small held.bytes amount)

revalued_small : (value : ℕ) → value < 2 ^ 61 → KeepsSmall (λ held. revalued held value)
revalued_small value few held small = (few, small.1)

module _ (rules : Rules) (items : List Pair) (small : All Small items) where
  appended_small : (pair : Pair) → Small pair → (o : Option Session) (b : Bool) → All Small (appended items pair o b)
  appended_small pair fits (Some held) b = small
  appended_small pair fits None true = All-push Small items pair small fits
  appended_small pair fits None false = small

  -- the items are small after a small pair has come
  pub with_small : (pair : Pair) → Small pair → All Small (items_with rules items pair)
  with_small pair fits = appended_small pair fits (value_at pair.key items) (has_place rules items)

  -- and after a call that changes what is held at a key, or brings a small session to it
  revised_small : (key : Key) (new : Session) (change : Session → Session) → SmallHeld new → KeepsSmall change →
      (o : Option Session) (b : Bool) → All Small (revised_in items key new change o b)
  revised_small key new change fits keeps (Some held) b = changed_small key change keeps items small
  revised_small key new change fits keeps None true = All-push Small items (pair_of (key, new)) small fits
  revised_small key new change fits keeps None false = small

  pub items_small : (call : Call) → IsUpdate call → All Small (items_after rules items call)
  unfolding items_after
  items_small (Insert key value) update =
      with_small (pair_of (key, new_session value)) (update, lit< tt)
  items_small (Remove key) update = without_small key items small
  items_small (Lookup key) update = small
  items_small (Tally key amount) update =
      changed_small key (λ held. grown held amount) (grown_small amount) items small
  items_small (Count key value amount) update =
      revised_small key (counted_session value amount) (λ held. grown held amount) update (grown_small amount)
      (value_at key items) (has_place rules items)
  items_small (Put key value) update =
      revised_small key (new_session value) (λ held. revalued held value) (update, lit< tt)
      (revalued_small value update) (value_at key items) (has_place rules items)

  inserts_small : (key : Key) (o : Option Session) (b : Bool) → value_at key items ≡ o →
      IsUpdateReply (Some (insert_reply o b))
  inserts_small key (Some held) b is = (held_small key items held small is).0
  inserts_small key None true is = tt
  inserts_small key None false is = tt

  removes_small : (key : Key) (o : Option Session) → value_at key items ≡ o →
      IsUpdateReply (Some (option_map_or gone_from o Absent))
  removes_small key (Some held) is = (held_small key items held small is).0
  removes_small key None is = tt

  tallies_small : (key : Key) (amount : ℕ) (o : Option Session) →
      IsUpdateReply (Some (option_map_or (sum_of amount) o Absent))
  tallies_small key amount (Some held) = summed-small held.bytes amount
  tallies_small key amount None = tt

  counts_small : (amount : ℕ) (o : Option Session) (b : Bool) → IsUpdateReply (Some (count_reply amount o b))
  counts_small amount (Some held) b = summed-small held.bytes amount
  counts_small amount None true = tt
  counts_small amount None false = tt

  reply_small : (call : Call) → IsUpdate call → IsUpdateReply (Some (reply_in rules items call))
  unfolding reply_in
  reply_small (Insert key value) update = inserts_small key (value_at key items) (has_place rules items) refl
  reply_small (Remove key) update = removes_small key (value_at key items) refl
  reply_small (Lookup key) update = absurd update
  reply_small (Tally key amount) update = tallies_small key amount (value_at key items)
  reply_small (Count key value amount) update = counts_small amount (value_at key items) (has_place rules items)
  reply_small (Put key value) update = inserts_small key (value_at key items) (has_place rules items) refl

module _ (rules : Rules) where
  pub took_small : (seat : ℕ) (op : Op) (bucket : BucketState) → seat < length bucket.applied →
      seat < length bucket.replies → IsUpdate op.call → op.number < number_limit → IsSmall bucket
      → IsSmall (answered rules bucket seat op)
  took_small seat op bucket at at_too update few small = record {
    values = items_small rules bucket.items small.values op.call update;
    numbers = λ q. number q (cases_eq q seat);
    replies = λ q. reply q (cases_eq q seat);
  }
    where
      number : (q : ℕ) → (q ≡ seat) ⊎ (q ≡ seat → ⊥) → applied_of (answered rules bucket seat op) q < number_limit
      number q (inl same) =
          subst (λ (k : ℕ). applied_of (answered rules bucket seat op) k < number_limit) (sym same)
          (subst (λ (n : ℕ). n < number_limit) (sym (get_or-set_same bucket.applied seat op.number 0 at)) few)
      number q (inr other) = subst (λ (n : ℕ). n < number_limit)
          (sym (get_or-set_other bucket.applied seat q op.number 0 other)) (small.numbers q)

      reply : (q : ℕ) → (q ≡ seat) ⊎ (q ≡ seat → ⊥) → IsUpdateReply (reply_at (answered rules bucket seat op) q)
      reply q (inl same) =
          subst (λ (k : ℕ). IsUpdateReply (reply_at (answered rules bucket seat op) k)) (sym same)
          (subst IsUpdateReply (sym (get_or-set_same bucket.replies seat (Some (reply_in rules bucket.items op.call))
          None at_too)) (reply_small rules bucket.items small.values op.call update))
      reply q (inr other) = subst IsUpdateReply
          (sym (get_or-set_other bucket.replies seat q (Some (reply_in rules bucket.items op.call)) None other))
          (small.replies q)

  after_op_small : (seat : ℕ) (op : Op) (bucket : BucketState) → seat < length bucket.applied →
      seat < length bucket.replies → IsUpdate op.call → op.number < number_limit → IsSmall bucket
      → IsSmall (after_op rules seat op bucket)
  after_op_small seat op bucket at at_too update few small = by (outcome rules seat op bucket)
    where
      by : Outcome rules seat op bucket → IsSmall (after_op rules seat op bucket)
      by (stayed is _) = subst IsSmall (sym is) small
      by (skipped is _) = subst IsSmall (sym is) small
      by (froze is _ _ _) = subst IsSmall (sym is) (record {
        values = small.values;
        numbers = small.numbers;
        replies = small.replies;
      })
      by (took is _ _ _) = subst IsSmall (sym is) (took_small seat op bucket at at_too update few small)

  walk-small : (seat : ℕ) (ops : List (Option Op)) (bucket : BucketState) → seat + length ops ≤ length bucket.applied →
      seat + length ops ≤ length bucket.replies
      → AreUpdates ops → IsSmall bucket → IsSmall (after_seats rules seat ops bucket)
  walk-small seat [] bucket fit fit_too updates small = small
  walk-small seat (None ∷ ops) bucket fit fit_too updates small =
      walk-small (suc seat) ops bucket (omega arith) (omega arith) (λ q. updates (suc q)) small
  walk-small seat (Some op ∷ ops) bucket fit fit_too updates small =
      let update = updates 0 op refl in
      let shape = KeepsShape-after_seat rules seat (Some op) bucket in
      walk-small (suc seat) ops (after_op rules seat op bucket) (omega (arith, shape.applied))
      (omega (arith, shape.replies)) (λ q. updates (suc q))
      (after_op_small seat op bucket (omega arith) (omega arith) update.0 update.1 small)

-- what a bucket holds stays small
pub stays_small : StaysSmall
unfolding change
stays_small rules ops bucket seats updates small =
    walk-small rules 0 ops bucket (omega (arith, seats.0)) (omega (arith, seats.1)) updates small
