-- What one seat after another leaves of a bucket: what stays, and which ops are taken.
use Rattle.std.proofs.Common.{◌≡◌, ◌≢◌, ℕ, zero, suc, ◌+◌, ◌<◌, ◌≤◌, ◌⊎◌, inl, inr, true, false, List, [], ◌∷◌, length, get_or, Option, Some, None, refl, sym, ap, subst, ◌∙◌, arith}
use Rattle.std.specs.Prelude.{◌==◌, nat_lt, ◌&&◌}
use Rattle.std.proofs.lemmas.List.{get_or-set_same, get_or-set_other}
use Rattle.std.proofs.lemmas.Bool.{and_parts, eqb-true, ltb-true, ltb-false, eq-eqb}
use Rattle.plain_map.specs.declared.rules.Rules.{Rules}
use Rattle.plain_map.specs.Calls.{key_in}
use Rattle.bucket_states.specs.declared.ops.Op.{Op}
use Rattle.bucket_states.specs.Items.{prefix_of, reply_in}
use Rattle.bucket_states.specs.States.{BucketState, KeepsShape}
use Rattle.bucket_states.specs.Change.{is_due, frozen, answered, after_op, after_seat, after_seats, change}
use Rattle.bucket_states.specs.Laws.{applied_of, reply_at, IsFor, IsUntouched, IsTaken, SamePrefix, FrozenStays, OnlyAnnounced, Covers, DoesSomething}
use Rattle.bucket_states.proofs.StepLemmas.{Outcome, stayed, skipped, froze, took, outcome, after_op-frozen, KeepsShape-refl, KeepsShape-trans, KeepsShape-after_op}

-- ---- one seat

pub IsUntouched-refl : (was now : BucketState) (seat : ℕ) → now ≡ was → IsUntouched was now seat
IsUntouched-refl was now seat is = record {
  applied = ap (λ b. applied_of b seat) is;
  reply = ap (λ b. reply_at b seat) is;
}

pub IsUntouched-trans : (a b c : BucketState) (seat : ℕ) → IsUntouched a b seat → IsUntouched b c seat →
    IsUntouched a c seat
IsUntouched-trans a b c seat one two = record { applied = two.applied ∙ one.applied; reply = two.reply ∙ one.reply }

-- another seat is left as it was
pub untouched-after_op : (rules : Rules) (seat : ℕ) (op : Op) (bucket : BucketState) (q : ℕ) → q ≢ seat →
    IsUntouched bucket (after_op rules seat op bucket) q
untouched-after_op rules seat op bucket q other = by (outcome rules seat op bucket)
  where
    by : Outcome rules seat op bucket → IsUntouched bucket (after_op rules seat op bucket) q
    by (stayed is _) = IsUntouched-refl _ _ q is
    by (skipped is _) = IsUntouched-refl _ _ q is
    by (froze is _ _ _) = IsUntouched-trans bucket (frozen bucket) _ q (record { applied = refl; reply = refl })
        (IsUntouched-refl _ _ q is)
    by (took is _ _ _) = IsUntouched-trans bucket (answered rules bucket seat op) _ q
        (record {
          applied = get_or-set_other bucket.applied seat q op.number 0 other;
          reply = get_or-set_other bucket.replies seat q _ None other;
        }) (IsUntouched-refl _ _ q is)

pub untouched-after_seat : (rules : Rules) (seat : ℕ) (op : Option Op) (bucket : BucketState) (q : ℕ) → q ≢ seat →
    IsUntouched bucket (after_seat rules seat op bucket) q
untouched-after_seat rules seat None bucket q other = IsUntouched-refl _ _ q refl
untouched-after_seat rules seat (Some op) bucket q other = untouched-after_op rules seat op bucket q other

pub KeepsShape-after_seat : (rules : Rules) (seat : ℕ) (op : Option Op) (bucket : BucketState) →
    KeepsShape bucket (after_seat rules seat op bucket)
KeepsShape-after_seat rules seat None bucket = KeepsShape-refl _ _ refl
KeepsShape-after_seat rules seat (Some op) bucket = KeepsShape-after_op rules seat op bucket

-- what a due op is
pub due_parts : (rules : Rules) (bucket : BucketState) (seat : ℕ) (op : Op) → is_due rules bucket seat op ≡ true →
    IsFor rules bucket op × (applied_of bucket seat < op.number)
due_parts rules bucket seat op due =
    let parts = and_parts (prefix_of rules bucket.depth (key_in op.call) == bucket.prefix)
    (nat_lt (applied_of bucket seat) op.number) due in
    (eqb-true _ _ parts.0, ltb-true _ _ parts.1)

-- an op for the bucket that is not due is in it
not_due : (rules : Rules) (bucket : BucketState) (seat : ℕ) (op : Op) → is_due rules bucket seat op ≡ false →
    IsFor rules bucket op → op.number ≤ applied_of bucket seat
not_due rules bucket seat op due for_it =
    ltb-false _ _ (sym (ap (λ b. b && nat_lt (applied_of bucket seat) op.number) (eq-eqb _ _ for_it)) ∙ due)

-- ---- all seats

-- a frozen bucket stays
pub walk-frozen : (rules : Rules) (seat : ℕ) (ops : List (Option Op)) (bucket : BucketState) → bucket.frozen ≡ true →
    after_seats rules seat ops bucket ≡ bucket
walk-frozen rules seat [] bucket is = refl
walk-frozen rules seat (None ∷ ops) bucket is = walk-frozen rules (suc seat) ops bucket is
walk-frozen rules seat (Some op ∷ ops) bucket is =
    ap (after_seats rules (suc seat) ops) (after_op-frozen rules seat op bucket is)
    ∙ walk-frozen rules (suc seat) ops bucket is

pub KeepsShape-walk : (rules : Rules) (seat : ℕ) (ops : List (Option Op)) (bucket : BucketState) →
    KeepsShape bucket (after_seats rules seat ops bucket)
KeepsShape-walk rules seat [] bucket = KeepsShape-refl _ _ refl
KeepsShape-walk rules seat (op ∷ ops) bucket =
    KeepsShape-trans bucket (after_seat rules seat op bucket) _ (KeepsShape-after_seat rules seat op bucket)
    (KeepsShape-walk rules (suc seat) ops (after_seat rules seat op bucket))

-- the seats before are left as they were
pub walk-below : (rules : Rules) (seat : ℕ) (ops : List (Option Op)) (bucket : BucketState) (q : ℕ) → q < seat →
    IsUntouched bucket (after_seats rules seat ops bucket) q
walk-below rules seat [] bucket q below = IsUntouched-refl _ _ q refl
walk-below rules seat (op ∷ ops) bucket q below =
    let other : q ≢ seat = omega arith in
    IsUntouched-trans bucket (after_seat rules seat op bucket) _ q (untouched-after_seat rules seat op bucket q other)
    (walk-below rules (suc seat) ops (after_seat rules seat op bucket) q (omega arith))

-- the number and the reply of an op that was just taken
pub number_set : (rules : Rules) (seat : ℕ) (op : Op) (bucket : BucketState) (ops : List (Option Op)) →
    seat < length bucket.applied → after_op rules seat op bucket ≡ answered rules bucket seat op
    → applied_of (after_seats rules (suc seat) ops (after_op rules seat op bucket)) seat ≡ op.number
number_set rules seat op bucket ops inside is =
    (walk-below rules (suc seat) ops (after_op rules seat op bucket) seat (omega arith)).applied
    ∙ ap (λ b. applied_of b seat) is ∙ get_or-set_same bucket.applied seat op.number 0 inside

pub reply_set : (rules : Rules) (seat : ℕ) (op : Op) (bucket : BucketState) (ops : List (Option Op)) →
    seat < length bucket.replies → after_op rules seat op bucket ≡ answered rules bucket seat op
    → reply_at (after_seats rules (suc seat) ops (after_op rules seat op bucket)) seat ≡ Some
    (reply_in rules bucket.items op.call)
reply_set rules seat op bucket ops inside is =
    (walk-below rules (suc seat) ops (after_op rules seat op bucket) seat (omega arith)).reply
    ∙ ap (λ b. reply_at b seat) is ∙ get_or-set_same bucket.replies seat (Some (reply_in rules bucket.items op.call))
    None inside

-- the op at a place was taken
record TookAt (rules : Rules) (place : Option Op) (was now : BucketState) (seat : ℕ) : Type 0 where
  op : Op
  announced : place ≡ Some op
  for_it : IsFor rules was op
  above : applied_of was seat < op.number
  applied : applied_of now seat ≡ op.number

-- an op is for a bucket of the same prefix
IsFor-same : (rules : Rules) (was now : BucketState) (op : Op) → KeepsShape was now → IsFor rules was op →
    IsFor rules now op
IsFor-same rules was now op shape for_it = rw (shape.depth, shape.prefix) for_it

IsFor-back : (rules : Rules) (was now : BucketState) (op : Op) → KeepsShape was now → IsFor rules now op →
    IsFor rules was op
IsFor-back rules was now op shape for_it = rw (← shape.depth, ← shape.prefix) for_it

-- each seat is left as it was, or its op is taken
walk-only : (rules : Rules) (seat : ℕ) (ops : List (Option Op)) (bucket : BucketState) (j q : ℕ) → q ≡ seat + j →
    seat + length ops ≤ length bucket.applied
    → IsUntouched bucket (after_seats rules seat ops bucket) q
    ⊎ TookAt rules (get_or ops j None) bucket (after_seats rules seat ops bucket) q
walk-only rules seat [] bucket j q at fit = inl (IsUntouched-refl _ _ q refl)
walk-only rules seat (None ∷ ops) bucket zero q at fit = inl (walk-below rules (suc seat) ops bucket q (omega arith))
walk-only rules seat (Some op ∷ ops) bucket zero q at fit = subst Goal (sym here) (by (outcome rules seat op bucket))
  where
    now : BucketState
    now = after_seats rules (suc seat) ops (after_op rules seat op bucket)

    Goal : ℕ → Type 0
    Goal k = IsUntouched bucket now k ⊎ TookAt rules (Some op) bucket now k

    here : q ≡ seat
    here = omega arith

    rest : IsUntouched (after_op rules seat op bucket) now seat
    rest = walk-below rules (suc seat) ops (after_op rules seat op bucket) seat (omega arith)

    by : Outcome rules seat op bucket → Goal seat
    by (stayed is _) = inl (IsUntouched-trans bucket (after_op rules seat op bucket) now seat
        (IsUntouched-refl _ _ seat is) rest)
    by (skipped is _) = inl (IsUntouched-trans bucket (after_op rules seat op bucket) now seat
        (IsUntouched-refl _ _ seat is) rest)
    by (froze is _ _ _) = inl (IsUntouched-trans bucket (after_op rules seat op bucket) now seat
        (IsUntouched-trans bucket (frozen bucket) _ seat (record { applied = refl; reply = refl })
        (IsUntouched-refl _ _ seat is)) rest)
    by (took is _ due _) =
        let parts = due_parts rules bucket seat op due in
        inr (record {
          op = op;
          announced = refl;
          for_it = parts.0;
          above = parts.1;
          applied = number_set rules seat op bucket ops (omega arith) is;
        })
walk-only rules seat (op ∷ ops) bucket (suc j) q at fit =
    by (walk-only rules (suc seat) ops (after_seat rules seat op bucket) j q (omega arith)
    (omega (arith, (KeepsShape-after_seat rules seat op bucket).applied)))
  where
    next : BucketState
    next = after_seat rules seat op bucket

    now : BucketState
    now = after_seats rules (suc seat) ops next

    other : IsUntouched bucket next q
    other = untouched-after_seat rules seat op bucket q (omega arith)

    by : IsUntouched next now q ⊎ TookAt rules (get_or ops j None) next now q →
        IsUntouched bucket now q ⊎ TookAt rules (get_or ops j None) bucket now q
    by (inl same) = inl (IsUntouched-trans bucket next now q other same)
    by (inr t) = inr (record {
      op = t.op;
      announced = t.announced;
      for_it = IsFor-back rules bucket next t.op (KeepsShape-after_seat rules seat op bucket) t.for_it;
      above = subst (λ (n : ℕ). n < t.op.number) other.applied t.above;
      applied = t.applied;
    })

-- an announced op for the bucket is in it afterwards, or the bucket is frozen
walk-covers : (rules : Rules) (seat : ℕ) (ops : List (Option Op)) (bucket : BucketState) (j q : ℕ) (op : Op) →
    q ≡ seat + j → seat + length ops ≤ length bucket.applied
    → get_or ops j None ≡ Some op → IsFor rules bucket op
    → (op.number ≤ applied_of (after_seats rules seat ops bucket) q)
    ⊎ ((after_seats rules seat ops bucket).frozen ≡ true)
walk-covers rules seat [] bucket j q op at fit says for_it = cc
walk-covers rules seat (None ∷ ops) bucket zero q op at fit says for_it = cc
walk-covers rules seat (Some mine ∷ ops) bucket zero q op at fit says for_it =
    subst Goal (sym here) (subst (λ (o : Op). IsFor rules bucket o → Reached o seat) (same says)
    (λ f. by f (outcome rules seat mine bucket)) for_it)
  where
    now : BucketState
    now = after_seats rules (suc seat) ops (after_op rules seat mine bucket)

    Reached : Op → ℕ → Type 0
    Reached o k = (o.number ≤ applied_of now k) ⊎ (now.frozen ≡ true)

    Goal : ℕ → Type 0
    Goal k = Reached op k

    here : q ≡ seat
    here = omega arith

    same : Some mine ≡ Some op → mine ≡ op
    same is = cc

    rest : applied_of now seat ≡ applied_of (after_op rules seat mine bucket) seat
    rest = (walk-below rules (suc seat) ops (after_op rules seat mine bucket) seat (omega arith)).applied

    by : IsFor rules bucket mine → Outcome rules seat mine bucket → Reached mine seat
    by f (stayed is held) =
        let still : (after_op rules seat mine bucket).frozen ≡ true = ap (λ b. b.frozen) is ∙ held in
        inr (ap (λ b. b.frozen) (walk-frozen rules (suc seat) ops (after_op rules seat mine bucket) still) ∙ still)
    by f (skipped is due) =
        let in_it = not_due rules bucket seat mine due f in
        let same_number : applied_of now seat ≡ applied_of bucket seat = rest ∙ ap (λ b. applied_of b seat) is in
        inl (omega arith)
    by f (froze is _ _ _) =
        let still : (after_op rules seat mine bucket).frozen ≡ true = ap (λ b. b.frozen) is in
        inr (ap (λ b. b.frozen) (walk-frozen rules (suc seat) ops (after_op rules seat mine bucket) still) ∙ still)
    by f (took is _ due _) =
        let number = number_set rules seat mine bucket ops (omega arith) is in
        inl (omega arith)
walk-covers rules seat (place ∷ ops) bucket (suc j) q op at fit says for_it =
    let shape = KeepsShape-after_seat rules seat place bucket in
    walk-covers rules (suc seat) ops (after_seat rules seat place bucket) j q op (omega arith)
    (omega (arith, shape.applied)) says
    (IsFor-same rules bucket (after_seat rules seat place bucket) op shape for_it)

-- ---- the laws

pub same_prefix_after : SamePrefix
unfolding change
same_prefix_after rules ops bucket = let shape = KeepsShape-walk rules 0 ops bucket in (shape.prefix, shape.depth)

pub frozen_stays : FrozenStays
unfolding change
frozen_stays rules ops bucket is = walk-frozen rules 0 ops bucket is

pub only_announced : OnlyAnnounced
unfolding change
only_announced rules ops bucket seat seats =
    by (walk-only rules 0 ops bucket seat seat (omega arith) (omega (arith, seats.0)))
  where
    by : IsUntouched bucket (after_seats rules 0 ops bucket) seat
        ⊎ TookAt rules (get_or ops seat None) bucket (after_seats rules 0 ops bucket) seat
        → IsUntouched bucket (after_seats rules 0 ops bucket) seat
        ⊎ IsTaken rules ops bucket (after_seats rules 0 ops bucket) seat
    by (inl same) = inl same
    by (inr t) = inr (record {
      op = t.op;
      announced = t.announced;
      for_it = t.for_it;
      above = t.above;
      applied = t.applied;
    })

pub covers : Covers
unfolding change
covers rules ops bucket seat op seats says for_it =
    walk-covers rules 0 ops bucket seat seat op (omega arith) (omega (arith, seats.0)) says for_it

pub does_something : DoesSomething
does_something rules ops bucket seat op seats says for_it above = by (covers rules ops bucket seat op seats says for_it)
  where
    by : (op.number ≤ applied_of (change rules ops bucket) seat) ⊎ ((change rules ops bucket).frozen ≡ true)
        → (applied_of bucket seat < applied_of (change rules ops bucket) seat)
        ⊎ ((change rules ops bucket).frozen ≡ true)
    by (inl in_it) = inl (omega arith)
    by (inr held) = inr held
