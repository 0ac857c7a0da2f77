-- The items and the replies after a change are those of the ops that it took, one after the other.
use Rattle.std.proofs.Common.{◌≡◌, ℕ, suc, ◌+◌, ◌<◌, ◌≤◌, true, false, List, [], ◌∷◌, ◌++◌, length, Option, Some, None, refl, sym, ap, subst, ◌∙◌, arith}
use Rattle.std.specs.Prelude.{◌==◌}
use Rattle.std.proofs.lemmas.Bool.{eq-eqb, ne_eqb}
use Rattle.plain_map.specs.declared.keys.Pair.{Pair}
use Rattle.plain_map.specs.declared.rules.Rules.{Rules}
use Rattle.bucket_states.specs.declared.ops.Op.{Op}
use Rattle.bucket_states.specs.Items.{items_after}
use Rattle.bucket_states.specs.States.{BucketState}
use Rattle.bucket_states.specs.Change.{answered, after_op, after_seats, change}
use Rattle.bucket_states.specs.Laws.{applied_of, Taken, taken_at, taken_from, items_after_all, AreAnsweredHere, Folds}
use Rattle.bucket_states.proofs.StepLemmas.{Outcome, stayed, skipped, froze, took, outcome}
use Rattle.bucket_states.proofs.WalkLemmas.{untouched-after_seat, KeepsShape-after_seat, due_parts, walk-below, number_set, reply_set}

-- ---- which ops are taken

-- what was before counts only by the numbers of these seats
taken_from-alike : (seat : ℕ) (ops : List (Option Op)) (was other now : BucketState) →
    ((q : ℕ) → seat ≤ q → applied_of other q ≡ applied_of was q) →
    taken_from seat ops other now ≡ taken_from seat ops was now
taken_from-alike seat [] was other now same = refl
taken_from-alike seat (op ∷ ops) was other now same =
    let rest = taken_from-alike (suc seat) ops was other now (λ q above. same q (omega arith)) in
    ap (λ (n : ℕ). taken_at seat op (applied_of now seat == n) ++ taken_from (suc seat) ops other now)
    (same seat (omega arith))
    ∙ ap (λ ts. taken_at seat op (applied_of now seat == applied_of was seat) ++ ts) rest

module _ (rules : Rules) (seat : ℕ) (op : Op) (ops : List (Option Op)) (bucket : BucketState) where
  abbrev pub next : BucketState
  next = after_op rules seat op bucket

  abbrev pub now : BucketState
  now = after_seats rules (suc seat) ops next

  later_alike : taken_from (suc seat) ops bucket now ≡ taken_from (suc seat) ops next now
  later_alike = taken_from-alike (suc seat) ops next bucket now
      (λ q above. sym (untouched-after_seat rules seat (Some op) bucket q (omega arith)).applied)

  -- an op that leaves its seat's number is not taken
  pub not_taken : applied_of next seat ≡ applied_of bucket seat →
      taken_from seat (Some op ∷ ops) bucket now ≡ taken_from (suc seat) ops next now
  not_taken same =
      let test : (applied_of now seat == applied_of bucket seat) ≡ true =
      eq-eqb _ _ ((walk-below rules (suc seat) ops next seat (omega arith)).applied ∙ same) in
      ap (λ b. taken_at seat (Some op) b ++ taken_from (suc seat) ops bucket now) test ∙ later_alike

  -- one that is answered is
  pub is_taken : seat < length bucket.applied → applied_of bucket seat < op.number →
      next ≡ answered rules bucket seat op
      → taken_from seat (Some op ∷ ops) bucket now ≡ record {
        seat = seat;
        op = op;
      } ∷ taken_from (suc seat) ops next now
  is_taken inside above is =
      let number = number_set rules seat op bucket ops inside is in
      let test : (applied_of now seat == applied_of bucket seat) ≡ false = ne_eqb _ _ (λ same. omega arith) in
      ap (λ b. taken_at seat (Some op) b ++ taken_from (suc seat) ops bucket now) test
      ∙ ap (λ ts. record { seat = seat; op = op } ∷ ts) later_alike

-- ---- items and replies

-- the items are those after the ops, and the replies are theirs
abbrev FoldsFrom : Rules → List Pair → BucketState → List Taken → Type 0
FoldsFrom rules items now ts = (now.items ≡ items_after_all rules items ts) × AreAnsweredHere rules items now ts

walk-folds : (rules : Rules) (seat : ℕ) (ops : List (Option Op)) (bucket : BucketState) →
    seat + length ops ≤ length bucket.applied → seat + length ops ≤ length bucket.replies
    → FoldsFrom rules bucket.items (after_seats rules seat ops bucket)
    (taken_from seat ops bucket (after_seats rules seat ops bucket))
walk-folds rules seat [] bucket fit fit_too = (refl, tt)
walk-folds rules seat (None ∷ ops) bucket fit fit_too =
    walk-folds rules (suc seat) ops bucket (omega arith) (omega arith)
walk-folds rules seat (Some op ∷ ops) bucket fit fit_too =
    by (outcome rules seat op bucket)
    (walk-folds rules (suc seat) ops (after_op rules seat op bucket)
    (omega (arith, (KeepsShape-after_seat rules seat (Some op) bucket).applied))
    (omega (arith, (KeepsShape-after_seat rules seat (Some op) bucket).replies)))
  where
    mid : BucketState
    mid = after_op rules seat op bucket

    end : BucketState
    end = after_seats rules (suc seat) ops mid

    left : applied_of mid seat ≡ applied_of bucket seat → mid.items ≡ bucket.items →
        FoldsFrom rules mid.items end (taken_from (suc seat) ops mid end)
        → FoldsFrom rules bucket.items end (taken_from seat (Some op ∷ ops) bucket end)
    left same items rest = subst (FoldsFrom rules bucket.items end) (sym (not_taken rules seat op ops bucket same))
        (subst (λ (ps : List Pair). FoldsFrom rules ps end (taken_from (suc seat) ops mid end)) items rest)

    by : Outcome rules seat op bucket → FoldsFrom rules mid.items end (taken_from (suc seat) ops mid end) →
        FoldsFrom rules bucket.items end (taken_from seat (Some op ∷ ops) bucket end)
    by (stayed is _) rest = left (ap (λ b. applied_of b seat) is) (ap (λ b. b.items) is) rest
    by (skipped is _) rest = left (ap (λ b. applied_of b seat) is) (ap (λ b. b.items) is) rest
    by (froze is _ _ _) rest = left (ap (λ b. applied_of b seat) is) (ap (λ b. b.items) is) rest
    by (took is _ due _) rest =
        let above = (due_parts rules bucket seat op due).1 in
        let reply = reply_set rules seat op bucket ops (omega arith) is in
        let from_here : FoldsFrom rules (items_after rules bucket.items op.call) end
        (taken_from (suc seat) ops mid end) =
        subst (λ (ps : List Pair). FoldsFrom rules ps end (taken_from (suc seat) ops mid end)) (ap (λ b. b.items) is)
        rest in
        subst (FoldsFrom rules bucket.items end) (sym (is_taken rules seat op ops bucket (omega arith) above is))
        (from_here.0, (reply, from_here.1))

-- items and replies are those of the taken ops
pub folds : Folds
unfolding change
folds rules ops bucket seats = walk-folds rules 0 ops bucket (omega (arith, seats.0)) (omega (arith, seats.1))
