-- The row that a seat makes: its length, its base, and what it has of each seat.
use Rattle.std.proofs.Common.{◌≡◌, ◌≢◌, ℕ, zero, suc, ◌+◌, ◌*◌, ◌<◌, ◌≤◌, Bool, true, false, cond, ltb, ◌&&◌, List, [], ◌∷◌, length, get_or, ◌⊎◌, inl, inr, refl, sym, ap, ◌∙◌, subst, arith, get_or-set_same, get_or-set_other, length-set}
use Rattle.std.proofs.lemmas.Bool.{lt-ltb}
use Rattle.sim_steps.specs.declared.adds.Op.{Op}
use Rattle.sim_steps.specs.Program.{applied, reply_of, in_word, with_op, apply_op, apply_all, next_row, no_op}

ruleset sets = (get_or-set_same, get_or-set_other, length-set)

-- every class is one of the three
abbrev pub Classed : List Op → Type 0
Classed found = (i : ℕ) → i < length found → (get_or found i no_op).class < 3

-- a seat's words in a row are as before
pub record Untouched (row new : List ℕ) (p : ℕ) : Type 0 where
  pub applied_is : applied new p ≡ applied row p
  pub reply_is : reply_of new p ≡ reply_of row p

-- whether the op of seat p is applied
abbrev pub Outcome : List ℕ → List ℕ → ℕ → ℕ → Type 0
Outcome row new p number = ((ltb (applied row p) number ≡ true) × (applied new p ≡ number))
    ⊎ ((ltb (applied row p) number ≡ false) × Untouched row new p)

-- ---- one op

-- an op leaves a row its length
pub length-with_op : (row : List ℕ) (seat : ℕ) (op : Op) → length (with_op row seat op) ≡ length row
unfolding with_op
length-with_op row seat op = simp length-set

-- the row has its number
pub applied-with_op_same : (row : List ℕ) (seat : ℕ) (op : Op) → 7 + 2 * seat < length row →
    applied (with_op row seat op) seat ≡ op.number
unfolding with_op
applied-with_op_same row seat op h = grind (arith, sets)

-- and its answer
pub reply-with_op_same : (row : List ℕ) (seat : ℕ) (op : Op) → 8 + 2 * seat < length row →
    reply_of (with_op row seat op) seat ≡ in_word (get_or row (1 + op.class) 0 + 1)
unfolding with_op
reply-with_op_same row seat op h = grind (arith, sets)

-- other seats are untouched
pub with_op_other : (row : List ℕ) (seat p : ℕ) (op : Op) → op.class < 3 → p ≢ seat →
    Untouched row (with_op row seat op) p
unfolding with_op
with_op_other row seat p op c h = grind (arith, sets)

-- the totals, of the op's own class and of another
pub count-with_op : (row : List ℕ) (seat : ℕ) (op : Op) → op.class < 3 → 7 + 2 * seat < length row →
    get_or (with_op row seat op) (1 + op.class) 0 ≡ in_word (get_or row (1 + op.class) 0 + 1)
unfolding with_op
count-with_op row seat op c h = grind (arith, sets)

-- its class has its bytes
pub bytes-with_op : (row : List ℕ) (seat : ℕ) (op : Op) → op.class < 3 → 7 + 2 * seat < length row →
    get_or (with_op row seat op) (4 + op.class) 0 ≡ in_word (get_or row (4 + op.class) 0 + op.length)
unfolding with_op
bytes-with_op row seat op c h = grind (arith, sets)

-- and the other classes have theirs as before
pub totals-with_op_other : (row : List ℕ) (seat : ℕ) (op : Op) (k : ℕ) → op.class < 3 → k < 7 → k ≢ 1 + op.class →
    k ≢ 4 + op.class → get_or (with_op row seat op) k 0 ≡ get_or row k 0
unfolding with_op
totals-with_op_other row seat op k c h m n = grind (arith, sets)

-- ---- an op that may be applied

-- an op is taken where its number is greater
pub apply_op_is : (row : List ℕ) (seat : ℕ) (op : Op) → op.class < 3 →
    apply_op row seat op ≡ cond (ltb (applied row seat) op.number) (with_op row seat op) row
apply_op_is row seat op c =
    ap (λ t. cond (ltb (applied row seat) op.number && t) (with_op row seat op) row) (lt-ltb op.class 3 c)
    ∙ go (ltb (applied row seat) op.number)
  where
    go : (b : Bool) → cond (b && true) (with_op row seat op) row ≡ cond b (with_op row seat op) row
    go true = refl
    go false = refl

-- a row keeps its length
pub length-apply_op : (row : List ℕ) (seat : ℕ) (op : Op) → length (apply_op row seat op) ≡ length row
length-apply_op row seat op = grind (arith, length-with_op)

-- other seats are untouched
pub apply_op_other : (row : List ℕ) (seat p : ℕ) (op : Op) → op.class < 3 → p ≢ seat →
    Untouched row (apply_op row seat op) p
apply_op_other row seat p op c n = (let r = with_op_other row seat p op c n in grind (arith, r))

-- what becomes of its seat
apply_op_same : (row : List ℕ) (seat : ℕ) (op : Op) → op.class < 3 → 8 + 2 * seat < length row →
    Outcome row (apply_op row seat op) seat op.number
apply_op_same row seat op c h =
    subst (λ new. Outcome row new seat op.number) (sym (apply_op_is row seat op c))
    (go (ltb (applied row seat) op.number) refl)
  where
    go : (b : Bool) → ltb (applied row seat) op.number ≡ b →
        Outcome row (cond b (with_op row seat op) row) seat op.number
    go true e = inl (e, applied-with_op_same row seat op (omega arith))
    go false e = inr (e, record { applied_is = refl; reply_is = refl })

-- ---- all ops, from one seat on

-- all ops leave a row its length
pub length-apply_all : (seat : ℕ) (found : List Op) (row : List ℕ) → length (apply_all seat found row) ≡ length row
length-apply_all seat [] row = refl
length-apply_all seat (op ∷ found) row = length-apply_all (seat + 1) found (apply_op row seat op)
    ∙ length-apply_op row seat op

-- ops without the first have their classes
pub classed_rest : (op : Op) (found : List Op) → Classed (op ∷ found) → Classed found
classed_rest op found c = λ i h. c (suc i) (omega arith)

-- the seats before are not touched
pub apply_all_before : (seat : ℕ) (found : List Op) (row : List ℕ) (p : ℕ) → Classed found → p < seat →
    Untouched row (apply_all seat found row) p
apply_all_before seat [] row p c h = record { applied_is = refl; reply_is = refl }
apply_all_before seat (op ∷ found) row p c h =
    let a = apply_op_other row seat p op (c 0 (omega arith)) (omega arith) in
    let b = apply_all_before (seat + 1) found (apply_op row seat op) p (classed_rest op found c) (omega arith) in
    record { applied_is = b.applied_is ∙ a.applied_is; reply_is = b.reply_is ∙ a.reply_is }

-- what became of a seat stays where it is untouched then
outcome_after : (row mid new : List ℕ) (p n : ℕ) → Untouched mid new p → Outcome row mid p n → Outcome row new p n
outcome_after row mid new p n u o = grind arith

-- or before
outcome_before : (row mid new : List ℕ) (p n : ℕ) → Untouched row mid p → Outcome mid new p n → Outcome row new p n
outcome_before row mid new p n u o = grind arith

-- what all ops make of a seat
pub apply_all_at : (seat : ℕ) (found : List Op) (row : List ℕ) (i p : ℕ) → p ≡ seat + i → Classed found →
    i < length found → 7 + 2 * (seat + length found) ≤ length row →
    Outcome row (apply_all seat found row) p (get_or found i no_op).number
apply_all_at seat [] row i p e c k h = absurd (omega arith)
apply_all_at seat (op ∷ found) row zero p e c k h =
    let s : p ≡ seat = omega arith in
    subst (λ q. Outcome row (apply_all seat (op ∷ found) row) q op.number) (sym s)
    (outcome_after row (apply_op row seat op) (apply_all seat (op ∷ found) row) seat op.number
    (apply_all_before (seat + 1) found (apply_op row seat op) seat (classed_rest op found c) (omega arith))
    (apply_op_same row seat op (c 0 (omega arith)) (omega arith)))
apply_all_at seat (op ∷ found) row (suc i) p e c k h =
    outcome_before row (apply_op row seat op) (apply_all seat (op ∷ found) row) p (get_or found i no_op).number
    (apply_op_other row seat p op (c 0 (omega arith)) (omega arith))
    (apply_all_at (seat + 1) found (apply_op row seat op) i p (omega arith) (classed_rest op found c) (omega arith)
    (omega (arith, length-apply_op row seat op)))

-- ---- the whole row

-- the next row has its length
pub length-next_row : (root : ℕ) (found : List Op) (row : List ℕ) → length (next_row root found row) ≡ length row
length-next_row root found row = length-set (apply_all 0 found row) 0 (in_word (root + 1))
    ∙ length-apply_all 0 found row

-- what it makes of each seat
pub next_row_at : (root : ℕ) (found : List Op) (row : List ℕ) (p : ℕ) → Classed found → p < length found →
    7 + 2 * length found ≤ length row →
    Outcome row (next_row root found row) p (get_or found p no_op).number
next_row_at root found row p c k h = (let o = apply_all_at 0 found row p p (omega arith) c k (omega arith) in
    grind (arith, o, get_or-set_other))

-- and its base
pub next_row_base : (root : ℕ) (found : List Op) (row : List ℕ) → 0 < length row →
    get_or (next_row root found row) 0 0 ≡ in_word (root + 1)
next_row_base root found row h = get_or-set_same (apply_all 0 found row) 0 (in_word (root + 1)) 0
    (omega (arith, length-apply_all 0 found row))
