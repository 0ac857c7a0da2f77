-- A batch of adds: what it makes of a row, and what it tells of the order.
use Rattle.std.proofs.Common.{◌≡◌, ℕ, zero, suc, ◌+◌, ◌*◌, ◌<◌, ◌≤◌, Bool, true, false, cond, ltb, List, [], ◌∷◌, ◌++◌, length, get_or, map, refl, sym, ap, ◌∙◌, subst, arith, append_assoc}
use Rattle.std.proofs.lemmas.Bool.{cond-true, cond-false, ltb-true}
use Rattle.std.proofs.lemmas.List.{map-append}
use Rattle.sim_steps.specs.declared.adds.Op.{Op}
use Rattle.sim_steps.specs.Order.{Entry, news}
use Rattle.sim_steps.specs.Program.{applied, reply_of, with_op, apply_op, apply_all, no_op}
use Rattle.sim_steps.proofs.Ghost.{Item, entry_of, batch, after_items, Answers}
use Rattle.sim_steps.proofs.RowLemmas.{Classed, classed_rest, apply_op_is, apply_op_other, apply_all_before, length-apply_op, count-with_op, reply-with_op_same}

-- ---- items and the first word of a row

-- items one after the other
pub after_items-append : (row : List ℕ) (xs ys : List Item) →
    after_items row (xs ++ ys) ≡ after_items (after_items row xs) ys
after_items-append row [] ys = refl
after_items-append row (a ∷ xs) ys = after_items-append (with_op row a.seat a.op) xs ys

-- what is new begins with that of the first seat
news_front : (old new : ℕ → ℕ) (now : ℕ → Op) (k more : ℕ) (b : Bool) → (b ≡ true → (now k).number ≡ new k) →
    cond b ((k, new k) ∷ []) [] ++ news old new (k + 1) more ≡ map entry_of
    (cond b (record { seat = k; op = now k } ∷ []) []) ++ news old new (k + 1) more
news_front old new now k more true e = ap (λ n. let x : Entry = (k, n) in x ∷ news old new (k + 1) more) (sym (e refl))
news_front old new now k more false e = refl

-- the batch in the order: the seats whose applied numbers rise, to the numbers of their ops
pub news_batch : (old new : ℕ → ℕ) (now : ℕ → Op) (k more : ℕ) →
    ((p : ℕ) → p < k + more → old p < new p → (now p).number ≡ new p) →
    news old new k more ≡ map entry_of (batch (λ p. ltb (old p) (new p)) now k more)
news_batch old new now k zero h = refl
news_batch old new now k (suc more) h =
    news_front old new now k more (ltb (old k) (new k)) (λ t. h k (omega arith) (ltb-true (old k) (new k) t))
    ∙ ap (λ xs. map entry_of (cond (ltb (old k) (new k)) (record { seat = k; op = now k } ∷ []) []) ++ xs)
    (news_batch old new now (k + 1) more (λ p n. h p (omega arith)))
    ∙ sym (map-append entry_of (cond (ltb (old k) (new k)) (record { seat = k; op = now k } ∷ []) [])
    (batch (λ p. ltb (old p) (new p)) now (k + 1) more))

-- ---- what a batch makes of a row

-- the batch has the ops that are found and not yet applied
pub record Batched (passes : ℕ → Bool) (now : ℕ → Op) (k : ℕ) (found : List Op) (row : List ℕ) : Type 0 where
  pub passes_are : (i p : ℕ) → p ≡ k + i → i < length found →
      passes p ≡ ltb (applied row p) (get_or found i no_op).number
  pub now_are : (i p : ℕ) → p ≡ k + i → i < length found → passes p ≡ true → now p ≡ get_or found i no_op
  pub classed : Classed found

-- a batch without its first op
batched_rest : (passes : ℕ → Bool) (now : ℕ → Op) (k : ℕ) (op : Op) (found : List Op) (row : List ℕ) →
    Batched passes now k (op ∷ found) row → Batched passes now (k + 1) found (apply_op row k op)
batched_rest passes now k op found row b = record {
  passes_are = λ i p e h. b.passes_are (suc i) p (omega arith) (omega arith)
      ∙ ap (λ m. ltb m (get_or found i no_op).number)
      (sym (apply_op_other row k p op (b.classed 0 (omega arith)) (omega arith)).applied_is);
  now_are = λ i p e h t. b.now_are (suc i) p (omega arith) (omega arith) t;
  classed = classed_rest op found b.classed;
}

-- the item of one seat, where it passes
abbrev first : (ℕ → Bool) → (ℕ → Op) → ℕ → List Item
first passes now k = cond (passes k) (record { seat = k; op = now k } ∷ []) []

-- the first op, as the batch has it
batched_front : (passes : ℕ → Bool) (now : ℕ → Op) (k : ℕ) (op : Op) (found : List Op) (row : List ℕ) →
    Batched passes now k (op ∷ found) row →
    apply_op row k op ≡ after_items row (first passes now k)
batched_front passes now k op found row b =
    let z : k ≡ k + 0 = omega arith in
    apply_op_is row k op (b.classed 0 (omega arith))
    ∙ go (passes k) (b.passes_are 0 k z (omega arith)) (b.now_are 0 k z (omega arith))
  where
    go : (t : Bool) → t ≡ ltb (applied row k) op.number → (t ≡ true → now k ≡ op) →
        cond (ltb (applied row k) op.number) (with_op row k op) row ≡ after_items row
        (cond t (record { seat = k; op = now k } ∷ []) [])
    go true e n = cond-true (ltb (applied row k) op.number) (with_op row k op) row (sym e)
        ∙ ap (with_op row k) (sym (n refl))
    go false e n = cond-false (ltb (applied row k) op.number) (with_op row k op) row (sym e)

-- all ops that were found make of a row what the batch makes
pub apply_all-batch : (passes : ℕ → Bool) (now : ℕ → Op) (k : ℕ) (found : List Op) (row : List ℕ) →
    Batched passes now k found row →
    apply_all k found row ≡ after_items row (batch passes now k (length found))
apply_all-batch passes now k [] row b = refl
apply_all-batch passes now k (op ∷ found) row b =
    apply_all-batch passes now (k + 1) found (apply_op row k op) (batched_rest passes now k op found row b)
    ∙ ap (λ r. after_items r (batch passes now (k + 1) (length found))) (batched_front passes now k op found row b)
    ∙ sym (after_items-append row (first passes now k) (batch passes now (k + 1) (length found)))

-- the item of a seat
abbrev item_at : (ℕ → Op) → ℕ → Item
item_at now p = record { seat = p; op = now p }

-- and each seat of the batch has its answer there
pub apply_all_answers : (passes : ℕ → Bool) (now : ℕ → Op) (k : ℕ) (found : List Op) (row : List ℕ) (i p : ℕ) →
    p ≡ k + i → i < length found → 7 + 2 * (k + length found) ≤ length row →
    Batched passes now k found row → passes p ≡ true →
    Answers row (apply_all k found row) (batch passes now k (length found)) p (item_at now p)
apply_all_answers passes now k [] row i p e h long b t = absurd (omega arith)
apply_all_answers passes now k (op ∷ found) row zero p e h long b t =
    let s : k ≡ p = omega arith in
    subst (λ q. Answers row (apply_all k (op ∷ found) row) (batch passes now k (suc (length found))) q
    (item_at now q)) s
    (let t' : passes k ≡ true = ap passes s ∙ t in
    let z : k ≡ k + 0 = omega arith in
    let n : now k ≡ op = b.now_are 0 k z (omega arith) t' in
    let c : op.class < 3 = b.classed 0 (omega arith) in
    let a : apply_op row k op ≡ with_op row k op =
    apply_op_is row k op c ∙ cond-true (ltb (applied row k) op.number) (with_op row k op) row
    (sym (b.passes_are 0 k z (omega arith)) ∙ t') in
    let r = apply_all_before (k + 1) found (apply_op row k op) k (classed_rest op found b.classed) (omega arith) in
    record {
      front = [];
      rest = batch passes now (k + 1) (length found);
      stands = ap (λ xs. xs ++ batch passes now (k + 1) (length found))
          (cond-true (passes k) (item_at now k ∷ []) [] t');
      reply_is =
          r.reply_is ∙ ap (λ x. reply_of x k) a ∙ reply-with_op_same row k op (omega arith)
          ∙ sym (count-with_op row k op c (omega arith))
          ∙ ap (λ (o : Op). get_or (with_op row k o) (1 + o.class) 0) (sym n);
    })
apply_all_answers passes now k (op ∷ found) row (suc i) p e h long b t =
    let r = apply_all_answers passes now (k + 1) found (apply_op row k op) i p (omega arith) (omega arith)
    (omega (arith, length-apply_op row k op)) (batched_rest passes now k op found row b) t in
    let front = first passes now k in
    record {
      front = front ++ r.front;
      rest = r.rest;
      stands = ap (λ xs. front ++ xs) r.stands ∙ sym (append_assoc front r.front (item_at now p ∷ r.rest));
      reply_is = r.reply_is ∙ ap (λ x. get_or (after_items x (r.front ++ item_at now p ∷ [])) (1 + (now p).class) 0)
          (batched_front passes now k op found row b)
          ∙ ap (λ x. get_or x (1 + (now p).class) 0)
          (sym (after_items-append row front (r.front ++ item_at now p ∷ []))
          ∙ ap (after_items row) (sym (append_assoc front r.front (item_at now p ∷ []))));
    }
