-- What takes effect where a row is published, and that it stays so.
use Rattle.std.proofs.Common.{◌≡◌, ◌≢◌, ℕ, zero, suc, ◌+◌, ◌-◌, ◌*◌, ◌<◌, ◌≤◌, Bool, true, false, cond, eqb, ltb, List, [], ◌∷◌, ◌++◌, length, get_or, set, inl, inr, refl, sym, ap, ◌∙◌, subst, arith, get_or-set_other}
use Rattle.std.proofs.lemmas.Bool.{ltb-true, ltb-false, lt-ltb, eqb-true, cases_eq}
use Rattle.std.proofs.lemmas.List.{set-set}
use Rattle.sim_steps.specs.declared.adds.Op.{Op}
use Rattle.sim_steps.specs.Layout.{Settings, seats_of}
use Rattle.sim_steps.specs.Program.{Phase, Idle, LoadDone, StoreOp, Announce, LoadRoot, LoadRow, LoadAnnouncement, LoadOp, StoreRow, Publish, StoreDone, Caller, applied, reply_of, in_word, apply_all, no_op}
use Rattle.sim_steps.proofs.Memory.{put_same, put_other}
use Rattle.sim_steps.proofs.Ghost.{Item, batch, after_items, Answers, Common, Shared, Keeps, Moves, Named, Version, Story, items_by, common_after, published}
use Rattle.sim_steps.proofs.RowLemmas.{Outcome}
use Rattle.sim_steps.proofs.Batches.{news_batch, Batched, apply_all-batch, apply_all_answers}
use Rattle.sim_steps.proofs.Step

-- a batch of announced ops
named_batch : (l : Settings) (number : ℕ → ℕ) (call_at : ℕ → ℕ → Op) (passes : ℕ → Bool) (now : ℕ → Op)
    (k more : ℕ) → k + more ≤ seats_of l →
    ((p : ℕ) → p < seats_of l → passes p ≡ true →
    (0 < (now p).number) × ((now p).number ≤ number p) × (now p ≡ call_at p ((now p).number - 1))) →
    Named l number call_at (batch passes now k more)
named_batch l number call_at passes now k zero h g = tt
named_batch l number call_at passes now k (suc more) h g =
    named_front l number call_at now k (batch passes now (k + 1) more) (omega arith) (passes k) (g k (omega arith))
    (named_batch l number call_at passes now (k + 1) more (omega arith) g)
  where
    named_front : (l : Settings) (number : ℕ → ℕ) (call_at : ℕ → ℕ → Op) (now : ℕ → Op) (k : ℕ) (rest : List Item) →
        k < seats_of l → (b : Bool) →
        (b ≡ true → (0 < (now k).number) × ((now k).number ≤ number k) × (now k ≡ call_at k ((now k).number - 1))) →
        Named l number call_at rest →
        Named l number call_at (cond b (record { seat = k; op = now k } ∷ []) [] ++ rest)
    named_front l number call_at now k rest h true g r = (h, (g refl).0, (g refl).1, (g refl).2, r)
    named_front l number call_at now k rest h false g r = r

module _ (l : Settings) (me : ℕ) (c : Common) (seat : Caller) (base turn root : ℕ) (row : List ℕ)
    (h : me < seats_of l) (s : Shared l c) (k : Keeps l c me seat base (Publish turn root row))
    (same : c.memory.root ≡ root) where
  -- the row that is replaced
  old : List ℕ
  old = c.words_at c.top

  -- the op that was found of a seat
  found_at : ℕ → Op
  found_at p = get_or k.makes.found p no_op

  -- what the new row makes of each seat
  outcome : (p : ℕ) → p < seats_of l → Outcome (c.words_at c.top) row p (get_or k.makes.found p no_op).number
  outcome p n = Step.row_at_seat l me c seat base turn root row h s k same p n

  -- whether a seat's op is new
  abbrev passes : ℕ → Bool
  passes p = ltb (applied (c.words_at c.top) p) (applied row p)

  -- and which it is
  abbrev now : ℕ → Op
  now p = c.call_at p (applied row p - 1)

  -- so it was tested
  passes_are : (p : ℕ) → p < seats_of l → passes p ≡ ltb (applied (c.words_at c.top) p)
      (get_or k.makes.found p no_op).number
  passes_are p n = (let r = outcome p n in grind (arith, r, ltb-true, ltb-false))

  -- of a seat that passes
  record Passes (p : ℕ) : Type 0 where
    applied_is : applied row p ≡ c.number p
    before_is : applied (c.words_at c.top) p + 1 ≡ c.number p
    found_is : get_or k.makes.found p no_op ≡ c.call_at p (c.number p - 1)

  -- what passes was announced since
  passes_what : (p : ℕ) → p < seats_of l → applied (c.words_at c.top) p < applied row p → Passes p
  passes_what p n t = (let r = outcome p n in
      grind (arith, r, ltb-true, ltb-false, k.makes.entries p, s.calls.numbered p, s.helped.near p))

  -- it is the op that was found
  now_is : (p : ℕ) → p < seats_of l → applied (c.words_at c.top) p < applied row p →
      now p ≡ get_or k.makes.found p no_op
  now_is p n t = (let r = passes_what p n t in ap (λ m. c.call_at p (m - 1)) r.applied_is ∙ sym r.found_is)

  -- with the number of the new row
  number_is : (p : ℕ) → p < seats_of l → applied (c.words_at c.top) p < applied row p → (now p).number ≡ applied row p
  number_is p n t =
      let r = passes_what p n t in
      let some : applied row p - 1 < c.number p = omega (arith, r.applied_is, r.before_is) in
      omega (arith, s.calls.numbered p (applied row p - 1) n some, r.applied_is, r.before_is)

  -- the ops that were found are a batch
  batched : Batched (λ p. ltb (applied (c.words_at c.top) p) (applied row p))
      (λ p. c.call_at p (applied row p - 1)) 0 k.makes.found (c.words_at c.top)
  batched = record {
    passes_are = λ i p e n. let n' : p < seats_of l = omega (arith, k.makes.all) in let z : p ≡ i = omega arith in
        passes_are p n' ∙ ap (λ j. ltb (applied (c.words_at c.top) p) (get_or k.makes.found j no_op).number) z;
    now_are = λ i p e n t. let n' : p < seats_of l = omega (arith, k.makes.all) in let z : p ≡ i = omega arith in
        now_is p n' (ltb-true (applied (c.words_at c.top) p) (applied row p) t)
        ∙ ap (λ j. get_or k.makes.found j no_op) z;
    classed = Step.classed l me c seat base turn root row h s k same;
  }

  -- its items
  items : List Item
  items = items_by l (c.words_at c.top) row c.call_at

  -- of the old row they make the new one
  made : apply_all 0 k.makes.found (c.words_at c.top) ≡ after_items (c.words_at c.top) items
  unfolding items
  made = apply_all-batch passes now 0 k.makes.found (c.words_at c.top) batched
      ∙ ap (λ n. after_items (c.words_at c.top) (batch passes now 0 n)) k.makes.all

  -- but for its base
  row_made : set row 0 0 ≡ set (after_items (c.words_at c.top) items) 0 0
  row_made =
      ap (λ r. set r 0 0) (Step.row_is l me c seat base turn root row h s k same)
      ∙ set-set (apply_all 0 k.makes.found (c.words_at c.top)) 0 (in_word (root + 1)) 0 ∙ ap (λ r. set r 0 0) made

  -- of each seat at most one add is new
  one_more : (p : ℕ) → p < seats_of l → applied row p ≤ applied (c.words_at c.top) p + 1
  one_more p n = (let r = outcome p n in let m = Step.row_real l me c seat base turn root row h s k same p n in
      grind (arith, r, m, s.helped.near p))

  -- each has its answer there
  answered : (p : ℕ) → p < seats_of l → applied (c.words_at c.top) p < applied row p →
      Answers (c.words_at c.top) row items p (record { seat = p; op = c.call_at p (applied row p - 1) })
  unfolding items
  answered p n t =
      let room : 7 + 2 * (0 + length k.makes.found) ≤ length (c.words_at c.top) =
      omega (arith, k.makes.all, s.chain.long c.top (omega arith)) in
      let z : p ≡ 0 + p = omega arith in
      let a = apply_all_answers passes now 0 k.makes.found (c.words_at c.top) p p z
      (omega (arith, k.makes.all)) room batched (lt-ltb (applied (c.words_at c.top) p) (applied row p) t) in
      let apart : 8 + 2 * p ≢ 0 = omega arith in
      record {
        front = a.front;
        rest = a.rest;
        stands = ap (λ m. batch passes now 0 m) (sym k.makes.all) ∙ a.stands;
        reply_is = ap (λ ws. reply_of ws p) (Step.row_is l me c seat base turn root row h s k same)
            ∙ get_or-set_other (apply_all 0 k.makes.found (c.words_at c.top)) 0 (8 + 2 * p)
            (in_word (root + 1)) 0 apart ∙ a.reply_is;
      }

  -- and all that it had seen is in the old row
  after : (p q : ℕ) → p < seats_of l → q < seats_of l → applied (c.words_at c.top) p < applied row p →
      get_or (c.seen_at p (applied row p - 1)) q 0 ≤ applied (c.words_at c.top) q
  after p q n m t =
      let r = passes_what p n t in
      omega (
        arith,
        ap (λ j. get_or (c.seen_at p (j - 1)) q 0) r.applied_is,
        s.helped.seen_old p q n m (omega (arith, r.before_is)),
        s.chain.rises (c.since p) c.top q (s.helped.begun p n) (omega arith) m,
      )

  -- so the new row is a version
  pub version : Version l (c.words_at c.top) row (items_by l (c.words_at c.top) row c.call_at) c.number c.call_at
      c.seen_at
  unfolding items
  version = record {
    one_more = one_more;
    row_made = row_made;
    news_are = news_batch (applied (c.words_at c.top)) (applied row) now 0 (seats_of l)
        (λ p n t. number_is p (omega arith) t);
    named = named_batch l c.number c.call_at passes now 0 (seats_of l) (omega arith) (λ p n t.
        let t' = ltb-true (applied (c.words_at c.top) p) (applied row p) t in
        let r = passes_what p n t' in
        let e = number_is p n t' in
        (omega (arith, e, t'), omega (arith, e, r.applied_is), ap (λ j. c.call_at p (j - 1)) (sym e)));
    answered = answered;
    after = after;
  }

-- ---- what took effect stays so

-- adds that were made stay made
named_stays : (l : Settings) (me : ℕ) (c d : Common) → Moves l me c d → (items : List Item) →
    Named l c.number c.call_at items → Named l d.number d.call_at items
named_stays l me c d m [] n = tt
named_stays l me c d m (item ∷ items) n = (
  n.0,
  n.1,
  omega (arith, n.2, m.number_up item.seat),
  n.3 ∙ sym (m.calls item.seat (item.op.number - 1) (omega (arith, n.1, n.2))),
  named_stays l me c d m items n.4,
)

-- and versions stay versions
version_stays : (l : Settings) (me : ℕ) (c d : Common) → Moves l me c d → (old new : List ℕ) (items : List Item) →
    ((p : ℕ) → p < seats_of l → applied new p ≤ c.number p) →
    Version l old new items c.number c.call_at c.seen_at → Version l old new items d.number d.call_at d.seen_at
version_stays l me c d m old new items real v = record {
  one_more = v.one_more;
  row_made = v.row_made;
  news_are = v.news_are;
  named = named_stays l me c d m items v.named;
  answered = λ p n t. subst (λ (o : Op). Answers old new items p (record { seat = p; op = o }))
      (sym (m.calls p (applied new p - 1) (omega (arith, t, real p n)))) (v.answered p n t);
  after = λ p q n k t. omega (
    arith,
    ap (λ xs. get_or xs q 0)
        (m.seen p (applied new p - 1) (omega (arith, t, real p n))),
    v.after p q n k t,
  );
}

-- an earlier version, after an event
story_old : (l : Settings) (me : ℕ) (c d : Common) → Moves l me c d → Shared l c → Story l c → (v : ℕ) → v < c.top →
    Version l (d.words_at v) (d.words_at (v + 1)) (d.items_at v) d.number d.call_at d.seen_at
story_old l me c d m s t v h =
    let real : (p : ℕ) → p < seats_of l → applied (c.words_at (v + 1)) p ≤ c.number p =
    λ p n. omega (arith, s.chain.rises (v + 1) c.top p (omega arith) (omega arith) n, s.helped.real p n) in
    let a : Version l (c.words_at v) (c.words_at (v + 1)) (c.items_at v) d.number d.call_at d.seen_at =
    version_stays l me c d m (c.words_at v) (c.words_at (v + 1)) (c.items_at v) real (t v h) in
    let b = subst (λ ws. Version l ws (c.words_at (v + 1)) (c.items_at v) d.number d.call_at d.seen_at)
    (sym (m.words v (omega arith))) a in
    let e = subst (λ ws. Version l (d.words_at v) ws (c.items_at v) d.number d.call_at d.seen_at)
    (sym (m.words (v + 1) (omega arith))) b in
    subst (λ is. Version l (d.words_at v) (d.words_at (v + 1)) is d.number d.call_at d.seen_at) (sym (m.items v h)) e

-- where the root stays, so does the story
story_same : (l : Settings) (me : ℕ) (c d : Common) → Moves l me c d → Shared l c → d.top ≡ c.top → Story l c →
    Story l d
story_same l me c d m s e t v h = story_old l me c d m s t v (omega (arith, h, e))

-- where it changes, it goes on
story_won : (l : Settings) (me : ℕ) (c : Common) (seat : Caller) (base turn root : ℕ) (row : List ℕ) →
    me < seats_of l → (s : Shared l c) → (k : Keeps l c me seat base (Publish turn root row)) → c.memory.root ≡ root →
    Moves l me c (published l me seat root row c) → Story l c → Story l (published l me seat root row c)
story_won l me c seat base turn root row h s k same m t v n = elim (cases_eq v c.top) [
  | inl e ↦
      let d : Common = published l me seat root row c in
      let a = version l me c seat base turn root row h s k same in
      let apart : c.top ≢ c.top + 1 = omega arith in
      let b = subst (λ ws. Version l ws row (items_by l (c.words_at c.top) row c.call_at) d.number d.call_at
      d.seen_at) (sym (put_other c.words_at (c.top + 1) row c.top apart)) a in
      let f = subst (λ ws. Version l (d.words_at c.top) ws (items_by l (c.words_at c.top) row c.call_at) d.number
      d.call_at d.seen_at) (sym (put_same c.words_at (c.top + 1) row)) b in
      let g = subst (λ is. Version l (d.words_at c.top) (d.words_at (c.top + 1)) is d.number d.call_at d.seen_at)
      (sym (put_same c.items_at c.top (items_by l (c.words_at c.top) row c.call_at))) f in
      subst (λ w. Version l (d.words_at w) (d.words_at (w + 1)) (d.items_at w) d.number d.call_at d.seen_at) (sym e) g
  | inr o ↦ story_old l me c (published l me seat root row c) m s t v (omega arith)
]

-- so with each step
pub story_step : (l : Settings) (me : ℕ) (c : Common) (seat : Caller) (base : ℕ) (phase : Phase) → me < seats_of l →
    Shared l c → Keeps l c me seat base phase → Moves l me c (common_after l me seat phase c) → Story l c →
    Story l (common_after l me seat phase c)
story_step l me c seat base (Publish turn root row) h s k m t = go (eqb c.memory.root root) refl m
  where
    go : (b : Bool) → eqb c.memory.root root ≡ b → Moves l me c (cond b (published l me seat root row c) c) →
        Story l (cond b (published l me seat root row c) c)
    go true e m = story_won l me c seat base turn root row h s k (eqb-true c.memory.root root e) m t
    go false e m = t
story_step l me c seat base Idle h s k m t = t
story_step l me c seat base LoadDone h s k m t = t
story_step l me c seat base (StoreOp i) h s k m t = story_same l me c (common_after l me seat (StoreOp i) c) m s refl t
story_step l me c seat base Announce h s k m t = story_same l me c (common_after l me seat Announce c) m s refl t
story_step l me c seat base (LoadRoot turn) h s k m t = t
story_step l me c seat base (LoadRow turn root row) h s k m t = t
story_step l me c seat base (LoadAnnouncement turn root row found) h s k m t = t
story_step l me c seat base (LoadOp turn root row found op words) h s k m t = t
story_step l me c seat base (StoreRow turn root row i) h s k m t =
    story_same l me c (common_after l me seat (StoreRow turn root row i) c) m s refl t
story_step l me c seat base (StoreDone count) h s k m t =
    story_same l me c (common_after l me seat (StoreDone count) c) m s refl t
