-- What the adds in effect are, to the seats that made them, and the totals and counts that they give.
use Rattle.std.proofs.Common.{◌≡◌, ◌≢◌, ℕ, zero, suc, ◌+◌, ◌-◌, ◌*◌, ◌^◌, ◌<◌, ◌≤◌, cond, eqb, List, [], ◌∷◌, ◌++◌, length, get_or, map, sum, inl, inr, refl, sym, ap, ◌∙◌, subst, arith, get_or-set_other, length-append}
use Rattle.std.proofs.lemmas.Bool.{cases_lt}
use Rattle.std.proofs.lemmas.List.{get_or-map, get_or_past}
use Rattle.std.proofs.lemmas.List.Sums.{sum_by-cons}
use Rattle.sim_steps.specs.declared.adds.Op.{Op}
use Rattle.sim_steps.specs.declared.adds.Add.{Add}
use Rattle.sim_steps.specs.declared.adds.Added.{Added}
use Rattle.sim_steps.specs.Totals.{adds_of, length_of}
use Rattle.sim_steps.specs.Layout.{Settings, seats_of}
use Rattle.sim_steps.specs.Program.{Phase, Idle, LoadDone, StoreOp, Announce, LoadRoot, LoadRow, LoadAnnouncement, LoadOp, StoreRow, Publish, StoreDone, Caller, is_idle, applied, op_of}
use Rattle.sim_steps.specs.World.{World, opening_row, seat_in}
use Rattle.sim_steps.specs.Order.{add_at, adds_in}
use Rattle.sim_steps.proofs.Ghost.{Item, entry_of, Common, Local, Named, Keeps, after_items}
use Rattle.sim_steps.proofs.Logs.{blank}
use Rattle.sim_steps.proofs.Runs.{Follows}
use Rattle.sim_steps.proofs.OrderLemmas.{items_to, items_few}
use Rattle.sim_steps.proofs.Counts.{items_of, bytes_of, items_of-append, bytes_of-append, items_of_few, bytes_of_few, Fair, count_after_items, bytes_after_items}
use Rattle.list_laws.proofs.Numbers.{plus_none}

-- ---- the add that a seat is in, where it is announced

-- what the history says of an add is what its seat says
pub record Current (c : Common) (p j : ℕ) (seat : Caller) : Type 0 where
  pub call_is : c.call_at p j ≡ op_of seat
  pub seen_is : c.seen_at p j ≡ seat.seen
  pub number_is : j + 1 ≡ seat.number

-- so it is with the add that is announced
announced_now : (c : Common) (p j : ℕ) (seat : Caller) → c.call_at p (seat.number - 1) ≡ op_of seat →
    c.seen_at p (seat.number - 1) ≡ seat.seen → j + 1 ≡ seat.number → Current c p j seat
announced_now c p j seat call seen e =
    let at : j ≡ seat.number - 1 = omega arith in
    record { call_is = ap (c.call_at p) at ∙ call; seen_is = ap (c.seen_at p) at ∙ seen; number_is = e }

-- and in each phase
pub current : (l : Settings) (c : Common) (p : ℕ) (seat : Caller) (base : ℕ) (phase : Phase) (len j : ℕ) →
    Keeps l c p seat base phase → seat.number ≡ len + cond (is_idle phase) 0 1 → j < c.number p → len ≤ j →
    Current c p j seat
current l c p seat base Idle len j k e h g = absurd (omega (arith, k.number_is))
current l c p seat base LoadDone len j k e h g = absurd (omega (arith, k.begins.number_is))
current l c p seat base (StoreOp i) len j k e h g = absurd (omega (arith, k.begins.number_is))
current l c p seat base Announce len j k e h g = absurd (omega (arith, k.begins.number_is))
current l c p seat base (LoadRoot turn) len j k e h g =
    announced_now c p j seat k.works.call_is k.works.seen_is (omega (arith, k.works.number_is))
current l c p seat base (LoadRow turn root row) len j k e h g =
    announced_now c p j seat k.works.call_is k.works.seen_is (omega (arith, k.works.number_is))
current l c p seat base (LoadAnnouncement turn root row found) len j k e h g =
    announced_now c p j seat k.works.call_is k.works.seen_is (omega (arith, k.works.number_is))
current l c p seat base (LoadOp turn root row found op words) len j k e h g =
    announced_now c p j seat k.works.call_is k.works.seen_is (omega (arith, k.works.number_is))
current l c p seat base (StoreRow turn root row i) len j k e h g =
    announced_now c p j seat k.works.call_is k.works.seen_is (omega (arith, k.works.number_is))
current l c p seat base (Publish turn root row) len j k e h g =
    announced_now c p j seat k.works.call_is k.works.seen_is (omega (arith, k.works.number_is))
current l c p seat base (StoreDone count) len j k e h g =
    announced_now c p j seat k.call_is k.seen_is (omega (arith, k.rests.number_is))

-- a seat has begun the adds that it announced, and no more than one that has not ended
pub number_between : (l : Settings) (c : Common) (p : ℕ) (seat : Caller) (base : ℕ) (phase : Phase) (len : ℕ) →
    Keeps l c p seat base phase → seat.number ≡ len + cond (is_idle phase) 0 1 →
    (len ≤ c.number p) × (c.number p ≤ seat.number)
number_between l c p seat base Idle len k e = (omega (arith, k.number_is), omega (arith, k.number_is))
number_between l c p seat base LoadDone len k e = (omega (arith, k.begins.number_is), omega (arith, k.begins.number_is))
number_between l c p seat base (StoreOp i) len k e =
    (omega (arith, k.begins.number_is), omega (arith, k.begins.number_is))
number_between l c p seat base Announce len k e = (omega (arith, k.begins.number_is), omega (arith, k.begins.number_is))
number_between l c p seat base (LoadRoot turn) len k e =
    (omega (arith, k.works.number_is), omega (arith, k.works.number_is))
number_between l c p seat base (LoadRow turn root row) len k e =
    (omega (arith, k.works.number_is), omega (arith, k.works.number_is))
number_between l c p seat base (LoadAnnouncement turn root row found) len k e =
    (omega (arith, k.works.number_is), omega (arith, k.works.number_is))
number_between l c p seat base (LoadOp turn root row found op words) len k e =
    (omega (arith, k.works.number_is), omega (arith, k.works.number_is))
number_between l c p seat base (StoreRow turn root row i) len k e =
    (omega (arith, k.works.number_is), omega (arith, k.works.number_is))
number_between l c p seat base (Publish turn root row) len k e =
    (omega (arith, k.works.number_is), omega (arith, k.works.number_is))
number_between l c p seat base (StoreDone count) len k e =
    (omega (arith, k.rests.number_is), omega (arith, k.rests.number_is))

-- all adds that have ended are applied
pub ended_applied : (l : Settings) (c : Common) (p : ℕ) (seat : Caller) (base : ℕ) (phase : Phase) (len : ℕ) →
    Keeps l c p seat base phase → seat.number ≡ len + cond (is_idle phase) 0 1 →
    c.number p ≤ applied (c.words_at c.top) p + 1 → len ≤ applied (c.words_at c.top) p
ended_applied l c p seat base Idle len k e near = omega (arith, k.number_is, k.applied_is)
ended_applied l c p seat base LoadDone len k e near = omega (arith, k.begins.number_is, k.begins.applied_is)
ended_applied l c p seat base (StoreOp i) len k e near = omega (arith, k.begins.number_is, k.begins.applied_is)
ended_applied l c p seat base Announce len k e near = omega (arith, k.begins.number_is, k.begins.applied_is)
ended_applied l c p seat base (LoadRoot turn) len k e near = omega (arith, k.works.number_is)
ended_applied l c p seat base (LoadRow turn root row) len k e near = omega (arith, k.works.number_is)
ended_applied l c p seat base (LoadAnnouncement turn root row found) len k e near = omega (arith, k.works.number_is)
ended_applied l c p seat base (LoadOp turn root row found op words) len k e near = omega (arith, k.works.number_is)
ended_applied l c p seat base (StoreRow turn root row i) len k e near = omega (arith, k.works.number_is)
ended_applied l c p seat base (Publish turn root row) len k e near = omega (arith, k.works.number_is)
ended_applied l c p seat base (StoreDone count) len k e near = omega (arith, k.rests.number_is, k.rests.applied_is)

-- the opening row has the first counts
opening_count : (l : Settings) (class : ℕ) → class < 3 →
    get_or (opening_row l) (1 + class) 0 ≡ get_or l.first.counts class 0
unfolding opening_row
opening_count l zero h = refl
opening_count l (suc zero) h = refl
opening_count l (suc (suc zero)) h = refl
opening_count l (suc (suc (suc n))) h = absurd (omega arith)

-- and the first bytes
opening_bytes : (l : Settings) (class : ℕ) → class < 3 →
    get_or (opening_row l) (4 + class) 0 ≡ get_or l.first.bytes class 0
unfolding opening_row
opening_bytes l zero h = refl
opening_bytes l (suc zero) h = refl
opening_bytes l (suc (suc zero)) h = refl
opening_bytes l (suc (suc (suc n))) h = absurd (omega arith)

module _ (l : Settings) (w : World) (c : Common) (locals : ℕ → Local) (a : Follows l w c locals) where
  -- the add of an announced number, as its seat tells it
  record Same (op : Op) (add : Add) : Type 0 where
    class_is : add.class ≡ op.class
    length_is : add.length ≡ op.length

  -- an add of the history is that of its seat
  add_same : (p j : ℕ) → p < seats_of l → j < c.number p → Same (c.call_at p j) (add_at (locals p).seat (j + 1))
  add_same p j hp h = elim (cases_lt j (length (locals p).seat.log)) [
    | inl g ↦
        let s = (locals p).seat in
        let r = (a.kept.logs p hp).answered j g in
        let at : j + 1 - 1 ≡ j = omega arith in
        let e : add_at s (j + 1) ≡ (get_or s.log j blank).add =
        ap (λ i. get_or (map (λ added. added.add) s.log) i s.caller.add) at
        ∙ get_or-map (λ (added : Added). added.add) s.log j blank s.caller.add g in
        record {
          class_is = ap (λ x. x.class) e ∙ ap (λ x. x.class) r.call_is;
          length_is = ap (λ x. x.length) e
              ∙ ap (λ x. x.length) r.call_is;
        }
    | inr g ↦
        let s = (locals p).seat in
        let r = current l c p s.caller (locals p).base s.phase (length s.log) j (a.kept.seats p hp)
        (a.kept.logs p hp).counted h g in
        let past : length (map (λ (added : Added). added.add) s.log) ≤ j + 1 - 1 = omega (arith, long s.log) in
        let e : add_at s (j + 1) ≡ s.caller.add =
        get_or_past (map (λ (added : Added). added.add) s.log) (j + 1 - 1) s.caller.add past in
        record {
          class_is = ap (λ x. x.class) e ∙ ap (λ x. x.class) (sym r.call_is);
          length_is = ap (λ x. x.length) e
              ∙ ap (λ x. x.length) (sym r.call_is);
        }
  ]
    where
      long : (xs : List Added) → length (map (λ (added : Added). added.add) xs) ≡ length xs
      long [] = refl
      long (x ∷ xs) = ap suc (long xs)

  -- and so is that of an item in effect
  item_same : (item : Item) → item.seat < seats_of l → 0 < item.op.number → item.op.number ≤ c.number item.seat →
      item.op ≡ c.call_at item.seat (item.op.number - 1) → Same item.op (add_at (seat_in w item.seat) item.op.number)
  item_same item hs some few e =
      let at : item.op.number - 1 + 1 ≡ item.op.number = omega arith in
      subst (λ (o : Op). Same o (add_at (seat_in w item.seat) item.op.number)) (sym e)
      (subst (λ s. Same (c.call_at item.seat (item.op.number - 1)) (add_at s item.op.number))
      (sym (a.seats_are item.seat hs))
      (subst (λ n. Same (c.call_at item.seat (item.op.number - 1)) (add_at (locals item.seat).seat n)) at
      (add_same item.seat (item.op.number - 1) hs (omega arith))))

  -- the adds of some items count as the items do
  pub adds_same : (class : ℕ) (items : List Item) → Named l c.number c.call_at items →
      adds_of class (adds_in w (map entry_of items)) ≡ items_of class items
  adds_same class [] n = refl
  adds_same class (item ∷ items) n =
      let s = item_same item n.0 n.1 n.2 n.3 in
      let add : Add = add_at (seat_in w item.seat) item.op.number in
      sum_by-cons (λ (x : Add). cond (eqb x.class class) 1 0) add (adds_in w (map entry_of items))
      ∙ ap (λ x. cond (eqb x class) 1 0 + adds_of class (adds_in w (map entry_of items))) s.class_is
      ∙ ap (λ x. cond (eqb item.op.class class) 1 0 + x) (adds_same class items n.4)

  -- and their bytes are those of the items
  pub bytes_same : (class : ℕ) (items : List Item) → Named l c.number c.call_at items →
      length_of class (adds_in w (map entry_of items)) ≡ bytes_of class items
  bytes_same class [] n = refl
  bytes_same class (item ∷ items) n =
      let s = item_same item n.0 n.1 n.2 n.3 in
      let add : Add = add_at (seat_in w item.seat) item.op.number in
      sum_by-cons (λ (x : Add). cond (eqb x.class class) x.length 0) add (adds_in w (map entry_of items))
      ∙ ap (λ x. cond (eqb x class) add.length 0 + length_of class (adds_in w (map entry_of items))) s.class_is
      ∙ ap (λ x. cond (eqb item.op.class class) x 0 + length_of class (adds_in w (map entry_of items))) s.length_is
      ∙ ap (λ x. cond (eqb item.op.class class) item.op.length 0 + x) (bytes_same class items n.4)

  -- ---- the adds in effect

  -- items of two lists are of adds that were made
  named_append : (xs ys : List Item) → Named l c.number c.call_at xs → Named l c.number c.call_at ys →
      Named l c.number c.call_at (xs ++ ys)
  named_append [] ys n m = m
  named_append (x ∷ xs) ys n m = (n.0, n.1, n.2, n.3, named_append xs ys n.4 m)

  -- and so are those of a front
  pub named_front : (xs ys : List Item) → Named l c.number c.call_at (xs ++ ys) → Named l c.number c.call_at xs
  named_front [] ys n = tt
  named_front (x ∷ xs) ys n = (n.0, n.1, n.2, n.3, named_front xs ys n.4)

  -- and those of all versions up to one
  pub named_to : (v : ℕ) → v ≤ c.top → Named l c.number c.call_at (items_to c.items_at v)
  named_to zero h = tt
  named_to (suc v) h = named_append (items_to c.items_at v) (c.items_at v) (named_to v (omega arith))
      (a.kept.story v (omega arith)).named

  -- such items are fair
  pub fair_named : (items : List Item) → Named l c.number c.call_at items → Fair (seats_of l) items
  fair_named [] n = tt
  fair_named (i ∷ items) n =
      let before : i.op.number - 1 < c.number i.seat = omega (arith, n.1, n.2) in (
        n.0,
        omega (arith, ap (λ (o : Op). o.class) n.3, a.kept.shared.calls.classed i.seat (i.op.number - 1) n.0 before),
        omega (arith, ap (λ (o : Op). o.length) n.3, a.kept.shared.calls.short i.seat (i.op.number - 1) n.0 before),
        fair_named items n.4,
      )

  -- ---- the totals of each version

  -- a version's totals are the first ones and what the items before it add
  pub record Sums (v class : ℕ) : Type 0 where
    pub count : get_or (c.words_at v) (1 + class) 0 ≡ get_or l.first.counts class 0 + items_of class
        (items_to c.items_at v)
    pub bytes : get_or (c.words_at v) (4 + class) 0 ≡ get_or l.first.bytes class 0 + bytes_of class
        (items_to c.items_at v)

  -- the sums fit their words, also with the items of one more version
  pub room_for : (v class : ℕ) (items : List Item) → v < c.top → class < 3 → length items ≤ length (c.items_at v) →
      Sums v class →
      (get_or (c.words_at v) (1 + class) 0 + length items < 2 ^ 64)
      × (get_or (c.words_at v) (4 + class) 0 + 262144 * length items < 2 ^ 64)
  room_for v class items h k short s =
      let small = a.kept.shared.settings.small class k in
      let few : length (items_to c.items_at (suc v)) ≤ sum l.adds = items_few l w c locals a (suc v) (omega arith) in
      let long = length-append (items_to c.items_at v) (c.items_at v) in
      let rows = a.kept.shared.settings.rows in
      let counts = items_of_few class (items_to c.items_at v) in
      let bytes = bytes_of_few (seats_of l) class (items_to c.items_at v)
      (fair_named (items_to c.items_at v) (named_to v (omega arith))) in (
        omega (arith, small.0, few, long, rows, counts, s.count, short),
        omega (arith, small.1, few, long, rows, bytes, s.bytes, short),
      )

  -- a word of the next version, but its base, is what its items make
  next_word : (v k : ℕ) → v < c.top → k ≢ 0 →
      get_or (c.words_at (v + 1)) k 0 ≡ get_or (after_items (c.words_at v) (c.items_at v)) k 0
  next_word v k h n =
      sym (get_or-set_other (c.words_at (v + 1)) 0 k 0 0 n) ∙ ap (λ r. get_or r k 0) (a.kept.story v h).row_made
      ∙ get_or-set_other (after_items (c.words_at v) (c.items_at v)) 0 k 0 0 n

  -- each version has its totals
  pub sums : (v class : ℕ) → v ≤ c.top → class < 3 → Sums v class
  sums zero class h k = record {
    count = ap (λ r. get_or r (1 + class) 0) a.kept.shared.chain.first_words ∙ opening_count l class k
        ∙ plus_none (get_or l.first.counts class 0);
    bytes = ap (λ r. get_or r (4 + class) 0) a.kept.shared.chain.first_words ∙ opening_bytes l class k
        ∙ plus_none (get_or l.first.bytes class 0);
  }
  sums (suc v) class h k =
      let s = sums v class (omega arith) k in
      let next : v + 1 ≡ suc v = omega arith in
      let before : v < c.top = omega arith in
      let r = room_for v class (c.items_at v) before k (omega arith) s in
      let fair = fair_named (c.items_at v) (a.kept.story v before).named in
      let long = a.kept.shared.chain.long v (omega arith) in
      let apart1 : 1 + class ≢ 0 = omega arith in
      let apart2 : 4 + class ≢ 0 = omega arith in
      record {
        count = omega (
          arith,
          ap (λ m. get_or (c.words_at m) (1 + class) 0) next,
          next_word v (1 + class) before apart1,
          count_after_items (seats_of l) (c.words_at v) (c.items_at v) class k fair long r.0,
          s.count,
          items_of-append class (items_to c.items_at v) (c.items_at v),
        );
        bytes = omega (
          arith,
          ap (λ m. get_or (c.words_at m) (4 + class) 0) next,
          next_word v (4 + class) before apart2,
          bytes_after_items (seats_of l) (c.words_at v) (c.items_at v) class k fair long r.1,
          s.bytes,
          bytes_of-append class (items_to c.items_at v) (c.items_at v),
        );
      }
