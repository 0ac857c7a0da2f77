-- Each event keeps what holds, phase by phase.
use Rattle.std.proofs.Common.{◌≡◌, ◌≢◌, ℕ, ◌+◌, ◌*◌, ◌%◌, ◌^◌, ◌<◌, ◌≤◌, Bool, true, false, cond, eqb, ltb, List, [], ◌∷◌, ◌++◌, length, get_or, take, sum, inl, inr, refl, sym, ap, ◌∙◌, subst, arith}
use Rattle.std.proofs.lemmas.Bool.{ltb-true, ltb-false, leb-true, leb-false, eqb-true, eqb-false, cases_lt, cases_eq}
use Rattle.std.proofs.lemmas.List.{length_push, get_or_push, get_or_append_left, get_or_past}
use Rattle.std.proofs.Math.Nat.{mod-le, mod-eq_of_lt}
use Rattle.list_laws.proofs.Cuts.{seen_more, seen_all}
use Rattle.sim_steps.specs.declared.adds.Op.{Op}
use Rattle.sim_steps.specs.Layout.{Settings, seats_of, room_of, row_words, desk_of, state_row}
use Rattle.sim_steps.specs.Program.{LoadDone, StoreOp, Announce, LoadRoot, LoadRow, LoadAnnouncement, LoadOp, StoreRow, Publish, StoreDone, Caller, applied, reply_of, next_row, op_words, op_from, no_op, phase_after, caller_after, after_row, after_found}
use Rattle.sim_steps.proofs.Apart.{op_row_apart, state_row_apart, state_row_within}
use Rattle.sim_steps.proofs.Memory.{put, put_same, put_other, put_is, put_at_is, each_version, two_versions, apart_versions}
use Rattle.sim_steps.proofs.Ghost.{Common, common_after, published, announced, Shared, Chain, Helped, Works, Looks, Found, AllFound, Reads, Keeps, Moves, Goes}
use Rattle.sim_steps.proofs.RowLemmas.{Classed, Outcome, length-next_row, next_row_at, next_row_base}

-- where nothing moves, nothing has moved
pub moves_none : (l : Settings) (me : ℕ) (c : Common) → Moves l me c c
moves_none l me c = grind arith

-- one more number that is not above its bound
below_more : (f : ℕ → ℕ) (n w : ℕ) (xs : List ℕ) → ((q : ℕ) → q < n → get_or xs q 0 ≤ f q) → w ≤ f (length xs) →
    (q : ℕ) → q < n → get_or (xs ++ w ∷ []) q 0 ≤ f q
below_more f n w xs below here q h = elim (cases_lt q (length xs)) [
  | inl g ↦ omega (arith, get_or_append_left xs (w ∷ []) 0 q g, below q h)
  | inr g ↦ elim (cases_lt (length xs) q) [
    | inl b ↦ omega (arith, get_or_past (xs ++ w ∷ []) q 0 (omega (arith, length_push xs w)))
    | inr b ↦ let e : length xs ≡ q = omega arith in omega (arith, get_or_push xs w 0 q e, ap f e, here)
  ]
]

ruleset tests = (ltb-true, ltb-false, leb-true, leb-false, eqb-true, eqb-false)

ruleset writes = (put_is, put_at_is, eqb-true, eqb-false, op_row_apart, state_row_apart)

ruleset pushes = (length_push, get_or_push, get_or_append_left)

module _ (l : Settings) (me : ℕ) (c : Common) (seat : Caller) (base : ℕ) (h : me < seats_of l) (s : Shared l c) where
  -- a done word is no more than what the last version has
  seen_done : Keeps l c me seat base LoadDone → (q : ℕ) → q < seats_of l →
      get_or (seat.seen ++ c.memory.done (length seat.seen) % 2 ^ 32 ∷ []) q 0 ≤ applied (c.words_at c.top) q
  seen_done k = below_more (applied (c.words_at c.top)) (seats_of l)
      (c.memory.done (length seat.seen) % 2 ^ 32) seat.seen k.begins.seen_old
      (omega (arith, mod-le (c.memory.done (length seat.seen)) (2 ^ 32), s.helped.ended (length seat.seen) k.short))

  -- the load of a done word
  pub load_done : Keeps l c me seat base LoadDone →
      Goes l me c c (caller_after seat LoadDone (c.memory.done (length seat.seen))) base
      (phase_after (desk_of l me) seat LoadDone (c.memory.done (length seat.seen)))
  load_done k = (let old = seen_done k in grind (arith, moves_none, length_push, tests, old))

  -- the store of an op's word
  pub store_op : (i w : ℕ) → Keeps l c me seat base (StoreOp i) →
      Goes l me c (common_after l me seat (StoreOp i) c) seat base (phase_after (desk_of l me) seat (StoreOp i) w)
  store_op i w k = grind (arith, writes, tests, s.calls.few)

  -- the announcement
  pub announce : (w : ℕ) → Keeps l c me seat base Announce →
      Goes l me c (announced l me seat c) seat base (phase_after (desk_of l me) seat Announce w)
  announce w k = grind (arith, writes)

  -- the load of the root
  pub load_root : (turn : ℕ) → Keeps l c me seat base (LoadRoot turn) →
      Goes l me c c seat c.top (LoadRow turn c.memory.root [])
  load_root turn k = grind (arith, moves_none)

  -- where a row is whole
  row_loaded : (turn root : ℕ) (row : List ℕ) → Works l c me seat → Looks l c me base turn root →
      row ≡ c.words_at base → Keeps l c me seat base (after_row (desk_of l me) seat turn root row)
  row_loaded turn root row w k e = grind (
    arith,
    tests,
    s.helped.helped me base,
    s.helped.real me,
    s.chain.rises base c.top me,
    s.chain.replies base c.top me,
  )

  -- the load of a row's word
  pub load_row : (turn root : ℕ) (row : List ℕ) → Keeps l c me seat base (LoadRow turn root row) →
      Goes l me c c seat base (phase_after (desk_of l me) seat (LoadRow turn root row)
      (c.memory.state root (length row)))
  load_row turn root row k = grind (
    arith,
    moves_none,
    length_push,
    tests,
    seen_more,
    seen_all,
    row_loaded,
    s.chain.rows_are base,
    s.chain.long base,
  )

  -- one more op was found
  found_more : (found : List Op) (op : Op) → AllFound l c me base found → Found l c me base (length found) op →
      AllFound l c me base (found ++ op ∷ [])
  found_more found op k e = grind (arith, pushes)

  -- and what follows
  found_next : (turn root : ℕ) (row : List ℕ) (found : List Op) (op : Op) → Works l c me seat →
      Looks l c me base turn root → turn < 2 → row ≡ c.words_at base → length found < seats_of l →
      AllFound l c me base found →
      Found l c me base (length found) op → Keeps l c me seat base
      (after_found (desk_of l me) turn root row (found ++ op ∷ []))
  found_next turn root row found op w k t r h f e =
      grind (arith, length_push, ltb-true, ltb-false, found_more found op f e)

  -- the load of an announcement
  pub load_announcement : (turn root : ℕ) (row : List ℕ) (found : List Op) →
      Keeps l c me seat base (LoadAnnouncement turn root row found) →
      Goes l me c c seat base (phase_after (desk_of l me) seat (LoadAnnouncement turn root row found)
      (c.memory.announced (length found)))
  load_announcement turn root row found k = grind (
    arith,
    moves_none,
    eqb-true,
    eqb-false,
    found_next turn root row found no_op,
    s.calls.none,
    s.calls.posted,
  )

  -- one more word of an op
  word_read : (p op : ℕ) (words : List ℕ) → p < seats_of l → length words < 3 → (r : Reads l c me base p op words) →
      words ++ c.memory.op op (length words) ∷ [] ≡ take (length (words ++ c.memory.op op (length words) ∷ []))
      (op_words (c.call_at p r.before))
  word_read p op words hp hs r = grind (
    arith,
    seen_more (op_words (c.call_at p r.before)) words,
    s.calls.ops_are p r.before (length words),
  )

  -- the words of an op are the op's
  op_read : (p op : ℕ) (words : List ℕ) → p < seats_of l → 2 ≤ length words → length words < 3 →
      (r : Reads l c me base p op words) →
      words ++ c.memory.op op (length words) ∷ [] ≡ op_words (c.call_at p r.before)
  op_read p op words hp hs hs' r =
      seen_all (op_words (c.call_at p r.before)) (words ++ c.memory.op op (length words) ∷ [])
      (grind (arith, length_push)) (word_read p op words hp hs' r)

  -- so the op that is read is the one that was announced
  found_read : (p op : ℕ) (words : List ℕ) → p < seats_of l → 2 ≤ length words → length words < 3 →
      Reads l c me base p op words → Found l c me base p (op_from (words ++ c.memory.op op (length words) ∷ []))
  found_read p op words hp hs hs' r =
      let e : op_from (words ++ c.memory.op op (length words) ∷ []) ≡ c.call_at p r.before =
      ap op_from (op_read p op words hp hs hs' r) in
      let n : (c.call_at p r.before).number ≡ r.before + 1 = s.calls.numbered p r.before hp r.is_announced in
      subst (Found l c me base p) (sym e) (record {
        real = inr (r.before, r.is_announced, refl);
        own = λ o. omega (arith, r.own o, n);
        late = λ o. omega (arith, r.late o, n);
      })

  -- the load of a word of an op
  op_more : (turn root : ℕ) (row : List ℕ) (found : List Op) (op : ℕ) (words : List ℕ) →
      Keeps l c me seat base (LoadOp turn root row found op words) → length words < 2 →
      Goes l me c c seat base (LoadOp turn root row found op (words ++ c.memory.op op (length words) ∷ []))
  op_more turn root row found op words k n = record {
    shared = s;
    keeps = record {
      works = k.works;
      looks = k.looks;
      tries = k.tries;
      row_is = k.row_is;
      short = k.short;
      entries = k.entries;
      short_op = omega (arith, length_push words (c.memory.op op (length words)));
      reads = record {
        before = k.reads.before;
        is_announced = k.reads.is_announced;
        op_is = k.reads.op_is;
        words_are = word_read (length found) op words k.short k.short_op k.reads;
        own = k.reads.own;
        late = k.reads.late;
      };
    };
    moves = moves_none l me c;
  }

  -- and of the last one
  pub load_op : (turn root : ℕ) (row : List ℕ) (found : List Op) (op : ℕ) (words : List ℕ) →
      Keeps l c me seat base (LoadOp turn root row found op words) →
      Goes l me c c seat base (phase_after (desk_of l me) seat (LoadOp turn root row found op words)
      (c.memory.op op (length words)))
  load_op turn root row found op words k = go (ltb (length words) 2) refl
    where
      go : (b : Bool) → ltb (length words) 2 ≡ b →
          Goes l me c c seat base (cond b (LoadOp turn root row found op (words ++ c.memory.op op (length words) ∷ []))
          (after_found (desk_of l me) turn root row
          (found ++ op_from (words ++ c.memory.op op (length words) ∷ []) ∷ [])))
      go true e = op_more turn root row found op words k (ltb-true (length words) 2 e)
      go false e = record {
        shared = s;
        keeps = found_next turn root row found (op_from (words ++ c.memory.op op (length words) ∷ [])) k.works
            k.looks k.tries k.row_is k.short k.entries
            (found_read (length found) op words k.short (ltb-false (length words) 2 e) k.short_op k.reads);
        moves = moves_none l me c;
      }

  -- the store of a row's word
  pub store_row : (turn root : ℕ) (row : List ℕ) (i w : ℕ) → Keeps l c me seat base (StoreRow turn root row i) →
      Goes l me c (common_after l me seat (StoreRow turn root row i) c) seat base
      (phase_after (desk_of l me) seat (StoreRow turn root row i) w)
  store_row turn root row i w k = grind (arith, writes, tests, s.chain.fresh)

  -- an exchange that is lost
  pub lost : (turn root : ℕ) (row : List ℕ) → Keeps l c me seat base (Publish turn root row) →
      (c.memory.root ≡ root → ⊥) → Goes l me c c seat base (LoadRoot (turn + 1))
  lost turn root row k other = grind (arith, moves_none)

  -- the store of the done word
  pub store_done : (count w : ℕ) → Keeps l c me seat base (StoreDone count) →
      Goes l me c (common_after l me seat (StoreDone count) c) seat base
      (phase_after (desk_of l me) seat (StoreDone count) w)
  store_done count w k = grind (arith, put_is, eqb-true, eqb-false)

-- a row is published
module _ (l : Settings) (me : ℕ) (c : Common) (seat : Caller) (base turn root : ℕ) (row : List ℕ)
    (h : me < seats_of l) (s : Shared l c) (k : Keeps l c me seat base (Publish turn root row))
    (same : c.memory.root ≡ root) where
  -- the history after an exchange that is won
  d : Common
  d = published l me seat root row c

  -- it loaded the root's row as it is now
  pub current : base ≡ c.top
  current = grind (arith, s.chain.once base c.top)

  -- the ops that were found have their classes
  pub classed : Classed k.makes.found
  classed = grind (arith, k.makes.entries, s.calls.classed)

  -- the row has room for each seat
  room : 7 + 2 * length k.makes.found ≤ length (c.words_at base)
  room = grind (arith, s.chain.long base)

  -- the new row has the length of a row
  pub row_long : length row ≡ row_words (seats_of l)
  row_long = grind (arith, length-next_row, s.chain.long base)

  -- it is the next row after the last version's
  pub row_is : row ≡ next_row root k.makes.found (c.words_at c.top)
  row_is = grind (arith, current)

  -- whether the op of seat p is applied by it
  pub row_at_seat : (p : ℕ) → p < seats_of l → Outcome (c.words_at c.top) row p (get_or k.makes.found p no_op).number
  row_at_seat p n = (let r = next_row_at root k.makes.found (c.words_at base) p classed
      (omega (arith, k.makes.all)) room in grind (arith, current, r))

  -- and names that one as its base
  row_base : get_or row 0 0 ≡ c.row_at c.top + 1
  row_base =
      let within : c.row_at c.top < 1 + sum l.adds = s.chain.within c.top (omega arith) in
      let small : root + 1 < 2 ^ 64 = omega (arith, within, s.settings.rows, s.chain.root_is, same) in
      let long : 0 < length (c.words_at c.top) = omega (arith, s.chain.long c.top (omega arith)) in
      ap (λ r. get_or r 0 0) row_is ∙ next_row_base root k.makes.found (c.words_at c.top) long ∙ mod-eq_of_lt small
      ∙ ap (λ r. r + 1) (sym same ∙ s.chain.root_is)

  -- no seat's number falls
  row_grows : (p : ℕ) → p < seats_of l → applied (c.words_at c.top) p ≤ applied row p
  row_grows p n = (let r = row_at_seat p n in grind (arith, r, ltb-true))

  -- each op that was found is in it
  row_reaches : (p : ℕ) → p < seats_of l → (get_or k.makes.found p no_op).number ≤ applied row p
  row_reaches p n = (let r = row_at_seat p n in grind (arith, r, ltb-false))

  -- a seat without a new op keeps its answer
  row_reply : (p : ℕ) → p < seats_of l → applied (c.words_at c.top) p ≡ applied row p →
      reply_of (c.words_at c.top) p ≡ reply_of row p
  row_reply p n e = (let r = row_at_seat p n in grind (arith, r, ltb-true))

  -- no number is of an add that was not made
  pub row_real : (p : ℕ) → p < seats_of l → applied row p ≤ c.number p
  row_real p n = (let r = row_at_seat p n in
      grind (arith, r, ltb-true, k.makes.entries p, s.calls.numbered p, s.helped.real p))

  -- its number, which no version has
  here : ℕ
  here = state_row (desk_of l me) seat.made

  -- the row was no version's before
  fresh_here : (v : ℕ) → v ≤ c.top → c.row_at v ≢ here
  unfolding here
  fresh_here v n = s.chain.fresh v me seat.made n h (omega (arith, k.works.made_is))
      (omega (arith, k.works.spare, k.works.few))

  -- no version has more of a seat than the new row
  rises_to : (v p : ℕ) → v ≤ c.top → p < seats_of l → applied (c.words_at v) p ≤ applied row p
  rises_to v p n hp = omega (arith, s.chain.rises v c.top p n (omega arith) hp, row_grows p hp)

  -- and where it has as much, the same answer
  replies_to : (v p : ℕ) → v ≤ c.top → p < seats_of l → applied (c.words_at v) p ≡ applied row p →
      reply_of (c.words_at v) p ≡ reply_of row p
  replies_to v p n hp e =
      let up = s.chain.rises v c.top p n (omega arith) hp in
      let on = row_grows p hp in
      let old : applied (c.words_at v) p ≡ applied (c.words_at c.top) p = omega arith in
      let new : applied (c.words_at c.top) p ≡ applied row p = omega arith in
      s.chain.replies v c.top p n (omega arith) hp old ∙ row_reply p hp new

  -- each version's row still holds its words
  rows_are : (v i : ℕ) → v ≤ d.top → i < row_words (seats_of l) →
      d.memory.state (d.row_at v) i ≡ get_or (d.words_at v) i 0
  unfolding d
  rows_are v i n hi = elim (cases_eq v (c.top + 1)) [
    | inl e ↦ subst (λ w. c.memory.state (d.row_at w) i ≡ get_or (d.words_at w) i 0) (sym e)
        (ap (λ r. c.memory.state r i) (put_same c.row_at (c.top + 1) (state_row (desk_of l me) seat.made))
        ∙ k.stored i hi ∙ ap (λ ws. get_or ws i 0) (sym (put_same c.words_at (c.top + 1) row)))
    | inr m ↦
        ap (λ r. c.memory.state r i) (put_other c.row_at (c.top + 1) (state_row (desk_of l me) seat.made) v m)
        ∙ s.chain.rows_are v i (omega arith) hi
        ∙ ap (λ ws. get_or ws i 0) (sym (put_other c.words_at (c.top + 1) row v m))
  ]

  -- and names the one before it
  bases : (v : ℕ) → v < d.top → get_or (d.words_at (v + 1)) 0 0 ≡ d.row_at v + 1
  unfolding d
  bases v n = elim (cases_eq v c.top) [
    | inl e ↦ let m : c.top ≢ c.top + 1 = omega arith in
        subst (λ w. get_or (d.words_at (w + 1)) 0 0 ≡ d.row_at w + 1) (sym e)
        (ap (λ ws. get_or ws 0 0) (put_same c.words_at (c.top + 1) row) ∙ row_base
        ∙ ap (λ r. r + 1) (sym (put_other c.row_at (c.top + 1) (state_row (desk_of l me) seat.made) c.top m)))
    | inr o ↦ let m : v ≢ c.top + 1 = omega arith in let m' : v + 1 ≢ c.top + 1 = omega arith in
        ap (λ ws. get_or ws 0 0) (put_other c.words_at (c.top + 1) row (v + 1) m') ∙ s.chain.bases v (omega arith)
        ∙ ap (λ r. r + 1) (sym (put_other c.row_at (c.top + 1) (state_row (desk_of l me) seat.made) v m))
  ]

  -- a row that was not made is no version's
  fresh : (v q j : ℕ) → v ≤ d.top → q < seats_of l → d.made q ≤ j → j < room_of l q →
      d.row_at v ≢ state_row (desk_of l q) j
  unfolding d
  fresh v q j n hq m hj = each_version c.row_at c.top (state_row (desk_of l me) seat.made)
      (λ w r. r ≢ state_row (desk_of l q) j)
      (λ w hw. s.chain.fresh w q j hw hq (old_made q j m) hj)
      (λ e. other q j m hj (state_row_apart l me q seat.made j (omega (arith, k.works.spare, k.works.few)) hj e))
      v n
    where
      old_made : (q j : ℕ) → put c.made me (seat.made + 1) q ≤ j → c.made q ≤ j
      old_made q j m = elim (cases_eq q me) [
        | inl e ↦ omega (
          arith,
          ap c.made e,
          k.works.made_is,
          ap (put c.made me (seat.made + 1)) e,
          put_same c.made me (seat.made + 1),
        )
        | inr o ↦ omega (arith, put_other c.made me (seat.made + 1) q o)
      ]

      other : (q j : ℕ) → put c.made me (seat.made + 1) q ≤ j → j < room_of l q → (me ≡ q) × (seat.made ≡ j) → ⊥
      other q j m hj e = omega (arith, ap (put c.made me (seat.made + 1)) e.0, e.1, put_same c.made me (seat.made + 1))

  -- so the versions are a chain
  chain : Chain l d.memory.root d.memory.state d.top d.row_at d.words_at d.made
  unfolding d here
  chain = record {
    root_is = grind (arith, put_is, eqb-true, eqb-false);
    first_row = grind (arith, put_is, eqb-true, eqb-false, s.chain.first_row);
    first_words = grind (arith, put_is, eqb-true, eqb-false, s.chain.first_words);
    bases = bases;
    rows_are = rows_are;
    long = grind (arith, put_is, eqb-true, eqb-false, s.chain.long, row_long);
    within = each_version c.row_at c.top here (λ v r. r < 1 + sum l.adds) s.chain.within
        (state_row_within l me seat.made (omega (arith, k.works.spare, k.works.few)));
    fresh = fresh;
    once = apart_versions c.row_at c.top here s.chain.once fresh_here;
    rises = λ u v p hu hv hp. two_versions c.words_at c.top row (λ a b. applied a p ≤ applied b p)
        (λ x y hx hy. s.chain.rises x y p hx hy hp) (λ x hx. rises_to x p hx hp) (omega arith) u v hu hv;
    replies = λ u v p hu hv hp. two_versions c.words_at c.top row
        (λ a b. applied a p ≡ applied b p → reply_of a p ≡ reply_of b p)
        (λ x y hx hy. s.chain.replies x y p hx hy hp) (λ x hx. replies_to x p hx hp) (λ e. refl) u v hu hv;
  }

  -- in which each announced add is helped
  helped : Helped l d.memory.done d.top d.words_at d.number d.since d.seen_at
  unfolding d
  helped = grind (
    arith,
    put_is,
    eqb-true,
    eqb-false,
    s.helped.helped,
    s.helped.near,
    s.helped.ended,
    s.helped.seen_old,
    s.helped.begun,
    current,
    row_grows,
    row_real,
    row_reaches,
    k.makes.entries,
  )

  -- and which only this seat's event has changed
  moves : Moves l me c d
  unfolding d
  moves = grind (arith, put_is, eqb-true, eqb-false)

  -- the exchange of the root that happens
  won : Goes l me c d (record seat { made = seat.made + 1 }) base (StoreDone (reply_of row me))
  unfolding d
  won = grind (arith, put_is, eqb-true, eqb-false, chain, helped, moves, row_reaches me, k.makes.entries me)

-- either way
pub exchange : (l : Settings) (me : ℕ) (c : Common) (seat : Caller) (base turn root : ℕ) (row : List ℕ) →
    me < seats_of l → Shared l c → Keeps l c me seat base (Publish turn root row) →
    Goes l me c (common_after l me seat (Publish turn root row) c)
    (caller_after seat (Publish turn root row) c.memory.root) base
    (phase_after (desk_of l me) seat (Publish turn root row) c.memory.root)
unfolding d
exchange l me c seat base turn root row h s k = go (eqb c.memory.root root) refl
  where
    go : (b : Bool) → eqb c.memory.root root ≡ b →
        Goes l me c (cond b (published l me seat root row c) c)
        (cond b (record seat { made = seat.made + 1 }) seat) base
        (cond b (StoreDone (reply_of row me)) (LoadRoot (turn + 1)))
    go true e = won l me c seat base turn root row h s k (eqb-true c.memory.root root e)
    go false e = lost l me c seat base h s turn root row k (eqb-false c.memory.root root e)
