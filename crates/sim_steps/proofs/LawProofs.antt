-- The laws on the world, from what holds of its history.
use Rattle.std.proofs.Common.{◌≡◌, ℕ, zero, suc, ◌+◌, ◌-◌, ◌<◌, ◌≤◌, cond, eqb, List, [], ◌∷◌, ◌++◌, length, get_or, map, replicate, inl, inr, refl, sym, ap, ◌∙◌, subst, arith, length-append, append_assoc, ◌^◌}
use Rattle.std.specs.Prelude.{All, Some, slice_get}
use Rattle.std.proofs.lemmas.Bool.{cases_lt}
use Rattle.std.proofs.lemmas.List.{map-append}
use Rattle.std.proofs.lemmas.List.Sums.{sum_by-append}
use Rattle.std.proofs.lemmas.Option.{get_or_from_slice_get, slice_get_within}
use Rattle.sim_steps.specs.declared.adds.Added.{Added}
use Rattle.sim_steps.specs.declared.words.Address.TheVariants.{StateWord}
use Rattle.sim_steps.specs.Totals.{adds_of, length_of}
use Rattle.sim_steps.specs.Layout.{Settings, AreSettings, seats_of}
use Rattle.sim_steps.specs.Program.{Phase, LoadRoot, StoreDone, Seat, applied, reply_of, is_idle, step_bound}
use Rattle.sim_steps.specs.World.{World, Event, seat_in, world_after}
use Rattle.sim_steps.specs.Order.{Entry, word_at, applied_at, order_of, numbers_of, how_many, up_to, adds_in}
use Rattle.sim_steps.specs.Laws.{ArePlaced, OfEach, AsksWithin, IsHelped, IsApplied, IsBounded, IsWhole, StandsAfter, IsAnswered, AreAnswered, IsPending, AreTotals, IsShortOrder, applied_in}
use Rattle.sim_steps.proofs.Apart.{place_within, place_apart}
use Rattle.sim_steps.proofs.Ghost.{Item, entry_of, Common, Local, Named, Keeps, Answers}
use Rattle.sim_steps.proofs.Logs.{blank, op_of_added, Answer}
use Rattle.sim_steps.proofs.Runs.{Follows, holds, within}
use Rattle.sim_steps.proofs.OrderLemmas.{items_to, items_split, items_few, length_map, root_word, row_word, applied_word, order_is, numbers_are, how_many_are, Rise, rise}
use Rattle.sim_steps.proofs.Counts.{items_of, items_of-append, count_after_items, Fair, fair_front}
use Rattle.sim_steps.proofs.Effects.{current, number_between, ended_applied}
use Rattle.sim_steps.proofs.Effects
use Rattle.std.proofs.lemmas.List.Elements.{All-nil, All-cons}
use Rattle.std.proofs.lemmas.List.Sums.{get_or-le-sum_by}

-- the words have their places
pub are_placed : ArePlaced
are_placed s r a b h k = (place_within s r a h, place_apart s r a b h k)

-- what holds of a seat of the world
keeps_in : (l : Settings) (w : World) (c : Common) (locals : ℕ → Local) (a : Follows l w c locals) (p : ℕ) →
    p < seats_of l → Keeps l c p (seat_in w p).caller (locals p).base (seat_in w p).phase
keeps_in l w c locals a p h = subst (λ s. Keeps l c p s.caller (locals p).base s.phase) (sym (a.seats_are p h))
    (a.kept.seats p h)

-- what is known of a seat in the phase that it is in
keeps_at : (l : Settings) (w : World) (c : Common) (locals : ℕ → Local) (a : Follows l w c locals) (p : ℕ)
    (phase : Phase) → p < seats_of l → (seat_in w p).phase ≡ phase →
    Keeps l c p (seat_in w p).caller (locals p).base phase
keeps_at l w c locals a p phase h e = subst (Keeps l c p (seat_in w p).caller (locals p).base) e
    (keeps_in l w c locals a p h)

-- each step is on a word of the table
pub asks_within : OfEach AsksWithin
asks_within l es p ok h =
    let a = holds l ok es in
    within l p a.common (seat_in (world_after l es) p).caller (a.locals p).base
    (seat_in (world_after l es) p).phase h a.follows.kept.shared
    (keeps_in l (world_after l es) a.common a.locals a.follows p h)

-- what the root's row has of a seat is what the history says
applied_root : (l : Settings) (w : World) (c : Common) (locals : ℕ → Local) (a : Follows l w c locals) (p : ℕ) →
    p < seats_of l → applied_in l w p ≡ applied (c.words_at c.top) p
applied_root l w c locals a p h = ap (λ r. applied_at l w.words r p) (root_word l w c locals a)
    ∙ applied_word l w c locals a c.top p (omega arith) h

-- after two lost exchanges an add is in the row
pub is_helped : OfEach IsHelped
is_helped l es p ok h e =
    let a = holds l ok es in
    let w = world_after l es in
    let k = keeps_at l w a.common a.locals a.follows p (LoadRoot 2) h e in
    let r = a.follows.kept.shared.helped.helped p a.common.top h k.after (omega arith) in
    omega (arith, r, k.works.number_is, applied_root l w a.common a.locals a.follows p h)

-- an add that ends is in effect
pub is_applied : OfEach IsApplied
is_applied l es p ok h count e =
    let a = holds l ok es in
    let w = world_after l es in
    let k = keeps_at l w a.common a.locals a.follows p (StoreDone count) h e in
    omega (arith, k.rests.applied_is, k.rests.number_is, applied_root l w a.common a.locals a.follows p h)

-- no add takes more than the bound
pub is_bounded : OfEach IsBounded
is_bounded l es p ok h =
    let a = holds l ok es in
    let r = a.follows.kept.paced p h in
    let e = a.follows.seats_are p h in (
      omega (arith, r.now, ap (λ (s : Seat). s.steps) e),
      subst (λ (s : Seat). All (λ added. added.steps ≤ step_bound (seats_of l)) s.log) (sym e) r.before,
    )

-- ---- the order

-- each ended add stands once in the order
pub is_whole : OfEach IsWhole
is_whole l es p ok h =
    let a = holds l ok es in
    let w = world_after l es in
    let c = a.common in
    let s = (a.locals p).seat in
    let g = a.follows.kept.logs p h in
    let k = a.follows.kept.seats p h in
    let top = applied_root l w c a.locals a.follows p h in
    let e = a.follows.seats_are p h in
    record {
      numbers = ap (numbers_of p) (order_is l w c a.locals a.follows)
          ∙ numbers_are l w c a.locals a.follows p c.top h (omega arith) ∙ ap up_to (sym top);
      ended = omega (
        arith,
        ap (λ (x : Seat). length x.log) e,
        top,
        ended_applied l c p s.caller (a.locals p).base s.phase (length s.log) k g.counted
            (a.follows.kept.shared.helped.near p h),
      );
      begun = omega (
        arith,
        ap (λ (x : Seat). x.caller.number) e,
        top,
        a.follows.kept.shared.helped.real p h,
        (number_between l c p s.caller (a.locals p).base s.phase (length s.log) k g.counted).1,
      );
      counted = subst (λ (x : Seat). x.caller.number ≡ length x.log + cond (is_idle x.phase) 0 1) (sym e) g.counted;
    }

-- an add stands where its seat's applied number rises
record Stood (l : Settings) (w : World) (c : Common) (p number : ℕ) (seen : List ℕ) : Type 0 where
  version : ℕ
  inside : version < c.top
  items : List Item
  item : Item
  standing : StandsAfter (seats_of l) (order_of l w.words) p number seen
      (map entry_of (items_to c.items_at version ++ items))
  item_is : entry_of item ≡ (p, number)
  op_is : item.op ≡ c.call_at p (number - 1)
  front_is : Answers (c.words_at version) (c.words_at (version + 1)) (c.items_at version) p item
  items_are : front_is.front ≡ items
  reached : applied (c.words_at (version + 1)) p ≡ number

-- a front has no more adds of a seat than the whole
how_many-append : (q : ℕ) (xs ys : List Entry) → how_many q xs ≤ how_many q (xs ++ ys)
how_many-append q xs ys = omega (arith, sum_by-append (λ (e : Entry). cond (eqb e.0 q) 1 0) xs ys)

-- an add in effect stands at its item
stood : (l : Settings) (w : World) (c : Common) (locals : ℕ → Local) (a : Follows l w c locals) (p number : ℕ) →
    p < seats_of l → 0 < number → Rise c p number → Stood l w c p number (c.seen_at p (number - 1))
stood l w c locals a p number h some r =
    let v = r.version in
    let s = a.kept.story v r.within in
    let f : applied (c.words_at v) p < applied (c.words_at (v + 1)) p = omega (arith, r.before_is, r.after_is) in
    let item : Item = record { seat = p; op = c.call_at p (applied (c.words_at (v + 1)) p - 1) } in
    let t = s.answered p h f in
    let few : number - 1 < c.number p = omega (
      arith,
      r.after_is,
      some,
      a.kept.shared.chain.rises (v + 1) c.top p (omega (arith, r.within)) (omega arith) h,
      a.kept.shared.helped.real p h,
    ) in
    let call : item.op ≡ c.call_at p (number - 1) = ap (λ n. c.call_at p (n - 1)) r.after_is in
    let number_is : item.op.number ≡ number =
    omega (arith, ap (λ o. o.number) call, a.kept.shared.calls.numbered p (number - 1) h few, some) in
    let split = items_split c.items_at (suc v) (c.top - suc v) in
    let top_is : (c.top - suc v) + suc v ≡ c.top = omega (arith, r.within) in
    let all : items_to c.items_at c.top ≡ (items_to c.items_at v ++ c.items_at v) ++ split.0 =
    ap (items_to c.items_at) (sym top_is) ∙ split.1 in
    let placed : items_to c.items_at c.top ≡ (items_to c.items_at v ++ t.front) ++ item ∷ (t.rest ++ split.0) =
    all ∙ ap (λ xs. (items_to c.items_at v ++ xs) ++ split.0) t.stands
    ∙ append_assoc (items_to c.items_at v) (t.front ++ item ∷ t.rest) split.0
    ∙ ap (λ xs. items_to c.items_at v ++ xs) (append_assoc t.front (item ∷ t.rest) split.0)
    ∙ sym (append_assoc (items_to c.items_at v) t.front (item ∷ (t.rest ++ split.0))) in
    record {
      version = v;
      inside = r.within;
      items = t.front;
      item = item;
      standing = record {
        rest = map entry_of (t.rest ++ split.0);
        stands = order_is l w c locals a ∙ ap (map entry_of) placed
            ∙ map-append entry_of (items_to c.items_at v ++ t.front) (item ∷ (t.rest ++ split.0))
            ∙ ap (λ n. let x : Entry = (p, n) in
            map entry_of (items_to c.items_at v ++ t.front) ++ x ∷ map entry_of (t.rest ++ split.0)) number_is;
        after = λ q hq.
            omega (
              arith,
              s.after p q h hq f,
              ap (λ n. get_or (c.seen_at p (n - 1)) q 0) r.after_is,
              how_many_are l w c locals a q v hq (omega (arith, r.within)),
              how_many-append q (map entry_of (items_to c.items_at v)) (map entry_of t.front),
              ap (how_many q) (map-append entry_of (items_to c.items_at v) t.front),
            );
      };
      item_is = ap (λ n. let x : Entry = (p, n) in x) number_is;
      op_is = call;
      front_is = t;
      items_are = refl;
      reached = r.after_is;
    }

-- and was answered the count of the order there
answered_count : (l : Settings) (w : World) (c : Common) (locals : ℕ → Local) (a : Follows l w c locals)
    (p number : ℕ) (seen : List ℕ) → p < seats_of l → (s : Stood l w c p number seen) → s.item.op.class < 3 →
    reply_of (c.words_at (s.version + 1)) p ≡ get_or l.first.counts s.item.op.class 0 + items_of s.item.op.class
    (items_to c.items_at s.version ++ s.items ++ s.item ∷ [])
answered_count l w c locals a p number seen h s k =
    let class = s.item.op.class in
    let v = s.version in
    let up = s.front_is.front ++ s.item ∷ [] in
    let sums = Effects.sums l w c locals a v class (omega (arith, s.inside)) k in
    let split : c.items_at v ≡ up ++ s.front_is.rest =
    s.front_is.stands ∙ sym (append_assoc s.front_is.front (s.item ∷ []) s.front_is.rest) in
    let shorter : length up ≤ length (c.items_at v) =
    omega (arith, ap (length {A = Item}) split, length-append up s.front_is.rest) in
    let room = Effects.room_for l w c locals a v class up s.inside k shorter sums in
    let fair = fair_front (seats_of l) up s.front_is.rest
    (subst (λ xs. Fair (seats_of l) xs) split
    (Effects.fair_named l w c locals a (c.items_at v) (a.kept.story v s.inside).named)) in
    let long = a.kept.shared.chain.long v (omega (arith, s.inside)) in
    let counted = count_after_items (seats_of l) (c.words_at v) up class k fair long room.0 in
    let all : items_of class (items_to c.items_at v ++ s.items ++ s.item ∷ []) ≡ items_of class
    (items_to c.items_at v) + items_of class up =
    ap (items_of class) (append_assoc (items_to c.items_at v) s.items (s.item ∷ [])
    ∙ ap (λ xs. items_to c.items_at v ++ (xs ++ s.item ∷ [])) (sym s.items_are))
    ∙ items_of-append class (items_to c.items_at v) up in
    omega (arith, s.front_is.reply_is, counted, sums.count, all)

-- the adds up to one that stands are announced
stood_named : (l : Settings) (w : World) (c : Common) (locals : ℕ → Local) (a : Follows l w c locals) (p number : ℕ)
    (seen : List ℕ) → (s : Stood l w c p number seen) →
    Named l c.number c.call_at (items_to c.items_at s.version ++ s.items ++ s.item ∷ [])
stood_named l w c locals a p number seen s =
    let v = s.version in
    let next : Named l c.number c.call_at (items_to c.items_at (suc v)) =
    Effects.named_to l w c locals a (suc v) (omega (arith, s.inside)) in
    let split : items_to c.items_at (suc v) ≡ (items_to c.items_at v ++ s.items ++ s.item ∷ []) ++ s.front_is.rest =
    ap (λ xs. items_to c.items_at v ++ xs) (s.front_is.stands ∙ ap (λ xs. xs ++ s.item ∷ s.front_is.rest) s.items_are
    ∙ sym (append_assoc s.items (s.item ∷ []) s.front_is.rest))
    ∙ sym (append_assoc (items_to c.items_at v) (s.items ++ s.item ∷ []) s.front_is.rest)
    ∙ ap (λ xs. xs ++ s.front_is.rest) (sym (append_assoc (items_to c.items_at v) s.items (s.item ∷ []))) in
    Effects.named_front l w c locals a (items_to c.items_at v ++ s.items ++ s.item ∷ []) s.front_is.rest
    (subst (Named l c.number c.call_at) split next)

-- zeros are all that stands behind
no_more : (n q : ℕ) → get_or {A = ℕ} (replicate n 0) q 0 ≡ 0
no_more zero q = refl
no_more (suc n) zero = refl
no_more (suc n) (suc q) = no_more n q

-- seen counts with zeros behind them are at most themselves
padded : (xs : List ℕ) (n q : ℕ) → get_or (xs ++ replicate n 0) q 0 ≤ get_or xs q 0
padded [] n q = omega (arith, no_more n q)
padded (x ∷ xs) n zero = omega arith
padded (x ∷ xs) n (suc q) = padded xs n q

-- an answered add stands in the order with its count
answer_stands : (l : Settings) (w : World) (c : Common) (locals : ℕ → Local) (a : Follows l w c locals) (p i : ℕ)
    (added : Added) → p < seats_of l → Answer l c p i added → IsAnswered l w p (i + 1) added
answer_stands l w c locals a p i added h r =
    let some : 0 < i + 1 = omega arith in
    let s = stood l w c locals a p (i + 1) h some
    (rise l w c locals a p r.version (i + 1) h r.within some r.applied_is) in
    let at : i + 1 - 1 ≡ i = omega arith in
    let op : s.item.op ≡ op_of_added added = s.op_is ∙ ap (c.call_at p) at ∙ sym r.call_is in
    let class_is : s.item.op.class ≡ added.add.class = ap (λ o. o.class) op in
    let k : s.item.op.class < 3 = omega (
      arith,
      ap (λ o. o.class) (s.op_is ∙ ap (c.call_at p) at),
      a.kept.shared.calls.classed p i h r.announced,
    ) in
    let v = s.version in
    let same_reply : reply_of (c.words_at r.version) p ≡ reply_of (c.words_at (v + 1)) p =
    elim (cases_lt (v + 1) r.version) [
      | inl g ↦ sym (a.kept.shared.chain.replies (v + 1) r.version p (omega arith) r.within h
          (s.reached ∙ sym r.applied_is))
      | inr g ↦ a.kept.shared.chain.replies r.version (v + 1) p g (omega (arith, s.inside)) h
          (r.applied_is ∙ sym s.reached)
    ] in
    let seen_at : c.seen_at p (i + 1 - 1) ≡ c.seen_at p i = ap (c.seen_at p) at in
    let front = map entry_of (items_to c.items_at v ++ s.items) in
    let upto : adds_in w (front ++ (p, i + 1) ∷ []) ≡ adds_in w
    (map entry_of (items_to c.items_at v ++ s.items ++ s.item ∷ [])) =
    ap (adds_in w) (ap (λ e. front ++ e ∷ []) (sym s.item_is)
    ∙ sym (map-append entry_of (items_to c.items_at v ++ s.items) (s.item ∷ []))) in
    record {
      front = front;
      standing = record {
        rest = s.standing.rest;
        stands = s.standing.stands;
        after = λ q hq. omega (
          arith,
          s.standing.after q hq,
          ap (λ xs. get_or xs q 0) seen_at,
          ap (λ xs. get_or xs q 0) r.seen_is,
          padded (c.seen_at p i) (8 - length (c.seen_at p i)) q,
        );
      };
      counted = r.count_is ∙ same_reply ∙ answered_count l w c locals a p (i + 1) (c.seen_at p (i + 1 - 1)) h s k
          ∙ ap (λ n. get_or l.first.counts s.item.op.class 0 + n)
          (sym (Effects.adds_same l w c locals a s.item.op.class (items_to c.items_at v ++ s.items ++ s.item ∷ [])
          (stood_named l w c locals a p (i + 1) (c.seen_at p (i + 1 - 1)) s)))
          ∙ ap (λ xs. get_or l.first.counts s.item.op.class 0 + adds_of s.item.op.class xs) (sym upto)
          ∙ ap (λ x. get_or l.first.counts x 0 + adds_of x (adds_in w (front ++ (p, i + 1) ∷ []))) class_is;
      seat_is = r.seat_is;
      number_is = r.number_is;
    }

-- and so do all
pub are_answered : OfEach AreAnswered
are_answered l es p ok h i added e =
    let a = holds l ok es in
    let w = world_after l es in
    let same = a.follows.seats_are p h in
    let e' : slice_get (a.locals p).seat.log i ≡ Some added = ap (λ (s : Seat). slice_get s.log i) (sym same) ∙ e in
    let long = slice_get_within (a.locals p).seat.log i added e' in
    let is : get_or (a.locals p).seat.log i blank ≡ added =
    get_or_from_slice_get (a.locals p).seat.log i added blank e' in
    answer_stands l w a.common a.locals a.follows p i added h
    (subst (Answer l a.common p i) is ((a.follows.kept.logs p h).answered i long))

-- an add that did not end is in the order at most once
pub is_pending : OfEach IsPending
is_pending l es p ok h some =
    let a = holds l ok es in
    let w = world_after l es in
    let c = a.common in
    let s = (a.locals p).seat in
    let same = a.follows.seats_are p h in
    let g = (a.follows.kept.logs p h).counted in
    let k = a.follows.kept.seats p h in
    let top = applied_root l w c a.locals a.follows p h in
    let number = applied (c.words_at c.top) p in
    let positive : 0 < number = omega (arith, some, top) in
    let real = a.follows.kept.shared.helped.real p h in
    let ended : length s.log ≤ number - 1 = omega (arith, some, top, ap (λ (x : Seat). length x.log) same) in
    let now = current l c p s.caller (a.locals p).base s.phase (length s.log) (number - 1) k g
    (omega (arith, real, positive)) ended in
    let t = stood l w c a.locals a.follows p number h positive
    (rise l w c a.locals a.follows p c.top number h (omega arith) positive refl) in
    let number_is : number ≡ (seat_in w p).caller.number =
    omega (arith, now.number_is, positive, ap (λ (x : Seat). x.caller.number) same) in
    let seen_is : c.seen_at p (number - 1) ≡ (seat_in w p).caller.seen =
    now.seen_is ∙ ap (λ (x : Seat). x.caller.seen) (sym same) in
    let front = map entry_of (items_to c.items_at t.version ++ t.items) in (
      front,
      subst (λ n. StandsAfter (seats_of l) (order_of l w.words) p n (seat_in w p).caller.seen front) number_is
          (subst (λ xs. StandsAfter (seats_of l) (order_of l w.words) p number xs front) seen_is t.standing),
    )

-- the closed totals are those of the adds in the order
pub are_totals : (l : Settings) (es : List Event) (class : ℕ) → AreSettings l → class < 3 → AreTotals l es class
are_totals l es class ok h =
    let a = holds l ok es in
    let w = world_after l es in
    let c = a.common in
    let s = Effects.sums l w c a.locals a.follows c.top class (omega arith) h in
    let named = Effects.named_to l w c a.locals a.follows c.top (omega arith) in
    let order = order_is l w c a.locals a.follows in
    let root = root_word l w c a.locals a.follows in
    record {
      count = ap (λ r. word_at l w.words (StateWord r (1 + class))) root
          ∙ row_word l w c a.locals a.follows c.top (1 + class) (omega arith) (omega arith) ∙ s.count
          ∙ ap (λ n. get_or l.first.counts class 0 + n)
          (sym (Effects.adds_same l w c a.locals a.follows class (items_to c.items_at c.top) named)
          ∙ ap (λ xs. adds_of class (adds_in w xs)) (sym order));
      bytes = ap (λ r. word_at l w.words (StateWord r (4 + class))) root
          ∙ row_word l w c a.locals a.follows c.top (4 + class) (omega arith) (omega arith) ∙ s.bytes
          ∙ ap (λ n. get_or l.first.bytes class 0 + n)
          (sym (Effects.bytes_same l w c a.locals a.follows class (items_to c.items_at c.top) named)
          ∙ ap (λ xs. length_of class (adds_in w xs)) (sym order));
    }

-- ---- how long the order is

-- the numbers of adds are small
named_small : (l : Settings) (w : World) (c : Common) (locals : ℕ → Local) (a : Follows l w c locals)
    (items : List Item) → Named l c.number c.call_at items → All (λ (e : Entry). e.1 < 2 ^ 32) (map entry_of items)
named_small l w c locals a [] n = All-nil (λ (e : Entry). e.1 < 2 ^ 32)
named_small l w c locals a (item ∷ items) n =
    let small : item.op.number < 2 ^ 32 = omega (
      arith,
      n.2,
      a.kept.shared.calls.few item.seat n.0,
      get_or-le-sum_by (λ k. k) l.adds item.seat 0 n.0,
      a.kept.shared.settings.rows,
    ) in
    All-cons (λ (e : Entry). e.1 < 2 ^ 32) (entry_of item) (map entry_of items) small
    (named_small l w c locals a items n.4)

-- the order is no longer than there is room
pub is_short_order : (l : Settings) (es : List Event) → AreSettings l → IsShortOrder l es
is_short_order l es ok =
    let a = holds l ok es in
    let w = world_after l es in
    let c = a.common in
    let order = order_is l w c a.locals a.follows in
    let named = Effects.named_to l w c a.locals a.follows c.top (omega arith) in (
      omega (
        arith,
        ap (length {A = Entry}) order,
        length_map (items_to c.items_at c.top),
        items_few l w c a.locals a.follows c.top (omega arith),
      ),
      subst (All (λ (e : Entry). e.1 < 2 ^ 32)) (sym order)
          (named_small l w c a.locals a.follows (items_to c.items_at c.top) named),
    )
