-- Each word has 64 bits.
use Rattle.std.proofs.Common.{◌≡◌, ℕ, zero, suc, ◌+◌, ◌-◌, ◌*◌, ◌^◌, ◌<◌, ◌≤◌, true, eqb, ltb, ◌&&◌, List, [], ◌∷◌, ◌++◌, length, get_or, set, sum, replicate, inl, inr, sym, ap, ◌∙◌, subst, arith}
use Rattle.std.specs.Prelude.{All}
use Rattle.std.proofs.lemmas.Bool.{cond_both, ltb-true, and_parts, cases_lt}
use Rattle.std.proofs.lemmas.List.Elements.{All-get_or, All-from_get_or, All-set, All-append, All-replicate, All-from_recursion}
use Rattle.std.proofs.Math.Nat.{mod-lt}
use Rattle.std.proofs.lemmas.List.{get_or_past}
use Rattle.std.proofs.lemmas.List.Sums.{get_or-le-sum_by}
use Rattle.sim_steps.specs.declared.adds.Add.{Add}
use Rattle.sim_steps.specs.declared.adds.Op.{Op}
use Rattle.sim_steps.specs.declared.words.Ask.{Ask}
use Rattle.sim_steps.specs.declared.words.Ask.TheVariants.{Load, Store, Exchange}
use Rattle.sim_steps.specs.declared.words.Address.TheVariants.{StateWord}
use Rattle.sim_steps.specs.Layout.{Settings, AreSettings, seats_of, room_of, row_words, desk_of}
use Rattle.sim_steps.specs.Program.{Phase, Idle, LoadDone, StoreOp, Announce, LoadRoot, LoadRow, LoadAnnouncement, LoadOp, StoreRow, Publish, StoreDone, Seat, Caller, ready, in_word, with_op, is_new, apply_op, apply_all, no_op, op_of, op_words, next_in}
use Rattle.sim_steps.specs.World.{World, Event, place_of, address_of, becomes, opening_row, opening_words, opening, can_act, seat_in, acts, happens, world_from}
use Rattle.sim_steps.specs.Laws.{AreWords}
use Rattle.sim_steps.proofs.Apart.{op_row_within, state_row_within}
use Rattle.sim_steps.proofs.Ghost.{Common, Local, Shared, Keeps, Makes}
use Rattle.sim_steps.proofs.Runs.{Follows, Holds, ready_keeps, happens_holds, start_holds, holds}

-- a word has 64 bits
abbrev Small : ℕ → Type 0
Small word = word < 2 ^ 64

-- what is cut to a word is one
small_mod : (n : ℕ) → in_word n < 2 ^ 64
small_mod n = mod-lt n {m = 2 ^ 64} (omega arith)

-- ---- rows

-- an op leaves the words of a row small
small_with_op : (row : List ℕ) (seat : ℕ) (op : Op) → op.number < 2 ^ 64 → All Small row →
    All Small (with_op row seat op)
unfolding with_op
small_with_op row seat op h a =
    let n = in_word (get_or row (1 + op.class) 0 + 1) in
    let y = in_word (get_or row (4 + op.class) 0 + op.length) in
    All-set Small (set (set (set row (1 + op.class) n) (4 + op.class) y) (7 + 2 * seat) op.number) (8 + 2 * seat) n
    (small_mod (get_or row (1 + op.class) 0 + 1))
    (All-set Small (set (set row (1 + op.class) n) (4 + op.class) y) (7 + 2 * seat) op.number h
    (All-set Small (set row (1 + op.class) n) (4 + op.class) y (small_mod (get_or row (4 + op.class) 0 + op.length))
    (All-set Small row (1 + op.class) n (small_mod (get_or row (1 + op.class) 0 + 1)) a)))

-- and so do all ops
small_apply_all : (seat : ℕ) (found : List Op) (row : List ℕ) →
    ((i : ℕ) → i < length found → (get_or found i no_op).number < 2 ^ 64) → All Small row →
    All Small (apply_all seat found row)
small_apply_all seat [] row h a = a
small_apply_all seat (op ∷ found) row h a =
    small_apply_all (seat + 1) found (apply_op row seat op) (λ i k. h (suc i) (omega arith))
    (cond_both (is_new row seat op) (with_op row seat op) row (All Small)
    (λ e. small_with_op row seat op (h 0 (omega arith)) a) (λ e. a))

-- ---- what a seat stores

-- a number of an add is small
number_small : (l : Settings) (me n : ℕ) → sum l.adds < 2 ^ 32 → me < seats_of l → n ≤ room_of l me → n < 2 ^ 64
number_small l me n rows h few = omega (arith, get_or-le-sum_by (λ k. k) l.adds me 0 h)

-- what is stored is a word
abbrev SmallAsk : Ask → Type 0
SmallAsk (Load from) = Unit {0}
SmallAsk (Store to new) = new < 2 ^ 64
SmallAsk (Exchange old new) = new < 2 ^ 64

-- the words of an op are small
word_small : (op : Op) (i : ℕ) → op.number < 2 ^ 64 → op.class < 2 ^ 64 → op.length < 2 ^ 64 →
    get_or (op_words op) i 0 < 2 ^ 64
word_small op zero h k m = h
word_small op (suc zero) h k m = k
word_small op (suc (suc zero)) h k m = m
word_small op (suc (suc (suc i))) h k m = omega arith

-- the words of each version
abbrev SmallRows : Settings → Common → Type 0
SmallRows l c = (v : ℕ) → v ≤ c.top → All Small (c.words_at v)

-- and those of a row that is made
row_small : (l : Settings) (c : Common) (me base root : ℕ) (row : List ℕ) → Shared l c → SmallRows l c →
    base ≤ c.top → Makes l c me base root row → All Small row
row_small l c me base root row s r h m =
    subst (All Small) (sym m.row_is)
    (All-set Small (apply_all 0 m.found (c.words_at base)) 0 (in_word (root + 1)) (small_mod (root + 1))
    (small_apply_all 0 m.found (c.words_at base) found (r base h)))
  where
    found : (i : ℕ) → i < length m.found → (get_or m.found i no_op).number < 2 ^ 64
    found i k =
        let i' : i < seats_of l = omega (arith, m.all) in
        elim (m.entries i k).real [
          | inl e ↦ omega (arith, ap (λ o. o.number) e)
          | inr e ↦ omega (
            arith,
            ap (λ o. o.number) e.2,
            s.calls.numbered i e.0 i' e.1,
            number_small l i (e.0 + 1) s.settings.rows i' (omega (arith, e.1, s.calls.few i i')),
          )
        ]

-- an element, also beyond the end
small_at : (row : List ℕ) (i : ℕ) → All Small row → get_or row i 0 < 2 ^ 64
small_at row i a = elim (cases_lt i (length row)) [
  | inl g ↦ All-get_or Small row i 0 g a
  | inr g ↦ omega (arith, get_or_past row i 0 g)
]

-- so what a seat stores is a word
small_ask : (l : Settings) (me : ℕ) (c : Common) (seat : Caller) (base : ℕ) (phase : Phase) → me < seats_of l →
    Shared l c → SmallRows l c → Keeps l c me seat base phase → SmallAsk (next_in (desk_of l me) seat phase)
small_ask l me c seat base Idle h s r k = tt
small_ask l me c seat base LoadDone h s r k = tt
small_ask l me c seat base (StoreOp i) h s r k =
    word_small (op_of seat) i (number_small l me seat.number s.settings.rows h k.begins.few)
    (omega (arith, k.begins.classed)) (omega (arith, k.begins.short))
small_ask l me c seat base Announce h s r k =
    omega (arith, op_row_within l me (seat.number - 1) (omega (arith, k.begins.few, k.begins.spare)), s.settings.rows)
small_ask l me c seat base (LoadRoot turn) h s r k = tt
small_ask l me c seat base (LoadRow turn root row) h s r k = tt
small_ask l me c seat base (LoadAnnouncement turn root row found) h s r k = tt
small_ask l me c seat base (LoadOp turn root row found op words) h s r k = tt
small_ask l me c seat base (StoreRow turn root row i) h s r k =
    small_at row i (row_small l c me base root row s r k.looks.old k.makes)
small_ask l me c seat base (Publish turn root row) h s r k =
    omega (arith, state_row_within l me seat.made (omega (arith, k.works.spare, k.works.few)), s.settings.rows)
small_ask l me c seat base (StoreDone count) h s r k = number_small l me seat.number s.settings.rows h k.rests.few

-- ---- the words after a step

-- the rows of versions have small words
rows_small : (l : Settings) (w : World) (c : Common) (locals : ℕ → Local) → Follows l w c locals →
    All Small w.words → SmallRows l c
rows_small l w c locals a all v h =
    All-from_get_or Small (c.words_at v) 0 (λ i k.
    let inside : i < row_words (seats_of l) = omega (arith, k, a.kept.shared.chain.long v h) in
    subst (λ x. x < 2 ^ 64) (a.laid_flat.same (StateWord (c.row_at v) i) (a.kept.shared.chain.within v h, inside)
    ∙ a.kept.shared.chain.rows_are v i h inside)
    (small_at w.words (place_of l (StateWord (c.row_at v) i)) all))

-- what a word becomes is a word
becomes_small : (ask : Ask) (word : ℕ) → SmallAsk ask → word < 2 ^ 64 → becomes ask word < 2 ^ 64
becomes_small (Load from) word s h = h
becomes_small (Store to new) word s h = s
becomes_small (Exchange old new) word s h = cond_both (eqb word old) new word Small (λ e. s) (λ e. h)

-- a step leaves all words small
acts_small : (l : Settings) (w : World) (me : ℕ) (a : Add) → me < seats_of l → can_act l me a (seat_in w me) ≡ true →
    Holds l w → All Small w.words → All Small (acts l me (ready a (seat_in w me)) w).words
acts_small l w me a h t o all =
    let same : (o.locals me).seat ≡ seat_in w me = sym (o.follows.seats_are me h) in
    let can : can_act l me a (o.locals me).seat ≡ true = ap (can_act l me a) same ∙ t in
    let y = ready_keeps l me o.common a (o.locals me).base (o.locals me).seat h (o.follows.kept.seats me h)
    (o.follows.kept.logs me h) (o.follows.kept.paced me h) can in
    let r : Seat = ready a (o.locals me).seat in
    let ask : Ask = next_in (desk_of l me) r.caller r.phase in
    let s = small_ask l me o.common r.caller (o.locals me).base r.phase h o.follows.kept.shared
    (rows_small l w o.common o.locals o.follows all) y.keeps in
    subst (λ x. All Small (acts l me (ready a x) w).words) same
    (All-set Small w.words (place_of l (address_of ask)) (becomes ask (get_or w.words (place_of l (address_of ask)) 0))
    (becomes_small ask (get_or w.words (place_of l (address_of ask)) 0) s
    (small_at w.words (place_of l (address_of ask)) all)) all)

-- and so do events
run_small : (l : Settings) (es : List Event) (w : World) → Holds l w → All Small w.words →
    All Small (world_from l w es).words
run_small l [] w o a = a
run_small l (e ∷ es) w o a =
    run_small l es (happens l w e) (happens_holds l w e o)
    (cond_both {A = World} (ltb e.seat (seats_of l) && can_act l e.seat e.add (seat_in w e.seat))
    (acts l e.seat (ready e.add (seat_in w e.seat)) w) w (λ v. All Small v.words)
    (λ t. let both = and_parts (ltb e.seat (seats_of l)) (can_act l e.seat e.add (seat_in w e.seat)) t in
    acts_small l w e.seat e.add (ltb-true e.seat (seats_of l) both.0) both.1 o a)
    (λ t. a))

-- the opening's words are small
opening_small : (l : Settings) → AreSettings l → All Small (opening_words l)
unfolding opening_row
opening_small l ok =
    let f = l.first in
    let front : List ℕ = 0 ∷ get_or f.counts 0 0 ∷ get_or f.counts 1 0 ∷ get_or f.counts 2 0 ∷ get_or f.bytes 0
    0 ∷ get_or f.bytes 1 0 ∷ get_or f.bytes 2 0 ∷ [] in
    let zero_small : 0 < 2 ^ 64 = omega arith in
    let zeros : (n : ℕ) → All Small (replicate n 0) = λ n. All-replicate Small n 0 zero_small in
    let count : (class : ℕ) → class < 3 → get_or l.first.counts class 0 < 2 ^ 64 =
    λ class h. omega (arith, (ok.small class h).0) in
    let bytes : (class : ℕ) → class < 3 → get_or l.first.bytes class 0 < 2 ^ 64 =
    λ class h. omega (arith, (ok.small class h).1) in
    All-append Small (replicate (place_of l (StateWord 0 0)) 0 ++ opening_row l)
    (replicate (sum l.adds * row_words (seats_of l)) 0)
    (All-append Small (replicate (place_of l (StateWord 0 0)) 0) (opening_row l) (zeros (place_of l (StateWord 0 0)))
    (All-append Small front (replicate (2 * seats_of l) 0)
    (All-from_recursion Small front (
      zero_small,
      (
        count 0 (omega arith),
        (
          count 1 (omega arith),
          (
            count 2 (omega arith),
            (
              bytes 0 (omega arith),
              (bytes 1 (omega arith), (bytes 2 (omega arith), tt)),
            ),
          ),
        ),
      ),
    ))
    (zeros (2 * seats_of l))))
    (zeros (sum l.adds * row_words (seats_of l)))

-- all words of a run are words
pub are_words : (l : Settings) (es : List Event) → AreSettings l → AreWords l es
are_words l es ok = (
  (holds l ok es).follows.laid_flat.long,
  run_small l es (opening l) (start_holds l ok) (opening_small l ok),
)
