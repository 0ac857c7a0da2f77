-- How adders are put together again, and what is known at the end.
use Rattle.std.proofs.Common.{◌≡◌, ℕ, zero, suc, ◌+◌, ◌<◌, ◌≤◌, List, [], ◌∷◌, ◌++◌, length, set, cond, eqb, ltb, inl, inr, ⊎_elim, Some, refl, sym, ap, ◌∙◌, subst, arith}
use Rattle.std.specs.Prelude.{All}
use Rattle.std.proofs.lemmas.Bool.{cases_eq, cond-true, lt-ltb}
use Rattle.std.proofs.lemmas.Bool.Decides.{nat_tests}
use Rattle.std.proofs.lemmas.List.Elements.{All-nil, All-cons, All-pop}
use Rattle.std.proofs.lemmas.List.Sums.{sum_by-cons}
use mathlib.Core.Option.{some}
use lib.ListN.{get_elem?}
use Rattle.atomic_table.specs.Table.{Joins, Final, Seen}
use Rattle.atomic_table.proofs.Lists.{at_set, set_else}
use Rattle.sim_steps.specs.Layout.{Settings, seats_of}
use Rattle.sim_steps.specs.World.{Event}
use Rattle.sim_totals.specs.declared.view.View.{View}
use Rattle.sim_totals.specs.Rule.{Entry, view, one, M, is_at, times, once_below, total, Among, ShowsRun, together, spent}
use Rattle.sim_totals.specs.Values.{AdderValue, TableValue, IsLeft, IsOf, adders_of}
use Rattle.sim_totals.specs.Insides.{Token, entries, HasAll, Left}
use Rattle.sim_totals.proofs.Lists.{total-set, term_le, once_few}
use Rattle.sim_totals.proofs.Parts.{times-append}

-- seats of two views are those of both together
among-append : (c : Settings) (run : List Event) (d : Settings) (xs ys : List Entry) → Among c run d xs →
    Among c run d ys → Among c run d (xs ++ ys)
among-append c run d [] ys a b = b
among-append c run d (x ∷ xs) ys a b = (a.0, a.1, a.2, a.3, a.4, among-append c run d xs ys a.5 b)

-- two views of one table can be joined
pub joins : (c : Settings) (id : ℕ) (v : View) (other : ℕ) (w : View) → w.settings ≡ v.settings →
    Joins (ShowsRun c) id v other w (together v w) spent
joins c id v other w same s r at ne at' =
    let run : List Event = r.run in
    let both : View = together v w in
    let there : get_elem? s.views other ≡ some w = sym (set_else s.views id other both ne) ∙ at' in
    let a : Among c run both.settings both.bundle =
    among-append c run v.settings w.bundle v.bundle
    (subst (λ (d : Settings). Among c run d w.bundle) same (r.agrees other w there)) (r.agrees id v at) in
    record {
      run = r.run;
      steps = r.steps;
      words = r.words;
      agrees = λ by u got. ⊎_elim (λ hit. subst (λ (x : View). Among c run x.settings x.bundle) hit.1 tt)
          (λ miss. ⊎_elim (λ hit. subst (λ (x : View). Among c run x.settings x.bundle) hit.1 a)
          (λ far. r.agrees by u far.1) (at_set s.views id by both u miss.1))
          (at_set (set s.views id both) other by spent u got);
      once = λ i.
          let g : View → ℕ = λ u. times i u.bundle in
          let one : total g (set s.views id both) + g v ≡ total g s.views + g both = total-set g s.views id v both at in
          let two : total g (set (set s.views id both) other spent) + g w ≡ total g (set s.views id both) + g spent =
          total-set g (set s.views id both) other w spent at' in
          let before : total g s.views ≡ once_below (seats_of c) i = r.once i in
          let cut : g both ≡ g w + g v = times-append i w.bundle v.bundle in
          omega arith;
    }

-- what holds of a list with one more holds of the list and of it
pub all_of-end : (d : TableValue) (xs : List AdderValue) (x : AdderValue) → All (IsOf d) (xs ++ x ∷ []) →
    All (IsOf d) xs × IsOf d x
all_of-end d xs x h = All-pop (IsOf d) (xs ++ x ∷ []) xs (Some x) refl h

-- one adder more is gathered
pub gathers : (d : TableValue) (done : List AdderValue) (x : AdderValue) (t u t' : Token) → HasAll d done t →
    x.settings ≡ d.settings → u.me ≡ (one x.settings x.number x.seat x.seen, [])
    → t'.table_id ≡ t.table_id → t'.me ≡ (together t.me.0 u.me.0, t.me.1) → HasAll d (x ∷ done) t'
gathers d done x t u t' h same u_is table me =
    let f : M → M → M = λ m k. (together m.0 k.0, m.1) in
    record { table = table ∙ h.table; me = me ∙ (λ i. f (h.me i) (u_is i)) }

-- and the first one
pub gathers_first : (d : TableValue) (x : AdderValue) (t : Token) → x.table_id ≡ d.table_id →
    x.settings ≡ d.settings → t.table_id ≡ x.table_id → t.me ≡ (one x.settings x.number x.seat x.seen, []) →
    HasAll d (x ∷ []) t
gathers_first d x t table same t_table me = let f : Settings → M = λ c. (one c x.number x.seat x.seen, []) in
    record { table = t_table ∙ table; me = me ∙ ap f same }

-- how often the seats below n stand in a list, all together
abbrev times_below : ℕ → List Entry → ℕ
times_below zero es = 0
times_below (suc n) es = times n es + times_below n es

-- no entry is of no seat
below_nil : (n : ℕ) → times_below n [] ≡ 0
below_nil zero = refl
below_nil (suc n) = omega (arith, below_nil n)

-- with one seat more
once_below-suc : (n k : ℕ) → once_below (suc n) k ≡ is_at k n + once_below n k
once_below-suc n k = grind (arith, nat_tests)

-- with one entry more
below_cons : (n : ℕ) (e : Entry) (es : List Entry) → times_below n (e ∷ es) ≡ once_below n e.0 + times_below n es
below_cons zero e es = grind (arith, nat_tests)
below_cons (suc n) e es = omega (arith, below_cons n e es, once_below-suc n e.0)

-- entries of a table's seats are counted by their seats
below_length : (c : Settings) (run : List Event) (d : Settings) (es : List Entry) → Among c run d es →
    times_below (seats_of c) es ≡ length es
below_length c run d [] a = below_nil (seats_of c)
below_length c run d (e ∷ es) a =
    let one : once_below (seats_of c) e.0 ≡ 1 = cond-true (ltb e.0 (seats_of c)) 1 0 (lt-ltb e.0 (seats_of c) a.1) in
    omega (arith, below_cons (seats_of c) e es, below_length c run d es a.5, one)

-- seats that stand once each are no more than the seats
below_few : (es : List Entry) → ((i : ℕ) → times i es ≤ 1) → (n : ℕ) → times_below n es ≤ n
below_few es few zero = omega arith
below_few es few (suc n) = omega (arith, below_few es few n, few n)

-- where none stands twice and there are as many as seats, each seat stands once
each_once : (es : List Entry) → ((i : ℕ) → times i es ≤ 1) → (n : ℕ) → times_below n es ≡ n → (i : ℕ) → i < n →
    times i es ≡ 1
each_once es few zero all i h = absurd (omega arith)
each_once es few (suc n) all i h =
    let rest : times_below n es ≡ n = omega (arith, below_few es few n, few n) in
    elim (cases_eq i n) [
      | inl is ↦ ap (λ (k : ℕ). times k es) is ∙ omega (arith, below_few es few n, few n)
      | inr ne ↦ each_once es few n rest i (omega (arith, ne))
    ]

-- each adder's record is what its seat was left with
all_left : (c d : Settings) (run : List Event) (xs : List AdderValue) → Among c run d (entries xs) →
    All (IsLeft c run) xs
all_left c d run [] a = All-nil (IsLeft c run)
all_left c d run (x ∷ xs) a = All-cons (IsLeft c run) x xs (record { seen = a.3; own = a.4; state = a.2 })
    (all_left c d run xs a.5)

-- an adder is counted by its entry
entries_count : (i : ℕ) (xs : List AdderValue) → times i (entries xs) ≡ adders_of i xs
entries_count i [] = refl
entries_count i (x ∷ xs) = omega (
  arith,
  entries_count i xs,
  sum_by-cons (λ (a : AdderValue). cond (eqb a.number i) 1 0) x xs,
)

-- there is an entry for each adder
length-entries : (xs : List AdderValue) → length (entries xs) ≡ length xs
length-entries [] = refl
length-entries (x ∷ xs) = omega (arith, length-entries xs)

-- the last state of the table, seen with all adders in one token
pub ends : (c : Settings) (p : TableValue) (id : ℕ) (xs : List AdderValue) (t : Token) (ws : List ℕ)
    (slots : List (Unit {0})) → length xs ≡ seats_of c → HasAll p xs t
    → Final (Seen (ShowsRun c) id t.me.0) ws slots → Left c ws xs
ends c p id xs t ws slots all h f =
    let r = f.1.0 in
    let got : get_elem? f.0.views id ≡ some (view p.settings (entries xs)) = f.1.1 ∙ ap (λ (m : M). some m.0) h.me in
    let a : Among c r.run p.settings (entries xs) = r.agrees id (view p.settings (entries xs)) got in
    let few : (i : ℕ) → times i (entries xs) ≤ 1 = λ i.
    omega (
      arith,
      term_le (λ (u : View). times i u.bundle) f.0.views id (view p.settings (entries xs)) got,
      r.once i,
      once_few (seats_of c) i,
    ) in
    let long : length (entries xs) ≡ seats_of c = length-entries xs ∙ all in
    record {
      run = r.run;
      steps = r.steps;
      words = sym r.words ∙ f.2;
      seats = all_left c p.settings r.run xs a;
      once = λ i h. sym (entries_count i xs)
          ∙ each_once (entries xs) few (seats_of c) (below_length c r.run p.settings (entries xs) a ∙ long) i h;
    }
