-- The rule at the opening, a seat that is cut off, and a new reader.
use Rattle.std.proofs.Common.{◌≡◌, ◌≢◌, ℕ, zero, suc, ◌+◌, ◌<◌, ◌≤◌, ◌⊎◌, inl, inr, Bool, cond, eqb, List, [], ◌∷◌, ◌++◌, length, set, refl, sym, ap, ◌∙◌, subst, arith, append-nil, length-set}
use Rattle.std.proofs.lemmas.Bool.{eq-eqb, ne_eqb}
use Rattle.std.proofs.lemmas.List.{length-append}
use mathlib.Core.Option.{some, some-injective, some-ne-none}
use lib.ListN.{get_elem?}
use Rattle.atomic_table.specs.Table.{Enters, Splits, opening}
use Rattle.exchange_model.specs.Plans.{IsPlan, Plan, holders_of}
use Rattle.exchange_model.specs.Worlds.{Asker, BySeat, ByReader}
use Rattle.exchange_table.specs.declared.view.View.{View}
use Rattle.exchange_table.specs.Parties.{Holding}
use Rattle.exchange_table.specs.Rule.{Apart, Each, Entered, Holds, IsOfRun, StandsIn, first_or, foremost, fresh_from, lone, others, whole}
use Rattle.exchange_opening.specs.Openings.{IsOpened}
use Rattle.exchange_model.specs.Words.{Pending, word_count}
use Rattle.exchange_table.proofs.Places.{place_small}
use Rattle.exchange_table.proofs.Moves.{at_place, each_map, set_place, stands_once}

-- what stands in a list with one more behind it
snoc_place : {X : Type 0} (xs : List X) (w : X) (i : ℕ) (v : X) → get_elem? (xs ++ w ∷ []) i ≡ some v →
    (get_elem? xs i ≡ some v) ⊎ ((i ≡ length xs) × (w ≡ v))
snoc_place [] w zero v e = inr (refl, some-injective w v e)
snoc_place [] w (suc i) v e = absurd (some-ne-none v (sym e))
snoc_place (x ∷ xs) w zero v e = inl e
snoc_place (x ∷ xs) w (suc i) v e = elim (snoc_place xs w i v e) [
  | inl k ↦ inl k
  | inr k ↦ inr (ap suc (k.0), k.1)
]

-- ---- the opening

-- no two new ones are one
fresh_apart : (plan : Plan) (q k many : ℕ) → q < k →
    Each (λ (h : Holding). h.who ≡ BySeat q → ⊥) (fresh_from plan k many)
fresh_apart plan q k zero less = tt
fresh_apart plan q k (suc many) less =
    ((λ e. omega (arith, ap seat_of e, less)), fresh_apart plan q (suc k) many (omega (arith, less)))
  where
    seat_of : Asker → ℕ
    seat_of (BySeat p) = p
    seat_of (ByReader r) = 0

all_apart : (plan : Plan) (k many : ℕ) → Apart (fresh_from plan k many)
all_apart plan k zero = tt
all_apart plan k (suc many) = (fresh_apart plan k (suc k) many (omega arith), all_apart plan (suc k) many)

fresh_of : (plan : Plan) (k many : ℕ) → k + many ≤ holders_of plan.settings →
    Each (IsOfRun plan [] (λ _. 0) 0) (fresh_from plan k many)
fresh_of plan k zero few = tt
fresh_of plan k (suc many) few = (
  record {
    opened = refl;
    inside = omega (arith, few);
    stands = refl;
    later = [];
    known = refl;
    none = tt;
    state = refl;
  },
  fresh_of plan (suc k) many (omega (arith, few)),
)

-- one view alone
one_view : (w : View) (i : ℕ) (v : View) → get_elem? (w ∷ []) i ≡ some v → (i ≡ 0) × (w ≡ v)
one_view w zero v e = (refl, some-injective w v e)
one_view w (suc i) v e = absurd (some-ne-none v (sym e))

pub opens : (plan : Plan) (words : List ℕ) → IsPlan plan → IsOpened plan words →
    Holds plan (opening words [] (whole plan))
opens plan words is_plan is = record {
  events = [];
  run = record { opened = is_plan; follow = tt };
  long = is.count;
  words = is.are;
  seat_at = λ _. 0;
  of_run = λ i v e.
      let p = one_view (whole plan) i v e in
      subst (λ (z : ℕ × View). Each (IsOfRun plan [] (λ _. 0) (z.0)) (z.1).bundle) (λ j. (sym (p.0) j, p.1 j))
      (fresh_of plan 0 (holders_of plan.settings) (omega arith));
  apart = λ i v e. subst (λ (u : View). Apart u.bundle) (one_view (whole plan) i v e).1
      (all_apart plan 0 (holders_of plan.settings));
  rest = λ r less. refl;
}

-- ---- a seat is cut off

each_both : (P Q : Holding → Type 0) → (hs : List Holding) → Each P hs → Each Q hs → Each (λ h. P h × Q h) hs
each_both P Q [] a b = tt
each_both P Q (h ∷ hs) a b = ((a.0, b.0), each_both P Q hs a.1 b.1)

pub splits : (plan : Plan) (id : ℕ) (first : Holding) (q : ℕ) (hs : List Holding) → first.who ≡ BySeat q →
    Splits (Holds plan) id (record { bundle = first ∷ hs }) (others (record { bundle = first ∷ hs }))
    (foremost (record { bundle = first ∷ hs }))
splits plan id first q hs is s r at = record {
  events = r.events;
  run = r.run;
  long = r.long;
  words = r.words;
  seat_at = moved;
  of_run = λ i v e. elim (snoc_place (set s.views id (others was)) (foremost was) i v e) [
    | inl z ↦ elim (set_place s.views id (others was) i v placed z) [
      | inl y ↦ subst (λ (w : ℕ × View). Each (IsOfRun plan r.events moved (w.0)) (w.1).bundle)
          (λ j. (sym (y.0) j, y.1 j)) tail_of_run
      | inr y ↦ each_map (IsOfRun plan r.events r.seat_at i) (IsOfRun plan r.events moved i) v.bundle
          (λ h o. moved_of h i o (λ same. y.0 (sym (stands_there h i o same))))
          (r.of_run i v y.1)
    ]
    | inr z ↦
        let long : i ≡ length s.views = z.0 ∙ length-set s.views id (others was) in
        subst (λ (w : ℕ × View). Each (IsOfRun plan r.events moved (w.0)) (w.1).bundle)
        (λ j. (sym long j, z.1 j)) (head_of_run, tt)
  ];
  apart = λ i v e. elim (snoc_place (set s.views id (others was)) (foremost was) i v e) [
    | inl z ↦ elim (set_place s.views id (others was) i v placed z) [
      | inl y ↦ subst (λ (w : View). Apart w.bundle) y.1 apart_here.1
      | inr y ↦ r.apart i v y.1
    ]
    | inr z ↦ subst (λ (w : View). Apart w.bundle) z.1 (tt, tt)
  ];
  rest = λ k less.
      (let l = length-append (set s.views id (others was)) (foremost was ∷ []) in
      let m = length-set s.views id (others was) in
      r.rest k (omega (arith, less, l, m)));
}
  where
    was : View
    was = record { bundle = first ∷ hs }

    placed : id < length s.views
    placed = (at_place s.views id was was at).0

    -- the seat stands in the new view
    moved : ℕ → ℕ
    moved k = cond (eqb k q) (length s.views) (r.seat_at k)

    here : Each (IsOfRun plan r.events r.seat_at id) (first ∷ hs)
    here = r.of_run id was at

    apart_here : Apart (first ∷ hs)
    apart_here = r.apart id was at

    moved_here : moved q ≡ length s.views
    moved_here = ap (λ (b : Bool). cond b (length s.views) (r.seat_at q)) (eq-eqb q q refl)

    moved_other : (k : ℕ) → k ≢ q → moved k ≡ r.seat_at k
    moved_other k n = ap (λ (b : Bool). cond b (length s.views) (r.seat_at k)) (ne_eqb k q n)

    still : (who : Asker) (i : ℕ) → (who ≡ first.who → ⊥) → StandsIn r.seat_at i who → StandsIn moved i who
    still (BySeat k) i n stands = moved_other k (λ e. n (ap BySeat e ∙ sym is)) ∙ stands
    still (ByReader k) i n stands = stands

    moved_of : (h : Holding) (i : ℕ) → IsOfRun plan r.events r.seat_at i h → (h.who ≡ first.who → ⊥) →
        IsOfRun plan r.events moved i h
    moved_of h i o n = record {
      opened = o.opened;
      inside = o.inside;
      stands = still h.who i n o.stands;
      later = o.later;
      known = o.known;
      none = o.none;
      state = o.state;
    }

    stands_there : (h : Holding) (i : ℕ) → IsOfRun plan r.events r.seat_at i h → h.who ≡ first.who → id ≡ i
    stands_there h i o same =
        stands_once r.seat_at id i first.who here.0.stands (subst (StandsIn r.seat_at i) same o.stands)

    head_of_run : IsOfRun plan r.events moved (length s.views) first
    head_of_run = record {
      opened = here.0.opened;
      inside = here.0.inside;
      stands = subst (StandsIn moved (length s.views)) (sym is) moved_here;
      later = here.0.later;
      known = here.0.known;
      none = here.0.none;
      state = here.0.state;
    }

    tail_of_run : Each (IsOfRun plan r.events moved id) hs
    tail_of_run = each_map (λ h. IsOfRun plan r.events r.seat_at id h × (h.who ≡ first.who → ⊥))
        (IsOfRun plan r.events moved id) hs (λ h o. moved_of h id o.0 o.1)
        (each_both (IsOfRun plan r.events r.seat_at id) (λ h. h.who ≡ first.who → ⊥) hs here.1 apart_here.0)

-- ---- a new reader

first_opened : (plan : Plan) (d : Holding) (many : ℕ) → 0 < many → plan ≡ (first_or d (fresh_from plan 0 many)).plan
first_opened plan d zero less = absurd (omega (arith, less))
first_opened plan d (suc many) less = refl

pub enters : (plan : Plan) → IsPlan plan → (slots p : ℕ) →
    Enters (Holds plan) slots p (λ n w. Entered (whole plan, []) (w, []))
enters plan is_plan slots p s r homes few = (
  lone new,
  record {
    events = r.events;
    run = r.run;
    long = r.long;
    words = r.words;
    seat_at = r.seat_at;
    of_run = λ i v e. elim (snoc_place s.views (lone new) i v e) [
      | inl z ↦ r.of_run i v z
      | inr z ↦ subst (λ (w : ℕ × View). Each (IsOfRun plan r.events r.seat_at (w.0)) (w.1).bundle)
          (λ j. (sym (z.0) j, z.1 j)) (new_of, tt)
    ];
    apart = λ i v e. elim (snoc_place s.views (lone new) i v e) [
      | inl z ↦ r.apart i v z
      | inr z ↦ subst (λ (w : View). Apart w.bundle) z.1 (tt, tt)
    ];
    rest = λ q less. (let l = length-append s.views (lone new ∷ []) in r.rest q (omega (arith, less, l)));
  },
  record {
    reader = length s.views;
    plan = plan;
    known = r.events;
    run = r.run;
    opened = λ d. first_opened plan d (holders_of plan.settings) (omega (arith, is_plan.some_seat));
    rests = r.rest (length s.views) (omega arith);
    is = refl;
  },
)
  where
    new : Holding
    new = record { plan = plan; who = ByReader (length s.views); known = r.events }

    new_of : IsOfRun plan r.events r.seat_at (length s.views) new
    new_of = record {
      opened = refl;
      inside = tt;
      stands = refl;
      later = [];
      known = sym (append-nil r.events);
      none = tt;
      state = refl;
    }

-- a table has a word at least
pub some_words : (plan : Plan) (words : ℕ) → words ≡ word_count plan → 0 < words
some_words plan words is = (let less = place_small plan Pending tt in omega (arith, is, less))
