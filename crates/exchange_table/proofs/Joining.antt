-- Views that are joined keep the rule, and so does a load by which all parties of a view come to know the run.
use Rattle.std.proofs.Common.{◌≡◌, ◌≢◌, inl, inr, ℕ, ◌<◌, Bool, true, false, cond, eqb, List, [], ◌∷◌, length, get_or, set, refl, sym, ap, ◌∙◌, subst, arith, append-nil, length-set}
use Rattle.std.specs.Prelude.{map}
use Rattle.std.proofs.lemmas.Bool.{eq-eqb, ne_eqb}
use Rattle.std.proofs.lemmas.List.{set-get_or}
use mathlib.Core.Option.{some}
use lib.ListN.{get_elem?}
use Rattle.atomic_table.specs.Table.{Allows, Joins, keeps}
use Rattle.exchange_model.specs.Plans.{Plan}
use Rattle.exchange_model.specs.Worlds.{Asker, BySeat, ByReader, Event, IsRun, world_after}
use Rattle.exchange_table.specs.declared.view.View.{View}
use Rattle.exchange_table.specs.Parties.{Holding, has_hold, party}
use Rattle.exchange_table.specs.Rule.{Apart, Each, Holds, IsOfRun, M, StandsIn, lone}
use Rattle.exchange_opening.specs.Openings.{HasWords}
use Rattle.exchange_table.specs.Joins.{ComesTo, Meets, joined, knowing, spent}
use Rattle.exchange_table.proofs.Moves.{at_place, each_map, set_place, stands_once}

-- ---- lists of holdings

-- all that holds of what a function makes of them
pub each_through : (f : Holding → Holding) (P Q : Holding → Type 0) → (hs : List Holding) →
    ((h : Holding) → P h → Q (f h)) → Each P hs → Each Q (map f hs)
each_through f P Q [] go k = tt
each_through f P Q (h ∷ hs) go k = (go h k.0, each_through f P Q hs go k.1)

-- what they know does not tell whose they are
pub apart_still : (known : List Event) (hs : List Holding) → Apart hs → Apart (map (knowing known) hs)
apart_still known [] k = tt
apart_still known (h ∷ hs) k = (
  each_through (knowing known) (λ o. o.who ≡ h.who → ⊥) (λ o. o.who ≡ h.who → ⊥) hs (λ o n. n) k.0,
  apart_still known hs k.1,
)

abbrev pub bool_code : Bool → ℕ
bool_code true = 1
bool_code false = 0

-- ---- another one comes, who can hold

pub joins : (plan : Plan) (id other : ℕ) (v : View) (h : Holding) → has_hold h.who ≡ true →
    Joins (Holds plan) id v other (lone h) (joined v (lone h)) spent
joins plan id other v h seat s r at apart at_other = record {
  events = r.events;
  run = r.run;
  long = r.long;
  words = r.words;
  seat_at = moved;
  of_run = λ i u e. elim (set_place (set s.views id both) other spent i u placed_other e) [
    | inl z ↦ subst (λ (w : View). Each (IsOfRun plan r.events moved i) w.bundle) z.1 tt
    | inr z ↦ elim (set_place s.views id both i u placed z.1) [
      | inl y ↦ subst (λ (w : ℕ × View). Each (IsOfRun plan r.events moved (w.0)) (w.1).bundle)
          (λ j. (sym (y.0) j, y.1 j)) both_of_run
      | inr y ↦ each_map (IsOfRun plan r.events r.seat_at i) (IsOfRun plan r.events moved i) u.bundle
          (still_of i z.0) (r.of_run i u y.1)
    ]
  ];
  apart = λ i u e. elim (set_place (set s.views id both) other spent i u placed_other e) [
    | inl z ↦ subst (λ (w : View). Apart w.bundle) z.1 tt
    | inr z ↦ elim (set_place s.views id both i u placed z.1) [
      | inl y ↦ subst (λ (w : View). Apart w.bundle) y.1 both_apart
      | inr y ↦ r.apart i u y.1
    ]
  ];
  rest = λ k less.
      (let l = length-set (set s.views id both) other spent in
      let m = length-set s.views id both in
      r.rest k (omega (arith, less, l, m)));
}
  where
    both : View
    both = joined v (lone h)

    placed : id < length s.views
    placed = (at_place s.views id v v at).0

    placed_other : other < length (set s.views id both)
    placed_other = (at_place (set s.views id both) other (lone h) (lone h) at_other).0

    -- its view was that of the other number
    was_other : get_elem? s.views other ≡ some (lone h)
    was_other = elim (set_place s.views id both other (lone h) placed at_other) [
      | inl z ↦ absurd (apart (z.0))
      | inr z ↦ z.1
    ]

    -- all that stood in the other view stands in this one
    moved : ℕ → ℕ
    moved q = cond (eqb (r.seat_at q) other) id (r.seat_at q)

    came : IsOfRun plan r.events r.seat_at other h
    came = (r.of_run other (lone h) was_other).0

    still : (who : Asker) (i : ℕ) → i ≢ other → StandsIn r.seat_at i who → StandsIn moved i who
    still (BySeat q) i n stands =
        ap (λ (b : Bool). cond b id (r.seat_at q)) (ne_eqb (r.seat_at q) other (λ e. n (sym stands ∙ e))) ∙ stands
    still (ByReader k) i n stands = stands

    comes : (who : Asker) → has_hold who ≡ true → StandsIn r.seat_at other who → StandsIn moved id who
    comes (BySeat q) e stands =
        ap (λ (b : Bool). cond b id (r.seat_at q)) (eq-eqb (r.seat_at q) other stands)
    comes (ByReader k) e stands = absurd (omega (arith, ap bool_code e))

    still_of : (i : ℕ) → i ≢ other → (k : Holding) → IsOfRun plan r.events r.seat_at i k →
        IsOfRun plan r.events moved i k
    still_of i n k o = record {
      opened = o.opened;
      inside = o.inside;
      stands = still k.who i n o.stands;
      later = o.later;
      known = o.known;
      none = o.none;
      state = o.state;
    }

    both_of_run : Each (IsOfRun plan r.events moved id) both.bundle
    both_of_run = (
      record {
        opened = came.opened;
        inside = came.inside;
        stands = comes h.who seat came.stands;
        later = came.later;
        known = came.known;
        none = came.none;
        state = came.state;
      },
      each_map (IsOfRun plan r.events r.seat_at id) (IsOfRun plan r.events moved id) v.bundle
          (still_of id (λ e. apart (sym e))) (r.of_run id v at),
    )

    both_apart : Apart both.bundle
    both_apart = (
      each_map (IsOfRun plan r.events r.seat_at id) (λ k. k.who ≡ h.who → ⊥) v.bundle
          (λ k o same. apart (stands_once r.seat_at other id h.who came.stands
          (subst (StandsIn r.seat_at id) same o.stands)))
          (r.of_run id v at),
      r.apart id v at,
    )

-- ---- all come to know the run

pub all_meet : (plan : Plan) (slots id p : ℕ) (m : M) →
    Allows (Holds plan) slots id m p (λ n. n) (λ n w. Meets m w)
all_meet plan slots id p m s r homes at less = (
  then,
  keeps,
  tt,
  record {
    events = r.events;
    run = r.run;
    long = ap length same_words ∙ r.long;
    words = subst (λ (ws : List ℕ). HasWords plan ws (world_after plan r.events).store) (sym same_words) r.words;
    seat_at = r.seat_at;
    of_run = λ i u e. elim (set_place s.views id then i u placed e) [
      | inl y ↦ subst (λ (w : ℕ × View). Each (IsOfRun plan r.events r.seat_at (w.0)) (w.1).bundle)
          (λ j. (sym (y.0) j, y.1 j))
          (each_through (knowing r.events) (IsOfRun plan r.events r.seat_at id) (IsOfRun plan r.events r.seat_at id)
          m.0.bundle knows (r.of_run id m.0 at))
      | inr y ↦ r.of_run i u y.1
    ];
    apart = λ i u e. elim (set_place s.views id then i u placed e) [
      | inl y ↦ subst (λ (w : View). Apart w.bundle) y.1 (apart_still r.events m.0.bundle (r.apart id m.0 at))
      | inr y ↦ r.apart i u y.1
    ];
    rest = λ k far. (let l = length-set s.views id then in r.rest k (omega (arith, far, l)));
  },
  record {
    known = r.events;
    each = each_map (IsOfRun plan r.events r.seat_at id) (ComesTo r.events) m.0.bundle comes_to
        (r.of_run id m.0 at);
    is = refl;
  },
)
  where
    then : View
    then = record { bundle = map (knowing r.events) m.0.bundle }

    placed : id < length s.views
    placed = (at_place s.views id m.0 m.0 at).0

    same_words : set s.words p (get_or s.words p 0) ≡ s.words
    same_words = set-get_or s.words p 0

    knows : (h : Holding) → IsOfRun plan r.events r.seat_at id h →
        IsOfRun plan r.events r.seat_at id (knowing r.events h)
    knows h o = record {
      opened = o.opened;
      inside = o.inside;
      stands = o.stands;
      later = [];
      known = sym (append-nil r.events);
      none = tt;
      state = refl;
    }

    comes_to : (h : Holding) → IsOfRun plan r.events r.seat_at id h → ComesTo r.events h
    comes_to h o = record {
      run = subst (λ (k : Plan). IsRun k r.events) (sym o.opened) r.run;
      later = o.later;
      grown = o.known;
      none = o.none;
      state = subst (λ (k : Plan). party (world_after k r.events) h.who ≡ party (world_after k h.known) h.who)
          (sym o.opened) o.state;
    }
