-- A load of a reader keeps the rule, and a new reader does.
use Rattle.std.proofs.Common.{◌≡◌, ℕ, zero, suc, ◌<◌, eqb, List, [], ◌∷◌, ◌++◌, get_or, set, refl, sym, ap, ◌∙◌, subst, arith}
use Rattle.std.specs.Prelude.{All, sum_by, count_by}
use Rattle.std.proofs.lemmas.List.{append-nil, map-append, map-set, set-get_or}
use Rattle.std.proofs.lemmas.List.Elements.{All-nil, All-cons, All-head, All-push, All-set}
use Rattle.std.proofs.lemmas.List.Sums.{sum_by-append, sum_by-cons}
use mathlib.Core.Option.{some}
use lib.ListN.{get_elem?}
use Rattle.atomic_table.specs.Table.{State, keeps, stepped, Allows, Enters}
use Rattle.table_model.specs.declared.events.Event.{Event}
use Rattle.table_model.specs.Setup.{Setup, seats_of}
use Rattle.table_model.specs.Worlds.{IsRun, world_after}
use Rattle.table_model.specs.Shown.{Holding, Bundle, IsOfRun}
use Rattle.shared_table.specs.declared.view.View.{View}
use Rattle.shared_table.specs.Fronts.{Front, IsFrontOf}
use Rattle.shared_table.specs.Rule.{bundles, Holds, M}
use Rattle.shared_table.specs.Seating.{fresh, fresh_from, whole}
use Rattle.shared_table.specs.Readings.{after_load, first_in, lone, Looked, Entered}
use Rattle.shared_table.proofs.Lists.{at_place, elem_map}

-- of a list of one, the one
abbrev first_or : Front → List Front → Front
first_or d [] = d
first_or d (f ∷ fs) = f

-- a token of one reader has one front
pub lone_is : (f g : Front) → lone f ≡ lone g → f ≡ g
lone_is f g e = ap (λ (m : M). first_or f m.0.fronts) e

module _ (c : Setup) (s : State (Unit {0}) View) (r : Holds c s) where
  -- a list in which nothing changes
  same_at : {A : Type 0} → (xs : List A) (i : ℕ) (x d : A) → get_or xs i d ≡ x → set xs i x ≡ xs
  same_at xs i x d e = ap (set xs i) (sym e) ∙ set-get_or xs i d

  module _ (id : ℕ) (front : Front) (at : get_elem? s.views id ≡ some (lone front).0) (p : ℕ) where
    -- what the reader knows is a front of the run
    mine : IsFrontOf c r.shows.events front
    mine =
        let q = at_place s.views id (lone front).0 (lone front).0 at in
        All-head (IsFrontOf c r.shows.events) front []
        (subst (λ (v : View). All (IsFrontOf c r.shows.events) v.fronts) q.1 (r.fronts id (lone front).0 q.0))

    -- it has no seats
    no_seats : get_or (bundles s.views) id [] ≡ []
    no_seats = (at_place (bundles s.views) id [] []
        (elem_map (λ (v : View). v.bundle) s.views id (lone front).0 at)).1

    -- the word, and the reader after it
    abbrev n : ℕ
    n = get_or s.words p 0

    abbrev then : Front
    then = after_load front (front.known ++ mine.later) n

    -- the table after it
    abbrev after : State (Unit {0}) View
    after = stepped s p n id [] (lone then).0 keeps

    -- its words are as they were
    words_same : after.words ≡ s.words
    words_same = set-get_or s.words p 0

    -- and its seats stand in the same views
    bundles_same : bundles after.views ≡ bundles s.views
    bundles_same = map-set (λ (v : View). v.bundle) s.views id (lone then).0
        ∙ same_at (bundles s.views) id [] [] no_seats

    -- the reader knows the whole run
    knows : IsFrontOf c r.shows.events then
    knows = record { opened = mine.opened; later = []; is = mine.is ∙ sym (append-nil (front.known ++ mine.later)) }

    -- so the rule holds
    goes_on : Holds c after
    goes_on = record {
      shows = record {
        events = r.shows.events;
        is_run = r.shows.is_run;
        same_words = words_same ∙ r.shows.same_words;
        of_run = subst (All (λ (b : Bundle). All (IsOfRun c r.shows.events) b)) (sym bundles_same) r.shows.of_run;
        once = λ seat h.
            ap (λ (bs : List Bundle). sum_by (λ (b : Bundle). count_by (λ (x : Holding). eqb x.seat seat) b) bs)
            bundles_same ∙ r.shows.once seat h;
      };
      fronts = All-set (λ (v : View). All (IsFrontOf c r.shows.events) v.fronts) s.views id (lone then).0
          (All-cons (IsFrontOf c r.shows.events) then [] knows (All-nil (IsFrontOf c r.shows.events))) r.fronts;
    }

    -- and the reader is told a word of the run
    told : Looked front p n (lone then)
    told = record {
      later = mine.later;
      run = subst (IsRun front.setup) mine.is (subst (λ (d : Setup). IsRun d r.shows.events) (sym mine.opened)
          r.shows.is_run);
      found_is = ap (λ (ws : List ℕ). get_or ws p 0) (r.shows.same_words
          ∙ (λ i. (world_after (sym mine.opened i) (mine.is i)).words));
      is = refl;
    }

-- whatever the table is, a reader can load a word
pub looks_at : (c : Setup) (slots id : ℕ) (front : Front) (m : M) (p : ℕ) → m ≡ lone front →
    Allows (Holds c) slots id m p (λ n. n) (λ n w. (f : Front) → m ≡ lone f → Looked f p n w)
looks_at c slots id front m p one =
    subst (λ (x : M). Allows (Holds c) slots id x p (λ n. n) (λ n w. (f : Front) → x ≡ lone f → Looked f p n w))
    (sym one)
    (λ s r homes at few. (
      (lone (then c s r id front at p)).0,
      keeps,
      tt,
      goes_on c s r id front at p,
      λ f e. subst (λ (x : Front). Looked x p (n c s r id front at p) (lone (then c s r id front at p)))
          (lone_is front f e) (told c s r id front at p),
    ))

-- the first of the seats at the opening has its setup
first_opened : (c : Setup) (d : Holding) (n : ℕ) → 0 < n → c ≡ (first_in d (fresh_from c 0 n)).setup
first_opened c d zero h = absurd (omega (arith, h))
first_opened c d (suc n) h = refl

-- and so has a seat of it where there is none
pub opened_as : (c : Setup) (n : ℕ) → (first_in (fresh c 0) (fresh_from c 0 n)).setup ≡ c
opened_as c zero = refl
opened_as c (suc n) = refl

-- a new reader knows the run so far
pub enters_at : (c : Setup) (slots p : ℕ) → Enters (Holds c) slots p (λ n w. Entered (whole c, []) (w, []))
enters_at c slots p s r homes few =
    let events : List Event = r.shows.events in
    let front : Front = record { setup = c; known = events; heard = []; times = [] } in
    let v : View = (lone front).0 in
    let is : bundles (s.views ++ v ∷ []) ≡ bundles s.views ++ [] ∷ [] =
    map-append (λ (u : View). u.bundle) s.views (v ∷ []) in
    let times : ℕ → Bundle → ℕ = λ seat b. count_by (λ (x : Holding). eqb x.seat seat) b in (
      v,
      record {
        shows = record {
          events = events;
          is_run = r.shows.is_run;
          same_words = r.shows.same_words;
          of_run = subst (All (λ (b : Bundle). All (IsOfRun c events) b)) (sym is)
              (All-push (λ (b : Bundle). All (IsOfRun c events) b) (bundles s.views) [] r.shows.of_run
              (All-nil (IsOfRun c events)));
          once = λ seat h. ap (sum_by (times seat)) is
              ∙ omega (
                arith,
                sum_by-append (times seat) (bundles s.views) ([] ∷ []),
                sum_by-cons (times seat) [] [],
                r.shows.once seat h,
              );
        };
        fronts = All-push (λ (u : View). All (IsFrontOf c events) u.fronts) s.views v r.fronts
            (All-cons (IsFrontOf c events) front []
            (record { opened = refl; later = []; is = sym (append-nil events) }) (All-nil (IsFrontOf c events)));
      },
      record {
        front = front;
        run = r.shows.is_run;
        opened = λ d. first_opened c d (seats_of c) (omega arith);
        is = refl;
      },
    )
