-- A step of a seat keeps the rule.
use Rattle.std.proofs.Common.{◌≡◌, ℕ, ◌<◌, Bool, true, false, cond, eqb, List, [], ◌∷◌, ◌++◌, length, get_or, set, sum, ⊎_elim, refl, sym, ap, ◌∙◌, subst, arith, get_or-set_same}
use prog.Atomic.{either}
use Rattle.std.proofs.lemmas.List.{length-replicate}
use mathlib.Core.Option.{some}
use lib.ListN.{get_elem?}
use Rattle.atomic_table.specs.Table.{State, keeps, stepped, Allows}
use Rattle.atomic_table.proofs.Lists.{at_set}
use Rattle.sim_steps.specs.declared.adds.Add.{Add}
use Rattle.sim_steps.specs.declared.words.Ask.{Ask}
use Rattle.sim_steps.specs.declared.words.Desk.{Desk}
use Rattle.sim_steps.specs.declared.words.Address.{Address}
use Rattle.sim_steps.specs.declared.words.Ask.TheVariants.{Exchange}
use Rattle.sim_steps.specs.declared.words.Address.TheVariants.{Root}
use Rattle.sim_steps.specs.Layout.{Settings, AreSettings, seats_of, desk_of, IsAddress, place, words_of}
use Rattle.sim_steps.specs.Program.{Seat, is_idle, begun, ready, resting, next_in}
use Rattle.sim_steps.specs.World.{World, Event, AreSteps, place_of, address_of, becomes, told, can_act, seat_in, acts, opening, world_after}
use Rattle.sim_steps.specs.Laws.{ArePlaced, OfEach, AsksWithin}
use Rattle.sim_totals.specs.declared.view.View.{View}
use Rattle.sim_totals.specs.Rule.{one, times, Among, ShowsRun, M, AsksFor, ask_of, advanced, state_of, seen_of, seat_of, Moved}
use Rattle.sim_totals.proofs.Lists.{total-set, terms_le, same_seat, once_few, among_else, own-snoc, starts-more, starts-self, world-snoc, steps-snoc, happens-at, length-world}

module _ (c : Settings) where
  -- the word that a seat's next step is on
  abbrev word_on : ℕ → Add → Seat → ℕ
  word_on i x st = place_of c (address_of (ask_of c i x st))

  -- the world after one more event of the seat i, whose view has the number id
  pub record Next (s : State (Unit {0}) View) (r : ShowsRun c s) (i : ℕ) (x : Add) (st : Seat) : Type 0 where
    pub steps : AreSteps c (r.run ++ record { seat = i; add = x } ∷ [])
    pub world : world_after c (r.run ++ record { seat = i; add = x } ∷ []) ≡ acts c i (ready x st) (world_after c r.run)
    pub found : get_or s.words (word_on i x st) 0 ≡ get_or (world_after c r.run).words (word_on i x st) 0

  -- a step of the seat of a view makes the next world
  next : (s : State (Unit {0}) View) (r : ShowsRun c s) (id i : ℕ) (x : Add) (st : Seat) (q : List Event) →
      get_elem? s.views id ≡ some (one c i st q) → can_act c i x st ≡ true → Next s r i x st
  next s r id i x st q at can =
      let mine = r.agrees id (one c i st q) at in
      let h = happens-at c (world_after c r.run) i x st mine.1 mine.2 can in
      record {
        steps = steps-snoc c (opening c) r.run (record { seat = i; add = x }) r.steps h.0;
        world = world-snoc c (opening c) r.run (record { seat = i; add = x }) ∙ h.1;
        found = ap (λ (ws : List ℕ). get_or ws (word_on i x st) 0) r.words;
      }

  -- each seat in it
  seats_after : (s : State (Unit {0}) View) (r : ShowsRun c s) (i : ℕ) (x : Add) (st : Seat) → Next s r i x st
      → let a = ask_of c i x st in
      (world_after c (r.run ++ record { seat = i; add = x } ∷ [])).seats ≡ set (world_after c r.run).seats i
      (advanced c i x st (told a (get_or s.words (word_on i x st) 0)))
  seats_after s r i x st n =
      let a : Ask = ask_of c i x st in
      let w : World = world_after c r.run in
      ap (λ (y : World). y.seats) n.world ∙ ap (λ (k : ℕ). set w.seats i (advanced c i x st (told a k))) (sym n.found)

  -- and that seat's own view
  here_at : (s : State (Unit {0}) View) (r : ShowsRun c s) (id i : ℕ) (x : Add) (st : Seat) (q : List Event) →
      get_elem? s.views id ≡ some (one c i st q) → Next s r i x st
      → let a = ask_of c i x st in
      seat_in (world_after c (r.run ++ record { seat = i; add = x } ∷ [])) i ≡ advanced c i x st
      (told a (get_or s.words (word_on i x st) 0))
  here_at s r id i x st q at n =
      let w : World = world_after c r.run in
      let long : length w.seats ≡ seats_of c =
      length-world c (opening c) r.run ∙ length-replicate (seats_of c) resting in
      ap (λ (ss : List Seat). get_or ss i resting) (seats_after s r i x st n)
      ∙ get_or-set_same w.seats i (advanced c i x st (told (ask_of c i x st) (get_or s.words (word_on i x st) 0)))
      resting (omega (arith, long, (r.agrees id (one c i st q) at).1))

  -- the table after it
  pub goes_on : (s : State (Unit {0}) View) (r : ShowsRun c s) (id i : ℕ) (x : Add) (st : Seat) (q : List Event) →
      get_elem? s.views id ≡ some (one c i st q) → Next s r i x st
      → let a = ask_of c i x st in let n = get_or s.words (word_on i x st) 0 in
      ShowsRun c (stepped s (word_on i x st) (becomes a n) id []
      (one c i (advanced c i x st (told a n)) (r.run ++ record { seat = i; add = x } ∷ [])) keeps)
  goes_on s r id i x st q at y =
      let a : Ask = ask_of c i x st in
      let n : ℕ = get_or s.words (word_on i x st) 0 in
      let w : World = world_after c r.run in
      let e : Event = record { seat = i; add = x } in
      let run : List Event = r.run ++ e ∷ [] in
      let t : Seat = advanced c i x st (told a n) in
      let new : View = one c i t run in
      let mine = r.agrees id (one c i st q) at in
      record {
        run = run;
        steps = y.steps;
        words = ap (λ (ws : List ℕ). set ws (word_on i x st) (becomes a n)) r.words
            ∙ (ap (λ (k : ℕ). set w.words (word_on i x st) (becomes a k)) y.found
            ∙ sym (ap (λ (z : World). z.words) y.world));
        agrees = λ by v got. ⊎_elim
            (λ hit. subst (λ (u : View). Among c run u.settings u.bundle) hit.1
            (refl, mine.1, here_at s r id i x st q at y, starts-self run, refl, tt))
            (λ miss.
            let both = terms_le (λ (u : View). times i u.bundle) s.views id by (one c i st q) v miss.0 at miss.1 in
            let all = r.once i in
            let once = same_seat i i refl in
            let few = once_few (seats_of c) i in
            let zero-there : times i v.bundle ≡ 0 = omega (arith, both, all, once, few) in
            among_else c r.run e v.settings i t v.bundle refl (seats_after s r i x st y) zero-there
            (r.agrees by v miss.1))
            (at_set s.views id by new v got);
        once = λ k. let set_one = total-set (λ (u : View). times k u.bundle) s.views id (one c i st q) new at in
            let before = r.once k in omega arith;
      }

  -- what one step makes of the rule
  moves_at : (slots id i : ℕ) (x : Add) (d : Settings) (st : Seat) (q : List Event) → AreSettings d →
      can_act d i x st ≡ true → let a = ask_of d i x st in
      Allows (ShowsRun c) slots id (one d i st q, []) (place_of d (address_of a)) (becomes a)
      (λ n w. Moved x (one d i st q, []) (told a n) w)
  moves_at slots id i x d st q ok can s r _ at _ =
      let a : Settings → Ask = λ u. ask_of u i x st in
      let n : Settings → ℕ = λ u. get_or s.words (place_of u (address_of (a u))) 0 in
      let e : Event = record { seat = i; add = x } in
      let run : List Event = r.run ++ e ∷ [] in
      let t : Settings → Seat = λ u. advanced u i x st (told (a u) (n u)) in
      let mine = r.agrees id (one d i st q) at in
      let same : d ≡ c = mine.0 in
      let Q : Settings → Type 0 = λ u. get_elem? s.views id ≡ some (one u i st q) → can_act u i x st ≡ true →
      ShowsRun c (stepped s (place_of u (address_of (a u))) (becomes (a u) (n u)) id [] (one u i (t u) run) keeps)
      × (seat_in (world_after u run) i ≡ t u) × AreSteps u run × (i < seats_of u) in
      let both : Q c = λ there can'. (let y = next s r id i x st q there can' in
      (goes_on s r id i x st q there y, here_at s r id i x st q there y, y.steps, mine.1)) in
      let kept = subst Q (sym same) both at can in (
        one d i (t d) run,
        keeps,
        tt,
        kept.0,
        record {
          seen = run;
          is = refl;
          grows = starts-more r.run q e mine.3;
          counts = omega (arith, own-snoc i r.run e, same_seat i i refl, mine.4);
          at = record { settings = ok; inside = kept.3; steps = kept.2; reached = kept.1 };
        },
      )

  -- whatever the table is, a step that the seat asks for can be taken
  pub moves : (slots id : ℕ) (x : Add) (a : Ask) (m : M) → AsksFor x a m →
      Allows (ShowsRun c) slots id m (place_of m.0.settings (address_of a)) (becomes a) (λ n w. Moved x m (told a n) w)
  moves slots id x a m h =
      subst (λ (u : Ask × M). Allows (ShowsRun c) slots id u.1 (place_of m.0.settings (address_of u.0)) (becomes u.0)
      (λ n w. Moved x u.1 (told u.0 n) w)) (λ k. (h.asks k, sym h.seat k))
      (moves_at slots id (seat_of m) x m.0.settings (state_of m) (seen_of m) h.at.settings h.can)

  -- two ways to choose by a test are one
  either_is : (b : Bool) (x y : ℕ) → cond b x y ≡ either b x y
  either_is true x y = refl
  either_is false x y = refl

  -- an exchange by its two values
  pub exchanges : (slots id : ℕ) (x : Add) (old new : ℕ) (m : M) → AsksFor x (Exchange old new) m
      → Allows (ShowsRun c) slots id m (place_of m.0.settings Root) (λ n. either (eqb n old) new n)
      (λ n u. Moved x m n u)
  exchanges slots id x old new m h =
      subst (λ (f : ℕ → ℕ). Allows (ShowsRun c) slots id m (place_of m.0.settings Root) f (λ n u. Moved x m n u))
      (λ k n. either_is (eqb n old) new n k) (moves slots id x (Exchange old new) m h)

-- ---- the word of a step

-- that no step is on a word that is not there, as the adder's program promises
abbrev pub Within : Type 0
Within = OfEach AsksWithin

-- a seat's step is on a word of the table
ready_within : Within → (c : Settings) (i : ℕ) (x : Add) (s : Seat) (q : List Event) → AreSettings c →
    i < seats_of c → seat_in (world_after c q) i ≡ s → IsAddress (seats_of c) (sum c.adds) (address_of (ask_of c i x s))
ready_within law c i x s q ok h e = go (is_idle s.phase)
  where
    go : (b : Bool) → IsAddress (seats_of c) (sum c.adds)
        (address_of (let r = cond b (begun x s) s in next_in (desk_of c i) r.caller r.phase))
    go true = omega arith
    go false = subst (λ (r : Seat). IsAddress (seats_of c) (sum c.adds)
        (address_of (next_in (desk_of c i) r.caller r.phase))) e (law c q i ok h)

-- and so is what a view asks
pub ask_within : Within → (x : Add) (a : Ask) (m : M) → AsksFor x a m →
    IsAddress (seats_of m.0.settings) (sum m.0.settings.adds) (address_of a)
ask_within law x a m h =
    subst (λ b. IsAddress (seats_of m.0.settings) (sum m.0.settings.adds) (address_of b)) h.asks
    (ready_within law m.0.settings (seat_of m) x (state_of m) (seen_of m) h.at.settings h.at.inside h.at.reached)

-- ---- at the place of its word

-- and what its desk does
pub desk_within : Within → (x : Add) (a : Ask) (m : M) (desk : Desk) → desk ≡ desk_of m.0.settings (seat_of m) →
    AsksFor x a m → IsAddress desk.seats desk.rows (address_of a)
desk_within law x a m desk e h = subst (λ (d : Desk). IsAddress d.seats d.rows (address_of a)) (sym e)
    (ask_within law x a m h)

-- the place of its word is that of the desk
desk_place : (m : M) (a : Ask) (desk : Desk) (p : ℕ) → desk ≡ desk_of m.0.settings (seat_of m) →
    p ≡ place desk.seats desk.rows (address_of a) → p ≡ place_of m.0.settings (address_of a)
desk_place m a desk p e f = f ∙ ap (λ (d : Desk). place d.seats d.rows (address_of a)) e

-- a step, by the place of its word
pub moves_to : (c : Settings) (slots id : ℕ) (x : Add) (a : Ask) (m : M) (desk : Desk) (p : ℕ) →
    desk ≡ desk_of m.0.settings (seat_of m) → p ≡ place desk.seats desk.rows (address_of a) → AsksFor x a m →
    Allows (ShowsRun c) slots id m p (becomes a) (λ n w. Moved x m (told a n) w)
moves_to c slots id x a m desk p e f h = subst (λ k. Allows (ShowsRun c) slots id m k (becomes a)
    (λ n w. Moved x m (told a n) w)) (sym (desk_place m a desk p e f)) (moves c slots id x a m h)

-- an exchange, by its place
pub exchanges_to : (c : Settings) (slots id : ℕ) (x : Add) (old new : ℕ) (m : M) (desk : Desk) (p : ℕ) →
    desk ≡ desk_of m.0.settings (seat_of m) → p ≡ place desk.seats desk.rows Root → AsksFor x (Exchange old new) m →
    Allows (ShowsRun c) slots id m p (λ n. either (eqb n old) new n) (λ n u. Moved x m n u)
exchanges_to c slots id x old new m desk p e f h =
    subst (λ k. Allows (ShowsRun c) slots id m k (λ n. either (eqb n old) new n) (λ n u. Moved x m n u))
    (sym (desk_place m (Exchange old new) desk p e f)) (exchanges c slots id x old new m h)

-- that each address has its place among the words
pub fits : ArePlaced → (desk : Desk) (a : Address) (p n : ℕ) → IsAddress desk.seats desk.rows a →
    p ≡ place desk.seats desk.rows a → n ≡ words_of desk.seats desk.rows → p < n
fits law desk a p n h e f = omega (arith, (law desk.seats desk.rows a a h h).0, e, f)
