-- In every run each row stands in one word or with one seat. Generations rise, so no bucket word comes back; and
-- between two moments at which a bucket has one word, nobody writes the row in it.
use Rattle.std.proofs.Common.{◌≡◌, ℕ, ◌+◌, ◌*◌, ◌<◌, ◌≤◌, ◌⊎◌, inl, inr, Bool, true, false, cond, List, [], ◌∷◌, ◌++◌, refl, sym, ap, ◌∙◌, subst, arith, lt-ltb}
use Rattle.std.specs.Prelude.{◌-◌, ◌/◌, nat_lt, fold, None}
use Rattle.std.specs.List.{range_with_len}
use Rattle.std.proofs.lemmas.Bool.{cases_Bool, le-ltb, ltb-true}
use Rattle.std.proofs.lemmas.Nat.{div-mul-add}
use Rattle.std.proofs.lemmas.List.Elements.{All-nil}
use Rattle.std.proofs.Math.Nat.{mul-le-mul}
use Rattle.word_rows.proofs.MemoryLemmas.{put_at_row}
use Rattle.exchange_model.specs.Plans.{Plan, IsPlan, holders_of, buckets_of, seat_rows, first_row, born_row}
use Rattle.exchange_model.specs.Codes.{tag, generation_in, row_in}
use Rattle.exchange_model.specs.Laws.{BucketsAreApart, NoneIsRefused, WordsNeverComeBack, RowsStayInTheirWords, IsTaken}
use Rattle.exchange_model.specs.Steps as S
use Rattle.exchange_model.specs.Worlds.{World, Answer, Event, AreEvents, IsRun, opening_world, opening_seat, opening_store, world_after, happens, seat_in, nobody}
use Rattle.exchange_laws.proofs.Places.{either_put}
use Rattle.exchange_laws.proofs.RowLists.{length_range, length_mapped, range_once, at_range}
use Rattle.exchange_laws.proofs.Words.{row_of_tag, generation_of_tag, rows_few}
use Rattle.exchange_laws.proofs.Owned.{Place, InWord, WithSeat, number_of, Private, PrivateOf, Owned, word_in, pool, not_both}
use Rattle.exchange_laws.proofs.OwnedMoves.{Moves, Stays, Stores, Exchanges}
use Rattle.exchange_laws.proofs.OwnedEvents.{event_keeps}

-- ---- the opening

module _ (plan : Plan) (is : IsPlan plan) where
  abbrev first : World
  first = opening_world plan

  -- the first rows are the seats', one after the other; and each bucket has one of those behind
  abbrev place : ℕ → Place
  place row = cond (nat_lt row (seat_rows plan)) (WithSeat (row / plan.spare)) (InWord (row - seat_rows plan))

  in_word : (b : ℕ) → place (born_row plan b) ≡ InWord b
  in_word b =
      let late : nat_lt (born_row plan b) (seat_rows plan) ≡ false =
      le-ltb (born_row plan b) (seat_rows plan) (omega arith) in
      let rest : born_row plan b - seat_rows plan ≡ b = omega arith in
      ap (λ (c : Bool). cond c (WithSeat (born_row plan b / plan.spare)) (InWord (born_row plan b - seat_rows plan)))
      late
      ∙ ap InWord rest

  -- all rows of a seat come before those of the next one
  seat_end : (p : ℕ) → p < plan.settings.seats → first_row plan p + plan.spare ≤ seat_rows plan
  seat_end p inside =
      let up : p + 1 ≤ plan.settings.seats = omega (arith, inside) in
      let same : plan.spare ≤ plan.spare = omega arith in
      let last : (p + 1) * plan.spare ≤ plan.settings.seats * plan.spare = mul-le-mul up same in
      let step : (p + 1) * plan.spare ≡ p * plan.spare + plan.spare = omega arith in omega (arith, last, step)

  with_seat : (p row : ℕ) → p < plan.settings.seats → first_row plan p ≤ row → row < first_row plan p + plan.spare →
      place row ≡ WithSeat p
  with_seat p row inside low high =
      let j : ℕ = row - p * plan.spare in
      let e : row ≡ p * plan.spare + j = omega (arith, low) in
      let small : j < plan.spare = omega (arith, low, high) in
      let end = seat_end p inside in
      let early : nat_lt row (seat_rows plan) ≡ true = lt-ltb row (seat_rows plan) (omega (arith, high, end)) in
      ap (λ (c : Bool). cond c (WithSeat (row / plan.spare)) (InWord (row - seat_rows plan))) early
      ∙ ap (λ n. WithSeat (n / plan.spare)) e ∙ ap WithSeat (div-mul-add p plan.spare j small)

  pub seat_is : (p : ℕ) → p < holders_of plan.settings → seat_in first p ≡ opening_seat plan p
  seat_is p inside =
      (let e : 0 + p ≡ p = omega arith in
      at_range (opening_seat plan) 0 (holders_of plan.settings) p nobody inside ∙ ap (opening_seat plan) e)

  seat_owned : (p : ℕ) → PrivateOf plan place p (opening_seat plan p)
  seat_owned p = elim (cases_Bool (nat_lt p plan.settings.seats)) [
    | inl e ↦ subst (λ (c : Bool). Private plan place p S.Idle
        (cond c (range_with_len (first_row plan p) plan.spare) [])
        [] None) (sym e) (of_seat e (ltb-true p plan.settings.seats e))
    | inr e ↦ subst (λ (c : Bool). Private plan place p S.Idle
        (cond c (range_with_len (first_row plan p) plan.spare) [])
        [] None) (sym e) (of_reader e)
  ]
    where
      of_seat : nat_lt p plan.settings.seats ≡ true → p < plan.settings.seats →
          Private plan place p S.Idle (range_with_len (first_row plan p) plan.spare) [] None
      of_seat e inside = record {
        rows = record {
          once = λ row. (let range = range_once row (first_row plan p) plan.spare in omega (arith, range.0));
          mine = λ row there.
              let range = range_once row (first_row plan p) plan.spare in
              let within = range.1 (omega (arith, there)) in
              let end = seat_end p inside in
              (with_seat p row inside within.0 within.1, omega (arith, within.1, end));
          all =
              let full : pool plan p ≡ plan.spare = ap (λ (c : Bool). cond c plan.spare 0) e in
              let long = length_range (first_row plan p) plan.spare in omega (arith, long, full);
        };
        room = (λ s. s, omega arith);
      }

      of_reader : nat_lt p plan.settings.seats ≡ false → Private plan place p S.Idle [] [] None
      of_reader e = record {
        rows = record {
          once = λ row. omega arith;
          mine = λ row there. absurd (omega (arith, there));
          all = (let none : pool plan p ≡ 0 = ap (λ (c : Bool). cond c plan.spare 0) e in omega (arith, none));
        };
        room = (λ s. s, omega arith);
      }

  word_is : (b : ℕ) → b < buckets_of plan.settings → word_in plan first b ≡ born_row plan b
  unfolding opening_store
  word_is b less =
      ap (λ (c : Bool). row_in plan (cond c (tag plan 1 (born_row plan b)) 0))
      (lt-ltb b (buckets_of plan.settings) less)
      ∙ row_of_tag plan 1 (born_row plan b) (let few = rows_few plan is in omega (arith, less, few))

  pub opening_owned : Owned plan first
  opening_owned = record {
    long = length_mapped (opening_seat plan) (range_with_len 0 (holders_of plan.settings))
        ∙ length_range 0 (holders_of plan.settings);
    at = place;
    words = λ b less. (ap place (word_is b less) ∙ in_word b, omega (arith, word_is b less, less));
    seats = λ q less. subst (PrivateOf plan place q) (sym (seat_is q less)) (seat_owned q);
    taken = All-nil (λ (a : Answer). IsTaken a.told);
  }

-- ---- one event

-- a bucket word stays, or its generation rises
abbrev pub Rises : (plan : Plan) (x y : World) (b : ℕ) → Type 0
Rises plan x y b =
    (y.store.bucket b ≡ x.store.bucket b)
    ⊎ (generation_in plan (x.store.bucket b) < generation_in plan (y.store.bucket b))

abbrev pub generation_at : Plan → World → (b : ℕ) → ℕ
generation_at plan x b = generation_in plan (x.store.bucket b)

pub rises : (plan : Plan) → IsPlan plan → (at : ℕ → Place) (x y : World) (b : ℕ) → Moves plan at x y → Rises plan x y b
rises plan is at x y b (Stays e r) = inl (λ i. e i b)
rises plan is at x y b (Stores p row i v inside mine there e r) = inl (λ i. e i b)
rises plan is at x y b (Exchanges p c row inside mine low small e r) =
    let few = rows_few plan is in
    elim (either_put x.store.bucket c (tag plan (generation_in plan (x.store.bucket c) + 1) row) b) [
      | inl z ↦
          let now : y.store.bucket b ≡ tag plan (generation_in plan (x.store.bucket c) + 1) row = (λ i. e i b) ∙ z.1 in
          let is_now : generation_in plan (y.store.bucket b) ≡ generation_in plan (x.store.bucket c) + 1 =
          ap (generation_in plan) now
          ∙ generation_of_tag plan (generation_in plan (x.store.bucket c) + 1) row (omega (arith, low, few)) in
          let was : generation_in plan (x.store.bucket b) ≡ generation_in plan (x.store.bucket c) =
          ap (generation_at plan x) z.0 in
          inr (omega (arith, is_now, was))
      | inr z ↦ inl ((λ i. e i b) ∙ z.1)
    ]

pub rises_low : (plan : Plan) (x y : World) (b : ℕ) → Rises plan x y b → generation_at plan x b ≤ generation_at plan y b
rises_low plan x y b (inl e) = (let same = ap (generation_in plan) e in omega (arith, same))
rises_low plan x y b (inr less) = omega (arith, less)

pub rises_both : (plan : Plan) (x y z : World) (b : ℕ) → Rises plan x y b → Rises plan y z b → Rises plan x z b
rises_both plan x y z b (inl e) (inl f) = inl (f ∙ e)
rises_both plan x y z b (inl e) (inr g) = inr (let same = ap (generation_in plan) e in omega (arith, same, g))
rises_both plan x y z b (inr f) r = inr (let low = rises_low plan y z b r in omega (arith, f, low))

-- where a word is as it was after two events, it was so between
pub stood_between : (plan : Plan) (x y z : World) (b : ℕ) → Rises plan x y b → Rises plan y z b →
    z.store.bucket b ≡ x.store.bucket b →
    y.store.bucket b ≡ x.store.bucket b
stood_between plan x y z b (inl e) r same = e
stood_between plan x y z b (inr f) r same =
    absurd (let low = rises_low plan y z b r in let is = ap (generation_in plan) same in omega (arith, f, low, is))

-- the row in a word is not written
pub row_stays : (plan : Plan) (x y : World) (h : Owned plan x) (b i : ℕ) → b < buckets_of plan.settings →
    Moves plan h.at x y →
    y.store.row (word_in plan x b) i ≡ x.store.row (word_in plan x b) i
row_stays plan x y h b i small (Stays e r) = λ k. r k (word_in plan x b) i
row_stays plan x y h b i small (Stores p row j v inside mine there e r) =
    (λ k. r k (word_in plan x b) i)
    ∙ put_at_row x.store.row row j v (word_in plan x b) i
    (λ s. not_both plan h.at p row b mine (ap h.at (sym s) ∙ (h.words b small).0))
row_stays plan x y h b i small (Exchanges p c row inside mine low little e r) = λ k. r k (word_in plan x b) i

-- ---- runs

module _ (plan : Plan) (is : IsPlan plan) where
  pub owned_follows : (events : List Event) (x : World) → Owned plan x → AreEvents plan x events →
      Owned plan (fold (happens plan) x events)
  owned_follows [] x h follow = h
  owned_follows (event ∷ events) x h follow =
      owned_follows events (happens plan x event) (event_keeps plan is x h event follow.0).owned follow.1

  pub rises_follow : (events : List Event) (x : World) (b : ℕ) → Owned plan x → AreEvents plan x events →
      Rises plan x (fold (happens plan) x events) b
  rises_follow [] x b h follow = inl refl
  rises_follow (event ∷ events) x b h follow =
      let y = happens plan x event in
      let k = event_keeps plan is x h event follow.0 in
      rises_both plan x y (fold (happens plan) y events) b (rises plan is h.at x y b k.moves)
      (rises_follow events y b k.owned follow.1)

  pub rows_follow : (events : List Event) (x : World) (b i : ℕ) → Owned plan x → AreEvents plan x events →
      b < buckets_of plan.settings → (fold (happens plan) x events).store.bucket b ≡ x.store.bucket b →
      (fold (happens plan) x events).store.row (word_in plan x b) i ≡ x.store.row (word_in plan x b) i
  rows_follow [] x b i h follow small same = refl
  rows_follow (event ∷ events) x b i h follow small same =
      let y = happens plan x event in
      let z = fold (happens plan) y events in
      let k = event_keeps plan is x h event follow.0 in
      let between : y.store.bucket b ≡ x.store.bucket b =
      stood_between plan x y z b (rises plan is h.at x y b k.moves) (rises_follow events y b k.owned follow.1) same in
      let later : z.store.row (word_in plan y b) i ≡ y.store.row (word_in plan y b) i =
      rows_follow events y b i k.owned follow.1 small (same ∙ sym between) in
      subst (λ w. z.store.row (row_in plan w) i ≡ y.store.row (row_in plan w) i) between later
      ∙ row_stays plan x y h b i small k.moves

-- a world after two parts of a run
pub after_both : (plan : Plan) (front back : List Event) (x : World) →
    fold (happens plan) x (front ++ back) ≡ fold (happens plan) (fold (happens plan) x front) back
after_both plan [] back x = refl
after_both plan (event ∷ front) back x = after_both plan front back (happens plan x event)

-- and the parts
pub front_follows : (plan : Plan) (front back : List Event) (x : World) → AreEvents plan x (front ++ back) →
    AreEvents plan x front
front_follows plan [] back x follow = tt
front_follows plan (event ∷ front) back x follow =
    (follow.0, front_follows plan front back (happens plan x event) follow.1)

pub back_follows : (plan : Plan) (front back : List Event) (x : World) → AreEvents plan x (front ++ back) →
    AreEvents plan (fold (happens plan) x front) back
back_follows plan [] back x follow = follow
back_follows plan (event ∷ front) back x follow = back_follows plan front back (happens plan x event) follow.1

-- ---- the results

pub owned_holds : (plan : Plan) (events : List Event) → IsRun plan events → Owned plan (world_after plan events)
owned_holds plan events run =
    owned_follows plan run.opened events (opening_world plan) (opening_owned plan run.opened) run.follow

-- no update is refused
pub none_is_refused : NoneIsRefused
none_is_refused plan events run = (owned_holds plan events run).taken

-- no two buckets have one row
pub buckets_are_apart : BucketsAreApart
buckets_are_apart plan events a b run less few same =
    let h = owned_holds plan events run in
    ap number_of (sym (h.words a less).0 ∙ ap h.at same ∙ (h.words b few).0)

-- between two moments at which a bucket has one word, its row is not written
pub rows_stay_in_their_words : RowsStayInTheirWords
rows_stay_in_their_words plan front back b i run small same =
    let x = opening_world plan in
    let y = world_after plan front in
    let h = owned_follows plan run.opened front x (opening_owned plan run.opened)
    (front_follows plan front back x run.follow) in
    let cut : world_after plan (front ++ back) ≡ fold (happens plan) y back = after_both plan front back x in
    subst (λ (z : World). z.store.row (word_in plan y b) i ≡ y.store.row (word_in plan y b) i) (sym cut)
    (rows_follow plan run.opened back y b i h (back_follows plan front back x run.follow) small
    (subst (λ (z : World). z.store.bucket b ≡ y.store.bucket b) cut same))

-- and no bucket word comes back
pub words_never_come_back : WordsNeverComeBack
words_never_come_back plan front middle back b run small same =
    let x = opening_world plan in
    let y = world_after plan front in
    let w = world_after plan (front ++ middle) in
    let open_ = opening_owned plan run.opened in
    let both = front_follows plan (front ++ middle) back x run.follow in
    let h = owned_follows plan run.opened front x open_ (front_follows plan front middle x both) in
    let k = owned_follows plan run.opened (front ++ middle) x open_ both in
    let first : Rises plan y w b =
    subst (λ (v : World). Rises plan y v b) (sym (after_both plan front middle x))
    (rises_follow plan run.opened middle y b h (back_follows plan front middle x both)) in
    let last : Rises plan w (world_after plan (front ++ middle ++ back)) b =
    subst (λ (v : World). Rises plan w v b) (sym (after_both plan (front ++ middle) back x))
    (rises_follow plan run.opened back w b k (back_follows plan (front ++ middle) back x run.follow)) in
    stood_between plan y w (world_after plan (front ++ middle ++ back)) b first last same
