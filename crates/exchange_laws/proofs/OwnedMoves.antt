-- What an event does to bucket words and rows, and what it leaves: each row stands in one word or with one seat.
use Rattle.std.proofs.Common.{◌≡◌, ◌≢◌, ℕ, ◌+◌, ◌<◌, ◌≤◌, inl, inr, List, [], ◌∷◌, ◌++◌, length, drop, Option, None, sym, ap, ◌∙◌, subst, arith, get_or-set_same, get_or-set_other, length-set}
use Rattle.std.specs.Prelude.{All}
use Rattle.std.proofs.lemmas.Bool.{cases_eq, cases_lt, eq-eqb, ne_eqb}
use Rattle.std.proofs.lemmas.List.{length-append}
use Rattle.list_laws.proofs.Totals.{many, one_if}
use Rattle.word_rows.specs.Memory.{put, put_at}
use Rattle.word_rows.proofs.MemoryLemmas.{put_same, put_other}
use Rattle.exchange_model.specs.Plans.{Plan, IsPlan, holders_of, buckets_of, rows_of}
use Rattle.exchange_model.specs.Codes.{tag, generation_in, row_in}
use Rattle.exchange_model.specs.Laws.{IsTaken}
use Rattle.exchange_model.specs.Words as W
use Rattle.exchange_model.specs.Words.{with_word}
use Rattle.exchange_model.specs.Steps.{MadeBySeat, SeatNow, Scan, next_row}
use Rattle.exchange_model.specs.Worlds.{World, Answer, seat_in, with_seat, ticked, nobody}
use Rattle.exchange_laws.proofs.RowLists.{is_row, flag, both, first_there, without_first, shorter}
use Rattle.exchange_laws.proofs.Words.{row_of_tag, rows_few}
use Rattle.exchange_laws.proofs.Owned.{Place, InWord, WithSeat, number_of, Rows, Private, PrivateOf, Owned, word_in, needs, IsScanning, left_of, held_of, times, not_both}

-- an event leaves bucket words and rows as they are; or a seat stores a word of a free row of its own; or it exchanges
-- the word of a bucket, to the next generation and a row that was with it
pub data Moves (plan : Plan) (at : ℕ → Place) (x y : World) : Type 0 where
  Stays : y.store.bucket ≡ x.store.bucket → y.store.row ≡ x.store.row → Moves plan at x y
  Stores : (p row i v : ℕ) → p < holders_of plan.settings → at row ≡ WithSeat p →
      1 ≤ many (is_row row) (seat_in x p).free →
      y.store.bucket ≡ x.store.bucket → y.store.row ≡ put_at x.store.row row i v → Moves plan at x y
  Exchanges : (p b row : ℕ) → p < holders_of plan.settings → at row ≡ WithSeat p → row < rows_of plan →
      b < buckets_of plan.settings →
      y.store.bucket ≡ put x.store.bucket b (tag plan (generation_in plan (x.store.bucket b) + 1) row) →
      y.store.row ≡ x.store.row → Moves plan at x y

-- so each row stands in one place after it too
pub record Keeps (plan : Plan) (x y : World) (at : ℕ → Place) : Type 0 where
  pub owned : Owned plan y
  pub moves : Moves plan at x y

abbrev pub AllTaken : List Answer → Type 0
AllTaken answers = All (λ (a : Answer). IsTaken a.told) answers

module _ (plan : Plan) (is_plan : IsPlan plan) (x : World) (h : Owned plan x) (p : ℕ)
    (inside : p < holders_of plan.settings) where
  abbrev now : SeatNow
  now = seat_in x p

  long : p < length x.seats
  long = omega (arith, inside, h.long)

  mine : (store : W.Store) (then : SeatNow) (answers : List Answer) (updates : List MadeBySeat) →
      seat_in (ticked (with_seat x p store then answers updates)) p ≡ then
  mine store then answers updates = get_or-set_same x.seats p then nobody long

  others : (store : W.Store) (then : SeatNow) (answers : List Answer) (updates : List MadeBySeat) (q : ℕ) → q ≢ p →
      seat_in (ticked (with_seat x p store then answers updates)) q ≡ seat_in x q
  others store then answers updates q other = get_or-set_other x.seats p q then nobody other

  -- ---- no bucket word is another then

  pub quietly : (store : W.Store) → store.bucket ≡ x.store.bucket → (then : SeatNow) (answers : List Answer)
      (updates : List MadeBySeat) → PrivateOf plan h.at p then → AllTaken answers →
      Owned plan (ticked (with_seat x p store then answers updates))
  quietly store same then answers updates own taken = record {
    long = length-set x.seats p then ∙ h.long;
    at = h.at;
    words = λ b less. subst
        (λ (f : ℕ → ℕ). (h.at (row_in plan (f b)) ≡ InWord b) × (row_in plan (f b) < rows_of plan)) (sym same)
        (h.words b less);
    seats = λ q less. elim (cases_eq q p) [
      | inl e ↦ subst (λ i. PrivateOf plan h.at i (seat_in (ticked (with_seat x p store then answers updates)) i))
          (sym e)
          (subst (PrivateOf plan h.at p) (sym (mine store then answers updates)) own)
      | inr n ↦ subst (PrivateOf plan h.at q) (sym (others store then answers updates q n)) (h.seats q less)
    ];
    taken = taken;
  }

  -- ---- an exchange

  module _ (b generation : ℕ) (small : b < buckets_of plan.settings) (some : 1 ≤ length now.free)
      (none : now.scan ≡ None)
      (then : SeatNow) (answers : List Answer) (updates : List MadeBySeat) (taken : AllTaken answers)
      (free_then : then.free ≡ drop 1 now.free) (kept_then : then.kept ≡ now.kept ++ word_in plan x b ∷ [])
      (scan_then : then.scan ≡ None) (still : IsScanning then.stand → ⊥) (done : needs then.stand ≡ 0) where
    abbrev z : World
    z = ticked (with_seat x p (with_word x.store (W.Bucket b) (tag plan generation (next_row now))) then answers
        updates)

    -- the row that is given, and the one that is got for it
    abbrev given : ℕ
    given = next_row now

    abbrev got : ℕ
    got = word_in plan x b

    was : Rows plan h.at p now.free now.kept [] []
    was = subst (λ (s : Option Scan). Rows plan h.at p now.free now.kept (left_of s) (held_of s)) none
        (h.seats p inside).rows

    given_is : (h.at given ≡ WithSeat p) × (given < rows_of plan)
    given_is = was.mine given (let there = first_there now.free some in omega (arith, there))

    got_is : (h.at got ≡ InWord b) × (got < rows_of plan)
    got_is = h.words b small

    two : given ≢ got
    two e = not_both plan h.at p got b (ap h.at (sym e) ∙ given_is.0) got_is.0

    abbrev place : ℕ → Place
    place = put (put h.at given (InWord b)) got (WithSeat p)

    at_given : place given ≡ InWord b
    at_given = put_other (put h.at given (InWord b)) got (WithSeat p) given two ∙ put_same h.at given (InWord b)

    at_got : place got ≡ WithSeat p
    at_got = put_same (put h.at given (InWord b)) got (WithSeat p)

    at_other : (k : ℕ) → k ≢ given → k ≢ got → place k ≡ h.at k
    at_other k m n = put_other (put h.at given (InWord b)) got (WithSeat p) k n ∙ put_other h.at given (InWord b) k m

    here : word_in plan z b ≡ given
    here = ap (row_in plan) (put_same x.store.bucket b (tag plan generation given))
        ∙ row_of_tag plan generation given (let few = rows_few plan is_plan in omega (arith, given_is.1, few))

    elsewhere : (a : ℕ) → a ≢ b → word_in plan z a ≡ word_in plan x a
    elsewhere a n = ap (row_in plan) (put_other x.store.bucket b (tag plan generation given) a n)

    words_then : (a : ℕ) → a < buckets_of plan.settings →
        (place (word_in plan z a) ≡ InWord a) × (word_in plan z a < rows_of plan)
    words_then a less = elim (cases_eq a b) [
      | inl e ↦ subst (λ i. (place (word_in plan z i) ≡ InWord i) × (word_in plan z i < rows_of plan)) (sym e)
          (subst (λ r. (place r ≡ InWord b) × (r < rows_of plan)) (sym here) (at_given, given_is.1))
      | inr n ↦
          let old = h.words a less in
          subst (λ r. (place r ≡ InWord a) × (r < rows_of plan)) (sym (elsewhere a n)) (
            at_other (word_in plan x a) (λ e. not_both plan h.at p given a given_is.0 (ap h.at (sym e) ∙ old.0))
                (λ e. n (ap number_of (sym old.0 ∙ ap h.at e ∙ got_is.0))) ∙ old.0,
            old.1,
          )
    ]

    -- the row that is got did not stand with the seat
    new : times got now.free now.kept [] [] ≡ 0
    new = elim (cases_lt 0 (times got now.free now.kept [] [])) [
      | inl l ↦ absurd (not_both plan h.at p got b (was.mine got l).0 got_is.0)
      | inr g ↦ omega (arith, g)
    ]

    counts : (k : ℕ) → times k (drop 1 now.free) (now.kept ++ got ∷ []) [] [] + one_if (is_row k) given
        ≡ times k now.free now.kept [] [] + one_if (is_row k) got
    counts k =
        let first = without_first k now.free some in
        let more = both k now.kept (got ∷ []) in
        omega (arith, first, more)

    rows_then : Rows plan place p (drop 1 now.free) (now.kept ++ got ∷ []) [] []
    rows_then = record {
      once = λ k. elim (cases_eq got k) [
        | inl e ↦
            let one : one_if (is_row k) got ≡ 1 = ap flag (eq-eqb got k e) in
            let other : one_if (is_row k) given ≡ 0 = ap flag (ne_eqb given k (λ f. two (f ∙ sym e))) in
            let none_there : times k now.free now.kept [] [] ≡ 0 =
            subst (λ i. times i now.free now.kept [] [] ≡ 0) e new in
            omega (arith, counts k, one, other, none_there)
        | inr n ↦
            let none_got : one_if (is_row k) got ≡ 0 = ap flag (ne_eqb got k n) in
            omega (arith, counts k, none_got, was.once k)
      ];
      mine = λ k there. elim (cases_eq got k) [
        | inl e ↦ subst (λ i. (place i ≡ WithSeat p) × (i < rows_of plan)) e (at_got, got_is.1)
        | inr n ↦
            let none_got : one_if (is_row k) got ≡ 0 = ap flag (ne_eqb got k n) in
            elim (cases_eq given k) [
              | inl e ↦
                  let one : one_if (is_row k) given ≡ 1 = ap flag (eq-eqb given k e) in
                  absurd (omega (arith, counts k, none_got, one, was.once k, there))
              | inr m ↦
                  let old = was.mine k (omega (arith, counts k, none_got, there)) in
                  (at_other k (λ e. m (sym e)) (λ e. n (sym e)) ∙ old.0, old.1)
            ]
      ];
      all =
          let less = shorter now.free some in
          let more = length-append now.kept (got ∷ []) in
          omega (arith, was.all, less, more);
    }

    own_then : PrivateOf plan place p then
    own_then =
        let made : Private plan place p then.stand (drop 1 now.free) (now.kept ++ got ∷ []) None = record {
          rows = rows_then;
          room = (still, omega (arith, done));
        } in
        subst (λ (s : Option Scan). Private plan place p then.stand then.free then.kept s) (sym scan_then)
        (subst (λ (ks : List ℕ). Private plan place p then.stand then.free ks None) (sym kept_then)
        (subst (λ (fs : List ℕ). Private plan place p then.stand fs (now.kept ++ got ∷ []) None) (sym free_then) made))

    -- another seat has its rows where they were
    own_other : (q : ℕ) → q ≢ p → q < holders_of plan.settings → PrivateOf plan place q (seat_in x q)
    own_other q n less =
        let old = h.seats q less in
        record {
          rows = record {
            once = old.rows.once;
            mine = λ k there.
                let is = old.rows.mine k there in (
                  at_other k (λ e. n (ap number_of (sym is.0 ∙ ap h.at e ∙ given_is.0)))
                      (λ e. not_both plan h.at q k b is.0 (ap h.at e ∙ got_is.0)) ∙ is.0,
                  is.1,
                );
            all = old.rows.all;
          };
          room = old.room;
        }

    pub exchanged_owned : Owned plan z
    exchanged_owned = record {
      long = length-set x.seats p then ∙ h.long;
      at = place;
      words = words_then;
      seats = λ q less. elim (cases_eq q p) [
        | inl e ↦ subst (λ i. PrivateOf plan place i (seat_in z i)) (sym e)
            (subst (PrivateOf plan place p)
            (sym (mine (with_word x.store (W.Bucket b) (tag plan generation given)) then answers updates)) own_then)
        | inr n ↦ subst (PrivateOf plan place q)
            (sym (others (with_word x.store (W.Bucket b) (tag plan generation given)) then answers updates q n))
            (own_other q n less)
      ];
      taken = taken;
    }

    pub given_with : (h.at given ≡ WithSeat p) × (given < rows_of plan)
    given_with = given_is
