-- Who comes next. A ready piece with calls is the piece of its first seat's next call, so it is found by asking each
-- seat in turn for the piece of its next call; and where no seat has a ready one, nothing is left.
use Rattle.std.proofs.Common.{◌≡◌, ℕ, suc, ◌+◌, ◌<◌, ◌⊎◌, true, List, [], ◌∷◌, Option, Some, refl, inl, inr, sym, ◌∙◌, subst, arith}
use Rattle.std.specs.Prelude.{slice_get}
use Rattle.std.proofs.lemmas.Bool.{cases_lt}
use Rattle.plain_map.specs.History.{Placed, seat_of, number_of}
use Rattle.table_model.specs.Setup.{Setup, seats_of}
use Rattle.table_model.specs.Order.{Closing, Piece, Placing, is_call, calls_in, is_ready, rank_of_calls, choice, pieces_of, calls_of}
use Rattle.list_laws.proofs.Lists.{In, in_at, any_from}
use Rattle.placing_laws.proofs.Turns.{Turn}
use Rattle.placing_laws.proofs.Stuck.{is_call_at}
use Rattle.placing_laws.proofs.Alone.{same_seat_same_piece}
use Rattle.closed_laws.proofs.Book.{Book, Written}
use Rattle.closed_laws.proofs.Ledger.{Ledger}
use Rattle.closed_laws.proofs.Pieces.{piece_at}
use Rattle.closed_laws.proofs.Ends.{call_there}
use Rattle.closed_laws.proofs.OneReady.{Stays, stays_step, stays_start, one_place}
use Rattle.history_order.specs.Turns.{Reaches, rank_in}
use Rattle.history_order.proofs.Reaching.{reached_keeps}
use Rattle.history_order.proofs.Choosing.{first_is_chosen}
use Rattle.history_order.proofs.Counted.{Counted, is_the_next}

module _ (setup : Setup) (closing : Closing) where
  -- the piece of each call
  pub record IsUnits (unit_of : ℕ → ℕ → Option Piece) : Type 0 where
    pub there : (x : Piece) (c : Placed) → In x (pieces_of setup.shape closing) →
        In c (calls_in setup.shape closing x) → unit_of (seat_of c) (number_of c) ≡ Some x
    pub back : (seat n : ℕ) (x : Piece) → unit_of seat n ≡ Some x → In x (pieces_of setup.shape closing)
        × ((c : Placed) × In c (calls_in setup.shape closing x) × (seat_of c ≡ seat) × (number_of c ≡ n))

  -- the first call of a piece with a rank
  first_call : (calls : List Placed) (seat : ℕ) → rank_of_calls calls ≡ suc seat →
      (c : Placed) × In c calls × (seat_of c ≡ seat)
  first_call [] seat e = absurd (omega (arith, e))
  first_call (c ∷ calls) seat e = (c, inl refl, omega (arith, e))

  -- a piece has calls or has none
  with_calls : (calls : List Placed) → (calls ≡ []) ⊎ ((seat : ℕ) × (rank_of_calls calls ≡ suc seat))
  with_calls [] = inl refl
  with_calls (c ∷ calls) = inr (seat_of c, refl)

module _ (setup : Setup) (closing : Closing) (k : Book) (w : Written setup closing.words k)
    (l : Ledger setup closing k) (unit_of : ℕ → ℕ → Option Piece) (u : IsUnits setup closing unit_of) where
  -- what is reached has each piece left or placed, and what is left is not placed
  pub reached_stays : (p : Placing) → Reaches setup.shape closing p → Stays setup closing p
  reached_stays = reached_keeps setup closing (Stays setup closing) (stays_step setup closing)
      (stays_start setup closing k w l)

  -- the calls of a piece are those that there are
  call_of_left : (p : Placing) (x : Piece) (c : Placed) → Stays setup closing p → In x p.left →
      In c (calls_in setup.shape closing x) → In c (calls_of closing)
  call_of_left p x c s i m = call_there setup closing k w l x c
      (piece_at setup closing k w l x (s.kept.known x i)) m

  module _ (p : Placing) (r : Reaches setup.shape closing p) (many : ℕ → ℕ) (counted : Counted setup closing many p)
    where
      -- its pieces
      s : Stays setup closing p
      s = reached_stays p r

      -- the piece of a seat's next call is left
      pub candidate_left : (seat : ℕ) (x : Piece) → unit_of seat (many seat + 1) ≡ Some x → In x p.left
      candidate_left seat x e =
          let b = u.back seat (many seat + 1) x e in
          elim (s.kept.all x b.0) [
            | inl there ↦ there
            | inr placed ↦
                let c = b.1.0 in
                let h = any_from (is_call seat (many seat + 1)) p.order c (placed.calls c b.1.1)
                (is_call_at c seat (many seat + 1) b.1.2 b.1.3) in
                absurd (omega (arith, (counted.only seat (many seat + 1) h).1))
          ]

      -- a ready piece is the candidate of each of its seats
      pub ready_candidate : (x : Piece) (c : Placed) → In x p.left → is_ready setup.shape closing p x ≡ true →
          In c (calls_in setup.shape closing x) → unit_of (seat_of c) (many (seat_of c) + 1) ≡ Some x
      ready_candidate x c i ready m =
          let number = is_the_next setup closing many p x c counted s.alone i ready m
          (l.numbered c (call_of_left p x c s i m)) in
          subst (λ n. unit_of (seat_of c) n ≡ Some x) number (u.there x c (s.kept.known x i) m)

      -- the seat has no ready candidate of which it is the first seat
      abbrev pub NoneOf : ℕ → Type 0
      NoneOf seat = (x : Piece) → unit_of seat (many seat + 1) ≡ Some x → rank_in setup.shape closing x ≡ suc seat →
          is_ready setup.shape closing p x ≡ true → ⊥

      -- no piece without calls is ready
      abbrev pub NoneFree : Type 0
      NoneFree = (x : Piece) → In x p.left → calls_in setup.shape closing x ≡ [] →
          is_ready setup.shape closing p x ≡ true → ⊥

      -- a ready piece begins with a seat that has it as its candidate
      pub begins : NoneFree → (x : Piece) → In x p.left → is_ready setup.shape closing p x ≡ true →
          (seat : ℕ) × (seat < seats_of setup) × (rank_in setup.shape closing x ≡ suc seat)
          × (unit_of seat (many seat + 1) ≡ Some x)
      begins free x i ready = elim (with_calls setup closing (calls_in setup.shape closing x)) [
        | inl none ↦ absurd (free x i none ready)
        | inr has ↦
            let c = first_call setup closing (calls_in setup.shape closing x) has.0 has.1 in (
              has.0,
              subst (λ q. q < seats_of setup) c.2 (l.seats c.0 (call_of_left p x c.0 s i c.1)),
              has.1,
              subst (λ q. unit_of q (many q + 1) ≡ Some x) c.2 (ready_candidate x c.0 i ready c.1),
            )
      ]

      -- where no seat before it has one, the first seat that has one has the piece that comes next
      pub comes_next : NoneFree → (seat at : ℕ) (x : Piece) → seat < seats_of setup →
          ((before : ℕ) → before < seat → NoneOf before) → Turn setup closing p at x →
          rank_in setup.shape closing x ≡ suc seat → choice setup.shape closing p ≡ Some at
      comes_next free seat at x inside none t rank = first_is_chosen setup closing p at (record {
        piece = x;
        left = t.stands;
        ready = t.ready;
        seat = omega (arith, rank, inside);
        least = λ other y stands ready.
            let b = begins free y (in_at p.left other y stands) ready in
            elim (cases_lt b.0 seat) [
              | inl less ↦ absurd (none b.0 less y b.3 b.2 ready)
              | inr past ↦ omega (arith, past, b.2, rank)
            ];
        alone = λ other y stands ready same.
            let c = first_call setup closing (calls_in setup.shape closing x) seat rank in
            let d = first_call setup closing (calls_in setup.shape closing y) seat (same ∙ rank) in
            let i = in_at p.left at x t.stands in
            let j = in_at p.left other y stands in
            let is : x ≡ y = same_seat_same_piece setup closing p x y c.0 d.0 s.alone i j t.ready ready c.1 d.1
            (c.2 ∙ sym d.2) (l.numbered c.0 (call_of_left p x c.0 s i c.1))
            (l.numbered d.0 (call_of_left p y d.0 s j d.1)) in
            one_place setup closing p.left x c.0 at other s.alone.apart c.1 t.stands
            (subst (λ z. slice_get p.left other ≡ Some z) (sym is) stands);
      })

      -- where no seat has one, and of what is left one is always ready, nothing is left
      pub nothing_left : NoneFree → ((seat : ℕ) → seat < seats_of setup → NoneOf seat) →
          ((x : Piece) → In x p.left → (y : Piece) × In y p.left × (is_ready setup.shape closing p y ≡ true)) →
          p.left ≡ []
      nothing_left free none some = go p.left refl
        where
          go : (xs : List Piece) → p.left ≡ xs → xs ≡ []
          go [] e = refl
          go (x ∷ xs) e =
              let y = some x (subst (In x) (sym e) (inl refl)) in
              let b = begins free y.0 y.1 y.2 in
              absurd (none b.0 b.1 y.0 b.3 b.2 y.2)
