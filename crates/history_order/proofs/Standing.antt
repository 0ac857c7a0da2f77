-- How a loop over turns stands: what it has reached, the numbers of each seat's placed calls, and the pieces without
-- calls that are set aside. A turn of a piece without calls keeps it, and so does one of the piece that comes next; and
-- where nothing is aside and no seat has a ready candidate, the one order is made.
use Rattle.std.proofs.Common.{◌≡◌, ◌≢◌, ℕ, ◌+◌, ◌<◌, arith, true, List, [], ◌++◌, Option, refl, inl, inr, sym, ap, ◌∙◌, subst, append-nil}
use Rattle.std.proofs.lemmas.Bool.{and_parts, and_from}
use Rattle.std.specs.List.{list_all}
use Rattle.table_model.specs.Setup.{Setup, seats_of}
use Rattle.table_model.specs.Reading.{is_among}
use Rattle.table_model.specs.Order.{Closing, Piece, ByBucketRow, ByDirectoryRow, Placing, calls_in, is_next, has_base, is_ready, is_placed, start_of, order_of}
use Rattle.list_laws.proofs.Lists.{In, in_at}
use Rattle.placing_laws.proofs.Turns.{Turn, after}
use Rattle.placing_laws.proofs.Alone.{Alone}
use Rattle.closed_laws.proofs.Book.{Book, Written}
use Rattle.closed_laws.proofs.Ledger.{Ledger}
use Rattle.closed_laws.proofs.Pieces.{piece_at}
use Rattle.closed_laws.proofs.Ends.{call_there}
use Rattle.history_order.specs.Turns.{Reaches, rank_in}
use Rattle.history_order.proofs.Reaching.{leads_on, reached_ends}
use Rattle.history_order.proofs.Counted.{Counted, counted_step, more_of}
use Rattle.history_order.proofs.Candidates.{IsUnits, NoneOf, NoneFree, reached_stays, comes_next, nothing_left}
use Rattle.history_order.proofs.Aside.{AllAside, Touches, aside_on}
use Rattle.std.proofs.Math.Numerals.{add-one}

module _ (setup : Setup) (closing : Closing) where
  -- how it stands
  pub record Stands (many : ℕ → ℕ) (aside : List Piece) (p : Placing) : Type 0 where
    pub reaches : Reaches setup.shape closing p
    pub counted : Counted setup closing many p
    pub all : AllAside setup closing (λ x. In x aside) p

  -- only those that are left, have no calls and have their base need be aside
  pub set_less : (many : ℕ → ℕ) (aside then : List Piece) (p : Placing) → Stands many aside p →
      ((x : Piece) → In x p.left → calls_in setup.shape closing x ≡ [] → has_base setup.shape closing p x ≡ true →
      In x aside → In x then) → Stands many then p
  set_less many aside then p s keep = record {
    reaches = s.reaches;
    counted = s.counted;
    all = λ x i free base. keep x i free base (s.all x i free base);
  }

  -- and the numbers count by their values
  pub stands_same : (many now : ℕ → ℕ) (aside : List Piece) (p : Placing) → ((seat : ℕ) → many seat ≡ now seat) →
      Stands many aside p → Stands now aside p
  stands_same many now aside p same s = record {
    reaches = s.reaches;
    counted = record {
      has = λ seat n one few. s.counted.has seat n one (omega (arith, few, same seat));
      only = λ seat n h. let r = s.counted.only seat n h in (r.0, omega (arith, r.1, same seat));
    };
    all = s.all;
  }

  -- a bucket row that is placed has had its turn
  pub row_had : (p : Placing) (row : ℕ) → Alone setup closing p → is_among p.rows row ≡ true →
      In (ByBucketRow row) p.left → ⊥
  row_had p row a h i = (a.fresh (ByBucketRow row) i).rows row (inl refl) h

  -- and so has a directory row
  pub version_had : (p : Placing) (row : ℕ) → Alone setup closing p → is_among p.directories row ≡ true →
      In (ByDirectoryRow row) p.left → ⊥
  version_had p row a h i = (a.fresh (ByDirectoryRow row) i).directories row (inl refl) h

  -- these are set aside after the turn of y: those that were, but for y, and all that it touches
  pub record SetAside (p : Placing) (at : ℕ) (y : Piece) (before then : List Piece) : Type 0 where
    pub kept : (x : Piece) → x ≢ y → In x before → In x then
    pub new : (x : Piece) → In x (after setup closing p at y).left → calls_in setup.shape closing x ≡ [] →
        Touches setup closing y x → has_base setup.shape closing (after setup closing p at y) x ≡ true → In x then

  -- a piece without calls leaves the order
  order_same : (p : Placing) (at : ℕ) (y : Piece) → calls_in setup.shape closing y ≡ [] →
      (after setup closing p at y).order ≡ p.order
  order_same p at y e = ap (λ calls. p.order ++ calls) e ∙ append-nil p.order

  -- and so the numbers
  counted_free : (many : ℕ → ℕ) (p : Placing) (at : ℕ) (y : Piece) → calls_in setup.shape closing y ≡ [] →
      Counted setup closing many p → Counted setup closing many (after setup closing p at y)
  counted_free many p at y e k = record {
    has = λ seat n one few. subst (λ order. is_placed order seat n ≡ true) (sym (order_same p at y e))
        (k.has seat n one few);
    only = λ seat n h. k.only seat n (subst (λ order. is_placed order seat n ≡ true) (order_same p at y e) h);
  }

  -- a piece without calls that has its base is ready
  pub free_ready : (p : Placing) (x : Piece) → calls_in setup.shape closing x ≡ [] →
      has_base setup.shape closing p x ≡ true → is_ready setup.shape closing p x ≡ true
  free_ready p x e base =
      and_from (has_base setup.shape closing p x)
      (list_all (is_next setup.shape p.order) (calls_in setup.shape closing x)) base
      (subst (λ calls. list_all (is_next setup.shape p.order) calls ≡ true) (sym e) refl)

module _ (setup : Setup) (closing : Closing) (k : Book) (w : Written setup closing.words k)
    (l : Ledger setup closing k) (unit_of : ℕ → ℕ → Option Piece) (u : IsUnits setup closing unit_of)
    (many : ℕ → ℕ) (p : Placing) where
  -- the turn of a piece without calls keeps it
  pub free_on : (aside then : List Piece) (at : ℕ) (y : Piece) → Stands setup closing many aside p →
      Turn setup closing p at y → calls_in setup.shape closing y ≡ [] → SetAside setup closing p at y aside then →
      Stands setup closing many then (after setup closing p at y)
  free_on aside then at y s t free a = record {
    reaches = leads_on setup closing (start_of setup.shape closing) p (after setup closing p at y) s.reaches (record {
      at = at;
      piece = y;
      left = t.stands;
      ready = t.ready;
      free = inl free;
      placed = refl;
    });
    counted = counted_free setup closing many p at y free s.counted;
    all = aside_on setup closing k w l unit_of u (λ x. In x aside) (λ x. In x then) p at y
        (reached_stays setup closing k w l unit_of u p s.reaches) t s.all a.kept a.new;
  }

  -- where nothing is aside no piece without calls is ready
  pub none_free : (s : Stands setup closing many [] p) →
      NoneFree setup closing k w l unit_of u p s.reaches many s.counted
  none_free s x i free ready =
      elim (s.all x i free (and_parts (has_base setup.shape closing p x)
      (list_all (is_next setup.shape p.order) (calls_in setup.shape closing x)) ready).0) [ ]

  -- the turn of the first seat's ready candidate keeps it, with one more for each seat that has a call in it
  pub next_on : (then : List Piece) (seat at : ℕ) (y : Piece) → (s : Stands setup closing many [] p) →
      seat < seats_of setup →
      ((before : ℕ) → before < seat → NoneOf setup closing k w l unit_of u p s.reaches many s.counted before) →
      Turn setup closing p at y → rank_in setup.shape closing y ≡ seat + 1 → SetAside setup closing p at y [] then →
      Stands setup closing (more_of setup closing many y) then (after setup closing p at y)
  next_on then seat at y s inside none t rank a =
      let stays = reached_stays setup closing k w l unit_of u p s.reaches in
      let i = in_at p.left at y t.stands in
      record {
        reaches = leads_on setup closing (start_of setup.shape closing) p (after setup closing p at y) s.reaches
            (record {
              at = at;
              piece = y;
              left = t.stands;
              ready = t.ready;
              free = inr (comes_next setup closing k w l unit_of u p s.reaches many s.counted (none_free s) seat at y
                  inside none t (rank ∙ add-one seat));
              placed = refl;
            });
        counted = counted_step setup closing many p at y t i stays.alone
            (λ c m. l.numbered c (call_there setup closing k w l y c
            (piece_at setup closing k w l y (stays.kept.known y i)) m)) s.counted;
        all = aside_on setup closing k w l unit_of u (λ x. In x []) (λ x. In x then) p at y stays t s.all a.kept a.new;
      }

  -- and where no seat has one, the order is made
  pub order_made : (s : Stands setup closing many [] p) →
      ((seat : ℕ) → seat < seats_of setup →
      NoneOf setup closing k w l unit_of u p s.reaches many s.counted seat) →
      ((x : Piece) → In x p.left → (y : Piece) × In y p.left × (is_ready setup.shape closing p y ≡ true)) →
      p.order ≡ order_of setup.shape closing
  order_made s none some = reached_ends setup closing p s.reaches
      (nothing_left setup closing k w l unit_of u p s.reaches many s.counted (none_free s) none some)
