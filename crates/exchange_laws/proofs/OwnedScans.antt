-- A scan: the rows of its seat stay once each, and one of them is found free at least.
use Rattle.std.proofs.Common.{◌≡◌, ◌≢◌, ℕ, ◌+◌, ◌<◌, ◌≤◌, inl, inr, Bool, true, false, cond, List, [], ◌++◌, length, Some, sym, ap, subst, arith, lt-ltb}
use Rattle.std.specs.Prelude.{◌==◌, nat_lt}
use Rattle.std.proofs.lemmas.Bool.{cases_eq, cases_lt, eq-eqb, ne_eqb, cases_Bool, ltb-true, ltb-false}
use Rattle.std.proofs.lemmas.List.{length-append}
use Rattle.exchange_model.specs.Plans.{Plan, IsPlan, holders_of}
use Rattle.exchange_model.specs.Codes.{is_asking, held_row, time_in}
use Rattle.exchange_model.specs.Steps as S
use Rattle.exchange_model.specs.Steps.{Scan}
use Rattle.exchange_model.specs.Goes.{ScanFate, ScansOn, Scanned, without, alone, seat_or_end, seats_from, past_hold, scan_fate}
use Rattle.exchange_laws.proofs.RowLists.{both, parted, length_parted, alone_long}
use Rattle.exchange_laws.proofs.Words.{seat_holds}
use Rattle.exchange_laws.proofs.Owned.{Place, Rows, AtSeat, left_of, held_of, pool, regrouped}

-- the seat of a scan
abbrev pub seat_of : Scan → ℕ
seat_of (S.Seats k left held) = k
seat_of (S.Sees k t left held) = k
seat_of (S.Loads k t bucket left held) = k
seat_of (S.Gives k t row left held) = k

module _ (plan : Plan) (is : IsPlan plan) (at : ℕ → Place) (p : ℕ) (of_seat : p < plan.settings.seats) where
  inside : p < holders_of plan.settings
  inside = seat_holds plan p of_seat

  full : pool plan p ≡ plan.spare
  full = ap (λ (c : Bool). cond c plan.spare 0) (lt-ltb p plan.settings.seats of_seat)

  -- what a step of a scan leaves: it goes on with all rows, or some are found free
  abbrev pub Good : ScanFate → Type 0
  Good (ScansOn scan) = Rows plan at p [] [] (left_of (Some scan)) (held_of (Some scan))
      × AtSeat plan p (seat_of scan) (held_of (Some scan))
  Good (Scanned left held) = Rows plan at p left held [] [] × (1 ≤ length left)

  -- so many seats are looked at
  pub record UpTo (k : ℕ) (left held : List ℕ) : Type 0 where
    pub rows : Rows plan at p [] [] left held
    pub within : k ≤ holders_of plan.settings
    pub few : length held ≤ k
    pub past_own : p < k → length held + 1 ≤ k

  ends : (left held : List ℕ) → Rows plan at p [] [] left held → length held + 1 ≤ holders_of plan.settings →
      Good (Scanned left held)
  ends left held r few = (
    regrouped plan at p [] [] left held left held [] [] r (λ row. omega arith) (omega arith),
    omega (arith, r.all, full, few, is.enough),
  )

  on_or_end : (k : ℕ) (left held : List ℕ) → UpTo k left held → k ≢ p → Good (seat_or_end plan k left held)
  on_or_end k left held u other = elim (cases_Bool (nat_lt k (holders_of plan.settings))) [
    | inl e ↦ subst (λ (b : Bool). Good (cond b (ScansOn (S.Seats k left held)) (Scanned left held))) (sym e) (
      u.rows,
      record {
        within = ltb-true k (holders_of plan.settings) e;
        other = other;
        few = u.few;
        past_own = u.past_own;
      },
    )
    | inr e ↦
        let last : holders_of plan.settings ≤ k = ltb-false k (holders_of plan.settings) e in
        subst (λ (b : Bool). Good (cond b (ScansOn (S.Seats k left held)) (Scanned left held))) (sym e)
        (ends left held u.rows (let past = u.past_own (omega (arith, inside, last)) in let most = u.within in
        omega (arith, past, most)))
  ]

  -- the seat passes over itself
  pub from_seat : (k : ℕ) (left held : List ℕ) → UpTo k left held → Good (seats_from plan p k left held)
  from_seat k left held u = elim (cases_eq k p) [
    | inl e ↦ subst (λ (b : Bool). Good (seat_or_end plan (cond b (k + 1) k) left held)) (sym (eq-eqb k p e))
        (on_or_end (k + 1) left held (record {
          rows = u.rows;
          within = omega (arith, inside, e);
          few = omega (arith, u.few);
          past_own = λ _. omega (arith, u.few);
        }) (λ f. omega (arith, e, f)))
    | inr n ↦ subst (λ (b : Bool). Good (seat_or_end plan (cond b (k + 1) k) left held)) (sym (ne_eqb k p n))
        (on_or_end k left held u n)
  ]

  -- a seat was looked at, which holds nothing of it
  past : (k : ℕ) (left held : List ℕ) → Rows plan at p [] [] left held → AtSeat plan p k held →
      Good (seats_from plan p (k + 1) left held)
  past k left held r a = from_seat (k + 1) left held (record {
    rows = r;
    within = omega (arith, a.within);
    few = omega (arith, a.few);
    past_own = λ less. omega (arith, a.few);
  })

  -- or one row
  past_one : (k row : ℕ) (left held : List ℕ) → Rows plan at p [] [] left held → AtSeat plan p k held →
      Good (seats_from plan p (k + 1) (without row left) (held ++ alone row left))
  past_one k row left held r a =
      let one : length (alone row left) ≤ 1 =
      (let long = alone_long row left in let once = r.once row in omega (arith, long, once)) in
      let more : length (held ++ alone row left) ≡ length held + length (alone row left) =
      length-append held (alone row left) in
      from_seat (k + 1) (without row left) (held ++ alone row left) (record {
        rows = regrouped plan at p [] [] left held [] [] (without row left) (held ++ alone row left) r
            (λ x. (let two = both x held (alone row left) in let parts = parted row x left in
            omega (arith, two, parts)))
            (let parts = length_parted row left in omega (arith, more, parts));
        within = omega (arith, a.within);
        few = omega (arith, a.few, one, more);
        past_own = λ less. elim (cases_lt p k) [
          | inl l ↦ (let was = a.past_own l in omega (arith, was, one, more))
          | inr g ↦ absurd (a.other (omega (arith, less, g)))
        ];
      })

  by_word : (k : ℕ) (left held : List ℕ) (word : ℕ) → Rows plan at p [] [] left held → AtSeat plan p k held →
      Good (past_hold plan p k left held word)
  by_word k left held word r a = go (word == 0)
    where
      go : (b : Bool) → Good (cond b (seats_from plan p (k + 1) left held)
          (seats_from plan p (k + 1) (without (held_row word) left) (held ++ alone (held_row word) left)))
      go true = past k left held r a
      go false = past_one k (held_row word) left held r a

  -- THE RESULT: each step of a scan
  pub scan_good : (scan : Scan) (word : ℕ) → Rows plan at p [] [] (left_of (Some scan)) (held_of (Some scan)) →
      AtSeat plan p (seat_of scan) (held_of (Some scan)) → Good (scan_fate plan p scan word)
  scan_good (S.Seats k left held) word r a = go (is_asking word)
    where
      go : (b : Bool) → Good (cond b (ScansOn (S.Sees k (time_in word) left held)) (past_hold plan p k left held word))
      go true = (r, a)
      go false = by_word k left held word r a
  scan_good (S.Sees k t left held) word r a = (r, a)
  scan_good (S.Loads k t bucket left held) word r a = (r, a)
  scan_good (S.Gives k t row left held) word r a = go (is_asking word)
    where
      go : (b : Bool) → Good (cond b (seats_from plan p (k + 1) left held) (past_hold plan p k left held word))
      go true = past k left held r a
      go false = by_word k left held word r a
