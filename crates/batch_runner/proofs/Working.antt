-- The workers of a table, as they are made and taken apart.
use Rattle.std.proofs.Common.{◌≡◌, ℕ, zero, suc, ◌<◌, ◌+◌, ◌^◌, List, [], ◌∷◌, ◌++◌, Some, length, map, take, drop, reverse, refl, sym, ap, ◌∙◌, subst, vec_len, Vec, Global, arith, append_assoc, append-nil}
use Rattle.std.specs.Prelude.{All}
use Rattle.std.specs.List.{AllZip}
use Rattle.std.proofs.lemmas.List.{reverse-append}
use Rattle.std.proofs.lemmas.List.Elements.{All-nil, All-cons, All-head, All-tail, length_all_zip}
use Rattle.std.proofs.lemmas.Option.{same_Some}
use Rattle.step_counts.specs.declared.rows.SeatRows.{SeatRows}
use Rattle.step_counts.specs.StepCounts.{need_of}
use Rattle.plain_map.specs.declared.calls.Call.{Call}
use Rattle.plain_map.specs.declared.records.Record.{Record}
use Rattle.plain_map.specs.Serving.{IsAskable}
use Rattle.word_rows.specs.Shape.{sizes_of}
use Rattle.table_model.specs.Setup.{settings_of}
use Rattle.shared_table.specs.SeatValues.{SeatValue}
use Rattle.shared_table.specs.declared.caller.Caller.{Caller}
use Rattle.shared_table.specs.Values.{IsSame, TableValue, new_seat, new_seats}
use Rattle.trace_share.specs.declared.outcome.Outcome.{Outcome}
use Rattle.trace_share.specs.Outcomes.{ComesTo, RefusedByRoom, records_in}
use Rattle.list_laws.proofs.Cuts.{whole_slice}
use Rattle.batch_runner.specs.declared.workers.SeatWorker.{SeatWorker}
use Rattle.batch_runner.specs.Seats.{AreFresh, AreThrough, HasMade, HasWorked, HaveMade, IsFresh, IsThrough, MayWork, answered_by, needed_by, ranges_of, spent_by}

-- ---- new seats

-- the last of them
pub new_end : (t : TableValue) (n : ℕ) (xs : List SeatValue) (x : SeatValue) (m : ℕ) → xs ++ x ∷ [] ≡ new_seats t n m →
    (xs ≡ new_seats t n (length xs)) × (x ≡ new_seat t (n + length xs))
new_end t n [] x zero e = cc
new_end t n [] x (suc zero) e =
    let f : x ≡ new_seat t n = cc in
    let z : n ≡ n + 0 = omega arith in
    (refl, f ∙ ap (new_seat t) z)
new_end t n [] x (suc (suc m)) e = cc
new_end t n (y ∷ ys) x zero e = cc
new_end t n (y ∷ ys) x (suc m) e =
    let head : y ≡ new_seat t n = cc in
    let rest : ys ++ x ∷ [] ≡ new_seats t (suc n) m = cc in
    let r = new_end t (suc n) ys x m rest in
    let z : suc n + length ys ≡ n + suc (length ys) = omega arith in
    ((λ i. head i ∷ r.0 i), r.1 ∙ ap (new_seat t) z)

-- ---- workers

-- what the caller that a seat becomes has answered and published, its ranges, what an update may need, and how it stays
-- the same
abbrev pub answered : Caller → List Record
answered s = answered_by s.seat

abbrev pub spent : Caller → List SeatRows
spent s = spent_by s.seat

abbrev pub rows : Caller → SeatRows
rows s = ranges_of s.seat

abbrev pub need : Caller → SeatRows
need s = needed_by s.seat

abbrev pub stays : Caller → Caller → Type 0
stays s s' = IsSame s.seat s'.seat × (s'.directory.now ≡ s.directory.now)

-- what came of calls that a caller was asked came of its seat's
pub by_seat : (calls : List (ℕ × Call)) (log : List Outcome) (was now : Caller) →
    ComesTo answered spent rows need stays calls log was now →
    ComesTo answered_by spent_by ranges_of needed_by IsSame calls log was.seat now.seat
by_seat calls log was now c = record {
  asked = c.asked;
  answered_are = c.answered_are;
  numbered = c.numbered;
  used = c.used;
  each_used = c.each_used;
  spent_are = c.spent_are;
  refused = c.refused;
  same_rows = c.same_rows;
  same_need = c.same_need;
  same = c.same.0;
}

-- a share of calls that may be asked, no more than can be counted
abbrev pub IsShort : List (ℕ × Call) → Type 0
IsShort share = (All (λ (call : ℕ × Call). IsAskable call.1) share) × (length share < 2 ^ 32)

-- workers that keep such values of the outcomes
module _ {K : Type 0} (holds : K → List Outcome → Type 0) (room : K → ℕ) where
  -- each of as many as there are shares
  pub many_fresh : (t : TableValue) (n : ℕ) (shares : List (List (ℕ × Call))) (ws : List (SeatWorker K)) →
      AreFresh holds room t n shares ws → length ws ≡ length shares
  many_fresh t n [] [] f = refl
  many_fresh t n [] (w ∷ ws) f = absurd f
  many_fresh t n (share ∷ shares) [] f = absurd f
  many_fresh t n (share ∷ shares) (w ∷ ws) f = ap suc (many_fresh t (suc n) shares ws f.1)

  -- they may work
  pub all_ready : (t : TableValue) (n : ℕ) (shares : List (List (ℕ × Call))) (ws : List (SeatWorker K)) →
      All IsShort shares → AreFresh holds room t n shares ws → All (MayWork holds room t) ws
  all_ready t n [] [] short f = All-nil (MayWork holds room t)
  all_ready t n [] (w ∷ ws) short f = absurd f
  all_ready t n (share ∷ shares) [] short f = absurd f
  all_ready t n (share ∷ shares) (w ∷ ws) short f =
      let one = f.0 in
      let here = All-head IsShort share shares short in
      let none : length (answered_by (new_seat t n)) ≡ 0 = refl in
      let long : vec_len w.calls ≡ length share = w.calls.ok.0 ∙ ap length one.calls_are in
      All-cons (MayWork holds room t) w ws
      (record {
        own = new_seat t n;
        seat = one.seat;
        of = record { table = refl; setup = refl };
        none = one.none;
        room_left = one.room_left;
        askable = subst (All (λ (call : ℕ × Call). IsAskable call.1)) (sym one.calls_are) here.0;
        countable = omega (arith, none, long, here.1);
      })
      (all_ready t (suc n) shares ws (All-tail IsShort share shares short) f.1)

  -- when its caller has made the calls, it has worked
  pub worked_there : (w x : SeatWorker K) (was now : Caller) (own : SeatValue) → w.seat ≡ Some own → was.seat ≡ own →
      x.seat ≡ Some now.seat → (log : List Outcome) → holds x.kept log → (calls : List (ℕ × Call)) →
      calls ≡ w.calls.items → ComesTo answered spent rows need stays calls log was now → HasWorked holds w x
  worked_there w x was now own had seat has log kept calls same c = record {
    before = own;
    after = now.seat;
    had = had;
    has = has;
    log = log;
    kept = kept;
    came_to = subst (λ (a : SeatValue).
        ComesTo answered_by spent_by ranges_of needed_by IsSame w.calls.items log a now.seat) seat
        (subst (λ (cs : List (ℕ × Call)).
        ComesTo answered_by spent_by ranges_of needed_by IsSame cs log was.seat now.seat) same
        (by_seat calls log was now c));
  }

  -- one that has worked has made its calls
  made_by : (t : TableValue) (n : ℕ) (share : List (ℕ × Call)) (w v : SeatWorker K) → IsFresh holds room t n share w →
      HasWorked holds w v → IsThrough holds t n share v
  made_by t n share w v f d =
      let c = d.came_to in
      let was : d.before ≡ new_seat t n = same_Some d.before (new_seat t n) (sym d.had ∙ f.seat) in
      let used_is : c.used ≡ spent_by d.after =
      sym (c.spent_are ∙ ap (λ (s : SeatValue). spent_by s ++ c.used) was) in
      record {
        log = d.log;
        own = d.after;
        seat = d.has;
        made = record {
          of = record {
            table = c.same.table ∙ ap (λ (s : SeatValue). s.table_id) was;
            setup = c.same.setup ∙ ap (λ (s : SeatValue). s.holding.setup) was;
          };
          number_is = c.same.number ∙ ap (λ (s : SeatValue). s.holding.seat) was;
          asked = c.asked ∙ f.calls_are;
          records = c.answered_are ∙ ap (λ (s : SeatValue). answered_by s ++ records_in d.log) was;
          refused = subst (λ (used : List SeatRows). RefusedByRoom (sizes_of t.setup.shape n)
              (need_of (settings_of t.setup)) [] used d.log)
              used_is
              (subst (λ (s : SeatValue). RefusedByRoom (sizes_of s.holding.setup.shape s.holding.seat)
              (need_of (settings_of s.holding.setup)) (spent_by s) c.used d.log) was c.refused);
        };
        kept = d.kept;
      }

  -- so have all that are done
  pub all_through : (t : TableValue) (n : ℕ) (shares : List (List (ℕ × Call))) (ws vs : List (SeatWorker K)) →
      AreFresh holds room t n shares ws → AllZip (HasWorked holds) ws vs →
      AreThrough holds t n shares vs
  all_through t n [] [] [] f z = tt
  all_through t n [] [] (v ∷ vs) f z = absurd z
  all_through t n [] (w ∷ ws) vs f z = absurd f
  all_through t n (share ∷ shares) [] vs f z = absurd f
  all_through t n (share ∷ shares) (w ∷ ws) [] f z = absurd z
  all_through t n (share ∷ shares) (w ∷ ws) (v ∷ vs) f z =
      (made_by t n share w v f.0 z.0, all_through t (suc n) shares ws vs f.1 z.1)

  -- made from the last seat down
  pub record FreshFrom (t : TableValue) (n : ℕ) (all front : List (List (ℕ × Call))) (ws : List (SeatWorker K)) :
      Type 0 where
    pub back : List (List (ℕ × Call))
    pub cut : all ≡ front ++ back
    pub fresh : AreFresh holds room t n back (reverse ws)

  -- one more is made
  pub fresh_more : (t : TableValue) (n m : ℕ) (all front more : List (List (ℕ × Call))) (share : List (ℕ × Call))
      (ws now : List (SeatWorker K)) (w : SeatWorker K) → m ≡ suc n → FreshFrom t m all more ws →
      more ≡ front ++ share ∷ [] → IsFresh holds room t n share w → now ≡ ws ++ w ∷ [] → FreshFrom t n all front now
  fresh_more t n m all front more share ws now w m_is from more_is one now_is = record {
    back = share ∷ from.back;
    cut = from.cut ∙ ap (λ (xs : List (List (ℕ × Call))). xs ++ from.back) more_is
        ∙ append_assoc front (share ∷ []) from.back;
    fresh = subst (AreFresh holds room t n (share ∷ from.back)) (sym (ap reverse now_is ∙ reverse-append ws (w ∷ [])))
        (one, subst (λ (k : ℕ). AreFresh holds room t k from.back (reverse ws)) m_is from.fresh);
  }

-- ---- the last worker first

module _ {K : Type 0} (holds : K → List Outcome → Type 0) where
  -- the last of those that are through
  pub record LastThrough (t : TableValue) (n : ℕ) (shares : List (List (ℕ × Call))) (ws : List (SeatWorker K))
      (w : SeatWorker K) : Type 0 where
    pub front : List (List (ℕ × Call))
    pub share : List (ℕ × Call)
    pub cut : shares ≡ front ++ share ∷ []
    pub others : AreThrough holds t n front ws
    pub last : IsThrough holds t (n + length ws) share w

  -- there is one
  pub through_end : (t : TableValue) (n : ℕ) (shares : List (List (ℕ × Call))) (ws : List (SeatWorker K))
      (w : SeatWorker K) → AreThrough holds t n shares (ws ++ w ∷ []) → LastThrough t n shares ws w
  through_end t n [] [] w h = absurd h
  through_end t n [] (v ∷ ws) w h = absurd h
  through_end t n (share ∷ []) [] w h =
      let z : n ≡ n + 0 = omega arith in
      record {
        front = [];
        share = share;
        cut = refl;
        others = tt;
        last = subst (λ (k : ℕ). IsThrough holds t k share w) z h.0;
      }
  through_end t n (share ∷ next ∷ shares) [] w h = absurd h.1
  through_end t n (share ∷ shares) (v ∷ ws) w h =
      let r = through_end t (suc n) shares ws w h.1 in
      let z : suc n + length ws ≡ n + suc (length ws) = omega arith in
      record {
        front = share ∷ r.front;
        share = r.share;
        cut = ap (λ (xs : List (List (ℕ × Call))). share ∷ xs) r.cut;
        others = (h.0, r.others);
        last = subst (λ (k : ℕ). IsThrough holds t k r.share w) z r.last;
      }

  -- taken apart from the last one down
  pub record MadeFrom (t : TableValue) (n : ℕ) (all : List (List (ℕ × Call))) (ws : List (SeatWorker K))
      (seats : List SeatValue) (kept : List K) : Type 0 where
    pub front : List (List (ℕ × Call))
    pub back : List (List (ℕ × Call))
    pub cut : all ≡ front ++ back
    pub through : AreThrough holds t 0 front ws
    pub logs : List (List Outcome)
    pub made : HaveMade t n back (reverse seats) logs
    pub held : AllZip holds (reverse kept) logs

  -- none is taken apart yet
  pub made_none : (t : TableValue) (n : ℕ) (all : List (List (ℕ × Call))) (ws : List (SeatWorker K)) →
      AreThrough holds t 0 all ws → MadeFrom t n all ws [] []
  made_none t n all ws h = record {
    front = all;
    back = [];
    cut = sym (append-nil all);
    through = h;
    logs = [];
    made = tt;
    held = tt;
  }

  -- one more is
  pub made_more : (t : TableValue) (n m : ℕ) (all : List (List (ℕ × Call))) (ws now : List (SeatWorker K))
      (w : SeatWorker K) (seat : SeatValue) (seats seats' : List SeatValue) (kept kept' : List K) →
      MadeFrom t m all ws seats kept → ws ≡ now ++ w ∷ [] → n ≡ length now → m ≡ suc n → w.seat ≡ Some seat →
      seats' ≡ seats ++ seat ∷ [] → kept' ≡ kept ++ w.kept ∷ [] → MadeFrom t n all now seats' kept'
  made_more t n m all ws now w seat seats seats' kept kept' from ws_is n_is m_is seat_is seats_are kept_are =
      let r = through_end t 0 from.front now w (subst (AreThrough holds t 0 from.front) ws_is from.through) in
      let z : 0 + length now ≡ n = omega (arith, n_is) in
      let one = subst (λ (k : ℕ). IsThrough holds t k r.share w) z r.last in
      let own : one.own ≡ seat = same_Some one.own seat (sym one.seat ∙ seat_is) in
      record {
        front = r.front;
        back = r.share ∷ from.back;
        cut = from.cut ∙ ap (λ (xs : List (List (ℕ × Call))). xs ++ from.back) r.cut
            ∙ append_assoc r.front (r.share ∷ []) from.back;
        through = r.others;
        logs = one.log ∷ from.logs;
        made = subst (λ (x : List SeatValue). HaveMade t n (r.share ∷ from.back) x (one.log ∷ from.logs))
            (sym (ap reverse seats_are ∙ reverse-append seats (seat ∷ []))) (
              subst (λ (s : SeatValue). HasMade t n r.share s one.log) own one.made,
              subst (λ (k : ℕ). HaveMade t k from.back (reverse seats) from.logs) m_is from.made,
            );
        held = subst (λ (x : List K). AllZip holds x (one.log ∷ from.logs))
            (sym (ap reverse kept_are ∙ reverse-append kept (w.kept ∷ []))) (one.kept, from.held);
      }

  -- the last one that is left has a seat
  pub seat_there : (t : TableValue) (n : ℕ) (all : List (List (ℕ × Call))) (ws now : List (SeatWorker K))
      (w : SeatWorker K) (seats : List SeatValue) (kept : List K) → MadeFrom t n all ws seats kept →
      ws ≡ now ++ w ∷ [] → (own : SeatValue) × (w.seat ≡ Some own)
  seat_there t n all ws now w seats kept from ws_is =
      let r = through_end t 0 from.front now w (subst (AreThrough holds t 0 from.front) ws_is from.through) in
      (r.last.own, r.last.seat)

  -- then all are
  pub made_end : (t : TableValue) (all : List (List (ℕ × Call))) (ws : List (SeatWorker K)) (seats : List SeatValue)
      (kept : List K) → length ws ≡ 0 → MadeFrom t 0 all ws seats kept →
      (logs : List (List Outcome)) × HaveMade t 0 all (reverse seats) logs × AllZip holds (reverse kept) logs
  made_end t all (w ∷ ws) seats kept none from = absurd (omega (arith, none))
  made_end t all [] seats kept none from = (
    from.logs,
    subst (λ (shares : List (List (ℕ × Call))). HaveMade t 0 shares (reverse seats) from.logs)
        (sym (from.cut ∙ ap (λ (xs : List (List (ℕ × Call))). xs ++ from.back) (nothing from.front from.through)))
        from.made,
    from.held,
  )
    where
      nothing : (front : List (List (ℕ × Call))) → AreThrough holds t 0 front [] → front ≡ []
      nothing [] h = refl
      nothing (share ∷ front) h = absurd h

-- the shares are short
pub all_short : (shares : List (Vec (ℕ × Call) Global)) →
    All (λ (share : Vec (ℕ × Call) Global). All (λ (call : ℕ × Call). IsAskable call.1) share.items) shares →
    All (λ (share : Vec (ℕ × Call) Global). vec_len share < 2 ^ 32) shares →
    All IsShort (map (λ (share : Vec (ℕ × Call) Global). share.items) shares)
all_short [] askable short = All-nil IsShort
all_short (share ∷ shares) askable short =
    let A : Vec (ℕ × Call) Global →
    Type 0 = λ (s : Vec (ℕ × Call) Global). All (λ (call : ℕ × Call). IsAskable call.1) s.items in
    let S : Vec (ℕ × Call) Global → Type 0 = λ (s : Vec (ℕ × Call) Global). vec_len s < 2 ^ 32 in
    let few : length share.items < 2 ^ 32 = omega (arith, All-head S share shares short, share.ok.0) in
    All-cons IsShort share.items (map (λ (s : Vec (ℕ × Call) Global). s.items) shares)
    (All-head A share shares askable, few)
    (all_short shares (All-tail A share shares askable) (All-tail S share shares short))

-- so what holds of a slice of it, element by element, holds of the `Vec`
pub all_zip_slice : {A : Type 0} (R : A → A → Type 0) (slice ws vs : List A) (n : ℕ) → slice ≡ ws → n ≡ length ws →
    AllZip R slice vs → AllZip R ws (take n (vs ++ drop (length vs) ws))
all_zip_slice {A} R slice ws vs n same is zip =
    let zip_there : AllZip R ws vs = subst (λ (us : List A). AllZip R us vs) same zip in
    subst (AllZip R ws) (sym (whole_slice ws vs n is (sym (length_all_zip R ws vs zip_there)))) zip_there
