-- The workers of a table, as they are made and taken apart.
use Rattle.std.proofs.Common.{◌≡◌, ℕ, zero, suc, ◌<◌, ◌≤◌, ◌+◌, ◌^◌, List, [], ◌∷◌, ◌++◌, length, map, get_or, reverse, refl, sym, ap, ◌∙◌, subst, vec_len, Vec, Global, arith, append_assoc, append-nil}
use Rattle.std.specs.Prelude.{All, slice_index}
use Rattle.std.specs.List.{AllZip}
use Rattle.std.proofs.lemmas.List.{length-map, map-append, reverse-append}
use Rattle.std.proofs.lemmas.List.Elements.{All-cons, All-head, All-nil, All-tail}
use Rattle.sim_steps.specs.declared.adds.Added.{Added}
use Rattle.sim_steps.specs.Layout.{seats_of}
use Rattle.sim_totals.specs.Values.{AdderValue, TableValue, fresh, fresh_from}
use Rattle.packet_adders.specs.declared.frames.Frame.{Frame}
use Rattle.packet_adders.specs.declared.workers.AddWorker.{AddWorker}
use Rattle.packet_adders.specs.Work.{IsAnswerTo, IsDone, IsReady}
use Rattle.totals_runner.specs.Seats.{AreFresh, AreThrough, HasAdded, HaveAdded, HaveRoom, IsFresh}

-- ---- new adders

-- the last of them
pub fresh_end : (t : TableValue) (n : ℕ) (xs : List AdderValue) (x : AdderValue) (m : ℕ) →
    xs ++ x ∷ [] ≡ fresh_from t n m → (xs ≡ fresh_from t n (length xs)) × (x ≡ fresh t (n + length xs))
fresh_end t n [] x zero e = cc
fresh_end t n [] x (suc zero) e =
    let f : x ≡ fresh t n = cc in
    let z : n ≡ n + 0 = omega arith in
    (refl, f ∙ ap (fresh t) z)
fresh_end t n [] x (suc (suc m)) e = cc
fresh_end t n (y ∷ ys) x zero e = cc
fresh_end t n (y ∷ ys) x (suc m) e =
    let head : y ≡ fresh t n = cc in
    let rest : ys ++ x ∷ [] ≡ fresh_from t (suc n) m = cc in
    let r = fresh_end t (suc n) ys x m rest in
    let z : suc n + length ys ≡ n + suc (length ys) = omega arith in
    ((λ i. head i ∷ r.0 i), r.1 ∙ ap (fresh t) z)

-- ---- workers

-- what is made of a list that is turned round
pub map-reverse : {A B : Type 0} (f : A → B) (xs : List A) → map f (reverse xs) ≡ reverse (map f xs)
map-reverse f [] = refl
map-reverse f (x ∷ xs) =
    ap (map f) (reverse-append (x ∷ []) xs) ∙ map-append f (reverse xs) (x ∷ [])
    ∙ ap (λ ys. ys ++ f x ∷ []) (map-reverse f xs) ∙ sym (reverse-append (f x ∷ []) (map f xs))

-- each of as many as there are shares
pub many_fresh : (t : TableValue) (n : ℕ) (shares : List (List Frame)) (ws : List AddWorker) →
    AreFresh t n shares ws → length ws ≡ length shares
many_fresh t n [] [] f = refl
many_fresh t n [] (w ∷ ws) f = absurd f
many_fresh t n (share ∷ shares) [] f = absurd f
many_fresh t n (share ∷ shares) (w ∷ ws) f = ap suc (many_fresh t (suc n) shares ws f.1)

-- a share that its adder has room for, and whose packets are no longer than a capture allows
abbrev pub IsShort : List Frame → Type 0
IsShort share = (length share < 2 ^ 32) × All (λ (frame : Frame). frame.length ≤ 262144) share

-- so they have where the table was opened with as much room
have_room : (t : TableValue) (n : ℕ) (shares : List (List Frame)) →
    ((i k : ℕ) → k ≡ n + i → i < length shares →
    (k < seats_of t.settings) × (slice_index t.settings.adds k ≡ length (get_or shares i []))) → HaveRoom t n shares
have_room t n [] each = tt
have_room t n (share ∷ shares) each = (
  each 0 n (omega arith) (omega arith),
  have_room t (suc n) shares (λ i k is less. each (suc i) k (omega (arith, is)) (omega (arith, less))),
)

pub rooms_are : (t : TableValue) (shares : List (Vec Frame Global)) →
    map (λ (share : Vec Frame Global). vec_len share) shares ≡ t.settings.adds →
    HaveRoom t 0 (map (λ (share : Vec Frame Global). share.items) shares)
rooms_are t shares rooms = have_room t 0 (map (λ (share : Vec Frame Global). share.items) shares) each
  where
    long : length t.settings.adds ≡ length shares
    long = ap (λ (xs : List ℕ). length xs) (sym rooms) ∙ length-map shares (λ (share : Vec Frame Global). vec_len share)

    each : (i k : ℕ) → k ≡ 0 + i → i < length (map (λ (share : Vec Frame Global). share.items) shares) →
        (k < seats_of t.settings)
        × (slice_index t.settings.adds k
        ≡ length (get_or (map (λ (share : Vec Frame Global). share.items) shares) i []))
    each i k is less =
        let inside : i < length shares =
        omega (arith, less, length-map shares (λ (share : Vec Frame Global). share.items)) in
        let same : k ≡ i = omega (arith, is) in (
          omega (arith, inside, long, same),
          ap (λ (j : ℕ). slice_index t.settings.adds j) same ∙ ap (λ (xs : List ℕ). slice_index xs i) (sym rooms)
              ∙ at shares i inside,
        )
      where
        at : (vs : List (Vec Frame Global)) (j : ℕ) → j < length vs →
            slice_index (map (λ (share : Vec Frame Global). vec_len share) vs) j
            ≡ length (get_or (map (λ (share : Vec Frame Global). share.items) vs) j [])
        at [] j less = refl
        at (v ∷ vs) zero less = v.ok.0
        at (v ∷ vs) (suc j) less = at vs j (omega (arith, less))

-- shares are short where each is
pub all_short : (shares : List (Vec Frame Global)) →
    All (λ (share : Vec Frame Global). vec_len share < 2 ^ 32) shares →
    All (λ (share : Vec Frame Global). All (λ (frame : Frame). frame.length ≤ 262144) share.items) shares →
    All IsShort (map (λ (share : Vec Frame Global). share.items) shares)
all_short [] few short = All-nil IsShort
all_short (share ∷ shares) few short =
    let C : Vec Frame Global → Type 0 = λ s. vec_len s < 2 ^ 32 in
    let S : Vec Frame Global → Type 0 = λ s. All (λ (frame : Frame). frame.length ≤ 262144) s.items in
    let one : length share.items < 2 ^ 32 = omega (arith, All-head C share shares few, share.ok.0) in
    All-cons IsShort share.items (map (λ (s : Vec Frame Global). s.items) shares) (one, All-head S share shares short)
    (all_short shares (All-tail C share shares few) (All-tail S share shares short))

-- the workers are ready
pub all_ready : (t : TableValue) (n : ℕ) (shares : List (List Frame)) (ws : List AddWorker) → All IsShort shares →
    HaveRoom t n shares → AreFresh t n shares ws → All (IsReady t) ws
all_ready t n [] [] short room f = All-nil (IsReady t)
all_ready t n [] (w ∷ ws) short room f = absurd f
all_ready t n (share ∷ shares) [] short room f = absurd f
all_ready t n (share ∷ shares) (w ∷ ws) short room f =
    let one = f.0 in
    let here = All-head IsShort share shares short in
    let long : vec_len w.frames ≡ length share = w.frames.ok.0 ∙ ap length one.frames_are in
    All-cons (IsReady t) w ws
    (record {
      of = record {
        table = ap (λ (a : AdderValue). a.table_id) one.adder;
        settings = ap (λ (a : AdderValue). a.settings) one.adder;
        inside =
            subst (λ (k : ℕ). k < seats_of t.settings) (sym (ap (λ (a : AdderValue). a.number) one.adder)) room.0.0;
      };
      none = one.none;
      space = one.space;
      room = (let none : length w.adder.seat.log ≡ 0 = ap (λ (a : AdderValue). length a.seat.log) one.adder in
          let most : slice_index w.adder.settings.adds w.adder.number ≡ length share =
          ap (λ (a : AdderValue). slice_index a.settings.adds a.number) one.adder ∙ room.0.1 in
          omega (arith, none, most, long));
      few = omega (arith, long, here.0);
      short = subst (All (λ (frame : Frame). frame.length ≤ 262144)) (sym one.frames_are) here.1;
    })
    (all_ready t (suc n) shares ws (All-tail IsShort share shares short) room.1 f.1)

-- one that is done has added its packets
added_by : (t : TableValue) (n : ℕ) (share : List Frame) (w v : AddWorker) → n < seats_of t.settings →
    IsFresh t n share w → IsDone t w v → HasAdded t n share v.adder v.log.items
added_by t n share w v less f d =
    let was : w.adder ≡ fresh t n = f.adder in
    let number_is : v.adder.number ≡ n = d.adder.same.number ∙ ap (λ (a : AdderValue). a.number) was in
    record {
      of = record {
        table = d.adder.same.table ∙ ap (λ (a : AdderValue). a.table_id) was;
        settings = d.adder.same.settings ∙ ap (λ (a : AdderValue). a.settings) was;
        inside = subst (λ (k : ℕ). k < seats_of t.settings) (sym number_is) less;
      };
      number_is = number_is;
      idle = d.adder.idle (ap (λ (a : AdderValue). a.seat.phase) was);
      answers = subst (λ (fs : List Frame). AllZip IsAnswerTo fs v.log.items) f.frames_are d.answers;
      log_is = d.adder.log ∙ ap (λ (a : AdderValue). a.seat.log ++ v.log.items) was;
    }

-- so have all that are done
pub all_through : (t : TableValue) (n : ℕ) (shares : List (List Frame)) (ws vs : List AddWorker) →
    HaveRoom t n shares → AreFresh t n shares ws → AllZip (IsDone t) ws vs → AreThrough t n shares vs
all_through t n [] [] [] room f z = tt
all_through t n [] [] (v ∷ vs) room f z = absurd z
all_through t n [] (w ∷ ws) vs room f z = absurd f
all_through t n (share ∷ shares) [] vs room f z = absurd f
all_through t n (share ∷ shares) (w ∷ ws) [] room f z = absurd z
all_through t n (share ∷ shares) (w ∷ ws) (v ∷ vs) room f z =
    (added_by t n share w v room.0.0 f.0 z.0, all_through t (suc n) shares ws vs room.1 f.1 z.1)

-- made from the last seat down
pub record FreshFrom (t : TableValue) (n : ℕ) (all front : List (List Frame)) (ws : List AddWorker) : Type 0 where
  pub back : List (List Frame)
  pub cut : all ≡ front ++ back
  pub fresh : AreFresh t n back (reverse ws)

-- one more is made
pub fresh_more : (t : TableValue) (n m : ℕ) (all front more : List (List Frame)) (share : List Frame)
    (ws now : List AddWorker) (w : AddWorker) → m ≡ suc n → FreshFrom t m all more ws → more ≡ front ++ share ∷ [] →
    IsFresh t n share w → now ≡ ws ++ w ∷ [] → FreshFrom t n all front now
fresh_more t n m all front more share ws now w m_is from more_is one now_is = record {
  back = share ∷ from.back;
  cut = from.cut ∙ ap (λ (xs : List (List Frame)). xs ++ from.back) more_is
      ∙ append_assoc front (share ∷ []) from.back;
  fresh = subst (AreFresh t n (share ∷ from.back)) (sym (ap reverse now_is ∙ reverse-append ws (w ∷ [])))
      (one, subst (λ (k : ℕ). AreFresh t k from.back (reverse ws)) m_is from.fresh);
}

-- ---- the last worker first

-- the last of those that are through
record LastThrough (t : TableValue) (n : ℕ) (shares : List (List Frame)) (ws : List AddWorker) (w : AddWorker) :
    Type 0 where
  front : List (List Frame)
  share : List Frame
  cut : shares ≡ front ++ share ∷ []
  others : AreThrough t n front ws
  last : HasAdded t (n + length ws) share w.adder w.log.items

-- there is one
through_end : (t : TableValue) (n : ℕ) (shares : List (List Frame)) (ws : List AddWorker) (w : AddWorker) →
    AreThrough t n shares (ws ++ w ∷ []) → LastThrough t n shares ws w
through_end t n [] [] w h = absurd h
through_end t n [] (v ∷ ws) w h = absurd h
through_end t n (share ∷ []) [] w h =
    let z : n ≡ n + 0 = omega arith in
    record {
      front = [];
      share = share;
      cut = refl;
      others = tt;
      last = subst (λ (k : ℕ). HasAdded t k share w.adder w.log.items) z h.0;
    }
through_end t n (share ∷ next ∷ shares) [] w h = absurd h.1
through_end t n (share ∷ shares) (v ∷ ws) w h =
    let r = through_end t (suc n) shares ws w h.1 in
    let z : suc n + length ws ≡ n + suc (length ws) = omega arith in
    record {
      front = share ∷ r.front;
      share = r.share;
      cut = ap (λ (xs : List (List Frame)). share ∷ xs) r.cut;
      others = (h.0, r.others);
      last = subst (λ (k : ℕ). HasAdded t k r.share w.adder w.log.items) z r.last;
    }

-- taken apart from the last one down
pub record AddedFrom (t : TableValue) (n : ℕ) (all : List (List Frame)) (ws : List AddWorker)
    (adders : List AdderValue) (logs : List (List Added)) : Type 0 where
  pub front : List (List Frame)
  pub back : List (List Frame)
  pub cut : all ≡ front ++ back
  pub through : AreThrough t 0 front ws
  pub added : HaveAdded t n back (reverse adders) (reverse logs)

-- none is taken apart yet
pub added_none : (t : TableValue) (n : ℕ) (all : List (List Frame)) (ws : List AddWorker) → AreThrough t 0 all ws →
    AddedFrom t n all ws [] []
added_none t n all ws h = record {
  front = all;
  back = [];
  cut = sym (append-nil all);
  through = h;
  added = tt;
}

-- one more is
pub added_more : (t : TableValue) (n m : ℕ) (all : List (List Frame)) (ws now : List AddWorker) (w : AddWorker)
    (adders adders' : List AdderValue) (logs logs' : List (List Added)) → AddedFrom t m all ws adders logs →
    ws ≡ now ++ w ∷ [] → n ≡ length now → m ≡ suc n → adders' ≡ adders ++ w.adder ∷ [] →
    logs' ≡ logs ++ w.log.items ∷ [] → AddedFrom t n all now adders' logs'
added_more t n m all ws now w adders adders' logs logs' from ws_is n_is m_is adders_are logs_are =
    let r = through_end t 0 from.front now w (subst (AreThrough t 0 from.front) ws_is from.through) in
    let z : 0 + length now ≡ n = omega (arith, n_is) in
    let one : HasAdded t n r.share w.adder w.log.items =
    subst (λ (k : ℕ). HasAdded t k r.share w.adder w.log.items) z r.last in
    record {
      front = r.front;
      back = r.share ∷ from.back;
      cut = from.cut ∙ ap (λ (xs : List (List Frame)). xs ++ from.back) r.cut
          ∙ append_assoc r.front (r.share ∷ []) from.back;
      through = r.others;
      added = subst (λ (x : List AdderValue). HaveAdded t n (r.share ∷ from.back) x (reverse logs'))
          (sym (ap reverse adders_are ∙ reverse-append adders (w.adder ∷ [])))
          (subst (λ (y : List (List Added)). HaveAdded t n (r.share ∷ from.back) (w.adder ∷ reverse adders) y)
          (sym (ap reverse logs_are ∙ reverse-append logs (w.log.items ∷ [])))
          (one, subst (λ (k : ℕ). HaveAdded t k from.back (reverse adders) (reverse logs)) m_is from.added));
    }

-- then all are
pub added_end : (t : TableValue) (all : List (List Frame)) (ws : List AddWorker) (adders : List AdderValue)
    (logs : List (List Added)) → length ws ≡ 0 → AddedFrom t 0 all ws adders logs →
    HaveAdded t 0 all (reverse adders) (reverse logs)
added_end t all (w ∷ ws) adders logs none from = absurd (omega (arith, none))
added_end t all [] adders logs none from =
    subst (λ (shares : List (List Frame)). HaveAdded t 0 shares (reverse adders) (reverse logs))
    (sym (from.cut ∙ ap (λ (xs : List (List Frame)). xs ++ from.back) (nothing from.front from.through))) from.added
  where
    nothing : (front : List (List Frame)) → AreThrough t 0 front [] → front ≡ []
    nothing [] h = refl
    nothing (share ∷ front) h = absurd h
