-- Seats that are handed to workers one after the other, and taken back.
use Rattle.std.proofs.Common.{◌≡◌, ℕ, ◌+◌, List, [], ◌∷◌, ◌++◌, length, map, reverse, take, refl, sym, ap, ◌∙◌, subst, vec_len, Vec, Global, Some, arith, append_assoc, append-nil}
use Rattle.std.specs.Prelude.{All}
use Rattle.std.proofs.lemmas.List.{reverse-append}
use Rattle.std.proofs.Math.Seq.{take-append_seam}
use Rattle.std.proofs.lemmas.List.Elements.{All-cons, All-head, All-nil, All-tail}
use Rattle.plain_map.specs.declared.calls.Call.{Call}
use Rattle.lasting_table.specs.Parties.{PartyValue}
use Rattle.flow_workers.specs.Counts.{AreBelow, added, no_counts}
use Rattle.flow_workers.specs.declared.replies.ReplyCounts.{ReplyCounts}
use Rattle.flow_workers.specs.declared.workers.FlowWorker.{FlowWorker}
use Rattle.flows_runner.specs.Going.{HaveSeats}
use Rattle.flows_runner.specs.Hands.{AreWorkersOf, many_calls, replies_of}

-- ---- handed out

-- these seats and lists are left, and the workers have the others, the last ones first
pub record Handed (seats : List PartyValue) (lists : List (Vec Call Global)) (seats_left : List PartyValue)
    (lists_left : List (Vec Call Global)) (workers : List FlowWorker) : Type 0 where
  pub given : List PartyValue
  pub given_lists : List (Vec Call Global)
  pub seats_are : seats ≡ seats_left ++ given
  pub lists_are : lists ≡ lists_left ++ given_lists
  pub are : AreWorkersOf given given_lists (reverse workers)

pub handed_none : (seats : List PartyValue) (lists : List (Vec Call Global)) (workers : List FlowWorker) →
    workers ≡ [] → Handed seats lists seats lists workers
handed_none seats lists workers none = record {
  given = [];
  given_lists = [];
  seats_are = sym (append-nil seats);
  lists_are = sym (append-nil lists);
  are = subst (λ (ws : List FlowWorker). AreWorkersOf [] [] (reverse ws)) (sym none)
      (record { have = refl; calls = refl; no_replies = All-nil (λ (w : FlowWorker). w.replies ≡ no_counts) });
}

-- one more stands before them
pub workers_more : (seats : List PartyValue) (lists : List (Vec Call Global)) (workers : List FlowWorker)
    (seat : PartyValue) (w : FlowWorker) → AreWorkersOf seats lists workers → w.seat ≡ Some seat →
    w.replies ≡ no_counts → AreWorkersOf (seat ∷ seats) (w.calls ∷ lists) (w ∷ workers)
workers_more seats lists workers seat w are has none = record {
  have = λ i. has i ∷ are.have i;
  calls = ap (λ (ls : List (Vec Call Global)). w.calls ∷ ls) are.calls;
  no_replies = All-cons (λ (v : FlowWorker). v.replies ≡ no_counts) w workers none are.no_replies;
}

pub handed_more : (seats : List PartyValue) (lists : List (Vec Call Global)) (seats_left seats_then : List PartyValue)
    (lists_left lists_then : List (Vec Call Global)) (workers workers_then : List FlowWorker) (seat : PartyValue)
    (w : FlowWorker) → Handed seats lists seats_left lists_left workers → seats_left ≡ seats_then ++ seat ∷ [] →
    lists_left ≡ lists_then ++ w.calls ∷ [] → w.seat ≡ Some seat → w.replies ≡ no_counts →
    workers_then ≡ workers ++ w ∷ [] → Handed seats lists seats_then lists_then workers_then
handed_more seats lists seats_left seats_then lists_left lists_then workers workers_then seat w was cut cut_lists has
    none more = record {
      given = seat ∷ was.given;
      given_lists = w.calls ∷ was.given_lists;
      seats_are = was.seats_are ∙ ap (λ (l : List PartyValue). l ++ was.given) cut
          ∙ append_assoc seats_then (seat ∷ []) was.given;
      lists_are = was.lists_are ∙ ap (λ (l : List (Vec Call Global)). l ++ was.given_lists) cut_lists
          ∙ append_assoc lists_then (w.calls ∷ []) was.given_lists;
      are = subst (AreWorkersOf (seat ∷ was.given) (w.calls ∷ was.given_lists))
          (sym (ap (λ (l : List FlowWorker). reverse l) more ∙ reverse-append workers (w ∷ [])))
          (workers_more was.given was.given_lists (reverse workers) seat w was.are has none);
    }

-- nothing is left
pub handed_all : (seats : List PartyValue) (lists : List (Vec Call Global)) (seats_left : List PartyValue)
    (lists_left : List (Vec Call Global)) (workers : List FlowWorker) →
    Handed seats lists seats_left lists_left workers → seats_left ≡ [] → lists_left ≡ [] →
    AreWorkersOf seats lists (reverse workers)
handed_all seats lists seats_left lists_left workers was none none_lists =
    let seats_are = was.seats_are ∙ ap (λ (l : List PartyValue). l ++ was.given) none in
    let lists_are = was.lists_are ∙ ap (λ (l : List (Vec Call Global)). l ++ was.given_lists) none_lists in
    subst (λ (l : List PartyValue). AreWorkersOf l lists (reverse workers)) (sym seats_are)
    (subst (λ (l : List (Vec Call Global)). AreWorkersOf was.given l (reverse workers)) (sym lists_are) was.are)

-- ---- taken back

-- more is counted
pub added_no : (counts : ReplyCounts) → added counts no_counts ≡ counts
added_no counts =
    let new : counts.new + 0 ≡ counts.new = omega arith in
    let old : counts.old + 0 ≡ counts.old = omega arith in
    let noroom : counts.noroom + 0 ≡ counts.noroom = omega arith in
    let gone : counts.gone + 0 ≡ counts.gone = omega arith in
    let found : counts.found + 0 ≡ counts.found = omega arith in
    let absent : counts.absent + 0 ≡ counts.absent = omega arith in
    let total : counts.sum + 0 ≡ counts.sum = omega arith in
    λ i. record {
      new = new i;
      old = old i;
      noroom = noroom i;
      gone = gone i;
      found = found i;
      absent = absent i;
      sum = total i;
    }

turned : (a b c : ℕ) → a + b + c ≡ a + (c + b)
turned a b c = omega arith

-- what is counted first or last is counted
pub added_turned : (counts others more : ReplyCounts) →
    added (added counts others) more ≡ added counts (added more others)
added_turned counts others more = λ i. record {
  new = turned counts.new others.new more.new i;
  old = turned counts.old others.old more.old i;
  noroom = turned counts.noroom others.noroom more.noroom i;
  gone = turned counts.gone others.gone more.gone i;
  found = turned counts.found others.found more.found i;
  absent = turned counts.absent others.absent more.absent i;
  sum = turned counts.sum others.sum more.sum i;
}

pub below_added : (most more : ℕ) (counts others : ReplyCounts) → AreBelow most counts → AreBelow more others →
    AreBelow (most + more) (added counts others)
below_added most more counts others a b = record {
  new = (let x = a.new in let y = b.new in omega (arith, x, y));
  old = (let x = a.old in let y = b.old in omega (arith, x, y));
  noroom = (let x = a.noroom in let y = b.noroom in omega (arith, x, y));
  gone = (let x = a.gone in let y = b.gone in omega (arith, x, y));
  found = (let x = a.found in let y = b.found in omega (arith, x, y));
  absent = (let x = a.absent in let y = b.absent in omega (arith, x, y));
  sum = (let x = a.sum in let y = b.sum in omega (arith, x, y));
}

-- these workers are left, and the seats and what was counted of the others were taken, the last ones first
pub record Taken (workers left : List FlowWorker) (seats : List PartyValue) (calls_was calls : ℕ)
    (replies_was replies : ReplyCounts) : Type 0 where
  pub taken : List FlowWorker
  pub workers_are : workers ≡ left ++ taken
  pub have : HaveSeats taken (reverse seats)
  pub calls_are : calls ≡ calls_was + many_calls taken
  pub replies_are : replies ≡ added replies_was (replies_of taken)

pub taken_none : (workers : List FlowWorker) (seats : List PartyValue) (calls : ℕ) (replies : ReplyCounts) →
    seats ≡ [] → Taken workers workers seats calls calls replies replies
taken_none workers seats calls replies none = record {
  taken = [];
  workers_are = sym (append-nil workers);
  have = subst (λ (l : List PartyValue). HaveSeats [] (reverse l)) (sym none) refl;
  calls_are = omega arith;
  replies_are = sym (added_no replies);
}

pub taken_more : (workers left left_then : List FlowWorker) (seats seats_then : List PartyValue)
    (calls_was calls calls_then : ℕ) (replies_was replies replies_then : ReplyCounts) (w : FlowWorker)
    (seat : PartyValue) → Taken workers left seats calls_was calls replies_was replies →
    left ≡ left_then ++ w ∷ [] → w.seat ≡ Some seat → seats_then ≡ seats ++ seat ∷ [] →
    calls_then ≡ calls + vec_len w.calls → replies_then ≡ added replies w.replies →
    Taken workers left_then seats_then calls_was calls_then replies_was replies_then
taken_more workers left left_then seats seats_then calls_was calls calls_then replies_was replies replies_then w seat
    was cut has more calls_are replies_are = record {
      taken = w ∷ was.taken;
      workers_are = was.workers_are ∙ ap (λ (l : List FlowWorker). l ++ was.taken) cut
          ∙ append_assoc left_then (w ∷ []) was.taken;
      have = subst (λ (l : List PartyValue). HaveSeats (w ∷ was.taken) l)
          (sym (ap (λ (l : List PartyValue). reverse l) more ∙ reverse-append seats (seat ∷ [])))
          (λ i. has i ∷ was.have i);
      calls_are = (let so_far = was.calls_are in
          let one : many_calls (w ∷ was.taken) ≡ vec_len w.calls + many_calls was.taken = refl in
          omega (arith, calls_are, so_far, one));
      replies_are = replies_are ∙ ap (λ (r : ReplyCounts). added r w.replies) was.replies_are
          ∙ added_turned replies_was (replies_of was.taken) w.replies;
    }

pub record TakenAll (workers : List FlowWorker) (seats : List PartyValue) (calls_was calls : ℕ)
    (replies_was replies : ReplyCounts) : Type 0 where
  pub have : HaveSeats workers (reverse seats)
  pub calls_are : calls ≡ calls_was + many_calls workers
  pub replies_are : replies ≡ added replies_was (replies_of workers)

-- none is left
pub taken_all : (workers left : List FlowWorker) (seats : List PartyValue) (calls_was calls : ℕ)
    (replies_was replies : ReplyCounts) → Taken workers left seats calls_was calls replies_was replies → left ≡ [] →
    TakenAll workers seats calls_was calls replies_was replies
taken_all workers left seats calls_was calls replies_was replies was none =
    let all : workers ≡ was.taken = was.workers_are ∙ ap (λ (l : List FlowWorker). l ++ was.taken) none in
    subst (λ (l : List FlowWorker). TakenAll l seats calls_was calls replies_was replies) (sym all)
    (record { have = was.have; calls_are = was.calls_are; replies_are = was.replies_are })

-- the same workers have the same seats
pub same_seats : (workers : List FlowWorker) (seats others : List PartyValue) → HaveSeats workers seats →
    HaveSeats workers others → seats ≡ others
same_seats workers seats others have too = some_equal seats others (sym have ∙ too)
  where
    some_equal : (xs ys : List PartyValue) →
        map (λ (seat : PartyValue). Some seat) xs ≡ map (λ (seat : PartyValue). Some seat) ys → xs ≡ ys
    some_equal [] [] e = refl
    some_equal [] (y ∷ ys) e = cc
    some_equal (x ∷ xs) [] e = cc
    some_equal (x ∷ xs) (y ∷ ys) e =
        let head : x ≡ y = cc in
        let rest : map (λ (seat : PartyValue). Some seat) xs ≡ map (λ (seat : PartyValue). Some seat) ys = cc in
        (λ i. head i ∷ some_equal xs ys rest i)

-- ---- one of the workers

-- it has a seat
seat_at : (front back : List FlowWorker) (w : FlowWorker) (seats : List PartyValue) →
    HaveSeats (front ++ w ∷ back) seats → (seat : PartyValue) × (w.seat ≡ Some seat)
seat_at [] back w [] e = cc
seat_at [] back w (s ∷ ss) e = (s, cc)
seat_at (v ∷ front) back w [] e = cc
seat_at (v ∷ front) back w (s ∷ ss) e = seat_at front back w ss cc

all_at : (P : FlowWorker → Type 0) (front back : List FlowWorker) (w : FlowWorker) → All P (front ++ w ∷ back) → P w
all_at P [] back w all = All-head P w back all
all_at P (v ∷ front) back w all = all_at P front back w (All-tail P v (front ++ w ∷ back) all)

-- the last one that is left
module _ (workers left left_then : List FlowWorker) (seats : List PartyValue) (calls_was calls : ℕ)
    (replies_was replies : ReplyCounts) (w : FlowWorker)
    (was : Taken workers left seats calls_was calls replies_was replies) (cut : left ≡ left_then ++ w ∷ []) where
  abbrev cut_all : workers ≡ left_then ++ w ∷ was.taken
  cut_all = was.workers_are ∙ ap (λ (l : List FlowWorker). l ++ was.taken) cut
      ∙ append_assoc left_then (w ∷ []) was.taken

  pub last_has : (all : List PartyValue) → HaveSeats workers all → (seat : PartyValue) × (w.seat ≡ Some seat)
  last_has all have = seat_at left_then was.taken w all (subst (λ (l : List FlowWorker). HaveSeats l all) cut_all have)

  pub last_is : (P : FlowWorker → Type 0) → All P workers → P w
  last_is P all = all_at P left_then was.taken w (subst (All P) cut_all all)

-- ---- at the end

-- a list of length 0 is empty
pub no_items : {A : Type 0} (xs : List A) → length xs ≡ 0 → xs ≡ []
no_items [] none = refl
no_items (x ∷ xs) none = absurd (omega (arith, none))

-- a slice is written back whole
pub written_back : {A : Type 0} (xs ys : List A) (n : ℕ) → length xs ≡ n → take n (xs ++ ys) ≡ xs
written_back xs ys n many = ap (λ (k : ℕ). take k (xs ++ ys)) (sym many) ∙ take-append_seam xs ys
