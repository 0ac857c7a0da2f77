-- The outcomes of a batch in packet order are those of its logs: there are such outcomes, and their totals are those of
-- the logs, one after the other.
use Rattle.std.proofs.Common.{◌≡◌, ℕ, suc, zero, ◌<◌, ◌≤◌, ◌+◌, max, cond, ◌==◌, List, [], ◌∷◌, ◌++◌, length, map, set, get_or, filter, refl, sym, ap, ◌∙◌, subst, inl, inr, add-zero, zero-add, arith}
use Rattle.std.specs.Prelude.{All, flat_map}
use Rattle.std.specs.List.{range_with_len}
use Rattle.std.proofs.lemmas.Bool.{cases_eq}
use Rattle.std.proofs.lemmas.Int.{clamps}
use Rattle.std.proofs.lemmas.List.{get_or_default, length-set}
use Rattle.std.proofs.lemmas.List.Elements.{All-head, All-tail}
use Rattle.plain_map.specs.declared.calls.Call.{Call}
use Rattle.plain_map.specs.declared.calls.Call.TheVariants.{Lookup}
use Rattle.plain_map.specs.declared.full.FullKind.TheVariants.{OpRows}
use Rattle.trace_share.specs.declared.deals.Share.{Share}
use Rattle.trace_share.specs.declared.outcome.Outcome.{Outcome}
use Rattle.trace_share.specs.declared.outcome.Outcome.TheVariants.{Refused}
use Rattle.trace_share.proofs.DealLemmas.{map_cond, other_is, same_is}
use Rattle.trace_share.proofs.OnceLemmas.{flat_map_nothing, flat_map_same, one_makes}
use Rattle.list_laws.proofs.Cuts.{zero_at}
use Rattle.batch_runner.specs.declared.totals.Totals.{Totals}
use Rattle.batch_runner.specs.declared.totals.Replies.{Replies}
use Rattle.batch_runner.specs.Served.{AreInPacketOrder}
use Rattle.batch_runner.specs.Totals.{totals_of, with_replies}
use Rattle.batch_runner.proofs.Merges.{AreOf, Until, one_left, until_end, until_next, until_start, zeros}
use Rattle.batch_runner.proofs.TotalLemmas.{totals_sum, with_totals}
use Rattle.plain_map.specs.Keys.{no_key}

-- ---- there are such outcomes

-- a call, and an outcome, that stand where there is none
no_call : ℕ × Call
no_call = (0, Lookup no_key)

no_outcome : Outcome
no_outcome = Refused 0 (no_call.1) (record { what = OpRows; left = 0; need = 0 })

module _ (share : Share) (seats : ℕ) (calls : List (ℕ × Call)) (logs : List (List Outcome)) (some : 0 < seats)
    (are : AreOf share seats calls logs) where
  -- the outcomes of the first calls, where so many were taken of each log
  record SoFar (place : ℕ) : Type 0 where
    taken : List ℕ
    outcomes : List (ℕ × Outcome)
    until : Until share seats calls logs place taken outcomes
    long : length taken ≡ seats

  long_zeros : (n : ℕ) → length (zeros n) ≡ n
  long_zeros zero = refl
  long_zeros (suc n) = ap suc (long_zeros n)

  so_far : (place : ℕ) → place ≤ length calls → SoFar place
  so_far zero within = record {
    taken = zeros seats;
    outcomes = [];
    until = until_start share seats calls logs are (zeros seats) (zero_at seats);
    long = long_zeros seats;
  }
  so_far (suc place) within =
      let inside : place < length calls = omega (arith, within) in
      let was = so_far place (omega (arith, within)) in
      let call : ℕ × Call = get_or calls place no_call in
      let is : call ≡ get_or calls place call = get_or_default calls place no_call call inside in
      let own = one_makes share seats (length calls) place call some inside in
      let log : List Outcome = get_or logs own.seat [] in
      let left = one_left share seats calls logs are place call was.taken was.outcomes own.seat was.until inside is
      own.below own.alone in
      let outcome : Outcome = get_or log (get_or was.taken own.seat 0) no_outcome in
      let at : outcome ≡ get_or log (get_or was.taken own.seat 0) outcome =
      get_or_default log (get_or was.taken own.seat 0) no_outcome outcome left in
      let next = until_next share seats calls logs are place call was.taken was.outcomes own.seat was.until inside is
      own.below own.alone outcome at (set was.taken own.seat (get_or was.taken own.seat 0 + 1))
      (was.outcomes ++ (own.seat, outcome) ∷ []) (omega (arith, was.long, own.below)) refl refl in
      let one : place + 1 ≡ suc place = omega arith in
      record {
        taken = set was.taken own.seat (get_or was.taken own.seat 0 + 1);
        outcomes = was.outcomes ++ (own.seat, outcome) ∷ [];
        until = subst (λ (n : ℕ). Until share seats calls logs n
            (set was.taken own.seat (get_or was.taken own.seat 0 + 1)) (was.outcomes ++ (own.seat, outcome) ∷ [])) one
            next;
        long = length-set was.taken own.seat (get_or was.taken own.seat 0 + 1) ∙ was.long;
      }

  pub some_outcomes : (outcomes : List (ℕ × Outcome)) × AreInPacketOrder calls logs outcomes
  some_outcomes =
      let all = so_far (length calls) (omega arith) in
      (all.outcomes, until_end share seats calls logs are (length calls) all.taken all.outcomes (omega arith) all.until)

-- ---- their totals

-- totals may be added in another order
replies_swap : (p q r : Replies) → with_replies (with_replies p q) r ≡ with_replies (with_replies p r) q
replies_swap p q r =
    let sum : (a b c : ℕ) → c + (b + a) ≡ b + (c + a) = λ (a b c : ℕ). omega arith in
    (λ i. record {
      new = sum p.new q.new r.new i;
      old = sum p.old q.old r.old i;
      noroom = sum p.noroom q.noroom r.noroom i;
      gone = sum p.gone q.gone r.gone i;
      found = sum p.found q.found r.found i;
      absent = sum p.absent q.absent r.absent i;
    })

totals_swap : (p q r : Totals) → with_totals (with_totals p q) r ≡ with_totals (with_totals p r) q
totals_swap p q r =
    let sum : (a b c : ℕ) → c + (b + a) ≡ b + (c + a) = λ (a b c : ℕ). omega arith in
    let most : (a b c : ℕ) → max c (max b a) ≡ max b (max c a) = λ (a b c : ℕ). omega (arith, clamps) in
    (λ i. record {
      calls = sum p.calls q.calls r.calls i;
      refused = sum p.refused q.refused r.refused i;
      update = most p.update q.update r.update i;
      lookup = most p.lookup q.lookup r.lookup i;
      replies = replies_swap p.replies q.replies r.replies i;
    })

-- one outcome more in one of the lists is one more in all
one_more : (f g : ℕ → List Outcome) (x : Outcome) (t a n : ℕ) → a ≤ t → t < a + n →
    ((s : ℕ) → a ≤ s → s < a + n → f s ≡ cond (t == s) (x ∷ g s) (g s)) →
    totals_of (flat_map f (range_with_len a n))
    ≡ with_totals (totals_of (flat_map g (range_with_len a n))) (totals_of (x ∷ []))
one_more f g x t a zero low high is = absurd (omega (arith, low, high))
one_more f g x t a (suc n) low high is =
    elim (cases_eq t a) [
      | inl same ↦
          let first : f a ≡ x ∷ g a =
          is a (omega arith) (omega arith) ∙ ap (λ b. cond b (x ∷ g a) (g a)) (same_is t a same) in
          let others : flat_map f (range_with_len (a + 1) n) ≡ flat_map g (range_with_len (a + 1) n) =
          flat_map_same f g (a + 1) n
          (λ (s : ℕ) (from : a + 1 ≤ s) (to : s < a + 1 + n).
          is s (omega arith) (omega arith)
          ∙ ap (λ b. cond b (x ∷ g s) (g s)) (other_is t s (λ (e : t ≡ s). omega arith))) in
          (λ i. totals_of (first i ++ others i)) ∙ totals_sum (x ∷ []) (flat_map g (range_with_len a (suc n)))
      | inr other ↦
          let first : f a ≡ g a =
          is a (omega arith) (omega arith) ∙ ap (λ b. cond b (x ∷ g a) (g a)) (other_is t a other) in
          let later = one_more f g x t (a + 1) n (omega (arith, low, other)) (omega arith)
          (λ (s : ℕ) (from : a + 1 ≤ s) (to : s < a + 1 + n). is s (omega arith) (omega arith)) in
          let rest : List Outcome = flat_map g (range_with_len (a + 1) n) in
          ap (λ front. totals_of (front ++ flat_map f (range_with_len (a + 1) n))) first
          ∙ totals_sum (g a) (flat_map f (range_with_len (a + 1) n))
          ∙ ap (λ (t : Totals). with_totals t (totals_of (g a))) later
          ∙ totals_swap (totals_of rest) (totals_of (x ∷ [])) (totals_of (g a))
          ∙ ap (λ (t : Totals). with_totals t (totals_of (x ∷ []))) (sym (totals_sum (g a) rest))
    ]

-- the outcomes of a seat
abbrev of_seat : List (ℕ × Outcome) → ℕ → List Outcome
of_seat outcomes seat = map (λ (o : ℕ × Outcome). o.1) (filter (λ (o : ℕ × Outcome). o.0 == seat) outcomes)

-- those of all seats have the totals of all
by_seats : (n : ℕ) (outcomes : List (ℕ × Outcome)) → All (λ (o : ℕ × Outcome). o.0 < n) outcomes →
    totals_of (map (λ (o : ℕ × Outcome). o.1) outcomes) ≡ totals_of (flat_map (of_seat outcomes) (range_with_len 0 n))
by_seats n [] below = ap totals_of (sym (flat_map_nothing {X = Outcome} 0 n))
by_seats n (o ∷ outcomes) below =
    let P : ℕ × Outcome → Type 0 = λ (p : ℕ × Outcome). p.0 < n in
    totals_sum (o.1 ∷ []) (map (λ (p : ℕ × Outcome). p.1) outcomes)
    ∙ ap (λ (t : Totals). with_totals t (totals_of (o.1 ∷ []))) (by_seats n outcomes (All-tail P o outcomes below))
    ∙ sym (one_more (of_seat (o ∷ outcomes)) (of_seat outcomes) o.1 o.0 0 n (omega arith)
    (omega (arith, All-head P o outcomes below))
    (λ (s : ℕ) (from : 0 ≤ s) (to : s < 0 + n).
    map_cond (λ (p : ℕ × Outcome). p.1) (o.0 == s) o (filter (λ (p : ℕ × Outcome). p.0 == s) outcomes)))

-- lists that are told one by one, from a number on, are these
told_lists : (logs : List (List Outcome)) (list : ℕ → List Outcome) (a : ℕ) →
    ((s : ℕ) → s < length logs → list (a + s) ≡ get_or logs s []) →
    flat_map list (range_with_len a (length logs)) ≡ flat_map (λ (log : List Outcome). log) logs
told_lists [] list a each = refl
told_lists (log ∷ logs) list a each =
    let here : list a ≡ log = ap list (sym (add-zero a)) ∙ each 0 (omega arith) in
    let there = told_lists logs list (a + 1) (λ (s : ℕ) (less : s < length logs).
    let next : a + 1 + s ≡ a + suc s = omega arith in
    ap list next ∙ each (suc s) (omega (arith, less))) in
    (λ i. here i ++ there i)

-- so the outcomes in packet order have the totals of the logs
pub same_totals : (calls : List (ℕ × Call)) (logs : List (List Outcome)) (outcomes : List (ℕ × Outcome)) →
    AreInPacketOrder calls logs outcomes →
    totals_of (flat_map (λ (log : List Outcome). log) logs) ≡ totals_of (map (λ (o : ℕ × Outcome). o.1) outcomes)
same_totals calls logs outcomes are =
    ap totals_of (sym (told_lists logs (of_seat outcomes) 0
    (λ (s : ℕ) (less : s < length logs). ap (of_seat outcomes) (zero-add s) ∙ are.each s less)))
    ∙ sym (by_seats (length logs) outcomes are.seats)
