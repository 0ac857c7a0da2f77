-- Packets that stand as they must, by what the report tells.
use Rattle.std.proofs.Common.{◌≡◌, ℕ, zero, suc, ◌+◌, ◌≤◌, ◌==◌, Bool, true, false, cond, List, [], ◌∷◌, Option, Some, None, refl, sym, ap, ◌∙◌, arith}
use Rattle.std.specs.Prelude.{MatchOption, map, filter, IsPermutation}
use Rattle.std.specs.List.{sum_by}
use Rattle.std.proofs.lemmas.List.Sums.{sum_by-cons}
use Rattle.std.proofs.lemmas.List.Sorted.{IsPermutation-map, sum_by-IsPermutation}
use Rattle.plain_map.specs.declared.records.Record.{Record}
use Rattle.plain_map.specs.declared.records.Pending.{Pending}
use Rattle.report_told.specs.Told.{Told}
use Rattle.report_told.specs.Rules.{times}
use Rattle.plain_map.specs.Calls.{is_update}
use Rattle.report_told.specs.Points.{IsWhole, StandsRight, answered_packets, effect_packets, pending_told, standing}
use Rattle.report_told.specs.Verdicts.{IsLeastFault}
use Rattle.report_told.proofs.TimesLemmas.{times-cons}
use Rattle.report_check.specs.Facts.{Facts}
use Rattle.report_check.specs.Whole.{AreInOrder, IsLeastOf, StandsSo, answers_at, effects_at}
use Rattle.report_check.proofs.WholeLemmas.{one_if}

-- Lists with the same elements.

-- a packet stands as often in each
same_times : (packet : ℕ) (xs ys : List ℕ) → IsPermutation xs ys → times packet ys ≡ times packet xs
same_times packet xs ys same = sum_by-IsPermutation (λ other. cond (other == packet) 1 0) xs ys same

-- one for each element with the packet that passes the test
abbrev counted : {A : Type 0} → (A → ℕ) → (packet : ℕ) → (A → Bool) → A → ℕ
counted key packet test x = cond (test x) (one_if (key x == packet)) 0

-- how often the packet stands among those that pass, as a sum
filter_sum : {A : Type 0} (key : A → ℕ) (packet : ℕ) (test : A → Bool) (xs : List A) →
    times packet (map key (filter test xs)) ≡ sum_by (counted key packet test) xs
filter_sum key packet test [] = refl
filter_sum key packet test (x ∷ xs) =
    go (test x) (filter_sum key packet test xs) ∙ sym (sum_by-cons (counted key packet test) x xs)
  where
    go : (b : Bool) → times packet (map key (filter test xs)) ≡ sum_by (counted key packet test) xs →
        times packet (map key (cond b (x ∷ filter test xs) (filter test xs)))
        ≡ cond b (one_if (key x == packet)) 0 + sum_by (counted key packet test) xs
    go true later = omega (arith, later, times-cons packet (key x) (map key (filter test xs)))
    go false later = omega (arith, later)

-- which is the same in each
same_filtered : {A : Type 0} (key : A → ℕ) (packet : ℕ) (test : A → Bool) (xs ys : List A) → IsPermutation xs ys →
    times packet (map key (filter test ys)) ≡ times packet (map key (filter test xs))
same_filtered key packet test xs ys same =
    filter_sum key packet test ys ∙ sum_by-IsPermutation (counted key packet test) xs ys same
    ∙ sym (filter_sum key packet test xs)

-- What is judged, and what the report tells.

-- calls that are judged are in order
pub are_in_order : (told : Told) (calls : List Record) (pending : List Pending) (order : List ℕ) →
    Facts told calls pending order → AreInOrder calls pending
are_in_order told calls pending order facts = record {
  calls_sorted = facts.calls_sorted;
  pending_sorted = facts.pending_sorted;
  once = λ packet.
      omega (
        arith,
        facts.once packet,
        same_times packet (map (λ (u : Pending). u.packet) (pending_told told))
            (map (λ (u : Pending). u.packet) pending)
            (IsPermutation-map (λ (u : Pending). u.packet) (pending_told told) pending facts.pending_are),
      );
}

-- a packet stands as often where the order is sorted
standing_is : (told : Told) (calls : List Record) (pending : List Pending) (order sorted : List ℕ) →
    Facts told calls pending order → IsPermutation order sorted → (packet : ℕ) →
    times packet sorted ≡ standing told packet
standing_is told calls pending order sorted facts same packet =
    same_times packet order sorted same ∙ ap (λ (xs : List ℕ). times packet xs) facts.order_is

-- the answered calls of a packet are those of the report
answers_are : (told : Told) (calls : List Record) (pending : List Pending) (order : List ℕ) →
    Facts told calls pending order → (packet : ℕ) → answers_at calls packet ≡ times packet (answered_packets told)
answers_are told calls pending order facts packet =
    ap (λ (rs : List Record). times packet (map (λ (r : Record). r.packet) rs)) facts.calls_are

-- and so are its pending updates
effects_are : (told : Told) (calls : List Record) (pending : List Pending) (order : List ℕ) →
    Facts told calls pending order → (packet : ℕ) → effects_at pending packet ≡ times packet (effect_packets told)
effects_are told calls pending order facts packet =
    same_filtered (λ (u : Pending). u.packet) packet (λ (u : Pending). is_update u.call) (pending_told told) pending
    facts.pending_are

-- what stands right where it is judged stands right in the report
stands_right : (told : Told) (calls : List Record) (pending : List Pending) (order sorted : List ℕ) →
    Facts told calls pending order → IsPermutation order sorted → (packet : ℕ) →
    StandsSo calls pending sorted packet → StandsRight told packet
stands_right told calls pending order sorted facts same packet so =
    let stands = standing_is told calls pending order sorted facts same packet in
    let answers = answers_are told calls pending order facts packet in
    let effects = effects_are told calls pending order facts packet in
    record {
      once = λ some. omega (arith, stands, so.may.once, so.there (omega (arith, answers, some)));
      at_most = λ some. omega (arith, stands, so.may.once);
      known = λ some. omega (arith, answers, effects, so.may.known (omega (arith, stands, some)));
    }

-- a packet that stands as it must stands once at most
once_at_most : (n answers effects : ℕ) → (1 ≤ answers → n ≡ 1) → (1 ≤ effects → n ≤ 1) →
    (1 ≤ n → 1 ≤ answers + effects) → n ≤ 1
once_at_most zero answers effects once few known = omega arith
once_at_most (suc n) (suc answers) effects once few known = omega (arith, once (omega arith))
once_at_most (suc n) zero (suc effects) once few known = few (omega arith)
once_at_most (suc n) zero zero once few known = absurd (omega (arith, known (omega arith)))

-- and the other way round
stands_so : (told : Told) (calls : List Record) (pending : List Pending) (order sorted : List ℕ) →
    Facts told calls pending order → IsPermutation order sorted → (packet : ℕ) →
    StandsRight told packet → StandsSo calls pending sorted packet
stands_so told calls pending order sorted facts same packet right =
    let stands = standing_is told calls pending order sorted facts same packet in
    let answers = answers_are told calls pending order facts packet in
    let effects = effects_are told calls pending order facts packet in
    let few = once_at_most (standing told packet) (times packet (answered_packets told))
    (times packet (effect_packets told))
    right.once right.at_most right.known in
    record {
      there = λ some. omega (arith, stands, right.once (omega (arith, answers, some)));
      may = record {
        once = omega (arith, stands, few);
        known = λ some. omega (arith, answers, effects, right.known (omega (arith, stands, some)));
      };
    }

-- the least fault in what is judged is that of the report
pub fault_is : (told : Told) (calls : List Record) (pending : List Pending) (order sorted : List ℕ) →
    Facts told calls pending order → IsPermutation order sorted → (found : Option ℕ) →
    MatchOption found ((packet : ℕ) → StandsSo calls pending sorted packet) (IsLeastOf calls pending sorted) →
    MatchOption found (IsWhole told) (IsLeastFault told)
fault_is told calls pending order sorted facts same None all =
    λ packet. stands_right told calls pending order sorted facts same packet (all packet)
fault_is told calls pending order sorted facts same (Some p) at = record {
  fault = λ right. at.fault (stands_so told calls pending order sorted facts same p right);
  least = λ other less. stands_right told calls pending order sorted facts same other (at.least other less);
}
