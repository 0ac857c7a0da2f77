-- What a seat was answered, and how many of it are updates.
use Rattle.std.proofs.Common.{◌≡◌, ℕ, ◌≤◌, Bool, List, ◌++◌, length, filter, refl, ap, subst, sym, arith}
use Rattle.std.specs.Prelude.{◌==◌}
use Rattle.std.proofs.lemmas.Grind.{flat_map-append}
use Rattle.std.proofs.lemmas.List.Sums.{count_by-le-length, length-filter}
use Rattle.map_laws.specs.ByKey.{Made}
use Rattle.plain_map.specs.Calls.{is_update}
use Rattle.lasting_model.specs.Worlds.{Answer, Asker, BySeat, ByReader}
use Rattle.lasting_laws.specs.Orders.{is_by, updates_by}
use Rattle.lasting_laws.specs.Orders as orders
use Rattle.lasting_table.specs.Parties.{answers_by, is_asker}
use Rattle.flow_laws.specs.FlowOrders.{call_told}
use Rattle.flow_laws.proofs.CallLists.{updates_of_seat}
use Rattle.flow_workers.specs.Work.{told_in}

same_number : (q p : ℕ) → (q == p) ≡ (p == q)
same_number q p = grind arith

same_asker : (q : ℕ) (who : Asker) → is_asker (BySeat q) who ≡ is_by q who
same_asker q (BySeat p) = same_number q p
same_asker q (ByReader r) = refl

-- the answers to a seat are the same by both definitions
pub answers_by_seat : (q : ℕ) (answers : List Answer) → answers_by (BySeat q) answers ≡ orders.answers_by q answers
answers_by_seat q answers =
    ap (λ (test : Answer → Bool). filter test answers) (λ i (a : Answer). same_asker q a.by i)

-- a test lets no more through than there are
pub few_pass : {X : Type 0} (test : X → Bool) (xs : List X) → length (filter test xs) ≤ length xs
few_pass test xs = omega (arith, length-filter test xs, count_by-le-length test xs)

-- a seat was answered no more updates than calls
pub updates_are_calls : (q : ℕ) (answers : List Answer) →
    length (updates_by q answers) ≤ length (told_in (answers_by (BySeat q) answers))
updates_are_calls q answers =
    subst (λ (l : List Answer). length (updates_by q answers) ≤ length (told_in l)) (sym (answers_by_seat q answers))
    (subst (λ (l : List Made). length l ≤ length (told_in (orders.answers_by q answers)))
    (sym (updates_of_seat q answers))
    (few_pass (λ (made : Made). is_update made.0) (told_in (orders.answers_by q answers))))

-- the calls of some answers, and of those after them
pub told-append : (answers later : List Answer) → told_in (answers ++ later) ≡ told_in answers ++ told_in later
told-append answers later = flat_map-append (λ (a : Answer). call_told a.asked a.told) answers later
