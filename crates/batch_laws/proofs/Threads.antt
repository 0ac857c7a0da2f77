-- Batches answer as one thread would.
use Rattle.std.proofs.Common.{◌≡◌, ℕ, List, [], ◌∷◌, ◌++◌, map, refl, inl, inr, sym, ap, subst, ◌∙◌}
use Rattle.std.specs.Prelude.{flat_map}
use Rattle.std.proofs.lemmas.List.{map-append}
use Rattle.std.proofs.lemmas.List.Sorted.{IsPermutation-trans, IsPermutation-sym, IsPermutation-map, IsPermutation-append_left}
use Rattle.plain_map.specs.declared.keys.Key.{Key}
use Rattle.plain_map.specs.declared.records.Record.{Record}
use Rattle.plain_map.specs.declared.rules.Rules.{Rules}
use Rattle.plain_map.specs.Calls.{key_in}
use Rattle.plain_map.specs.PlainObject.{Sessions, map_after}
use Rattle.plain_map.specs.History.{answered, Legal, Whole, sessions_after}
use Rattle.plain_map.proofs.OrderLemmas.{Legal-append, sessions_after-append}
use Rattle.list_laws.proofs.Lists.{In, in_left, in_right}
use Rattle.placing_laws.specs.OneThread.{MayBeHeld}
use Rattle.placing_laws.proofs.CallLemmas.{Roomy, inserts_in, inserts_by, roomy_after}
use Rattle.placing_laws.proofs.AnswerLemmas.{answers_as_one_thread}
use Rattle.batch_history.specs.Batches.{Batch, AreInOrder}
use Rattle.batch_laws.specs.Threads.{AreLinesOf, all_lines, AreByKey, BatchesAnswerAsOneThread}
use Rattle.batch_laws.proofs.Lines.{line_is_permuted, keys_have_seats}
use Rattle.list_laws.proofs.Places.{all_in}
use Rattle.list_laws.proofs.Places.{in_all}

-- ---- room

-- some of the records have room
roomy_some : (rules : Rules) (m : Sessions) (records some : List Record) → Roomy rules m records →
    ((x : Record) → In x some → In x records) → Roomy rules m some
roomy_some rules m records some roomy within class =
    let room = roomy class in
    record { keys = room.keys; few = room.few; among = λ key of may. room.among key of (before key may) }
  where
    before : (key : Key) → MayBeHeld m some key → MayBeHeld m records key
    before key (inl held) = inl held
    before key (inr ins) =
        let by = inserts_by key some ins in inr (inserts_in key by.0 records (within by.0 by.1) by.2)

-- all of them have it after some of them
roomy_rest : (rules : Rules) (m : Sessions) (records some : List Record) → Roomy rules m records →
    ((x : Record) → In x some → In x records) → Roomy rules (sessions_after rules m (map answered some)) records
roomy_rest rules m records [] roomy within = roomy
roomy_rest rules m records (r ∷ some) roomy within =
    roomy_rest rules (map_after rules m r.call) records some
    (roomy_after rules m records records r roomy (within r (inl refl)) (λ x i. i)) (λ x i. within x (inr i))

-- ---- batch by batch

answers_all : (rules : Rules) (last : Sessions) (seat_for : Key → ℕ) (all : List Record) (m : Sessions)
    (batches : List Batch) (lines : List (List Record)) → AreInOrder rules m batches last → AreLinesOf batches lines →
    AreByKey seat_for all → ((x : Record) → In x (all_lines lines) → In x all) → Roomy rules m all →
    Legal rules m (map answered (all_lines lines))
    × (sessions_after rules m (map answered (all_lines lines)) ≡ last)
answers_all rules last seat_for all m [] [] orders are by_key within roomy = (tt, sym orders)
answers_all rules last seat_for all m [] (line ∷ lines) orders are by_key within roomy = elim are [ ]
answers_all rules last seat_for all m (batch ∷ batches) [] orders are by_key within roomy = elim are [ ]
answers_all rules last seat_for all m (batch ∷ batches) (line ∷ lines) orders are by_key within roomy =
    let logs = flat_map (λ log. log) batch.logs in
    let inside : (x : Record) → In x line → In x all = λ x i. within x (in_left x line (all_lines lines) i) in
    let own : AreByKey seat_for line = all_in (λ (r : Record). r.seat ≡ seat_for (key_in r.call)) line
    (λ r i. in_all (λ (r : Record). r.seat ≡ seat_for (key_in r.call)) all r by_key (inside r i)) in
    let whole : Whole line [] batch.order =
    IsPermutation-trans (map answered line ++ []) (map answered logs ++ []) batch.order
    (IsPermutation-append_left [] (map answered line) (map answered logs)
    (IsPermutation-map answered line logs
    (IsPermutation-sym logs line (line_is_permuted batch.logs line are.0)))) orders.0.whole in
    let here = answers_as_one_thread rules m line batch.order
    (keys_have_seats batch.logs line seat_for orders.0.numbered are.0 own)
    (roomy_some rules m all line roomy inside) orders.0.legal orders.0.after whole in
    let rest = answers_all rules last seat_for all (sessions_after rules m (map answered line)) batches lines
    (subst (λ s. AreInOrder rules s batches last) here.1 orders.1) are.1 by_key
    (λ x i. within x (in_right x line (all_lines lines) i)) (roomy_rest rules m all line roomy inside) in
    let both : map answered (line ++ all_lines lines) ≡ map answered line ++ map answered (all_lines lines) =
    map-append answered line (all_lines lines) in (
      subst (Legal rules m) (sym both)
          (Legal-append rules m (map answered line) (map answered (all_lines lines)) here.0 rest.0),
      ap (sessions_after rules m) both
          ∙ sessions_after-append rules m (map answered line) (map answered (all_lines lines)) ∙ rest.1,
    )

pub batches_answer_as_one_thread : BatchesAnswerAsOneThread
batches_answer_as_one_thread rules first last batches lines seat_for orders are by_key roomy =
    answers_all rules last seat_for (all_lines lines) first batches lines orders are by_key (λ x i. i) roomy
