-- Room for all that calls may hold, by the keys that they insert.
use Rattle.std.proofs.Common.{◌≡◌, ℕ, Bool, true, List, map, refl, inl, inr, sym, ap, ◌∙◌, arith}
use Rattle.std.specs.Prelude.{filter, ◌==◌, ◌&&◌}
use Rattle.std.specs.FinMap.{empty, get-empty}
use Rattle.std.proofs.lemmas.Bool.{eq-eqb}
use Rattle.std.proofs.lemmas.List.Sums.{length-filter}
use Rattle.plain_map.specs.declared.calls.Call.{Call}
use Rattle.plain_map.specs.declared.calls.Call.TheVariants.{Insert, Remove, Lookup, Tally, Count, Put}
use Rattle.plain_map.specs.declared.keys.Key.{Key}
use Rattle.plain_map.specs.Keys.{key_cmp}
use Rattle.plain_map.specs.PlainObject.{class_of}
use Rattle.bucket_states.specs.Items.{same_key}
use Rattle.bucket_states.proofs.KeyTests.{Decides-same_key}
use Rattle.table_model.specs.Needs.{distinct_keys, inserted_by}
use Rattle.list_laws.proofs.Lists.{In, flat_map_in, any_from}
use Rattle.bound_laws.proofs.KeyCounts.{has, has_passing, distinct_has}
use Rattle.placing_laws.specs.OneThread.{Inserts, SomeInserts, MayBeHeld}
use Rattle.placing_laws.proofs.CallLemmas.{inserts_by}
use Rattle.trace_share.specs.declared.outcome.Outcome.{Outcome}
use Rattle.trace_share.specs.Outcomes.{asked_in, records_in}
use Rattle.batch_rows.specs.BatchRows.{inserted_in_calls}
use Rattle.batch_laws.specs.Threads.{RoomIsOfCalls}
use Rattle.batch_laws.proofs.Shares.{asked_there}

-- the key of an insert
inserts_key : (key : Key) (call : Call) → Inserts key call → In key (inserted_by call)
inserts_key key (Insert other value) is = inl (sym is)
inserts_key key (Remove other) is = elim is [ ]
inserts_key key (Lookup other) is = elim is [ ]
inserts_key key (Tally other amount) is = elim is [ ]
inserts_key key (Count other value amount) is = inl (sym is)
inserts_key key (Put other value) is = inl (sym is)

-- what records insert is inserted by the calls
inserted_there : (outcomes : List Outcome) (key : Key) → SomeInserts key (records_in outcomes) →
    has (inserted_in_calls (map asked_in outcomes)) key ≡ true
inserted_there outcomes key some =
    let by = inserts_by key (records_in outcomes) some in
    any_from (same_key key) (inserted_in_calls (map asked_in outcomes)) key
    (flat_map_in (λ (asked : ℕ × Call). inserted_by asked.1) (map asked_in outcomes) (by.0.packet, by.0.call) key
    (asked_there outcomes by.0 by.1) (inserts_key key by.0.call by.2))
    ((Decides-same_key key key).1 refl)

pub room_is_of_calls : RoomIsOfCalls
room_is_of_calls rules outcomes class few = record {
  keys = filter test (distinct_keys keys);
  few = omega (arith, few class, length-filter test (distinct_keys keys));
  among = among;
}
  where
    keys : List Key
    keys = inserted_in_calls (map asked_in outcomes)

    test : Key → Bool
    test key = class_of rules key == class

    among : (key : Key) → class_of rules key ≡ class → MayBeHeld empty (records_in outcomes) key →
        has (filter test (distinct_keys keys)) key ≡ true
    among key of (inl held) = absurd (held (get-empty key_cmp key))
    among key of (inr some) = has_passing test (distinct_keys keys) key
        ∙ ap (λ b. b && has (distinct_keys keys) key) (eq-eqb (class_of rules key) class of)
        ∙ distinct_has keys key ∙ inserted_there outcomes key some
