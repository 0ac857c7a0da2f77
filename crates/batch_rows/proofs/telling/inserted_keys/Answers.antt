use Rattle.std.proofs.Common.{◌∙◌, ◌++◌, [], ◌∷◌, List, Option, take, Vec, Global, ap, sym, rules}
use Rattle.std.specs.Option.{option_map_or}
use Rattle.std.proofs.lemmas.List.{append-nil}
use Rattle.plain_map.specs.declared.keys.Key.{Key}
use Rattle.bound_laws.proofs.KeyCounts.{has}
use Rattle.batch_rows.specs.BatchRows.{inserted_in_calls}
use Rattle.batch_rows.proofs.KeyLemmas.{inserted_more, same_lists, same_told, same_with}
use Rattle.batch_rows.proofs.telling.inserted_keys.Goals as goal
use Rattle.batch_rows.proofs.telling.inserted_keys.Goals.{in-Some+then-not-is_hinted+in_ok-push-in-Some, in-Some+else-not-is_hinted, in-None}

-- the keys of such a call
abbrev keys_of : Option Key → List Key
keys_of inserted = option_map_or (λ key. key ∷ []) inserted []

pub loop-asked-preserved : goal.loop-asked-preserved
loop-asked-preserved c =
    let old : List Key = c.loop-asked.inserted.items in
    let told : List Key = inserted_in_calls (take c.loop-asked.asked-index c.args.calls.now) in
    let more = inserted_more c.args.calls.now c.loop-asked.asked-index _ c.loop-asked-test.true
    ∙ ap (λ (l : List Key). told ++ l) c.inserted_by.ensures in
    let same = c.loop-asked.invariant.same in
    elim c.match-inserted_by.branch [
      | in-Some+then-not-is_hinted+in_ok-push-in-Some w ↦
          let own : List Key = w.in-Some.key ∷ [] in
          record {
            hints = search rules;
            same = same_lists (old ++ own) c.match-inserted_by.inserted.items (told ++ own) _
                (ap (λ (v : Vec Key Global). v.items) w.inserted-is ∙ w.in_ok-push-in-Some.ensures.items)
                (more ∙ ap (λ o. told ++ keys_of o) w.in-Some.is)
                (same_with old told own same);
          }
      | in-Some+else-not-is_hinted w ↦
          let own : List Key = w.in-Some.key ∷ [] in
          record {
            hints = search rules;
            same = same_lists old c.match-inserted_by.inserted.items (told ++ own) _
                (ap (λ (v : Vec Key Global). v.items) w.inserted-is)
                (more ∙ ap (λ o. told ++ keys_of o) w.in-Some.is)
                (same_told old told w.in-Some.key
                (sym (ap (λ keys. has keys w.in-Some.key) w.deref.ensures.value)
                ∙ w.is_hinted.ensures w.if-not-is_hinted.false) same);
          }
      | in-None w ↦
          record {
            hints = search rules;
            same = same_lists old c.match-inserted_by.inserted.items told _
                (ap (λ (v : Vec Key Global). v.items) w.inserted-is)
                (more ∙ ap (λ o. told ++ keys_of o) w.in-None.is ∙ append-nil told)
                same;
          }
    ]
