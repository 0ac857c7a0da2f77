-- A row that was read between two loads of one bucket word is one of its bucket, and can be kept.
use Rattle.std.proofs.Common.{◌≡◌, ℕ, ◌<◌, ◌≤◌, List, [], ◌∷◌, length, sym, ap, ◌∙◌, subst, arith}
use Rattle.std.specs.Prelude.{slice_index, drop}
use Rattle.std.specs.List.{AllByRecursion as Each}
use Rattle.std.proofs.lemmas.List.Elements.{All-from_recursion}
use Rattle.plain_map.specs.declared.calls.Call.{Call}
use Rattle.plain_map.specs.declared.keys.Pair.{Pair}
use Rattle.plain_map.specs.Calls.{key_in}
use Rattle.plain_map.specs.Keys.{IsKey}
use Rattle.plain_map.specs.Updates.{IsSmallPair, IsUpdateReply}
use Rattle.bucket_states.specs.Parts.{HasDistinctKeys, HasPrefix}
use Rattle.exchange_model.specs.Plans.{Plan, rules_of}
use Rattle.exchange_model.specs.Codes.{Entry, Row, row_in, count_in, row_at, row_of_words}
use Rattle.exchange_model.specs.Laws.{pairs_in}
use Rattle.exchange_model.specs.Steps as S
use Rattle.exchange_model.specs.Steps.{bucket_of_call}
use Rattle.exchange_model.specs.Worlds.{World, Event, IsRun, world_after, seat_in}
use Rattle.exchange_laws.specs.Fits.{RowsAreKept, RowsAreOfBuckets}
use Rattle.exchange_laws.proofs.Words.{bucket_small}
use Rattle.exchange_laws.proofs.TrueReads.{loads_are_true}
use Rattle.exchange_laws.proofs.FoundOps.{pairs_many}
use Rattle.exchange_laws.proofs.LookBounds.{count_few}
use Rattle.exchange_laws.proofs.ItemsAgree.{items_agree}
use Rattle.exchange_laws.proofs.TiedRuns.{updates_are_ordered}
use Rattle.exchange_laws.proofs.SmallRows.{SmallPair, SmallEntry, SmallRow}
use Rattle.exchange_laws.proofs.NearRuns.{all_known}

keys_small : (items : List Pair) → Each SmallPair items → Each (λ (pair : Pair). IsKey pair.key) items
keys_small [] each = tt
keys_small (pair ∷ items) each = (each.0.0, keys_small items each.1)

values_small : (items : List Pair) → Each SmallPair items → Each (λ (pair : Pair). IsSmallPair pair) items
values_small [] each = tt
values_small (pair ∷ items) each = (each.0.1, values_small items each.1)

replies_small : (entries : List Entry) → Each SmallEntry entries →
    Each (λ (entry : Entry). IsUpdateReply entry.reply) entries
replies_small [] each = tt
replies_small (entry ∷ entries) each = (each.0.1, replies_small entries each.1)

module _ (plan : Plan) (events : List Event) (seat turn old : ℕ) (call : Call) (words : List ℕ)
    (run : IsRun plan events)
    (inside : seat < plan.settings.seats)
    (stood : (seat_in (world_after plan events) seat).stand ≡ S.Goes call (S.CheckWord turn old words))
    (same : (world_after plan events).store.bucket (bucket_of_call plan call) ≡ old) where
  abbrev x : World
  x = world_after plan events

  abbrev b : ℕ
  b = bucket_of_call plan call

  -- the words spell the row that stands
  row_is : row_of_words plan words ≡ row_at plan (x.store.row (row_in plan (x.store.bucket b)))
  row_is =
      loads_are_true plan events seat turn old call words run inside stood same
      ∙ ap (λ w. row_at plan (x.store.row (row_in plan w))) (sym same)

  small : SmallRow (row_of_words plan words)
  small = subst SmallRow (sym row_is) ((all_known plan events run).near.rows b
      (bucket_small plan run.opened (key_in call)))

  items_are : (row_of_words plan words).items ≡ pairs_in plan x b
  items_are =
      ap (λ (row : Row). row.items) row_is ∙ items_agree plan (x.store.row (row_in plan (x.store.bucket b)))

  few : length (row_of_words plan words).items ≤ plan.settings.items
  few =
      let head = slice_index words 0 in
      let long = pairs_many (count_in plan head) (drop 1 words) in
      let most = count_few plan head in omega (arith, long, most)

-- THE RESULTS
pub rows_are_kept : RowsAreKept
rows_are_kept plan events seat turn old call words run inside stood same =
    let row = row_of_words plan words in
    let s = small plan events seat turn old call words run inside stood same in
    record {
      few = few plan events seat turn old call words run inside stood same;
      keys = All-from_recursion (λ (pair : Pair). IsKey pair.key) row.items (keys_small row.items s.items);
      values = All-from_recursion (λ (pair : Pair). IsSmallPair pair) row.items (values_small row.items s.items);
      replies = All-from_recursion (λ (entry : Entry). IsUpdateReply entry.reply) row.entries
          (replies_small row.entries s.entries);
    }

pub rows_are_of_buckets : RowsAreOfBuckets
rows_are_of_buckets plan events seat turn old call words run range inside stood same =
    let b = bucket_of_call plan call in
    let is = items_are plan events seat turn old call words run inside stood same in
    let held = (updates_are_ordered plan events run range).held b (bucket_small plan run.opened (key_in call)) in
    record {
      distinct = subst HasDistinctKeys (sym is) held.distinct;
      inside = subst (HasPrefix (rules_of plan) b plan.settings.depth) (sym is) held.inside;
    }
