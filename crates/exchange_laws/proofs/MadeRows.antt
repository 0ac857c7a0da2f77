-- The row that an exchange puts can be spelled: it has no more items than there is room for, an entry for each seat at
-- most, and replies of updates.
use Rattle.std.proofs.Common.{◌≡◌, ℕ, suc, ◌+◌, ◌*◌, ◌/◌, ◌%◌, ◌<◌, ◌≤◌, Bool, true, false, List, [], ◌∷◌, length, Option, Some, None, refl, arith}
use Rattle.std.specs.List.{AllByRecursion as Each}
use Rattle.std.proofs.lemmas.Bool.{ltb-true}
use Rattle.std.proofs.lemmas.List.{length-append}
use Rattle.list_laws.proofs.Totals.{each-append}
use Rattle.plain_map.specs.declared.calls.Call.{Call}
use Rattle.plain_map.specs.declared.calls.Call.TheVariants.{Insert, Remove, Lookup, Tally, Count, Put}
use Rattle.plain_map.specs.declared.calls.Reply.{Reply}
use Rattle.plain_map.specs.declared.calls.Reply.TheVariants.{Old, Gone, Absent, Sum}
use Rattle.plain_map.specs.declared.keys.Key.{Key}
use Rattle.plain_map.specs.declared.keys.Pair.{Pair}
use Rattle.plain_map.specs.declared.rules.Rules.{Rules}
use Rattle.plain_map.specs.Keys.{Session, pair_of}
use Rattle.plain_map.specs.PlainObject.{new_session, counted_session, grown, revalued, insert_reply, count_reply, gone_from, sum_of}
use Rattle.std.specs.Option.{option_map_or}
use Rattle.word_rows.specs.ReplyWords.{word_of_reply, reply_of_word, reply_of_kind}
use Rattle.bucket_states.specs.Items.{value_at, has_place, appended, revised_in, items_after, reply_in}
use Rattle.bucket_states.proofs.ItemLemmas.{length-changed, length-without}
use Rattle.exchange_model.specs.Plans.{Plan, IsPlan, rules_of}
use Rattle.exchange_model.specs.Codes.{Row}
use Rattle.exchange_model.specs.Steps.{Found, NoOp, Keeps, Takes, Makes, Change, entry_of, with_found, with_all, change}
use Rattle.exchange_laws.proofs.RowWords.{IsEntry, IsRow}

-- ---- how many items there are

appended_few : (items : List Pair) (pair : Pair) (held : Option Session) (place : Bool) (n : ℕ) → length items ≤ n →
    (place ≡ true → length items < n) → length (appended items pair held place) ≤ n
appended_few items pair (Some held) place n few room = few
appended_few items pair None true n few room =
    (let long = length-append items (pair ∷ []) in omega (arith, long, room refl))
appended_few items pair None false n few room = few

revised_few : (items : List Pair) (key : Key) (new : Session) (change : Session → Session) (held : Option Session)
    (place : Bool) (n : ℕ) → length items ≤ n → (place ≡ true → length items < n) →
    length (revised_in items key new change held place) ≤ n
revised_few items key new change (Some held) place n few room = omega (arith, length-changed key change items, few)
revised_few items key new change None true n few room =
    (let long = length-append items (pair_of (key, new) ∷ []) in omega (arith, long, room refl))
revised_few items key new change None false n few room = few

-- no more than there is room for, after a call
after_few : (rules : Rules) (items : List Pair) (call : Call) → length items ≤ rules.items →
    length (items_after rules items call) ≤ rules.items
unfolding items_after
after_few rules items (Insert key value) few =
    appended_few items (pair_of (key, new_session value)) (value_at key items) (has_place rules items) rules.items few
    (λ e. ltb-true (length items) rules.items e)
after_few rules items (Remove key) few = omega (arith, length-without key items, few)
after_few rules items (Lookup key) few = few
after_few rules items (Tally key amount) few =
    omega (arith, length-changed key (λ held. grown held amount) items, few)
after_few rules items (Count key value amount) few =
    revised_few items key (counted_session value amount) (λ held. grown held amount) (value_at key items)
    (has_place rules items) rules.items few (λ e. ltb-true (length items) rules.items e)
after_few rules items (Put key value) few =
    revised_few items key (new_session value) (λ held. revalued held value) (value_at key items)
    (has_place rules items) rules.items few (λ e. ltb-true (length items) rules.items e)

-- ---- replies

-- a reply that can be spelled
abbrev pub Reads : Reply → Type 0
Reads reply = reply_of_word (word_of_reply (Some reply)) ≡ Some reply

pub old_reads : (value : ℕ) → Reads (Old value)
old_reads value =
    let kind : (2 + 8 * value) % 8 ≡ 2 = omega arith in
    let rest : (2 + 8 * value) / 8 ≡ value = omega arith in
    (λ i. reply_of_kind (kind i) (rest i))

pub gone_reads : (value : ℕ) → Reads (Gone value)
gone_reads value =
    let kind : (4 + 8 * value) % 8 ≡ 4 = omega arith in
    let rest : (4 + 8 * value) / 8 ≡ value = omega arith in
    (λ i. reply_of_kind (kind i) (rest i))

pub sum_reads : (total : ℕ) → Reads (Sum total)
sum_reads total =
    let kind : (6 + 8 * total) % 8 ≡ 6 = omega arith in
    let rest : (6 + 8 * total) / 8 ≡ total = omega arith in
    (λ i. reply_of_kind (kind i) (rest i))

insert_reads : (held : Option Session) (room : Bool) → Reads (insert_reply held room)
insert_reads (Some held) room = old_reads held.value
insert_reads None true = refl
insert_reads None false = refl

count_reads : (amount : ℕ) (held : Option Session) (room : Bool) → Reads (count_reply amount held room)
count_reads amount (Some held) room = sum_reads _
count_reads amount None true = refl
count_reads amount None false = refl

-- a call that changes something
abbrev pub IsChange : Call → Type 0
IsChange (Lookup key) = ⊥
IsChange call = Unit {0}

replies_read : (rules : Rules) (items : List Pair) (call : Call) → IsChange call → Reads (reply_in rules items call)
unfolding reply_in
replies_read rules items (Insert key value) is = insert_reads (value_at key items) (has_place rules items)
replies_read rules items (Remove key) is = go (value_at key items)
  where
    go : (held : Option Session) → Reads (option_map_or gone_from held Absent)
    go (Some held) = gone_reads held.value
    go None = refl
replies_read rules items (Lookup key) is = absurd is
replies_read rules items (Tally key amount) is = go (value_at key items)
  where
    go : (held : Option Session) → Reads (option_map_or (sum_of amount) held Absent)
    go (Some held) = sum_reads _
    go None = refl
replies_read rules items (Count key value amount) is = count_reads amount (value_at key items) (has_place rules items)
replies_read rules items (Put key value) is = insert_reads (value_at key items) (has_place rules items)

-- ---- a row that takes what was found

abbrev pub IsFound : Found → Type 0
IsFound NoOp = Unit {0}
IsFound (Keeps entry) = IsEntry entry
IsFound (Takes op) = IsChange op.call
IsFound (Makes call) = IsChange call

module _ (rules : Rules) where
  -- so far, with so many entries at most
  pub record Fits (c : Change) (entries : ℕ) : Type 0 where
    pub items : length c.row.items ≤ rules.items
    pub few : length c.row.entries ≤ entries
    pub each : Each IsEntry c.row.entries

  one_fits : (c : Change) (n seat : ℕ) (found : Found) → Fits c n → seat < 64 → IsFound found →
      Fits (with_found rules c seat found) (n + 1)
  one_fits c n seat NoOp f less is = record
      { items = f.items; few = (let k = f.few in omega (arith, k)); each = f.each }
  one_fits c n seat (Keeps entry) f less is = record {
    items = f.items;
    few = (let long = length-append c.row.entries (entry ∷ []) in let k = f.few in omega (arith, long, k));
    each = each-append IsEntry c.row.entries (entry ∷ []) f.each (is, tt);
  }
  one_fits c n seat (Takes op) f less is =
      let entries = entry_of seat op.number (reply_in rules c.row.items op.call) in
      record {
        items = after_few rules c.row.items op.call f.items;
        few = (let long = length-append c.row.entries entries in let k = f.few in omega (arith, long, k));
        each = each-append IsEntry c.row.entries entries f.each
            (record { seat = less; reply = replies_read rules c.row.items op.call is }, tt);
      }
  one_fits c n seat (Makes call) f less is = record {
    items = after_few rules c.row.items call f.items;
    few = (let long = length-append c.row.entries [] in let k = f.few in omega (arith, long, k));
    each = each-append IsEntry c.row.entries [] f.each tt;
  }

  all_fit : (c : Change) (n seat : ℕ) (found : List Found) → Fits c n → seat + length found ≤ 64 → Each IsFound found →
      Fits (with_all rules c seat found) (n + length found)
  all_fit c n seat [] f less is = record { items = f.items; few = (let k = f.few in omega (arith, k)); each = f.each }
  all_fit c n seat (g ∷ found) f less is =
      let step = all_fit (with_found rules c seat g) (n + 1) (suc seat) found
      (one_fits c n seat g f (omega (arith, less)) is.0) (omega (arith, less)) is.1 in
      record { items = step.items; few = (let k = step.few in omega (arith, k)); each = step.each }

-- THE RESULT
pub made_is_row : (plan : Plan) → IsPlan plan → (row : Row) (found : List Found) →
    length row.items ≤ plan.settings.items →
    length found ≤ plan.settings.seats → Each IsFound found → IsRow plan (change plan row found).row
made_is_row plan is_plan row found items few is =
    let start : Fits (rules_of plan) (record { row = record { items = row.items; entries = [] }; made = [] }) 0 =
    record { items = items; few = omega arith; each = tt } in
    let all = all_fit (rules_of plan) _ 0 0 found start (omega (arith, few, is_plan.seats)) is in
    record { items = all.items; few = (let k = all.few in omega (arith, k, few)); entries = all.each }
