-- A scan of the hold words, step by step.
use Rattle.std.proofs.Common.{◌≡◌, ◌≢◌, ℕ, ◌+◌, ◌%◌, ◌^◌, ◌<◌, ◌≤◌, ◌∙◌, false, List, []}
use Rattle.std.proofs.Common.{◌++◌, Some, refl, sym, ap, subst, arith}
use Rattle.std.proofs.lemmas.Bool.{cond-true, cond-false, lt-ltb}
use Rattle.std.proofs.lemmas.Bool.Decides.{nat_tests}
use Rattle.std.specs.Prelude.{◌==◌, nat_lt}
use Rattle.plain_map.specs.declared.calls.Call.{Call}
use Rattle.exchange_model.specs.Plans.{Plan, holders_of}
use Rattle.exchange_model.specs.Codes.{asking, held_row, holding, is_asking, row_in, time_in}
use Rattle.exchange_model.specs.Steps.{Gives, Goes, Loads, Scan, Scans, Seats, Sees}
use Rattle.exchange_model.specs.Goes.{Ends, Fate, On, Refuses, ScanFate, Scanned, ScansOn, Spends, after_scan, alone, by_giving, by_hold, past_hold, scan_fate, scanned, seat_or_end, seats_from, with_free, without}
use Rattle.exchange_model.specs.Worlds.{seat_after}
use Rattle.exchange_calls.specs.Going.{Going, IsOn, deed, goes, task, told_by, with_now}
use Rattle.exchange_calls.specs.Going.Task.{Exchange, Load}
use Rattle.exchange_calls.specs.Desks.{IsOf}
use Rattle.exchange_calls.specs.Hands.{making}
use Rattle.exchange_calls.specs.OwnRowsView.{free_of, kept_of}
use Rattle.exchange_calls.specs.Scans.{AtHolder, IsAsked, IsAtHold, IsScanning, scan_to}
use Rattle.exchange_calls.specs.declared.desk.Desk.{Desk}
use Rattle.exchange_calls.specs.declared.own_rows.OwnRows.{OwnRows}
use Rattle.exchange_calls.proofs.FindLemmas.{words_differ, words_same}
use Rattle.exchange_calls.proofs.PlaceLemmas.{bucket_at, buckets_are, hold_at, of_same, want_at}

-- where a scan is under way
abbrev pub at_scan : Going → Call → Scan → Going
at_scan b call scan = record b { now = record b.now { scan = Some scan; stand = Goes call Scans } }

-- where the seat stood before says nothing of where it stands after
over_same : (b : Going) (call : Call) (scan : Scan) (left held : List ℕ) (next : Fate) →
    with_now (at_scan b call scan)
    (seat_after (scanned (at_scan b call scan).now (Scanned left held)) call next) (told_by next b.told)
    ≡ making (record b { now = scanned b.now (Scanned left held) }) call next
over_same b call scan left held (On step) = refl
over_same b call scan left held (Ends reply) = refl
over_same b call scan left held Spends = refl
over_same b call scan left held Refuses = refl

on_same : (b : Going) (call : Call) (scan : Scan) (next : ScanFate) →
    with_now (at_scan b call scan)
    (seat_after (scanned (at_scan b call scan).now next) call (after_scan b.now.free next))
    (told_by (after_scan b.now.free next) b.told)
    ≡ scan_to b call next
on_same b call scan (ScansOn other) = refl
on_same b call scan (Scanned left held) = over_same b call scan left held (with_free (b.now.free ++ left))

-- a step of the scan
pub scan_step : (b : Going) (call : Call) (scan : Scan) (word : ℕ) →
    goes (at_scan b call scan) word ≡ scan_to b call (scan_fate b.plan b.seat scan word)
scan_step b call scan word = on_same b call scan (scan_fate b.plan b.seat scan word)

-- where a step leads
pub leads : (f b next : Going) (call : Call) (scan : Scan) (word : ℕ) → f ≡ scan_to b call (ScansOn scan) →
    next ≡ goes f word → next ≡ scan_to b call (scan_fate b.plan b.seat scan word)
leads f b next call scan word at step =
    step ∙ ap (λ (g : Going). goes g word) at ∙ scan_step b call scan word

-- the desk is the same before and after
pub base_of : (f b : Going) (call : Call) (next : ScanFate) (desk : Desk) → f ≡ scan_to b call next → IsOf f desk →
    IsOf b desk
base_of f b call next desk at is =
    of_same f b desk (ap (λ (g : Going). g.plan) (sym at)) (ap (λ (g : Going). g.seat) (sym at)) is

pub scan_desk : (f b : Going) (call : Call) (next : ScanFate) (desk : Desk) → f ≡ scan_to b call next → IsOf b desk →
    IsOf f desk
scan_desk f b call next desk at is =
    of_same b f desk (ap (λ (g : Going). g.plan) at) (ap (λ (g : Going). g.seat) at) is

-- ---- which hold word is next

-- how many can hold
pub holders_are : (g : Going) (desk : Desk) → IsOf g desk →
    holders_of g.plan.settings ≡ desk.sizes.seats + desk.sizes.readers
holders_are g desk is = omega (arith, is.seats, is.readers)

module _ (plan : Plan) (own holder : ℕ) (left held : List ℕ) where
  pub holder_next : holder ≢ own → holder < holders_of plan.settings →
      seats_from plan own holder left held ≡ ScansOn (Seats holder left held)
  holder_next other inside =
      ap (λ (k : ℕ). seat_or_end plan k left held)
      (cond-false (holder == own) (holder + 1) holder (words_differ holder own other))
      ∙ cond-true (nat_lt holder (holders_of plan.settings)) (ScansOn (Seats holder left held)) (Scanned left held)
      (lt-ltb holder (holders_of plan.settings) inside)

  -- the seat passes over itself
  pub own_passed : holder ≡ own →
      seats_from plan own holder left held ≡ seats_from plan own (holder + 1) left held
  own_passed is =
      ap (λ (k : ℕ). seat_or_end plan k left held)
      (cond-true (holder == own) (holder + 1) holder (words_same holder own is)
      ∙ sym (cond-false (holder + 1 == own) (holder + 1 + 1) (holder + 1)
      (words_differ (holder + 1) own (λ e. omega (arith, e, is)))))

  -- and all are looked at
  pub holders_over : holders_of plan.settings ≤ holder → own < holders_of plan.settings →
      seats_from plan own holder left held ≡ Scanned left held
  holders_over over inside =
      ap (λ (k : ℕ). seat_or_end plan k left held)
      (cond-false (holder == own) (holder + 1) holder (words_differ holder own (λ e. omega (arith, e, over, inside))))
      ∙ cond-false (nat_lt holder (holders_of plan.settings)) (ScansOn (Seats holder left held)) (Scanned left held)
      (not_below holder (holders_of plan.settings) over)
    where
      not_below : (a b : ℕ) → b ≤ a → nat_lt a b ≡ false
      not_below a b h = grind (arith, nat_tests)

  -- ---- what a hold word tells

  module _ (word : ℕ) where
    pub asks_by : word % 2 ≡ 1 → by_hold plan own holder left held word
        ≡ ScansOn (Sees holder (time_in word) left held)
    asks_by odd =
        cond-true (is_asking word) (ScansOn (Sees holder (time_in word) left held))
        (past_hold plan own holder left held word) (words_same (word % 2) 1 odd)

    given_past : word % 2 ≢ 1 →
        by_giving plan own holder left held word ≡ past_hold plan own holder left held word
    given_past even =
        cond-false (is_asking word) (seats_from plan own (holder + 1) left held)
        (past_hold plan own holder left held word) (words_differ (word % 2) 1 even)

    pub holds_by : word % 2 ≢ 1 →
        by_hold plan own holder left held word ≡ by_giving plan own holder left held word
    holds_by even =
        cond-false (is_asking word) (ScansOn (Sees holder (time_in word) left held))
        (past_hold plan own holder left held word) (words_differ (word % 2) 1 even)
        ∙ sym (given_past even)

    -- it asks again
    pub given_asking : word % 2 ≡ 1 →
        by_giving plan own holder left held word ≡ seats_from plan own (holder + 1) left held
    given_asking odd =
        cond-true (is_asking word) (seats_from plan own (holder + 1) left held)
        (past_hold plan own holder left held word) (words_same (word % 2) 1 odd)

    -- it holds nothing
    pub given_none : word % 2 ≢ 1 → word ≡ 0 →
        by_giving plan own holder left held word ≡ seats_from plan own (holder + 1) left held
    given_none even none =
        given_past even
        ∙ cond-true (word == 0) (seats_from plan own (holder + 1) left held)
        (seats_from plan own (holder + 1) (without (held_row word) left) (held ++ alone (held_row word) left))
        (words_same word 0 none)

    -- it holds a row
    pub given_row : word % 2 ≢ 1 → word ≢ 0 → by_giving plan own holder left held word
        ≡ seats_from plan own (holder + 1) (without (held_row word) left) (held ++ alone (held_row word) left)
    given_row even some =
        given_past even
        ∙ cond-false (word == 0) (seats_from plan own (holder + 1) left held)
        (seats_from plan own (holder + 1) (without (held_row word) left) (held ++ alone (held_row word) left))
        (words_differ word 0 some)

-- an asking is the word that was found
asked_word : (word : ℕ) → word % 2 ≡ 1 → asking (time_in word) ≡ word
asked_word word odd = omega (arith, odd)

-- ---- one who asks is given a row

module _ (f : Going) (holder word : ℕ) (a : IsAsked f holder word) (odd : word % 2 ≡ 1) (desk : Desk)
    (is : IsOf f desk) where
  abbrev b : Going
  b = a.base

  abbrev time : ℕ
  time = time_in word

  desk_is : IsOf b desk
  desk_is = base_of f b a.call (ScansOn (Sees holder time a.left a.held)) desk a.goes is

  pub want_asked : (at : ℕ) → at ≡ desk.wants + holder → task f ≡ Load at
  want_asked at at_is = ap task a.goes ∙ ap Load (want_at b desk desk_is holder ∙ sym at_is)

  module _ (one : Going) (class : ℕ) (first : one ≡ goes f class) where
    loads : one ≡ scan_to b a.call (ScansOn (Loads holder time class a.left a.held))
    loads = leads f b one a.call (Sees holder time a.left a.held) class a.goes first

    pub class_few : IsOn one.plan (deed one) → class < 2 ^ 32
    class_few on_word =
        let there : IsOn (scan_to b a.call (ScansOn (Loads holder time class a.left a.held))).plan
        (deed (scan_to b a.call (ScansOn (Loads holder time class a.left a.held)))) =
        subst (λ (g : Going). IsOn g.plan (deed g)) loads on_word in
        omega (arith, there, buckets_are b desk desk_is, desk.starts.rows_are, desk.starts.few)

    pub bucket_asked : (at : ℕ) → at ≡ desk.buckets + class → task one ≡ Load at
    bucket_asked at at_is = ap task loads ∙ ap Load (bucket_at b desk desk_is class ∙ sym at_is)

    module _ (two : Going) (found : ℕ) (second : two ≡ goes one found) where
      gives : two ≡ scan_to b a.call (ScansOn (Gives holder time (row_in b.plan found) a.left a.held))
      gives = leads one b two a.call (Loads holder time class a.left a.held) found loads second

      pub giving_asked : (row at old new : ℕ) → row ≡ found % 2 ^ desk.sizes.row_bits → at ≡ desk.holds + holder →
          old ≡ word → new ≡ holding row → task two ≡ Exchange at old new
      giving_asked row at old new row_is at_is old_is new_is =
          let same : row_in b.plan found ≡ row =
          ap (λ (k : ℕ). found % 2 ^ k) desk_is.row_bits ∙ sym row_is in
          ap task gives
          ∙ (λ i. Exchange ((hold_at b desk desk_is holder ∙ sym at_is) i)
          ((asked_word word odd ∙ sym old_is) i) ((ap holding same ∙ sym new_is) i))

      pub has_given : (three : Going) (result : ℕ) → three ≡ goes two result →
          three ≡ scan_to b a.call (by_giving b.plan b.seat holder a.left a.held result)
      has_given three result third =
          leads two b three a.call (Gives holder time (row_in b.plan found) a.left a.held) result gives third

-- ---- a hold word is loaded

module _ (f : Going) (holder : ℕ) (a : IsAtHold f holder) where
  pub hold_asked : (desk : Desk) → IsOf f desk → (at : ℕ) → at ≡ desk.holds + holder → task f ≡ Load at
  hold_asked desk is at at_is =
      ap task a.goes
      ∙ ap Load (hold_at a.base desk (base_of f a.base a.call (ScansOn (Seats holder a.left a.held)) desk a.goes is)
      holder ∙ sym at_is)

  module _ (next : Going) (word : ℕ) (step : next ≡ goes f word) where
    pub hold_seen : next ≡ scan_to a.base a.call (by_hold a.base.plan a.base.seat holder a.left a.held word)
    hold_seen = leads f a.base next a.call (Seats holder a.left a.held) word a.goes step

    -- it asks
    abbrev pub now_asked : word % 2 ≡ 1 → IsAsked next holder word
    now_asked odd = record {
      base = a.base;
      call = a.call;
      left = a.left;
      held = a.held;
      goes = hold_seen
          ∙ ap (scan_to a.base a.call) (asks_by a.base.plan a.base.seat holder a.left a.held word odd);
    }

    -- or it does not
    pub not_asked : word % 2 ≢ 1 →
        next ≡ scan_to a.base a.call (by_giving a.base.plan a.base.seat holder a.left a.held word)
    not_asked even =
        hold_seen ∙ ap (scan_to a.base a.call) (holds_by a.base.plan a.base.seat holder a.left a.held word even)

-- ---- one who can hold after the other

module _ (f base : Going) (call : Call) (holder : ℕ) (rows : OwnRows) (a : AtHolder base f call holder rows)
    (desk : Desk) (is : IsOf f desk) where
  abbrev left : List ℕ
  left = free_of rows

  abbrev held : List ℕ
  held = kept_of rows

  pub base_desk : IsOf base desk
  base_desk = base_of f base call (seats_from base.plan base.seat holder left held) desk a.goes is

  -- its hold word is next
  abbrev pub holds_next : holder ≢ desk.holder → holder < desk.sizes.seats + desk.sizes.readers → IsAtHold f holder
  holds_next other inside = record {
    base = base;
    call = call;
    left = left;
    held = held;
    goes = a.goes
        ∙ ap (scan_to base call)
        (holder_next base.plan base.seat holder left held (λ e. other (e ∙ base_desk.seat))
        (omega (arith, inside, holders_are base desk base_desk)));
  }

  -- it is the seat itself
  pub passed : holder ≡ desk.holder → AtHolder base f call (holder + 1) rows
  passed own = record {
    first = a.first;
    goes = a.goes
        ∙ ap (scan_to base call)
        (own_passed base.plan base.seat holder left held (own ∙ sym base_desk.seat));
  }

  module _ (now : Going) (word : ℕ)
      (settled : now ≡ scan_to base call (by_giving base.plan base.seat holder left held word)) where
    pub holder_asks : word % 2 ≡ 1 → AtHolder base now call (holder + 1) rows
    holder_asks odd = record {
      first = a.first;
      goes = settled ∙ ap (scan_to base call) (given_asking base.plan base.seat holder left held word odd);
    }

    pub holder_idle : word % 2 ≢ 1 → word ≡ 0 → AtHolder base now call (holder + 1) rows
    holder_idle even none = record {
      first = a.first;
      goes = settled ∙ ap (scan_to base call) (given_none base.plan base.seat holder left held word even none);
    }

    -- it holds a row
    pub holder_holds : (rows' : OwnRows) → rows'.next ≡ 0 → free_of rows' ≡ without (held_row word) left →
        kept_of rows' ≡ held ++ alone (held_row word) left → word % 2 ≢ 1 → word ≢ 0 →
        AtHolder base now call (holder + 1) rows'
    holder_holds rows' first free kept even some = record {
      first = first;
      goes = settled
          ∙ ap (scan_to base call) (given_row base.plan base.seat holder left held word even some)
          ∙ (λ i. scan_to base call (seats_from base.plan base.seat (holder + 1) (sym free i) (sym kept i)));
    }

  -- all are looked at
  pub all_looked : desk.sizes.seats + desk.sizes.readers ≤ holder → f ≡ scan_to base call (Scanned left held)
  all_looked over =
      a.goes
      ∙ ap (scan_to base call)
      (holders_over base.plan base.seat holder left held
      (omega (arith, over, holders_are base desk base_desk))
      (omega (arith, base_desk.seat, desk.within, holders_are base desk base_desk)))

-- the scan begins
pub scan_opens : (f : Going) (rows rows' : OwnRows) (s : IsScanning f rows) → rows'.next ≡ 0 →
    free_of rows' ≡ kept_of rows → kept_of rows' ≡ [] → AtHolder s.base f s.call 0 rows'
scan_opens f rows rows' s first free kept = record {
  first = first;
  goes = s.goes ∙ (λ i. scan_to s.base s.call (seats_from s.base.plan s.base.seat 0 (sym free i) (sym kept i)));
}

-- the desk stays the same
pub still_desk : (f now : Going) (rows later : OwnRows) (s : IsScanning f rows) (holder : ℕ) (desk : Desk) →
    AtHolder s.base now s.call holder later → IsOf f desk → IsOf now desk
still_desk f now rows later s holder desk a is =
    scan_desk now s.base s.call (seats_from s.base.plan s.base.seat holder (free_of later) (kept_of later)) desk a.goes
    (base_of f s.base s.call (seats_from s.base.plan s.base.seat 0 (kept_of rows) []) desk s.goes is)
