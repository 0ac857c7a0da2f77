-- The exchange of a bucket word, after the ops are found and the new row is stored.
use Rattle.std.proofs.Common.{◌≡◌, ◌≢◌, ℕ, ◌+◌, ◌<◌, ◌≤◌, ◌∙◌, Bool, true, false, eqb, List, Option, Some, None, refl, sym, ap, subst, arith}
use Rattle.std.specs.Prelude.{if◌then◌else◌, nat_le, slice_index, slice_index_or}
use Rattle.std.proofs.lemmas.Bool.{cond-true, cond-false}
use Rattle.std.proofs.lemmas.Bool.Decides.{nat_tests}
use Rattle.step_counts.specs.StepCounts.{bucket_row_words}
use Rattle.step_counts.specs.declared.rows.SeatRows.{SeatRows}
use Rattle.plain_map.specs.declared.calls.Reply.{Reply}
use Rattle.plain_map.specs.declared.full.FullKind.TheVariants.{BucketRows}
use Rattle.word_rows.specs.BucketWords.{bucket_of_words}
use Rattle.bucket_states.specs.Change.{change}
use Rattle.bucket_states.specs.States.{BucketState, state_in_row}
use Rattle.bucket_states.specs.declared.ops.Op.{Op}
use Rattle.table_model.specs.declared.rounds.Round.{Round}
use Rattle.table_model.specs.Fits.{Makes}
use Rattle.table_model.specs.Goes.{after_exchange, answered_by, answered_with, bucket_in_words}
use Rattle.table_model.specs.Phases.{BucketTry, DirRoot, Stuck, TryExchange, TryStore, TryWord}
use Rattle.table_model.specs.Setup.{next_number, rules_of, settings_of}
use Rattle.table_model.specs.Stores.{made_bucket}
use Rattle.seat_calls.specs.Desks.{IsOf, rules_at, state_at}
use Rattle.seat_calls.specs.Going.{Going, goes, later, went}
use Rattle.seat_calls.specs.declared.desk.Desk.{Desk}
use Rattle.seat_calls.proofs.RunLemmas.{later_later}

-- the bucket that the ops make, by the settings at hand
pub made_here : (f : Going) (desk : Desk) (ops : List (Option Op)) (words : List ℕ) → IsOf f desk →
    change (rules_of f.setup) ops (bucket_in_words f.setup words) ≡ change (rules_at desk) ops (state_at desk words)
made_here f desk ops words is =
    let rules : rules_of f.setup ≡ rules_at desk = λ i. record {
      items = (is.shape i).settings.items;
      depth = (is.shape i).settings.depth;
      hashing = is.hashing i;
    } in
    λ i. change (rules i) ops (state_in_row (bucket_of_words (is.shape i).settings words))

-- one more bucket row is published
abbrev pub with_row : SeatRows → SeatRows
with_row used = record {
  op_rows = used.op_rows;
  bucket_rows = used.bucket_rows + 1;
  bucket_words = used.bucket_words;
  directory_rows = used.directory_rows;
}

-- the ops took so many steps, and the row so many more
module _ (f : Going) (round : Round) (attempt : BucketTry) (found : List (Option Op)) (spent size : ℕ)
    (ready stored : Going) (asked : ready ≡ later f spent (TryStore round attempt found 0))
    (put : stored ≡ later ready (bucket_row_words (settings_of ready.setup)) (TryExchange round attempt found))
    (long : size ≡ bucket_row_words (settings_of f.setup)) where
  -- the exchange comes next
  pub stored_at : stored ≡ later f (spent + size) (TryExchange round attempt found)
  stored_at =
      put
      ∙ ap (λ (h : Going). later h (bucket_row_words (settings_of h.setup)) (TryExchange round attempt found)) asked
      ∙ later_later f spent (bucket_row_words (settings_of f.setup)) (TryStore round attempt found 0)
      (TryExchange round attempt found)
      ∙ (λ i. later f (spent + sym long i) (TryExchange round attempt found))

  -- it is lost
  pub row_lost : (word : ℕ) → word ≢ attempt.row →
      goes stored word
      ≡ went f f.account.used (spent + size + 1) (TryWord round (attempt.turn + 1) (Some attempt.first))
  row_lost word other =
      let same : eqb word attempt.row ≡ false = grind (arith, nat_tests) in
      let steps : f.flight.steps + (spent + size) + 1 ≡ f.flight.steps + (spent + size + 1) = omega arith in
      ap (λ (h : Going). goes h word) stored_at
      ∙ (λ i. record {
        setup = f.setup;
        seat = f.seat;
        account = record f.account { used = if same i then with_row f.account.used else f.account.used };
        flight = record f.flight { steps = steps i };
        phase = if same i then after_exchange f.seat f.flight round (made_bucket f.setup attempt found)
            (next_number f.setup f.seat BucketRows f.account.used)
            else TryWord round (attempt.turn + 1) (Some attempt.first);
      })

  -- it happened
  pub row_won : (word : ℕ) → word ≡ attempt.row →
      goes stored word ≡ went f (with_row f.account.used) (spent + size + 1)
      (after_exchange f.seat f.flight round (made_bucket f.setup attempt found)
      (next_number f.setup f.seat BucketRows f.account.used))
  row_won word is =
      let same : eqb word attempt.row ≡ true = grind (arith, nat_tests) in
      let steps : f.flight.steps + (spent + size) + 1 ≡ f.flight.steps + (spent + size + 1) = omega arith in
      ap (λ (h : Going). goes h word) stored_at
      ∙ (λ i. record {
        setup = f.setup;
        seat = f.seat;
        account = record f.account { used = if same i then with_row f.account.used else f.account.used };
        flight = record f.flight { steps = steps i };
        phase = if same i then after_exchange f.seat f.flight round (made_bucket f.setup attempt found)
            (next_number f.setup f.seat BucketRows f.account.used)
            else TryWord round (attempt.turn + 1) (Some attempt.first);
      })

-- the new row is the bucket's, and this is its number for the seat
module _ (f : Going) (desk : Desk) (round : Round) (made state : BucketState) (row applied number : ℕ)
    (is : IsOf f desk) (made_is : made ≡ state) (here : applied ≡ slice_index state.applied desk.seat)
    (own : number ≡ f.flight.number) where
  -- the same, by the call's seat
  numbered : applied ≡ slice_index made.applied f.seat
  numbered = here ∙ (λ i. slice_index (sym made_is i).applied (sym is.seat i))

  -- the call is applied, and this is the reply beside the number
  pub row_answers : number ≤ applied → (reply : Option Reply) →
      reply ≡ slice_index_or state.replies desk.seat None →
      after_exchange f.seat f.flight round made row ≡ answered_with row reply
  row_answers le reply replies =
      let few : f.flight.number ≤ slice_index made.applied f.seat = omega (arith, numbered, own, le) in
      let yes : nat_le f.flight.number (slice_index made.applied f.seat) ≡ true = grind (arith, nat_tests) in
      cond-true (nat_le f.flight.number (slice_index made.applied f.seat)) (answered_by f.seat made row)
      (if made.frozen then DirRoot round 1 None else Stuck) yes
      ∙ (λ i. answered_with row (slice_index_or (made_is i).replies (is.seat i) None))
      ∙ ap (answered_with row) (sym replies)

  -- a phase that can be gone on from is not the stuck one
  frozen_is : (frozen : Bool) → Makes f.setup (if frozen then DirRoot round 1 None else Stuck) →
      (if frozen then DirRoot round 1 None else Stuck) ≡ DirRoot round 1 None
  frozen_is true makes = refl
  frozen_is false makes = absurd makes

  -- the call is not applied, so the bucket is frozen
  pub row_frozen : applied < number → Makes f.setup (after_exchange f.seat f.flight round made row) →
      after_exchange f.seat f.flight round made row ≡ DirRoot round 1 None
  row_frozen lt makes =
      let more : slice_index made.applied f.seat < f.flight.number = omega (arith, numbered, own, lt) in
      let not : nat_le f.flight.number (slice_index made.applied f.seat) ≡ false = grind (arith, nat_tests) in
      let left = cond-false (nat_le f.flight.number (slice_index made.applied f.seat)) (answered_by f.seat made row)
      (if made.frozen then DirRoot round 1 None else Stuck) not in
      left ∙ frozen_is made.frozen (subst (Makes f.setup) left makes)
