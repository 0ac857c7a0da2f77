-- The pairs of a table, copied while nobody but the copier has a seat.
use Rattle.std.specs.Prelude.{◌≡◌, ℕ, suc, ◌<◌, ◌≤◌, List, [], ◌∷◌, ◌++◌, length, map, flat_map, All}
use Rattle.std.specs.List.{range_with_len}
use Rattle.plain_map.specs.declared.keys.Pair.{Pair}
use Rattle.exchange_model.specs.Plans.{Plan, buckets_of}
use Rattle.exchange_model.specs.Steps.{Idle}
use Rattle.exchange_model.specs.Goes.{Copied, Pairs}
use Rattle.exchange_model.specs.Worlds.{Answer, Asker, BySeat, Event, IsRun, World, seat_in, world_after}
use Rattle.exchange_model.specs.Laws.{AreOrdered, pairs_in}
use Rattle.exchange_table.specs.Parties.{PartyValue, answers_by, own_answers}
use Rattle.exchange_table.specs.Joins.{ComesTo}
use Rattle.exchange_table.specs.Values.{Answers, TableValue, answered_updates}
use Rattle.exchange_table.specs.Meetings.{informed}

-- a copy of a bucket: its answer, and the pairs that it told
pub record BucketCopy : Type 0 where
  pub answer : Answer
  pub pairs : List Pair

-- it is one of this bucket, which this one made after so many events
pub record IsCopy (who : Asker) (start bucket : ℕ) (copy : BucketCopy) : Type 0 where
  pub by : copy.answer.by ≡ who
  pub asks : copy.answer.asked ≡ Copied bucket
  pub tells : copy.answer.told ≡ Pairs copy.pairs
  pub after : start ≤ copy.answer.began

-- they are of one bucket after the other, from this one on
abbrev pub AreCopies : Asker → (start bucket : ℕ) → List BucketCopy → Type 0
AreCopies who start bucket [] = Unit {0}
AreCopies who start bucket (copy ∷ copies) = IsCopy who start bucket copy × AreCopies who start (suc bucket) copies

-- their answers
abbrev pub answers_of : List BucketCopy → List Answer
answers_of copies = map (λ (copy : BucketCopy). copy.answer) copies

-- and all their pairs
abbrev pub pairs_of : List BucketCopy → List Pair
pairs_of copies = flat_map (λ (copy : BucketCopy). copy.pairs) copies

-- a seat has copied a bucket, and put its pairs behind others
pub record HasCopiedOne (bucket : ℕ) (was now : PartyValue) (before after : List Pair) : Type 0 where
  pub told : List Pair
  pub answers : Answers (Copied bucket) (Pairs told) was now
  pub pairs_are : after ≡ before ++ told

-- a seat has copied the first so many buckets in order, and made no other call. Its copies told these pairs
pub record HasCopied (count : ℕ) (was now : PartyValue) (pairs : List Pair) : Type 0 where
  pub later : List Event
  pub grown : now.holding.known ≡ was.holding.known ++ later
  pub copies : List BucketCopy
  pub many : length copies ≡ count
  pub each : AreCopies was.holding.who (length was.holding.known) 0 copies
  pub own : own_answers now.holding ≡ own_answers was.holding ++ answers_of copies
  pub pairs_are : pairs ≡ pairs_of copies
  pub updates : answered_updates now ≡ answered_updates was

-- these are the pairs of all buckets, in order. They are those that the plain map has after all updates of one order
pub record AreAllPairs (plan : Plan) (world : World) (pairs : List Pair) : Type 0 where
  pub are : pairs ≡ flat_map (λ (bucket : ℕ). pairs_in plan world bucket) (range_with_len 0 (buckets_of plan.settings))
  pub order : AreOrdered plan world

-- all seats met, the first one copied each bucket, and all met again. The pairs are those of all copies
pub record HaveRested (t : TableValue) (was now : List PartyValue) (pairs : List Pair) : Type 0 where
  -- the run when they first met, and how it had gone on when they met again
  pub first : List Event
  pub later : List Event
  pub run : IsRun t.plan (first ++ later)
  pub each : All (λ (p : PartyValue). ComesTo first p.holding) was
  pub are : now ≡ map (informed (first ++ later)) was
  pub idle_first : (seat : ℕ) → seat < t.plan.settings.seats →
      (seat_in (world_after t.plan first) seat).stand ≡ Idle
  pub idle_last : (seat : ℕ) → seat < t.plan.settings.seats →
      (seat_in (world_after t.plan (first ++ later)) seat).stand ≡ Idle
  -- meanwhile no seat answered an update
  pub updates : (seat : ℕ) → seat < t.plan.settings.seats →
      (seat_in (world_after t.plan (first ++ later)) seat).answered
      ≡ (seat_in (world_after t.plan first) seat).answered
  -- the first seat was answered one copy of each bucket, in order, and nothing else
  pub copies : List BucketCopy
  pub count : length copies ≡ buckets_of t.plan.settings
  pub copied : AreCopies (BySeat 0) (length first) 0 copies
  pub own : answers_by (BySeat 0) (world_after t.plan (first ++ later)).answers
      ≡ answers_by (BySeat 0) (world_after t.plan first).answers ++ answers_of copies
  -- and the others nothing
  pub others : (seat : ℕ) → 0 < seat → seat < t.plan.settings.seats →
      answers_by (BySeat seat) (world_after t.plan (first ++ later)).answers
      ≡ answers_by (BySeat seat) (world_after t.plan first).answers
  pub pairs_are : pairs ≡ pairs_of copies
  -- so they are all pairs that the table had when they first met
  pub all : AreAllPairs t.plan (world_after t.plan first) pairs
