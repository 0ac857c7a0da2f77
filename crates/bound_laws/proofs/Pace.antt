-- How many steps of a call can still come, by its phase.
use Rattle.std.proofs.Common.{◌≡◌, ℕ, suc, ◌+◌, ◌-◌, ◌*◌, ◌^◌, ◌<◌, ◌≤◌, Bool, true, false, cond, eqb, ltb, leb, List, [], ◌∷◌, length, refl, ap, ◌∙◌, arith}
use Rattle.std.specs.Prelude.{Option, Some, None}
use Rattle.plain_map.specs.declared.calls.Reply.{Reply}
use Rattle.bucket_states.specs.States.{BucketState}
use Rattle.bucket_states.specs.Laws.{reply_at}
use Rattle.std.specs.List.{list_any}
use Rattle.std.proofs.lemmas.Bool.{cond_both, leb-true}
use Rattle.step_counts.specs.declared.TheConstants.{OP_WORDS, ITEM_WORDS}
use Rattle.step_counts.specs.StepCounts.{bucket_row_words, directory_row_words, bucket_look_steps, new_leaves, step_bound, lookup_steps}
use Rattle.step_counts.specs.declared.rows.SeatRows.{SeatRows}
use Rattle.bucket_states.specs.declared.ops.Op.{Op}
use Rattle.table_model.specs.Setup.{Setup, settings_of, seats_of, rules_of}
use Rattle.table_model.specs.DirectoryChange.{LoadedBucket, is_bucket, buckets_of}
use Rattle.table_model.specs.declared.rounds.Aim.{Aim}
use Rattle.table_model.specs.declared.rounds.Aim.TheVariants.{ForLookup, ForFirstRound, ForSecondRound, ForLastLook}
use Rattle.table_model.specs.declared.rounds.Round.{Round}
use Rattle.table_model.specs.Phases.{BucketTry, DirectoryTry, Phase, SeeDone, StoreOp, Announce, FindRoot, FindDepth, FindEntry, LookWord, LookCount, LookItems, TryWord, TryRow, TryAnnouncement, TryOp, TryStore, TryExchange, DirRoot, DirDepth, DirEntries, DirAnnouncement, DirOp, DirWord, DirRow, DirStore, DirExchange, LastWord, LastRow, StoreDone, Stuck}
use Rattle.table_model.specs.SeatStates.{Flight}
use Rattle.plain_map.specs.Calls.{is_update}
use Rattle.table_model.specs.Goes.{after_row, is_applied, answered_by, answered_with, after_round, after_found, after_exchange}
use Rattle.table_model.specs.Stores.{made_bucket}
use Rattle.run_invariant.proofs.Invariant.{Common, Local, Shared, width}

-- the words of a directory row; the steps that load all buckets, and that store all leaves
unfoldable pub wide : Setup → ℕ
wide setup = directory_row_words (settings_of setup)

unfoldable pub load_all : Setup → ℕ
load_all setup = seats_of setup * bucket_look_steps (settings_of setup)

unfoldable pub leaf_all : Setup → ℕ
leaf_all setup = new_leaves (settings_of setup) * (bucket_row_words (settings_of setup) + 1)

-- a product that is not unfolded
unfoldable pub times : ℕ → ℕ → ℕ
times k x = k * x

-- the steps of a bucket try, of a directory try, and of all tries of a round
abbrev pub tb : Setup → ℕ
tb setup = 2 * width setup + (1 + OP_WORDS) * seats_of setup + 2

-- of a directory try
abbrev pub td : Setup → ℕ
td setup = 2 * wide setup + (1 + OP_WORDS) * seats_of setup + load_all setup + leaf_all setup + 1

-- the last look, a round, and what comes after a round
abbrev pub last_rest : Setup → ℕ
last_rest setup = width setup + 5

-- and of all tries of a round
abbrev pub tries_rest : Setup → ℕ
tries_rest setup = 2 * tb setup + 1 + width setup + 2 * td setup

-- what follows a round
unfoldable pub then_rest : Setup → (turn : ℕ) → ℕ
then_rest setup turn = cond (eqb turn 1) (3 + tries_rest setup + last_rest setup) (last_rest setup)

-- the steps of a lookup once it has found its bucket
abbrev pub look_rest : Setup → ℕ
look_rest setup = 3 + (settings_of setup).items * ITEM_WORDS

-- what follows a find
abbrev pub aim_rest : Setup → Aim → ℕ
aim_rest setup ForLookup = look_rest setup
aim_rest setup ForFirstRound = tries_rest setup + (3 + tries_rest setup + last_rest setup)
aim_rest setup (ForSecondRound first) = tries_rest setup + last_rest setup
aim_rest setup ForLastLook = width setup + 2

-- how many of the buckets are not loaded
abbrev pub lacking : List LoadedBucket → List ℕ → ℕ
lacking loaded [] = 0
lacking loaded (b ∷ bs) = cond (list_any (is_bucket b) loaded) 0 1 + lacking loaded bs

-- how many buckets are not loaded
abbrev pub lacks : Setup → DirectoryTry → List (Option Op) → List LoadedBucket → ℕ
lacks setup attempt found loaded = lacking loaded (buckets_of (rules_of setup) attempt.directory found)

-- after a bucket try, and after a directory try
abbrev pub bucket_tail : Setup → Round → (turn : ℕ) → ℕ
bucket_tail setup round turn = times (2 - turn) (tb setup) + 1 + width setup + 2 * td setup + then_rest setup round.turn

-- what follows the stores of a directory try
abbrev pub dir_tail : Setup → Round → (turn : ℕ) → ℕ
dir_tail setup round turn = times (2 - turn) (td setup) + then_rest setup round.turn

-- the most steps that are left, phase by phase, with the step to come
abbrev pub rest : Setup → Flight → Phase → ℕ
rest setup flight SeeDone = (seats_of setup - length flight.seen) + cond (is_update flight.call)
    (OP_WORDS + 4 + tries_rest setup + (3 + tries_rest setup + last_rest setup)) (3 + look_rest setup)
rest setup flight (StoreOp i) = (OP_WORDS - i) + 4 + tries_rest setup + (3 + tries_rest setup + last_rest setup)
rest setup flight Announce = 4 + tries_rest setup + (3 + tries_rest setup + last_rest setup)
rest setup flight (FindRoot aim) = 3 + aim_rest setup aim
rest setup flight (FindDepth aim root) = 2 + aim_rest setup aim
rest setup flight (FindEntry aim root depth) = 1 + aim_rest setup aim
rest setup flight (LookWord root bucket) = look_rest setup
rest setup flight (LookCount row) = 2 + (settings_of setup).items * ITEM_WORDS
rest setup flight (LookItems row count words) = (count * ITEM_WORDS - length words) + 1
rest setup flight (TryWord round turn first) =
    times (3 - turn) (tb setup) + 1 + width setup + 2 * td setup + then_rest setup round.turn
rest setup flight (TryRow round turn first row words) =
    times (3 - turn) (tb setup) + (width setup - length words) + 2 * td setup + then_rest setup round.turn
rest setup flight (TryAnnouncement round attempt found) =
    (1 + OP_WORDS) * (seats_of setup - length found) + width setup + 1 + bucket_tail setup round attempt.turn
rest setup flight (TryOp round attempt found op words) =
    (OP_WORDS - length words) + (1 + OP_WORDS) * (seats_of setup - length found - 1) + width setup + 1
    + bucket_tail setup round attempt.turn
rest setup flight (TryStore round attempt found i) = (width setup - i) + 1 + bucket_tail setup round attempt.turn
rest setup flight (TryExchange round attempt found) = 1 + bucket_tail setup round attempt.turn
rest setup flight (DirRoot round turn first) = times (3 - turn) (td setup) + then_rest setup round.turn
rest setup flight (DirDepth round turn first root) = td setup - 1 + dir_tail setup round turn
rest setup flight (DirEntries round turn first root depth words) =
    (2 ^ depth - length words) + (1 + OP_WORDS) * seats_of setup + load_all setup + leaf_all setup + wide setup + 1
    + dir_tail setup round turn
rest setup flight (DirAnnouncement round attempt found) =
    (1 + OP_WORDS) * (seats_of setup - length found) + load_all setup + leaf_all setup + wide setup + 1
    + dir_tail setup round attempt.turn
rest setup flight (DirOp round attempt found op words) =
    (OP_WORDS - length words) + (1 + OP_WORDS) * (seats_of setup - length found - 1) + load_all setup + leaf_all setup
    + wide setup + 1 + dir_tail setup round attempt.turn
rest setup flight (DirWord round attempt found loaded bucket) =
    times (lacks setup attempt found loaded) (1 + width setup) + leaf_all setup + wide setup + 1 + dir_tail setup
    round attempt.turn
rest setup flight (DirRow round attempt found loaded bucket row words) =
    (width setup - length words) + times (lacks setup attempt found loaded - 1) (1 + width setup) + leaf_all
    setup + wide setup + 1 + dir_tail setup round attempt.turn
rest setup flight (DirStore round attempt found loaded i) =
    (leaf_all setup + wide setup - i) + 1 + dir_tail setup round attempt.turn
rest setup flight (DirExchange round attempt found loaded) = 1 + dir_tail setup round attempt.turn
rest setup flight (LastWord root bucket) = width setup + 2
rest setup flight (LastRow row words) = (width setup - length words) + 1
rest setup flight (StoreDone reply at) = 1
rest setup flight Stuck = 0

-- all is the bound
pub bound_is : (setup : Setup) → step_bound (settings_of setup) ≡ seats_of setup + (OP_WORDS + 4) + tries_rest
    setup + (3 + tries_rest setup + last_rest setup)
unfolding wide load_all leaf_all width
bound_is setup = omega arith

-- and for a lookup that of its most items
pub look_is : (setup : Setup) → lookup_steps (settings_of setup) (settings_of setup).items ≡ seats_of
    setup + 3 + look_rest setup
look_is setup = omega arith

-- of products
pub times_step : (turn x : ℕ) → turn ≤ 2 → times (3 - turn) x ≡ times (2 - turn) x + x
unfolding times
times_step turn x h = (let e : 3 - turn ≡ suc (2 - turn) = omega (arith, h) in ap (λ k. k * x) e ∙ omega arith)

pub times_two : (x : ℕ) → times 2 x ≡ 2 * x
unfolding times
times_two x = omega arith

-- what follows the first round, and the second
pub then_one : (setup : Setup) → then_rest setup 1 ≡ 3 + tries_rest setup + last_rest setup
unfolding then_rest
then_one setup = refl

pub then_two : (setup : Setup) → then_rest setup 2 ≡ last_rest setup
unfolding then_rest
then_two setup = refl

-- there is always the done word
pub then_some : (setup : Setup) (turn : ℕ) → 1 ≤ then_rest setup turn
unfolding then_rest
then_some setup turn = cond_both (eqb turn 1) (3 + tries_rest setup + last_rest setup) (last_rest setup) (λ n. 1 ≤ n)
    (λ e. omega arith) (λ e. omega arith)

-- one step less of a bucket's round
module _ (setup : Setup) (me : ℕ) (c : Common) (used : SeatRows) (flight : Flight) (local : Local)
    (h : me < seats_of setup) (s : Shared setup c) where
  -- one step less
  abbrev Less : (f : Flight) → ℕ → Phase → Type 0
  Less f r ph = suc (rest setup f ph) ≤ r

  -- an answer takes one more step, the done word's
  pub answer_rest : (f : Flight) (state : BucketState) (row : ℕ) → rest setup f (answered_by me state row) ≤ 1
  answer_rest f state row = go (reply_at state me)
    where
      go : (r : Option Reply) → rest setup f (answered_with row r) ≤ 1
      go None = omega arith
      go (Some reply) = omega arith

  -- the rest once a row is loaded
  pub row_rest : (f : Flight) (round : Round) (attempt : BucketTry) →
      rest setup f (after_row me flight round attempt) ≤ times (3 - attempt.turn) (tb setup) + 2 * td
      setup + then_rest setup round.turn
  row_rest f round attempt =
      let P : Phase → Type 0 = λ ph. rest setup f ph ≤ times (3 - attempt.turn) (tb setup) + 2 * td setup + then_rest
      setup round.turn in
      cond_both (is_applied me flight attempt.state) (answered_by me attempt.state attempt.row) _ P
      (λ e. omega (arith, answer_rest f attempt.state attempt.row, then_some setup round.turn))
      (λ e. cond_both attempt.state.frozen (DirRoot round 1 None) _ P (λ e. omega (arith, times_two (td setup)))
      (λ e. cond_both (leb attempt.turn 2) (TryAnnouncement round attempt []) Stuck P
      (λ e. omega (arith, times_step attempt.turn (tb setup) (omega (arith, leb-true attempt.turn 2 e))))
      (λ e. omega arith)))

  -- the rest once an op is found
  pub found_rest : (f : Flight) (round : Round) (attempt : BucketTry) (found : List (Option Op)) →
      rest setup f (after_found setup round attempt found) ≤ (1 + OP_WORDS) * (seats_of setup - length found) + width
      setup + 1 + bucket_tail setup round attempt.turn
  found_rest f round attempt found =
      cond_both (ltb (length found) (seats_of setup)) (TryAnnouncement round attempt found)
      (TryStore round attempt found 0)
      (λ ph. rest setup f ph ≤ (1 + OP_WORDS) * (seats_of setup - length found) + width setup + 1
      + bucket_tail setup round attempt.turn) (λ e. omega arith) (λ e. omega arith)

  -- the rest after the exchange of a bucket word
  pub exchange_rest : (f : Flight) (round : Round) (attempt : BucketTry) (found : List (Option Op)) (row w : ℕ) →
      rest setup f (cond (eqb w attempt.row) (after_exchange me flight round (made_bucket setup attempt found) row)
      (TryWord round (attempt.turn + 1) (Some attempt.first))) ≤ bucket_tail setup round attempt.turn
  exchange_rest f round attempt found row w =
      let P : Phase → Type 0 = λ ph. rest setup f ph ≤ bucket_tail setup round attempt.turn in
      let e : 3 - (attempt.turn + 1) ≡ 2 - attempt.turn = omega arith in
      cond_both (eqb w attempt.row) (after_exchange me flight round (made_bucket setup attempt found) row)
      (TryWord round (attempt.turn + 1) (Some attempt.first)) P
      (λ z. cond_both (is_applied me flight (made_bucket setup attempt found))
      (answered_by me (made_bucket setup attempt found) row) _ P
      (λ y. omega (arith, answer_rest f (made_bucket setup attempt found) row, then_some setup round.turn))
      (λ y. cond_both (made_bucket setup attempt found).frozen (DirRoot round 1 None) Stuck P
      (λ _. omega (arith, times_two (td setup))) (λ _. omega arith)))
      (λ z. omega (arith, ap (λ k. times k (tb setup)) e))

  -- the rest once a round is left
  pub round_rest : (f : Flight) (round : Round) → rest setup f (after_round round) ≤ then_rest setup round.turn
  unfolding then_rest
  round_rest f round = go (eqb round.turn 1)
    where
      go : (b : Bool) → 3 + aim_rest setup (cond b (ForSecondRound round.first) ForLastLook) ≤ cond b
          (3 + tries_rest setup + last_rest setup) (last_rest setup)
      go true = omega arith
      go false = omega arith
