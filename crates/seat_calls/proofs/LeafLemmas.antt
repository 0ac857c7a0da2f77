-- The leaf of the call's key, among the leaves of a change.
use Rattle.std.proofs.Common.{◌≡◌, ◌≢◌, ℕ, ◌+◌, ◌∙◌, true, false, eqb, List, ◌∷◌, length, Option, sym, ap, arith}
use Rattle.std.specs.Prelude.{if◌then◌else◌}
use Rattle.std.proofs.lemmas.Bool.{cond-true, cond-false}
use Rattle.std.proofs.lemmas.Bool.Decides.{nat_tests}
use Rattle.hash_bits.specs.Prefix.{first_bits}
use Rattle.step_counts.specs.declared.rows.SeatRows.{SeatRows}
use Rattle.plain_map.specs.declared.full.FullKind.TheVariants.{BucketRows, BucketWords}
use Rattle.word_rows.specs.Shape.{first_number}
use Rattle.plain_map.specs.declared.keys.Key.{Key}
use Rattle.plain_map.specs.declared.rules.Rules.{Rules}
use Rattle.plain_map.specs.Calls.{key_in}
use Rattle.plain_map.specs.Keys.{hash_of_key}
use Rattle.bucket_states.specs.Items.{prefix_of}
use Rattle.bucket_states.specs.declared.ops.Op.{Op}
use Rattle.table_model.specs.declared.rounds.Round.{Round}
use Rattle.table_model.specs.DirectoryChange.{LoadedBucket}
use Rattle.table_model.specs.Goes.{after_lost_root, answered_by, answered_by_leaf, with_directory}
use Rattle.table_model.specs.Leaves.{NewLeaf, is_in}
use Rattle.table_model.specs.Phases.{Phase, DirExchange, DirectoryTry}
use Rattle.table_model.specs.SeatStates.{Flight}
use Rattle.table_model.specs.Setup.{next_number, rules_of}
use Rattle.table_model.specs.Stores.{made_leaves}
use Rattle.seat_calls.specs.declared.desk.Desk.{Desk}
use Rattle.seat_calls.specs.Desks.{IsOf}
use Rattle.seat_calls.specs.Going.{Going, goes, on, went}

-- whether a leaf has a key, by the key's hash
pub is_in-bits : (rules : Rules) (key : Key) (leaf : NewLeaf) (hash bits : ℕ) →
    hash ≡ hash_of_key rules.hashing key → bits ≡ first_bits hash leaf.bucket.depth →
    is_in rules key leaf.bucket ≡ eqb bits leaf.bucket.prefix
unfolding prefix_of
is_in-bits rules key leaf hash bits is made =
    ap (λ (b : ℕ). eqb b leaf.bucket.prefix) (ap (λ (h : ℕ). first_bits h leaf.bucket.depth) (sym is) ∙ sym made)

module _ (rules : Rules) (seat : ℕ) (flight : Flight) (row : ℕ) (leaf : NewLeaf) (leaves : List NewLeaf) (hash bits : ℕ)
    (is : hash ≡ hash_of_key rules.hashing (key_in flight.call)) (made : bits ≡ first_bits hash leaf.bucket.depth) where
  -- the leaf has the key
  pub answer_here : bits ≡ leaf.bucket.prefix →
      answered_by_leaf rules seat flight row (leaf ∷ leaves) ≡ answered_by seat leaf.bucket row
  answer_here same =
      cond-true (is_in rules (key_in flight.call) leaf.bucket) (answered_by seat leaf.bucket row)
      (answered_by_leaf rules seat flight (row + 1) leaves)
      (is_in-bits rules (key_in flight.call) leaf hash bits is made
      ∙ (let e : eqb bits leaf.bucket.prefix ≡ true = grind (arith, nat_tests) in e))

  pub answer_later : bits ≢ leaf.bucket.prefix →
      answered_by_leaf rules seat flight row (leaf ∷ leaves) ≡ answered_by_leaf rules seat flight (row + 1) leaves
  answer_later other =
      cond-false (is_in rules (key_in flight.call) leaf.bucket) (answered_by seat leaf.bucket row)
      (answered_by_leaf rules seat flight (row + 1) leaves)
      (is_in-bits rules (key_in flight.call) leaf hash bits is made
      ∙ (let e : eqb bits leaf.bucket.prefix ≡ false = grind (arith, nat_tests) in e))

-- the exchange of the root happened
module _ (f : Going) (round : Round) (attempt : DirectoryTry) (found : List (Option Op)) (loaded : List LoadedBucket)
    (phase : f.phase ≡ DirExchange round attempt found loaded) where
  -- the leaves of the change
  abbrev pub leaves_made : List NewLeaf
  leaves_made = made_leaves f.setup attempt found loaded

  pub root_won : (word : ℕ) → word ≡ attempt.root → goes f word
      ≡ went f (with_directory f.account.used (length leaves_made)) 1
      (answered_by_leaf (rules_of f.setup) f.seat f.flight
      (next_number f.setup f.seat BucketRows f.account.used) leaves_made)
  root_won word is =
      let same : eqb word attempt.root ≡ true = grind (arith, nat_tests) in
      ap (λ (p : Phase). goes (on f p) word) phase
      ∙ (λ i. record {
        setup = f.setup;
        seat = f.seat;
        account = record f.account {
          used = if same i then with_directory f.account.used
              (length leaves_made) else f.account.used;
        };
        flight = record f.flight { steps = f.flight.steps + 1 };
        phase = if same i then answered_by_leaf (rules_of f.setup) f.seat f.flight
            (next_number f.setup f.seat BucketRows f.account.used) leaves_made else after_lost_root round attempt;
      })

-- the seat's next bucket row
pub row_here : (f : Going) (desk : Desk) (used : SeatRows) → IsOf f desk → used ≡ f.account.used →
    desk.first.bucket_rows + used.bucket_rows ≡ next_number f.setup f.seat BucketRows f.account.used
unfolding next_number
row_here f desk used is same =
    (λ i. (desk.first_is i).bucket_rows + (same i).bucket_rows)
    ∙ (λ i. first_number (sym is.shape i) (sym is.seat i) BucketRows + f.account.used.bucket_rows)

-- and its next bucket word
pub word_here : (f : Going) (desk : Desk) (used : SeatRows) → IsOf f desk →
    desk.first.bucket_words + used.bucket_words ≡ next_number f.setup f.seat BucketWords used
unfolding next_number
word_here f desk used is =
    (λ i. (desk.first_is i).bucket_words + used.bucket_words)
    ∙ (λ i. first_number (sym is.shape i) (sym is.seat i) BucketWords + used.bucket_words)
