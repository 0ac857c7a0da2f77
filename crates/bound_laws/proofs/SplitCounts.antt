-- The promise about splits: the leaves in use and the frozen ones among them.
use Rattle.std.proofs.Common.{◌≡◌, ℕ, Bool, true, List, length, sym, ap, ◌∙◌, arith}
use Rattle.std.specs.Prelude.{filter}
use Rattle.std.proofs.lemmas.List.Sums.{length-filter}
use Rattle.bucket_states.specs.States.{BucketState}
use Rattle.table_model.specs.declared.events.Event.{Event}
use Rattle.table_model.specs.Setup.{Setup}
use Rattle.table_model.specs.Worlds.{world_after, first_leaves}
use Rattle.table_model.specs.Reading.{bucket_at, row_of}
use Rattle.table_model.specs.Closed.{closed_buckets}
use Rattle.table_model.specs.Needs.{inserted_in}
use Rattle.run_invariant.proofs.Invariant.{Common, Names, last}
use Rattle.list_laws.proofs.Lists.{In, in_filter}
use Rattle.closed_laws.proofs.Book.{Book, Written}
use Rattle.closed_laws.proofs.ClosedBuckets.{bucket_in, bucket_named, buckets_once}
use Rattle.closed_laws.proofs.Pieces.{once_filter}
use Rattle.closed_laws.proofs.Told.{names_of}
use Rattle.bound_laws.specs.Splits.{SplitsAreFew}
use Rattle.bound_laws.proofs.Batches.{known}
use Rattle.bound_laws.proofs.Leftmost.{leaves_split}
use Rattle.bound_laws.proofs.Read.{book, kept, state_read}
use Rattle.bound_laws.proofs.Whole.{Calling, called}

module _ (setup : Setup) (events : List Event) (a : Calling setup (world_after setup events)) where
  abbrev c : Common
  c = a.common

  abbrev words : List ℕ
  words = (world_after setup events).words

  abbrev k : Book
  k = book setup words c a.follows.shows a.follows.shared a.follows.descent

  -- what the words tell
  w : Written setup words k
  w = kept setup words c a.follows.shows a.follows.shared a.follows.descent

  abbrev leaves : List ℕ
  leaves = closed_buckets setup.shape words

  abbrev is_frozen : ℕ → Bool
  is_frozen bucket = (bucket_at setup.shape words (row_of setup.shape words bucket)).frozen

  -- the closed buckets stand in the directory in use
  stands : (b : ℕ) → In b leaves → Names (c.dir_at c.dir_top) b
  stands b i =
      names_of setup c a.follows.shared a.follows.descent c.dir_top b (omega arith) (bucket_in setup words k w b i)

  -- and their words say whether they are frozen
  frozen_stands : (b : ℕ) → In b (filter is_frozen leaves) → Names (c.dir_at c.dir_top) b × ((last c b).frozen ≡ true)
  frozen_stands b i =
      let f = in_filter is_frozen leaves b i in
      let n = bucket_named setup words k w b f.0 in
      let row : bucket_at setup.shape words (row_of setup.shape words b) ≡ last c b =
      ap (bucket_at setup.shape words) (w.word_is b n) ∙ state_read setup words c a.follows.shows a.follows.shared
      a.follows.descent b (c.top b) n (omega arith) in
      (stands b f.0, ap (λ (s : BucketState). s.frozen) (sym row) ∙ f.1)

-- the promise
pub splits_are_few : SplitsAreFew
splits_are_few setup events run =
    let a = called setup events run in
    let leaves = closed_buckets setup.shape (world_after setup events).words in
    let frozen = filter (is_frozen setup events a) leaves in
    let once = buckets_once setup (world_after setup events).words (k setup events a) (w setup events a) in
    let most = leaves_split setup a.common a.follows.shared a.follows.descent a.holds.0.twos a.holds.0.crowding
    (inserted_in events)
    (known setup events a (inserted_in events) (λ key e. e)) (length (first_leaves setup)) a.holds.0.firsts leaves
    frozen once
    (once_filter (is_frozen setup events a) leaves once) (stands setup events a) (frozen_stands setup events a) in
    omega (arith, most, length-filter (is_frozen setup events a) leaves)
