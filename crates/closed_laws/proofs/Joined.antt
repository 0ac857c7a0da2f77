-- The order's promises on a closed table, from what the layers know.
use Rattle.std.proofs.Common.{◌≡◌, ℕ, ◌<◌, true, []}
use Rattle.plain_map.specs.declared.keys.Key.{Key}
use Rattle.plain_map.specs.PlainObject.{Sessions}
use Rattle.plain_map.specs.History.{After, Whole, Legal, sessions_after}
use Rattle.table_model.specs.Setup.{Setup, rules_of}
use Rattle.table_model.specs.Directories.{bucket_of}
use Rattle.table_model.specs.Order.{Closing, effects_of, order_of, placing_of}
use Rattle.placing_laws.proofs.Story.{Holds}
use Rattle.closed_laws.proofs.Book.{Book, Written}
use Rattle.closed_laws.proofs.Ledger.{Ledger}
use Rattle.closed_laws.proofs.Ends.{story, is_after, is_whole, is_never_stuck, is_legal, ends_with}
use Rattle.closed_laws.proofs.Clock.{Lists, Clock}
use Rattle.closed_laws.proofs.Places.{Links, stamped, stamps}
use Rattle.closed_laws.proofs.Meanings.{Laws, Acts, meaning}

-- all that the layers give of a closed table
pub record Known (setup : Setup) (closing : Closing) (first : Sessions) : Type 1 where
  pub book : Book
  pub written : Written setup closing.words book
  pub ledger : Ledger setup closing book
  pub from : ℕ → ℕ
  pub bound : ℕ
  pub few : (b : ℕ) → book.named b ≡ true → b < bound
  pub lists : Lists
  pub clock : Clock
  pub links : Links setup closing book written from bound few lists clock
  pub pre : ℕ → ℕ
  pub acts : Acts setup closing book written ledger first pre

-- what is promised of its order
pub record Promised (setup : Setup) (closing : Closing) (first : Sessions) : Type 0 where
  pub never_stuck : (placing_of setup.shape closing).left ≡ []
  pub legal : Legal (rules_of setup) first (order_of setup.shape closing)
  pub after : After (order_of setup.shape closing)
  pub whole : Whole closing.records (effects_of setup.shape closing) (order_of setup.shape closing)

-- all that is known gives it
pub promised : Laws → (setup : Setup) (closing : Closing) (first : Sessions) → Known setup closing first →
    Promised setup closing first
promised laws setup closing first k =
    let s = stamped setup closing k.book k.written k.from k.bound k.few k.lists k.clock k.links in
    let m = meaning setup closing k.book k.written k.ledger first k.pre laws k.acts in
    let left = is_never_stuck setup closing k.book k.written k.ledger
    (stamps setup closing k.book k.written k.from k.bound k.few k.lists k.clock) s in
    record {
      never_stuck = left;
      legal = is_legal setup closing k.book k.written k.ledger laws.others first k.pre m;
      after = is_after setup closing k.book k.written k.ledger;
      whole = is_whole setup closing k.book k.written k.ledger left;
    }

-- and what is held after the order is what the last rows hold, bucket by bucket of the last directory row
pub ends : (laws : Laws) (setup : Setup) (closing : Closing) (first : Sessions) (k : Known setup closing first)
    (key : Key) →
    (let b = bucket_of (rules_of setup) (k.book.dir_at k.book.dir_top) key in
    Holds setup (story setup closing k.book k.written k.ledger k.pre) b (k.book.top b)
    (sessions_after (rules_of setup) first (order_of setup.shape closing)))
ends laws setup closing first k key =
    let s = stamped setup closing k.book k.written k.from k.bound k.few k.lists k.clock k.links in
    ends_with setup closing k.book k.written k.ledger laws.others first k.pre
    (meaning setup closing k.book k.written k.ledger first k.pre laws k.acts)
    (stamps setup closing k.book k.written k.from k.bound k.few k.lists k.clock) s key
