-- An event is one step on one word, and the words in which two seats store are apart.
use Rattle.std.proofs.Common.{◌≡◌, ◌≢◌, ℕ, ◌<◌, Bool, true, false, cond, eqb, List, length, set, refl, sym, ◌∙◌, arith, get_or-set_same, get_or-set_other}
use Rattle.step_counts.specs.declared.rows.SeatRows.{SeatRows}
use Rattle.plain_map.specs.declared.full.FullKind.{FullKind}
use Rattle.plain_map.specs.declared.full.FullKind.TheVariants.{OpRows, BucketRows, BucketWords, DirRows}
use Rattle.word_rows.specs.declared.addresses.Address.{Address}
use Rattle.word_rows.specs.declared.addresses.Address.TheVariants.{Root, Announcement, Done, BucketWord, OpWord, BucketRowWord, DirectoryWord}
use Rattle.word_rows.specs.Places.{IsAddress, place, word_count}
use Rattle.word_rows.specs.Shape.{Shape}
use Rattle.word_rows.proofs.Apart.{place_within, place_apart}
use Rattle.word_rows.proofs.Ranges.{one_owner}
use Rattle.table_model.specs.declared.events.Ask.TheVariants.{Nothing, Load, Store, Exchange}
use Rattle.table_model.specs.Setup.{Setup, IsSetup, seats_of}
use Rattle.table_model.specs.Worlds.{word_at}
use Rattle.table_model.specs.Rows.{IsFree}
use Rattle.run_invariant.specs.Frames.{AsksAreSteps, StoresAreApart}

-- a word that is stored is there, and each other word stays
module _ (shape : Shape) (words : List ℕ) (at : Address) (word : ℕ) (h : IsAddress shape at)
    (long : length words ≡ word_count shape) where
  stored_there : word_at shape (set words (place shape at) word) at ≡ word
  stored_there = get_or-set_same words (place shape at) word 0 (omega (arith, place_within shape at h, long))

  others_stay : (other : Address) → IsAddress shape other → other ≢ at →
      word_at shape (set words (place shape at) word) other ≡ word_at shape words other
  others_stay other k n =
      get_or-set_other words (place shape at) (place shape other) word 0 (λ e. n (place_apart shape other at k h e))

-- a load, a store and an exchange are one step on their word
pub asks_are_steps : AsksAreSteps
asks_are_steps setup Nothing words other on long k = absurd on
asks_are_steps setup (Load from) words other on long k = (refl, refl, λ n. refl)
asks_are_steps setup (Store to word) words other on long k =
    (refl, stored_there setup.shape words to word on long, others_stay setup.shape words to word on long other k)
asks_are_steps setup (Exchange at old new) words other on long k =
    (refl, changed (eqb (word_at setup.shape words at) old), stays (eqb (word_at setup.shape words at) old))
  where
    changed : (t : Bool) → word_at setup.shape (cond t (set words (place setup.shape at) new) words) at ≡ cond t new
        (word_at setup.shape words at)
    changed true = stored_there setup.shape words at new on long
    changed false = refl

    stays : (t : Bool) → other ≢ at → word_at setup.shape (cond t (set words (place setup.shape at) new) words)
        other ≡ word_at setup.shape words other
    stays true = others_stay setup.shape words at new on long other k
    stays false = λ n. refl

-- no number is two seats'
one_seat : (setup : Setup) (seat other : ℕ) (kind : FullKind) (used its : SeatRows) (number : ℕ) → IsSetup setup →
    seat < seats_of setup → other < seats_of setup → seat ≢ other →
    IsFree setup seat kind used number → IsFree setup other kind its number → ⊥
one_seat setup seat other kind used its number s h k apart a b =
    apart (one_owner setup.shape kind number seat other h k s.shape a.own b.own)

-- so no two seats store in the same word
pub stores_are_apart : StoresAreApart
stores_are_apart setup seat other used its Root s h k apart a b = absurd a
stores_are_apart setup seat other used its (Announcement at) s h k apart a b = apart (sym a ∙ b)
stores_are_apart setup seat other used its (Done at) s h k apart a b = apart (sym a ∙ b)
stores_are_apart setup seat other used its (BucketWord bucket) s h k apart a b =
    one_seat setup seat other BucketWords used its bucket s h k apart a b
stores_are_apart setup seat other used its (OpWord row i) s h k apart a b =
    one_seat setup seat other OpRows used its row s h k apart a b
stores_are_apart setup seat other used its (BucketRowWord row i) s h k apart a b =
    one_seat setup seat other BucketRows used its row s h k apart a b
stores_are_apart setup seat other used its (DirectoryWord row i) s h k apart a b =
    one_seat setup seat other DirRows used its row s h k apart a b
