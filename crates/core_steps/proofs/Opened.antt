-- The fields stand for the world of the opening.
use Rattle.std.proofs.Common.{◌≡◌, ℕ, zero, suc, ◌+◌, List, [], ◌∷◌, ◌++◌, map, length, get_or, set, replicate, refl, sym, ap, ◌∙◌, arith, length-set}
use Rattle.std.specs.List.{range_with_len}
use Rattle.std.specs.Prelude.{None}
use Rattle.std.proofs.lemmas.List.{length-replicate, get_or-replicate}
use Rattle.std.proofs.lemmas.List.FromFn.{get_or-map-range_with_len, length-map-range_with_len, map-range_with_len_more}
use Rattle.plain_map.specs.declared.records.Record.{Record}
use Rattle.word_rows.specs.Shape.{Shape}
use Rattle.word_rows.specs.Places.{place, word_count}
use Rattle.table_model.specs.declared.events.Put.{Put}
use Rattle.table_model.specs.Setup.{Setup, seats_of}
use Rattle.table_model.specs.SeatStates.{SeatState, fresh_seat}
use Rattle.table_model.specs.Opening.{opening_directory}
use Rattle.table_model.specs.Stores.{directory_words, leaf_puts, row_puts, with_puts}
use Rattle.word_rows.specs.declared.addresses.Address.TheVariants.{DirectoryWord}
use Rattle.table_model.specs.Program.{Program}
use Rattle.table_model.specs.Worlds.{first_leaves, opening_words, opening_world}
use Rattle.seat_machine.specs.Programs.{resting}
use Rattle.core_steps.specs.Moments.{AreResting, StandsIn, program_of}

-- stores change no length
length_puts : (shape : Shape) (words : List ℕ) (puts : List Put) → length (with_puts shape words puts) ≡ length words
length_puts shape words [] = refl
length_puts shape words (put ∷ puts) =
    length_puts shape (set words (place shape put.address) put.word) puts
    ∙ length-set words (place shape put.address) put.word

-- an opening has all words of its table
pub opening_long : (setup : Setup) → length (opening_words setup) ≡ word_count setup.shape
unfolding opening_words
opening_long setup =
    length_puts setup.shape (replicate (word_count setup.shape) 0)
    (leaf_puts setup (λ _. None) 0 0 (first_leaves setup) ++ row_puts (DirectoryWord 0) 0
    (directory_words None (opening_directory setup.shape.settings.start (first_leaves setup))))
    ∙ length-replicate (word_count setup.shape) 0

-- fresh seats have no records
pub no_records : (n : ℕ) → replicate n [] ≡ map (λ (state : SeatState). state.account.records) (replicate n fresh_seat)
no_records zero = refl
no_records (suc n) = ap (λ (logs : List (List Record)). [] ∷ logs) (no_records n)

-- all stand so at the opening
pub opening_stands : (setup : Setup) (words : List ℕ) (programs : List Program) → words ≡ opening_words setup →
    AreResting (record { shape = setup.shape; hashing = setup.hashing; first = [] }) programs →
    StandsIn setup (opening_world setup) words programs
opening_stands setup words programs is are =
    let bare : Setup = record { shape = setup.shape; hashing = setup.hashing; first = [] } in
    record {
      words_are = is;
      long = ap (λ (ws : List ℕ). length ws) is ∙ opening_long setup;
      seats = length-replicate (seats_of setup) fresh_seat;
      each = ap (λ (ps : List Program). length ps) are ∙ length-map-range_with_len (resting bare) 0 (seats_of setup);
      programs_are = λ seat d h.
          ap (λ (ps : List Program). get_or ps seat d) are
          ∙ get_or-map-range_with_len (resting bare) 0 (seats_of setup) seat seat d h (omega arith)
          ∙ ap (program_of setup seat) (sym (get_or-replicate (seats_of setup) seat fresh_seat fresh_seat h));
    }

-- one seat more that rests
pub one_more : (setup : Setup) (programs : List Program) (seat : ℕ) (p : Program) →
    programs ≡ map (resting setup) (range_with_len 0 seat) → p ≡ resting setup seat →
    programs ++ p ∷ [] ≡ map (resting setup) (range_with_len 0 (seat + 1))
one_more setup programs seat p are is =
    ap (λ (ps : List Program). ps ++ p ∷ []) are
    ∙ ap (λ (q : Program). map (resting setup) (range_with_len 0 seat) ++ q ∷ []) is
    ∙ sym (map-range_with_len_more (resting setup) 0 seat seat (omega arith))
