-- An event changes one word at most: so where it changes the root, it leaves all bucket words.
use Rattle.std.proofs.Common.{◌≡◌, ◌≢◌, ℕ, ◌⊎◌, Bool, true, false, cond, eqb, ltb, List, get_or, set, inl, inr, refl, sym, ap, ◌∙◌, get_or-set_other}
use Rattle.std.specs.Prelude.{Option, Some, None}
use Rattle.std.proofs.lemmas.Bool.{cases_eq}
use Rattle.plain_map.specs.declared.calls.Call.{Call}
use Rattle.plain_map.specs.declared.full.Full.{Full}
use Rattle.word_rows.specs.Places.{place}
use Rattle.table_model.specs.declared.events.Event.{Event}
use Rattle.table_model.specs.Setup.{Setup, seats_of}
use Rattle.table_model.specs.Phases.{SeeDone}
use Rattle.table_model.specs.SeatStates.{Account, Stand, Idle, InFlight, begun}
use Rattle.table_model.specs.declared.events.Ask.{Ask}
use Rattle.table_model.specs.declared.events.Ask.TheVariants.{Nothing, Load, Store, Exchange}
use Rattle.table_model.specs.Asks.{ask_in}
use Rattle.table_model.specs.Worlds.{World, act, begin_or_refuse, happens, refusal_of, seat_in, word_at, words_after}

-- the words are as they were, or one is another
abbrev pub Changes : List ℕ → List ℕ → Type 0
Changes was now = (now ≡ was) ⊎ ((p : ℕ) × (v : ℕ) × (now ≡ set was p v))

-- whichever way an exchange goes
exchanged : (b : Bool) (words : List ℕ) (p v : ℕ) → Changes words (cond b (set words p v) words)
exchanged true words p v = inr (p, v, refl)
exchanged false words p v = inl refl

-- what is asked for changes one word at most
asked : (setup : Setup) (ask : Ask) (words : List ℕ) → Changes words (words_after setup ask words)
asked setup Nothing words = inl refl
asked setup (Load from) words = inl refl
asked setup (Store to word) words = inr (place setup.shape to, word, refl)
asked setup (Exchange at old new) words =
    exchanged (eqb (word_at setup.shape words at) old) words (place setup.shape at) new

-- so does a call that begins, if it is not refused
begun_one : (setup : Setup) (world : World) (seat : ℕ) (account : Account) (packet : ℕ) (call : Call)
    (r : Option Full) → Changes world.words (begin_or_refuse setup world seat account packet call r).words
begun_one setup world seat account packet call (Some full) = inl refl
begun_one setup world seat account packet call None =
    asked setup (ask_in setup seat account.used (begun account packet call) SeeDone) world.words

-- and each act of a seat
acted_one : (setup : Setup) (world : World) (seat : ℕ) (account : Account) (stand : Stand)
    (begin : Option (ℕ × Call)) → Changes world.words (act setup world seat account stand begin).words
acted_one setup world seat account Idle None = inl refl
acted_one setup world seat account Idle (Some begin) =
    begun_one setup world seat account begin.0 begin.1 (refusal_of setup seat account begin.1)
acted_one setup world seat account (InFlight flight phase) begin =
    asked setup (ask_in setup seat account.used flight phase) world.words

-- whether the seat is there or not
either_world : (b : Bool) (world next : World) → Changes world.words next.words →
    Changes world.words (cond b next world).words
either_world true world next c = c
either_world false world next c = inl refl

-- so does an event
pub one_word : (setup : Setup) (world : World) (event : Event) → Changes world.words (happens setup world event).words
one_word setup world event = either_world (ltb event.seat (seats_of setup)) world _
    (acted_one setup world event.seat (seat_in world event.seat).account (seat_in world event.seat).stand event.begin)

-- where the first word is another, all others are as they were
pub others_stay : (was now : List ℕ) → Changes was now → get_or now 0 0 ≢ get_or was 0 0 → (k : ℕ) → k ≢ 0 →
    get_or now k 0 ≡ get_or was k 0
others_stay was now (inl same) moved k ne = ap (λ ws. get_or ws k 0) same
others_stay was now (inr c) moved k ne = elim (cases_eq 0 c.0) [
  | inl here ↦ ap (λ ws. get_or ws k 0) c.2
      ∙ get_or-set_other was c.0 k c.1 0 (λ e. ne (e ∙ sym here))
  | inr other ↦ absurd (moved (ap (λ ws. get_or ws 0 0) c.2 ∙ get_or-set_other was c.0 0 c.1 0 other))
]
