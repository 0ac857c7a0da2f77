-- A seat's records are numbered from 1 on, its call in flight has the next number, and beside each record stands what
-- it had published then.
use Rattle.std.proofs.Common.{◌≡◌, ℕ, suc, ◌+◌, List, [], ◌∷◌, ◌++◌, length, get_or, refl, ap, ◌∙◌, arith}
use Rattle.std.proofs.lemmas.List.{length_push}
use Rattle.step_counts.specs.declared.rows.SeatRows.{SeatRows}
use Rattle.plain_map.specs.declared.records.Record.{Record}
use Rattle.plain_map.specs.Room.{no_rows, published}
use Rattle.table_model.specs.Setup.{Setup}
use Rattle.table_model.specs.Phases.{Phase, StoreDone}
use Rattle.table_model.specs.SeatStates.{Account, Flight, Stand, Idle, InFlight, SeatState, record_of}
use Rattle.table_model.specs.Asks.{ask_in}
use Rattle.table_model.specs.Goes.{state_after}
use Rattle.run_invariant.proofs.Invariant.{Common, Local}
use Rattle.run_laws.proofs.Induction.{found_in}
use Rattle.bound_laws.proofs.SeatLayers.{SeatLayer, flying}

-- the records are the seat's, and their numbers go on from this one
abbrev pub NumberedFrom : (seat : ℕ) → ℕ → List Record → Type 0
NumberedFrom seat n [] = Unit {0}
NumberedFrom seat n (r ∷ rs) = (r.number ≡ n) × (r.seat ≡ seat) × NumberedFrom seat (suc n) rs

-- a record at some place of them
pub numbered_at : (seat n : ℕ) (front back : List Record) (r : Record) → NumberedFrom seat n (front ++ r ∷ back) →
    (r.number ≡ length front + n) × (r.seat ≡ seat)
numbered_at seat n [] back r k = (omega (arith, k.0), k.1)
numbered_at seat n (x ∷ front) back r k =
    (let m = numbered_at seat (suc n) front back r k.2 in (omega (arith, m.0), m.1))

-- one more record
numbered_more : (seat n : ℕ) (rs : List Record) (r : Record) → NumberedFrom seat n rs → r.number ≡ length rs + n →
    r.seat ≡ seat → NumberedFrom seat n (rs ++ r ∷ [])
numbered_more seat n [] r k e s = (omega (arith, e), s, tt)
numbered_more seat n (x ∷ rs) r k e s = (k.0, k.1, numbered_more seat (suc n) rs r k.2 (omega (arith, e)) s)

-- the call in flight has the next number; an idle seat has published what it had after its last answer
abbrev pub NumberedStand : Account → Stand → Type 0
NumberedStand account Idle = published account.spent ≡ account.used
NumberedStand account (InFlight flight phase) = flight.number ≡ length account.records + 1

pub record Numbered (seat : ℕ) (state : SeatState) : Type 0 where
  pub records : NumberedFrom seat 1 state.account.records
  pub spent : length state.account.spent ≡ length state.account.records
  pub stand : NumberedStand state.account state.stand

-- what was published after the last answer is the last of the list
pub last_push : (xs : List SeatRows) (x : SeatRows) → published (xs ++ x ∷ []) ≡ x
last_push xs x = ap (λ n. get_or (xs ++ x ∷ []) n no_rows) (omega (arith, length_push xs x)) ∙ go xs
  where
    go : (xs : List SeatRows) → get_or (xs ++ x ∷ []) (length xs) no_rows ≡ x
    go [] = refl
    go (y ∷ ys) = go ys

-- as a layer
abbrev pub NumberedAt : Common → ℕ → Local → Unit {0} → SeatState → Type 0
NumberedAt c me local g state = Numbered me state

module _ (setup : Setup) (me : ℕ) (c : Common) (account : Account) (flight : Flight) (local : Local) where
  -- one step of a seat
  own : (phase : Phase) → Numbered me (flying account flight phase) →
      Numbered me (state_after setup me account flight phase (found_in (ask_in setup me account.used flight phase)
      c.memory))
  own (StoreDone reply place) k = record {
    records = numbered_more me 1 account.records (record_of me flight reply place) k.records k.stand refl;
    spent = omega (
      arith,
      k.spent,
      length_push account.spent account.used,
      length_push account.records (record_of me flight reply place),
    );
    stand = last_push account.spent account.used;
  }
  own phase k = record { records = k.records; spent = k.spent; stand = k.stand }

-- the layer
pub numbered_layer : (setup : Setup) → SeatLayer setup (Unit {0}) (λ c. Unit {0}) NumberedAt
numbered_layer setup = record {
  whole = λ me c account flight phase local g o t q. tt;
  own = λ me c account flight phase local g o t u q. (tt, own setup me c account flight local phase q);
  others = λ me q c d local g state n hq z k t u x. x;
  begins = λ me c account flight phase local g h b x. record {
    records = x.records;
    spent = x.spent;
    stand =
        ap (λ (f : Flight). f.number) b.flight_is;
  };
}
