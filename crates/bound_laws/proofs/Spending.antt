-- What a seat has published, by how many updates it has answered and by what part of a call it is in. And each new
-- directory row has two new buckets at least.
use Rattle.std.proofs.Common.{◌≡◌, ◌≢◌, ℕ, ◌+◌, ◌-◌, ◌<◌, ◌≤◌, Bool, true, false, cond, eqb, List, [], ◌∷◌, ◌++◌, length, inl, inr, refl, sym, ap, ◌∙◌, subst, arith}
use Rattle.std.specs.Prelude.{Option, Some, None, count_by}
use Rattle.std.proofs.lemmas.Bool.{cases_lt, eqb-true}
use Rattle.std.proofs.lemmas.List.Sums.{sum_by-append, sum_by-cons}
use Rattle.step_counts.specs.declared.rows.SeatRows.{SeatRows}
use Rattle.plain_map.specs.declared.records.Record.{Record}
use Rattle.plain_map.specs.declared.full.FullKind.TheVariants.{BucketRows}
use Rattle.bucket_states.specs.declared.ops.Op.{Op}
use Rattle.table_model.specs.declared.rounds.Aim.{Aim}
use Rattle.table_model.specs.declared.rounds.Aim.TheVariants.{ForLookup, ForFirstRound, ForSecondRound, ForLastLook}
use Rattle.table_model.specs.declared.rounds.Round.{Round}
use Rattle.table_model.specs.Setup.{Setup, seats_of, rules_of, next_number}
use Rattle.table_model.specs.DirectoryChange.{LoadedBucket}
use Rattle.table_model.specs.Phases.{BucketTry, DirectoryTry, Phase, Announce, FindRoot, TryWord, TryRow, TryAnnouncement, TryOp, TryStore, TryExchange, DirRoot, DirDepth, DirEntries, DirAnnouncement, DirOp, DirWord, DirRow, DirStore, DirExchange, StoreDone, Stuck}
use Rattle.table_model.specs.SeatStates.{Account, Flight, Stand, Idle, InFlight, SeatState, record_of}
use Rattle.plain_map.specs.Calls.{is_update}
use Rattle.table_model.specs.Stores.{made_bucket, made_leaves}
use Rattle.table_model.specs.Asks.{ask_in}
use Rattle.table_model.specs.Goes.{state_after, with_directory, after_exchange, answered_by_leaf, phase_after, after_lost_root}
use Rattle.table_model.specs.Promises.{updates_in}
use Rattle.run_invariant.proofs.Events.{local_after, published}
use Rattle.run_invariant.proofs.Invariant.{Common, Local, Shared, Keeps, word_no}
use Rattle.run_laws.proofs.Induction.{common_after, found_in}
use Rattle.run_laws.proofs.Layers.{Begun}
use Rattle.run_laws.proofs.Won.{grown_by}
use Rattle.bound_laws.proofs.SeatLayers.{SeatLayer, Step, flying}
use Rattle.list_laws.proofs.Pigeons.{flag}
use Rattle.bound_laws.proofs.Stages.{Kind, Sees, Announces, Roots, Finds, Looks, Tries, Dirs, Lasts, Ends, Stops, kind, Leads, LeadsWon, LeadsEnd, leads, exchange_next, leaf_next, lost_root_next, won_leads, end_leads, on_leads, aim_after}
use Rattle.bound_laws.proofs.RootWon.{has_two, new_named, own_number, fresh}

-- ---- two new buckets a directory row

pub record Pair (c : Common) (v : ℕ) : Type 0 where
  pub one : ℕ
  pub other : ℕ
  pub apart : one ≢ other
  pub one_there : c.named one ≡ true
  pub other_there : c.named other ≡ true
  pub one_born : c.born one ≡ v + 1
  pub other_born : c.born other ≡ v + 1

-- so it is of each
abbrev pub Twos : Common → Type 0
Twos c = (v : ℕ) → v < c.dir_top → Pair c v

-- a step keeps them
pair_stays : (setup : Setup) (me : ℕ) (c d : Common) → Step setup me c d → (v : ℕ) → Pair c v → Pair d v
pair_stays setup me c d z v p = record {
  one = p.one;
  other = p.other;
  apart = p.apart;
  one_there = (z.moves.named_up p.one p.one_there).0;
  other_there = (z.moves.named_up p.other p.other_there).0;
  one_born = (z.recalls.origins p.one p.one_there).0 ∙ p.one_born;
  other_born = (z.recalls.origins p.other p.other_there).0 ∙ p.other_born;
}

-- ---- what a seat may have published in its call

-- in these parts of a call the seat is in an update
abbrev pub updating : Kind → Bool
updating Sees = false
updating (Roots ForLookup) = false
updating (Finds ForLookup) = false
updating Looks = false
updating Ends = false
updating Stops = false
updating to = true

-- op rows
abbrev pub ops_of : Bool → Kind → ℕ
ops_of update Sees = 0
ops_of update Announces = 0
ops_of update (Roots ForLookup) = 0
ops_of update (Finds ForLookup) = 0
ops_of update Looks = 0
ops_of update Ends = flag update
ops_of update to = 1

-- exchanges of bucket words that happened
abbrev pub rows_of : Bool → Kind → ℕ
rows_of update (Roots (ForSecondRound first)) = 1
rows_of update (Roots ForLastLook) = 2
rows_of update (Finds (ForSecondRound first)) = 1
rows_of update (Finds ForLastLook) = 2
rows_of update (Tries round) = round.turn - 1
rows_of update (Dirs round) = round.turn
rows_of update Lasts = 2
rows_of update Ends = flag update + flag update
rows_of update Stops = 2
rows_of update to = 0

-- exchanges of the root
abbrev pub dirs_of : Bool → Kind → ℕ
dirs_of update Ends = flag update
dirs_of update Stops = 1
dirs_of update to = 0

-- what is published is no more than the answered updates allow, and the call in flight
pub record Spent (account : Account) (ops rows dirs : ℕ) : Type 0 where
  pub op_rows : account.used.op_rows ≤ updates_in account + ops
  pub bucket_rows : account.used.bucket_rows ≤ updates_in account + updates_in account + rows
      + account.used.bucket_words
  pub directory_rows : account.used.directory_rows ≤ updates_in account + dirs

-- and by its stand
abbrev pub SpentStand : Account → Stand → Type 0
SpentStand account Idle = Spent account 0 0 0
SpentStand account (InFlight flight phase) =
    (updating (kind phase) ≡ true → is_update flight.call ≡ true)
    × Spent account (ops_of (is_update flight.call) (kind phase)) (rows_of (is_update flight.call) (kind phase))
    (dirs_of (is_update flight.call) (kind phase))

-- so many bucket words of a seat are those of buckets that came after the opening
abbrev pub OwnWords : Setup → Common → (seat many : ℕ) → Type 0
OwnWords setup c seat many =
    (j : ℕ) → j < many → (c.named (word_no setup seat j) ≡ true) × (1 ≤ c.born (word_no setup seat j))

-- a step of any seat keeps them
pub words_move : (setup : Setup) (me seat : ℕ) (c d : Common) → Step setup me c d → (many : ℕ) →
    OwnWords setup c seat many → OwnWords setup d seat many
words_move setup me seat c d z many w j h =
    (let x = w j h in (
      (z.moves.named_up (word_no setup seat j) x.0).0,
      omega (arith, x.1, (z.recalls.origins (word_no setup seat j) x.0).0),
    ))

-- what it has published: bucket words of later buckets, no more directory rows than there are, and what its updates
-- allow
pub record Spends (setup : Setup) (c : Common) (me : ℕ) (local : Local) (g : Unit {0}) (state : SeatState) : Type 0
  where
    pub words : OwnWords setup c me state.account.used.bucket_words
    pub dirs : state.account.used.directory_rows ≤ c.dir_top
    pub stand : SpentStand state.account state.stand

-- ---- from part to part

-- in a round there are two turns
abbrev pub Turned : Kind → Type 0
Turned (Tries round) = (1 ≤ round.turn) × (round.turn ≤ 2)
Turned (Dirs round) = (1 ≤ round.turn) × (round.turn ≤ 2)
Turned to = Unit {0}

-- what was allowed stays allowed
abbrev pub Allows : Bool → Kind → Kind → Type 0
Allows u from to = (updating to ≡ true → u ≡ true) × (ops_of u from ≤ ops_of u to) × (rows_of u from ≤ rows_of u to)
    × (dirs_of u from ≤ dirs_of u to)

-- where there is no further step all is allowed
to_stop : (u : Bool) (from : Kind) → Turned from → Allows u from Stops
to_stop true Ends t = (λ x. cc, omega arith, omega arith, omega arith)
to_stop false Ends t = (λ x. cc, omega arith, omega arith, omega arith)
to_stop u (Roots ForLookup) t = (λ x. cc, omega arith, omega arith, omega arith)
to_stop u (Roots ForFirstRound) t = (λ x. cc, omega arith, omega arith, omega arith)
to_stop u (Roots (ForSecondRound first)) t = (λ x. cc, omega arith, omega arith, omega arith)
to_stop u (Roots ForLastLook) t = (λ x. cc, omega arith, omega arith, omega arith)
to_stop u (Finds ForLookup) t = (λ x. cc, omega arith, omega arith, omega arith)
to_stop u (Finds ForFirstRound) t = (λ x. cc, omega arith, omega arith, omega arith)
to_stop u (Finds (ForSecondRound first)) t = (λ x. cc, omega arith, omega arith, omega arith)
to_stop u (Finds ForLastLook) t = (λ x. cc, omega arith, omega arith, omega arith)
to_stop u (Tries round) t = (λ x. cc, omega arith, omega (arith, t.1), omega arith)
to_stop u (Dirs round) t = (λ x. cc, omega arith, omega (arith, t.1), omega arith)
to_stop u from t = (λ x. cc, omega arith, omega arith, omega arith)

-- an update ends with all that it may have
to_end : (u : Bool) (from : Kind) → u ≡ true → ops_of u from ≤ 1 → rows_of u from ≤ 2 → dirs_of u from ≡ 0 →
    Allows u from Ends
to_end true from e o r d = (λ x. cc, omega (arith, o), omega (arith, r), omega (arith, d))
to_end false from e o r d = cc

-- a round's directory tries are left for the next
round_left : (u : Bool) (round : Round) → u ≡ true → round.turn ≤ 2 → Allows u (Dirs round) (Roots (aim_after round))
round_left u round up two = go (eqb round.turn 1) refl
  where
    go : (b : Bool) → eqb round.turn 1 ≡ b →
        Allows u (Dirs round) (Roots (cond b (ForSecondRound round.first) ForLastLook))
    go true e = (λ x. up, omega arith, omega (arith, eqb-true round.turn 1 e), omega arith)
    go false e = (λ x. up, omega arith, omega (arith, two), omega arith)

-- the root is loaded
found_allowed : (u : Bool) (aim : Aim) → (updating (Roots aim) ≡ true → u ≡ true) → Allows u (Roots aim) (Finds aim)
found_allowed u ForLookup up = (up, omega arith, omega arith, omega arith)
found_allowed u ForFirstRound up = (up, omega arith, omega arith, omega arith)
found_allowed u (ForSecondRound first) up = (up, omega arith, omega arith, omega arith)
found_allowed u ForLastLook up = (up, omega arith, omega arith, omega arith)

-- from each part to each that may come next
pub allowed : (flight : Flight) (u : Bool) (from to : Kind) → (updating from ≡ true → u ≡ true) → Turned from →
    Leads flight from to → is_update flight.call ≡ u → Allows u from to
allowed flight u from Stops up t l e = to_stop u from t
allowed flight u Sees Sees up t l e = (up, omega arith, omega arith, omega arith)
allowed flight u Sees Announces up t l e = (λ x. sym e ∙ l, omega arith, omega arith, omega arith)
allowed flight u Sees (Roots ForLookup) up t l e = (λ x. cc, omega arith, omega arith, omega arith)
allowed flight u Announces Announces up t l e = (up, omega arith, omega arith, omega arith)
allowed flight u Announces (Roots ForFirstRound) up t l e = (λ x. up refl, omega arith, omega arith, omega arith)
allowed flight u (Roots aim) (Finds other) up t l e =
    subst (λ x. Allows u (Roots aim) (Finds x)) (sym l) (found_allowed u aim up)
allowed flight u (Finds aim) (Finds other) up t l e =
    subst (λ x. Allows u (Finds aim) (Finds x)) (sym l) (up, omega arith, omega arith, omega arith)
allowed flight u (Finds ForLookup) Looks up t l e = (λ x. cc, omega arith, omega arith, omega arith)
allowed flight u (Finds ForFirstRound) (Tries round) up t l e = (λ x. up refl, omega arith, omega arith, omega arith)
allowed flight u (Finds (ForSecondRound first)) (Tries round) up t l e =
    (λ x. up refl, omega arith, omega (arith, l), omega arith)
allowed flight u (Finds ForLastLook) Lasts up t l e = (λ x. up refl, omega arith, omega arith, omega arith)
allowed flight u Looks Looks up t l e = (up, omega arith, omega arith, omega arith)
allowed flight u Looks Ends up t l e = (λ x. cc, omega arith, omega arith, omega arith)
allowed flight u (Tries round) (Tries other) up t l e =
    subst (λ x. Allows u (Tries round) (Tries x)) (sym l) (up, omega arith, omega arith, omega arith)
allowed flight u (Tries round) (Dirs other) up t l e =
    subst (λ x. Allows u (Tries round) (Dirs x)) (sym l) (λ x. up refl, omega arith, omega arith, omega arith)
allowed flight u (Tries round) Ends up t l e = to_end u (Tries round) (up refl) (omega arith) (omega (arith, t.1)) refl
allowed flight u (Dirs round) (Dirs other) up t l e =
    subst (λ x. Allows u (Dirs round) (Dirs x)) (sym l) (up, omega arith, omega arith, omega arith)
allowed flight u (Dirs round) (Roots aim) up t l e =
    subst (λ x. Allows u (Dirs round) (Roots x)) (sym l) (round_left u round (up refl) t.1)
allowed flight u (Dirs round) Ends up t l e = to_end u (Dirs round) (up refl) (omega arith) (omega (arith, t.1)) refl
allowed flight u Lasts Lasts up t l e = (up, omega arith, omega arith, omega arith)
allowed flight u Lasts Ends up t l e = to_end u Lasts (up refl) (omega arith) (omega arith) refl
allowed flight u from to up t l e = absurd l

module _ (setup : Setup) (me : ℕ) (c : Common) (used : SeatRows) (flight : Flight) (local : Local) where
  -- so says what a seat knows of its round
  pub turned : (phase : Phase) → Keeps setup c me used flight local phase → Turned (kind phase)
  turned (TryWord round turn first) k = (k.in_round.one, k.in_round.two)
  turned (TryRow round turn first row words) k = (k.in_round.one, k.in_round.two)
  turned (TryAnnouncement round attempt found) k = (k.in_round.one, k.in_round.two)
  turned (TryOp round attempt found op words) k = (k.in_round.one, k.in_round.two)
  turned (TryStore round attempt found stored) k = (k.in_round.one, k.in_round.two)
  turned (TryExchange round attempt found) k = (k.in_round.one, k.in_round.two)
  turned (DirRoot round turn first) k = (k.in_round.one, k.in_round.two)
  turned (DirDepth round turn first root) k = (k.in_round.one, k.in_round.two)
  turned (DirEntries round turn first root depth words) k = (k.in_round.one, k.in_round.two)
  turned (DirAnnouncement round attempt found) k = (k.in_round.one, k.in_round.two)
  turned (DirOp round attempt found op words) k = (k.in_round.one, k.in_round.two)
  turned (DirWord round attempt found loaded bucket) k = (k.in_round.one, k.in_round.two)
  turned (DirRow round attempt found loaded bucket row words) k = (k.in_round.one, k.in_round.two)
  turned (DirStore round attempt found loaded stored) k = (k.in_round.one, k.in_round.two)
  turned (DirExchange round attempt found loaded) k = (k.in_round.one, k.in_round.two)
  turned phase k = tt

-- one more answer
pub updates_more : (records : List Record) (r : Record) → count_by (λ (x : Record). is_update x.call)
    (records ++ r ∷ []) ≡ count_by (λ (x : Record). is_update x.call) records + flag (is_update r.call)
updates_more records r = sum_by-append (λ (x : Record). cond (is_update x.call) 1 0) records (r ∷ [])
    ∙ ap (λ n. count_by (λ (x : Record). is_update x.call) records + n)
    (sum_by-cons (λ (x : Record). cond (is_update x.call) 1 0) r [] ∙ omega arith)

-- an exchange that happened leaves room for one
won_rows : (u : Bool) (round : Round) (to : Kind) → u ≡ true → (1 ≤ round.turn) × (round.turn ≤ 2) → LeadsWon round to →
    rows_of u (Tries round) + 1 ≤ rows_of u to
won_rows u round (Dirs other) e t l = subst (λ (x : Round). round.turn - 1 + 1 ≤ x.turn) (sym l) (omega (arith, t.0))
won_rows true round Ends e t l = omega (arith, t.1)
won_rows false round Ends e t l = cc
won_rows u round Stops e t l = omega (arith, t.1)
won_rows u round to e t l = absurd l

-- an exchange of the root is allowed where the update ends
pub end_dirs : (u : Bool) (to : Kind) → u ≡ true → LeadsEnd to → 1 ≤ dirs_of u to
end_dirs true Ends e l = omega arith
end_dirs false Ends e l = cc
end_dirs u Stops e l = omega arith
end_dirs u to e l = absurd l

module _ (setup : Setup) (me : ℕ) (c : Common) (account : Account) (flight : Flight) (local : Local) where
  abbrev up : Bool
  up = is_update flight.call

  abbrev word : Phase → ℕ
  word phase = found_in (ask_in setup me account.used flight phase) c.memory

  abbrev then : Phase → Common
  then phase = common_after setup me account.used flight phase c

  -- its bucket words stay
  words_stay : (d : Common) → Step setup me c d → OwnWords setup c me account.used.bucket_words →
      OwnWords setup d me account.used.bucket_words
  words_stay d z w = words_move setup me me c d z account.used.bucket_words w

  -- where it has published nothing
  stand_same : (from to : Kind) → Allows up from to → (updating from ≡ true → up ≡ true)
      × Spent account (ops_of up from) (rows_of up from) (dirs_of up from) →
      (updating to ≡ true → up ≡ true) × Spent account (ops_of up to) (rows_of up to) (dirs_of up to)
  stand_same from to a q = (
    a.0,
    record {
      op_rows = omega (arith, q.1.op_rows, a.1);
      bucket_rows = omega (arith, q.1.bucket_rows, a.2);
      directory_rows = omega (arith, q.1.directory_rows, a.3);
    },
  )

  abbrev Was : Phase → Type 0
  Was phase = Spends setup c me local tt (flying account flight phase)

  abbrev Now : Phase → Type 0
  Now phase = Spends setup (then phase) me (local_after phase c local) tt
      (state_after setup me account flight phase (word phase))

  -- the bucket word was exchanged, or it was not
  own_exchange : (round : Round) (attempt : BucketTry) (found : List (Option Op)) (e : Bool) → (d : Common) →
      Step setup me c d → (1 ≤ round.turn) × (round.turn ≤ 2) → Was (TryExchange round attempt found) →
      Spends setup d me local tt (record {
        account = record account {
          used = cond e (record account.used { bucket_rows = account.used.bucket_rows + 1 })
              account.used;
        };
        stand = InFlight (record flight { steps = flight.steps + 1 })
            (cond e (after_exchange me flight round (made_bucket setup attempt found)
            (next_number setup me BucketRows account.used)) (TryWord round (attempt.turn + 1) (Some attempt.first)));
      })
  own_exchange round attempt found true d z t q =
      let to = kind (after_exchange me flight round (made_bucket setup attempt found)
      (next_number setup me BucketRows account.used)) in
      let l = exchange_next setup me account.used flight round (made_bucket setup attempt found)
      (next_number setup me BucketRows account.used) in
      let a = allowed flight up (Tries round) to q.stand.0 t (won_leads setup me account.used flight round to l) refl in
      let more = won_rows up round to (q.stand.0 refl) t l in
      record {
        words = words_stay d z q.words;
        dirs = omega (arith, q.dirs, z.moves.dir_up);
        stand = (
          a.0,
          record {
            op_rows = omega (arith, q.stand.1.op_rows, a.1);
            bucket_rows =
                omega (arith, q.stand.1.bucket_rows, more);
            directory_rows = omega (arith, q.stand.1.directory_rows, a.3);
          },
        );
      }
  own_exchange round attempt found false d z t q =
      record { words = words_stay d z q.words; dirs = omega (arith, q.dirs, z.moves.dir_up); stand = q.stand }

  module _ (h : me < seats_of setup) (s : Shared setup c) where
    -- the root was exchanged, or it was not
    own_root : (round : Round) (attempt : DirectoryTry) (found : List (Option Op)) (loaded : List LoadedBucket)
        (e : Bool) → eqb c.memory.root attempt.root ≡ e →
        (k : Keeps setup c me account.used flight local (DirExchange round attempt found loaded)) →
        Step setup me c (cond e (grown_by setup me account.used attempt found loaded c) c) → (1 ≤ round.turn)
        × (round.turn ≤ 2) → Was (DirExchange round attempt found loaded) →
        Spends setup (cond e (grown_by setup me account.used attempt found loaded c) c) me local tt (record {
          account = record account {
            used =
                cond e (with_directory account.used (length (made_leaves setup attempt found loaded))) account.used;
          };
          stand = InFlight (record flight { steps = flight.steps + 1 })
              (cond e (answered_by_leaf (rules_of setup) me flight (next_number setup me BucketRows account.used)
              (made_leaves setup attempt found loaded)) (after_lost_root round attempt));
        })
    own_root round attempt found loaded true e k z t q =
        let same = eqb-true c.memory.root attempt.root e in
        let many = length (made_leaves setup attempt found loaded) in
        let first = fresh setup me c account flight local h s round attempt found loaded k same in
        let row = next_number setup me BucketRows account.used in
        let to = kind (answered_by_leaf (rules_of setup) me flight row (made_leaves setup attempt found loaded)) in
        let l = leaf_next setup me account.used flight row (made_leaves setup attempt found loaded) in
        let a =
        allowed flight up (Dirs round) to q.stand.0 t (end_leads setup me account.used flight round to l) refl in
        let one = end_dirs up to (q.stand.0 refl) l in
        let d = grown_by setup me account.used attempt found loaded c in
        record {
          words = λ j lt. elim (cases_lt j account.used.bucket_words) [
            | inl old ↦ words_stay d z q.words j old
            | inr new ↦
                let i = j - account.used.bucket_words in
                let at : word_no setup me j ≡ first + i = ap (word_no setup me) (omega (arith, new))
                ∙ own_number setup me c account flight local h s round attempt found loaded k same i in
                let named = new_named setup me c account flight local h s round attempt found loaded k same i
                (omega (arith, lt, new)) in
                (ap d.named at ∙ named.0, omega (arith, ap d.born at, named.1))
          ];
          dirs = omega (arith, q.dirs);
          stand = (
            a.0,
            record {
              op_rows = omega (arith, q.stand.1.op_rows, a.1);
              bucket_rows =
                  omega (arith, q.stand.1.bucket_rows, a.2);
              directory_rows = omega (arith, q.stand.1.directory_rows, one);
            },
          );
        }
    own_root round attempt found loaded false e k z t q =
        let a = allowed flight up (Dirs round) (kind (after_lost_root round attempt)) q.stand.0 t
        (on_leads setup me account.used flight round (kind (after_lost_root round attempt))
        (lost_root_next setup me account.used flight round attempt)) refl in
        record {
          words = words_stay c z q.words;
          dirs = q.dirs;
          stand =
              stand_same (Dirs round) (kind (after_lost_root round attempt)) a q.stand;
        }

    -- one step of the seat
    pub own : (phase : Phase) → (k : Keeps setup c me account.used flight local phase) → Step setup me c (then phase) →
        Was phase → Now phase
    own Announce k z q = record {
      words = words_stay (then Announce) z q.words;
      dirs = omega (arith, q.dirs);
      stand = (
        q.stand.0,
        record {
          op_rows = omega (arith, q.stand.1.op_rows);
          bucket_rows = q.stand.1.bucket_rows;
          directory_rows = q.stand.1.directory_rows;
        },
      );
    }
    own (TryExchange round attempt found) k z q =
        own_exchange round attempt found (eqb (c.memory.bucket round.bucket) attempt.row)
        (then (TryExchange round attempt found)) z (k.in_round.one, k.in_round.two) q
    own (DirExchange round attempt found loaded) k z q =
        own_root round attempt found loaded (eqb c.memory.root attempt.root) refl k z (k.in_round.one, k.in_round.two) q
    own (StoreDone reply place) k z q =
        let r = record_of me flight reply place in
        let more = updates_more account.records r in
        record {
          words = words_stay (then (StoreDone reply place)) z q.words;
          dirs = q.dirs;
          stand = record {
            op_rows = omega (arith, q.stand.1.op_rows, more);
            bucket_rows =
                omega (arith, q.stand.1.bucket_rows, more);
            directory_rows = omega (arith, q.stand.1.directory_rows, more);
          };
        }
    own Stuck k z q = absurd k
    own phase k z q =
        let to = phase_after setup me account.used flight phase (word phase) in
        record {
          words = words_stay (then phase) z q.words;
          dirs = omega (arith, q.dirs, z.moves.dir_up);
          stand = stand_same (kind phase) (kind to) (allowed flight up (kind phase) (kind to) q.stand.0
              (turned setup me c account.used flight local phase k)
              (leads setup me account.used flight phase (word phase) (λ e. cc)) refl) q.stand;
        }

-- ---- the layer

module _ (setup : Setup) (me : ℕ) (c : Common) (account : Account) (flight : Flight) (local : Local)
    (h : me < seats_of setup) (s : Shared setup c) where
  abbrev after : Phase → Common
  after phase = common_after setup me account.used flight phase c

  abbrev stay : (d : Common) → Step setup me c d → Twos c → (v : ℕ) → v < c.dir_top → Pair d v
  stay d z t v lt = pair_stays setup me c d z v (t v lt)

  -- an exchange of the root brings two buckets, where it happens
  twos_root : (round : Round) (attempt : DirectoryTry) (found : List (Option Op)) (loaded : List LoadedBucket)
      (e : Bool) → eqb c.memory.root attempt.root ≡ e →
      Keeps setup c me account.used flight local (DirExchange round attempt found loaded) →
      Step setup me c (cond e (grown_by setup me account.used attempt found loaded c) c) → Twos c →
      Twos (cond e (grown_by setup me account.used attempt found loaded c) c)
  twos_root round attempt found loaded false e k z t v lt = t v lt
  twos_root round attempt found loaded true e k z t v lt = elim (cases_lt v c.dir_top) [
    | inl old ↦ stay (grown_by setup me account.used attempt found loaded c) z t v old
    | inr new ↦
        let same = eqb-true c.memory.root attempt.root e in
        let first = fresh setup me c account flight local h s round attempt found loaded k same in
        let two = has_two setup me c account flight local h s round attempt found loaded k same in
        let a =
        new_named setup me c account flight local h s round attempt found loaded k same 0 (omega (arith, two)) in
        let b =
        new_named setup me c account flight local h s round attempt found loaded k same 1 (omega (arith, two)) in
        let here : v ≡ c.dir_top = omega (arith, lt, new) in
        record {
          one = first + 0;
          other = first + 1;
          apart = λ x. absurd (omega (arith, x));
          one_there = a.0;
          other_there = b.0;
          one_born = omega (arith, a.1, here);
          other_born = omega (arith, b.1, here);
        }
  ]

  -- an exchange of a bucket word brings none
  twos_exchange : (round : Round) (attempt : BucketTry) (found : List (Option Op)) (e : Bool) →
      Step setup me c (cond e (published setup me round.bucket attempt found c) c) → Twos c →
      Twos (cond e (published setup me round.bucket attempt found c) c)
  twos_exchange round attempt found true z t = stay (published setup me round.bucket attempt found c) z t
  twos_exchange round attempt found false z t = t

  -- each step
  twos : (phase : Phase) → Keeps setup c me account.used flight local phase → Step setup me c (after phase) → Twos c →
      Twos (after phase)
  twos (FindRoot ForLookup) k z t = stay (after (FindRoot ForLookup)) z t
  twos (FindRoot ForFirstRound) k z t = stay (after (FindRoot ForFirstRound)) z t
  twos (FindRoot (ForSecondRound first)) k z t = stay (after (FindRoot (ForSecondRound first))) z t
  twos (FindRoot ForLastLook) k z t = stay (after (FindRoot ForLastLook)) z t
  twos (TryWord round turn None) k z t = stay (after (TryWord round turn None)) z t
  twos (TryWord round turn (Some first)) k z t = stay (after (TryWord round turn (Some first))) z t
  twos (DirRoot round turn None) k z t = stay (after (DirRoot round turn None)) z t
  twos (DirRoot round turn (Some first)) k z t = stay (after (DirRoot round turn (Some first))) z t
  twos (TryExchange round attempt found) k z t =
      twos_exchange round attempt found (eqb (c.memory.bucket round.bucket) attempt.row) z t
  twos (DirExchange round attempt found loaded) k z t =
      twos_root round attempt found loaded (eqb c.memory.root attempt.root) refl k z t
  twos phase k z t = stay (after phase) z t

-- as a layer
pub spending_layer : (setup : Setup) → SeatLayer setup (Unit {0}) Twos (Spends setup)
spending_layer setup = record {
  whole = λ me c account flight phase local g o t q. twos setup me c account flight local o.there o.step.before.shared
      phase o.keeps o.step t;
  own = λ me c account flight phase local g o t u q. (
    tt,
    own setup me c account flight local o.there
        o.step.before.shared phase o.keeps o.step q,
  );
  others = λ me q c d local g state n hq z k t u x. record {
    words = words_move setup me q c d z state.account.used.bucket_words x.words;
    dirs = omega (arith, x.dirs, z.moves.dir_up);
    stand = x.stand;
  };
  begins = λ me c account flight phase local g h b x. record {
    words = x.words;
    dirs = x.dirs;
    stand =
        begun_spent setup me account flight phase b x.stand;
  };
}
  where
    begun_spent : (setup : Setup) (me : ℕ) (account : Account) (flight : Flight) (phase : Phase) →
        Begun setup me account flight phase → Spent account 0 0 0 → SpentStand account (InFlight flight phase)
    begun_spent setup me account flight phase b s =
        subst (λ ph. SpentStand account (InFlight flight ph)) (sym b.phase_is) (λ e. cc, s)
