-- The promises about a batch: few rows are published, and those that it can need suffice.
use Rattle.std.proofs.Common.{◌≡◌, ℕ, zero, suc, ◌+◌, ◌*◌, ◌^◌, ◌<◌, ◌≤◌, ◌⊎◌, Bool, true, false, List, [], ◌∷◌, length, get_or, None, inl, inr, refl, sym, ap, ◌∙◌, subst, arith}
use Rattle.std.specs.Prelude.{min, slice_index, sum_by, replicate}
use Rattle.std.specs.List.{All}
use Rattle.std.proofs.lemmas.Bool.{cases_lt, false≢true}
use Rattle.std.proofs.lemmas.List.Elements.{recursion_from_All}
use Rattle.std.proofs.lemmas.List.Sums.{sum_by-cons}
use Rattle.std.proofs.Math.Nat.{le-min}
use Rattle.step_counts.specs.declared.rows.SeatRows.{SeatRows}
use Rattle.step_counts.specs.StepCounts.{need_of, new_leaves, automatic_rows_of}
use Rattle.plain_map.specs.declared.calls.Call.TheVariants.{Insert}
use Rattle.plain_map.specs.declared.keys.Key.{Key}
use Rattle.plain_map.specs.Room.{left_of, refusal}
use Rattle.bucket_states.specs.Parts.{keys_of}
use Rattle.table_model.specs.declared.events.Event.{Event}
use Rattle.table_model.specs.Setup.{Setup, seats_of, settings_of}
use Rattle.table_model.specs.Phases.{Phase, Stuck}
use Rattle.table_model.specs.SeatStates.{Account, Flight, Stand, Idle, InFlight, SeatState, fresh_seat}
use Rattle.plain_map.specs.Calls.{is_update}
use Rattle.table_model.specs.Worlds.{world_after, opening_world, seat_in}
use Rattle.table_model.specs.Reading.{directory_rows}
use Rattle.table_model.specs.Promises.{updates_in}
use Rattle.table_model.specs.Needs.{inserted_in, splits_in, batch_rows_of, flying_updates, updates_begun, IsFew, FewArePublished, IsAmongKeys, BatchRowsSuffice}
use Rattle.run_invariant.proofs.Invariant.{Common, Local, Keeps, KeepsStand}
use Rattle.bound_laws.proofs.After.{flies}
use Rattle.list_laws.proofs.Lists.{Once}
use Rattle.closed_laws.proofs.Book.{Book, Written}
use Rattle.closed_laws.proofs.Read.{directory_rows_in, directory_rows_once}
use Rattle.bound_laws.proofs.Read.{book, kept}
use Rattle.bound_laws.proofs.KeyCounts.{has, each_has}
use Rattle.bound_laws.proofs.Stages.{Kind, Sees, Roots, Finds, Looks, Ends, Stops, kind}
use Rattle.bound_laws.proofs.Spending.{updating, ops_of, dirs_of, Spent, SpentStand}
use Rattle.bound_laws.proofs.Gains.{Gain, GainsStand}
use Rattle.bound_laws.proofs.Given.{CallOf, Known, known_all, has_left, has_right, given_brought}
use Rattle.bound_laws.proofs.Crowding.{Came}
use Rattle.bound_laws.proofs.Crowded.{all_keys}
use Rattle.list_laws.proofs.Pigeons.{flag, passing, pigeons, all_of}
use Rattle.bound_laws.proofs.Slots.{roots_split, seat_split, all_split, once_at}
use Rattle.list_laws.proofs.Places.{number_in}
use Rattle.bound_laws.proofs.Counts.{pick, picked, roots_most, words_most}
use Rattle.table_model.specs.declared.rounds.Aim.TheVariants.{ForLookup}
use Rattle.bound_laws.proofs.Suffice.{enough_none, sizes_are}
use Rattle.bound_laws.proofs.Whole.{Calling, called}
use Rattle.std.proofs.lemmas.List.{get_or_default}

-- ---- the keys that came are those that events gave

-- every seat is fresh at the opening, and there are as many as there are to be
pub fresh_all : (n q : ℕ) → get_or (replicate n fresh_seat) q fresh_seat ≡ fresh_seat
fresh_all zero q = refl
fresh_all (suc n) zero = refl
fresh_all (suc n) (suc q) = fresh_all n q

pub long_all : (n : ℕ) → length (replicate n fresh_seat) ≡ n
long_all zero = refl
long_all (suc n) = ap suc (long_all n)

-- so each call of a seat was given by an event
known_now : (setup : Setup) (events : List Event) (q : ℕ) →
    Known (inserted_in events) (seat_in (world_after setup events) q)
known_now setup events q = known_all setup events (opening_world setup) [] (long_all (seats_of setup))
    (λ p. subst (Known []) (sym (fresh_all (seats_of setup) p))
    (λ call x. elim x [ inl a ↦ absurd a.there | inr none ↦ absurd none ])) q

module _ (setup : Setup) (events : List Event) (a : Calling setup (world_after setup events)) where
  abbrev c : Common
  c = a.common

  abbrev state : ℕ → SeatState
  state p = seat_in (world_after setup events) p

  -- what a seat has published is what the history says
  used_same : (p : ℕ) → p < seats_of setup → c.used p ≡ (state p).account.used
  used_same p h = go (state p).stand (a.follows.seats p h)
    where
      go : (stand : Stand) → KeepsStand setup c p (state p).account.used (a.locals p) stand →
          c.used p ≡ (state p).account.used
      go Idle k = k.used_is
      go (InFlight flight phase) k = (flies setup p c (state p).account.used flight (a.locals p) phase k).used_is

  -- each is a first one, or among those that events gave
  came_given : (key : Key) → Came setup c key → (has (keys_of setup.first) key ≡ true)
      ⊎ (has (inserted_in events) key ≡ true)
  came_given key (inl e) = inl e
  came_given key (inr x) =
      let given = (a.holds.1 x.seat x.there).given x.at
      (omega (arith, x.old, ap (λ (u : SeatRows). u.op_rows) (used_same x.seat x.there))) in
      inr (given_brought (inserted_in events) x.call key (known_now setup events x.seat x.call
      (subst (CallOf (state x.seat).account (state x.seat).stand) x.call_is given)) x.brings)

  module _ (inserted : List Key) (sub : (key : Key) → has (inserted_in events) key ≡ true → has inserted key ≡ true)
    where
      -- so each is among the keys of a batch that has all inserted ones
      pub known : (key : Key) → Came setup c key → has (all_keys setup inserted) key ≡ true
      known key x = elim (came_given key x) [
        | inl e ↦ has_left (keys_of setup.first) inserted key e
        | inr e ↦ has_right (keys_of setup.first) inserted key (sub key e)
      ]

      -- ---- the rows of a seat

      pub few_roots : c.dir_top ≤ splits_in setup inserted
      few_roots =
          roots_split setup c a.follows.shared a.follows.descent a.holds.0.twos a.holds.0.crowding inserted known

      -- a seat's bucket words, and the buckets that it froze and did not replace, take a part of a prefix each
      pub few_words : (p : ℕ) → p < seats_of setup → (state p).account.used.bucket_words + length
          (a.extra p).froze ≤ 2 * splits_in setup inserted
      few_words p h =
          let x = a.holds.1 p h in
          seat_split setup c a.follows.shared a.follows.descent a.holds.0.twos a.holds.0.crowding inserted known p
          (state p).account.used.bucket_words (a.extra p).froze x.spends.words x.gains.each x.gains.once

      -- so its bucket rows are few, beside its applied ops and its directory rows
      pub few_rows : (p : ℕ) → p < seats_of setup → (state p).account.used.bucket_rows ≤ (a.extra p).applied
          + (state p).account.used.directory_rows + 2 * splits_in setup inserted
      few_rows p h = (let x = a.holds.1 p h in omega (arith, x.gains.rows, few_words p h))

  -- ---- by how many updates it has begun

  -- in its call it has announced one op at most, and exchanged the root once at most, and in a lookup neither
  ops_few : (u : Bool) (part : Kind) → (updating part ≡ true → u ≡ true) → (part ≡ Stops → ⊥) →
      (ops_of u part ≤ flag u) × (dirs_of u part ≤ flag u)
  ops_few true (Roots ForLookup) up n = (omega arith, omega arith)
  ops_few true (Finds ForLookup) up n = (omega arith, omega arith)
  ops_few true part up n = (omega arith, omega arith)
  ops_few false Sees up n = (omega arith, omega arith)
  ops_few false Looks up n = (omega arith, omega arith)
  ops_few false Ends up n = (omega arith, omega arith)
  ops_few false (Roots ForLookup) up n = (omega arith, omega arith)
  ops_few false (Finds ForLookup) up n = (omega arith, omega arith)
  ops_few false Stops up n = absurd (n refl)
  ops_few false part up n = absurd (false≢true (up refl))

  -- no seat comes to where there is no further step
  no_stop : (p : ℕ) (used : SeatRows) (flight : Flight) (local : Local) (phase : Phase) →
      Keeps setup c p used flight local phase → kind phase ≡ Stops → ⊥
  no_stop p used flight local Stuck k e = absurd k
  no_stop p used flight local phase k e = cc

  -- so what it has published is bounded by the updates that it has begun
  begun_few : (p : ℕ) (account : Account) (g : Gain) (local : Local) (stand : Stand) →
      KeepsStand setup c p account.used local stand → SpentStand account stand → GainsStand c account g stand →
      (account.used.op_rows ≤ updates_in account + flying_updates stand)
      × (g.applied + account.used.directory_rows ≤ updates_in account + flying_updates stand)
  begun_few p account g local Idle k s q = (omega (arith, s.op_rows), omega (arith, q.0))
  begun_few p account g local (InFlight flight phase) k s q =
      let few = ops_few (is_update flight.call) (kind phase) s.0 (no_stop p account.used flight local phase k) in
      (omega (arith, s.1.op_rows, few.0), omega (arith, q.0, few.1))

  -- for each seat
  begun_at : (p : ℕ) → p < seats_of setup → ((state p).account.used.op_rows ≤ updates_begun (state p))
      × ((a.extra p).applied + (state p).account.used.directory_rows ≤ updates_begun (state p))
  begun_at p h = (let x = a.holds.1 p h in begun_few p (state p).account (a.extra p) (a.locals p)
      (state p).stand (a.follows.seats p h) x.spends.stand x.gains.stand)

  -- ---- the promises

  same_keys : (key : Key) → has (inserted_in events) key ≡ true → has (inserted_in events) key ≡ true
  same_keys key e = e

  -- a seat has published few rows
  seat_few : (p : ℕ) → p < seats_of setup → IsFew (updates_begun (state p)) (splits_in setup (inserted_in events))
      (state p).account.used
  seat_few p h =
      let begun = begun_at p h in
      let dirs = (a.holds.1 p h).spends.dirs in
      let roots = few_roots (inserted_in events) same_keys in
      record {
        op_rows = begun.0;
        bucket_rows = omega (arith, few_rows (inserted_in events) same_keys p h, begun.1);
        directory_rows = le-min {k = (state p).account.used.directory_rows} {a = updates_begun (state p)}
            {b = splits_in setup (inserted_in events)} (omega (arith, begun.1)) (omega (arith, dirs, roots));
      }

  -- the published directory rows are as many as there are places
  rows_long : length (directory_rows setup.shape (world_after setup events).words) ≤ c.dir_top + 1
  rows_long =
      let few = pigeons (λ _. true) (c.dir_top + 1) (length rows) place (λ i h. (omega (arith, (at i h).0), refl))
      (λ i j hi hj e. once_at rows i j once hi hj ((at i hi).1 ∙ ap c.dir_row e ∙ sym (at j hj).1)) in
      omega (arith, few, all_pass (c.dir_top + 1))
    where
      words : List ℕ
      words = (world_after setup events).words

      rows : List ℕ
      rows = directory_rows setup.shape (world_after setup events).words

      book_ : Book
      book_ = book setup words c a.follows.shows a.follows.shared a.follows.descent

      written : Written setup (world_after setup events).words (book setup (world_after setup events).words c
          a.follows.shows a.follows.shared a.follows.descent)
      written = kept setup (world_after setup events).words c a.follows.shows a.follows.shared a.follows.descent

      once : Once (directory_rows setup.shape (world_after setup events).words)
      once = directory_rows_once setup words book_ written

      some : (i : ℕ) → i < length rows → (v : ℕ) × ((v ≤ c.dir_top) × (get_or rows i 0 ≡ c.dir_row v))
      some i h =
          (let x = directory_rows_in setup words book_ written (get_or rows i 0) (number_in rows i h) in
          (x.0, (x.1, x.2)))

      place : ℕ → ℕ
      place i = pick (length rows) i (λ i v. (v ≤ c.dir_top) × (get_or rows i 0 ≡ c.dir_row v)) some
          (cases_lt i (length rows))

      at : (i : ℕ) → i < length rows → (place i ≤ c.dir_top) × (get_or rows i 0 ≡ c.dir_row (place i))
      at i h = picked (length rows) i (λ i v. (v ≤ c.dir_top) × (get_or rows i 0 ≡ c.dir_row v)) some
          (cases_lt i (length rows)) h

      all_pass : (n : ℕ) → passing (λ _. true) n ≡ n
      all_pass zero = refl
      all_pass (suc n) = omega (arith, all_pass n)

-- ---- sums over the seats

all_front : (h : ℕ → ℕ) (n : ℕ) → all_of h (suc n) ≡ h 0 + all_of (λ i. h (suc i)) n
all_front h zero = refl
all_front h (suc n) = omega (arith, all_front h n)

-- a sum over a list is one over its places
sum_places : {A : Type 0} (g : A → ℕ) (xs : List A) (d : A) → sum_by g xs ≡ all_of (λ i. g (get_or xs i d)) (length xs)
sum_places g [] d = refl
sum_places g (x ∷ xs) d =
    omega (arith, sum_by-cons g x xs, sum_places g xs d, all_front (λ i. g (get_or (x ∷ xs) i d)) (length xs))

-- the promise about what is published
pub few_are_published : FewArePublished
few_are_published setup events run =
    let a = called setup events run in
    let seats = (world_after setup events).seats in
    let splits = splits_in setup (inserted_in events) in
    let roots = few_roots setup events a (inserted_in events) (λ key e. e) in
    let count : ℕ → ℕ = λ p. (seat_in (world_after setup events) p).account.used.bucket_words in
    let words = all_split setup a.common a.follows.shared a.follows.descent a.holds.0.twos a.holds.0.crowding
    (inserted_in events) (known setup events a (inserted_in events) (λ key e. e)) count
    (λ p h. (a.holds.1 p h).spends.words)
    (λ p h. (let few = (a.holds.0.fews p h).words in
    omega (arith, few, ap (λ (u : SeatRows). u.bucket_words) (used_same setup events a p h)))) in
    let all : sum_by (λ (s : SeatState). s.account.used.bucket_words) seats ≡ all_of count (seats_of setup) =
    sum_places (λ (s : SeatState). s.account.used.bucket_words) seats fresh_seat ∙ ap (all_of count) a.follows.long in (
      omega (arith, rows_long setup events a, roots),
      omega (arith, all, words),
      λ k d h. subst (λ (s : SeatState). IsFew (updates_begun s) splits s.account.used)
          (get_or_default seats k fresh_seat d h) (seat_few setup events a k (omega (arith, h, a.follows.long))),
    )

-- ---- and suffice

-- the keys of the events' inserts are among these
sub_keys : (keys inserted : List Key) → All (IsAmongKeys keys) inserted → (key : Key) → has inserted key ≡ true →
    has keys key ≡ true
sub_keys keys inserted all key e =
    each_has (λ k. has keys k ≡ true) inserted key (recursion_from_All (IsAmongKeys keys) inserted all) e

-- the promise that the rows of a batch suffice: at each kind both the automatic ones do and those that the keys can
-- need
pub batch_rows_suffice : BatchRowsSuffice
batch_rows_suffice setup keys updates events seat call run h among ranges idle few =
    let a = called setup events run in
    let c = a.common in
    let sub = sub_keys keys (inserted_in events) among in
    let splits = splits_in setup keys in
    let many = slice_index updates seat in
    let x = a.holds.1 seat h in
    let account = (seat_in (world_after setup events) seat).account in
    let used = account.used in
    let gain = a.extra seat in
    let spent : Spent account 0 0 0 = subst (SpentStand account) idle x.spends.stand in
    let gained = subst (GainsStand c account gain) idle x.gains.stand in
    let words = words_most setup c a.follows.shared a.follows.descent seat used.bucket_words x.spends.words in
    let roots = roots_most setup c a.follows.shared a.follows.descent a.holds.0.twos in
    let batch_words = few_words setup events a keys sub seat h in
    let batch_rows = few_rows setup events a keys sub seat h in
    let batch_roots = few_roots setup events a keys sub in
    let need = need_of (settings_of setup) in
    let rows = batch_rows_of (settings_of setup) many splits in
    let sizes = sizes_are setup (λ m. batch_rows_of (settings_of setup) m splits) updates seat ranges
    a.follows.shared.opened.shape.each_seat h in
    let two =
    le-min {k = updates_in account + 2} {a = 2 * many} {b = many + 1} (omega (arith, few)) (omega (arith, few)) in
    let bucket = le-min {k = used.bucket_rows + need.bucket_rows}
    {a = (automatic_rows_of (settings_of setup) many).bucket_rows}
    {b = min (2 * many) (many + 1) + 2 * splits + new_leaves (settings_of setup)}
    (omega (arith, spent.bucket_rows, few, words)) (omega (arith, batch_rows, gained.0, two)) in
    let word = le-min {k = used.bucket_words + need.bucket_words}
    {a = (automatic_rows_of (settings_of setup) many).bucket_words}
    {b = 2 * splits + new_leaves (settings_of setup)}
    (omega (arith, words)) (omega (arith, batch_words)) in
    let least = le-min {k = used.directory_rows + 1} {a = many} {b = 2 ^ setup.shape.settings.depth + 1}
    (omega (arith, spent.directory_rows, few)) (omega (arith, x.spends.dirs, roots)) in
    let batch = le-min {k = used.directory_rows + 1} {a = many} {b = splits + 1}
    (omega (arith, spent.directory_rows, few)) (omega (arith, x.spends.dirs, batch_roots)) in
    let dirs = le-min {k = used.directory_rows + 1} {a = min many (2 ^ setup.shape.settings.depth + 1)}
    {b = min many (splits + 1)} least batch in
    subst (λ r. refusal (left_of r used) need call ≡ None) (sym sizes)
    (enough_none (left_of rows used) need call (record {
      op_rows = omega (arith, spent.op_rows, few);
      bucket_rows = omega (arith, bucket);
      bucket_words = omega (arith, word);
      directory_rows = omega (arith, dirs);
    }))
