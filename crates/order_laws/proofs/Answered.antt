-- Each answered call has the reply of its row, and an answered update stays in the current row of its key.
use Rattle.std.proofs.Common.{◌≡◌, ℕ, ◌+◌, ◌<◌, ◌≤◌, true, length, get_or, true≢false, inl, inr, sym, ap, ◌∙◌, subst, arith}
use Rattle.std.proofs.lemmas.Bool.{cases_Bool}
use Rattle.plain_map.specs.declared.keys.Key.{Key}
use Rattle.plain_map.specs.declared.records.Record.{Record}
use Rattle.plain_map.specs.Calls.{key_in, is_update}
use Rattle.bucket_states.specs.Items.{prefix_of, reply_in}
use Rattle.bucket_states.specs.States.{BucketState}
use Rattle.bucket_states.specs.Laws.{applied_of, reply_at}
use Rattle.table_model.specs.Setup.{Setup, seats_of, rules_of}
use Rattle.table_model.specs.Directories.{DirectoryState, bucket_of}
use Rattle.table_model.specs.SeatStates.{Stand, Idle, InFlight}
use Rattle.table_model.specs.Worlds.{World, world_after, seat_in}
use Rattle.table_model.specs.Reading.{bucket_row, applied_at, bucket_at, bucket_rows, root_of, row_of, directory_at, bucket_by, current_row}
use Rattle.table_model.specs.Promises.{Among, IsAnsweredBy, RepliesAreOfRows, AnsweredAreApplied}
use Rattle.run_invariant.proofs.Invariant.{Common, Local, lead, last, bits}
use Rattle.run_laws.proofs.Induction.{Follows}
use Rattle.closed_laws.proofs.FromWords.{Bases, book_of}
use Rattle.closed_laws.proofs.FromWords
use Rattle.closed_laws.proofs.Told.{bases, descends}
use Rattle.list_laws.proofs.Lists.{In}
use Rattle.closed_laws.proofs.Book.{Book, Written}
use Rattle.placing_laws.proofs.Stuck.{among_in}
use Rattle.closed_laws.proofs.Read.{in_bucket_rows, state_is, directory_is}
use Rattle.order_laws.proofs.Tale.{past_of, Tale, IsRecord, Seated}
use Rattle.order_laws.proofs.AllRuns.{Tells, all_tell}

module _ (setup : Setup) (w : World) (c : Common) (locals : ℕ → Local) (f : Follows setup w c locals) (t : Tale)
    (y : Tells setup w c locals t) where
  -- the bases of the published rows
  abbrev base : Bases setup c
  base = bases setup c f.shared f.descent

  -- the history as a book
  abbrev book : Book
  book = book_of setup c base

  -- and the words tell it
  written : Written setup w.words book
  written = FromWords.written setup w.words c f.shows f.shared base (descends setup c f.shared f.descent)

  -- the records of a seat, whatever its stand
  each : (q : ℕ) → q < seats_of setup → (i : ℕ) (d : Record) → i < length (seat_in w q).account.records →
      IsRecord setup (past_of c) t q (i + 1) (get_or (seat_in w q).account.records i d)
  each q inside = go (seat_in w q).stand (y.seats q inside)
    where
      go : (stand : Stand) → Seated setup (past_of c) t q (locals q) (seat_in w q).account stand →
          (i : ℕ) (d : Record) → i < length (seat_in w q).account.records →
          IsRecord setup (past_of c) t q (i + 1) (get_or (seat_in w q).account.records i d)
      go Idle k = k.answers.each
      go (InFlight flight phase) k = k.answers.each

  -- a record's row, by the words
  module _ (r : Record) (b i : ℕ) (n : c.named b ≡ true) (o : i ≤ c.top b) (place : r.place ≡ c.row_at b i)
      (suits : bits setup (c.deep b) (key_in r.call) ≡ c.pre b) where
    -- the words tell the state of the row
    row_is : bucket_at setup.shape w.words r.place ≡ c.state_at b i
    row_is = ap (bucket_at setup.shape w.words) place ∙ state_is setup w.words book written b i n o

    -- the row is one of those that are listed
    published : Among (bucket_rows setup.shape w.words) r.place
    published = among_in (bucket_rows setup.shape w.words) r.place
        (subst (λ z. In z (bucket_rows setup.shape w.words)) (sym place)
        (in_bucket_rows setup w.words book written b i n o))

    -- the key has the row's prefix
    inside : prefix_of (rules_of setup) (bucket_row setup.shape w.words r.place).depth
        (key_in r.call) ≡ (bucket_row setup.shape w.words r.place).prefix
    inside =
        let sound = f.shared.rows.sound b i n o in
        ap (λ (x : BucketState). bits setup x.depth (key_in r.call)) row_is
        ∙ ap (λ d. bits setup d (key_in r.call)) sound.depth_is ∙ suits
        ∙ sym sound.prefix_is ∙ ap (λ (x : BucketState). x.prefix) (sym row_is)

  -- so the record has the reply of its row
  answered_by : (q i : ℕ) (r : Record) → IsRecord setup (past_of c) t q (i + 1) r → IsAnsweredBy setup w.words r
  answered_by q i r k = elim (cases_Bool (is_update r.call)) [
    | inl u ↦
        let x = k.reply.update u in
        record {
          published = published r x.bucket x.at x.named x.inside x.place_is x.suits;
          inside = inside r x.bucket x.at x.named x.inside x.place_is x.suits;
          update = λ _. (
            ap (λ (z : BucketState). applied_of z r.seat)
                (row_is r x.bucket x.at x.named x.inside x.place_is x.suits)
                ∙ ap (applied_of (c.state_at x.bucket x.at)) k.seat_is ∙ x.number_is ∙ sym k.number_is,
            ap (λ (z : BucketState). reply_at z r.seat) (row_is r x.bucket x.at x.named x.inside x.place_is x.suits)
                ∙ ap (reply_at (c.state_at x.bucket x.at)) k.seat_is ∙ x.reply_is,
          );
          lookup = λ v. absurd (true≢false (sym u ∙ v));
        }
    | inr v ↦
        let x = k.reply.lookup v in
        record {
          published = published r x.bucket x.at x.named x.inside x.place_is x.suits;
          inside = inside r x.bucket x.at x.named x.inside x.place_is x.suits;
          update = λ u. absurd (true≢false (sym u ∙ v));
          lookup = λ _. ap (λ (z : BucketState). reply_in (rules_of setup) z.items r.call)
              (row_is r x.bucket x.at x.named x.inside x.place_is x.suits) ∙ sym x.reply_is;
        }
  ]

  -- the current row of a key is the last one of its bucket
  current_is : (key : Key) → bucket_at setup.shape w.words (current_row setup w.words key) ≡ last c
      (lead setup c c.dir_top key)
  current_is key =
      let b = lead setup c c.dir_top key in
      let there = f.shared.leads.there c.dir_top key (omega arith) in
      let bucket : bucket_by setup w.words (root_of setup.shape w.words) key ≡ b =
      ap (λ r. bucket_of (rules_of setup) (directory_at setup.shape w.words r) key) written.root_is
      ∙ ap (λ (x : DirectoryState). bucket_of (rules_of setup) x key)
      (directory_is setup w.words book written c.dir_top (omega arith)) in
      ap (λ z. bucket_at setup.shape w.words (row_of setup.shape w.words z)) bucket
      ∙ ap (bucket_at setup.shape w.words) (written.word_is b there)
      ∙ state_is setup w.words book written b (c.top b) there (omega arith)

  -- and an update is applied in the current row of its key
  applied_in : (q i : ℕ) (r : Record) → IsRecord setup (past_of c) t q (i + 1) r → is_update r.call ≡ true →
      r.number ≤ applied_at setup.shape w.words (current_row setup w.words (key_in r.call)) q
  applied_in q i r k u =
      let x = k.reply.update u in
      let up = y.told.counts.carried x.bucket x.at q (key_in r.call)
      (record { named = x.named; inside = x.inside }) x.suits in
      omega (arith, up, x.number_is, k.number_is, ap (λ (z : BucketState). applied_of z q) (current_is (key_in r.call)))

-- each answered call has the reply of its row, in every run
pub replies_are_of_rows : RepliesAreOfRows
replies_are_of_rows setup events seat run inside =
    let a = all_tell setup events run in
    let w = world_after setup events in
    λ i d h. answered_by setup w a.common a.locals a.follows a.extra a.holds seat i
    (get_or (seat_in w seat).account.records i d)
    (each setup w a.common a.locals a.follows a.extra a.holds seat inside i d h)

-- and each answered update stays applied
pub answered_are_applied : AnsweredAreApplied
answered_are_applied setup events seat run inside =
    let a = all_tell setup events run in
    let w = world_after setup events in
    λ i d h u. applied_in setup w a.common a.locals a.follows a.extra a.holds seat i
    (get_or (seat_in w seat).account.records i d)
    (each setup w a.common a.locals a.follows a.extra a.holds seat inside i d h) u
