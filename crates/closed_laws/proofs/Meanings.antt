-- What the calls of the rows make of what is held, from the steps that made the rows.
use Rattle.std.proofs.Common.{◌≡◌, ◌≢◌, ℕ, ◌+◌, ◌<◌, ◌≤◌, true, false, Some, true≢false, refl, inl, inr, sym, ap, ◌∙◌, subst, arith}
use Rattle.std.specs.Option.{option_map_or}
use Rattle.plain_map.specs.declared.keys.Key.{Key}
use Rattle.plain_map.specs.declared.calls.Call.{Call}
use Rattle.plain_map.specs.declared.calls.Call.TheVariants.{Insert, Remove, Lookup, Tally, Count, Put}
use Rattle.plain_map.specs.declared.calls.Reply.TheVariants.{Absent}
use Rattle.plain_map.specs.declared.records.Record.{Record}
use Rattle.plain_map.specs.Calls.{key_in, is_update}
use Rattle.plain_map.specs.PlainObject.{Sessions, InRange, found_in, reply_of, map_after}
use Rattle.plain_map.specs.History.{Placed, answered, call_in, seat_of, number_of, sessions_after}
use Rattle.bucket_states.specs.Items.{prefix_of, reply_in}
use Rattle.bucket_states.specs.States.{BucketState}
use Rattle.bucket_states.specs.Parts.{HoldsPart, OtherPartsStay}
use Rattle.bucket_states.specs.Laws.{applied_of, reply_at, HasSeats, OnlyAnnounced, FoldsAlike}
use Rattle.table_model.specs.Setup.{Setup, rules_of}
use Rattle.table_model.specs.Directories.{bucket_of}
use Rattle.table_model.specs.Order.{Closing, ByBucketRow, ByDirectoryRow, calls_of, lookups_of, calls_in}
use Rattle.list_laws.proofs.Lists.{In}
use Rattle.placing_laws.proofs.Story.{Holds, Leading}
use Rattle.closed_laws.proofs.Book.{Book, Written}
use Rattle.closed_laws.proofs.Ledger.{Ledger, row_call, version_call}
use Rattle.closed_laws.proofs.Pieces.{look_is}
use Rattle.closed_laws.proofs.Ends.{Meaning, story}
use Rattle.closed_laws.proofs.RowFolds.{RowStep, row_folds}
use Rattle.closed_laws.proofs.VersionFolds.{VersionStep, LeavesFoldReplaced, version_folds}

-- the laws of the pure changes that the order rests on
pub record Laws : Type 0 where
  pub others : OtherPartsStay
  pub only : OnlyAnnounced
  pub folds : FoldsAlike
  pub leaves_fold : LeavesFoldReplaced

-- what the layers know of the steps that made the rows, and of what was answered
pub record Acts (setup : Setup) (closing : Closing) (k : Book) (w : Written setup closing.words k)
    (l : Ledger setup closing k) (first : Sessions) (pre : ℕ → ℕ) : Type 0 where
  pub range : InRange (rules_of setup)
  pub leading : Leading setup (story setup closing k w l pre)
  pub parent_leads : (v : ℕ) (key : Key) → v < k.dir_top →
      bucket_of (rules_of setup) (k.dir_at (v + 1)) key ≢ bucket_of (rules_of setup) (k.dir_at v) key →
      k.base_at (bucket_of (rules_of setup) (k.dir_at (v + 1)) key) 0 ≡ Some
      (k.row_at (bucket_of (rules_of setup) (k.dir_at v) key) (k.top (bucket_of (rules_of setup) (k.dir_at v) key)))
  pub prefix_is : (b i : ℕ) → k.named b ≡ true → i ≤ k.top b → (k.state_at b i).prefix ≡ pre b
  pub row_steps : (b i : ℕ) → k.named b ≡ true → i < k.top b → RowStep setup closing k b i
  pub version_steps : (v : ℕ) → v < k.dir_top → VersionStep setup closing k v
  -- an answered update has the reply of each row with its number
  pub replies : (b i : ℕ) (r : Record) → k.named b ≡ true → i ≤ k.top b → In (answered r) (calls_of closing) →
      applied_of (k.state_at b i) r.seat ≡ r.number → reply_at (k.state_at b i) r.seat ≡ Some r.reply
  -- and an answered lookup that of its row
  pub looked : (r : Record) → In r (lookups_of closing) →
      (b : ℕ) × (i : ℕ) × (k.named b ≡ true) × (i ≤ k.top b) × (r.place ≡ k.row_at b i)
      × (prefix_of (rules_of setup) (k.deep b) (key_in r.call) ≡ pre b)
      × (r.reply ≡ reply_in (rules_of setup) (k.state_at b i).items r.call)
  pub first_holds : (key : Key) → Holds setup (story setup closing k w l pre)
      (bucket_of (rules_of setup) (k.dir_at 0) key) 0 first

module _ (setup : Setup) (closing : Closing) (k : Book) (w : Written setup closing.words k)
    (l : Ledger setup closing k) (first : Sessions) (pre : ℕ → ℕ) (laws : Laws)
    (a : Acts setup closing k w l first pre) where
  -- a part by the bucket's prefix and depth, and by those of its state
  to_state : (b i j : ℕ) (sessions : Sessions) → k.named b ≡ true → i ≤ k.top b →
      Holds setup (story setup closing k w l pre) b j sessions →
      HoldsPart (rules_of setup) (k.state_at b i).prefix (k.state_at b i).depth (k.state_at b j).items sessions
  to_state b i j sessions n o h =
      subst (λ x. HoldsPart (rules_of setup) x (k.state_at b i).depth (k.state_at b j).items sessions)
      (sym (a.prefix_is b i n o))
      (subst (λ x. HoldsPart (rules_of setup) (pre b) x (k.state_at b j).items sessions) (sym (w.deep_is b i n o)) h)

  -- and back
  from_state : (b i j : ℕ) (sessions : Sessions) → k.named b ≡ true → i ≤ k.top b →
      HoldsPart (rules_of setup) (k.state_at b i).prefix (k.state_at b i).depth (k.state_at b j).items sessions →
      Holds setup (story setup closing k w l pre) b j sessions
  from_state b i j sessions n o h =
      subst (λ x. HoldsPart (rules_of setup) (pre b) x (k.state_at b j).items sessions) (w.deep_is b i n o)
      (subst (λ x. HoldsPart (rules_of setup) x (k.state_at b i).depth (k.state_at b j).items sessions)
      (a.prefix_is b i n o) h)

  -- the calls of a row are for its bucket
  row_keys : (b i : ℕ) (c : Placed) → k.named b ≡ true → i < k.top b →
      In c (calls_in setup.shape closing (ByBucketRow (k.row_at b (i + 1)))) →
      prefix_of (rules_of setup) (k.deep b) (key_in (call_in c)) ≡ pre b
  row_keys b i c n o m =
      let step = a.row_steps b i n o in
      let r = row_call setup closing k w l b i c n o m in
      let was = k.state_at b i in
      let now_is : applied_of (k.state_at b (i + 1)) (seat_of c) ≡ number_of c = r.1.is in
      let seats : HasSeats was step.ops = (
        omega (arith, step.good.numbers, step.long),
        omega (arith, step.good.answers, step.long),
      ) in
      elim (laws.only (rules_of setup) step.ops was (seat_of c) seats) [
        | inl u ↦ absurd (omega (
          arith,
          u.applied,
          r.1.above,
          now_is,
          ap (λ (s : BucketState). applied_of s (seat_of c)) step.is,
        ))
        | inr t ↦
            let number : number_of c ≡ t.op.number =
            sym now_is ∙ ap (λ (s : BucketState). applied_of s (seat_of c)) step.is ∙ t.applied in
            let same = step.real (seat_of c) t.op c t.announced r.0.there refl number in
            ap (λ d. prefix_of (rules_of setup) d (key_in (call_in c))) (sym (w.deep_is b i n (omega (arith, o))))
            ∙ ap (λ call. prefix_of (rules_of setup) was.depth (key_in call)) same ∙ t.for_it
            ∙ a.prefix_is b i n (omega (arith, o))
      ]

  -- the calls of a version have keys whose buckets it replaces
  version_keys : (v : ℕ) (c : Placed) → v < k.dir_top →
      In c (calls_in setup.shape closing (ByDirectoryRow (k.dir_row (v + 1)))) →
      bucket_of (rules_of setup) (k.dir_at (v + 1)) (key_in (call_in c)) ≢ bucket_of (rules_of setup) (k.dir_at v)
      (key_in (call_in c))
  version_keys v c o m =
      let step = a.version_steps v o in
      let r = version_call setup closing k w l v c o m in
      let t = step.new_taken (seat_of c) (number_of c) r.1 in
      let same = step.real (seat_of c) t.0 c t.1 r.0.there refl (sym t.2) in
      subst (λ call. bucket_of (rules_of setup) (k.dir_at (v + 1)) (key_in call) ≢ bucket_of (rules_of setup)
      (k.dir_at v) (key_in call)) (sym same) (step.changes (seat_of c) t.0 t.1 t.3)

  -- a lookup's reply is the plain object's, and it changes nothing
  look_reply : (prefix depth : ℕ) (call : Call) (items_state : BucketState) (sessions : Sessions) →
      is_update call ≡ false → prefix_of (rules_of setup) depth (key_in call) ≡ prefix →
      HoldsPart (rules_of setup) prefix depth items_state.items sessions →
      reply_in (rules_of setup) items_state.items call ≡ reply_of (rules_of setup) sessions call
  unfolding reply_of reply_in
  look_reply prefix depth (Insert key value) s sessions u e h = absurd (true≢false u)
  look_reply prefix depth (Remove key) s sessions u e h = absurd (true≢false u)
  look_reply prefix depth (Lookup key) s sessions u e h = ap (λ o. option_map_or found_in o Absent) (h.same key e)
  look_reply prefix depth (Tally key amount) s sessions u e h = absurd (true≢false u)
  look_reply prefix depth (Count key value amount) s sessions u e h = absurd (true≢false u)
  look_reply prefix depth (Put key value) s sessions u e h = absurd (true≢false u)

  -- and a lookup changes nothing
  look_nothing : (call : Call) (sessions : Sessions) → is_update call ≡ false →
      map_after (rules_of setup) sessions call ≡ sessions
  unfolding map_after
  look_nothing (Insert key value) sessions u = absurd (true≢false u)
  look_nothing (Remove key) sessions u = absurd (true≢false u)
  look_nothing (Lookup key) sessions u = refl
  look_nothing (Tally key amount) sessions u = absurd (true≢false u)
  look_nothing (Count key value amount) sessions u = absurd (true≢false u)
  look_nothing (Put key value) sessions u = absurd (true≢false u)

  -- so the steps give what the rows mean
  pub meaning : Meaning setup closing k w l first pre
  meaning = record {
    leading = a.leading;
    parent_leads = a.parent_leads;
    row_keys = row_keys;
    row_fold = λ b i sessions n o h.
        let r = row_folds setup closing k w l laws.only laws.folds a.range b i n o (a.row_steps b i n o)
        (λ r m e. a.replies b (i + 1) r n (omega (arith, o)) m e) sessions
        (to_state b i i sessions n (omega (arith, o)) h) in (
          from_state b i (i + 1) (sessions_after (rules_of setup) sessions
              (calls_in setup.shape closing (ByBucketRow (k.row_at b (i + 1))))) n (omega (arith, o)) r.0,
          r.1,
        );
    dir_keys = version_keys;
    dir_fold = λ v sessions o h.
        let r = version_folds setup closing k w l laws.leaves_fold v o (a.version_steps v o) sessions
        (λ key n. let b = bucket_of (rules_of setup) (k.dir_at v) key in
        to_state b (k.top b) (k.top b) sessions (a.leading.there v key (omega (arith, o))) (omega arith)
        (h key n)) in (
          (λ key n. let b = bucket_of (rules_of setup) (k.dir_at (v + 1)) key in
              from_state b 0 0 (sessions_after (rules_of setup) sessions
              (calls_in setup.shape closing (ByDirectoryRow (k.dir_row (v + 1)))))
              (a.leading.there (v + 1) key (omega (arith, o))) (omega arith) (r.0 key n)),
          r.1,
        );
    looks = λ r m.
        let f = a.looked r m in
        let u = (look_is setup closing k w l r m).1 in
        record {
          bucket = f.0;
          at = f.1;
          named = f.2;
          inside = f.3;
          is = f.4;
          suits = f.5;
          reply = λ sessions h. f.6 ∙ look_reply (pre f.0) (k.deep f.0) r.call (k.state_at f.0 f.1) sessions u f.5 h;
          nothing = λ sessions. look_nothing r.call sessions u;
        };
    first_holds = a.first_holds;
  }
