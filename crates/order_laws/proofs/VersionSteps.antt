-- A version is what the directory change made of the one before it, as the order needs it: which ops it took, where
-- each of them is new, which reply it has, and which buckets are replaced by which.
use Rattle.std.proofs.Common.{◌≡◌, ◌≢◌, ℕ, ◌+◌, ◌<◌, ◌≤◌, true, false, List, length, get_or, Some, true≢false, inl, inr, sym, ap, ◌∙◌, subst, arith, eqb-true}
use Rattle.std.specs.Prelude.{◌==◌}
use Rattle.std.specs.Option.{option_map_or}
use Rattle.plain_map.specs.declared.keys.Key.{Key}
use Rattle.plain_map.specs.declared.records.Record.{Record}
use Rattle.plain_map.specs.Calls.{key_in}
use Rattle.plain_map.specs.History.{Placed, answered, call_in, seat_of, number_of}
use Rattle.bucket_states.specs.declared.ops.Op.{Op}
use Rattle.bucket_states.specs.States.{BucketState}
use Rattle.bucket_states.specs.Laws.{Announces, applied_of, reply_at}
use Rattle.table_model.specs.Setup.{Setup, seats_of, rules_of}
use Rattle.table_model.specs.Directories.{DirectoryState, bucket_of}
use Rattle.table_model.specs.DirectoryChange.{LoadedBucket, is_bucket, loaded_of, comes_from, with_leaves}
use Rattle.table_model.specs.DirectoryLaws.{is_replaced, taken}
use Rattle.table_model.specs.Leaves.{NewLeaf, is_in}
use Rattle.table_model.specs.Order.{Closing, ByDirectoryRow, calls_of, calls_in}
use Rattle.change_laws.proofs.Walk.{announced-seat}
use Rattle.run_invariant.proofs.Invariant.{Common, Shared, last}
use Rattle.run_invariant.proofs.Change.{leaf_at, no_leaf}
use Rattle.run_laws.proofs.Won.{all_found}
use Rattle.closed_laws.proofs.FromWords.{Bases, book_of}
use Rattle.list_laws.proofs.Lists.{In, find_in, any_at}
use Rattle.closed_laws.proofs.Book.{Written}
use Rattle.closed_laws.proofs.Ledger.{Ledger, NewInVersion}
use Rattle.closed_laws.proofs.VersionFolds.{AlikeIn, LeavesFoldReplaced, VersionStep, version_alike}
use Rattle.order_laws.proofs.Tale.{past_of, Tale, Made, leaves_of, IsLoadedAt, VersionMade, Told}
use Rattle.order_laws.proofs.Facts.{is_call}
use Rattle.order_laws.proofs.ChangeFacts.{IsTakenOp, listed_from_taken, taken_from_listed, of_leaf, own_leaf, has_number, key_goes, not_old}
use Rattle.order_laws.proofs.Calls.{at_in}
use Rattle.list_laws.proofs.Places.{in_at}
use Rattle.list_laws.proofs.Options.{some_same}

module _ (setup : Setup) (closing : Closing) (c : Common) (s : Shared setup c) (e : Bases setup c) (t : Tale)
    (told : Told setup (past_of c) t)
    -- the bucket that a later bucket comes from
    (parents : (b v : ℕ) → c.named b ≡ true → c.born b ≡ v + 1 →
    (c.named (c.from b) ≡ true) × (e.base_at b 0 ≡ Some (c.row_at (c.from b) (c.top (c.from b)))))
    (calls : (x : Placed) → In x (calls_of closing) → call_in x ≡ t.call_at (seat_of x) (number_of x))
    -- an answered update has the reply of each row with its number
    (replies : (b i : ℕ) (r : Record) → c.named b ≡ true → i ≤ c.top b → In (answered r) (calls_of closing) →
    applied_of (c.state_at b i) r.seat ≡ r.number → reply_at (c.state_at b i) r.seat ≡ Some r.reply)
    (v : ℕ) (h : v < c.dir_top) where
  -- what made the version
  abbrev m : Made
  m = t.dir_made v

  -- the directory before it
  abbrev was : DirectoryState
  was = c.dir_at v

  -- its new leaves
  abbrev leaves : List NewLeaf
  leaves = leaves_of setup (past_of c) t was m

  -- how it was made
  made : VersionMade setup (past_of c) t v was (c.dir_at (v + 1)) m
  made = told.versions v h

  -- the op of a seat that was taken
  abbrev Took : ℕ → Op → Type 0
  Took q op = IsTakenOp (rules_of setup) (seats_of setup) was m.loaded m.ops made.can q op

  -- the last row of a loaded bucket that was frozen
  last_is : (b : ℕ) (l : LoadedBucket) → loaded_of m.loaded b ≡ Some l → l.state.frozen ≡ true →
      l.state ≡ last c l.bucket
  last_is b l f frozen = (let x = all_found (IsLoadedAt setup (past_of c) t was)
      (is_bucket b) m.loaded l made.loads f in (x.last frozen).0)

  -- the bucket of a leaf comes from the bucket that the leaf came from
  from_is : (i : ℕ) → i < length leaves → (b : ℕ) → (get_or leaves i no_leaf).from ≡ Some b → c.from (m.fresh + i) ≡ b
  from_is i less b f = some_same (sym (made.leaves i no_leaf less).from ∙ f)

  -- the bucket of a key is that of the directory with the leaves
  key_now : (key : Key) → bucket_of (rules_of setup) (c.dir_at (v + 1)) key ≡ bucket_of (rules_of setup)
      (with_leaves m.fresh leaves was) key
  key_now key = ap (λ (d : DirectoryState). bucket_of (rules_of setup) d key) made.is

  -- a taken op is new in the leaf of its key
  new_of : (q : ℕ) (op : Op) → Took q op → NewInVersion (book_of setup c e) v q op.number
  new_of q op x =
      let own = own_leaf (rules_of setup) (seats_of setup) was m.loaded m.ops made.can m.fresh made.free q op x in
      let born = made.leaves own.i no_leaf own.inside in
      let from = from_is own.i own.inside x.bucket.bucket own.from in
      let p = parents (m.fresh + own.i) v born.named born.born in
      record {
        inside = h;
        bucket = m.fresh + own.i;
        named = born.named;
        born = born.born;
        old = c.from (m.fresh + own.i);
        old_named = p.0;
        base = p.1;
        above = omega (
          arith,
          x.above,
          ap (λ (y : BucketState). applied_of y q)
              (last_is (bucket_of (rules_of setup) was (key_in op.call)) x.bucket x.found x.frozen
              ∙ ap (λ b. last c b) (sym from)),
        );
        is = ap (λ (y : BucketState). applied_of y q) born.state ∙ own.number;
      }

  -- and a number that is new is that of a taken op
  taken_of : (q n : ℕ) → NewInVersion (book_of setup c e) v q n → (op : Op) × Took q op × (op.number ≡ n)
  taken_of q n new =
      let o = made.only new.bucket new.named new.born in
      let born = made.leaves o.0 no_leaf o.1 in
      let of = of_leaf (rules_of setup) (seats_of setup) was m.loaded m.ops made.can o.0 o.1 in
      let p = parents new.bucket v new.named new.born in
      let old : new.old ≡ c.from new.bucket =
      (s.rows.once new.old (c.from new.bucket) (c.top new.old) (c.top (c.from new.bucket)) new.old_named p.0
      (omega arith) (omega arith) (some_same (sym new.base ∙ p.1))).0 in
      let from : c.from new.bucket ≡ of.bucket.bucket = ap c.from o.2 ∙ from_is o.0 o.1 of.bucket.bucket of.is.from in
      let low = last_is of.bucket.bucket of.bucket of.is.found of.is.was_frozen
      ∙ ap (λ b. last c b) (sym (old ∙ from)) in
      let here : applied_of (leaf_at leaves o.0) q ≡ n =
      ap (λ (y : BucketState). applied_of y q) (sym born.state)
      ∙ ap (λ b. applied_of (c.state_at b 0) q) (sym o.2) ∙ new.is in
      elim (of.number q) [
        | inl kept ↦ absurd (omega (arith, new.above, here, kept.0, ap (λ (y : BucketState). applied_of y q) low))
        | inr x ↦ (x.op, x.taken, sym x.number ∙ here)
      ]

  -- a key's bucket that was replaced is another
  changed : (key : Key) → is_replaced (bucket_of (rules_of setup) was key) leaves ≡ true →
      bucket_of (rules_of setup) (c.dir_at (v + 1)) key ≢ bucket_of (rules_of setup) was key
  changed key away same = elim (key_goes (rules_of setup) (seats_of setup) was m.loaded m.ops made.can m.fresh
      made.free key) [
        | inl stays ↦ true≢false (sym away ∙ stays.1)
        | inr r ↦ not_old (rules_of setup) (seats_of setup) was m.loaded m.ops made.can
            m.fresh made.free key r.1.0 r.1.1
            (sym same ∙ key_now key ∙ r.1.2)
      ]

  -- a number that is new is in the bucket of its call's key
  pub own_number : (q n : ℕ) (x : Placed) → NewInVersion (book_of setup c e) v q n → In x (calls_of closing) →
      seat_of x ≡ q → number_of x ≡ n →
      applied_of (c.state_at (bucket_of (rules_of setup) (c.dir_at (v + 1)) (key_in (call_in x))) 0) q ≡ n
  own_number q n x new there seat number =
      let o = taken_of q n new in
      let own = own_leaf (rules_of setup) (seats_of setup) was m.loaded m.ops made.can m.fresh made.free q o.0 o.1 in
      let born = made.leaves own.i no_leaf own.inside in
      let is = is_call setup (past_of c) t told q o.0 o.1.inside (made.real q o.0 o.1.announced) in
      let call : call_in x ≡ o.0.call = calls x there ∙ ap (λ z. t.call_at z (number_of x)) seat
      ∙ ap (t.call_at q) (number ∙ sym o.2) ∙ is.call_is in
      ap (λ b. applied_of (c.state_at b 0) q)
      (ap (λ z. bucket_of (rules_of setup) (c.dir_at (v + 1)) (key_in z)) call ∙ key_now (key_in o.0.call)
      ∙ own.leads)
      ∙ ap (λ (y : BucketState). applied_of y q) born.state ∙ own.number ∙ o.2

  -- so the version is what the order needs of it
  pub version_step : VersionStep setup closing (book_of setup c e) v
  version_step = record {
    loaded = m.loaded;
    ops = m.ops;
    can = made.can;
    real = λ q op x a there seat number.
        let is = is_call setup (past_of c) t told q op (announced_seat q op a) (made.real q op a) in
        calls x there ∙ ap (λ z. t.call_at z (number_of x)) seat ∙ ap (t.call_at q) number ∙ is.call_is;
    taken_new = λ q op a n. new_of q op (taken_from_listed (rules_of setup)
        (seats_of setup) was m.loaded m.ops made.can q op a n);
    new_taken = λ q n new. let x = taken_of q n new in (
      x.0,
      x.1.announced,
      x.2,
      listed_from_taken (rules_of setup)
          (seats_of setup) was m.loaded m.ops made.can q x.0 x.1,
    );
    changes = λ q op a n.
        let x = taken_from_listed (rules_of setup) (seats_of setup) was m.loaded m.ops made.can q op a n in
        let own = own_leaf (rules_of setup) (seats_of setup) was m.loaded m.ops made.can m.fresh made.free q op x in
        λ same. not_old (rules_of setup) (seats_of setup) was m.loaded m.ops made.can m.fresh made.free
        (key_in op.call) own.i own.inside (sym same ∙ key_now (key_in op.call) ∙ own.leads);
    replies = λ r op leaf there a number n at.
        let x = taken_from_listed (rules_of setup) (seats_of setup) was m.loaded m.ops made.can r.seat op a n in
        let f = find_in (λ (z : NewLeaf). is_in (rules_of setup) (key_in op.call) z.bucket) leaves leaf at in
        let i = at_in leaves leaf no_leaf f.0 in
        let has = ap (λ (z : NewLeaf). is_in (rules_of setup) (key_in op.call) z.bucket) (sym i.2) ∙ f.1 in
        let is = has_number (rules_of setup) (seats_of setup) was m.loaded m.ops made.can m.fresh made.free r.seat op x
        i.0 i.1 has in
        let born = made.leaves i.0 no_leaf i.1 in
        let state : c.state_at (m.fresh + i.0) 0 ≡ leaf.bucket =
        born.state ∙ ap (λ (z : NewLeaf). z.bucket) (sym i.2) in
        ap (λ (y : BucketState). reply_at y r.seat) (sym state)
        ∙ replies (m.fresh + i.0) 0 r born.named (omega arith) there
        (ap (λ (y : BucketState). applied_of y r.seat) born.state ∙ is.0 ∙ number);
    replaced = λ l there away.
        let i = at_in m.loaded l l there in
        let x = subst (IsLoadedAt setup (past_of c) t was) (sym i.2) (made.loads i.0 l i.1) in
        let found : loaded_of m.loaded l.bucket ≡ Some l =
        subst (λ (z : LoadedBucket). loaded_of m.loaded z.bucket ≡ Some z) (sym i.2) (made.once i.0 l i.1) in (
          x.key,
          changed x.key (ap (λ b. is_replaced b leaves) x.leads ∙ away),
          (x.last (frozen_of l found away)).0 ∙ ap (λ b. last c b) (sym x.leads),
        );
    leaf = λ key n. elim (key_goes (rules_of setup) (seats_of setup) was m.loaded m.ops made.can m.fresh made.free
        key) [
          | inl stays ↦ absurd (n (key_now key ∙ stays.0))
          | inr r ↦
              let born = made.leaves r.1.0 no_leaf r.1.1 in (
                get_or leaves r.1.0 no_leaf,
                in_at leaves r.1.0 no_leaf r.1.1,
                sym born.state
                    ∙ ap (λ b. c.state_at b 0) (sym (key_now key ∙ r.1.2)),
              )
        ];
  }
    where
      announced_seat : (q : ℕ) (op : Op) → Announces m.ops q op → q < seats_of setup
      announced_seat q op a = announced-seat (rules_of setup) (seats_of setup) was m.loaded m.ops made.can q op a

      frozen_of : (l : LoadedBucket) → loaded_of m.loaded l.bucket ≡ Some l → is_replaced l.bucket leaves ≡ true →
          l.state.frozen ≡ true
      frozen_of l found away =
          let x = any_at (comes_from l.bucket) leaves away in
          let i = at_in leaves x.0 no_leaf x.1 in
          let of = of_leaf (rules_of setup) (seats_of setup) was m.loaded m.ops made.can i.0 i.1 in
          let comes : comes_from l.bucket (get_or leaves i.0 no_leaf) ≡ true =
          ap (comes_from l.bucket) (sym i.2) ∙ x.2 in
          let same : of.bucket.bucket ≡ l.bucket =
          eqb-true of.bucket.bucket l.bucket
          (ap (λ o. option_map_or (λ from. from == l.bucket) o false) (sym of.is.from) ∙ comes) in
          let one : of.bucket ≡ l = some_same (sym of.is.found ∙ ap (loaded_of m.loaded) same ∙ found) in
          ap (λ (z : LoadedBucket). z.state.frozen) (sym one) ∙ of.is.was_frozen

  -- each replaced bucket is that of some key, in its last row
  pub replaced_is : (l : LoadedBucket) → In l m.loaded → is_replaced l.bucket leaves ≡ true →
      (key : Key) × (bucket_of (rules_of setup) (c.dir_at (v + 1)) key ≢ bucket_of (rules_of setup) was key)
      × (l.state ≡ last c (bucket_of (rules_of setup) was key))
  unfolding version_step
  replaced_is = version_step.replaced

  -- and the calls of the directory row are the ops that were taken
  pub alike_is : (w : Written setup closing.words (book_of setup c e)) (l : Ledger setup closing (book_of setup c e)) →
      LeavesFoldReplaced →
      AlikeIn (rules_of setup) leaves (calls_in setup.shape closing (ByDirectoryRow (c.dir_row (v + 1))))
      (taken (rules_of setup) was m.loaded m.ops)
  unfolding version_step
  alike_is w l folds = version_alike setup closing (book_of setup c e) w l folds v h version_step
