-- The ledger and the replies, from the units at the end of a run.
use Rattle.std.proofs.Common.{◌≡◌, ℕ, ◌+◌, ◌<◌, ◌≤◌, true, map, Option, Some, refl, inl, inr, sym, ap, ◌∙◌, subst, arith}
use Rattle.plain_map.specs.declared.keys.Key.{Key}
use Rattle.plain_map.specs.declared.calls.Reply.{Reply}
use Rattle.plain_map.specs.declared.records.Record.{Record}
use Rattle.plain_map.specs.History.{Placed, answered, pending, call_in, seat_of, number_of, seen_of}
use Rattle.bucket_states.specs.Items.{prefix_of}
use Rattle.bucket_states.specs.Laws.{applied_of, reply_at}
use Rattle.table_model.specs.Setup.{Setup, seats_of, rules_of}
use Rattle.plain_map.specs.Calls.{is_update}
use Rattle.table_model.specs.Directories.{bucket_of}
use Rattle.table_model.specs.Order.{Closing, calls_of}
use Rattle.list_laws.proofs.Lists.{In, Once, in_both, in_map}
use Rattle.closed_laws.proofs.Book.{Book, Written}
use Rattle.closed_laws.proofs.Ledger.{Ledger, NewInRow, NewInVersion, IsCallOf}
use Rattle.closed_laws.proofs.Units.{Tally, InRow, InVersion, Counts}
use Rattle.closed_laws.proofs.Pieces.{answered_apart, answered_one}

module _ (setup : Setup) (closing : Closing) (k : Book) (w : Written setup closing.words k) (from : ℕ → ℕ)
    (pre : ℕ → ℕ) (key : ℕ → ℕ → Key)
    (parent : (b v old : ℕ) → k.named b ≡ true → k.born b ≡ v + 1 → k.named old ≡ true →
    k.base_at b 0 ≡ Some (k.row_at old (k.top old)) → from b ≡ old) where
  -- the numbers of the book's rows
  abbrev pub tally : Tally (Option Reply)
  tally = record {
    frame = record { dir_top = k.dir_top; named = k.named; born = k.born; from = from; top = k.top };
    lead = λ v key. bucket_of (rules_of setup) (k.dir_at v) key;
    suits = λ b key. prefix_of (rules_of setup) (k.deep b) key ≡ pre b;
    applied = λ b i q. applied_of (k.state_at b i) q;
    reply = λ b i q. reply_at (k.state_at b i) q;
    key = key;
  }

  -- a number that is new in a row is so by its line
  pub row_there : (b i q m : ℕ) → NewInRow k b i q m → InRow tally b i q m
  row_there b i q m r = record { named = r.named; inside = r.inside; above = r.above; is = r.is }

  -- and back
  pub row_back : (b i q m : ℕ) → InRow tally b i q m → NewInRow k b i q m
  row_back b i q m r = record { named = r.named; inside = r.inside; above = r.above; is = r.is }

  -- a number that is new in a version is so by its new buckets
  pub version_there : (v q m : ℕ) → NewInVersion k v q m → InVersion tally v q m
  version_there v q m r = record {
    inside = r.inside;
    bucket = r.bucket;
    named = r.named;
    born = r.born;
    above = subst (λ z. applied_of (k.state_at z (k.top z)) q < m)
        (sym (parent r.bucket v r.old r.named r.born r.old_named r.base)) r.above;
    is = r.is;
  }

  -- it is the same bucket
  pub version_bucket : (v q m : ℕ) (r : NewInVersion k v q m) → (version_there v q m r).bucket ≡ r.bucket
  unfolding version_there
  version_bucket v q m r = refl

  -- and back
  pub version_back : (v q m : ℕ) → InVersion tally v q m → NewInVersion k v q m
  version_back v q m r =
      let p = w.parent r.bucket v r.named r.born in
      record {
        inside = r.inside;
        bucket = r.bucket;
        named = r.named;
        born = r.born;
        old = p.old;
        old_named = p.named;
        base = p.base;
        above = subst (λ z. applied_of (k.state_at z (k.top z)) q < m)
            (parent r.bucket v p.old r.named r.born p.named p.base) r.above;
        is = r.is;
      }

  -- what the layers know of the calls, beside the units
  pub record Accounts : Type 0 where
    pub once : Once (calls_of closing)
    pub same : (c d : Placed) → In c (calls_of closing) → In d (calls_of closing) → seat_of c ≡ seat_of d →
        number_of c ≡ number_of d → c ≡ d
    pub seats : (c : Placed) → In c (calls_of closing) → seat_of c < seats_of setup
    pub numbered : (c : Placed) → In c (calls_of closing) → 1 ≤ number_of c
    pub sees : (c : Placed) (seat : ℕ) → In c (calls_of closing) → seats_of setup ≤ seat → seen_of c seat ≡ 0
    pub applied : (b i q : ℕ) → k.named b ≡ true → i ≤ k.top b → q < seats_of setup →
        0 < applied_of (k.state_at b i) q →
        (c : Placed) × IsCallOf closing q (applied_of (k.state_at b i) q) c × (is_update (call_in c) ≡ true)
    pub updated : (r : Record) → In r closing.records → is_update r.call ≡ true →
        (b : ℕ) × (i : ℕ) × (k.named b ≡ true) × (i ≤ k.top b) × (r.place ≡ k.row_at b i)
        × (applied_of (k.state_at b i) r.seat ≡ r.number) × (reply_at (k.state_at b i) r.seat ≡ Some r.reply)

  -- so the counts give what the order needs of its calls
  pub ledger : Accounts → Counts tally → Ledger setup closing k
  ledger a c = record {
    once = a.once;
    same = a.same;
    seats = a.seats;
    numbered = a.numbered;
    sees = a.sees;
    applied = a.applied;
    unit = λ b i q n o h some. elim (c.unit b i q (record { named = n; inside = o }) some) [
      | inl r ↦ inl (r.0, r.1, row_back r.0 r.1 q (applied_of (k.state_at b i) q) r.2)
      | inr r ↦ inr (r.0, version_back r.0 q (applied_of (k.state_at b i) q) r.1)
    ];
    one_row = λ x b i j q m r s. c.one_row x b i j q m (row_there x i q m r) (row_there b j q m s);
    row_or_version = λ x i v q m r s. c.row_or_version x i v q m (row_there x i q m r) (version_there v q m s);
    one_version = λ u v q m r s. c.one_version u v q m (version_there u q m r) (version_there v q m s);
    one_number = λ v q m n r s. c.one_number v q m n (version_there v q m r) (version_there v q n s);
    updated = a.updated;
  }

  -- an answered update has the reply of each row with its number
  pub replies : Accounts → Counts tally → (b i : ℕ) (r : Record) → k.named b ≡ true → i ≤ k.top b →
      In r closing.records → is_update r.call ≡ true → 1 ≤ r.number → applied_of (k.state_at b i) r.seat ≡ r.number →
      reply_at (k.state_at b i) r.seat ≡ Some r.reply
  replies a c b i r n o m u one e =
      let p = a.updated r m u in
      c.one_reply b p.0 i p.1 r.seat (record { named = n; inside = o }) (record { named = p.2; inside = p.3 })
      (omega (arith, e, one)) (e ∙ sym p.5) ∙ p.6

  -- an answered call that there is has its record
  record_in : (r : Record) → In (answered r) (calls_of closing) → In r closing.records
  record_in r i = elim (in_both (answered r) (map answered closing.records) (map pending closing.begun) i) [
    | inl m ↦ let f = in_map answered closing.records (answered r) m in
        subst (λ z. In z closing.records) (sym (answered_one r f.0 f.2)) f.1
    | inr m ↦ let f = in_map pending closing.begun (answered r) m in absurd (answered_apart r f.0 f.2)
  ]

  -- in the form of Acts
  pub all_replies : Accounts → Counts tally → (b i : ℕ) (r : Record) → k.named b ≡ true → i ≤ k.top b →
      In (answered r) (calls_of closing) → applied_of (k.state_at b i) r.seat ≡ r.number →
      reply_at (k.state_at b i) r.seat ≡ Some r.reply
  all_replies a c b i r n o m e =
      let one = a.numbered (answered r) m in
      let f = a.applied b i r.seat n o (a.seats (answered r) m) (omega (arith, e, one)) in
      let same : f.0 ≡ answered r = a.same f.0 (answered r) f.1.there m f.1.seat (f.1.number ∙ e) in
      replies a c b i r n o (record_in r m) (ap (λ z. is_update (call_in z)) (sym same) ∙ f.2) one e
