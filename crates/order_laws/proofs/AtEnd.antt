-- What the order needs is known of each world that the layers tell of: its history, its units, its places, and how
-- its rows were made.
use Rattle.std.proofs.Common.{◌≡◌, ℕ, zero, suc, ◌+◌, ◌<◌, ◌≤◌, true, false, List, length, get_or, Option, Some, None, inl, inr, refl, sym, ap, ◌∙◌, subst, arith}
use Rattle.std.specs.Prelude.{not, IsPermutation}
use Rattle.std.proofs.lemmas.Bool.{cases_lt, not-true}
use Rattle.std.proofs.lemmas.List.{get_or_past}
use Rattle.plain_map.specs.declared.keys.Key.{Key}
use Rattle.plain_map.specs.declared.records.Record.{Record}
use Rattle.plain_map.specs.Calls.{key_in, is_update}
use Rattle.plain_map.specs.PlainObject.{Sessions, pairs_of}
use Rattle.plain_map.specs.History.{Placed, answered, call_in, seat_of, number_of, sessions_after}
use Rattle.word_rows.specs.Shape.{count_of}
use Rattle.plain_map.specs.declared.full.FullKind.TheVariants.{BucketWords}
use Rattle.bucket_states.specs.declared.ops.Op.{Op}
use Rattle.bucket_states.specs.States.{BucketState}
use Rattle.bucket_states.specs.Parts.{HoldsPart, HasPrefix}
use Rattle.bucket_states.specs.Laws.{Announces, applied_of, reply_at, sessions_after_taken}
use Rattle.bucket_states.proofs.WalkLemmas.{only_announced}
use Rattle.bucket_states.proofs.GoodLemmas.{folds_alike}
use Rattle.bucket_states.proofs.LocalLemmas.{other_parts_stay}
use Rattle.table_model.specs.Setup.{Setup, seats_of, rules_of}
use Rattle.table_model.specs.DirectoryChange.{change_leaves}
use Rattle.table_model.specs.DirectoryLaws.{taken}
use Rattle.table_model.specs.Leaves.{NewLeaf}
use Rattle.table_model.specs.SeatStates.{Stand, Idle, InFlight}
use Rattle.table_model.specs.Worlds.{World, seat_in}
use Rattle.table_model.specs.Order.{Closing, calls_of, lookups_of, order_of, placing_of}
use Rattle.table_model.specs.Closed.{closing_of, records_of, sessions_with, closed_pairs}
use Rattle.change_laws.proofs.Folds.{leaves_fold}
use Rattle.run_invariant.proofs.Invariant.{Common, Local, Shared, Descends, lead, last, bits}
use Rattle.run_invariant.proofs.Change.{no_leaf}
use Rattle.run_invariant.proofs.RowLemmas.{in_range}
use Rattle.run_laws.proofs.Induction.{Follows}
use Rattle.change_laws.proofs.FirstLeaves.{first_opens}
use Rattle.closed_laws.proofs.FromWords.{Bases, book_of}
use Rattle.closed_laws.proofs.FromWords
use Rattle.closed_laws.proofs.Told.{bases, descends, names_of}
use Rattle.list_laws.proofs.Places.{number_in}
use Rattle.closed_laws.proofs.Leadings.{leading, bits_fewer}
use Rattle.list_laws.proofs.Lists.{In, in_filter, filter_in}
use Rattle.closed_laws.proofs.Book.{Book, Written}
use Rattle.closed_laws.proofs.Ledger.{Ledger}
use Rattle.closed_laws.proofs.Units.{NewAt}
use Rattle.closed_laws.proofs.FromUnits.{Accounts, ledger, all_replies, row_there, row_back, version_there, version_back, version_bucket}
use Rattle.closed_laws.proofs.Places.{Links}
use Rattle.closed_laws.proofs.RowFolds.{RowStep}
use Rattle.closed_laws.proofs.VersionFolds.{LeavesFoldReplaced}
use Rattle.closed_laws.proofs.Meanings.{Laws, Acts, meaning}
use Rattle.closed_laws.proofs.Ends.{Meaning}
use Rattle.closed_laws.proofs.Looks.{Rising, Shown, shown}
use Rattle.closed_laws.proofs.Joined.{Known, ends}
use Rattle.closed_laws.proofs.ClosedPairs.{pairs_are, holds_all}
use Rattle.closed_laws.proofs.HeldPairs.{items_distinct, pairs_are_held}
use Rattle.run_invariant.proofs.Loads.{bits_below}
use Rattle.order_laws.proofs.Tale.{past_of, Tale, Look, look_at, tally, lists, StandsAfter, HasLook, Told, Seated}
use Rattle.order_laws.proofs.Facts.{is_call}
use Rattle.order_laws.proofs.AllRuns.{Tells}
use Rattle.order_laws.proofs.Calls.{at_in, IsAt, record_at, calls_once, call_at, same_call, answered_there, announced_there}
use Rattle.list_laws.proofs.Places.{in_at}
use Rattle.order_laws.proofs.VersionSteps.{version_step, own_number}
use Rattle.list_laws.proofs.Options.{some_same, none_some}
use Rattle.std.proofs.Math.Numerals.{add-one}

-- the fold of a directory change, where what holds of the loaded buckets is said of each member
leaves_fold_replaced : LeavesFoldReplaced
leaves_fold_replaced rules seats sessions directory loaded ops can held =
    let r = leaves_fold rules seats sessions directory loaded ops can
    (λ i d h. held (get_or loaded i d) (in_at loaded i d h)) in (
      (λ leaf there. let i = at_in (change_leaves rules directory loaded ops) leaf leaf there in
          subst (λ (z : NewLeaf). HoldsPart rules z.bucket.prefix z.bucket.depth z.bucket.items
          (sessions_after_taken rules sessions (taken rules directory loaded ops))) (sym i.2) (r.0 i.0 leaf i.1)),
      r.1,
    )

-- the laws of the pure changes
pub all_laws : Laws
all_laws = record {
  others = other_parts_stay;
  only = only_announced;
  folds = folds_alike;
  leaves_fold = leaves_fold_replaced;
}

module _ (setup : Setup) (w : World) (c : Common) (locals : ℕ → Local) (f : Follows setup w c locals) (t : Tale)
    (y : Tells setup w c locals t) where
  -- what is shared
  s : Shared setup c
  s = f.shared

  -- where rows and buckets come from
  d : Descends setup c
  d = f.descent

  -- the tale
  told : Told setup (past_of c) t
  told = y.told

  -- the bases of the published rows
  abbrev pub base : Bases setup c
  base = bases setup c f.shared f.descent

  -- the history as a book
  abbrev pub book : Book
  book = book_of setup c base

  -- what is closed
  abbrev pub closing : Closing
  closing = closing_of w

  -- and its words tell the book
  pub written : Written setup closing.words book
  written = FromWords.written setup w.words c f.shows f.shared base (descends setup c f.shared f.descent)

  -- the key of a seat's call
  abbrev key_at : ℕ → ℕ → Key
  key_at q n = key_in (t.call_at q n)

  -- the bucket that a bucket comes from is told by its first row's base
  pub parent : (b v old : ℕ) → c.named b ≡ true → c.born b ≡ v + 1 → c.named old ≡ true →
      c.base_at b 0 ≡ Some (c.row_at old (c.top old)) → c.from b ≡ old
  parent b v old n e o base =
      (s.rows.once (c.from b) old (c.top (c.from b)) (c.top old) (d.there b v n e) o (omega arith) (omega arith)
      (some_same (sym (d.comes b v n e).base ∙ base))).0

  -- a seat beyond the last has no number
  nobody : (b i q : ℕ) → c.named b ≡ true → i ≤ c.top b → seats_of setup ≤ q → applied_of (c.state_at b i) q ≡ 0
  nobody b i q n o past = get_or_past (c.state_at b i).applied q 0
      (omega (arith, (s.rows.sound b i n o).good.numbers, past))

  -- what is known of each seat
  each_seat : (q : ℕ) → q < seats_of setup →
      Seated setup (past_of c) t q (locals q) (seat_in w q).account (seat_in w q).stand
  each_seat = y.seats

  -- which seat's answer a record is
  record_is : (r : Record) → In r (records_of w) → IsAt setup w c locals t f.long y.seats r
  record_is r m = record_at setup w c locals t f.long y.seats r m

  -- so the calls that are closed are those of the tale
  pub accounts : Accounts setup closing book written c.from c.pre key_at parent
  accounts = record {
    once = calls_once setup w c locals t f.long y.seats;
    same = same_call setup w c locals t f.long y.seats;
    seats = λ x m. (call_at setup w c locals t f.long y.seats x m).inside;
    numbered = λ x m. (call_at setup w c locals t f.long y.seats x m).some;
    sees = λ x q m past. (call_at setup w c locals t f.long y.seats x m).seen_is q
        ∙ told.seen_none (seat_of x) (number_of x) q past;
    applied = λ b i q n o inside some.
        let r = told.applied b i q n o inside some in
        let x = announced_there setup w c locals t f.long y.seats told q r.0 inside r.1 in
        let at = call_at setup w c locals t f.long y.seats x.call x.there in
        let op = told.ops q r.0 inside r.1 in (
          x.call,
          record { there = x.there; seat = x.seat; number = x.number ∙ sym r.2 },
          ap is_update (at.call_is ∙ ap (λ z. t.call_at z (number_of x.call)) x.seat ∙ ap (t.call_at q) x.number ∙ op.2)
              ∙ op.3,
        );
    updated = λ r m u.
        let at = record_is r m in
        let x = at.of.reply.update u in (
          x.bucket,
          x.at,
          x.named,
          x.inside,
          x.place_is,
          ap (applied_of (c.state_at x.bucket x.at)) at.of.seat_is ∙ x.number_is ∙ sym at.of.number_is,
          ap (reply_at (c.state_at x.bucket x.at)) at.of.seat_is ∙ x.reply_is,
        );
  }

  -- so they have their units
  pub the_ledger : Ledger setup closing book
  the_ledger = ledger setup closing book written c.from c.pre key_at parent accounts told.counts

  -- and one reply each
  pub replies : (b i : ℕ) (r : Record) → c.named b ≡ true → i ≤ c.top b → In (answered r) (calls_of closing) →
      applied_of (c.state_at b i) r.seat ≡ r.number → reply_at (c.state_at b i) r.seat ≡ Some r.reply
  replies = all_replies setup closing book written c.from c.pre key_at parent accounts told.counts

  -- a lookup among the records
  look_of : (r : Record) → In r (lookups_of closing) → In r (records_of w) × (is_update r.call ≡ false)
  look_of r m = let x = in_filter (λ (z : Record). not (is_update z.call)) (records_of w) r m in
      (x.0, not-true (is_update r.call) x.1)

  -- a lookup has the reply of the row that it looked at
  has_look : (r : Record) → In r (lookups_of closing) →
      HasLook setup (past_of c) t r.seat r.number r.call r.place r.reply
  has_look r m =
      let x = look_of r m in
      let at = record_is r x.0 in
      subst (λ z. HasLook setup (past_of c) t z r.number r.call r.place r.reply) (sym at.of.seat_is)
      (subst (λ z. HasLook setup (past_of c) t at.seat z r.call r.place r.reply) (sym at.of.number_is)
      (at.of.reply.lookup x.1))

  -- a call with a place is at most its seat's next
  few_at : (q n x : ℕ) → t.clock.call q n ≡ Some x → (q < seats_of setup) × (n ≤ t.answers q + 1)
  few_at q n x e = elim (told.ticks.source q n x e) [
    | inl r ↦ new_few r.0 r.1 r.2
    | inr r ↦ let l = told.looks q n (look_at r.0 r.1) r.2 in
        (l.0, look_few (seat_in w q).stand (y.seats q l.0) (look_at r.0 r.1) r.2)
  ]
    where
      applied_few : (b i : ℕ) → c.named b ≡ true → i ≤ c.top b → 0 < applied_of (c.state_at b i) q →
          applied_of (c.state_at b i) q ≡ n → (q < seats_of setup) × (n ≤ t.answers q + 1)
      applied_few b i m o some e = elim (cases_lt q (seats_of setup)) [
        | inr past ↦ absurd (omega (arith, some, nobody b i q m o past))
        | inl inside ↦ let r = told.applied b i q m o inside some in
            (inside, omega (arith, e, r.2, (told.ops q r.0 inside r.1).1))
      ]

      new_few : (b i : ℕ) → NewAt (tally setup (past_of c) t) b i q n → (q < seats_of setup) × (n ≤ t.answers q + 1)
      new_few b zero r = applied_few r.1.bucket 0 r.1.named (omega arith) (omega (arith, r.1.above, r.1.is)) r.1.is
      new_few b (suc i) r = applied_few b (i + 1) r.named (omega (arith, r.inside)) (omega (arith, r.above, r.is)) r.is

      look_few : (stand : Stand) → Seated setup (past_of c) t q (locals q) (seat_in w q).account stand → (l : Look) →
          t.looked q n ≡ Some l → n ≤ t.answers q + 1
      look_few Idle k l e = omega (arith, k.upto.looks n l e, k.answers.many)
      look_few (InFlight flight phase) k l e = omega (arith, k.upto.looks n l e, k.number_is, k.answers.many)

  -- what stands before a call with a place is answered
  answered_before : (q n x a z : ℕ) → t.clock.call q n ≡ Some x → StandsAfter t q n a z → z ≤ t.answers a
  answered_before q n x a z e r = elim r.1 [
    | inl own ↦ omega (arith, own.1, (few_at q n x e).1, ap t.answers own.0)
    | inr seen ↦ omega (arith, seen, told.seen_few q n a)
  ]

  -- there are few buckets
  pub few_buckets : (b : ℕ) → c.named b ≡ true → b < count_of setup.shape BucketWords
  few_buckets b n = s.rows.inside b n

  -- so the calls have their places
  pub links : Links setup closing book written c.from (count_of setup.shape BucketWords) few_buckets
      (lists setup (past_of c) t) t.clock
  links = record {
    ticks = told.ticks;
    new_row = λ b i q n r. subst (λ j. NewAt (tally setup (past_of c) t) b j q n) (sym (add-one i))
        (row_there setup closing book written c.from c.pre key_at parent b i q n r);
    new_version = λ v q n r. (
      v,
      version_there setup closing book written c.from c.pre key_at parent v q n r,
      version_bucket setup closing book written c.from c.pre key_at parent v q n r,
    );
    in_row = λ b i q n r. row_back setup closing book written c.from c.pre key_at parent b i q n
        (subst (λ j. NewAt (tally setup (past_of c) t) b j q n) (add-one i) r);
    in_first = λ b q n r. (
      r.0,
      ap c.born (sym r.2) ∙ r.1.born,
      version_back setup closing book written c.from c.pre key_at parent r.0 q n r.1,
    );
    look = λ r m. let x = has_look r m in (x.bucket, x.at, x.looked_is, x.place_is);
    looked = λ q n z a b i x e r l.
        let is = told.looks a z (look_at b i) l in
        let ans = answered_there setup w c locals t f.long y.seats a z is.0 r.0 (answered_before q n x a z e r) in
        let at = record_is ans.0 ans.1 in
        let lookup : is_update ans.0.call ≡ false =
        ap is_update (at.of.call_is ∙ ap (t.call_at at.seat) (sym at.of.number_is ∙ ans.3)
        ∙ ap (λ j. t.call_at j z) (sym at.of.seat_is ∙ ans.2)) ∙ is.1 in (
          ans.0,
          filter_in (λ (z : Record). not (is_update z.call)) (records_of w) ans.0 ans.1 (ap not lookup),
          ans.2,
          ans.3,
        );
    own = λ q n z inside one less. (one, inl (refl, less));
    seen = λ x a z m inside one few. (
      one,
      inr (omega (
        arith,
        few,
        (call_at setup w c locals t f.long y.seats x m).seen_is a,
      )),
    );
    parent = λ b v old n e base o. parent b v old n e o base;
  }

  -- ---- how the rows were made

  -- a call that is closed is its seat's
  pub calls_are : (x : Placed) → In x (calls_of closing) → call_in x ≡ t.call_at (seat_of x) (number_of x)
  calls_are x m = (call_at setup w c locals t f.long y.seats x m).call_is

  -- the prefix, depth and items of a bucket of the opening are those of its leaf
  first_part : (b : ℕ) → c.named b ≡ true → c.born b ≡ 0 →
      HoldsPart (rules_of setup) (c.pre b) (c.deep b) (c.state_at b 0).items
      (sessions_with (rules_of setup) setup.first)
  first_part b n e =
      let leaf = told.first_leaf b n e in
      let sound = s.rows.sound b 0 n (omega arith) in
      let holds = (first_opens setup s.opened).holds b no_leaf leaf.0 in
      subst (λ z. HoldsPart (rules_of setup) z (c.deep b) (c.state_at b 0).items
      (sessions_with (rules_of setup) setup.first)) sound.prefix_is
      (subst (λ z. HoldsPart (rules_of setup) (c.state_at b 0).prefix z (c.state_at b 0).items
      (sessions_with (rules_of setup) setup.first)) sound.depth_is
      (subst (λ (x : BucketState). HoldsPart (rules_of setup) x.prefix x.depth x.items
      (sessions_with (rules_of setup) setup.first)) (sym leaf.1) holds))

  -- each later row was made of the one before it by its ops
  row_step : (b i : ℕ) → c.named b ≡ true → i < c.top b → RowStep setup closing book b i
  row_step b i n o =
      let made = told.rows b i n o in
      record {
        ops = t.row_ops b i;
        long = made.long;
        good = (s.rows.sound b i n (omega (arith, o))).good;
        is = made.is;
        real = λ q op x a m seat number.
            let inside : q < seats_of setup = announced_inside (t.row_ops b i) q op made.long a in
            let is = is_call setup (past_of c) t told q op inside (made.real q op a) in
            calls_are x m ∙ ap (λ z. t.call_at z (number_of x)) seat ∙ ap (t.call_at q) number ∙ is.call_is;
      }
    where
      announced_inside : (ops : List (Option Op)) (q : ℕ) (op : Op) → length ops ≡ seats_of setup →
          Announces ops q op → q < seats_of setup
      announced_inside ops q op long a = elim (cases_lt q (seats_of setup)) [
        | inl less ↦ less
        | inr past ↦ absurd (none_some (sym (get_or_past ops q None (omega (arith, long, past))) ∙ a))
      ]

  -- so this is how the rows were made
  pub acts : Acts setup closing book written the_ledger (sessions_with (rules_of setup) setup.first) c.pre
  acts = record {
    range = in_range setup;
    leading = leading setup c f.shared base (descends setup c f.shared f.descent);
    parent_leads = λ v key o n.
        let b = lead setup c (v + 1) key in
        let there = s.leads.there (v + 1) key (omega (arith, o)) in
        let born = (s.leads.step v key o n).newborn in
        (d.comes b v there born).base ∙ ap (λ z. Some (c.row_at z (c.top z))) (d.parent_leads v key o n);
    prefix_is = λ b i n o. (s.rows.sound b i n o).prefix_is;
    row_steps = row_step;
    version_steps = λ v o. version_step setup closing c s base t told
        (λ b v n e. (d.there b v n e, (d.comes b v n e).base)) calls_are replies v o;
    replies = replies;
    looked = λ r m. let x = has_look r m in (x.bucket, x.at, x.named, x.inside, x.place_is, x.suits, x.reply_is);
    first_holds = λ key. first_part (lead setup c 0 key) (s.leads.there 0 key (omega arith))
        (omega (arith, s.leads.born_by 0 key (omega arith)));
  }

  -- and what their calls make of what is held
  pub the_meaning : Meaning setup closing book written the_ledger (sessions_with (rules_of setup) setup.first) c.pre
  the_meaning = meaning setup closing book written the_ledger
      (sessions_with (rules_of setup) setup.first) c.pre all_laws acts

  -- numbers rise along rows and versions
  pub rising : Rising setup closing book written the_ledger other_parts_stay
      (sessions_with (rules_of setup) setup.first) c.pre the_meaning
  rising = record {
    rows_up = λ b i q n o. row_up b i q n o;
    first_up = λ v q key o n. (s.leads.step v key o n).carries q;
    none = λ b q n e.
        let leaf = told.first_leaf b n e in
        ap (λ (x : BucketState). applied_of x q) leaf.1 ∙ (first_opens setup s.opened).unused b no_leaf leaf.0 q;
    own = λ v q n x new is. own_number setup closing c s base t told
        (λ b u m e. (d.there b u m e, (d.comes b u m e).base)) calls_are replies v new.inside q n x new is.there
        is.seat is.number;
  }
    where
      row_up : (b i q : ℕ) → c.named b ≡ true → i < c.top b →
          applied_of (c.state_at b i) q ≤ applied_of (c.state_at b (i + 1)) q
      row_up b i q n o =
          let made = told.rows b i n o in
          let good = (s.rows.sound b i n (omega (arith, o))).good in
          elim (only_announced (rules_of setup) (t.row_ops b i) (c.state_at b i) q
          (omega (arith, good.numbers, made.long), omega (arith, good.answers, made.long))) [
            | inl u ↦ omega (arith, u.applied, ap (λ (x : BucketState). applied_of x q) made.is)
            | inr x ↦ omega (arith, x.above, x.applied, ap (λ (y : BucketState). applied_of y q) made.is)
          ]

  -- a lookup stands between what its row has and what it has not
  pub all_shown : Shown setup closing book written the_ledger other_parts_stay
      (sessions_with (rules_of setup) setup.first) c.pre the_meaning rising (placing_of setup.shape closing)
  all_shown = shown setup closing book written the_ledger other_parts_stay
      (sessions_with (rules_of setup) setup.first) c.pre the_meaning rising

  -- so all that the order needs is known
  pub known : Known setup closing (sessions_with (rules_of setup) setup.first)
  known = record {
    book = book;
    written = written;
    ledger = the_ledger;
    from = c.from;
    bound = count_of setup.shape BucketWords;
    few = few_buckets;
    lists = lists setup (past_of c) t;
    clock = t.clock;
    links = links;
    pre = c.pre;
    acts = acts;
  }

  -- ---- what the table holds in the end

  -- what is held after the order
  abbrev pub held : Sessions
  held = sessions_after (rules_of setup) (sessions_with (rules_of setup) setup.first) (order_of setup.shape closing)

  -- the bucket of each key holds what is held after the order
  pub end_holds : (key : Key) → (let b = lead setup c c.dir_top key in
      HoldsPart (rules_of setup) (c.pre b) (c.deep b) (last c b).items held)
  unfolding known
  end_holds key = ends all_laws setup closing (sessions_with (rules_of setup) setup.first) known key

  -- a bucket that stands in a directory row is that of each key of its prefix
  pub led_in : (v b : ℕ) (key : Key) → v ≤ c.dir_top → In b (c.dir_at v).entries →
      bits setup (c.deep b) key ≡ c.pre b → lead setup c v key ≡ b
  led_in v b key o m suits =
      let at = names_of setup c f.shared f.descent v b o m in
      let depth = (c.dir_at v).depth in
      let shallow = s.directories.shallow v o in
      let stands = s.leads.stands v at.0 o at.1 in
      (stands.places (bits setup depth key) (bits_below setup depth key shallow)).1
      (bits_fewer setup depth (c.deep (get_or (c.dir_at v).entries at.0 0)) key stands.shallow shallow
      ∙ subst (λ x. bits setup (c.deep x) key ≡ c.pre x) (sym at.2) suits) ∙ at.2

  -- the bucket of a key stands in the directory row
  pub lead_stands : (v : ℕ) (key : Key) → v ≤ c.dir_top → In (lead setup c v key) (c.dir_at v).entries
  lead_stands v key o = number_in (c.dir_at v).entries (bits setup (c.dir_at v).depth key)
      (omega (arith, bits_below setup (c.dir_at v).depth key (s.directories.shallow v o), s.directories.long v o))

  -- so each bucket in use does, also where no key has its prefix
  pub bucket_holds : (b : ℕ) → In b (c.dir_at c.dir_top).entries →
      HoldsPart (rules_of setup) (c.pre b) (c.deep b) (last c b).items held
  bucket_holds b m =
      let n = (written.entries c.dir_top b (omega arith) m).0 in
      let sound = s.rows.sound b (c.top b) n (omega arith) in
      let inside : HasPrefix (rules_of setup) (c.pre b) (c.deep b) (last c b).items =
      subst (λ z. HasPrefix (rules_of setup) z (c.deep b) (last c b).items) sound.prefix_is
      (subst (λ z. HasPrefix (rules_of setup) (last c b).prefix z (last c b).items) sound.depth_is
      sound.good.inside) in
      holds_all setup book c.pre held b sound.good.distinct inside
      (λ key suits. led_in c.dir_top b key (omega arith) m suits) end_holds

  -- the pairs of the closed table are those that are held
  pub pairs_are_of_order : IsPermutation (pairs_of held) (closed_pairs setup.shape w.words)
  pairs_are_of_order = pairs_are setup w.words book written c.pre held (pairs_are_held held)
      (λ b n. items_distinct (last c b).items (s.rows.sound b (c.top b) n (omega arith)).good.distinct)
      (λ key. lead_stands c.dir_top key (omega arith)) (λ key. s.leads.for_it c.dir_top key (omega arith))
      (λ b key m suits. led_in c.dir_top b key (omega arith) m suits) bucket_holds
