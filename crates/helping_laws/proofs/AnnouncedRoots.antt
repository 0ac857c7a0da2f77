-- Every update that was ever announced: what the directory rows and the tries that come after one of its directory
-- tries have of it, and those that come with buckets that are new since it was announced.
use Rattle.std.proofs.Common.{◌≡◌, ◌≢◌, ℕ, ◌+◌, ◌-◌, ◌<◌, ◌≤◌, true, List, inl, inr, refl, sym, ap, ◌∙◌, subst, arith, true≢false}
use Rattle.std.specs.Prelude.{Some, ◌++◌}
use Rattle.std.specs.Option.{option_map_or}
use Rattle.std.proofs.lemmas.Bool.{cases_lt, cases_Bool}
use Rattle.plain_map.specs.declared.keys.Key.{Key}
use Rattle.plain_map.specs.Calls.{key_in}
use Rattle.word_rows.specs.Memory.{Shows}
use Rattle.bucket_states.specs.declared.ops.Op.{Op}
use Rattle.bucket_states.specs.Laws.{applied_of}
use Rattle.table_model.specs.declared.events.Event.{Event}
use Rattle.table_model.specs.Setup.{Setup}
use Rattle.table_model.specs.Directories.{DirectoryState}
use Rattle.table_model.specs.Phases.{Phase, DirAnnouncement, DirOp, DirWord, DirRow, DirStore, DirExchange}
use Rattle.table_model.specs.SeatStates.{Flight, Stand, Idle, InFlight}
use Rattle.step_counts.specs.declared.rows.SeatRows.{SeatRows}
use Rattle.table_model.specs.Worlds.{World, IsRun, world_after, seat_in}
use Rattle.table_model.specs.Reading.{is_among, directory_at, directory_row, directory_rows, bucket_by}
use Rattle.table_model.specs.Helping.{Attempt, directory_attempt, has_announced}
use Rattle.table_model.specs.Promises.{Among, InUpdate, InPhase, IsAppliedIn, words_in}
use Rattle.table_model.specs.Helped.{IsLater, IsTwoLater, IsPast, IsInFirstRow, IsNewFor, Names, NamesNot, number_found, op_of, AnnouncedInLaterDirectories, AnnouncedToLaterRoots, AnnouncedInNewBuckets, AnnouncedToRootsOfNewBuckets}
use Rattle.run_invariant.proofs.Invariant
use Rattle.run_invariant.proofs.Invariant.{Common, Local, Shared, Descends, bits, lead}
use Rattle.run_invariant.proofs.Loads.{bits_below}
use Rattle.run_laws.proofs.Layers.{HoldsWith}
use Rattle.run_laws.proofs.Induction.{Follows}
use Rattle.run_laws.proofs.TwoParts.{run_first}
use Rattle.closed_laws.proofs.Lines.{among_is_in}
use Rattle.placing_laws.proofs.Stuck.{among_in}
use Rattle.closed_laws.proofs.Read
use Rattle.closed_laws.proofs.Leadings.{bits_fewer}
use Rattle.closed_laws.proofs.Told.{in_of, names_of}
use Rattle.helping_laws.proofs.ByPlace
use Rattle.helping_laws.proofs.Extends.{Extends, extends_self, lead_same, later_with}
use Rattle.helping_laws.proofs.RootsTold.{Since}
use Rattle.helping_laws.proofs.LaterRoots
use Rattle.helping_laws.proofs.LaterRoots.{Finds, Knows, KnowsStand, Tells, telling}
use Rattle.helping_laws.proofs.Moment.{keeps_in}
use Rattle.helping_laws.proofs.Posted.{IsLast, Posted, Posting, posted_in}
use Rattle.helping_laws.proofs.OpsTold.{ops_of}
use Rattle.helping_laws.proofs.Settled.{Settling, settled_in}
use Rattle.helping_laws.proofs.Tries.{InDirTry, dir_attempt_is, at, none}

-- ---- which buckets a directory row names

module _ (setup : Setup) (words : List ℕ) (c : Common) (shows : Shows setup.shape words c.memory)
    (s : Shared setup c) (t : Descends setup c) where
  -- the entries of a directory row are those of its place
  entries_are : (v : ℕ) → v ≤ c.dir_top → directory_at setup.shape words (c.dir_row v) ≡ c.dir_at v
  entries_are v o = Read.directory_is setup words (ByPlace.book setup words c shows s t)
      (ByPlace.told setup words c shows s t) v o

  -- a bucket of the key that a row names is the key's by that row
  named_leads : (v b : ℕ) (key : Key) → v ≤ c.dir_top → Names setup.shape words (c.dir_row v) b →
      bits setup (c.deep b) key ≡ c.pre b → lead setup c v key ≡ b
  named_leads v b key o names for_it =
      let d = c.dir_at v in
      let n = names_of setup c s t v b o (among_is_in d.entries b
      (ap (λ (x : DirectoryState). is_among x.entries b) (sym (entries_are v o)) ∙ names)) in
      let stands = subst (λ x. Invariant.Stands d x (c.pre x) (c.deep x)) n.2 (s.leads.stands v n.0 o n.1) in
      (stands.places (bits setup d.depth key) (bits_below setup d.depth key (s.directories.shallow v o))).1
      (bits_fewer setup d.depth (c.deep b) key stands.shallow (s.directories.shallow v o) ∙ for_it)

  -- and a row names the bucket to which it leads
  leads_named : (v : ℕ) (key : Key) → v ≤ c.dir_top → Names setup.shape words (c.dir_row v) (lead setup c v key)
  leads_named v key o =
      let d = c.dir_at v in
      ap (λ (x : DirectoryState). is_among x.entries (lead setup c v key)) (entries_are v o)
      ∙ among_in d.entries (lead setup c v key)
      (in_of setup c s t v (lead setup c v key) o
      (bits setup d.depth key, bits_below setup d.depth key (s.directories.shallow v o), refl))

-- ---- from a moment on

module _ (setup : Setup) (events later : List Event) (run : IsRun setup (events ++ later)) (c : Common)
    (locals : ℕ → Local) (a : Follows setup (world_after setup events) c locals)
    (p own root : ℕ) (Followed : ℕ → Type 0) (z : Since setup c p own root Followed)
    (begins : Tells setup c p own root Followed z (world_after setup events) c locals tt)
    (mine : Flight) (is : c.op_at p own ≡ op_of p mine) where
  -- the key of the update
  abbrev key : Key
  key = key_in mine.call

  -- what is told from that moment on
  abbrev Told : World → Common → (ℕ → Local) → Unit {0} → Type 0
  Told = Tells setup c p own root Followed z

  -- the end of the run
  abbrev end : HoldsWith (Unit {0}) setup Told (world_after setup (events ++ later))
  end = later_with (Unit {0}) setup Told (telling setup c p own root Followed z) events later run
      (record { common = c; locals = locals; follows = a; extra = tt; holds = begins })

  -- its history
  abbrev d : Common
  d = end.common

  -- its words
  abbrev words : List ℕ
  words = words_in setup (events ++ later)

  -- which extends that of the moment
  abbrev pub extends : Extends c d
  extends = end.holds.0.1

  -- the op has the update's key
  key_is : key_in (c.op_at p own).call ≡ key
  key_is = ap (λ (o : Op). key_in o.call) is

  -- and its number
  number_is : (c.op_at p own).number ≡ mine.number
  number_is = ap (λ (o : Op). o.number) is

  -- a version that replaces the key's bucket has the op in the first row of the new one
  in_first : (v : ℕ) → root < v → v < d.dir_top → lead setup d (v + 1) key ≢ lead setup d v key →
      IsInFirstRow setup words p mine (d.dir_row (v + 1))
  in_first v l o other =
      let f = end.follows in
      let has = end.holds.0.2 v l o (λ e. other (ap (lead setup d (v + 1)) (sym key_is) ∙ e
      ∙ ap (lead setup d v) key_is)) in
      let there = f.shared.leads.there (v + 1) key (omega (arith, o)) in
      ByPlace.in_first_row setup words d f.shows f.shared f.descent (v + 1) key (IsAppliedIn setup words p mine)
      (omega (arith, o))
      (omega (
        arith,
        has,
        number_is,
        ap (λ k. applied_of (d.state_at (lead setup d (v + 1) k) 0) p) key_is,
        ByPlace.applied_is setup words d f.shows f.shared f.descent (lead setup d (v + 1) key) 0 p there (omega arith),
      ))

  -- a try with a later root has found the op, or a later one
  finds : (q : ℕ) (theirs : Local) (other : Phase) (another : Attempt) → directory_attempt other ≡ Some another →
      Knows setup c p own root Followed z d q theirs other →
      Finds setup c p own root Followed z d theirs.root another.found
  finds q theirs (DirAnnouncement round try found) another e k =
      at (λ (x : Attempt). Finds setup c p own root Followed z d theirs.root x.found) k e
  finds q theirs (DirOp round try found row loaded) another e k =
      at (λ (x : Attempt). Finds setup c p own root Followed z d theirs.root x.found) k.0 e
  finds q theirs (DirWord round try found loaded bucket) another e k =
      at (λ (x : Attempt). Finds setup c p own root Followed z d theirs.root x.found) k.0 e
  finds q theirs (DirRow round try found loaded bucket row read) another e k =
      at (λ (x : Attempt). Finds setup c p own root Followed z d theirs.root x.found) k.0 e
  finds q theirs (DirStore round try found loaded stored) another e k =
      at (λ (x : Attempt). Finds setup c p own root Followed z d theirs.root x.found) k.0 e
  finds q theirs (DirExchange round try found loaded) another e k =
      at (λ (x : Attempt). Finds setup c p own root Followed z d theirs.root x.found) k.0 e
  finds q theirs other another e k = none e

  -- the directory try of another seat
  module _ (q : ℕ) (theirs : Flight) (other : Phase) (another : Attempt)
      (v : InPhase setup (events ++ later) q theirs other) (e : directory_attempt other ≡ Some another) where
    -- the place of the root that it loaded
    abbrev their_root : ℕ
    their_root = (end.locals q).root

    -- its try, by places
    theirs_is : InDirTry setup d q (seat_in (world_after setup (events ++ later)) q).account.used theirs
        (end.locals q) another
    theirs_is = dir_attempt_is setup d q _ theirs (end.locals q) other another
        (keeps_in setup (world_after setup (events ++ later)) d end.locals end.follows q theirs other v.seat_is
        v.stand) e

    -- it has found the op or a later one, where its root is a later one
    found_late : root < their_root → IsPast another p → mine.number ≤ number_found another p
    found_late l past =
        let knows = subst (KnowsStand setup c p own root Followed z d q (end.locals q)) v.stand
        (end.holds.1 q v.seat_is).1 in
        let late = finds q (end.locals q) other another e knows l past in
        let found : number_found another p ≡ (d.op_at p late.at).number =
        ap (λ o. option_map_or (λ op. op.number) o 0) late.is in
        let rises = (end.holds.0.0 p z.seat_is).rises own late.at late.since late.there in
        let kept : (d.op_at p own).number ≡ (c.op_at p own).number =
        ap (λ (o : Op). o.number) (extends.calls p own z.there).0 in
        omega (arith, found, rises, kept, number_is)

-- ---- from a directory try of the update on

module _ (setup : Setup) (events later : List Event) (run : IsRun setup (events ++ later)) (p : ℕ) (mine : Flight)
    (phase : Phase) (attempt : Attempt) (u : InUpdate setup events p mine phase)
    (tries : directory_attempt phase ≡ Some attempt) where
  -- the moment of the try, where all earlier ops are settled
  abbrev start : HoldsWith (Unit {0}) setup (Settling setup) (world_after setup events)
  start = settled_in setup events (run_first setup events later run)

  -- its history
  abbrev first : Common
  first = start.common

  -- the place of the op among the seat's own
  abbrev place : ℕ
  place = ops_of first p - 1

  -- the place of the root that the try loaded
  abbrev from : ℕ
  from = (start.locals p).root

  -- the bucket of its round is followed
  abbrev Round_bucket : ℕ → Type 0
  Round_bucket b = b ≡ attempt.bucket

  -- the try, by places
  mine_try : InDirTry setup first p (seat_in (world_after setup events) p).account.used mine (start.locals p) attempt
  mine_try = LaterRoots.in_try setup (world_after setup events) first start.locals start.follows start.holds p
      u.seat_is mine phase attempt u.stand tries

  -- what holds at that moment
  abbrev then : Since setup first p place from Round_bucket
  then = LaterRoots.since setup (world_after setup events) first start.locals start.follows start.holds p u.seat_is
      mine phase attempt u.stand tries

  -- and what is told from then on
  abbrev told : Tells setup first p place from Round_bucket then (world_after setup events) first start.locals tt
  told = LaterRoots.begins setup (world_after setup events) first start.locals start.follows start.holds p u.seat_is
      mine phase attempt u.stand tries

  -- the end of the run
  abbrev now : HoldsWith (Unit {0}) setup (Told setup events later run first start.locals start.follows p place from
      Round_bucket then told mine mine_try.works.op_is) (world_after setup (events ++ later))
  now = end setup events later run first start.locals start.follows p place from Round_bucket then told mine
      mine_try.works.op_is

  -- its words
  abbrev last_words : List ℕ
  last_words = words_in setup (events ++ later)

  -- the root that the try loaded is there still
  old : from ≤ now.common.dir_top
  old = omega (arith, mine_try.old, now.holds.0.1.dir_up)

  -- at its place
  row_is : attempt.row ≡ now.common.dir_row from
  row_is = mine_try.row_is ∙ sym (now.holds.0.1.dirs from mine_try.old).0

  -- a later directory row that was made from one that names the bucket replaces it, and has the op
  pub in_later_directories : (row base : ℕ) →
      IsTwoLater (directory_rows setup.shape last_words) attempt.row row base →
      Names setup.shape last_words base attempt.bucket →
      NamesNot setup.shape last_words row attempt.bucket × IsInFirstRow setup last_words p mine row
  in_later_directories row base l names =
      let d = now.common in
      let f = now.follows in
      let b = attempt.bucket in
      let k = key_in mine.call in
      let r = ByPlace.two_later_version setup last_words d f.shows f.shared f.descent from row base old
      (subst (λ x. IsTwoLater (directory_rows setup.shape last_words) x row base) row_is l) in
      let v = r.0 in
      let led : lead setup d from k ≡ b = lead_same setup first d now.holds.0.1 from k mine_try.old ∙ mine_try.leads in
      let for_it : bits setup (d.deep b) k ≡ d.pre b =
      subst (λ x. bits setup (d.deep x) k ≡ d.pre x) led (f.shared.leads.for_it from k old) in
      let before : v ≤ d.dir_top = omega (arith, r.2) in
      let after : v + 1 ≤ d.dir_top = omega (arith, r.2) in
      let was : lead setup d v k ≡ b = named_leads setup last_words d f.shows f.shared f.descent v b k before
      (subst (λ x. Names setup.shape last_words x b) r.4 names) for_it in
      let other : lead setup d (v + 1) k ≢ b =
      (λ e. now.holds.0.3 b v refl r.1 r.2
      (ap (λ (o : Op). lead setup d (v + 1) (key_in o.call)) mine_try.works.op_is ∙ e)) in (
        elim (cases_Bool (is_among (directory_at setup.shape last_words row).entries b)) [
          | inr no_more ↦ no_more
          | inl still ↦ absurd (other (named_leads setup last_words d f.shows f.shared f.descent (v + 1) b k after
              (subst (λ x. Names setup.shape last_words x b) r.3 still) for_it))
        ],
        subst (IsInFirstRow setup last_words p mine) (sym r.3)
            (in_first setup events later run first start.locals start.follows p place from Round_bucket then told mine
            mine_try.works.op_is v r.1 r.2 (λ e. other (e ∙ was))),
      )

  -- a try with a later root has found it
  pub to_later_roots : (q : ℕ) (theirs : Flight) (other : Phase) (another : Attempt) →
      InPhase setup (events ++ later) q theirs other → directory_attempt other ≡ Some another →
      IsLater (directory_rows setup.shape last_words) another.row attempt.row → IsPast another p →
      mine.number ≤ number_found another p
  to_later_roots q theirs other another v e l past =
      let d = now.common in
      let f = now.follows in
      let y = theirs_is setup events later run first start.locals start.follows p place from Round_bucket then told
      mine mine_try.works.op_is q theirs other another v e in
      let r = ByPlace.later_version setup last_words d f.shows f.shared f.descent from another.row old
      (subst (λ x. IsLater (directory_rows setup.shape last_words) another.row x) row_is l) in
      let same = f.shared.directories.once (now.locals q).root r.0 y.old r.1 (sym y.row_is ∙ r.2) in
      found_late setup events later run first start.locals start.follows p place from Round_bucket then told mine
      mine_try.works.op_is q theirs other another v e (omega (arith, r.3, same)) past

-- ---- from any moment on at which the update is announced

module _ (setup : Setup) (events later : List Event) (run : IsRun setup (events ++ later)) (p : ℕ) (mine : Flight)
    (phase : Phase) (u : InUpdate setup events p mine phase) (has : has_announced phase ≡ true) where
  -- a moment at which the update is announced
  abbrev start_new : HoldsWith (Unit {0}) setup (Posting setup) (world_after setup events)
  start_new = posted_in setup events (run_first setup events later run)

  -- its history
  abbrev first_new : Common
  first_new = start_new.common

  -- the place of the op
  abbrev place_new : ℕ
  place_new = ops_of first_new p - 1

  -- no bucket is followed
  abbrev No_bucket : ℕ → Type 0
  No_bucket b = ⊥

  -- the op is the last that the seat announced
  last_op : IsLast first_new p mine
  last_op = subst (Posted first_new p) u.stand (start_new.holds.1 p u.seat_is).1 u.update has

  -- what holds at that moment
  then_new : Since setup first_new p place_new first_new.dir_top No_bucket
  then_new = record {
    seat_is = u.seat_is;
    there = omega (arith, last_op.some);
    old = omega arith;
    named = λ b f. absurd f;
    frozen = λ b f. absurd f;
    lacks = λ b f. absurd f;
    led = λ b f. absurd f;
  }

  -- no try has a later root yet
  all_new : (q : ℕ) (used : SeatRows) (theirs : Flight) (local : Local) (other : Phase) →
      Invariant.Keeps setup first_new q used theirs local other →
      Knows setup first_new p place_new first_new.dir_top No_bucket then_new first_new q local other
  all_new q used theirs local (DirAnnouncement round try found) k = λ l. absurd (omega (arith, l, k.opens.looks.old))
  all_new q used theirs local (DirOp round try found row words) k =
      ((λ l. absurd (omega (arith, l, k.opens.looks.old))), (λ l. absurd (omega (arith, l, k.opens.looks.old))))
  all_new q used theirs local (DirWord round try found loaded bucket) k =
      ((λ l. absurd (omega (arith, l, k.opens.looks.old))), (λ l. absurd (omega (arith, l, k.opens.looks.old))))
  all_new q used theirs local (DirRow round try found loaded bucket row words) k = (
    (λ l. absurd (omega (arith, l, k.opens.looks.old))),
    (λ l. absurd (omega (arith, l, k.opens.looks.old))),
    λ l f. absurd f,
  )
  all_new q used theirs local (DirStore round try found loaded stored) k =
      ((λ l. absurd (omega (arith, l, k.opens.looks.old))), (λ l. absurd (omega (arith, l, k.opens.looks.old))))
  all_new q used theirs local (DirExchange round try found loaded) k =
      ((λ l. absurd (omega (arith, l, k.opens.looks.old))), (λ l. absurd (omega (arith, l, k.opens.looks.old))))
  all_new q used theirs local other k = tt

  -- of no seat is anything said
  stands_new : (q : ℕ) (used : SeatRows) (local : Local) (stand : Stand) →
      Invariant.KeepsStand setup first_new q used local stand →
      KnowsStand setup first_new p place_new first_new.dir_top No_bucket then_new first_new q local stand
  stands_new q used local Idle k = tt
  stands_new q used local (InFlight theirs other) k = all_new q used theirs local other k

  -- so it is told from then on
  told_new : Tells setup first_new p place_new first_new.dir_top No_bucket then_new
      (world_after setup events) first_new start_new.locals tt
  told_new = (
    (start_new.holds.0, extends_self first_new, (λ v l o. absurd (omega (arith, l, o))), λ b v f. absurd f),
    λ q hq. (let state = seat_in (world_after setup events) q in (
      (start_new.holds.1 q hq).0,
      stands_new q state.account.used (start_new.locals q) state.stand
          (start_new.follows.seats q hq),
    )),
  )

  -- the end of the run
  abbrev now_new : HoldsWith (Unit {0}) setup
      (Told setup events later run first_new start_new.locals start_new.follows p place_new first_new.dir_top
      No_bucket then_new told_new mine last_op.is) (world_after setup (events ++ later))
  now_new = end setup events later run first_new start_new.locals start_new.follows p place_new first_new.dir_top
      No_bucket then_new told_new mine last_op.is

  -- its words
  abbrev words_new : List ℕ
  words_new = words_in setup (events ++ later)

  -- a directory row that leads the key to a bucket that was not there is later than those that were
  later_than : (row bucket : ℕ) → IsNewFor setup (words_in setup events) words_new (key_in mine.call) row bucket →
      (v : ℕ) × (v ≤ now_new.common.dir_top) × (row ≡ now_new.common.dir_row v)
      × (lead setup now_new.common v (key_in mine.call) ≡ bucket) × (first_new.dir_top < v)
  later_than row bucket new =
      let d = now_new.common in
      let f = now_new.follows in
      let k = key_in mine.call in
      let r = ByPlace.version_is setup words_new d f.shows f.shared f.descent row new.published in
      let v = r.0 in
      let leads : lead setup d v k ≡ bucket =
      sym (ByPlace.by_is setup words_new d f.shows f.shared f.descent v k r.1)
      ∙ ap (λ x. bucket_by setup words_new x k) (sym r.2) ∙ new.for_key in (
        v,
        r.1,
        r.2,
        leads,
        elim (cases_lt first_new.dir_top v) [
          | inl less ↦ less
          | inr more ↦
              let same = lead_same setup first_new d now_new.holds.0.1 v k more in
              let n : first_new.named bucket ≡ true =
              subst (λ b. first_new.named b ≡ true) (sym same ∙ leads)
              (start_new.follows.shared.leads.there v k more) in
              let s = start_new.follows in
              absurd (true≢false (sym (ByPlace.among_named setup
              (words_in setup events) first_new s.shows s.shared s.descent bucket n) ∙ new.not_before))
        ],
      )

  -- a change that replaces a bucket of the key which was not there has the op
  pub in_new_buckets : (base row bucket : ℕ) →
      IsNewFor setup (words_in setup events) words_new (key_in mine.call) base bucket →
      Among (directory_rows setup.shape words_new) row →
      (directory_row setup.shape words_new row).base ≡ Some base → NamesNot setup.shape words_new row bucket →
      IsInFirstRow setup words_new p mine row
  in_new_buckets base row bucket new among made names_not =
      let d = now_new.common in
      let f = now_new.follows in
      let k = key_in mine.call in
      let r = later_than base bucket new in
      let m = ByPlace.version_from setup words_new d f.shows f.shared f.descent row base among made in
      let v = m.0 in
      let same : r.0 ≡ v = f.shared.directories.once r.0 v r.1 (omega (arith, m.1)) (sym r.2 ∙ m.3) in
      let was : lead setup d v k ≡ bucket = ap (λ n. lead setup d n k) (sym same) ∙ r.3 in
      let other : lead setup d (v + 1) k ≢ lead setup d v k =
      (λ e. true≢false (sym (subst (λ b. Names setup.shape words_new row b) (e ∙ was)
      (subst (λ x. Names setup.shape words_new x (lead setup d (v + 1) k)) (sym m.2)
      (leads_named setup words_new d f.shows f.shared f.descent (v + 1) k (omega (arith, m.1)))))
      ∙ names_not)) in
      subst (IsInFirstRow setup words_new p mine) (sym m.2)
      (in_first setup events later run first_new start_new.locals start_new.follows p place_new first_new.dir_top
      No_bucket then_new told_new mine last_op.is v (omega (arith, r.4, same)) m.1 other)

  -- and a try with a root that names it has found the op
  pub to_roots_of_new : (q bucket : ℕ) (theirs : Flight) (other : Phase) (another : Attempt) →
      InPhase setup (events ++ later) q theirs other → directory_attempt other ≡ Some another →
      IsNewFor setup (words_in setup events) words_new (key_in mine.call) another.row bucket → IsPast another p →
      mine.number ≤ number_found another p
  to_roots_of_new q bucket theirs other another v e new past =
      let f = now_new.follows in
      let y = theirs_is setup events later run first_new start_new.locals start_new.follows p place_new
      first_new.dir_top No_bucket then_new told_new mine last_op.is q theirs other another v e in
      let r = later_than another.row bucket new in
      let same = f.shared.directories.once (now_new.locals q).root r.0 y.old r.1 (sym y.row_is ∙ r.2) in
      found_late setup events later run first_new start_new.locals start_new.follows p place_new first_new.dir_top
      No_bucket then_new told_new mine last_op.is q theirs other another v e (omega (arith, r.4, same)) past

-- ---- the promises

-- later directory rows replace the bucket, and have the op
pub announced_in_later_directories : AnnouncedInLaterDirectories
announced_in_later_directories setup events later p row base mine phase attempt run u tries l names =
    in_later_directories setup events later run p mine phase attempt u tries row base l names

-- tries with later roots have found it
pub announced_to_later_roots : AnnouncedToLaterRoots
announced_to_later_roots setup events later p q mine theirs phase other attempt another run u tries v e l past =
    to_later_roots setup events later run p mine phase attempt u tries q theirs other another v e l past

-- of a bucket that is new since the announcement: whatever replaces it has the op
pub announced_in_new_buckets : AnnouncedInNewBuckets
announced_in_new_buckets setup events later p base row bucket mine phase run u has new among made names_not =
    in_new_buckets setup events later run p mine phase u has base row bucket new among made names_not

-- and tries with roots that name it have found the op
pub announced_to_roots_of_new_buckets : AnnouncedToRootsOfNewBuckets
announced_to_roots_of_new_buckets setup events later p q bucket mine theirs phase other another run u has v e new
    past = to_roots_of_new setup events later run p mine phase u has q bucket theirs other another v e new past
