-- The directory tries of a round, but for the exchange that happens.
use Rattle.std.proofs.Common.{◌≡◌, ◌≢◌, ℕ, ◌+◌, ◌-◌, ◌<◌, ◌≤◌, ◌⊎◌, true, false, List, length, get_or, inl, inr, refl, sym, ap, ◌∙◌, subst, arith}
use Rattle.std.proofs.lemmas.List.{length_push}
use Rattle.std.specs.Prelude.{Option, Some, None}
use Rattle.std.proofs.lemmas.Bool.{cond_both, ltb-true, ltb-false, leb-true, leb-false, eqb-true, eqb-false, cases_eq}
use Rattle.step_counts.specs.declared.TheConstants.{OP_WORDS}
use Rattle.word_rows.specs.Memory.{Memory, put, write, read}
use Rattle.word_rows.proofs.MemoryLemmas.{read-write_same, read-write_other}
use Rattle.word_rows.proofs.MemoryLemmas.{put_is, put_at_is}
use Rattle.plain_map.specs.declared.keys.Key.{Key}
use Rattle.plain_map.specs.Calls.{key_in}
use Rattle.std.proofs.Common.{cond, eqb}
use Rattle.plain_map.specs.declared.full.FullKind.TheVariants.{BucketWords}
use Rattle.table_model.specs.Setup.{next_number, Setup, seats_of, rules_of}
use Rattle.table_model.specs.Directories.{bucket_of}
use Rattle.table_model.specs.declared.rounds.Aim.TheVariants.{ForSecondRound, ForLastLook}
use Rattle.table_model.specs.declared.rounds.Round.{Round}
use Rattle.table_model.specs.Phases.{DirectoryTry, FindRoot, DirRoot, DirDepth, DirEntries, DirAnnouncement, DirOp, DirWord, DirRow, DirStore, DirExchange}
use Rattle.table_model.specs.SeatStates.{Account, Flight}
use Rattle.table_model.specs.Goes.{state_after, flight_after, after_entries, after_directory, after_round, after_dir_found, after_loaded, load_or_store, after_lost_root, more, bucket_in_words, op_in_words}
use Rattle.std.proofs.Common.{[], ◌∷◌, ◌++◌, Bool, ltb, take, ◌^◌}
use Rattle.std.proofs.lemmas.List.{get_or_push, get_or_append_left}
use Rattle.step_counts.specs.StepCounts.{bucket_row_words}
use Rattle.bucket_states.specs.declared.ops.Op.{Op}
use Rattle.run_invariant.proofs.Loads.{once_more, not_loaded, width_is}
use Rattle.run_invariant.proofs.Events.{dir_tries_after}
use Rattle.run_invariant.proofs.Change.{Changes, IsTry, numbers_free}
use Rattle.run_laws.proofs.Puts.{puts_within, puts_own, some_puts, puts_apart}
use Rattle.step_counts.specs.declared.rows.SeatRows.{SeatRows}
use Rattle.run_invariant.proofs.Histories.{come_back, changed_between, first_forward}
use Rattle.run_laws.proofs.BucketStep.{op_more, op_all, row_more, row_all}
use Rattle.table_model.specs.Directories.{DirectoryState}
use Rattle.plain_map.specs.declared.rules.Rules.{Rules}
use Rattle.table_model.specs.DirectoryChange.{LoadedBucket, next_bucket, is_bucket, buckets_of}
use Rattle.table_model.specs.Stores.{made_leaves, directory_puts}
use Rattle.std.specs.Prelude.{All, find, not}
use Rattle.std.specs.List.{list_any}
use Rattle.std.proofs.lemmas.List.Elements.{All-push}
use Rattle.bucket_states.specs.Laws.{applied_of}
use Rattle.run_invariant.proofs.Stores.{store_shared, store_moves}
use Rattle.run_invariant.proofs.Loads.{moves_none, four_within}
use Rattle.run_invariant.proofs.Invariant.{LoadedOnce, put_in, word_room, row_room, dir_room, DirLooks, DirOpens, DirFound, AllDirFound, IsLoaded, IsOwn, Works, Room, Froze, Common, Local, Shared, Keeps, Goes, InRound, lead, last}
use Rattle.list_laws.proofs.Options.{some_same}
use Rattle.list_laws.proofs.Cuts.{seen_more, seen_all}

ruleset tests = (ltb-true, ltb-false, leb-true, leb-false, eqb-true, eqb-false)

ruleset writes = (put_is, put_at_is, eqb-true, eqb-false)

ruleset pushes = (length_push, get_or_push, get_or_append_left)

-- the first of the ops' buckets that passes is that of some key
pub some_led : (rules : Rules) (directory : DirectoryState) (test : ℕ → Bool) (found : List (Option Op)) (bucket : ℕ)
    → find test (buckets_of rules directory found) ≡ Some bucket → (z : Key) × (bucket_of rules directory z ≡ bucket)
some_led rules directory test [] bucket e = cc
some_led rules directory test (None ∷ ops) bucket e = some_led rules directory test ops bucket e
some_led rules directory test (Some op ∷ ops) bucket e =
    go (test (bucket_of rules directory (key_in op.call))) (λ x. some_led rules directory test ops bucket x) e
  where
    go : (t : Bool) → (find test (buckets_of rules directory ops) ≡ Some bucket → (z : Key)
        × (bucket_of rules directory z ≡ bucket)) →
        cond t (Some (bucket_of rules directory (key_in op.call))) (find test (buckets_of rules directory ops)) ≡ Some
        bucket → (z : Key) × (bucket_of rules directory z ≡ bucket)
    go true rest x = (key_in op.call, some_same x)
    go false rest x = rest x

-- a directory is its depth and its entries
same_directory : (depth : ℕ) (entries : List ℕ) (d : DirectoryState) → depth ≡ d.depth → entries ≡ d.entries →
    record { depth = depth; entries = entries } ≡ d
same_directory depth entries d e f =
    ap (λ x. record { depth = x; entries = entries }) e ∙ ap (λ x. record { depth = d.depth; entries = x }) f

module _ (setup : Setup) (me : ℕ) (c : Common) (account : Account) (flight : Flight) (local : Local)
    (h : me < seats_of setup) (s : Shared setup c) (changes : Changes setup) where
  -- the key of the call
  abbrev key : Key
  key = key_in flight.call

  -- the op that the seat announced last is that of its call
  op_key : Works setup c me account.used flight.number flight.call →
      key_in (c.op_at me ((c.used me).op_rows - 1)).call ≡ key
  op_key w = ap (λ (o : Op). key_in o.call) w.op_is

  -- and has its number
  op_number : Works setup c me account.used flight.number flight.call →
      (c.op_at me ((c.used me).op_rows - 1)).number ≡ flight.number
  op_number w = ap (λ (o : Op). o.number) w.op_is

  -- a directory try loads the root; the first of a round begins its directory tries
  pub dir_root : (round : Round) (turn : ℕ) (first : Option ℕ) →
      Keeps setup c me account.used flight local (DirRoot round turn first) →
      Goes setup me c (dir_tries_after me first c) (record local { root = c.dir_top })
      (state_after setup me account flight (DirRoot round turn first) c.memory.root)
  dir_root round turn None k = record {
    shared = record {
      opened = s.opened;
      rows = s.rows;
      directories = s.directories;
      leads = s.leads;
      calls = s.calls;
      helped = s.helped;
      carried = (let old = s.carried.begun me h k.in_round.roots.rooted in let rooted = k.in_round.roots.rooted in
          let froze = k.froze in let number = op_number k.works in record {
            announced = s.carried.announced;
            begun = s.carried.begun;
            carried = s.carried.carried;
            dir_begun = grind (arith, writes, s.carried.dir_begun, old, rooted);
            frozen = grind (arith, writes, s.carried.frozen, froze);
            lacks = grind (arith, writes, s.carried.lacks, froze, number);
            led = λ p hp t. elim (cases_eq p me) [
              | inr n ↦ grind (arith, writes, n, t, s.carried.led p hp)
              | inl e ↦ subst (λ q. (u : ℕ) × (u ≤ put c.dir_since me c.dir_top q)
                  × (bucket_of (rules_of setup) (c.dir_at u) (key_in (c.op_at q
                  ((c.used q).op_rows - 1)).call) ≡ c.tried_at q)) (sym e) (
                    local.dir,
                    grind (arith, writes, k.in_round.old),
                    ap (λ x. lead setup c local.dir x) (op_key k.works)
                        ∙ k.in_round.led ∙ sym k.froze.tried_at,
                  )
            ];
            replaced = grind (arith, writes, s.carried.replaced);
          });
    };
    keeps = record {
      works = grind (arith, k.works);
      room = grind (arith, k.room);
      in_round = grind (arith, k.in_round);
      froze = grind (arith, k.froze);
      looks = (let old = k.in_round.old in let root_is = s.directories.root_is in
          grind (arith, writes, k.begun, old, root_is));
    };
    moves = grind (arith, writes);
  }
  dir_root round turn (Some first) k = record {
    shared = s;
    moves = moves_none setup me c;
    keeps = record {
      works = k.works;
      room = k.room;
      in_round = k.in_round;
      froze = k.froze;
      looks = (let old = k.in_round.old in let root_is = s.directories.root_is in grind (arith, k.begun, old, root_is));
    };
  }

  -- a change after its first directory that replaced its bucket has its op, and so has the row in use now
  own_carried : (v : ℕ) → Works setup c me account.used flight.number flight.call → c.rooted me ≡ true →
      c.first_dir me < v → v < c.dir_top → lead setup c (v + 1) key ≢ lead setup c v key →
      flight.number ≤ applied_of (last c (lead setup c c.dir_top key)) me
  own_carried v w r o q n =
      let has = subst (λ x. lead setup c (v + 1) x ≢ lead setup c v x →
      (c.op_at me ((c.used me).op_rows - 1)).number ≤ applied_of (c.state_at (lead setup c (v + 1) x) 0)
      me) (op_key w) (s.carried.carried me v h r o q) n in
      omega (arith, has, op_number w, first_forward setup c s key (v + 1) me (omega (arith, q)))

  -- the round is left: the key's bucket was replaced
  round_left : (round : Round) (w : ℕ) → Works setup c me account.used flight.number flight.call →
      Room setup c me round.turn → InRound setup c me flight.number flight.call local.dir round →
      Froze setup c me flight.number round.bucket →
      (flight.number ≤ applied_of (last c (lead setup c c.dir_top key)) me)
      ⊎ ((v : ℕ) × (local.dir ≤ v) × (v ≤ c.dir_top) × (lead setup c v key ≢ round.bucket)) →
      Keeps setup c me account.used flight local (after_round round)
  round_left round w k r a f x = cond_both (eqb round.turn 1) (ForSecondRound round.first) ForLastLook
      (λ aim. Keeps setup c me account.used flight local (FindRoot aim))
      (λ t. let one : round.turn ≡ 1 = eqb-true round.turn 1 t in record {
        aims = record { works = k; room = subst (Room setup c me) one r; roots = a.roots };
        knows = elim x [
          | inl y ↦ inl y
          | inr y ↦ inr (λ e. come_back setup c s key local.dir y.0 c.dir_top round.bucket y.1 y.2 (omega arith) a.led
              y.3 (e ∙ ap (λ v. lead setup c v key) (sym (a.same one)) ∙ a.led))
        ];
      })
      (λ t. record { aims = k; knows = elim x [ inl y ↦ y | inr y ↦ second a f y (eqb-false round.turn 1 t) ] })
    where
      second : InRound setup c me flight.number flight.call local.dir round →
          Froze setup c me flight.number round.bucket → (v : ℕ) × (local.dir ≤ v) × (v ≤ c.dir_top)
          × (lead setup c v key ≢ round.bucket) → round.turn ≢ 1 →
          flight.number ≤ applied_of (last c (lead setup c c.dir_top key)) me
      second a f y t =
          let two : round.turn ≡ 2 = omega (arith, a.one, a.two, t) in
          let other : round.bucket ≢ lead setup c (c.first_dir me) key = elim (a.second two)
          [ inl z ↦ absurd (omega (arith, z, f.lacks)) | inr z ↦ z ] in
          let not_first : c.first_dir me ≢ local.dir =
          (λ e. other (sym a.led ∙ ap (λ v. lead setup c v key) (sym e))) in
          let ch = changed_between setup c s key local.dir y.0 y.1 (λ e. y.3 (e ∙ a.led)) in
          own_carried ch.0 k a.roots.rooted (omega (arith, a.from, not_first, ch.1)) (omega (arith, ch.2, y.2))
          (λ e. ch.4 (e ∙ ch.3))

  -- ---- the directory row

  -- the directory is loaded whole: it names the bucket of the round, or the round is left
  directory_loaded : (round : Round) (attempt : DirectoryTry) →
      Works setup c me account.used flight.number flight.call → Room setup c me round.turn →
      InRound setup c me flight.number flight.call local.dir round → Froze setup c me flight.number round.bucket →
      DirLooks setup c me local.dir local.root attempt.turn attempt.first attempt.root →
      attempt.directory ≡ c.dir_at local.root →
      Keeps setup c me account.used flight local (after_directory setup flight round attempt)
  directory_loaded round attempt w r a f l e = cond_both (eqb (bucket_of (rules_of setup) attempt.directory key)
      round.bucket) (DirAnnouncement round attempt []) (after_round round) (λ ph. Keeps setup c me account.used flight
      local ph)
      (λ x. record {
        works = w;
        room = r;
        in_round = a;
        froze = f;
        opens = record {
          looks = l;
          directory_is = e;
          leads = ap (λ d. bucket_of (rules_of setup) d key) (sym e)
              ∙ eqb-true (bucket_of (rules_of setup) attempt.directory key) round.bucket x;
        };
        short = omega (arith, h);
        entries = λ p n. absurd (omega (arith, n));
      })
      (λ x. round_left round 0 w r a f (inr (
        local.root,
        l.from,
        l.old,
        λ y. eqb-false (bucket_of (rules_of setup) attempt.directory key) round.bucket x
            (ap (λ d. bucket_of (rules_of setup) d key) e ∙ y),
      )))

  -- the entries that are loaded so far
  entries_read : (round : Round) (turn first root depth : ℕ) (now : List ℕ) →
      Works setup c me account.used flight.number flight.call → Room setup c me round.turn →
      InRound setup c me flight.number flight.call local.dir round → Froze setup c me flight.number round.bucket →
      DirLooks setup c me local.dir local.root turn first root → depth ≡ (c.dir_at local.root).depth →
      now ≡ take (length now) (c.dir_at local.root).entries →
      Keeps setup c me account.used flight local (after_entries setup flight round turn first root depth now)
  entries_read round turn first root depth now w r a f l e t =
      cond_both (ltb (length now) (2 ^ depth)) (DirEntries round turn first root depth now)
      (after_directory setup flight round (record {
        turn = turn;
        first = first;
        root = root;
        directory = record { depth = depth; entries = now };
      }))
      (λ ph. Keeps setup c me account.used flight local ph)
      (λ x. record {
        works = w;
        room = r;
        in_round = a;
        froze = f;
        looks = l;
        depth_is = e;
        short = ltb-true (length now) (2 ^ depth) x;
        words_are = t;
      })
      (λ x. directory_loaded round (record {
        turn = turn;
        first = first;
        root = root;
        directory = record { depth = depth; entries = now };
      }) w r a f l (whole x))
    where
      whole : ltb (length now) (2 ^ depth) ≡ false → record { depth = depth; entries = now } ≡ c.dir_at local.root
      whole x =
          let long = s.directories.long local.root l.old in
          let all : now ≡ (c.dir_at local.root).entries =
          seen_all (c.dir_at local.root).entries now (omega (
            arith,
            long,
            ap (λ d. 2 ^ d) e,
            ltb-false (length now) (2 ^ depth) x,
          )) t in
          same_directory depth now (c.dir_at local.root) e all

  -- it loads the depth
  pub dir_depth : (round : Round) (turn first root : ℕ) →
      Keeps setup c me account.used flight local (DirDepth round turn first root) →
      Goes setup me c c local (state_after setup me account flight (DirDepth round turn first root)
      (c.memory.directory root 0))
  dir_depth round turn first root k = record {
    shared = s;
    moves = moves_none setup me c;
    keeps = entries_read round turn first root (c.memory.directory root 0) [] k.works k.room k.in_round k.froze
        k.looks (ap (λ r. c.memory.directory r 0) k.looks.row_is ∙ s.directories.depth_is local.root k.looks.old) refl;
  }

  -- it loads an entry
  pub dir_read : (round : Round) (turn first root depth : ℕ) (words : List ℕ) →
      Keeps setup c me account.used flight local (DirEntries round turn first root depth words) →
      Goes setup me c c local (state_after setup me account flight (DirEntries round turn first root depth words)
      (c.memory.directory root (2 + length words)))
  dir_read round turn first root depth words k =
      let long = s.directories.long local.root k.looks.old in
      let inside : length words < length (c.dir_at local.root).entries =
      omega (arith, long, k.short, ap (λ d. 2 ^ d) k.depth_is) in
      let word : c.memory.directory root (2 + length words) ≡ get_or (c.dir_at local.root).entries (length words) 0 =
      ap (λ r. c.memory.directory r (2 + length words)) k.looks.row_is
      ∙ s.directories.entries_are local.root (length words) k.looks.old (omega (arith, inside, long)) in
      record {
        shared = s;
        moves = moves_none setup me c;
        keeps = entries_read round turn first root depth (words ++ c.memory.directory root (2 + length words) ∷ [])
            k.works k.room k.in_round k.froze k.looks k.depth_is
            (seen_more (c.dir_at local.root).entries words (c.memory.directory root (2 + length words)) inside
            k.words_are word);
      }

  -- ---- the announcements

  -- one more op is found
  entries_more : (root : ℕ) (found : List (Option Op)) (op : Option Op) → AllDirFound setup c me root found →
      DirFound setup c me root (length found) op → AllDirFound setup c me root (found ++ op ∷ [])
  entries_more root found op k e = grind (arith, pushes)

  -- the buckets of the ops are loaded, or the next is
  loads_next : (round : Round) (attempt : DirectoryTry) (found : List (Option Op)) (loaded : List LoadedBucket) →
      Works setup c me account.used flight.number flight.call → Room setup c me round.turn →
      InRound setup c me flight.number flight.call local.dir round → Froze setup c me flight.number round.bucket →
      DirOpens setup c me local.dir local.root flight.call round.bucket attempt → length found ≡ seats_of setup →
      AllDirFound setup c me local.root found → All (IsLoaded setup c me local.root) loaded → LoadedOnce loaded →
      Keeps setup c me account.used flight local (after_loaded setup round attempt found loaded)
  loads_next round attempt found loaded w r a f o n e l apart =
      go (next_bucket (rules_of setup) attempt.directory loaded found) refl
    where
      go : (next : Option ℕ) → next_bucket (rules_of setup) attempt.directory loaded found ≡ next →
          Keeps setup c me account.used flight local (load_or_store round attempt found loaded next)
      go (Some bucket) x = record {
        works = w;
        room = r;
        in_round = a;
        froze = f;
        opens = o;
        all = n;
        entries = e;
        loads = l;
        once = apart;
        next = x;
      }
      go None x =
          let try : IsTry setup c me local.dir local.root flight.call round.bucket attempt found loaded =
          record { opens = o; all = n; entries = e; loads = l; whole = x } in
          let few = changes.few c me local.dir local.root round.bucket flight.call attempt found loaded s try in
          let room_words : account.used.bucket_words + length (made_leaves setup attempt found loaded)
          ≤ word_room setup me =
          omega (arith, few, r.words, ap (λ (u : SeatRows). u.bucket_words) w.flies.used_is) in
          let room_rows : account.used.bucket_rows + length (made_leaves setup attempt found loaded)
          ≤ row_room setup me =
          omega (arith, few, r.rows, a.two, ap (λ (u : SeatRows). u.bucket_rows) w.flies.used_is) in
          let room_dirs : account.used.directory_rows < dir_room setup me =
          omega (arith, r.dirs, ap (λ (u : SeatRows). u.directory_rows) w.flies.used_is) in record {
            works = w;
            room = r;
            in_round = a;
            froze = f;
            opens = o;
            all = n;
            entries = e;
            loads = l;
            once = apart;
            whole = x;
            owns = puts_own setup me account.used attempt found loaded room_words room_rows room_dirs;
            inside = (let change = changes.change c me local.dir local.root round.bucket
                (next_number setup me BucketWords account.used) flight.call attempt found loaded s try
                (numbers_free setup me c h s account.used (length (made_leaves setup attempt found loaded))
                w.flies.used_is room_words) in
                puts_within setup me account.used attempt found loaded s.opened h room_words room_rows room_dirs
                change.shallow change.long);
            short = some_puts setup me account.used attempt found loaded;
            so_far = λ j z. absurd (omega (arith, z));
          }

  -- it goes on to the next seat, or to the buckets of the ops
  found_next : (round : Round) (attempt : DirectoryTry) (found : List (Option Op)) (op : Option Op) →
      Works setup c me account.used flight.number flight.call → Room setup c me round.turn →
      InRound setup c me flight.number flight.call local.dir round → Froze setup c me flight.number round.bucket →
      DirOpens setup c me local.dir local.root flight.call round.bucket attempt → length found < seats_of setup →
      AllDirFound setup c me local.root found → DirFound setup c me local.root (length found) op →
      Keeps setup c me account.used flight local (after_dir_found setup round attempt (found ++ op ∷ []))
  found_next round attempt found op w r a f o n e x =
      let both = entries_more local.root found op e x in
      cond_both (ltb (length (found ++ op ∷ [])) (seats_of setup)) (DirAnnouncement round attempt (found ++ op ∷ []))
      (after_loaded setup round attempt (found ++ op ∷ []) []) (λ ph. Keeps setup c me account.used flight local ph)
      (λ y. record {
        works = w;
        room = r;
        in_round = a;
        froze = f;
        opens = o;
        short = ltb-true (length (found ++ op ∷ [])) (seats_of setup) y;
        entries = both;
      })
      (λ y. loads_next round attempt (found ++ op ∷ []) [] w r a f o
      (omega (arith, n, length_push found op, ltb-false (length (found ++ op ∷ [])) (seats_of setup) y)) both
      (λ i z b. absurd (omega (arith, b))) tt)

  -- nothing is announced
  none_found : (root p : ℕ) → p < seats_of setup → c.memory.announced p ≡ 0 → 0 < (c.used me).op_rows →
      DirFound setup c me root p None
  none_found root p hp e own = (let none = s.calls.none p hp e in let some = s.carried.announced p hp in record {
    real = inl refl;
    own = λ o. absurd (grind (arith, none, own, o));
    late = λ t a. absurd (grind (arith, none, some, t));
  })

  -- it loads the announcement of a seat
  pub dir_announcement : (round : Round) (attempt : DirectoryTry) (found : List (Option Op)) →
      Keeps setup c me account.used flight local (DirAnnouncement round attempt found) →
      Goes setup me c c local (state_after setup me account flight (DirAnnouncement round attempt found)
      (c.memory.announced (length found)))
  dir_announcement round attempt found k =
      let p = length found in let w = c.memory.announced p in
      record {
        shared = s;
        moves = moves_none setup me c;
        keeps = cond_both (eqb w 0) (after_dir_found setup round attempt (found ++ None ∷ []))
            (DirOp round attempt found (w - 1) []) (λ ph. Keeps setup c me account.used flight local ph)
            (λ e. found_next round attempt found None k.works k.room k.in_round k.froze k.opens k.short k.entries
            (none_found local.root p k.short (eqb-true w 0 e) k.works.announced))
            (λ e. let posted = s.calls.posted p k.short (eqb-false w 0 e) in record {
              works = k.works;
              room = k.room;
              in_round = k.in_round;
              froze = k.froze;
              opens = k.opens;
              short = k.short;
              entries = k.entries;
              short_op = omega arith;
              reads = record {
                before = (c.used p).op_rows - 1;
                is_announced = omega (arith, posted);
                op_is = omega (arith, posted);
                words_are = refl;
                own = λ o. omega (arith, posted);
                late = λ t a. omega (arith, posted);
              };
            });
      }

  -- it loads a word of an op row
  pub dir_op : (round : Round) (attempt : DirectoryTry) (found : List (Option Op)) (op : ℕ) (words : List ℕ) →
      Keeps setup c me account.used flight local (DirOp round attempt found op words) →
      Goes setup me c c local (state_after setup me account flight (DirOp round attempt found op words)
      (c.memory.op op (length words)))
  dir_op round attempt found op words k =
      let p = length found in let w = c.memory.op op (length words) in
      let now = words ++ w ∷ [] in
      let r = k.reads in
      let read : now ≡ take (length now) (c.op_words p r.before) =
      op_more setup me c account flight local h s p r.before op words k.short r.is_announced r.op_is k.short_op
      r.words_are in
      record {
        shared = s;
        moves = moves_none setup me c;
        keeps = cond_both (ltb (length words + 1) OP_WORDS) (DirOp round attempt found op now)
            (after_dir_found setup round attempt (found ++ Some (op_in_words p now) ∷ []))
            (λ ph. Keeps setup c me account.used (flight_after flight (DirOp round attempt found op words) w) local ph)
            (λ e. record {
              works = k.works;
              room = k.room;
              in_round = k.in_round;
              froze = k.froze;
              opens = k.opens;
              short = k.short;
              entries = k.entries;
              short_op = omega (arith, length_push words w, ltb-true (length words + 1) OP_WORDS e);
              reads = record {
                before = r.before;
                is_announced = r.is_announced;
                op_is = r.op_is;
                words_are = read;
                own = r.own;
                late = r.late;
              };
            })
            (λ e. found_next round attempt found (Some (op_in_words p now)) k.works k.room k.in_round k.froze k.opens
            k.short k.entries
            (let is : op_in_words p now ≡ c.op_at p r.before = op_all setup me c account flight local h s p r.before
            now k.short r.is_announced read (omega (
              arith,
              length_push words w,
              ltb-false (length words + 1) OP_WORDS e,
            )) in
            subst (λ o. DirFound setup c me local.root p (Some o)) (sym is) (record {
              real = inr (r.before, r.is_announced, refl);
              own = λ o. (let n = r.own o in grind (arith, n));
              late = λ t a. (let n = r.late t a in grind (arith, n));
            })));
      }

  -- ---- the exchange of the root is lost

  -- a second lost exchange: what the first lost one began to replace is replaced, with the op
  pub lost : (round : Round) (attempt : DirectoryTry) (found : List (Option Op)) (loaded : List LoadedBucket) →
      Keeps setup c me account.used flight local (DirExchange round attempt found loaded) →
      (c.memory.root ≡ attempt.root → ⊥) →
      Keeps setup c me account.used flight local (after_lost_root round attempt)
  lost round attempt found loaded k other =
      let looks = k.opens.looks in
      let later : local.root < c.dir_top = (let root_is = s.directories.root_is in
      grind (arith, looks, root_is, other)) in
      cond_both (eqb attempt.turn 1) (DirRoot round 2 (Some attempt.first)) (after_round round)
      (λ ph. Keeps setup c me account.used flight local ph)
      (λ t. record {
        works = k.works;
        room = k.room;
        in_round = k.in_round;
        froze = k.froze;
        begun = inr (
          attempt.first,
          refl,
          looks.tries,
          refl,
          omega (arith, looks.after, later, eqb-true attempt.turn 1 t),
        );
      })
      (λ t.
      let begun = s.carried.dir_begun me h looks.tries.tried in
      let since : c.dir_since me < local.root = omega (arith, looks.after, looks.one, eqb-false attempt.turn 1 t) in
      let away : lead setup c (local.root + 1) key ≢ round.bucket =
      (λ e. s.carried.replaced me local.root h looks.tries.tried since later
      (ap (λ x. lead setup c (local.root + 1) x) (op_key k.works) ∙ e ∙ sym k.froze.tried_at)) in
      round_left round 0 k.works k.room k.in_round k.froze (inl (own_carried local.root k.works begun.0
      (omega (arith, begun.1, since)) later (λ e. away (e ∙ k.opens.leads)))))

  -- ---- the buckets of the ops

  -- the bucket that is loaded next is that of some key
  next_led : (attempt : DirectoryTry) (loaded : List LoadedBucket) (found : List (Option Op)) (bucket : ℕ) →
      next_bucket (rules_of setup) attempt.directory loaded found ≡ Some bucket → (z : Key)
      × (bucket_of (rules_of setup) attempt.directory z ≡ bucket)
  next_led attempt loaded found bucket e =
      some_led (rules_of setup) attempt.directory (λ b. not (list_any (is_bucket b) loaded)) found bucket e

  -- it loads the bucket word of an op's bucket
  pub dir_word : (round : Round) (attempt : DirectoryTry) (found : List (Option Op)) (loaded : List LoadedBucket)
      (bucket : ℕ) → Keeps setup c me account.used flight local (DirWord round attempt found loaded bucket) →
      Goes setup me c c (record local { base = c.top bucket })
      (state_after setup me account flight (DirWord round attempt found loaded bucket) (c.memory.bucket bucket))
  dir_word round attempt found loaded bucket k =
      let led = next_led attempt loaded found bucket k.next in
      let old = k.opens.looks.old in
      let is : lead setup c local.root led.0 ≡ bucket =
      ap (λ d. bucket_of (rules_of setup) d led.0) (sym k.opens.directory_is) ∙ led.1 in
      let there : c.named bucket ≡ true = subst (λ b. c.named b ≡ true) is (s.leads.there local.root led.0 old) in
      record {
        shared = s;
        moves = moves_none setup me c;
        keeps = record {
          works = k.works;
          room = k.room;
          in_round = k.in_round;
          froze = k.froze;
          opens = k.opens;
          all = k.all;
          entries = k.entries;
          loads = k.loads;
          once = k.once;
          next = k.next;
          sees = record {
            there = there;
            old = omega arith;
            seen = λ p hp t e _. subst (λ b. (last c b).frozen ≡ true) e (s.carried.frozen p hp t);
          };
          row_is = s.rows.word_is bucket there;
          short = (let four = four_within setup in omega (arith, four));
          words_are = refl;
        };
      }

  -- it loads a word of that bucket's row
  pub dir_row : (round : Round) (attempt : DirectoryTry) (found : List (Option Op)) (loaded : List LoadedBucket)
      (bucket row : ℕ) (words : List ℕ) → Keeps setup c me account.used flight local
      (DirRow round attempt found loaded bucket row words) →
      Goes setup me c c local (state_after setup me account flight (DirRow round attempt found loaded bucket row
      words) (c.memory.bucket_row row (length words)))
  dir_row round attempt found loaded bucket row words k =
      let w = c.memory.bucket_row row (length words) in
      let now = words ++ w ∷ [] in
      let read : now ≡ take (length now) (c.words_at bucket local.base) =
      row_more setup me c account flight local h s bucket local.base row words k.sees.there k.sees.old k.row_is
      k.short k.words_are in
      let led = next_led attempt loaded found bucket k.next in
      record {
        shared = s;
        moves = moves_none setup me c;
        keeps = cond_both (ltb (length now) (bucket_row_words setup.shape.settings))
            (DirRow round attempt found loaded bucket row now)
            (after_loaded setup round attempt found (more loaded (record {
              bucket = bucket;
              row = row;
              state = bucket_in_words setup now;
            })))
            (λ ph. Keeps setup c me account.used (flight_after flight (DirRow round attempt found loaded bucket row
            words) w) local ph)
            (λ e. record {
              works = k.works;
              room = k.room;
              in_round = k.in_round;
              froze = k.froze;
              opens = k.opens;
              all = k.all;
              entries = k.entries;
              loads = k.loads;
              once = k.once;
              next = k.next;
              sees = k.sees;
              row_is = k.row_is;
              short = omega (arith, width_is setup, ltb-true (length now) (bucket_row_words setup.shape.settings) e);
              words_are = read;
            })
            (λ e. loads_next round attempt found (more loaded (record {
              bucket = bucket;
              row = row;
              state = bucket_in_words setup now;
            })) k.works k.room k.in_round k.froze k.opens k.all k.entries
            (All-push (IsLoaded setup c me local.root) loaded (record {
              bucket = bucket;
              row = row;
              state = bucket_in_words setup now;
            }) k.loads (record {
              base = local.base;
              key = led.0;
              sees = k.sees;
              row_is = k.row_is;
              state_is = row_all setup me c account flight local h s bucket local.base now k.sees.there k.sees.old
                  read (omega (
                    arith,
                    width_is setup,
                    ltb-false (length now) (bucket_row_words setup.shape.settings)
                        e,
                  ));
              leads = ap (λ d. bucket_of (rules_of setup) d led.0) (sym k.opens.directory_is) ∙ led.1;
            }))
            (once_more loaded (record { bucket = bucket; row = row; state = bucket_in_words setup now }) k.once
            (not_loaded (rules_of setup) attempt.directory loaded found bucket k.next)));
      }

  -- ---- the new leaves and the new directory row

  -- where only the memory changes, all else holds as it did
  abbrev with : Memory → Common
  with m = record c { memory = m }

  works_with : (m : Memory) → Works setup c me account.used flight.number flight.call →
      Works setup (with m) me account.used flight.number flight.call
  works_with m k = record {
    flies = record { used_is = k.flies.used_is; some = k.flies.some; few = k.flies.few };
    announced = k.announced;
    op_is = k.op_is;
  }

  room_with : (m : Memory) (n : ℕ) → Room setup c me n → Room setup (with m) me n
  room_with m n k = record { rows = k.rows; words = k.words; dirs = k.dirs }

  round_with : (m : Memory) (round : Round) → InRound setup c me flight.number flight.call local.dir round →
      InRound setup (with m) me flight.number flight.call local.dir round
  round_with m round k = record {
    roots = record { rooted = k.roots.rooted; first_is = k.roots.first_is };
    one = k.one;
    two = k.two;
    old = k.old;
    from = k.from;
    led = k.led;
    there = k.there;
    for_it = k.for_it;
    same = k.same;
    second = k.second;
  }

  froze_with : (m : Memory) (bucket : ℕ) → Froze setup c me flight.number bucket →
      Froze setup (with m) me flight.number bucket
  froze_with m bucket k = record { frozen = k.frozen; lacks = k.lacks; tried_at = k.tried_at }

  opens_with : (m : Memory) (bucket : ℕ) (attempt : DirectoryTry) →
      DirOpens setup c me local.dir local.root flight.call bucket attempt →
      DirOpens setup (with m) me local.dir local.root flight.call bucket attempt
  opens_with m bucket attempt k = (let l = k.looks in record {
    looks = record {
      from = l.from;
      tries = record { tried = l.tries.tried; first_is = l.tries.first_is };
      one = l.one;
      two = l.two;
      after = l.after;
      old = l.old;
      row_is = l.row_is;
    };
    directory_is = k.directory_is;
    leads = k.leads;
  })

  entries_with : (m : Memory) (found : List (Option Op)) → AllDirFound setup c me local.root found →
      AllDirFound setup (with m) me local.root found
  entries_with m found k p n = (let e = k p n in record { real = e.real; own = e.own; late = e.late })

  loads_with : (m : Memory) (loaded : List LoadedBucket) → All (IsLoaded setup c me local.root) loaded →
      All (IsLoaded setup (with m) me local.root) loaded
  loads_with m loaded k i z h = (let l = k i z h in
      record {
        base = l.base;
        key = l.key;
        sees = record { there = l.sees.there; old = l.sees.old; seen = l.sees.seen };
        row_is = l.row_is;
        state_is = l.state_is;
        leads = l.leads;
      })

  -- it stores a word of a new leaf or of the new directory row
  pub dir_store : (round : Round) (attempt : DirectoryTry) (found : List (Option Op)) (loaded : List LoadedBucket)
      (i w : ℕ) → Keeps setup c me account.used flight local (DirStore round attempt found loaded i) →
      (let put = put_in (directory_puts setup me account.used attempt found loaded) i in
      Goes setup me c (record c { memory = write c.memory put.address put.word }) local
      (state_after setup me account flight (DirStore round attempt found loaded i) w))
  dir_store round attempt found loaded i w k =
      let puts = directory_puts setup me account.used attempt found loaded in
      let m = write c.memory (put_in puts i).address (put_in puts i).word in
      let own = subst (λ u. IsOwn setup me u (put_in puts i).address) (sym k.works.flies.used_is) (k.owns i k.short) in
      let stored : (j : ℕ) → j < i + 1 →
      read (write c.memory (put_in puts i).address (put_in puts i).word)
      (put_in puts j).address ≡ (put_in puts j).word =
      (λ j hj. elim (cases_eq j i) [
        | inl e ↦ subst (λ n. read (write c.memory (put_in puts i).address (put_in puts i).word)
            (put_in puts n).address ≡ (put_in puts n).word) (sym e) (read-write_same c.memory (put_in puts i).address
            (put_in puts i).word)
        | inr n ↦ read-write_other c.memory (put_in puts i).address (put_in puts j).address (put_in puts i).word
            (puts_apart setup me account.used attempt found loaded j i (omega (arith, hj, n)) k.short)
            ∙ k.so_far j (omega (arith, hj, n))
      ]) in
      record {
        shared = store_shared setup me c h s (put_in puts i).address (put_in puts i).word own;
        moves = store_moves setup me c h s (put_in puts i).address (put_in puts i).word own;
        keeps = cond_both (ltb (i + 1) (length puts)) (DirStore round attempt found loaded (i + 1))
            (DirExchange round attempt found loaded)
            (λ ph. Keeps setup (record c { memory = write c.memory (put_in puts i).address (put_in puts i).word }) me
            account.used (flight_after flight (DirStore round attempt found loaded i) w) local ph)
            (λ e. record {
              works = works_with m k.works;
              room = room_with m round.turn k.room;
              in_round = round_with m round k.in_round;
              froze = froze_with m round.bucket k.froze;
              opens = opens_with m round.bucket attempt k.opens;
              all = k.all;
              entries = entries_with m found k.entries;
              loads = loads_with m loaded k.loads;
              once = k.once;
              whole = k.whole;
              owns = k.owns;
              inside = k.inside;
              short = ltb-true (i + 1) (length puts) e;
              so_far = stored;
            })
            (λ e. record {
              works = works_with m k.works;
              room = room_with m round.turn k.room;
              in_round = round_with m round k.in_round;
              froze = froze_with m round.bucket k.froze;
              opens = opens_with m round.bucket attempt k.opens;
              all = k.all;
              entries = entries_with m found k.entries;
              loads = loads_with m loaded k.loads;
              once = k.once;
              whole = k.whole;
              owns = k.owns;
              inside = k.inside;
              so_far = λ j hj. stored j (omega (arith, hj, ltb-false (i + 1) (length puts) e));
            });
      }
