-- Steps of a call up to its round: the done words, the announcement, the find, and the steps of a lookup.
use Rattle.std.proofs.Common.{◌≡◌, ◌≢◌, ℕ, ◌+◌, ◌<◌, ◌≤◌, ◌⊎◌, true, List, get_or, inl, refl, sym, ap, ◌∙◌, subst, arith}
use Rattle.std.proofs.lemmas.List.{length_push}
use Rattle.std.proofs.lemmas.Bool.{ltb-true, ltb-false, leb-true, leb-false, eqb-true, eqb-false}
use Rattle.word_rows.specs.Memory.{put, write}
use Rattle.word_rows.specs.declared.addresses.Address.TheVariants.{OpWord, Done}
use Rattle.word_rows.proofs.MemoryLemmas.{put_is, put_at_is}
use Rattle.plain_map.specs.declared.calls.Reply.{Reply}
use Rattle.plain_map.specs.declared.keys.Key.{Key}
use Rattle.plain_map.specs.Calls.{key_in}
use Rattle.table_model.specs.Setup.{Setup, seats_of}
use Rattle.table_model.specs.declared.rounds.Aim.{Aim}
use Rattle.table_model.specs.declared.rounds.Aim.TheVariants.{ForLookup, ForFirstRound, ForSecondRound, ForLastLook}
use Rattle.table_model.specs.Phases.{SeeDone, StoreOp, Announce, FindRoot, FindDepth, FindEntry, LookWord, LookCount, LookItems, LastWord, StoreDone}
use Rattle.table_model.specs.SeatStates.{Account, Flight}
use Rattle.table_model.specs.Goes.{state_after}
use Rattle.bucket_states.specs.Laws.{applied_of}
use Rattle.run_invariant.proofs.RowLemmas.{op_row_sound, put_at_each}
use Rattle.run_invariant.proofs.Events.{announced, roots_after}
use Rattle.run_invariant.proofs.Stores.{store_shared, store_moves}
use Rattle.run_invariant.proofs.Loads.{moves_none, four_within, bits_below}
use Rattle.run_invariant.proofs.Invariant.{Calls, IsOpRow, op_words_of, Common, Local, Shared, Keeps, Moves, Goes, InRound, Carried, bits, lead, last, op_no}

ruleset tests = (ltb-true, ltb-false, leb-true, leb-false, eqb-true, eqb-false)

ruleset writes = (put_is, put_at_is, eqb-true, eqb-false)

module _ (setup : Setup) (me : ℕ) (c : Common) (account : Account) (flight : Flight) (local : Local)
    (h : me < seats_of setup) (s : Shared setup c) where
  -- the key of the call
  abbrev key : Key
  key = key_in flight.call

  -- a done word is seen
  pub see_done : (w : ℕ) → Keeps setup c me account.used flight local SeeDone →
      Goes setup me c c local (state_after setup me account flight SeeDone w)
  see_done w k = record { shared = s; moves = moves_none setup me c; keeps = grind (arith, length_push, tests) }

  -- a word of its op row is stored
  pub store_op : (i w : ℕ) → Keeps setup c me account.used flight local (StoreOp i) →
      Goes setup me c (record c {
        memory = write c.memory (OpWord (op_no setup me (c.used me).op_rows) i)
            (get_or (op_words_of flight.number flight.call) i 0);
      }) local (state_after setup me account flight (StoreOp i) w)
  store_op i w k = record {
    shared = store_shared setup me c h s (OpWord (op_no setup me (c.used me).op_rows) i)
        (get_or (op_words_of flight.number flight.call) i 0) (
          (c.used me).op_rows,
          omega arith,
          k.begins.op_room_is,
          refl,
        );
    moves = store_moves setup me c h s (OpWord (op_no setup me (c.used me).op_rows) i)
        (get_or (op_words_of flight.number flight.call) i 0) (
          (c.used me).op_rows,
          omega arith,
          k.begins.op_room_is,
          refl,
        );
    keeps = grind (arith, writes, tests);
  }

  -- its op is announced
  announced_calls : (k : Keeps setup c me account.used flight local Announce) →
      (let d = announced setup me flight.number flight.call c in
      Calls setup d.memory.announced d.memory.op d.used d.op_at d.op_words)
  announced_calls k = record {
    none = grind (arith, writes, s.calls.none);
    posted = grind (arith, writes, s.calls.posted);
    few = grind (arith, writes, s.calls.few);
    ops_are = λ p j i hp hj hi. put_at_each c.op_at c.op_words me (c.used me).op_rows
        (record { seat = me; number = flight.number; call = flight.call }) (op_words_of flight.number flight.call)
        (λ op words. c.memory.op (op_no setup p j) i ≡ get_or words i 0) p j
        (λ n. s.calls.ops_are p j i hp (older p j n hj) hi) (λ e f. grind (arith, k.stored i hi, e, f));
    sound = λ p j hp hj. put_at_each c.op_at c.op_words me (c.used me).op_rows
        (record { seat = me; number = flight.number; call = flight.call }) (op_words_of flight.number flight.call)
        (λ op words. IsOpRow p words op) p j (λ n. s.calls.sound p j hp (older p j n hj))
        (λ e f. subst (λ q. IsOpRow q (op_words_of flight.number flight.call)
        (record { seat = me; number = flight.number; call = flight.call })) (sym e) (op_row_sound me flight.number
        flight.call k.begins.flies.some (omega (arith, k.begins.flies.few, s.opened.shape.limited)) k.begins.update));
  }
    where
      older : (p j : ℕ) → (p ≢ me) ⊎ (j ≢ (c.used me).op_rows) →
          j < (put c.used me (record (c.used me) { op_rows = (c.used me).op_rows + 1 }) p).op_rows →
          j < (c.used p).op_rows
      older p j n hj = grind (arith, writes)

  -- what was carried for its last op is forgotten
  announced_carried : (let d = announced setup me flight.number flight.call c in
      Carried setup d.dir_top d.dir_at d.top d.state_at d.used d.op_at d.rooted d.first_dir d.tried_at d.dir_tried
      d.dir_since)
  announced_carried = record {
    announced = grind (arith, writes, s.carried.announced);
    begun = grind (arith, writes, s.carried.begun);
    carried = grind (arith, writes, s.carried.carried);
    dir_begun = grind (arith, writes, s.carried.dir_begun);
    frozen = grind (arith, writes, s.carried.frozen);
    lacks = grind (arith, writes, s.carried.lacks);
    led = grind (arith, writes, s.carried.led);
    replaced = grind (arith, writes, s.carried.replaced);
  }

  -- the announcement: from here on the op may be helped
  pub announce : (w : ℕ) → Keeps setup c me account.used flight local Announce →
      Goes setup me c (announced setup me flight.number flight.call c) local
      (state_after setup me account flight Announce w)
  announce w k = record {
    shared = record {
      opened = s.opened;
      rows = grind (arith, writes, s.rows.fresh, s.rows.fresh_word);
      directories = grind (arith, writes, s.directories.fresh);
      leads = s.leads;
      calls = announced_calls k;
      helped = grind (arith, writes);
      carried = announced_carried;
    };
    keeps = grind (arith, writes);
    moves = grind (arith, writes);
  }

  -- the root is loaded, for the first time or again
  find : (aim : Aim) → (let k = Keeps setup c me account.used flight local (FindRoot aim) in k →
      Shared setup (roots_after me aim c) × Moves setup me c (roots_after me aim c))
  find ForLookup k = (s, moves_none setup me c)
  find (ForSecondRound first) k = (s, moves_none setup me c)
  find ForLastLook k = (s, moves_none setup me c)
  find ForFirstRound k = (
    record {
      opened = s.opened;
      rows = s.rows;
      directories = s.directories;
      leads = s.leads;
      calls = s.calls;
      helped = s.helped;
      carried = record {
        announced = grind (arith, writes, s.carried.announced);
        begun = grind (arith, writes, s.carried.begun);
        carried = grind (arith, writes, s.carried.carried);
        dir_begun = grind (arith, writes, s.carried.dir_begun);
        frozen = s.carried.frozen;
        lacks = s.carried.lacks;
        led = s.carried.led;
        replaced = s.carried.replaced;
      };
    },
    grind (arith, writes),
  )

  -- what the seat knows of the directory that it has loaded
  find_keeps : (aim : Aim) → Keeps setup c me account.used flight local (FindRoot aim) →
      Keeps setup (roots_after me aim c) me account.used flight (record local { dir = c.dir_top })
      (FindDepth aim c.memory.root)
  find_keeps ForLookup k = record {
    aims = k.aims;
    knows = tt;
    finds = record { old = omega arith; root_is = s.directories.root_is };
  }
  find_keeps ForFirstRound k = record {
    aims = grind (arith, k.aims);
    knows = grind (arith, writes);
    finds = record { old = omega arith; root_is = s.directories.root_is };
  }
  find_keeps (ForSecondRound first) k = record {
    aims = k.aims;
    knows = (s.carried.begun me h k.aims.roots.rooted, k.knows);
    finds = record { old = omega arith; root_is = s.directories.root_is };
  }
  find_keeps ForLastLook k = record {
    aims = k.aims;
    knows = k.knows;
    finds = record { old = omega arith; root_is = s.directories.root_is };
  }

  -- the root is loaded
  pub find_root : (aim : Aim) → Keeps setup c me account.used flight local (FindRoot aim) →
      Goes setup me c (roots_after me aim c) (record local { dir = c.dir_top })
      (state_after setup me account flight (FindRoot aim) c.memory.root)
  find_root aim k = record { shared = (find aim k).0; moves = (find aim k).1; keeps = find_keeps aim k }

  -- the directory's depth is loaded
  pub find_depth : (aim : Aim) (root : ℕ) → Keeps setup c me account.used flight local (FindDepth aim root) →
      Goes setup me c c local (state_after setup me account flight (FindDepth aim root) (c.memory.directory root 0))
  find_depth aim root k = record {
    shared = s;
    keeps = record {
      aims = k.aims;
      knows = k.knows;
      finds = k.finds;
      depth_is = ap (λ r. c.memory.directory r 0) k.finds.root_is ∙ s.directories.depth_is local.dir k.finds.old;
    };
    moves = moves_none setup me c;
  }

  -- the entry is the bucket of the key
  pub entry : (root depth : ℕ) → root ≡ c.dir_row local.dir → depth ≡ (c.dir_at local.dir).depth → local.dir
      ≤ c.dir_top →
      c.memory.directory root (2 + bits setup depth key) ≡ lead setup c local.dir key
  entry root depth r e o =
      ap (λ x. c.memory.directory x (2 + bits setup depth key)) r
      ∙ ap (λ x. c.memory.directory (c.dir_row local.dir) (2 + bits setup x key)) e
      ∙ s.directories.entries_are local.dir (bits setup (c.dir_at local.dir).depth key) o
      (bits_below setup (c.dir_at local.dir).depth key (s.directories.shallow local.dir o))

  -- the bucket that is found, for a round
  round_found : (turn first root bucket : ℕ) → 1 ≤ turn → turn ≤ 2 → c.rooted me ≡ true →
      first ≡ c.dir_row (c.first_dir me) → c.first_dir me ≤ local.dir → local.dir ≤ c.dir_top →
      bucket ≡ lead setup c local.dir key →
      (turn ≡ 1 → local.dir ≡ c.first_dir me) →
      (turn ≡ 2 → (flight.number ≤ applied_of (last c (lead setup c local.dir key)) me)
      ⊎ (lead setup c local.dir key ≢ lead setup c (c.first_dir me) key)) →
      InRound setup c me flight.number flight.call local.dir (record {
        turn = turn;
        first = first;
        root = root;
        bucket = bucket;
      })
  round_found turn first root bucket one two rooted first_is from old e same second = record {
    roots = record { rooted = rooted; first_is = first_is };
    one = one;
    two = two;
    old = old;
    from = from;
    led = sym e;
    there = ap c.named e ∙ s.leads.there local.dir key old;
    for_it = ap (λ b. bits setup (c.deep b) key) e ∙ s.leads.for_it local.dir key old ∙ ap c.pre (sym e);
    same = same;
    second = λ t. subst (λ b. (flight.number ≤ applied_of (last c b) me) ⊎ (b ≢ lead setup c (c.first_dir me) key))
        (sym e) (second t);
  }

  -- the entry is loaded: the bucket of the key by that directory
  pub find_entry : (aim : Aim) (root depth : ℕ) →
      Keeps setup c me account.used flight local (FindEntry aim root depth) →
      Goes setup me c c local (state_after setup me account flight (FindEntry aim root depth)
      (c.memory.directory root (2 + bits setup depth key)))
  find_entry ForLookup root depth k =
      let e = entry root depth k.finds.root_is k.depth_is k.finds.old in
      record {
        shared = s;
        moves = moves_none setup me c;
        keeps = record { flies = k.aims; there = ap c.named e ∙ s.leads.there local.dir key k.finds.old };
      }
  find_entry ForFirstRound root depth k =
      let e = entry root depth k.finds.root_is k.depth_is k.finds.old in
      record {
        shared = s;
        moves = moves_none setup me c;
        keeps = record {
          works = k.aims.works;
          room = k.aims.room;
          in_round = round_found 1 root root (c.memory.directory root (2 + bits setup depth key)) (omega arith)
              (omega arith) k.knows.0 (k.finds.root_is ∙ ap c.dir_row (sym k.knows.1)) (omega (arith, k.knows.1))
              k.finds.old e (λ t. sym k.knows.1) (λ t. absurd (omega (arith, t)));
          begun = inl (refl, refl);
        };
      }
  find_entry (ForSecondRound first) root depth k =
      let e = entry root depth k.finds.root_is k.depth_is k.finds.old in
      record {
        shared = s;
        moves = moves_none setup me c;
        keeps = record {
          works = k.aims.works;
          room = k.aims.room;
          in_round = round_found 2 first root (c.memory.directory root (2 + bits setup depth key)) (omega arith)
              (omega arith) k.aims.roots.rooted k.aims.roots.first_is k.knows.0 k.finds.old e
              (λ t. absurd (omega (arith, t))) (λ t. k.knows.1);
          begun = inl (refl, refl);
        };
      }
  find_entry ForLastLook root depth k =
      let e = entry root depth k.finds.root_is k.depth_is k.finds.old in
      record {
        shared = s;
        moves = moves_none setup me c;
        keeps = record {
          works = k.aims;
          there = ap c.named e ∙ s.leads.there local.dir key k.finds.old;
          has = subst (λ b. flight.number ≤ applied_of (last c b) me) (sym e) k.knows;
        };
      }

  -- a lookup loads the bucket word
  pub look_word : (root bucket : ℕ) → Keeps setup c me account.used flight local (LookWord root bucket) →
      Goes setup me c c (record local { at = bucket; base = c.top bucket })
      (state_after setup me account flight (LookWord root bucket) (c.memory.bucket bucket))
  look_word root bucket k = record {
    shared = s;
    moves = moves_none setup me c;
    keeps = grind (arith, s.rows.word_is bucket);
  }

  -- it loads the number of items
  pub look_count : (row : ℕ) → Keeps setup c me account.used flight local (LookCount row) →
      Goes setup me c c local (state_after setup me account flight (LookCount row) (c.memory.bucket_row row 4))
  look_count row k = record {
    shared = s;
    moves = moves_none setup me c;
    keeps = (let count = (s.rows.sound local.at local.base k.there k.old).count in let four = four_within setup in
        grind (arith, tests, count, four, s.rows.rows_are local.at local.base 4));
  }

  -- and a word of them
  pub look_items : (row count : ℕ) (words : List ℕ) (w : ℕ) →
      Keeps setup c me account.used flight local (LookItems row count words) →
      Goes setup me c c local (state_after setup me account flight (LookItems row count words) w)
  look_items row count words w k = record {
    shared = s;
    moves = moves_none setup me c;
    keeps = grind (arith, tests, length_push);
  }

  -- the last look loads the bucket word
  pub last_word : (root bucket : ℕ) → Keeps setup c me account.used flight local (LastWord root bucket) →
      Goes setup me c c (record local { at = bucket; base = c.top bucket })
      (state_after setup me account flight (LastWord root bucket) (c.memory.bucket bucket))
  last_word root bucket k = record {
    shared = s;
    moves = moves_none setup me c;
    keeps = (let four = four_within setup in grind (arith, four, s.rows.word_is bucket));
  }

  -- the done word is stored, and the call has ended
  pub store_done : (reply : Reply) (at w : ℕ) → Keeps setup c me account.used flight local (StoreDone reply at) →
      Goes setup me c (record c { memory = write c.memory (Done me) flight.number }) local
      (state_after setup me account flight (StoreDone reply at) w)
  store_done reply at w k = grind (arith, writes)
