-- The bucket tries of a round, but for the exchange that happens; and the last look.
use Rattle.std.proofs.Common.{◌≡◌, ℕ, ◌+◌, ◌-◌, ◌<◌, ◌≤◌, true, false, List, length, get_or, inl, inr, refl, sym, ap, ◌∙◌, subst, arith}
use Rattle.std.proofs.lemmas.List.{length_push}
use Rattle.std.specs.Prelude.{Option, Some, None}
use Rattle.std.proofs.lemmas.Bool.{cond_both, ltb-true, ltb-false, leb-true, leb-false, eqb-true, eqb-false}
use Rattle.step_counts.specs.declared.TheConstants.{OP_WORDS}
use Rattle.word_rows.specs.Memory.{write}
use Rattle.word_rows.proofs.MemoryLemmas.{put_is, put_at_is}
use Rattle.std.proofs.Common.{cond, eqb}
use Rattle.word_rows.specs.Shape.{sizes_of}
use Rattle.table_model.specs.Setup.{Setup, seats_of, rules_of}
use Rattle.table_model.specs.declared.rounds.Round.{Round}
use Rattle.table_model.specs.Phases.{BucketTry, TryWord, TryRow, TryAnnouncement, TryOp, TryStore, TryExchange, DirRoot, LastRow, Stuck}
use Rattle.table_model.specs.SeatStates.{Account, Flight, InFlight}
use Rattle.table_model.specs.Goes.{state_after, flight_after, after_row, after_found, answered_by, is_applied, bucket_in_words, op_in_words}
use Rattle.std.proofs.Common.{[], ◌∷◌, ◌++◌, ltb, leb, take}
use Rattle.std.proofs.lemmas.List.{get_or_push, get_or_append_left}
use Rattle.step_counts.specs.StepCounts.{bucket_row_words}
use Rattle.bucket_states.specs.declared.ops.Op.{Op}
use Rattle.bucket_states.specs.States.{BucketState}
use Rattle.word_rows.specs.declared.addresses.Address.TheVariants.{BucketRowWord}
use Rattle.run_invariant.proofs.Loads.{width_is}
use Rattle.run_invariant.proofs.Events.{tries_after}
use Rattle.bucket_states.specs.Laws.{IsGood, applied_of}
use Rattle.run_invariant.proofs.RowLemmas.{answered}
use Rattle.run_invariant.proofs.Stores.{store_shared, store_moves}
use Rattle.run_invariant.proofs.Loads.{moves_none, four_within}
use Rattle.run_invariant.proofs.Invariant.{RowStored, Works, Room, Looks, Opens, Found, AllFound, Froze, width, row_no, made_words, Common, Local, Shared, Keeps, Goes, InRound, op_no}
use Rattle.list_laws.proofs.Cuts.{seen_more, seen_all}

ruleset tests = (ltb-true, ltb-false, leb-true, leb-false, eqb-true, eqb-false)

ruleset writes = (put_is, put_at_is, eqb-true, eqb-false)

ruleset pushes = (length_push, get_or_push, get_or_append_left)

module _ (setup : Setup) (me : ℕ) (c : Common) (account : Account) (flight : Flight) (local : Local)
    (h : me < seats_of setup) (s : Shared setup c) where
  -- a row of a bucket that is loaded word by word
  pub row_more : (bucket base row : ℕ) (words : List ℕ) → c.named bucket ≡ true → base ≤ c.top bucket →
      row ≡ c.row_at bucket base → length words < width setup → words ≡ take (length words) (c.words_at bucket base) →
      words ++ c.memory.bucket_row row (length words) ∷ [] ≡ take
      (length (words ++ c.memory.bucket_row row (length words) ∷ [])) (c.words_at bucket base)
  row_more bucket base row words n o r w e = (let long = (s.rows.sound bucket base n o).long in
      grind (arith, long, seen_more, s.rows.rows_are bucket base (length words)))

  -- loaded whole it says the bucket's state
  pub row_all : (bucket base : ℕ) (now : List ℕ) → c.named bucket ≡ true → base ≤ c.top bucket →
      now ≡ take (length now) (c.words_at bucket base) → width setup ≤ length now →
      bucket_in_words setup now ≡ c.state_at bucket base
  row_all bucket base now n o e w = (let sound = s.rows.sound bucket base n o in
      ap (bucket_in_words setup) (seen_all (c.words_at bucket base) now (omega (arith, w, sound.long)) e) ∙ sound.says)

  -- a bucket try loads the bucket word; the first of a round begins its tries
  pub try_word : (round : Round) (turn : ℕ) (first : Option ℕ) →
      Keeps setup c me account.used flight local (TryWord round turn first) →
      Goes setup me c (tries_after me round first c) (record local { base = c.top round.bucket })
      (state_after setup me account flight (TryWord round turn first) (c.memory.bucket round.bucket))
  try_word round turn None k = record {
    shared = record {
      opened = s.opened;
      rows = s.rows;
      directories = s.directories;
      leads = s.leads;
      calls = s.calls;
      helped = (let there = k.in_round.there in let for_it = k.in_round.for_it in let announced = k.works.announced in
          let op_is = k.works.op_is in grind (
            arith,
            writes,
            there,
            for_it,
            announced,
            op_is,
            s.helped.helped,
            s.helped.for_it,
            s.helped.there,
            s.helped.begun,
            s.helped.announced,
          ));
      carried = record {
        announced = s.carried.announced;
        begun = s.carried.begun;
        carried = s.carried.carried;
        dir_begun = grind (arith, writes, s.carried.dir_begun);
        frozen = grind (arith, writes, s.carried.frozen);
        lacks = grind (arith, writes, s.carried.lacks);
        led = grind (arith, writes, s.carried.led);
        replaced = grind (arith, writes, s.carried.replaced);
      };
    };
    keeps = (let four = four_within setup in let word_is = s.rows.word_is round.bucket k.in_round.there in record {
      works = grind (arith, k.works);
      room = grind (arith, k.room);
      in_round = grind (arith, k.in_round);
      looks = grind (arith, writes, k.begun, word_is);
      short = omega (arith, four);
      words_are = refl;
    });
    moves = grind (arith, writes);
  }
  try_word round turn (Some first) k = record {
    shared = s;
    moves = moves_none setup me c;
    keeps = (let four = four_within setup in let word_is = s.rows.word_is round.bucket k.in_round.there in record {
      works = k.works;
      room = k.room;
      in_round = k.in_round;
      looks = grind (arith, k.begun, word_is);
      short = omega (arith, four);
      words_are = refl;
    });
  }

  -- the row is loaded whole
  row_loaded : (round : Round) (turn first row : ℕ) (state : BucketState) →
      Works setup c me account.used flight.number flight.call → Room setup c me (round.turn - 1) →
      InRound setup c me flight.number flight.call local.dir round →
      Looks setup c me round.bucket local.base turn first row → state ≡ c.state_at round.bucket local.base →
      Keeps setup c me account.used flight local (after_row me flight round (record {
        turn = turn;
        first = first;
        row = row;
        state = state;
      }))
  row_loaded round turn first row state w r a l e =
      let attempt : BucketTry = record { turn = turn; first = first; row = row; state = state } in
      cond_both (is_applied me flight state) (answered_by me state row)
      (cond state.frozen (DirRoot round 1 None) (cond (leb turn 2) (TryAnnouncement round attempt []) Stuck))
      (λ ph. Keeps setup c me account.used flight local ph)
      (λ x. answered setup c me account.used flight local state row w.flies (good a l e)
      (leb-true flight.number (applied_of state me) x))
      (λ x. let lacks : applied_of state me < flight.number = leb-false flight.number (applied_of state me) x in
      cond_both state.frozen (DirRoot round 1 None) (cond (leb turn 2) (TryAnnouncement round attempt []) Stuck)
      (λ ph. Keeps setup c me account.used flight local ph)
      (λ f. record {
        works = w;
        room = record { rows = omega (arith, r.rows); words = r.words; dirs = r.dirs };
        in_round = a;
        froze = froze a l e f lacks;
        begun = inl (refl, refl);
      })
      (λ f. cond_both (leb turn 2) (TryAnnouncement round attempt []) Stuck
      (λ ph. Keeps setup c me account.used flight local ph)
      (λ t. record {
        works = w;
        room = r;
        in_round = a;
        opens = record { looks = l; two = leb-true turn 2 t; state_is = e; open_ = f };
        short = omega (arith, h);
        entries = λ p n. absurd (omega (arith, n));
      })
      (λ t. absurd (third l e f lacks (leb-false turn 2 t)))))
    where
      good : InRound setup c me flight.number flight.call local.dir round →
          Looks setup c me round.bucket local.base turn first row → state ≡ c.state_at round.bucket local.base →
          IsGood (rules_of setup) (seats_of setup) state
      good a l e = subst (IsGood (rules_of setup) (seats_of setup)) (sym e)
          (s.rows.sound round.bucket local.base a.there l.old).good

      -- a frozen row is the last
      froze : InRound setup c me flight.number flight.call local.dir round →
          Looks setup c me round.bucket local.base turn first row → state ≡ c.state_at round.bucket local.base →
          state.frozen ≡ true → applied_of state me < flight.number → Froze setup c me flight.number round.bucket
      froze a l e f x = (let open_ = s.rows.open_ round.bucket local.base a.there in let at = l.tries.tried_at in
          let old = l.old in grind (arith, e, f, x, open_, at, old))

      -- after two lost exchanges the row has the op
      third : Looks setup c me round.bucket local.base turn first row → state ≡ c.state_at round.bucket local.base →
          state.frozen ≡ false → applied_of state me < flight.number → 2 < turn → ⊥
      third l e f x t = (let tries = l.tries in let after = l.after in let old = l.old in let op_is = w.op_is in
          let helped = s.helped.helped me local.base h in grind (arith, e, f, x, t, tries, after, old, op_is, helped))

  -- it loads a word of the row
  pub try_row : (round : Round) (turn first row : ℕ) (words : List ℕ) →
      Keeps setup c me account.used flight local (TryRow round turn first row words) →
      Goes setup me c c local (state_after setup me account flight (TryRow round turn first row words)
      (c.memory.bucket_row row (length words)))
  try_row round turn first row words k =
      let w = c.memory.bucket_row row (length words) in
      let now = words ++ w ∷ [] in
      let read : now ≡ take (length now) (c.words_at round.bucket local.base) =
      row_more round.bucket local.base row words k.in_round.there k.looks.old k.looks.row_is k.short k.words_are in
      record {
        shared = s;
        moves = moves_none setup me c;
        keeps = cond_both (ltb (length now) (bucket_row_words setup.shape.settings)) (TryRow round turn first row now)
            (after_row me flight round (record {
              turn = turn;
              first = first;
              row = row;
              state = bucket_in_words setup now;
            }))
            (λ ph. Keeps setup c me account.used (flight_after flight (TryRow round turn first row words) w) local ph)
            (λ e. record {
              works = k.works;
              room = k.room;
              in_round = k.in_round;
              looks = k.looks;
              short = omega (arith, width_is setup, ltb-true (length now) (bucket_row_words setup.shape.settings) e);
              words_are = read;
            })
            (λ e. row_loaded round turn first row (bucket_in_words setup now) k.works k.room k.in_round k.looks
            (row_all round.bucket local.base now k.in_round.there k.looks.old read
            (omega (arith, width_is setup, ltb-false (length now) (bucket_row_words setup.shape.settings) e))));
      }

  -- the last look shows the op
  pub last_row : (row : ℕ) (words : List ℕ) → Keeps setup c me account.used flight local (LastRow row words) →
      Goes setup me c c local (state_after setup me account flight (LastRow row words)
      (c.memory.bucket_row row (length words)))
  last_row row words k =
      let w = c.memory.bucket_row row (length words) in
      let now = words ++ w ∷ [] in
      let read : now ≡ take (length now) (c.words_at local.at local.base) =
      row_more local.at local.base row words k.there k.old k.row_is k.short k.words_are in
      record {
        shared = s;
        moves = moves_none setup me c;
        keeps = cond_both (ltb (length now) (bucket_row_words setup.shape.settings)) (LastRow row now)
            (cond (is_applied me flight (bucket_in_words setup now)) (answered_by me (bucket_in_words setup now) row)
            Stuck)
            (λ ph. Keeps setup c me account.used (flight_after flight (LastRow row words) w) local ph)
            (λ e. record {
              works = k.works;
              there = k.there;
              old = k.old;
              row_is = k.row_is;
              has = k.has;
              short = omega (arith, width_is setup, ltb-true (length now) (bucket_row_words setup.shape.settings) e);
              words_are = read;
            })
            (λ e. cond_both (is_applied me flight (bucket_in_words setup now))
            (answered_by me (bucket_in_words setup now) row) Stuck (λ ph. Keeps setup c me account.used
            (flight_after flight (LastRow row words) w) local ph)
            (λ x. (let says = row_all local.at local.base now k.there k.old read
            (omega (arith, width_is setup, ltb-false (length now) (bucket_row_words setup.shape.settings) e)) in
            answered setup c me account.used (flight_after flight (LastRow row words) w) local
            (bucket_in_words setup now) row k.works.flies
            (subst (IsGood (rules_of setup) (seats_of setup)) (sym says)
            (s.rows.sound local.at local.base k.there k.old).good)
            (leb-true flight.number (applied_of (bucket_in_words setup now) me) x)))
            (λ x. absurd (let says = row_all local.at local.base now k.there k.old read
            (omega (arith, width_is setup, ltb-false (length now) (bucket_row_words setup.shape.settings) e)) in
            omega (
              arith,
              k.has,
              leb-false flight.number (applied_of (bucket_in_words setup now) me) x,
              ap (λ b. applied_of b me) says,
            ))));
      }

  -- ---- the announcements

  -- one more op is found
  entries_more : (bucket base : ℕ) (found : List (Option Op)) (op : Option Op) →
      AllFound setup c me bucket base found → Found setup c me bucket base (length found) op →
      AllFound setup c me bucket base (found ++ op ∷ [])
  entries_more bucket base found op k e = grind (arith, pushes)

  -- it goes on to the next seat, or it begins to store
  found_next : (round : Round) (attempt : BucketTry) (found : List (Option Op)) (op : Option Op) →
      Works setup c me account.used flight.number flight.call → Room setup c me (round.turn - 1) →
      InRound setup c me flight.number flight.call local.dir round →
      Opens setup c me flight.number round.bucket local.base attempt → length found < seats_of setup →
      AllFound setup c me round.bucket local.base found → Found setup c me round.bucket local.base (length found) op →
      Keeps setup c me account.used flight local (after_found setup round attempt (found ++ op ∷ []))
  found_next round attempt found op w r a o n f e =
      let four = four_within setup in let both = entries_more round.bucket local.base found op f e in
      cond_both (ltb (length (found ++ op ∷ [])) (seats_of setup)) (TryAnnouncement round attempt (found ++ op ∷ []))
      (TryStore round attempt (found ++ op ∷ []) 0) (λ ph. Keeps setup c me account.used flight local ph)
      (λ x. record {
        works = w;
        room = r;
        in_round = a;
        opens = o;
        short = ltb-true (length (found ++ op ∷ [])) (seats_of setup) x;
        entries = both;
      })
      (λ x. record {
        works = w;
        room = r;
        in_round = a;
        opens = o;
        all = omega (arith, n, length_push found op, ltb-false (length (found ++ op ∷ [])) (seats_of setup) x);
        entries = both;
        short = omega (arith, four);
        so_far = λ j z. absurd (omega (arith, z));
      })

  -- nothing is announced
  none_found : (bucket base p : ℕ) → p < seats_of setup → c.memory.announced p ≡ 0 → 0 < (c.used me).op_rows →
      Found setup c me bucket base p None
  none_found bucket base p hp e own = (let none = s.calls.none p hp e in let some = s.helped.announced p hp in record {
    real = inl refl;
    own = λ o. absurd (grind (arith, none, own, o));
    late = λ t a b. absurd (grind (arith, none, some, t));
  })

  -- it loads the announcement of a seat
  pub try_announcement : (round : Round) (attempt : BucketTry) (found : List (Option Op)) →
      Keeps setup c me account.used flight local (TryAnnouncement round attempt found) →
      Goes setup me c c local (state_after setup me account flight (TryAnnouncement round attempt found)
      (c.memory.announced (length found)))
  try_announcement round attempt found k =
      let p = length found in let w = c.memory.announced p in
      record {
        shared = s;
        moves = moves_none setup me c;
        keeps = cond_both (eqb w 0) (after_found setup round attempt (found ++ None ∷ []))
            (TryOp round attempt found (w - 1) []) (λ ph. Keeps setup c me account.used flight local ph)
            (λ e. found_next round attempt found None k.works k.room k.in_round k.opens k.short k.entries
            (none_found round.bucket local.base p k.short (eqb-true w 0 e) k.works.announced))
            (λ e. let posted = s.calls.posted p k.short (eqb-false w 0 e) in record {
              works = k.works;
              room = k.room;
              in_round = k.in_round;
              opens = k.opens;
              short = k.short;
              entries = k.entries;
              short_op = omega arith;
              reads = record {
                before = (c.used p).op_rows - 1;
                is_announced = omega (arith, posted);
                op_is = omega (arith, posted);
                words_are = refl;
                own = λ o. omega (arith, posted);
                late = λ t a b. omega (arith, posted);
              };
            });
      }

  -- one more word of an op
  pub op_more : (p before op : ℕ) (words : List ℕ) → p < seats_of setup → before < (c.used p).op_rows →
      op ≡ op_no setup p before → length words < OP_WORDS → words ≡ take (length words) (c.op_words p before) →
      words ++ c.memory.op op (length words) ∷ [] ≡ take (length (words ++ c.memory.op op (length words) ∷ []))
      (c.op_words p before)
  op_more p before op words hp hb e hs r = (let long = (s.calls.sound p before hp hb).long in
      grind (arith, long, seen_more (c.op_words p before) words, s.calls.ops_are p before (length words)))

  -- the op row that it has loaded says the seat's op
  pub op_all : (p before : ℕ) (now : List ℕ) → p < seats_of setup → before < (c.used p).op_rows →
      now ≡ take (length now) (c.op_words p before) → OP_WORDS ≤ length now → op_in_words p now ≡ c.op_at p before
  op_all p before now hp hb e hl = (let sound = s.calls.sound p before hp hb in
      ap (op_in_words p) (seen_all (c.op_words p before) now (omega (arith, sound.long, hl)) e) ∙ sound.says)

  -- it loads a word of that op row
  pub try_op : (round : Round) (attempt : BucketTry) (found : List (Option Op)) (op : ℕ) (words : List ℕ) →
      Keeps setup c me account.used flight local (TryOp round attempt found op words) →
      Goes setup me c c local (state_after setup me account flight (TryOp round attempt found op words)
      (c.memory.op op (length words)))
  try_op round attempt found op words k =
      let p = length found in let w = c.memory.op op (length words) in
      let now = words ++ w ∷ [] in
      let r = k.reads in
      let read : now ≡ take (length now) (c.op_words p r.before) =
      op_more p r.before op words k.short r.is_announced r.op_is k.short_op r.words_are in
      record {
        shared = s;
        moves = moves_none setup me c;
        keeps = cond_both (ltb (length words + 1) OP_WORDS) (TryOp round attempt found op now)
            (after_found setup round attempt (found ++ Some (op_in_words p now) ∷ []))
            (λ ph. Keeps setup c me account.used (flight_after flight (TryOp round attempt found op words) w) local ph)
            (λ e. record {
              works = k.works;
              room = k.room;
              in_round = k.in_round;
              opens = k.opens;
              short = k.short;
              entries = k.entries;
              short_op = omega (arith, length_push words w, ltb-true (length words + 1) OP_WORDS e);
              reads = record {
                before = r.before;
                is_announced = r.is_announced;
                op_is = r.op_is;
                words_are = read;
                own = r.own;
                late = r.late;
              };
            })
            (λ e. found_next round attempt found (Some (op_in_words p now)) k.works k.room k.in_round k.opens k.short
            k.entries
            (let is : op_in_words p now ≡ c.op_at p r.before = op_all p r.before now k.short r.is_announced read
            (omega (arith, length_push words w, ltb-false (length words + 1) OP_WORDS e)) in
            subst (λ o. Found setup c me round.bucket local.base p (Some o)) (sym is) (record {
              real = inr (r.before, r.is_announced, refl);
              own = λ o. (let n = r.own o in grind (arith, n));
              late = λ t a b. (let n = r.late t a b in grind (arith, n));
            })));
      }

  -- the words that it has stored of its own row
  abbrev stored_row : BucketTry → List (Option Op) → ℕ → Common
  stored_row attempt found i = record c {
    memory = write c.memory
        (BucketRowWord (row_no setup me (c.used me).bucket_rows) i) (get_or (made_words setup attempt found) i 0);
  }

  -- and one more of them
  more_stored : (attempt : BucketTry) (found : List (Option Op)) (i : ℕ) → RowStored setup c me attempt found i →
      RowStored setup (stored_row attempt found i) me attempt found (i + 1)
  more_stored attempt found i k j hj = (let was = k j in grind (arith, writes, was))

  -- it stores a word of the new row
  pub try_store : (round : Round) (attempt : BucketTry) (found : List (Option Op)) (i w : ℕ) →
      Keeps setup c me account.used flight local (TryStore round attempt found i) →
      Goes setup me c (record c {
        memory = write c.memory (BucketRowWord (row_no setup me (c.used me).bucket_rows) i)
            (get_or (made_words setup attempt found) i 0);
      }) local (state_after setup me account flight (TryStore round attempt found i) w)
  try_store round attempt found i w k =
      let room : (c.used me).bucket_rows < (sizes_of setup.shape me).bucket_rows =
      omega (arith, k.room.rows, k.in_round.two) in
      record {
        shared = store_shared setup me c h s (BucketRowWord (row_no setup me (c.used me).bucket_rows) i)
            (get_or (made_words setup attempt found) i 0) ((c.used me).bucket_rows, omega arith, room, refl);
        moves = store_moves setup me c h s (BucketRowWord (row_no setup me (c.used me).bucket_rows) i)
            (get_or (made_words setup attempt found) i 0) ((c.used me).bucket_rows, omega arith, room, refl);
        keeps = cond_both (ltb (i + 1) (bucket_row_words setup.shape.settings)) (TryStore round attempt found (i + 1))
            (TryExchange round attempt found)
            (λ ph. Keeps setup (stored_row attempt found i) me account.used
            (flight_after flight (TryStore round attempt found i) w) local ph)
            (λ e. record {
              works = grind (arith, k.works);
              room = grind (arith, k.room);
              in_round = grind (arith, k.in_round);
              opens = grind (arith, k.opens);
              all = k.all;
              entries = grind (arith, k.entries);
              short = omega (arith, width_is setup, ltb-true (i + 1) (bucket_row_words setup.shape.settings) e);
              so_far = more_stored attempt found i k.so_far;
            })
            (λ e. record {
              works = grind (arith, k.works);
              room = grind (arith, k.room);
              in_round = grind (arith, k.in_round);
              opens = grind (arith, k.opens);
              all = k.all;
              entries = grind (arith, k.entries);
              so_far = λ j hj. more_stored attempt found i k.so_far j (omega (
                arith,
                hj,
                width_is setup,
                ltb-false (i + 1) (bucket_row_words setup.shape.settings) e,
              ));
            });
      }

  -- the exchange is lost: the bucket has got a later row, and the try begins again
  pub lost : (round : Round) (attempt : BucketTry) (found : List (Option Op)) →
      Keeps setup c me account.used flight local (TryExchange round attempt found) →
      (c.memory.bucket round.bucket ≡ attempt.row → ⊥) →
      Goes setup me c c local (record {
        account = account;
        stand = InFlight (record flight { steps = flight.steps + 1 })
            (TryWord round (attempt.turn + 1) (Some attempt.first));
      })
  lost round attempt found k other = record {
    shared = s;
    moves = moves_none setup me c;
    keeps = record {
      works = k.works;
      room = k.room;
      in_round = k.in_round;
      begun = (let looks = k.opens.looks in let two = k.opens.two in
          let word = s.rows.word_is round.bucket k.in_round.there in
          inr (
            attempt.first,
            refl,
            looks.tries,
            omega (arith, looks.one),
            omega (arith, two),
            grind (arith, looks, word, other),
          ));
    };
  }
