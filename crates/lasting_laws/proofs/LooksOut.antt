-- A look of the ghost, taken at once with the load of the bucket word, with the history then: the update is in the
-- row, and the ghost ends; or the row is frozen; or the ghost goes on to the announcements.
use Rattle.std.proofs.Common.{◌≡◌, ℕ, ◌+◌, ◌<◌, ◌≤◌, ◌⊎◌, inl, inr, Bool, true, false, cond, List, [], ◌∷◌, ◌++◌, length, get_or, take, refl, sym, ap, ◌∙◌, subst, arith, append_assoc, lt-ltb}
use Rattle.std.specs.Prelude.{Option, Some, None, nat_lt, nat_le, slice_index, unwrap_or, slice_index_or}
use Rattle.std.proofs.lemmas.Bool.{cases_lt}
use Rattle.std.proofs.lemmas.List.{length-append}
use Rattle.step_counts.specs.StepCounts.{step_bound, bucket_row_words}
use Rattle.plain_map.specs.declared.calls.Reply.{Reply}
use Rattle.plain_map.specs.Calls.{is_update}
use Rattle.word_rows.specs.Memory.{put}
use Rattle.bucket_states.proofs.AnswerLemmas.{lt_false}
use Rattle.table_model.specs.declared.events.Event.{Event}
use Rattle.table_model.specs.declared.rounds.Round.{Round}
use Rattle.table_model.specs.Setup.{Setup, seats_of, settings_of}
use Rattle.table_model.specs.Phases.{Phase, BucketTry, SeeDone, StoreOp, Announce, FindRoot, FindDepth, FindEntry, LookWord, LookCount, LookItems, TryWord, TryRow, TryAnnouncement, TryOp, TryStore, TryExchange, DirRoot, DirDepth, DirEntries, DirAnnouncement, DirOp, DirWord, DirRow, DirStore, DirExchange, LastWord, LastRow, StoreDone, Stuck}
use Rattle.table_model.specs.SeatStates.{Account, Flight, Idle, InFlight, SeatState}
use Rattle.table_model.specs.Asks.{ask_in}
use Rattle.table_model.specs.Goes.{more, bucket_in_words, after_row, answered_by, answered_with, is_applied, with_answer}
use Rattle.table_model.specs.Worlds.{IsRun, world_after, seat_in}
use Rattle.run_invariant.proofs.Invariant.{Common, Local, Keeps, Shared, width}
use Rattle.run_invariant.proofs.Events.{tries_after, local_after}
use Rattle.run_laws.proofs.Induction.{Follows, found_in}
use Rattle.run_laws.proofs.Opened.{never_is_stuck}
use Rattle.lasting_laws.proofs.Lists.{take_one, take_all}
use Rattle.lasting_laws.proofs.Bursts.{step_event}
use Rattle.lasting_laws.proofs.Lost.{SamePast, same_self, same_both}
use Rattle.lasting_laws.proofs.Alone.{Closed, Reaches, comes_out, one_event, kept}
use Rattle.lasting_laws.proofs.Won.{Comes, ends_at_once}
use Rattle.lasting_laws.proofs.Looks.{Looked, has_it, is_frozen, is_open, is_stuck, looked}

module _ (setup : Setup) (p : ℕ) (round : Round) (turn first : ℕ) (c0 : Common) (number : ℕ) where
  abbrev b : ℕ
  b = round.bucket

  abbrev row : ℕ
  row = c0.row_at b (c0.top b)

  -- the try, as it stands then
  abbrev pub attempt : BucketTry
  attempt = record { turn = turn; first = first; row = row; state = c0.state_at b (c0.top b) }

  -- a flight of that number, for what the phase says
  abbrev IsReading : Phase → Type 0
  IsReading (TryRow r t one own words) =
      (r ≡ round) × (t ≡ turn) × (one ≡ first) × (own ≡ row)
      × (words ≡ take (length words) (c0.words_at b (c0.top b))) × (length words < bucket_row_words (settings_of setup))
  IsReading phase = ⊥

  abbrev HasRead : Flight → Phase → Type 0
  HasRead flight phase = phase ≡ after_row p flight round attempt

  abbrev Needs : Common → Type 0
  Needs d = SamePast c0 d × (d.named b ≡ true)

  stays : (x y : Common) → SamePast x y → Needs x → Needs y
  stays x y s n = (same_both c0 x y n.0 s, ap (λ f. f b) s.named ∙ n.1)

  -- the decision depends on the number alone
  decides : (f g : Flight) → f.number ≡ g.number → (t : BucketTry) → after_row p f round t ≡ after_row p g round t
  decides f g e t i = cond (nat_le (e i) (slice_index t.state.applied p)) (answered_by p t.state t.row)
      (cond t.state.frozen (DirRoot round 1 None) (cond (nat_le t.turn 2) (TryAnnouncement round t []) Stuck))

  reading : (flight0 : Flight) (c : Common) (account : Account) (flight : Flight) (local : Local) (phase : Phase) →
      Shared setup c → Keeps setup c p account.used flight local phase → flight.number ≡ flight0.number → Needs c →
      IsReading phase →
      Closed setup p IsReading (HasRead flight0) c account flight phase
      (found_in (ask_in setup p account.used flight phase) c.memory)
  unfolding width
  reading flight0 c account flight local (TryRow r t one own words) s k same needs is =
      record {
        past = same_self c;
        state = refl;
        leads = go (cases_lt (length words + 1) (bucket_row_words (settings_of setup)));
      }
    where
      size : ℕ
      size = bucket_row_words (settings_of setup)

      past : SamePast c0 c
      past = needs.0

      words_same : c.words_at b (c.top b) ≡ c0.words_at b (c0.top b)
      words_same i = past.words_at i b (past.top i b)

      sound : length (c0.words_at b (c0.top b)) ≡ size
      sound = ap (λ (ws : List ℕ). length ws) (sym words_same) ∙ (s.rows.sound b (c.top b) needs.1 (omega arith)).long

      word : ℕ
      word = c.memory.bucket_row own (length words)

      word_is : word ≡ get_or (c0.words_at b (c0.top b)) (length words) 0
      word_is = ap (λ n. c.memory.bucket_row n (length words))
          (is.3 ∙ (λ i. (sym past.row_at) i b ((sym past.top) i b)))
          ∙ s.rows.rows_are b (c.top b) (length words) needs.1 (omega arith) is.5
          ∙ ap (λ (ws : List ℕ). get_or ws (length words) 0) words_same

      longer : more words word ≡ take (length words + 1) (c0.words_at b (c0.top b))
      longer =
          (λ i. is.4 i ++ word_is i ∷ [])
          ∙ sym (take_one (c0.words_at b (c0.top b)) (length words) (length words + 1) 0 (omega arith)
          (omega (arith, sound, is.5)))

      phase_then : Bool → Phase
      phase_then x = cond x (TryRow r t one own (more words word))
          (after_row p flight r (record {
            turn = t;
            first = one;
            row = own;
            state = bucket_in_words setup (more words word);
          }))

      go : ((length words + 1) < size) ⊎ (size ≤ length words + 1) →
          IsReading (phase_then (nat_lt (length (more words word)) size))
          ⊎ HasRead flight0 (phase_then (nat_lt (length (more words word)) size))
      go (inl less) =
          let many : length (more words word) ≡ length words + 1 = length-append words (word ∷ []) in
          inl (subst (λ (x : Bool). IsReading (phase_then x))
          (sym (lt-ltb (length (more words word)) size (omega (arith, many, less)))) (
            is.0,
            is.1,
            is.2,
            is.3,
            longer ∙ ap (λ (n : ℕ). take n (c0.words_at b (c0.top b))) (sym many),
            omega (arith, many, less),
          ))
      go (inr all) =
          let many : length (more words word) ≡ length words + 1 = length-append words (word ∷ []) in
          let whole : length words + 1 ≡ size = omega (arith, is.5, all) in
          let words_are : more words word ≡ c.words_at b (c.top b) =
          longer ∙ take_all (c0.words_at b (c0.top b)) (length words + 1) (sound ∙ sym whole) ∙ sym words_same in
          let state_is : bucket_in_words setup (more words word) ≡ c0.state_at b (c0.top b) =
          ap (bucket_in_words setup) words_are ∙ (s.rows.sound b (c.top b) needs.1 (omega arith)).says
          ∙ (λ i. past.state_at i b (past.top i b)) in
          inr (subst (λ (x : Bool). HasRead flight0 (phase_then x))
          (sym (lt_false (length (more words word)) size (omega (arith, many, all))))
          ((λ i. after_row p flight (is.0 i) (record {
            turn = is.1 i;
            first = is.2 i;
            row = is.3 i;
            state = state_is i;
          })) ∙ decides flight flight0 same attempt))
  reading flight0 c account flight local SeeDone s k same needs is = absurd is
  reading flight0 c account flight local (StoreOp stored) s k same needs is = absurd is
  reading flight0 c account flight local Announce s k same needs is = absurd is
  reading flight0 c account flight local (FindRoot aim) s k same needs is = absurd is
  reading flight0 c account flight local (FindDepth aim root) s k same needs is = absurd is
  reading flight0 c account flight local (FindEntry aim root depth) s k same needs is = absurd is
  reading flight0 c account flight local (LookWord root bucket) s k same needs is = absurd is
  reading flight0 c account flight local (LookCount own) s k same needs is = absurd is
  reading flight0 c account flight local (LookItems own count words) s k same needs is = absurd is
  reading flight0 c account flight local (TryWord r t one) s k same needs is = absurd is
  reading flight0 c account flight local (TryAnnouncement r a o) s k same needs is = absurd is
  reading flight0 c account flight local (TryOp r a o op words) s k same needs is = absurd is
  reading flight0 c account flight local (TryStore r a o stored) s k same needs is = absurd is
  reading flight0 c account flight local (TryExchange r a o) s k same needs is = absurd is
  reading flight0 c account flight local (DirRoot r t one) s k same needs is = absurd is
  reading flight0 c account flight local (DirDepth r t one root) s k same needs is = absurd is
  reading flight0 c account flight local (DirEntries r t one root depth words) s k same needs is = absurd is
  reading flight0 c account flight local (DirAnnouncement r a o) s k same needs is = absurd is
  reading flight0 c account flight local (DirOp r a o op words) s k same needs is = absurd is
  reading flight0 c account flight local (DirWord r a o loaded bucket) s k same needs is = absurd is
  reading flight0 c account flight local (DirRow r a o loaded bucket own words) s k same needs is = absurd is
  reading flight0 c account flight local (DirStore r a o loaded stored) s k same needs is = absurd is
  reading flight0 c account flight local (DirExchange r a o loaded) s k same needs is = absurd is
  reading flight0 c account flight local (LastWord root bucket) s k same needs is = absurd is
  reading flight0 c account flight local (LastRow own words) s k same needs is = absurd is
  reading flight0 c account flight local (StoreDone reply place) s k same needs is = absurd is
  reading flight0 c account flight local Stuck s k same needs is = absurd is

-- what comes of a look
pub data LookComes (setup : Setup) (p : ℕ) (round : Round) (turn first : ℕ) (events : List Event) (c : Common)
    (account : Account) (flight : Flight) : Type 0 where
  ended : (reply : Reply) (steps : ℕ) →
      is_applied p flight (attempt setup p round turn first c flight.number).state ≡ true →
      slice_index_or (attempt setup p round turn first c flight.number).state.replies p None ≡ Some reply →
      Comes setup p events c (record {
        account = with_answer p account (record flight { steps = steps }) reply
            (attempt setup p round turn first c flight.number).row;
        stand = Idle;
      }) → LookComes setup p round turn first events c account flight
  frozen : (steps : ℕ) → (attempt setup p round turn first c flight.number).state.frozen ≡ true →
      Comes setup p events c (record {
        account = account;
        stand = InFlight (record flight { steps = steps }) (DirRoot round 1 None);
      }) → LookComes setup p round turn first events c account flight
  open_ : (steps : ℕ) → is_applied p flight (attempt setup p round turn first c flight.number).state ≡ false →
      (attempt setup p round turn first c flight.number).state.frozen ≡ false → turn ≤ 2 →
      Comes setup p events c (record {
        account = account;
        stand = InFlight (record flight { steps = steps })
            (TryAnnouncement round (attempt setup p round turn first c flight.number) []);
      }) → LookComes setup p round turn first events c account flight

module _ (setup : Setup) (p : ℕ) (round : Round) (turn : ℕ) (before : Option ℕ) (events : List Event)
    (run : IsRun setup events) (c : Common) (locals : ℕ → Local)
    (f : Follows setup (world_after setup events) c locals) (h : p < seats_of setup) (account : Account)
    (flight : Flight)
    (mine : seat_in (world_after setup events) p
    ≡ record { account = account; stand = InFlight flight (TryWord round turn before) })
    (update : is_update flight.call ≡ true) where
  -- the row in use, and the first that the round loaded
  abbrev in_use : ℕ
  in_use = c.row_at round.bucket (c.top round.bucket)

  abbrev pub first_row : ℕ
  first_row = unwrap_or before in_use

  abbrev tries : BucketTry
  tries = attempt setup p round turn first_row c flight.number

  -- the bucket is one that there is
  there : c.named round.bucket ≡ true
  there = (kept setup p events run c locals f h account flight (TryWord round turn before) mine).in_round.there

  -- the load of the bucket word leaves the past as it is
  same_word : (o : Option ℕ) → SamePast c (tries_after p round o c)
  same_word None = record {
    root = refl;
    announced = refl;
    bucket = refl;
    dir_top = refl;
    dir_row = refl;
    dir_at = refl;
    named = refl;
    pre = refl;
    deep = refl;
    top = refl;
    row_at = refl;
    words_at = refl;
    state_at = refl;
    used = refl;
    op_at = refl;
    op_words = refl;
  }
  same_word (Some x) = same_self c

  abbrev At : Phase → Type 0
  At phase = (steps : ℕ) × Comes setup p events c
      (record { account = account; stand = InFlight (record flight { steps = steps }) phase })

  -- the whole row
  read : At (after_row p flight round tries)
  read =
      let e = one_event setup p events run c locals f h account flight (TryWord round turn before) mine in
      let past = same_word before in
      let word_is : c.memory.bucket round.bucket ≡ in_use = f.shared.rows.word_is round.bucket there in
      let now : seat_in (world_after setup (events ++ step_event p ∷ [])) p ≡ record {
        account = account;
        stand = InFlight (record flight { steps = flight.steps + 1 }) (TryRow round turn first_row in_use []);
      } = e.state ∙ (λ i. record {
        account = account;
        stand = InFlight (record flight { steps = flight.steps + 1 })
            (TryRow round turn (unwrap_or before (word_is i)) (word_is i) []);
      }) in
      let z = comes_out setup p (λ g. g.number ≡ flight.number) (λ g n x. x)
      (IsReading setup p round turn first_row c flight.number)
      (HasRead setup p round turn first_row c flight.number flight)
      (Needs setup p round turn first_row c flight.number) (stays setup p round turn first_row c flight.number)
      (reading setup p round turn first_row c flight.number flight)
      (step_bound (settings_of setup)) (events ++ step_event p ∷ []) e.goes_on (tries_after p round before c)
      (put locals p (local_after (TryWord round turn before) c (locals p))) e.follows h account
      (record flight { steps = flight.steps + 1 }) (TryRow round turn first_row in_use []) now update refl
      (refl, refl, refl, refl, refl, omega arith) (past, ap (λ (x : ℕ → Bool). x round.bucket) past.named ∙ there)
      (omega arith) in
      let x = subst (Reaches setup p (events ++ step_event p ∷ []) (tries_after p round before c) account
      (record flight { steps = flight.steps + 1 })) z.1 z.2 in (
        x.steps,
        record {
          last = x.last;
          more = step_event p ∷ x.more;
          is = x.is ∙ append_assoc events (step_event p ∷ []) x.more;
          run = x.run;
          common = x.common;
          locals = x.locals;
          follows = x.follows;
          past = same_both c (tries_after p round before c) x.common past x.past;
          mine = x.mine;
          others = λ q n. x.others q n ∙ e.others q n;
        },
      )

  unstuck : At Stuck → ⊥
  unstuck x = never_is_stuck setup x.1.last p (record flight { steps = x.0 }) Stuck x.1.run
      (record { seat_is = h; stand = ap (λ (s : SeatState). s.stand) x.1.mine; update = update }) refl

  -- a reply that is there ends the call
  with_reply : (o : Option Reply) → slice_index_or tries.state.replies p None ≡ o →
      is_applied p flight tries.state ≡ true → At (answered_with tries.row o) →
      LookComes setup p round turn first_row events c account flight
  with_reply None e has x = absurd (unstuck x)
  with_reply (Some reply) e has x =
      let z = ends_at_once setup p x.1.last x.1.run x.1.common x.1.locals x.1.follows h account
      (record flight { steps = x.0 }) reply tries.row x.1.mine in
      ended reply x.0 has e (record {
        last = z.last;
        more = x.1.more ++ z.more;
        is = z.is ∙ ap (λ (es : List Event). es ++ z.more) x.1.is ∙ append_assoc events x.1.more z.more;
        run = z.run;
        common = z.common;
        locals = z.locals;
        follows = z.follows;
        past = same_both c x.1.common z.common x.1.past z.past;
        mine = z.mine;
        others = λ q n. z.others q n ∙ x.1.others q n;
      })

  -- THE RESULT
  pub look_comes : LookComes setup p round turn first_row events c account flight
  look_comes = go (looked p flight round tries)
    where
      go : Looked p flight round tries → LookComes setup p round turn first_row events c account flight
      go (has_it has e) = with_reply (slice_index_or tries.state.replies p None) refl has (subst At e read)
      go (is_frozen cold e) = (let x = subst At e read in frozen x.0 cold x.1)
      go (is_open none live two e) = (let x = subst At e read in open_ x.0 none live two x.1)
      go (is_stuck e) = absurd (unstuck (subst At e read))
