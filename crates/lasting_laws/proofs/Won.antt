-- An exchange that happens: the ghost stores its row, exchanges the bucket word and, if its update is in the row,
-- ends, all at once. And a ghost that knows its reply ends at once.
use Rattle.std.proofs.Common.{◌≡◌, ◌≢◌, ℕ, ◌+◌, ◌<◌, ◌⊎◌, inl, inr, Bool, true, false, cond, eqb, List, [], ◌∷◌, ◌++◌, refl, sym, ap, ◌∙◌, subst, arith, append_assoc}
use Rattle.std.specs.Prelude.{Option, Some, None, nat_lt, slice_index_or}
use Rattle.std.proofs.lemmas.Bool.{eq-eqb}
use Rattle.step_counts.specs.StepCounts.{step_bound, bucket_row_words}
use Rattle.plain_map.specs.declared.calls.Reply.{Reply}
use Rattle.plain_map.specs.declared.full.FullKind.TheVariants.{BucketRows}
use Rattle.plain_map.specs.declared.calls.Call.{Call}
use Rattle.plain_map.specs.Calls.{is_update}
use Rattle.word_rows.specs.Memory.{put, put_at}
use Rattle.bucket_states.specs.declared.ops.Op.{Op}
use Rattle.bucket_states.specs.States.{BucketState}
use Rattle.table_model.specs.declared.events.Event.{Event}
use Rattle.table_model.specs.declared.rounds.Round.{Round}
use Rattle.table_model.specs.Setup.{Setup, seats_of, settings_of, next_number}
use Rattle.table_model.specs.Phases.{Phase, BucketTry, SeeDone, StoreOp, Announce, FindRoot, FindDepth, FindEntry, LookWord, LookCount, LookItems, TryWord, TryRow, TryAnnouncement, TryOp, TryStore, TryExchange, DirRoot, DirDepth, DirEntries, DirAnnouncement, DirOp, DirWord, DirRow, DirStore, DirExchange, LastWord, LastRow, StoreDone, Stuck}
use Rattle.table_model.specs.SeatStates.{Account, Flight, Idle, InFlight, SeatState}
use Rattle.table_model.specs.Asks.{ask_in}
use Rattle.table_model.specs.Goes.{with_answer, is_applied, answered_by, answered_with, after_exchange}
use Rattle.table_model.specs.Stores.{made_bucket}
use Rattle.table_model.specs.Worlds.{IsRun, world_after, seat_in}
use Rattle.run_invariant.proofs.Invariant.{Common, Local, Keeps, Shared, row_no, made_words}
use Rattle.run_invariant.proofs.Events.{published, local_after}
use Rattle.run_laws.proofs.Induction.{Follows, common_after, found_in}
use Rattle.run_laws.proofs.Opened.{never_is_stuck}
use Rattle.lasting_laws.proofs.Bursts.{step_event}
use Rattle.lasting_laws.proofs.Lost.{SamePast, same_both}
use Rattle.lasting_laws.proofs.Alone.{Closed, Reaches, comes_out, one_event}

-- where a burst leads: the run, with its history
pub record Comes (setup : Setup) (p : ℕ) (events : List Event) (c : Common) (state : SeatState) : Type 0 where
  pub last : List Event
  pub more : List Event
  pub is : last ≡ events ++ more
  pub run : IsRun setup last
  pub common : Common
  pub locals : ℕ → Local
  pub follows : Follows setup (world_after setup last) common locals
  pub past : SamePast c common
  pub mine : seat_in (world_after setup last) p ≡ state
  pub others : (q : ℕ) → q ≢ p → seat_in (world_after setup last) q ≡ seat_in (world_after setup events) q

-- ---- a ghost that knows its reply

pub ends_at_once : (setup : Setup) (p : ℕ) (events : List Event) (run : IsRun setup events) (c : Common)
    (locals : ℕ → Local) (f : Follows setup (world_after setup events) c locals) (h : p < seats_of setup)
    (account : Account) (flight : Flight) (reply : Reply) (row : ℕ) →
    seat_in (world_after setup events) p
    ≡ record { account = account; stand = InFlight flight (StoreDone reply row) } →
    Comes setup p events c (record { account = with_answer p account flight reply row; stand = Idle })
ends_at_once setup p events run c locals f h account flight reply row mine =
    let e = one_event setup p events run c locals f h account flight (StoreDone reply row) mine in
    record {
      last = events ++ step_event p ∷ [];
      more = step_event p ∷ [];
      is = refl;
      run = e.goes_on;
      common = common_after setup p account.used flight (StoreDone reply row) c;
      locals = put locals p (local_after (StoreDone reply row) c (locals p));
      follows = e.follows;
      past = record {
        root = refl;
        announced = refl;
        bucket = refl;
        dir_top = refl;
        dir_row = refl;
        dir_at = refl;
        named = refl;
        pre = refl;
        deep = refl;
        top = refl;
        row_at = refl;
        words_at = refl;
        state_at = refl;
        used = refl;
        op_at = refl;
        op_words = refl;
      };
      mine = e.state;
      others = e.others;
    }

-- ---- the stores of a row

module _ (setup : Setup) (p : ℕ) (round : Round) (attempt : BucketTry) (found : List (Option Op)) where
  abbrev IsStoring : Phase → Type 0
  IsStoring (TryStore r a o stored) = (r ≡ round) × (a ≡ attempt) × (o ≡ found)
  IsStoring phase = ⊥

  abbrev IsStored : Phase → Type 0
  IsStored phase = phase ≡ TryExchange round attempt found

  storing : (call : Call) (c : Common) (account : Account) (flight : Flight) (local : Local) (phase : Phase) →
      Shared setup c → Keeps setup c p account.used flight local phase → flight.call ≡ call → Unit {0} →
      IsStoring phase →
      Closed setup p IsStoring IsStored c account flight phase
      (found_in (ask_in setup p account.used flight phase) c.memory)
  storing call c account flight local (TryStore r a o stored) s k same none is = record {
    past = record {
      root = refl;
      announced = refl;
      bucket = refl;
      dir_top = refl;
      dir_row = refl;
      dir_at = refl;
      named = refl;
      pre = refl;
      deep = refl;
      top = refl;
      row_at = refl;
      words_at = refl;
      state_at = refl;
      used = refl;
      op_at = refl;
      op_words = refl;
    };
    state = refl;
    leads = either (nat_lt (stored + 1) (bucket_row_words (settings_of setup)));
  }
    where
      either : (b : Bool) → IsStoring (cond b (TryStore r a o (stored + 1)) (TryExchange r a o))
          ⊎ IsStored (cond b (TryStore r a o (stored + 1)) (TryExchange r a o))
      either true = inl is
      either false = inr (λ i. TryExchange (is.0 i) (is.1 i) (is.2 i))
  storing call c account flight local SeeDone s k same none is = absurd is
  storing call c account flight local (StoreOp stored) s k same none is = absurd is
  storing call c account flight local Announce s k same none is = absurd is
  storing call c account flight local (FindRoot aim) s k same none is = absurd is
  storing call c account flight local (FindDepth aim root) s k same none is = absurd is
  storing call c account flight local (FindEntry aim root depth) s k same none is = absurd is
  storing call c account flight local (LookWord root bucket) s k same none is = absurd is
  storing call c account flight local (LookCount row) s k same none is = absurd is
  storing call c account flight local (LookItems row count words) s k same none is = absurd is
  storing call c account flight local (TryWord r turn first) s k same none is = absurd is
  storing call c account flight local (TryRow r turn first row words) s k same none is = absurd is
  storing call c account flight local (TryAnnouncement r a o) s k same none is = absurd is
  storing call c account flight local (TryOp r a o op words) s k same none is = absurd is
  storing call c account flight local (TryExchange r a o) s k same none is = absurd is
  storing call c account flight local (DirRoot r turn first) s k same none is = absurd is
  storing call c account flight local (DirDepth r turn first root) s k same none is = absurd is
  storing call c account flight local (DirEntries r turn first root depth words) s k same none is = absurd is
  storing call c account flight local (DirAnnouncement r a o) s k same none is = absurd is
  storing call c account flight local (DirOp r a o op words) s k same none is = absurd is
  storing call c account flight local (DirWord r a o loaded bucket) s k same none is = absurd is
  storing call c account flight local (DirRow r a o loaded bucket row words) s k same none is = absurd is
  storing call c account flight local (DirStore r a o loaded stored) s k same none is = absurd is
  storing call c account flight local (DirExchange r a o loaded) s k same none is = absurd is
  storing call c account flight local (LastWord root bucket) s k same none is = absurd is
  storing call c account flight local (LastRow row words) s k same none is = absurd is
  storing call c account flight local (StoreDone reply place) s k same none is = absurd is
  storing call c account flight local Stuck s k same none is = absurd is

  -- the same row is published in the same history
  published_same : (c d : Common) → SamePast c d →
      SamePast (published setup p round.bucket attempt found c) (published setup p round.bucket attempt found d)
  published_same c d s =
      let b = round.bucket in
      record {
        root = s.root;
        announced = s.announced;
        bucket = λ i. put (s.bucket i) b (row_no setup p (s.used i p).bucket_rows);
        dir_top = s.dir_top;
        dir_row = s.dir_row;
        dir_at = s.dir_at;
        named = s.named;
        pre = s.pre;
        deep = s.deep;
        top = λ i. put (s.top i) b (s.top i b + 1);
        row_at = λ i. put_at (s.row_at i) b (s.top i b + 1) (row_no setup p (s.used i p).bucket_rows);
        words_at = λ i. put_at (s.words_at i) b (s.top i b + 1) (made_words setup attempt found);
        state_at = λ i. put_at (s.state_at i) b (s.top i b + 1) (made_bucket setup attempt found);
        used = λ i. put (s.used i) p (record (s.used i p) { bucket_rows = (s.used i p).bucket_rows + 1 });
        op_at = s.op_at;
        op_words = s.op_words;
      }

  -- the seat's account with one more row
  abbrev pub with_row : Account → Account
  with_row account = record account { used = record account.used { bucket_rows = account.used.bucket_rows + 1 } }

  -- what becomes of it: the update is in the row, and has ended; or the bucket is frozen without it
  pub data Won (events : List Event) (c : Common) (account : Account) (flight : Flight) : Type 0 where
    ended : (reply : Reply) (steps : ℕ) →
        is_applied p flight (made_bucket setup attempt found) ≡ true →
        slice_index_or (made_bucket setup attempt found).replies p None ≡ Some reply →
        Comes setup p events (published setup p round.bucket attempt found c)
        (record {
          account = with_answer p (with_row account) (record flight { steps = steps }) reply
              (next_number setup p BucketRows account.used);
          stand = Idle;
        }) → Won events c account flight
    frozen : (steps : ℕ) → (made_bucket setup attempt found).frozen ≡ true →
        Comes setup p events (published setup p round.bucket attempt found c)
        (record {
          account = with_row account;
          stand = InFlight (record flight { steps = steps }) (DirRoot round 1 None);
        }) → Won events c account flight

  module _ (events : List Event) (run : IsRun setup events) (c : Common) (locals : ℕ → Local)
      (f : Follows setup (world_after setup events) c locals) (h : p < seats_of setup) (account : Account)
      (flight : Flight) (stored : ℕ)
      (mine : seat_in (world_after setup events) p
      ≡ record { account = account; stand = InFlight flight (TryStore round attempt found stored) })
      (update : is_update flight.call ≡ true) (stands : c.memory.bucket round.bucket ≡ attempt.row) where
    -- the stores
    stores : (out : Phase) × IsStored out × Reaches setup p events c account flight out
    stores = comes_out setup p (λ g. g.call ≡ flight.call) (λ g n e. e) IsStoring IsStored (λ d. Unit {0})
        (λ a b s n. tt) (storing flight.call)
        (step_bound (settings_of setup)) events run c locals f h account flight (TryStore round attempt found stored)
        mine update refl (refl, refl, refl) tt (omega arith)

    -- to the exchange
    at_exchange : Reaches setup p events c account flight (TryExchange round attempt found)
    at_exchange = (let z = stores in subst (Reaches setup p events c account flight) z.1 z.2)

    -- what it makes
    abbrev made : BucketState
    made = made_bucket setup attempt found

    -- and the exchange
    exchanged : (steps : ℕ) × Comes setup p events (published setup p round.bucket attempt found c)
        (record {
          account = with_row account;
          stand = InFlight (record flight { steps = steps })
              (after_exchange p flight round made (next_number setup p BucketRows account.used));
        })
    exchanged =
        let r = at_exchange in
        let flight2 : Flight = record flight { steps = r.steps } in
        let e = one_event setup p r.last r.run r.common r.locals r.follows h account flight2
        (TryExchange round attempt found) r.mine in
        let same : r.common.memory.bucket round.bucket ≡ attempt.row =
        ap (λ (m : ℕ → ℕ). m round.bucket) r.past.bucket ∙ stands in
        let test : eqb (r.common.memory.bucket round.bucket) attempt.row ≡ true =
        eq-eqb (r.common.memory.bucket round.bucket) attempt.row same in (
          r.steps + 1,
          record {
            last = r.last ++ step_event p ∷ [];
            more = r.more ++ step_event p ∷ [];
            is = ap (λ (es : List Event). es ++ step_event p ∷ []) r.is
                ∙ append_assoc events r.more (step_event p ∷ []);
            run = e.goes_on;
            common = common_after setup p account.used flight2 (TryExchange round attempt found) r.common;
            locals = put r.locals p (local_after (TryExchange round attempt found) r.common (r.locals p));
            follows = e.follows;
            past = subst (SamePast (published setup p round.bucket attempt found c))
                (ap (λ (b : Bool). cond b (published setup p round.bucket attempt found r.common) r.common)
                (sym test))
                (published_same c r.common r.past);
            mine = e.state ∙ (λ i. record {
              account = record account {
                used = cond (test i) (record account.used { bucket_rows = account.used.bucket_rows + 1 }) account.used;
              };
              stand = InFlight (record flight { steps = r.steps + 1 })
                  (cond (test i)
                  (after_exchange p flight2 round made (next_number setup p BucketRows account.used))
                  (TryWord round (attempt.turn + 1) (Some attempt.first)));
            });
            others = λ q n. e.others q n ∙ r.others q n;
          },
        )

    -- it never is stuck
    unstuck : (x : Comes setup p events (published setup p round.bucket attempt found c)
        (record { account = with_row account; stand = InFlight (record flight { steps = exchanged.0 }) Stuck })) → ⊥
    unstuck x = never_is_stuck setup x.last p (record flight { steps = exchanged.0 }) Stuck x.run
        (record { seat_is = h; stand = ap (λ (s : SeatState). s.stand) x.mine; update = update }) refl

    -- THE RESULT
    pub wins : Won events c account flight
    wins = by_applied (is_applied p flight made) refl
      where
        At : Phase → Type 0
        At phase = Comes setup p events (published setup p round.bucket attempt found c)
            (record { account = with_row account; stand = InFlight (record flight { steps = exchanged.0 }) phase })

        by_frozen : (b : Bool) → made.frozen ≡ b → is_applied p flight made ≡ false → Won events c account flight
        by_frozen true e none = frozen exchanged.0 e (subst At
            (λ i. cond (none i) (answered_by p made (next_number setup p BucketRows account.used))
            (cond (e i) (DirRoot round 1 None) Stuck)) exchanged.1)
        by_frozen false e none = absurd (unstuck (subst At
            (λ i. cond (none i) (answered_by p made (next_number setup p BucketRows account.used))
            (cond (e i) (DirRoot round 1 None) Stuck)) exchanged.1))

        by_reply : (o : Option Reply) → slice_index_or made.replies p None ≡ o → is_applied p flight made ≡ true →
            At (answered_with (next_number setup p BucketRows account.used) o) → Won events c account flight
        by_reply None e applied x = absurd (unstuck x)
        by_reply (Some reply) e applied x =
            let z = ends_at_once setup p x.last x.run x.common x.locals x.follows h (with_row account)
            (record flight { steps = exchanged.0 }) reply (next_number setup p BucketRows account.used) x.mine in
            ended reply exchanged.0 applied e (record {
              last = z.last;
              more = x.more ++ z.more;
              is = z.is ∙ ap (λ (es : List Event). es ++ z.more) x.is ∙ append_assoc events x.more z.more;
              run = z.run;
              common = z.common;
              locals = z.locals;
              follows = z.follows;
              past = same_both (published setup p round.bucket attempt found c) x.common z.common x.past z.past;
              mine = z.mine;
              others = λ q n. z.others q n ∙ x.others q n;
            })

        by_applied : (b : Bool) → is_applied p flight made ≡ b → Won events c account flight
        by_applied true e = by_reply (slice_index_or made.replies p None) refl e (subst At
            (λ i. cond (e i) (answered_by p made (next_number setup p BucketRows account.used))
            (cond made.frozen (DirRoot round 1 None) Stuck)) exchanged.1)
        by_applied false e = by_frozen made.frozen refl e
