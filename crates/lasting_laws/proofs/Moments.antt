-- What the ghost does at once, from a moment to a later one, where one seat goes on alone.
use Rattle.std.proofs.Common.{◌≡◌, ◌≢◌, ℕ, ◌+◌, ◌-◌, ◌<◌, ◌≤◌, ◌⊎◌, inl, inr, true, false, cond, List, [], ◌∷◌, ◌++◌, length, get_or, Option, Some, None, refl, sym, ap, ◌∙◌, arith, append_assoc, append-nil, true≢false}
use Rattle.std.specs.Prelude.{unwrap_or}
use Rattle.std.proofs.lemmas.Bool.{cases_eq, cases_lt, ne_eqb, eq-eqb, leb-true, le-leb}
use Rattle.step_counts.specs.StepCounts.{step_bound}
use Rattle.plain_map.specs.declared.calls.Reply.{Reply}
use Rattle.plain_map.specs.Calls.{is_update}
use Rattle.word_rows.specs.Memory.{put}
use Rattle.bucket_states.specs.declared.ops.Op.{Op}
use Rattle.bucket_states.specs.Laws.{applied_of, reply_at}
use Rattle.table_model.specs.declared.events.Event.{Event}
use Rattle.table_model.specs.declared.rounds.Round.{Round}
use Rattle.table_model.specs.Setup.{Setup, seats_of, settings_of}
use Rattle.table_model.specs.Phases.{Phase, BucketTry, TryWord, TryAnnouncement, TryOp}
use Rattle.table_model.specs.SeatStates.{Account, Flight, Idle, InFlight}
use Rattle.table_model.specs.Goes.{more, after_found, with_answer}
use Rattle.table_model.specs.Worlds.{world_after, seat_in}
use Rattle.run_invariant.proofs.Invariant.{Common, op_now, op_no}
use Rattle.run_invariant.proofs.Events.{local_after}
use Rattle.lasting_model.specs.Steps.{Update}
use Rattle.lasting_laws.proofs.Bursts.{step_event}
use Rattle.lasting_laws.proofs.Lost.{SamePast, same_self, same_both, IsOfTry, next_try, lose}
use Rattle.lasting_laws.proofs.Alone.{Event_is, one_event}
use Rattle.lasting_laws.proofs.OpsRead.{reads_at_once}
use Rattle.lasting_laws.proofs.LooksOut.{LookComes, ended, frozen, open_, look_comes}
use Rattle.lasting_laws.proofs.Shown.{Moment}

-- a later moment with the same history
pub record Burst (setup : Setup) (m : Moment setup) (p : ℕ) : Type 0 where
  pub next : Moment setup
  pub more : List Event
  pub is : next.events ≡ m.events ++ more
  pub past : SamePast m.common next.common
  pub others : (q : ℕ) → q ≢ p → seat_in (world_after setup next.events) q ≡ seat_in (world_after setup m.events) q

-- nothing
abbrev pub no_burst : (setup : Setup) (m : Moment setup) (p : ℕ) → Burst setup m p
no_burst setup m p = record {
  next = m;
  more = [];
  is = sym (append-nil m.events);
  past = same_self m.common;
  others = λ q n. refl;
}

-- one after the other
abbrev pub both_bursts : (setup : Setup) (m : Moment setup) (p : ℕ) (a : Burst setup m p) → Burst setup a.next p →
    Burst setup m p
both_bursts setup m p a b = record {
  next = b.next;
  more = a.more ++ b.more;
  is = b.is ∙ ap (λ (es : List Event). es ++ b.more) a.is ∙ append_assoc m.events a.more b.more;
  past = same_both m.common a.next.common b.next.common a.past b.past;
  others = λ q n. b.others q n ∙ a.others q n;
}

-- the seat stands in this phase of the update, and has seen at least so many answers of each seat
pub record At (setup : Setup) (m : Moment setup) (p : ℕ) (account : Account) (u : Update) (least : ℕ →
    ℕ) (phase : Phase) :
    Type 0 where
  pub flight : Flight
  pub state : seat_in (world_after setup m.events) p ≡ record { account = account; stand = InFlight flight phase }
  pub number_is : flight.number ≡ u.number
  pub call_is : flight.call ≡ u.call
  pub saw : (k : ℕ) → k < seats_of setup → least k ≤ get_or flight.seen k 0

module _ (setup : Setup) (m : Moment setup) (p : ℕ) (h : p < seats_of setup) (account : Account) (u : Update)
    (least : ℕ → ℕ) (update : is_update u.call ≡ true) where
  abbrev c : Common
  c = m.common

  -- a try that is lost is brought to its end
  pub again : (phase : Phase) (round : Round) (t : BucketTry) → At setup m p account u least phase →
      IsOfTry round t phase →
      c.memory.bucket round.bucket ≢ t.row →
      (b : Burst setup m p) × At setup b.next p account u least (next_try round t)
  again phase round t a is moved =
      let r = lose setup p round t (step_bound (settings_of setup)) m.events m.run c m.locals m.follows h account
      a.flight phase a.state (ap is_update a.call_is ∙ update) is moved (omega arith) in (
        record {
          next = record { events = r.last; run = r.run; common = r.common; locals = r.locals; follows = r.follows };
          more = r.more;
          is = r.is;
          past = r.past;
          others = r.others;
        },
        record {
          flight = record a.flight { steps = r.steps };
          state = r.mine;
          number_is = a.number_is;
          call_is = a.call_is;
          saw = a.saw;
        },
      )

  -- the row in use of a bucket, as a try has it
  abbrev pub try_of : (round : Round) (turn first : ℕ) → BucketTry
  try_of round turn first = record {
    turn = turn;
    first = first;
    row = c.row_at round.bucket (c.top round.bucket);
    state = c.state_at round.bucket (c.top round.bucket);
  }

  -- the row in use has the update, and the ghost has ended with its reply
  pub record HasIt (round : Round) : Type 0 where
    pub burst : Burst setup m p
    pub reply : Reply
    pub flight : Flight
    pub row : ℕ
    pub state : seat_in (world_after setup burst.next.events) p
        ≡ record { account = with_answer p account flight reply row; stand = Idle }
    pub number_is : flight.number ≡ u.number
    pub call_is : flight.call ≡ u.call
    pub saw : (k : ℕ) → k < seats_of setup → least k ≤ get_or flight.seen k 0
    pub has : u.number ≤ applied_of (c.state_at round.bucket (c.top round.bucket)) p
    pub reply_is : reply_at (c.state_at round.bucket (c.top round.bucket)) p ≡ Some reply

  -- or it lacks it, and the ghost is at the announcements
  pub record LacksIt (round : Round) (turn : ℕ) : Type 0 where
    pub burst : Burst setup m p
    pub first : ℕ
    pub at : At setup burst.next p account u least (TryAnnouncement round (try_of round turn first) [])
    pub two : turn ≤ 2
    pub lacks : applied_of (c.state_at round.bucket (c.top round.bucket)) p < u.number

  -- a look
  pub looks : (round : Round) (turn : ℕ) (before : Option ℕ) → At setup m p account u least
      (TryWord round turn before) →
      ((b : ℕ) → c.named b ≡ true → (c.state_at b (c.top b)).frozen ≡ false) → c.named round.bucket ≡ true →
      HasIt round ⊎ LacksIt round turn
  looks round turn before a live named = go
      (look_comes setup p round turn before m.events m.run c m.locals m.follows h account
      a.flight a.state (ap is_update a.call_is ∙ update))
    where
      first_row : ℕ
      first_row = unwrap_or before (c.row_at round.bucket (c.top round.bucket))

      go : LookComes setup p round turn first_row m.events c account a.flight → HasIt round ⊎ LacksIt round turn
      go (ended reply steps has reply_is k) = inl (record {
        burst = record {
          next = record { events = k.last; run = k.run; common = k.common; locals = k.locals; follows = k.follows };
          more = k.more;
          is = k.is;
          past = k.past;
          others = k.others;
        };
        reply = reply;
        flight = record a.flight { steps = steps };
        row = c.row_at round.bucket (c.top round.bucket);
        state = k.mine;
        number_is = a.number_is;
        call_is = a.call_is;
        saw = a.saw;
        has = (let less = leb-true a.flight.number
            (applied_of (c.state_at round.bucket (c.top round.bucket)) p) has in
            let same = a.number_is in omega (arith, less, same));
        reply_is = reply_is;
      })
      go (frozen steps cold k) = absurd (true≢false (sym cold ∙ live round.bucket named))
      go (open_ steps none live_now two k) = inr (record {
        burst = record {
          next = record { events = k.last; run = k.run; common = k.common; locals = k.locals; follows = k.follows };
          more = k.more;
          is = k.is;
          past = k.past;
          others = k.others;
        };
        first = first_row;
        at = record {
          flight = record a.flight { steps = steps };
          state = k.mine;
          number_is = a.number_is;
          call_is = a.call_is;
          saw = a.saw;
        };
        two = two;
        lacks = elim (cases_lt (applied_of (c.state_at round.bucket (c.top round.bucket)) p) u.number) [
          | inl more ↦ more
          | inr less ↦ absurd (true≢false (sym (le-leb a.flight.number
              (applied_of (c.state_at round.bucket (c.top round.bucket)) p)
              (let same = a.number_is in omega (arith, less, same))) ∙ none))
        ];
      })

  -- the op of the next seat
  pub record Finds (round : Round) (t : BucketTry) (theirs : List (Option Op)) : Type 0 where
    pub burst : Burst setup m p
    pub op : Option Op
    pub at : At setup burst.next p account u least (after_found setup round t (more theirs op))
    pub is : (((c.used (length theirs)).op_rows ≡ 0) × (op ≡ None))
        ⊎ ((0 < (c.used (length theirs)).op_rows) × (op ≡ Some (op_now c (length theirs))))

  pub finds : (round : Round) (t : BucketTry) (theirs : List (Option Op)) →
      At setup m p account u least (TryAnnouncement round t theirs) → length theirs < seats_of setup →
      Finds round t theirs
  finds round t theirs a less = elim (cases_eq word 0) [
    | inl e ↦ record {
      burst = one;
      op = None;
      at = record {
        flight = flight2;
        state = ev.state ∙ (λ i. record {
          account = account;
          stand = InFlight flight2 (cond (eq-eqb word 0 e i) (after_found setup round t (more theirs None))
              (TryOp round t theirs (word - 1) []));
        });
        number_is = a.number_is;
        call_is = a.call_is;
        saw = a.saw;
      };
      is = inl (m.follows.shared.calls.none q less e, refl);
    }
    | inr n ↦
        let posted = m.follows.shared.calls.posted q less n in
        let word_is : word - 1 ≡ op_no setup q ((c.used q).op_rows - 1) =
        (let w = posted.1 in omega (arith, w)) in
        let state : seat_in (world_after setup one.next.events) p ≡ record {
          account = account;
          stand = InFlight flight2 (TryOp round t theirs (op_no setup q ((c.used q).op_rows - 1)) []);
        } = ev.state ∙ (λ i. record {
          account = account;
          stand = InFlight flight2 (cond (ne_eqb word 0 n i) (after_found setup round t (more theirs None))
              (TryOp round t theirs (word_is i) []));
        }) in
        let r = reads_at_once setup p round t theirs c ((c.used q).op_rows - 1) one.next.events one.next.run
        one.next.common one.next.locals one.next.follows h account flight2 state (ap is_update a.call_is ∙ update)
        (same_self c) less (let some = posted.0 in omega (arith, some)) in
        record {
          burst = both_bursts setup m p one (record {
            next = record { events = r.last; run = r.run; common = r.common; locals = r.locals; follows = r.follows };
            more = r.more;
            is = r.is;
            past = r.past;
            others = r.others;
          });
          op = Some (op_now c q);
          at = record {
            flight = record flight2 { steps = r.steps };
            state = r.mine;
            number_is = a.number_is;
            call_is = a.call_is;
            saw = a.saw;
          };
          is = inr (posted.0, refl);
        }
  ]
    where
      q : ℕ
      q = length theirs

      word : ℕ
      word = c.memory.announced q

      ev : Event_is setup p m.events m.run c m.locals m.follows h account a.flight
          (TryAnnouncement round t theirs) a.state
      ev = one_event setup p m.events m.run c m.locals m.follows h account a.flight
          (TryAnnouncement round t theirs) a.state

      flight2 : Flight
      flight2 = record a.flight { steps = a.flight.steps + 1 }

      one : Burst setup m p
      one = record {
        next = record {
          events = m.events ++ step_event p ∷ [];
          run = ev.goes_on;
          common = c;
          locals = put m.locals p (local_after (TryAnnouncement round t theirs) c (m.locals p));
          follows = ev.follows;
        };
        more = step_event p ∷ [];
        is = refl;
        past = same_self c;
        others = ev.others;
      }
