-- What is kept and known, phase by phase, where nothing is published: what a seat sees, where a lookup looks and what
-- it reads, and the row from which a call has its reply.
use Rattle.std.proofs.Common.{◌≡◌, ℕ, ◌+◌, ◌-◌, ◌*◌, ◌<◌, ◌≤◌, Bool, true, false, cond, List, length, get_or, take, drop, Option, Some, None, true≢false, refl, sym, ap, ◌∙◌, subst, arith, get_or-drop}
use Rattle.step_counts.specs.declared.TheConstants.{ITEM_WORDS}
use Rattle.step_counts.specs.declared.rows.SeatRows.{SeatRows}
use Rattle.plain_map.specs.declared.calls.Call.{Call}
use Rattle.plain_map.specs.declared.calls.Call.TheVariants.{Insert, Remove, Lookup, Tally, Count, Put}
use Rattle.plain_map.specs.declared.calls.Reply.{Reply}
use Rattle.plain_map.specs.Calls.{key_in, is_update}
use Rattle.word_rows.specs.BucketWords.{items_of_words, words_of_bucket}
use Rattle.word_rows.specs.Memory.{Memory}
use Rattle.word_rows.proofs.BucketLemmas.{items_read}
use Rattle.bucket_states.specs.declared.ops.Op.{Op}
use Rattle.bucket_states.specs.States.{BucketState, row_of_state}
use Rattle.bucket_states.specs.Values.{IsUpdate}
use Rattle.bucket_states.specs.Laws.{applied_of, reply_at}
use Rattle.table_model.specs.Setup.{Setup, seats_of}
use Rattle.table_model.specs.Phases.{Phase}
use Rattle.table_model.specs.SeatStates.{Account, Flight, InFlight, SeatState}
use Rattle.table_model.specs.Goes.{answered_by, answered_with}
use Rattle.run_invariant.proofs.Invariant.{Common, Local, Shared, Works, bits, width}
use Rattle.order_laws.proofs.Tale.{Past, past_of, Tale, Told, Knows, Flying, Seated}
use Rattle.order_laws.proofs.Grows.{Grows, grows_none}

-- one event of seat me: what is kept, known and told then
pub record Went (setup : Setup) (me number : ℕ) (p : Past) (t : Tale) (q : Past) (m : Memory) (local : Local)
    (state : SeatState) : Type 0 where
  pub tale : Tale
  pub told : Told setup q tale
  pub grows : Grows me number p t q tale
  pub done : (s : ℕ) → m.done s ≡ tale.answers s
  pub seat : Seated setup q tale me local state.account state.stand

module _ (setup : Setup) (me : ℕ) (p : Past) (account : Account) (flight : Flight) (local : Local) (phase : Phase)
    (t : Tale) (told : Told setup p t) (k : Flying setup p t me account flight local phase) where
  -- an event by which nothing new is kept
  pub quiet : (m : Memory) → ((s : ℕ) → m.done s ≡ t.answers s) → (used : SeatRows) (now : Local) (next : Phase) →
      Knows setup p t me flight.number flight.call now next →
      Went setup me flight.number p t p m now
      (record {
        account = record account { used = used };
        stand = InFlight (record flight { steps = flight.steps + 1 }) next;
      })
  quiet m done used now next knows = record {
    tale = t;
    told = told;
    grows = grows_none me flight.number p t;
    done = done;
    seat = record {
      answers = k.answers;
      upto = k.upto;
      number_is = k.number_is;
      call_is = k.call_is;
      seen_is = k.seen_is;
      knows = knows;
    };
  }

-- one of two phases
pub either : (P : Phase → Type 0) (b : Bool) (x y : Phase) → P x → P y → P (cond b x y)
either P true x y h k = h
either P false x y h k = k

-- a row that has the number of a call, and its reply
module _ (setup : Setup) (me : ℕ) (flight : Flight) (h : me < seats_of setup) (p : Past) (t : Tale)
    (told : Told setup p t) (some : 1 ≤ flight.number) (update : is_update flight.call ≡ true)
    (upto : (j : ℕ) → j < p.ops me → (p.op_at me j).number ≤ flight.number) where
  -- an applied number of the seat is no larger than that of its call
  applied_few : (b i : ℕ) → p.named b ≡ true → i ≤ p.top b → flight.number ≤ applied_of (p.state_at b i) me →
      applied_of (p.state_at b i) me ≡ flight.number
  applied_few b i n o has =
      let r = told.applied b i me n o h (omega (arith, has, some)) in
      omega (arith, has, r.2, upto r.0 r.1)

  -- the reply of a row that has the number
  pub answers_row : (local : Local) (b i row : ℕ) (state : BucketState) → p.named b ≡ true → i ≤ p.top b →
      row ≡ p.row_at b i → state ≡ p.state_at b i → bits setup (p.deep b) (key_in flight.call) ≡ p.pre b →
      flight.number ≤ applied_of state me → Knows setup p t me flight.number flight.call local
      (answered_by me state row)
  answers_row local b i row state n o e is suits has = go (reply_at state me) refl
    where
      go : (r : Option Reply) → reply_at state me ≡ r →
          Knows setup p t me flight.number flight.call local (answered_with row r)
      go None f = tt
      go (Some reply) f = record {
        update = λ _. record {
          bucket = b;
          at = i;
          named = n;
          inside = o;
          place_is = e;
          suits = suits;
          number_is = applied_few b i n o (subst (λ (x : BucketState). flight.number ≤ applied_of x me) is has);
          reply_is = ap (λ (x : BucketState). reply_at x me) (sym is) ∙ f;
        };
        lookup = λ u. absurd (true≢false (sym update ∙ u));
      }

-- a call that updates passes the test for updates
pub is_update_call : (call : Call) → IsUpdate call → is_update call ≡ true
is_update_call (Insert key value) u = refl
is_update_call (Remove key) u = refl
is_update_call (Lookup key) u = elim u [ ]
is_update_call (Tally key amount) u = refl
is_update_call (Count key value amount) u = refl
is_update_call (Put key value) u = refl

module _ (setup : Setup) (me : ℕ) (c : Common) (flight : Flight) (h : me < seats_of setup) (s : Shared setup c)
    (t : Tale) (told : Told setup (past_of c) t) where
  -- what is known of the seat before the event
  abbrev Knew : Local → Phase → Type 0
  Knew local phase = Knows setup (past_of c) t me flight.number flight.call local phase

  -- an announced call is an update
  pub update_is : (used : SeatRows) → Works setup c me used flight.number flight.call → is_update flight.call ≡ true
  update_is used w = is_update_call flight.call (subst (λ (op : Op). IsUpdate op.call) w.op_is
      (s.calls.sound me ((c.used me).op_rows - 1) h (omega (arith, w.announced))).update)

  -- ---- what a lookup reads of the items

  -- a word of a published row is one of its items' words
  pub word_items : (b i n : ℕ) → c.named b ≡ true → i ≤ c.top b → 5 + n < width setup →
      c.memory.bucket_row (c.row_at b i) (5 + n) ≡ get_or (drop 5 (c.words_at b i)) n 0
  word_items b i n there o less = s.rows.rows_are b i (5 + n) there o less ∙ sym (get_or-drop 5 (c.words_at b i) n 0)

  -- all words of the items say them
  pub items_all : (b i count : ℕ) (words : List ℕ) → c.named b ≡ true → i ≤ c.top b →
      count ≡ get_or (c.words_at b i) 4 0 → words ≡ take (length words) (drop 5 (c.words_at b i)) →
      length words ≡ count * ITEM_WORDS → items_of_words count words ≡ (c.state_at b i).items
  items_all b i count words n o e w l =
      let sound = s.rows.sound b i n o in
      let row = row_of_state (c.base_at b i) (c.state_at b i) in
      let spelled = sound.spells.1 in
      let many : count ≡ length (c.state_at b i).items = e ∙ ap (λ ws. get_or ws 4 0) spelled in
      ap (items_of_words count) (w ∙ ap (λ z. take z (drop 5 (c.words_at b i))) l
      ∙ ap (λ ws. take (count * ITEM_WORDS) (drop 5 ws)) spelled)
      ∙ ap (λ z. items_of_words z (take (z * ITEM_WORDS) (drop 5 (words_of_bucket setup.shape.settings row)))) many
      ∙ items_read setup.shape.settings row sound.spells.0
