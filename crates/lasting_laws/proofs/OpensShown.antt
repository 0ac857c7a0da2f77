-- A lasting table that is opened shows its ghost as it is opened; and so each run is shown.
use Rattle.std.proofs.Common.{◌≡◌, ℕ, suc, ◌+◌, ◌<◌, ◌≤◌, inl, inr, Bool, true, cond, List, [], length, get_or, refl, sym, ap, ◌∙◌, subst, arith, lt-ltb}
use Rattle.std.proofs.lemmas.List.{get_or-map, get_or-replicate}
use Rattle.std.proofs.lemmas.List.Elements.{All-nil}
use Rattle.step_counts.specs.declared.rows.SeatRows.{SeatRows}
use Rattle.bucket_states.specs.States.{BucketState, empty_state}
use Rattle.table_model.specs.declared.events.Event.{Event}
use Rattle.table_model.specs.Leaves.{NewLeaf}
use Rattle.table_model.specs.Setup.{Setup, seats_of}
use Rattle.table_model.specs.SeatStates.{SeatState, fresh_seat}
use Rattle.table_model.specs.Worlds.{seat_in, first_leaves, opening_world}
use Rattle.run_invariant.proofs.Invariant.{Common}
use Rattle.run_invariant.proofs.Change.{no_leaf}
use Rattle.run_laws.proofs.Opened.{HoldsFresh, opening_fresh}
use Rattle.lasting_model.specs.Plans.{Plan, IsPlan, ample, buckets_of}
use Rattle.lasting_model.specs.Codes.{tag, row_in, row_words, state_words}
use Rattle.lasting_model.specs.Steps.{SeatNow}
use Rattle.lasting_model.specs.Worlds.{Lasting, Answer, opening_store, opening_row, opening_state, opening_seat, bucket_of_row, nobody}
use Rattle.lasting_model.specs.Worlds as L
use Rattle.lasting_laws.proofs.Ample.{ample_opens}
use Rattle.lasting_laws.proofs.PoolsOpen.{pools_open, row_small, seat_is, word_is}
use Rattle.lasting_laws.proofs.Marks.{opening_marks}
use Rattle.lasting_laws.proofs.HeldKept.{tied_open, home_word, idle, seat_or}
use Rattle.lasting_laws.proofs.OpeningLeaves.{numbered_first}
use Rattle.lasting_laws.proofs.Words.{generation_of_tag, row_of_tag}
use Rattle.lasting_laws.specs.Promises.{IsRight}
use Rattle.lasting_laws.proofs.Shown.{View, Rows, SlotOf, Seated, Moment, view, IsShown, OpeningIsShown}
use Rattle.lasting_laws.proofs.Ghost.{seats_are, deepest, named_small}

module _ (plan : Plan) (is_plan : IsPlan plan) where
  abbrev setup : Setup
  setup = ample plan

  abbrev x : Lasting
  x = L.opening_world plan

  fresh : HoldsFresh setup (opening_world setup)
  fresh = opening_fresh setup (ample_opens plan is_plan)

  abbrev moment : Moment setup
  moment = record {
    events = [];
    run = record { opened = ample_opens plan is_plan; follow = tt };
    common = fresh.holds.common;
    locals = fresh.holds.locals;
    follows = fresh.holds.follows;
  }

  abbrev c : Common
  c = fresh.holds.common

  numbered : (b : ℕ) → c.named b ≡ true → c.pre b ≡ b
  numbered = numbered_first setup (opening_world setup) fresh (deepest plan is_plan)

  abbrev word_at : (bucket at : ℕ) → ℕ
  word_at b i = tag 0 (opening_row plan b)

  abbrev cut : (clock : ℕ) → List Event
  cut n = []

  abbrev z : View
  z = view plan x moment word_at cut (tied_open plan is_plan)

  less_of : (b : ℕ) → c.named b ≡ true → b < buckets_of plan.settings
  less_of b n = named_small plan is_plan moment numbered b n

  -- a first row says its bucket
  state_first : (b : ℕ) → c.named b ≡ true → opening_state plan b ≡ c.state_at b 0
  state_first b n =
      let f = fresh.first_leaf b n in
      get_or-map (λ (leaf : NewLeaf). leaf.bucket) (first_leaves setup) b no_leaf (empty_state plan.settings.seats) f.0
      ∙ sym f.2

  bucket_word : (b : ℕ) → b < buckets_of plan.settings → (opening_store plan).bucket b ≡ tag 0 (opening_row plan b)
  unfolding opening_store
  bucket_word b less = ap (λ (q : Bool). cond q (tag 0 (opening_row plan b)) 0) (lt-ltb b
      (buckets_of plan.settings) less)

  row_word : (row i : ℕ) → bucket_of_row plan row < buckets_of plan.settings →
      (opening_store plan).row row i ≡ get_or (row_words setup 0 (opening_state plan (bucket_of_row plan row))) i 0
  unfolding opening_store
  row_word row i less =
      ap (λ (q : Bool). cond q (get_or (row_words setup 0 (opening_state plan (bucket_of_row plan row))) i 0) 0)
      (lt-ltb (bucket_of_row plan row) (buckets_of plan.settings) less)

  announced_first : (q : ℕ) → (opening_store plan).announced q ≡ 0
  unfolding opening_store
  announced_first q = refl

  rows : Rows plan z
  rows = record {
    numbered = numbered;
    word_is = λ b n. bucket_word b (less_of b n);
    says = λ b i j n o stands less.
        let small = less_of b n in
        let row : row_in (tag 0 (opening_row plan b)) ≡ opening_row plan b =
        row_of_tag 0 (opening_row plan b) (row_small plan is_plan b small) in
        let home : bucket_of_row plan (opening_row plan b) ≡ b =
        ap (bucket_of_row plan) (sym (word_is plan is_plan b small)) ∙ home_word plan is_plan b small in
        let first : i ≡ 0 = (let top = (fresh.first_leaf b n).1 in omega (arith, o, top)) in
        let one : j + 1 ≡ suc j = omega arith in
        ap (λ r. (opening_store plan).row r (j + 1)) row
        ∙ row_word (opening_row plan b) (j + 1) (subst (λ k. k < buckets_of plan.settings) (sym home) small)
        ∙ ap (λ k. get_or (row_words setup 0 (opening_state plan k)) (j + 1) 0) home
        ∙ ap (λ k. get_or (row_words setup 0 (opening_state plan b)) k 0) one
        ∙ ap (λ (s : BucketState). get_or (state_words setup s) j 0) (state_first b n)
        ∙ ap (λ k. get_or (state_words setup (c.state_at b k)) j 0) (sym first);
    old = λ b i n o.
        (let mark = generation_of_tag 0 (opening_row plan b) (row_small plan is_plan b (less_of b n)) in
        omega (arith, mark));
    once = λ b i j n o k e. (let top = (fresh.first_leaf b n).1 in omega (arith, o, k, top));
  }

  no_rows : (q : ℕ) → (c.used q).op_rows ≡ 0
  no_rows q = ap (λ (u : SeatRows). u.op_rows) (fresh.none q)

  fresh_first : (q : ℕ) → q < plan.settings.seats → seat_in (opening_world setup) q ≡ fresh_seat
  fresh_first q h = get_or-replicate (seats_of setup) q fresh_seat fresh_seat (let e = seats_are plan in omega
      (arith, h, e))

  pub opening_shown : IsShown plan (L.opening_world plan)
  opening_shown = record {
    moment = moment;
    pools = pools_open plan is_plan;
    marks = opening_marks plan is_plan;
    tied = tied_open plan is_plan;
    word_at = word_at;
    cut = cut;
    shows = record {
      rows = rows;
      ops = record {
        none = λ q h none. announced_first q;
        some = λ q h some. absurd (let none = no_rows q in omega (arith, some, none));
        past = λ q j h later. absurd (let none = no_rows q in omega (arith, later, none));
      };
      slots = λ q h. subst (SlotOf plan z q) (sym (idle plan is_plan q))
          (λ some. absurd (let none = no_rows q in omega (arith, some, none)));
      seats = λ q h. subst (Seated plan z q) (sym (idle plan is_plan q)) (record {
        idle = ap (λ (s : SeatState). s.stand) (fresh_first q h);
        count = ap (λ (s : SeatState). length s.account.records) (fresh_first q h)
            ∙ sym (ap (λ (s : SeatNow). s.answered) (seat_is plan is_plan q h));
        applied = λ some. absurd (let none = no_rows q in omega (arith, some, none));
      });
    };
    now_is = refl;
    grows = λ i n o h. ([], refl);
    began = λ q. elim (seat_or plan is_plan q) [
      | inl e ↦ (let at = ap (λ (s : SeatNow). s.course.began) e in omega (arith, at))
      | inr e ↦ (let at = ap (λ (s : SeatNow). s.course.began) e in omega (arith, at))
    ];
    readers = λ r. omega arith;
    ended = All-nil (λ (a : Answer). a.ended ≤ 0);
    right = All-nil (IsRight setup cut);
  }

-- THE RESULT
pub opening_is_shown : OpeningIsShown
opening_is_shown plan is_plan = opening_shown plan is_plan
