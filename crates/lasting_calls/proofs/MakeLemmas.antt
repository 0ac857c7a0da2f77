-- A whole update, from its free row to its end.
use Rattle.std.proofs.Common.{◌≡◌, ◌≢◌, ℕ, ◌+◌, ◌*◌, ◌^◌, ◌<◌, ◌≤◌, ◌∙◌, Bool, true, false, List, [], ◌∷◌, ◌++◌, length, drop, Some, None, slice_index, refl, sym, ap, subst, arith}
use Rattle.std.proofs.Math.Nat.{mul-le-mul_left}
use Rattle.hash_bits.specs.declared.hashing.Hashing.{Hashing}
use Rattle.plain_map.specs.declared.calls.Call.{Call}
use Rattle.plain_map.specs.declared.calls.Reply.{Reply}
use Rattle.plain_map.specs.Calls.{key_in}
use Rattle.plain_map.specs.PlainObject.{class_of}
use Rattle.plain_map.specs.Updates.{IsUpdate}
use Rattle.bucket_machine.specs.HashedKeys.{IsHashed}
use Rattle.word_rows.specs.Memory.{put}
use Rattle.word_rows.proofs.MemoryLemmas.{put_same, put_other}
use Rattle.own_rows.specs.declared.rows.OwnRows.{OwnRows}
use Rattle.own_rows.specs.Rings.{count}
use Rattle.own_rows.specs.Rows.{AreSame, HasRows, IsSound, Rows, next_free}
use Rattle.lasting_model.specs.Plans.{MOST_UPDATES, Plan, ample, bucket_for}
use Rattle.lasting_model.specs.Steps.{Goes, Idle, StoreOp, Update, next_generation, next_row}
use Rattle.lasting_model.specs.Goes.{Refused, Replied, with_free}
use Rattle.lasting_model.specs.Worlds.{seat_after}
use Rattle.lasting_calls.specs.Going.{Going, IsCounted, told_by, with_own}
use Rattle.lasting_calls.specs.Desks.{IsOf}
use Rattle.lasting_calls.specs.Seats.{AreRowsOf, HasEnded, IsAtRest, row_put, rows_at, untold}
use Rattle.lasting_calls.specs.Sweeps.{HasSwept}
use Rattle.lasting_calls.specs.Updates.{IsOwn, answered_by}
use Rattle.lasting_calls.specs.declared.desk.Desk.{Desk}
use Rattle.lasting_calls.specs.declared.own.Own.{Own}
use Rattle.lasting_calls.proofs.FreeLemmas.{counted}
use Rattle.lasting_calls.proofs.PlaceLemmas.{bucket_same}

-- no row is free
pub none_free : (r : Rows) (free : List ℕ) → next_free r free ≡ None → free ≡ []
none_free r [] e = refl
none_free r (row ∷ free) e = cc

-- the row that is next, and how often it was published
pub record First (r : Rows) (free : List ℕ) (row published : ℕ) : Type 0 where
  pub rest : List ℕ
  pub is : free ≡ row ∷ rest
  pub count_is : published ≡ r.generation row

pub first_free : (r : Rows) (free : List ℕ) (row published : ℕ) → next_free r free ≡ Some (row, published) →
    First r free row published
first_free r [] row published e = cc
first_free r (first ∷ free) row published e =
    let same : ◌≡◌ {A = ℕ × ℕ} (first, r.generation first) (row, published) = only _ _ e in
    let row_is : first ≡ row = ap (λ (p : ℕ × ℕ). p.0) same in
    record {
      rest = free;
      is = ap (λ (k : ℕ). k ∷ free) row_is;
      count_is = sym (ap (λ (p : ℕ × ℕ). p.1) same) ∙ ap r.generation row_is;
    }
  where
    only : (x y : ℕ × ℕ) → Some x ≡ Some y → x ≡ y
    only x y e = cc

module _ (f now : Going) (u : Update) (rows : OwnRows) (h : HasSwept (untold f) now u rows) where
  -- no row is free, and the update ends
  module _ (none : h.swept.now.free ≡ []) where
    refused : now ≡ record h.swept { now = record h.swept.now { stand = Idle }; told = Some Refused }
    refused =
        h.goes
        ∙ ap (λ (l : List ℕ). with_own h.swept (seat_after h.swept.now u (with_free l))
        (told_by (with_free l) h.swept.told))
        none

    pub refused_ended : HasEnded f now Refused
    refused_ended = record {
      plan = ap (λ (g : Going). g.plan) refused ∙ ap (λ (g : Going). g.plan) h.same;
      holds = ap (λ (g : Going). g.holds) refused ∙ ap (λ (g : Going). g.holds) h.same;
      seat = ap (λ (g : Going). g.seat) refused ∙ ap (λ (g : Going). g.seat) h.same;
      stand = ap (λ (g : Going). g.now.stand) refused;
      told_is = ap (λ (g : Going). g.told) refused;
    }

    pub refused_rows : AreRowsOf now rows
    refused_rows = subst (λ (g : Going). AreRowsOf g rows) (sym refused) (record {
      sound = h.rows_are.sound;
      has = h.rows_are.has;
      first = h.rows_are.first;
      all = h.rows_are.all;
      sweeps = h.rows_are.sweeps;
    })

    pub refused_rest : IsAtRest now.now.sweep
    refused_rest = subst (λ (g : Going). IsAtRest g.now.sweep) (sym refused) h.rest

    pub refused_answered : now.now.answered ≡ f.now.answered
    refused_answered = ap (λ (g : Going). g.now.answered) refused ∙ ap (λ (g : Going). g.now.answered) h.same

    pub refused_time : now.now.time ≡ f.now.time
    refused_time = ap (λ (g : Going). g.now.time) refused ∙ ap (λ (g : Going). g.now.time) h.same

  -- a row is free, and the update goes on
  module _ (row : ℕ) (free : List ℕ) (some : h.swept.now.free ≡ row ∷ free) where
    goes_on : now ≡ record h.swept { now = record h.swept.now { stand = Goes u (StoreOp 0) } }
    goes_on =
        h.goes
        ∙ ap (λ (l : List ℕ). with_own h.swept (seat_after h.swept.now u (with_free l))
        (told_by (with_free l) h.swept.told))
        some

    pub on_stand : now.now.stand ≡ Goes u (StoreOp 0)
    on_stand = ap (λ (g : Going). g.now.stand) goes_on

    pub on_free : now.now.free ≡ row ∷ free
    on_free = ap (λ (g : Going). g.now.free) goes_on ∙ some

    pub on_answered : now.now.answered ≡ f.now.answered
    on_answered = ap (λ (g : Going). g.now.answered) goes_on ∙ ap (λ (g : Going). g.now.answered) h.same

    pub on_time : now.now.time ≡ f.now.time
    on_time = ap (λ (g : Going). g.now.time) goes_on ∙ ap (λ (g : Going). g.now.time) h.same

    pub on_plan : now.plan ≡ f.plan
    on_plan = ap (λ (g : Going). g.plan) goes_on ∙ ap (λ (g : Going). g.plan) h.same

    pub on_holds : now.holds ≡ f.holds
    on_holds = ap (λ (g : Going). g.holds) goes_on ∙ ap (λ (g : Going). g.holds) h.same

    pub on_seat : now.seat ≡ f.seat
    on_seat = ap (λ (g : Going). g.seat) goes_on ∙ ap (λ (g : Going). g.seat) h.same

    pub on_generation : now.now.generation ≡ h.swept.now.generation
    on_generation = ap (λ (g : Going). g.now.generation) goes_on

    pub on_rows : AreRowsOf now rows
    on_rows = subst (λ (g : Going). AreRowsOf g rows) (sym goes_on) (record {
      sound = h.rows_are.sound;
      has = h.rows_are.has;
      first = h.rows_are.first;
      all = h.rows_are.all;
      sweeps = h.rows_are.sweeps;
    })

    pub on_rest : IsAtRest now.now.sweep
    on_rest = subst (λ (g : Going). IsAtRest g.now.sweep) (sym goes_on) h.rest

    pub on_desk : (desk : Desk) → IsOf f desk → IsOf now desk
    on_desk desk is = record {
      settings = ap (λ (p : Plan). p.settings) on_plan ∙ is.settings;
      hashing = ap (λ (p : Plan). p.hashing) on_plan ∙ is.hashing;
      rows = ap (λ (p : Plan). p.rows) on_plan ∙ is.rows;
      seat = on_seat ∙ is.seat;
    }

-- what is at hand of the update is its own
module _ (now : Going) (desk : Desk) (is : IsOf now desk) (rows : OwnRows) (are : AreRowsOf now rows) (row : ℕ)
    (free : List ℕ) (some : now.now.free ≡ row ∷ free) (counts : IsCounted now.now)
    (few : now.now.answered < MOST_UPDATES) where
  row_few : row < 2 ^ 17
  row_few =
      let there : count now.now.free row ≡ count (row ∷ free) row = ap (λ (l : List ℕ). count l row) some in
      let mine : (rows.first ≤ row) × (row < rows.first + rows.rows) =
      are.has.mine row (omega (arith, there, counted row row refl)) in
      product_few now.seat desk.settings.seats now.plan.rows rows.rows row (omega (arith, is.seat, desk.within))
      desk.settings.seats_in_range.1 (omega (arith, is.rows, desk.few)) are.all
      (omega (arith, mine, are.first))
    where
      product_few : (seat seats all own row : ℕ) → seat < seats → seats ≤ 8 → all ≤ 2 ^ 14 → own ≡ all →
          row < seat * all + own → row < 2 ^ 17
      product_few seat seats all own row one two three four five =
          omega (arith, mul-le-mul_left seat three, one, two, three, four, five)

  pub own_is : (own : Own) (call : Call) → IsUpdate call → own.number ≡ now.now.answered + 1 → own.call ≡ call →
      IsHashed desk.rules.hashing own.key → own.bucket ≡ class_of desk.rules (key_in call) →
      own.bucket < 2 ^ 15 → own.row ≡ row → own.generation ≡ now.now.generation row + 1 → IsOwn now own
  own_is own call update number same hashed bucket small row_is generation = record {
    update = subst IsUpdate (sym same) update;
    numbered = omega (arith, number);
    small_number = omega (arith, number, few);
    hashed = subst (λ (hashing : Hashing). IsHashed hashing own.key) (sym is.hashing) hashed;
    bucket = bucket ∙ bucket_same now desk (key_in call) is
        ∙ ap (λ (c : Call). bucket_for (ample now.plan) (key_in c)) (sym same);
    row = row_is ∙ sym next;
    generation = generation ∙ ap (λ (k : ℕ). now.now.generation k + 1) (sym next);
    small = small;
    short = omega (arith, row_is, row_few);
    few = omega (arith, generation, counts row, few);
  }
    where
      next : next_row now.now ≡ row
      next = ap (λ (l : List ℕ). slice_index l 0) some

-- the update is over
module _ (now end : Going) (rows later : OwnRows) (own : Own) (are : AreRowsOf now rows) (row : ℕ) (free : List ℕ)
    (some : now.now.free ≡ row ∷ free) (time : ℕ) (reply : Reply) (done : Bool)
    (at : end ≡ answered_by now own time reply done) (sound : IsSound later) (same : AreSame rows later)
    (put_there : (r : Rows) (row : ℕ) (free : List ℕ) (g : ℕ → ℕ) → HasRows rows r → r.free ≡ row ∷ free →
    g row ≡ own.generation → ((k : ℕ) → k ≢ row → g k ≡ r.generation k) →
    HasRows later (row_put done r row free own.bucket g))
    (generation : own.generation ≡ now.now.generation row + 1) where
  next : next_row now.now ≡ row
  next = ap (λ (l : List ℕ). slice_index l 0) some

  abbrev published : ℕ → ℕ
  published = put now.now.generation (next_row now.now) (next_generation now.now)

  by : (b : Bool) → HasRows later (row_put b (rows_at now.now) row free own.bucket published) →
      AreRowsOf (answered_by now own time reply b) later
  by true has = record {
    sound = sound;
    has = subst
        (λ (p : List ℕ × ℕ). HasRows later (record (rows_at now.now) {
          generation = published;
          free = p.0;
          named = now.now.named ++ (p.1, own.bucket) ∷ [];
        }))
        (λ i. (sym (ap (drop 1) some) i, sym next i)) has;
    first = same.first ∙ are.first;
    all = same.rows ∙ are.all;
    sweeps = omega (
      arith,
      same.sweeps,
      are.sweeps,
      ap (λ (l : List ℕ). length l) some,
      ap (λ (l : List ℕ). length (drop 1 l)) some,
    );
  }
  by false has = record {
    sound = sound;
    has = has;
    first = same.first ∙ are.first;
    all = same.rows ∙ are.all;
    sweeps = omega (arith, same.sweeps, are.sweeps);
  }

  pub ended_rows : AreRowsOf end later
  ended_rows =
      subst (λ (g : Going). AreRowsOf g later) (sym at)
      (by done
      (put_there (rows_at now.now) row free published are.has some
      (ap published (sym next)
      ∙ put_same now.now.generation (next_row now.now) (next_generation now.now)
      ∙ ap (λ (k : ℕ). now.now.generation k + 1) next ∙ sym generation)
      (λ k other. put_other now.now.generation (next_row now.now) (next_generation now.now) k
      (λ e. other (e ∙ next)))))

  pub ended_rest : IsAtRest now.now.sweep → IsAtRest end.now.sweep
  ended_rest rest = subst (λ (g : Going). IsAtRest g.now.sweep) (sym at) (still done)
    where
      still : (b : Bool) → IsAtRest (answered_by now own time reply b).now.sweep
      still true = rest
      still false = rest

  pub ended_answered : end.now.answered ≡ now.now.answered + 1
  ended_answered = ap (λ (g : Going). g.now.answered) at ∙ more done
    where
      more : (b : Bool) → (answered_by now own time reply b).now.answered ≡ now.now.answered + 1
      more true = refl
      more false = refl

  pub ended_time : end.now.time ≡ time
  ended_time = ap (λ (g : Going). g.now.time) at ∙ late done
    where
      late : (b : Bool) → (answered_by now own time reply b).now.time ≡ time
      late true = refl
      late false = refl

  pub has_ended : (f : Going) → now.plan ≡ f.plan → now.holds ≡ f.holds → now.seat ≡ f.seat →
      HasEnded f end (Replied reply)
  has_ended f plan holds seat = subst (λ (g : Going). HasEnded f g (Replied reply)) (sym at) (by_put done)
    where
      by_put : (b : Bool) → HasEnded f (answered_by now own time reply b) (Replied reply)
      by_put true = record { plan = plan; holds = holds; seat = seat; stand = refl; told_is = refl }
      by_put false = record { plan = plan; holds = holds; seat = seat; stand = refl; told_is = refl }
