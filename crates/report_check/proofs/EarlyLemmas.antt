-- Calls put behind others.
use Rattle.std.proofs.Common.{◌≡◌, ◌⊎◌, inl, inr, ℕ, suc, ◌+◌, ◌<◌, ◌≤◌, max, Bool, true, false, cond, List, [], ◌∷◌, ◌++◌, length, length-append, get_or, take, drop, refl, sym, ap, ◌∙◌, subst, arith}
use Rattle.std.specs.Prelude.{slice_index, slice_set, flat_map, replicate}
use Rattle.std.proofs.Math.ListN.{length-set}
use Rattle.std.proofs.lemmas.List.{get_or-set_same, get_or-set_other, get_or-replicate, get_or_past}
use Rattle.std.proofs.lemmas.Bool.{cases_eq, eq-eqb, ne_eqb}
use Rattle.plain_map.specs.declared.records.Record.{Record}
use Rattle.plain_map.specs.declared.records.Pending.{Pending}
use Rattle.plain_map.specs.History.{Placed, seat_of, number_of, seen_of, packet_of, After}
use Rattle.report_told.specs.Told.{Told}
use Rattle.report_told.specs.Points.{IsWhole, placed_told}
use Rattle.report_told.specs.Verdicts.{IsFirstEarly}
use Rattle.report_check.specs.Ready.{AreStanding, IsReady, standing_with}
use Rattle.report_check.specs.Facts.{Facts, placed_at}
use Rattle.report_check.specs.Judged.{Stood, StandSo, TriedAt}
use Rattle.report_check.proofs.ReadyLemmas.{ready_is_after, ready_goes_on}
use Rattle.report_check.proofs.FactLemmas.{front_more, order_cut, order_whole, some_call, stands_here}

-- numbers that are the same stand for the same calls
same_standing : (front : List Placed) (f g : ℕ → ℕ) → AreStanding front f → ((seat : ℕ) → g seat ≡ f seat) →
    AreStanding front g
same_standing front f g are same = record {
  upto = λ seat number there. omega (arith, are.upto seat number there, same seat);
  there = λ seat number some within. are.there seat number some (omega (arith, within, same seat));
}

-- with one call more, as the array has it
with_set : (standing : List ℕ) (p : Placed) → length standing ≡ 8 → seat_of p < 8 → (seat : ℕ) →
    slice_index (slice_set standing (seat_of p) (max (slice_index standing (seat_of p)) (number_of p))) seat
    ≡ standing_with (λ s. slice_index standing s) p seat
with_set standing p long low seat = elim (cases_eq (seat_of p) seat) [
  | inl same ↦
      subst (λ (s : ℕ). slice_index (slice_set standing (seat_of p)
      (max (slice_index standing (seat_of p)) (number_of p))) s
      ≡ standing_with (λ s. slice_index standing s) p s) same
      (get_or-set_same standing (seat_of p) (max (slice_index standing (seat_of p)) (number_of p)) 0
      (omega (arith, long))
      ∙ sym (ap (λ (b : Bool). cond b (max (slice_index standing (seat_of p)) (number_of p))
      (slice_index standing (seat_of p)))
      (eq-eqb (seat_of p) (seat_of p) refl)))
  | inr other ↦
      get_or-set_other standing (seat_of p) seat (max (slice_index standing (seat_of p)) (number_of p)) 0
      (λ same. other (sym same))
      ∙ sym (ap (λ (b : Bool). cond b (max (slice_index standing seat) (number_of p)) (slice_index standing seat))
      (ne_eqb (seat_of p) seat other))
]

-- a call that was tried is put behind the others, or may not stand there
pub put_one : (told : Told) (packet : ℕ) (front : List Placed) (before after : List ℕ) (p : Placed) (seen : List ℕ)
    (good : Bool) →
    seat_of p < 8 → ((seat : ℕ) → seen_of p seat ≡ slice_index seen seat) → placed_at told packet ≡ p ∷ [] →
    packet_of p ≡ packet → Stood before after (seat_of p) (number_of p) seen good →
    TriedAt told packet front before after good
put_one told packet front before after p seen true low sees at named stood so =
    let ready : IsReady (λ s. slice_index before s) p = record {
      own = stood.0.own;
      seen = λ seat inside. omega (arith, stood.0.others seat inside, sees seat);
    } in
    let goes = ready_goes_on front (λ s. slice_index before s) p so.counted so.after ready in
    inl (
      p,
      at,
      named,
      record {
        long = ap length stood.1 ∙ length-set before (seat_of p)
            (max (slice_index before (seat_of p)) (number_of p)) ∙ so.long;
        counted = same_standing (front ++ p ∷ []) (standing_with (λ s. slice_index before s) p)
            (λ s. slice_index after s) goes.0
            (λ seat. ap (λ (xs : List ℕ). slice_index xs seat) stood.1 ∙ with_set before p so.long low seat);
        after = goes.1;
      },
    )
put_one told packet front before after p seen false low sees at named stood so =
    inl (
      p,
      at,
      named,
      λ is_after.
          (let ready : IsReady (λ s. slice_index before s) p =
          (ready_is_after front (λ s. slice_index before s) p so.counted).1 is_after in
          stood (record {
            own = ready.own;
            others = λ seat inside. omega (arith, ready.seen seat inside, sees seat);
          })),
    )

-- The loop.

-- a seat is one of the eight, or none
low_or_high : (seat : ℕ) → (seat < 8) ⊎ (8 ≤ seat)
low_or_high seat = grind arith

-- before the first call none stands
pub none_stand : StandSo [] (replicate 8 0)
none_stand = record {
  long = refl;
  counted = record {
    upto = λ seat number there. absurd (omega (arith, there.1));
    there = λ seat number some within. absurd (omega (arith, some, within, no_count seat));
  };
  after = λ before later p cut. absurd (omega (arith, ap length cut, length-append before (p ∷ later)));
}
  where
    no_count : (seat : ℕ) → slice_index (replicate 8 0) seat ≡ 0
    no_count seat = elim (low_or_high seat) [
      | inl low ↦ get_or-replicate 8 seat 0 0 low
      | inr high ↦ get_or_past (replicate 8 0) seat 0 high
    ]

-- a call that was put goes on in the order
pub early_more : (told : Told) (calls : List Record) (pending : List Pending) (order : List ℕ) (i : ℕ)
    (before after : List ℕ) →
    Facts told calls pending order → IsWhole told → i < length order →
    StandSo (flat_map (placed_at told) (take i order)) before →
    TriedAt told (get_or order i 0) (flat_map (placed_at told) (take i order)) before after true →
    StandSo (flat_map (placed_at told) (take (i + 1) order)) after
early_more told calls pending order i before after facts whole inside so tried = elim (tried so) [
  | inl (p, at, named, next) ↦
      subst (λ (xs : List Placed). StandSo xs after) (sym (front_more told order i p inside at)) next
  | inr none ↦ absurd (some_call told (get_or order i 0) whole (stands_here told calls pending order i facts inside)
      none)
]

-- a call that may not stand is the first early one
pub early_here : (told : Told) (calls : List Record) (pending : List Pending) (order : List ℕ) (i : ℕ)
    (before after : List ℕ) →
    Facts told calls pending order → IsWhole told → i < length order →
    StandSo (flat_map (placed_at told) (take i order)) before →
    TriedAt told (get_or order i 0) (flat_map (placed_at told) (take i order)) before after false →
    IsFirstEarly told (get_or order i 0)
early_here told calls pending order i before after facts whole inside so tried = elim (tried so) [
  | inl (p, at, named, never) ↦ record {
    front = flat_map (placed_at told) (take i order);
    placed = p;
    later = flat_map (placed_at told) (drop (suc i) order);
    cut = order_cut told calls pending order i p facts inside at;
    packet_is = named;
    right = so.after;
    fault = never;
  }
  | inr none ↦ absurd (some_call told (get_or order i 0) whole (stands_here told calls pending order i facts inside)
      none)
]

-- where all were put, each stands after all that it must
pub early_end : (told : Told) (calls : List Record) (pending : List Pending) (order : List ℕ) (i : ℕ)
    (standing : List ℕ) →
    Facts told calls pending order → i ≡ length order →
    StandSo (flat_map (placed_at told) (take i order)) standing → After (placed_told told)
early_end told calls pending order i standing facts all so =
    subst After (order_whole told calls pending order i facts all) so.after
