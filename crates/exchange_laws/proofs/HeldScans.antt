-- A step of a scan, as the held look sees it.
use Rattle.std.proofs.Common.{◌≡◌, ◌≢◌, ℕ, ◌+◌, ◌<◌, ◌≤◌, Bool, true, false, cond, List, ◌++◌, Some, refl, sym, ap, ◌∙◌, subst, arith}
use Rattle.std.specs.Prelude.{◌==◌, nat_lt}
use Rattle.std.proofs.lemmas.Bool.{eqb-true, eqb-false, ltb-false}
use Rattle.exchange_model.specs.Plans.{Plan, holders_of, buckets_of}
use Rattle.exchange_model.specs.Codes.{row_in, asking, is_asking, time_in, held_row}
use Rattle.exchange_model.specs.Steps as S
use Rattle.exchange_model.specs.Goes.{ScanFate, ScansOn, Scanned, without, alone, seat_or_end, seats_from, past_hold, scan_fate}
use Rattle.exchange_laws.proofs.Holding as H
use Rattle.exchange_laws.proofs.HoldingScans as HS
use Rattle.exchange_laws.proofs.HeldStates.{hold_of, among, among_less, sweep_of, hold_none, hold_asks, hold_has, asking_of}

module _ (plan : Plan) (s : H.State) (p : ℕ) (inside : p < holders_of plan.settings)
    (holds : H.Holds (buckets_of plan.settings) (holders_of plan.settings) s)
    (quiet : s.look p ≡ H.NoLook) where
  abbrev bs : ℕ
  bs = buckets_of plan.settings

  abbrev n : ℕ
  n = (holders_of plan.settings)

  abbrev Sweeps : H.Sweep → Type 0
  Sweeps = H.Sweeps bs n s p

  abbrev IsNamed : H.Sweep → Type 0
  IsNamed = HS.IsNamed bs n s

  -- where a step of the scan leads
  abbrev pub Arrives : ScanFate → Type 0
  Arrives (ScansOn scan) = Sweeps (sweep_of (Some scan)) × IsNamed (sweep_of (Some scan))
  Arrives (Scanned left held) = (k : ℕ) × (n ≤ k) × Sweeps (H.Seats k (among left))

  none_given : (now : H.Sweep) → H.sweep_kind now ≢ 4 → IsNamed now
  none_given now other q t r l e = absurd (other (ap H.sweep_kind e))

  ended : (left held : List ℕ) (k : ℕ) → Sweeps (H.Seats k (among left)) → Arrives (seat_or_end plan k left held)
  ended left held k rest = go (nat_lt k n) refl
    where
      go : (b : Bool) → nat_lt k n ≡ b → Arrives (cond b (ScansOn (S.Seats k left held)) (Scanned left held))
      go true e = (rest, none_given (H.Seats k (among left)) (λ f. omega (arith, f)))
      go false e = (k, ltb-false k n e, rest)

  pub from_seat : (left held : List ℕ) (k : ℕ) → Sweeps (H.Seats k (among left)) →
      Arrives (seats_from plan p k left held)
  from_seat left held k rest = go (k == p) refl
    where
      go : (b : Bool) → (k == p) ≡ b → Arrives (seat_or_end plan (cond b (k + 1) k) left held)
      go true e =
          let at : k ≡ p = eqb-true k p e in
          ended left held (k + 1)
          (subst (λ j. Sweeps (H.Seats (j + 1) (among left))) (sym at)
          (HS.self_passed bs n s holds p (among left) (subst (λ j. Sweeps (H.Seats j (among left))) at rest) quiet))
      go false e = ended left held k rest

  -- a hold word that does not ask
  from_hold : (k : ℕ) (left held : List ℕ) (found : ℕ) → Sweeps (H.Seats k (among left)) →
      s.hold k ≡ hold_of found → is_asking found ≡ false → Arrives (past_hold plan p k left held found)
  from_hold k left held found rest is asks_not = go (found == 0) refl
    where
      go : (b : Bool) → (found == 0) ≡ b → Arrives (cond b (seats_from plan p (k + 1) left held)
          (seats_from plan p (k + 1) (without (held_row found) left) (held ++ alone (held_row found) left)))
      go true e =
          from_seat left held (k + 1) (HS.passed_over bs n s p k (among left) rest
          (is ∙ hold_none found (eqb-true found 0 e)))
      go false e =
          from_seat (without (held_row found) left) (held ++ alone (held_row found) left) (k + 1)
          (subst (λ (f : ℕ → Bool). Sweeps (H.Seats (k + 1) f)) (λ i x. among_less (held_row found) left x i)
          (HS.row_held bs n s p k (held_row found) (among left) rest
          (is ∙ hold_has found (eqb-false found 0 e) asks_not)))

  -- what is found is what the words have; a giving did not happen
  abbrev pub IsSeen : S.Scan → (found : ℕ) → Type 0
  IsSeen (S.Seats k left held) found = s.hold k ≡ hold_of found
  IsSeen (S.Sees k t left held) found = found ≡ s.want k
  IsSeen (S.Loads k t bucket left held) found = row_in plan found ≡ s.word bucket
  IsSeen (S.Gives k t row left held) found = (s.hold k ≡ hold_of found) × (found ≢ asking t)

  -- THE RESULT but for a giving that happens
  pub arrives : (scan : S.Scan) (found : ℕ) → Sweeps (sweep_of (Some scan)) → IsSeen scan found →
      Arrives (scan_fate plan p scan found)
  arrives (S.Seats k left held) found rest seen = go (is_asking found) refl
    where
      go : (b : Bool) → is_asking found ≡ b → Arrives (cond b (ScansOn (S.Sees k (time_in found) left held))
          (past_hold plan p k left held found))
      go true e = (
        HS.one_asks bs n s holds p k (time_in found) (among left) rest (seen ∙ hold_asks found e),
        none_given (H.Sees k (time_in found) (among left)) (λ f. omega (arith, f)),
      )
      go false e = from_hold k left held found rest seen e
  arrives (S.Sees k t left held) found rest seen = (
    subst (λ b. Sweeps (H.Loads k t b (among left))) (sym seen) (HS.want_seen bs n s holds p k t (among left) rest),
    none_given (H.Loads k t found (among left)) (λ f. omega (arith, f)),
  )
  arrives (S.Loads k t bucket left held) found rest seen =
      let at : H.Gives k t (s.word bucket) (among left) ≡ H.Gives k t (row_in plan found) (among left) =
      ap (λ r. H.Gives k t r (among left)) (sym seen) in (
        subst Sweeps at (HS.word_seen bs n s holds p k t bucket (among left) rest),
        subst IsNamed at (HS.word_is_named bs n s k t bucket (among left) rest.2),
      )
  arrives (S.Gives k t row left held) found rest seen = go (is_asking found) refl
    where
      go : (b : Bool) → is_asking found ≡ b → Arrives (cond b (seats_from plan p (k + 1) left held)
          (past_hold plan p k left held found))
      go true e =
          from_seat left held (k + 1) (HS.asks_anew bs n s p k t row (time_in found) (among left) rest
          (seen.0 ∙ hold_asks found e) (λ same. seen.1 (asking_of found e ∙ ap asking same)))
      go false e = from_hold k left held found rest.0 seen.0 e
