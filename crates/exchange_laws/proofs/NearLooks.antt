-- Where a look leads stays on the table.
use Rattle.std.proofs.Common.{◌≡◌, ◌≢◌, ℕ, ◌+◌, ◌-◌, ◌<◌, Bool, true, false, cond, not, List, length, refl}
use Rattle.std.specs.Prelude.{◌==◌, ◌&&◌, nat_lt}
use Rattle.std.proofs.lemmas.Bool.{eqb-false}
use Rattle.step_counts.specs.declared.TheConstants.{ITEM_WORDS}
use Rattle.plain_map.specs.declared.keys.Pair.{Pair}
use Rattle.exchange_model.specs.Plans.{Plan, MOST_ASKINGS, more}
use Rattle.exchange_model.specs.Codes.{row_in, asking, held_row, count_in, pair_in}
use Rattle.exchange_model.specs.Steps as S
use Rattle.exchange_model.specs.Steps.{Aim, Source, Pass, Glance}
use Rattle.exchange_model.specs.Goes.{GlanceFate, Looks, Shows, Disturbed, glance_fate, glance_lost, gone_through, pass_on, pass_of, passed, with_pair, may_be, is_aimed, pass_pair, pass_fate}
use Rattle.exchange_laws.proofs.LookBounds.{FineLook, NextLook}
use Rattle.exchange_laws.proofs.NearSteps.{Inside, Given, NearSource, NearGlance, NearPeek}

module _ (plan : Plan) where
  -- ---- where a look leads

  -- a look that goes on has this
  abbrev pub Then : (Glance → Type 0) → (lost : Type 0) → GlanceFate → Type 0
  Then P lost (Looks glance) = P glance
  Then P lost (Shows items) = Unit {0}
  Then P lost Disturbed = lost

  then_either : (P : Glance → Type 0) (lost : Type 0) (a b : GlanceFate) (c : Bool) → Then P lost a → Then P lost b →
      Then P lost (cond c a b)
  then_either P lost a b true na nb = na
  then_either P lost a b false na nb = nb

  -- in a row each word leads to the next one, or to its end
  module _ (P : Glance → Type 0) (lost : Type 0) (source : Source) (item : (pass : Pass) → P (S.GlanceItem source pass))
      (check : (kept : List Pair) → Then P lost (gone_through source kept)) where
    in_row : (pass : Pass) → Then P lost (pass_on source pass)
    in_row pass =
        then_either P lost (Looks (S.GlanceItem source pass)) (gone_through source pass.kept)
        (nat_lt pass.item pass.count) (item pass) (check pass.kept)

    in_item : (aim : Aim) (pass : Pass) (word : ℕ) → Then P lost (pass_fate source aim pass word)
    in_item aim pass word =
        let pair = pair_in (more pass.part word) in
        let longer : Pass = record pass { part = more pass.part word } in
        then_either P lost (pass_on source (passed pass))
        (cond (nat_lt (length pass.part + 1) ITEM_WORDS) (Looks (S.GlanceItem source longer))
        (pass_pair source aim pass pair))
        ((length pass.part == 0) && not (may_be aim word)) (in_row (passed pass))
        (then_either P lost (Looks (S.GlanceItem source longer)) (pass_pair source aim pass pair)
        (nat_lt (length pass.part + 1) ITEM_WORDS) (item longer)
        (then_either P lost (gone_through source (more pass.kept pair)) (pass_on source (with_pair pass pair))
        (is_aimed aim pair) (check (more pass.kept pair)) (in_row (with_pair pass pair))))

  -- by the lost tries
  lost_then : (P : Glance → Type 0) (lost : Type 0) (left : ℕ) → P (S.GlanceWord (left - 1)) → lost →
      Then P lost (glance_lost left)
  lost_then P lost left again done =
      then_either P lost (Looks (S.GlanceWord (left - 1))) Disturbed (nat_lt 0 left) again done

  abbrev pub NearLook : (time hold : ℕ) → GlanceFate → Type 0
  NearLook time hold next = Then (NearGlance plan time hold) (time < MOST_ASKINGS) next

  checks : (time hold : ℕ) (source : Source) (kept : List Pair) → NearSource plan time source →
      NearLook time hold (gone_through source kept)
  checks time hold (S.Tried left word) kept k = k.0
  checks time hold (S.HeldIn row) kept k = tt

  abbrev pub LookFacts : (time hold : ℕ) → Glance → (word : ℕ) → Type 0
  LookFacts time hold (S.GlanceWord left) word = Inside plan (row_in plan word)
  LookFacts time hold S.GlanceHeld word = Inside plan (row_in plan word) × Given plan time hold
  LookFacts time hold (S.GlanceTake old) word = word ≢ asking time → Inside plan (held_row word)
  LookFacts time hold glance word = Unit {0}

  abbrev pub IsMildLook : Glance → Type 0
  IsMildLook S.GlanceAsking = ⊥
  IsMildLook glance = Unit {0}

  pub near_look : (time was hold : ℕ) (aim : Aim) (glance : Glance) (word : ℕ) → IsMildLook glance →
      NearGlance plan time was glance → LookFacts time hold glance word →
      NearLook time hold (glance_fate plan time aim glance word)
  near_look time was hold aim (S.GlanceWord left) word o k f = (k, f)
  near_look time was hold aim (S.GlanceCount source) word o k f =
      in_row (NearGlance plan time hold) (time < MOST_ASKINGS) source (λ pass. k)
      (λ kept. checks time hold source kept k)
      (pass_of (count_in plan word))
  near_look time was hold aim (S.GlanceItem source pass) word o k f =
      in_item (NearGlance plan time hold) (time < MOST_ASKINGS) source (λ pass. k)
      (λ kept. checks time hold source kept k) aim pass word
  near_look time was hold aim (S.GlanceCheck left old kept) word o k f =
      then_either (NearGlance plan time hold) (time < MOST_ASKINGS) (Shows kept) (glance_lost left) (word == old) tt
      (lost_then (NearGlance plan time hold) (time < MOST_ASKINGS) left k k)
  near_look time was hold aim S.GlanceWant word o k f = k
  near_look time was hold aim S.GlanceAsking word o k f = absurd o
  near_look time was hold aim S.GlanceHeld word o k f = f
  near_look time was hold aim (S.GlanceTake old) word o k f = go (word == asking time) refl
    where
      go : (b : Bool) → (word == asking time) ≡ b → Inside plan (cond b (row_in plan old) (held_row word))
      go true e = k.0
      go false e = f (eqb-false word (asking time) e)
  near_look time was hold aim (S.GlanceBack kept) word o k f = tt

  -- a reader's look
  abbrev pub PeekFacts : Glance → (word : ℕ) → Type 0
  PeekFacts (S.GlanceWord left) word = Inside plan (row_in plan word)
  PeekFacts glance word = Unit {0}

  pub near_peek : (aim : Aim) (glance : Glance) (word : ℕ) → NearPeek plan glance → PeekFacts glance word →
      Then (NearPeek plan) (Unit {0}) (glance_fate plan 0 aim glance word)
  near_peek aim (S.GlanceWord left) word k f = f
  near_peek aim (S.GlanceCount (S.Tried left old)) word k f =
      in_row (NearPeek plan) (Unit {0}) (S.Tried left old) (λ pass. k) (λ kept. tt) (pass_of (count_in plan word))
  near_peek aim (S.GlanceCount (S.HeldIn row)) word k f = absurd k
  near_peek aim (S.GlanceItem (S.Tried left old) pass) word k f =
      in_item (NearPeek plan) (Unit {0}) (S.Tried left old) (λ pass. k) (λ kept. tt) aim pass word
  near_peek aim (S.GlanceItem (S.HeldIn row) pass) word k f = absurd k
  near_peek aim (S.GlanceCheck left old kept) word k f =
      then_either (NearPeek plan) (Unit {0}) (Shows kept) (glance_lost left) (word == old) tt
      (lost_then (NearPeek plan) (Unit {0}) left tt tt)
  near_peek aim S.GlanceWant word k f = absurd k
  near_peek aim S.GlanceAsking word k f = absurd k
  near_peek aim S.GlanceHeld word k f = absurd k
  near_peek aim (S.GlanceTake old) word k f = absurd k
  near_peek aim (S.GlanceBack kept) word k f = absurd k

  -- how far it comes
  pub come : (f : GlanceFate) (l : ℕ) → NextLook plan 0 l f → Then (FineLook plan 0) (Unit {0}) f
  come (Looks glance) l n = n.0
  come (Shows items) l n = tt
  come Disturbed l n = tt
