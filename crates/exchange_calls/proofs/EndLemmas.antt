-- How a look begins, goes from try to try, and ends.
use Rattle.std.proofs.Common.{◌≡◌, ℕ, ◌+◌, ◌-◌, ◌≤◌, ◌∙◌, true, false, List, Option, Some, refl, sym, ap, arith}
use Rattle.std.proofs.lemmas.Bool.{cond-true, lt-ltb}
use Rattle.std.specs.Prelude.{nat_lt}
use Rattle.std.specs.Option.{option_map_or}
use Rattle.bucket_states.specs.Items.{number_at}
use Rattle.plain_map.specs.declared.calls.Reply.{Reply}
use Rattle.plain_map.specs.declared.calls.Reply.TheVariants.{Absent, Found}
use Rattle.plain_map.specs.declared.keys.Key.{Key}
use Rattle.plain_map.specs.declared.keys.Pair.{Pair}
use Rattle.exchange_model.specs.Plans.{rules_of}
use Rattle.exchange_model.specs.Steps.{Aim, Idle, OfKey, GlanceBack, GlanceCount, GlanceWant, GlanceWord, Glances, HeldIn}
use Rattle.exchange_model.specs.Goes.{Again, Disturbed, Looks, Replied, Shows, Told, glance_lost, gone_through, told_by_items}
use Rattle.exchange_calls.specs.Going.{Going, begun_look, on}
use Rattle.exchange_calls.specs.Desks.{IsOf}
use Rattle.exchange_calls.specs.Items.{asked_again, ended, looking}
use Rattle.exchange_calls.specs.declared.desk.Desk.{Desk}
use Rattle.exchange_calls.proofs.PlaceLemmas.{of_same}
use Rattle.exchange_calls.proofs.LookLemmas.{looked_up, looking_on, reader_ends, seat_asks}

-- a try is left
try_left : (left : ℕ) → glance_lost (left + 1) ≡ Looks (GlanceWord left)
try_left left =
    cond-true (nat_lt 0 (left + 1)) (Looks (GlanceWord (left + 1 - 1))) Disturbed (lt-ltb 0 (left + 1) (omega arith))
    ∙ (let e : left + 1 - 1 ≡ left = omega arith in ap (λ (k : ℕ). Looks (GlanceWord k)) e)

-- a try that is lost leads to the next one
pub next_try : (base mid : Going) (aim : Aim) (more left : ℕ) → more ≡ left + 1 →
    mid ≡ looking base aim (glance_lost more) → mid ≡ looking base aim (Looks (GlanceWord left))
next_try base mid aim more left is at =
    at ∙ ap (λ (k : ℕ). looking base aim (glance_lost k)) is ∙ ap (looking base aim) (try_left left)

-- there the caller stands
pub stands_at : (base mid : Going) (aim : Aim) (left : ℕ) → mid ≡ looking base aim (Looks (GlanceWord left)) →
    mid.now.stand ≡ Glances aim (GlanceWord left)
stands_at base mid aim left at = ap (λ (g : Going). g.now.stand) at

-- the next one is lost as well, or shows something
pub lost_again : (base mid end : Going) (aim : Aim) (left : ℕ) → mid ≡ looking base aim (Looks (GlanceWord left)) →
    end ≡ looking mid aim (glance_lost left) → end ≡ looking base aim (glance_lost left)
lost_again base mid end aim left at lost =
    lost ∙ ap (λ (g : Going). looking g aim (glance_lost left)) at
    ∙ looking_on base aim (GlanceWord left) (glance_lost left)

pub shown_later : (base mid end : Going) (aim : Aim) (left : ℕ) (kept : List Pair) →
    mid ≡ looking base aim (Looks (GlanceWord left)) → end ≡ looking mid aim (Shows kept) →
    end ≡ looking base aim (Shows kept)
shown_later base mid end aim left kept at shown =
    shown ∙ ap (λ (g : Going). looking g aim (Shows kept)) at ∙ looking_on base aim (GlanceWord left) (Shows kept)

-- a look that has begun
module _ (f base : Going) (aim : Aim) (tries : ℕ) (starts : base ≡ begun_look f aim tries) where
  -- it stands at its first try
  pub begun_stands : base.now.stand ≡ Glances aim (GlanceWord (tries - 1))
  begun_stands = ap (λ (g : Going). g.now.stand) starts

  -- as before any try
  pub begun_tries : 1 ≤ tries → base ≡ looking base aim (glance_lost tries)
  begun_tries some =
      ap (on base) begun_stands
      ∙ sym (next_try base (looking base aim (glance_lost tries)) aim tries (tries - 1) (omega (arith, some)) refl)

  -- at the same desk
  pub begun_of : (desk : Desk) → IsOf f desk → IsOf base desk
  begun_of desk is =
      of_same f base desk (ap (λ (g : Going). g.plan) starts) (ap (λ (g : Going). g.seat) starts) is

  -- what a try shows is told
  pub shown_told : (now : Going) (kept : List Pair) (time : ℕ) (told : Told) → time ≡ f.now.time →
      told_by_items f.plan aim kept ≡ told → now ≡ looking base aim (Shows kept) → now ≡ ended f time told
  shown_told now kept time told at is shown =
      shown ∙ ap (λ (g : Going). looking g aim (Shows kept)) starts
      ∙ (λ i. record f { now = record f.now { time = sym at i; stand = Idle }; told = Some (is i) })

  -- without tries left a seat asks
  pub seat_wants : (now : Going) → f.holds ≡ true → now ≡ looking base aim (glance_lost 0) →
      now ≡ on base (Glances aim GlanceWant)
  seat_wants now holds lost = lost ∙ seat_asks base aim (ap (λ (g : Going). g.holds) starts ∙ holds)

  -- and what is held is told
  pub held_told : (mid now : Going) (kept : List Pair) (time : ℕ) (told : Told) →
      mid ≡ on base (Glances aim GlanceWant) → time ≡ f.now.time + 1 → told_by_items f.plan aim kept ≡ told →
      now ≡ looking (asked_again mid) aim (Shows kept) → now ≡ ended f time told
  held_told mid now kept time told wants at is shown =
      shown
      ∙ ap (λ (g : Going). looking (asked_again g) aim (Shows kept))
      (wants ∙ ap (λ (g : Going). on g (Glances aim GlanceWant)) starts)
      ∙ (λ i. record f { now = record f.now { time = sym at i; stand = Idle }; told = Some (is i) })

  -- a reader tells that it may be asked again
  pub peek_ends : (now : Going) (left : ℕ) → f.holds ≡ false → left ≡ 0 → now ≡ looking base aim (glance_lost left) →
      now ≡ ended f f.now.time Again
  peek_ends now left holds none at =
      at ∙ ap (λ (k : ℕ). looking base aim (glance_lost k)) none
      ∙ reader_ends base aim (ap (λ (g : Going). g.holds) starts ∙ holds)
      ∙ ap (λ (g : Going). record g { now = record g.now { stand = Idle }; told = Some Again }) starts

-- the reply of a lookup is that of what was found
pub reply_told : (f : Going) (key : Key) (kept : List Pair) (found : Option ℕ) (reply : Reply) →
    found ≡ number_at key kept → reply ≡ option_map_or Found found Absent →
    told_by_items f.plan (OfKey key) kept ≡ Replied reply
reply_told f key kept found reply value told =
    ap Replied (looked_up (rules_of f.plan) key kept
    ∙ ap (λ (o : Option ℕ). option_map_or Found o Absent) (sym value) ∙ sym told)

-- ---- a row that is held is read, and given back

module _ (f mid : Going) (aim : Aim) (row : ℕ)
    (held : mid ≡ on (asked_again f) (Glances aim (GlanceCount (HeldIn row))))
    (seen : Going) (kept : List Pair) (read : seen ≡ looking mid aim (gone_through (HeldIn row) kept)) where
  backs : seen ≡ looking (asked_again f) aim (Looks (GlanceBack kept))
  backs =
      read ∙ ap (λ (g : Going). looking g aim (Looks (GlanceBack kept))) held
      ∙ looking_on (asked_again f) aim (GlanceCount (HeldIn row)) (Looks (GlanceBack kept))

  pub back_stands : seen.now.stand ≡ Glances aim (GlanceBack kept)
  back_stands = ap (λ (g : Going). g.now.stand) backs

  pub back_of : (desk : Desk) → IsOf f desk → IsOf seen desk
  back_of desk is = of_same f seen desk (ap (λ (g : Going). g.plan) backs) (ap (λ (g : Going). g.seat) backs) is

  pub back_shown : (end : Going) → end ≡ looking seen aim (Shows kept) → end ≡ looking (asked_again f) aim (Shows kept)
  back_shown end shown =
      shown ∙ ap (λ (g : Going). looking g aim (Shows kept)) backs
      ∙ looking_on (asked_again f) aim (GlanceBack kept) (Shows kept)
