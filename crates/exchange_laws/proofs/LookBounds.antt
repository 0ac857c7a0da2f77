-- How many steps a lookup or a copy has left at most, by where it stands: each step leaves fewer. A reader that cannot
-- hold gives up after its tries; who can hold has the steps of a held look after them.
use Rattle.std.proofs.Common.{◌≡◌, ℕ, zero, suc, ◌+◌, ◌-◌, ◌*◌, ◌<◌, ◌≤◌, Bool, true, false, cond, not, List, [], ◌∷◌, length, refl, sym, ap, arith}
use Rattle.std.specs.Prelude.{◌==◌, ◌&&◌, ◌%◌, ◌/◌, ◌^◌, nat_lt, min}
use Rattle.std.proofs.lemmas.Bool.{ltb-true}
use Rattle.std.proofs.lemmas.List.{length-append}
use Rattle.step_counts.specs.declared.TheConstants.{ITEM_WORDS}
use Rattle.plain_map.specs.declared.keys.Pair.{Pair}
use Rattle.exchange_model.specs.Plans.{Plan, more}
use Rattle.exchange_model.specs.Codes.{COUNT_BITS, count_in, entries_in, pair_in}
use Rattle.exchange_model.specs.Steps as S
use Rattle.exchange_model.specs.Steps.{Aim, Source, Pass, Glance}
use Rattle.exchange_model.specs.Goes.{GlanceFate, Looks, Shows, Disturbed, glance_fate, glance_lost, gone_through, pass_on, pass_of, passed, with_pair, may_be, is_aimed, pass_pair, pass_fate}

-- neither items nor entries are more than there is room for, whatever was loaded
min_low : (a b : ℕ) → min a b ≤ b
min_low a b = omega arith

pub count_few : (plan : Plan) (head : ℕ) → count_in plan head ≤ plan.settings.items
count_few plan head = min_low (head % 2 ^ COUNT_BITS) plan.settings.items

pub entries_few : (plan : Plan) (head : ℕ) → entries_in plan head ≤ plan.settings.seats
entries_few plan head = min_low (head / 2 ^ COUNT_BITS % 2 ^ COUNT_BITS) plan.settings.seats

module _ (plan : Plan) where
  abbrev room : ℕ
  room = plan.settings.items

  -- the head and the items of a full row
  abbrev pub g : ℕ
  g = 1 + 7 * room

  -- the most steps of a held look
  abbrev pub held_look : ℕ
  held_look = 5 + g

  module _ (after : ℕ) where
    -- with so many tries left after this one, and so many steps after the last one
    abbrev pub again : (tries : ℕ) → ℕ
    again zero = after
    again (suc tries) = 2 + g + again tries

    again_step : (tries : ℕ) → 0 < tries → again tries ≡ 2 + g + again (tries - 1)
    again_step zero some = absurd (omega (arith, some))
    again_step (suc tries) some =
        (let e : suc tries - 1 ≡ tries = omega arith in ap (λ k. 2 + g + again k) (sym e))

    again_least : (tries : ℕ) → after ≤ again tries
    again_least zero = omega arith
    again_least (suc tries) = omega (arith, again_least tries)

    abbrev base : Source → ℕ
    base (S.Tried tries word) = 1 + again tries
    base (S.HeldIn row) = 1

    abbrev pub look_left : Glance → ℕ
    look_left (S.GlanceWord tries) = 1 + g + 1 + again tries
    look_left (S.GlanceCount source) = g + base source
    look_left (S.GlanceItem source pass) = 7 * (pass.count - pass.item) - length pass.part + base source
    look_left (S.GlanceCheck tries word kept) = 1 + again tries
    look_left S.GlanceWant = 5 + g
    look_left S.GlanceAsking = 4 + g
    look_left S.GlanceHeld = 3 + g
    look_left (S.GlanceTake word) = 2 + g
    look_left (S.GlanceBack kept) = 1

    abbrev pub FineLook : Glance → Type 0
    FineLook (S.GlanceItem source pass) =
        (pass.item < pass.count) × (pass.count ≤ room) × (length pass.part < 7)
    FineLook (S.GlanceWord tries) = Unit {0}
    FineLook (S.GlanceCount source) = Unit {0}
    FineLook (S.GlanceCheck tries word kept) = Unit {0}
    FineLook S.GlanceWant = Unit {0}
    FineLook S.GlanceAsking = Unit {0}
    FineLook S.GlanceHeld = Unit {0}
    FineLook (S.GlanceTake word) = Unit {0}
    FineLook (S.GlanceBack kept) = Unit {0}

    -- where a step leads that has so many left
    abbrev pub NextLook : (now : ℕ) → GlanceFate → Type 0
    NextLook now (Looks glance) = FineLook glance × (look_left glance + 1 ≤ now)
    NextLook now (Shows items) = 1 ≤ now
    NextLook now Disturbed = after + 1 ≤ now

    through : (source : Source) (kept : List Pair) (now : ℕ) → base source + 1 ≤ now →
        NextLook now (gone_through source kept)
    through (S.Tried tries word) kept now enough = (tt, enough)
    through (S.HeldIn row) kept now enough = (tt, enough)

    passes_on : (source : Source) (pass : Pass) (now : ℕ) → pass.count ≤ room → length pass.part ≡ 0 →
        7 * (pass.count - pass.item) + base source + 1 ≤ now → NextLook now (pass_on source pass)
    passes_on source pass now few none enough = go (nat_lt pass.item pass.count) refl
      where
        go : (b : Bool) → nat_lt pass.item pass.count ≡ b →
            NextLook now (cond b (Looks (S.GlanceItem source pass)) (gone_through source pass.kept))
        go true e = ((ltb-true pass.item pass.count e, few, omega (arith, none)), omega (arith, enough, none))
        go false e = through source pass.kept now (omega (arith, enough))

    one_word : (source : Source) (aim : Aim) (pass : Pass) (word : ℕ) → FineLook (S.GlanceItem source pass) →
        NextLook (look_left (S.GlanceItem source pass)) (pass_fate source aim pass word)
    one_word source aim pass word fine = first ((length pass.part == 0) && not (may_be aim word))
      where
        l : ℕ
        l = look_left (S.GlanceItem source pass)

        long : length (more pass.part word) ≡ length pass.part + 1
        long = length-append pass.part (word ∷ [])

        pair : Pair
        pair = pair_in (more pass.part word)

        whole : (b : Bool) → NextLook l (cond b (gone_through source (more pass.kept pair))
            (pass_on source (with_pair pass pair)))
        whole true = through source (more pass.kept pair) l (omega (arith, fine.0, fine.2))
        whole false = passes_on source (with_pair pass pair) l fine.1 refl (omega (arith, fine.0, fine.2))

        second : (b : Bool) → nat_lt (length pass.part + 1) ITEM_WORDS ≡ b →
            NextLook l (cond b (Looks (S.GlanceItem source (record pass { part = more pass.part word })))
            (pass_pair source aim pass pair))
        second true e =
            let less : length pass.part + 1 < 7 = ltb-true (length pass.part + 1) ITEM_WORDS e in
            ((fine.0, fine.1, omega (arith, long, less)), omega (arith, long, less, fine.0))
        second false e = whole (is_aimed aim pair)

        first : (b : Bool) → NextLook l (cond b (pass_on source (passed pass))
            (cond (nat_lt (length pass.part + 1) ITEM_WORDS)
            (Looks (S.GlanceItem source (record pass { part = more pass.part word })))
            (pass_pair source aim pass pair)))
        first true = passes_on source (passed pass) l fine.1 refl (omega (arith, fine.0, fine.2))
        first false = second (nat_lt (length pass.part + 1) ITEM_WORDS) refl

    -- each step of a look leaves fewer
    pub looks : (time : ℕ) (aim : Aim) (glance : Glance) (word : ℕ) → FineLook glance →
        NextLook (look_left glance) (glance_fate plan time aim glance word)
    looks time aim (S.GlanceWord tries) word fine = (tt, omega arith)
    looks time aim (S.GlanceCount source) word fine =
        let few = count_few plan word in
        passes_on source (pass_of (count_in plan word)) (g + base source) few refl (omega (arith, few))
    looks time aim (S.GlanceItem source pass) word fine = one_word source aim pass word fine
    looks time aim (S.GlanceCheck tries old kept) word fine = go (word == old)
      where
        lost_one : (b : Bool) → nat_lt 0 tries ≡ b →
            NextLook (1 + again tries) (cond b (Looks (S.GlanceWord (tries - 1))) Disturbed)
        lost_one true e = (let some : 0 < tries = ltb-true 0 tries e in (tt, omega (arith, again_step tries some)))
        lost_one false e = omega (arith, again_least tries)

        go : (b : Bool) → NextLook (1 + again tries) (cond b (Shows kept) (glance_lost tries))
        go true = omega arith
        go false = lost_one (nat_lt 0 tries) refl
    looks time aim S.GlanceWant word fine = (tt, omega arith)
    looks time aim S.GlanceAsking word fine = (tt, omega arith)
    looks time aim S.GlanceHeld word fine = (tt, omega arith)
    looks time aim (S.GlanceTake old) word fine = (tt, omega arith)
    looks time aim (S.GlanceBack kept) word fine = omega arith
