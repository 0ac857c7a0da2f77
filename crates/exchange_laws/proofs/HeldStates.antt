-- A world as the held look sees it: its bucket words, its hold words, where each seat stands in its look and in its
-- scan.
use Rattle.std.proofs.Common.{◌≡◌, ◌≢◌, ℕ, ◌%◌, ◌≤◌, inl, inr, Bool, true, false, cond, not, List, [], ◌∷◌, Option, Some, None, refl, sym, ap, ◌∙◌, arith}
use Rattle.std.specs.Prelude.{◌==◌, if◌then◌else◌, ◌||◌}
use Rattle.std.specs.List.{list_any}
use Rattle.std.proofs.lemmas.Bool.{eqb-true, ne_eqb}
use Rattle.list_laws.proofs.Totals.{many, any_some, some_any}
use Rattle.word_rows.specs.Memory.{put}
use Rattle.exchange_model.specs.Plans.{Plan}
use Rattle.exchange_model.specs.Codes.{row_in, asking, holding, is_asking, time_in, held_row}
use Rattle.exchange_model.specs.Steps as S
use Rattle.exchange_model.specs.Steps.{Step, Source, Glance}
use Rattle.exchange_model.specs.Goes.{without}
use Rattle.exchange_model.specs.Worlds.{World, seat_in}
use Rattle.exchange_laws.proofs.Places.{either_put}
use Rattle.exchange_laws.proofs.RowLists.{is_row}
use Rattle.exchange_laws.proofs.Holding as H

-- a hold word
abbrev pub hold_of : ℕ → H.Hold
hold_of word =
    if word == 0 then H.Nothing else (if is_asking word then H.Asking (time_in word) else H.Holding (held_row word))

abbrev pub look_of_step : Plan → Step → H.Look
look_of_step plan S.StoreAsking = H.Chosen
look_of_step plan S.HeldWord = H.Asked
look_of_step plan (S.TakeHold word) = H.Loaded (row_in plan word)
look_of_step plan (S.HeldHead row) = H.Reads row
look_of_step plan (S.HeldEntry row place left) = H.Reads row
look_of_step plan (S.HeldReply row place) = H.Reads row
look_of_step plan step = H.NoLook

abbrev pub look_of_source : Source → H.Look
look_of_source (S.Tried left word) = H.NoLook
look_of_source (S.HeldIn row) = H.Reads row

abbrev pub look_of_glance : Plan → Glance → H.Look
look_of_glance plan S.GlanceAsking = H.Chosen
look_of_glance plan S.GlanceHeld = H.Asked
look_of_glance plan (S.GlanceTake word) = H.Loaded (row_in plan word)
look_of_glance plan (S.GlanceCount source) = look_of_source source
look_of_glance plan (S.GlanceItem source pass) = look_of_source source
look_of_glance plan glance = H.NoLook

abbrev pub look_of : Plan → S.Stand → H.Look
look_of plan S.Idle = H.NoLook
look_of plan (S.Goes call step) = look_of_step plan step
look_of plan (S.Glances aim glance) = look_of_glance plan glance

abbrev pub among : List ℕ → ℕ → Bool
among rows row = list_any (is_row row) rows

abbrev pub sweep_of : Option S.Scan → H.Sweep
sweep_of None = H.NoSweep
sweep_of (Some (S.Seats k left held)) = H.Seats k (among left)
sweep_of (Some (S.Sees k t left held)) = H.Sees k t (among left)
sweep_of (Some (S.Loads k t bucket left held)) = H.Loads k t bucket (among left)
sweep_of (Some (S.Gives k t row left held)) = H.Gives k t row (among left)

-- all of it, with what is said beside it
abbrev pub held_state : Plan → World → (owner : ℕ → ℕ) (free : ℕ → Bool) (since : ℕ → ℕ → Bool) → H.State
held_state plan x owner free since = record {
  word = λ b. row_in plan (x.store.bucket b);
  owner = owner;
  free = free;
  hold = λ q. hold_of (x.store.hold q);
  want = x.store.want;
  time = λ q. (seat_in x q).time;
  look = λ q. look_of plan (seat_in x q).stand;
  sweep = λ q. sweep_of (seat_in x q).scan;
  since = since;
}

-- ---- rows among others

pub among_some : (rows : List ℕ) (r : ℕ) → among rows r ≡ true → 1 ≤ many (is_row r) rows
among_some rows r e = any_some (is_row r) rows e

pub some_among : (rows : List ℕ) (r : ℕ) → 1 ≤ many (is_row r) rows → among rows r ≡ true
some_among rows r h = some_any (is_row r) rows h

-- without one
among_here : (row : ℕ) (rows : List ℕ) → among (without row rows) row ≡ false
among_here row [] = refl
among_here row (g ∷ rows) = go (g == row) refl (among_here row rows)
  where
    go : (b : Bool) → (g == row) ≡ b → among (without row rows) row ≡ false →
        among (cond (not b) (g ∷ without row rows) (without row rows)) row ≡ false
    go true e rest = rest
    go false e rest = ap (λ (c : Bool). c || among (without row rows) row) e ∙ rest

among_else : (row : ℕ) (rows : List ℕ) (x : ℕ) → x ≢ row → among (without row rows) x ≡ among rows x
among_else row [] x n = refl
among_else row (g ∷ rows) x n = go (g == row) refl (among_else row rows x n)
  where
    go : (b : Bool) → (g == row) ≡ b → among (without row rows) x ≡ among rows x →
        among (cond (not b) (g ∷ without row rows) (without row rows)) x ≡ ((g == x) || among rows x)
    go true e rest =
        rest ∙ ap (λ (c : Bool). c || among rows x) (sym (ne_eqb g x (λ same. n (sym same ∙ eqb-true g row e))))
    go false e rest = ap (λ (c : Bool). (g == x) || c) rest

pub among_less : (row : ℕ) (rows : List ℕ) (x : ℕ) → put (among rows) row false x ≡ among (without row rows) x
among_less row rows x = elim (either_put (among rows) row false x) [
  | inl e ↦ e.1 ∙ sym (among_here row rows) ∙ ap (among (without row rows)) (sym e.0)
  | inr n ↦ n.1 ∙ sym (among_else row rows x n.0)
]

-- ---- hold words

-- an asking is one, and tells its time
pub asking_asks : (time : ℕ) → is_asking (asking time) ≡ true
asking_asks time = (let e : asking time % 2 ≡ 1 = omega arith in ap (λ k. k == 1) e)

pub time_of_asking : (time : ℕ) → time_in (asking time) ≡ time
time_of_asking time = omega arith

-- a hold is none, tells its row, and is not nothing
pub holding_asks_not : (row : ℕ) → is_asking (holding row) ≡ false
holding_asks_not row = (let e : holding row % 2 ≡ 0 = omega arith in ap (λ k. k == 1) e)

pub row_of_holding : (row : ℕ) → held_row (holding row) ≡ row
row_of_holding row = omega arith

pub holding_some : (row : ℕ) → holding row ≢ 0
holding_some row e = omega (arith, e)

pub asks_not_zero : (word : ℕ) → is_asking word ≡ true → word ≢ 0
asks_not_zero word a e = (let o : word % 2 ≡ 1 = eqb-true (word % 2) 1 a in omega (arith, o, e))

pub hold_none : (word : ℕ) → word ≡ 0 → hold_of word ≡ H.Nothing
hold_none word e = ap hold_of e

pub hold_asks : (word : ℕ) → is_asking word ≡ true → hold_of word ≡ H.Asking (time_in word)
hold_asks word a =
    (λ i. cond (ne_eqb word 0 (asks_not_zero word a) i) H.Nothing
    (cond (is_asking word) (H.Asking (time_in word)) (H.Holding (held_row word))))
    ∙ (λ i. cond (a i) (H.Asking (time_in word)) (H.Holding (held_row word)))

pub hold_has : (word : ℕ) → word ≢ 0 → is_asking word ≡ false → hold_of word ≡ H.Holding (held_row word)
hold_has word n a =
    (λ i. cond (ne_eqb word 0 n i) H.Nothing
    (cond (is_asking word) (H.Asking (time_in word)) (H.Holding (held_row word))))
    ∙ (λ i. cond (a i) (H.Asking (time_in word)) (H.Holding (held_row word)))

-- an asking is for one time
pub asking_of : (word : ℕ) → is_asking word ≡ true → word ≡ asking (time_in word)
asking_of word a = (let o : word % 2 ≡ 1 = eqb-true (word % 2) 1 a in omega (arith, o))
