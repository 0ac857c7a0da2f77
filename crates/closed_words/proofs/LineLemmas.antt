-- A line, row by row, and the first of its rows that passes a test.
use Rattle.std.proofs.Common.{◌≡◌, ℕ, zero, suc, ◌+◌, ◌-◌, ◌<◌, ◌≤◌, Bool, true, false, List, [], ◌∷◌, ◌++◌, Option, Some, None, sym, ap, ◌∙◌, refl, arith}
use Rattle.std.proofs.lemmas.List.{append-nil}
use Rattle.std.specs.Prelude.{find, if◌then◌else◌}
use Rattle.table_model.specs.Reading.{line}
use Rattle.closed_words.proofs.LoopLemmas.{grows}

-- from no row on there is none
pub find-none : (test : ℕ → Bool) (base : ℕ → Option ℕ) (most : ℕ) (next : Option ℕ) → next ≡ None →
    find test (line base most next) ≡ None
find-none test base zero next e = refl
find-none test base (suc most) next e = ap (λ o. find test (line base (suc most) o)) e

-- nor is there after the last
pub find-end : (test : ℕ → Bool) (base : ℕ → Option ℕ) (count at : ℕ) (next : Option ℕ) → count ≤ at →
    find test (line base (count - at) next) ≡ None
find-end test base count at next past =
    let none : count - at ≡ 0 = omega arith in
    ap (λ most. find test (line base most next)) none

-- where a row stands, it is the first of the line
step : (test : ℕ → Bool) (base : ℕ → Option ℕ) (count at row : ℕ) (next : Option ℕ) → at < count → next ≡ Some row →
    find test (line base (count - at) next)
    ≡ (if test row then Some row else find test (line base (count - (at + 1)) (base row)))
step test base count at row next inside is =
    let one : count - at ≡ suc (count - (at + 1)) = omega arith in
    ap (λ most. find test (line base most next)) one
    ∙ ap (λ o. find test (line base (suc (count - (at + 1))) o)) is

-- one that passes is found
pub find-here : (test : ℕ → Bool) (base : ℕ → Option ℕ) (count at row : ℕ) (next : Option ℕ) → at < count →
    next ≡ Some row → test row ≡ true → find test (line base (count - at) next) ≡ Some row
find-here test base count at row next inside is passes = step test base count at row next inside is
    ∙ ap (λ b. if b then Some row else find test (line base (count - (at + 1)) (base row))) passes

-- after one that does not it is looked for on
pub find-later : (test : ℕ → Bool) (base : ℕ → Option ℕ) (count at row : ℕ) (next later : Option ℕ) → at < count →
    next ≡ Some row → later ≡ base row → test row ≡ false →
    find test (line base (count - (at + 1)) later) ≡ find test (line base (count - at) next)
find-later test base count at row next later inside is on fails =
    ap (λ o. find test (line base (count - (at + 1)) o)) on
    ∙ sym (ap (λ b. if b then Some row else find test (line base (count - (at + 1)) (base row))) fails)
    ∙ sym (step test base count at row next inside is)

-- from no row on there is none
line-none : (base : ℕ → Option ℕ) (most : ℕ) → line base most None ≡ []
line-none base zero = refl
line-none base (suc most) = refl

-- the line ends where a row was made from none
pub line-ends : (base : ℕ → Option ℕ) (most : ℕ) (next : Option ℕ) (done all : List ℕ) → next ≡ None →
    done ++ line base most next ≡ all → done ≡ all
line-ends base most next done all none were =
    sym (append-nil done) ∙ ap (λ (rest : List ℕ). done ++ rest)
    (sym (ap (line base most) none ∙ line-none base most)) ∙ were

-- one row more
pub line-goes : (base : ℕ → Option ℕ) (count at row : ℕ) (next next_then : Option ℕ) (done all done_then : List ℕ) →
    at < count → next ≡ Some row → next_then ≡ base row → done_then ≡ done ++ row ∷ [] →
    done ++ line base (count - at) next ≡ all → done_then ++ line base (count - (at + 1)) next_then ≡ all
line-goes base count at row next next_then done all done_then inside is then_is more were =
    let rest : List ℕ = line base (count - (at + 1)) next_then in
    let one : count - at ≡ suc (count - (at + 1)) = omega arith in
    let from : line base (count - at) next ≡ line base (suc (count - (at + 1))) (Some row) =
    ap (λ (m : ℕ). line base m next) one ∙ ap (line base (suc (count - (at + 1)))) is in
    let step : line base (count - at) next ≡ row ∷ rest =
    from ∙ ap (λ (o : Option ℕ). row ∷ line base (count - (at + 1)) o) (sym then_is) in
    grows done (row ∷ []) rest (line base (count - at) next) all done_then more step were
