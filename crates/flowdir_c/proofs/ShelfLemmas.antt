-- What holds of the table that runs, if one does, and of the seats that nobody has had.
use Rattle.std.proofs.Common.{◌≡◌, ℕ, zero, suc, ◌+◌, List, [], ◌∷◌, ◌++◌, Some, None, length, refl, sym, ap, ◌∙◌, length-append, subst, arith}
use Rattle.std.specs.Prelude.{Option, All, IfSome, IsPermutation, IsSomeAnd}
use Rattle.std.proofs.lemmas.List.Elements.{All-nil, All-cons}
use Rattle.plain_map.specs.declared.rules.Rules.{Rules}
use Rattle.word_rows.specs.Shape.{Shape}
use Rattle.table_model.specs.Closed.{closed_pairs}
use Rattle.table_model.specs.Setup.{HaveRoom}
use Rattle.order_laws.specs.KeyOrder.{PairsReopenInAnyTurn}
use Rattle.shared_table.specs.SeatValues.{SeatValue}
use Rattle.shared_table.specs.Values.{ClosedValue, IsOf, TableValue, new_seat, new_seats}
use Rattle.flowdir_c.specs.Shelves.{ArePairsOf, IsLeftBy, ShelfValue}

-- what holds where something is there, if something else held
pub if_some : {A : Type 0} (P Q : A → Type 0) (o : Option A) → ((x : A) → o ≡ Some x → P x → Q x) → IfSome o P →
    IfSome o Q
if_some P Q None f p = tt
if_some P Q (Some x) f p = f x refl p

-- the last of new seats, and those before it
pub new_last : (t : TableValue) (n : ℕ) (xs : List SeatValue) (x : SeatValue) (m : ℕ) → xs ++ x ∷ [] ≡ new_seats t n m →
    (xs ≡ new_seats t n (length xs)) × (x ≡ new_seat t (n + length xs))
new_last t n [] x zero e = cc
new_last t n [] x (suc zero) e =
    let f : x ≡ new_seat t n = cc in
    let z : n ≡ n + 0 = omega arith in
    (refl, f ∙ ap (new_seat t) z)
new_last t n [] x (suc (suc m)) e = cc
new_last t n (y ∷ ys) x zero e = cc
new_last t n (y ∷ ys) x (suc m) e =
    let head : y ≡ new_seat t n = cc in
    let rest : ys ++ x ∷ [] ≡ new_seats t (suc n) m = cc in
    let r = new_last t (suc n) ys x m rest in
    let z : suc n + length ys ≡ n + suc (length ys) = omega arith in
    ((λ i. head i ∷ r.0 i), r.1 ∙ ap (new_seat t) z)

-- one new seat more
pub new_more : (t : TableValue) (n m : ℕ) → new_seats t n m ++ new_seat t (n + m) ∷ [] ≡ new_seats t n (suc m)
new_more t n zero =
    let z : n + 0 ≡ n = omega arith in
    ap (λ k. new_seat t k ∷ []) z
new_more t n (suc m) =
    let z : n + suc m ≡ suc n + m = omega arith in
    ap (λ k. new_seat t n ∷ (new_seats t (suc n) m ++ new_seat t k ∷ [])) z
    ∙ ap (λ xs. new_seat t n ∷ xs) (new_more t (suc n) m)

-- new seats are the table's
pub all_of : (t : TableValue) (n m : ℕ) → All (IsOf t) (new_seats t n m)
all_of t n zero = All-nil (IsOf t)
all_of t n (suc m) =
    All-cons (IsOf t) (new_seat t n) (new_seats t (suc n) m) (record { table = refl; setup = refl })
    (all_of t (suc n) m)

-- the last of the seats that nobody has had, and those that are left
pub take_last : (t : TableValue) (xs ys : List SeatValue) (y : SeatValue) → xs ≡ new_seats t 0 (length xs) →
    xs ≡ ys ++ y ∷ [] → (ys ≡ new_seats t 0 (length ys)) × (y ≡ new_seat t (length ys))
take_last t xs ys y new is =
    let r = new_last t 0 ys y (length xs) (sym is ∙ new) in
    let z : 0 + length ys ≡ length ys = omega arith in
    (r.0, r.1 ∙ ap (new_seat t) z)

-- one that is put back where it was
pub put_last : (t : TableValue) (xs ys : List SeatValue) (y : SeatValue) → xs ≡ new_seats t 0 (length xs) →
    ys ≡ xs ++ y ∷ [] → y ≡ new_seat t (length xs) → ys ≡ new_seats t 0 (length ys)
put_last t xs ys y new is one =
    let more : length xs + 1 ≡ suc (length xs) = omega arith in
    let long : length ys ≡ suc (length xs) = ap length is ∙ length-append xs (y ∷ []) ∙ more in
    let z : length xs ≡ 0 + length xs = omega arith in
    is ∙ (λ i. new i ++ (one ∙ ap (new_seat t) z) i ∷ []) ∙ new_more t 0 (length xs) ∙ ap (new_seats t 0) (sym long)

-- the pairs that a run by these rules left, and that are listed, find room by them
pub listed_have_room : PairsReopenInAnyTurn → (rules : Rules) (shelf : ShelfValue) → IsLeftBy rules shelf →
    IsSomeAnd shelf.left (λ left. ArePairsOf left shelf.pairs) → HaveRoom rules shelf.pairs
listed_have_room law rules shelf by listed =
    let are : ArePairsOf by.closed shelf.pairs =
    subst (λ (o : Option ClosedValue). IsSomeAnd o (λ left. ArePairsOf left shelf.pairs)) by.is listed in
    let ran = by.was.ran in
    let held = subst (λ (u : Shape × List ℕ). IsPermutation (closed_pairs u.0 u.1) shelf.pairs)
    (λ i. (by.was.shape i, ran.words_are i)) are.held in
    subst (λ (r : Rules). HaveRoom r shelf.pairs) by.rules_are
    (law by.setup ran.events shelf.pairs ran.is_run held).2
