-- A list that is cut at a place, fronts of a list, and lists of noughts.
use Rattle.std.proofs.Common.{◌≡◌, ℕ, zero, suc, ◌<◌, List, [], ◌∷◌, ◌++◌, length, get_or, take, drop, refl, ap, arith, sym, ◌∙◌, ◌≤◌, ◌+◌, ◌-◌, append-nil, replicate}
use Rattle.std.proofs.lemmas.List.{take_more, length_push, take_all, drop_all}
use Rattle.std.proofs.Math.Seq.{take-length}
use mathlib.Core.Option.{some, some-injective, some-ne-none}
use lib.ListN.{get_elem?}

-- a list, cut at a place
pub cut_at : {A : Type 0} (xs : List A) (i : ℕ) (d : A) → i < length xs →
    xs ≡ take i xs ++ get_or xs i d ∷ drop (suc i) xs
cut_at [] i d inside = absurd (omega arith)
cut_at (x ∷ xs) zero d inside = refl
cut_at (x ∷ xs) (suc i) d inside = ap (λ ys. x ∷ ys) (cut_at xs i d (omega arith))

-- one more word of a list that is loaded from its front, and the whole of it
pub seen_more : (ws seen : List ℕ) (w : ℕ) → length seen < length ws → seen ≡ take (length seen) ws →
    w ≡ get_or ws (length seen) 0 → seen ++ w ∷ [] ≡ take (length (seen ++ w ∷ [])) ws
seen_more ws seen w h e f =
    ap (λ xs. xs ++ w ∷ []) e ∙ ap (λ x. take (length seen) ws ++ x ∷ []) f
    ∙ sym (take_more ws (length seen) 0 h) ∙ ap (λ n. take n ws) (sym (length_push seen w))

-- loaded whole it is the list
pub seen_all : (ws seen : List ℕ) → length ws ≤ length seen → seen ≡ take (length seen) ws → seen ≡ ws
seen_all ws seen h e = e ∙ take_all (length seen) ws h

-- a front with the next word is the front up to that word
pub take_at : (l : List ℕ) (i n : ℕ) → get_elem? l i ≡ some n → take (i + 1) l ≡ take i l ++ n ∷ []
take_at [] i n e = absurd (some-ne-none n (sym e))
take_at (x ∷ xs) zero n e = ap (λ (k : ℕ). k ∷ []) (some-injective x n e)
take_at (x ∷ xs) (suc i) n e = let f : suc i + 1 ≡ suc (i + 1) = omega arith in
    ap (λ (k : ℕ). take k (x ∷ xs)) f ∙ ap (λ (l : List ℕ). x ∷ l) (take_at xs i n e)

-- as many elements as a list has, which stand before what is left of another of its length, are the list
pub whole_slice : {A : Type 0} (ws vs : List A) (n : ℕ) → n ≡ length ws → length vs ≡ length ws →
    take n (vs ++ drop (length vs) ws) ≡ vs
whole_slice ws vs n is long =
    let none : drop (length vs) ws ≡ [] = drop_all (length vs) ws (omega arith) in
    let n_is : n ≡ length vs = is ∙ sym long in
    ap (λ t. take n (vs ++ t)) none ∙ ap (take n) (append-nil vs)
    ∙ ap (λ (k : ℕ). take k vs) n_is ∙ take-length vs

-- noughts are 0 at each place, and past them
pub zero_at : (n i : ℕ) → get_or (replicate n 0) i 0 ≡ zero
zero_at zero i = refl
zero_at (suc n) zero = refl
zero_at (suc n) (suc i) = zero_at n i
