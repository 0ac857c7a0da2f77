-- One step of a loop that makes a list: what is done, and what the rest gives.
use Rattle.std.proofs.Common.{◌≡◌, ℕ, ◌+◌, ◌-◌, ◌<◌, Bool, true, false, cond, List, [], ◌∷◌, ◌++◌, length, take, drop, get_or, sym, ap, ◌∙◌, append_assoc}
use Rattle.std.specs.List.{filter}
use Rattle.std.proofs.lemmas.List.{at_drop_more, take_rest}
use Rattle.table_model.specs.Reading.{each_once, is_among}

-- a piece goes over to what is done
pub grows : {B : Type 0} → (done piece rest now all done_then : List B) → done_then ≡ done ++ piece →
    now ≡ piece ++ rest → done ++ now ≡ all → done_then ++ rest ≡ all
grows done piece rest now all done_then more is were =
    ap (λ xs. xs ++ rest) more ∙ append_assoc done piece rest ∙ ap (λ xs. done ++ xs) (sym is) ∙ were

-- nothing goes over
pub stays : {B : Type 0} → (done rest now all done_then : List B) → done_then ≡ done → now ≡ rest →
    done ++ now ≡ all → done_then ++ rest ≡ all
stays done rest now all done_then same is were = ap (λ xs. xs ++ rest) same ∙ ap (λ xs. done ++ xs) (sym is) ∙ were

-- an element is kept, or not
pub filter-kept : {A : Type 0} → (p : A → Bool) (xs : List A) (i : ℕ) (d : A) (done all done_then : List A) →
    i < length xs → p (get_or xs i d) ≡ true → done_then ≡ done ++ get_or xs i d ∷ [] →
    done ++ filter p (drop i xs) ≡ all → done_then ++ filter p (drop (i + 1) xs) ≡ all
filter-kept p xs i d done all done_then inside holds more were =
    let x = get_or xs i d in
    let rest = filter p (drop (i + 1) xs) in
    let step : filter p (drop i xs) ≡ x ∷ rest =
    at_drop_more (filter p) xs i d inside ∙ ap (λ (b : Bool). cond b (x ∷ rest) rest) holds in
    grows done (x ∷ []) rest (filter p (drop i xs)) all done_then more step were

pub filter-left : {A : Type 0} → (p : A → Bool) (xs : List A) (i : ℕ) (d : A) (done all done_then : List A) →
    i < length xs → p (get_or xs i d) ≡ false → done_then ≡ done → done ++ filter p (drop i xs) ≡ all →
    done_then ++ filter p (drop (i + 1) xs) ≡ all
filter-left p xs i d done all done_then inside fails same were =
    let x = get_or xs i d in
    let rest = filter p (drop (i + 1) xs) in
    let step : filter p (drop i xs) ≡ rest =
    at_drop_more (filter p) xs i d inside ∙ ap (λ (b : Bool). cond b (x ∷ rest) rest) fails in
    stays done rest (filter p (drop i xs)) all done_then same step were
