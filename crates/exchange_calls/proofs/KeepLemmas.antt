-- Own rows that are gone through for one that is held.
use Rattle.std.proofs.Common.{◌≡◌, ◌≢◌, ℕ, zero, suc, ◌+◌, ◌-◌, ◌<◌, ◌≤◌, ◌∙◌, List, [], ◌∷◌, ◌++◌, length, get_or, refl, sym, ap, arith, append_assoc}
use Rattle.std.proofs.lemmas.Bool.{cond-true, cond-false}
use Rattle.std.proofs.lemmas.List.{append-nil, length-append, get_or-append_right}
use Rattle.std.proofs.lemmas.List.Edits.{remove-append_right}
use Rattle.std.specs.Prelude.{◌==◌, if◌then◌else◌, not}
use Rattle.std.specs.List.{range_with_len, remove}
use Rattle.exchange_model.specs.Goes.{alone, without}
use Rattle.exchange_calls.proofs.FindLemmas.{words_differ, words_same}

-- these rows were, of which the first `i` are left; those were found; and so many were looked at
pub record Keeping (row : ℕ) (all found_before free kept : List ℕ) (i turns : ℕ) : Type 0 where
  pub done : List ℕ
  pub rest : List ℕ
  pub free_is : free ≡ done ++ rest
  pub place_is : i ≡ length done
  pub left_is : done ++ without row rest ≡ without row all
  pub held_is : kept ++ alone row rest ≡ found_before ++ alone row all
  pub turns_are : turns + length rest ≡ length all

-- before any
pub keeping_none : (row : ℕ) (all kept : List ℕ) → Keeping row all kept all kept 0 0
keeping_none row all kept = record {
  done = [];
  rest = all;
  free_is = refl;
  place_is = refl;
  left_is = refl;
  held_is = refl;
  turns_are = omega arith;
}

module _ (row : ℕ) (all before free kept : List ℕ) (i turns : ℕ) (k : Keeping row all before free kept i turns) where
  length_is : length free ≡ i + length k.rest
  length_is = ap length k.free_is ∙ length-append k.done k.rest ∙ ap (λ (n : ℕ). n + length k.rest) (sym k.place_is)

  -- another one follows
  pub keeping_inside : turns < length all → i < length free
  keeping_inside more = omega (arith, k.turns_are, length_is, more)

-- the next one, which is the first of the rest
module _ (row : ℕ) (all before free kept : List ℕ) (i turns : ℕ) (other : ℕ) where
  -- it is held
  pub keeping_held : (k : Keeping row all before free kept i turns) → turns < length all → other ≡ get_or free i other →
      other ≡ row → Keeping row all before (remove free i) (kept ++ row ∷ []) i (turns + 1)
  keeping_held k more is same = by k.rest k.free_is k.left_is k.held_is k.turns_are
    where
      by : (rest : List ℕ) → free ≡ k.done ++ rest → k.done ++ without row rest ≡ without row all →
          kept ++ alone row rest ≡ before ++ alone row all → turns + length rest ≡ length all →
          Keeping row all before (remove free i) (kept ++ row ∷ []) i (turns + 1)
      by [] free_is left_is held_is turns_are = absurd (omega (arith, turns_are, more))
      by (x ∷ rest) free_is left_is held_is turns_are =
          let first : other ≡ x =
          is ∙ ap (λ (xs : List ℕ). get_or xs i other) free_is
          ∙ get_or-append_right k.done (x ∷ rest) i i other (sym k.place_is) (omega arith)
          ∙ (let none : i - i ≡ 0 = omega arith in ap (λ (n : ℕ). get_or (x ∷ rest) n other) none) in
          let it : x ≡ row = sym first ∙ same in
          record {
            done = k.done;
            rest = rest;
            free_is = ap (λ (xs : List ℕ). remove xs i) free_is
                ∙ remove-append_right k.done (x ∷ rest) i i (sym k.place_is) (omega arith)
                ∙ (let none : i - i ≡ 0 = omega arith in ap (λ (n : ℕ). k.done ++ remove (x ∷ rest) n) none);
            place_is = k.place_is;
            left_is = ap (λ (xs : List ℕ). k.done ++ xs) (sym (past x rest it)) ∙ left_is;
            held_is = append_assoc kept (row ∷ []) (alone row rest)
                ∙ ap (λ (xs : List ℕ). kept ++ xs) (sym (found x rest it)) ∙ held_is;
            turns_are = omega (arith, turns_are);
          }
        where
          past : (x : ℕ) (rest : List ℕ) → x ≡ row → without row (x ∷ rest) ≡ without row rest
          past x rest it =
              ap (λ b. if not b then x ∷ without row rest else without row rest) (words_same x row it)

          found : (x : ℕ) (rest : List ℕ) → x ≡ row → alone row (x ∷ rest) ≡ row ∷ alone row rest
          found x rest it =
              cond-true (x == row) (x ∷ alone row rest) (alone row rest) (words_same x row it)
              ∙ ap (λ (y : ℕ). y ∷ alone row rest) it

  -- or not
  pub keeping_free : (k : Keeping row all before free kept i turns) → turns < length all → other ≡ get_or free i other →
      other ≢ row → Keeping row all before free kept (i + 1) (turns + 1)
  keeping_free k more is differs = by k.rest k.free_is k.left_is k.held_is k.turns_are
    where
      by : (rest : List ℕ) → free ≡ k.done ++ rest → k.done ++ without row rest ≡ without row all →
          kept ++ alone row rest ≡ before ++ alone row all → turns + length rest ≡ length all →
          Keeping row all before free kept (i + 1) (turns + 1)
      by [] free_is left_is held_is turns_are = absurd (omega (arith, turns_are, more))
      by (x ∷ rest) free_is left_is held_is turns_are =
          let first : other ≡ x =
          is ∙ ap (λ (xs : List ℕ). get_or xs i other) free_is
          ∙ get_or-append_right k.done (x ∷ rest) i i other (sym k.place_is) (omega arith)
          ∙ (let none : i - i ≡ 0 = omega arith in ap (λ (n : ℕ). get_or (x ∷ rest) n other) none) in
          let apart : x ≢ row = λ e. differs (first ∙ e) in
          record {
            done = k.done ++ x ∷ [];
            rest = rest;
            free_is = free_is ∙ sym (append_assoc k.done (x ∷ []) rest);
            place_is = (let long = length-append k.done (x ∷ []) in omega (arith, long, k.place_is));
            left_is = append_assoc k.done (x ∷ []) (without row rest)
                ∙ ap (λ (xs : List ℕ). k.done ++ xs) (sym (past x rest apart)) ∙ left_is;
            held_is = ap (λ (xs : List ℕ). kept ++ xs) (sym (found x rest apart)) ∙ held_is;
            turns_are = omega (arith, turns_are);
          }
        where
          past : (x : ℕ) (rest : List ℕ) → x ≢ row → without row (x ∷ rest) ≡ x ∷ without row rest
          past x rest apart =
              ap (λ b. if not b then x ∷ without row rest else without row rest) (words_differ x row apart)

          found : (x : ℕ) (rest : List ℕ) → x ≢ row → alone row (x ∷ rest) ≡ alone row rest
          found x rest apart =
              cond-false (x == row) (x ∷ alone row rest) (alone row rest) (words_differ x row apart)

-- all are looked at
module _ (row : ℕ) (all before free kept : List ℕ) (i turns : ℕ) (k : Keeping row all before free kept i turns)
    (end : length all ≤ turns) where
  rest_none : (rest : List ℕ) → turns + length rest ≡ length all → rest ≡ []
  rest_none [] e = refl
  rest_none (x ∷ xs) e = absurd (omega (arith, e, end))

  none : k.rest ≡ []
  none = rest_none k.rest k.turns_are

  pub kept_free : free ≡ without row all
  kept_free =
      k.free_is ∙ ap (λ (xs : List ℕ). k.done ++ xs) none
      ∙ ap (λ (xs : List ℕ). k.done ++ without row xs) (sym none) ∙ k.left_is

  pub kept_held : kept ≡ before ++ alone row all
  kept_held =
      sym (append-nil kept) ∙ ap (λ (xs : List ℕ). kept ++ alone row xs) (sym none) ∙ k.held_is

-- one number more
pub range_more : (a n : ℕ) → range_with_len a (suc n) ≡ range_with_len a n ++ (a + n) ∷ []
range_more a zero = (let e : a ≡ a + 0 = omega arith in ap (λ (k : ℕ). k ∷ []) e)
range_more a (suc n) =
    let e : a + 1 + n ≡ a + suc n = omega arith in
    ap (λ (xs : List ℕ). a ∷ xs) (range_more (a + 1) n)
    ∙ ap (λ (k : ℕ). a ∷ (range_with_len (a + 1) n ++ k ∷ [])) e
