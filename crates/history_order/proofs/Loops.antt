-- Steps of loops that make lists.
use Rattle.std.proofs.Common.{◌≡◌, ℕ, suc, ◌+◌, ◌-◌, ◌<◌, Bool, true, false, cond, not, List, [], ◌∷◌, ◌++◌, length, drop, get_or, reverse, map, Option, Some, None, refl, inl, inr, sym, ap, ◌∙◌, subst, arith, append-nil, Vec, Global, eqb-true, eq-eqb, true≢false}
use Rattle.std.specs.Prelude.{◌==◌, ◌||◌, filter, flat_map, slice_index_or}
use Rattle.std.specs.Borrow.{Bor}
use Rattle.std.proofs.lemmas.List.{at_drop_more, drop_more, reverse-append}
use Rattle.std.proofs.lemmas.List.Folds.{list_any-append}
use Rattle.std.proofs.lemmas.Bool.{cases_Bool, cases_eq, ne_eqb}
use Rattle.table_model.specs.Reading.{each_once, is_among, line}
use Rattle.plain_map.specs.declared.records.Record.{Record}
use Rattle.word_rows.specs.Shape.{Shape}
use Rattle.table_model.specs.Closing.{read_in, records_there}
use Rattle.history_order.specs.Filling.{while_true, entries_of, new_beside, leaves_from}
use Rattle.closed_words.specs.Marks.{AreMet}
use Rattle.closed_words.proofs.LoopLemmas.{grows}
use Rattle.closed_words.proofs.MarkLemmas.{among_both_lists, met_more, met_still}
use Rattle.closed_laws.proofs.Lines.{line_none}

-- where no row comes next the list ends
pub exchanged_ends : (test : ℕ → Bool) (base : ℕ → Option ℕ) (most : ℕ) (next : Option ℕ) (done all : List ℕ) →
    next ≡ None → done ++ while_true test (line base most next) ≡ all → done ≡ all
exchanged_ends test base most next done all none were =
    sym (append-nil done) ∙ ap (λ rest. done ++ while_true test rest)
    (sym (ap (line base most) none ∙ line_none base most)) ∙ were

-- the line from a row
line_at : (base : ℕ → Option ℕ) (count at row : ℕ) (next : Option ℕ) → at < count → next ≡ Some row →
    line base (count - at) next ≡ row ∷ line base (count - (at + 1)) (base row)
line_at base count at row next inside is =
    let one : count - at ≡ suc (count - (at + 1)) = omega arith in
    ap (λ most. line base most next) one ∙ ap (line base (suc (count - (at + 1)))) is

-- and at a row that fails
pub exchanged_stops : (test : ℕ → Bool) (base : ℕ → Option ℕ) (count at row : ℕ) (next : Option ℕ)
    (done all : List ℕ) → at < count → next ≡ Some row → test row ≡ false →
    done ++ while_true test (line base (count - at) next) ≡ all → done ≡ all
exchanged_stops test base count at row next done all inside is fails were =
    sym (append-nil done) ∙ ap (λ (xs : List ℕ). done ++ xs)
    (sym (ap (while_true test) (line_at base count at row next inside is)
    ∙ ap (λ b. cond b (row ∷ while_true test (line base (count - (at + 1)) (base row))) []) fails)) ∙ were

-- a row that passes goes over
pub exchanged_goes : (test : ℕ → Bool) (base : ℕ → Option ℕ) (count at row : ℕ) (next next_then : Option ℕ)
    (done all done_then : List ℕ) → at < count → next ≡ Some row → test row ≡ true → next_then ≡ base row →
    done_then ≡ done ++ row ∷ [] → done ++ while_true test (line base (count - at) next) ≡ all →
    done_then ++ while_true test (line base (count - (at + 1)) next_then) ≡ all
exchanged_goes test base count at row next next_then done all done_then inside is passes then_is more were =
    let rest = while_true test (line base (count - (at + 1)) next_then) in
    grows done (row ∷ []) rest (while_true test (line base (count - at) next)) all done_then more
    (ap (while_true test) (line_at base count at row next inside is)
    ∙ ap (λ b. cond b (row ∷ while_true test (line base (count - (at + 1)) (base row))) []) passes
    ∙ ap (λ o. row ∷ while_true test (line base (count - (at + 1)) o)) (sym then_is)) were

-- where one of two holds
either : (a b : Bool) → a || b ≡ false → (a ≡ false) × (b ≡ false)
either true b h = absurd (true≢false h)
either false b h = (refl, h)

module _ (known : List ℕ) where
  -- those that are not known, each once
  abbrev pub picked : List ℕ → List ℕ
  picked xs = filter (λ b. not (is_among known b)) (each_once xs)

  -- one that is neither known nor comes again is picked
  pub picked_new : (x : ℕ) (xs : List ℕ) → is_among (known ++ xs) x ≡ false → picked (x ∷ xs) ≡ x ∷ picked xs
  picked_new x xs h =
      let parts = either (is_among known x) (is_among xs x) (sym (among_both_lists known xs x) ∙ h) in
      ap (λ b. filter (λ n. not (is_among known n)) (cond b (each_once xs) (x ∷ each_once xs))) parts.1
      ∙ ap (λ b. cond (not b) (x ∷ picked xs) (picked xs)) parts.0

  -- another is not
  pub picked_old : (x : ℕ) (xs : List ℕ) → is_among (known ++ xs) x ≡ true → picked (x ∷ xs) ≡ picked xs
  picked_old x xs h = elim (cases_Bool (is_among xs x)) [
    | inl again ↦ ap (λ b. filter (λ n. not (is_among known n)) (cond b (each_once xs) (x ∷ each_once xs))) again
    | inr last ↦
        ap (λ b. filter (λ n. not (is_among known n)) (cond b (each_once xs) (x ∷ each_once xs))) last
        ∙ ap (λ b. cond (not b) (x ∷ picked xs) (picked xs))
        (left (is_among known x) (is_among xs x) (sym (among_both_lists known xs x) ∙ h) last)
  ]
    where
      left : (a b : Bool) → a || b ≡ true → b ≡ false → a ≡ true
      left true b e f = refl
      left false b e f = absurd (true≢false (sym e ∙ f))

  -- a step back over the entries, to one that is new
  module _ (entries : List ℕ) (count i x : ℕ) (many : count ≡ length entries) (inside : i < count)
      (is : x ≡ get_or entries (count - 1 - i) 0) where
    -- the rest then begins with it
    rest_is : drop (count - (i + 1)) entries ≡ x ∷ drop (count - i) entries
    rest_is =
        let less : count - (i + 1) < length entries = omega (arith, many, inside) in
        let on : count - (i + 1) + 1 ≡ count - i = omega (arith, inside) in
        let same : count - (i + 1) ≡ count - 1 - i = omega arith in
        drop_more entries (count - (i + 1)) 0 less
        ∙ ap (λ z. z ∷ drop (count - (i + 1) + 1) entries) (ap (λ n. get_or entries n 0) same ∙ sym is)
        ∙ ap (λ n. x ∷ drop n entries) on

    -- what holds of the leaves and the marks
    abbrev pub Leaves : List ℕ → List Bool → ℕ → Type 0
    Leaves leaves marks n = (reverse leaves ≡ picked (drop (count - n) entries))
        × AreMet marks (known ++ drop (count - n) entries)

    -- with a new one
    pub leaf_goes : (leaves leaves_then : List ℕ) (marks marks_then : List Bool) →
        slice_index_or marks x false ≡ false → leaves_then ≡ leaves ++ x ∷ [] →
        ((n : ℕ) → slice_index_or marks_then n false ≡ ((n == x) || slice_index_or marks n false)) →
        Leaves leaves marks i → Leaves leaves_then marks_then (i + 1)
    leaf_goes leaves leaves_then marks marks_then fresh more set h =
        let rest = drop (count - i) entries in (
          ap reverse more ∙ reverse-append leaves (x ∷ []) ∙ ap (λ xs. x ∷ xs) h.0
              ∙ sym (picked_new x rest (sym (h.1 x) ∙ fresh)) ∙ ap picked (sym rest_is),
          subst (λ xs. AreMet marks_then (known ++ xs)) (sym rest_is) (met_more known marks marks_then x rest h.1 set),
        )

    -- with one that was met
    pub leaf_stays : (leaves leaves_then : List ℕ) (marks marks_then : List Bool) →
        slice_index_or marks x false ≡ true → leaves_then ≡ leaves → marks_then ≡ marks → Leaves leaves marks i →
        Leaves leaves_then marks_then (i + 1)
    leaf_stays leaves leaves_then marks marks_then was same marked h =
        let rest = drop (count - i) entries in (
          ap reverse same ∙ h.0 ∙ sym (picked_old x rest (sym (h.1 x) ∙ was)) ∙ ap picked (sym rest_is),
          subst (λ ms. AreMet ms (known ++ drop (count - (i + 1)) entries)) (sym marked)
              (subst (λ xs. AreMet marks (known ++ xs)) (sym rest_is) (met_still known marks x rest h.1 was)),
        )

-- the lists of lists grow by one
pub leaves_go : (shape : Shape) (words known : List ℕ) (rows : List ℕ) (i : ℕ) (done all done_then : List (List ℕ)) →
    i < length rows → done_then ≡ done ++ new_beside shape words known (get_or rows i 0) ∷ [] →
    done ++ leaves_from shape words known (drop i rows) ≡ all →
    done_then ++ leaves_from shape words (known ++ entries_of shape words (get_or rows i 0)) (drop (i + 1) rows) ≡ all
leaves_go shape words known rows i done all done_then inside more were =
    grows done (new_beside shape words known (get_or rows i 0) ∷ [])
    (leaves_from shape words (known ++ entries_of shape words (get_or rows i 0)) (drop (i + 1) rows))
    (leaves_from shape words known (drop i rows)) all done_then more
    (at_drop_more (leaves_from shape words known) rows i 0 inside) were

-- there are as many lists as rows
pub length_leaves : (shape : Shape) (words met rows : List ℕ) → length (leaves_from shape words met rows) ≡ length rows
length_leaves shape words met [] = refl
length_leaves shape words met (row ∷ rows) =
    ap suc (length_leaves shape words (met ++ entries_of shape words row) rows)

-- the records of all seats, by their lists
pub joined_items : (logs : List (Vec (Bor Record) Global)) →
    flat_map (λ (v : Vec (Bor Record) Global). records_there v.items) logs
    ≡ flat_map (λ (log : List Record). log) (read_in logs)
joined_items [] = refl
joined_items (v ∷ vs) = ap (λ rest. records_there v.items ++ rest) (joined_items vs)

-- and as many images as members
pub length_items : (lists : List (Vec ℕ Global)) → length (map (λ (v : Vec ℕ Global). v.items) lists) ≡ length lists
length_items [] = refl
length_items (v ∷ vs) = ap suc (length_items vs)
