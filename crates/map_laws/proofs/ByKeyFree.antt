-- The map without a limit: each reply comes from its key's calls alone, and while none lacks room it is the plain
-- object's.
use Rattle.std.proofs.Common.{◌≡◌, ◌≢◌, ℕ, Bool, true, false, List, [], ◌∷◌, map, Option, Some, None, refl, inl, inr, sym, ap, ◌∙◌, subst}
use Rattle.std.specs.List.{AllByRecursion}
use Rattle.std.specs.Option.{option_map_or}
use Rattle.std.specs.FinMap.{get, same_map}
use Rattle.std.proofs.lemmas.Bool.{cases_Bool}
use Rattle.std.proofs.lemmas.List.Elements.{recursion_from_All}
use Rattle.std.proofs.lemmas.List.Sorted.{All-permutation}
use Rattle.plain_map.specs.declared.keys.Key.{Key}
use Rattle.plain_map.specs.declared.rules.Rules.{Rules}
use Rattle.plain_map.specs.declared.calls.Call.{Call}
use Rattle.plain_map.specs.declared.calls.Call.TheVariants.{Insert, Remove, Lookup, Tally, Count, Put}
use Rattle.plain_map.specs.declared.calls.Reply.{Reply}
use Rattle.plain_map.specs.declared.calls.Reply.TheVariants.{NoRoom, Absent}
use Rattle.plain_map.specs.Calls.{key_in}
use Rattle.plain_map.specs.Keys.{Session}
use Rattle.plain_map.specs.PlainObject.{Sessions, counted_session, new_session, count_reply, found_in, gone_from, grown, has_room, insert_reply, inserted, reply_of, revalued, revised, map_after, sum_of}
use Rattle.plain_map.proofs.KeyLemmas.{keys_total, exact_keys}
use Rattle.map_laws.specs.ByKey.{Made, is_about, about, LegalMade, after_made, held_after, held_by, free_reply, free_map_after, LegalFree, after_free, FreeWhileNoneLacksRoom, WithoutFullClasses, AnswersAsAskedInTurn}
use Rattle.map_laws.proofs.ByKeyLists.{cons_same, nil_cons, filter_kept, filter_dropped, about_own, about_is, agreeing_permuted}
use Rattle.map_laws.proofs.ByKeyHeld.{Leaves, free_call_leaves, held_about, held_other, free_held}

-- ---- one call that does not lack room

-- room or not is the same to a reply that does not lack it
insert_reply-free : (held : Option Session) (room : Bool) → insert_reply held room ≢ NoRoom →
    insert_reply held room ≡ insert_reply held true
insert_reply-free (Some old) room fits = refl
insert_reply-free None true fits = refl
insert_reply-free None false fits = absurd (fits refl)

-- and to what is held after it
inserted-free : (m : Sessions) (key : Key) (new : Session) (held : Option Session) (room : Bool) →
    insert_reply held room ≢ NoRoom → inserted m key new held room ≡ inserted m key new held true
inserted-free m key new (Some old) room fits = refl
inserted-free m key new None true fits = refl
inserted-free m key new None false fits = absurd (fits refl)

put-free : (m : Sessions) (key : Key) (new : Session) (change : Session → Session) (held : Option Session)
    (room : Bool) → insert_reply held room ≢ NoRoom →
    revised m key new change held room ≡ revised m key new change held true
put-free m key new change (Some old) room fits = refl
put-free m key new change None true fits = refl
put-free m key new change None false fits = absurd (fits refl)

count_reply-free : (amount : ℕ) (held : Option Session) (room : Bool) → count_reply amount held room ≢ NoRoom →
    count_reply amount held room ≡ count_reply amount held true
count_reply-free amount (Some old) room fits = refl
count_reply-free amount None true fits = refl
count_reply-free amount None false fits = absurd (fits refl)

count-free : (m : Sessions) (key : Key) (amount : ℕ) (new : Session) (change : Session → Session)
    (held : Option Session) (room : Bool) → count_reply amount held room ≢ NoRoom →
    revised m key new change held room ≡ revised m key new change held true
count-free m key amount new change (Some old) room fits = refl
count-free m key amount new change None true fits = refl
count-free m key amount new change None false fits = absurd (fits refl)

-- a call that does not lack room has the reply of the map without a limit
reply_of-free : (rules : Rules) (m : Sessions) (call : Call) → reply_of rules m call ≢ NoRoom →
    reply_of rules m call ≡ free_reply m call
unfolding reply_of free_reply
reply_of-free rules m (Insert key value) fits = insert_reply-free (get m key) (has_room rules m key) fits
reply_of-free rules m (Remove key) fits = refl
reply_of-free rules m (Lookup key) fits = refl
reply_of-free rules m (Tally key amount) fits = refl
reply_of-free rules m (Count key value amount) fits =
    count_reply-free amount (get m key) (has_room rules m key) fits
reply_of-free rules m (Put key value) fits = insert_reply-free (get m key) (has_room rules m key) fits

-- and leaves what it leaves there
map_after-free : (rules : Rules) (m : Sessions) (call : Call) → reply_of rules m call ≢ NoRoom →
    map_after rules m call ≡ free_map_after m call
unfolding reply_of map_after free_map_after
map_after-free rules m (Insert key value) fits =
    inserted-free m key (new_session value) (get m key) (has_room rules m key) fits
map_after-free rules m (Remove key) fits = refl
map_after-free rules m (Lookup key) fits = refl
map_after-free rules m (Tally key amount) fits = refl
map_after-free rules m (Count key value amount) fits =
    count-free m key amount (counted_session value amount) (λ held. grown held amount) (get m key)
    (has_room rules m key) fits
map_after-free rules m (Put key value) fits =
    put-free m key (new_session value) (λ held. revalued held value) (get m key) (has_room rules m key) fits

-- ---- orders in which none lacks room

-- none of these lacks room
abbrev Fits : List Made → Type 0
Fits calls = AllByRecursion (λ (made : Made). made.1 ≢ NoRoom) calls

free_order : (rules : Rules) (m : Sessions) (order : List Made) → LegalMade rules m order → Fits order →
    LegalFree m order × (after_made rules m order ≡ after_free m order)
free_order rules m [] legal fits = (tt, refl)
free_order rules m (made ∷ later) legal fits =
    let fit : reply_of rules m made.0 ≢ NoRoom = λ is. fits.0 (legal.0 ∙ is) in
    let next : map_after rules m made.0 ≡ free_map_after m made.0 = map_after-free rules m made.0 fit in
    let rest = free_order rules (map_after rules m made.0) later legal.1 fits.1 in (
      (legal.0 ∙ reply_of-free rules m made.0 fit, subst (λ n. LegalFree n later) next rest.0),
      rest.1 ∙ ap (λ n. after_free n later) next,
    )

-- while none lacks room the two maps are one
pub free_while_none_lacks_room : FreeWhileNoneLacksRoom
free_while_none_lacks_room rules m order legal fits =
    free_order rules m order legal (recursion_from_All (λ (made : Made). made.1 ≢ NoRoom) order fits)

-- ---- the map without a limit, key by key

-- its reply, by what is held at the key of the call
abbrev told_at : Option Session → Call → Reply
told_at held (Insert key value) = insert_reply held true
told_at held (Remove key) = option_map_or gone_from held Absent
told_at held (Lookup key) = option_map_or found_in held Absent
told_at held (Tally key amount) = option_map_or (sum_of amount) held Absent
told_at held (Count key value amount) = count_reply amount held true
told_at held (Put key value) = insert_reply held true

free_told : (m : Sessions) (call : Call) → free_reply m call ≡ told_at (get m (key_in call)) call
unfolding free_reply
free_told m (Insert key value) = refl
free_told m (Remove key) = refl
free_told m (Lookup key) = refl
free_told m (Tally key amount) = refl
free_told m (Count key value amount) = refl
free_told m (Put key value) = refl

-- calls about one key have its replies, from what is held there
abbrev RightAt : Option Session → List Made → Type 0
RightAt held [] = Unit {0}
RightAt held (made ∷ later) = (made.1 ≡ told_at held made.0) × RightAt (held_after held made) later

module _ (m n : Sessions) (made : Made) (later : List Made) (leaves : Leaves m made n) where
  -- the calls of a key are right with one more at the front, if that is
  right_more : (key : Key) → made.1 ≡ told_at (get m (key_in made.0)) made.0 → RightAt (get n key) (about key later) →
      RightAt (get m key) (about key (made ∷ later))
  right_more key told right = elim (cases_Bool (is_about key made)) [
    | inl hits ↦
        let first : made.1 ≡ told_at (get m key) made.0 =
        subst (λ k. made.1 ≡ told_at (get m k) made.0) (sym (about_is key made hits)) told in
        let rest : RightAt (held_after (get m key) made) (about key later) =
        subst (λ held. RightAt held (about key later)) (held_about m n made key leaves hits) right in
        subst (RightAt (get m key)) (sym (filter_kept (is_about key) made later hits)) (first, rest)
    | inr misses ↦ subst (RightAt (get m key)) (sym (filter_dropped (is_about key) made later misses))
        (subst (λ held. RightAt held (about key later)) (held_other m n made key leaves misses) right)
  ]

  -- and without it
  right_less : (key : Key) → RightAt (get m key) (about key (made ∷ later)) → RightAt (get n key) (about key later)
  right_less key right = elim (cases_Bool (is_about key made)) [
    | inl hits ↦
        let both : RightAt (get m key) (made ∷ about key later) =
        subst (RightAt (get m key)) (filter_kept (is_about key) made later hits) right in
        subst (λ held. RightAt held (about key later)) (sym (held_about m n made key leaves hits)) both.1
    | inr misses ↦ subst (λ held. RightAt held (about key later)) (sym (held_other m n made key leaves misses))
        (subst (RightAt (get m key)) (filter_dropped (is_about key) made later misses) right)
  ]

-- the first call is right
right_first : (m : Sessions) (made : Made) (later : List Made) →
    RightAt (get m (key_in made.0)) (about (key_in made.0) (made ∷ later)) → made.1 ≡ free_reply m made.0
right_first m made later right =
    let key = key_in made.0 in
    let both : RightAt (get m key) (made ∷ about key later) =
    subst (RightAt (get m key)) (filter_kept (is_about key) made later (about_own made)) right in
    both.0 ∙ sym (free_told m made.0)

-- what is right in its order is so for each key
keys_right : (m : Sessions) (order : List Made) → LegalFree m order → (key : Key) →
    RightAt (get m key) (about key order)
keys_right m [] legal key = tt
keys_right m (made ∷ later) legal key =
    let leaves = free_call_leaves m made.0 made.1 legal.0 in
    right_more m (free_map_after m made.0) made later leaves key (legal.0 ∙ free_told m made.0)
    (keys_right (free_map_after m made.0) later legal.1 key)

-- what is right for each key is so in its order
right_by_keys : (m : Sessions) (order : List Made) → ((key : Key) → RightAt (get m key) (about key order)) →
    LegalFree m order
right_by_keys m [] right = tt
right_by_keys m (made ∷ later) right =
    let first = right_first m made later (right (key_in made.0)) in
    let leaves = free_call_leaves m made.0 made.1 first in (
      first,
      right_by_keys (free_map_after m made.0) later
          (λ key. right_less m (free_map_after m made.0) made later leaves key (right key)),
    )

-- calls that agree key by key with a legal order in which none lacks room
pub without_full_classes : WithoutFullClasses
without_full_classes rules m order asked legal agree fits =
    let permuted = agreeing_permuted asked order (λ key. sym (agree key)) in
    let free = free_while_none_lacks_room rules m order legal
    (All-permutation (λ (made : Made). made.1 ≢ NoRoom) asked order permuted fits) in
    let right : LegalFree m asked =
    right_by_keys m asked (λ key. subst (RightAt (get m key)) (agree key) (keys_right m order free.0 key)) in (
      right,
      free.1 ∙ same_map keys_total exact_keys _ _ (λ key. free_held m order key free.0
          ∙ ap (held_by (get m key)) (agree key) ∙ sym (free_held m asked key right)),
    )

-- the same calls have the same replies
same_replies : (m : Sessions) (ones others : List Made) → LegalFree m ones → LegalFree m others →
    map (λ (made : Made). made.0) ones ≡ map (λ (made : Made). made.0) others → ones ≡ others
same_replies m [] [] legal legal_other is = refl
same_replies m [] (y ∷ ys) legal legal_other is = absurd (nil_cons y.0 (map (λ (made : Made). made.0) ys) is)
same_replies m (x ∷ xs) [] legal legal_other is = absurd (nil_cons x.0 (map (λ (made : Made). made.0) xs) (sym is))
same_replies m (x ∷ xs) (y ∷ ys) legal legal_other is =
    let same = cons_same x.0 y.0 (map (λ (made : Made). made.0) xs) (map (λ (made : Made). made.0) ys) is in
    let reply : x.1 ≡ y.1 = legal.0 ∙ ap (free_reply m) same.0 ∙ sym legal_other.0 in
    let rest = same_replies (free_map_after m x.0) xs ys legal.1
    (subst (λ (call : Call). LegalFree (free_map_after m call) ys) (sym same.0) legal_other.1) same.1 in
    (λ i. (same.0 i, reply i) ∷ rest i)

-- and if the plain object lacks no room for them in that order, its replies are theirs
pub answers_as_asked_in_turn : AnswersAsAskedInTurn
answers_as_asked_in_turn rules m order asked answered legal agree fits legal_answered fits_answered is =
    let right = without_full_classes rules m order asked legal agree fits in
    let free = free_while_none_lacks_room rules m answered legal_answered fits_answered in
    let same = same_replies m answered asked free.0 right.0 is in
    (same, right.1 ∙ ap (after_free m) (sym same) ∙ sym free.1)
