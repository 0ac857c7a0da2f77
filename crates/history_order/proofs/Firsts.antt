-- The first rows of a version, placed one after the other.
use Rattle.std.proofs.Common.{◌≡◌, ℕ, ◌+◌, ◌<◌, Bool, true, List, [], ◌++◌, length, take, get_or, Option, Some, sym, ap, ◌∙◌, append_assoc}
use Rattle.std.specs.Prelude.{flat_map, slice_set}
use Rattle.std.specs.Option.{option_map_or}
use Rattle.std.proofs.lemmas.List.Sums.{fold_more}
use Rattle.std.proofs.lemmas.Option.{slice_get-get_or}
use Rattle.list_laws.proofs.Lists.{In, in_at}
use Rattle.history_order.specs.declared.tables.Version.{Version}
use Rattle.history_order.specs.declared.tables.Found.{Found}
use Rattle.history_order.specs.Tables.{brought, firsts_of, marked}
use Rattle.history_order.proofs.Steps.{flat_more}

-- what stands at a place is a member
pub get_in : (xs : List ℕ) (i d : ℕ) → i < length xs → In (get_or xs i d) xs
get_in xs i d inside = in_at xs i (get_or xs i d) (slice_get-get_or xs i d inside)

-- they are those of the version that is found
pub firsts_are : (found : Found) (latest : ℕ) (version : Version) (firsts : List ℕ) →
    latest < length found.versions.items → version ≡ get_or found.versions.items latest version →
    firsts ≡ version.firsts.items → firsts ≡ firsts_of found latest
firsts_are found latest version firsts inside is value =
    value
    ∙ sym (ap (λ (o : Option Version). option_map_or (λ v. v.firsts.items) o [])
    (slice_get-get_or found.versions.items latest version inside
    ∙ ap Some (sym is)))

-- one more row is marked
pub mark_more : (placed : List Bool) (rows : List ℕ) (i : ℕ) → i < length rows →
    marked placed (take (i + 1) rows) ≡ slice_set (marked placed (take i rows)) (get_or rows i 0) true
mark_more placed rows i inside = fold_more (λ now row. slice_set now row true) placed rows i 0 inside

-- and what comes of it is set aside
pub bring_more : (found : Found) (looks start aside aside_then rows : List ℕ) (i : ℕ) → i < length rows →
    aside ≡ start ++ flat_map (brought found looks) (take i rows) →
    aside_then ≡ aside ++ brought found looks (get_or rows i 0) →
    aside_then ≡ start ++ flat_map (brought found looks) (take (i + 1) rows)
bring_more found looks start aside aside_then rows i inside were more =
    more ∙ ap (λ xs. xs ++ brought found looks (get_or rows i 0)) were
    ∙ append_assoc start (flat_map (brought found looks) (take i rows)) (brought found looks (get_or rows i 0))
    ∙ ap (λ xs. start ++ xs) (sym (flat_more (brought found looks) rows i 0 inside))
