-- Lookups, set one after the other into a legal order of updates.
use Rattle.std.proofs.Common.{◌≡◌, true, false, List, [], ◌∷◌, ◌++◌, refl, inl, inr, sym, ap, ◌∙◌, subst, append_assoc, append-nil}
use Rattle.std.specs.Option.{option_map_or}
use Rattle.std.specs.FinMap.{get}
use Rattle.std.proofs.lemmas.Bool.{cases_Bool}
use Rattle.std.proofs.lemmas.List.Elements.{filter-append}
use Rattle.plain_map.specs.declared.keys.Key.{Key}
use Rattle.plain_map.specs.declared.rules.Rules.{Rules}
use Rattle.plain_map.specs.declared.calls.Call.{Call}
use Rattle.plain_map.specs.declared.calls.Call.TheVariants.{Insert, Remove, Lookup, Tally, Count, Put}
use Rattle.plain_map.specs.declared.calls.Reply.TheVariants.{Absent}
use Rattle.plain_map.specs.Calls.{key_in, is_update}
use Rattle.plain_map.specs.PlainObject.{Sessions, found_in, reply_of, map_after}
use Rattle.map_laws.specs.ByKey.{Made, is_about, about, AgreeByKey, updates_in, LegalMade, after_made, held_by, LooksTell, LooksCanBeSetIn}
use Rattle.map_laws.proofs.ByKeyLists.{filter_kept, filter_dropped, filter_cut, about_is, about-append, about-updates_in, agreeing_permuted}
use Rattle.map_laws.proofs.ByKeyHeld.{keys_held}

-- the front of a legal order is legal, and so is the rest, from what the front leaves
pub LegalMade-parts : (rules : Rules) (m : Sessions) (front back : List Made) → LegalMade rules m (front ++ back) →
    LegalMade rules m front × LegalMade rules (after_made rules m front) back
LegalMade-parts rules m [] back legal = (tt, legal)
LegalMade-parts rules m (made ∷ front) back legal =
    let parts = LegalMade-parts rules (map_after rules m made.0) front back legal.1 in ((legal.0, parts.0), parts.1)

-- two legal parts join
pub LegalMade-append : (rules : Rules) (m : Sessions) (front back : List Made) → LegalMade rules m front →
    LegalMade rules (after_made rules m front) back → LegalMade rules m (front ++ back)
LegalMade-append rules m [] back first second = second
LegalMade-append rules m (made ∷ front) back first second =
    (first.0, LegalMade-append rules (map_after rules m made.0) front back first.1 second)

-- what both parts leave
pub after_made-append : (rules : Rules) (m : Sessions) (front back : List Made) →
    after_made rules m (front ++ back) ≡ after_made rules (after_made rules m front) back
after_made-append rules m [] back = refl
after_made-append rules m (made ∷ front) back = after_made-append rules (map_after rules m made.0) front back

-- a call that is no update is a lookup of its key
look_is : (call : Call) → is_update call ≡ false → call ≡ Lookup (key_in call)
look_is (Insert key value) looks = cc
look_is (Remove key) looks = cc
look_is (Lookup key) looks = refl
look_is (Tally key amount) looks = cc
look_is (Count key value amount) looks = cc
look_is (Put key value) looks = cc

-- a lookup changes nothing
look_leaves : (rules : Rules) (m : Sessions) (call : Call) → is_update call ≡ false → map_after rules m call ≡ m
unfolding map_after
look_leaves rules m call looks = ap (map_after rules m) (look_is call looks)

-- and tells what is held at its key
look_tells : (rules : Rules) (m : Sessions) (call : Call) → is_update call ≡ false →
    reply_of rules m call ≡ option_map_or found_in (get m (key_in call)) Absent
unfolding reply_of
look_tells rules m call looks = ap (reply_of rules m) (look_is call looks)

-- of one call about a key: an update is one of the updates, and a lookup is none
one_update : (key : Key) (made : Made) → is_update made.0 ≡ true →
    updates_in (about key (made ∷ [])) ≡ about key (made ∷ [])
one_update key made updates = sym (about-updates_in key (made ∷ []))
    ∙ ap (about key) (filter_kept (λ (it : Made). is_update it.0) made [] updates)

one_look : (key : Key) (made : Made) → is_update made.0 ≡ false → updates_in (about key (made ∷ [])) ≡ []
one_look key made looks = sym (about-updates_in key (made ∷ []))
    ∙ ap (about key) (filter_dropped (λ (it : Made). is_update it.0) made [] looks)

-- the updates about a key, with one call at the front
updates_more : (key : Key) (made : Made) (rest : List Made) → updates_in (about key (made ∷ rest))
    ≡ updates_in (about key (made ∷ [])) ++ updates_in (about key rest)
updates_more key made rest = ap updates_in (about-append key (made ∷ []) rest)
    ∙ filter-append (λ (it : Made). is_update it.0) (about key (made ∷ [])) (about key rest)

-- of each key, a line has all calls that stand in front, and then the updates among the rest
abbrev HasSetIn : (front rest line : List Made) → Type 0
HasSetIn front rest line = (key : Key) → about key line ≡ about key front ++ updates_in (about key rest)

-- an update that comes next has its place already
pass_update : (front rest line : List Made) (made : Made) → is_update made.0 ≡ true →
    HasSetIn front (made ∷ rest) line → HasSetIn (front ++ made ∷ []) rest line
pass_update front rest line made updates far key =
    far key ∙ ap (λ l. about key front ++ l) (updates_more key made rest
    ∙ ap (λ l. l ++ updates_in (about key rest)) (one_update key made updates))
    ∙ sym (append_assoc (about key front) (about key (made ∷ [])) (updates_in (about key rest)))
    ∙ ap (λ l. l ++ updates_in (about key rest)) (sym (about-append key front (made ∷ [])))

-- what follows of a lookup's key is the updates of the rest
look_skipped : (key : Key) (made : Made) (rest : List Made) → is_update made.0 ≡ false →
    updates_in (about key (made ∷ rest)) ≡ updates_in (about key rest)
look_skipped key made rest looks =
    updates_more key made rest ∙ ap (λ l. l ++ updates_in (about key rest)) (one_look key made looks)

-- a lookup that comes next is set in behind the calls of its key that stand in front
pass_look : (front rest before behind : List Made) (made : Made) → is_update made.0 ≡ false →
    HasSetIn front (made ∷ rest) (before ++ behind) →
    about (key_in made.0) before ≡ about (key_in made.0) front →
    about (key_in made.0) behind ≡ updates_in (about (key_in made.0) (made ∷ rest)) →
    HasSetIn (front ++ made ∷ []) rest (before ++ made ∷ behind)
pass_look front rest before behind made looks far fronts backs key = elim (cases_Bool (is_about key made)) [
  | inl own ↦
      let is : key_in made.0 ≡ key = sym (about_is key made own) in
      let fronts_here = subst (λ k. about k before ≡ about k front) is fronts in
      let backs_here = subst (λ k. about k behind ≡ updates_in (about k (made ∷ rest))) is backs in
      about-append key before (made ∷ behind) ∙ ap (λ l. l ++ about key (made ∷ behind)) fronts_here
      ∙ ap (λ l. about key front ++ l) (about-append key (made ∷ []) behind)
      ∙ ap (λ l. about key front ++ (about key (made ∷ []) ++ l)) (backs_here ∙ look_skipped key made rest looks)
      ∙ joined key
  | inr other ↦
      about-append key before (made ∷ behind)
      ∙ ap (λ l. about key before ++ l) (filter_dropped (is_about key) made behind other)
      ∙ sym (about-append key before behind) ∙ far key
      ∙ ap (λ l. about key front ++ l) (look_skipped key made rest looks)
      ∙ ap (λ l. about key front ++ (l ++ updates_in (about key rest)))
      (sym (filter_dropped (is_about key) made [] other))
      ∙ joined key
]
  where
    joined : (k : Key) → about k front ++ (about k (made ∷ []) ++ updates_in (about k rest))
        ≡ about k (front ++ made ∷ []) ++ updates_in (about k rest)
    joined k = sym (append_assoc (about k front) (about k (made ∷ [])) (updates_in (about k rest)))
        ∙ ap (λ l. l ++ updates_in (about k rest)) (sym (about-append k front (made ∷ [])))

module _ (rules : Rules) (m : Sessions) where
  -- a lookup that tells what is held where it is set in keeps the order legal, and what it leaves
  legal_with : (before behind : List Made) (made : Made) → is_update made.0 ≡ false →
      made.1 ≡ option_map_or found_in (get (after_made rules m before) (key_in made.0)) Absent →
      LegalMade rules m (before ++ behind) →
      LegalMade rules m (before ++ made ∷ behind)
      × (after_made rules m (before ++ made ∷ behind) ≡ after_made rules m (before ++ behind))
  legal_with before behind made looks tells legal =
      let parts = LegalMade-parts rules m before behind legal in
      let n : Sessions = after_made rules m before in
      let stays : map_after rules n made.0 ≡ n = look_leaves rules n made.0 looks in
      let later : LegalMade rules (map_after rules n made.0) behind =
      subst (λ s. LegalMade rules s behind) (sym stays) parts.1 in (
        LegalMade-append rules m before (made ∷ behind) parts.0 (tells ∙ sym (look_tells rules n made.0 looks), later),
        after_made-append rules m before (made ∷ behind) ∙ ap (λ s. after_made rules s behind) stays
            ∙ sym (after_made-append rules m before behind),
      )

  module _ (asked : List Made) (tell : LooksTell m asked) where
    -- a line with the lookups of a front set in, or of all calls
    record IsSetIn (front rest line longer : List Made) : Type 0 where
      has : HasSetIn front rest longer
      legal : LegalMade rules m longer
      leaves : after_made rules m longer ≡ after_made rules m line

    -- one lookup is set in
    look_in : (front rest line : List Made) (made : Made) → asked ≡ front ++ made ∷ rest → is_update made.0 ≡ false →
        LegalMade rules m line → HasSetIn front (made ∷ rest) line →
        (longer : List Made) × IsSetIn (front ++ made ∷ []) rest line longer
    look_in front rest line made is looks legal far =
        let key = key_in made.0 in
        let cut = filter_cut (is_about key) line (about key front) (updates_in (about key (made ∷ rest))) (far key) in
        let before = cut.0 in
        let behind = cut.1 in
        let legal_cut : LegalMade rules m (before ++ behind) = subst (LegalMade rules m) cut.2 legal in
        let parts = LegalMade-parts rules m before behind legal_cut in
        let held : get (after_made rules m before) key ≡ held_by (get m key) (about key front) =
        keys_held rules m before key parts.0 ∙ ap (held_by (get m key)) cut.3 in
        let stands : asked ≡ front ++ (Lookup key, made.1) ∷ rest =
        is ∙ ap (λ (call : Call). front ++ (call, made.1) ∷ rest) (look_is made.0 looks) in
        let tells = tell front rest key made.1 stands ∙ ap (λ o. option_map_or found_in o Absent) (sym held) in
        let both = legal_with before behind made looks tells legal_cut in (
          before ++ made ∷ behind,
          record {
            has = pass_look front rest before behind made looks (λ k. ap (about k) (sym cut.2) ∙ far k) cut.3 cut.4;
            legal = both.0;
            leaves = both.1 ∙ ap (after_made rules m) (sym cut.2);
          },
        )

    -- all lookups of the rest are set in
    looks_in : (rest front line : List Made) → asked ≡ front ++ rest → LegalMade rules m line →
        HasSetIn front rest line → (longer : List Made) × IsSetIn asked [] line longer
    looks_in [] front line is legal far =
        let whole : asked ≡ front = is ∙ append-nil front in
        (line, record { has = λ key. far key ∙ ap (λ l. about key l ++ []) (sym whole); legal = legal; leaves = refl })
    looks_in (made ∷ rest) front line is legal far =
        let further : asked ≡ (front ++ made ∷ []) ++ rest = is ∙ sym (append_assoc front (made ∷ []) rest) in
        elim (cases_Bool (is_update made.0)) [
          | inl updates ↦ looks_in rest (front ++ made ∷ []) line further legal
              (pass_update front rest line made updates far)
          | inr looks ↦
              let one = look_in front rest line made is looks legal far in
              let all = looks_in rest (front ++ made ∷ []) one.0 further one.1.legal one.1.has in
              (all.0, record { has = all.1.has; legal = all.1.legal; leaves = all.1.leaves ∙ one.1.leaves })
        ]

pub looks_can_be_set_in : LooksCanBeSetIn
looks_can_be_set_in rules m asked line legal has tell =
    let all = looks_in rules m asked tell asked [] line refl legal (λ key. sym (has key)) in
    let agree : AgreeByKey all.0 asked = λ key. all.1.has key ∙ append-nil (about key asked) in (
      all.0,
      record {
        agrees = agree;
        permuted = agreeing_permuted asked all.0 (λ key. sym (agree key));
        legal = all.1.legal;
        leaves = all.1.leaves;
      },
    )
