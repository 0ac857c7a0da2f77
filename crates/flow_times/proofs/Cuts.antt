-- The packets of a key are cut into flows in one way.
use Rattle.std.proofs.Common.{◌≡◌, List, [], ◌∷◌, ◌++◌, refl, sym, ap, subst}
use Rattle.std.specs.Prelude.{flat_map}
use Rattle.flow_times.specs.Flows.{Times, Use, Flow, Belongs, begun, grown}
use Rattle.flow_times.specs.Cuts.{AllBelong, flow_with, HasEnded, AreFlows, CutInOneWay}

-- all packets of these groups
abbrev joined : List (List Use) → List Use
joined groups = flat_map (λ group. group) groups

-- of two lists that are one the first elements are one, and so are the others
cons_same : {A : Type 0} (x y : A) (xs ys : List A) → x ∷ xs ≡ y ∷ ys → (x ≡ y) × (xs ≡ ys)
cons_same x y xs ys is = (cc, cc)

none_is_more : {A : Type 0} (x : A) (xs : List A) → [] ≡ x ∷ xs → ⊥
none_is_more x xs e = absurd cc

-- a packet is put to the first group of two lists of groups that are one
more_same : (x y : Use) (xs ys : List Use) (groups others : List (List Use)) → x ≡ y → xs ∷ groups ≡ ys ∷ others →
    (x ∷ xs) ∷ groups ≡ (y ∷ ys) ∷ others
more_same x y xs ys groups others e f = cc

-- the packet behind a flow does not belong to it, so the flow has no more packets
cut_before : (times : Times) (flow : Flow) (groups : List (List Use)) (y : Use) (ys others : List Use) →
    HasEnded times flow groups → AllBelong times flow (y ∷ ys) → AreFlows times groups → joined groups ≡ y ∷ others →
    ⊥
cut_before times flow [] y ys others ended belong are e = none_is_more y others e
cut_before times flow ([] ∷ groups) y ys others ended belong are e = are
cut_before times flow ((x ∷ xs) ∷ groups) y ys others ended belong are e =
    ended (subst (Belongs times flow) (sym (cons_same x y _ _ e).0) belong.0)

module _ (times : Times) (groups : List (List Use))
    (alike : (others : List (List Use)) → AreFlows times groups → AreFlows times others →
    joined groups ≡ joined others →
    groups ≡ others)
    (are : AreFlows times groups) where
  -- two flows that begin alike, with what stands behind them, are one
  one_flow : (flow : Flow) (xs ys : List Use) (others : List (List Use)) →
      AllBelong times flow xs → AllBelong times flow ys → HasEnded times (flow_with flow xs) groups →
      HasEnded times (flow_with flow ys) others → AreFlows times others → xs ++ joined groups ≡ ys ++ joined others →
      xs ∷ groups ≡ ys ∷ others
  one_flow flow [] [] others b c ended other_ended other_are e =
      ap (λ (rest : List (List Use)). [] ∷ rest) (alike others are other_are e)
  one_flow flow [] (y ∷ ys) others b c ended other_ended other_are e =
      absurd (cut_before times flow groups y ys (ys ++ joined others) ended c are e)
  one_flow flow (x ∷ xs) [] others b c ended other_ended other_are e =
      absurd (cut_before times flow others x xs (xs ++ joined groups) other_ended b other_are (sym e))
  one_flow flow (x ∷ xs) (y ∷ ys) others b c ended other_ended other_are e =
      let same = cons_same x y _ _ e in
      let back : y ≡ x = sym same.0 in
      more_same x y xs ys groups others same.0
      (one_flow (grown flow x) xs ys others b.1
      (subst (λ (u : Use). AllBelong times (grown flow u) ys) back c.1) ended
      (subst (λ (u : Use). HasEnded times (flow_with (grown flow u) ys) others) back other_ended) other_are same.1)

pub cut_in_one_way : CutInOneWay
cut_in_one_way times [] [] are other_are e = refl
cut_in_one_way times [] ([] ∷ others) are other_are e = absurd other_are
cut_in_one_way times [] ((y ∷ ys) ∷ others) are other_are e = absurd (none_is_more y _ e)
cut_in_one_way times ([] ∷ groups) others are other_are e = absurd are
cut_in_one_way times ((x ∷ xs) ∷ groups) [] are other_are e = absurd (none_is_more x _ (sym e))
cut_in_one_way times ((x ∷ xs) ∷ groups) ([] ∷ others) are other_are e = absurd other_are
cut_in_one_way times ((x ∷ xs) ∷ groups) ((y ∷ ys) ∷ others) are other_are e =
    let same = cons_same x y _ _ e in
    let back : y ≡ x = sym same.0 in
    more_same x y xs ys groups others same.0
    (one_flow times groups (cut_in_one_way times groups) are.2 (begun x) xs ys others are.0
    (subst (λ (u : Use). AllBelong times (begun u) ys) back other_are.0) are.1
    (subst (λ (u : Use). HasEnded times (flow_with (begun u) ys) others) back other_are.1) other_are.2 same.1)
