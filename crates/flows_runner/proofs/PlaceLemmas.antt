-- Where blocks stand does not depend on batches, where each ends at the next place at the latest.
use Rattle.std.proofs.Common.{◌≡◌, ◌<◌, ◌≤◌, ◌+◌, ◌-◌, ◌*◌, ◌/◌, ◌%◌, ◌==◌, ◌&&◌, nat_lt, ℕ, zero, suc, Bool, true, false, List, [], ◌∷◌, ◌++◌, length, filter, Option, Some, None, inl, inr, refl, sym, ap, subst, ◌∙◌, append-nil, length-append, arith}
use Rattle.std.specs.List.{flat_map, range_with_len}
use Rattle.std.specs.Option.{ForSome}
use Rattle.std.proofs.Math.Nat.{mod-lt, mul-le-mul_left}
use Rattle.std.proofs.lemmas.Bool.{cases_lt}
use Rattle.std.proofs.lemmas.List.Elements.{filter-append}
use Rattle.capture_faults.specs.declared.ending.Ending.{Ending}
use Rattle.capture_loop.specs.declared.portions.Portions.{Portions}
use Rattle.capture_loop.specs.Batches.{AreBatchesBy, AreCut, AreWholeBy, at_most, cut_of}
use Rattle.capture_loop.specs.Leaves.{IsLoopFront, IsLoopReport, IsLoopTold}
use Rattle.capture_loop.proofs.LeavesLemmas.{cut_few}
use Rattle.flows_runner.specs.declared.asked.Asked.{Asked}
use Rattle.flows_runner.specs.Blocks.{IsBlockAt, ends_from, is_place, last_place, places, places_upto, places_within}
use Rattle.flows_runner.specs.Served.{AreServed, Served}
use Rattle.flows_runner.specs.Told.{AreBlocks, IsFlowsLines, IsFlowsReport, ReportsFlows, TellsFlows, packets_in}

-- ---- between two places

-- a multiple is not between a number and the next multiple behind it
between : (every before n : ℕ) → 0 < every → before < n → n < before + (every - before % every) → n % every ≡ 0 → ⊥
between every before n some more less whole = elim (cases_lt (before / every) (n / every)) [
  | inl next ↦
      let low = mod-lt before {m = every} some in
      let up : every * suc (before / every) ≤ every * (n / every) = mul-le-mul_left every (omega (arith, next)) in
      let grown : every * suc (before / every) ≡ every * (before / every) + every = omega arith in
      omega (arith, some, more, less, whole, low, up, grown)
  | inr same ↦
      let low = mod-lt before {m = every} some in
      let down : every * (n / every) ≤ every * (before / every) = mul-le-mul_left every (omega (arith, same)) in
      omega (arith, some, more, less, whole, low, down)
]

-- so no block stands there
no_place : (every : Option ℕ) (size before n : ℕ) → ForSome every (λ every. 0 < every) → before < n →
    n < before + at_most every size before → is_place every n ≡ false
no_place None size before n each more less = refl
no_place (Some every) size before n each more less = go (n % every == 0) refl
  where
    not_whole : n % every ≡ 0 → ⊥
    not_whole whole = between every before n (each every refl) more (omega (arith, less)) whole

    go : (b : Bool) → (n % every == 0) ≡ b → is_place (Some every) n ≡ false
    go true is = absurd (not_whole (grind (arith, is)))
    go false is = grind (arith, is)

-- numbers from one on
module _ (P : ℕ → Bool) where
  filter_none : (start many : ℕ) → ((n : ℕ) → start ≤ n → n < start + many → P n ≡ false) →
      filter P (range_with_len start many) ≡ []
  filter_none start zero none = refl
  filter_none start (suc many) none =
      rw (none start (omega arith) (omega arith))
      (filter_none (start + 1) many (λ n least less. none n (omega (arith, least)) (omega (arith, less))))

range_cut : (start one two : ℕ) →
    range_with_len start (one + two) ≡ range_with_len start one ++ range_with_len (start + one) two
range_cut start zero two =
    let none : zero + two ≡ two = omega arith in
    let here : start ≡ start + zero = omega arith in
    ap (range_with_len start) none ∙ ap (λ (n : ℕ). range_with_len n two) here
range_cut start (suc one) two =
    let next : suc one + two ≡ suc (one + two) = omega arith in
    let there : (start + 1) + one ≡ start + suc one = omega arith in
    ap (range_with_len start) next
    ∙ ap (λ (ns : List ℕ). start ∷ ns) (range_cut (start + 1) one two
    ∙ ap (λ (n : ℕ). range_with_len (start + 1) one ++ range_with_len n two) there)

-- ---- the places within one batch

-- Of the numbers behind `before` up to the end of a batch only its end can be a place.
place_at_end : (every : Option ℕ) (size before many : ℕ) → ForSome every (λ every. 0 < every) →
    suc many ≤ at_most every size before →
    filter (is_place every) (range_with_len (before + 1) (suc many))
    ≡ filter (is_place every) ((before + suc many) ∷ [])
place_at_end every size before many each few =
    let P : ℕ → Bool = is_place every in
    let split : suc many ≡ many + 1 = omega arith in
    let last : (before + 1) + many ≡ before + suc many = omega arith in
    ap (λ (n : ℕ). filter P (range_with_len (before + 1) n)) split
    ∙ ap (filter P) (range_cut (before + 1) many 1)
    ∙ filter-append P (range_with_len (before + 1) many) (range_with_len ((before + 1) + many) 1)
    ∙ ap (λ (ns : List ℕ). ns ++ filter P (((before + 1) + many) ∷ []))
    (filter_none P (before + 1) many
    (λ n least less. no_place every size before n each (omega (arith, least)) (omega (arith, less, few))))
    ∙ ap (λ (n : ℕ). filter P (n ∷ [])) last

-- ---- of all batches

-- none has more packets than there is room for
abbrev AreWithin : Portions → ℕ → List (List (List ℕ)) → Type 0
AreWithin portions before [] = Unit {0}
AreWithin portions before (batch ∷ batches) =
    (length batch ≤ cut_of portions before) × AreWithin portions (before + length batch) batches

module _ (portions : Portions) where
  within_cut : (before : ℕ) (batches : List (List (List ℕ))) → AreCut portions before batches →
      AreWithin portions before batches
  within_cut before [] cut = tt
  within_cut before (batch ∷ batches) cut =
      (cut_few portions before (length batch) cut.0, within_cut (before + length batch) batches cut.1)

  within_last : (before : ℕ) (front : List (List (List ℕ))) (last : List (List ℕ)) →
      AreWithin portions before front → length last ≤ cut_of portions (before + length (packets_in front)) →
      AreWithin portions before (front ++ last ∷ [])
  within_last before [] last within few =
      (subst (λ (n : ℕ). length last ≤ cut_of portions n) (omega arith) few, tt)
  within_last before (batch ∷ front) last within few =
      let sum = length-append batch (packets_in front) in (
        within.0,
        within_last (before + length batch) front last within.1
            (subst (λ (n : ℕ). length last ≤ cut_of portions n) (omega (arith, sum)) few),
      )

  module _ (each : ForSome portions.every (λ every. 0 < every)) where
    abbrev P : ℕ → Bool
    P = is_place portions.every

    -- the places behind batches are those within their packets
    places_are : (before : ℕ) (batches : List (List (List ℕ))) → AreWithin portions before batches →
        filter P (ends_from before batches) ≡ filter P (range_with_len (before + 1) (length (packets_in batches)))
    places_are before [] within = refl
    places_are before ([] ∷ batches) within =
        places_are before batches
        (subst (λ (n : ℕ). AreWithin portions n batches) (omega arith) within.1)
    places_are before ((packet ∷ packets) ∷ batches) within =
        let batch : List (List ℕ) = packet ∷ packets in
        let many : ℕ = length packets in
        let rest : ℕ = length (packets_in batches) in
        let long : length (batch ++ packets_in batches) ≡ suc many + rest =
        length-append batch (packets_in batches) in
        let next : (before + 1) + suc many ≡ (before + suc many) + 1 = omega arith in
        filter-append P ((before + suc many) ∷ []) (ends_from (before + suc many) batches)
        ∙ ap (λ (ns : List ℕ). ns ++ filter P (ends_from (before + suc many) batches))
        (sym (place_at_end portions.every portions.batch before many each within.0))
        ∙ ap (λ (ns : List ℕ). filter P (range_with_len (before + 1) (suc many)) ++ ns)
        (places_are (before + suc many) batches within.1
        ∙ ap (λ (n : ℕ). filter P (range_with_len n rest)) (sym next))
        ∙ sym (filter-append P (range_with_len (before + 1) (suc many)) (range_with_len ((before + 1) + suc many) rest))
        ∙ ap (filter P) (sym (range_cut (before + 1) (suc many) rest))
        ∙ ap (λ (n : ℕ). filter P (range_with_len (before + 1) n)) (sym long)

-- ---- lines and reports

module _ (asked : Asked) (portions : Portions) (each : ForSome asked.every (λ every. 0 < every))
    (same : portions.every ≡ asked.every) where
  places_same : (batches : List (List (List ℕ))) → AreWithin portions 0 batches →
      places_within asked.every batches ≡ places_upto asked.every (length (packets_in batches))
  places_same batches within =
      subst (λ (every : Option ℕ). places_within every batches ≡ places_upto every (length (packets_in batches))) same
      (places_are portions (subst (λ (every : Option ℕ). ForSome every (λ e. 0 < e)) (sym same) each) 0 batches within)

  tells_within : (batches : List (List (List ℕ))) (text : List ℕ) → AreWithin portions 0 batches →
      IsFlowsLines asked batches text → TellsFlows asked (packets_in batches) text
  tells_within batches text within (served, are, lines) = (
    served,
    are,
    record {
      blocks = lines.blocks;
      are = subst (λ (at : List ℕ). AreBlocks asked (packets_in batches) served at lines.blocks)
          (places_same batches within) lines.are;
      text_is = lines.text_is;
    },
  )

  reports_within : (batches : List (List (List ℕ))) (ending : Ending) (text : List ℕ) → AreWithin portions 0 batches →
      IsFlowsReport asked batches ending text → ReportsFlows asked (packets_in batches) ending text
  reports_within batches ending text within (served, are, report) = (
    served,
    are,
    record {
      blocks = report.blocks;
      are = subst (λ (at : List ℕ). AreBlocks asked (packets_in batches) served
          (at ++ last_place asked.every (length (packets_in batches))) report.blocks)
          (places_same batches within) report.are;
      text_is = report.text_is;
    },
  )

  -- the lines of batches are those of their packets
  within_all : (packets : List (List ℕ)) (batches : List (List (List ℕ))) → AreBatchesBy portions packets batches →
      AreWithin portions 0 batches
  within_all packets batches cut =
      subst (AreWithin portions 0) (sym cut.parts)
      (within_last portions 0 cut.front cut.last (within_cut portions 0 cut.front cut.whole)
      (subst (λ (n : ℕ). length cut.last ≤ cut_of portions n) (omega arith) cut.few))

  pub front_tells : (packets : List (List ℕ)) (text : List ℕ) →
      IsLoopFront portions (IsFlowsLines asked) packets text → TellsFlows asked packets text
  front_tells packets text (batches, whole, lines) =
      subst (λ (ps : List (List ℕ)). TellsFlows asked ps text) whole.parts
      (tells_within batches text (within_cut portions 0 batches whole.each) lines)

  pub told_tells : (packets : List (List ℕ)) (text : List ℕ) →
      IsLoopTold portions (IsFlowsLines asked) packets text → TellsFlows asked packets text
  told_tells packets text (batches, cut, lines) =
      subst (λ (ps : List (List ℕ)). TellsFlows asked ps text) cut.all
      (tells_within batches text (within_all packets batches cut) lines)

  pub report_reports : (packets : List (List ℕ)) (ending : Ending) (text : List ℕ) →
      IsLoopReport portions (IsFlowsReport asked) packets ending text → ReportsFlows asked packets ending text
  report_reports packets ending text (batches, cut, report) =
      subst (λ (ps : List (List ℕ)). ReportsFlows asked ps ending text) cut.all
      (reports_within batches ending text (within_all packets batches cut) report)
