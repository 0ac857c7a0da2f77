-- A batch more: its packets and calls stand behind those before it, and so do its blocks.
use Rattle.std.proofs.Common.{◌≡◌, ℕ, zero, suc, ◌+◌, ◌<◌, ◌≤◌, Bool, true, false, cond, List, [], ◌∷◌, ◌++◌, length, take, Option, Some, None, refl, sym, ap, ◌∙◌, subst, append_assoc, append-nil, length-append, arith}
use Rattle.std.specs.Prelude.{filter}
use Rattle.std.specs.List.{AllZip}
use Rattle.std.proofs.lemmas.Grind.{flat_map-append}
use Rattle.std.proofs.lemmas.List.Elements.{filter-append}
use Rattle.plain_map.specs.declared.calls.Call.{Call}
use Rattle.map_laws.specs.ByKey.{Made}
use Rattle.mode_parts.specs.declared.calling.Calling.{Calling}
use Rattle.mode_parts.specs.PacketCalls.{MakeCalls, numbered}
use Rattle.report_text.specs.Flows.{FlowsBlock}
use Rattle.flows_runner.specs.declared.asked.Asked.{Asked}
use Rattle.flows_runner.specs.Blocks.{IsBlockAt, ends_from, is_place, places_within}
use Rattle.flows_runner.specs.Served.{Served}
use Rattle.flows_runner.specs.Told.{AreBlocks, packets_in}

-- ---- packets and calls

-- the packets of a batch more
pub packets_more : (batches : List (List (List ℕ))) (packets : List (List ℕ)) →
    packets_in (batches ++ packets ∷ []) ≡ packets_in batches ++ packets
packets_more batches packets =
    flat_map-append (λ (batch : List (List ℕ)). batch) batches (packets ∷ [])
    ∙ ap (λ (last : List (List ℕ)). packets_in batches ++ last) (append-nil packets)

-- the calls of packets, and of those behind them
pub make_both : (calling : Calling) (n : ℕ) (packets more : List (List ℕ)) (calls others : List (ℕ × Call)) →
    MakeCalls calling n packets calls → MakeCalls calling (n + length packets) more others →
    MakeCalls calling n (packets ++ more) (calls ++ others)
make_both calling n [] more calls others none make =
    subst (MakeCalls calling n more) (ap (λ (l : List (ℕ × Call)). l ++ others) (sym none))
    (subst (λ (k : ℕ). MakeCalls calling k more others) (let e : n + 0 ≡ n = omega arith in e) make)
make_both calling n (packet ∷ packets) more calls others (made, rest, here, later, is) make = (
  made,
  rest ++ others,
  here,
  make_both calling (suc n) packets more rest others later
      (subst (λ (k : ℕ). MakeCalls calling k more others)
      (let e : n + suc (length packets) ≡ suc n + length packets = omega arith in e) make),
  ap (λ (l : List (ℕ × Call)). l ++ others) is ∙ append_assoc (numbered n made) rest others,
)

-- a packet makes one call or none
pub make_few : (calling : Calling) (n : ℕ) (packets : List (List ℕ)) (calls : List (ℕ × Call)) →
    MakeCalls calling n packets calls → length calls ≤ length packets
make_few calling n [] calls none = (let e = ap length none in omega (arith, e))
make_few calling n (packet ∷ packets) calls (made, rest, here, later, is) =
    let few = make_few calling (suc n) packets rest later in
    let all = ap length is ∙ length-append (numbered n made) rest in
    let one = one_or_none made in
    omega (arith, few, all, one)
  where
    one_or_none : (made : Option Call) → length (numbered n made) ≤ 1
    one_or_none None = omega arith
    one_or_none (Some call) = omega arith

-- ---- blocks

-- the first packets are the same with others behind them
take_front : {A : Type 0} (n : ℕ) (xs ys : List A) → n ≤ length xs → take n (xs ++ ys) ≡ take n xs
take_front zero xs ys few = refl
take_front (suc n) [] ys few = absurd (omega (arith, few))
take_front (suc n) (x ∷ xs) ys few = ap (λ (l : List _). x ∷ l) (take_front n xs ys (omega (arith, few)))

-- a block stays one with packets and calls behind its own
pub block_grows : (asked : Asked) (packets more : List (List ℕ)) (made later : List Made) (at : ℕ)
    (block : FlowsBlock) → IsBlockAt asked packets made at block →
    IsBlockAt asked (packets ++ more) (made ++ later) at block
block_grows asked packets more made later at block is = record {
  few = (let few = is.few in let all = length-append packets more in omega (arith, few, all));
  front = is.front;
  back = is.back ++ later;
  cut = ap (λ (l : List Made). l ++ later) is.cut ∙ append_assoc is.front is.back later;
  calls = is.calls;
  make = subst (λ (l : List (List ℕ)). MakeCalls asked.calling 1 l is.calls) (sym (take_front at packets more is.few))
      is.make;
  made_are = is.made_are;
  tells = is.tells;
}

-- so do all of them
pub blocks_grow : (asked : Asked) (packets more : List (List ℕ)) (made later : List Made) (places : List ℕ)
    (blocks : List FlowsBlock) → AllZip (IsBlockAt asked packets made) places blocks →
    AllZip (IsBlockAt asked (packets ++ more) (made ++ later)) places blocks
blocks_grow asked packets more made later [] [] are = tt
blocks_grow asked packets more made later [] (block ∷ blocks) are = absurd are
blocks_grow asked packets more made later (at ∷ places) [] are = absurd are
blocks_grow asked packets more made later (at ∷ places) (block ∷ blocks) are = (
  block_grows asked packets more made later at block are.0,
  blocks_grow asked packets more made later places blocks are.1,
)

-- and where a batch is added
pub blocks_go_on : (asked : Asked) (batches : List (List (List ℕ))) (packets : List (List ℕ)) (served now : Served)
    (later : List Made) (places : List ℕ) (blocks : List FlowsBlock) → now.made ≡ served.made ++ later →
    AreBlocks asked (packets_in batches) served places blocks →
    AreBlocks asked (packets_in (batches ++ packets ∷ [])) now places blocks
blocks_go_on asked batches packets served now later places blocks made_are are =
    subst (λ (all : List (List ℕ)). AllZip (IsBlockAt asked all now.made) places blocks)
    (sym (packets_more batches packets))
    (subst (λ (made : List Made). AllZip (IsBlockAt asked (packets_in batches ++ packets) made) places blocks)
    (sym made_are)
    (blocks_grow asked (packets_in batches) packets served.made later places blocks are))

-- ---- places

-- where a batch with these packets ends, if it has some
abbrev pub end_of : (before : ℕ) → List (List ℕ) → List ℕ
end_of before [] = []
end_of before (packet ∷ packets) = (before + length (packet ∷ packets)) ∷ []

-- the last batch ends behind all packets
ends_more : (before : ℕ) (batches : List (List (List ℕ))) (packets : List (List ℕ)) →
    ends_from before (batches ++ packets ∷ [])
    ≡ ends_from before batches ++ end_of (before + length (packets_in batches)) packets
ends_more before [] [] = refl
ends_more before [] (packet ∷ packets) =
    ap (λ (n : ℕ). (n + length (packet ∷ packets)) ∷ []) (let e : before ≡ before + 0 = omega arith in e)
ends_more before ([] ∷ batches) packets = ends_more before batches packets
ends_more before ((first ∷ others) ∷ batches) packets =
    let here : ℕ = before + length (first ∷ others) in
    let all = length-append (first ∷ others) (packets_in batches) in
    let same : here + length (packets_in batches) ≡ before + length ((first ∷ others) ++ packets_in batches) =
    omega (arith, all) in
    ap (λ (ends : List ℕ). here ∷ ends)
    (ends_more here batches packets
    ∙ ap (λ (n : ℕ). ends_from here batches ++ end_of n packets) same)

-- a block stands behind a batch if it has packets and a block is asked for there
abbrev pub place_behind : Option ℕ → (before : ℕ) → List (List ℕ) → List ℕ
place_behind every before packets = filter (is_place every) (end_of before packets)

-- the places within a batch more
pub places_more : (every : Option ℕ) (batches : List (List (List ℕ))) (packets : List (List ℕ)) →
    places_within every (batches ++ packets ∷ [])
    ≡ places_within every batches ++ place_behind every (length (packets_in batches)) packets
places_more every batches packets =
    ap (filter (is_place every)) (ends_more 0 batches packets
    ∙ ap (λ (n : ℕ). ends_from 0 batches ++ end_of n packets)
    (let e : 0 + length (packets_in batches) ≡ length (packets_in batches) = omega arith in e))
    ∙ filter-append (is_place every) (ends_from 0 batches) (end_of (length (packets_in batches)) packets)

-- that is none where the batch has no packets, or no block is asked for there
pub no_place : (every : Option ℕ) (before : ℕ) (packets : List (List ℕ)) →
    is_place every (before + length packets) ≡ false → place_behind every before packets ≡ []
no_place every before [] other = refl
no_place every before (packet ∷ packets) other =
    ap (λ (b : Bool). cond b ((before + length (packet ∷ packets)) ∷ []) []) other

pub no_packets : (every : Option ℕ) (before : ℕ) (packets : List (List ℕ)) → length packets ≡ 0 →
    place_behind every before packets ≡ []
no_packets every before [] none = refl
no_packets every before (packet ∷ packets) none = absurd (omega (arith, none))

-- and one behind its last packet otherwise
pub one_place : (every : Option ℕ) (before : ℕ) (packets : List (List ℕ)) → 0 < length packets →
    is_place every (before + length packets) ≡ true →
    place_behind every before packets ≡ (before + length packets) ∷ []
one_place every before [] some there = absurd (omega (arith, some))
one_place every before (packet ∷ packets) some there =
    ap (λ (b : Bool). cond b ((before + length (packet ∷ packets)) ∷ []) []) there
