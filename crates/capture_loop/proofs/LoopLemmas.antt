-- What the last lines, and a batch that could not be served or put, make of what a run leaves.
use Rattle.std.proofs.Common.{◌≡◌, ◌<◌, ◌≤◌, ◌⊎◌, ℕ, List, [], ◌∷◌, ◌++◌, length, Option, Some, None, MatchOption, IfNone, IfOk, Result, Ok, Err, inl, inr, refl, sym, ap, subst, ◌∙◌, append_assoc, length-append, take, drop, arith}
use Rattle.std.specs.List.{AllZip, flat_map}
use Rattle.std.specs.Option.{ForSome}
use Rattle.std.proofs.Math.Nat.{mod-lt}
use Rattle.std.proofs.lemmas.List.Elements.{length_all_zip}
use Rattle.list_laws.proofs.Cuts.{whole_slice}
use Rattle.std.specs.Io.KnownBytes.{Appends}
use Rattle.std.proofs.KnownBytes.{Appends-trans}
use Rattle.edge_traits.specs.Edge.{AppendsFront}
use Rattle.edge_traits.proofs.EdgeLemmas.{AppendsFront-longer}
use Rattle.capture_faults.specs.declared.ending.Ending.{Ending}
use Rattle.capture_loop.specs.declared.stop.Stop.{Stop}
use Rattle.capture_loop.specs.declared.stop.Stop.TheVariants.{Memory, NotPut}
use Rattle.capture_faults.specs.declared.ending.Ending.TheVariants.{Done, ReadFault, Limit, Fault}
use Rattle.capture_loop.specs.Endings.{HasFailed, OnLimit}
use Rattle.capture_loop.specs.declared.portions.Portions.{Portions}
use Rattle.capture_loop.specs.Reading.{HaveEnded}
use Rattle.capture_loop.specs.Batches.{AreBatchesBy, AreWholeBy, at_most, cut_of}
use Rattle.capture_loop.specs.Leaves.{IsMet, LoopLeavesBy, Lines, Marks, Reports}
use Rattle.capture_loop.specs.Looping.{HasPut, OnNotPut, Stands}
use Rattle.capture_loop.proofs.LeavesLemmas.{AreBatches-last, AreBatches-whole, AreWhole-none, fits_some, HaveFirst-none, HasPut-cut, HasPut-kept, leaves_before, leaves_front, leaves_less, leaves_whole}

-- all that is held is put, with more behind it
Appends-more : (before mid after : Option (List ℕ)) (held text more : List ℕ) → HasPut before mid held text →
    Appends mid after (held ++ more) → Appends before after (text ++ more)
Appends-more before mid after held text more put appended =
    subst (Appends before after)
    (sym (append_assoc put.done held more) ∙ ap (λ (t : List ℕ). t ++ more) put.parts)
    (Appends-trans before mid after put.done (held ++ more) put.put appended)

-- no batch is whole where there are no packets
pub none_whole : (portions : Portions) (all : List (List ℕ)) (batches : List (List (List ℕ))) →
    0 < cut_of portions 0 → AreWholeBy portions all batches → length all ≡ 0 → batches ≡ []
none_whole portions all [] some whole none = refl
none_whole portions all (batch ∷ batches) some whole none =
    let each : 0 < length batch =
    fits_some portions.eager (cut_of portions 0) (length batch) some whole.each.0 in
    let sum = length-append batch (flat_map (λ (b : List (List ℕ)). b) batches) in
    absurd (omega (arith, none, ap length whole.parts, sum, each))

no_packets : (last : List (List ℕ)) → last ≡ [] → length last ≡ 0
no_packets last none = ap length none

module _ (portions : Portions) (lines : Lines) (report : Reports) (can_end : Ending → Type 0) (link : ℕ)
    (first left before : Option (List ℕ))
    (all : List (List ℕ)) (batches : List (List (List ℕ))) (ending : Ending)
    (ended : HaveEnded portions.limit link first left all ending) (cut : AreBatchesBy portions all batches)
    (met : IsMet can_end ending) where
  -- the last lines could not be made
  pub end_memory : (now : Option (List ℕ)) (held done : List ℕ) → HasPut before now held done → lines batches done →
      LoopLeavesBy portions lines report can_end link first left before now (Err Memory)
  end_memory now held done put is =
      leaves_less portions lines report can_end link first left before now all batches ending done ended cut met is
      (HasPut-kept before now held done put)

  -- or not be put
  pub end_front : (mid after : Option (List ℕ)) (held done rest text : List ℕ) → HasPut before mid held done →
      text ≡ held ++ rest → report batches ending (done ++ rest) → AppendsFront mid after text →
      LoopLeavesBy portions lines report can_end link first left before after (Err NotPut)
  end_front mid after held done rest text put is reported front =
      leaves_front portions lines report can_end link first left before after all batches ending (done ++ rest) ended
      cut met
      reported (HasPut-cut before mid after held done rest put (subst (AppendsFront mid after) is front))

  pub end_whole : (mid after : Option (List ℕ)) (held done rest text : List ℕ) → HasPut before mid held done →
      text ≡ held ++ rest → report batches ending (done ++ rest) → Appends mid after text →
      LoopLeavesBy portions lines report can_end link first left before after (Ok ending)
  end_whole mid after held done rest text put is reported appended =
      leaves_whole portions lines report can_end link first left before after all batches ending (done ++ rest) ended
      cut met
      reported (Appends-more before mid after held done rest put (subst (Appends mid after) is appended))

  -- the lines of the last batch could not be put
  pub last_front : (after : Option (List ℕ)) (done : List ℕ) →
      ((rest : List ℕ) × report batches ending (done ++ rest)) → AppendsFront before after done →
      LoopLeavesBy portions lines report can_end link first left before after (Err NotPut)
  last_front after done more front =
      leaves_front portions lines report can_end link first left before after all batches ending (done ++ more.0)
      ended cut
      met
      more.1 (AppendsFront-longer before after done more.0 front)

-- a last batch is begun where there are packets of it, or none at all
pub last_cut : (portions : Portions) (served : List (List (List ℕ)) → List ℕ → Type 0) (link : ℕ)
    (first : Option (List ℕ)) (many packets : ℕ) (all last : List (List ℕ)) (before now : Option (List ℕ))
    (held : List ℕ) → (stands : Stands portions served link first many all before now held) →
    length last ≡ packets → 0 < cut_of portions 0 → packets ≤ cut_of portions many → (packets ≡ 0 → many ≡ 0) →
    AreBatchesBy portions (all ++ last) (stands.batches ++ last ∷ [])
last_cut portions served link first many packets all last before now held stands count some few begun =
    AreBatches-last portions all last stands.batches stands.whole
    (subst (λ (n : ℕ). length last ≤ cut_of portions n) (sym stands.count) (subst (λ (n : ℕ). n ≤ cut_of portions many)
    (sym count) few))
    (λ none. none_whole portions all stands.batches some stands.whole
    (stands.count ∙ begun (sym count ∙ no_packets last none)))

-- a run without packets has a batch all the same, and one with whole batches has them
pub whole_cut : (portions : Portions) (all : List (List ℕ)) (batches : List (List (List ℕ))) →
    AreWholeBy portions all batches → ((before : ℕ) → 0 < cut_of portions before) → (length all ≡ 0 → ⊥) →
    AreBatchesBy portions all batches
whole_cut portions all batches whole large some = choose (AreBatches-whole portions all batches whole large)
  where
    choose : (length all ≡ 0) ⊎ AreBatchesBy portions all batches → AreBatchesBy portions all batches
    choose (inl none) = absurd (some none)
    choose (inr parts) = parts

-- a batch has packets, wherever it begins
pub cut_some : (portions : Portions) → 0 < portions.batch → ForSome portions.every (λ every. 0 < every) →
    (before : ℕ) → 0 < cut_of portions before
cut_some portions some every before = go portions.every every
  where
    go : (choice : Option ℕ) → ForSome choice (λ every. 0 < every) → 0 < at_most choice portions.batch before
    go None each = some
    go (Some every) each =
        let low = mod-lt before {m = every} (each every refl) in
        omega (arith, some, low)

-- the last batch could not be served
pub last_memory : (portions : Portions) (lines : Lines) (report : Reports) (can_end : Ending → Type 0)
    (served : List (List (List ℕ)) → List ℕ → Type 0) (link : ℕ) (first left : Option (List ℕ)) (many : ℕ)
    (all : List (List ℕ))
    (before now : Option (List ℕ)) (held : List ℕ) →
    (stands : Stands portions served link first many all before now held) →
    lines stands.batches stands.text → LoopLeavesBy portions lines report can_end link first left before now
    (Err Memory)
last_memory portions lines report can_end served link first left many all before now held stands is =
    leaves_before portions lines report can_end link first left before now all stands.batches stands.text stands.firsts
    stands.whole is (HasPut-kept before now held stands.text stands.put)

-- ---- a choice

-- what it holds, where it is known
pub at_some : {X : Type 0} (N : Type 0) (S : X → Type 0) (choice : Option X) (x : X) → choice ≡ Some x →
    MatchOption choice N S → S x
at_some N S choice x is held = subst (λ (o : Option _). MatchOption o N S) is held

pub at_none : {X : Type 0} (N : Type 0) (S : X → Type 0) (choice : Option X) → choice ≡ None →
    MatchOption choice N S → N
at_none N S choice is held = subst (λ (o : Option _). MatchOption o N S) is held

pub if_none : {X : Type 0} {P : Type 0} (choice : Option X) → choice ≡ None → IfNone choice P → P
if_none {X} {P} choice is held = subst (λ (o : Option X). IfNone o P) is held

-- what holds anyway holds where a write failed
pub OnNotPut-any : {T : Type 0} {P : Type 0} (result : Result T Stop) → P → OnNotPut result P
OnNotPut-any (Ok done) p = tt
OnNotPut-any (Err Memory) p = tt
OnNotPut-any (Err NotPut) p = p

-- before any batch the head line is held
pub at_start : (portions : Portions) (served : List (List (List ℕ)) → List ℕ → Type 0) (link : ℕ)
    (first before now : Option (List ℕ))
    (held : List ℕ) → served [] held → HasPut before now held held →
    Stands portions served link first 0 [] before now held
at_start portions served link first before now held done put =
    record {
      batches = [];
      text = held;
      count = refl;
      firsts = HaveFirst-none portions.limit link first;
      whole = AreWhole-none portions;
      done = done;
      put = put;
    }

-- no read has failed where the input goes on
pub none_failed : (ending : Option Ending) (before after : ℕ) → ending ≡ None → HasFailed ending before after →
    after ≡ before
none_failed ending before after is = subst (λ (o : Option Ending). HasFailed o before after) is

-- ---- a packet too many

-- an answer is the ending that was met
pub limit_same : (answer : Result Ending Stop) (ending : Ending) (P : Type 0) → IfOk answer (λ is. is ≡ ending) →
    OnLimit ending P → IfOk answer (λ is. OnLimit is P)
limit_same (Ok is) ending P same limit = subst (λ (e : Ending). OnLimit e P) (sym same) limit
limit_same (Err stop) ending P same limit = tt

-- where the packet starts that was noted
pub Marks-at : (answer : Result Ending Stop) (old mid new : Option ℕ) (start now : ℕ) (P : ℕ → Type 0) → mid ≡ old →
    start ≡ now → Marks answer mid new (λ place. place ≡ start) → IfOk answer (λ is. OnLimit is (P now)) →
    Marks answer old new P
Marks-at (Ok (Limit limit)) old mid new start now P kept is marks at =
    (marks.0, marks.1, subst P (sym (marks.2 ∙ is)) at)
Marks-at (Ok (Done rest)) old mid new start now P kept is marks at = marks ∙ kept
Marks-at (Ok ReadFault) old mid new start now P kept is marks at = marks ∙ kept
Marks-at (Ok (Fault found)) old mid new start now P kept is marks at = marks ∙ kept
Marks-at (Err stop) old mid new start now P kept is marks at = marks ∙ kept

-- none was noted, and none is
pub Marks-none : (answer : Result Ending Stop) (ending : Ending) (old : Option ℕ) (P : ℕ → Type 0) →
    IfOk answer (λ is. is ≡ ending) → OnLimit ending ⊥ → Marks answer old old P
Marks-none (Ok (Limit limit)) ending old P same none = absurd (subst (λ (e : Ending). OnLimit e ⊥) (sym same) none)
Marks-none (Ok (Done rest)) ending old P same none = refl
Marks-none (Ok ReadFault) ending old P same none = refl
Marks-none (Ok (Fault found)) ending old P same none = refl
Marks-none (Err stop) ending old P same none = refl

-- ---- workers

-- what holds of workers in a slice, and of those that it leaves, holds of those in the whole
pub all_zip_slice : {A : Type 0} (R : A → A → Type 0) (slice ws vs : List A) (n : ℕ) → slice ≡ ws → n ≡ length ws →
    AllZip R slice vs → AllZip R ws (take n (vs ++ drop (length vs) ws))
all_zip_slice {A} R slice ws vs n same is zip =
    let zip_there : AllZip R ws vs = subst (λ (us : List A). AllZip R us vs) same zip in
    subst (AllZip R ws) (sym (whole_slice ws vs n is (sym (length_all_zip R ws vs zip_there)))) zip_there
