-- The calls of packets, one packet further.
use Rattle.std.proofs.Common.{◌≡◌, ◌<◌, ◌≤◌, ℕ, suc, ◌+◌, List, [], ◌∷◌, ◌++◌, length, Option, Some, None, IfSome, sym, ◌∙◌, ap, subst, refl, append_assoc, append-nil, length-append, arith}
use Rattle.std.specs.List.{All}
use Rattle.std.proofs.lemmas.List.Elements.{All-append, All-cons, All-head, All-nil, All-tail, All-weaker}
use Rattle.mode_parts.specs.declared.calling.Calling.{Calling}
use Rattle.plain_map.specs.Keys.{IsKey}
use Rattle.key_texts.specs.FlowText.{HasText}
use Rattle.plain_map.specs.Calls.{key_in}
use Rattle.plain_map.specs.Serving.{IsAskable}
use Rattle.plain_map.specs.declared.calls.Call.{Call}
use Rattle.mode_parts.specs.PacketCalls.{MakesCall, MakeCalls, numbered}
use Rattle.mode_parts.specs.Reading.{Ascending, AreBetween, IsBetween}

-- a further packet's call stands behind the others
pub MakeCalls-more :
    (calling : Calling) (n : ℕ) (packets : List (List ℕ)) (calls : List (ℕ × Call)) (packet : List ℕ) (k : ℕ)
    (made : Option Call) →
    k ≡ n + length packets → MakesCall calling k packet made → MakeCalls calling n packets calls →
    MakeCalls calling n (packets ++ packet ∷ []) (calls ++ numbered k made)
MakeCalls-more calling n [] calls packet k made place makes none =
    let same : k ≡ n = omega arith in (
      made,
      [],
      subst (λ (j : ℕ). MakesCall calling j packet made) same makes,
      refl,
      ap (λ (others : List (ℕ × Call)). others ++ numbered k made) none
          ∙ ap (λ (j : ℕ). numbered j made) same ∙ sym (append-nil (numbered n made)),
    )
MakeCalls-more calling n (first ∷ packets) calls packet k made place makes calls_made = (
  calls_made.0,
  calls_made.1 ++ numbered k made,
  calls_made.2,
  MakeCalls-more calling (suc n) packets calls_made.1 packet k made (omega arith) makes calls_made.3,
  ap (λ (others : List (ℕ × Call)). others ++ numbered k made) calls_made.4
      ∙ append_assoc (numbered n calls_made.0) calls_made.1 (numbered k made),
)

-- ---- calls in their order

-- a later call may stand behind
ascending_more : (calls : List (ℕ × Call)) (call : ℕ × Call) → Ascending calls →
    All (λ (other : ℕ × Call). other.0 < call.0) calls → Ascending (calls ++ call ∷ [])
ascending_more [] call up later = (All-nil _, tt)
ascending_more (one ∷ calls) call up later = (
  All-append (λ (other : ℕ × Call). one.0 < other.0) calls (call ∷ []) up.0
      (All-cons (λ (other : ℕ × Call). one.0 < other.0) call []
      (All-head (λ (other : ℕ × Call). other.0 < call.0) one calls later) (All-nil _)),
  ascending_more calls call up.1 (All-tail (λ (other : ℕ × Call). other.0 < call.0) one calls later),
)

wider : (first last further : ℕ) (call : ℕ × Call) → last ≤ further → IsBetween first last call →
    IsBetween first further call
wider first last further call more is =
    record { above = is.above; upto = omega (arith, is.upto); askable = is.askable; text = is.text; key = is.key }

-- the next packet's call stands behind the others, where it makes one
pub AreBetween-more :
    (first last number : ℕ) (calls : List (ℕ × Call)) (made : Option Call) → AreBetween first last calls →
    number ≡ last + 1 → IfSome made (λ (call : Call). IsAskable call × HasText (key_in call) × IsKey (key_in call)) →
    AreBetween first number (calls ++ numbered number made)
AreBetween-more first last number calls None are next fits =
    subst (AreBetween first number) (sym (append-nil calls))
    (record {
      ascend = are.ascend;
      each = All-weaker (IsBetween first last) (IsBetween first number)
          (λ (call : ℕ × Call) is. wider first last number call (omega (arith, next)) is) calls are.each;
      few = omega (arith, are.few);
    })
AreBetween-more first last number calls (Some call) are next fits =
    let asked : ℕ × Call = (number, call) in
    let here : IsBetween first number asked =
    record { above = omega (arith, are.few); upto = omega arith; askable = fits.0; text = fits.1; key = fits.2 } in
    record {
      ascend = ascending_more calls asked are.ascend
          (All-weaker (IsBetween first last) (λ (other : ℕ × Call). other.0 < number)
          (λ (other : ℕ × Call) is. omega (arith, is.upto, next)) calls are.each);
      each = All-append (IsBetween first number) calls (asked ∷ [])
          (All-weaker (IsBetween first last) (IsBetween first number)
          (λ (other : ℕ × Call) is. wider first last number other (omega (arith, next)) is) calls are.each)
          (All-cons (IsBetween first number) asked [] here (All-nil _));
      few = omega (arith, are.few, length-append calls (asked ∷ []));
    }
