-- A pile of calls: one more packet, and none dealt.
use Rattle.std.proofs.Common.{◌≡◌, ◌≤◌, ℕ, ◌+◌, List, [], ◌∷◌, ◌++◌, length, Option, Some, None, Result, Ok, Err, sym, subst, refl, length-append, arith}
use Rattle.std.specs.Prelude.{false}
use Rattle.std.specs.Option.{ForSome, is_some}
use Rattle.std.specs.Result.{OnOk}
use Rattle.mode_parts.specs.declared.calling.Calling.{Calling}
use Rattle.batch_deals.specs.declared.dealing.Dealt.{Dealt}
use Rattle.batch_deals.specs.Dealt.{IsDealt}
use Rattle.mode_parts.specs.declared.pile.CallPile.{CallPile}
use Rattle.mode_parts.specs.PacketCalls.{MakeCalls}
use Rattle.mode_parts.specs.Reading.{AreBetween, TakesCall}
use Rattle.mode_parts.specs.Piles.{HoldsCalls}
use Rattle.mode_parts.proofs.CallLemmas.{MakeCalls-more}

-- the next packet was taken
pub holds_more : (old new : CallPile) (before : ℕ) (packets : List (List ℕ)) (packet : List ℕ) (number : ℕ) →
    HoldsCalls old before packets → number ≡ before + length packets + 1 → length packets + 1 ≤ 65536 →
    TakesCall old.calling number packet old.calls.items new.calls.items →
    ((first last : ℕ) → AreBetween first last old.calls.items → number ≡ last + 1 →
    AreBetween first number new.calls.items) →
    new.packets ≡ old.packets + 1 → new.calling ≡ old.calling →
    ForSome new.dealt (IsDealt new.service new.calls.items) →
    HoldsCalls new before (packets ++ packet ∷ [])
holds_more old new before packets packet number holds at few takes between count framed none =
    let size : length (packets ++ packet ∷ []) ≡ length packets + 1 = length-append packets (packet ∷ []) in
    let last : number ≡ before + length (packets ++ packet ∷ []) = omega (arith, at, size) in
    record {
      count = omega (arith, count, holds.count, size);
      few = omega (arith, few, size);
      make = subst (λ (f : Calling). MakeCalls f (before + 1) (packets ++ packet ∷ []) new.calls.items) (sym framed)
          (subst (MakeCalls old.calling (before + 1) (packets ++ packet ∷ [])) (sym takes.2)
          (MakeCalls-more old.calling (before + 1) packets old.calls.items packet number takes.0 (omega (arith, at))
          takes.1 holds.make));
      between = subst (λ (n : ℕ). AreBetween before n new.calls.items) last
          (between before (before + length packets) holds.between at);
      dealt = none;
    }

-- what follows from what holds where a call succeeds
pub OnOk-weaker : {T E : Type 0} {P Q : Type 0} (result : Result T E) → (P → Q) → OnOk result P → OnOk result Q
OnOk-weaker (Ok x) make p = make p
OnOk-weaker (Err e) make p = tt

-- these packets are held, and not dealt
abbrev pub HoldsUndealt : CallPile → ℕ → List (List ℕ) → Type 0
HoldsUndealt pile before packets = HoldsCalls pile before packets × (pile.dealt ≡ None)

-- what holds of a dealt batch holds where there is none
pub none_dealt : {X : Type 0} (P : X → Type 0) (dealt : Option X) → dealt ≡ None → ForSome dealt P
none_dealt P dealt none = λ x is. absurd (cc)

-- a dealt batch was given up
pub given_up : (pile : CallPile) (before : ℕ) (packets : List (List ℕ)) → HoldsCalls pile before packets →
    HoldsUndealt (record {
      alloc = pile.alloc;
      service = pile.service;
      calling = pile.calling;
      packets = pile.packets;
      calls = pile.calls;
      dealt = None;
    }) before packets
given_up pile before packets holds = (
  record {
    count = holds.count;
    few = holds.few;
    make = holds.make;
    between = holds.between;
    dealt = none_dealt _ None refl;
  },
  refl,
)

-- there was none
pub none_there : (dealt : Option Dealt) → is_some dealt ≡ false → dealt ≡ None
none_there None without = refl
none_there (Some deal) without = absurd (cc)
