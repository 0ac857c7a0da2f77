-- Packets of an order, read one behind the other.
use Rattle.std.proofs.Common.{◌≡◌, ℕ, suc, ◌+◌, ◌-◌, ◌<◌, codes, List, [], ◌∷◌, ◌++◌, Option, Some, None, refl, sym, ap, ◌∙◌, append_assoc, subst, arith}
use Rattle.line_fields.specs.Reading.{number_at, text_at}
use Rattle.report_lines.specs.Fields.{most_32, packets_behind}
use Rattle.report_lines.specs.Lines.{AddsOrder}

-- so many packets were read behind those before, and the others make the whole
pub record HasPackets (many : ℕ) (before packets rest : List ℕ) (whole : Option (List ℕ × List ℕ)) : Type 0 where
  pub front : List ℕ
  pub are : packets ≡ before ++ front
  pub goes_on : packets_behind (16 - many) front rest ≡ whole

one_packet : (many : ℕ) (front bytes rest left : List ℕ) (packet : ℕ) → text_at (codes " ") bytes ≡ Some rest →
    number_at most_32 rest ≡ Some (packet, left) →
    packets_behind (suc many) front bytes ≡ packets_behind many (front ++ packet ∷ []) left
unfolding packets_behind
one_packet many front bytes rest left packet space number = rw (space, number) refl

pub packets_more : (many packet : ℕ) (before packets bytes rest left : List ℕ) (whole : Option (List ℕ × List ℕ)) →
    many < 16 → HasPackets many before packets bytes whole → text_at (codes " ") bytes ≡ Some rest →
    number_at most_32 rest ≡ Some (packet, left) →
    HasPackets (many + 1) before (packets ++ packet ∷ []) left whole
packets_more many packet before packets bytes rest left whole below has space number =
    let more : 16 - many ≡ suc (16 - (many + 1)) = omega arith in
    record {
      front = has.front ++ packet ∷ [];
      are = ap (λ (p : List ℕ). p ++ packet ∷ []) has.are ∙ append_assoc before has.front (packet ∷ []);
      goes_on =
          sym (one_packet (16 - (many + 1)) has.front bytes rest left packet space number)
          ∙ ap (λ (n : ℕ). packets_behind n has.front bytes) (sym more) ∙ has.goes_on;
    }

no_space : (many : ℕ) (front bytes : List ℕ) → text_at (codes " ") bytes ≡ None →
    packets_behind (suc many) front bytes ≡ Some (front, bytes)
unfolding packets_behind
no_space many front bytes space = rw space refl

no_number : (many : ℕ) (front bytes rest : List ℕ) → text_at (codes " ") bytes ≡ Some rest →
    number_at most_32 rest ≡ None → packets_behind (suc many) front bytes ≡ None
unfolding packets_behind
no_number many front bytes rest space number = rw (space, number) refl

pub packets_no_space : (many : ℕ) (before packets bytes : List ℕ) (whole : Option (List ℕ × List ℕ)) → many < 16 →
    HasPackets many before packets bytes whole → text_at (codes " ") bytes ≡ None →
    AddsOrder whole before packets (Some bytes)
packets_no_space many before packets bytes whole below has space =
    let more : 16 - many ≡ suc (16 - (many + 1)) = omega arith in
    let is : Some (has.front, bytes) ≡ whole =
    sym (no_space (16 - (many + 1)) has.front bytes space)
    ∙ ap (λ (n : ℕ). packets_behind n has.front bytes) (sym more) ∙ has.goes_on in
    subst (λ (w : Option (List ℕ × List ℕ)). AddsOrder w before packets (Some bytes)) is (refl, has.are)

pub packets_no_number : (many : ℕ) (before packets bytes rest : List ℕ) (whole : Option (List ℕ × List ℕ)) →
    many < 16 → HasPackets many before packets bytes whole → text_at (codes " ") bytes ≡ Some rest →
    number_at most_32 rest ≡ None → AddsOrder whole before packets None
packets_no_number many before packets bytes rest whole below has space number =
    let more : 16 - many ≡ suc (16 - (many + 1)) = omega arith in
    let is : None ≡ whole =
    sym (no_number (16 - (many + 1)) has.front bytes rest space number)
    ∙ ap (λ (n : ℕ). packets_behind n has.front bytes) (sym more) ∙ has.goes_on in
    subst (λ (w : Option (List ℕ × List ℕ)). AddsOrder w before packets None) is refl

nothing_left : (front bytes : List ℕ) → packets_behind 0 front bytes ≡ Some (front, bytes)
unfolding packets_behind
nothing_left front bytes = refl

pub packets_whole : (many : ℕ) (before packets bytes : List ℕ) (whole : Option (List ℕ × List ℕ)) → many ≡ 16 →
    HasPackets many before packets bytes whole → AddsOrder whole before packets (Some bytes)
packets_whole many before packets bytes whole all has =
    let none : 16 - many ≡ 0 = omega arith in
    let is : Some (has.front, bytes) ≡ whole =
    sym (nothing_left has.front bytes) ∙ ap (λ (n : ℕ). packets_behind n has.front bytes) (sym none)
    ∙ has.goes_on in
    subst (λ (w : Option (List ℕ × List ℕ)). AddsOrder w before packets (Some bytes)) is (refl, has.are)
