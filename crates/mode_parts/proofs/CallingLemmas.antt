-- The numbers of a framing and a rule tell which they are.
use Rattle.std.proofs.Common.{◌≡◌, ℕ, List, [], ◌∷◌, ap, refl, arith}
use Rattle.packet_heads.specs.Links.{way_of}
use Rattle.packet_heads.proofs.WayLemmas.{same_way}
use Rattle.key_texts.specs.declared.rules.CallRule.{CallRule}
use Rattle.key_texts.specs.declared.rules.CallRule.TheVariants.{Sessions, Flows}
use Rattle.mode_parts.specs.declared.calling.Calling.{Calling}
use Rattle.mode_parts.specs.Callings.{calling_way, rule_number}

same_rule : (one other : CallRule) → rule_number one ≡ rule_number other → one ≡ other
same_rule Sessions Sessions same = refl
same_rule Sessions Flows same = absurd (omega (arith, same))
same_rule Flows Sessions same = absurd (omega (arith, same))
same_rule Flows Flows same = refl

first_or_none : List ℕ → ℕ
first_or_none [] = 0
first_or_none (x ∷ xs) = x

behind_first : List ℕ → List ℕ
behind_first [] = []
behind_first (x ∷ xs) = xs

pub same_calling : (one other : Calling) → calling_way one ≡ calling_way other → one ≡ other
unfolding first_or_none behind_first
same_calling one other same =
    let rules : rule_number one.calls ≡ rule_number other.calls = ap first_or_none same in
    let ways : way_of one.framing ≡ way_of other.framing = ap behind_first same in
    λ i. record {
      framing = same_way one.framing other.framing ways i;
      calls = same_rule one.calls other.calls rules i;
    }
