-- What is read as a key is a key's text, and each key's text is read so.
use Rattle.std.proofs.Common.{◌≡◌, ◌⊎◌, inl, inr, ℕ, ◌+◌, ◌*◌, ◌^◌, ◌<◌, ◌≤◌, ◌==◌, ◌&&◌, ◌||◌, Bool, true, false, not, nat_lt, nat_le, codes, List, ◌∷◌, ◌++◌, Option, Some, None, refl, sym, ap, ◌∙◌, append_assoc, subst, arith}
use Rattle.std.proofs.lemmas.Bool.{true≢false, eq-eqb, and_parts}
use Rattle.std.proofs.lemmas.Option.{some_pair_parts, cond_some}
use Rattle.plain_map.specs.declared.keys.Key.{Key}
use Rattle.line_fields.specs.Reading.{HasNoDigit, text_at}
use Rattle.line_fields.proofs.TextLemmas.{text_takes}
use Rattle.key_texts.specs.FlowText.{endpoint_text, protocol_text, flow_text, low_port, high_port, protocol_in, is_ipv6}
use Rattle.flow_reading.specs.declared.ends.End.{End}
use Rattle.flow_reading.specs.Flows.{end_at, protocol_at, other_at, flow_at, IsFlow, in_order, key_of_ends}
use Rattle.line_fields.proofs.BindLemmas.{bind_some, text_then}
use Rattle.flow_reading.proofs.EndLaws.{AreWords, IsEndAt, bit_of, end_of, end_again, end_takes}

-- A protocol.

protocol_again : (p : ℕ) (rest : List ℕ) → (p ≡ 6) ⊎ (p ≡ 17) → protocol_at (protocol_text p ++ rest) ≡ Some (p, rest)
unfolding protocol_at
protocol_again p rest (inl six) =
    let P : ℕ → Type 0 = λ n. protocol_at (protocol_text n ++ rest) ≡ Some (n, rest) in subst P (sym six) refl
protocol_again p rest (inr udp) =
    let P : ℕ → Type 0 = λ n. protocol_at (protocol_text n ++ rest) ≡ Some (n, rest) in subst P (sym udp) refl

protocol_ends : (p : ℕ) (rest : List ℕ) → (p ≡ 6) ⊎ (p ≡ 17) → HasNoDigit (protocol_text p ++ rest)
protocol_ends p rest (inl six) =
    let P : ℕ → Type 0 = λ n. HasNoDigit (protocol_text n ++ rest) in subst P (sym six) refl
protocol_ends p rest (inr udp) =
    let P : ℕ → Type 0 = λ n. HasNoDigit (protocol_text n ++ rest) in subst P (sym udp) refl

-- the name of a protocol stands there
record IsProtocolAt (bytes : List ℕ) (p : ℕ) (rest : List ℕ) : Type 0 where
  known : (p ≡ 6) ⊎ (p ≡ 17)
  text : bytes ≡ protocol_text p ++ rest

protocol_takes : (bytes : List ℕ) (p : ℕ) (rest : List ℕ) → protocol_at bytes ≡ Some (p, rest) →
    IsProtocolAt bytes p rest
unfolding protocol_at
protocol_takes bytes p rest is = go (text_at (codes "/tcp") bytes) refl is
  where
    go : (o : Option (List ℕ)) → text_at (codes "/tcp") bytes ≡ o → other_at o bytes ≡ Some (p, rest) →
        IsProtocolAt bytes p rest
    go (Some left) there read =
        let parts : (6 ≡ p) × (left ≡ rest) = some_pair_parts 6 p left rest read in
        record {
          known = inl (sym parts.0);
          text =
              text_takes (codes "/tcp") bytes left there
              ∙ ap (λ (r : List ℕ). protocol_text 6 ++ r) parts.1
              ∙ ap (λ (n : ℕ). protocol_text n ++ rest) parts.0;
        }
    go None there read =
        let s = text_then (codes "/udp") bytes _ (p, rest) read in
        let parts : (17 ≡ p) × (s.left ≡ rest) = some_pair_parts 17 p s.left rest s.then in
        record {
          known = inr (sym parts.0);
          text =
              s.at
              ∙ ap (λ (r : List ℕ). protocol_text 17 ++ r) parts.1
              ∙ ap (λ (n : ℕ). protocol_text n ++ rest) parts.0;
        }

-- The order of two ends.

-- by address, and then by port
abbrev IsLower : (u1 l1 p1 u2 l2 p2 : ℕ) → Type 0
IsLower u1 l1 p1 u2 l2 p2 =
    (u1 * 2 ^ 64 + l1 < u2 * 2 ^ 64 + l2) ⊎ ((u1 * 2 ^ 64 + l1 ≡ u2 * 2 ^ 64 + l2) × (p1 ≤ p2))

-- the same by both words of the addresses
abbrev lower_by : (u1 l1 p1 u2 l2 p2 : ℕ) → Bool
lower_by u1 l1 p1 u2 l2 p2 =
    nat_lt u1 u2 || (u1 == u2 && (nat_lt l1 l2 || (l1 == l2 && nat_le p1 p2)))

is_lower : (u1 l1 p1 u2 l2 p2 : ℕ) → l1 < 2 ^ 64 → l2 < 2 ^ 64 → IsLower u1 l1 p1 u2 l2 p2 →
    lower_by u1 l1 p1 u2 l2 p2 ≡ true
is_lower u1 l1 p1 u2 l2 p2 f1 f2 (inl less) = grind arith
is_lower u1 l1 p1 u2 l2 p2 f1 f2 (inr (same, less)) =
    let upper : u1 ≡ u2 = omega arith in
    let lower : l1 ≡ l2 = omega arith in
    grind arith

lower_is : (u1 l1 p1 u2 l2 p2 : ℕ) → l1 < 2 ^ 64 → l2 < 2 ^ 64 → lower_by u1 l1 p1 u2 l2 p2 ≡ true →
    IsLower u1 l1 p1 u2 l2 p2
lower_is u1 l1 p1 u2 l2 p2 f1 f2 is = grind arith

-- the words of an address fit
fits : (ipv6 : Bool) (upper lower : ℕ) → AreWords ipv6 upper lower → (upper < 2 ^ 64) × (lower < 2 ^ 64)
fits true upper lower words = words
fits false upper lower words = (omega (arith, words.0), omega (arith, words.1))

-- a version is told by its bit
version_is : (one other : Bool) → (bit_of one == bit_of other) ≡ true → one ≡ other
version_is true true same = refl
version_is false false same = refl
version_is true false same = absurd (true≢false (sym same))
version_is false true same = absurd (true≢false (sym same))

-- A key.

flow_regrouped : (key : Key) (rest : List ℕ) →
    flow_text key ++ rest
    ≡ endpoint_text (is_ipv6 key) key.k0 key.k1 (low_port key)
    ++ (45 ∷ (endpoint_text (is_ipv6 key) key.k2 key.k3 (high_port key) ++ (protocol_text (protocol_in key) ++ rest)))
unfolding flow_text
flow_regrouped key rest = simp append_assoc

low_of : Key → End
low_of key = end_of (is_ipv6 key) key.k0 key.k1 (low_port key)

high_of : Key → End
high_of key = end_of (is_ipv6 key) key.k2 key.k3 (high_port key)

same_key : (one other : Key) → one.k0 ≡ other.k0 → one.k1 ≡ other.k1 → one.k2 ≡ other.k2 → one.k3 ≡ other.k3 →
    one.k4 ≡ other.k4 → one ≡ other
same_key one other e0 e1 e2 e3 e4 =
    let made : ℕ → ℕ → ℕ → ℕ → ℕ → Key = λ a b c d e. record { k0 = a; k1 = b; k2 = c; k3 = d; k4 = e } in
    ap (λ (x : ℕ). made x one.k1 one.k2 one.k3 one.k4) e0
    ∙ ap (λ (x : ℕ). made other.k0 x one.k2 one.k3 one.k4) e1
    ∙ ap (λ (x : ℕ). made other.k0 other.k1 x one.k3 one.k4) e2
    ∙ ap (λ (x : ℕ). made other.k0 other.k1 other.k2 x one.k4) e3
    ∙ ap (λ (x : ℕ). made other.k0 other.k1 other.k2 other.k3 x) e4

-- the version's bit, and what is behind it, is the whole fifth word
bit_again : (key : Key) → IsFlow key →
    bit_of (is_ipv6 key) + low_port key * 16777216 + high_port key * 256 + protocol_in key ≡ key.k4
bit_again key is = go (nat_lt key.k4 (2 ^ 40)) refl
  where
    go : (t : Bool) → nat_lt key.k4 (2 ^ 40) ≡ t →
        bit_of (is_ipv6 key) + low_port key * 16777216 + high_port key * 256 + protocol_in key ≡ key.k4
    go true short =
        let small : key.k4 < 2 ^ 40 = grind (arith, short) in
        rw short (omega (arith, small))
    go false long =
        let large : 2 ^ 40 ≤ key.k4 = grind (arith, long) in
        let small : key.k4 < 2 ^ 41 = is.text.small in
        rw long (omega (arith, large, small))

-- the words of both addresses are of the version
pub words_again : (key : Key) → IsFlow key →
    AreWords (is_ipv6 key) key.k0 key.k1 × AreWords (is_ipv6 key) key.k2 key.k3
words_again key is = go (nat_lt key.k4 (2 ^ 40)) refl
  where
    go : (t : Bool) → nat_lt key.k4 (2 ^ 40) ≡ t →
        AreWords (is_ipv6 key) key.k0 key.k1 × AreWords (is_ipv6 key) key.k2 key.k3
    go true short =
        let small : key.k4 < 2 ^ 40 = grind (arith, short) in
        let words = is.text.ipv4 small in
        let P : Bool → Type 0 = λ b. AreWords (not b) key.k0 key.k1 × AreWords (not b) key.k2 key.k3 in
        subst P (sym short) ((words.low_upper, words.low), (words.high_upper, words.high))
    go false long =
        let P : Bool → Type 0 = λ b. AreWords (not b) key.k0 key.k1 × AreWords (not b) key.k2 key.k3 in
        subst P (sym long) ((is.words.k0, is.words.k1), (is.words.k2, is.words.k3))

order_again : (key : Key) → IsFlow key → in_order (low_of key) (high_of key) ≡ true
unfolding low_of high_of
order_again key is =
    let same : (bit_of (is_ipv6 key) == bit_of (is_ipv6 key)) ≡ true = eq-eqb _ _ refl in
    let lower : lower_by key.k0 key.k1 (low_port key) key.k2 key.k3 (high_port key) ≡ true =
    is_lower key.k0 key.k1 (low_port key) key.k2 key.k3 (high_port key) is.words.k1 is.words.k3 is.lower_first in
    rw (same, lower) refl

ends_again : (key : Key) → IsFlow key → key_of_ends (low_of key) (high_of key) (protocol_in key) ≡ key
unfolding low_of high_of
ends_again key is =
    same_key (key_of_ends (low_of key) (high_of key) (protocol_in key)) key refl refl refl refl (bit_again key is)

-- a key's text is read as the key
pub flow_again : (key : Key) (rest : List ℕ) → IsFlow key → flow_at (flow_text key ++ rest) ≡ Some (key, rest)
unfolding flow_at low_of high_of
flow_again key rest is =
    let r3 : List ℕ = protocol_text (protocol_in key) ++ rest in
    let words = words_again key is in
    let p1 : low_port key < 2 ^ 16 = omega arith in
    let p2 : high_port key < 2 ^ 16 = omega arith in
    ap flow_at (flow_regrouped key rest)
    ∙ rw (
      end_again (is_ipv6 key) key.k0 key.k1 (low_port key)
          (45 ∷ (endpoint_text (is_ipv6 key) key.k2 key.k3 (high_port key) ++ r3)) words.0 p1 refl,
      end_again (is_ipv6 key) key.k2 key.k3 (high_port key) r3 words.1 p2
          (protocol_ends (protocol_in key) rest is.text.known),
      protocol_again (protocol_in key) rest is.text.known,
      order_again key is,
    )
    (ap (λ (k : Key). Some (k, rest)) (ends_again key is))

-- A key that is made of two ends.

abbrev made_key : (ipv6 : Bool) (u1 l1 p1 u2 l2 p2 p : ℕ) → Key
made_key ipv6 u1 l1 p1 u2 l2 p2 p = key_of_ends (end_of ipv6 u1 l1 p1) (end_of ipv6 u2 l2 p2) p

-- what the fifth word tells
record AreParts (key : Key) (ipv6 : Bool) (p1 p2 p : ℕ) : Type 0 where
  version : is_ipv6 key ≡ ipv6
  low : low_port key ≡ p1
  high : high_port key ≡ p2
  protocol : protocol_in key ≡ p
  small : key.k4 < 2 ^ 41
  short : key.k4 < 2 ^ 40 → ipv6 ≡ false

are_parts : (ipv6 : Bool) (u1 l1 p1 u2 l2 p2 p : ℕ) → p1 < 2 ^ 16 → p2 < 2 ^ 16 → p < 2 ^ 8 →
    AreParts (made_key ipv6 u1 l1 p1 u2 l2 p2 p) ipv6 p1 p2 p
are_parts true u1 l1 p1 u2 l2 p2 p f1 f2 f =
    record {
      version = grind arith;
      low = omega arith;
      high = omega arith;
      protocol = omega arith;
      small = omega arith;
      short = λ less. absurd (omega (arith, less));
    }
are_parts false u1 l1 p1 u2 l2 p2 p f1 f2 f =
    let small : 0 + p1 * 16777216 + p2 * 256 + p < 2 ^ 40 = omega arith in
    record {
      version = grind arith;
      low = omega arith;
      high = omega arith;
      protocol = omega arith;
      small = omega arith;
      short = λ less. refl;
    }

made_flow : (ipv6 : Bool) (u1 l1 p1 u2 l2 p2 p : ℕ) → AreWords ipv6 u1 l1 → p1 < 2 ^ 16 → AreWords ipv6 u2 l2 →
    p2 < 2 ^ 16 → (p ≡ 6) ⊎ (p ≡ 17) → p < 2 ^ 8 → lower_by u1 l1 p1 u2 l2 p2 ≡ true →
    IsFlow (made_key ipv6 u1 l1 p1 u2 l2 p2 p)
made_flow ipv6 u1 l1 p1 u2 l2 p2 p w1 f1 w2 f2 known small ordered =
    let key = made_key ipv6 u1 l1 p1 u2 l2 p2 p in
    let parts : AreParts key ipv6 p1 p2 p = are_parts ipv6 u1 l1 p1 u2 l2 p2 p f1 f2 small in
    let one = fits ipv6 u1 l1 w1 in
    let other = fits ipv6 u2 l2 w2 in
    let whole : key.k4 < 2 ^ 41 = parts.small in
    record {
      text = record {
        known = subst (λ (n : ℕ). (n ≡ 6) ⊎ (n ≡ 17)) (sym parts.protocol) known;
        small = parts.small;
        ipv4 =
            λ less. let version : ipv6 ≡ false = parts.short less in
            let a : AreWords false u1 l1 = subst (λ (b : Bool). AreWords b u1 l1) version w1 in
            let b : AreWords false u2 l2 = subst (λ (b : Bool). AreWords b u2 l2) version w2 in
            record { low_upper = a.0; low = a.1; high_upper = b.0; high = b.1 };
      };
      words = record { k0 = one.0; k1 = one.1; k2 = other.0; k3 = other.1; k4 = omega (arith, whole) };
      lower_first = elim (lower_is u1 l1 p1 u2 l2 p2 one.1 other.1 ordered) [
        | inl less ↦ inl less
        | inr both ↦ inr (both.0, omega (arith, both.1, parts.low, parts.high))
      ];
    }

made_text : (ipv6 : Bool) (u1 l1 p1 u2 l2 p2 p : ℕ) (rest : List ℕ) → p1 < 2 ^ 16 → p2 < 2 ^ 16 → p < 2 ^ 8 →
    flow_text (made_key ipv6 u1 l1 p1 u2 l2 p2 p) ++ rest
    ≡ endpoint_text ipv6 u1 l1 p1 ++ (45 ∷ (endpoint_text ipv6 u2 l2 p2 ++ (protocol_text p ++ rest)))
made_text ipv6 u1 l1 p1 u2 l2 p2 p rest f1 f2 small =
    let key = made_key ipv6 u1 l1 p1 u2 l2 p2 p in
    let parts : AreParts key ipv6 p1 p2 p = are_parts ipv6 u1 l1 p1 u2 l2 p2 p f1 f2 small in
    let text : Bool → ℕ → ℕ → ℕ → List ℕ =
    λ v a b c. endpoint_text v u1 l1 a ++ (45 ∷ (endpoint_text v u2 l2 b ++ (protocol_text c ++ rest))) in
    flow_regrouped key rest
    ∙ ap (λ (v : Bool). text v (low_port key) (high_port key) (protocol_in key)) parts.version
    ∙ ap (λ (a : ℕ). text ipv6 a (high_port key) (protocol_in key)) parts.low
    ∙ ap (λ (b : ℕ). text ipv6 p1 b (protocol_in key)) parts.high
    ∙ ap (λ (c : ℕ). text ipv6 p1 p2 c) parts.protocol

-- the bytes begin with the text of a key
pub record IsFlowAt (bytes : List ℕ) (key : Key) (rest : List ℕ) : Type 0 where
  pub text : bytes ≡ flow_text key ++ rest
  pub flow : IsFlow key

-- two ends that were read, of one version
takes_ends : (bytes r1 r2 r3 rest : List ℕ) (low high : End) (p : ℕ) → IsEndAt bytes low r1 → r1 ≡ 45 ∷ r2 →
    IsEndAt r2 high r3 → IsProtocolAt r3 p rest → in_order low high ≡ true →
    IsFlowAt bytes (key_of_ends low high p) rest
takes_ends bytes r1 r2 r3 rest low high p one dash other name ordered =
    let v = one.ipv6 in
    let low_is : low ≡ end_of v one.upper one.lower one.port = one.end_is in
    let tested : in_order (end_of v one.upper one.lower one.port) (end_of other.ipv6 other.upper other.lower other.port)
    ≡ true =
    ap (λ (e : End). in_order e (end_of other.ipv6 other.upper other.lower other.port)) (sym low_is)
    ∙ ap (λ (e : End). in_order low e) (sym other.end_is)
    ∙ ordered in
    let both = and_parts _ _ tested in
    let same : other.ipv6 ≡ v = sym (version_is v other.ipv6 both.0) in
    let high_is : high ≡ end_of v other.upper other.lower other.port =
    other.end_is ∙ ap (λ (b : Bool). end_of b other.upper other.lower other.port) same in
    let words : AreWords v other.upper other.lower =
    subst (λ (b : Bool). AreWords b other.upper other.lower) same other.words in
    let small : p < 2 ^ 8 = elim name.known [ inl six ↦ omega arith | inr udp ↦ omega arith ] in
    let made : IsFlowAt bytes (made_key v one.upper one.lower one.port other.upper other.lower other.port p) rest =
    record {
      text =
          one.text
          ∙ ap (λ (r : List ℕ). endpoint_text v one.upper one.lower one.port ++ r) (dash
          ∙ ap (λ (r : List ℕ). 45 ∷ r) (other.text
          ∙ ap (λ (b : Bool). endpoint_text b other.upper other.lower other.port ++ r3) same
          ∙ ap (λ (r : List ℕ). endpoint_text v other.upper other.lower other.port ++ r) name.text))
          ∙ sym (made_text v one.upper one.lower one.port other.upper other.lower other.port p rest one.port_small
          other.port_small small);
      flow =
          made_flow v one.upper one.lower one.port other.upper other.lower other.port p one.words one.port_small words
          other.port_small name.known small both.1;
    } in
    subst (λ (e : End). IsFlowAt bytes (key_of_ends e high p) rest) (sym low_is)
    (subst (λ (e : End). IsFlowAt bytes (key_of_ends (end_of v one.upper one.lower one.port) e p) rest) (sym high_is)
    made)

-- what is read as a key is so
pub flow_takes : (bytes : List ℕ) (key : Key) (rest : List ℕ) → flow_at bytes ≡ Some (key, rest) →
    IsFlowAt bytes key rest
unfolding flow_at
flow_takes bytes key rest is =
    let s1 = bind_some (end_at bytes) _ (key, rest) is in
    let low : IsEndAt bytes s1.0.0 s1.0.1 = end_takes bytes s1.0.0 s1.0.1 s1.1 in
    let s2 = text_then (codes "-") s1.0.1 _ (key, rest) s1.2 in
    let s3 = bind_some (end_at s2.left) _ (key, rest) s2.then in
    let high : IsEndAt s2.left s3.0.0 s3.0.1 = end_takes s2.left s3.0.0 s3.0.1 s3.1 in
    let s4 = bind_some (protocol_at s3.0.1) _ (key, rest) s3.2 in
    let name : IsProtocolAt s3.0.1 s4.0.0 s4.0.1 = protocol_takes s3.0.1 s4.0.0 s4.0.1 s4.1 in
    let tested : (in_order s1.0.0 s3.0.0 ≡ true)
    × ((key_of_ends s1.0.0 s3.0.0 s4.0.0, s4.0.1) ≡ (key, rest)) = cond_some _ _ _ s4.2 in
    let same : key_of_ends s1.0.0 s3.0.0 s4.0.0 ≡ key = ap (λ (x : Key × List ℕ). x.0) tested.1 in
    let left : s4.0.1 ≡ rest = ap (λ (x : Key × List ℕ). x.1) tested.1 in
    let made : IsFlowAt bytes (key_of_ends s1.0.0 s3.0.0 s4.0.0) s4.0.1 =
    takes_ends bytes s1.0.1 s2.left s3.0.1 s4.0.1 s1.0.0 s3.0.0 s4.0.0 low s2.at high name tested.0 in
    subst (λ (k : Key). IsFlowAt bytes k rest) same
    (subst (λ (r : List ℕ). IsFlowAt bytes (key_of_ends s1.0.0 s3.0.0 s4.0.0) r) left made)
