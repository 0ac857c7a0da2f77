-- What is read as an endpoint is the endpoint's text, and each endpoint's text is read so.
use Rattle.std.proofs.Common.{◌≡◌, ℕ, ◌+◌, ◌*◌, ◌/◌, ◌%◌, ◌^◌, ◌<◌, ◌≤◌, Bool, true, false, codes, List, [], ◌∷◌, ◌++◌, Option, Some, None, refl, sym, ap, ◌∙◌, append_assoc, subst, arith}
use Rattle.std.specs.Prelude.{decimal}
use Rattle.std.proofs.lemmas.Fmt.{decimal_by_steps}
use Rattle.std.proofs.lemmas.Option.{some_pair_parts}
use Rattle.line_fields.specs.Reading.{HasNoDigit, text_at}
use Rattle.line_fields.proofs.NumberLaws.{number_again}
use Rattle.line_fields.proofs.TextLemmas.{text_takes}
use Rattle.line_fields.proofs.BindLemmas.{bind_some, number_then, text_then}
use Rattle.key_texts.specs.FlowText.{ipv4_text, ipv6_text, groups_text, address_text, endpoint_text}
use Rattle.flow_reading.specs.declared.ends.Host.{Host}
use Rattle.flow_reading.specs.declared.ends.End.{End}
use Rattle.flow_reading.specs.Flows.{address_at, address_by, end_at, ipv4_at, ipv6_at}
use Rattle.flow_reading.proofs.GroupLaws.{AreGroupsAt, groups_again, groups_takes}

-- the bit of a version
abbrev pub bit_of : (ipv6 : Bool) → ℕ
bit_of true = 1099511627776
bit_of false = 0

-- an address of one of the two versions
abbrev pub host_of : (ipv6 : Bool) (upper lower : ℕ) → Host
host_of ipv6 upper lower = record { bit = bit_of ipv6; upper = upper; lower = lower }

-- an address of IPv4
abbrev short_host : ℕ → Host
short_host lower = record { bit = 0; upper = 0; lower = lower }

-- the words of an address of this version
abbrev pub AreWords : (ipv6 : Bool) (upper lower : ℕ) → Type 0
AreWords true upper lower = (upper < 2 ^ 64) × (lower < 2 ^ 64)
AreWords false upper lower = (upper ≡ 0) × (lower < 2 ^ 32)

-- IPv4.

-- four numbers with dots
dotted : (a b c d : ℕ) → List ℕ → List ℕ
dotted a b c d rest =
    decimal a ++ (46 ∷ (decimal b ++ (46 ∷ (decimal c ++ (46 ∷ (decimal d ++ rest))))))

dotted_again : (a b c d : ℕ) (rest : List ℕ) → a ≤ 255 → b ≤ 255 → c ≤ 255 → d ≤ 255 → HasNoDigit rest →
    ipv4_at (dotted a b c d rest) ≡ Some (short_host (a * 16777216 + b * 65536 + c * 256 + d), rest)
unfolding ipv4_at dotted
dotted_again a b c d rest fa fb fc fd end =
    rw (
      number_again 255 a (46 ∷ (decimal b ++ (46 ∷ (decimal c ++ (46 ∷ (decimal d ++ rest)))))) fa (omega arith) refl,
      number_again 255 b (46 ∷ (decimal c ++ (46 ∷ (decimal d ++ rest)))) fb (omega arith) refl,
      number_again 255 c (46 ∷ (decimal d ++ rest)) fc (omega arith) refl,
      number_again 255 d rest fd (omega arith) end,
    ) refl

ipv4_dotted : (a : ℕ) (rest : List ℕ) →
    ipv4_text a ++ rest
    ≡ dotted (a / 2 ^ 24) (a / 2 ^ 16 % 2 ^ 8) (a / 2 ^ 8 % 2 ^ 8) (a % 2 ^ 8) rest
unfolding ipv4_text dotted
ipv4_dotted a rest = simp append_assoc

pub ipv4_again : (a : ℕ) (rest : List ℕ) → a < 2 ^ 32 → HasNoDigit rest →
    ipv4_at (ipv4_text a ++ rest) ≡ Some (short_host a, rest)
ipv4_again a rest small end =
    let whole : a / 2 ^ 24 * 16777216 + a / 2 ^ 16 % 2 ^ 8 * 65536 + a / 2 ^ 8 % 2 ^ 8 * 256 + a % 2 ^ 8 ≡ a =
    omega arith in
    ap ipv4_at (ipv4_dotted a rest)
    ∙ dotted_again (a / 2 ^ 24) (a / 2 ^ 16 % 2 ^ 8) (a / 2 ^ 8 % 2 ^ 8) (a % 2 ^ 8) rest (omega arith) (omega arith)
    (omega arith) (omega arith) end
    ∙ ap (λ (n : ℕ). Some (short_host n, rest)) whole

-- the bytes begin with the address's text
pub record IsShortAt (bytes : List ℕ) (a : ℕ) (rest : List ℕ) : Type 0 where
  pub text : bytes ≡ ipv4_text a ++ rest
  pub small : a < 2 ^ 32
  pub end : HasNoDigit rest

-- four numbers with dots that are the address's
dotted_is : (a first second third fourth : ℕ) (rest : List ℕ) →
    first ≤ 255 → second ≤ 255 → third ≤ 255 → fourth ≤ 255 →
    first * 16777216 + second * 65536 + third * 256 + fourth ≡ a →
    dotted first second third fourth rest ≡ ipv4_text a ++ rest
dotted_is a first second third fourth rest f1 f2 f3 f4 whole =
    let one : first ≡ a / 2 ^ 24 = omega arith in
    let two : second ≡ a / 2 ^ 16 % 2 ^ 8 = omega arith in
    let three : third ≡ a / 2 ^ 8 % 2 ^ 8 = omega arith in
    let four : fourth ≡ a % 2 ^ 8 = omega arith in
    ap (λ (n : ℕ). dotted n second third fourth rest) one
    ∙ ap (λ (n : ℕ). dotted (a / 2 ^ 24) n third fourth rest) two
    ∙ ap (λ (n : ℕ). dotted (a / 2 ^ 24) (a / 2 ^ 16 % 2 ^ 8) n fourth rest) three
    ∙ ap (λ (n : ℕ). dotted (a / 2 ^ 24) (a / 2 ^ 16 % 2 ^ 8) (a / 2 ^ 8 % 2 ^ 8) n rest) four
    ∙ sym (ipv4_dotted a rest)

-- texts put together
four_texts : (bytes r1 r2 r3 r4 r5 r6 r7 : List ℕ) (a b c d : ℕ) →
    bytes ≡ decimal a ++ r1 → r1 ≡ 46 ∷ r2 → r2 ≡ decimal b ++ r3 → r3 ≡ 46 ∷ r4 → r4 ≡ decimal c ++ r5 →
    r5 ≡ 46 ∷ r6 → r6 ≡ decimal d ++ r7 → bytes ≡ dotted a b c d r7
unfolding dotted
four_texts bytes r1 r2 r3 r4 r5 r6 r7 a b c d e1 e2 e3 e4 e5 e6 e7 =
    e1 ∙ ap (λ (r : List ℕ). decimal a ++ r) (e2 ∙ ap (λ (r : List ℕ). 46 ∷ r) (e3
    ∙ ap (λ (r : List ℕ). decimal b ++ r) (e4 ∙ ap (λ (r : List ℕ). 46 ∷ r) (e5
    ∙ ap (λ (r : List ℕ). decimal c ++ r) (e6 ∙ ap (λ (r : List ℕ). 46 ∷ r) e7)))))

ipv4_takes : (bytes : List ℕ) (host : Host) (rest : List ℕ) → ipv4_at bytes ≡ Some (host, rest) →
    (a : ℕ) × (host ≡ short_host a) × IsShortAt bytes a rest
unfolding ipv4_at
ipv4_takes bytes host rest is =
    let s1 = number_then 255 bytes _ (host, rest) (omega arith) is in
    let s2 = text_then (codes ".") s1.left _ (host, rest) s1.then in
    let s3 = number_then 255 s2.left _ (host, rest) (omega arith) s2.then in
    let s4 = text_then (codes ".") s3.left _ (host, rest) s3.then in
    let s5 = number_then 255 s4.left _ (host, rest) (omega arith) s4.then in
    let s6 = text_then (codes ".") s5.left _ (host, rest) s5.then in
    let s7 = number_then 255 s6.left _ (host, rest) (omega arith) s6.then in
    let a : ℕ = s1.number * 16777216 + s3.number * 65536 + s5.number * 256 + s7.number in
    let parts : (short_host a ≡ host) × (s7.left ≡ rest) = some_pair_parts _ host s7.left rest s7.then in
    let f1 : s1.number ≤ 255 = s1.at.within in
    let f3 : s3.number ≤ 255 = s3.at.within in
    let f5 : s5.number ≤ 255 = s5.at.within in
    let f7 : s7.number ≤ 255 = s7.at.within in (
      a,
      sym parts.0,
      record {
        text =
            four_texts bytes s1.left s2.left s3.left s4.left s5.left s6.left s7.left s1.number s3.number s5.number
            s7.number
            s1.at.text s2.at s3.at.text s4.at s5.at.text s6.at s7.at.text
            ∙ dotted_is a s1.number s3.number s5.number s7.number s7.left f1 f3 f5 f7 refl
            ∙ ap (λ (r : List ℕ). ipv4_text a ++ r) parts.1;
        small = omega arith;
        end = subst HasNoDigit parts.1 s7.at.end;
      },
    )

-- a digit stands in front, and so no bracket
no_bracket_digit : (n : ℕ) → n < 10 → (rest : List ℕ) → text_at (codes "[") ((48 + n) ∷ rest) ≡ None
no_bracket_digit n small rest = grind arith

no_bracket_number : (n : ℕ) → n < 2 ^ 64 → (rest : List ℕ) → text_at (codes "[") (decimal n ++ rest) ≡ None
no_bracket_number n small =
    decimal_by_steps (λ (n : ℕ) (text : List ℕ). (rest : List ℕ) → text_at (codes "[") (text ++ rest) ≡ None)
    no_bracket_digit
    (λ n text large before rest. ap (text_at (codes "[")) (append_assoc text ((48 + n % 10) ∷ []) rest)
    ∙ before ((48 + n % 10) ∷ rest)) n small

no_bracket : (a : ℕ) (rest : List ℕ) → a < 2 ^ 32 → text_at (codes "[") (ipv4_text a ++ rest) ≡ None
unfolding dotted
no_bracket a rest small =
    ap (text_at (codes "[")) (ipv4_dotted a rest) ∙ no_bracket_number (a / 2 ^ 24) (omega arith) _

-- IPv6.

-- the groups of both words, behind their bracket
eights : (upper lower : ℕ) → List ℕ → List ℕ
eights upper lower rest = groups_text upper ++ (58 ∷ (groups_text lower ++ (93 ∷ rest)))

ipv6_regrouped : (upper lower : ℕ) (rest : List ℕ) → ipv6_text upper lower ++ rest ≡ 91 ∷ eights upper lower rest
unfolding ipv6_text eights
ipv6_regrouped upper lower rest = simp append_assoc

ipv6_again : (upper lower : ℕ) (rest : List ℕ) → upper < 2 ^ 64 → lower < 2 ^ 64 →
    ipv6_at (eights upper lower rest) ≡ Some (host_of true upper lower, rest)
unfolding ipv6_at eights
ipv6_again upper lower rest fu fl =
    rw (groups_again upper (58 ∷ (groups_text lower ++ (93 ∷ rest))) fu refl, groups_again lower (93 ∷ rest) fl refl)
    refl

eights_text : (bytes r1 r2 r3 r4 : List ℕ) (upper lower : ℕ) → bytes ≡ groups_text upper ++ r1 → r1 ≡ 58 ∷ r2 →
    r2 ≡ groups_text lower ++ r3 → r3 ≡ 93 ∷ r4 → bytes ≡ eights upper lower r4
unfolding eights
eights_text bytes r1 r2 r3 r4 upper lower e1 e2 e3 e4 =
    e1 ∙ ap (λ (r : List ℕ). groups_text upper ++ r) (e2 ∙ ap (λ (r : List ℕ). 58 ∷ r) (e3
    ∙ ap (λ (r : List ℕ). groups_text lower ++ r) e4))

-- The two words of an address that stands there.
record IsLongAt (bytes : List ℕ) (host : Host) (rest : List ℕ) : Type 0 where
  upper : ℕ
  lower : ℕ
  host_is : host ≡ host_of true upper lower
  words : AreWords true upper lower
  text : bytes ≡ eights upper lower rest

ipv6_takes : (bytes : List ℕ) (host : Host) (rest : List ℕ) → ipv6_at bytes ≡ Some (host, rest) →
    IsLongAt bytes host rest
unfolding ipv6_at
ipv6_takes bytes host rest is =
    let s1 = bind_some _ _ (host, rest) is in
    let u : AreGroupsAt bytes s1.0.0 s1.0.1 = groups_takes bytes s1.0.0 s1.0.1 s1.1 in
    let s2 = text_then (codes ":") s1.0.1 _ (host, rest) s1.2 in
    let s3 = bind_some _ _ (host, rest) s2.then in
    let l : AreGroupsAt s2.left s3.0.0 s3.0.1 = groups_takes s2.left s3.0.0 s3.0.1 s3.1 in
    let s4 = text_then (codes "]") s3.0.1 _ (host, rest) s3.2 in
    let parts : (host_of true s1.0.0 s3.0.0 ≡ host) × (s4.left ≡ rest) =
    some_pair_parts _ host s4.left rest s4.then in
    record {
      upper = s1.0.0;
      lower = s3.0.0;
      host_is = sym parts.0;
      words = (u.small, l.small);
      text =
          eights_text bytes s1.0.1 s2.left s3.0.1 s4.left s1.0.0 s3.0.0 u.text s2.at l.text s4.at
          ∙ ap (λ (r : List ℕ). eights s1.0.0 s3.0.0 r) parts.1;
    }

-- An address.

address_again : (ipv6 : Bool) (upper lower : ℕ) (rest : List ℕ) → AreWords ipv6 upper lower → HasNoDigit rest →
    address_at (address_text ipv6 upper lower ++ rest) ≡ Some (host_of ipv6 upper lower, rest)
unfolding address_at
address_again true upper lower rest words end =
    ap (λ (b : List ℕ). address_by (text_at (codes "[") b) b) (ipv6_regrouped upper lower rest)
    ∙ ipv6_again upper lower rest words.0 words.1
address_again false upper lower rest words end =
    ap (λ (o : Option (List ℕ)). address_by o (ipv4_text lower ++ rest)) (no_bracket lower rest words.1)
    ∙ ipv4_again lower rest words.1 end
    ∙ ap (λ (u : ℕ). Some (host_of false u lower, rest)) (sym words.0)

-- the bytes begin with an address's text
record IsAddressAt (bytes : List ℕ) (host : Host) (rest : List ℕ) : Type 0 where
  ipv6 : Bool
  upper : ℕ
  lower : ℕ
  host_is : host ≡ host_of ipv6 upper lower
  words : AreWords ipv6 upper lower
  text : bytes ≡ address_text ipv6 upper lower ++ rest

address_takes : (bytes : List ℕ) (host : Host) (rest : List ℕ) → address_at bytes ≡ Some (host, rest) →
    IsAddressAt bytes host rest
unfolding address_at
address_takes bytes host rest is = go (text_at (codes "[") bytes) refl is
  where
    go : (o : Option (List ℕ)) → text_at (codes "[") bytes ≡ o → address_by o bytes ≡ Some (host, rest) →
        IsAddressAt bytes host rest
    go (Some begun) there read =
        let at : IsLongAt begun host rest = ipv6_takes begun host rest read in
        record {
          ipv6 = true;
          upper = at.upper;
          lower = at.lower;
          host_is = at.host_is;
          words = at.words;
          text =
              text_takes (codes "[") bytes begun there
              ∙ ap (λ (r : List ℕ). 91 ∷ r) at.text
              ∙ sym (ipv6_regrouped at.upper at.lower rest);
        }
    go None there read =
        let found = ipv4_takes bytes host rest read in
        let at : IsShortAt bytes found.0 rest = found.2 in
        record {
          ipv6 = false;
          upper = 0;
          lower = found.0;
          host_is = found.1;
          words = (refl, at.small);
          text = at.text;
        }

-- An end of a flow.

abbrev pub end_of : (ipv6 : Bool) (upper lower port : ℕ) → End
end_of ipv6 upper lower port = record { host = host_of ipv6 upper lower; port = port }

-- an endpoint's text is read as the endpoint
pub end_again : (ipv6 : Bool) (upper lower port : ℕ) (rest : List ℕ) → AreWords ipv6 upper lower → port < 2 ^ 16 →
    HasNoDigit rest → end_at (endpoint_text ipv6 upper lower port ++ rest) ≡ Some (end_of ipv6 upper lower port, rest)
unfolding end_at endpoint_text
end_again ipv6 upper lower port rest words small end =
    let regrouped : (address_text ipv6 upper lower ++ codes ":" ++ decimal port) ++ rest
    ≡ address_text ipv6 upper lower ++ (58 ∷ (decimal port ++ rest)) =
    simp append_assoc in
    ap end_at regrouped
    ∙ rw (
      address_again ipv6 upper lower (58 ∷ (decimal port ++ rest)) words refl,
      number_again 65535 port rest (omega arith) (omega arith) end,
    ) refl

-- the bytes begin with the text of an endpoint, which is this end
pub record IsEndAt (bytes : List ℕ) (e : End) (rest : List ℕ) : Type 0 where
  pub ipv6 : Bool
  pub upper : ℕ
  pub lower : ℕ
  pub port : ℕ
  pub end_is : e ≡ end_of ipv6 upper lower port
  pub words : AreWords ipv6 upper lower
  pub port_small : port < 2 ^ 16
  pub text : bytes ≡ endpoint_text ipv6 upper lower port ++ rest

end_text : (bytes r1 r2 r3 : List ℕ) (ipv6 : Bool) (upper lower p : ℕ) → bytes ≡ address_text ipv6 upper lower ++ r1 →
    r1 ≡ 58 ∷ r2 → r2 ≡ decimal p ++ r3 → bytes ≡ endpoint_text ipv6 upper lower p ++ r3
unfolding endpoint_text
end_text bytes r1 r2 r3 ipv6 upper lower p e1 e2 e3 =
    let regrouped : (address_text ipv6 upper lower ++ codes ":" ++ decimal p) ++ r3
    ≡ address_text ipv6 upper lower ++ (58 ∷ (decimal p ++ r3)) =
    simp append_assoc in
    e1 ∙ ap (λ (r : List ℕ). address_text ipv6 upper lower ++ r) (e2 ∙ ap (λ (r : List ℕ). 58 ∷ r) e3) ∙ sym regrouped

made_end : Host → ℕ → End
made_end host port = record { host = host; port = port }

-- what is read as an endpoint is so
pub end_takes : (bytes : List ℕ) (e : End) (rest : List ℕ) → end_at bytes ≡ Some (e, rest) → IsEndAt bytes e rest
unfolding end_at made_end
end_takes bytes e rest is =
    let s1 = bind_some (address_at bytes) _ (e, rest) is in
    let at : IsAddressAt bytes s1.0.0 s1.0.1 = address_takes bytes s1.0.0 s1.0.1 s1.1 in
    let s2 = text_then (codes ":") s1.0.1 _ (e, rest) s1.2 in
    let s3 = number_then 65535 s2.left _ (e, rest) (omega arith) s2.then in
    let parts : (made_end s1.0.0 s3.number ≡ e) × (s3.left ≡ rest) =
    some_pair_parts (made_end s1.0.0 s3.number) e s3.left rest s3.then in
    record {
      ipv6 = at.ipv6;
      upper = at.upper;
      lower = at.lower;
      port = s3.number;
      end_is = sym parts.0 ∙ ap (λ (h : Host). made_end h s3.number) at.host_is;
      words = at.words;
      port_small = omega (arith, s3.at.within);
      text =
          end_text bytes s1.0.1 s2.left s3.left at.ipv6 at.upper at.lower s3.number at.text s2.at s3.at.text
          ∙ ap (λ (r : List ℕ). endpoint_text at.ipv6 at.upper at.lower s3.number ++ r) parts.1;
    }
