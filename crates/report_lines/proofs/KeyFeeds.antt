-- No line feed stands in a number or in a key's text.
use Rattle.std.proofs.Common.{◌≡◌, ℕ, ◌/◌, ◌%◌, ◌^◌, ◌<◌, ◌≤◌, ◌==◌, nat_lt, Bool, true, false, cond, codes, ◌++◌, refl, sym, subst, arith}
use Rattle.std.specs.Prelude.{decimal}
use Rattle.std.specs.Fmt.{digit_glyph}
use Rattle.plain_map.specs.declared.keys.Key.{Key}
use Rattle.key_texts.specs.FlowText.{group_text, groups_text, ipv4_text, ipv6_text, address_text, endpoint_text, protocol_text, flow_text, low_port, high_port, protocol_in, is_ipv6}
use Rattle.key_texts.proofs.HexLemmas.{one_digit, two_digits, three_digits, four_digits}
use Rattle.line_fields.proofs.Feeds.{HasNoFeed, no_feed-append, no_feed-decimal}
use Rattle.flow_reading.specs.Flows.{IsFlow}
use Rattle.flow_reading.proofs.EndLaws.{AreWords}
use Rattle.flow_reading.proofs.KeyLaws.{words_again}

pub number : (n : ℕ) → n ≤ 18446744073709551615 → HasNoFeed (decimal n)
number n within = no_feed-decimal n (omega arith)

-- An address of IPv4.

no_feed-ipv4 : (a : ℕ) → a < 2 ^ 32 → HasNoFeed (ipv4_text a)
unfolding ipv4_text
no_feed-ipv4 a small =
    let dot : HasNoFeed (codes ".") = (refl, tt) in
    let n1 : HasNoFeed (decimal (a / 2 ^ 24)) = number (a / 2 ^ 24) (omega arith) in
    let n2 : HasNoFeed (decimal (a / 2 ^ 16 % 2 ^ 8)) = number (a / 2 ^ 16 % 2 ^ 8) (omega arith) in
    let n3 : HasNoFeed (decimal (a / 2 ^ 8 % 2 ^ 8)) = number (a / 2 ^ 8 % 2 ^ 8) (omega arith) in
    let n4 : HasNoFeed (decimal (a % 2 ^ 8)) = number (a % 2 ^ 8) (omega arith) in
    no_feed-append _ (decimal (a % 2 ^ 8))
    (no_feed-append _ (codes ".")
    (no_feed-append _ (decimal (a / 2 ^ 8 % 2 ^ 8))
    (no_feed-append _ (codes ".")
    (no_feed-append _ (decimal (a / 2 ^ 16 % 2 ^ 8))
    (no_feed-append (decimal (a / 2 ^ 24)) (codes ".") n1 dot) n2) dot) n3) dot) n4

-- An address of IPv6.

pub glyph_feed : (n : ℕ) → (digit_glyph false n == 10) ≡ false
glyph_feed n = grind arith

no_feed-group : (n : ℕ) → n < 2 ^ 16 → HasNoFeed (group_text n)
no_feed-group n small = go (nat_lt n 16) (nat_lt n 256) (nat_lt n 4096) refl refl refl
  where
    go : (a b c : Bool) → nat_lt n 16 ≡ a → nat_lt n 256 ≡ b → nat_lt n 4096 ≡ c → HasNoFeed (group_text n)
    go true b c one two three = subst HasNoFeed (sym (one_digit n (grind (arith, one)))) (glyph_feed _, tt)
    go false true c one two three =
        subst HasNoFeed (sym (two_digits n (grind (arith, one)) (grind (arith, two))))
        (glyph_feed _, (glyph_feed _, tt))
    go false false true one two three =
        subst HasNoFeed (sym (three_digits n (grind (arith, two)) (grind (arith, three))))
        (glyph_feed _, (glyph_feed _, (glyph_feed _, tt)))
    go false false false one two three =
        subst HasNoFeed (sym (four_digits n (grind (arith, three)) small))
        (glyph_feed _, (glyph_feed _, (glyph_feed _, (glyph_feed _, tt))))

no_feed-groups : (n : ℕ) → n < 2 ^ 64 → HasNoFeed (groups_text n)
unfolding groups_text
no_feed-groups n small =
    let colon : HasNoFeed (codes ":") = (refl, tt) in
    let g1 : HasNoFeed (group_text (n / 2 ^ 48)) = no_feed-group (n / 2 ^ 48) (omega arith) in
    let g2 : HasNoFeed (group_text (n / 2 ^ 32 % 2 ^ 16)) = no_feed-group (n / 2 ^ 32 % 2 ^ 16) (omega arith) in
    let g3 : HasNoFeed (group_text (n / 2 ^ 16 % 2 ^ 16)) = no_feed-group (n / 2 ^ 16 % 2 ^ 16) (omega arith) in
    let g4 : HasNoFeed (group_text (n % 2 ^ 16)) = no_feed-group (n % 2 ^ 16) (omega arith) in
    no_feed-append _ (group_text (n % 2 ^ 16))
    (no_feed-append _ (codes ":")
    (no_feed-append _ (group_text (n / 2 ^ 16 % 2 ^ 16))
    (no_feed-append _ (codes ":")
    (no_feed-append _ (group_text (n / 2 ^ 32 % 2 ^ 16))
    (no_feed-append (group_text (n / 2 ^ 48)) (codes ":") g1 colon) g2) colon) g3) colon) g4

no_feed-ipv6 : (upper lower : ℕ) → upper < 2 ^ 64 → lower < 2 ^ 64 → HasNoFeed (ipv6_text upper lower)
unfolding ipv6_text
no_feed-ipv6 upper lower fu fl =
    let one : HasNoFeed (codes "[" ++ groups_text upper) =
    no_feed-append (codes "[") (groups_text upper) (refl, tt) (no_feed-groups upper fu) in
    let two : HasNoFeed (codes "[" ++ groups_text upper ++ codes ":") =
    no_feed-append (codes "[" ++ groups_text upper) (codes ":") one (refl, tt) in
    let three : HasNoFeed (codes "[" ++ groups_text upper ++ codes ":" ++ groups_text lower) =
    no_feed-append (codes "[" ++ groups_text upper ++ codes ":") (groups_text lower) two (no_feed-groups lower fl) in
    no_feed-append (codes "[" ++ groups_text upper ++ codes ":" ++ groups_text lower) (codes "]") three (refl, tt)

-- A key.

no_feed-address : (ipv6 : Bool) (upper lower : ℕ) → AreWords ipv6 upper lower → HasNoFeed
    (address_text ipv6 upper lower)
no_feed-address true upper lower words = no_feed-ipv6 upper lower words.0 words.1
no_feed-address false upper lower words = no_feed-ipv4 lower words.1

no_feed-endpoint : (ipv6 : Bool) (upper lower p : ℕ) → AreWords ipv6 upper lower → p < 2 ^ 32 →
    HasNoFeed (endpoint_text ipv6 upper lower p)
unfolding endpoint_text
no_feed-endpoint ipv6 upper lower p words port =
    no_feed-append _ (decimal p)
    (no_feed-append (address_text ipv6 upper lower) (codes ":") (no_feed-address ipv6 upper lower words) (refl, tt))
    (number p (omega arith))

no_feed-protocol : (p : ℕ) → HasNoFeed (protocol_text p)
no_feed-protocol p = go (p == 6)
  where
    go : (t : Bool) → HasNoFeed (cond t (codes "/tcp") (codes "/udp"))
    go true = (refl, (refl, (refl, (refl, tt))))
    go false = (refl, (refl, (refl, (refl, tt))))

pub no_feed-flow : (key : Key) → IsFlow key → HasNoFeed (flow_text key)
unfolding flow_text
no_feed-flow key is =
    let words = words_again key is in
    let low : HasNoFeed (endpoint_text (is_ipv6 key) key.k0 key.k1 (low_port key)) =
    no_feed-endpoint (is_ipv6 key) key.k0 key.k1 (low_port key) words.0 (omega arith) in
    let high : HasNoFeed (endpoint_text (is_ipv6 key) key.k2 key.k3 (high_port key)) =
    no_feed-endpoint (is_ipv6 key) key.k2 key.k3 (high_port key) words.1 (omega arith) in
    no_feed-append _ (protocol_text (protocol_in key))
    (no_feed-append _ (endpoint_text (is_ipv6 key) key.k2 key.k3 (high_port key))
    (no_feed-append (endpoint_text (is_ipv6 key) key.k0 key.k1 (low_port key)) (codes "-") low (refl, tt)) high)
    (no_feed-protocol (protocol_in key))
