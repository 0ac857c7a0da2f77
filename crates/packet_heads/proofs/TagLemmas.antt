-- What stands behind a type that names no network: one tag, and what is behind it.
use Rattle.std.proofs.Common.{◌≡◌, ℕ, suc, ◌+◌, ◌-◌, ◌≤◌, List, [], ◌∷◌, Option, Some, None, IfSome, length, take, drop, length-drop, sym, subst, refl, arith}
use Rattle.std.proofs.lemmas.List.{take_all}
use Rattle.byteorder.specs.Endian.{big_from}
use Rattle.packet_heads.specs.declared.framing.Carried.{Carried}
use Rattle.packet_heads.specs.declared.framing.Network.{Network}
use Rattle.packet_heads.specs.Ethernet.{IsBehind, IsTag, type_of}

-- a tag, and what is behind it
pub record Tagged (tags : Option ℕ) (types : List ℕ) (ether_type : ℕ) (bytes : List ℕ) (network : Network)
    (packet : List ℕ) : Type 0 where
  pub rest : List ℕ
  pub fewer : length types ≡ suc (length rest)
  pub is_tag : IsTag tags ether_type
  pub room : 4 ≤ length bytes
  pub behind : IsBehind tags rest (big_from 2 2 bytes) (drop 4 bytes) network packet

pub tagged : (tags : Option ℕ) (types : List ℕ) (ether_type : ℕ) (bytes : List ℕ) (network : Network)
    (packet : List ℕ) → (ether_type ≡ type_of network → ⊥) → IsBehind tags types ether_type bytes network packet →
    Tagged tags types ether_type bytes network packet
tagged tags [] ether_type bytes network packet none behind = absurd (none behind.0)
tagged tags (tag ∷ types) ether_type bytes network packet none behind =
    record {
      rest = types;
      fewer = refl;
      is_tag = subst (IsTag tags) (sym behind.0) behind.1;
      room = behind.2;
      behind = behind.3;
    }

-- all bytes behind the first four are what stands behind these
pub behind_four : (bytes : List ℕ) → take (length bytes - 4) (drop 4 bytes) ≡ drop 4 bytes
behind_four bytes = take_all (length bytes - 4) (drop 4 bytes) (omega (arith, length-drop 4 bytes))

-- what was found behind a tag was found before it
pub found_more : (tags : Option ℕ) (most less ether_type next : ℕ) (bytes rest : List ℕ) (result : Option Carried) →
    IsTag tags ether_type → 4 ≤ length bytes → next ≡ big_from 2 2 bytes → rest ≡ drop 4 bytes → less + 1 ≤ most →
    IfSome result (λ carried. (types : List ℕ) × (length types ≤ less)
    × IsBehind tags types next rest carried.network carried.packet.now) →
    IfSome result (λ carried. (types : List ℕ) × (length types ≤ most)
    × IsBehind tags types ether_type bytes carried.network carried.packet.now)
found_more tags most less ether_type next bytes rest None is_tag room is behind size found = tt
found_more tags most less ether_type next bytes rest (Some carried) is_tag room is behind size found = (
  ether_type ∷ found.0,
  omega (arith, found.1, size),
  (
    refl,
    is_tag,
    room,
    subst (λ (n : ℕ). IsBehind tags found.0 n (drop 4 bytes) carried.network carried.packet.now) is
        (subst (λ (bs : List ℕ). IsBehind tags found.0 next bs carried.network carried.packet.now) behind found.2),
  ),
)
