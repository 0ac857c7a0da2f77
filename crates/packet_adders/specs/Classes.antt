-- The class of a packet: 0 for TCP, 1 for UDP, 2 where it has no heads that are known.
-- Source: this project's own; the heads are those of packet_heads.
use Rattle.std.specs.Prelude.{◌≡◌, ◌⊎◌, ℕ, List}
use Rattle.packet_heads.specs.declared.framing.Framing.{Framing}
use Rattle.packet_heads.specs.declared.packet.Heads.{Heads}
use Rattle.packet_heads.specs.declared.packet.Protocol.{Protocol}
use Rattle.packet_heads.specs.declared.packet.Protocol.TheVariants.{Tcp, Udp}
use Rattle.packet_heads.specs.Heads.{HasHeads}
use Rattle.packet_adders.specs.declared.classes.Class.{Class}
use Rattle.packet_adders.specs.declared.classes.Class.TheVariants as class

-- the class of packets of a protocol
abbrev pub class_in : Protocol → ℕ
class_in (Tcp flags payload) = 0
class_in (Udp payload) = 1

-- the class of those that have no heads
abbrev pub PASSED : ℕ
PASSED = 2

-- the number of a class
abbrev pub class_number : Class → ℕ
class_number class.Tcp = 0
class_number class.Udp = 1
class_number class.Passed = PASSED

-- a packet with these captured bytes, so framed, is of this class
abbrev pub HasClass : Framing → List ℕ → ℕ → Type 0
HasClass framing packet class =
    ((heads : Heads) × HasHeads framing packet heads × (class ≡ class_in heads.protocol))
    ⊎ (((heads : Heads) → HasHeads framing packet heads → ⊥) × (class ≡ PASSED))

-- no packet has two
abbrev pub HasOneClass : Type 0
HasOneClass =
    (framing : Framing) (packet : List ℕ) (one other : ℕ) → HasClass framing packet one →
    HasClass framing packet other → one ≡ other
