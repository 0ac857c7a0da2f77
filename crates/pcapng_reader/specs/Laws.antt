-- What holds of all inputs.
use Rattle.std.specs.Prelude.{◌≡◌, ℕ, ◌+◌, List, ◌++◌, length, drop, Result, Some}
use Rattle.capture_faults.specs.declared.any_fault.AnyFault.{AnyFault}
use Rattle.pcapng_reader.specs.Input.{Input}
use Rattle.pcap_reader.specs.declared.stamp.Fraction.{Fraction}
use Rattle.pcap_reader.specs.declared.stamp.Stamp.{Stamp}
use Rattle.pcapng_reader.specs.Reading.{AreParts, Form, GivesAll, GivesPacket, HasRead, HasStamp, HoldsPacket, IsAtStart, IsCounted, IsOpened, IsOpenedOn, MeetsEnding, Reading, head_length}

-- a list of bytes has at most one input
abbrev pub HasOneInput : ℕ → List ℕ → Type 0
HasOneInput link bytes =
    (packets others : List (List ℕ)) (ending other : Result ℕ AnyFault) → Input link bytes packets ending →
    Input link bytes others other → (packets ≡ others) × (ending ≡ other)

-- a list of bytes has an input
abbrev pub HasInput : ℕ → List ℕ → Type 0
HasInput link bytes = (packets : List (List ℕ)) × (ending : Result ℕ AnyFault) × Input link bytes packets ending

-- the bytes begin as an input of that form, and up to that place have parts that give these packets
pub record Reaches (link : ℕ) (bytes : List ℕ) (packets : List (List ℕ)) (form : Form) (place : ℕ) : Type 0 where
  pub opened : IsOpened link form bytes
  pub passed : List ℕ
  pub last : Form
  pub parts : AreParts form (head_length form) passed packets last
  pub more : List ℕ
  pub whole : drop (head_length form) bytes ≡ passed ++ more
  pub is : place ≡ head_length form + length passed

-- The bytes begin as an input that gives these packets, and the packet behind them is that of a whole record or block
-- which starts at that place.
pub record StartsAt (link : ℕ) (bytes : List ℕ) (packets : List (List ℕ)) (place : ℕ) : Type 0 where
  pub form : Form
  pub reaches : Reaches link bytes packets form place
  pub part : List ℕ
  pub others : List ℕ
  pub behind : reaches.more ≡ part ++ others
  pub next : HoldsPacket reaches.last place part

-- the packet behind these in an input with these bytes has that stamp
pub record IsStamped (link : ℕ) (bytes : List ℕ) (packets : List (List ℕ)) (stamp : Stamp) : Type 0 where
  pub place : ℕ
  pub starts : StartsAt link bytes packets place
  pub fraction : Fraction
  pub counted : IsCounted starts.form fraction bytes
  pub is : HasStamp fraction starts.reaches.last place starts.part stamp

-- it has one stamp, whatever follows it
abbrev pub HasOneStamp : ℕ → List ℕ → Type 0
HasOneStamp link bytes =
    (packets : List (List ℕ)) (one other : Stamp) → IsStamped link bytes packets one →
    IsStamped link bytes packets other → one ≡ other

-- what a reader tells of a packet that it gives is the stamp of that packet in the input, of which these were given
-- before
abbrev pub ReadsStamps : Type 0
ReadsStamps =
    (link : ℕ) (bytes : List ℕ) (old new : Reading) (taken left : List ℕ) (packets : List (List ℕ)) →
    HasRead link bytes old (Some (taken ++ left)) packets → GivesPacket old new taken →
    IsStamped link bytes packets new.stamp

-- the packets of the parts that a list of bytes begins with are the first of its input
abbrev pub HoldsFront : ℕ → List ℕ → Type 0
HoldsFront link bytes =
    (front packets : List (List ℕ)) (form : Form) (place : ℕ) (ending : Result ℕ AnyFault) →
    Reaches link bytes front form place → Input link bytes packets ending →
    (others : List (List ℕ)) × (packets ≡ front ++ others)

-- What a reader gives from its opening to an ending are the packets and the ending of the input that was taken, however
-- the reads were cut.
abbrev pub ReadsInput : Type 0
ReadsInput =
    (link : ℕ) (start last ended : Reading) (head middle rest : List ℕ) (packets : List (List ℕ))
    (ending : Result ℕ AnyFault) →
    IsOpenedOn link start head → IsAtStart start → GivesAll start packets middle last →
    MeetsEnding last ended ending rest → Input link (head ++ (middle ++ rest)) packets ending
