-- A chain of extension heads ends at one transport head.
use Rattle.std.proofs.Common.{◌≡◌, ◌⊎◌, ℕ, suc, ◌+◌, List, [], ◌∷◌, length, sym, ◌∙◌, subst, refl, inl, inr, arith}
use Rattle.std.specs.Prelude.{slice_index}
use Rattle.packet_heads.specs.declared.packet.Protocol.{Protocol}
use Rattle.packet_heads.specs.declared.packet.Protocol.TheVariants.{Tcp, Udp}
use Rattle.packet_heads.specs.Transport.{number_of}
use Rattle.packet_heads.specs.Ipv6.{IsChain, IsExtension, IsFirst, IsOptions}

-- the number of a transport head that is read
abbrev pub IsKnown : ℕ → Type 0
IsKnown number = (number ≡ 6) ⊎ (number ≡ 17)

pub protocol_known : (protocol : Protocol) → IsKnown (number_of protocol)
protocol_known (Tcp flags payload) = inl refl
protocol_known (Udp payload) = inr refl

-- it is no extension head's
options_other : (packet : List ℕ) (place number size : ℕ) → IsOptions packet place number size → IsKnown number → ⊥
options_other packet place number size is (inl six) = elim is.number_is [
  | inl a ↦ omega (arith, six, a)
  | inr rest ↦ elim rest [ inl b ↦ omega (arith, six, b) | inr c ↦ omega (arith, six, c) ]
]
options_other packet place number size is (inr udp) = elim is.number_is [
  | inl a ↦ omega (arith, udp, a)
  | inr rest ↦ elim rest [ inl b ↦ omega (arith, udp, b) | inr c ↦ omega (arith, udp, c) ]
]

first_other : (packet : List ℕ) (place number size : ℕ) → IsFirst packet place number size → IsKnown number → ⊥
first_other packet place number size is (inl six) = omega (arith, six, is.number_is)
first_other packet place number size is (inr udp) = omega (arith, udp, is.number_is)

pub extension_other : (packet : List ℕ) (place number size : ℕ) → IsExtension packet place number size →
    IsKnown number → ⊥
extension_other packet place number size h known = elim h.is [
  | inl options ↦ options_other packet place number size options known
  | inr first ↦ first_other packet place number size first known
]

-- options are no fragment
options_first : (packet : List ℕ) (place number size size' : ℕ) → IsOptions packet place number size →
    IsFirst packet place number size' → ⊥
options_first packet place number size size' a b = elim a.number_is [
  | inl n ↦ omega (arith, n, b.number_is)
  | inr rest ↦ elim rest [ inl n ↦ omega (arith, n, b.number_is) | inr n ↦ omega (arith, n, b.number_is) ]
]

-- an extension head has one size
pub same_size : (packet : List ℕ) (place number size size' : ℕ) → IsExtension packet place number size →
    IsExtension packet place number size' → size ≡ size'
same_size packet place number size size' a b = elim a.is [
  | inl p ↦ elim b.is [
    | inl q ↦ p.size_is ∙ sym q.size_is
    | inr q ↦ absurd (options_first packet place number size size' p q)
  ]
  | inr p ↦ elim b.is [
    | inl q ↦ absurd (options_first packet place number size' size q p)
    | inr q ↦ p.size_is ∙ sym q.size_is
  ]
]

-- both chains end at one place, by one number
pub record EndAlike (end last end' last' : ℕ) : Type 0 where
  pub ends : end ≡ end'
  pub lasts : last ≡ last'

pub same_chain : (packet : List ℕ) (sizes sizes' : List ℕ) (place number end last end' last' : ℕ) → IsKnown last →
    IsKnown last' → IsChain packet sizes place number end last → IsChain packet sizes' place number end' last' →
    EndAlike end last end' last'
same_chain packet [] [] place number end last end' last' known known' a b =
    record { ends = a.0 ∙ sym b.0; lasts = a.1 ∙ sym b.1 }
same_chain packet [] (size ∷ sizes') place number end last end' last' known known' a b =
    absurd (extension_other packet place number size b.0 (subst IsKnown a.1 known))
same_chain packet (size ∷ sizes) [] place number end last end' last' known known' a b =
    absurd (extension_other packet place number size a.0 (subst IsKnown b.1 known'))
same_chain packet (size ∷ sizes) (size' ∷ sizes') place number end last end' last' known known' a b =
    let same : size' ≡ size = same_size packet place number size' size b.0 a.0 in
    same_chain packet sizes sizes' (place + size) (slice_index packet place) end last end' last' known known' a.1
    (subst (λ (s : ℕ). IsChain packet sizes' (place + s) (slice_index packet place) end' last') same b.1)

-- behind an extension head stand fewer
pub record Fewer (packet sizes : List ℕ) (place number end last size : ℕ) : Type 0 where
  pub rest : List ℕ
  pub fewer : length sizes ≡ suc (length rest)
  pub chain : IsChain packet rest (place + size) (slice_index packet place) end last

pub chain_less : (packet sizes : List ℕ) (place number end last size : ℕ) → IsKnown last →
    IsExtension packet place number size → IsChain packet sizes place number end last →
    Fewer packet sizes place number end last size
chain_less packet [] place number end last size known is chain =
    absurd (extension_other packet place number size is (subst IsKnown chain.1 known))
chain_less packet (size' ∷ sizes) place number end last size known is chain =
    let same : size' ≡ size = same_size packet place number size' size chain.0 is in
    record {
      rest = sizes;
      fewer = refl;
      chain = subst (λ (s : ℕ). IsChain packet sizes (place + s) (slice_index packet place) end last) same chain.1;
    }

-- where no extension head begins, a chain ends there
pub chain_none : (packet sizes : List ℕ) (place number end last : ℕ) →
    ((size : ℕ) → IsExtension packet place number size → ⊥) → IsChain packet sizes place number end last →
    (end ≡ place) × (last ≡ number)
chain_none packet [] place number end last none chain = (chain.0, chain.1)
chain_none packet (size ∷ sizes) place number end last none chain = absurd (none size chain.0)
