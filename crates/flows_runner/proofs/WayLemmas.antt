-- How packets are dealt, as numbers: these tell it.
use Rattle.std.proofs.Common.{◌≡◌, ℕ, ap, arith}
use Rattle.hash_bits.specs.declared.hashing.Hashing.{Hashing}
use Rattle.hash_bits.specs.declared.hashing.Hashing.TheVariants.{Mix, Ports}
use Rattle.plain_map.specs.declared.rules.Rules.{Rules}
use Rattle.mode_parts.specs.declared.calling.Calling.{Calling}
use Rattle.mode_parts.specs.Callings.{calling_way}
use Rattle.mode_parts.proofs.CallingLemmas.{same_calling}
use Rattle.map_laws.proofs.ByKeyLists.{cons_same}
use Rattle.flows_runner.specs.Asked.{dealing_way, hash_kind, hash_seed}

-- a hash is told by its two numbers
same_hash : (one other : Hashing) → hash_kind one ≡ hash_kind other → hash_seed one ≡ hash_seed other → one ≡ other
same_hash (Mix seed) (Mix more) kind same = ap (λ (n : ℕ). Mix n) same
same_hash (Mix seed) (Ports more) kind same = absurd (omega (arith, kind))
same_hash (Ports seed) (Mix more) kind same = absurd (omega (arith, kind))
same_hash (Ports seed) (Ports more) kind same = ap (λ (n : ℕ). Ports n) same

-- the seats, the rules and the calling are told by all numbers
pub same_dealing : (seats others : ℕ) (rules more : Rules) (calling other : Calling) →
    dealing_way seats rules calling ≡ dealing_way others more other →
    (seats ≡ others) × (rules ≡ more) × (calling ≡ other)
same_dealing seats others rules more calling other same =
    let first = cons_same seats others _ _ same in
    let items = cons_same rules.items more.items _ _ first.1 in
    let depth = cons_same rules.depth more.depth _ _ items.1 in
    let kind = cons_same (hash_kind rules.hashing) (hash_kind more.hashing) _ _ depth.1 in
    let seed = cons_same (hash_seed rules.hashing) (hash_seed more.hashing) (calling_way calling) (calling_way other)
    kind.1 in
    let hash = same_hash rules.hashing more.hashing kind.0 seed.0 in (
      first.0,
      (λ i. record { items = items.0 i; depth = depth.0 i; hashing = hash i }),
      same_calling calling other seed.1,
    )
