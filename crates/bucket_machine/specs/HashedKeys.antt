-- A key beside its hash.
use Rattle.std.specs.Prelude.{◌≡◌}
use Rattle.hash_bits.specs.declared.hashing.Hashing.{Hashing}
use Rattle.plain_map.specs.Keys.{hash_of_key}
use Rattle.bucket_machine.specs.declared.hashed.Hashed.{Hashed}

-- the hash is the key's
pub record IsHashed (hashing : Hashing) (own : Hashed) : Type 0 where
  pub hash : own.hash ≡ hash_of_key hashing own.key
