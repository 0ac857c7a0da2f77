-- What the words of a table say is what was spelled.
use Rattle.std.proofs.Common.{◌≡◌, ℕ, ◌^◌, ◌<◌, ◌≤◌, arith}
use Rattle.std.proofs.lemmas.Nat.{div-mul-add, mod-mul-add}
use Rattle.hash_bits.proofs.PrefixLemmas.{first_bits-within}
use Rattle.plain_map.specs.declared.keys.Key.{Key}
use Rattle.plain_map.specs.Keys.{hash_of_key}
use Rattle.plain_map.specs.PlainObject.{class_of}
use Rattle.plain_map.proofs.KeyLemmas.{hash_of_key-within}
use Rattle.exchange_model.specs.Plans.{Plan, IsPlan, holders_of, buckets_of, rows_of, bucket_for}
use Rattle.exchange_model.specs.Codes.{tag, generation_in, row_in}

-- a bucket word tells its generation
pub generation_of_tag : (plan : Plan) (generation row : ℕ) → row < 2 ^ plan.row_bits →
    generation_in plan (tag plan generation row) ≡ generation
generation_of_tag plan generation row small = div-mul-add generation (2 ^ plan.row_bits) row small

-- and its row
pub row_of_tag : (plan : Plan) (generation row : ℕ) → row < 2 ^ plan.row_bits →
    row_in plan (tag plan generation row) ≡ row
row_of_tag plan generation row small = mod-mul-add generation (2 ^ plan.row_bits) row small

-- the bucket of a key is one that there is
pub bucket_small : (plan : Plan) → IsPlan plan → (key : Key) → bucket_for plan key < buckets_of plan.settings
unfolding class_of
bucket_small plan is key =
    first_bits-within (hash_of_key plan.hashing key) plan.settings.depth (hash_of_key-within plan.hashing key)
    (omega (arith, is.depth))

-- the numbers of all rows have room in a bucket word
pub rows_few : (plan : Plan) → IsPlan plan → rows_of plan ≤ 2 ^ plan.row_bits
rows_few plan is = is.rows

-- a seat is one of those who can hold
pub seat_holds : (plan : Plan) (p : ℕ) → p < plan.settings.seats → p < holders_of plan.settings
seat_holds plan p inside = omega (arith, inside)
