-- The totals of three classes of packets as a plain object: what some adds make of the totals that were first.
-- Source: the shared object of Herlihy, "Wait-free synchronization" (1991), whose value here is three counts and
-- three sums.
use Rattle.std.specs.Prelude.{ℕ, ◌+◌, ◌^◌, ◌<◌, ◌≤◌, ◌==◌, Bool, nat_lt, nat_le, ◌&&◌, if◌then◌else◌, List, slice_index, count_by, sum_by}
use Rattle.sim_steps.specs.declared.adds.Add.{Add}
use Rattle.sim_steps.specs.declared.adds.Totals.{Totals}

-- an add of one of the three classes, with a length that a captured packet may have, in bytes
abbrev pub IsAdd : Add → Type 0
IsAdd add = (add.class < 3) × (add.length ≤ 262144)

-- the same as a test
abbrev pub is_add : Add → Bool
is_add add = nat_lt add.class 3 && nat_le add.length 262144

-- how many of these adds are of a class, and how many bytes they have
abbrev pub adds_of : ℕ → List Add → ℕ
adds_of class adds = count_by (λ add. add.class == class) adds

-- the bytes of a class in some adds
abbrev pub length_of : ℕ → List Add → ℕ
length_of class adds = sum_by (λ add. if add.class == class then add.length else 0) adds

-- the count and the bytes of a class after these adds
abbrev pub count_after : Totals → List Add → ℕ → ℕ
count_after first adds class = slice_index first.counts class + adds_of class adds

-- a class's bytes after some adds
abbrev pub bytes_after : Totals → List Add → ℕ → ℕ
bytes_after first adds class = slice_index first.bytes class + length_of class adds

-- totals with which a table may be opened
abbrev pub AreSmall : Totals → Type 0
AreSmall first = (class : ℕ) → class < 3 → (slice_index first.counts class < 2 ^ 62)
    × (slice_index first.bytes class < 2 ^ 62)
