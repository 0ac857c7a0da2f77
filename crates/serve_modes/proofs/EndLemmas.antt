-- In which batch a call stands, and how many batches there are.
use Rattle.std.proofs.Common.{◌≡◌, ◌≤◌, ◌<◌, ℕ, ◌+◌, ◌-◌, ◌*◌, ◌/◌, suc, zero, max, List, refl, sym, ap, subst, ◌∙◌, mul-suc, mul_comm, arith}
use Rattle.std.specs.List.{All}
use Rattle.std.proofs.lemmas.List.Elements.{All-weaker}
use Rattle.std.proofs.lemmas.Nat.{div-mul-add}
use Rattle.plain_map.specs.declared.calls.Call.{Call}
use Rattle.serve_modes.specs.Batches.{IsOfBatch, batch_count}
use Rattle.mode_parts.specs.Reading.{AreBetween, IsBetween}

-- one batch more has so many packets more
pub batch_more : (size batches many : ℕ) → size * batches ≡ many → size * suc batches ≡ many + size
batch_more size batches many whole = mul-suc size batches ∙ ap (λ (n : ℕ). n + size) whole

-- calls between two numbers are those of the batch
pub between_is_batch : (size batch many more : ℕ) (calls : List (ℕ × Call)) → size * batch ≡ many →
    more ≤ size → AreBetween many (many + more) calls → All (IsOfBatch size batch) calls
between_is_batch size batch many more calls whole few between =
    All-weaker (IsBetween many (many + more)) (IsOfBatch size batch)
    (λ (call : ℕ × Call) is.
    let upto : call.0 ≤ many + size = omega (arith, is.upto, few) in (
      subst (λ (n : ℕ). n < call.0) (sym whole) is.above,
      subst (λ (n : ℕ). call.0 ≤ n) (sym (batch_more size batch many whole)) upto,
    )) calls between.each

-- no packets have no batches
no_batches : (size batches : ℕ) → 0 < size → size * batches ≡ 0 → batches ≡ 0
no_batches size zero some none = refl
no_batches size (suc batches) some none =
    let more : size * batches + size ≡ 0 = sym (mul-suc size batches) ∙ none in
    absurd (large (size * batches) size some more)
  where
    large : (front last : ℕ) → 0 < last → front + last ≡ 0 → ⊥
    large front last some none = omega (arith, some, none)

-- how many batches there are, where a last one is begun
pub last_count : (size before packets batches : ℕ) → 0 < size → size * batches ≡ before → packets ≤ size →
    (packets ≡ 0 → before ≡ 0) → suc batches ≡ batch_count size (before + packets)
last_count size before zero batches some whole few begun =
    let none : before ≡ 0 = begun refl in
    let parts : before + 0 + (size - 1) ≡ 0 * size + (size - 1) = omega (arith, none) in
    let divided : (before + 0 + (size - 1)) / size ≡ 0 =
    ap (λ (n : ℕ). n / size) parts ∙ div-mul-add 0 size (size - 1) (omega (arith, some)) in
    ap suc (no_batches size batches some (whole ∙ none)) ∙ ap (λ (n : ℕ). max 1 n) (sym divided)
last_count size before (suc packets) batches some whole few begun =
    let more : suc batches * size ≡ before + size = mul_comm (suc batches) size ∙ batch_more size batches before whole
    in
    let divided : (before + suc packets + (size - 1)) / size ≡ suc batches =
    ap (λ (n : ℕ). n / size) (parts (suc batches * size) more)
    ∙ div-mul-add (suc batches) size packets (omega (arith, few)) in
    let least : suc batches ≡ max 1 (suc batches) = omega arith in
    least ∙ ap (λ (n : ℕ). max 1 n) (sym divided)
  where
    parts : (product : ℕ) → product ≡ before + size → before + suc packets + (size - 1) ≡ product + packets
    parts product is = omega (arith, is, some)
