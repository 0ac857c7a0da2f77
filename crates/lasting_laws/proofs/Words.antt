-- What the words of a lasting table say is what was spelled.
use Rattle.std.proofs.Common.{◌≡◌, ◌≢◌, ℕ, ◌+◌, ◌*◌, ◌/◌, ◌%◌, ◌^◌, ◌<◌, ◌≤◌, false, true, refl, ap, ◌∙◌, arith}
use Rattle.std.specs.Prelude.{◌==◌}
use Rattle.std.proofs.lemmas.Nat.{div-mul-add, mod-mul-add}
use Rattle.plain_map.specs.declared.calls.Call.{Call}
use Rattle.plain_map.specs.declared.calls.Call.TheVariants.{Insert, Remove, Lookup, Tally, Count, Put}
use Rattle.plain_map.specs.Updates.{IsUpdate, value_limit}
use Rattle.word_rows.specs.OpWords.{words_of_call, call_of_kind}
use Rattle.lasting_model.specs.Codes.{tag, generation_in, row_in, announcing, update_in, class_in, call_in, asking, holding, is_asking, time_in, held_row}

-- a bucket word tells its generation
pub generation_of_tag : (generation row : ℕ) → row < 2 ^ 17 → generation_in (tag generation row) ≡ generation
generation_of_tag generation row small = div-mul-add generation (2 ^ 17) row small

-- and its row
pub row_of_tag : (generation row : ℕ) → row < 2 ^ 17 → row_in (tag generation row) ≡ row
row_of_tag generation row small = mod-mul-add generation (2 ^ 17) row small

-- an announcement tells its update
pub update_of : (number class : ℕ) → class < 2 ^ 15 → update_in (announcing number class) ≡ number
update_of number class small = div-mul-add number (2 ^ 15) class small

-- and its class
pub class_of : (number class : ℕ) → class < 2 ^ 15 → class_in (announcing number class) ≡ class
class_of number class small = mod-mul-add number (2 ^ 15) class small

-- where there is an update, there is a word
pub announcing_some : (number class : ℕ) → 1 ≤ number → announcing number class ≢ 0
announcing_some number class some e = omega (arith, some, e)

-- a value below the limit is not cut
uncut : (value : ℕ) → value < value_limit → value % value_limit ≡ value
uncut value small = omega (arith, small)

-- the words of an update tell it
pub call_of_slot : (call : Call) → IsUpdate call → call_in (words_of_call call) ≡ call
call_of_slot (Insert key value) small = ap (λ v. Insert key v) (uncut value small)
call_of_slot (Remove key) small = refl
call_of_slot (Lookup key) small = absurd small
call_of_slot (Tally key amount) small = ap (λ v. Tally key v) (uncut amount small)
call_of_slot (Count key value amount) small =
    let kind : (4 + 8 * amount) % 8 ≡ 4 = omega arith in
    let more : (4 + 8 * amount) / 8 ≡ amount = omega arith in
    ap (λ (k : ℕ). call_of_kind k ((4 + 8 * amount) / 8) key (value % value_limit)) kind
    ∙ ap (λ (a : ℕ). Count key (value % value_limit) a) more
    ∙ ap (λ (v : ℕ). Count key v amount) (uncut value small.0)
call_of_slot (Put key value) small = ap (λ v. Put key v) (uncut value small)

-- an asking is one
pub asking_asks : (time : ℕ) → is_asking (asking time) ≡ true
asking_asks time = (let e : asking time % 2 ≡ 1 = omega arith in ap (λ k. k == 1) e)

-- and tells its time
pub time_of_asking : (time : ℕ) → time_in (asking time) ≡ time
time_of_asking time = omega arith

-- a hold is none, tells its row, and is not nothing
pub holding_asks_not : (row : ℕ) → is_asking (holding row) ≡ false
holding_asks_not row = (let e : holding row % 2 ≡ 0 = omega arith in ap (λ k. k == 1) e)

pub row_of_holding : (row : ℕ) → held_row (holding row) ≡ row
row_of_holding row = omega arith

pub holding_some : (row : ℕ) → holding row ≢ 0
holding_some row e = omega (arith, e)
