-- What an announcement tells is what was announced; and the words of an op that is announced tell its call.
use Rattle.std.proofs.Common.{◌≡◌, ℕ, zero, suc, ◌+◌, ◌*◌, ◌/◌, ◌%◌, ◌^◌, ◌<◌, false, true, Bool, List, length, inl, inr, refl, sym, ap, ◌∙◌, arith, true≢false}
use Rattle.std.specs.Prelude.{◌==◌}
use Rattle.std.proofs.lemmas.Nat.{div-mul-add, mod-mul-add}
use Rattle.std.proofs.lemmas.List.{ext_get_or}
use Rattle.plain_map.specs.declared.calls.Call.{Call}
use Rattle.plain_map.specs.declared.calls.Call.TheVariants.{Insert, Remove, Lookup, Tally, Count, Put}
use Rattle.plain_map.specs.Updates.{IsUpdate, value_limit}
use Rattle.word_rows.specs.OpWords.{words_of_call, call_of_kind}
use Rattle.exchange_model.specs.Plans.{Plan}
use Rattle.exchange_model.specs.Codes.{SLOT_WORDS, announcing, over, is_pending, number_in, class_in, call_in}
use Rattle.exchange_model.specs.Steps as S
use Rattle.exchange_model.specs.Steps.{Step, Stand, bucket_of_call}
use Rattle.exchange_model.specs.Goes.{is_announced}
use Rattle.exchange_laws.proofs.Announcements.{at_rest, HasOp, Tells, TellsStep, TellsAt}
use Rattle.exchange_laws.proofs.TrueReads.{IsFront}

-- ---- announcements

half_of : (number class : ℕ) → class < 2 ^ 20 → announcing number class / 2 ^ 20 ≡ 2 * number + 1
half_of number class small = div-mul-add (2 * number + 1) (2 ^ 20) class small

pub announcing_pends : (number class : ℕ) → class < 2 ^ 20 → is_pending (announcing number class) ≡ true
announcing_pends number class small =
    let odd : (2 * number + 1) % 2 ≡ 1 = omega arith in
    ap (λ k. k % 2 == 1) (half_of number class small) ∙ ap (λ k. k == 1) odd

pub number_of : (number class : ℕ) → class < 2 ^ 20 → number_in (announcing number class) ≡ number
number_of number class small =
    (let half : (2 * number + 1) / 2 ≡ number = omega arith in ap (λ k. k / 2) (half_of number class small) ∙ half)

pub class_of : (number class : ℕ) → class < 2 ^ 20 → class_in (announcing number class) ≡ class
class_of number class small = mod-mul-add (2 * number + 1) (2 ^ 20) class small

pub rest_pends_not : (posted : ℕ) → is_pending (at_rest posted) ≡ false
rest_pends_not zero = refl
rest_pends_not (suc posted) =
    let half : over posted / 2 ^ 20 ≡ 2 * posted + 2 = omega arith in
    let even : (2 * posted + 2) % 2 ≡ 0 = omega arith in
    ap (λ k. k % 2 == 1) half ∙ ap (λ k. k == 1) even

-- ---- ops

uncut : (value : ℕ) → value < value_limit → value % value_limit ≡ value
uncut value small = omega (arith, small)

-- the words of an update tell it
pub call_of_slot : (call : Call) → IsUpdate call → call_in (words_of_call call) ≡ call
call_of_slot (Insert key value) small = ap (λ v. Insert key v) (uncut value small)
call_of_slot (Remove key) small = refl
call_of_slot (Lookup key) small = absurd small
call_of_slot (Tally key amount) small = ap (λ v. Tally key v) (uncut amount small)
call_of_slot (Count key value amount) small =
    let kind : (4 + 8 * amount) % 8 ≡ 4 = omega arith in
    let more : (4 + 8 * amount) / 8 ≡ amount = omega arith in
    ap (λ (k : ℕ). call_of_kind k ((4 + 8 * amount) / 8) key (value % value_limit)) kind
    ∙ ap (λ (a : ℕ). Count key (value % value_limit) a) more
    ∙ ap (λ (v : ℕ). Count key v amount) (uncut value small.0)
call_of_slot (Put key value) small = ap (λ v. Put key v) (uncut value small)

slot_long : (call : Call) → IsUpdate call → length (words_of_call call) ≡ SLOT_WORDS
slot_long (Insert key value) is = refl
slot_long (Remove key) is = refl
slot_long (Lookup key) is = absurd is
slot_long (Tally key amount) is = refl
slot_long (Count key value amount) is = refl
slot_long (Put key value) is = refl

-- and where they were all loaded, that is the call
pub loaded_call : (op : ℕ → ℕ) (words : List ℕ) (call : Call) → IsFront words op → length words ≡ SLOT_WORDS →
    HasOp op SLOT_WORDS call → IsUpdate call → call_in words ≡ call
loaded_call op words call front whole has is =
    ap call_in (ext_get_or 0 words (words_of_call call) (whole ∙ sym (slot_long call is))
    (λ i less. front i less ∙ has i (omega (arith, less, whole)))) ∙ call_of_slot call is

-- ---- a seat that has announced its op

abbrev pub IsOf : Stand → Call → Type 0
IsOf S.Idle call = ⊥
IsOf (S.Goes own step) call = own ≡ call
IsOf (S.Glances aim glance) call = ⊥

pub record Announced (plan : Plan) (word : ℕ) (op : ℕ → ℕ) (posted : ℕ) (stand : Stand) : Type 0 where
  pub call : Call
  pub of : IsOf stand call
  pub word_is : word ≡ announcing posted (bucket_of_call plan call)
  pub has : HasOp op SLOT_WORDS call

module _ (plan : Plan) (word : ℕ) (op : ℕ → ℕ) (posted : ℕ) (pends : is_pending word ≡ true) where
  not_rest : word ≡ at_rest posted → ⊥
  not_rest e = true≢false (sym pends ∙ ap is_pending e ∙ rest_pends_not posted)

  module _ (call : Call) (step : Step) where
    abbrev Result : Type 0
    Result = Announced plan word op posted (S.Goes call step)

    by_tells : (c : Bool) → Tells c word op posted (bucket_of_call plan call) call → Result
    by_tells true t = record { call = call; of = refl; word_is = t.0; has = t.1 }
    by_tells false t = absurd (not_rest t)

  by_step : (call : Call) (step : Step) → TellsStep word op posted (bucket_of_call plan call) call step →
      Announced plan word op posted (S.Goes call step)
  by_step call S.Scans t = by_tells call S.Scans false t
  by_step call (S.LoadWord turn) t = by_tells call (S.LoadWord turn) (is_announced turn) t
  by_step call (S.LoadRow turn old words) t = by_tells call (S.LoadRow turn old words) (is_announced turn) t
  by_step call (S.CheckWord turn old words) t = by_tells call (S.CheckWord turn old words) (is_announced turn) t
  by_step call (S.LoadPending a) t = by_tells call (S.LoadPending a) (is_announced a.turn) t
  by_step call (S.LoadAnnounced a found) t = by_tells call (S.LoadAnnounced a found) (is_announced a.turn) t
  by_step call (S.LoadOp a found w words) t = by_tells call (S.LoadOp a found w words) (is_announced a.turn) t
  by_step call (S.StoreRow a found i) t = by_tells call (S.StoreRow a found i) (is_announced a.turn) t
  by_step call (S.Exchange a found) t = by_tells call (S.Exchange a found) (is_announced a.turn) t
  by_step call S.RaisePending t = by_tells call S.RaisePending false t
  by_step call (S.StoreOp i) t = by_tells call (S.StoreOp i) false t.0
  by_step call S.Announce t = by_tells call S.Announce false t.0
  by_step call S.StoreWant t = by_tells call S.StoreWant true t
  by_step call S.StoreAsking t = by_tells call S.StoreAsking true t
  by_step call S.HeldWord t = by_tells call S.HeldWord true t
  by_step call (S.TakeHold old) t = by_tells call (S.TakeHold old) true t
  by_step call (S.HeldHead row) t = by_tells call (S.HeldHead row) true t
  by_step call (S.HeldEntry row at left) t = by_tells call (S.HeldEntry row at left) true t
  by_step call (S.HeldReply row at) t = by_tells call (S.HeldReply row at) true t
  by_step call (S.GiveBack reply) t = by_tells call (S.GiveBack reply) true t
  by_step call (S.Over ending) t = by_tells call (S.Over ending) true t
  by_step call (S.LowerPending ending) t = by_tells call (S.LowerPending ending) false t
  by_step call S.Stuck (inl t) = by_tells call S.Stuck false t
  by_step call S.Stuck (inr t) = by_tells call S.Stuck true t

  pub announced_op : (stand : Stand) → TellsAt plan word op posted stand → Announced plan word op posted stand
  announced_op S.Idle t = absurd (not_rest t)
  announced_op (S.Goes call step) t = by_step call step t
  announced_op (S.Glances aim glance) t = absurd (not_rest t)
