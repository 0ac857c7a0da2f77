-- An announcement, step by step.
use Rattle.std.proofs.Common.{◌≡◌, ℕ, ◌+◌, ◌*◌, ◌<◌, List, ◌∷◌, length, take, drop, replicate, refl, sym, ap, ◌∙◌, arith}
use Rattle.std.proofs.lemmas.Bool.{cond-true, lt-ltb}
use Rattle.std.specs.Prelude.{nat_lt, if◌then◌else◌, slice_index}
use Rattle.plain_map.specs.declared.calls.Call.{Call}
use Rattle.plain_map.specs.declared.calls.Call.TheVariants.{Insert, Remove, Lookup, Tally, Count, Put}
use Rattle.plain_map.specs.Updates.{IsUpdate}
use Rattle.word_rows.specs.OpWords.{words_of_call}
use Rattle.exchange_model.specs.Codes.{SLOT_WORDS, announcing, over}
use Rattle.exchange_model.specs.Words.{OpWord, place}
use Rattle.exchange_model.specs.Steps.{Announce, Goes, LoadWord, LowerPending, Over, RaisePending, Step, StoreOp, class_of_call}
use Rattle.exchange_model.specs.Goes.{ended}
use Rattle.exchange_calls.specs.Going.{Going, goes, goes_by, on, task}
use Rattle.exchange_calls.specs.Going.Task.{Lower, Raise, Store}
use Rattle.exchange_calls.specs.Announces.{IsOver, announced_more}
use Rattle.exchange_calls.specs.Desks.{IsOf}
use Rattle.exchange_calls.specs.Hands.{making}
use Rattle.exchange_calls.specs.Writes.{Writes}
use Rattle.exchange_calls.specs.declared.desk.Desk.{Desk}
use Rattle.exchange_calls.proofs.GoesLemmas.{plain_goes, stands_here, step_asks}
use Rattle.exchange_calls.proofs.PlaceLemmas.{op_at}
use Rattle.exchange_calls.proofs.RunLemmas.{stores_go}

-- a call's words are so many, and an op row has its number before them
call_long : (call : Call) → IsUpdate call → length (words_of_call call) ≡ SLOT_WORDS
call_long (Insert key value) is = refl
call_long (Remove key) is = refl
call_long (Lookup key) is = absurd is
call_long (Tally key amount) is = refl
call_long (Count key value amount) is = refl
call_long (Put key value) is = refl

pub call_behind : (call : Call) (number : ℕ) → IsUpdate call →
    take 7 (drop 1 (number ∷ words_of_call call)) ≡ words_of_call call
call_behind (Insert key value) number is = refl
call_behind (Remove key) number is = refl
call_behind (Lookup key) number is = absurd is
call_behind (Tally key amount) number is = refl
call_behind (Count key value amount) number is = refl
call_behind (Put key value) number is = refl

module _ (f : Going) (call : Call) (stand : f.now.stand ≡ Goes call RaisePending) where
  raises : f ≡ on f (Goes call RaisePending)
  raises = stands_here f (Goes call RaisePending) stand

  pub raise_asked : (at : ℕ) → at ≡ 0 → task f ≡ Raise at
  raise_asked at at_is = step_asks f f call RaisePending raises ∙ ap Raise (sym at_is)

  -- so many words of the op are stored
  abbrev pub op_stored : ℕ → Going
  op_stored k = on f (Goes call (if nat_lt k SLOT_WORDS then StoreOp k else Announce))

  op_still : (k : ℕ) → k < SLOT_WORDS → op_stored k ≡ on f (Goes call (StoreOp k))
  op_still k h = ap (λ (s : Step). on f (Goes call s))
      (cond-true (nat_lt k SLOT_WORDS) (StoreOp k) Announce (lt-ltb k SLOT_WORDS h))

  module _ (a : Going) (word : ℕ) (first : a ≡ goes f word) where
    pub raised : a ≡ op_stored 0
    raised = plain_goes f f a call RaisePending word raises refl first

    module _ (desk : Desk) (is : IsOf f desk) (start : ℕ) (start_is : start ≡ desk.ops + SLOT_WORDS * desk.holder)
        (words : List ℕ) (words_are : words ≡ words_of_call call) (update : IsUpdate call) where
      long : length words ≡ 7
      long = ap length words_are ∙ call_long call update

      op_next : (k : ℕ) → k < 7 → goes (op_stored k) 0 ≡ op_stored (k + 1)
      op_next k h =
          plain_goes f (op_stored k) _ call (StoreOp k) 0 (op_still k h) refl refl

      op_asked : (k : ℕ) → k < 7 → task (op_stored k) ≡ Store (start + k) (slice_index words k)
      op_asked k h =
          let there : place f.plan (OpWord f.seat k) ≡ start + k =
          omega (arith, op_at f desk is f.seat k, start_is, is.seat) in
          step_asks f (op_stored k) call (StoreOp k) (op_still k h)
          ∙ (λ i. Store (there i) (slice_index (sym words_are i) k))

      pub op_writes : Writes a start words
      op_writes i h =
          ap (λ (g : Going). task (goes_by g (replicate i 0))) raised
          ∙ ap task (stores_go op_stored 7 op_next i (omega (arith, h, long)))
          ∙ op_asked i (omega (arith, h, long))

      module _ (b : Going) (second : b ≡ goes_by a (replicate (length words) 0)) where
        stored : b ≡ on f (Goes call Announce)
        stored =
            second ∙ ap (λ (g : Going). goes_by g (replicate (length words) 0)) raised
            ∙ ap (λ (n : ℕ). goes_by (op_stored 0) (replicate n 0)) long
            ∙ stores_go op_stored 7 op_next 7 (omega arith)

        pub announce_asked : (at word bucket number : ℕ) → at ≡ 1 + desk.holder → bucket ≡ class_of_call f.plan call →
            number ≡ f.now.posted → word ≡ announcing number bucket → task b ≡ Store at word
        announce_asked at word bucket number at_is bucket_is number_is word_is =
            step_asks f b call Announce stored
            ∙ (λ i. Store ((ap (λ (s : ℕ). 1 + s) is.seat ∙ sym at_is) i)
            (((λ j. announcing (sym number_is j) (sym bucket_is j)) ∙ sym word_is) i))

        pub announced_goes : (c : Going) → c ≡ goes b 0 → c ≡ on f (Goes call (LoadWord 2))
        announced_goes c third = plain_goes f b c call Announce 0 stored refl third

-- ---- its end

module _ (f : Going) (call : Call) (o : IsOver f call) where
  overs : f ≡ on f (Goes call (Over o.ending))
  overs = stands_here f (Goes call (Over o.ending)) o.stand

  pub over_asked : (desk : Desk) → IsOf f desk → (at word number : ℕ) → at ≡ 1 + desk.holder → number ≡ f.now.posted →
      word ≡ over number → task f ≡ Store at word
  over_asked desk is at word number at_is number_is word_is =
      step_asks f f call (Over o.ending) overs
      ∙ (λ i. Store ((ap (λ (s : ℕ). 1 + s) is.seat ∙ sym at_is) i)
      ((ap over (sym number_is) ∙ sym word_is) i))

  module _ (a : Going) (first : a ≡ goes f 0) where
    is_over : a ≡ on (announced_more f) (Goes call (LowerPending o.ending))
    is_over = first ∙ ap (λ (g : Going). goes g 0) overs

    pub lower_asked : (at : ℕ) → at ≡ 0 → task a ≡ Lower at
    lower_asked at at_is =
        step_asks (announced_more f) a call (LowerPending o.ending) is_over ∙ ap Lower (sym at_is)

    pub lowered : (b : Going) (word : ℕ) → b ≡ goes a word → b ≡ making (announced_more f) call (ended o.ending)
    lowered b word second =
        plain_goes (announced_more f) a b call (LowerPending o.ending) word is_over refl second
