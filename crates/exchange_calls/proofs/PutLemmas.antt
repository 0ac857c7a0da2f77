-- The new row is stored, and put in the bucket's word.
use Rattle.std.proofs.Common.{◌≡◌, ◌≢◌, ℕ, ◌+◌, ◌*◌, ◌/◌, ◌^◌, ◌<◌, Bool, true, false, List, [], ◌∷◌, ◌++◌, length, drop, Option, Some, None, refl, sym, ap, subst, ◌∙◌, arith}
use Rattle.std.proofs.lemmas.Bool.{cond-false}
use Rattle.std.specs.Prelude.{◌==◌, if◌then◌else◌, slice_index}
use Rattle.plain_map.specs.declared.calls.Call.{Call}
use Rattle.plain_map.specs.declared.calls.Reply.{Reply}
use Rattle.exchange_model.specs.Plans.{rows_of}
use Rattle.exchange_model.specs.Codes.{head_word, pair_words, row_in}
use Rattle.exchange_model.specs.Steps.{Exchange, Goes, Stand, StoreRow, bucket_of_call, made, new_words, next_row}
use Rattle.exchange_model.specs.Goes.{Ends, Fate, On, Refuses, Spends, ends_with, exchanged, is_announced, lost, reply_for}
use Rattle.exchange_model.specs.Worlds.{seat_after}
use Rattle.exchange_calls.specs.Desks.{IsOf}
use Rattle.exchange_calls.specs.Going.{Fits, Going, IsOn, IsOpen, deed, goes, on, task, told_by, with_now}
use Rattle.exchange_calls.specs.Going.Task.{Exchange as TaskExchange}
use Rattle.exchange_calls.specs.Hands.{IsStoring, making, words_at_hand}
use Rattle.exchange_calls.specs.OwnRowsView.{free_of, kept_of}
use Rattle.exchange_calls.specs.Rows.{first_of}
use Rattle.exchange_calls.specs.Tries.{AreRowsOf, HasPut, IsPutting, swapped}
use Rattle.exchange_calls.specs.declared.desk.Desk.{Desk}
use Rattle.exchange_calls.specs.declared.hand.Hand.{Hand}
use Rattle.exchange_calls.specs.declared.own_rows.OwnRows.{OwnRows}
use Rattle.exchange_calls.proofs.FindLemmas.{words_differ, words_same}
use Rattle.exchange_calls.proofs.GoesLemmas.{plain_goes, stands_here, step_asks}
use Rattle.exchange_calls.proofs.PlaceLemmas.{bucket_at, row_few}

first_is : (xs : List ℕ) (row : ℕ) → Some row ≡ first_of xs → row ≡ slice_index xs 0
first_is [] row e = cc
first_is (x ∷ xs) row e = cc

-- one row at least is there
pub first_some : (xs : List ℕ) → None ≡ first_of xs → length xs ≡ 0
first_some [] e = refl
first_some (x ∷ xs) e = cc

-- ---- the row is stored

module _ (g : Going) (call : Call) (word : ℕ) (hand : Hand) (reply : Option Reply)
    (p : IsPutting g call word hand reply) (rows : OwnRows) (are : AreRowsOf g rows) (row : ℕ)
    (first : Some row ≡ first_of (free_of rows)) where
  row_is : row ≡ next_row g.now
  row_is = first_is (free_of rows) row first ∙ ap (λ (xs : List ℕ). slice_index xs 0) are.free

  pub stored_row : row ≡ next_row g.now
  stored_row = row_is

  pub stored_words : new_words g.plan p.attempt p.found ≡ words_at_hand hand
  stored_words = λ i. head_word (length (p.is_made.items i)) (p.is_made.many i)
      ∷ (pair_words (p.is_made.items i) ++ p.is_made.entries i)

  abbrev pub storing : IsStoring g call row hand
  storing = record {
    attempt = p.attempt;
    found = p.found;
    stand = p.stand;
    words_are = stored_words;
    row_is = stored_row;
  }

  module _ (desk : Desk) (is : IsOf g desk) (on_word : IsOn g.plan (deed g)) where
    -- it is a row of the table
    inside : row < rows_of g.plan
    inside =
        let here : g ≡ on g (Goes call (StoreRow p.attempt p.found 0)) =
        stands_here g (Goes call (StoreRow p.attempt p.found 0)) p.stand in
        let at = (subst (λ (h : Going). IsOn h.plan (deed h)) here on_word).0 in
        omega (arith, at, row_is)

    pub row_low : row < 2 ^ desk.sizes.row_bits
    row_low =
        let same : 2 ^ g.plan.row_bits ≡ 2 ^ desk.sizes.row_bits = ap (λ (k : ℕ). 2 ^ k) is.row_bits in
        omega (arith, inside, is.rows, same)

    pub row_short : row < 2 ^ 32
    row_short = row_few g desk row is inside

-- ---- the exchange

-- a row was given for another one
swapped_on : (g : Going) (word : ℕ) (call : Call) (stand : Stand) (next : Fate) →
    with_now (on g stand) (seat_after (exchanged (on g stand).now (row_in g.plan word)) call next)
    (told_by next g.told) ≡ making (swapped g word) call next
swapped_on g word call stand (On step) = refl
swapped_on g word call stand (Ends reply) = refl
swapped_on g word call stand Spends = refl
swapped_on g word call stand Refuses = refl

module _ (g : Going) (call : Call) (word : ℕ) (hand : Hand) (reply : Option Reply)
    (p : IsPutting g call word hand reply) (desk : Desk) (is : IsOf g desk) (b : Going)
    (at : b ≡ on g (Goes call (Exchange p.attempt p.found))) where
  pub exchange_asked : (there old new bucket row : ℕ) → there ≡ desk.buckets + bucket →
      bucket ≡ bucket_of_call g.plan call → old ≡ word → row ≡ next_row g.now →
      new ≡ (word / 2 ^ desk.sizes.row_bits + 1) * 2 ^ desk.sizes.row_bits + row → task b ≡ TaskExchange there old new
  exchange_asked there old new bucket row there_is bucket_is old_is row_is new_is =
      step_asks g b call (Exchange p.attempt p.found) at
      ∙ (λ i. TaskExchange
      ((bucket_at g desk is (bucket_of_call g.plan call)
      ∙ ap (λ (k : ℕ). desk.buckets + k) (sym bucket_is) ∙ sym there_is) i)
      ((p.word_is ∙ sym old_is) i)
      (((λ j. (p.word_is j / 2 ^ is.row_bits j + 1) * 2 ^ is.row_bits j + sym row_is j) ∙ sym new_is) i))

  module _ (c : Going) (w : ℕ) (step : c ≡ goes b w) where
    -- the word has changed
    pub put_lost : w ≢ word → (rows : OwnRows) → AreRowsOf g rows → HasPut g c call word p.attempt.turn rows None
    put_lost other rows are =
        let test : (w == p.attempt.word) ≡ false = words_differ w p.attempt.word (λ e. other (e ∙ p.word_is)) in (
          plain_goes g b c call (Exchange p.attempt p.found) w at
              (cond-false (w == p.attempt.word)
              (exchanged (on g (Goes call (Exchange p.attempt p.found))).now (row_in g.plan p.attempt.word))
              (on g (Goes call (Exchange p.attempt p.found))).now test) step
              ∙ ap (making g call) (cond-false (w == p.attempt.word)
              (ends_with (is_announced p.attempt.turn) (reply_for g.seat (made g.plan p.attempt p.found).made))
              (lost p.attempt.turn) test),
          are,
        )

    -- or the row stands there
    put_made : w ≡ word → c ≡ making (swapped g word) call (ends_with (is_announced p.attempt.turn) reply)
    put_made same =
        let stand : Stand = Goes call (Exchange p.attempt p.found) in
        let test : (w == p.attempt.word) ≡ true = words_same w p.attempt.word (same ∙ sym p.word_is) in
        step ∙ ap (λ (h : Going). goes h w) at
        ∙ (λ i. with_now (on g stand)
        (seat_after (if test i then exchanged (on g stand).now (row_in g.plan p.attempt.word) else (on g stand).now)
        call
        (if test i then ends_with (is_announced p.attempt.turn) (reply_for g.seat (made g.plan p.attempt p.found).made)
        else lost p.attempt.turn))
        (told_by (if test i
        then ends_with (is_announced p.attempt.turn) (reply_for g.seat (made g.plan p.attempt p.found).made)
        else lost p.attempt.turn) g.told))
        ∙ (λ i. with_now (on g stand) (seat_after (exchanged (on g stand).now (row_in g.plan (p.word_is i))) call
        (ends_with (is_announced p.attempt.turn) (p.is_made.replied i)))
        (told_by (ends_with (is_announced p.attempt.turn) (p.is_made.replied i)) g.told))
        ∙ swapped_on g word call stand (ends_with (is_announced p.attempt.turn) reply)

    -- with a reply
    pub put_replies : w ≡ word → Fits b w → reply ≢ None
    put_replies same fits none =
        stuck (is_announced p.attempt.turn)
        (subst (λ (h : Going). IsOpen h.now.stand)
        (sym step ∙ put_made same
        ∙ ap (λ (o : Option Reply). making (swapped g word) call (ends_with (is_announced p.attempt.turn) o)) none)
        fits.open_)
      where
        stuck : (announced : Bool) → IsOpen (making (swapped g word) call (ends_with announced None)).now.stand → ⊥
        stuck true open_ = open_
        stuck false open_ = open_

    pub put_done : w ≡ word → (told : Reply) → reply ≡ Some told → (old new : OwnRows) (row : ℕ) → AreRowsOf g old →
        row ≡ row_in g.plan word → free_of new ≡ drop 1 (free_of old) → kept_of new ≡ kept_of old ++ row ∷ [] →
        HasPut g c call word p.attempt.turn new (Some told)
    put_done same told reply_is old new row are row_is free kept = (
      put_made same
          ∙ ap (λ (o : Option Reply). making (swapped g word) call (ends_with (is_announced p.attempt.turn) o))
          reply_is,
      record {
        free = free ∙ ap (λ (xs : List ℕ). drop 1 xs) are.free;
        kept = kept ∙ (λ i. are.kept i ++ row_is i ∷ []);
      },
    )
