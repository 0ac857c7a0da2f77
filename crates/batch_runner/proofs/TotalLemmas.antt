-- One call more.
use Rattle.std.proofs.Common.{◌≡◌, ℕ, ◌<◌, ◌≤◌, ◌+◌, max, Bool, List, [], ◌∷◌, ◌++◌, length, filter, fold, ◌^◌, subst, sym, ap, ◌∙◌, append-nil, length-append, arith}
use Rattle.std.proofs.lemmas.Int.{clamps}
use Rattle.std.specs.Prelude.{count_by, is_some, not}
use Rattle.std.proofs.lemmas.Grind.{flat_map-append}
use Rattle.std.proofs.lemmas.List.Sums.{fold-append, count_by-le-length, length-filter}
use Rattle.std.proofs.lemmas.List.Elements.{filter-append}
use Rattle.plain_map.specs.declared.calls.Call.{Call}
use Rattle.plain_map.specs.declared.calls.Reply.{Reply}
use Rattle.plain_map.specs.declared.full.Full.{Full}
use Rattle.plain_map.specs.declared.records.Record.{Record}
use Rattle.plain_map.specs.Calls.{is_update}
use Rattle.trace_share.specs.declared.outcome.Outcome.{Outcome}
use Rattle.trace_share.specs.declared.outcome.Outcome.TheVariants.{Answered, Refused}
use Rattle.trace_share.specs.Outcomes.{full_in, record_in}
use Rattle.batch_runner.specs.declared.totals.Totals.{Totals}
use Rattle.batch_runner.specs.declared.totals.Replies.{Replies}
use Rattle.batch_runner.specs.Printed.{answers_in, most_steps, refused_in}
use Rattle.batch_runner.specs.Totals.{AreFewer, is_absent, is_found, is_gone, is_new, is_noroom, is_old, replies_in, totals_of, with_replies}

-- ---- replies

abbrev replies_of : List Record → Replies
replies_of rs = record {
  new = count_by (λ (r : Record). is_new r.reply) rs;
  old = count_by (λ (r : Record). is_old r.reply) rs;
  noroom = count_by (λ (r : Record). is_noroom r.reply) rs;
  gone = count_by (λ (r : Record). is_gone r.reply) rs;
  found = count_by (λ (r : Record). is_found r.reply) rs;
  absent = count_by (λ (r : Record). is_absent r.reply) rs;
}

-- ---- totals

-- an answered call more
answers_more : (all : List Outcome) (made : Record) → answers_in (all ++ Answered made ∷ [])
    ≡ answers_in all ++ made ∷ []
answers_more all made = flat_map-append record_in all (Answered made ∷ [])

-- a refused one
answers_same : (all : List Outcome) (packet : ℕ) (call : Call) (full : Full) →
    answers_in (all ++ Refused packet call full ∷ []) ≡ answers_in all
answers_same all packet call full =
    flat_map-append record_in all (Refused packet call full ∷ []) ∙ append-nil (answers_in all)

-- the steps of updates and of lookups
abbrev is_updating : Record → Bool
is_updating r = is_update r.call

abbrev is_looking : Record → Bool
is_looking r = not (is_update r.call)

-- totals by the answered calls
abbrev totals_by : (calls refused : ℕ) → List Record → Totals
totals_by calls refused rs = record {
  calls = calls;
  refused = refused;
  update = most_steps (filter is_updating rs);
  lookup = most_steps (filter is_looking rs);
  replies = replies_of rs;
}

-- there are no more replies of a kind than calls
fewer_replies : (rs : List Record) (test : Record → Bool) (all : ℕ) → length rs ≤ all → count_by test rs ≤ all
fewer_replies rs test all few = omega (arith, count_by-le-length test rs, few)

few_answers : (all : List Outcome) → length (answers_in all) ≤ length all
few_answers [] = omega arith
few_answers (Answered made ∷ all) = omega (arith, few_answers all)
few_answers (Refused packet call full ∷ all) = omega (arith, few_answers all)

pub replies_fit : (all : List Outcome) (limit : ℕ) (replies : Replies) → replies ≡ (totals_of all).replies →
    length all < limit → AreFewer limit replies
replies_fit all limit replies is few =
    let below : (test : Reply → Bool) → replies_in test all < limit = λ (test : Reply → Bool).
    omega (arith, fewer_replies (answers_in all) (λ (r : Record). test r.reply) (length all) (few_answers all), few) in
    subst (AreFewer limit) (sym is) (record {
      new = below is_new;
      old = below is_old;
      noroom = below is_noroom;
      gone = below is_gone;
      found = below is_found;
      absent = below is_absent;
    })

pub refused_fit : (all : List Outcome) → (totals_of all).refused ≤ length all
refused_fit all = count_by-le-length (λ (o : Outcome). is_some (full_in o)) all

-- ---- two lists

pub count_sum : {A : Type 0} (test : A → Bool) (xs ys : List A) →
    count_by test (xs ++ ys) ≡ count_by test xs + count_by test ys
count_sum test xs ys =
    omega (
      arith,
      length-filter test (xs ++ ys),
      ap length (filter-append test xs ys),
      length-append (filter test xs) (filter test ys),
      length-filter test xs,
      length-filter test ys,
    )

-- the most steps from some on
most_from : (most : ℕ) (rs : List Record) →
    fold (λ (m : ℕ) (r : Record). max m r.steps) most rs ≡ max most (most_steps rs)
most_from most [] = omega (arith, clamps)
most_from most (r ∷ rs) =
    omega (arith, clamps, most_from (max most r.steps) rs, most_from (max 0 r.steps) rs)

-- and of those that pass
steps_sum : (p : Record → Bool) (rs more : List Record) →
    most_steps (filter p (rs ++ more)) ≡ max (most_steps (filter p rs)) (most_steps (filter p more))
steps_sum p rs more =
    ap most_steps (filter-append p rs more)
    ∙ fold-append (λ (m : ℕ) (r : Record). max m r.steps) 0 (filter p rs) (filter p more)
    ∙ most_from (most_steps (filter p rs)) (filter p more)

replies_sum : (rs more : List Record) → replies_of (rs ++ more) ≡ with_replies (replies_of more) (replies_of rs)
replies_sum rs more = (λ i. record {
  new = count_sum (λ (r : Record). is_new r.reply) rs more i;
  old = count_sum (λ (r : Record). is_old r.reply) rs more i;
  noroom = count_sum (λ (r : Record). is_noroom r.reply) rs more i;
  gone = count_sum (λ (r : Record). is_gone r.reply) rs more i;
  found = count_sum (λ (r : Record). is_found r.reply) rs more i;
  absent = count_sum (λ (r : Record). is_absent r.reply) rs more i;
})

-- those of a batch more
abbrev pub with_totals : (batch : Totals) → Totals → Totals
with_totals batch totals = record {
  calls = totals.calls + batch.calls;
  refused = totals.refused + batch.refused;
  update = max totals.update batch.update;
  lookup = max totals.lookup batch.lookup;
  replies = with_replies batch.replies totals.replies;
}

pub totals_sum : (all more : List Outcome) →
    totals_of (all ++ more) ≡ with_totals (totals_of more) (totals_of all)
totals_sum all more =
    (λ i. totals_by (length-append all more i)
    (count_sum (λ (o : Outcome). is_some (full_in o)) all more i) (flat_map-append record_in all more i))
    ∙ (λ i. record {
      calls = length all + length more;
      refused = refused_in all + refused_in more;
      update = steps_sum is_updating (answers_in all) (answers_in more) i;
      lookup = steps_sum is_looking (answers_in all) (answers_in more) i;
      replies = replies_sum (answers_in all) (answers_in more) i;
    })

-- what is added to the totals of fewer than 2^63 calls
pub totals_fit : (all : List Outcome) (totals : Totals) → totals ≡ totals_of all → length all < 2 ^ 63 →
    (totals.calls < 2 ^ 63) × (totals.refused < 2 ^ 63) × AreFewer (2 ^ 63) totals.replies
totals_fit all totals is few = (
  omega (arith, ap (λ (t : Totals). t.calls) is, few),
  omega (arith, ap (λ (t : Totals). t.refused) is, refused_fit all, few),
  replies_fit all (2 ^ 63) totals.replies (ap (λ (t : Totals). t.replies) is) few,
)
