-- Once an update has ended, the row in use of its bucket says its number and its reply.
use Rattle.std.proofs.Common.{◌≡◌, ℕ, ◌+◌, ◌*◌, ◌<◌, ◌≤◌, true, List, [], ◌∷◌, length, Some, refl, sym, ap, ◌∙◌, subst, arith}
use Rattle.std.proofs.lemmas.List.{length-append}
use Rattle.plain_map.specs.declared.calls.Call.{Call}
use Rattle.plain_map.specs.declared.calls.Call.TheVariants.{Insert, Remove, Lookup, Tally, Count, Put}
use Rattle.plain_map.specs.Calls.{key_in, is_update}
use Rattle.plain_map.specs.Updates.{IsUpdate}
use Rattle.plain_map.specs.declared.records.Record.{Record}
use Rattle.word_rows.specs.ReplyWords.{word_of_reply}
use Rattle.bucket_states.specs.Laws.{applied_of, reply_at}
use Rattle.table_model.specs.declared.events.Event.{Event}
use Rattle.table_model.specs.Setup.{seats_of}
use Rattle.lasting_model.specs.Plans.{Plan, IsPlan, ample}
use Rattle.lasting_model.specs.Codes.{row_in, generation_in, number_place, reply_place}
use Rattle.lasting_model.specs.Steps.{Update, bucket_of_update}
use Rattle.lasting_model.specs.Worlds.{Lasting}
use Rattle.lasting_laws.proofs.Pools.{word_in}
use Rattle.lasting_laws.proofs.Marks.{Marks}
use Rattle.lasting_laws.proofs.Tied.{Tied}
use Rattle.lasting_laws.proofs.Shown.{View, Rows, Late, Says, Moment, view}
use Rattle.lasting_laws.proofs.Ghost.{inside_ghost, there, named_small, few_idle, replies_are, said_number, said_reply, said_long}

-- an update is one by its test
pub update_tested : (call : Call) → IsUpdate call → is_update call ≡ true
update_tested (Insert key value) u = refl
update_tested (Remove key) u = refl
update_tested (Lookup key) u = absurd u
update_tested (Tally key amount) u = refl
update_tested (Count key value amount) u = refl
update_tested (Put key value) u = refl

module _ (plan : Plan) (is_plan : IsPlan plan) (y : Lasting) (m : Moment (ample plan))
    (word_at : (bucket at : ℕ) → ℕ) (cut : (clock : ℕ) → List Event) (tied : Tied plan y) (marks : Marks plan y) where
  abbrev z : View
  z = view plan y m word_at cut tied

  module _ (rows : Rows plan z) (q : ℕ) (h : q < plan.settings.seats) (u : Update) (late : Late plan z q u)
      (update : IsUpdate u.call) where
    abbrev b : ℕ
    b = bucket_of_update (ample plan) u

    named : m.common.named b ≡ true
    named = there plan is_plan m rows.numbered (key_in u.call)

    inside : q < seats_of (ample plan)
    inside = inside_ghost plan q h

    -- a row that has the number has no later one, and the reply
    pub row_exact : (i : ℕ) → i ≤ m.common.top b → u.number ≤ applied_of (m.common.state_at b i) q →
        (length (z.past q q) + 1 ≡ u.number) →
        (applied_of (m.common.state_at b i) q ≡ u.number)
        × (reply_at (m.common.state_at b i) q ≡ Some late.made.reply)
    row_exact i o has long =
        let most = few_idle plan is_plan m rows.numbered b i q named o inside late.idle in
        let many = ap (λ (rs : List Record). length rs) late.records_are in
        let more = length-append (z.past q q) (late.made ∷ []) in
        let number : applied_of (m.common.state_at b i) q ≡ u.number = omega (arith, has, most, many, more, long) in (
          number,
          replies_are plan is_plan m rows.numbered b i q (z.past q q) late.made named o inside late.records_are
              (ap is_update late.call_is ∙ update_tested u.call update) (number ∙ sym late.number_is),
        )

    -- THE RESULT
    pub exact : length (z.past q q) + 1 ≡ u.number → Says plan z q u late.made (word_in y b)
    exact long =
        let top = m.common.top b in
        let state = m.common.state_at b top in
        let e = row_exact top (omega arith) late.has long in
        let word : y.store.bucket b ≡ word_at b top = rows.word_is b named in
        let stands : y.store.row (row_in (word_at b top)) 0 ≡ generation_in (word_at b top) =
        subst (λ w. y.store.row (row_in w) 0 ≡ generation_in w) word
        (marks.fresh b (named_small plan is_plan m rows.numbered b named)) in
        let wide = said_long (ample plan) state q inside in
        let number = rows.says b top (2 * q) named (omega arith) stands (omega (arith, wide)) in
        let reply = rows.says b top (2 * q + 1) named (omega arith) stands wide in
        let at_number : number_place q ≡ 2 * q + 1 = omega arith in
        let at_reply : reply_place q ≡ 2 * q + 1 + 1 = omega arith in (
          (λ i. y.store.row (row_in (word i)) (at_number i)) ∙ number ∙ said_number (ample plan) state q inside ∙ e.0,
          (λ i. y.store.row (row_in (word i)) (at_reply i)) ∙ reply ∙ said_reply (ample plan) state q inside
              ∙ ap word_of_reply e.1,
        )
