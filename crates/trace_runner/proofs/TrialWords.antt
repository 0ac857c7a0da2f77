-- The words of a trial give it no rows, and say nothing of how packets are framed and which calls they make.
use Rattle.std.proofs.Common.{◌≡◌, ℕ, List, [], Bool, true, false, cond, Option, Some, None, sym, ap, ◌∙◌}
use Rattle.std.specs.Prelude.{codes}
use Rattle.clap.specs.Walk.{first_of, is_empty}
use Rattle.clap.specs.Simple.{matches_of}
use Rattle.clap.specs.Faults.{fault_of}
use Rattle.packet_heads.specs.declared.framing.Framing.{Framing}
use Rattle.packet_heads.specs.Heads.{plain_framing}
use Rattle.key_texts.specs.declared.rules.CallRule.{CallRule}
use Rattle.key_texts.specs.declared.rules.CallRule.TheVariants.{Sessions}
use Rattle.mode_parts.specs.Callings.{calling_of, plain_calling}
use Rattle.step_counts.specs.declared.rows.SeatRows.{SeatRows}
use Rattle.command_line.specs.declared.plan.Mode.{Mode}
use Rattle.command_line.specs.declared.plan.Mode.TheVariants.{Trial}
use Rattle.command_line.specs.declared.plan.Plan.{Plan}
use Rattle.command_line.specs.declared.plays.Segment.{Segment}
use Rattle.command_line.specs.Command.{flowdir_app}
use Rattle.line_fields.proofs.BindLemmas.{bind_some}
use Rattle.command_line.specs.Words.{calls_in, framing_in, mode_of, plan_of, plan_with, reads, rows_for, schedule_for, seats_in, share_in, start_in, hashing_in, stops_in, text_in}

of_true : {A : Type 0} (b : Bool) (o : Option A) (a : A) → cond b o None ≡ Some a → o ≡ Some a
of_true true o a is = is
of_true false o a is = absurd (cc)

module _ (given : List ℕ → Option (List ℕ)) (plan : Plan) where
  -- the mode, the rows, the framing and the rule of a plan
  with_rows : (mode : Mode) (rows : Option SeatRows) (schedule : List Segment) (stops : List (Option ℕ)) →
      plan_with mode rows schedule stops given ≡ Some plan →
      (plan.mode ≡ mode) × (plan.rows ≡ rows) × (framing_in mode given ≡ Some plan.framing)
      × (calls_in mode given ≡ Some plan.calls)
  with_rows mode rows schedule stops is =
      let start = bind_some (start_in mode given) _ plan is in
      let hashing = bind_some (hashing_in mode given) _ plan start.2 in
      let share = bind_some (share_in mode given) _ plan hashing.2 in
      let framing = bind_some (framing_in mode given) _ plan share.2 in
      let calls = bind_some (calls_in mode given) _ plan framing.2 in
      let made = calls.2 in (
        let same : plan.mode ≡ mode = cc in same,
        let same : plan.rows ≡ rows = cc in same,
        framing.1 ∙ ap (λ (f : Framing). Some f) (let same : framing.0 ≡ plan.framing = cc in same),
        calls.1 ∙ ap (λ (c : CallRule). Some c) (let same : calls.0 ≡ plan.calls = cc in same),
      )

  plan_rows : plan_of given ≡ Some plan → plan.mode ≡ Trial →
      (plan.rows ≡ None) × (calling_of plan ≡ plain_calling)
  plan_rows is tries =
      let mode = bind_some (mode_of (text_in given (codes "mode") [])) _ plan is in
      let rows = bind_some (rows_for mode.0 given) _ plan mode.2 in
      let schedule = bind_some (schedule_for mode.0 (seats_in mode.0 given) given) _ plan rows.2 in
      let stops = bind_some (stops_in mode.0 (seats_in mode.0 given) given) _ plan schedule.2 in
      let has = with_rows mode.0 rows.0 schedule.0 stops.0 stops.2 in
      let none : Some None ≡ Some rows.0 = ap (λ (m : Mode). rows_for m given) (sym tries ∙ has.0) ∙ rows.1 in
      let plain : Some plain_framing ≡ Some plan.framing =
      ap (λ (m : Mode). framing_in m given) (sym tries ∙ has.0) ∙ has.2 in
      let sessions : Some Sessions ≡ Some plan.calls =
      ap (λ (m : Mode). calls_in m given) (sym tries ∙ has.0) ∙ has.3 in
      let framed : plan.framing ≡ plain_framing = cc in
      let ruled : plan.calls ≡ Sessions = cc in (
        has.1 ∙ (let same : rows.0 ≡ None = cc in same),
        both framed ruled,
      )
    where
      both : plan.framing ≡ plain_framing → plan.calls ≡ Sessions → calling_of plan ≡ plain_calling
      both f c = λ i. record { framing = f i; calls = c i }

-- the plan of a trial has none, and its packets are framed plainly and make the calls of sessions
pub no_rows : (words : List (List ℕ)) (plan : Plan) → reads words ≡ Some plan → plan.mode ≡ Trial →
    (plan.rows ≡ None) × (calling_of plan ≡ plain_calling)
unfolding reads
no_rows words plan asked tries =
    let given : List ℕ → Option (List ℕ) = λ name. first_of name (matches_of flowdir_app words) in
    plan_rows given plan (of_true (is_empty (fault_of flowdir_app words)) (plan_of given) plan asked) tries
