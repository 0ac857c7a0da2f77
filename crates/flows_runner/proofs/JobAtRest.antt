-- A job at rest: its seats are those of its table, and have room for the copies of a block.
use Rattle.std.proofs.Common.{◌≡◌, ℕ, zero, suc, ◌<◌, ◌≤◌, ◌+◌, ◌^◌, List, ◌∷◌, ◌++◌, length, map, Some, take, refl, sym, ap, ◌∙◌, subst, arith}
use Rattle.std.specs.Prelude.{IsPermutation}
use Rattle.std.specs.List.{range_with_len}
use Rattle.std.specs.List.Sorted.{IsSortedByKey}
use Rattle.std.proofs.Math.Nat.{pow-le-pow_right}
use Rattle.std.proofs.lemmas.List.{length-map}
use Rattle.std.proofs.lemmas.List.FromFn.{length-range_with_len}
use Rattle.list_laws.proofs.Options.{some_same}
use Rattle.step_counts.specs.declared.settings.Settings.{Settings}
use Rattle.plain_map.specs.declared.keys.Pair.{Pair}
use Rattle.plain_map.specs.Keys.{key_cmp}
use Rattle.lasting_model.specs.Plans.{Plan, buckets_of}
use Rattle.lasting_model.specs.Worlds.{Answer, Event, world_after}
use Rattle.lasting_laws.specs.Orders as orders
use Rattle.lasting_table.specs.Parties.{PartyValue, own_answers}
use Rattle.lasting_table.specs.Meetings.{AreSeatsFrom, AreSeatsOf, informed}
use Rattle.lasting_table.specs.Rests.{HaveRested}
use Rattle.lasting_table.specs.Values.{TableValue}
use Rattle.flow_workers.proofs.AnswerLists.{answers_by_seat}
use Rattle.report_text.specs.declared.flows.FlowCounts.{FlowCounts}
use Rattle.flows_runner.specs.declared.flowing.Flowing.{Flowing}
use Rattle.flows_runner.specs.Blocks.{block_counts}
use Rattle.flows_runner.specs.Going.{HasRested, IsFlowing, IsSameJob, MOST_BUCKETS, TellsServed, met_seat, met_seats}
use Rattle.flows_runner.specs.Served.{Served}
use Rattle.flows_runner.proofs.HandLemmas.{written_back}
use Rattle.flows_runner.proofs.OpenLemmas.{made_few}
use Rattle.flows_runner.proofs.RestLemmas.{has_rested, rest_told}

-- ---- its seats

seats_from : (t : TableValue) (events : List Event) (seat many : ℕ) →
    AreSeatsFrom t seat (map (met_seat t events) (range_with_len seat many))
seats_from t events seat zero = tt
seats_from t events seat (suc many) =
    let next : seat + 1 ≡ suc seat = omega arith in (
      record { table = refl; plan = refl },
      refl,
      subst (λ (k : ℕ). AreSeatsFrom t k (map (met_seat t events) (range_with_len (seat + 1) many))) next
          (seats_from t events (seat + 1) many),
    )

-- the seats that know all are those of the table
pub seats_of_table : (t : TableValue) (events : List Event) → AreSeatsOf t (met_seats t events)
seats_of_table t events = record {
  count = length-map (range_with_len 0 t.plan.settings.seats) (met_seat t events)
      ∙ length-range_with_len 0 t.plan.settings.seats;
  each = seats_from t events 0 t.plan.settings.seats;
}

-- a table has few buckets
pub buckets_few : (s : Settings) → buckets_of s ≤ MOST_BUCKETS
buckets_few s =
    let bits : s.depth ≤ 12 = s.depth_in_range.1 in
    pow-le-pow_right {n = 2} (omega arith) bits

-- the first of them
first_seat : (t : TableValue) (events : List Event) (many : ℕ) → 1 ≤ many →
    (rest : List PartyValue) × (map (met_seat t events) (range_with_len 0 many) ≡ met_seat t events 0 ∷ rest)
first_seat t events zero some = absurd (omega (arith, some))
first_seat t events (suc many) some = (map (met_seat t events) (range_with_len 1 many), refl)

module _ (job : Flowing) (t : TableValue) (seats : List PartyValue) (packets : List (List ℕ)) (blocks : ℕ)
    (served : Served) (so : IsFlowing job (Some t) seats packets blocks served) where
  same_table : so.t ≡ t
  same_table = some_same (sym so.table_is)

  plan : t.plan ≡ served.plan
  plan = ap (λ (x : TableValue). x.plan) (sym same_table) ∙ so.plan

  pub seats_met : seats ≡ met_seats t served.events
  seats_met = so.seats_are ∙ ap (λ (x : TableValue). met_seats x served.events) same_table

  pub seats_at_rest : AreSeatsOf t seats
  seats_at_rest = subst (AreSeatsOf t) (sym seats_met) (seats_of_table t served.events)

  -- its first seat may ask for a copy of each bucket
  pub can_copy : ((first : PartyValue) (rest : List PartyValue) → seats ≡ first ∷ rest →
      2 ^ 62 ≤ length (own_answers first.holding) + buckets_of t.plan.settings) → ⊥
  can_copy asked =
      let some : 1 ≤ t.plan.settings.seats = t.plan.settings.seats_in_range.0 in
      let first = first_seat t served.events t.plan.settings.seats some in
      let many = asked (met_seat t served.events 0) first.0 (seats_met ∙ first.1) in
      let answers : List Answer = (world_after t.plan served.events).answers in
      let own = ap (λ (l : List Answer). length l) (answers_by_seat 0 answers)
      ∙ ap (λ (p : Plan). length (orders.answers_by 0 (world_after p served.events).answers)) plan in
      let within : 0 < t.plan.settings.seats = omega (arith, some) in
      let askings = so.askings 0 (subst (λ (x : TableValue). 0 < x.plan.settings.seats) (sym same_table) within) in
      let limited = so.few in
      let few = buckets_few t.plan.settings in
      let blocks_few = so.few_blocks in
      omega (arith, many, own, askings, limited, few, blocks_few)

  -- no more calls than packets
  pub calls_few : job.calls ≤ job.packets
  calls_few =
      let few = made_few job.asked packets served so.served_so in
      let calls = so.calls_are in
      let all = so.packets_are in
      omega (arith, few, calls, all)

  -- ---- a block of it

  module _ (mets : List PartyValue) (pairs : List Pair) (rested : HaveRested t seats mets pairs) where
    met : HaveRested t (met_seats t served.events) mets pairs
    met = subst (λ (l : List PartyValue). HaveRested t l mets pairs) seats_met rested

    -- it tells of what was served
    pub block_told : (sorted : List Pair) (counts : FlowCounts) → IsPermutation pairs sorted →
        IsSortedByKey (λ (pair : Pair). pair.key) key_cmp sorted → counts ≡ block_counts job.packets served.made →
        TellsServed job.asked packets served (record { at = job.packets; pairs = sorted; counts = counts })
    block_told sorted counts moved in_order are =
        subst (λ (c : FlowCounts). TellsServed job.asked packets served
        (record { at = job.packets; pairs = sorted; counts = c })) (sym are)
        (subst (λ (n : ℕ). TellsServed job.asked packets served
        (record { at = n; pairs = sorted; counts = block_counts n served.made })) (sym so.packets_are)
        (rest_told t job.asked packets served plan so.served_so mets pairs met sorted moved in_order))

    -- and the job has rested
    pub rested_back : (now : Flowing) (rest : List PartyValue) (many : ℕ) → length seats ≡ many →
        IsSameJob job now → HasRested now t (take many (mets ++ rest)) packets blocks served
    rested_back now rest many long same =
        let as_many : length mets ≡ many = ap length rested.are
        ∙ length-map seats (informed (rested.first ++ rested.later)) ∙ long in
        subst (λ (l : List PartyValue). HasRested now t l packets blocks served)
        (sym (written_back mets rest many as_many))
        (has_rested job now t seats mets packets blocks served pairs so rested same (buckets_few t.plan.settings))
