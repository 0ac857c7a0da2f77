-- What a seat has asked is counted: it asks for a hold at most once in a call.
use Rattle.std.proofs.Common.{◌≡◌, ℕ, ◌≤◌, Bool, true, List, filter, length, refl, ap, sym, subst, arith}
use Rattle.std.specs.Prelude.{◌==◌}
use Rattle.exchange_model.specs.Plans.{Plan}
use Rattle.exchange_model.specs.Worlds.{Answer, Asker, BySeat, ByReader, Event, IsRun, seat_in, world_after}
use Rattle.exchange_laws.specs.Orders.{is_by}
use Rattle.exchange_laws.specs.Orders as orders
use Rattle.exchange_laws.proofs.CountedCalls.{askings_are_counted}
use Rattle.exchange_calls.specs.declared.desk.Desk.{Desk}
use Rattle.exchange_table.specs.declared.view.View.{View}
use Rattle.exchange_table.specs.Parties.{Holding, IsParty, answers_by, has_hold, is_asker, own_answers, party}
use Rattle.exchange_table.specs.Calls.{IsIdle}
use Rattle.exchange_table.specs.Values.{PartyStands, holding_in}

same_number : (q p : ℕ) → (q == p) ≡ (p == q)
same_number q p = grind arith

same_asker : (q : ℕ) (who : Asker) → is_asker (BySeat q) who ≡ is_by q who
same_asker q (BySeat p) = same_number q p
same_asker q (ByReader r) = refl

-- the answers to a seat are the same by both definitions
pub answers_by_seat : (q : ℕ) (answers : List Answer) → answers_by (BySeat q) answers ≡ orders.answers_by q answers
answers_by_seat q answers =
    ap (λ (test : Answer → Bool). filter test answers) (λ i (a : Answer). same_asker q a.by i)

-- a seat between two calls has asked no more often than it was answered
asked_by : (plan : Plan) (who : Asker) (known : List Event) → IsRun plan known → IsParty plan who →
    IsIdle (record { plan = plan; who = who; known = known }) → has_hold who ≡ true →
    (party (world_after plan known) who).time ≤ length (answers_by who (world_after plan known).answers)
asked_by plan (BySeat q) known run inside idle holds =
    subst (λ (l : List Answer). (seat_in (world_after plan known) q).time ≤ length l)
    (sym (answers_by_seat q (world_after plan known).answers)) (askings_are_counted plan known q run inside idle).0
asked_by plan (ByReader r) known run inside idle holds = omega arith

-- so has one at its desk
pub asked_few : (desk : Desk) (views : List View) → PartyStands true desk views →
    (party (world_after (holding_in desk views).plan (holding_in desk views).known) (holding_in desk views).who).time
    ≤ length (own_answers (holding_in desk views))
asked_few desk views stands =
    let h : Holding = holding_in desk views in
    asked_by h.plan h.who h.known stands.run stands.inside stands.idle stands.kind
