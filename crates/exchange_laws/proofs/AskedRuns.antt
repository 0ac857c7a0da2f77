-- What is asked, at the opening and as it is promised: the updates of a seat that were made are those that it was
-- answered, in order, and at most the one under way.
use Rattle.std.proofs.Common.{◌≡◌, ℕ, ◌<◌, Bool, true, false, List, ◌∷◌, ◌++◌, Option, Some, None, refl, sym, ap, ◌∙◌, subst, true≢false}
use Rattle.std.proofs.lemmas.List.{append_assoc}
use Rattle.plain_map.specs.declared.calls.Reply.{Reply}
use Rattle.map_laws.specs.ByKey.{Made}
use Rattle.exchange_model.specs.Plans.{Plan, IsPlan}
use Rattle.exchange_model.specs.Codes.{is_pending}
use Rattle.exchange_model.specs.Steps as S
use Rattle.exchange_model.specs.Steps.{Stand, SeatNow}
use Rattle.exchange_model.specs.Worlds.{World, seat_in, opening_world}
use Rattle.exchange_model.specs.Laws.{updates_by, AreAsked, IsUnderWay}
use Rattle.exchange_laws.proofs.Words.{seat_holds}
use Rattle.exchange_laws.proofs.OwnedRuns.{seat_is}
use Rattle.exchange_laws.proofs.Announcements.{TellsAt, Announces}
use Rattle.exchange_laws.proofs.OpTells.{rest_pends_not}
use Rattle.exchange_laws.proofs.TakenCalls.{call_under, calls_in}
use Rattle.exchange_laws.proofs.Asked.{updates_of, owed, owed_step, reply_now, under, OverAt, Asks}

pub asks_first : (plan : Plan) → IsPlan plan → ((q : ℕ) → (opening_world plan).store.announced q ≡ 0) →
    Asks plan (opening_world plan)
asks_first plan is_plan zero_there = record {
  asked = λ q less.
      sym (ap (λ (n : SeatNow). owed n.stand ++ under plan x q) (seat_is plan is_plan q (seat_holds plan q less))
      ∙ ap (λ (c : Bool). updates_of c (calls_in x q) (reply_now plan x q)) (rests q));
  replies = λ row q live less pends e is. absurd (true≢false (sym pends ∙ rests q));
  overs = λ q less. subst (λ (n : SeatNow). OverAt (reply_now plan x q) n.stand)
      (sym (seat_is plan is_plan q (seat_holds plan q less))) tt;
}
  where
    x : World
    x = opening_world plan

    rests : (q : ℕ) → is_pending (x.store.announced q) ≡ false
    rests q = ap is_pending (zero_there q)

-- where a seat stands it has one update under way at most, and that is its call
under_way : (plan : Plan) (word posted : ℕ) (op : ℕ → ℕ) (stand : Stand) (told : Option Reply) →
    TellsAt plan word op posted stand →
    IsUnderWay stand (owed stand ++ updates_of (is_pending word) (call_under stand) told)
under_way plan word posted op S.Idle told t = go (is_pending word)
  where
    go : (c : Bool) → IsUnderWay S.Idle (updates_of c None told)
    go true = tt
    go false = tt
under_way plan word posted op (S.Glances aim glance) told t = go (is_pending word)
  where
    go : (c : Bool) → IsUnderWay (S.Glances aim glance) (updates_of c None told)
    go true = tt
    go false = tt
under_way plan word posted op (S.Goes call (S.LowerPending (S.Applied reply))) told t =
    subst (λ (c : Bool). IsUnderWay (S.Goes call (S.LowerPending (S.Applied reply)))
    ((call, reply) ∷ updates_of c (Some call) told))
    (sym (ap is_pending t ∙ rest_pends_not posted)) refl
under_way plan word posted op (S.Goes call step) told t = go (owed_step call step) refl (is_pending word) told
  where
    go : (owes : List Made) → owed_step call step ≡ owes → (c : Bool) (told : Option Reply) →
        IsUnderWay (S.Goes call step) (owed_step call step ++ updates_of c (Some call) told)
    go owes e true (Some reply) = refl
    go owes e true None = tt
    go owes e false told = tt

pub are_asked : (plan : Plan) (x : World) → Announces plan x → Asks plan x → (q : ℕ) → q < plan.settings.seats →
    AreAsked x q
are_asked plan x all asks q less = record {
  more = owed (seat_in x q).stand ++ under plan x q;
  are = asks.asked q less ∙ append_assoc (updates_by q x.answers) (owed (seat_in x q).stand) (under plan x q);
  under_way = under_way plan (x.store.announced q) (seat_in x q).posted (x.store.op q) (seat_in x q).stand
      (reply_now plan x q)
      (all.each q (seat_holds plan q less));
}
