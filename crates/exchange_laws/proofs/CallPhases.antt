-- What one event does to the calls of a seat: it leaves them as they are, it begins one, or it ends one.
use Rattle.std.proofs.Common.{◌≡◌, ℕ, ◌+◌, List, [], ◌∷◌, ◌++◌, refl, sym, ap, ◌∙◌, subst, append-nil, inl, inr}
use Rattle.plain_map.specs.declared.calls.Call.{Call}
use Rattle.plain_map.specs.Updates.{IsUpdate}
use Rattle.exchange_model.specs.Plans.{Plan}
use Rattle.exchange_model.specs.Steps as S
use Rattle.exchange_model.specs.Steps.{Stand, SeatNow, Aim, OfKey, OfBucket}
use Rattle.exchange_model.specs.Goes.{Asked, Called, Replied, asked_by_aim}
use Rattle.exchange_model.specs.Worlds.{World, Answer, BySeat, seat_in}
use Rattle.exchange_laws.specs.Orders.{answers_by}
use Rattle.exchange_laws.specs.OneByOne.{IsLooking}
use Rattle.exchange_laws.proofs.SeatAnswers.{answers_more, own_answer}
use Rattle.exchange_laws.proofs.CallEvents as E
use Rattle.exchange_laws.proofs.CallEvents.{answer_now, LookBegins, LookGoes, LookEnds, UpdateBegins, UpdateGoes, UpdateEnds, FailsFirst, FailsLater, Happens}
use Rattle.exchange_laws.proofs.SeatEvents.{PassesBy, of_seat}

-- the call of a seat that is under way: an update or a look, since so many events
pub data Phase : Type 0 where
  resting : Phase
  updating : (call : Call) (began : ℕ) → Phase
  looking : (asked : Asked) (began : ℕ) → Phase

abbrev pub phase_at : Stand → (began : ℕ) → Phase
phase_at S.Idle began = resting
phase_at (S.Goes call step) began = updating call began
phase_at (S.Glances aim glance) began = looking (asked_by_aim aim) began

abbrev pub phase_of : SeatNow → Phase
phase_of now = phase_at now.stand now.course.began

-- it has begun after so many events
abbrev pub IsBegun : Phase → ℕ → Type 0
IsBegun resting n = ⊥
IsBegun (updating call began) n = IsUpdate call × (began ≡ n)
IsBegun (looking asked began) n = IsLooking asked × (began ≡ n)

-- an update was answered
pub record IsOfUpdate (a : Answer) : Type 0 where
  pub call : Call
  pub is : a.asked ≡ Called call
  pub update : IsUpdate call

-- the answer ends it; an update may begin and end in one event
abbrev pub IsEnded : Phase → Answer → Type 0
IsEnded resting a = IsOfUpdate a
IsEnded (updating call began) a = a.asked ≡ Called call
IsEnded (looking asked began) a = (a.asked ≡ asked) × (a.began ≡ began)

-- the call of a seat goes on, or begins, or ends
pub data Passes (q : ℕ) (x y : World) : Type 0 where
  stays : phase_of (seat_in y q) ≡ phase_of (seat_in x q) → answers_by q y.answers ≡ answers_by q x.answers →
      Passes q x y
  begins : (seat_in x q).stand ≡ S.Idle → IsBegun (phase_of (seat_in y q)) x.clock →
      answers_by q y.answers ≡ answers_by q x.answers → Passes q x y
  ends : (a : Answer) → (seat_in y q).stand ≡ S.Idle →
      answers_by q y.answers ≡ answers_by q x.answers ++ a ∷ [] → a.ended ≡ x.clock + 1 →
      IsEnded (phase_of (seat_in x q)) a → Passes q x y

aim_looks : (aim : Aim) → IsLooking (asked_by_aim aim)
aim_looks (OfKey key) = tt
aim_looks (OfBucket bucket) = tt

module _ (q : ℕ) (x y : World) where
  abbrev now : SeatNow
  now = seat_in x q

  abbrev then : SeatNow
  then = seat_in y q

  same_answers : y.answers ≡ x.answers → answers_by q y.answers ≡ answers_by q x.answers
  same_answers e = ap (answers_by q) e

  one_more : (a : Answer) → a.by ≡ BySeat q → y.answers ≡ x.answers ++ a ∷ [] →
      answers_by q y.answers ≡ answers_by q x.answers ++ a ∷ []
  one_more a by e =
      ap (answers_by q) e ∙ answers_more q x.answers (a ∷ [])
      ∙ ap (λ (more : List Answer). answers_by q x.answers ++ more) (own_answer q a by)

  -- the phase of a seat that stands here, since then
  phase_is : (s : SeatNow) (stand : Stand) (began : ℕ) → s.stand ≡ stand → s.course.began ≡ began →
      phase_of s ≡ phase_at stand began
  phase_is s stand began e b =
      ap (λ (k : Stand). phase_at k s.course.began) e ∙ ap (λ n. phase_at stand n) b

  by_own : E.Passes x y q now then → Passes q x y
  by_own (LookBegins aim glance stood is began same a t e) =
      begins stood (subst (λ (p : Phase). IsBegun p x.clock)
      (sym (phase_is then (S.Glances aim glance) x.clock is began))
      (aim_looks aim, refl)) (same_answers e)
  by_own (LookGoes aim glance next stood is began same a t e) =
      stays (phase_is then (S.Glances aim next) now.course.began is began
      ∙ sym (phase_is now (S.Glances aim glance) now.course.began stood refl)) (same_answers e)
  by_own (LookEnds aim glance told course stood is began same a t e) =
      let here = answer_now x (BySeat q) (asked_by_aim aim) told course in
      ends here is (one_more here refl e) refl
      (subst (λ (p : Phase). IsEnded p here) (sym (phase_is now (S.Glances aim glance) now.course.began stood refl))
      (refl, began))
  by_own (UpdateBegins call step stood is update began same a t e) =
      begins stood (subst (λ (p : Phase). IsBegun p x.clock) (sym (phase_is then (S.Goes call step) x.clock is began))
      (update, refl)) (same_answers e)
  by_own (UpdateGoes call step next stood is began same still a t e) =
      stays (phase_is then (S.Goes call next) now.course.began is began
      ∙ sym (phase_is now (S.Goes call step) now.course.began stood refl)) (same_answers e)
  by_own (UpdateEnds call step reply course stood is began a t e) =
      let here = answer_now x (BySeat q) (Called call) (Replied reply) course in
      ends here is (one_more here refl e) refl
      (subst (λ (p : Phase). IsEnded p here) (sym (phase_is now (S.Goes call step) now.course.began stood refl)) refl)
  by_own (FailsFirst call told course stood is update began fails same a t e) =
      let here = answer_now x (BySeat q) (Called call) told course in
      ends here is (one_more here refl e) refl
      (subst (λ (p : Phase). IsEnded p here) (sym (phase_is now S.Idle now.course.began stood refl))
      (record { call = call; is = refl; update = update }))
  by_own (FailsLater call step told course stood is began fails same still a t e) =
      let here = answer_now x (BySeat q) (Called call) told course in
      ends here is (one_more here refl e) refl
      (subst (λ (p : Phase). IsEnded p here) (sym (phase_is now (S.Goes call step) now.course.began stood refl)) refl)

  by_other : PassesBy x y q → Passes q x y
  by_other l =
      stays (ap phase_of l.seat)
      (ap (answers_by q) l.answers ∙ answers_more q x.answers l.more
      ∙ ap (λ (more : List Answer). answers_by q x.answers ++ more) l.none ∙ append-nil (answers_by q x.answers))

-- THE RESULT
pub passes : (plan : Plan) (q : ℕ) (x y : World) → Happens plan x y → Passes q x y
passes plan q x y event = elim (of_seat plan x y event q) [ inl own ↦ by_own q x y own | inr l ↦ by_other q x y l ]
