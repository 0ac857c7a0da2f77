-- What an event is for one seat: its own, or it leaves the seat as it is.
use Rattle.std.proofs.Common.{◌≡◌, ℕ, Bool, false, cond, List, [], ◌∷◌, ◌++◌, Option, Some, None, refl, sym, ap, ◌∙◌, subst, inl, inr, get_or, append-nil}
use Rattle.std.specs.Prelude.{◌⊎◌, ◌&&◌, All, slice_index_or}
use Rattle.std.specs.List.{cons_option}
use Rattle.std.proofs.lemmas.Bool.{cases_eq, ne_eqb}
use Rattle.std.proofs.lemmas.List.Elements.{All-nil, All-cons, All-head, All-tail}
use Rattle.plain_map.specs.Calls.{is_update}
use Rattle.map_laws.specs.ByKey.{Made}
use Rattle.exchange_model.specs.Plans.{Plan, more}
use Rattle.exchange_model.specs.Laws.{update_by, updates_by}
use Rattle.exchange_model.specs.Steps.{SeatNow, Course}
use Rattle.exchange_model.specs.Goes.{Asked, Called, Copied, Told, Replied, Pairs, Again, Spent, Refused, asked_by_aim}
use Rattle.exchange_model.specs.Worlds.{World, Answer, Asker, BySeat, ByReader, seat_in, goes, nobody}
use Rattle.exchange_laws.specs.Orders.{is_by, answers_by}
use Rattle.exchange_laws.proofs.CallEvents.{IsReader, answer_now, Passes, LookBegins, LookGoes, LookEnds, UpdateBegins, UpdateGoes, UpdateEnds, FailsFirst, FailsLater, Happens, SeatPasses, ReaderPeeks}

-- answers of others
none_by : (p : ℕ) (by : Asker) (asked : Asked) (told : Told) → is_by p by ≡ false →
    update_by p by asked told ≡ None
none_by p (BySeat q) (Called call) (Replied reply) e =
    ap (λ (b : Bool). cond (b && is_update call) (Some (call, reply)) None) e
none_by p (BySeat q) (Called call) (Pairs pairs) e = refl
none_by p (BySeat q) (Called call) Again e = refl
none_by p (BySeat q) (Called call) Spent e = refl
none_by p (BySeat q) (Called call) Refused e = refl
none_by p (BySeat q) (Copied bucket) told e = refl
none_by p (ByReader r) asked told e = refl

-- answers of others are none of the seat
all_none : (p : ℕ) (more : List Answer) → All (λ (a : Answer). is_by p a.by ≡ false) more →
    (answers_by p more ≡ []) × (updates_by p more ≡ [])
all_none p [] all = (refl, refl)
all_none p (a ∷ more) all =
    let P : Answer → Type 0 = λ (a : Answer). is_by p a.by ≡ false in
    let rest = all_none p more (All-tail P a more all) in
    let not_its : is_by p a.by ≡ false = All-head P a more all in (
      ap (λ (b : Bool). cond b (a ∷ answers_by p more) (answers_by p more)) not_its ∙ rest.0,
      ap (λ (o : Option Made). cons_option o (updates_by p more)) (none_by p a.by a.asked a.told not_its) ∙ rest.1,
    )

-- what an event of others leaves to a seat
pub record PassesBy (x y : World) (p : ℕ) : Type 0 where
  pub seat : seat_in y p ≡ seat_in x p
  pub more : List Answer
  pub answers : y.answers ≡ x.answers ++ more
  pub none : answers_by p more ≡ []
  pub no_update : updates_by p more ≡ []

-- the answers of a seat's event are its own
record Adds (x y : World) (q : ℕ) : Type 0 where
  pub more : List Answer
  pub answers : y.answers ≡ x.answers ++ more
  pub own : All (λ (a : Answer). a.by ≡ BySeat q) more

-- no answer
adds_none : (x y : World) (q : ℕ) → y.answers ≡ x.answers → Adds x y q
adds_none x y q e = record {
  more = [];
  answers = e ∙ sym (append-nil x.answers);
  own = All-nil (λ (a : Answer). a.by ≡ BySeat q);
}

-- one answer
adds_one : (x y : World) (q : ℕ) (asked : Asked) (told : Told) (course : Course) →
    y.answers ≡ x.answers ++ answer_now x (BySeat q) asked told course ∷ [] → Adds x y q
adds_one x y q asked told course e = record {
  more = answer_now x (BySeat q) asked told course ∷ [];
  answers = e;
  own = All-cons (λ (a : Answer). a.by ≡ BySeat q) (answer_now x (BySeat q) asked told course) [] refl
      (All-nil (λ (a : Answer). a.by ≡ BySeat q));
}

-- an event of a seat adds none or one
adds : (x y : World) (q : ℕ) (was_now is_now : SeatNow) → Passes x y q was_now is_now → Adds x y q
adds x y q was_now is_now (LookBegins aim glance was is began same a t e) = adds_none x y q e
adds x y q was_now is_now (LookGoes aim glance next was is began same a t e) = adds_none x y q e
adds x y q was_now is_now (LookEnds aim glance told course was is began same a t e) =
    adds_one x y q (asked_by_aim aim) told course e
adds x y q was_now is_now (UpdateBegins call step was is update began same a t e) = adds_none x y q e
adds x y q was_now is_now (UpdateGoes call step next was is began same still a t e) = adds_none x y q e
adds x y q was_now is_now (UpdateEnds call step reply course was is began a t e) =
    adds_one x y q (Called call) (Replied reply) course e
adds x y q was_now is_now (FailsFirst call told course was is update began fails same a t e) =
    adds_one x y q (Called call) told course e
adds x y q was_now is_now (FailsLater call step told course was is began fails same still a t e) =
    adds_one x y q (Called call) told course e

-- the answers that an event adds
pub adds_some : (plan : Plan) (x y : World) → Happens plan x y →
    (more : List Answer) × (y.answers ≡ x.answers ++ more)
adds_some plan x y (ReaderPeeks more same quiet e readers) = (more, e)
adds_some plan x y (SeatPasses p inside goes others passes) =
    let added = adds x y p (seat_in x p) (seat_in y p) passes in (added.more, added.answers)

-- a reader is no seat
reader_none : (p : ℕ) (by : Asker) → IsReader by → is_by p by ≡ false
reader_none p (BySeat q) r = absurd r
reader_none p (ByReader reader) r = refl

-- an event is one of the seat, or leaves it as it is
pub of_seat : (plan : Plan) (x y : World) → Happens plan x y → (p : ℕ) →
    Passes x y p (seat_in x p) (seat_in y p) ⊎ PassesBy x y p
of_seat plan x y (ReaderPeeks later same quiet answers readers) p =
    let none = all_none p later (λ i d h. reader_none p (get_or later i d).by (readers i d h)) in
    inr (record {
      seat = ap (λ (seats : List SeatNow). slice_index_or seats p nobody) same;
      more = later;
      answers = answers;
      none = none.0;
      no_update = none.1;
    })
of_seat plan x y (SeatPasses q inside goes others passes) p = elim (cases_eq p q) [
  | inl e ↦ inl (subst (λ k. Passes x y k (seat_in x k) (seat_in y k)) (sym e) passes)
  | inr n ↦ inr (
      let added = adds x y q (seat_in x q) (seat_in y q) passes in
      let none = all_none p added.more (λ i d h. ap (is_by p) (added.own i d h)
      ∙ ne_eqb q p (λ e. n (sym e))) in
      record {
        seat = others p n;
        more = added.more;
        answers = added.answers;
        none = none.0;
        no_update = none.1;
      })
]
