-- The updates of a seat that were made are those that it was answered, in order, and at most the one that it has under
-- way: the one that it has announced, where the row in use has its entry. What an event leaves of that.
use Rattle.std.proofs.Common.{◌≡◌, ◌≢◌, ◌⊎◌, ℕ, ◌<◌, Bool, true, false, cond, List, [], ◌∷◌, ◌++◌, Option, Some, None, refl, sym, ap, ◌∙◌, arith, append-nil, inl, inr}
use Rattle.std.specs.Prelude.{◌==◌, ◌&&◌, filter_map}
use Rattle.std.proofs.lemmas.Bool.{cases_Bool, eq-eqb, ne_eqb}
use Rattle.std.proofs.lemmas.List.Elements.{filter_map-append}
use Rattle.plain_map.specs.declared.calls.Call.{Call}
use Rattle.plain_map.specs.declared.calls.Call.TheVariants.{Insert, Remove, Lookup, Tally, Count, Put}
use Rattle.plain_map.specs.declared.keys.Key.{Key}
use Rattle.plain_map.specs.declared.calls.Reply.{Reply}
use Rattle.plain_map.specs.Updates.{IsUpdate}
use Rattle.plain_map.specs.Calls.{key_in, is_update}
use Rattle.map_laws.specs.ByKey.{Made}
use Rattle.exchange_model.specs.Plans.{Plan, IsPlan, buckets_of}
use Rattle.exchange_model.specs.Codes.{Entry, Row, row_at, is_pending}
use Rattle.exchange_model.specs.Steps as S
use Rattle.exchange_model.specs.Steps.{Step, Stand, Course, bucket_of_call}
use Rattle.exchange_model.specs.Goes.{entry_for, Asked, Called, Copied, Told, Replied, Pairs, Again, Spent, Refused}
use Rattle.exchange_model.specs.Worlds.{World, Answer, Asker, BySeat, ByReader, seat_in, with_answer}
use Rattle.exchange_model.specs.Laws.{made_by, updates_by, update_by}
use Rattle.exchange_laws.proofs.Words.{bucket_small}
use Rattle.exchange_laws.proofs.Tied.{row_now, NotFree}
use Rattle.exchange_laws.proofs.TakenCalls.{calls_in}

-- the reply that an entry tells, if there is one
abbrev pub reply_of_entry : Option Entry → Option Reply
reply_of_entry None = None
reply_of_entry (Some e) = e.reply

-- the update that is under way: it is announced, and was made with this reply
abbrev pub updates_of : Bool → Option Call → Option Reply → List Made
updates_of true (Some call) (Some reply) = (call, reply) ∷ []
updates_of true (Some call) None = []
updates_of true None reply = []
updates_of false call reply = []

-- a seat whose announcement is about to end has the reply that the row in use tells; where it is given up, that row
-- tells none
abbrev pub OverStep : Option Reply → Step → Type 0
OverStep told (S.GiveBack reply) = told ≡ Some reply
OverStep told (S.Over (S.Applied reply)) = told ≡ Some reply
OverStep told (S.Over S.GivenUp) = told ≡ None
OverStep told step = Unit {0}

-- the update whose announcement is over, and which is about to be answered
abbrev pub owed_step : Call → Step → List Made
owed_step call (S.LowerPending (S.Applied reply)) = (call, reply) ∷ []
owed_step call step = []

abbrev pub owed : Stand → List Made
owed S.Idle = []
owed (S.Goes call step) = owed_step call step
owed (S.Glances aim glance) = []

-- the updates of a seat that it was answered, or is about to be
abbrev pub settled : World → (q : ℕ) → List Made
settled x q = updates_by q x.answers ++ owed (seat_in x q).stand

abbrev pub OverAt : Option Reply → Stand → Type 0
OverAt told S.Idle = Unit {0}
OverAt told (S.Goes call step) = OverStep told step
OverAt told (S.Glances aim glance) = Unit {0}

module _ (plan : Plan) where
  -- the entries of the row in use for a call
  abbrev pub home_entries : World → Option Call → List Entry
  home_entries x None = []
  home_entries x (Some call) = (row_now plan x (bucket_of_call plan call)).entries

  -- the reply that the row in use tells of a seat's op
  abbrev pub reply_now : World → (q : ℕ) → Option Reply
  reply_now x q = reply_of_entry (entry_for q (seat_in x q).posted (home_entries x (calls_in x q)))

  -- its update that was made and not answered yet
  abbrev pub under : World → (q : ℕ) → List Made
  under x q = updates_of (is_pending (x.store.announced q)) (calls_in x q) (reply_now x q)

  -- an entry of an announced op has the reply that the row in use tells
  abbrev pub RepliesIn : World → (row q : ℕ) → Type 0
  RepliesIn x row q =
      is_pending (x.store.announced q) ≡ true → (e : Entry) →
      entry_for q (seat_in x q).posted (row_at plan (x.store.row row)).entries ≡ Some e →
      (reply : Reply) × (e.reply ≡ Some reply) × (reply_now x q ≡ Some reply)

  pub record Asks (x : World) : Type 0 where
    pub asked : (q : ℕ) → q < plan.settings.seats → made_by q x.made ≡ settled x q ++ under x q
    pub replies : (row q : ℕ) → NotFree plan x row → q < plan.settings.seats → RepliesIn x row q
    pub overs : (q : ℕ) → q < plan.settings.seats → OverAt (reply_now x q) (seat_in x q).stand

  -- ---- what an event leaves of a seat

  pub record Quiet (x y : World) (q : ℕ) : Type 0 where
    pub word : y.store.announced q ≡ x.store.announced q
    pub posted : (seat_in y q).posted ≡ (seat_in x q).posted
    pub calls : is_pending (x.store.announced q) ≡ true → calls_in y q ≡ calls_in x q
    pub answers : settled y q ≡ settled x q

  -- nothing of it is made; or its announced op is, which was not made before
  abbrev pub Turns : (x y : World) (q : ℕ) → Type 0
  Turns x y q =
      ((made_by q y.made ≡ made_by q x.made)
      × (is_pending (x.store.announced q) ≡ true → reply_now y q ≡ reply_now x q))
      ⊎ ((call : Call) × (reply : Reply) × (is_pending (x.store.announced q) ≡ true) × (calls_in x q ≡ Some call)
      × (reply_now x q ≡ None) × (reply_now y q ≡ Some reply)
      × (made_by q y.made ≡ made_by q x.made ++ (call, reply) ∷ []))

  abbrev how_many : Option Reply → ℕ
  how_many None = 0
  how_many (Some reply) = 1

  module _ (x y : World) (q : ℕ) (quiet : Quiet x y q) where
    under_none : is_pending (x.store.announced q) ≡ false → (under x q ≡ []) × (under y q ≡ [])
    under_none e = (
      ap (λ (c : Bool). updates_of c (calls_in x q) (reply_now x q)) e,
      ap (λ (c : Bool). updates_of c (calls_in y q) (reply_now y q)) (ap is_pending quiet.word ∙ e),
    )

    under_is : is_pending (x.store.announced q) ≡ true → (told : Option Reply) → reply_now y q ≡ told →
        under y q ≡ updates_of true (calls_in x q) told
    under_is e told is =
        ap (λ (c : Bool). updates_of c (calls_in y q) (reply_now y q)) (ap is_pending quiet.word ∙ e)
        ∙ ap (λ (c : Option Call). updates_of true c (reply_now y q)) (quiet.calls e)
        ∙ ap (updates_of true (calls_in x q)) is

    under_was : is_pending (x.store.announced q) ≡ true → (told : Option Reply) → reply_now x q ≡ told →
        under x q ≡ updates_of true (calls_in x q) told
    under_was e told is =
        ap (λ (c : Bool). updates_of c (calls_in x q) (reply_now x q)) e ∙ ap (updates_of true (calls_in x q)) is

    pub turn_asked : Turns x y q → made_by q x.made ≡ settled x q ++ under x q →
        made_by q y.made ≡ settled y q ++ under y q
    turn_asked (inl z) was =
        z.0 ∙ was ∙ ap (λ (ms : List Made). ms ++ under x q) (sym quiet.answers)
        ∙ ap (λ (ms : List Made). settled y q ++ ms) (elim (cases_Bool (is_pending (x.store.announced q))) [
          | inl e ↦ under_was e (reply_now x q) refl ∙ sym (under_is e (reply_now x q) (z.1 e))
          | inr e ↦ (under_none e).0 ∙ sym (under_none e).1
        ])
    turn_asked (inr z) was =
        let one : Made = (z.0, z.1) in
        let none : under x q ≡ [] = under_was z.2 None z.4
        ∙ ap (λ (c : Option Call). updates_of true c None) z.3 in
        let now : under y q ≡ one ∷ [] = under_is z.2 (Some z.1) z.5
        ∙ ap (λ (c : Option Call). updates_of true c (Some z.1)) z.3 in
        z.6 ∙ ap (λ (ms : List Made). ms ++ one ∷ [])
        (was ∙ ap (λ (ms : List Made). settled x q ++ ms) none ∙ append-nil (settled x q)
        ∙ sym quiet.answers)
        ∙ ap (λ (ms : List Made). settled y q ++ ms) (sym now)

    -- what was told of the row in use is told still
    pub turn_told : Turns x y q → is_pending (x.store.announced q) ≡ true → (reply : Reply) →
        reply_now x q ≡ Some reply →
        reply_now y q ≡ Some reply
    turn_told (inl z) e reply is = z.1 e ∙ is
    turn_told (inr z) e reply is = absurd (omega (arith, ap how_many (sym z.4 ∙ is)))

    pub turn_replies : Turns x y q → (row : ℕ) → y.store.row row ≡ x.store.row row → RepliesIn x row q →
        RepliesIn y row q
    turn_replies turn row same was e entry is =
        let pends = ap is_pending (sym quiet.word) ∙ e in
        let z = was pends entry (ap (λ n. entry_for q n (row_at plan (x.store.row row)).entries) (sym quiet.posted)
        ∙ ap (λ (r : ℕ → ℕ). entry_for q (seat_in y q).posted (row_at plan r).entries) (sym same) ∙ is) in
        (z.0, z.1, turn_told turn pends z.0 z.2)

  -- the same row in use tells the same
  pub reply_same : IsPlan plan → (x y : World) (q : ℕ) → ((b : ℕ) → b < buckets_of plan.settings →
      row_now plan y b ≡ row_now plan x b) →
      (seat_in y q).posted ≡ (seat_in x q).posted → calls_in y q ≡ calls_in x q → reply_now y q ≡ reply_now x q
  reply_same is_plan x y q rows posted calls =
      ap (λ n. reply_of_entry (entry_for q n (home_entries y (calls_in y q)))) posted
      ∙ ap (λ (es : List Entry). reply_of_entry (entry_for q (seat_in x q).posted es))
      (ap (home_entries y) calls ∙ go (calls_in x q))
    where
      go : (c : Option Call) → home_entries y c ≡ home_entries x c
      go None = refl
      go (Some call) =
          ap (λ (r : Row). r.entries) (rows (bucket_of_call plan call) (bucket_small plan is_plan (key_in call)))

-- ---- one answer more

update_updates : (call : Call) → IsUpdate call → is_update call ≡ true
update_updates (Insert key value) is = refl
update_updates (Remove key) is = refl
update_updates (Lookup key) is = absurd is
update_updates (Tally key amount) is = refl
update_updates (Count key value amount) is = refl
update_updates (Put key value) is = refl

abbrev answer_of : (by : Asker) → Call → (told : Reply) → (began ended steps : ℕ) → Answer
answer_of by call told began ended steps =
    record { by = by; asked = Called call; told = Replied told; began = began; ended = ended; steps = steps }

module _ (x : World) (q p : ℕ) where
  answered : (a : Answer) → updates_by q (x.answers ++ a ∷ []) ≡ updates_by q x.answers ++ updates_by q (a ∷ [])
  answered a = filter_map-append (λ (a : Answer). update_by q a.by a.asked a.told) x.answers (a ∷ [])

  abbrev one_more : Option Made → List Made
  one_more o = filter_map (λ (k : Option Made). k) (o ∷ [])

  pub answer_own : (call : Call) (reply : Reply) (course : Course) → p ≡ q → IsUpdate call →
      updates_by q (with_answer x (BySeat p) (Called call) (Replied reply) course) ≡ updates_by q x.answers ++ (
        call,
        reply,
      ) ∷ []
  answer_own call reply course e is =
      answered _
      ∙ ap (λ (c : Bool). updates_by q x.answers ++ one_more (cond (c && is_update call) (Some (call, reply)) None))
      (eq-eqb p q e)
      ∙ ap (λ (c : Bool). updates_by q x.answers ++ one_more (cond c (Some (call, reply)) None))
      (update_updates call is)

  pub answer_other : (call : Call) (reply : Reply) (course : Course) → p ≢ q →
      updates_by q (with_answer x (BySeat p) (Called call) (Replied reply) course) ≡ updates_by q x.answers
  answer_other call reply course n =
      answered _
      ∙ ap (λ (c : Bool). updates_by q x.answers ++ one_more (cond (c && is_update call) (Some (call, reply)) None))
      (ne_eqb p q n) ∙ append-nil (updates_by q x.answers)

  pub answer_refused : (call : Call) (course : Course) →
      updates_by q (with_answer x (BySeat p) (Called call) Refused course) ≡ updates_by q x.answers
  answer_refused call course = answered _ ∙ append-nil (updates_by q x.answers)

  pub answer_spent : (call : Call) (course : Course) →
      updates_by q (with_answer x (BySeat p) (Called call) Spent course) ≡ updates_by q x.answers
  answer_spent call course = answered _ ∙ append-nil (updates_by q x.answers)

  -- a lookup, or a copy of a bucket, is no update
  pub look_answer : (key : Key) (told : Told) (course : Course) →
      updates_by q (with_answer x (BySeat p) (Called (Lookup key)) told course) ≡ updates_by q x.answers
  look_answer key told course = answered _ ∙ go told ∙ append-nil (updates_by q x.answers)
    where
      go : (told : Told) → updates_by q x.answers ++ one_more (update_by q (BySeat p) (Called (Lookup key)) told)
          ≡ updates_by q x.answers ++ []
      go (Replied reply) = by_seat (p == q)
        where
          by_seat : (c : Bool) → updates_by q x.answers ++ one_more (cond (c && false) (Some (Lookup key, reply)) None)
              ≡ updates_by q x.answers ++ []
          by_seat true = refl
          by_seat false = refl
      go (Pairs pairs) = refl
      go Again = refl
      go Spent = refl
      go Refused = refl

  pub copy_answer : (bucket : ℕ) (told : Told) (course : Course) →
      updates_by q (with_answer x (BySeat p) (Copied bucket) told course) ≡ updates_by q x.answers
  copy_answer bucket told course = answered _ ∙ append-nil (updates_by q x.answers)

-- nor is what a reader is told
pub peek_answer : (x : World) (q r : ℕ) (asked : Asked) (told : Told) (course : Course) →
    updates_by q (with_answer x (ByReader r) asked told course) ≡ updates_by q x.answers
peek_answer x q r asked told course = answered x q 0 _ ∙ append-nil (updates_by q x.answers)
