-- An exchange that happens, and what each seat is asked for: of a seat that was found with an op the update is made,
-- which it has under way then; of all others nothing is another one.
use Rattle.std.proofs.Common.{◌≡◌, ◌≢◌, ◌⊎◌, ℕ, zero, suc, ◌+◌, ◌<◌, ◌≤◌, Bool, true, false, cond, List, [], ◌∷◌, ◌++◌, length, Option, Some, None, refl, sym, ap, ◌∙◌, subst, arith, true≢false, append-nil, get_or-set_same, get_or-set_other, inl, inr}
use Rattle.std.specs.Prelude.{◌==◌, ◌&&◌, slice_index_or}
use Rattle.std.proofs.lemmas.Bool.{cases_eq, cases_Bool, eq-eqb, eqb-true}
use Rattle.std.proofs.lemmas.List.Elements.{filter_map-append}
use Rattle.list_laws.proofs.Totals.{many}
use Rattle.plain_map.specs.declared.calls.Call.{Call}
use Rattle.plain_map.specs.declared.calls.Reply.{Reply}
use Rattle.plain_map.specs.Updates.{IsUpdate}
use Rattle.plain_map.specs.Calls.{key_in}
use Rattle.map_laws.specs.ByKey.{Made}
use Rattle.exchange_model.specs.Plans.{Plan, IsPlan, buckets_of, rules_of}
use Rattle.exchange_model.specs.Codes.{last_generation, Entry, Row, row_in, row_at, generation_in, is_pending}
use Rattle.exchange_model.specs.Words as W
use Rattle.exchange_model.specs.Words.{with_word}
use Rattle.exchange_model.specs.Steps as S
use Rattle.exchange_model.specs.Steps.{MadeBySeat, Step, Stand, SeatNow, Found, NoOp, Keeps, Takes, Makes, Change, Try, change, entry_of, bucket_of_call, next_row, next_tag}
use Rattle.exchange_model.specs.Goes.{Fate, On, Ends, Spends, Refuses, is_announced, lost, ends_with, own_op, entry_for, reply_for, fate, own_after}
use Rattle.exchange_model.specs.Worlds.{World, seat_in, with_seat, ticked, seat_after, answers_after, stepped, goes, nobody}
use Rattle.exchange_model.specs.Laws.{made_by, updates_by}
use Rattle.exchange_laws.proofs.RowLists.{is_row}
use Rattle.exchange_laws.proofs.Words.{bucket_small, seat_holds}
use Rattle.exchange_laws.proofs.Owned.{Owned}
use Rattle.exchange_laws.proofs.OwnedMoves.{Moves}
use Rattle.exchange_laws.proofs.TrueReads.{Reads, ReadsAt}
use Rattle.exchange_laws.proofs.FoundOps.{FoundOk}
use Rattle.exchange_laws.proofs.StoredRows.{Stored}
use Rattle.exchange_laws.proofs.Announcing as A
use Rattle.exchange_laws.proofs.Announcing.{State}
use Rattle.exchange_laws.proofs.Announcements.{Tells, TellsAt, Announces, own_posted}
use Rattle.exchange_laws.proofs.Entries.{entry_told, One, Match}
use Rattle.exchange_laws.proofs.OpTells.{Announced, announced_op, announcing_pends, rest_pends_not}
use Rattle.exchange_laws.proofs.Tied.{row_now, NotFree, Tied, TryIs, TryAt, pends_at, pends_word, small20}
use Rattle.exchange_laws.proofs.TiedMoves.{word_live}
use Rattle.exchange_laws.proofs.TiedExchanges as T
use Rattle.exchange_laws.proofs.TiedSteps as TS
use Rattle.exchange_laws.proofs.TiedSteps.{AreCounted}
use Rattle.exchange_laws.proofs.MadeReplies.{Gives, given_seat, reply_is, head_reply}
use Rattle.exchange_laws.proofs.FoundFrom.{Froms, FromAt, From, Others, AreFrom, from_at, from_seated, own_seated}
use Rattle.exchange_laws.proofs.TakenCalls.{call_under, calls_in, of_call, Calls, AreCalls, CallsAt, Taken, sound_of}
use Rattle.exchange_laws.proofs.Asked.{reply_of_entry, updates_of, home_entries, reply_now, under, RepliesIn, Asks, Quiet, Turns, turn_asked, turn_told, turn_replies, OverAt, answer_own, answer_other, answer_refused, answer_spent, owed, settled}

-- of one seat that was gone through
match_nth : (plan : Plan) (b : ℕ) (seen : ℕ → ℕ) (fs : ℕ → A.Found) (k i : ℕ) (found : List Found) →
    Match plan b seen fs k found → i < length found → One plan b seen fs (k + i) (slice_index_or found i NoOp)
match_nth plan b seen fs k i [] m less = absurd (omega (arith, less))
match_nth plan b seen fs k zero (f ∷ found) m less = subst (λ j. One plan b seen fs j f) (omega arith) m.0
match_nth plan b seen fs k (suc i) (f ∷ found) m less =
    subst (λ j. One plan b seen fs j (slice_index_or found i NoOp)) (omega arith)
    (match_nth plan b seen fs (suc k) i found m.1 (omega (arith, less)))

calls_nth : (calls : ℕ → Option Call) (k i : ℕ) (found : List Found) → AreCalls calls k found → i < length found →
    Calls calls (k + i) (slice_index_or found i NoOp)
calls_nth calls k i [] m less = absurd (omega (arith, less))
calls_nth calls k zero (f ∷ found) m less = subst (λ j. Calls calls j f) (omega arith) m.0
calls_nth calls k (suc i) (f ∷ found) m less =
    subst (λ j. Calls calls j (slice_index_or found i NoOp)) (omega arith)
    (calls_nth calls (suc k) i found m.1 (omega (arith, less)))

abbrev how_many : Option Entry → ℕ
how_many None = 0
how_many (Some e) = 1

abbrev some_or : Entry → Option Entry → Entry
some_or d None = d
some_or d (Some e) = e

none_of : (o : Option Entry) → ((e : Entry) → o ≡ Some e → ⊥) → o ≡ None
none_of None never = refl
none_of (Some e) never = absurd (never e refl)

module _ (plan : Plan) (is_plan : IsPlan plan) (x : World) (h : Owned plan x) (reads : Reads plan x)
    (finds : FoundOk plan x)
    (stored : Stored plan x) (all : Announces plan x) (counted : AreCounted plan is_plan x) (s : State)
    (tied : Tied plan x s)
    (froms : Froms plan x) (taken : Taken plan x) (asks : Asks plan x) (p : ℕ) (inside : p < plan.settings.seats)
    (call : Call)
    (t : Try) (found : List Found) (stood : (seat_in x p).stand ≡ S.Goes call (S.Exchange t found))
    (moves : Moves plan h.at x (ticked (goes plan x p (seat_in x p) call (S.Exchange t found))))
    (e : (x.store.bucket (bucket_of_call plan call) == t.word) ≡ true) where
  abbrev now : SeatNow
  now = seat_in x p

  abbrev b : ℕ
  b = bucket_of_call plan call

  small : b < buckets_of plan.settings
  small = bucket_small plan is_plan (key_in call)

  abbrev ch : Change
  ch = change plan t.row found

  abbrev first : Change
  first = record { row = record { items = t.row.items; entries = [] }; made = [] }

  abbrev store : W.Store
  store = cond (x.store.bucket b == t.word) (with_word x.store (W.Bucket b) (next_tag plan now t.word)) x.store

  abbrev own : SeatNow
  own = own_after plan p now call (S.Exchange t found) (x.store.bucket b)

  abbrev updates : List MadeBySeat
  updates = x.made ++ cond (x.store.bucket b == t.word) ch.made []

  -- what it leads to
  abbrev Y : Fate → World
  Y f = ticked (with_seat x p store (seat_after own call f) (answers_after x p call (stepped now.course) f) updates)

  i : TryIs plan s p b t found (length found)
  i = T.i plan is_plan x h reads finds stored all counted s tied p
      (seat_holds plan p inside) call inside t found stood moves e

  same : x.store.bucket b ≡ t.word
  same = eqb-true (x.store.bucket b) t.word e

  all_found : plan.settings.seats ≤ length found
  all_found =
      let a : TryAt plan x.store.bucket x.store.op s p (S.Goes call (S.Exchange t found)) =
      subst (TryAt plan x.store.bucket x.store.op s p) stood (tied.each p inside) in
      a.1.0

  sound : A.Sound plan.settings.seats (last_generation plan) s b (generation_in plan t.word) (length found) i.seen i.fs
  sound = sound_of plan x s tied p b t found (length found) small same i

  row_is : t.row ≡ row_now plan x b
  row_is =
      let r : ReadsAt plan x (S.Goes call (S.Exchange t found)) =
      subst (ReadsAt plan x) stood (reads.each p (seat_holds plan p inside)) in
      r.is same ∙ ap (λ w. row_at plan (x.store.row (row_in plan w))) (sym same)

  from : AreFrom p (own_op now.posted t.turn call) t.row.entries 0 found
  from =
      let f : FromAt plan p now.posted (S.Goes call (S.Exchange t found)) =
      subst (FromAt plan p now.posted) stood (froms.each p inside) in
      f

  calls : AreCalls (calls_in x) 0 found
  calls =
      let f : CallsAt plan (calls_in x) x.store.bucket (S.Goes call (S.Exchange t found)) =
      subst (CallsAt plan (calls_in x) x.store.bucket) stood (taken.each p inside) in
      f same

  abbrev found_at : (q : ℕ) → Found
  found_at q = slice_index_or found q NoOp

  within : (q : ℕ) → q < plan.settings.seats → q < length found
  within q less = omega (arith, less, all_found)

  given : (q : ℕ) → q < plan.settings.seats → Gives q (found_at q) first ch
  given q less =
      given_seat q (rules_of plan) first 0 q found
      (from_seated p (own_op now.posted t.turn call) t.row.entries (own_seated p now.posted t.turn call) 0 found from)
      (omega arith) (within q less) (λ n. refl)

  one : (q : ℕ) → q < plan.settings.seats → One plan b i.seen i.fs q (found_at q)
  one q less = subst (λ j. One plan b i.seen i.fs j (found_at q)) (omega arith)
      (match_nth plan b i.seen i.fs 0 q found i.match (within q less))

  its_call : (q : ℕ) → q < plan.settings.seats → Calls (calls_in x) q (found_at q)
  its_call q less = subst (λ j. Calls (calls_in x) j (found_at q)) (omega arith)
      (calls_nth (calls_in x) 0 q found calls (within q less))

  its_from : (q : ℕ) → q < plan.settings.seats → From p (own_op now.posted t.turn call) t.row.entries q (found_at q)
  its_from q less = subst (λ j. From p (own_op now.posted t.turn call) t.row.entries j (found_at q)) (omega arith)
      (from_at p (own_op now.posted t.turn call) t.row.entries 0 q found from (within q less))

  made_both : (q : ℕ) → made_by q updates ≡ made_by q x.made ++ made_by q ch.made
  made_both q =
      ap (λ (c : Bool). made_by q (x.made ++ cond c ch.made [])) e
      ∙ filter_map-append (λ (o : MadeBySeat). cond (o.0 == q) (Some o.1) None) x.made ch.made

  -- ---- a seat that has announced an op

  module _ (q : ℕ) (less : q < plan.settings.seats) (pends : is_pending (x.store.announced q) ≡ true) where
    its : Announced plan (x.store.announced q) (x.store.op q) (seat_in x q).posted (seat_in x q).stand
    its = announced_op plan (x.store.announced q) (x.store.op q) (seat_in x q).posted pends (seat_in x q).stand
        (all.each q (seat_holds plan q less))

    abbrev home : ℕ
    home = bucket_of_call plan its.call

    its_is : calls_in x q ≡ Some its.call
    its_is = of_call (seat_in x q).stand its.call its.of

    at_home : (s.pending q ≡ true) × (s.home q ≡ home)
    at_home =
        pends_at plan is_plan s q (x.store.announced q) (tied.pends q less) (seat_in x q).posted home
        (bucket_small plan is_plan (key_in its.call)) its.word_is

    abbrev entry_in_use : Option Entry
    entry_in_use = entry_for q (seat_in x q).posted (row_now plan x home).entries

    told_x : reply_now plan x q ≡ reply_of_entry entry_in_use
    told_x = ap (λ (c : Option Call). reply_of_entry (entry_for q (seat_in x q).posted (home_entries plan x c))) its_is

    -- where the protocol has no entry the row has none
    no_entry : s.entry home q ≢ s.posted q + 1 → entry_in_use ≡ None
    no_entry n = none_of entry_in_use (λ k is. (
        let high = (entry_told q (seat_in x q).posted (row_now plan x home).entries k is).2 in
        let rows = tied.rows home q (bucket_small plan is_plan (key_in its.call)) less in
        let posted = tied.posted q less in
        let low = tied.holds.within home q in
        n (omega (arith, high, rows, posted, low))))

    module _ (f : Fate) (quiet : Quiet plan x (Y f) q) where
      told_y : reply_now plan (Y f) q ≡ reply_of_entry
          (entry_for q (seat_in x q).posted (row_now plan (Y f) home).entries)
      told_y =
          ap (λ (c : Option Call). reply_of_entry (entry_for q (seat_in (Y f) q).posted (home_entries plan (Y f) c)))
          (quiet.calls pends ∙ its_is)
          ∙ ap (λ n. reply_of_entry (entry_for q n (row_now plan (Y f) home).entries)) quiet.posted

      -- its row is another one: that which is put; or it is the same
      told_here : home ≡ b → reply_now plan (Y f) q ≡ reply_of_entry (entry_for q (seat_in x q).posted ch.row.entries)
      told_here m =
          told_y ∙ ap (λ a. reply_of_entry (entry_for q (seat_in x q).posted (row_now plan (Y f) a).entries)) m
          ∙ ap (λ (r : Row). reply_of_entry (entry_for q (seat_in x q).posted r.entries))
          (T.here_row plan is_plan x h reads finds stored all counted s tied p
          (seat_holds plan p inside) call inside t found stood moves e)

      told_there : home ≢ b → reply_now plan (Y f) q ≡ reply_now plan x q
      told_there n =
          told_y ∙ ap (λ (r : Row). reply_of_entry (entry_for q (seat_in x q).posted r.entries))
          (T.other_row plan is_plan x h reads finds stored all counted s tied p
          (seat_holds plan p inside) call inside t found stood moves e home n)
          ∙ sym told_x

      -- by what was found
      none_there : i.fs q ≡ A.NoOp → ((n : ℕ) → entry_for q n ch.row.entries ≡ None) →
          reply_now plan (Y f) q ≡ reply_now plan x q
      none_there is none = elim (cases_eq home b) [
        | inl m ↦
            let waits = sound.nothing q (within q less) is at_home.0 (at_home.1 ∙ m) in
            told_here m ∙ ap reply_of_entry (none (seat_in x q).posted)
            ∙ sym (told_x ∙ ap reply_of_entry (no_entry (λ w. waits (ap (λ a. s.entry a q) (sym m) ∙ w))))
        | inr n ↦ told_there n
      ]

      kept_there : (k : Entry) → k.number + 1 ≡ i.seen q → entry_for q k.number t.row.entries ≡ Some k →
          ((n : ℕ) → entry_for q n ch.row.entries ≡ entry_for q n (k ∷ [])) →
          reply_now plan (Y f) q ≡ reply_now plan x q
      kept_there k seen is kept = elim (cases_eq home b) [
        | inl m ↦ here m
        | inr n ↦ told_there n
      ]
        where
          old : home ≡ b → (row_now plan x home).entries ≡ t.row.entries
          old m = ap (λ a. (row_now plan x a).entries) m ∙ ap (λ (r : Row). r.entries) (sym row_is)

          here : home ≡ b → reply_now plan (Y f) q ≡ reply_now plan x q
          here m =
              told_here m ∙ ap reply_of_entry (kept (seat_in x q).posted
              ∙ elim (cases_eq k.number (seat_in x q).posted) [
                | inl j ↦
                    let seat = (entry_told q k.number t.row.entries k is).0 in
                    ap (λ n. entry_for q n (k ∷ [])) (sym j) ∙ only k seat ∙ sym is
                    ∙ ap (λ n. entry_for q n t.row.entries) j
                    ∙ ap (entry_for q (seat_in x q).posted) (sym (old m))
                | inr j ↦
                    none_of (entry_for q (seat_in x q).posted (k ∷ [])) (λ d is_d. j (
                    let z = entry_told q (seat_in x q).posted (k ∷ []) d is_d in
                    entry_number k d is_d ∙ z.1))
                    ∙ sym (no_entry (λ w. (
                    let alike = sound.alike q in
                    let posted = tied.posted q less in
                    let at = ap (λ a. s.entry a q) m in
                    j (omega (arith, alike, posted, at, w, seen)))))
              ]) ∙ sym told_x
            where
              only : (k : Entry) → k.seat ≡ q → entry_for q k.number (k ∷ []) ≡ Some k
              only k s =
                  ap (λ (c : Bool). cond (c && (k.number == k.number)) (Some k) None) (eq-eqb k.seat q s)
                  ∙ ap (λ (c : Bool). cond c (Some k) None) (eq-eqb k.number k.number refl)

              entry_number : (k d : Entry) → entry_for q (seat_in x q).posted (k ∷ []) ≡ Some d → k.number ≡ d.number
              entry_number k d is = go ((k.seat == q) && (k.number == (seat_in x q).posted)) is
                where
                  go : (c : Bool) → cond c (Some k) None ≡ Some d → k.number ≡ d.number
                  go true is = ap (λ (o : Option Entry). (some_or k o).number) is
                  go false is = absurd (omega (arith, ap how_many is))

  -- ---- a seat as it was found

  -- an own call that was not announced is another matter
  abbrev IsAnnounced : (q : ℕ) → Found → Type 0
  IsAnnounced q (Makes c) = ⊥
  IsAnnounced q (Keeps k) = entry_for q k.number t.row.entries ≡ Some k
  IsAnnounced q f = Unit {0}

  module _ (f : Fate) (q : ℕ) (less : q < plan.settings.seats) (quiet : Quiet plan x (Y f) q) where
    nothing_made : made_by q ch.made ≡ [] → made_by q updates ≡ made_by q x.made
    nothing_made none =
        made_both q ∙ ap (λ (ms : List Made). made_by q x.made ++ ms) none ∙ append-nil (made_by q x.made)

    -- an op that was taken
    taken_told : (op : S.Op) (g : Gives q (Takes op) first ch) → One plan b i.seen i.fs q (Takes op) →
        reply_now plan (Y f) q ≡ Some g.0
    taken_told op g o =
        let z = sound.takes q op.number (within q less) o.0 in
        let pends = (pends_word plan is_plan s q (x.store.announced q) (tied.pends q less) z.0).0 in
        let own = at_home q less pends in
        let m : home q less pends ≡ b = sym own.1 ∙ z.1 in
        let number : op.number ≡ (seat_in x q).posted = z.2 ∙ tied.posted q less in
        told_here q less pends f quiet m ∙ ap reply_of_entry (g.2 (seat_in x q).posted)
        ∙ ap reply_of_entry (ap (λ n. entry_for q n (entry_of q op.number g.0)) (sym number) ∙ mine q op.number g.0)
      where
        mine : (q n : ℕ) (r : Reply) →
            entry_for q n (entry_of q n r) ≡ Some (record { seat = q; number = n; reply = Some r })
        mine q n r =
            ap (λ (c : Bool). cond (c && (n == n)) (Some (record { seat = q; number = n; reply = Some r })) None)
            (eq-eqb q q refl)
            ∙ ap (λ (c : Bool). cond c (Some (record { seat = q; number = n; reply = Some r })) None) (eq-eqb n n refl)

    turn_by : (d : Found) → Gives q d first ch → One plan b i.seen i.fs q d → Calls (calls_in x) q d → IsAnnounced q d →
        Turns plan x (Y f) q
    turn_by NoOp g o c a = inl (nothing_made g.0, λ pends. none_there q less pends f quiet o g.1)
    turn_by (Keeps k) g o c a = inl (nothing_made g.0, λ pends. kept_there q less pends f quiet k o.2 a g.1)
    turn_by (Takes op) g o c a =
        let z = sound.takes q op.number (within q less) o.0 in
        let pends = (pends_word plan is_plan s q (x.store.announced q) (tied.pends q less) z.0).0 in
        let own = at_home q less pends in
        let m : home q less pends ≡ b = sym own.1 ∙ z.1 in
        inr (
          op.call,
          g.0,
          pends,
          c,
          told_x q less pends
              ∙ ap reply_of_entry (no_entry q less pends (λ w. z.3 (ap (λ a. s.entry a q) (sym m) ∙ w))),
          taken_told op g o,
          made_both q ∙ ap (λ (ms : List Made). made_by q x.made ++ ms) g.1,
        )
    turn_by (Makes c) g o k a = absurd a

    -- the row that is put tells the same
    new_row : (d : Found) → Gives q d first ch → Calls (calls_in x) q d → IsAnnounced q d →
        One plan b i.seen i.fs q d → is_pending (x.store.announced q) ≡ true → (k : Entry) →
        entry_for q (seat_in x q).posted ch.row.entries ≡ Some k →
        (reply : Reply) × (k.reply ≡ Some reply) × (reply_now plan (Y f) q ≡ Some reply)
    new_row NoOp g c a o pends k is = absurd (omega (arith, ap how_many (sym (g.1 (seat_in x q).posted) ∙ is)))
    new_row (Keeps d) g c a o pends k is =
        let found_it = sym (g.1 (seat_in x q).posted) ∙ is in
        let seat = entry_told q (seat_in x q).posted (d ∷ []) k found_it in
        let same_entry = one_entry d k found_it in
        let number : d.number ≡ (seat_in x q).posted = ap (λ (z : Entry). z.number) same_entry ∙ seat.1 in
        let live = word_live plan is_plan x h s tied b small in
        let at = ap (λ (r : Row). entry_for q (seat_in x q).posted r.entries) (sym row_is)
        ∙ ap (λ n. entry_for q n t.row.entries) (sym number) ∙ a ∙ ap Some same_entry in
        let z = asks.replies (row_in plan (x.store.bucket b)) q live less pends k at in
        (z.0, z.1, turn_told plan x (Y f) q quiet (turn_by (Keeps d) g o c a) pends z.0 z.2)
      where
        one_entry : (d k : Entry) → entry_for q (seat_in x q).posted (d ∷ []) ≡ Some k → d ≡ k
        one_entry d k is = go ((d.seat == q) && (d.number == (seat_in x q).posted)) is
          where
            go : (c : Bool) → cond c (Some d) None ≡ Some k → d ≡ k
            go true is = ap (some_or d) is
            go false is = absurd (omega (arith, ap how_many is))
    new_row (Takes op) g c a o pends k is =
        (g.0, one_reply op.number g.0 k (sym (g.2 (seat_in x q).posted) ∙ is), taken_told op g o)
      where
        one_reply : (n : ℕ) (r : Reply) (k : Entry) → entry_for q (seat_in x q).posted (entry_of q n r) ≡ Some k →
            k.reply ≡ Some r
        one_reply n r k is = go ((q == q) && (n == (seat_in x q).posted)) is
          where
            d : Entry
            d = record { seat = q; number = n; reply = Some r }

            go : (c : Bool) → cond c (Some d) None ≡ Some k → k.reply ≡ Some r
            go true is = ap (λ (o : Option Entry). (some_or d o).reply) (sym is)
            go false is = absurd (omega (arith, ap how_many is))
    new_row (Makes d) g c a o pends k is = absurd a

  -- ---- the whole

  at_p : (f : Fate) → seat_in (Y f) p ≡ seat_after own call f
  at_p f = get_or-set_same x.seats p (seat_after own call f) nobody (let long = h.long in
      let holds = seat_holds plan p inside in omega (arith, holds, long))

  at_q : (f : Fate) (q : ℕ) → q ≢ p → seat_in (Y f) q ≡ seat_in x q
  at_q f q n = get_or-set_other x.seats p q (seat_after own call f) nobody n

  posted_p : (f : Fate) → (seat_in (Y f) p).posted ≡ now.posted
  posted_p f =
      ap (λ (k : SeatNow). k.posted) (at_p f)
      ∙ TS.posted_after plan is_plan x h reads finds stored all counted s tied p
      (seat_holds plan p inside) call inside own f
      ∙ own_posted plan p now call (S.Exchange t found) (x.store.bucket b) tt

  word_is : (q : ℕ) → store.announced q ≡ x.store.announced q
  word_is q =
      ap (λ (c : Bool). (cond c (with_word x.store (W.Bucket b) (next_tag plan now t.word)) x.store).announced q) e

  rows_are : (row : ℕ) → store.row row ≡ x.store.row row
  rows_are row =
      ap (λ (c : Bool). (cond c (with_word x.store (W.Bucket b) (next_tag plan now t.word)) x.store).row row) e

  quiet_q : (f : Fate) (q : ℕ) → q ≢ p → Quiet plan x (Y f) q
  quiet_q f q n = record {
    word = word_is q;
    posted = ap (λ (k : SeatNow). k.posted) (at_q f q n);
    calls = λ _. ap (λ (k : SeatNow). call_under k.stand) (at_q f q n);
    answers = ap (λ (ms : List Made). ms ++ owed (seat_in (Y f) q).stand) (go f)
        ∙ ap (λ (k : SeatNow). updates_by q x.answers ++ owed k.stand) (at_q f q n);
  }
    where
      go : (f : Fate) → updates_by q (answers_after x p call (stepped now.course) f) ≡ updates_by q x.answers
      go (On step) = refl
      go (Ends reply) = answer_other x q p call reply (stepped now.course) (λ k. n (sym k))
      go Spends = answer_spent x q p call (stepped now.course)
      go Refuses = answer_refused x q p call (stepped now.course)

  from_other : (q : ℕ) (d : Found) → Others t.row.entries q d → IsAnnounced q d
  from_other q NoOp o = tt
  from_other q (Keeps k) o = o
  from_other q (Takes op) o = tt
  from_other q (Makes c) o = o

  turn_q : (f : Fate) (q : ℕ) → q < plan.settings.seats → q ≢ p → Turns plan x (Y f) q
  turn_q f q less n =
      turn_by f q less (quiet_q f q n) (found_at q) (given q less) (one q less) (its_call q less)
      (from_other q (found_at q) ((its_from q less).1 n))

  abbrev actual : Fate
  actual = fate plan p now call (S.Exchange t found) (x.store.bucket b)

  -- a row that is not free then was not, unless it is the one that is put
  live_before : (f : Fate) (row : ℕ) → row ≢ next_row now → NotFree plan (Y f) row → NotFree plan x row
  live_before f row n none k inside_k = elim (cases_eq k p) [
    | inl j ↦
        ap (λ i. many (is_row row) (seat_in x i).free) j
        ∙ T.free_then plan is_plan x h reads finds stored all counted s tied p
        (seat_holds plan p inside) call inside t found stood moves e row n
        (ap (many (is_row row)) (TS.free_after plan is_plan x h reads finds stored all counted s tied p
        (seat_holds plan p inside) call inside own actual)
        ∙ sym (ap (many (is_row row)) (TS.free_after plan is_plan x h reads finds stored all counted s tied p
        (seat_holds plan p inside) call inside own f))
        ∙ sym (ap (λ (n : SeatNow). many (is_row row) n.free) (at_p f)) ∙ none p (seat_holds plan p inside))
    | inr j ↦ sym (ap (λ (n : SeatNow). many (is_row row) n.free) (at_q f k j)) ∙ none k inside_k
  ]

  replies_by : (f : Fate) (q : ℕ) (less : q < plan.settings.seats) (quiet : Quiet plan x (Y f) q) (d : Found) →
      Gives q d first ch →
      One plan b i.seen i.fs q d → Calls (calls_in x) q d → IsAnnounced q d → (row : ℕ) → NotFree plan (Y f) row →
      RepliesIn plan (Y f) row q
  replies_by f q less quiet d g o c a row live = elim (cases_eq row (next_row now)) [
    | inl m ↦ λ pends k is. new_row f q less quiet d g c a o (ap is_pending (sym quiet.word) ∙ pends) k
        (ap (λ n. entry_for q n ch.row.entries) (sym quiet.posted)
        ∙ ap (λ (r : Row). entry_for q (seat_in (Y f) q).posted r.entries)
        (sym (T.stored_is plan is_plan x h reads finds stored all counted s tied p
        (seat_holds plan p inside) call inside t found stood moves e))
        ∙ ap (λ r. entry_for q (seat_in (Y f) q).posted (row_at plan (x.store.row r)).entries) (sym m)
        ∙ ap (λ (r : ℕ → ℕ). entry_for q (seat_in (Y f) q).posted (row_at plan r).entries) (sym (rows_are row)) ∙ is)
    | inr n ↦ turn_replies plan x (Y f) q quiet (turn_by f q less quiet d g o c a) row (rows_are row)
        (asks.replies row q (live_before f row n live) less)
  ]

  whole : (f : Fate) → made_by p updates ≡ settled (Y f) p ++ under plan (Y f) p →
      ((row : ℕ) → NotFree plan (Y f) row → RepliesIn plan (Y f) row p) →
      OverAt (reply_now plan (Y f) p) (seat_after own call f).stand → Asks plan (Y f)
  whole f asked replies over = record {
    asked = λ q less. elim (cases_eq q p) [
      | inl k ↦ subst (λ i. made_by i updates ≡ settled (Y f) i ++ under plan (Y f) i)
          (sym k) asked
      | inr n ↦ turn_asked plan x (Y f) q (quiet_q f q n) (turn_q f q less n) (asks.asked q less)
    ];
    replies = λ row q live less. elim (cases_eq q p) [
      | inl k ↦ subst (RepliesIn plan (Y f) row) (sym k) (replies row live)
      | inr n ↦ replies_by f q less (quiet_q f q n) (found_at q) (given q less) (one q less) (its_call q less)
          (from_other q (found_at q) ((its_from q less).1 n)) row live
    ];
    overs = λ q less. elim (cases_eq q p) [
      | inl k ↦ subst (λ i. OverAt (reply_now plan (Y f) i) (seat_in (Y f) i).stand) (sym k)
          (subst (λ (n : SeatNow). OverAt (reply_now plan (Y f) p) n.stand) (sym (at_p f)) over)
      | inr n ↦ subst (λ (k : SeatNow). OverAt (reply_now plan (Y f) q) k.stand) (sym (at_q f q n))
          (over_other f q less n (seat_in x q).stand refl (asks.overs q less))
    ];
  }
    where
      told_at : (q : ℕ) → q < plan.settings.seats → (c : Call) (step : Step) → (seat_in x q).stand ≡ S.Goes c step →
          TellsAt plan (x.store.announced q) (x.store.op q) (seat_in x q).posted (S.Goes c step)
      told_at q less c step stood_q =
          subst (TellsAt plan (x.store.announced q) (x.store.op q) (seat_in x q).posted) stood_q
          (all.each q (seat_holds plan q less))

      told_still : (f : Fate) (q : ℕ) → q < plan.settings.seats → q ≢ p → (c : Call) (step : Step) →
          (seat_in x q).stand ≡ S.Goes c step → (reply : Reply) →
          Tells true (x.store.announced q) (x.store.op q) (seat_in x q).posted (bucket_of_call plan c) c →
          reply_now plan x q ≡ Some reply → reply_now plan (Y f) q ≡ Some reply
      told_still f q less n c step stood_q reply said o =
          turn_told plan x (Y f) q (quiet_q f q n) (turn_q f q less n) (ap is_pending said.0
          ∙ announcing_pends (seat_in x q).posted (bucket_of_call plan c)
          (small20 plan is_plan (bucket_of_call plan c) (bucket_small plan is_plan (key_in c)))) reply o

      over_step : (f : Fate) (q : ℕ) → q < plan.settings.seats → q ≢ p → (c : Call) (step : Step) →
          (seat_in x q).stand ≡ S.Goes c step →
          OverAt (reply_now plan x q) (S.Goes c step) → OverAt (reply_now plan (Y f) q) (S.Goes c step)
      over_step f q less n c (S.GiveBack reply) stood_q o = told_still f q less n c (S.GiveBack reply) stood_q reply
          (told_at q less c (S.GiveBack reply) stood_q) o
      over_step f q less n c (S.Over (S.Applied reply)) stood_q o =
          told_still f q less n c (S.Over (S.Applied reply)) stood_q reply
          (told_at q less c (S.Over (S.Applied reply)) stood_q) o
      over_step f q less n c (S.Over S.GivenUp) stood_q o =
          let a : TryAt plan x.store.bucket x.store.op s q (S.Goes c (S.Over S.GivenUp)) =
          subst (TryAt plan x.store.bucket x.store.op s q) stood_q (tied.each q less) in
          let pends = (pends_word plan is_plan s q (x.store.announced q) (tied.pends q less) a.1.0).0 in
          let away : home q less pends ≢ b = (λ m. T.not_last plan is_plan x h reads finds stored all counted s tied p
          (seat_holds plan p inside) call inside t found stood moves e
          (ap s.generation (sym m ∙ sym (at_home q less pends).1 ∙ a.1.1) ∙ a.1.3)) in
          told_there q less pends f (quiet_q f q n) away ∙ o
      over_step f q less n c S.Scans stood_q o = tt
      over_step f q less n c (S.LoadWord turn) stood_q o = tt
      over_step f q less n c (S.LoadRow turn old words) stood_q o = tt
      over_step f q less n c (S.CheckWord turn old words) stood_q o = tt
      over_step f q less n c (S.LoadPending t) stood_q o = tt
      over_step f q less n c (S.LoadAnnounced t found) stood_q o = tt
      over_step f q less n c (S.LoadOp t found announced words) stood_q o = tt
      over_step f q less n c (S.StoreRow t found i) stood_q o = tt
      over_step f q less n c (S.Exchange t found) stood_q o = tt
      over_step f q less n c (S.StoreOp i) stood_q o = tt
      over_step f q less n c S.RaisePending stood_q o = tt
      over_step f q less n c S.Announce stood_q o = tt
      over_step f q less n c S.StoreWant stood_q o = tt
      over_step f q less n c S.StoreAsking stood_q o = tt
      over_step f q less n c S.HeldWord stood_q o = tt
      over_step f q less n c (S.TakeHold old) stood_q o = tt
      over_step f q less n c (S.HeldHead row) stood_q o = tt
      over_step f q less n c (S.HeldEntry row at left) stood_q o = tt
      over_step f q less n c (S.HeldReply row at) stood_q o = tt
      over_step f q less n c (S.LowerPending ending) stood_q o = tt
      over_step f q less n c S.Stuck stood_q o = tt

      over_other : (f : Fate) (q : ℕ) → q < plan.settings.seats → q ≢ p → (stand : Stand) →
          (seat_in x q).stand ≡ stand →
          OverAt (reply_now plan x q) stand → OverAt (reply_now plan (Y f) q) stand
      over_other f q less n S.Idle stood_q o = tt
      over_other f q less n (S.Goes c step) stood_q o = over_step f q less n c step stood_q o
      over_other f q less n (S.Glances aim glance) stood_q o = tt

  -- ---- the own op

  tells : Tells (is_announced t.turn) (x.store.announced p) (x.store.op p) now.posted b call
  tells =
      let said : TellsAt plan (x.store.announced p) (x.store.op p) now.posted (S.Goes call (S.Exchange t found)) =
      subst (TellsAt plan (x.store.announced p) (x.store.op p) now.posted) stood
      (all.each p (seat_holds plan p inside)) in
      said

  is_update_call : IsUpdate call
  is_update_call =
      let a : TryAt plan x.store.bucket x.store.op s p (S.Goes call (S.Exchange t found)) =
      subst (TryAt plan x.store.bucket x.store.op s p) stood (tied.each p inside) in
      a.0

  actual_is : (a : Bool) (reply : Option Reply) → is_announced t.turn ≡ a → reply_for p ch.made ≡ reply →
      actual ≡ ends_with a reply
  actual_is a reply is told =
      ap (λ (c : Bool). cond c (ends_with (is_announced t.turn) (reply_for p ch.made)) (lost t.turn)) e
      ∙ ap (λ (c : Bool). ends_with c (reply_for p ch.made)) is ∙ ap (ends_with a) told

  -- it is announced, and under way now
  announced_wins : is_announced t.turn ≡ true → Asks plan (Y actual)
  announced_wins is =
      subst (λ (f : Fate). Asks plan (Y f)) (sym (actual_is true (Some g.0) is (reply_is p ch.made
      ∙ ap head_reply g.1)))
      (whole f (turn_asked plan x (Y f) p quiet (turn_by f p inside quiet mine g o c tt) (asks.asked p inside))
      (replies_by f p inside quiet mine g o c tt) (taken_told f p inside quiet op g o))
    where
      op : S.Op
      op = record { number = now.posted; call = call }

      mine : Found
      mine = Takes op

      found_is : found_at p ≡ mine
      found_is = (its_from p inside).0 refl ∙ ap (λ (c : Bool). cond c (Takes op) (Makes call)) is

      g : Gives p (Takes op) first ch
      g = subst (λ (d : Found). Gives p d first ch) found_is (given p inside)

      o : One plan b i.seen i.fs p (Takes op)
      o = subst (One plan b i.seen i.fs p) found_is (one p inside)

      c : Calls (calls_in x) p (Takes op)
      c = ap call_under stood

      f : Fate
      f = On (S.Over (S.Applied g.0))

      quiet : Quiet plan x (Y f) p
      quiet = record {
        word = word_is p;
        posted = posted_p f;
        calls = λ _. ap (λ (k : SeatNow). call_under k.stand) (at_p f) ∙ sym (ap call_under stood);
        answers = ap (λ (k : SeatNow). updates_by p x.answers ++ owed k.stand) (at_p f)
            ∙ sym (ap (λ (k : Stand). updates_by p x.answers ++ owed k) stood);
      }

  -- it was not, and is answered
  fast_wins : is_announced t.turn ≡ false → Asks plan (Y actual)
  fast_wins is =
      subst (λ (f : Fate). Asks plan (Y f)) (sym (actual_is false (Some g.0) is (reply_is p ch.made
      ∙ ap head_reply g.1)))
      (whole f asked (λ row live pends. absurd (true≢false (sym pends ∙ rests_then))) tt)
    where
      found_is : found_at p ≡ Makes call
      found_is =
          (its_from p inside).0 refl
          ∙ ap (λ (c : Bool). cond c (Takes (record { number = now.posted; call = call })) (Makes call)) is

      g : Gives p (Makes call) first ch
      g = subst (λ (d : Found). Gives p d first ch) found_is (given p inside)

      f : Fate
      f = Ends g.0

      rests : is_pending (x.store.announced p) ≡ false
      rests =
          let said : Tells false (x.store.announced p) (x.store.op p) now.posted b call =
          subst (λ (c : Bool). Tells c (x.store.announced p) (x.store.op p) now.posted b call) is tells in
          ap is_pending said ∙ rest_pends_not now.posted

      rests_then : is_pending (store.announced p) ≡ false
      rests_then = ap is_pending (word_is p) ∙ rests

      none : under plan x p ≡ []
      none = ap (λ (c : Bool). updates_of c (calls_in x p) (reply_now plan x p)) rests

      none_then : under plan (Y f) p ≡ []
      none_then = ap (λ (c : Bool). updates_of c (calls_in (Y f) p) (reply_now plan (Y f) p)) rests_then

      one_made : Made
      one_made = (call, g.0)

      was_settled : settled x p ≡ updates_by p x.answers
      was_settled =
          ap (λ (k : Stand). updates_by p x.answers ++ owed k) stood ∙ append-nil (updates_by p x.answers)

      now_settled : settled (Y f) p ≡ updates_by p x.answers ++ one_made ∷ []
      now_settled =
          ap (λ (k : SeatNow). updates_by p (Y f).answers ++ owed k.stand) (at_p f)
          ∙ append-nil (updates_by p (Y f).answers)
          ∙ answer_own x p p call g.0 (stepped now.course) refl is_update_call

      asked : made_by p updates ≡ settled (Y f) p ++ under plan (Y f) p
      asked =
          made_both p ∙ ap (λ (ms : List Made). made_by p x.made ++ ms) g.1
          ∙ ap (λ (ms : List Made). ms ++ one_made ∷ []) (asks.asked p inside
          ∙ ap (λ (ms : List Made). settled x p ++ ms) none ∙ append-nil (settled x p) ∙ was_settled)
          ∙ sym now_settled ∙ sym (append-nil (settled (Y f) p))
          ∙ ap (λ (ms : List Made). settled (Y f) p ++ ms) (sym none_then)

  -- THE RESULT
  pub exchange_asks : Asks plan (ticked (goes plan x p now call (S.Exchange t found)))
  exchange_asks = go (cases_Bool (is_announced t.turn))
    where
      go : (is_announced t.turn ≡ true) ⊎ (is_announced t.turn ≡ false) → Asks plan (Y actual)
      go (inl is) = announced_wins is
      go (inr is) = fast_wins is
