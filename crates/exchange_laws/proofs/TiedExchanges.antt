-- An exchange of the table is one of the protocol of announced ops, or it is lost and none.
use Rattle.std.proofs.Common.{◌≡◌, ◌≢◌, ℕ, ◌+◌, ◌^◌, ◌<◌, ◌≤◌, inl, inr, Bool, true, false, cond, List, [], length, drop, Option, Some, None, refl, sym, ap, ◌∙◌, subst, arith}
use Rattle.std.specs.Prelude.{◌==◌}
use Rattle.std.proofs.lemmas.Bool.{cases_eq, eqb-true, ne_eqb}
use Rattle.list_laws.proofs.Totals.{many, one_if}
use Rattle.plain_map.specs.declared.calls.Call.{Call}
use Rattle.plain_map.specs.declared.calls.Reply.{Reply}
use Rattle.plain_map.specs.Updates.{IsUpdate}
use Rattle.plain_map.specs.Calls.{key_in}
use Rattle.word_rows.specs.Memory.{put}
use Rattle.word_rows.proofs.MemoryLemmas.{put_same, put_other}
use Rattle.exchange_model.specs.Plans.{holders_of, Plan, IsPlan, buckets_of, rules_of}
use Rattle.exchange_model.specs.Codes.{last_generation, Row, row_in, generation_in, row_at}
use Rattle.exchange_model.specs.Words as W
use Rattle.exchange_model.specs.Words.{with_word}
use Rattle.exchange_model.specs.Steps as S
use Rattle.exchange_model.specs.Steps.{Step, SeatNow, Found, Try, bucket_of_call, change, made, next_row, next_tag}
use Rattle.exchange_model.specs.Goes.{Fate, is_announced, lost, ends_with, reply_for, own_after, exchanged}
use Rattle.exchange_model.specs.Worlds.{World, seat_in, ticked, seat_after, goes}
use Rattle.exchange_laws.proofs.RowLists.{is_row, flag, first_there, without_first}
use Rattle.exchange_laws.proofs.Words.{bucket_small, row_of_tag, generation_of_tag, rows_few}
use Rattle.exchange_laws.proofs.Owned.{Owned}
use Rattle.exchange_laws.proofs.OwnedMoves.{Moves}
use Rattle.exchange_laws.proofs.OwnedEvents.{quiet}
use Rattle.exchange_laws.proofs.TrueReads.{Reads}
use Rattle.exchange_laws.proofs.Places.{either_put}
use Rattle.exchange_laws.proofs.RowWords.{row_stands}
use Rattle.exchange_laws.proofs.StoredRows.{Stored, StoresBy}
use Rattle.exchange_laws.proofs.MadeRows.{made_is_row}
use Rattle.exchange_laws.proofs.FoundOps.{FoundOk, FoundAt}
use Rattle.exchange_laws.proofs.Announcing as A
use Rattle.exchange_laws.proofs.Announcing.{State}
use Rattle.exchange_laws.proofs.Announcements.{Announces, own_posted}
use Rattle.exchange_laws.proofs.Entries.{most, all_entries}
use Rattle.exchange_laws.proofs.Tied.{row_now, SinceStep, SinceFate, NotFree, Tied, TryIs, TryStep, TryFate, Pends, same_self, loses, own_pends}
use Rattle.exchange_laws.proofs.TiedMoves.{assemble, quietly, word_live, mine_is, other_is}
use Rattle.exchange_laws.proofs.TiedSteps as TS
use Rattle.exchange_laws.proofs.TiedSteps.{Follows, AreCounted}

module _ (plan : Plan) (is_plan : IsPlan plan) where
  module _ (x : World) (h : Owned plan x) (reads : Reads plan x) (finds : FoundOk plan x) (stored : Stored plan x)
      (all : Announces plan x) (counted : AreCounted plan is_plan x) (s : State) (tied : Tied plan x s) (p : ℕ)
      (inside : p < holders_of plan.settings) where
    abbrev now : SeatNow
    now = seat_in x p

    module _ (call : Call) (of_seat : p < plan.settings.seats) where
      abbrev b : ℕ
      b = bucket_of_call plan call

      small : b < buckets_of plan.settings
      small = bucket_small plan is_plan (key_in call)

      abbrev T : State → Fate → Type 0
      T z f = TryFate plan x.store.bucket x.store.op z p b f

      abbrev Y : Step → World
      Y step = ticked (goes plan x p now call step)

      abbrev M : Step → Type 0
      M step = Moves plan h.at x (Y step)

      -- ---- an exchange

      module _ (t : Try) (found : List Found) (stood : now.stand ≡ S.Goes call (S.Exchange t found))
          (moves : M (S.Exchange t found)) where
        abbrev c : Bool
        c = x.store.bucket b == t.word

        abbrev store : W.Store
        store = cond c (with_word x.store (W.Bucket b) (next_tag plan now t.word)) x.store

        abbrev own : SeatNow
        own = own_after plan p now call (S.Exchange t found) (x.store.bucket b)

        abbrev ended_with : Fate
        ended_with = ends_with (is_announced t.turn) (reply_for p (made plan t found).made)

        abbrev f : Fate
        f = cond c ended_with (lost t.turn)

        was : IsUpdate call × TryStep plan x.store.bucket x.store.op s p b (S.Exchange t found)
            × SinceStep plan s p b (S.Exchange t found)
        was = TS.tried plan is_plan x h reads finds stored all counted s tied p inside call of_seat
            (S.Exchange t found) stood

        own_is : (seat_after own call f).posted ≡ now.posted
        own_is = TS.posted_after plan is_plan x h reads finds stored all counted s tied p inside call of_seat own f
            ∙ own_posted plan p now call (S.Exchange t found) (x.store.bucket b) tt

        announced_is : store.announced ≡ x.store.announced
        announced_is = go c
          where
            go : (c : Bool) → (cond c (with_word x.store (W.Bucket b) (next_tag plan now t.word)) x.store).announced
                ≡ x.store.announced
            go true = refl
            go false = refl

        op_is : store.op ≡ x.store.op
        op_is = go c
          where
            go : (c : Bool) →
                (cond c (with_word x.store (W.Bucket b) (next_tag plan now t.word)) x.store).op ≡ x.store.op
            go true = refl
            go false = refl

        loses_it : c ≡ false → Follows plan is_plan (Y (S.Exchange t found))
        loses_it e =
            let buckets : store.bucket ≡ x.store.bucket =
            ap (λ (c : Bool). (cond c (with_word x.store (W.Bucket b) (next_tag plan now t.word)) x.store).bucket) e in
            let here : T s f = subst (λ (c : Bool). T s (cond c ended_with (lost t.turn))) (sym e)
            (loses plan is_plan x s tied all p of_seat call s t.turn) in
            record {
              s = s;
              tied = quietly plan is_plan x h s tied reads p inside store (seat_after own call f) _ _ s
                  (same_self plan s p)
                  moves tied.holds buckets announced_is (λ k _. ap (λ (g : ℕ → ℕ → ℕ). g k) op_is) own_is
                  (TS.then_frees plan is_plan x h reads finds stored all counted s tied p inside call of_seat own f
                  (λ row k. subst
                  (λ (c : Bool). many (is_row row) (cond c (exchanged now (row_in plan t.word)) now).free
                  ≡ 0 → many (is_row row) now.free ≡ 0) (sym e) (λ k. k) k))
                  (λ _. TS.after_fate plan is_plan x h reads finds stored all counted s tied p inside call of_seat
                  store.bucket store.op s own f was.0
                  (subst (λ (g : ℕ → ℕ → ℕ). TryFate plan store.bucket g s p b f) (sym op_is)
                  (subst (λ (g : ℕ → ℕ). TryFate plan g x.store.op s p b f) (sym buckets) here))
                  (TS.since_led plan is_plan x h reads finds stored all counted s tied p inside call of_seat
                  (S.Exchange t found) stood tt));
            }

        module _ (e : c ≡ true) where
          pub same : x.store.bucket b ≡ t.word
          same = eqb-true (x.store.bucket b) t.word e

          pub i : TryIs plan s p b t found (length found)
          i = was.1.1 same

          abbrev g : ℕ
          g = generation_in plan t.word

          pub generation_is : s.generation b ≡ g
          generation_is = tied.gens b small ∙ ap (generation_in plan) same

          z : State
          z = A.exchanged plan.settings.seats (last_generation plan) s p b g i.seen i.fs

          pub buckets : store.bucket ≡ put x.store.bucket b (next_tag plan now t.word)
          buckets =
              ap (λ (c : Bool). (cond c (with_word x.store (W.Bucket b) (next_tag plan now t.word)) x.store).bucket) e

          pub rows_are : store.row ≡ x.store.row
          rows_are =
              ap (λ (c : Bool). (cond c (with_word x.store (W.Bucket b) (next_tag plan now t.word)) x.store).row) e

          finds_it : FoundAt plan (S.Goes call (S.Exchange t found))
          finds_it = subst (FoundAt plan) stood (finds.each p inside)

          stored_it : StoresBy plan (x.store.row (next_row now)) (S.Goes call (S.Exchange t found))
          stored_it = subst (StoresBy plan (x.store.row (next_row now))) stood (stored.each p inside)

          few : next_row now < 2 ^ plan.row_bits
          few =
              let q = quiet plan is_plan x h p inside (S.Goes call (S.Exchange t found)) stood (λ k. k) in
              let there = first_there now.free q.0.enough in
              let is = q.0.rows.mine (next_row now) (omega (arith, there)) in
              let most = rows_few plan is_plan in
              omega (arith, is.1, most)

          pub stored_is : row_at plan (x.store.row (next_row now)) ≡ (change plan t.row found).row
          stored_is =
              row_stands plan is_plan (change plan t.row found).row
              (made_is_row plan is_plan t.row found finds_it.1.0.items finds_it.1.2 finds_it.1.1)
              (x.store.row (next_row now)) stored_it

          put_is : row_at plan (x.store.row (row_in plan (next_tag plan now t.word))) ≡ (change plan t.row found).row
          put_is = ap (λ k. row_at plan (x.store.row k)) (row_of_tag plan (g + 1) (next_row now) few) ∙ stored_is

          pub here_row : row_at plan (store.row (row_in plan (store.bucket b))) ≡ (change plan t.row found).row
          here_row =
              ap (λ (f : ℕ → ℕ). row_at plan (store.row (row_in plan (f b)))) buckets
              ∙ ap (λ w. row_at plan (store.row (row_in plan w))) (put_same x.store.bucket b (next_tag plan now t.word))
              ∙ ap (λ (f : ℕ → ℕ → ℕ). row_at plan (f (row_in plan (next_tag plan now t.word)))) rows_are ∙ put_is

          pub other_row : (a : ℕ) → a ≢ b → row_at plan (store.row (row_in plan (store.bucket a))) ≡ row_now plan x a
          other_row a n =
              ap (λ (f : ℕ → ℕ). row_at plan (store.row (row_in plan (f a)))) buckets
              ∙ ap (λ w. row_at plan (store.row (row_in plan w)))
              (put_other x.store.bucket b (next_tag plan now t.word) a n)
              ∙ ap (λ (f : ℕ → ℕ → ℕ). row_at plan (f (row_in plan (x.store.bucket a)))) rows_are

          abbrev new : ℕ → ℕ
          new q = A.next_entry (i.fs q) (i.seen q)

          entries_then : (a q : ℕ) → a < buckets_of plan.settings → q < plan.settings.seats →
              put s.entry b new a q ≡ most q (row_at plan (store.row (row_in plan (store.bucket a)))).entries
          entries_then a q less in_seats = elim (cases_eq a b) [
            | inl e ↦ subst (λ j. put s.entry b new j q ≡ most q
                (row_at plan (store.row (row_in plan (store.bucket j)))).entries)
                (sym e)
                (ap (λ (f : ℕ → ℕ). f q) (put_same s.entry b new)
                ∙ sym (all_entries plan b i.seen i.fs (rules_of plan) _ 0 found q i.match (omega arith)
                (let all_found = was.1.0 in omega (arith, all_found, in_seats)) refl)
                ∙ sym (ap (λ (r : Row). most q r.entries) here_row))
            | inr n ↦
                ap (λ (f : ℕ → ℕ). f q) (put_other s.entry b new a n) ∙ tied.rows a q less in_seats
                ∙ sym (ap (λ (r : Row). most q r.entries) (other_row a n))
          ]

          gens_then : (a : ℕ) → a < buckets_of plan.settings →
              put s.generation b (g + 1) a ≡ generation_in plan (store.bucket a)
          gens_then a less = elim (cases_eq a b) [
            | inl e ↦ subst (λ j. put s.generation b (g + 1) j ≡ generation_in plan (store.bucket j)) (sym e)
                (put_same s.generation b (g + 1) ∙ sym (generation_of_tag plan (g + 1) (next_row now) few)
                ∙ sym (ap (generation_in plan) (ap (λ (f : ℕ → ℕ). f b) buckets
                ∙ put_same x.store.bucket b (next_tag plan now t.word))))
            | inr n ↦
                put_other s.generation b (g + 1) a n ∙ tied.gens a less
                ∙ sym (ap (generation_in plan) (ap (λ (f : ℕ → ℕ). f a) buckets
                ∙ put_other x.store.bucket b (next_tag plan now t.word) a n))
          ]

          own_entry : is_announced t.turn ≡ true →
              (s.pending p ≡ true) × (s.home p ≡ b) × (put s.entry b new b p ≡ s.posted p + 1)
          own_entry is =
              let own =
              own_pends plan is_plan x s tied all p of_seat call t
              (TS.told plan is_plan x h reads finds stored all counted s tied p inside call of_seat
              (S.Exchange t found) stood) is in
              let all_found = was.1.0 in (
                own.0,
                own.1,
                ap (λ (f : ℕ → ℕ). f p) (put_same s.entry b new)
                    ∙ ap (λ (k : A.Found). A.next_entry k (i.seen p)) (i.own is (omega (arith, all_found, of_seat))),
              )

          -- the seat has one free row less, which is the one that stands there now
          pub free_then : (row : ℕ) → row ≢ next_row now → many (is_row row) (seat_after own call f).free ≡ 0 →
              many (is_row row) now.free ≡ 0
          free_then row n none =
              let q = quiet plan is_plan x h p inside (S.Goes call (S.Exchange t found)) stood (λ k. k) in
              let sum = without_first row now.free q.0.enough in
              let first : one_if (is_row row) (next_row now) ≡ 0 =
              ap flag (ne_eqb (next_row now) row (λ k. n (sym k))) in
              let fewer : (seat_after own call f).free ≡ drop 1 now.free =
              TS.free_after plan is_plan x h reads finds stored all counted s tied p inside call of_seat own f
              ∙ ap (λ (c : Bool). (cond c (exchanged now (row_in plan t.word)) now).free) e in
              let rest = ap (many (is_row row)) fewer in
              omega (arith, sum, first, rest, none)

          new_done : (q : ℕ) → q < plan.settings.seats → new q ≤ A.next_done (i.fs q) (s.done q)
          new_done q less = go (i.fs q) refl
            where
              was_tries : A.Tries plan.settings.seats (last_generation plan) s (A.At b g (length found) i.seen i.fs)
              was_tries = subst (A.Tries plan.settings.seats (last_generation plan) s) i.is (tied.holds.tries p)

              sound : A.Sound plan.settings.seats (last_generation plan) s b g (length found) i.seen i.fs
              sound = was_tries.2 generation_is

              old : most q (row_now plan x b).entries ≤ s.done q
              old = tied.olds (row_in plan (x.store.bucket b)) q (word_live plan is_plan x h s tied b small) less

              go : (k : A.Found) → i.fs q ≡ k → A.next_entry k (i.seen q) ≤ A.next_done k (s.done q)
              go A.NoOp m = omega arith
              go A.Keep m =
                  (let o = old in let a = sound.alike q in let r = tied.rows b q small less in omega (arith, o, a, r))
              go (A.Take t) m =
                  let k = sound.takes q t (let all_found = was.1.0 in omega (arith, all_found, less)) m in
                  let waits = tied.holds.waiting q k.0 (λ e. k.3 (ap (λ c. s.entry c q) (sym k.1) ∙ e)) in
                  let number = k.2 in
                  omega (arith, waits, number)

          done_more : (k : A.Found) (d : ℕ) → d ≤ A.next_done k d
          done_more A.NoOp d = omega arith
          done_more A.Keep d = omega arith
          done_more (A.Take t) d = omega arith

          olds_then : (row q : ℕ) → NotFree plan (Y (S.Exchange t found)) row → q < plan.settings.seats →
              most q (row_at plan (store.row row)).entries ≤ z.done q
          unfolding z
          olds_then row q none less = elim (cases_eq row (next_row now)) [
            | inl m ↦
                let is = ap (λ (f : ℕ → ℕ → ℕ). most q (row_at plan (f row)).entries) rows_are
                ∙ ap (λ k. most q (row_at plan (x.store.row k)).entries) m
                ∙ ap (λ (r : Row). most q r.entries) stored_is
                ∙ all_entries plan b i.seen i.fs (rules_of plan) _ 0 found q i.match (omega arith)
                (let all_found = was.1.0 in omega (arith, all_found, less)) refl in
                let low = new_done q less in
                omega (arith, is, low)
            | inr n ↦
                let before : NotFree plan x row = λ k inside_k. elim (cases_eq k p) [
                  | inl j ↦ ap (λ i. many (is_row row) (seat_in x i).free) j ∙ free_then row n (
                      sym (ap (λ (n : SeatNow). many (is_row row) n.free)
                      (mine_is plan is_plan x h s tied reads p inside store (seat_after own call f) [] []))
                      ∙ none p inside)
                  | inr j ↦ sym (ap (λ (n : SeatNow). many (is_row row) n.free)
                      (other_is plan is_plan x h s tied reads p inside store (seat_after own call f) [] [] k j))
                      ∙ none k inside_k
                ] in
                let is = ap (λ (f : ℕ → ℕ → ℕ). most q (row_at plan (f row)).entries) rows_are in
                let old = tied.olds row q before less in
                let grows = done_more (i.fs q) (s.done q) in
                omega (arith, is, old, grows)
          ]

          here_fate : TryFate plan store.bucket store.op z p b f
          unfolding z
          here_fate = subst (λ (c : Bool). TryFate plan store.bucket store.op z p b (cond c ended_with (lost t.turn)))
              (sym e)
              (go (is_announced t.turn) (reply_for p (made plan t found).made) own_entry)
            where
              go : (a : Bool) (reply : Option Reply) →
                  (a ≡ true → (s.pending p ≡ true) × (s.home p ≡ b) × (put s.entry b new b p ≡ s.posted p + 1)) →
                  TryFate plan store.bucket store.op z p b (ends_with a reply)
              go true None k = tt
              go false None k = tt
              go true (Some reply) k = k refl
              go false (Some reply) k = tt

          -- nobody tries where a bucket is spent
          pub not_last : s.generation b ≢ last_generation plan
          not_last e =
              let tries : A.Tries plan.settings.seats (last_generation plan) s (A.At b g (length found) i.seen i.fs) =
              subst (A.Tries plan.settings.seats (last_generation plan) s) i.is (tied.holds.tries p) in
              tries.3 (sym generation_is ∙ e)

          waits_still : (q : ℕ) → s.pending q ≡ true → s.entry (s.home q) q ≢ s.posted q + 1 →
              s.generation (s.home q) ≡ last_generation plan →
              (z.entry (s.home q) q ≢ s.posted q + 1) × (z.generation (s.home q) ≡ last_generation plan)
          unfolding z
          waits_still q a m l =
              let n : s.home q ≢ b = (λ e. not_last (ap s.generation (sym e) ∙ l)) in (
                λ e. m (sym (ap (λ (f : ℕ → ℕ). f q) (put_other s.entry b new (s.home q) n)) ∙ e),
                put_other s.generation b (g + 1) (s.home q) n ∙ l,
              )

          grown : (c : ℕ) → s.generation c ≤ z.generation c
          unfolding z
          grown c = elim (either_put s.generation b (g + 1) c) [
            | inl e ↦
                (let now_is = e.1 in let same = ap s.generation e.0 in omega (arith, now_is, same, generation_is))
            | inr n ↦ (let now_is = n.1 in omega (arith, now_is))
          ]

          since_fate : SinceFate plan z p b f
          unfolding z
          since_fate = subst (λ (c : Bool). SinceFate plan z p b (cond c ended_with (lost t.turn))) (sym e)
              (go (is_announced t.turn) (reply_for p (made plan t found).made))
            where
              go : (a : Bool) (reply : Option Reply) → SinceFate plan z p b (ends_with a reply)
              go true None = tt
              go false None = tt
              go true (Some reply) = tt
              go false (Some reply) = tt

          wins : Follows plan is_plan (Y (S.Exchange t found))
          unfolding z
          wins = record {
            s = z;
            tied = assemble plan is_plan x h s tied reads p inside store (seat_after own call f) _ _ z moves
                (A.exchanged_keeps plan.settings.seats (last_generation plan) s tied.holds p b g
                (length found) i.seen i.fs i.is was.1.0 generation_is)
                gens_then entries_then (λ _. tied.posted p of_seat ∙ sym own_is)
                (λ q less. subst (λ (f : ℕ → ℕ). Pends plan z q (f q)) (sym announced_is) (tied.pends q less))
                (λ q less n. record {
                  tries = put_other s.tries p A.NoTry q n;
                  waits = waits_still q;
                  later = record {
                    posted = refl;
                    pending = refl;
                    home = refl;
                    since = refl;
                    grows = grown;
                    stays = A.exchanged_stays plan.settings.seats (last_generation plan) s tied.holds p b g
                        (length found) i.seen i.fs i.is was.1.0
                        generation_is q;
                  };
                }) (λ k _. ap (λ (g : ℕ → ℕ → ℕ). g k) op_is)
                (λ _. TS.after_fate plan is_plan x h reads finds stored all counted s tied p inside call of_seat
                store.bucket store.op z own f was.0 here_fate since_fate) olds_then;
          }

        pub exchange_step : Follows plan is_plan (Y (S.Exchange t found))
        exchange_step = go c refl
          where
            go : (a : Bool) → c ≡ a → Follows plan is_plan (Y (S.Exchange t found))
            go true e = wins e
            go false e = loses_it e
