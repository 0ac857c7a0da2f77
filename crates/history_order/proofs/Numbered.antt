-- Each call stands where its seat and number say.
use Rattle.std.proofs.Common.{◌≡◌, ℕ, ◌+◌, ◌-◌, ◌≤◌, List, [], length, map, Option, Some, None, true≢false, refl, inl, inr, sym, ap, ◌∙◌, subst, arith, eqb-true, eq-eqb}
use Rattle.std.specs.Prelude.{◌==◌, slice_get, find, option_map}
use Rattle.std.specs.Option.{option_map_or}
use Rattle.std.proofs.lemmas.Option.{slice_get_past, get_or_from_slice_get}
use Rattle.plain_map.specs.declared.records.Record.{Record}
use Rattle.plain_map.specs.declared.records.Pending.{Pending}
use Rattle.plain_map.specs.History.{Placed, answered, pending, seat_of, number_of}
use Rattle.table_model.specs.Order.{calls_of}
use Rattle.list_laws.proofs.Lists.{In, in_both, in_right, in_map, map_in, in_flat_map, find_in}
use Rattle.closed_laws.proofs.Pieces.{pending_one}
use Rattle.table_model.specs.Closing.{closing_with, log_of}
use Rattle.history_order.specs.Told.{Told}
use Rattle.history_order.specs.Calls.{call_at, record_at}
use Rattle.history_order.proofs.Units.{find_none}
use Rattle.history_order.proofs.Based.{in_place}

module _ (words : List ℕ) (logs : List (List Record)) (begun : List Pending) (t : Told words logs begun) where
  -- an answered call stands in its seat's log
  pub record_there : (r : Record) → In r (closing_with words logs begun).records →
      record_at logs r.seat (r.number - 1) ≡ Some r
  record_there r i =
      let of = in_flat_map (λ (log : List Record). log) logs r i in
      let log : List Record = of.0 in
      let s = in_place logs log of.1 in
      let here : log_of logs s.0 ≡ log = get_or_from_slice_get logs s.0 log [] s.1 in
      let at = in_place log r of.2 in
      let is : slice_get (log_of logs s.0) at.0 ≡ Some r =
      subst (λ (xs : List Record). slice_get xs at.0 ≡ Some r) (sym here) at.1 in
      let n = t.numbered s.0 at.0 r is in
      let place : r.number - 1 ≡ at.0 = omega (arith, n.1) in
      ap (λ seat. record_at logs seat (r.number - 1)) n.0 ∙ ap (record_at logs s.0) place ∙ is

  -- the call that a seat had begun is found
  begun_there : (p : Pending) → In p begun → find (λ (q : Pending). q.seat == p.seat) begun ≡ Some p
  begun_there p i = go (find (λ (q : Pending). q.seat == p.seat) begun) refl
    where
      go : (o : Option Pending) → find (λ (q : Pending). q.seat == p.seat) begun ≡ o → o ≡ Some p
      go None e = absurd (true≢false (sym (eq-eqb p.seat p.seat refl)
          ∙ find_none (λ (q : Pending). q.seat == p.seat) begun p e i))
      go (Some q) e =
          let f = find_in (λ (z : Pending). z.seat == p.seat) begun q e in
          let seat : q.seat ≡ p.seat = eqb-true q.seat p.seat f.1 in
          let number : q.number ≡ p.number = t.next q f.0
          ∙ ap (λ s. length (log_of logs s) + 1) seat ∙ sym (t.next p i) in
          let records = map answered (closing_with words logs begun).records in
          ap Some (pending_one q p (t.ledger.same (pending q) (pending p)
          (in_right (pending q) records (map pending begun) (map_in pending begun q f.0))
          (in_right (pending p) records (map pending begun) (map_in pending begun p i)) seat number))

  -- so each call stands at its place
  pub call_there : (c : Placed) → In c (calls_of (closing_with words logs begun)) →
      call_at logs begun (seat_of c) (number_of c - 1) ≡ Some c
  call_there c i = elim
      (in_both c (map answered (closing_with words logs begun).records) (map pending begun) i) [
        | inl a ↦
            let r = in_map answered (closing_with words logs begun).records c a in
            subst (λ (d : Placed). call_at logs begun (seat_of d) (number_of d - 1) ≡ Some d) (sym r.2)
            (ap (λ (o : Option Record). option_map_or (λ x. Some (answered x)) o
            (option_map pending (find (λ (q : Pending). q.seat == r.0.seat) begun))) (record_there r.0 r.1))
        | inr b ↦
            let p = in_map pending begun c b in
            let past : length (log_of logs p.0.seat) ≤ p.0.number - 1 = omega (arith, t.next p.0 p.1) in
            subst (λ (d : Placed). call_at logs begun (seat_of d) (number_of d - 1) ≡ Some d) (sym p.2)
            (ap (λ (o : Option Record). option_map_or (λ x. Some (answered x)) o
            (option_map pending (find (λ (q : Pending). q.seat == p.0.seat) begun)))
            (slice_get_past (log_of logs p.0.seat) (p.0.number - 1) past)
            ∙ ap (option_map pending) (begun_there p.0 p.1))
      ]
