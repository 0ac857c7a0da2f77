-- Each packet of a report stands in its order as often as it must.
use Rattle.std.proofs.Common.{◌≡◌, inl, inr, ℕ, ◌+◌, ◌≤◌, Bool, true, false, cond, List, [], ◌∷◌, ◌++◌, map, refl, sym, ap, ◌∙◌, arith}
use Rattle.std.specs.Prelude.{filter}
use Rattle.std.proofs.lemmas.Bool.{cases_lt}
use Rattle.std.proofs.lemmas.List.{map-append}
use Rattle.plain_map.specs.declared.records.Record.{Record}
use Rattle.plain_map.specs.declared.records.Pending.{Pending}
use Rattle.plain_map.specs.History.{Placed, answered, pending as waiting, Whole, packet_of}
use Rattle.trace_share.specs.declared.outcome.Outcome.{Outcome}
use Rattle.trace_share.specs.declared.outcome.Outcome.TheVariants.{Answered, Refused}
use Rattle.report_told.specs.Rules.{Rise, times}
use Rattle.plain_map.specs.Calls.{is_update}
use Rattle.report_told.proofs.TimesLemmas.{filter_within, times-permuted, times-append, times-cons}
use Rattle.report_promises.specs.Good.{answered_on, calls_ended}
use Rattle.report_promises.proofs.PacketLemmas.{filter_fewer, rise_once}
use Rattle.report_promises.proofs.PlacedLemmas.{calls_of}
use Rattle.report_promises.proofs.ToldOf.{begun, plain}

-- the packets of calls
abbrev pub record_packets : List Record → List ℕ
record_packets records = map (λ r. r.packet) records

-- and of calls under way
abbrev pub waiting_packets : List Pending → List ℕ
waiting_packets us = map (λ u. u.packet) us

-- no packet has more answered calls than calls that ended
pub fewer_answered : (packet : ℕ) (lines : List (ℕ × Outcome)) →
    times packet (record_packets (answered_on lines)) ≤ times packet (map (λ asked. asked.0) (calls_ended lines))
fewer_answered packet [] = omega arith
fewer_answered packet ((seat, Answered r) ∷ lines) =
    omega (
      arith,
      fewer_answered packet lines,
      times-cons packet r.packet (record_packets (answered_on lines)),
      times-cons packet r.packet (map (λ asked. asked.0) (calls_ended lines)),
    )
fewer_answered packet ((seat, Refused p asked full) ∷ lines) =
    omega (arith, fewer_answered packet lines, times-cons packet p (map (λ asked. asked.0) (calls_ended lines)))

-- the packets of calls in an order
order_packets : (records : List Record) (us : List Pending) →
    map packet_of (calls_of records us) ≡ record_packets records ++ waiting_packets us
order_packets records us =
    map-append packet_of (map answered records) (map waiting us)
    ∙ ap (λ ps. ps ++ map packet_of (map waiting us)) (of_records records)
    ∙ ap (λ ps. record_packets records ++ ps) (of_waits us)
  where
    of_records : (rs : List Record) → map packet_of (map answered rs) ≡ record_packets rs
    of_records [] = refl
    of_records (r ∷ rs) = ap (λ ps. r.packet ∷ ps) (of_records rs)

    of_waits : (vs : List Pending) → map packet_of (map waiting vs) ≡ waiting_packets vs
    of_waits [] = refl
    of_waits (v ∷ vs) = ap (λ ps. v.packet ∷ ps) (of_waits vs)

-- how often a packet has a call
pub times_calls : (packet : ℕ) (records : List Record) (us : List Pending) →
    times packet (map packet_of (calls_of records us))
    ≡ times packet (record_packets records) + times packet (waiting_packets us)
times_calls packet records us =
    ap (times packet) (order_packets records us) ∙ times-append packet (record_packets records) (waiting_packets us)

-- no packet is of two calls
pub calls_once : (lines : List (ℕ × Outcome)) (us : List Pending) →
    Rise (map (λ asked. asked.0) (calls_ended lines)) →
    ((packet : ℕ) → 1 ≤ times packet (waiting_packets us) →
    times packet (map (λ asked. asked.0) (calls_ended lines)) + times packet (waiting_packets us) ≤ 1) →
    (packet : ℕ) → times packet (map packet_of (calls_of (answered_on lines) us)) ≤ 1
calls_once lines us rise apart packet =
    elim (cases_lt 0 (times packet (waiting_packets us))) [
      | inl some ↦ omega (
        arith,
        times_calls packet (answered_on lines) us,
        fewer_answered packet lines,
        apart packet (omega (arith, some)),
      )
      | inr none ↦ omega (
        arith,
        none,
        times_calls packet (answered_on lines) us,
        fewer_answered packet lines,
        rise_once (map (λ asked. asked.0) (calls_ended lines)) packet rise,
      )
    ]

-- Calls as they are told have their packets.

-- answered calls
pub plain_packets : (seats : ℕ) (records : List Record) →
    record_packets (map (plain seats) records) ≡ record_packets records
plain_packets seats [] = refl
plain_packets seats (r ∷ records) = ap (λ ps. r.packet ∷ ps) (plain_packets seats records)

-- and updates under way
pub begun_updates : (seats : ℕ) (us : List Pending) →
    waiting_packets (filter (λ u. is_update u.call) (map (begun seats) us))
    ≡ waiting_packets (filter (λ u. is_update u.call) us)
begun_updates seats [] = refl
begun_updates seats (u ∷ us) = go (is_update u.call) (begun_updates seats us)
  where
    more : List Pending
    more = filter (λ v. is_update v.call) (map (begun seats) us)

    own : List Pending
    own = filter (λ v. is_update v.call) us

    go : (b : Bool) → waiting_packets more ≡ waiting_packets own →
        waiting_packets (cond b (begun seats u ∷ more) more) ≡ waiting_packets (cond b (u ∷ own) own)
    go true later = ap (λ ps. u.packet ∷ ps) later
    go false later = later

-- How often a packet stands in a whole order.
pub record StandsSo (records : List Record) (us : List Pending) (order : List Placed) (packet : ℕ) : Type 0 where
  pub once : 1 ≤ times packet (record_packets records) → times packet (map packet_of order) ≡ 1
  pub at_most : times packet (map packet_of order) ≤ 1
  pub known : times packet (map packet_of order)
      ≤ times packet (record_packets records) + times packet (waiting_packets (filter (λ u. is_update u.call) us))

-- so often each packet stands, where no packet is of two calls
pub stands_so : (records : List Record) (us : List Pending) (took : Pending → Bool) (order : List Placed) →
    ((u : Pending) → took u ≡ true → is_update u.call ≡ true) → Whole records (filter took us) order →
    (packet : ℕ) → times packet (map packet_of (calls_of records us)) ≤ 1 → StandsSo records us order packet
stands_so records us took order updates whole packet few =
    let stands : times packet (map packet_of order)
    ≡ times packet (record_packets records) + times packet (waiting_packets (filter took us)) =
    sym (times-permuted packet_of packet (calls_of records (filter took us)) order whole)
    ∙ times_calls packet records (filter took us) in
    let all = times_calls packet records us in
    let fewer = filter_within (λ (u : Pending). u.packet) packet took us in
    record {
      once = λ some. omega (arith, stands, all, fewer, few, some);
      at_most = omega (arith, stands, all, fewer, few);
      known = omega (
        arith,
        stands,
        filter_fewer (λ (u : Pending). u.packet) packet took (λ u. is_update u.call) updates us,
      );
    }
