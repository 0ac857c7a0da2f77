-- A desk stays that of a caller as long as its table and its number do.
use Rattle.std.proofs.Common.{◌≡◌, ◌+◌, ◌*◌, ◌^◌, ◌≤◌, sym, ap, ◌∙◌, subst}
use Rattle.exchange_model.specs.Plans.{Plan}
use Rattle.exchange_calls.specs.Going.{Going}
use Rattle.exchange_calls.specs.Desks.{IsOf}
use Rattle.exchange_calls.specs.declared.desk.Desk.{Desk}

pub desk_still : (g h : Going) (desk : Desk) → h.plan ≡ g.plan → h.seat ≡ g.seat → IsOf g desk → IsOf h desk
desk_still g h desk plan seat k = record {
  seats = ap (λ (p : Plan). p.settings.seats) plan ∙ k.seats;
  readers = ap (λ (p : Plan). p.settings.readers) plan ∙ k.readers;
  items = ap (λ (p : Plan). p.settings.items) plan ∙ k.items;
  depth = ap (λ (p : Plan). p.settings.depth) plan ∙ k.depth;
  spare = ap (λ (p : Plan). p.spare) plan ∙ k.spare;
  row_bits = ap (λ (p : Plan). p.row_bits) plan ∙ k.row_bits;
  hashing = ap (λ (p : Plan). p.hashing) plan ∙ k.hashing;
  seat = seat ∙ k.seat;
  rows = subst (λ (p : Plan). p.settings.seats * p.spare + 2 ^ p.settings.depth ≤ 2 ^ p.row_bits) (sym plan) k.rows;
}
