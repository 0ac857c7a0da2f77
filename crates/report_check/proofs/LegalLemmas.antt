-- Calls asked of the plain map, one behind the other.
use Rattle.std.proofs.Common.{◌≡◌, inl, inr, ℕ, suc, ◌+◌, ◌<◌, Bool, true, false, List, [], ◌∷◌, ◌++◌, length, get_or, take, drop, sym, ◌∙◌, subst}
use Rattle.std.specs.Prelude.{flat_map, MatchBool}
use Rattle.std.specs.FinMap.{empty}
use Rattle.plain_map.specs.declared.rules.Rules.{Rules}
use Rattle.plain_map.specs.declared.calls.Reply.{Reply}
use Rattle.plain_map.specs.declared.records.Record.{Record}
use Rattle.plain_map.specs.declared.records.Pending.{Pending}
use Rattle.plain_map.specs.PlainObject.{Sessions, map_after}
use Rattle.plain_map.specs.History.{Placed, HasReply, Legal, call_in, sessions_after, GrowsLegally}
use Rattle.class_map.specs.Rows.{Holds}
use Rattle.report_told.specs.Told.{Told}
use Rattle.report_told.specs.Points.{IsWhole, placed_told, rules_told}
use Rattle.report_told.specs.Verdicts.{IsFirstIllegal}
use Rattle.report_check.specs.Facts.{Facts, placed_at}
use Rattle.report_check.specs.Judged.{AnsweredAt, AreLegal, LegalSo}
use Rattle.report_check.proofs.FactLemmas.{front_more, order_cut, order_whole, some_call, stands_here}

-- the empty order is legal, and leaves the empty map
pub none_legal : (rules : Rules) (rows : List Sessions) → Holds rows rules empty → AreLegal rules [] rows
none_legal rules rows none = record { legal = tt; holds = none }

-- a call with the map's reply makes a legal order longer
one_more : (rules : Rules) (front : List Placed) (rows : List Sessions) (p : Placed) → GrowsLegally →
    Legal rules empty front → HasReply rules (sessions_after rules empty front) p →
    Holds rows rules (map_after rules (sessions_after rules empty front) (call_in p)) →
    AreLegal rules (front ++ p ∷ []) rows
one_more rules front rows p grows legal has holds = record {
  legal = (grows rules empty front p).0 legal has;
  holds = subst (Holds rows rules) (sym ((grows rules empty front p).1)) holds;
}

-- what the calls before this place leave
abbrev pub left_at : Told → Rules → (order : List ℕ) → (i : ℕ) → Sessions
left_at told rules order i = sessions_after rules empty (flat_map (placed_at told) (take i order))

-- a call with the map's reply goes on in the order
pub legal_more : (told : Told) (rules : Rules) (calls : List Record) (pending : List Pending) (order : List ℕ) (i : ℕ)
    (before after : List Sessions) → GrowsLegally → Facts told calls pending order → IsWhole told → i < length order →
    AreLegal rules (flat_map (placed_at told) (take i order)) before →
    AnsweredAt told rules (get_or order i 0) (left_at told rules order i) after true →
    AreLegal rules (flat_map (placed_at told) (take (i + 1) order)) after
legal_more told rules calls pending order i before after grows facts whole inside so tried = elim tried [
  | inl (p, at, named, good) ↦
      subst (λ (xs : List Placed). AreLegal rules xs after) (sym (front_more told order i p inside at))
      (one_more rules (flat_map (placed_at told) (take i order)) after p grows so.legal good.0 good.1)
  | inr none ↦ absurd (some_call told (get_or order i 0) whole (stands_here told calls pending order i facts inside)
      none)
]

-- a call with another reply is the first illegal one
pub illegal_here : (told : Told) (rules : Rules) (calls : List Record) (pending : List Pending) (order : List ℕ) (i : ℕ)
    (before after : List Sessions) → Facts told calls pending order → IsWhole told → i < length order →
    rules ≡ rules_told told.head → AreLegal rules (flat_map (placed_at told) (take i order)) before →
    AnsweredAt told rules (get_or order i 0) (left_at told rules order i) after false →
    IsFirstIllegal told (get_or order i 0)
illegal_here told rules calls pending order i before after facts whole inside are so tried = elim tried [
  | inl (p, at, named, never) ↦ record {
    front = flat_map (placed_at told) (take i order);
    placed = p;
    later = flat_map (placed_at told) (drop (suc i) order);
    cut = order_cut told calls pending order i p facts inside at;
    packet_is = named;
    right = subst (λ (rs : Rules). Legal rs empty (flat_map (placed_at told) (take i order))) are so.legal;
    fault = subst (λ (rs : Rules). HasReply rs (left_at told rs order i) p → ⊥) are never;
  }
  | inr none ↦ absurd (some_call told (get_or order i 0) whole (stands_here told calls pending order i facts inside)
      none)
]

-- where all have the map's replies, the order is legal
pub legal_end : (told : Told) (rules : Rules) (calls : List Record) (pending : List Pending) (order : List ℕ) (i : ℕ)
    (rows : List Sessions) → Facts told calls pending order → i ≡ length order → rules ≡ rules_told told.head →
    AreLegal rules (flat_map (placed_at told) (take i order)) rows → LegalSo told rows
legal_end told rules calls pending order i rows facts all are so =
    subst (λ (rs : Rules). AreLegal rs (placed_told told) rows) are
    (subst (λ (xs : List Placed). AreLegal rules xs rows) (order_whole told calls pending order i facts all) so)

-- the reply that the map gave is the call's, or is not
pub reply_test : (Left : Type 0) (good : Bool) (got reply right : Reply) → got ≡ right → Left →
    MatchBool good (got ≡ reply) (got ≡ reply → ⊥) →
    MatchBool good ((reply ≡ right) × Left) (reply ≡ right → ⊥)
reply_test Left true got reply right are left same = (sym same ∙ are, left)
reply_test Left false got reply right are left differ = λ same. differ (are ∙ sym same)
