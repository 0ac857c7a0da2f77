-- The seats of a table, which stay its seats whatever they do.
use Rattle.std.proofs.Common.{◌≡◌, ℕ, zero, suc, ◌<◌, List, [], ◌∷◌, length, get_or, set, refl, sym, ap, ◌∙◌, subst, arith, length-set}
use Rattle.std.specs.Prelude.{map}
use Rattle.std.proofs.lemmas.List.{length-map}
use Rattle.exchange_model.specs.Worlds.{Event}
use Rattle.exchange_table.specs.Parties.{PartyValue}
use Rattle.exchange_table.specs.Values.{IsPartyOf, IsSame, TableValue}
use Rattle.exchange_table.specs.Tables.{new_seats}
use Rattle.exchange_table.specs.Meetings.{AreSeatsFrom, AreSeatsOf, HaveMet, informed}

-- ---- at the opening

opened_from : (t : TableValue) (k many : ℕ) → AreSeatsFrom t k (new_seats t k many)
opened_from t k zero = tt
opened_from t k (suc many) = (record { table = refl; plan = refl }, refl, opened_from t (suc k) many)

opened_count : (t : TableValue) (k many : ℕ) → length (new_seats t k many) ≡ many
opened_count t k zero = refl
opened_count t k (suc many) = ap suc (opened_count t (suc k) many)

pub seats_opened : (t : TableValue) (many : ℕ) → many ≡ t.plan.settings.seats → AreSeatsOf t (new_seats t 0 many)
seats_opened t many all =
    record { count = opened_count t 0 many ∙ all; each = opened_from t 0 many }

-- ---- one of them

seat_from : (t : TableValue) (k : ℕ) (ps : List PartyValue) (i : ℕ) (d : PartyValue) → AreSeatsFrom t k ps →
    i < length ps → IsPartyOf t (get_or ps i d)
seat_from t k [] i d are less = absurd (omega (arith, less))
seat_from t k (p ∷ ps) zero d are less = are.0
seat_from t k (p ∷ ps) (suc i) d are less = seat_from t (suc k) ps i d are.2 (omega (arith, less))

pub seat_of : (t : TableValue) (ps : List PartyValue) (i : ℕ) (d : PartyValue) → AreSeatsOf t ps → i < length ps →
    IsPartyOf t (get_or ps i d)
seat_of t ps i d are less = seat_from t 0 ps i d are.each less

set_from : (t : TableValue) (k : ℕ) (ps : List PartyValue) (i : ℕ) (d then : PartyValue) → AreSeatsFrom t k ps →
    IsSame (get_or ps i d) then → AreSeatsFrom t k (set ps i then)
set_from t k [] i d then are same = tt
set_from t k (p ∷ ps) zero d then are same = (
  record { table = same.table ∙ are.0.table; plan = same.plan ∙ are.0.plan },
  same.who ∙ are.1,
  are.2,
)
set_from t k (p ∷ ps) (suc i) d then are same = (are.0, are.1, set_from t (suc k) ps i d then are.2 same)

-- one has made a call
pub seats_set : (t : TableValue) (ps : List PartyValue) (i : ℕ) (d then : PartyValue) → AreSeatsOf t ps →
    IsSame (get_or ps i d) then → AreSeatsOf t (set ps i then)
seats_set t ps i d then are same =
    record { count = length-set ps i then ∙ are.count; each = set_from t 0 ps i d then are.each same }

-- ---- they have met

informed_from : (t : TableValue) (known : List Event) (k : ℕ) (ps : List PartyValue) → AreSeatsFrom t k ps →
    AreSeatsFrom t k (map (informed known) ps)
informed_from t known k [] are = tt
informed_from t known k (p ∷ ps) are =
    (record { table = are.0.table; plan = are.0.plan }, are.1, informed_from t known (suc k) ps are.2)

pub seats_met : (t : TableValue) (was now : List PartyValue) → AreSeatsOf t was → HaveMet t was now → AreSeatsOf t now
seats_met t was now are met = subst (AreSeatsOf t) (sym met.are) (record {
  count = length-map was (informed met.known) ∙ are.count;
  each = informed_from t met.known 0 was are.each;
})
