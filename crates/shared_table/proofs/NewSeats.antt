-- The seats of a new table have answered nothing, and are as many as there are to be.
use Rattle.std.proofs.Common.{◌≡◌, ℕ, zero, suc, length, refl, ap}
use Rattle.std.specs.Prelude.{All}
use Rattle.std.proofs.lemmas.List.Elements.{All-nil, All-cons}
use Rattle.shared_table.specs.Values.{IsNew, TableValue, new_seat, new_seats}

-- new seats are new
pub all_new : (t : TableValue) (seat many : ℕ) → All (IsNew t) (new_seats t seat many)
all_new t seat zero = All-nil (IsNew t)
all_new t seat (suc many) =
    All-cons (IsNew t) (new_seat t seat) (new_seats t (suc seat) many)
    (record { of = record { table = refl; setup = refl }; none = refl }) (all_new t (suc seat) many)

-- and are as many as there are to be
pub length-new_seats : (t : TableValue) (seat many : ℕ) → length (new_seats t seat many) ≡ many
length-new_seats t seat zero = refl
length-new_seats t seat (suc many) = ap suc (length-new_seats t (suc seat) many)
