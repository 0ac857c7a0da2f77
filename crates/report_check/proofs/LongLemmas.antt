-- The first update with too many steps.
use Rattle.std.proofs.Common.{◌≡◌, ℕ, suc, ◌<◌, true, List, length, get_or, take, drop, refl, sym, arith}
use Rattle.std.specs.Prelude.{All}
use Rattle.plain_map.specs.declared.records.Record.{Record}
use Rattle.plain_map.specs.Calls.{is_update}
use Rattle.report_told.specs.Points.{IsShortEnough}
use Rattle.list_laws.proofs.Cuts.{cut_at}
use Rattle.report_check.specs.Judged.{IsLongAt}

-- an update with too many steps behind others with few enough is the first such
pub long_at : (bound : ℕ) (calls : List Record) (i : ℕ) (d : Record) → i < length calls →
    All (IsShortEnough bound) (take i calls) → bound < (get_or calls i d).steps →
    true ≡ is_update (get_or calls i d).call → IsLongAt bound calls (get_or calls i d).packet
long_at bound calls i d inside right long update = record {
  front = take i calls;
  long = get_or calls i d;
  later = drop (suc i) calls;
  cut = cut_at calls i d inside;
  packet_is = refl;
  right = right;
  fault = λ short. omega (arith, long, short (sym update));
}
