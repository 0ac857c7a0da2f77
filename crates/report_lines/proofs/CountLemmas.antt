-- Counts, read one behind the other.
use Rattle.std.proofs.Common.{◌≡◌, ℕ, zero, suc, ◌+◌, ◌-◌, ◌<◌, ◌≤◌, codes, List, [], ◌∷◌, ◌++◌, length, length-append, replicate, Option, Some, None, refl, sym, ap, ◌∙◌, arith}
use Rattle.std.proofs.Math.ListN.{set}
use Rattle.plain_map.specs.declared.records.Seen.{Seen}
use Rattle.line_fields.specs.Reading.{◌>>=◌, number_at, text_at}
use Rattle.report_lines.specs.Fields.{most_32, counts_behind, counts_at, seen_with}

-- so many counts were read, and the others of so many seats make the whole
pub record HasCounts (seats seat : ℕ) (counts rest : List ℕ) (whole : Option (List ℕ × List ℕ)) : Type 0 where
  pub front : List ℕ
  pub long : length front ≡ seat
  pub are : counts ≡ front ++ replicate (8 - seat) 0
  pub goes_on : counts_behind (seats - seat) front rest ≡ whole

pub counts_begin : (seats first : ℕ) (rest : List ℕ) →
    HasCounts seats 1 (set (replicate 8 0) 0 first) rest (counts_behind (seats - 1) (first ∷ []) rest)
counts_begin seats first rest = record { front = first ∷ []; long = refl; are = refl; goes_on = refl }

set_behind : (front back : List ℕ) (i x y : ℕ) → length front ≡ i →
    set (front ++ x ∷ back) i y ≡ (front ++ y ∷ []) ++ back
set_behind [] back zero x y long = refl
set_behind [] back (suc i) x y long = absurd (omega arith)
set_behind (f ∷ front) back zero x y long = absurd (omega arith)
set_behind (f ∷ front) back (suc i) x y long = ap (λ (z : List ℕ). f ∷ z) (set_behind front back i x y (omega arith))

one_count : (many : ℕ) (front bytes rest left : List ℕ) (count : ℕ) → text_at (codes ",") bytes ≡ Some rest →
    number_at most_32 rest ≡ Some (count, left) →
    counts_behind (suc many) front bytes ≡ counts_behind many (front ++ count ∷ []) left
unfolding counts_behind
one_count many front bytes rest left count comma number = rw (comma, number) refl

pub counts_more : (seats seat count : ℕ) (counts bytes rest left : List ℕ) (whole : Option (List ℕ × List ℕ)) →
    seats ≤ 8 → seat < seats → HasCounts seats seat counts bytes whole → text_at (codes ",") bytes ≡ Some rest →
    number_at most_32 rest ≡ Some (count, left) → HasCounts seats (seat + 1) (set counts seat count) left whole
counts_more seats seat count counts bytes rest left whole few below has comma number =
    let others : 8 - seat ≡ suc (8 - (seat + 1)) = omega arith in
    let many : seats - seat ≡ suc (seats - (seat + 1)) = omega arith in
    let zeros : counts ≡ has.front ++ 0 ∷ replicate (8 - (seat + 1)) 0 =
    has.are ∙ ap (λ (n : ℕ). has.front ++ replicate n 0) others in
    record {
      front = has.front ++ count ∷ [];
      long = omega (arith, length-append has.front (count ∷ []), has.long);
      are =
          ap (λ (c : List ℕ). set c seat count) zeros
          ∙ set_behind has.front (replicate (8 - (seat + 1)) 0) seat 0 count has.long;
      goes_on =
          sym (one_count (seats - (seat + 1)) has.front bytes rest left count comma number)
          ∙ ap (λ (n : ℕ). counts_behind n has.front bytes) (sym many) ∙ has.goes_on;
    }

no_comma : (many : ℕ) (front bytes : List ℕ) → text_at (codes ",") bytes ≡ None →
    counts_behind (suc many) front bytes ≡ None
unfolding counts_behind
no_comma many front bytes comma = rw comma refl

no_number : (many : ℕ) (front bytes rest : List ℕ) → text_at (codes ",") bytes ≡ Some rest →
    number_at most_32 rest ≡ None → counts_behind (suc many) front bytes ≡ None
unfolding counts_behind
no_number many front bytes rest comma number = rw (comma, number) refl

pub counts_no_comma : (seats seat : ℕ) (counts bytes : List ℕ) (whole : Option (List ℕ × List ℕ)) → seat < seats →
    HasCounts seats seat counts bytes whole → text_at (codes ",") bytes ≡ None → whole ≡ None
counts_no_comma seats seat counts bytes whole below has comma =
    let many : seats - seat ≡ suc (seats - (seat + 1)) = omega arith in
    sym has.goes_on ∙ ap (λ (n : ℕ). counts_behind n has.front bytes) many
    ∙ no_comma (seats - (seat + 1)) has.front bytes comma

pub counts_no_number : (seats seat : ℕ) (counts bytes rest : List ℕ) (whole : Option (List ℕ × List ℕ)) →
    seat < seats → HasCounts seats seat counts bytes whole → text_at (codes ",") bytes ≡ Some rest →
    number_at most_32 rest ≡ None → whole ≡ None
counts_no_number seats seat counts bytes rest whole below has comma number =
    let many : seats - seat ≡ suc (seats - (seat + 1)) = omega arith in
    sym has.goes_on ∙ ap (λ (n : ℕ). counts_behind n has.front bytes) many
    ∙ no_number (seats - (seat + 1)) has.front bytes rest comma number

-- what a caller had seen, by its counts
abbrev pub seen_from : (seats : ℕ) → Option (List ℕ × List ℕ) → Option (Seen × List ℕ)
seen_from seats (Some found) = Some (seen_with seats found.0, found.1)
seen_from seats None = None

-- the whole, by the first count and those behind it
pub counts_from : (seats first : ℕ) (bytes rest : List ℕ) (whole : Option (List ℕ × List ℕ)) →
    number_at most_32 bytes ≡ Some (first, rest) → counts_behind (seats - 1) (first ∷ []) rest ≡ whole →
    counts_at seats bytes ≡ seen_from seats whole
unfolding counts_at
counts_from seats first bytes rest whole number behind = rw (number, behind) (same whole)
  where
    same : (o : Option (List ℕ × List ℕ)) →
        (◌>>=◌ {B = Seen × List ℕ} o (λ counts. Some (seen_with seats counts.0, counts.1))) ≡ seen_from seats o
    same (Some found) = refl
    same None = refl

nothing_left : (front bytes : List ℕ) → counts_behind 0 front bytes ≡ Some (front, bytes)
unfolding counts_behind
nothing_left front bytes = refl

pub counts_whole : (seats seat : ℕ) (counts bytes : List ℕ) (whole : Option (List ℕ × List ℕ)) → seat ≡ seats →
    HasCounts seats seat counts bytes whole →
    seen_from seats whole ≡ Some (record { counts = counts }, bytes)
counts_whole seats seat counts bytes whole all has =
    let many : seats - seat ≡ 0 = omega arith in
    let is : whole ≡ Some (has.front, bytes) =
    sym has.goes_on ∙ ap (λ (n : ℕ). counts_behind n has.front bytes) many ∙ nothing_left has.front bytes in
    let made : List ℕ → Seen = λ c. record { counts = c } in
    ap (seen_from seats) is
    ∙ ap (λ (n : ℕ). Some (made (has.front ++ replicate (8 - n) 0), bytes)) (sym all)
    ∙ ap (λ (c : List ℕ). Some (made c, bytes)) (sym has.are)

pub counts_no_first : (seats : ℕ) (bytes : List ℕ) → number_at most_32 bytes ≡ None → counts_at seats bytes ≡ None
unfolding counts_at
counts_no_first seats bytes number = rw number refl
