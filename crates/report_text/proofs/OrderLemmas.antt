-- An order's lines, a line after another.
use Rattle.std.proofs.Common.{◌≡◌, ℕ, suc, ◌+◌, ◌-◌, ◌<◌, ◌≤◌, min, List, [], ◌∷◌, ◌++◌, length, take, drop, map, decimal, get_or, refl, sym, ap, ◌∙◌, arith, append_assoc, length-drop}
use Rattle.std.specs.Slice.Iter.{chunk_count}
use Rattle.std.proofs.lemmas.List.{append-nil, drop_all, drop_at, length-append, length-take, map_more, take-append-le, take_all, take_at}
use Rattle.plain_map.specs.declared.records.CallId.{CallId}
use Rattle.report_text.specs.Lines.{Puts}
use Rattle.report_text.specs.Report.{order_line, order_lines}
use Rattle.report_text.proofs.LineLemmas.{◌⨟◌}

-- one packet more on a line
pub packets_more : {old between new : List ℕ} (ids : List CallId) (i : ℕ) (id : CallId) → i < length ids →
    Puts old (map (λ id. decimal id.packet) (take i ids)) between →
    Puts between (decimal (get_or ids i id).packet ∷ []) new →
    Puts old (map (λ id. decimal id.packet) (take (i + 1) ids)) new
packets_more ids i id inside before after =
    rw (map_more (λ (id : CallId). decimal id.packet) ids i id inside) (before ⨟ after)

-- a list that is not empty has one part of 16 elements more than what is left after 16
pub chunk_count_step : (n : ℕ) → 0 < n → chunk_count n 16 ≡ suc (chunk_count (n - 16) 16)
chunk_count_step n some = omega arith

pub order_lines_step : (xs : List CallId) → 0 < length xs →
    order_lines xs ≡ order_line (take 16 xs) ++ order_lines (drop 16 xs)
unfolding order_lines
order_lines_step xs some =
    let left : length (drop 16 xs) ≡ length xs - 16 = length-drop 16 xs in
    rw (left, chunk_count_step (length xs) some) refl

-- a front of n elements, or of all where there are fewer: what stands there, and what is left
take_front : (n : ℕ) (x rest : List CallId) → length x ≡ min n (length (x ++ rest)) → take n (x ++ rest) ≡ x
take_front n x [] front =
    let sum : length (x ++ []) ≡ length x + 0 = length-append x [] in
    let short : length (x ++ []) ≤ n = omega arith in
    take_all n (x ++ []) short ∙ append-nil x
take_front n x (y ∷ rest) front =
    let sum : length (x ++ (y ∷ rest)) ≡ length x + suc (length rest) = length-append x (y ∷ rest) in
    let whole : length x ≡ n = omega arith in
    take_at x (y ∷ rest) n whole

drop_front : (n : ℕ) (x rest : List CallId) → length x ≡ min n (length (x ++ rest)) → drop n (x ++ rest) ≡ rest
drop_front n x [] front =
    let sum : length (x ++ []) ≡ length x + 0 = length-append x [] in
    let short : length (x ++ []) ≤ n = omega arith in
    drop_all n (x ++ []) short
drop_front n x (y ∷ rest) front =
    let sum : length (x ++ (y ∷ rest)) ≡ length x + suc (length rest) = length-append x (y ∷ rest) in
    let whole : length x ≡ n = omega arith in
    drop_at x (y ∷ rest) n whole

-- a line is written, and the rest is left
pub order_more : (base out new : List ℕ) (all left x rest : List CallId) →
    left ≡ x ++ rest → length x ≡ min 16 (length left) → 0 < length left →
    out ++ order_lines left ≡ base ++ order_lines all → new ≡ out ++ order_line x →
    new ++ order_lines rest ≡ base ++ order_lines all
order_more base out new all left x rest cut front some before put =
    let front_of_all : length x ≡ min 16 (length (x ++ rest)) = rw cut at front in
    let line_first : order_lines left ≡ order_line x ++ order_lines rest =
    order_lines_step left some
    ∙ ap (λ (xs : List CallId). order_line (take 16 xs) ++ order_lines (drop 16 xs)) cut
    ∙ ap (λ (xs : List CallId). order_line xs ++ order_lines (drop 16 (x ++ rest))) (take_front 16 x rest front_of_all)
    ∙ ap (λ (xs : List CallId). order_line x ++ order_lines xs) (drop_front 16 x rest front_of_all)
    in
    ap (λ (text : List ℕ). text ++ order_lines rest) put
    ∙ append_assoc out (order_line x) (order_lines rest)
    ∙ ap (λ (text : List ℕ). out ++ text) (sym line_first)
    ∙ before

-- what was there before stays at the front
pub front_more : (n : ℕ) (base out new line : List ℕ) → length base ≡ n → take n out ≡ base →
    new ≡ out ++ line → take n new ≡ base
front_more n base out new line size before put =
    let sizes : min n (length out) ≡ length base = sym (length-take n out) ∙ ap length before in
    let within : n ≤ length out = omega arith in
    ap (take n) put ∙ take-append-le n out line within ∙ before

pub order_lines_none : (xs : List CallId) → length xs ≡ 0 → order_lines xs ≡ []
unfolding order_lines
order_lines_none xs none = rw none refl
