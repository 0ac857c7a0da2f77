-- How many calls had each reply: the counts are sums over the calls, and each call raises one of them by one.
use Rattle.std.proofs.Common.{◌≡◌, ℕ, ◌+◌, ◌≤◌, List, [], ◌∷◌, ◌++◌, length, refl, sym, ap, ◌∙◌, subst, arith}
use Rattle.std.specs.Prelude.{IsPermutation, sum_by}
use Rattle.std.proofs.lemmas.List.Sums.{fold-append, sum_by-cons}
use Rattle.std.proofs.lemmas.List.Sorted.{sum_by-IsPermutation}
use Rattle.plain_map.specs.declared.calls.Reply.{Reply}
use Rattle.plain_map.specs.declared.calls.Reply.TheVariants.{New, Old, NoRoom, Gone, Found, Absent, Sum}
use Rattle.map_laws.specs.ByKey.{Made}
use Rattle.flow_workers.specs.declared.replies.ReplyCounts.{ReplyCounts}
use Rattle.flow_workers.specs.Counts.{AreBelow, added, counted_with, counts_after, counts_of, no_counts}

-- ---- sums

-- what a call adds to each count
abbrev one_of : Made → ReplyCounts
one_of one = counted_with no_counts one.1

-- what some calls add to each
abbrev sums : List Made → ReplyCounts
sums made = record {
  new = sum_by (λ one. (one_of one).new) made;
  old = sum_by (λ one. (one_of one).old) made;
  noroom = sum_by (λ one. (one_of one).noroom) made;
  gone = sum_by (λ one. (one_of one).gone) made;
  found = sum_by (λ one. (one_of one).found) made;
  absent = sum_by (λ one. (one_of one).absent) made;
  sum = sum_by (λ one. (one_of one).sum) made;
}

-- counts are the same if each is
same_counts : (counts others : ReplyCounts) → counts.new ≡ others.new → counts.old ≡ others.old →
    counts.noroom ≡ others.noroom → counts.gone ≡ others.gone → counts.found ≡ others.found →
    counts.absent ≡ others.absent → counts.sum ≡ others.sum → counts ≡ others
same_counts counts others new old noroom gone found absent sum i = record {
  new = new i;
  old = old i;
  noroom = noroom i;
  gone = gone i;
  found = found i;
  absent = absent i;
  sum = sum i;
}

-- one reply more
counted_is : (counts : ReplyCounts) (reply : Reply) →
    counted_with counts reply ≡ added counts (counted_with no_counts reply)
counted_is counts New =
    same_counts _ _ (omega arith) (omega arith) (omega arith) (omega arith) (omega arith) (omega arith) (omega arith)
counted_is counts (Old value) =
    same_counts _ _ (omega arith) (omega arith) (omega arith) (omega arith) (omega arith) (omega arith) (omega arith)
counted_is counts NoRoom =
    same_counts _ _ (omega arith) (omega arith) (omega arith) (omega arith) (omega arith) (omega arith) (omega arith)
counted_is counts (Gone value) =
    same_counts _ _ (omega arith) (omega arith) (omega arith) (omega arith) (omega arith) (omega arith) (omega arith)
counted_is counts (Found value) =
    same_counts _ _ (omega arith) (omega arith) (omega arith) (omega arith) (omega arith) (omega arith) (omega arith)
counted_is counts Absent =
    same_counts _ _ (omega arith) (omega arith) (omega arith) (omega arith) (omega arith) (omega arith) (omega arith)
counted_is counts (Sum total) =
    same_counts _ _ (omega arith) (omega arith) (omega arith) (omega arith) (omega arith) (omega arith) (omega arith)

-- counts with those of some calls
counts_are : (made : List Made) (counts : ReplyCounts) → counts_after counts made ≡ added counts (sums made)
counts_are [] counts =
    same_counts counts (added counts (sums []))
    (omega arith) (omega arith) (omega arith) (omega arith) (omega arith) (omega arith) (omega arith)
counts_are (one ∷ made) counts =
    counts_are made (counted_with counts one.1)
    ∙ ap (λ (c : ReplyCounts). added c (sums made)) (counted_is counts one.1)
    ∙ same_counts (added (added counts (one_of one)) (sums made)) (added counts (sums (one ∷ made)))
    (more (λ m. (one_of m).new) counts.new)
    (more (λ m. (one_of m).old) counts.old)
    (more (λ m. (one_of m).noroom) counts.noroom)
    (more (λ m. (one_of m).gone) counts.gone)
    (more (λ m. (one_of m).found) counts.found)
    (more (λ m. (one_of m).absent) counts.absent)
    (more (λ m. (one_of m).sum) counts.sum)
  where
    more : (f : Made → ℕ) (n : ℕ) → n + f one + sum_by f made ≡ n + sum_by f (one ∷ made)
    more f n = (let e = sum_by-cons f one made in omega (arith, e))

-- where none was counted before
sums_are : (made : List Made) → counts_of made ≡ sums made
sums_are made =
    counts_are made no_counts
    ∙ same_counts (added no_counts (sums made)) (sums made)
    (omega arith) (omega arith) (omega arith) (omega arith) (omega arith) (omega arith) (omega arith)

-- what is counted is added to what was counted before
pub counts_added : (counts : ReplyCounts) (made : List Made) → counts_after counts made ≡ added counts (counts_of made)
counts_added counts made = counts_are made counts ∙ ap (added counts) (sym (sums_are made))

-- the counts of two lists of calls together are those of both
pub counts_both : (calls others : List Made) → counts_of (calls ++ others) ≡ added (counts_of calls) (counts_of others)
counts_both calls others =
    fold-append (λ so_far (one : Made). counted_with so_far one.1) no_counts calls others
    ∙ counts_added (counts_of calls) others

-- the counts are the same in another order
pub counts_permuted : (calls others : List Made) → IsPermutation calls others → counts_of others ≡ counts_of calls
counts_permuted calls others same =
    sums_are others
    ∙ same_counts (sums others) (sums calls)
    (sum_by-IsPermutation (λ one. (one_of one).new) calls others same)
    (sum_by-IsPermutation (λ one. (one_of one).old) calls others same)
    (sum_by-IsPermutation (λ one. (one_of one).noroom) calls others same)
    (sum_by-IsPermutation (λ one. (one_of one).gone) calls others same)
    (sum_by-IsPermutation (λ one. (one_of one).found) calls others same)
    (sum_by-IsPermutation (λ one. (one_of one).absent) calls others same)
    (sum_by-IsPermutation (λ one. (one_of one).sum) calls others same)
    ∙ sym (sums_are calls)

-- the last call is counted last
pub counts_more : (counts : ReplyCounts) (made : List Made) (one : Made) →
    counts_after counts (made ++ one ∷ []) ≡ counted_with (counts_after counts made) one.1
counts_more counts made one = fold-append (λ so_far (m : Made). counted_with so_far m.1) counts made (one ∷ [])

-- ---- bounds

-- of all kinds
abbrev all : ReplyCounts → ℕ
all counts = counts.new + counts.old + counts.noroom + counts.gone + counts.found + counts.absent + counts.sum

-- one reply is of one kind
one_kind : (reply : Reply) → all (counted_with no_counts reply) ≡ 1
one_kind New = refl
one_kind (Old value) = refl
one_kind NoRoom = refl
one_kind (Gone value) = refl
one_kind (Found value) = refl
one_kind Absent = refl
one_kind (Sum total) = refl

-- what is below a number is below a larger one
pub below_more : (few many : ℕ) (counts : ReplyCounts) → few ≤ many → AreBelow few counts → AreBelow many counts
below_more few many counts more below = record {
  new = omega (arith, more, below.new);
  old = omega (arith, more, below.old);
  noroom = omega (arith, more, below.noroom);
  gone = omega (arith, more, below.gone);
  found = omega (arith, more, below.found);
  absent = omega (arith, more, below.absent);
  sum = omega (arith, more, below.sum);
}

-- one reply raises each count by at most one
below_one : (most : ℕ) (counts : ReplyCounts) (reply : Reply) → AreBelow most counts →
    AreBelow (most + 1) (counted_with counts reply)
below_one most counts reply below =
    let kind = one_kind reply in
    subst (AreBelow (most + 1)) (sym (counted_is counts reply)) (record {
      new = omega (arith, kind, below.new);
      old = omega (arith, kind, below.old);
      noroom = omega (arith, kind, below.noroom);
      gone = omega (arith, kind, below.gone);
      found = omega (arith, kind, below.found);
      absent = omega (arith, kind, below.absent);
      sum = omega (arith, kind, below.sum);
    })

-- each call raises each count by at most one
pub below_after : (made : List Made) (most : ℕ) (counts : ReplyCounts) → AreBelow most counts →
    AreBelow (most + length made) (counts_after counts made)
below_after [] most counts below = below_more most (most + 0) counts (omega arith) below
below_after (one ∷ made) most counts below =
    below_more (most + 1 + length made) (most + length (one ∷ made)) (counts_after (counted_with counts one.1) made)
    (omega arith) (below_after made (most + 1) (counted_with counts one.1) (below_one most counts one.1 below))
