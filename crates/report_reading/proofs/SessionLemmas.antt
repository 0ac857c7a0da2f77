-- Sessions, one after the other.
use Rattle.std.proofs.Common.{◌≡◌, ℕ, suc, ◌+◌, ◌-◌, ◌^◌, ◌<◌, ◌≤◌, ◌&&◌, Bool, true, false, List, [], ◌∷◌, ◌++◌, length, length-append, Option, Some, refl, sym, ap, ◌∙◌, subst, arith}
use Rattle.std.specs.Prelude.{slice_get, map}
use Rattle.std.specs.Ordering.{is_lt}
use Rattle.std.specs.declared.cmp.Ordering.{Ordering}
use Rattle.std.specs.declared.cmp.Ordering.TheVariants.{Less, Equal, Greater}
use Rattle.std.specs.FinMap.{is_sorted}
use Rattle.std.specs.FinMap.Entries.{below_all}
use Rattle.std.proofs.lemmas.Option.{some_pair_parts}
use Rattle.std.proofs.lemmas.Bool.{true≢false, and_parts, and_from}
use Rattle.std.proofs.lemmas.List.Elements.{All-push}
use Rattle.plain_map.specs.declared.keys.Key.{Key}
use Rattle.plain_map.specs.declared.keys.Pair.{Pair}
use Rattle.plain_map.specs.Keys.{key_cmp, entry_of}
use Rattle.plain_map.proofs.KeyLemmas.{keys_total}
use Rattle.flow_reading.specs.Flows.{IsFlow}
use Rattle.report_text.specs.Report.{session_line}
use Rattle.report_told.specs.Told.{Entry, entry_line}
use Rattle.report_told.specs.Rules.{IsHead, AreSessions}
use Rattle.report_told.specs.Verdicts.{IsBadLine}
use Rattle.report_lines.specs.Lines.{session_at}
use Rattle.report_lines.proofs.TailLines.{SessionFits, session_is_line}
use Rattle.report_lines.proofs.Machine.{head, entry, session, leaves, input, count, steps, Body, State, body, Next, with_entry}
use Rattle.report_lines.proofs.MachineLaws.{last_session_fits, session_starts, leaves_starts}
use Rattle.report_lines.proofs.Grammar.{is_true, true_is}
use Rattle.report_lines.proofs.Reports.{no_sessions}
use Rattle.report_reading.specs.Steps.{At, NoneFollows, NoEntry, with_pairs, key_follows}
use Rattle.report_reading.proofs.PlaceLemmas.{at_next, at_few, line_bad}
use Rattle.report_reading.proofs.StepLemmas.{same_first}

-- Keys that rise.

abbrev below : Key → List Pair → Bool
below key pairs = below_all key_cmp key (map entry_of pairs)

abbrev sorted : List Pair → Bool
sorted pairs = is_sorted key_cmp (map entry_of pairs)

is_less : (o : Ordering) → is_lt o ≡ true → o ≡ Less
is_less Less is = refl
is_less Equal is = absurd (true≢false (sym is))
is_less Greater is = absurd (true≢false (sym is))

less_is : (o : Ordering) → o ≡ Less → is_lt o ≡ true
less_is o is = ap is_lt is

less_trans : (x y z : Key) → is_lt (key_cmp x y) ≡ true → is_lt (key_cmp y z) ≡ true → is_lt (key_cmp x z) ≡ true
less_trans x y z a b =
    less_is (key_cmp x z) (keys_total.trans x y z (is_less (key_cmp x y) a) (is_less (key_cmp y z) b))

last_cons : (x y : Pair) (ps : List Pair) →
    slice_get (x ∷ y ∷ ps) (length (x ∷ y ∷ ps) - 1) ≡ slice_get (y ∷ ps) (length (y ∷ ps) - 1)
last_cons x y ps =
    let one : length (x ∷ y ∷ ps) - 1 ≡ suc (length ps) = omega arith in
    let other : length (y ∷ ps) - 1 ≡ length ps = omega arith in
    ap (λ (n : ℕ). slice_get (x ∷ y ∷ ps) n) one ∙ ap (λ (n : ℕ). slice_get (y ∷ ps) n) (sym other)

abbrev follows_last : List Pair → Key → Bool
follows_last pairs key = key_follows (slice_get pairs (length pairs - 1)) key

-- below all, and below one more
below_push : (key : Key) (ps : List Pair) (p : Pair) → below key ps ≡ true → is_lt (key_cmp key p.key) ≡ true →
    below key (ps ++ p ∷ []) ≡ true
below_push key [] p all less = and_from (is_lt (key_cmp key p.key)) true less refl
below_push key (q ∷ ps) p all less =
    let parts = and_parts (is_lt (key_cmp key q.key)) (below key ps) all in
    and_from (is_lt (key_cmp key q.key)) (below key (ps ++ p ∷ [])) parts.0 (below_push key ps p parts.1 less)

-- the first of keys that rise is below one that follows the last
first_below : (x : Pair) (ps : List Pair) (p : Pair) → sorted (x ∷ ps) ≡ true → follows_last (x ∷ ps) p.key ≡ true →
    is_lt (key_cmp x.key p.key) ≡ true
first_below x [] p is last = last
first_below x (y ∷ ps) p is last =
    let parts = and_parts (below x.key (y ∷ ps)) (sorted (y ∷ ps)) is in
    let first = and_parts (is_lt (key_cmp x.key y.key)) (below x.key ps) parts.0 in
    less_trans x.key y.key p.key first.0
    (first_below y ps p parts.1 (ap (λ (o : Option Pair). key_follows o p.key) (sym (last_cons x y ps)) ∙ last))

sorted_push : (ps : List Pair) (p : Pair) → sorted ps ≡ true → follows_last ps p.key ≡ true →
    sorted (ps ++ p ∷ []) ≡ true
sorted_push [] p is last = refl
sorted_push (x ∷ []) p is last =
    and_from (is_lt (key_cmp x.key p.key) && true) true (and_from (is_lt (key_cmp x.key p.key)) true last refl) refl
sorted_push (x ∷ y ∷ ps) p is last =
    let parts = and_parts (below x.key (y ∷ ps)) (sorted (y ∷ ps)) is in
    let later : sorted ((y ∷ ps) ++ p ∷ []) ≡ true =
    sorted_push (y ∷ ps) p parts.1 (ap (λ (o : Option Pair). key_follows o p.key) (sym (last_cons x y ps)) ∙ last) in
    and_from (below x.key ((y ∷ ps) ++ p ∷ [])) (sorted ((y ∷ ps) ++ p ∷ []))
    (below_push x.key (y ∷ ps) p parts.0 (first_below x (y ∷ ps) p is last)) later

sorted_last : (ps : List Pair) (p : Pair) → sorted (ps ++ p ∷ []) ≡ true → follows_last ps p.key ≡ true
sorted_last [] p is = refl
sorted_last (x ∷ []) p is =
    let parts = and_parts (below x.key (p ∷ [])) (sorted (p ∷ [])) is in
    (and_parts (is_lt (key_cmp x.key p.key)) true parts.0).0
sorted_last (x ∷ y ∷ ps) p is =
    let parts = and_parts (below x.key ((y ∷ ps) ++ p ∷ [])) (sorted ((y ∷ ps) ++ p ∷ [])) is in
    ap (λ (o : Option Pair). key_follows o p.key) (last_cons x y ps) ∙ sorted_last (y ∷ ps) p parts.1

pub sessions_push : (ps : List Pair) (p : Pair) → AreSessions ps → SessionFits p → follows_last ps p.key ≡ true →
    AreSessions (ps ++ p ∷ [])
sessions_push ps p are fits last = record {
  each =
      All-push (λ pair. IsFlow pair.key × (pair.value < 2 ^ 64) × (pair.bytes < 2 ^ 64)) ps p are.each
      (fits.0, omega (arith, fits.1.0), omega (arith, fits.1.1.0));
  ordered = true_is (sorted (ps ++ p ∷ [])) (sorted_push ps p (is_true (sorted ps) are.ordered) last);
}

pub sessions_last : (ps : List Pair) (p : Pair) → AreSessions (ps ++ p ∷ []) → follows_last ps p.key ≡ true
sessions_last ps p are = sorted_last ps p (is_true (sorted (ps ++ p ∷ [])) are.ordered)

-- What follows pairs.

no_more_entry : (b : Body) (ps : List Pair) (rest : List ℕ) → b.pairs ≡ [] → (ps ≡ [] → NoEntry b rest) →
    (e : Entry) (m : State) (left : List ℕ) → Next (body (with_pairs b ps)) (entry e) m →
    rest ≡ entry_line b.head.seats e ++ left → ⊥
no_more_entry b ps rest none empty e m left next cut =
    empty next.1 e (body (with_entry b e)) left (next.0, none, next.2, refl) cut

-- a session's line that no report goes on with
pub bad_session : (b : Body) (ps : List Pair) (rest : List ℕ) (p : Pair) (left : List ℕ) → b.pairs ≡ [] →
    (ps ≡ [] → NoEntry b rest) → session_at rest ≡ Some (p, left) → (AreSessions (ps ++ p ∷ []) → ⊥) →
    NoneFollows (body (with_pairs b ps)) rest
bad_session b ps rest p left none empty read never (entry e) m more next cut =
    no_more_entry b ps rest none empty e m more next cut
bad_session b ps rest p left none empty read never (session q) m more next cut =
    let again : session_at rest ≡ Some (q, more) =
    ap session_at cut ∙ session_is_line.again q more (last_session_fits ps q next.1) in
    let same : (q ≡ p) × (more ≡ left) = some_pair_parts q p more left (sym again ∙ read) in
    never (subst (λ (x : Pair). AreSessions (ps ++ x ∷ [])) same.0 next.1)
bad_session b ps rest p left none empty read never (leaves l) m more next cut =
    let text : rest ≡ session_line p ++ left = (session_is_line.takes rest p left read).text_is in
    let starts = session_starts p left in
    let other = leaves_starts l more in
    omega (arith, same_first 115 108 starts.0 other.0 (sym starts.1 ∙ sym text ∙ cut ∙ other.1))
bad_session b ps rest p left none empty read never (head h) m more next cut = absurd next
bad_session b ps rest p left none empty read never (input e) m more next cut = absurd next
bad_session b ps rest p left none empty read never (count c) m more next cut = absurd next
bad_session b ps rest p left none empty read never (steps s) m more next cut = absurd next

-- The loop.

pub record HasSessions (text : List ℕ) (b : Body) (ps : List Pair) (rest : List ℕ) (before lines counter : ℕ) : Type 0
  where
    pub at : At text (body (with_pairs b ps)) rest lines
    pub are : AreSessions ps
    pub empty : ps ≡ [] → NoEntry b rest
    pub lines_are : lines ≡ before + counter

pub sessions_begin : (text : List ℕ) (b : Body) (ps : List Pair) (rest : List ℕ) (lines : ℕ) → b.pairs ≡ [] →
    At text (body b) rest lines → NoEntry b rest → ps ≡ [] → HasSessions text b ps rest lines lines 0
sessions_begin text b ps rest lines none at empty is = record {
  at = subst (λ (x : List Pair). At text (body (with_pairs b x)) rest lines) (none ∙ sym is) at;
  are = subst AreSessions (sym is) no_sessions;
  empty = λ _. empty;
  lines_are = omega arith;
}

some_pairs : (ps : List Pair) (p : Pair) → ps ++ p ∷ [] ≡ [] → ⊥
some_pairs ps p is = omega (arith, ap length is, length-append ps (p ∷ []))

pub sessions_more : (text : List ℕ) (b : Body) (ps made : List Pair) (rest left : List ℕ)
    (before lines next counter : ℕ) (p : Pair) →
    IsHead b.head → length text ≤ 4294967295 → HasSessions text b ps rest before lines counter →
    session_at rest ≡ Some (p, left) → follows_last ps p.key ≡ true → made ≡ ps ++ p ∷ [] →
    (lines + 1 < 2 ^ 32 → next ≡ lines + 1) → HasSessions text b made left before next (counter + 1)
sessions_more text b ps made rest left before lines next counter p in_range small has read last is add =
    let found = session_is_line.takes rest p left read in
    let few : lines + 6 ≤ 4294967295 = at_few text (body (with_pairs b ps)) rest lines has.at small in
    let added : next ≡ lines + 1 = add (omega arith) in
    let are : AreSessions (ps ++ p ∷ []) = sessions_push ps p has.are found.fits last in
    subst (λ (x : List Pair). HasSessions text b x left before next (counter + 1)) (sym is) (record {
      at =
          subst (λ (n : ℕ). At text (body (with_pairs b (ps ++ p ∷ []))) left n) (sym added)
          (at_next text (body (with_pairs b ps)) (session p) (body (with_pairs b (ps ++ p ∷ []))) rest left lines has.at
          (in_range, are, refl) found.text_is);
      are = are;
      empty = λ nothing. absurd (some_pairs ps p nothing);
      lines_are = omega (arith, added, has.lines_are);
    })

pub sessions_bad : (text : List ℕ) (b : Body) (ps : List Pair) (rest left : List ℕ) (before lines line counter : ℕ)
    (p : Pair) →
    b.pairs ≡ [] → length text ≤ 4294967295 → HasSessions text b ps rest before lines counter →
    session_at rest ≡ Some (p, left) → follows_last ps p.key ≡ false → (lines + 1 < 2 ^ 32 → line ≡ lines + 1) →
    IsBadLine text line
sessions_bad text b ps rest left before lines line counter p none small has read last add =
    line_bad text (with_pairs b ps) rest lines line has.at small
    (bad_session b ps rest p left none has.empty read
    (λ are. true≢false (sym (sessions_last ps p are) ∙ last))) add

pub sessions_never : (text : List ℕ) (b : Body) (ps : List Pair) (rest : List ℕ) (before lines counter : ℕ) →
    HasSessions text b ps rest before lines counter → length text ≤ 4294967295 → 2 ^ 64 - 1 ≤ counter → ⊥
sessions_never text b ps rest before lines counter has small over =
    omega (arith, has.lines_are, at_few text (body (with_pairs b ps)) rest lines has.at small)

-- no entry stands behind entries and no pairs
pub no_entry_pairs : (b : Body) (ps : List Pair) (rest : List ℕ) → b.pairs ≡ [] → (ps ≡ [] → NoEntry b rest) →
    ps ≡ [] → NoEntry (with_pairs b ps) rest
no_entry_pairs b ps rest none empty nothing e m left next cut = no_more_entry b ps rest none empty e m left next cut
