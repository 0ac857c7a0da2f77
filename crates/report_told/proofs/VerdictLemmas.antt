-- A text that is one report at most deserves one verdict at most.
use Rattle.std.proofs.Common.{◌≡◌, ◌⊎◌, inl, inr, ℕ, zero, suc, ◌<◌, ◌≤◌, List, [], ◌∷◌, ◌++◌, refl, sym, ap, ◌∙◌, subst, arith}
use Rattle.std.specs.Prelude.{All}
use Rattle.std.specs.FinMap.{empty}
use Rattle.plain_map.specs.declared.records.Record.{Record}
use Rattle.plain_map.specs.declared.rules.Rules.{Rules}
use Rattle.plain_map.specs.PlainObject.{Sessions, map_after, pairs_of}
use Rattle.plain_map.specs.History.{Placed, packet_of, call_in, After, IsAfter, Legal, HasReply, sessions_after}
use Rattle.report_told.specs.Told.{Told}
use Rattle.report_told.specs.declared.verdict.Verdict.{Verdict}
use Rattle.report_told.specs.declared.verdict.Verdict.TheVariants as v
use Rattle.report_told.specs.Points.{IsShortEnough, IsWhole, placed_told, records_told, rules_told}
use Rattle.report_told.specs.Verdicts.{Tells, IsBadLine, IsLeastFault, IsFirstEarly, IsFirstIllegal, IsFirstLong, Deserves, TellsOnce, DeservesOne}

-- Two places where one list is cut: they are one, or one of them stands in the front of the other.

abbrev CutTwice : {A : Type 0} → (front : List A) (x : A) (before : List A) (y : A) → Type 0
CutTwice {A} front x before y =
    ((front ≡ before) × (x ≡ y)) ⊎ (((rest : List A) × (before ≡ front ++ x ∷ rest))
    ⊎ ((rest : List A) × (front ≡ before ++ y ∷ rest)))

cut_twice : {A : Type 0} (front : List A) (x : A) (later before : List A) (y : A) (behind : List A) →
    front ++ x ∷ later ≡ before ++ y ∷ behind → CutTwice front x before y
cut_twice [] x later [] y behind is = inl (refl, cc)
cut_twice [] x later (b ∷ before) y behind is =
    let head : x ≡ b = cc in
    inr (inl (before, ap (λ z. z ∷ before) (sym head)))
cut_twice (f ∷ front) x later [] y behind is =
    let head : f ≡ y = cc in
    inr (inr (front, ap (λ z. z ∷ front) head))
cut_twice (f ∷ front) x later (b ∷ before) y behind is =
    let head : f ≡ b = cc in
    let tails : front ++ x ∷ later ≡ before ++ y ∷ behind = cc in
    elim (cut_twice front x later before y behind tails) [
      | inl (same, xy) ↦ inl (ap (λ z. z ∷ front) head ∙ ap (λ zs. b ∷ zs) same, xy)
      | inr (inl (rest, is')) ↦ inr (inl (rest, ap (λ zs. b ∷ zs) is' ∙ ap (λ z. z ∷ (front ++ x ∷ rest)) (sym head)))
      | inr (inr (rest, is')) ↦ inr (inr (rest, ap (λ zs. f ∷ zs) is' ∙ ap (λ z. z ∷ (before ++ y ∷ rest)) head))
    ]

-- the cut is one, where of the front neither holds that which the cut breaks
cut_same : {A : Type 0} (Good : List A → Type 0) (Bad : List A → A → Type 0) →
    ((before : List A) (x : A) (rest : List A) → Good (before ++ x ∷ rest) → Bad before x → ⊥) →
    (front : List A) (x : A) (later before : List A) (y : A) (behind : List A) →
    front ++ x ∷ later ≡ before ++ y ∷ behind → Good front → Bad front x → Good before → Bad before y → x ≡ y
cut_same Good Bad clash front x later before y behind is g1 b1 g2 b2 =
    elim (cut_twice front x later before y behind is) [
      | inl (same, xy) ↦ xy
      | inr (inl (rest, longer)) ↦ absurd (clash front x rest (subst Good longer g2) b1)
      | inr (inr (rest, longer)) ↦ absurd (clash before y rest (subst Good longer g1) b2)
    ]

-- What a right list has in its front.

after_clash : (before : List Placed) (x : Placed) (rest : List Placed) → After (before ++ x ∷ rest) →
    (IsAfter before x → ⊥) → ⊥
after_clash before x rest all fault = fault (all before rest x refl)

legal_clash : (rules : Rules) (sessions : Sessions) (before : List Placed) (x : Placed) (rest : List Placed) →
    Legal rules sessions (before ++ x ∷ rest) → (HasReply rules (sessions_after rules sessions before) x → ⊥) → ⊥
legal_clash rules sessions [] x rest all fault = fault all.0
legal_clash rules sessions (b ∷ before) x rest all fault =
    legal_clash rules (map_after rules sessions (call_in b)) before x rest all.1 fault

at_cut : {A : Type 0} (P : A → Type 0) (before : List A) (x : A) (rest : List A) → All P (before ++ x ∷ rest) → P x
at_cut P [] x rest all = all 0 x (omega arith)
at_cut P (b ∷ before) x rest all = at_cut P before x rest (λ k d inside. all (suc k) d (omega arith))

steps_clash : (bound : ℕ) (before : List Record) (x : Record) (rest : List Record) →
    All (IsShortEnough bound) (before ++ x ∷ rest) → (IsShortEnough bound x → ⊥) → ⊥
steps_clash bound before x rest all fault = fault (at_cut (IsShortEnough bound) before x rest all)

-- How far a report is right that deserves a verdict.

-- the kind that a verdict names
abbrev kind_of : Verdict → ℕ
kind_of (v.BadLine line) = 0
kind_of (v.Whole packet) = 1
kind_of (v.After packet) = 2
kind_of (v.Legal packet) = 3
kind_of v.Sessions = 4
kind_of (v.Steps packet) = 5
kind_of v.Yes = 6

abbrev HasSessions : Told → Type 0
HasSessions told = told.pairs ≡ pairs_of (sessions_after (rules_told told.head) empty (placed_told told))

-- the points in their order
abbrev Point : Told → ℕ → Type 0
Point told zero = Unit {0}
Point told (suc zero) = IsWhole told
Point told (suc (suc zero)) = After (placed_told told)
Point told (suc (suc (suc zero))) = Legal (rules_told told.head) empty (placed_told told)
Point told (suc (suc (suc (suc zero)))) = HasSessions told
Point told (suc (suc (suc (suc (suc zero))))) = All (IsShortEnough told.tail.bound) (records_told told)
Point told (suc (suc (suc (suc (suc (suc k)))))) = ⊥

-- what holds of the one report that a text is: the points before the verdict's kind, and not the next
record Judged (text : List ℕ) (verdict : Verdict) : Type 0 where
  told : Told
  tells : Tells text told
  some : 1 ≤ kind_of verdict
  whole : 1 < kind_of verdict → IsWhole told
  after : 2 < kind_of verdict → After (placed_told told)
  legal : 3 < kind_of verdict → Legal (rules_told told.head) empty (placed_told told)
  sessions : 4 < kind_of verdict → HasSessions told
  steps : 5 < kind_of verdict → All (IsShortEnough told.tail.bound) (records_told told)
  fails : Point told (kind_of verdict) → ⊥

-- a verdict is a bad line, or judged
abbrev Outcome : List ℕ → Verdict → Type 0
Outcome text verdict = ((line : ℕ) × (verdict ≡ v.BadLine line) × IsBadLine text line) ⊎ Judged text verdict

outcome : (text : List ℕ) (verdict : Verdict) → Deserves text verdict → Outcome text verdict
outcome text v.Yes (told, tells, right) = inr (record {
  told = told;
  tells = tells;
  some = omega arith;
  whole = λ _. right.whole;
  after = λ _. right.after;
  legal = λ _. right.legal;
  sessions = λ _. right.sessions;
  steps = λ _. right.steps;
  fails = λ never. never;
})
outcome text (v.BadLine line) deserves = inl (line, refl, deserves)
outcome text (v.Whole packet) (told, tells, least) = inr (record {
  told = told;
  tells = tells;
  some = omega arith;
  whole = λ above. absurd (omega arith);
  after = λ above. absurd (omega arith);
  legal = λ above. absurd (omega arith);
  sessions = λ above. absurd (omega arith);
  steps = λ above. absurd (omega arith);
  fails = λ whole. least.fault (whole packet);
})
outcome text (v.After packet) (told, tells, whole, early) = inr (record {
  told = told;
  tells = tells;
  some = omega arith;
  whole = λ _. whole;
  after = λ above. absurd (omega arith);
  legal = λ above. absurd (omega arith);
  sessions = λ above. absurd (omega arith);
  steps = λ above. absurd (omega arith);
  fails = λ all. after_clash early.front early.placed early.later
      (subst After early.cut all) early.fault;
})
outcome text (v.Legal packet) (told, tells, whole, after, illegal) = inr (record {
  told = told;
  tells = tells;
  some = omega arith;
  whole = λ _. whole;
  after = λ _. after;
  legal = λ above. absurd (omega arith);
  sessions = λ above. absurd (omega arith);
  steps = λ above. absurd (omega arith);
  fails = λ all. legal_clash (rules_told told.head) empty illegal.front illegal.placed illegal.later
      (subst (Legal (rules_told told.head) empty) illegal.cut all) illegal.fault;
})
outcome text v.Sessions (told, tells, whole, after, legal, other) = inr (record {
  told = told;
  tells = tells;
  some = omega arith;
  whole = λ _. whole;
  after = λ _. after;
  legal = λ _. legal;
  sessions = λ above. absurd (omega arith);
  steps = λ above. absurd (omega arith);
  fails = other;
})
outcome text (v.Steps packet) (told, tells, whole, after, legal, same, long) = inr (record {
  told = told;
  tells = tells;
  some = omega arith;
  whole = λ _. whole;
  after = λ _. after;
  legal = λ _. legal;
  sessions = λ _. same;
  steps = λ above. absurd (omega arith);
  fails = λ all. steps_clash told.tail.bound long.front long.long long.later
      (subst (All (IsShortEnough told.tail.bound)) long.cut all) long.fault;
})

-- The kinds of two verdicts are one.

few_kinds : (verdict : Verdict) → kind_of verdict ≤ 6
few_kinds (v.BadLine line) = omega arith
few_kinds (v.Whole packet) = omega arith
few_kinds (v.After packet) = omega arith
few_kinds (v.Legal packet) = omega arith
few_kinds v.Sessions = omega arith
few_kinds (v.Steps packet) = omega arith
few_kinds v.Yes = omega arith

points : (text : List ℕ) (verdict : Verdict) (j : Judged text verdict) (k : ℕ) → 1 ≤ k → k < kind_of verdict →
    Point j.told k
points text verdict j zero some below = absurd (omega arith)
points text verdict j (suc zero) some below = j.whole below
points text verdict j (suc (suc zero)) some below = j.after below
points text verdict j (suc (suc (suc zero))) some below = j.legal below
points text verdict j (suc (suc (suc (suc zero)))) some below = j.sessions below
points text verdict j (suc (suc (suc (suc (suc zero))))) some below = j.steps below
points text verdict j (suc (suc (suc (suc (suc (suc k)))))) some below =
    absurd (omega (arith, few_kinds verdict))

not_before : TellsOnce → (text : List ℕ) (one other : Verdict) (j : Judged text one) (k : Judged text other) →
    kind_of one < kind_of other → ⊥
not_before once text one other j k less =
    let same : k.told ≡ j.told = once text k.told j.told k.tells j.tells in
    j.fails (subst (λ (t : Told). Point t (kind_of one)) same (points text other k (kind_of one) j.some less))

never_judged : (text : List ℕ) (line : ℕ) (other : Verdict) → IsBadLine text line → Judged text other → ⊥
never_judged text line other bad j = bad.no_report j.told j.tells

same_kind : TellsOnce → (text : List ℕ) (one other : Verdict) → Deserves text one → Deserves text other →
    kind_of one ≡ kind_of other
same_kind once text one other a b = go (outcome text one a) (outcome text other b)
  where
    go : Outcome text one → Outcome text other → kind_of one ≡ kind_of other
    go (inl (line, is, bad)) (inl (line', is', bad')) = ap kind_of is ∙ sym (ap kind_of is')
    go (inl (line, is, bad)) (inr k) = absurd (never_judged text line other bad k)
    go (inr j) (inl (line, is, bad)) = absurd (never_judged text line one bad j)
    go (inr j) (inr k) =
        omega (arith, not_before once text one other j k, not_before once text other one k j)

-- The packets, and the lines, are one.

same_line : (text : List ℕ) (m n : ℕ) → IsBadLine text m → IsBadLine text n → m < n → ⊥
same_line text m n one other less = one.bad (other.first m less)

same_least : (told : Told) (p q : ℕ) → IsLeastFault told p → IsLeastFault told q → p < q → ⊥
same_least told p q one other less = one.fault (other.least p less)

same_early : (told : Told) (p q : ℕ) → IsFirstEarly told p → IsFirstEarly told q → p ≡ q
same_early told p q a b =
    let same : a.placed ≡ b.placed =
    cut_same After (λ front x. IsAfter front x → ⊥) after_clash a.front a.placed a.later b.front b.placed b.later
    (sym a.cut ∙ b.cut) a.right a.fault b.right b.fault in
    sym a.packet_is ∙ ap packet_of same ∙ b.packet_is

same_illegal : (told : Told) (p q : ℕ) → IsFirstIllegal told p → IsFirstIllegal told q → p ≡ q
same_illegal told p q a b =
    let rules : Rules = rules_told told.head in
    let same : a.placed ≡ b.placed =
    cut_same (Legal (rules_told told.head) empty)
    (λ front x. HasReply (rules_told told.head) (sessions_after (rules_told told.head) empty front) x → ⊥)
    (legal_clash (rules_told told.head) empty) a.front a.placed a.later b.front b.placed b.later
    (sym a.cut ∙ b.cut) a.right a.fault b.right b.fault in
    sym a.packet_is ∙ ap packet_of same ∙ b.packet_is

same_long : (told : Told) (p q : ℕ) → IsFirstLong told p → IsFirstLong told q → p ≡ q
same_long told p q a b =
    let same : a.long ≡ b.long =
    cut_same (All (IsShortEnough told.tail.bound)) (λ front x. IsShortEnough told.tail.bound x → ⊥)
    (steps_clash told.tail.bound) a.front a.long a.later b.front b.long b.later
    (sym a.cut ∙ b.cut) a.right a.fault b.right b.fault in
    sym a.packet_is ∙ ap (λ (r : Record). r.packet) same ∙ b.packet_is

pub deserves_one : TellsOnce → DeservesOne
deserves_one once text one other a b = go one other a b (same_kind once text one other a b)
  where
    go : (one other : Verdict) → Deserves text one → Deserves text other → kind_of one ≡ kind_of other → one ≡ other
    go v.Yes v.Yes a b kinds = refl
    go (v.BadLine m) (v.BadLine n) a b kinds =
        let same : m ≡ n = omega (arith, same_line text m n a b, same_line text n m b a) in
        ap (λ (l : ℕ). v.BadLine l) same
    go (v.Whole p) (v.Whole q) (told, tells, x) (other, tells', y) kinds =
        let y' : IsLeastFault told q =
        subst (λ (t : Told). IsLeastFault t q) (once text other told tells' tells) y in
        let same : p ≡ q = omega (arith, same_least told p q x y', same_least told q p y' x) in
        ap (λ (l : ℕ). v.Whole l) same
    go (v.After p) (v.After q) (told, tells, w, x) (other, tells', w', y) kinds =
        ap (λ (l : ℕ). v.After l) (same_early told p q x
        (subst (λ (t : Told). IsFirstEarly t q) (once text other told tells' tells) y))
    go (v.Legal p) (v.Legal q) (told, tells, w, f, x) (other, tells', w', f', y) kinds =
        ap (λ (l : ℕ). v.Legal l) (same_illegal told p q x
        (subst (λ (t : Told). IsFirstIllegal t q) (once text other told tells' tells) y))
    go v.Sessions v.Sessions a b kinds = refl
    go (v.Steps p) (v.Steps q) (told, tells, w, f, l, e, x) (other, tells', w', f', l', e', y) kinds =
        ap (λ (l : ℕ). v.Steps l) (same_long told p q x
        (subst (λ (t : Told). IsFirstLong t q) (once text other told tells' tells) y))
    go one other a b kinds = absurd (omega (arith, kinds))
