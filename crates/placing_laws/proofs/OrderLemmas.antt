-- An order of records against the records as they stand: the first of the order can be moved back to its place, past
-- calls of other keys, and so one after the other.
use Rattle.std.proofs.Common.{◌≡◌, ◌≢◌, ◌<◌, List, [], ◌∷◌, ◌++◌, map, refl, inl, inr, sym, ap, subst, ◌∙◌, arith}
use Rattle.plain_map.specs.declared.rules.Rules.{Rules}
use Rattle.plain_map.specs.declared.records.Record.{Record}
use Rattle.plain_map.specs.Calls.{key_in}
use Rattle.plain_map.specs.PlainObject.{Sessions, reply_of, map_after}
use Rattle.plain_map.specs.History.{answered, Legal, sessions_after}
use Rattle.list_laws.proofs.Lists.{In, Once, in_left, in_right, in_cut, in_middle, middle_in, once_middle}
use Rattle.placing_laws.proofs.CallLemmas.{FindsRoom, Roomy, reply_after, calls_commute, roomy_after, finds_room}

-- records of one key stand in the order of their numbers
abbrev pub Rises : List Record → Type 0
Rises [] = Unit {0}
Rises (a ∷ records) = ((b : Record) → In b records → key_in a.call ≡ key_in b.call → a.number < b.number)
    × Rises records

-- what stands before a record of its key has a smaller number
rises_before : (a p : Record) (front back : List Record) → Rises (front ++ p ∷ back) → In a front →
    key_in a.call ≡ key_in p.call → a.number < p.number
rises_before a p [] back rises i same = elim i [ ]
rises_before a p (x ∷ front) back rises (inl e) same =
    subst (λ (y : Record). key_in y.call ≡ key_in p.call → y.number < p.number) (sym e)
    (rises.0 p (in_right p front (p ∷ back) (inl refl))) same
rises_before a p (x ∷ front) back rises (inr i) same = rises_before a p front back rises.1 i same

-- without one of them the others still rise
rises_without : (p : Record) (front back : List Record) → Rises (front ++ p ∷ back) → Rises (front ++ back)
rises_without p [] back rises = rises.1
rises_without p (x ∷ front) back rises =
    ((λ b i same. rises.0 b (middle_in b p front back i) same), rises_without p front back rises.1)

-- a call is moved back past calls of other keys
moved_back : (rules : Rules) (m : Sessions) (p : Record) (front back : List Record) →
    Roomy rules m (front ++ p ∷ back) →
    ((a : Record) → In a front → key_in a.call ≢ key_in p.call) → p.reply ≡ reply_of rules m p.call →
    Legal rules (map_after rules m p.call) (map answered (front ++ back)) →
    Legal rules m (map answered (front ++ p ∷ back))
    × (sessions_after rules m (map answered (front ++ p ∷ back))
    ≡ sessions_after rules (map_after rules m p.call) (map answered (front ++ back)))
moved_back rules m p [] back roomy others reply legal = ((reply, legal), refl)
moved_back rules m p (a ∷ front) back roomy others reply legal =
    let all : List Record = a ∷ front ++ p ∷ back in
    let here : In p all = inr (in_right p front (p ∷ back) (inl refl)) in
    let differ : key_in a.call ≢ key_in p.call = others a (inl refl) in
    let room_a : FindsRoom rules m a.call = finds_room rules m all a roomy (inl refl) in
    let room_p : FindsRoom rules m p.call = finds_room rules m all p roomy here in
    let after_a : Roomy rules (map_after rules m a.call) (front ++ p ∷ back) =
    roomy_after rules m all (front ++ p ∷ back) a roomy (inl refl) (λ x i. inr i) in
    let after_p : Roomy rules (map_after rules m p.call) all = roomy_after rules m all all p roomy here (λ x i. i) in
    let roomy_p : FindsRoom rules (map_after rules m a.call) p.call =
    finds_room rules (map_after rules m a.call) (front ++ p ∷ back) p after_a
    (in_right p front (p ∷ back) (inl refl)) in
    let roomy_a : FindsRoom rules (map_after rules m p.call) a.call =
    finds_room rules (map_after rules m p.call) all a after_p (inl refl) in
    let turned : map_after rules (map_after rules m p.call) a.call ≡ map_after rules (map_after rules m a.call) p.call =
    calls_commute rules m p.call a.call (λ e. differ (sym e)) room_p room_a roomy_a roomy_p in
    let reply_a : a.reply ≡ reply_of rules m a.call =
    legal.0 ∙ reply_after rules m p.call a.call differ room_a roomy_a in
    let reply_p : p.reply ≡ reply_of rules (map_after rules m a.call) p.call =
    reply ∙ sym (reply_after rules m a.call p.call (λ e. differ (sym e)) room_p roomy_p) in
    let rest = moved_back rules (map_after rules m a.call) p front back after_a (λ x i. others x (inr i)) reply_p
    (subst (λ (n : Sessions). Legal rules n (map answered (front ++ back))) turned legal.1) in (
      (reply_a, rest.0),
      rest.1 ∙ ap (λ (n : Sessions). sessions_after rules n (map answered (front ++ back))) (sym turned),
    )

-- a legal order of records, each once, is legal as the records stand, and leaves the same
pub stands_legally : (rules : Rules) (m : Sessions) (order records : List Record) → Once order → Once records →
    ((r : Record) → In r order → In r records) → ((r : Record) → In r records → In r order) →
    Rises order → Rises records → Roomy rules m records → Legal rules m (map answered order) →
    Legal rules m (map answered records)
    × (sessions_after rules m (map answered order) ≡ sessions_after rules m (map answered records))
stands_legally rules m [] [] o p there back up rises roomy legal = (tt, refl)
stands_legally rules m [] (r ∷ records) o p there back up rises roomy legal = elim (back r (inl refl)) [ ]
stands_legally rules m (first ∷ order) records o p there back up rises roomy legal =
    let cut = in_cut first records (there first (inl refl)) in
    let front = cut.0 in
    let later = cut.1 in
    let risen = subst Rises cut.2 rises in
    let room = subst (Roomy rules m) cut.2 roomy in
    let apart = once_middle first front later (subst Once cut.2 p) in
    let to_rest : (r : Record) → In r (front ++ later) → In r order = λ r i.
    elim (back r (subst (In r) (sym cut.2) (middle_in r first front later i))) [
      | inl e ↦ absurd (apart.0 (subst (λ (w : Record). In w (front ++ later)) e i))
      | inr j ↦ j
    ] in
    let from_rest : (r : Record) → In r order → In r (front ++ later) = λ r i.
    elim (in_middle r first front later (subst (In r) cut.2 (there r (inr i)))) [
      | inl e ↦ absurd (o.0 (subst (λ (w : Record). In w order) e i))
      | inr j ↦ j
    ] in
    let others : (a : Record) → In a front → key_in a.call ≢ key_in first.call = λ a i same.
    let below = rises_before a first front later risen i same in
    let above = up.0 a (to_rest a (in_left a front later i)) (sym same) in
    absurd (omega (arith, below, above)) in
    let after_first : Roomy rules (map_after rules m first.call) (front ++ later) =
    roomy_after rules m (front ++ first ∷ later) (front ++ later) first room
    (in_right first front (first ∷ later) (inl refl)) (λ r i. middle_in r first front later i) in
    let rest = stands_legally rules (map_after rules m first.call) order (front ++ later) o.1 apart.1 from_rest to_rest
    up.1 (rises_without first front later risen) after_first legal.1 in
    let moved = moved_back rules m first front later room others legal.0 rest.0 in (
      subst (λ (rs : List Record). Legal rules m (map answered rs)) (sym cut.2) moved.0,
      rest.1 ∙ sym moved.1 ∙ ap (λ (rs : List Record). sessions_after rules m (map answered rs)) (sym cut.2),
    )
