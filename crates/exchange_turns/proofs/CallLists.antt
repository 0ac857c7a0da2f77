-- Lists of calls with their replies: those of a seat, those about a key, and updates among them.
use Rattle.std.proofs.Common.{◌≡◌, ℕ, ◌⊎◌, inl, inr, Bool, true, false, cond, List, [], ◌∷◌, ◌++◌, refl, sym, ap, ◌∙◌, true≢false, Option, Some, None}
use Rattle.std.specs.Prelude.{◌==◌, ◌&&◌, flat_map}
use Rattle.std.specs.List.{cons_option}
use Rattle.std.proofs.lemmas.Bool.{eq-eqb}
use Rattle.list_laws.proofs.Lists.{In, filter_map_in}
use Rattle.plain_map.specs.declared.keys.Key.{Key}
use Rattle.plain_map.specs.declared.calls.Call.TheVariants.{Insert, Remove, Lookup, Tally, Count, Put}
use Rattle.plain_map.specs.Calls.{key_in, is_update}
use Rattle.plain_map.specs.Keys.{Session}
use Rattle.map_laws.specs.ByKey.{Made, about, held_after, held_by, is_about, updates_in}
use Rattle.map_laws.proofs.ByKeyLists.{about_is, cons_same, nil_cons}
use Rattle.exchange_model.specs.Goes.{Asked, Called, Copied, Told, Replied, Pairs, Again, Spent, Refused}
use Rattle.exchange_model.specs.Steps.{MadeBySeat}
use Rattle.exchange_model.specs.Laws.{all_made, made_by, update_by, updates_by}
use Rattle.exchange_model.specs.Worlds.{Answer, Asker, BySeat, ByReader}
use Rattle.exchange_laws.specs.Orders.{answers_by, is_by}
use Rattle.exchange_laws.specs.OneByOne.{update_made, updates_among}
use Rattle.exchange_turns.specs.Turns.{call_told, calls_by, dealt_to}

-- ---- updates among what was told

abbrev pub told_of : Answer → List Made
told_of a = call_told a.asked a.told

-- an update that was told stands before those that came later
made_first : (asked : Asked) (told : Told) (later calls : List Made) → later ≡ updates_in calls →
    update_made asked told ++ later ≡ updates_in (call_told asked told ++ calls)
made_first (Called call) (Replied reply) later calls e = go (is_update call) refl
  where
    made : Made
    made = (call, reply)

    go : (b : Bool) → is_update call ≡ b →
        cond b (made ∷ []) [] ++ later ≡ cond b (made ∷ updates_in calls) (updates_in calls)
    go true is = ap (λ (l : List Made). made ∷ l) e
    go false is = e
made_first (Called call) (Pairs pairs) later calls e = e
made_first (Called call) Again later calls e = e
made_first (Called call) Spent later calls e = e
made_first (Called call) Refused later calls e = e
made_first (Copied bucket) told later calls e = e

-- the updates among answers are those among their calls
pub updates_of_answers : (answers : List Answer) → updates_among answers ≡ updates_in (flat_map told_of answers)
updates_of_answers [] = refl
updates_of_answers (a ∷ answers) =
    made_first a.asked a.told (updates_among answers) (flat_map told_of answers) (updates_of_answers answers)

-- one answer of the seat, and one of another
own_first : (q p : ℕ) (asked : Asked) (told : Told) (later calls : List Made) → (p == q) ≡ true →
    later ≡ updates_in calls →
    cons_option (update_by q (BySeat p) asked told) later ≡ updates_in (call_told asked told ++ calls)
own_first q p (Called call) (Replied reply) later calls same e = ap
    (λ (b : Bool). cons_option (cond (b && is_update call) (Some (call, reply)) None) later) same
    ∙ go (is_update call)
  where
    made : Made
    made = (call, reply)

    go : (b : Bool) → cons_option (cond b (Some made) None) later
        ≡ cond b (made ∷ updates_in calls) (updates_in calls)
    go true = ap (λ (l : List Made). made ∷ l) e
    go false = e
own_first q p (Called call) (Pairs pairs) later calls same e = e
own_first q p (Called call) Again later calls same e = e
own_first q p (Called call) Spent later calls same e = e
own_first q p (Called call) Refused later calls same e = e
own_first q p (Copied bucket) told later calls same e = e

other_first : (q p : ℕ) (asked : Asked) (told : Told) (later : List Made) → (p == q) ≡ false →
    cons_option (update_by q (BySeat p) asked told) later ≡ later
other_first q p (Called call) (Replied reply) later other =
    ap (λ (b : Bool). cons_option (cond (b && is_update call) (Some (call, reply)) None) later) other
other_first q p (Called call) (Pairs pairs) later other = refl
other_first q p (Called call) Again later other = refl
other_first q p (Called call) Spent later other = refl
other_first q p (Called call) Refused later other = refl
other_first q p (Copied bucket) told later other = refl

-- the updates of a seat are those among its calls
pub updates_of_seat : (q : ℕ) (answers : List Answer) → updates_by q answers ≡ updates_in (calls_by q answers)
updates_of_seat q [] = refl
updates_of_seat q (a ∷ answers) = by (updates_of_seat q answers) a.by
  where
    by_seat : updates_by q answers ≡ updates_in (calls_by q answers) → (p : ℕ) (b : Bool) → (p == q) ≡ b →
        cons_option (update_by q (BySeat p) a.asked a.told) (updates_by q answers)
        ≡ updates_in (flat_map told_of (cond b (a ∷ answers_by q answers) (answers_by q answers)))
    by_seat rest p true same = own_first q p a.asked a.told (updates_by q answers) (calls_by q answers) same rest
    by_seat rest p false other = other_first q p a.asked a.told (updates_by q answers) other ∙ rest

    by : updates_by q answers ≡ updates_in (calls_by q answers) → (who : Asker) →
        cons_option (update_by q who a.asked a.told) (updates_by q answers)
        ≡ updates_in (flat_map told_of (cond (is_by q who) (a ∷ answers_by q answers) (answers_by q answers)))
    by rest (ByReader reader) = rest
    by rest (BySeat p) = by_seat rest p (p == q) refl

-- ---- calls that are dealt

-- the calls about a key are all dealt to its seat
pub about_dealt : (deals : Key → ℕ) (key : Key) (calls : List Made) →
    about key (dealt_to deals (deals key) calls) ≡ about key calls
about_dealt deals key [] = refl
about_dealt deals key (made ∷ calls) =
    go (about_dealt deals key calls) (is_about key made) refl (deals (key_in made.0) == deals key) refl
  where
    dealt : List Made
    dealt = dealt_to deals (deals key) calls

    go : about key (dealt_to deals (deals key) calls) ≡ about key calls → (b : Bool) → is_about key made ≡ b →
        (c : Bool) → (deals (key_in made.0) == deals key) ≡ c →
        about key (cond c (made ∷ dealt) dealt) ≡ cond b (made ∷ about key calls) (about key calls)
    go rest b is true same = ap (λ (t : Bool). cond t (made ∷ about key dealt) (about key dealt)) is
        ∙ (λ i. cond b (made ∷ rest i) (rest i))
    go rest false is false other = rest
    go rest true is false other = absurd (true≢false (sym (eq-eqb (deals (key_in made.0)) (deals key)
        (ap deals (sym (about_is key made is)))) ∙ other))

-- where each update is of its key's seat, those about a key are among that seat's
pub about_made : (deals : Key → ℕ) (key : Key) (made : List MadeBySeat) →
    ((one : MadeBySeat) → In one made → deals (key_in one.1.0) ≡ one.0) →
    about key (all_made made) ≡ about key (made_by (deals key) made)
about_made deals key [] right = refl
about_made deals key (one ∷ made) right = go (about_made deals key made (λ other i. right other (inr i)))
    (is_about key one.1) refl (one.0 == deals key) refl
  where
    those : List Made
    those = made_by (deals key) made

    go : about key (all_made made) ≡ about key (made_by (deals key) made) → (b : Bool) → is_about key one.1 ≡ b →
        (c : Bool) → (one.0 == deals key) ≡ c →
        cond b (one.1 ∷ about key (all_made made)) (about key (all_made made))
        ≡ about key (cons_option (cond c (Some one.1) None) those)
    go rest b is true same = (λ i. cond b (one.1 ∷ rest i) (rest i))
        ∙ ap (λ (t : Bool). cond t (one.1 ∷ about key those) (about key those)) (sym is)
    go rest false is false other = rest
    go rest true is false other = absurd (true≢false (sym (eq-eqb one.0 (deals key)
        (sym (right one (inl refl)) ∙ ap deals (sym (about_is key one.1 is)))) ∙ other))

-- an update is among those of its seat
pub in_own : (one : MadeBySeat) (made : List MadeBySeat) → In one made → In one.1 (made_by one.0 made)
in_own one made i = filter_map_in (λ (other : MadeBySeat). cond (other.0 == one.0) (Some other.1) None) made one one.1 i
    (ap (λ (b : Bool). cond b (Some one.1) None) (eq-eqb one.0 one.0 refl))

-- ---- what was told of an answer

-- nothing, or one call
told_form : (a : Answer) → (told_of a ≡ []) ⊎ ((made : Made) × (told_of a ≡ made ∷ []))
told_form a = go a.asked a.told
  where
    go : (asked : Asked) (told : Told) →
        (call_told asked told ≡ []) ⊎ ((made : Made) × (call_told asked told ≡ made ∷ []))
    go (Called call) (Replied reply) = inr ((call, reply), refl)
    go (Called call) (Pairs pairs) = inl refl
    go (Called call) Again = inl refl
    go (Called call) Spent = inl refl
    go (Called call) Refused = inl refl
    go (Copied bucket) told = inl refl

-- an answer by which a call was told, with what was told before it
pub record IsToldAt (answers : List Answer) (front : List Made) (made : Made) : Type 0 where
  pub before : List Answer
  pub a : Answer
  pub after : List Answer
  pub is : answers ≡ before ++ a ∷ after
  pub front_is : flat_map told_of before ≡ front
  pub told : told_of a ≡ made ∷ []

none_here : (a : Answer) (answers : List Answer) (front : List Made) (made : Made) → told_of a ≡ [] →
    IsToldAt answers front made → IsToldAt (a ∷ answers) front made
none_here a answers front made none later = record {
  before = a ∷ later.before;
  a = later.a;
  after = later.after;
  is = ap (λ (l : List Answer). a ∷ l) later.is;
  front_is = ap (λ (l : List Made). l ++ flat_map told_of later.before) none ∙ later.front_is;
  told = later.told;
}

one_here : (a : Answer) (answers : List Answer) (front : List Made) (made m n : Made) → told_of a ≡ m ∷ [] → m ≡ n →
    IsToldAt answers front made → IsToldAt (a ∷ answers) (n ∷ front) made
one_here a answers front made m n one same later = record {
  before = a ∷ later.before;
  a = later.a;
  after = later.after;
  is = ap (λ (l : List Answer). a ∷ l) later.is;
  front_is = ap (λ (l : List Made). l ++ flat_map told_of later.before) one ∙ (λ i. same i ∷ later.front_is i);
  told = later.told;
}

it_is : (a : Answer) (answers back : List Answer) (made m : Made) → told_of a ≡ m ∷ [] → m ≡ made →
    IsToldAt (a ∷ answers) [] made
it_is a answers back made m one same = record {
  before = [];
  a = a;
  after = answers;
  is = refl;
  front_is = refl;
  told = one ∙ ap (λ (x : Made). x ∷ []) same;
}

told_by : (a : Answer) (answers : List Answer) (made : Made) →
    ((front back : List Made) → flat_map told_of answers ≡ front ++ made ∷ back → IsToldAt answers front made) →
    (told_of a ≡ []) ⊎ ((m : Made) × (told_of a ≡ m ∷ [])) → (front back : List Made) →
    told_of a ++ flat_map told_of answers ≡ front ++ made ∷ back → IsToldAt (a ∷ answers) front made
told_by a answers made later (inl none) front back e = none_here a answers front made none
    (later front back (ap (λ (l : List Made). l ++ flat_map told_of answers) (sym none) ∙ e))
told_by a answers made later (inr one) [] back e = it_is a answers [] made one.0 one.1
    (cons_same one.0 made (flat_map told_of answers) back
    (ap (λ (l : List Made). l ++ flat_map told_of answers) (sym one.1) ∙ e)).0
told_by a answers made later (inr one) (n ∷ front) back e =
    let both = cons_same one.0 n (flat_map told_of answers) (front ++ made ∷ back)
    (ap (λ (l : List Made). l ++ flat_map told_of answers) (sym one.1) ∙ e) in
    one_here a answers front made one.0 n one.1 both.0 (later front back both.1)

pub told_at : (answers : List Answer) (front back : List Made) (made : Made) →
    flat_map told_of answers ≡ front ++ made ∷ back → IsToldAt answers front made
told_at [] [] back made e = absurd (nil_cons made back e)
told_at [] (m ∷ front) back made e = absurd (nil_cons m (front ++ made ∷ back) e)
told_at (a ∷ answers) front back made e =
    told_by a answers made (λ f b. told_at answers f b made) (told_form a) front back e

-- what was asked and told there
pub asked_there : (asked : Asked) (told : Told) (made : Made) → call_told asked told ≡ made ∷ [] →
    (asked ≡ Called made.0) × (told ≡ Replied made.1)
asked_there (Called call) (Replied reply) made e =
    let both = (cons_same (call, reply) made [] [] e).0 in
    (ap (λ (m : Made). Called m.0) both, ap (λ (m : Made). Replied m.1) both)
asked_there (Called call) (Pairs pairs) made e = absurd (nil_cons made [] e)
asked_there (Called call) Again made e = absurd (nil_cons made [] e)
asked_there (Called call) Spent made e = absurd (nil_cons made [] e)
asked_there (Called call) Refused made e = absurd (nil_cons made [] e)
asked_there (Copied bucket) told made e = absurd (nil_cons made [] e)

-- ---- what is held

-- lookups change nothing
pub held_by_updates : (held : Option Session) (calls : List Made) → held_by held (updates_in calls) ≡ held_by held calls
held_by_updates held [] = refl
held_by_updates held ((Lookup key, reply) ∷ calls) = held_by_updates held calls
held_by_updates held ((Insert key value, reply) ∷ calls) = held_by_updates (held_after held (Insert key value, reply))
    calls
held_by_updates held ((Remove key, reply) ∷ calls) = held_by_updates (held_after held (Remove key, reply)) calls
held_by_updates held ((Tally key amount, reply) ∷ calls) =
    held_by_updates (held_after held (Tally key amount, reply)) calls
held_by_updates held ((Count key value amount, reply) ∷ calls) =
    held_by_updates (held_after held (Count key value amount, reply)) calls
held_by_updates held ((Put key value, reply) ∷ calls) = held_by_updates (held_after held (Put key value, reply)) calls
