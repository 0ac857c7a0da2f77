-- The lines of a batch's adds, one more at a time.
use Rattle.std.proofs.Common.{◌≡◌, ◌==◌, ℕ, suc, ◌+◌, ◌%◌, ◌<◌, Bool, true, cond, List, [], ◌∷◌, ◌++◌, Vec, Global, length, map, take, drop, get_or, set, inl, inr, refl, sym, ap, ◌∙◌, arith, append-nil, length-append, get_or-set_other, get_or-set_same}
use Rattle.std.specs.Prelude.{count_by, filter, flat_map, fold, max, slice_index}
use Rattle.std.proofs.Math.Nat.{mod-lt}
use Rattle.std.proofs.lemmas.Bool.{cases_eq, cond-false, cond-true, eq-eqb, ne_eqb}
use Rattle.std.proofs.lemmas.List.{flat_map_more, get_or_at, get_or-map, get_or_default, length-set, take_more}
use Rattle.std.proofs.lemmas.List.Elements.{filter-append}
use Rattle.std.proofs.lemmas.List.Sums.{fold_push, length-filter, sum_by_push}
use Rattle.sim_steps.specs.declared.adds.Added.{Added}
use Rattle.totals_runner.specs.Adds.{add_line, added_on}
use Rattle.list_laws.proofs.Cuts.{cut_at}
use Rattle.totals_runner.specs.Batch.{AreInTurn}

-- the lines of the first so many answers stand behind the old text, and of each seat so many of its answers were taken
pub record AreTold (seats : ℕ) (before : List ℕ) (most : ℕ) (old now : List ℕ) (steps : ℕ) (taken : List ℕ)
    (place : ℕ) (answers : List Added) : Type 0 where
  pub text : now ≡ old ++ flat_map (λ (a : Added). add_line seats (added_on before a)) (take place answers)
  pub most_is : steps ≡ fold (λ (so_far : ℕ) (a : Added). max so_far a.steps) most (take place answers)
  pub taken_are : (seat : ℕ) → seat < 8 →
      slice_index taken seat ≡ count_by (λ (a : Added). a.seat == seat) (take place answers)
  pub long : length taken ≡ 8

-- at first none are
pub told_none : (seats : ℕ) (before : List ℕ) (most : ℕ) (old : List ℕ) (taken : List ℕ) (answers : List Added) →
    ((seat : ℕ) → seat < 8 → slice_index taken seat ≡ 0) → length taken ≡ 8 →
    AreTold seats before most old old most taken 0 answers
told_none seats before most old taken answers zeros long =
    record { text = sym (append-nil old); most_is = refl; taken_are = zeros; long = long }

-- a filter keeps what passes where it stands
pub filter_at : {X : Type 0} (p : X → Bool) (front back : List X) (x : X) → p x ≡ true →
    filter p (front ++ x ∷ back) ≡ filter p front ++ x ∷ filter p back
filter_at p front back x passes =
    filter-append p front (x ∷ back)
    ∙ ap (λ ys. filter p front ++ ys) (cond-true (p x) (x ∷ filter p back) (filter p back) passes)

-- the next answer is the next of its seat's
pub record IsNext (seats first : ℕ) (logs : List (List Added)) (answers : List Added) (place : ℕ) : Type 0 where
  pub seat : (first + place) % seats < seats
  pub inside : count_by (λ (a : Added). a.seat == (first + place) % seats) (take place answers)
      < length (get_or logs ((first + place) % seats) [])
  pub is : (d : Added) →
      get_or (get_or logs ((first + place) % seats) [])
      (count_by (λ (a : Added). a.seat == (first + place) % seats) (take place answers)) d
      ≡ get_or answers place d

pub next_in_turn : (seats first : ℕ) (logs : List (List Added)) (answers : List Added) (place : ℕ) (a : Added) →
    0 < seats → AreInTurn seats first logs answers → place < length answers → IsNext seats first logs answers place
next_in_turn seats first logs answers place a some turns less =
    let seat : ℕ = (first + place) % seats in
    let by_seat : Added → Bool = λ x. x.seat == seat in
    let here : Added = get_or answers place a in
    let front : List Added = take place answers in
    let back : List Added = drop (suc place) answers in
    let below : seat < seats = mod-lt (first + place) some in
    let passes : by_seat here ≡ true = eq-eqb here.seat seat (turns.turns place a less) in
    let log : List Added = get_or logs seat [] in
    let log_is : log ≡ filter by_seat front ++ here ∷ filter by_seat back =
    turns.logs_are seat below ∙ ap (filter by_seat) (cut_at answers place a less)
    ∙ filter_at by_seat front back here passes in
    let count : length (filter by_seat front) ≡ count_by by_seat front = length-filter by_seat front in
    record {
      seat = below;
      inside = omega (
        arith,
        ap (λ (xs : List Added). length xs) log_is,
        length-append (filter by_seat front) (here ∷ filter by_seat back),
        count,
      );
      is = λ d. ap (λ (xs : List Added). get_or xs (count_by by_seat front) d) log_is
          ∙ get_or_at (filter by_seat front) here (filter by_seat back) d (count_by by_seat front) count
          ∙ get_or_default answers place a d less;
    }

-- so one line more is told
pub told_more : (seats : ℕ) (before : List ℕ) (most : ℕ) (old now next : List ℕ) (steps steps' : ℕ)
    (taken taken' : List ℕ) (place : ℕ) (answers : List Added) (a : Added) (seat : ℕ) →
    AreTold seats before most old now steps taken place answers → place < length answers →
    a ≡ get_or answers place a → a.seat ≡ seat → seat < 8 →
    next ≡ now ++ add_line seats (added_on before a) → steps' ≡ max steps a.steps →
    taken' ≡ set taken seat (slice_index taken seat + 1) →
    AreTold seats before most old next steps' taken' (place + 1) answers
told_more seats before most old now next steps steps' taken taken' place answers a seat told less is of few text_is
    steps_are taken_is =
    let line : Added → List ℕ = λ x. add_line seats (added_on before x) in
    let so_far : ℕ → Added → ℕ = λ m x. max m x.steps in
    let front : List Added = take place answers in
    let more : take (place + 1) answers ≡ front ++ a ∷ [] =
    take_more answers place a less ∙ ap (λ (x : Added). front ++ x ∷ []) (sym is) in
    record {
      text = text_is ∙ ap (λ (t : List ℕ). t ++ line a) told.text ∙ flat_map_more line old front a
          ∙ ap (λ (xs : List Added). old ++ flat_map line xs) (sym more);
      most_is = steps_are ∙ ap (λ (n : ℕ). max n a.steps) told.most_is ∙ sym (fold_push so_far most front a)
          ∙ ap (fold so_far most) (sym more);
      taken_are = λ s inside.
          ap (λ (xs : List ℕ). slice_index xs s) taken_is ∙ counted s inside
          ∙ ap (λ (xs : List Added). count_by (λ (x : Added). x.seat == s) xs) (sym more);
      long = ap (λ (xs : List ℕ). length xs) taken_is
          ∙ length-set taken seat (slice_index taken seat + 1) ∙ told.long;
    }
  where
    counted : (s : ℕ) → s < 8 →
        slice_index (set taken seat (slice_index taken seat + 1)) s
        ≡ count_by (λ (x : Added). x.seat == s) (take place answers ++ a ∷ [])
    counted s inside =
        let push = sum_by_push (λ (x : Added). cond (x.seat == s) 1 0) (take place answers) a in
        elim (cases_eq s seat) [
          | inl same ↦
              let within : seat < length taken = omega (arith, few, told.long) in
              let one : cond {A = ℕ} (a.seat == s) 1 0 ≡ 1 =
              cond-true (a.seat == s) 1 0 (eq-eqb a.seat s (of ∙ sym same)) in
              ap (λ (r : ℕ). slice_index (set taken seat (slice_index taken seat + 1)) r) same
              ∙ get_or-set_same taken seat (slice_index taken seat + 1) 0 within
              ∙ ap (λ (r : ℕ). slice_index taken r + 1) (sym same)
              ∙ omega (arith, told.taken_are s inside, push, one)
          | inr other ↦
              let none : cond {A = ℕ} (a.seat == s) 1 0 ≡ 0 =
              cond-false (a.seat == s) 1 0 (ne_eqb a.seat s (λ eq. other (sym eq ∙ of))) in
              get_or-set_other taken seat s (slice_index taken seat + 1) 0 other
              ∙ omega (arith, told.taken_are s inside, push, none)
        ]

-- the log of a seat
pub log_at : (logs : List (Vec Added Global)) (seat : ℕ) (log : Vec Added Global) → seat < length logs →
    log ≡ get_or logs seat log → get_or (map (λ (l : Vec Added Global). l.items) logs) seat [] ≡ log.items
log_at logs seat log inside is =
    get_or-map (λ (l : Vec Added Global). l.items) logs seat log [] inside
    ∙ ap (λ (l : Vec Added Global). l.items) (sym is)
