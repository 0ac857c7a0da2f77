-- Words that are found one after the other.
use Rattle.std.proofs.Common.{◌≡◌, ℕ, zero, suc, ◌+◌, ◌<◌, ◌≤◌, false, cond, List, [], ◌∷◌, ◌++◌, length, take, set, ◌^◌, refl, sym, ap, ◌∙◌, subst, arith, append_assoc}
use Rattle.std.proofs.lemmas.Bool.{cond-true, cond-false, lt-ltb}
use Rattle.std.proofs.lemmas.List.{append-nil, length-append, length-replicate}
use Rattle.std.proofs.lemmas.Bool.Decides.{nat_tests}
use Rattle.std.proofs.lemmas.List.Elements.{All-nil, All-cons}
use Rattle.std.specs.Prelude.{All, replicate, nat_lt, slice_index, if◌then◌else◌}
use Rattle.table_model.specs.declared.events.Action.TheVariants.{Load, Store}
use Rattle.table_model.specs.Phases.{Phase, SeeDone}
use Rattle.table_model.specs.Setup.{seats_of}
use Rattle.table_model.specs.Goes.{after_seeing}
use Rattle.seat_calls.specs.Going.{Going, AllFit, Fits, IsGoing, Leads, Writes, Reads, action, goes, goes_by, later, seeing, seen_so_far, so_far}

-- after one word more
pub goes_by-more : (g : Going) (words : List ℕ) (word : ℕ) →
    goes_by g (words ++ word ∷ []) ≡ goes (goes_by g words) word
goes_by-more g [] word = refl
goes_by-more g (w ∷ ws) word = goes_by-more (goes g w) ws word

-- and one step more that fits
pub AllFit-more : (g : Going) (words : List ℕ) (word : ℕ) → AllFit g words → Fits (goes_by g words) word →
    AllFit g (words ++ word ∷ [])
AllFit-more g [] word all fits = (fits, tt)
AllFit-more g (w ∷ ws) word all fits = (all.0, AllFit-more (goes g w) ws word all.1 fits)

-- one element more is taken, and is the one that was set
pub take_more : {A : Type 0} → (xs : List A) (i j : ℕ) (x : A) → j ≡ suc i → i < length xs →
    take j (set xs i x) ≡ take i xs ++ x ∷ []
take_more [] i j x e h = absurd (omega arith)
take_more {A} (y ∷ ys) zero j x e h = ap (λ (k : ℕ). take k (set (y ∷ ys) 0 x)) e
take_more {A} (y ∷ ys) (suc i) j x e h = ap (λ (k : ℕ). take k (set (y ∷ ys) (suc i) x)) e
    ∙ ap (λ (zs : List A). y ∷ zs) (take_more ys i (suc i) x refl (omega arith))

-- one zero more goes last
more_zeros : (i : ℕ) → replicate {A = ℕ} (suc i) 0 ≡ replicate {A = ℕ} i 0 ++ 0 ∷ []
more_zeros zero = refl
more_zeros (suc i) = ap (λ (xs : List ℕ). 0 ∷ xs) (more_zeros i)

-- the same by a sum
pub replicate_more : (i : ℕ) → replicate {A = ℕ} (i + 1) 0 ≡ replicate {A = ℕ} i 0 ++ 0 ∷ []
replicate_more i =
    let next : i + 1 ≡ suc i = omega arith in
    ap (λ (k : ℕ). replicate {A = ℕ} k 0) next ∙ more_zeros i

-- one word more is loaded
pub loaded_more : (first : Going) {now next : Going} (row : List ℕ) (i word : ℕ) → i < length row →
    now ≡ goes_by first (take i row) → AllFit first (take i row) → next ≡ goes now word → Fits now word →
    (next ≡ goes_by first (take (i + 1) (set row i word))) × AllFit first (take (i + 1) (set row i word))
loaded_more first row i word inside was fits step fit =
    let so_far : List ℕ = take i row in
    let one = take_more row i (i + 1) word (omega arith) inside in (
      step ∙ ap (λ (h : Going). goes h word) was ∙ sym (goes_by-more first so_far word) ∙ ap (goes_by first) (sym one),
      subst (AllFit first) (sym one)
          (AllFit-more first so_far word fits (subst (λ (h : Going). Fits h word) was fit)),
    )

-- one word more is stored
pub stored_more : (first : Going) {now next : Going} (i : ℕ) → now ≡ goes_by first (replicate i 0) →
    AllFit first (replicate i 0) → next ≡ goes now 0 → Fits now 0 →
    (next ≡ goes_by first (replicate (i + 1) 0)) × AllFit first (replicate (i + 1) 0)
stored_more first i was fits step fit =
    let so_far : List ℕ = replicate i 0 in
    let one = replicate_more i in (
      step ∙ ap (λ (h : Going). goes h 0) was ∙ sym (goes_by-more first so_far 0) ∙ ap (goes_by first) (sym one),
      subst (AllFit first) (sym one)
          (AllFit-more first so_far 0 fits (subst (λ (h : Going). Fits h 0) was fit)),
    )

-- a list with one word more
pub length-more : (words : List ℕ) (word : ℕ) → length (words ++ word ∷ []) ≡ length words + 1
length-more words word = length-append words (word ∷ [])

-- a family leads from word to word
module _ (family : List ℕ → Going) (n : ℕ) (next : (words : List ℕ) (word : ℕ) → length words < n →
    goes (family words) word ≡ family (words ++ word ∷ [])) where
  -- from the words that were found before
  pub leads_from : (was words : List ℕ) → length was + length words ≤ n →
      goes_by (family was) words ≡ family (was ++ words)
  leads_from was [] h = ap family (sym (append-nil was))
  leads_from was (w ∷ ws) h =
      let one = length-more was w in
      ap (λ (g : Going). goes_by g ws) (next was w (omega (arith, h)))
      ∙ leads_from (was ++ w ∷ []) ws (omega (arith, h, one))
      ∙ ap family (append_assoc was (w ∷ []) ws)

  pub leads : (words : List ℕ) → length words ≤ n → goes_by (family []) words ≡ family words
  leads words h = leads_from [] words (omega (arith, h))

-- a family loads words one after the other
pub leads_reads : (family : List ℕ → Going) (start n : ℕ) → Leads family start n → Reads (family []) start n
leads_reads family start n l words h = ap action (leads family n l.next words (omega (arith, h))) ∙ l.asked words h

-- and goes on to do so
pub reads_on : (family : List ℕ → Going) (start n : ℕ) → Leads family start n → (was : List ℕ) (at m : ℕ) →
    length was + m ≤ n → at ≡ start + length was → Reads (family was) at m
reads_on family start n l was at m room is words h =
    let both = length-append was words in
    ap action (leads_from family n l.next was words (omega (arith, room, h)))
    ∙ l.asked (was ++ words) (omega (arith, room, h, both)) ∙ ap Load (omega (arith, is, both))

-- while the words are short
pub short_is : (n : ℕ) (short whole : List ℕ → Phase) (words : List ℕ) → length words < n →
    so_far n short whole words ≡ short words
short_is n short whole words h = cond-true (nat_lt (length words) n) (short words) (whole words)
    (lt-ltb (length words) n h)

-- where they are whole
pub whole_is : (n : ℕ) (short whole : List ℕ → Phase) (words : List ℕ) → n ≤ length words →
    so_far n short whole words ≡ whole words
whole_is n short whole words h =
    let not : nat_lt (length words) n ≡ false = grind (arith, nat_tests) in
    cond-false (nat_lt (length words) n) (short words) (whole words) not

-- the done words
module _ (g : Going) where
  -- one done word more
  pub seen_next : (words : List ℕ) (word : ℕ) → length words < seats_of g.setup →
      goes (seen_so_far g words) word ≡ seen_so_far g (words ++ word ∷ [])
  seen_next words word h =
      let one = length-more words word in
      let spent : g.flight.steps + length words + 1 ≡ g.flight.steps + length (words ++ word ∷ []) =
      omega (arith, one) in
      ap (λ (p : Phase). goes (seeing g words p) word)
      (short_is (seats_of g.setup) (λ _. SeeDone) (λ _. after_seeing g.flight) words h)
      ∙ (λ i. record {
        setup = g.setup;
        seat = g.seat;
        account = g.account;
        flight = record g.flight { seen = words ++ word ∷ []; steps = spent i };
        phase = cond (nat_lt (sym one i) (seats_of g.setup)) SeeDone (after_seeing g.flight);
      })

  pub seen_leads : (start : ℕ) → start ≡ 1 + seats_of g.setup → Leads (seen_so_far g) start (seats_of g.setup)
  seen_leads start at = record {
    asked = λ words h.
        ap (λ (p : Phase). action (seeing g words p))
        (short_is (seats_of g.setup) (λ _. SeeDone) (λ _. after_seeing g.flight) words h)
        ∙ ap (λ (k : ℕ). Load (k + length words)) (sym at);
    next = seen_next;
  }

  pub seen_first : g.phase ≡ SeeDone → g.flight.seen ≡ [] → 0 < seats_of g.setup → g ≡ seen_so_far g []
  seen_first phase seen some =
      let spent : g.flight.steps ≡ g.flight.steps + 0 = omega arith in
      λ i. record {
        setup = g.setup;
        seat = g.seat;
        account = g.account;
        flight = record g.flight { seen = seen i; steps = spent i };
        phase = (phase ∙ sym (short_is (seats_of g.setup) (λ _. SeeDone) (λ _. after_seeing g.flight) [] some)) i;
      }

  seen_few_from : (was words : List ℕ) → length was + length words ≤ seats_of g.setup →
      AllFit (seen_so_far g was) words → All (λ w. w < g.setup.shape.limit) words
  seen_few_from was [] h fits = All-nil (λ w. w < g.setup.shape.limit)
  seen_few_from was (w ∷ ws) h fits =
      let one = length-more was w in
      let here = subst (λ (p : Phase). Fits (seeing g was p) w)
      (short_is (seats_of g.setup) (λ _. SeeDone) (λ _. after_seeing g.flight) was (omega (arith, h))) fits.0 in
      All-cons (λ w. w < g.setup.shape.limit) w ws here.finds
      (seen_few_from (was ++ w ∷ []) ws (omega (arith, h, one))
      (subst (λ (k : Going). AllFit k ws) (seen_next was w (omega (arith, h))) fits.1))

  pub seen_few : (words : List ℕ) → length words ≤ seats_of g.setup → AllFit (seen_so_far g []) words →
      All (λ w. w < g.setup.shape.limit) words
  seen_few words h fits = seen_few_from [] words (omega (arith, h)) fits

-- one step that only counts
abbrev pub plus : Going → ℕ → Phase → Going
plus g steps phase = record {
  setup = g.setup;
  seat = g.seat;
  account = g.account;
  flight = record g.flight { steps = g.flight.steps + steps + 1 };
  phase = phase;
}

-- it is one step later
plus_is : (g : Going) (steps : ℕ) (phase : Phase) → plus g steps phase ≡ later g (steps + 1) phase
plus_is g steps phase =
    let spent : g.flight.steps + steps + 1 ≡ g.flight.steps + (steps + 1) = omega arith in
    λ i. record {
      setup = g.setup;
      seat = g.seat;
      account = g.account;
      flight = record g.flight { steps = spent i };
      phase = phase;
    }

-- steps after steps
pub later_later : (g : Going) (a b : ℕ) (phase next : Phase) → later (later g a phase) b next ≡ later g (a + b) next
later_later g a b phase next =
    let spent : g.flight.steps + a + b ≡ g.flight.steps + (a + b) = omega arith in
    λ i. record {
      setup = g.setup;
      seat = g.seat;
      account = g.account;
      flight = record g.flight { steps = spent i };
      phase = next;
    }

-- words of one row, each of which only counts as a step
module _ (g : Going) (n : ℕ) (short whole : List ℕ → Phase) where
  -- so many steps later
  abbrev pub counted : List ℕ → Going
  counted words = later g (length words) (so_far n short whole words)

  pub counted_next : ((words : List ℕ) (word : ℕ) → length words < n →
      goes (later g (length words) (short words)) word ≡ plus g (length words)
      (so_far n short whole (words ++ word ∷ []))) →
      (words : List ℕ) (word : ℕ) → length words < n → goes (counted words) word ≡ counted (words ++ word ∷ [])
  counted_next step words word h =
      let one = length-more words word in
      ap (λ (p : Phase). goes (later g (length words) p) word) (short_is n short whole words h)
      ∙ step words word h
      ∙ plus_is g (length words) (so_far n short whole (words ++ word ∷ []))
      ∙ ap (λ (k : ℕ). later g k (so_far n short whole (words ++ word ∷ []))) (sym one)

  pub counted_leads : (start : ℕ) →
      ((words : List ℕ) (word : ℕ) → length words < n →
      goes (later g (length words) (short words)) word ≡ plus g (length words)
      (so_far n short whole (words ++ word ∷ []))) →
      ((words : List ℕ) → length words < n →
      action (later g (length words) (short words)) ≡ Load (start + length words)) →
      Leads counted start n
  counted_leads start step asked = record {
    asked = λ words h. ap (λ (p : Phase). action (later g (length words) p)) (short_is n short whole words h)
        ∙ asked words h;
    next = counted_next step;
  }

  pub counted_first : (phase : Phase) → g.phase ≡ phase → so_far n short whole [] ≡ phase → g ≡ counted []
  counted_first phase at same =
      let spent : g.flight.steps ≡ g.flight.steps + 0 = omega arith in
      λ i. record {
        setup = g.setup;
        seat = g.seat;
        account = g.account;
        flight = record g.flight { steps = spent i };
        phase = (at ∙ sym same) i;
      }

-- a run of loads from its first phase to the last word
module _ (g : Going) (n : ℕ) (short whole : List ℕ → Phase) (start : ℕ) (l : Leads (counted g n short whole) start n)
    (phase : Phase) (at : g.phase ≡ phase) (same : so_far n short whole [] ≡ phase) where
  -- the words are loaded one after the other
  pub row_reads : (long : ℕ) → long ≡ n → Reads g start long
  row_reads long is =
      subst (λ (h : Going). Reads h start long) (sym (counted_first g n short whole phase at same))
      (subst (λ (k : ℕ). Reads (counted g n short whole []) start k) (sym is)
      (leads_reads (counted g n short whole) start n l))

  pub row_goes : (words : List ℕ) → length words ≡ n → goes_by g words ≡ later g n (whole words)
  row_goes words is =
      ap (λ (h : Going). goes_by h words) (counted_first g n short whole phase at same)
      ∙ leads (counted g n short whole) n l.next words (omega (arith, is))
      ∙ ap (later g (length words)) (whole_is n short whole words (omega (arith, is)))
      ∙ ap (λ (k : ℕ). later g k (whole words)) is

-- the last word of a row
pub record Last (g : Going) (short : List ℕ → Phase) (words : List ℕ) : Type 0 where
  pub front : List ℕ
  pub word : ℕ
  pub cut : words ≡ front ++ word ∷ []
  pub fits : Fits (later g (length front) (short front)) word

module _ (g : Going) (n : ℕ) (short whole : List ℕ → Phase) (start : ℕ)
    (l : Leads (counted g n short whole) start n) where
  -- from the words that were found before
  last_from : (was words : List ℕ) → length was + length words ≡ n → 0 < length words →
      AllFit (counted g n short whole was) words → Last g short (was ++ words)
  last_from was [] h some fits = absurd (omega (arith, some))
  last_from was (w ∷ []) h some fits = record {
    front = was;
    word = w;
    cut = refl;
    fits = subst (λ (p : Phase). Fits (later g (length was) p) w)
        (short_is n short whole was (omega (arith, h))) fits.0;
  }
  last_from was (w ∷ v ∷ ws) h some fits =
      let one = length-more was w in
      subst (Last g short) (append_assoc was (w ∷ []) (v ∷ ws))
      (last_from (was ++ w ∷ []) (v ∷ ws) (omega (arith, h, one)) (omega arith)
      (subst (λ (k : Going). AllFit k (v ∷ ws)) (l.next was w (omega (arith, h))) fits.1))

  pub row_last : (phase : Phase) → g.phase ≡ phase → so_far n short whole [] ≡ phase → (words : List ℕ) →
      length words ≡ n → 0 < n → AllFit g words → Last g short words
  row_last phase at same words is some fits =
      last_from [] words (omega (arith, is)) (omega (arith, is, some))
      (subst (λ (k : Going). AllFit k words) (counted_first g n short whole phase at same) fits)

-- a run of stores: what a phase says of it is how many words are stored
module _ (g : Going) (n : ℕ) (storing : ℕ → Phase) (last phase : Phase)
    (step : (k word : ℕ) → goes (later g k (storing k)) word ≡ plus g k
    (if nat_lt (k + 1) n then storing (k + 1) else last))
    (at : g.phase ≡ phase) (same : so_far n (λ ws. storing (length ws)) (λ _. last) [] ≡ phase) where
  -- what the phase says while words are short
  abbrev short : List ℕ → Phase
  short words = storing (length words)

  abbrev whole : List ℕ → Phase
  whole words = last

  by_length : (words : List ℕ) (word : ℕ) → length words < n →
      goes (later g (length words) (short words)) word ≡ plus g (length words)
      (so_far n short whole (words ++ word ∷ []))
  by_length words word h = step (length words) word
      ∙ ap (λ (m : ℕ). plus g (length words) (if nat_lt m n then storing m else last)) (sym (length-more words word))

  stored_by : (words : List ℕ) → length words ≤ n → goes_by g words ≡ counted g n short whole words
  stored_by words h =
      ap (λ (k : Going). goes_by k words) (counted_first g n short whole phase at same)
      ∙ leads (counted g n short whole) n (counted_next g n short whole by_length) words h

  stored_at : (i : ℕ) → i < n → goes_by g (replicate i 0) ≡ later g i (storing i)
  stored_at i h =
      let many : length (replicate {A = ℕ} i 0) ≡ i = length-replicate i 0 in
      stored_by (replicate i 0) (omega (arith, many, h))
      ∙ ap (later g (length (replicate {A = ℕ} i 0))) (short_is n short whole (replicate i 0) (omega (arith, many, h)))
      ∙ ap (λ (k : ℕ). later g k (storing k)) many

  pub row_writes : (start : ℕ) (row : List ℕ) → length row ≡ n →
      ((i k : ℕ) → i < n → (action (later g k (storing i)) ≡ Store (start + i) (slice_index row i))
      × IsGoing (storing i)) → Writes g start row
  row_writes start row is asks i h =
      let there = stored_at i (omega (arith, h, is)) in
      let both = asks i i (omega (arith, h, is)) in
      (ap action there ∙ both.0, subst (λ (k : Going). IsGoing k.phase) (sym there) both.1)

  pub row_stored : (row : List ℕ) → length row ≡ n → goes_by g (replicate (length row) 0) ≡ later g n last
  row_stored row is =
      let many : length (replicate {A = ℕ} (length row) 0) ≡ n = length-replicate (length row) 0 ∙ is in
      stored_by (replicate (length row) 0) (omega (arith, many))
      ∙ ap (later g (length (replicate {A = ℕ} (length row) 0)))
      (whole_is n short whole (replicate (length row) 0) (omega (arith, many)))
      ∙ ap (λ (k : ℕ). later g k last) many
