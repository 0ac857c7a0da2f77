-- A key among items that are gone through one by one.
use Rattle.std.proofs.Common.{◌≡◌, ◌<◌, ◌+◌, ◌*◌, ◌∙◌, ℕ, zero, suc, Bool, true, false, cond, List, [], ◌∷◌, ◌++◌, length, take, drop, Option, Some, None, refl, sym, ap, arith, add-one}
use Rattle.std.proofs.lemmas.List.{take_all}
use Rattle.step_counts.specs.declared.TheConstants.{ITEM_WORDS}
use Rattle.word_rows.specs.Blocks.{block, first_values}
use Rattle.word_rows.specs.KeyWords.{pair_of_words}
use Rattle.word_rows.specs.BucketWords.{items_of_words}
use Rattle.word_rows.specs.Places.{place}
use Rattle.word_rows.specs.declared.addresses.Address.TheVariants.{BucketRowWord}
use Rattle.word_rows.proofs.BlockLemmas.{block-append}
use Rattle.word_rows.proofs.PartLemmas.{first_values_next}
use Rattle.table_model.specs.declared.events.Action.TheVariants.{Load}
use Rattle.table_model.specs.Setup.{rules_of}
use Rattle.table_model.specs.Phases.{Phase, LookItems, StoreDone}
use Rattle.bucket_states.specs.Items.{reply_in}
use Rattle.seat_calls.specs.Going.{Going, Leads}
use Rattle.seat_calls.proofs.RunLemmas.{counted, counted_leads}
use Rattle.std.specs.Option.{option_map_or}
use Rattle.plain_map.specs.declared.calls.Reply.TheVariants.{Absent, Found}
use Rattle.plain_map.specs.Keys.{Session, held_in}
use Rattle.plain_map.specs.PlainObject.{found_in}
use Rattle.plain_map.specs.declared.keys.Key.{Key}
use Rattle.plain_map.specs.declared.keys.Pair.{Pair}
use Rattle.bucket_states.specs.Items.{number_at, same_key, value_at}
use Rattle.seat_calls.specs.Items.{or_found}

-- the session number of what is held
abbrev number_in : Option Session → Option ℕ
number_in held = option_map_or (λ session. Some session.value) held None

-- by whether the first pair has the key
by_test : (b : Bool) (held : Session) (long short : Option Session) (key : Key) (pair : Pair) →
    number_in long ≡ or_found (number_in short) key pair →
    number_in (cond b (Some held) long) ≡ or_found (number_in (cond b (Some held) short)) key pair
by_test true held long short key pair same = refl
by_test false held long short key pair same = same

-- the number among one pair more
pub number_at-more : (key : Key) (items : List Pair) (pair : Pair) →
    number_at key (items ++ pair ∷ []) ≡ or_found (number_at key items) key pair
number_at-more key [] pair = alone (same_key pair.key key)
  where
    alone : (b : Bool) → number_in (cond b (Some (held_in pair)) None) ≡ cond b (Some pair.value) None
    alone true = refl
    alone false = refl
number_at-more key (p ∷ ps) pair = by_test (same_key p.key key) (held_in p) (value_at key (ps ++ pair ∷ []))
    (value_at key ps) key pair (number_at-more key ps pair)

-- a lookup tells the session number alone
pub found_by_number : (held : Option Session) →
    option_map_or found_in held Absent ≡ option_map_or Found (number_in held) Absent
found_by_number (Some session) = refl
found_by_number None = refl

-- values that are alike
first_values_same : {A : Type 0} → (f g : ℕ → A) (n : ℕ) → ((k : ℕ) → k < n → f k ≡ g k) →
    first_values f n ≡ first_values g n
first_values_same f g zero same = refl
first_values_same {A} f g (suc n) same =
    let next : suc n ≡ n + 1 = sym (add-one n) in
    ap (first_values f) next ∙ first_values_next f n
    ∙ (λ i. first_values_same f g n (λ k h. same k (omega (arith, h))) i ++ same n (omega arith) i ∷ [])
    ∙ sym (first_values_next g n) ∙ ap (first_values g) (sym next)

-- what stands behind the front
drop_front : {A : Type 0} → (front back : List A) (n : ℕ) → length front ≡ n → drop n (front ++ back) ≡ back
drop_front [] back zero e = refl
drop_front [] back (suc n) e = absurd (omega (arith, e))
drop_front (x ∷ xs) back zero e = absurd (omega (arith, e))
drop_front (x ∷ xs) back (suc n) e = drop_front xs back n (omega (arith, e))

-- the words of one more item
pub items_more : (words item : List ℕ) (i : ℕ) → length words ≡ i * ITEM_WORDS → length item ≡ ITEM_WORDS →
    items_of_words (i + 1) (words ++ item) ≡ items_of_words i words ++ pair_of_words item ∷ []
items_more words item i is wide =
    let f : ℕ → Pair = λ k. pair_of_words (block ITEM_WORDS k (words ++ item)) in
    let last : block ITEM_WORDS i (words ++ item) ≡ item =
    ap (take ITEM_WORDS) (drop_front words item (i * ITEM_WORDS) is) ∙ take_all ITEM_WORDS item (omega (arith, wide)) in
    first_values_next f i
    ∙ (λ j. first_values_same f (λ k. pair_of_words (block ITEM_WORDS k words)) i
    (λ k h. ap pair_of_words (block-append ITEM_WORDS k i words item is h)) j ++ pair_of_words (last j) ∷ [])

-- the phase after all items
abbrev pub whole_items : Going → (row count : ℕ) → List ℕ → Phase
whole_items g row count words = StoreDone (reply_in (rules_of g.setup) (items_of_words count words) g.flight.call) row

-- the words of the items, one after the other
pub item_leads : (g : Going) (start row count : ℕ) → start ≡ place g.setup.shape (BucketRowWord row 5) →
    Leads (counted g (count * ITEM_WORDS) (LookItems row count) (whole_items g row count)) start (count * ITEM_WORDS)
item_leads g start row count at = counted_leads g (count * ITEM_WORDS) (LookItems row count)
    (whole_items g row count) start (λ words word h. refl) (λ words h. ap Load (omega (arith, at)))
