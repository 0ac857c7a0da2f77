-- A row at hand: the words that were loaded spell a bucket, and the words that are stored its change.
use Rattle.std.proofs.Common.{◌≡◌, ℕ, ◌*◌, ◌-◌, ◌≤◌, List, ◌∷◌, ◌++◌, length, take, drop, get_or, replicate, Option, Some, None, refl, sym, ap, subst, ◌∙◌, arith}
use Rattle.std.proofs.lemmas.List.{append-nil, drop_at, take_at, append_assoc}
use Rattle.std.specs.Prelude.{slice_index}
use Rattle.step_counts.specs.declared.TheConstants.{ITEM_WORDS}
use Rattle.step_counts.specs.declared.settings.Settings.{Settings}
use Rattle.plain_map.specs.PlainObject.{InRange}
use Rattle.word_rows.specs.BaseWords.{IsBase}
use Rattle.word_rows.specs.BucketWords.{IsBucket, item_words, seat_words}
use Rattle.word_rows.proofs.BucketLemmas.{bucket_read, length-seat_words}
use Rattle.bucket_machine.proofs.WordLemmas.{flat, items_flat}
use Rattle.bucket_states.proofs.GoodLemmas.{stays_good}
use Rattle.bucket_states.proofs.ValueLemmas.{stays_small}
use Rattle.bucket_states.specs.declared.ops.Op.{Op}
use Rattle.bucket_states.specs.Change.{change}
use Rattle.bucket_states.specs.Laws.{IsGood}
use Rattle.bucket_states.specs.States.{BucketState, row_of_state, state_in_row}
use Rattle.bucket_states.specs.Values.{AreUpdates, IsSmall}
use Rattle.table_model.specs.Setup.{rules_of, seats_of, settings_of}
use Rattle.lasting_model.specs.Plans.{ample}
use Rattle.lasting_model.specs.Codes.{state_in}
use Rattle.lasting_calls.specs.Desks.{IsOf}
use Rattle.lasting_calls.specs.Going.{Going, IsBucketRow}
use Rattle.lasting_calls.specs.Updates.{HasLoaded, IsAtHand, at_hand, state_at}
use Rattle.lasting_calls.specs.declared.desk.Desk.{Desk}
use Rattle.lasting_calls.specs.declared.own.Own.{Own}
use Rattle.lasting_calls.proofs.PlaceLemmas.{ample_seats_are, ample_settings}

-- two ways to cut a list at one place are one
pub same_cut : (front back other rest : List ℕ) → length front ≡ length other → front ++ back ≡ other ++ rest →
    (front ≡ other) × (back ≡ rest)
same_cut front back other rest long same = (
  sym (take_at front back (length front) refl) ∙ ap (take (length front)) same
      ∙ take_at other rest (length front) (sym long),
  sym (drop_at front back (length front) refl) ∙ ap (drop (length front)) same
      ∙ drop_at other rest (length front) (sym long),
)

module _ (f : Going) (desk : Desk) (is : IsOf f desk) where
  settings_are : settings_of (ample f.plan) ≡ desk.settings
  settings_are = ample_settings f.plan ∙ is.settings

  items_are : (settings_of (ample f.plan)).items ≡ desk.settings.items
  items_are = ap (λ (s : Settings). s.items) settings_are

  depth_is : (settings_of (ample f.plan)).depth ≡ desk.settings.depth
  depth_is = ap (λ (s : Settings). s.depth) settings_are

  -- the rules are within their ranges
  pub rules_in_range : InRange (rules_of (ample f.plan))
  rules_in_range = record {
    some_room = omega (arith, items_are, desk.settings.items_in_range.0);
    items = omega (arith, items_are, desk.settings.items_in_range.1);
    depth = omega (arith, depth_is, desk.settings.depth_in_range.1);
  }

  -- a bucket that keeps to the rules, whose numbers are small, can be spelled
  pub is_bucket : (base : Option ℕ) (state : BucketState) → IsBase base →
      IsGood (rules_of (ample f.plan)) (seats_of (ample f.plan)) state → IsSmall state →
      IsBucket desk.settings (row_of_state base state)
  is_bucket base state based good small = record {
    prefix = good.below;
    depth = omega (arith, good.within, depth_is);
    base = based;
    items = record { fit = omega (arith, good.few, items_are); values = small.values };
    seats = record {
      each_number = good.numbers ∙ ample_seats_are f desk is;
      each_reply = good.answers ∙ ample_seats_are f desk is;
      answered = λ seat inside. record {
        few = small.numbers seat;
        answer = small.replies seat;
        paired = good.answered seat;
      };
    };
  }

  -- its spelling says it
  pub hand_says : (base : Option ℕ) (state : BucketState) (words : List ℕ) → IsBase base →
      IsGood (rules_of (ample f.plan)) (seats_of (ample f.plan)) state → IsSmall state →
      words ≡ at_hand desk.settings base state → state_at desk.settings words ≡ state
  hand_says base state words based good small is_words =
      ap (state_at desk.settings) is_words
      ∙ ap state_in_row (bucket_read desk.settings (row_of_state base state) (is_bucket base state based good small))

  -- ---- a row that was loaded

  module _ (now : Going) (own : Own) (turn word : ℕ) (words : List ℕ) (l : HasLoaded f now desk own turn word words)
      (r : IsBucketRow (ample f.plan) own.bucket (l.seats ++ l.most ∷ l.items)) where
    abbrev pub loaded_state : BucketState
    loaded_state = state_in (ample f.plan) own.bucket (l.seats ++ l.most ∷ l.items)

    abbrev true_seats : List ℕ
    true_seats = seat_words (seats_of (ample f.plan)) loaded_state.applied loaded_state.replies

    abbrev true_items : List ℕ
    true_items = item_words (length loaded_state.items) loaded_state.items

    parts : (l.seats ≡ true_seats) × (l.most ∷ l.items ≡ length loaded_state.items ∷ true_items)
    parts =
        same_cut l.seats (l.most ∷ l.items) true_seats (length loaded_state.items ∷ true_items)
        (omega (
          arith,
          l.seats_long,
          ample_seats_are f desk is,
          length-seat_words (seats_of (ample f.plan)) loaded_state.applied loaded_state.replies,
        )) r.spelled

    most_is : l.most ≡ length loaded_state.items
    most_is = ap (λ (ws : List ℕ). get_or ws 0 0) parts.1

    rest_is : l.items ≡ true_items
    rest_is = ap (drop 1) parts.1

    count_is : l.count ≡ length loaded_state.items
    count_is = omega (arith, l.count_is, most_is, r.good.few)

    room_is : item_words desk.settings.items loaded_state.items
        ≡ l.items ++ replicate (ITEM_WORDS * (desk.settings.items - l.count)) 0
    room_is =
        let m : ℕ = desk.settings.items - length loaded_state.items in
        let zeros : m * ITEM_WORDS ≡ ITEM_WORDS * (desk.settings.items - l.count) = omega (arith, count_is) in
        let all : l.items ≡ flat loaded_state.items = rest_is
        ∙ items_flat loaded_state.items 0 (length loaded_state.items) (omega arith)
        ∙ append-nil (flat loaded_state.items) in
        items_flat loaded_state.items m desk.settings.items (omega (arith, r.good.few, items_are))
        ∙ (λ i. sym all i ++ replicate (zeros i) 0)

    pub loaded_words : words ≡ at_hand desk.settings None loaded_state
    loaded_words =
        let zeros : List ℕ = replicate (ITEM_WORDS * (desk.settings.items - l.count)) 0 in
        let seats : List ℕ = seat_words desk.settings.seats loaded_state.applied loaded_state.replies in
        let seats_same : l.seats ≡ seats = parts.0
        ∙ ap (λ (n : ℕ). seat_words n loaded_state.applied loaded_state.replies) (ample_seats_are f desk is) in
        l.words_are
        ∙ (λ i. own.bucket ∷ sym depth_is i ∷ 0 ∷ 0 ∷ most_is i ∷ (l.items ++ (zeros ++ seats_same i)))
        ∙ ap (λ (ws : List ℕ). own.bucket ∷ loaded_state.depth ∷ 0 ∷ 0 ∷ length loaded_state.items ∷ ws)
        (sym (append_assoc l.items zeros seats) ∙ ap (λ (ws : List ℕ). ws ++ seats) (sym room_is))

    pub loaded_says : state_at desk.settings words ≡ loaded_state
    loaded_says = hand_says None loaded_state words tt r.good r.small loaded_words

    pub loaded_hand : IsAtHand f desk words
    loaded_hand =
        let back : loaded_state ≡ state_at desk.settings words = sym loaded_says in
        record {
          words_are = loaded_words ∙ ap (at_hand desk.settings None) back;
          spelled = subst (λ (s : BucketState). IsBucket desk.settings (row_of_state None s)) back
              (is_bucket None loaded_state tt r.good r.small);
          good = subst (IsGood (rules_of (ample f.plan)) (seats_of (ample f.plan))) back r.good;
          small = subst IsSmall back r.small;
        }

  -- ---- a row that is changed

  module _ (words : List ℕ) (h : IsAtHand f desk words) (ops : List (Option Op))
      (all : length ops ≡ desk.settings.seats)
      (updates : AreUpdates ops) where
    abbrev was : BucketState
    was = state_at desk.settings words

    abbrev pub made_of : BucketState
    made_of = change (rules_of (ample f.plan)) ops was

    good : IsGood (rules_of (ample f.plan)) (seats_of (ample f.plan)) made_of
    good = stays_good (rules_of (ample f.plan)) (seats_of (ample f.plan)) ops was rules_in_range h.good
        (omega (arith, all, ample_seats_are f desk is))

    small : IsSmall made_of
    small = stays_small (rules_of (ample f.plan)) ops was (
      omega (arith, all, ample_seats_are f desk is, h.good.numbers),
      omega (arith, all, ample_seats_are f desk is, h.good.answers),
    ) updates h.small

    pub made_says : (new : List ℕ) → new ≡ at_hand desk.settings (Some 0) made_of →
        state_at desk.settings new ≡ made_of
    made_says new is_new = hand_says (Some 0) made_of new (omega arith) good small is_new

    pub made_fits : (new : List ℕ) → new ≡ at_hand desk.settings (Some 0) made_of →
        slice_index new 4 ≤ desk.settings.items
    made_fits new is_new =
        let e : slice_index new 4 ≡ length made_of.items = ap (λ (ws : List ℕ). slice_index ws 4) is_new in
        omega (arith, e, good.few, items_are)
