-- A bucket that is changed: its row is stored, and the exchange tells the rest.
use Rattle.std.proofs.Common.{◌≡◌, ◌≢◌, ℕ, ◌+◌, ◌*◌, ◌^◌, ◌<◌, ◌≤◌, List, [], length, Option, Some, None, refl, sym, ap, subst, ◌∙◌}
use Rattle.std.specs.Prelude.{slice_index, slice_index_or}
use Rattle.plain_map.specs.declared.calls.Reply.{Reply}
use Rattle.plain_map.specs.declared.rules.Rules.{Rules}
use Rattle.bucket_machine.specs.HashedKeys.{IsHashed}
use Rattle.bucket_states.specs.Change.{change}
use Rattle.bucket_states.specs.declared.ops.Op.{Op}
use Rattle.bucket_states.specs.States.{BucketState, row_of_state}
use Rattle.bucket_states.specs.Values.{AreUpdates}
use Rattle.hash_bits.specs.declared.hashing.Hashing.{Hashing}
use Rattle.word_rows.specs.BucketWords.{SpellSomeBucket}
use Rattle.lasting_model.specs.Plans.{ample}
use Rattle.lasting_model.specs.Steps.{Exchange, Goes, StoreRow, Try, made}
use Rattle.lasting_model.specs.Goes.{found_so_far, reply_by}
use Rattle.lasting_calls.specs.Desks.{IsOf}
use Rattle.lasting_calls.specs.Going.{Fits, Going, IsOpen, goes, on, task}
use Rattle.lasting_calls.specs.Going.Task.{Exchange as TaskExchange}
use Rattle.lasting_calls.specs.Updates.{HasLooked, IsAtHand, IsOwn, IsStoring, at_hand, making, published, state_at, tried, tried_to, update_of}
use Rattle.lasting_calls.specs.declared.desk.Desk.{Desk}
use Rattle.lasting_calls.specs.declared.own.Own.{Own}
use Rattle.lasting_calls.specs.declared.tries.Tried.TheVariants.{Made, Seen, Lost}
use Rattle.lasting_calls.proofs.HandLemmas.{made_fits, made_says}
use Rattle.lasting_calls.proofs.PlaceLemmas.{rules_same}
use Rattle.lasting_calls.proofs.TryLemmas.{ends_so, exchange_asked, exchange_lost, exchange_won, has_it, has_it_not, has_reply}

-- the words at hand are those of a row, and the key's hash is at hand
pub hand_spells : (f : Going) (desk : Desk) (words : List ℕ) → IsAtHand f desk words →
    SpellSomeBucket desk.settings words
hand_spells f desk words h = (row_of_state None (state_at desk.settings words), (h.spelled, h.words_are))

pub own_hashed : (f : Going) (desk : Desk) (own : Own) → IsOf f desk → IsOwn f own →
    IsHashed desk.rules.hashing own.key
own_hashed f desk own is at = subst (λ (h : Hashing). IsHashed h own.key) is.hashing at.hashed

module _ (f : Going) (desk : Desk) (own : Own) (is : IsOf f desk) (at : IsOwn f own) (turn word : ℕ) (words : List ℕ)
    (hand : IsAtHand f desk words) (ops : List (Option Op)) (all : length ops ≡ desk.settings.seats)
    (updates : AreUpdates ops) (new : List ℕ)
    (new_is : new ≡ at_hand desk.settings (Some 0) (change desk.rules ops (state_at desk.settings words))) where
  abbrev one : Try
  one = tried desk.settings turn word words

  abbrev made_one : BucketState
  made_one = made (ample f.plan) one ops

  pub made_words : new ≡ at_hand desk.settings (Some 0) made_one
  made_words = new_is ∙ ap (λ (r : Rules). at_hand desk.settings (Some 0)
      (change r ops (state_at desk.settings words))) (rules_same f desk is)

  -- it is what is stored next
  abbrev pub is_stored : (a : Going) → a ≡ on f (Goes (update_of own) (StoreRow one ops 0)) → IsStoring a desk own new
  is_stored a here = record {
    attempt = one;
    found = ops;
    base = Some 0;
    stand = ap (λ (g : Going). g.now.stand) here;
    words_are = made_words ∙ ap (λ (g : Going). at_hand desk.settings (Some 0) (made (ample g.plan) one ops))
        (sym here);
  }

  pub stored_fits : slice_index new 4 ≤ desk.settings.items
  stored_fits = made_fits f desk is words hand ops all updates new made_words

  -- the exchange comes after it
  pub then_exchange : (a b : Going) → a ≡ on f (Goes (update_of own) (StoreRow one ops 0)) →
      ((s : IsStoring a desk own new) → b ≡ on a (Goes (update_of own) (Exchange s.attempt s.found))) →
      b ≡ on f (Goes (update_of own) (Exchange one ops))
  then_exchange a b here next =
      next (is_stored a here) ∙ ap (λ (g : Going). on g (Goes (update_of own) (Exchange one ops))) here

  module _ (b : Going) (here : b ≡ on f (Goes (update_of own) (Exchange one ops))) where
    pub asks_exchange : (there tag : ℕ) → there ≡ desk.buckets + own.bucket →
        tag ≡ own.generation * 2 ^ 17 + own.row →
        task b ≡ TaskExchange there word tag
    asks_exchange there tag is_there is_tag =
        exchange_asked f (update_of own) one ops b here desk own is at refl there tag is_there is_tag

    module _ (c : Going) (found : ℕ) (step : c ≡ goes b found) where
      pub change_lost : found ≢ word → c ≡ tried_to f own turn Lost
      change_lost other = exchange_lost f (update_of own) one ops b here c found step other

      module _ (same : found ≡ word) (reply : Option Reply)
          (reply_is : reply ≡ slice_index_or (state_at desk.settings new).replies desk.seat None) where
        reply_there : slice_index_or made_one.replies f.seat None ≡ reply
        reply_there =
            (λ i. slice_index_or (sym (made_says f desk is words hand ops all updates new made_words) i).replies
            (is.seat i) None) ∙ sym reply_is

        won : c ≡ making (published f own.bucket) (update_of own) (reply_by f.seat made_one)
        won = exchange_won f (update_of own) one ops b here c found step same
            ∙ ap (λ (k : ℕ). making (published f k) (update_of own) (reply_by f.seat made_one)) (sym at.bucket)

        pub change_replies : Fits b found → reply ≢ None
        change_replies fits none =
            has_reply (published f own.bucket) c (update_of own) (slice_index_or made_one.replies f.seat None) won
            (subst (λ (g : Going). IsOpen g.now.stand) (sym step) fits.open_) (reply_there ∙ none)

        pub change_made : (told : Reply) → reply ≡ Some told → c ≡ tried_to f own turn (Made told)
        change_made told is_told =
            ends_so (published f own.bucket) c (update_of own) (slice_index_or made_one.replies f.seat None) told won
            (reply_there ∙ is_told)

-- ---- a row that was looked at

module _ (f c : Going) (desk : Desk) (own : Own) (is : IsOf f desk) (turn word : ℕ) (words : List ℕ)
    (l : HasLooked f c desk own turn word words) (number : ℕ)
    (number_is : number ≡ slice_index (state_at desk.settings words).applied desk.seat) where
  abbrev this : Try
  this = tried desk.settings turn word words

  own_number : number ≡ slice_index this.state.applied f.seat
  own_number = number_is ∙ ap (λ (s : ℕ). slice_index this.state.applied s) (sym is.seat)

  -- it has the update
  module _ (has : own.number ≤ number) (reply : Option Reply)
      (reply_is : reply ≡ slice_index_or (state_at desk.settings words).replies desk.seat None) where
    there : slice_index_or this.state.replies f.seat None ≡ reply
    there = ap (λ (s : ℕ). slice_index_or this.state.replies s None) is.seat ∙ sym reply_is

    seen : c ≡ making f (update_of own) (reply_by f.seat this.state)
    seen = l.goes ∙ ap (making f (update_of own)) (has_it f (update_of own) this number own_number has)

    pub look_replies : reply ≢ None
    look_replies none =
        has_reply f c (update_of own) (slice_index_or this.state.replies f.seat None) seen l.open_ (there ∙ none)

    pub look_seen : (told : Reply) → reply ≡ Some told → c ≡ tried_to f own turn (Seen told)
    look_seen told is_told =
        ends_so f c (update_of own) (slice_index_or this.state.replies f.seat None) told seen (there ∙ is_told)

  -- or not
  pub look_goes_on : number < own.number →
      c ≡ making f (update_of own) (found_so_far (ample f.plan) f.seat (update_of own) this [])
  look_goes_on none = l.goes ∙ ap (making f (update_of own)) (has_it_not f (update_of own) this number own_number
      none)
