-- A try, from its first load to its exchange.
use Rattle.std.proofs.Common.{◌≡◌, ◌≢◌, ℕ, ◌+◌, ◌*◌, ◌^◌, ◌<◌, ◌≤◌, Bool, true, false, List, [], ◌∷◌, ◌++◌, Option, Some, None, refl, sym, ap, subst, ◌∙◌, arith}
use Rattle.std.proofs.lemmas.Bool.{cond-true, cond-false, le-leb}
use Rattle.std.proofs.lemmas.Bool.Decides.{nat_tests}
use Rattle.std.specs.Prelude.{◌==◌, nat_le, if◌then◌else◌, slice_index}
use Rattle.step_counts.specs.declared.TheConstants.{SEAT_WORDS}
use Rattle.plain_map.specs.declared.calls.Reply.{Reply}
use Rattle.word_rows.specs.ReplyWords.{reply_of_word}
use Rattle.bucket_states.specs.declared.ops.Op.{Op}
use Rattle.bucket_states.specs.States.{BucketState}
use Rattle.lasting_model.specs.Plans.{ample}
use Rattle.lasting_model.specs.Codes.{GENERATION_PLACE, count_in, generation_in, number_place, reply_place, row_in, state_in, tag}
use Rattle.lasting_model.specs.Words.{Bucket, place}
use Rattle.lasting_model.specs.Steps.{CheckRow, Exchange, Goes, HeldNumber, HeldReply, LoadRow, LoadWord, Stuck, Try, Update, bucket_of_update, made, next_generation, next_row}
use Rattle.lasting_model.specs.Goes.{Ends, Fate, On, Refuses, ends_with, found_so_far, is_applied, looked, lost, reply_by, with_published}
use Rattle.lasting_model.specs.Worlds.{seat_after}
use Rattle.lasting_calls.specs.Desks.{IsOf}
use Rattle.lasting_calls.specs.Going.{Fits, Going, IsBucketRow, IsOpen, goes, on, task, told_by, with_own}
use Rattle.lasting_calls.specs.Going.Task.{Load as TaskLoad, Exchange as TaskExchange}
use Rattle.lasting_calls.specs.Updates.{HasLoaded, HasLooked, IsOwn, making, published, state_at, update_of}
use Rattle.lasting_calls.specs.declared.desk.Desk.{Desk}
use Rattle.lasting_calls.specs.declared.own.Own.{Own}
use Rattle.lasting_calls.proofs.FindLemmas.{words_differ, words_same}
use Rattle.lasting_calls.proofs.GoesLemmas.{making_on, plain_goes}
use Rattle.lasting_calls.proofs.HandLemmas.{loaded_hand, loaded_says}
use Rattle.lasting_calls.proofs.PlaceLemmas.{bucket_at, row_at}

-- ---- its look

module _ (f : Going) (desk : Desk) (own : Own) (is : IsOf f desk) (at : IsOwn f own) (turn : ℕ)
    (stand : f.now.stand ≡ Goes (update_of own) (LoadWord turn)) where
  -- the bucket's word first
  pub word_asked : (there : ℕ) → there ≡ desk.buckets + own.bucket → task f ≡ TaskLoad there
  word_asked there is_there =
      ap task (ap (on f) stand)
      ∙ ap TaskLoad (bucket_at f desk is (bucket_of_update (ample f.plan) (update_of own))
      ∙ ap (λ (b : ℕ). desk.buckets + b) (sym at.bucket) ∙ sym is_there)

  module _ (a : Going) (word : ℕ) (one : a ≡ goes f word) where
    pub row_comes : a ≡ on f (Goes (update_of own) (LoadRow turn word []))
    row_comes = one ∙ ap (λ (g : Going). goes g word) (ap (on f) stand)

    -- then its row, whose generation comes last
    module _ (b : Going) (words : List ℕ) (l : HasLoaded a b desk own turn word words) where
      checks : b ≡ on f (Goes (update_of own) (CheckRow turn word (l.seats ++ l.most ∷ l.items)))
      checks = l.goes
          ∙ ap (λ (g : Going). on g (Goes (update_of own) (CheckRow turn word (l.seats ++ l.most ∷ l.items))))
          row_comes

      pub check_asked : (there : ℕ) → there ≡ desk.first_row + row_in word * desk.row_words → task b ≡ TaskLoad there
      check_asked there is_there =
          ap task checks ∙ ap TaskLoad (row_at f desk is (row_in word) GENERATION_PLACE ∙ omega (arith, is_there))

      module _ (c : Going) (generation : ℕ) (two : c ≡ goes b generation) (fits : Fits b generation) where
        abbrev state : BucketState
        state = state_in (ample f.plan) (bucket_of_update (ample f.plan) (update_of own))
            (l.seats ++ l.most ∷ l.items)

        abbrev one_try : Try
        one_try = record { turn = turn; word = word; state = state }

        checked : c ≡ making f (update_of own) (if generation == generation_in word
            then looked (ample f.plan) f.seat (update_of own) one_try else lost turn)
        checked =
            plain_goes f b c (update_of own) (CheckRow turn word (l.seats ++ l.most ∷ l.items)) generation checks
            refl two

        pub look_fails : generation ≢ generation_in word → c ≡ making f (update_of own) (lost turn)
        look_fails other = checked ∙ ap (making f (update_of own))
            (cond-false (generation == generation_in word) (looked (ample f.plan) f.seat (update_of own) one_try)
            (lost turn) (words_differ generation (generation_in word) other))

        -- the words are those of a bucket
        is_row : generation ≡ generation_in word → IsBucketRow (ample f.plan) own.bucket (l.seats ++ l.most ∷ l.items)
        is_row same =
            subst (λ (k : ℕ). IsBucketRow (ample f.plan) k (l.seats ++ l.most ∷ l.items)) (sym at.bucket)
            ((subst (λ (g : Going). Fits g generation) checks fits).finds same)

        abbrev again : HasLoaded f b desk own turn word words
        again = record {
          seats = l.seats;
          most = l.most;
          items = l.items;
          count = l.count;
          count_is = l.count_is ∙ ap (λ (g : Going). count_in (ample g.plan) l.most) row_comes;
          seats_long = l.seats_long;
          items_long = l.items_long;
          words_are = l.words_are;
          goes = checks;
        }

        pub look_shows : generation ≡ generation_in word → HasLooked f c desk own turn word words
        look_shows same =
            let says : state ≡ state_at desk.settings words =
            ap (λ (k : ℕ). state_in (ample f.plan) k (l.seats ++ l.most ∷ l.items)) (sym at.bucket)
            ∙ sym (loaded_says f desk is b own turn word words again (is_row same)) in
            record {
              hand = loaded_hand f desk is b own turn word words again (is_row same);
              goes = checked
                  ∙ ap (making f (update_of own))
                  (cond-true (generation == generation_in word)
                  (looked (ample f.plan) f.seat (update_of own) one_try) (lost turn)
                  (words_same generation (generation_in word) same)
                  ∙ ap (λ (s : BucketState). looked (ample f.plan) f.seat (update_of own) (record {
                    turn = turn;
                    word = word;
                    state = s;
                  })) says);
              open_ = subst (λ (g : Going). IsOpen g.now.stand) (sym two) fits.open_;
            }

-- ---- what a row says of the update

le_false : (a b : ℕ) → b < a → nat_le a b ≡ false
le_false a b h = grind (arith, nat_tests)

-- it has it, and the reply
pub has_it : (f : Going) (u : Update) (one : Try) (number : ℕ) → number ≡ slice_index one.state.applied f.seat →
    u.number ≤ number → looked (ample f.plan) f.seat u one ≡ reply_by f.seat one.state
has_it f u one number is h =
    cond-true (is_applied f.seat u one.state) (reply_by f.seat one.state) (found_so_far (ample f.plan) f.seat u one
    [])
    (le-leb u.number (slice_index one.state.applied f.seat) (omega (arith, is, h)))

-- or not
pub has_it_not : (f : Going) (u : Update) (one : Try) (number : ℕ) → number ≡ slice_index one.state.applied f.seat →
    number < u.number → looked (ample f.plan) f.seat u one ≡ found_so_far (ample f.plan) f.seat u one []
has_it_not f u one number is h =
    cond-false (is_applied f.seat u one.state) (reply_by f.seat one.state) (found_so_far
    (ample f.plan) f.seat u one [])
    (le_false u.number (slice_index one.state.applied f.seat) (omega (arith, is, h)))

-- where there is none the call has no further step
pub has_reply : (g h : Going) (u : Update) (reply : Option Reply) → h ≡ making g u (ends_with reply) →
    IsOpen h.now.stand → reply ≢ None
has_reply g h u reply at open_ none =
    subst (λ (o : Option Reply). IsOpen (making g u (ends_with o)).now.stand) none
    (subst (λ (k : Going). IsOpen k.now.stand) at open_)

pub ends_so : (g h : Going) (u : Update) (reply : Option Reply) (one : Reply) → h ≡ making g u (ends_with reply) →
    reply ≡ Some one → h ≡ making g u (Ends one)
ends_so g h u reply one at is = at ∙ ap (λ (o : Option Reply). making g u (ends_with o)) is

-- ---- its exchange

module _ (f : Going) (u : Update) (one : Try) (found : List (Option Op)) (now : Going)
    (at : now ≡ on f (Goes u (Exchange one found))) where
  pub exchange_asked : (desk : Desk) (own : Own) → IsOf f desk → IsOwn f own → u ≡ update_of own → (there new : ℕ) →
      there ≡ desk.buckets + own.bucket → new ≡ own.generation * 2 ^ 17 + own.row →
      task now ≡ TaskExchange there one.word new
  exchange_asked desk own is here u_is there new is_there new_is =
      let bucket : bucket_of_update (ample f.plan) u ≡ own.bucket =
      ap (bucket_of_update (ample f.plan)) u_is ∙ sym here.bucket in
      let to : place f.plan (Bucket (bucket_of_update (ample f.plan) u)) ≡ there =
      bucket_at f desk is (bucket_of_update (ample f.plan) u) ∙ ap (λ (b : ℕ). desk.buckets + b) bucket
      ∙ sym is_there in
      let tagged : tag (next_generation f.now) (next_row f.now) ≡ new =
      (λ i. tag (sym here.generation i) (sym here.row i)) ∙ sym new_is in
      ap task at ∙ (λ i. TaskExchange (to i) one.word (tagged i))

  module _ (next : Going) (word : ℕ) (step : next ≡ goes now word) where
    -- as it goes, by whether it happened
    abbrev by : Bool → Going
    by happened =
        let fate_of : Fate = if happened then reply_by f.seat (made (ample f.plan) one found) else lost one.turn in
        with_own (on f (Goes u (Exchange one found)))
        (seat_after (if happened then with_published (on f (Goes u (Exchange one found))).now
        (bucket_of_update (ample f.plan) u) else (on f (Goes u (Exchange one found))).now) u fate_of)
        (told_by fate_of f.told)

    pub exchange_lost : word ≢ one.word → next ≡ making f u (lost one.turn)
    exchange_lost other = step ∙ ap (λ (g : Going). goes g word) at
        ∙ ap by (words_differ word one.word other) ∙ making_on f u (Exchange one found) (lost one.turn)

    put : (next : Fate) → with_own (on f (Goes u (Exchange one found)))
        (seat_after (with_published (on f (Goes u (Exchange one found))).now (bucket_of_update
        (ample f.plan) u)) u next)
        (told_by next f.told) ≡ making (published f (bucket_of_update (ample f.plan) u)) u next
    put (On other) = refl
    put (Ends reply) = refl
    put Refuses = refl

    pub exchange_won : word ≡ one.word → next
        ≡ making (published f (bucket_of_update (ample f.plan) u)) u (reply_by f.seat (made (ample f.plan) one found))
    exchange_won same = step ∙ ap (λ (g : Going). goes g word) at
        ∙ ap by (words_same word one.word same) ∙ put (reply_by f.seat (made (ample f.plan) one found))

-- ---- its held look

module _ (f : Going) (desk : Desk) (is : IsOf f desk) (u : Update) (row : ℕ) (first : ℕ)
    (first_is : first ≡ desk.first_row + row * desk.row_words) where
  -- the own number is the first word
  pub number_asked : f.now.stand ≡ Goes u (HeldNumber row) → (there : ℕ) →
      there ≡ first + 1 + SEAT_WORDS * desk.seat → task f ≡ TaskLoad there
  number_asked stand there is_there =
      ap task (ap (on f) stand)
      ∙ ap TaskLoad (row_at f desk is row (number_place f.seat) ∙ omega (arith, is_there, first_is, is.seat))

  -- it is that of the update, since the call goes on
  pub number_seen : f.now.stand ≡ Goes u (HeldNumber row) → (next : Going) (word : ℕ) → next ≡ goes f word →
      Fits f word → next ≡ on f (Goes u (HeldReply row))
  number_seen stand next word step fits =
      let at : f ≡ on f (Goes u (HeldNumber row)) = ap (on f) stand in
      let so : next ≡ on f (Goes u (if word == u.number then HeldReply row else Stuck)) =
      plain_goes f f next u (HeldNumber row) word at refl step in
      so ∙ ap (λ (b : Bool). on f (Goes u (if b then HeldReply row else Stuck)))
      (by (word == u.number) (subst (λ (g : Going). IsOpen g.now.stand) (sym step ∙ so) fits.open_))
    where
      by : (b : Bool) → IsOpen (Goes u (if b then HeldReply row else Stuck)) → b ≡ true
      by true o = refl
      by false o = absurd o

  pub reply_asked : (now : Going) → now ≡ on f (Goes u (HeldReply row)) → (there : ℕ) →
      there ≡ first + 1 + SEAT_WORDS * desk.seat + 1 → task now ≡ TaskLoad there
  reply_asked now at there is_there =
      ap task at
      ∙ ap TaskLoad (row_at f desk is row (reply_place f.seat) ∙ omega (arith, is_there, first_is, is.seat))

  pub reply_seen : (now next : Going) (word : ℕ) → now ≡ on f (Goes u (HeldReply row)) → next ≡ goes now word →
      next ≡ making f u (ends_with (reply_of_word word))
  reply_seen now next word at step = plain_goes f now next u (HeldReply row) word at refl step

  -- both, one after the other
  module _ (stand : f.now.stand ≡ Goes u (HeldNumber row)) (a : Going) (number : ℕ) (one : a ≡ goes f number)
      (fits : Fits f number) (b : Going) (word : ℕ) (two : b ≡ goes a word) (reply : Option Reply)
      (reply_is : reply ≡ reply_of_word word) where
    ends : b ≡ making f u (ends_with reply)
    ends =
        reply_seen a b word (number_seen stand a number one fits) two
        ∙ ap (λ (o : Option Reply). making f u (ends_with o)) (sym reply_is)

    pub held_stuck : Fits a word → reply ≢ None
    held_stuck goes_on = has_reply f b u reply ends (subst (λ (g : Going). IsOpen g.now.stand)
        (sym two) goes_on.open_)

    pub held_reply : (told : Reply) → reply ≡ Some told → b ≡ making f u (Ends told)
    held_reply told is_told = ends_so f b u reply told ends is_told
