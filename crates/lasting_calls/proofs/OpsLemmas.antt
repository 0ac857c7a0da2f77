-- The ops of all seats, found one after the other.
use Rattle.std.proofs.Common.{◌≡◌, ◌≢◌, ℕ, ◌+◌, ◌*◌, ◌<◌, ◌≤◌, zero, suc, true, false, List, [], ◌∷◌, ◌++◌, length, take, set, Option, Some, None, inl, inr, refl, sym, ap, subst, ◌∙◌, arith}
use Rattle.std.proofs.lemmas.Bool.{cond-true, cond-false, lt-ltb}
use Rattle.std.proofs.lemmas.Bool.{cases_lt}
use Rattle.std.proofs.lemmas.List.{get_or-drop, length-append, length-take-le, take_all}
use Rattle.std.proofs.lemmas.List.Elements.{All-append, All-cons, All-get_or, All-nil}
use Rattle.std.proofs.lemmas.List.FromFn.{get_or-map-range_with_len}
use Rattle.std.specs.Prelude.{nat_lt, ◌==◌, if◌then◌else◌, slice_index, slice_index_or, All, IfSome}
use Rattle.step_counts.specs.declared.TheConstants.{ITEM_WORDS}
use Rattle.step_counts.specs.declared.settings.Settings.{Settings}
use Rattle.word_rows.specs.ReplyWords.{reply_of_word}
use Rattle.word_rows.specs.BucketWords.{bucket_of_words, seat_part}
use Rattle.bucket_states.proofs.AnswerLemmas.{lt_false}
use Rattle.bucket_states.specs.declared.ops.Op.{Op}
use Rattle.plain_map.specs.Updates.{number_limit}
use Rattle.bucket_states.specs.Values.{AreUpdates, IsUpdate}
use Rattle.table_model.specs.Goes.{more}
use Rattle.table_model.specs.Setup.{seats_of}
use Rattle.lasting_model.specs.Plans.{ample}
use Rattle.lasting_model.specs.Codes.{SLOT_WORDS}
use Rattle.lasting_model.specs.Words.{OpWord, place}
use Rattle.lasting_model.specs.Steps.{Goes, LoadAnnounced, LoadOp, StoreRow, Try, Update, bucket_of_update, is_due}
use Rattle.lasting_model.specs.Goes.{On, found_so_far, op_in, ops_or_row, own_op}
use Rattle.lasting_calls.specs.Desks.{IsOf}
use Rattle.lasting_calls.specs.Going.{Going, Reads, goes, goes_by, on, task}
use Rattle.lasting_calls.specs.Going.Task.{Load}
use Rattle.lasting_calls.specs.Updates.{HasFound, IsSmallOp, making, update_of}
use Rattle.lasting_calls.specs.declared.desk.Desk.{Desk}
use Rattle.lasting_calls.specs.declared.own.Own.{Own}
use Rattle.lasting_calls.proofs.FindLemmas.{words_differ, words_same}
use Rattle.lasting_calls.proofs.GoesLemmas.{making_on, plain_goes}
use Rattle.lasting_calls.proofs.PlaceLemmas.{ample_seats_are, op_at}
use Rattle.lasting_calls.proofs.RunLemmas.{Leads, leads_goes, leads_reads, length-more, take_more}

-- ---- a seat's words in a row at hand

-- the number of its last update
pub applied_at : (settings : Settings) (words : List ℕ) (seat at : ℕ) → seat < settings.seats →
    at ≡ 5 + ITEM_WORDS * settings.items + seat * 2 →
    slice_index (bucket_of_words settings words).applied seat ≡ slice_index words at
applied_at settings words seat at h is =
    get_or-map-range_with_len (λ (s : ℕ). slice_index (seat_part settings words) (s * 2)) 0 settings.seats seat seat
    0 h (omega arith)
    ∙ get_or-drop (5 + ITEM_WORDS * settings.items) words (seat * 2) 0
    ∙ (let there : 5 + ITEM_WORDS * settings.items + seat * 2 ≡ at = omega (arith, is) in
    ap (λ (k : ℕ). slice_index words k) there)

-- and the reply
pub reply_at : (settings : Settings) (words : List ℕ) (seat at : ℕ) → seat < settings.seats →
    at ≡ 5 + ITEM_WORDS * settings.items + seat * 2 + 1 →
    slice_index_or (bucket_of_words settings words).replies seat None ≡ reply_of_word (slice_index words at)
reply_at settings words seat at h is =
    get_or-map-range_with_len (λ (s : ℕ). reply_of_word (slice_index (seat_part settings words) (s * 2 + 1))) 0
    settings.seats seat seat None h (omega arith)
    ∙ ap reply_of_word (get_or-drop (5 + ITEM_WORDS * settings.items) words (seat * 2 + 1) 0)
    ∙ (let there : 5 + ITEM_WORDS * settings.items + (seat * 2 + 1) ≡ at = omega (arith, is) in
    ap (λ (k : ℕ). reply_of_word (slice_index words k)) there)

-- ---- one op

module _ (f : Going) (u : Update) (attempt : Try) (found : List (Option Op)) (announced : ℕ) where
  -- so many words of it are loaded
  abbrev pub op_words : List ℕ → Going
  op_words ws = making f u (if nat_lt (length ws) SLOT_WORDS then On (LoadOp attempt found announced ws)
      else found_so_far (ample f.plan) f.seat u attempt (more found (Some (op_in (length found) announced ws))))

  few : (ws : List ℕ) → length ws < SLOT_WORDS → op_words ws ≡ on f (Goes u (LoadOp attempt found announced ws))
  few ws h = ap (making f u) (cond-true (nat_lt (length ws) SLOT_WORDS) (On (LoadOp attempt found announced ws))
      (found_so_far (ample f.plan) f.seat u attempt (more found (Some (op_in (length found) announced ws))))
      (lt-ltb (length ws) SLOT_WORDS h))

  op_lead : (start : ℕ) → start ≡ place f.plan (OpWord (length found) 0) → Leads op_words [] start SLOT_WORDS
  op_lead start at = record {
    asked = λ ws h. ap task (few ws h)
        ∙ (let e : place f.plan (OpWord (length found) (length ws)) ≡ start + length ws = omega
        (arith, at) in ap Load e);
    next = λ ws w h.
        let vs : List ℕ = ws ++ w ∷ [] in
        plain_goes f (op_words ws) (goes (op_words ws) w) u (LoadOp attempt found announced ws) w (few ws h) refl refl
        ∙ ap (λ (n : ℕ). making f u (if nat_lt n SLOT_WORDS then On (LoadOp attempt found announced vs)
        else found_so_far (ample f.plan) f.seat u attempt (more found (Some (op_in (length found) announced vs)))))
        (sym (length-more ws w));
  }

  module _ (stand : f.now.stand ≡ Goes u (LoadOp attempt found announced [])) (desk : Desk) (is : IsOf f desk)
      (start : ℕ) (start_is : start ≡ desk.ops + SLOT_WORDS * length found) where
    starts : f ≡ op_words []
    starts = ap (on f) stand ∙ sym (few [] (omega arith))

    at : start ≡ place f.plan (OpWord (length found) 0)
    at = omega (arith, start_is, op_at f desk is (length found) 0)

    pub op_reads : (n : ℕ) → n ≡ SLOT_WORDS → Reads f start n
    op_reads n is_long =
        subst (λ (k : ℕ). Reads f start k) (sym is_long) (leads_reads op_words [] start SLOT_WORDS
        (op_lead start at) f starts)

    pub op_loaded : (now : Going) (ws : List ℕ) → length ws ≡ SLOT_WORDS → now ≡ goes_by f ws →
        now ≡ making f u (found_so_far (ample f.plan) f.seat u attempt
        (more found (Some (op_in (length found) announced ws))))
    op_loaded now ws long goes_is =
        leads_goes op_words [] start SLOT_WORDS (op_lead start at) f now ws starts long goes_is
        ∙ ap (making f u) (cond-false (nat_lt (length ws) SLOT_WORDS) (On (LoadOp attempt found announced ws))
        (found_so_far (ample f.plan) f.seat u attempt (more found (Some (op_in (length found) announced ws))))
        (lt_false (length ws) SLOT_WORDS (omega (arith, long))))

-- ---- what the next seat announces

module _ (f : Going) (u : Update) (attempt : Try) (found : List (Option Op))
    (stand : f.now.stand ≡ Goes u (LoadAnnounced attempt found)) where
  here : f ≡ on f (Goes u (LoadAnnounced attempt found))
  here = ap (on f) stand

  pub announced_asked : (there : ℕ) → there ≡ length found → task f ≡ Load there
  announced_asked there is = ap task here ∙ ap Load (sym is)

  module _ (next : Going) (word : ℕ) (step : next ≡ goes f word) where
    told : next ≡ making f u (if is_due (bucket_of_update (ample f.plan) u) attempt.state (length found) word
        then On (LoadOp attempt found word [])
        else found_so_far (ample f.plan) f.seat u attempt (more found None))
    told = plain_goes f f next u (LoadAnnounced attempt found) word here refl step

    -- it is due here
    pub one_due : is_due (bucket_of_update (ample f.plan) u) attempt.state (length found) word ≡ true →
        next ≡ on f (Goes u (LoadOp attempt found word []))
    one_due due = told ∙ ap (making f u)
        (cond-true (is_due (bucket_of_update (ample f.plan) u) attempt.state (length found) word)
        (On (LoadOp attempt found word [])) (found_so_far (ample f.plan) f.seat u attempt (more found None)) due)

    -- or nothing is
    pub none_due : is_due (bucket_of_update (ample f.plan) u) attempt.state (length found) word ≡ false →
        next ≡ making f u (found_so_far (ample f.plan) f.seat u attempt (more found None))
    none_due due = told ∙ ap (making f u)
        (cond-false (is_due (bucket_of_update (ample f.plan) u) attempt.state (length found) word)
        (On (LoadOp attempt found word [])) (found_so_far (ample f.plan) f.seat u attempt (more found None)) due)

    -- after its op, seen from before
    pub due_loaded : (end : Going) (ops : List (Option Op)) →
        next ≡ on f (Goes u (LoadOp attempt found word [])) →
        end ≡ making next u (found_so_far (ample next.plan) next.seat u attempt ops) →
        end ≡ making f u (found_so_far (ample f.plan) f.seat u attempt ops)
    due_loaded end ops at is =
        is ∙ ap (λ (g : Going). making g u (found_so_far (ample g.plan) g.seat u attempt ops)) at
        ∙ making_on f u (LoadOp attempt found word []) (found_so_far (ample f.plan) f.seat u attempt ops)

-- ---- all ops

module _ (f : Going) (u : Update) (attempt : Try) (found : List (Option Op)) where
  -- a seat that is not the own one is next
  pub other_next : (n : ℕ) → seats_of (ample f.plan) ≡ n → length found < n → length found ≢ f.seat →
      found_so_far (ample f.plan) f.seat u attempt found ≡ On (LoadAnnounced attempt found)
  other_next n is h other =
      ap (ops_or_row (ample f.plan) attempt)
      (cond-false (length found == f.seat) (more found (Some (own_op f.seat u))) found
      (words_differ (length found) f.seat other))
      ∙ ap On (cond-true (nat_lt (length found) (seats_of (ample f.plan))) (LoadAnnounced attempt found)
      (StoreRow attempt found 0) (lt-ltb (length found) (seats_of (ample f.plan)) (omega (arith, h, is))))

  -- the own op is known
  pub own_next : length found ≡ f.seat →
      found_so_far (ample f.plan) f.seat u attempt found
      ≡ found_so_far (ample f.plan) f.seat u attempt (more found (Some (own_op f.seat u)))
  own_next same =
      let with_it : List (Option Op) = more found (Some (own_op f.seat u)) in
      ap (ops_or_row (ample f.plan) attempt)
      (cond-true (length found == f.seat) with_it found (words_same (length found) f.seat same)
      ∙ sym (cond-false (length with_it == f.seat) (more with_it (Some (own_op f.seat u))) with_it
      (words_differ (length with_it) f.seat
      (λ e. absurd (omega (arith, e, same, length-append found (Some (own_op f.seat u) ∷ [])))))))

  -- all are found
  pub all_found : (n : ℕ) → seats_of (ample f.plan) ≡ n → length found ≡ n → f.seat < n →
      found_so_far (ample f.plan) f.seat u attempt found ≡ On (StoreRow attempt found 0)
  all_found n is all within =
      ap (ops_or_row (ample f.plan) attempt)
      (cond-false (length found == f.seat) (more found (Some (own_op f.seat u))) found
      (words_differ (length found) f.seat (λ e. absurd (omega (arith, e, all, within)))))
      ∙ ap On (cond-false (nat_lt (length found) (seats_of (ample f.plan))) (LoadAnnounced attempt found)
      (StoreRow attempt found 0) (lt_false (length found) (seats_of (ample f.plan)) (omega (arith, all, is))))

-- no op stands past the end
past_end : (ops : List (Option Op)) (i : ℕ) → length ops ≤ i → slice_index_or ops i None ≡ None
past_end [] i h = refl
past_end (op ∷ ops) zero h = absurd (omega (arith, h))
past_end (op ∷ ops) (suc i) h = past_end ops i (omega (arith, h))

-- ops that are small each are updates
pub are_updates : (ops : List (Option Op)) → All (λ op. IfSome op IsSmallOp) ops → AreUpdates ops
are_updates ops each seat op announced =
    let small : IfSome (slice_index_or ops seat None) IsSmallOp = elim (cases_lt seat (length ops)) [
      | inl inside ↦ All-get_or (λ (o : Option Op). IfSome o IsSmallOp) ops seat None inside each
      | inr past ↦ subst (λ (o : Option Op). IfSome o IsSmallOp) (sym (past_end ops seat past)) tt
    ] in
    let one : IsSmallOp op = subst (λ (o : Option Op). IfSome o IsSmallOp) announced small in
    (one.update, one.number)

module _ (f : Going) (own : Own) (attempt : Try) (desk : Desk) (is : IsOf f desk) where
  -- one more op
  kept : (now : Going) (ops : List (Option Op)) (i : ℕ) (op : Option Op) → i < length ops →
      now ≡ making f (update_of own) (found_so_far (ample f.plan) f.seat (update_of own) attempt (more
      (take i ops) op)) →
      All (λ op. IfSome op IsSmallOp) (take i ops) → IfSome op IsSmallOp →
      HasFound f now own attempt (take (i + 1) (set ops i op))
  kept now ops i op inside goes small one =
      let next = take_more ops i (i + 1) op (omega arith) inside in
      record {
        goes = goes ∙ ap (λ (xs : List (Option Op)). making f (update_of own)
            (found_so_far (ample f.plan) f.seat (update_of own) attempt xs)) (sym next);
        small = subst (All (λ (o : Option Op). IfSome o IsSmallOp)) (sym next)
            (All-append (λ (o : Option Op). IfSome o IsSmallOp) (take i ops) (op ∷ []) small
            (All-cons (λ (o : Option Op). IfSome o IsSmallOp) op [] one (All-nil (λ (o : Option Op). IfSome o
            IsSmallOp))));
      }

  -- the own one
  pub own_kept : (now : Going) (ops : List (Option Op)) (i : ℕ) → HasFound f now own attempt (take i ops) →
      i < length ops → i ≡ desk.seat → IsUpdate own.call → own.number < number_limit →
      HasFound f now own attempt
      (take (i + 1) (set ops i (Some record { seat = desk.seat; number = own.number; call = own.call })))
  own_kept now ops i v inside here update small =
      let op : Op = record { seat = desk.seat; number = own.number; call = own.call } in
      kept now ops i (Some op) inside
      (v.goes
      ∙ ap (making f (update_of own)) (own_next f (update_of own) attempt (take i ops)
      (length-take-le i ops (omega (arith, inside)) ∙ here ∙ sym is.seat))
      ∙ (λ j. making f (update_of own) (found_so_far (ample f.plan) f.seat (update_of own) attempt (more (take i ops)
      (Some record { seat = is.seat j; number = own.number; call = own.call })))))
      v.small (record { update = update; number = small })

  -- the seat of another one is next
  pub other_stands : (now : Going) (ops : List (Option Op)) (i : ℕ) → HasFound f now own attempt (take i ops) →
      i < length ops → length ops ≡ desk.settings.seats → i ≢ desk.seat →
      now ≡ on f (Goes (update_of own) (LoadAnnounced attempt (take i ops)))
  other_stands now ops i v inside all other =
      let long = length-take-le i ops (omega (arith, inside)) in
      v.goes
      ∙ ap (making f (update_of own)) (other_next f (update_of own) attempt (take i ops) desk.settings.seats
      (ample_seats_are f desk is) (omega (arith, long, inside, all))
      (λ e. other (omega (arith, e, long, is.seat))))

  -- it is found
  pub other_kept : (now next : Going) (ops : List (Option Op)) (i : ℕ) (op : Option Op) →
      HasFound f now own attempt (take i ops) → i < length ops →
      now ≡ on f (Goes (update_of own) (LoadAnnounced attempt (take i ops))) →
      next ≡ making now (update_of own)
      (found_so_far (ample now.plan) now.seat (update_of own) attempt (more (take i ops) op)) →
      IfSome op IsSmallOp → HasFound f next own attempt (take (i + 1) (set ops i op))
  other_kept now next ops i op v inside at goes one =
      kept next ops i op inside
      (goes ∙ ap (λ (g : Going). making g (update_of own)
      (found_so_far (ample g.plan) g.seat (update_of own) attempt (more (take i ops) op))) at
      ∙ making_on f (update_of own) (LoadAnnounced attempt (take i ops))
      (found_so_far (ample f.plan) f.seat (update_of own) attempt (more (take i ops) op))) v.small one

  -- all are
  pub all_kept : (now : Going) (ops : List (Option Op)) (i : ℕ) → HasFound f now own attempt (take i ops) →
      length ops ≤ i → length ops ≡ desk.settings.seats →
      (now ≡ on f (Goes (update_of own) (StoreRow attempt ops 0))) × AreUpdates ops
  all_kept now ops i v past all =
      let whole = take_all i ops past in (
        v.goes
            ∙ ap (λ (xs : List (Option Op)). making f (update_of own)
            (found_so_far (ample f.plan) f.seat (update_of own) attempt xs)) whole
            ∙ ap (making f (update_of own)) (all_found f (update_of own) attempt ops desk.settings.seats
            (ample_seats_are f desk is) all (omega (arith, is.seat, desk.within))),
        are_updates ops (subst (All (λ (o : Option Op). IfSome o IsSmallOp)) whole v.small),
      )
