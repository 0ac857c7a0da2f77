-- The items of a bucket answer as the plain object does.
use Rattle.std.proofs.Common.{◌≡◌, ◌≢◌, ℕ, ◌+◌, ◌<◌, ◌≤◌, Bool, true, false, List, [], ◌∷◌, ◌++◌, length, Option, Some, None, refl, sym, ap, ◌∙◌, length-append, arith, subst}
use Rattle.std.specs.Prelude.{nat_lt, not, ◌&&◌, is_some}
use Rattle.std.specs.Option.{option_map_or}
use Rattle.std.specs.FinMap as finite
use Rattle.std.specs.FinMap.{get}
use Rattle.std.proofs.lemmas.Bool.{ltb-true}
use Rattle.plain_map.specs.declared.keys.Key.{Key}
use Rattle.plain_map.specs.declared.keys.Pair.{Pair}
use Rattle.plain_map.specs.declared.rules.Rules.{Rules}
use Rattle.plain_map.specs.declared.calls.Call.TheVariants.{Insert, Remove, Lookup, Tally, Count, Put}
use Rattle.plain_map.specs.declared.calls.Reply.TheVariants.{Absent}
use Rattle.plain_map.specs.Keys.{Session, pair_of}
use Rattle.plain_map.specs.PlainObject.{Sessions, counted_session, new_session, brought, count_reply, found_in, gone_from, grown, has_room, insert_reply, inserted, reply_of, revalued, revised, map_after, sum_of, tallied}
use Rattle.std.specs.List.{IsDistinct}
use Rattle.bucket_states.proofs.AnswerLemmas.{changed-absent}
use Rattle.bucket_states.specs.Items.{prefix_of, same_key, changed_in, tallied_in, value_at, without, has_place, is_too_many, appended, items_with, revised_in, reply_in, items_after, overflows}
use Rattle.bucket_states.specs.Parts.{HoldsPart, CanAnswer, AnswersAlike, LocalAnswers, OtherPartsStay}
use Rattle.bucket_states.proofs.ItemLemmas.{value_at-push, value_at-without, HasDistinctKeys-push, HasDistinctKeys-without, keys_of-changed, length-changed, length-without, value_at-changed}
use Rattle.bucket_states.proofs.PartLemmas.{changed, elsewhere, room_alike, get-inserted, get-removed}

-- the items stay those of the map's part, after a session has come to a key of the prefix
pub record BringsAlike (rules : Rules) (prefix depth : ℕ) (items : List Pair) (sessions : Sessions) (key : Key)
    (new : Session) : Type 0 where
  pub part : HoldsPart rules prefix depth (items_with rules items (pair_of (key, new)))
      (brought rules sessions key new)
  pub few : length (items_with rules items (pair_of (key, new))) ≤ rules.items

module _ (rules : Rules) (prefix depth : ℕ) (items : List Pair) (sessions : Sessions)
    (part : HoldsPart rules prefix depth items sessions) (key : Key) where
  -- parts that are equal to a part
  moved : (left left' : List Pair) (after after' : Sessions) → left' ≡ left → after' ≡ after →
      HoldsPart rules prefix depth left after → HoldsPart rules prefix depth left' after'
  moved left left' after after' as_items as_sessions holds = rw (as_items, as_sessions) holds

  module _ (new : Session) where
    abbrev pair : Pair
    pair = pair_of (key, new)

    items_are : (o : Option Session) (b : Bool) → value_at key items ≡ o → has_place rules items ≡ b →
        items_with rules items pair ≡ appended items pair o b
    items_are o b is place = ap (λ o. appended items pair o (has_place rules items)) is
        ∙ ap (appended items pair o) place

    sessions_are : (o : Option Session) (b : Bool) → get sessions key ≡ o → has_room rules sessions key ≡ b →
        brought rules sessions key new ≡ inserted sessions key new o b
    sessions_are o b is room = ap (λ o. inserted sessions key new o (has_room rules sessions key)) is
        ∙ ap (inserted sessions key new o) room

  fits_more : (o : Option Session) → o ≡ None →
      (not (is_some o) && (not (has_place rules items) && nat_lt depth rules.depth)) ≡ false →
      (not (has_place rules items) && nat_lt depth rules.depth) ≡ false
  fits_more (Some held) none fits = cc
  fits_more None none fits = fits

  module _ (can : CanAnswer rules depth items) (here : prefix_of rules depth key ≡ prefix) where
    -- a session that comes to a held key
    brings_held : (new held : Session) → value_at key items ≡ Some held →
        BringsAlike rules prefix depth items sessions key new
    brings_held new held is =
        let kept : get sessions key ≡ Some held = sym (part.same key here) ∙ is in
        let same_items = items_are new (Some held) (has_place rules items) is refl in
        record {
          part = moved items _ sessions _ same_items
              (sessions_are new (Some held) (has_room rules sessions key) kept refl) part;
          few = rw same_items can.few;
        }

    -- to a new one, where there is a place
    brings_new : (new : Session) → value_at key items ≡ None → has_place rules items ≡ true →
        has_room rules sessions key ≡ true → BringsAlike rules prefix depth items sessions key new
    brings_new new none place room =
        let one : Pair = pair_of (key, new) in
        let kept : get sessions key ≡ None = sym (part.same key here) ∙ none in
        let same_items = items_are new None true none place in
        let few : length items < rules.items = ltb-true _ _ place in
        let longer : length (items ++ one ∷ []) ≡ length items + length (one ∷ []) = length-append items (one ∷ []) in
        record {
          part = moved (items ++ one ∷ []) _ (finite.insert sessions key new) _ same_items
              (sessions_are new None true kept room)
              (changed rules prefix depth items sessions part key here (Some new) (items ++ one ∷ [])
              (finite.insert sessions key new) (HasDistinctKeys-push items one part.distinct none)
              (λ q. value_at-push items one q none) (get-inserted sessions key new));
          few = rw (same_items, longer) (omega arith);
        }

    -- and where there is none
    brings_full : (new : Session) → value_at key items ≡ None → has_place rules items ≡ false →
        has_room rules sessions key ≡ false → BringsAlike rules prefix depth items sessions key new
    brings_full new none place room =
        let kept : get sessions key ≡ None = sym (part.same key here) ∙ none in
        let same_items = items_are new None false none place in
        record {
          part = moved items _ sessions _ same_items (sessions_are new None false kept room) part;
          few = rw same_items can.few;
        }

    -- the bucket has a place for a new key where the map has room
    alike_room : is_too_many rules depth items key ≡ false → value_at key items ≡ None →
        has_place rules items ≡ has_room rules sessions key
    alike_room fits none =
        room_alike rules prefix depth items sessions part key can here none
        (fits_more (value_at key items) none fits)

    -- a session that comes to any key
    brings : (new : Session) → is_too_many rules depth items key ≡ false →
        BringsAlike rules prefix depth items sessions key new
    brings new fits = by_value (value_at key items) refl
      where
        by_place : value_at key items ≡ None → (b : Bool) → has_place rules items ≡ b →
            has_place rules items ≡ has_room rules sessions key →
            BringsAlike rules prefix depth items sessions key new
        by_place none true place alike = brings_new new none place (sym alike ∙ place)
        by_place none false place alike = brings_full new none place (sym alike ∙ place)

        by_value : (o : Option Session) → value_at key items ≡ o →
            BringsAlike rules prefix depth items sessions key new
        by_value (Some held) is = brings_held new held is
        by_value None none = by_place none (has_place rules items) refl (alike_room fits none)

    -- an insert's reply
    insert_reply_alike : (o : Option Session) → (o ≡ None → has_place rules items ≡ has_room rules sessions key) →
        insert_reply o (has_place rules items) ≡ insert_reply o (has_room rules sessions key)
    insert_reply_alike (Some held) alike = refl
    insert_reply_alike None alike = ap (insert_reply None) (alike refl)

    insert_alike : (value : ℕ) → overflows rules depth items (Insert key value) ≡ false →
        AnswersAlike rules prefix depth items sessions (Insert key value)
    unfolding reply_in items_after reply_of map_after overflows
    insert_alike value fits =
        let both = brings (new_session value) fits in
        record {
          reply = insert_reply_alike (value_at key items) (alike_room fits)
              ∙ ap (λ o. insert_reply o (has_room rules sessions key)) (part.same key here);
          part = both.part;
          few = both.few;
        }

    remove_alike : AnswersAlike rules prefix depth items sessions (Remove key)
    unfolding reply_in items_after reply_of map_after
    remove_alike = record {
      reply = ap (λ o. option_map_or gone_from o Absent) (part.same key here);
      part = changed rules prefix depth items sessions part key here None (without key items)
          (finite.remove sessions key) (HasDistinctKeys-without key items part.distinct)
          (λ q. value_at-without key items q part.distinct) (get-removed sessions key);
      few = (let shorter = length-without key items in let few = can.few in omega arith);
    }

    lookup_alike : AnswersAlike rules prefix depth items sessions (Lookup key)
    unfolding reply_in items_after reply_of map_after
    lookup_alike = record {
      reply = ap (λ o. option_map_or found_in o Absent) (part.same key here);
      part = part;
      few = can.few;
    }

    tally_held : (amount : ℕ) (held : Session) → value_at key items ≡ Some held →
        AnswersAlike rules prefix depth items sessions (Tally key amount)
    unfolding reply_in items_after reply_of map_after
    tally_held amount held is =
        let kept : get sessions key ≡ Some held = sym (part.same key here) ∙ is in
        record {
          reply = ap (λ o. option_map_or (sum_of amount) o Absent) (part.same key here);
          part = moved (tallied_in key amount items) _ (finite.insert sessions key (grown held amount)) _ refl
              (ap (tallied sessions key amount) kept)
              (changed rules prefix depth items sessions part key here (Some (grown held amount))
              (tallied_in key amount items) (finite.insert sessions key (grown held amount))
              (subst (IsDistinct same_key) (sym (keys_of-changed key (λ held. grown held amount) items)) part.distinct)
              (λ q. value_at-changed key (λ held. grown held amount) items held q is)
              (get-inserted sessions key (grown held amount)));
          few = rw (length-changed key (λ held. grown held amount) items) can.few;
        }

    tally_absent : (amount : ℕ) → value_at key items ≡ None →
        AnswersAlike rules prefix depth items sessions (Tally key amount)
    unfolding reply_in items_after reply_of map_after
    tally_absent amount none =
        let kept : get sessions key ≡ None = sym (part.same key here) ∙ none in
        record {
          reply = ap (λ o. option_map_or (sum_of amount) o Absent) (part.same key here);
          part = moved items _ sessions _ (changed-absent key (λ held. grown held amount) items none)
              (ap (tallied sessions key amount) kept) part;
          few = rw (length-changed key (λ held. grown held amount) items) can.few;
        }

    tally_alike : (amount : ℕ) → AnswersAlike rules prefix depth items sessions (Tally key amount)
    tally_alike amount = by_value (value_at key items) refl
      where
        by_value : (o : Option Session) → value_at key items ≡ o →
            AnswersAlike rules prefix depth items sessions (Tally key amount)
        by_value (Some held) is = tally_held amount held is
        by_value None none = tally_absent amount none

    -- the same of a call that changes what is held at the key, or brings a new session to it
    abbrev revised_items : (new : Session) (change : Session → Session) → List Pair
    revised_items new change = revised_in items key new change (value_at key items) (has_place rules items)

    abbrev revised_sessions : (new : Session) (change : Session → Session) → Sessions
    revised_sessions new change = revised sessions key new change (get sessions key) (has_room rules sessions key)

    record RevisesAlike (new : Session) (change : Session → Session) : Type 0 where
      holds : HoldsPart rules prefix depth (revised_items new change) (revised_sessions new change)
      few : length (revised_items new change) ≤ rules.items

    revises_held : (new : Session) (change : Session → Session) (held : Session) → value_at key items ≡ Some held →
        RevisesAlike new change
    revises_held new change held is =
        let kept : get sessions key ≡ Some held = sym (part.same key here) ∙ is in
        let now_items : revised_items new change ≡ changed_in key change items =
        ap (λ o. revised_in items key new change o (has_place rules items)) is in
        let now_sessions : revised_sessions new change ≡ finite.insert sessions key (change held) =
        ap (λ o. revised sessions key new change o (has_room rules sessions key)) kept in
        record {
          holds = moved (changed_in key change items) _ (finite.insert sessions key (change held)) _ now_items
              now_sessions
              (changed rules prefix depth items sessions part key here (Some (change held))
              (changed_in key change items) (finite.insert sessions key (change held))
              (subst (IsDistinct same_key) (sym (keys_of-changed key change items)) part.distinct)
              (λ q. value_at-changed key change items held q is) (get-inserted sessions key (change held)));
          few = rw (now_items, length-changed key change items) can.few;
        }

    same_items_come : (new : Session) (change : Session → Session) (b : Bool) →
        revised_in items key new change None b ≡ appended items (pair_of (key, new)) None b
    same_items_come new change true = refl
    same_items_come new change false = refl

    same_sessions_come : (new : Session) (change : Session → Session) (b : Bool) →
        revised sessions key new change None b ≡ inserted sessions key new None b
    same_sessions_come new change true = refl
    same_sessions_come new change false = refl

    revises_new : (new : Session) (change : Session → Session) → value_at key items ≡ None →
        BringsAlike rules prefix depth items sessions key new → RevisesAlike new change
    revises_new new change none comes =
        let kept : get sessions key ≡ None = sym (part.same key here) ∙ none in
        let now_items : revised_items new change ≡ items_with rules items (pair_of (key, new)) =
        ap (λ o. revised_in items key new change o (has_place rules items)) none
        ∙ same_items_come new change (has_place rules items)
        ∙ sym (items_are new None (has_place rules items) none refl) in
        let now_sessions : revised_sessions new change ≡ brought rules sessions key new =
        ap (λ o. revised sessions key new change o (has_room rules sessions key)) kept
        ∙ same_sessions_come new change (has_room rules sessions key)
        ∙ sym (sessions_are new None (has_room rules sessions key) kept refl) in
        record {
          holds = moved (items_with rules items (pair_of (key, new))) _ (brought rules sessions key new) _ now_items
              now_sessions comes.part;
          few = rw now_items comes.few;
        }

    revises : (new : Session) (change : Session → Session) → is_too_many rules depth items key ≡ false →
        RevisesAlike new change
    revises new change fits = by_value (value_at key items) refl
      where
        by_value : (o : Option Session) → value_at key items ≡ o → RevisesAlike new change
        by_value (Some held) is = revises_held new change held is
        by_value None none = revises_new new change none (brings new fits)

    -- a count's reply
    count_reply_alike : (amount : ℕ) (o : Option Session) →
        (o ≡ None → has_place rules items ≡ has_room rules sessions key) →
        count_reply amount o (has_place rules items) ≡ count_reply amount o (has_room rules sessions key)
    count_reply_alike amount (Some held) alike = refl
    count_reply_alike amount None alike = ap (count_reply amount None) (alike refl)

    count_alike : (value amount : ℕ) → overflows rules depth items (Count key value amount) ≡ false →
        AnswersAlike rules prefix depth items sessions (Count key value amount)
    unfolding reply_in items_after reply_of map_after overflows
    count_alike value amount fits =
        let both = revises (counted_session value amount) (λ held. grown held amount) fits in
        record {
          reply = count_reply_alike amount (value_at key items) (alike_room fits)
              ∙ ap (λ o. count_reply amount o (has_room rules sessions key)) (part.same key here);
          part = both.holds;
          few = both.few;
        }

    put_alike : (value : ℕ) → overflows rules depth items (Put key value) ≡ false →
        AnswersAlike rules prefix depth items sessions (Put key value)
    unfolding reply_in items_after reply_of map_after overflows
    put_alike value fits =
        let both = revises (new_session value) (λ held. revalued held value) fits in
        record {
          reply = insert_reply_alike (value_at key items) (alike_room fits)
              ∙ ap (λ o. insert_reply o (has_room rules sessions key)) (part.same key here);
          part = both.holds;
          few = both.few;
        }

  -- a session that comes to a key of another prefix
  stays-brought : prefix_of rules depth key ≢ prefix → (new : Session) →
      HoldsPart rules prefix depth items (brought rules sessions key new)
  stays-brought away new = by_room (get sessions key) refl (has_room rules sessions key) refl
    where
      by_room : (o : Option Session) → get sessions key ≡ o → (b : Bool) → has_room rules sessions key ≡ b →
          HoldsPart rules prefix depth items (brought rules sessions key new)
      by_room (Some held) is b room = rw (sessions_are new (Some held) b is room) part
      by_room None is false room = rw (sessions_are new None false is room) part
      by_room None is true room =
          rw (sessions_are new None true is room)
          (elsewhere rules prefix depth items sessions part key away (Some new) (finite.insert sessions key new)
          (get-inserted sessions key new))

  -- a call with a key of another prefix
  stays-Insert : prefix_of rules depth key ≢ prefix → (value : ℕ) →
      HoldsPart rules prefix depth items (map_after rules sessions (Insert key value))
  unfolding map_after
  stays-Insert away value = stays-brought away (new_session value)

  stays-Remove : prefix_of rules depth key ≢ prefix →
      HoldsPart rules prefix depth items (map_after rules sessions (Remove key))
  unfolding map_after
  stays-Remove away = elsewhere rules prefix depth items sessions part key away None (finite.remove sessions key)
      (get-removed sessions key)

  stays-Lookup : HoldsPart rules prefix depth items (map_after rules sessions (Lookup key))
  unfolding map_after
  stays-Lookup = part

  stays-Tally : prefix_of rules depth key ≢ prefix → (amount : ℕ) →
      HoldsPart rules prefix depth items (map_after rules sessions (Tally key amount))
  unfolding map_after
  stays-Tally away amount = by_held (get sessions key) refl
    where
      by_held : (o : Option Session) → get sessions key ≡ o →
          HoldsPart rules prefix depth items (tallied sessions key amount o)
      by_held None is = part
      by_held (Some held) is =
          elsewhere rules prefix depth items sessions part key away (Some (grown held amount))
          (finite.insert sessions key (grown held amount)) (get-inserted sessions key (grown held amount))

  -- a count or a put of another prefix
  stays-revised : prefix_of rules depth key ≢ prefix → (new : Session) (change : Session → Session)
      (o : Option Session) (b : Bool) → HoldsPart rules prefix depth items (revised sessions key new change o b)
  stays-revised away new change (Some held) b =
      elsewhere rules prefix depth items sessions part key away (Some (change held))
      (finite.insert sessions key (change held)) (get-inserted sessions key (change held))
  stays-revised away new change None true =
      elsewhere rules prefix depth items sessions part key away (Some new) (finite.insert sessions key new)
      (get-inserted sessions key new)
  stays-revised away new change None false = part

  stays-Count : prefix_of rules depth key ≢ prefix → (value amount : ℕ) →
      HoldsPart rules prefix depth items (map_after rules sessions (Count key value amount))
  unfolding map_after
  stays-Count away value amount = stays-revised away (counted_session value amount) (λ held. grown held amount)
      (get sessions key) (has_room rules sessions key)

  stays-Put : prefix_of rules depth key ≢ prefix → (value : ℕ) →
      HoldsPart rules prefix depth items (map_after rules sessions (Put key value))
  unfolding map_after
  stays-Put away value = stays-revised away (new_session value) (λ held. revalued held value) (get sessions key)
      (has_room rules sessions key)

-- the items of a bucket answer as the plain object does
pub local_answers : LocalAnswers
local_answers rules prefix depth items sessions (Insert key value) can part here fits =
    insert_alike rules prefix depth items sessions part key can here value fits
local_answers rules prefix depth items sessions (Remove key) can part here fits =
    remove_alike rules prefix depth items sessions part key can here
local_answers rules prefix depth items sessions (Lookup key) can part here fits =
    lookup_alike rules prefix depth items sessions part key can here
local_answers rules prefix depth items sessions (Tally key amount) can part here fits =
    tally_alike rules prefix depth items sessions part key can here amount
local_answers rules prefix depth items sessions (Count key value amount) can part here fits =
    count_alike rules prefix depth items sessions part key can here value amount fits
local_answers rules prefix depth items sessions (Put key value) can part here fits =
    put_alike rules prefix depth items sessions part key can here value fits

-- a call leaves the other parts as they are
pub other_parts_stay : OtherPartsStay
other_parts_stay rules prefix depth items sessions (Insert key value) part away =
    stays-Insert rules prefix depth items sessions part key away value
other_parts_stay rules prefix depth items sessions (Remove key) part away =
    stays-Remove rules prefix depth items sessions part key away
other_parts_stay rules prefix depth items sessions (Lookup key) part away =
    stays-Lookup rules prefix depth items sessions part key
other_parts_stay rules prefix depth items sessions (Tally key amount) part away =
    stays-Tally rules prefix depth items sessions part key away amount
other_parts_stay rules prefix depth items sessions (Count key value amount) part away =
    stays-Count rules prefix depth items sessions part key away value amount
other_parts_stay rules prefix depth items sessions (Put key value) part away =
    stays-Put rules prefix depth items sessions part key away value

-- a bucket takes a session that comes to a key, as the map does
pub brings_alike : (rules : Rules) (prefix depth : ℕ) (items : List Pair) (sessions : Sessions) (key : Key)
    (value : ℕ) (new : Session) → CanAnswer rules depth items → HoldsPart rules prefix depth items sessions →
    prefix_of rules depth key ≡ prefix → overflows rules depth items (Insert key value) ≡ false →
    BringsAlike rules prefix depth items sessions key new
unfolding overflows
brings_alike rules prefix depth items sessions key value new can part here fits =
    brings rules prefix depth items sessions part key can here new fits

-- and the other buckets keep theirs
pub brought_elsewhere : (rules : Rules) (prefix depth : ℕ) (items : List Pair) (sessions : Sessions) (key : Key)
    (new : Session) → HoldsPart rules prefix depth items sessions → prefix_of rules depth key ≢ prefix →
    HoldsPart rules prefix depth items (brought rules sessions key new)
brought_elsewhere rules prefix depth items sessions key new part away =
    stays-brought rules prefix depth items sessions part key away new
