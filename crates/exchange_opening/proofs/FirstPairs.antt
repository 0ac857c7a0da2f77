-- Pairs that are brought one after the other.
use Rattle.std.proofs.Common.{◌≡◌, ℕ, ◌+◌, ◌^◌, ◌<◌, ◌≤◌, Bool, cond, List, [], ◌∷◌, ◌++◌, length, drop, get_or, replicate, Some, None, sym, ap, ◌∙◌, append_assoc, arith}
use Rattle.std.proofs.lemmas.List.{append-nil, drop_all, drop_more, length-replicate}
use Rattle.std.specs.FinMap.{empty, get-empty}
use Rattle.std.specs.List.{IsDistinct}
use Rattle.plain_map.specs.declared.keys.Pair.{Pair}
use Rattle.plain_map.specs.declared.rules.Rules.{Rules}
use Rattle.plain_map.specs.PlainObject.{Sessions, map_after}
use Rattle.plain_map.specs.Keys.{Session, key_cmp}
use Rattle.bucket_states.specs.Parts.{HoldsPart}
use Rattle.exchange_opening.specs.Chains.{AreLinked, no_pair, pair_at}
use Rattle.exchange_opening.specs.FirstPairs.{bringing, lacks_room, places_without_room, places_without_room_from}
use Rattle.exchange_opening.proofs.OpeningWords.{zero_of}

-- so many of the pairs were brought, and these of them found no room. What is held then decides of the others
pub record Brought (rules : Rules) (pairs : List Pair) (many : ℕ) (lasts links places : List ℕ) : Type 0 where
  pub sessions : Sessions
  pub linked : AreLinked rules pairs many lasts links sessions
  pub are : places ++ places_without_room_from rules sessions many (drop many pairs) ≡ places_without_room rules pairs

-- no pairs are the part of the empty map
empty_part : (rules : Rules) (class : ℕ) → HoldsPart rules class rules.depth [] empty
unfolding IsDistinct
empty_part rules class = record {
  distinct = tt;
  inside = λ key held is. absurd (no held is);
  same = λ key here. sym (get-empty key_cmp key);
}
  where
    no : (held : Session) → None ≡ Some held → ⊥
    no held e = cc

module _ (rules : Rules) (pairs : List Pair) where
  -- none was
  pub none_brought : (lasts links places : List ℕ) → lasts ≡ replicate (2 ^ rules.depth) 0 →
      links ≡ replicate (length pairs) 0 → places ≡ [] → Brought rules pairs 0 lasts links places
  none_brought lasts links places lasts_are links_are none = record {
    sessions = empty;
    linked = record {
      classes = ap (λ (xs : List ℕ). length xs) lasts_are ∙ length-replicate (2 ^ rules.depth) 0;
      room = ap (λ (xs : List ℕ). length xs) links_are ∙ length-replicate (length pairs) 0;
      each = λ class less. record {
        places = [];
        chain = ap (λ (xs : List ℕ). get_or xs class 0) lasts_are ∙ zero_of (2 ^ rules.depth) class;
        part = empty_part rules class;
        few = omega arith;
      };
    };
    are = ap (λ (xs : List ℕ). xs ++ places_without_room rules pairs) none;
  }

  -- what a pair finds where it is the next
  next_is : (sessions : Sessions) (many : ℕ) → many < length pairs → let pair = pair_at pairs many in
      places_without_room_from rules sessions many (drop many pairs)
      ≡ cond (lacks_room rules sessions pair) (many ∷ []) []
      ++ places_without_room_from rules (map_after rules sessions (bringing pair)) (many + 1) (drop (many + 1) pairs)
  next_is sessions many less = ap (places_without_room_from rules sessions many) (drop_more pairs many no_pair less)

  module _ (many : ℕ) (lasts links lasts_then links_then : List ℕ) (lacks : Bool) (less : many < length pairs)
      (brought : (sessions : Sessions) → AreLinked rules pairs many lasts links sessions →
      (lacks_room rules sessions (pair_at pairs many) ≡ lacks)
      × AreLinked rules pairs (many + 1) lasts_then links_then
      (map_after rules sessions (bringing (pair_at pairs many))))
      (places : List ℕ) (b : Brought rules pairs many lasts links places) where
    later : List ℕ
    later = places_without_room_from rules (map_after rules b.sessions (bringing (pair_at pairs many))) (many + 1)
        (drop (many + 1) pairs)

    -- one more was, and this is its place if it found no room
    pub one_brought : Brought rules pairs (many + 1) lasts_then links_then (places ++ cond lacks (many ∷ []) [])
    unfolding later
    one_brought = record {
      sessions = map_after rules b.sessions (bringing (pair_at pairs many));
      linked = (brought b.sessions b.linked).1;
      are = append_assoc places (cond lacks (many ∷ []) []) later
          ∙ ap (λ found. places ++ (cond found (many ∷ []) [] ++ later)) (sym (brought b.sessions b.linked).0)
          ∙ ap (λ found. places ++ found) (sym (next_is b.sessions many less)) ∙ b.are;
    }

  -- all were
  pub all_brought : (many : ℕ) (lasts links places : List ℕ) → length pairs ≤ many →
      Brought rules pairs many lasts links places → places ≡ places_without_room rules pairs
  all_brought many lasts links places past b =
      sym (append-nil places)
      ∙ ap (λ left. places ++ places_without_room_from rules b.sessions many left) (sym (drop_all many pairs past))
      ∙ b.are
