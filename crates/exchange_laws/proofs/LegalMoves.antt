-- One event and the order: where every update that an exchange applies is of the class of its bucket, the updates that
-- were made stay legal, and each bucket has the pairs of its class that the plain map has after them.
use Rattle.std.proofs.Common.{◌≡◌, ◌≢◌, ℕ, suc, ◌≤◌, ◌<◌, List, [], ◌∷◌, ◌++◌, length, refl, sym, ap, ◌∙◌, subst, inl, inr}
use Rattle.std.specs.FinMap.{empty}
use Rattle.std.proofs.lemmas.Bool.{cases_eq}
use Rattle.plain_map.specs.declared.calls.Call.{Call}
use Rattle.plain_map.specs.declared.calls.Reply.{Reply}
use Rattle.plain_map.specs.declared.rules.Rules.{Rules}
use Rattle.plain_map.specs.Calls.{key_in}
use Rattle.plain_map.specs.PlainObject.{InRange, Sessions}
use Rattle.map_laws.specs.ByKey.{Made, LegalMade, after_made}
use Rattle.map_laws.proofs.ByKeyLooks.{LegalMade-append, after_made-append}
use Rattle.plain_map.specs.declared.keys.Pair.{Pair}
use Rattle.bucket_states.specs.Items.{prefix_of, reply_in, items_after}
use Rattle.bucket_states.specs.Parts.{HoldsPart}
use Rattle.word_rows.specs.Memory.{put}
use Rattle.word_rows.proofs.MemoryLemmas.{put_same, put_other}
use Rattle.exchange_model.specs.Plans.{Plan, rules_of, buckets_of}
use Rattle.exchange_model.specs.Codes.{Row, Entry, row_in, row_at}
use Rattle.exchange_model.specs.Steps.{Found, NoOp, Keeps, Takes, Makes, Change, MadeBySeat, applied, entry_of, with_found, with_all, change}
use Rattle.exchange_model.specs.Worlds.{World}
use Rattle.exchange_model.specs.Laws.{all_made}
use Rattle.exchange_laws.proofs.Changes.{IsHere, AreHere, Right, all_found, AreOf, others_stay, more_made}
use Rattle.exchange_laws.proofs.Owned.{Owned}
use Rattle.exchange_laws.proofs.OwnedMoves.{Moves}
use Rattle.exchange_laws.proofs.OwnedRuns.{row_stays}

-- ---- updates of one class

are_of_both : (rules : Rules) (b : ℕ) (front back : List Made) → AreOf rules b front → AreOf rules b back →
    AreOf rules b (front ++ back)
are_of_both rules b [] back f g = g
are_of_both rules b (one ∷ front) back f g = (f.0, are_of_both rules b front back f.1 g)

applied_of : (rules : Rules) (range : InRange rules) (first : Sessions) (b : ℕ) (c : Change) (seat : ℕ) (call : Call)
    (entries : Reply → List Entry) → AreOf rules b (all_made c.made) → prefix_of rules rules.depth (key_in call) ≡ b →
    AreOf rules b (all_made (applied rules c seat call entries).made)
applied_of rules range first b c seat call entries are here =
    let one : MadeBySeat = (seat, (call, reply_in rules c.row.items call)) in
    subst (AreOf rules b) (sym (more_made rules range first b c.made one))
    (are_of_both rules b (all_made c.made) (one.1 ∷ []) are (here, tt))

found_of : (rules : Rules) (range : InRange rules) (first : Sessions) (b : ℕ) (c : Change) (seat : ℕ) (found : Found) →
    AreOf rules b (all_made c.made) → IsHere rules range first b found →
    AreOf rules b (all_made (with_found rules c seat found).made)
found_of rules range first b c seat NoOp are here = are
found_of rules range first b c seat (Keeps entry) are here = are
found_of rules range first b c seat (Takes op) are here =
    applied_of rules range first b c seat op.call (entry_of seat op.number) are here
found_of rules range first b c seat (Makes call) are here = applied_of rules range first b c seat call
    (λ reply. []) are here

all_of : (rules : Rules) (range : InRange rules) (first : Sessions) (b : ℕ) (c : Change) (seat : ℕ)
    (found : List Found) →
    AreOf rules b (all_made c.made) → AreHere rules range first b found →
    AreOf rules b (all_made (with_all rules c seat found).made)
all_of rules range first b c seat [] are here = are
all_of rules range first b c seat (f ∷ found) are here =
    all_of rules range first b (with_found rules c seat f) (suc seat) found
    (found_of rules range first b c seat f are here.0) here.1

made_both : (front back : List MadeBySeat) → all_made (front ++ back) ≡ all_made front ++ all_made back
made_both [] back = refl
made_both (one ∷ front) back = ap (λ (ms : List Made). one.1 ∷ ms) (made_both front back)

module _ (plan : Plan) (range : InRange (rules_of plan)) where
  abbrev rules : Rules
  rules = rules_of plan

  -- the plain map after these updates
  abbrev after : List MadeBySeat → Sessions
  after made = after_made rules empty (all_made made)

  abbrev pub row_of : World → (b : ℕ) → Row
  row_of x b = row_at plan (x.store.row (row_in plan (x.store.bucket b)))

  -- the updates that were made are legal, and each bucket has its class of what the plain map has after them
  pub record Legal (x : World) : Type 0 where
    pub legal : LegalMade rules empty (all_made x.made)
    pub held : (b : ℕ) → b < buckets_of plan.settings → HoldsPart rules b rules.depth (row_of x b).items (after x.made)

  -- ---- an event that exchanges no bucket word

  pub stays_legal : (x y : World) (h : Owned plan x) → Moves plan h.at x y → y.store.bucket ≡ x.store.bucket →
      y.made ≡ x.made → Legal x → Legal y
  stays_legal x y h moves words made l = record {
    legal = subst (λ (ms : List MadeBySeat). LegalMade rules empty (all_made ms)) (sym made) l.legal;
    held = λ b less. (
        let same : row_of y b ≡ row_of x b =
        ap (λ (f : ℕ → ℕ). row_at plan (y.store.row (row_in plan (f b)))) words
        ∙ ap (row_at plan) (λ k i. row_stays plan x y h b i less moves k) in
        subst (λ (ms : List MadeBySeat). HoldsPart rules b rules.depth (row_of y b).items (after ms)) (sym made)
        (subst (λ (r : Row). HoldsPart rules b rules.depth r.items (after x.made)) (sym same) (l.held b less)));
  }

  -- ---- an exchange

  module _ (x y : World) (b word : ℕ) (found : List Found) (small : b < buckets_of plan.settings) (l : Legal x)
      (few : length (row_of x b).items ≤ rules.items) (here : AreHere rules range (after x.made) b found)
      (words : y.store.bucket ≡ put x.store.bucket b word) (rows : y.store.row ≡ x.store.row)
      (put_is : row_at plan (x.store.row (row_in plan word)) ≡ (change plan (row_of x b) found).row)
      (made : y.made ≡ x.made ++ (change plan (row_of x b) found).made) where
    abbrev c : Change
    c = change plan (row_of x b) found

    start : Right rules range (after x.made) b
        (record { row = record { items = (row_of x b).items; entries = [] }; made = [] })
    start = record { legal = tt; part = l.held b small; few = few }

    right : Right rules range (after x.made) b c
    right = all_found rules range (after x.made) b _ 0 found start here

    made_is : all_made y.made ≡ all_made x.made ++ all_made c.made
    made_is = ap all_made made ∙ made_both x.made c.made

    after_is : after y.made ≡ after_made rules (after x.made) (all_made c.made)
    after_is = ap (after_made rules empty) made_is ∙ after_made-append rules empty (all_made x.made) (all_made c.made)

    mine : row_of y b ≡ c.row
    mine =
        ap (λ (f : ℕ → ℕ). row_at plan (y.store.row (row_in plan (f b)))) words
        ∙ ap (λ w. row_at plan (y.store.row (row_in plan w))) (put_same x.store.bucket b word)
        ∙ ap (λ (f : ℕ → ℕ → ℕ). row_at plan (f (row_in plan word))) rows ∙ put_is

    other : (a : ℕ) → a ≢ b → row_of y a ≡ row_of x a
    other a n =
        ap (λ (f : ℕ → ℕ). row_at plan (y.store.row (row_in plan (f a)))) words
        ∙ ap (λ w. row_at plan (y.store.row (row_in plan w))) (put_other x.store.bucket b word a n)
        ∙ ap (λ (f : ℕ → ℕ → ℕ). row_at plan (f (row_in plan (x.store.bucket a)))) rows

    -- THE RESULT
    pub exchange_legal : Legal y
    exchange_legal = record {
      legal = subst (LegalMade rules empty) (sym made_is)
          (LegalMade-append rules empty (all_made x.made) (all_made c.made) l.legal right.legal);
      held = λ a less. subst (HoldsPart rules a rules.depth (row_of y a).items) (sym after_is) (elim (cases_eq a b) [
        | inl e ↦ subst (λ i. HoldsPart rules i rules.depth (row_of y i).items
            (after_made rules (after x.made) (all_made c.made)))
            (sym e) (subst (λ (r : Row). HoldsPart rules b rules.depth r.items
            (after_made rules (after x.made) (all_made c.made)))
            (sym mine) right.part)
        | inr n ↦ subst (λ (r : Row). HoldsPart rules a rules.depth r.items
            (after_made rules (after x.made) (all_made c.made)))
            (sym (other a n)) (others_stay rules b a n (all_made c.made) (row_of x a).items (after x.made)
            (l.held a less)
            (all_of rules range (after x.made) b _ 0 found tt here))
      ]);
    }

  -- ---- a call that is answered at its check, since it changes nothing

  module _ (x y : World) (h : Owned plan x) (moves : Moves plan h.at x y) (b seat : ℕ) (call : Call)
      (small : b < buckets_of plan.settings) (l : Legal x) (few : length (row_of x b).items ≤ rules.items)
      (here : prefix_of rules rules.depth (key_in call) ≡ b) (words : y.store.bucket ≡ x.store.bucket)
      (quiet : items_after rules (row_of x b).items call ≡ (row_of x b).items)
      (made : y.made ≡ x.made ++ (seat, (call, reply_in rules (row_of x b).items call)) ∷ []) where
    abbrev begun : Change
    begun = record { row = record { items = (row_of x b).items; entries = [] }; made = [] }

    abbrev done : Change
    done = applied rules begun seat call (λ reply. [])

    was_right : Right rules range (after x.made) b begun
    was_right = record { legal = tt; part = l.held b small; few = few }

    is_right : Right rules range (after x.made) b done
    is_right = all_found rules range (after x.made) b begun seat (Makes call ∷ []) was_right (here, tt)

    done_is : all_made y.made ≡ all_made x.made ++ all_made done.made
    done_is = ap all_made made ∙ made_both x.made done.made

    after_done : after y.made ≡ after_made rules (after x.made) (all_made done.made)
    after_done = ap (after_made rules empty) done_is ∙ after_made-append rules empty (all_made x.made)
        (all_made done.made)

    same_row : (a : ℕ) → a < buckets_of plan.settings → row_of y a ≡ row_of x a
    same_row a less =
        ap (λ (f : ℕ → ℕ). row_at plan (y.store.row (row_in plan (f a)))) words
        ∙ ap (row_at plan) (λ k i. row_stays plan x y h a i less moves k)

    -- THE RESULT
    pub quiet_legal : Legal y
    quiet_legal = record {
      legal = subst (LegalMade rules empty) (sym done_is)
          (LegalMade-append rules empty (all_made x.made) (all_made done.made) l.legal is_right.legal);
      held = λ a less. subst (HoldsPart rules a rules.depth (row_of y a).items) (sym after_done)
          (subst (λ (r : Row). HoldsPart rules a rules.depth r.items
          (after_made rules (after x.made) (all_made done.made)))
          (sym (same_row a less)) (elim (cases_eq a b) [
            | inl e ↦ subst (λ i. HoldsPart rules i rules.depth (row_of x i).items
                (after_made rules (after x.made) (all_made done.made))) (sym e)
                (subst (λ (ps : List Pair). HoldsPart rules b rules.depth ps
                (after_made rules (after x.made) (all_made done.made))) quiet is_right.part)
            | inr n ↦ others_stay rules b a n (all_made done.made) (row_of x a).items (after x.made) (l.held a less)
                (here, tt)
          ]));
    }
