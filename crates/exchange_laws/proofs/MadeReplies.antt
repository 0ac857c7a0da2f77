-- What an exchange makes for one seat: the update that it is given, if any, and the entry of that seat in the row that
-- is put, which tells the same reply.
use Rattle.std.proofs.Common.{◌≡◌, ◌≢◌, ℕ, zero, suc, ◌+◌, ◌<◌, Bool, true, false, cond, List, [], ◌∷◌, ◌++◌, length, Option, Some, None, refl, sym, ap, ◌∙◌, arith, append-nil}
use Rattle.std.specs.Prelude.{◌==◌, ◌&&◌, filter_map, slice_index_or}
use Rattle.std.proofs.lemmas.Bool.{eq-eqb, ne_eqb}
use Rattle.std.proofs.lemmas.List.Elements.{filter_map-append}
use Rattle.plain_map.specs.declared.rules.Rules.{Rules}
use Rattle.plain_map.specs.declared.calls.Call.{Call}
use Rattle.plain_map.specs.declared.calls.Reply.{Reply}
use Rattle.map_laws.specs.ByKey.{Made}
use Rattle.bucket_states.specs.Items.{reply_in}
use Rattle.exchange_model.specs.Codes.{Entry}
use Rattle.exchange_model.specs.Steps.{Found, NoOp, Keeps, Takes, Makes, Change, MadeBySeat, entry_of, with_found, with_all}
use Rattle.exchange_model.specs.Goes.{is_entry, entry_for, reply_for}
use Rattle.exchange_model.specs.Laws.{made_by}

-- ---- entries, one more

-- an entry of another seat
pub entry_past : (q n : ℕ) (es : List Entry) (e : Entry) → e.seat ≢ q → entry_for q n (es ++ e ∷ []) ≡ entry_for q n es
entry_past q n [] e other =
    ap (λ (c : Bool). cond (c && (e.number == n)) (Some e) None) (ne_eqb e.seat q other)
entry_past q n (d ∷ es) e other =
    ap (λ (o : Option Entry). cond (is_entry q n d) (Some d) o) (entry_past q n es e other)

abbrev how_many : Option Entry → ℕ
how_many None = 0
how_many (Some e) = 1

-- where the seat had none
pub entry_last : (q n : ℕ) (es : List Entry) (e : Entry) → entry_for q n es ≡ None →
    entry_for q n (es ++ e ∷ []) ≡ entry_for q n (e ∷ [])
entry_last q n [] e none = refl
entry_last q n (d ∷ es) e none = go (is_entry q n d) none (entry_last q n es e)
  where
    go : (c : Bool) → cond c (Some d) (entry_for q n es) ≡ None →
        (entry_for q n es ≡ None → entry_for q n (es ++ e ∷ []) ≡ entry_for q n (e ∷ [])) →
        cond c (Some d) (entry_for q n (es ++ e ∷ [])) ≡ entry_for q n (e ∷ [])
    go true none later = absurd (omega (arith, ap how_many none))
    go false none later = later none

-- ---- the reply of a seat among updates

abbrev pub head_reply : List Made → Option Reply
head_reply [] = None
head_reply (one ∷ later) = Some one.1

abbrev one_by : Bool → MadeBySeat → List Made
one_by mine one = filter_map (λ (o : MadeBySeat). cond mine (Some o.1) None) (one ∷ [])

-- it is that of its first update
pub reply_is : (q : ℕ) (made : List MadeBySeat) → reply_for q made ≡ head_reply (made_by q made)
reply_is q [] = refl
reply_is q (one ∷ later) =
    go (one.0 == q) (reply_is q later)
    ∙ ap head_reply (sym (filter_map-append (λ (o : MadeBySeat). cond (o.0 == q) (Some o.1) None) (one ∷ []) later))
  where
    go : (c : Bool) → reply_for q later ≡ head_reply (made_by q later) →
        cond c (Some one.1.1) (reply_for q later) ≡ head_reply (one_by c one ++ made_by q later)
    go true is = refl
    go false is = is

-- ---- what was found is each seat's own

abbrev pub IsSeated : (k : ℕ) → Found → Type 0
IsSeated k NoOp = Unit {0}
IsSeated k (Keeps e) = e.seat ≡ k
IsSeated k (Takes op) = Unit {0}
IsSeated k (Makes call) = Unit {0}

abbrev pub AreSeated : (k : ℕ) → List Found → Type 0
AreSeated k [] = Unit {0}
AreSeated k (f ∷ later) = IsSeated k f × AreSeated (suc k) later

module _ (q : ℕ) where
  -- what a seat that was found so is given: by the updates and the row before and after
  abbrev pub Gives : Found → (was now : Change) → Type 0
  Gives NoOp was now =
      (made_by q now.made ≡ made_by q was.made) × ((n : ℕ) → entry_for q n now.row.entries ≡ None)
  Gives (Keeps e) was now =
      (made_by q now.made ≡ made_by q was.made) × ((n : ℕ) → entry_for q n now.row.entries ≡ entry_for q n (e ∷ []))
  Gives (Takes op) was now =
      (reply : Reply) × (made_by q now.made ≡ made_by q was.made ++ (op.call, reply) ∷ [])
      × ((n : ℕ) → entry_for q n now.row.entries ≡ entry_for q n (entry_of q op.number reply))
  Gives (Makes call) was now =
      (reply : Reply) × (made_by q now.made ≡ made_by q was.made ++ (call, reply) ∷ [])
      × ((n : ℕ) → entry_for q n now.row.entries ≡ None)

  made_more : (made : List MadeBySeat) (one : MadeBySeat) →
      made_by q (made ++ one ∷ []) ≡ made_by q made ++ one_by (one.0 == q) one
  made_more made one = filter_map-append (λ (o : MadeBySeat). cond (o.0 == q) (Some o.1) None) made (one ∷ [])

  -- nothing is another one for this seat
  abbrev Alike : (was now : Change) → Type 0
  Alike was now =
      (made_by q now.made ≡ made_by q was.made)
      × ((n : ℕ) → entry_for q n now.row.entries ≡ entry_for q n was.row.entries)

  made_other : (c : Change) (k : ℕ) (call : Call) (reply : Reply) → k ≢ q →
      made_by q (c.made ++ (k, (call, reply)) ∷ []) ≡ made_by q c.made
  made_other c k call reply n =
      let one : MadeBySeat = (k, (call, reply)) in
      made_more c.made one ∙ ap (λ (mine : Bool). made_by q c.made ++ one_by mine one) (ne_eqb k q n)
      ∙ append-nil (made_by q c.made)

  made_own : (c : Change) (k : ℕ) (call : Call) (reply : Reply) → k ≡ q →
      made_by q (c.made ++ (k, (call, reply)) ∷ []) ≡ made_by q c.made ++ (call, reply) ∷ []
  made_own c k call reply e =
      let one : MadeBySeat = (k, (call, reply)) in
      made_more c.made one ∙ ap (λ (mine : Bool). made_by q c.made ++ one_by mine one) (eq-eqb k q e)

  found_other : (rules : Rules) (c : Change) (k : ℕ) (f : Found) → IsSeated k f → k ≢ q →
      Alike c (with_found rules c k f)
  found_other rules c k NoOp s n = (refl, λ m. refl)
  found_other rules c k (Keeps e) s n = (refl, λ m. entry_past q m c.row.entries e (λ i. n (sym s ∙ i)))
  found_other rules c k (Takes op) s n = (
    made_other c k op.call (reply_in rules c.row.items op.call) n,
    λ m. entry_past q m c.row.entries _ n,
  )
  found_other rules c k (Makes call) s n = (
    made_other c k call (reply_in rules c.row.items call) n,
    λ m. ap (entry_for q m) (append-nil c.row.entries),
  )

  abbrev NoEntry : Change → Type 0
  NoEntry c = (n : ℕ) → entry_for q n c.row.entries ≡ None

  found_same : (rules : Rules) (c : Change) (k : ℕ) (f : Found) → k ≡ q → NoEntry c → Gives f c (with_found rules c k f)
  found_same rules c k NoOp e none = (refl, none)
  found_same rules c k (Keeps entry) e none = (refl, λ n. entry_last q n c.row.entries entry (none n))
  found_same rules c k (Takes op) e none =
      let reply = reply_in rules c.row.items op.call in (
        reply,
        made_own c k op.call reply e,
        λ n. entry_last q n c.row.entries _ (none n) ∙ ap (λ j. entry_for q n (entry_of j op.number reply)) e,
      )
  found_same rules c k (Makes call) e none =
      let reply = reply_in rules c.row.items call in (
        reply,
        made_own c k call reply e,
        λ n. ap (entry_for q n) (append-nil c.row.entries) ∙ none n,
      )

  later_other : (rules : Rules) (c : Change) (k : ℕ) (found : List Found) → AreSeated k found → q < k →
      Alike c (with_all rules c k found)
  later_other rules c k [] s less = (refl, λ n. refl)
  later_other rules c k (f ∷ found) s less =
      let later = later_other rules (with_found rules c k f) (suc k) found s.1 (omega (arith, less)) in
      let here = found_other rules c k f s.0 (λ e. omega (arith, e, less)) in
      (later.0 ∙ here.0, λ n. later.1 n ∙ here.1 n)

  -- later seats leave it
  gives_on : (f : Found) (was now last : Change) → Gives f was now → Alike now last → Gives f was last
  gives_on NoOp was now last g a = (a.0 ∙ g.0, λ n. a.1 n ∙ g.1 n)
  gives_on (Keeps e) was now last g a = (a.0 ∙ g.0, λ n. a.1 n ∙ g.1 n)
  gives_on (Takes op) was now last g a = (g.0, a.0 ∙ g.1, λ n. a.1 n ∙ g.2 n)
  gives_on (Makes call) was now last g a = (g.0, a.0 ∙ g.1, λ n. a.1 n ∙ g.2 n)

  -- and so do earlier ones
  gives_after : (f : Found) (first was now : Change) → Alike first was → Gives f was now → Gives f first now
  gives_after NoOp first was now a g = (g.0 ∙ a.0, g.1)
  gives_after (Keeps e) first was now a g = (g.0 ∙ a.0, g.1)
  gives_after (Takes op) first was now a g = (g.0, g.1 ∙ ap (λ (ms : List Made). ms ++ (op.call, g.0) ∷ []) a.0, g.2)
  gives_after (Makes call) first was now a g = (g.0, g.1 ∙ ap (λ (ms : List Made). ms ++ (call, g.0) ∷ []) a.0, g.2)

  -- THE RESULT
  pub given_seat : (rules : Rules) (c : Change) (k i : ℕ) (found : List Found) → AreSeated k found → k + i ≡ q →
      i < length found → NoEntry c → Gives (slice_index_or found i NoOp) c (with_all rules c k found)
  given_seat rules c k i [] s e less none = absurd (omega (arith, less))
  given_seat rules c k zero (f ∷ found) s e less none =
      gives_on f c (with_found rules c k f) _ (found_same rules c k f (omega (arith, e)) none)
      (later_other rules (with_found rules c k f) (suc k) found s.1 (omega (arith, e)))
  given_seat rules c k (suc i) (f ∷ found) s e less none =
      let here = found_other rules c k f s.0 (λ m. omega (arith, m, e)) in
      gives_after (slice_index_or found i NoOp) c (with_found rules c k f) _ here
      (given_seat rules (with_found rules c k f) (suc k) i found s.1 (omega (arith, e)) (omega (arith, less))
      (λ n. here.1 n ∙ none n))
