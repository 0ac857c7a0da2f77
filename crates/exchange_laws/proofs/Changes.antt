-- What an exchange makes of the plain map: the updates that it applies are legal one after the other, the row that is
-- put has the pairs of its class after them, and the other classes stay as they are.
use Rattle.std.proofs.Common.{◌≡◌, ◌≢◌, ℕ, suc, ◌≤◌, List, [], ◌∷◌, ◌++◌, length, refl, sym, ap, ◌∙◌, subst, arith}
use Rattle.plain_map.specs.declared.calls.Call.{Call}
use Rattle.plain_map.specs.declared.calls.Reply.{Reply}
use Rattle.plain_map.specs.declared.rules.Rules.{Rules}
use Rattle.plain_map.specs.declared.keys.Pair.{Pair}
use Rattle.plain_map.specs.Calls.{key_in}
use Rattle.plain_map.specs.PlainObject.{InRange, Sessions, map_after}
use Rattle.map_laws.specs.ByKey.{Made, LegalMade, after_made}
use Rattle.map_laws.proofs.ByKeyLooks.{LegalMade-append, after_made-append}
use Rattle.bucket_states.specs.Items.{prefix_of, reply_in, items_after}
use Rattle.bucket_states.specs.Parts.{HoldsPart, CanAnswer}
use Rattle.bucket_states.proofs.LocalLemmas.{local_answers, other_parts_stay}
use Rattle.bucket_states.proofs.AnswerLemmas.{overflows-deepest}
use Rattle.exchange_model.specs.Plans.{more}
use Rattle.exchange_model.specs.Codes.{Entry}
use Rattle.exchange_model.specs.Steps.{Found, NoOp, Keeps, Takes, Makes, Change, MadeBySeat, applied, entry_of, with_found, with_all}
use Rattle.exchange_model.specs.Laws.{all_made}

module _ (rules : Rules) (range : InRange rules) (first : Sessions) (bucket : ℕ) where
  -- what was found is of this bucket
  abbrev pub IsHere : Found → Type 0
  IsHere NoOp = Unit {0}
  IsHere (Keeps entry) = Unit {0}
  IsHere (Takes op) = prefix_of rules rules.depth (key_in op.call) ≡ bucket
  IsHere (Makes call) = prefix_of rules rules.depth (key_in call) ≡ bucket

  abbrev pub AreHere : List Found → Type 0
  AreHere [] = Unit {0}
  AreHere (found ∷ later) = IsHere found × AreHere later

  -- the sessions after these updates
  abbrev pub after : List MadeBySeat → Sessions
  after made = after_made rules first (all_made made)

  -- the updates that were made are legal, and the row has the pairs of its class then
  pub record Right (c : Change) : Type 0 where
    pub legal : LegalMade rules first (all_made c.made)
    pub part : HoldsPart rules bucket rules.depth c.row.items (after c.made)
    pub few : length c.row.items ≤ rules.items

  pub more_made : (made : List MadeBySeat) (one : MadeBySeat) → all_made (more made one) ≡ all_made made ++ one.1 ∷ []
  more_made [] one = refl
  more_made (x ∷ made) one = ap (λ (ms : List Made). x.1 ∷ ms) (more_made made one)

  -- one update more
  applies : (c : Change) (seat : ℕ) (call : Call) (entries : Reply → List Entry) → Right c →
      prefix_of rules rules.depth (key_in call) ≡ bucket → Right (applied rules c seat call entries)
  applies c seat call entries r here =
      let can : CanAnswer rules rules.depth c.row.items = record { range = range; within = omega arith; few = r.few } in
      let alike = local_answers rules bucket rules.depth c.row.items (after c.made) call can r.part here
      (overflows-deepest rules c.row.items call) in
      let one : MadeBySeat = (seat, (call, reply_in rules c.row.items call)) in
      let made_is = more_made c.made one in
      let then : after (more c.made one) ≡ map_after rules (after c.made) call =
      ap (after_made rules first) made_is ∙ after_made-append rules first (all_made c.made) (one.1 ∷ []) in
      record {
        legal = subst (LegalMade rules first) (sym made_is)
            (LegalMade-append rules first (all_made c.made) (one.1 ∷ []) r.legal (alike.reply, tt));
        part = subst (HoldsPart rules bucket rules.depth (items_after rules c.row.items call)) (sym then) alike.part;
        few = alike.few;
      }

  one_found : (c : Change) (seat : ℕ) (found : Found) → Right c → IsHere found → Right (with_found rules c seat found)
  one_found c seat NoOp r here = r
  one_found c seat (Keeps entry) r here = record { legal = r.legal; part = r.part; few = r.few }
  one_found c seat (Takes op) r here = applies c seat op.call (entry_of seat op.number) r here
  one_found c seat (Makes call) r here = applies c seat call (λ reply. []) r here

  -- THE RESULT: all that an exchange applies
  pub all_found : (c : Change) (seat : ℕ) (found : List Found) → Right c → AreHere found →
      Right (with_all rules c seat found)
  all_found c seat [] r here = r
  all_found c seat (f ∷ found) r here =
      all_found (with_found rules c seat f) (suc seat) found (one_found c seat f r here.0) here.1

-- all these updates are of this bucket
abbrev pub AreOf : Rules → (bucket : ℕ) → List Made → Type 0
AreOf rules bucket [] = Unit {0}
AreOf rules bucket (one ∷ made) = (prefix_of rules rules.depth (key_in one.0) ≡ bucket) × AreOf rules bucket made

-- another class stays as it is
module _ (rules : Rules) (bucket other : ℕ) (away : other ≢ bucket) where
  pub others_stay : (made : List Made) (items : List Pair) (sessions : Sessions) →
      HoldsPart rules other rules.depth items sessions → AreOf rules bucket made →
      HoldsPart rules other rules.depth items (after_made rules sessions made)
  others_stay [] items sessions part here = part
  others_stay (one ∷ made) items sessions part here =
      others_stay made items (map_after rules sessions one.0)
      (other_parts_stay rules other rules.depth items sessions one.0 part (λ e. away (sym e ∙ here.0))) here.1
