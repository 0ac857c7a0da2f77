-- The laws of the directory change that speak of the sessions: the leaves fold the taken ops, and splits have causes.
use Rattle.std.proofs.Common.{◌≡◌, ℕ, suc, ◌+◌, ◌<◌, ◌≤◌, Bool, true, false, cond, ◌||◌, List, [], ◌∷◌, ◌++◌, get_or, Option, Some, None, refl, sym, ap, ◌∙◌, subst, arith}
use Rattle.std.specs.Prelude.{◌==◌}
use Rattle.std.specs.List.{list_any, AllByRecursion as Each}
use Rattle.std.proofs.lemmas.Bool.{eq-eqb}
use Rattle.std.proofs.lemmas.List.Elements.{recursion_from_All}
use Rattle.plain_map.specs.declared.rules.Rules.{Rules}
use Rattle.plain_map.specs.declared.calls.Reply.{Reply}
use Rattle.plain_map.specs.Calls.{key_in}
use Rattle.bucket_states.specs.declared.ops.Op.{Op}
use Rattle.bucket_states.specs.Change.{answered}
use Rattle.bucket_states.specs.Laws.{Announces, reply_at}
use Rattle.table_model.specs.Directories.{DirectoryState, bucket_of}
use Rattle.table_model.specs.Leaves.{NewLeaf, leaf_of, apply, add_leaf}
use Rattle.table_model.specs.DirectoryChange.{LoadedBucket, is_bucket, loaded_of, is_frozen_without, comes_from, with_parts, after_op_in, leaves_after_seat, leaves_after}
use Rattle.table_model.specs.DirectoryLaws.{CanChange}
use Rattle.table_model.specs.DirectoryLaws.{IsLeafOf}
use Rattle.list_laws.proofs.Totals.{each-alike, found-each}
use Rattle.change_laws.proofs.Bits.{part}
use Rattle.change_laws.proofs.Steps.{at-any, add-any}
use Rattle.change_laws.proofs.Splits.{splits-any}
use Rattle.std.proofs.lemmas.List.{append_assoc}
use Rattle.std.proofs.lemmas.List.Elements.{All-from_recursion}
use Rattle.bucket_states.specs.Parts.{HoldsPart}
use Rattle.bucket_states.specs.Laws.{Taken, sessions_after_taken}
use Rattle.plain_map.specs.PlainObject.{Sessions, reply_of, map_after}
use Rattle.table_model.specs.DirectoryChange.{change_leaves}
use Rattle.table_model.specs.DirectoryLaws.{is_replaced, taken_if, taken_by_seat, taken_from, taken, AreAnsweredInLeaves, WasFull}
use Rattle.table_model.specs.DirectoryLaws.{HoldSessions, LeavesFold, SplitsHaveCauses}
use Rattle.change_laws.proofs.Walk.{Walk, given, replies_with, leaves_for, replies_in, replies_after_seat, replies_after, loaded-is, leaf-loaded, announced-seat, frozen-parts}
use Rattle.change_laws.proofs.Seats.{other-seat, seat-walk, whole-change, all_replies, no_replies, start-walk, whole-walk, ready-walk, ready-from, ready-end, found-l}
use Rattle.change_laws.proofs.Weak.{own-leaf, some-and}
use Rattle.change_laws.proofs.FoldStages.{Held, Fold, parts-fold, splits-fold, given-is, answer-fold}
use Rattle.std.proofs.Math.Bool.{or-false}

-- the replies to these ops are those of the plain object
abbrev AnswersOf : Rules → (ℕ → Option Reply) → Sessions → List Taken → Type 0
AnswersOf rules replies now [] = Unit {0}
AnswersOf rules replies now (t ∷ ts) =
    (replies t.seat ≡ Some (reply_of rules now t.op.call)) × AnswersOf rules replies (map_after rules now t.op.call) ts

-- the sessions after two lists of ops, one list after the other
sessions-append : (rules : Rules) (now : Sessions) (front back : List Taken) →
    sessions_after_taken rules now (front ++ back)
    ≡ sessions_after_taken rules (sessions_after_taken rules now front) back
sessions-append rules now [] back = refl
sessions-append rules now (t ∷ front) back = sessions-append rules (map_after rules now t.op.call) front back

-- and so are the answers
answers-append : (rules : Rules) (first second : ℕ → Option Reply) (seat : ℕ) (now : Sessions)
    (front back : List Taken) → Each (λ t. t.seat ≡ seat) front → second seat ≡ first seat
    → AnswersOf rules first now front → AnswersOf rules second (sessions_after_taken rules now front) back →
    AnswersOf rules second now (front ++ back)
answers-append rules first second seat now [] back here same a b = b
answers-append rules first second seat now (t ∷ front) back here same a b = (
  ap second here.0 ∙ same ∙ ap first (sym here.0) ∙ a.0,
  answers-append rules first second seat (map_after rules now t.op.call) front back here.1 same a.1 b,
)

-- an op that is taken
record IsTakenOp (rules : Rules) (directory : DirectoryState) (loaded : List LoadedBucket) (ops : List (Option Op))
    (t : Taken) : Type 0 where
  says : Announces ops t.seat t.op
  l : LoadedBucket
  at : loaded_of loaded (bucket_of rules directory (key_in t.op.call)) ≡ Some l
  without : is_frozen_without t.seat t.op l ≡ true

module _ (rules : Rules) (seats : ℕ) (directory : DirectoryState) (loaded : List LoadedBucket)
    (ops : List (Option Op)) (can : CanChange rules seats directory loaded ops) where
  -- what is known of all leaves at a stage
  abbrev Leaves : (ℕ → Option Reply) → ℕ → List NewLeaf → Type 0
  Leaves replies seat = Walk rules seats directory loaded ops replies seat

  -- ---- what is taken

  taken-seat : (seat : ℕ) (o : Option Op) → Each (λ t. t.seat ≡ seat) (taken_by_seat rules directory loaded seat o)
  taken-seat seat None = tt
  taken-seat seat (Some op) = go (loaded_of loaded (bucket_of rules directory (key_in op.call)))
    where
      go : (m : Option LoadedBucket) → Each (λ t. t.seat ≡ seat) (taken_if seat op m)
      go None = tt
      go (Some l) = by (is_frozen_without seat op l)
        where
          by : (x : Bool) → Each (λ (t : Taken). t.seat ≡ seat) (cond x (record { seat = seat; op = op } ∷ []) [])
          by true = (refl, tt)
          by false = tt

  -- the ops that are taken from one seat
  taken-ops : (seat : ℕ) (o : Option Op) → get_or ops seat None ≡ o →
      Each (IsTakenOp rules directory loaded ops) (taken_by_seat rules directory loaded seat o)
  taken-ops seat None is = tt
  taken-ops seat (Some op) is = go (loaded_of loaded (bucket_of rules directory (key_in op.call))) refl
    where
      go : (m : Option LoadedBucket) → loaded_of loaded (bucket_of rules directory (key_in op.call)) ≡ m →
          Each (IsTakenOp rules directory loaded ops) (taken_if seat op m)
      go None e = tt
      go (Some l) e = by (is_frozen_without seat op l) refl
        where
          by : (x : Bool) → is_frozen_without seat op l ≡ x →
              Each (IsTakenOp rules directory loaded ops) (cond x (record { seat = seat; op = op } ∷ []) [])
          by true w = (record { says = is; l = l; at = e; without = w }, tt)
          by false w = tt

  -- what holds of each of two lists holds of each of both
  each-join : (P : Taken → Type 0) (xs ys : List Taken) → Each P xs → Each P ys → Each P (xs ++ ys)
  each-join P [] ys p q = q
  each-join P (x ∷ xs) ys p q = (p.0, each-join P xs ys p.1 q)

  -- the ops that are taken are announced
  taken-all : (seat : ℕ) (rest : List (Option Op)) → ((j : ℕ) → get_or ops (seat + j) None ≡ get_or rest j None) →
      Each (IsTakenOp rules directory loaded ops) (taken_from rules directory loaded seat rest)
  taken-all seat [] are = tt
  taken-all seat (o ∷ rest) are =
      each-join (IsTakenOp rules directory loaded ops) (taken_by_seat rules directory loaded seat o)
      (taken_from rules directory loaded (suc seat) rest)
      (taken-ops seat o (ap (λ k. get_or ops k None) (omega arith) ∙ are 0))
      (taken-all (suc seat) rest (λ j. ap (λ k. get_or ops k None) (omega arith) ∙ are (suc j)))

  -- ---- what stays

  -- a bucket that is replaced stays so
  apply-any : (b seat : ℕ) (op : Op) (leaves : List NewLeaf) →
      list_any (comes_from b) (apply rules seat op leaves) ≡ list_any (comes_from b) leaves
  unfolding apply
  apply-any b seat op leaves = at-any rules (key_in op.call)
      (λ leaf. record leaf { bucket = answered rules leaf.bucket seat op } ∷ []) (comes_from b)
      (λ leaf. or-false (comes_from b leaf)) leaves

  -- a bucket that is replaced stays so when another is split
  parts-any : (b : ℕ) (l : LoadedBucket) (leaves : List NewLeaf) → list_any (comes_from b) leaves ≡ true →
      list_any (comes_from b) (with_parts rules l leaves) ≡ true
  parts-any b l leaves there = go (list_any (comes_from l.bucket) leaves)
    where
      whole : NewLeaf
      whole = record { from = Some l.bucket; bucket = l.state }

      top : (x : Bool) → (x || (x || true)) ≡ true
      top true = refl
      top false = refl

      go : (x : Bool) → list_any (comes_from b) (cond x leaves (add_leaf rules (part rules 1 whole)
          (add_leaf rules (part rules 0 whole) leaves))) ≡ true
      go true = there
      go false =
          add-any rules (part rules 1 whole) (comes_from b) (add_leaf rules (part rules 0 whole) leaves)
          ∙ ap (λ x. (l.bucket == b) || x) (add-any rules (part rules 0 whole) (comes_from b) leaves)
          ∙ ap (λ x. (l.bucket == b) || ((l.bucket == b) || x)) there ∙ top (l.bucket == b)

  -- and after a seat
  seat-any : (b seat : ℕ) (o : Option Op) (leaves : List NewLeaf) → list_any (comes_from b) leaves ≡ true →
      list_any (comes_from b) (leaves_after_seat rules directory loaded seat o leaves) ≡ true
  seat-any b seat None leaves there = there
  seat-any b seat (Some op) leaves there = go (loaded_of loaded (bucket_of rules directory (key_in op.call)))
    where
      go : (m : Option LoadedBucket) → list_any (comes_from b) (after_op_in rules seat op leaves m) ≡ true
      go None = there
      go (Some l) = by (is_frozen_without seat op l)
        where
          by : (x : Bool) → list_any (comes_from b) (cond x (apply rules seat op (leaves_for rules op l leaves))
              leaves) ≡ true
          by true = apply-any b seat op (leaves_for rules op l leaves)
              ∙ splits-any rules can.range op.call (comes_from b) (λ bit leaf. refl) rules.depth
              (with_parts rules l leaves) ∙ parts-any b l leaves there
          by false = there

  -- and after all further seats
  rest-any : (b seat : ℕ) (rest : List (Option Op)) (leaves : List NewLeaf) → list_any (comes_from b) leaves ≡ true →
      list_any (comes_from b) (leaves_after rules directory loaded seat rest leaves) ≡ true
  rest-any b seat [] leaves there = there
  rest-any b seat (o ∷ rest) leaves there =
      rest-any b (suc seat) rest (leaves_after_seat rules directory loaded seat o leaves)
      (seat-any b seat o leaves there)

  -- and so does a seat's reply
  seat-keeps : (q seat : ℕ) (o : Option Op) (leaves : List NewLeaf) (replies : ℕ → Option Reply) → q < seat →
      replies_after_seat rules directory loaded seat o leaves replies q ≡ replies q
  seat-keeps q seat None leaves replies lt = refl
  seat-keeps q seat (Some op) leaves replies lt = go (loaded_of loaded (bucket_of rules directory (key_in op.call)))
    where
      go : (m : Option LoadedBucket) → replies_in rules seat op leaves replies m q ≡ replies q
      go None = refl
      go (Some l) = by (is_frozen_without seat op l)
        where
          by : (x : Bool) → cond x (replies_with rules seat op (leaves_for rules op l leaves) replies) replies
              q ≡ replies q
          by true = ap (λ b. cond b (given rules op (leaves_for rules op l leaves)) (replies q)) (other-seat q seat lt)
          by false = refl

  -- the reply of a seat that was gone through stays
  rest-keeps : (q seat : ℕ) (rest : List (Option Op)) (leaves : List NewLeaf) (replies : ℕ → Option Reply) →
      q < seat → replies_after rules directory loaded seat rest leaves replies q ≡ replies q
  rest-keeps q seat [] leaves replies lt = refl
  rest-keeps q seat (o ∷ rest) leaves replies lt =
      rest-keeps q (suc seat) rest (leaves_after_seat rules directory loaded seat o leaves)
      (replies_after_seat rules directory loaded seat o leaves replies) (omega (arith, lt))
      ∙ seat-keeps q seat o leaves replies lt

  -- ---- one seat

  module _ (sessions : Sessions) (ts : List Taken) (goes : ℕ → Bool) where
    -- what is held so far, and the replies so far, are those of the plain object
    abbrev Folds : Sessions → List NewLeaf → Type 0
    Folds = Fold rules sessions loaded ts goes

    -- one seat keeps it
    seat-fold : (replies : ℕ → Option Reply) (seat : ℕ) (o : Option Op) (leaves : List NewLeaf)
        (front tail : List Taken) (now : Sessions) → get_or ops seat None ≡ o → Leaves replies seat leaves →
        Folds now leaves
        → ts ≡ front ++ (taken_by_seat rules directory loaded seat o ++ tail) →
        sessions_after_taken rules sessions front ≡ now
        → ((b : ℕ) → list_any (comes_from b) (leaves_after_seat rules directory loaded seat o leaves) ≡ true →
        goes b ≡ true)
        → Folds (sessions_after_taken rules now (taken_by_seat rules directory loaded seat o))
        (leaves_after_seat rules directory loaded seat o leaves)
        × AnswersOf rules (replies_after_seat rules directory loaded seat o leaves replies) now
        (taken_by_seat rules directory loaded seat o)
    seat-fold replies seat None leaves front tail now is walk folds stage are away = (folds, tt)
    seat-fold replies seat (Some op) leaves front tail now is walk folds stage are away =
        go (loaded_of loaded (bucket_of rules directory (key_in op.call))) refl stage away
      where
        go : (m : Option LoadedBucket) → loaded_of loaded (bucket_of rules directory (key_in op.call)) ≡ m →
            ts ≡ front ++ (taken_if seat op m ++ tail) →
            ((b : ℕ) → list_any (comes_from b) (after_op_in rules seat op leaves m) ≡ true → goes b ≡ true)
            → Folds (sessions_after_taken rules now (taken_if seat op m)) (after_op_in rules seat op leaves m)
            × AnswersOf rules (replies_in rules seat op leaves replies m) now (taken_if seat op m)
        go None e st aw = (folds, tt)
        go (Some l) e st aw = by (is_frozen_without seat op l) refl st aw
          where
            ready : List NewLeaf
            ready = leaves_for rules op l leaves

            by : (x : Bool) → is_frozen_without seat op l ≡ x → ts ≡ front
                ++ (cond x (record { seat = seat; op = op } ∷ []) [] ++ tail) →
                ((b : ℕ) → list_any (comes_from b) (cond x (apply rules seat op ready) leaves) ≡ true → goes b ≡ true)
                → Folds (sessions_after_taken rules now (cond x (record { seat = seat; op = op } ∷ []) []))
                (cond x (apply rules seat op ready) leaves)
                × AnswersOf rules (cond x (replies_with rules seat op ready replies) replies) now
                (cond x (record { seat = seat; op = op } ∷ []) [])
            by true w s a =
                let found = found-l rules seats directory loaded ops can replies seat op l is e leaves walk in
                let frozen = (frozen-parts rules seats directory loaded ops can seat op l w).0 in
                let whole = whole-walk rules seats directory loaded ops can replies seat op l is e leaves walk w in
                let walked = ready-walk rules seats directory loaded ops can replies seat op l is e leaves walk w in
                let from = ready-from rules seats directory loaded ops can replies seat op l is e leaves walk w in
                let end = ready-end rules seats directory loaded ops can replies seat op l is e leaves walk w in
                let gone : goes l.bucket ≡ true = a l.bucket (apply-any l.bucket seat op ready ∙ from) in
                let back : List Taken = record { seat = seat; op = op } ∷ tail in
                let one = parts-fold rules seats directory loaded ops can sessions ts goes replies seat front back s
                now are leaves walk folds l found frozen gone in
                let two = splits-fold rules seats directory loaded ops can sessions ts goes replies seat front back s
                now are (with_parts rules l leaves) whole.0 one op.call rules.depth in
                let three = answer-fold rules seats directory loaded ops can sessions ts goes replies seat front back
                s now are ready walked two op l e from end.0 in
                let reply = given-is rules seats directory loaded ops can sessions ts goes replies seat front back s
                now are ready walked two op l e from end.0 in
                (three, (ap (λ b. cond b (given rules op ready) (replies seat)) (eq-eqb seat seat refl) ∙ reply, tt))
            by false w s a = (folds, tt)

    -- ---- all seats

    rest-fold : (replies : ℕ → Option Reply) (seat : ℕ) (rest : List (Option Op)) (leaves : List NewLeaf)
        (front : List Taken) (now : Sessions) → ((j : ℕ) → get_or ops (seat + j) None ≡ get_or rest j None) →
        Leaves replies seat leaves → Folds now leaves
        → ts ≡ front ++ taken_from rules directory loaded seat rest → sessions_after_taken rules sessions front ≡ now
        → ((b : ℕ) → list_any (comes_from b) (leaves_after rules directory loaded seat rest leaves) ≡ true →
        goes b ≡ true)
        → Folds (sessions_after_taken rules now (taken_from rules directory loaded seat rest))
        (leaves_after rules directory loaded seat rest leaves)
        × AnswersOf rules (replies_after rules directory loaded seat rest leaves replies) now
        (taken_from rules directory loaded seat rest)
    rest-fold replies seat [] leaves front now at walk folds stage are away = (folds, tt)
    rest-fold replies seat (o ∷ rest) leaves front now at walk folds stage are away =
        let here : get_or ops seat None ≡ o = ap (λ k. get_or ops k None) (omega arith) ∙ at 0 in
        let mine = taken_by_seat rules directory loaded seat o in
        let tail = taken_from rules directory loaded (suc seat) rest in
        let next = leaves_after_seat rules directory loaded seat o leaves in
        let got = replies_after_seat rules directory loaded seat o leaves replies in
        let walked = seat-walk rules seats directory loaded ops can replies seat o leaves here walk in
        let one = seat-fold replies seat o leaves front tail now here walk folds stage are
        (λ b there. away b (rest-any b (suc seat) rest next there)) in
        let later = rest-fold got (suc seat) rest next (front ++ mine) (sessions_after_taken rules now mine)
        (λ j. ap (λ k. get_or ops k None) (omega arith) ∙ at (suc j)) walked.0 one.0
        (stage ∙ sym (append_assoc front mine tail)) (sessions-append rules sessions front mine
        ∙ ap (λ m. sessions_after_taken rules m mine) are) away in (
          subst (λ m. Folds m (leaves_after rules directory loaded (suc seat) rest next))
              (sym (sessions-append rules now mine tail)) later.0,
          answers-append rules got (replies_after rules directory loaded (suc seat) rest next got) seat now mine tail
              (taken-seat seat o) (rest-keeps seat (suc seat) rest next got (omega arith)) one.1 later.1,
        )

  -- ---- the replies stand in the leaves

  in-leaves : (replies : ℕ → Option Reply) (leaves : List NewLeaf) → Leaves replies seats leaves →
      (now : Sessions) (ts : List Taken) → AnswersOf rules replies now ts →
      Each (IsTakenOp rules directory loaded ops) ts
      → AreAnsweredInLeaves rules now leaves ts
  in-leaves replies leaves walk now [] answers each = tt
  in-leaves replies leaves walk now (t ∷ ts) answers each =
      let k = each.0 in
      let seat = announced-seat rules seats directory loaded ops can t.seat t.op k.says in
      let there = walk.done t.seat t.op k.l seat k.says k.at k.without in
      let own = own-leaf rules seats directory loaded ops can replies seats leaves walk (key_in t.op.call)
      (ap (λ b. list_any (comes_from b) leaves) (sym (loaded-is rules seats directory loaded ops can
      (bucket_of rules directory (key_in t.op.call)) k.l k.at)) ∙ there) in
      let same : own.is.l ≡ k.l = leaf-loaded rules seats directory loaded ops can own.leaf own.is.l k.l
      (key_in t.op.call) own.is.is own.inside k.at in
      let reply = own.is.own t.seat t.op seat k.says (subst (λ x. is_frozen_without t.seat t.op x ≡ true) (sym same)
      k.without) own.inside in (
        some-and (λ leaf. reply_at leaf.bucket t.seat ≡ Some (reply_of rules now t.op.call))
            (leaf_of rules (key_in t.op.call) leaves) own.leaf own.at (reply.1 ∙ answers.0),
        in-leaves replies leaves walk (map_after rules now t.op.call) ts answers.1 each.1,
      )

  -- ---- the whole change

  module _ (sessions : Sessions) (hold : HoldSessions rules sessions loaded
      (leaves_after rules directory loaded 0 ops [])) where
    -- the leaves in the end
    abbrev made : List NewLeaf
    made = leaves_after rules directory loaded 0 ops []

    -- which buckets are replaced in the end
    abbrev goes : ℕ → Bool
    goes b = is_replaced b made

    -- all seats keep it
    pub whole-fold : Fold rules sessions loaded (taken rules directory loaded ops) goes
        (sessions_after_taken rules sessions (taken rules directory loaded ops)) made
        × AreAnsweredInLeaves rules sessions made (taken rules directory loaded ops)
    whole-fold =
        let at : (j : ℕ) → get_or ops (0 + j) None ≡ get_or ops j None = λ j. ap (λ k. get_or ops k None)
        (omega arith) in
        let folds = rest-fold sessions (taken rules directory loaded ops) goes
        (no_replies rules seats directory loaded ops can) 0 ops [] [] sessions at
        (start-walk rules seats directory loaded ops can)
        (record {
          each = tt;
          rest = λ m found e away. (found-each
              (λ (l : LoadedBucket). is_replaced l.bucket made ≡ true →
              HoldsPart rules l.state.prefix l.state.depth l.state.items
              sessions) (is_bucket m.bucket) loaded m (recursion_from_All _ loaded hold) found).0 away;
        })
        refl refl (λ b there. there) in (
          folds.0,
          in-leaves (all_replies rules seats directory loaded ops can) made
              (whole-change rules seats directory loaded ops can).0 sessions (taken rules directory loaded ops)
              folds.1 (taken-all 0 ops at),
        )

-- the law of the fold
pub leaves_fold : LeavesFold
unfolding change_leaves
leaves_fold rules seats sessions directory loaded ops can hold =
    let whole = whole-fold rules seats directory loaded ops can sessions hold in
    let ts = taken rules directory loaded ops in (
      All-from_recursion _ _ (each-alike (Held rules sessions loaded ts (sessions_after_taken rules sessions ts))
          (λ leaf. HoldsPart rules leaf.bucket.prefix leaf.bucket.depth leaf.bucket.items
          (sessions_after_taken rules sessions ts)) (λ leaf k. k.part)
          (change_leaves rules directory loaded ops) whole.0.each),
      whole.1,
    )

-- the law of the causes
pub splits_have_causes : SplitsHaveCauses
unfolding change_leaves
splits_have_causes rules seats sessions directory loaded ops can hold =
    let whole = whole-fold rules seats directory loaded ops can sessions hold in
    let ts = taken rules directory loaded ops in
    All-from_recursion _ _ (each-alike (Held rules sessions loaded ts (sessions_after_taken rules sessions ts))
    (λ leaf. (l : LoadedBucket) (depth : ℕ) → IsLeafOf rules seats loaded leaf l → l.state.depth ≤ depth →
    depth < leaf.bucket.depth → WasFull rules sessions ts leaf depth)
    (λ leaf k l depth is le lt. k.causes l depth is.from is.found le lt) (change_leaves rules directory loaded ops)
    whole.0.each)
