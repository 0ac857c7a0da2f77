-- The calls of a directory row are the ops that the directory change took, one after the other; so they make of what is
-- held what the new leaves hold.
use Rattle.std.proofs.Common.{◌≡◌, ◌≢◌, ℕ, zero, suc, ◌+◌, ◌<◌, ◌⊎◌, true, List, [], ◌∷◌, ◌++◌, length, get_or, Option, Some, None, add-one, refl, inl, inr, sym, ap, ◌∙◌, subst, arith}
use Rattle.std.specs.Prelude.{find, flat_map, option_to_list, IsSomeAnd}
use Rattle.std.specs.Option.{option_map_or}
use Rattle.std.specs.List.{range_with_len}
use Rattle.std.proofs.lemmas.Bool.{cond_both}
use Rattle.plain_map.specs.declared.keys.Key.{Key}
use Rattle.plain_map.specs.declared.rules.Rules.{Rules}
use Rattle.plain_map.specs.declared.records.Record.{Record}
use Rattle.plain_map.specs.Calls.{key_in}
use Rattle.plain_map.specs.PlainObject.{Sessions, reply_of, map_after}
use Rattle.plain_map.specs.History.{Placed, answered, pending, call_in, seat_of, number_of, HasReply, Legal, sessions_after}
use Rattle.bucket_states.specs.declared.ops.Op.{Op}
use Rattle.bucket_states.specs.States.{BucketState}
use Rattle.bucket_states.specs.Parts.{HoldsPart}
use Rattle.bucket_states.specs.Laws.{reply_at, Announces, Taken, sessions_after_taken}
use Rattle.table_model.specs.Setup.{Setup, seats_of, rules_of}
use Rattle.table_model.specs.Directories.{DirectoryState, bucket_of}
use Rattle.table_model.specs.Leaves.{NewLeaf, leaf_of}
use Rattle.table_model.specs.DirectoryChange.{LoadedBucket, loaded_of, is_frozen_without, change_leaves}
use Rattle.table_model.specs.DirectoryLaws.{CanChange, is_replaced, taken_if, taken_by_seat, taken_from, taken, AreAnsweredInLeaves}
use Rattle.table_model.specs.Order.{Closing, ByDirectoryRow, calls_of, is_call, first_rows, new_in_rows, calls_in}
use Rattle.list_laws.proofs.Lists.{In}
use Rattle.closed_laws.proofs.Book.{Book, Written}
use Rattle.closed_laws.proofs.Ledger.{Ledger, NewInVersion, IsCallOf, call_at, find_exactly, in_new, new_from, version_new, new_version}

-- as LeavesFold of table_model, but only the buckets that the change replaces need hold their parts: another may have
-- been loaded long before, and have gone on since
abbrev pub LeavesFoldReplaced : Type 0
LeavesFoldReplaced =
    (rules : Rules) (seats : ℕ) (sessions : Sessions) (directory : DirectoryState) (loaded : List LoadedBucket)
    (ops : List (Option Op)) →
    CanChange rules seats directory loaded ops →
    ((l : LoadedBucket) → In l loaded → is_replaced l.bucket (change_leaves rules directory loaded ops) ≡ true →
    HoldsPart rules l.state.prefix l.state.depth l.state.items sessions) →
    (let leaves = change_leaves rules directory loaded ops in
    let ts = taken rules directory loaded ops in
    ((leaf : NewLeaf) → In leaf leaves → HoldsPart rules leaf.bucket.prefix leaf.bucket.depth leaf.bucket.items
    (sessions_after_taken rules sessions ts))
    × AreAnsweredInLeaves rules sessions leaves ts)

-- the same calls, one after the other, and each answered one was given what the leaf of its key says
abbrev pub AlikeIn : Rules → List NewLeaf → List Placed → List Taken → Type 0
AlikeIn rules leaves [] [] = Unit {0}
AlikeIn rules leaves [] (t ∷ ts) = ⊥
AlikeIn rules leaves (c ∷ cs) [] = ⊥
AlikeIn rules leaves (c ∷ cs) (t ∷ ts) =
    (call_in c ≡ t.op.call) × ((r : Record) (leaf : NewLeaf) → c ≡ answered r →
    leaf_of rules (key_in t.op.call) leaves ≡ Some leaf → reply_at leaf.bucket t.seat ≡ Some r.reply)
    × AlikeIn rules leaves cs ts

-- calls that are alike leave the same
pub alike_in_sessions : (rules : Rules) (sessions : Sessions) (leaves : List NewLeaf) (cs : List Placed)
    (ts : List Taken) → AlikeIn rules leaves cs ts →
    sessions_after rules sessions cs ≡ sessions_after_taken rules sessions ts
alike_in_sessions rules sessions leaves [] [] a = refl
alike_in_sessions rules sessions leaves [] (t ∷ ts) a = elim a [ ]
alike_in_sessions rules sessions leaves (c ∷ cs) [] a = elim a [ ]
alike_in_sessions rules sessions leaves (c ∷ cs) (t ∷ ts) a =
    ap (λ call. sessions_after rules (map_after rules sessions call) cs) a.0
    ∙ alike_in_sessions rules (map_after rules sessions t.op.call) leaves cs ts a.2

-- the reply of the taken call is that of the plain object
has_reply : (rules : Rules) (sessions : Sessions) (c : Placed) (t : Taken) (o : Option NewLeaf) →
    call_in c ≡ t.op.call → ((r : Record) (leaf : NewLeaf) → c ≡ answered r → o ≡ Some leaf →
    reply_at leaf.bucket t.seat ≡ Some r.reply) →
    IsSomeAnd o (λ leaf. reply_at leaf.bucket t.seat ≡ Some (reply_of rules sessions t.op.call)) →
    HasReply rules sessions c
has_reply rules sessions (pending p) t o e h is = tt
has_reply rules sessions (answered r) t None e h is = elim is [ ]
has_reply rules sessions (answered r) t (Some leaf) e h is =
    let same : Some r.reply ≡ Some (reply_of rules sessions t.op.call) = sym (h r leaf refl refl) ∙ is in
    let reply : r.reply ≡ reply_of rules sessions t.op.call = cc in
    reply ∙ ap (reply_of rules sessions) (sym e)

-- so calls that are alike are legal where the taken ones are
pub alike_in_legal : (rules : Rules) (sessions : Sessions) (leaves : List NewLeaf) (cs : List Placed)
    (ts : List Taken) → AlikeIn rules leaves cs ts → AreAnsweredInLeaves rules sessions leaves ts →
    Legal rules sessions cs
alike_in_legal rules sessions leaves [] [] a h = tt
alike_in_legal rules sessions leaves [] (t ∷ ts) a h = elim a [ ]
alike_in_legal rules sessions leaves (c ∷ cs) [] a h = elim a [ ]
alike_in_legal rules sessions leaves (c ∷ cs) (t ∷ ts) a h = (
  has_reply rules sessions c t (leaf_of rules (key_in t.op.call) leaves) a.0 a.1 h.0,
  subst (λ call. Legal rules (map_after rules sessions call) cs) (sym a.0)
      (alike_in_legal rules (map_after rules sessions t.op.call) leaves cs ts a.2 h.1),
)

-- what the layers know of a version: it is what a directory change made of the one before it
pub record VersionStep (setup : Setup) (closing : Closing) (k : Book) (v : ℕ) : Type 0 where
  pub loaded : List LoadedBucket
  pub ops : List (Option Op)
  pub can : CanChange (rules_of setup) (seats_of setup) (k.dir_at v) loaded ops
  -- each op is the call of its seat with its number
  pub real : (q : ℕ) (op : Op) (c : Placed) → Announces ops q op → In c (calls_of closing) → seat_of c ≡ q →
      number_of c ≡ op.number → call_in c ≡ op.call
  -- the numbers that are new in the new leaves are those of the taken ops
  pub taken_new : (q : ℕ) (op : Op) → Announces ops q op →
      taken_by_seat (rules_of setup) (k.dir_at v) loaded q (Some op) ≢ [] → NewInVersion k v q op.number
  pub new_taken : (q m : ℕ) → NewInVersion k v q m →
      (op : Op) × Announces ops q op × (op.number ≡ m)
      × (taken_by_seat (rules_of setup) (k.dir_at v) loaded q (Some op) ≢ [])
  -- a taken op's bucket is replaced
  pub changes : (q : ℕ) (op : Op) → Announces ops q op →
      taken_by_seat (rules_of setup) (k.dir_at v) loaded q (Some op) ≢ [] →
      bucket_of (rules_of setup) (k.dir_at (v + 1)) (key_in op.call) ≢ bucket_of (rules_of setup) (k.dir_at v)
      (key_in op.call)
  -- an answered update that was taken has the reply of the leaf of its key: one reply per number
  pub replies : (r : Record) (op : Op) (leaf : NewLeaf) → In (answered r) (calls_of closing) →
      Announces ops r.seat op → op.number ≡ r.number →
      taken_by_seat (rules_of setup) (k.dir_at v) loaded r.seat (Some op) ≢ [] →
      leaf_of (rules_of setup) (key_in op.call) (change_leaves (rules_of setup) (k.dir_at v) loaded ops) ≡ Some
      leaf → reply_at leaf.bucket r.seat ≡ Some r.reply
  -- the replaced buckets are those of keys whose bucket changes, in their last rows; and the new buckets are the
  -- leaves
  pub replaced : (l : LoadedBucket) → In l loaded →
      is_replaced l.bucket (change_leaves (rules_of setup) (k.dir_at v) loaded ops) ≡ true →
      (key : Key) × (bucket_of (rules_of setup) (k.dir_at (v + 1)) key ≢ bucket_of (rules_of setup) (k.dir_at v) key)
      × (l.state ≡ k.state_at (bucket_of (rules_of setup) (k.dir_at v) key)
      (k.top (bucket_of (rules_of setup) (k.dir_at v) key)))
  pub leaf : (key : Key) → bucket_of (rules_of setup) (k.dir_at (v + 1)) key ≢ bucket_of (rules_of setup)
      (k.dir_at v) key →
      (leaf : NewLeaf) × In leaf (change_leaves (rules_of setup) (k.dir_at v) loaded ops)
      × (leaf.bucket ≡ k.state_at (bucket_of (rules_of setup) (k.dir_at (v + 1)) key) 0)

module _ (setup : Setup) (closing : Closing) (k : Book) (w : Written setup closing.words k)
    (l : Ledger setup closing k) (folds : LeavesFoldReplaced) (v : ℕ) (h : v < k.dir_top)
    (step : VersionStep setup closing k v) where
  -- the new leaves
  abbrev leaves : List NewLeaf
  leaves = change_leaves (rules_of setup) (k.dir_at v) step.loaded step.ops

  -- their first rows
  abbrev rows : List ℕ
  rows = first_rows setup.shape closing.words (k.dir_row (v + 1))

  -- the ops that were taken, by seats
  abbrev took : ℕ → Option Op → List Taken
  took q o = taken_by_seat (rules_of setup) (k.dir_at v) step.loaded q o

  -- the calls of the new numbers, by seats
  abbrev called : ℕ → Option ℕ → List Placed
  called q o = option_map_or (λ number. option_to_list (find (is_call q number) (calls_of closing))) o []

  -- a seat takes one op, or none
  took_one : (q : ℕ) (o : Option Op) → (took q o ≡ [])
      ⊎ ((op : Op) × (o ≡ Some op) × (took q o ≡ record { seat = q; op = op } ∷ []) × (took q (Some op) ≢ []))
  took_one q None = inl refl
  took_one q (Some op) = go (took q (Some op)) refl (either q op)
    where
      either : (q : ℕ) (op : Op) → (took q (Some op) ≡ []) ⊎ (took q (Some op) ≡ record { seat = q; op = op } ∷ [])
      either q op = on q op (loaded_of step.loaded (bucket_of (rules_of setup) (k.dir_at v) (key_in op.call)))
        where
          on : (q : ℕ) (op : Op) (o : Option LoadedBucket) →
              (taken_if q op o ≡ []) ⊎ (taken_if q op o ≡ record { seat = q; op = op } ∷ [])
          on q op None = inl refl
          on q op (Some x) = cond_both (is_frozen_without q op x) (record { seat = q; op = op } ∷ []) []
              (λ (z : List Taken). (z ≡ []) ⊎ (z ≡ record { seat = q; op = op } ∷ [])) (λ e. inr refl) (λ e. inl refl)

      go : (ts : List Taken) → took q (Some op) ≡ ts →
          (took q (Some op) ≡ []) ⊎ (took q (Some op) ≡ record { seat = q; op = op } ∷ []) →
          (took q (Some op) ≡ []) ⊎ ((z : Op) × (Some op ≡ Some z)
          × (took q (Some op) ≡ record { seat = q; op = z } ∷ []) × (took q (Some z) ≢ []))
      go ts e (inl n) = inl n
      go ts e (inr y) = inr (op, refl, y, λ n. nothing (record { seat = q; op = op }) (sym y ∙ n))
        where
          nothing : (t : Taken) → t ∷ [] ≡ [] → ⊥
          nothing t e = cc

  -- a seat of which nothing was taken has no call
  none_here : (q : ℕ) → took q (get_or step.ops q None) ≡ [] → call_at setup closing k w l rows q ≡ []
  none_here q e = go (new_in_rows setup.shape closing.words rows q) refl
    where
      go : (o : Option ℕ) → new_in_rows setup.shape closing.words rows q ≡ o → called q o ≡ []
      go None s = refl
      go (Some m) s =
          let f = new_from setup closing.words rows q m s in
          let t = step.new_taken q m (version_new setup closing k w v f.0 q m h f.1 f.2) in
          absurd (t.3 (ap (took q) (sym t.1) ∙ e))

  -- a seat of which an op was taken has its call
  one_here : (q : ℕ) (op : Op) → q < seats_of setup → Announces step.ops q op → took q (Some op) ≢ [] →
      (c : Placed) × (call_at setup closing k w l rows q ≡ c ∷ []) × (call_in c ≡ op.call)
      × ((r : Record) (leaf : NewLeaf) → c ≡ answered r →
      leaf_of (rules_of setup) (key_in op.call) leaves ≡ Some leaf → reply_at leaf.bucket q ≡ Some r.reply)
  one_here q op inside announced is_taken =
      let new = step.taken_new q op announced is_taken in
      let m = op.number in
      let there = new_version setup closing k w v q m new in
      let some = in_new setup closing.words rows (k.row_at new.bucket 0) q m there.0 there.1 in
      let back = new_from setup closing.words rows q some.0 some.1 in
      let number = l.one_number v q some.0 m (version_new setup closing k w v back.0 q some.0 h back.1 back.2) new in
      let a = l.applied new.bucket 0 q new.named (omega arith) inside (omega (arith, new.above, new.is)) in
      let is : IsCallOf closing q m a.0 =
      record { there = a.1.there; seat = a.1.seat; number = a.1.number ∙ new.is } in (
        a.0,
        ap (called q) (some.1 ∙ ap Some number) ∙ ap option_to_list (find_exactly setup closing k w l q m a.0 is),
        step.real q op a.0 announced is.there is.seat is.number,
        λ r leaf e f.
            let seat : r.seat ≡ q = ap seat_of (sym e) ∙ is.seat in
            let number : r.number ≡ m = ap number_of (sym e) ∙ is.number in
            subst (λ s. reply_at leaf.bucket s ≡ Some r.reply) seat
            (step.replies r op leaf (subst (λ z. In z (calls_of closing)) e is.there)
            (subst (λ s. Announces step.ops s op) (sym seat) announced) (sym number)
            (subst (λ s. took s (Some op) ≢ []) (sym seat) is_taken) f),
      )

  -- so they are alike from each seat on
  alike_from : (q many : ℕ) (rest : List (Option Op)) → length rest ≡ many → q + many ≡ seats_of setup →
      ((j : ℕ) → get_or rest j None ≡ get_or step.ops (q + j) None) →
      AlikeIn (rules_of setup) leaves (flat_map (call_at setup closing k w l rows) (range_with_len q many))
      (taken_from (rules_of setup) (k.dir_at v) step.loaded q rest)
  alike_from q zero [] e s same = tt
  alike_from q zero (op ∷ rest) e s same = absurd (omega (arith, e))
  alike_from q (suc many) [] e s same = absurd (omega (arith, e))
  alike_from q (suc many) (o ∷ rest) e s same =
      let calls = flat_map (call_at setup closing k w l rows) (range_with_len (q + 1) many) in
      let ts = taken_from (rules_of setup) (k.dir_at v) step.loaded (suc q) rest in
      let tail : AlikeIn (rules_of setup) leaves calls ts =
      subst (λ z. AlikeIn (rules_of setup) leaves calls
      (taken_from (rules_of setup) (k.dir_at v) step.loaded z rest)) (add-one q)
      (alike_from (q + 1) many rest (omega (arith, e)) (omega (arith, s))
      (λ j. same (suc j) ∙ ap (λ z. get_or step.ops z None) (omega arith))) in
      let head : o ≡ get_or step.ops q None = same 0 ∙ ap (λ z. get_or step.ops z None) (omega arith) in
      elim (took_one q o) [
        | inl none ↦
            subst (λ xs. AlikeIn (rules_of setup) leaves (call_at setup closing k w l rows q ++ calls) (xs ++ ts))
            (sym none)
            (subst (λ cs. AlikeIn (rules_of setup) leaves (cs ++ calls) ts)
            (sym (none_here q (ap (took q) (sym head) ∙ none))) tail)
        | inr t ↦
            let one = one_here q t.0 (omega (arith, s)) (sym head ∙ t.1) t.3 in
            subst (λ xs. AlikeIn (rules_of setup) leaves (call_at setup closing k w l rows q ++ calls) (xs ++ ts))
            (sym t.2)
            (subst (λ cs. AlikeIn (rules_of setup) leaves (cs ++ calls) (record { seat = q; op = t.0 } ∷ ts))
            (sym one.1) (one.2, one.3, tail))
      ]

  -- so the calls of the version are those that were taken
  pub version_alike : AlikeIn (rules_of setup) leaves
      (calls_in setup.shape closing (ByDirectoryRow (k.dir_row (v + 1))))
      (taken (rules_of setup) (k.dir_at v) step.loaded step.ops)
  version_alike = alike_from 0 (seats_of setup) step.ops step.can.each_seat (omega arith)
      (λ j. ap (λ z. get_or step.ops z None) (omega arith))

  -- so they make of what is held what the leaves hold, and are legal
  pub version_folds : (sessions : Sessions) →
      ((key : Key) → bucket_of (rules_of setup) (k.dir_at (v + 1)) key ≢ bucket_of (rules_of setup) (k.dir_at v) key →
      (let old = k.state_at (bucket_of (rules_of setup) (k.dir_at v) key)
      (k.top (bucket_of (rules_of setup) (k.dir_at v) key)) in
      HoldsPart (rules_of setup) old.prefix old.depth old.items sessions)) →
      ((key : Key) → bucket_of (rules_of setup) (k.dir_at (v + 1)) key ≢ bucket_of (rules_of setup) (k.dir_at v) key →
      (let new = k.state_at (bucket_of (rules_of setup) (k.dir_at (v + 1)) key) 0 in
      HoldsPart (rules_of setup) new.prefix new.depth new.items
      (sessions_after (rules_of setup) sessions
      (calls_in setup.shape closing (ByDirectoryRow (k.dir_row (v + 1)))))))
      × Legal (rules_of setup) sessions (calls_in setup.shape closing (ByDirectoryRow (k.dir_row (v + 1))))
  version_folds sessions held =
      let calls = calls_in setup.shape closing (ByDirectoryRow (k.dir_row (v + 1))) in
      let ts = taken (rules_of setup) (k.dir_at v) step.loaded step.ops in
      let r = folds (rules_of setup) (seats_of setup) sessions (k.dir_at v) step.loaded step.ops step.can
      (λ x i e. let at = step.replaced x i e in
      subst (λ (s : BucketState). HoldsPart (rules_of setup) s.prefix s.depth s.items sessions) (sym at.2)
      (held at.0 at.1)) in (
        (λ key n. let f = step.leaf key n in
            subst (λ (s : BucketState). HoldsPart (rules_of setup) s.prefix s.depth s.items
            (sessions_after (rules_of setup) sessions calls)) f.2
            (subst (HoldsPart (rules_of setup) f.0.bucket.prefix f.0.bucket.depth f.0.bucket.items)
            (sym (alike_in_sessions (rules_of setup) sessions leaves calls ts version_alike)) (r.0 f.0 f.1))),
        alike_in_legal (rules_of setup) sessions leaves calls ts version_alike r.1,
      )
