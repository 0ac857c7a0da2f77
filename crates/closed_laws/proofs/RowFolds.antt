-- The calls of a bucket row are the ops that the bucket change took, one after the other.
use Rattle.std.proofs.Common.{◌≡◌, ℕ, zero, suc, ◌+◌, ◌<◌, true, false, List, [], ◌∷◌, ◌++◌, length, get_or, Option, Some, None, add-one, refl, inl, inr, sym, ap, ◌∙◌, subst, arith, eq-eqb}
use Rattle.std.specs.Prelude.{find, flat_map, option_to_list, nat_lt, ◌==◌}
use Rattle.std.specs.Option.{option_map_or}
use Rattle.std.specs.List.{range_with_len}
use Rattle.std.proofs.lemmas.Bool.{cond-false, ne_eqb, le-ltb}
use Rattle.plain_map.specs.declared.rules.Rules.{Rules}
use Rattle.plain_map.specs.declared.records.Record.{Record}
use Rattle.plain_map.specs.PlainObject.{Sessions, InRange, reply_of, map_after}
use Rattle.plain_map.specs.History.{Placed, answered, pending, call_in, seat_of, number_of, HasReply, Legal, sessions_after}
use Rattle.bucket_states.specs.declared.ops.Op.{Op}
use Rattle.bucket_states.specs.States.{BucketState}
use Rattle.bucket_states.specs.Change.{change}
use Rattle.bucket_states.specs.Parts.{HoldsPart}
use Rattle.bucket_states.specs.Laws.{applied_of, reply_at, Announces, IsGood, HasSeats, IsTaken, OnlyAnnounced, Taken, taken_at, taken_from, taken, sessions_after_taken, AreAnswered, FoldsAlike}
use Rattle.table_model.specs.Setup.{Setup, seats_of, rules_of}
use Rattle.table_model.specs.Reading.{applied_at}
use Rattle.table_model.specs.Order.{Closing, ByBucketRow, calls_of, is_call, new_number, calls_in}
use Rattle.list_laws.proofs.Lists.{In}
use Rattle.closed_laws.proofs.Book.{Book, Written}
use Rattle.closed_laws.proofs.Ledger.{Ledger, NewInRow, IsCallOf, applied_is, new_by, base_then, new_row, call_at, find_exactly}

-- the same calls, one after the other, and each answered one was given what the bucket says
abbrev pub Alike : BucketState → List Placed → List Taken → Type 0
Alike now [] [] = Unit {0}
Alike now [] (t ∷ ts) = ⊥
Alike now (c ∷ cs) [] = ⊥
Alike now (c ∷ cs) (t ∷ ts) = (call_in c ≡ t.op.call)
    × ((r : Record) → c ≡ answered r → reply_at now t.seat ≡ Some r.reply) × Alike now cs ts

-- calls that are alike leave the same
pub alike_sessions : (rules : Rules) (sessions : Sessions) (now : BucketState) (cs : List Placed) (ts : List Taken) →
    Alike now cs ts → sessions_after rules sessions cs ≡ sessions_after_taken rules sessions ts
alike_sessions rules sessions now [] [] a = refl
alike_sessions rules sessions now [] (t ∷ ts) a = elim a [ ]
alike_sessions rules sessions now (c ∷ cs) [] a = elim a [ ]
alike_sessions rules sessions now (c ∷ cs) (t ∷ ts) a =
    ap (λ call. sessions_after rules (map_after rules sessions call) cs) a.0
    ∙ alike_sessions rules (map_after rules sessions t.op.call) now cs ts a.2

-- the reply of the taken call is that of the plain object
has_reply : (rules : Rules) (sessions : Sessions) (now : BucketState) (c : Placed) (t : Taken) →
    call_in c ≡ t.op.call → ((r : Record) → c ≡ answered r → reply_at now t.seat ≡ Some r.reply) →
    reply_at now t.seat ≡ Some (reply_of rules sessions t.op.call) → HasReply rules sessions c
has_reply rules sessions now (pending p) t e h is = tt
has_reply rules sessions now (answered r) t e h is =
    let same : Some r.reply ≡ Some (reply_of rules sessions t.op.call) = sym (h r refl) ∙ is in
    let reply : r.reply ≡ reply_of rules sessions t.op.call = cc in
    reply ∙ ap (reply_of rules sessions) (sym e)

-- so calls that are alike are legal where the taken ones are
pub alike_legal : (rules : Rules) (sessions : Sessions) (now : BucketState) (cs : List Placed) (ts : List Taken) →
    Alike now cs ts → AreAnswered rules sessions now ts → Legal rules sessions cs
alike_legal rules sessions now [] [] a h = tt
alike_legal rules sessions now [] (t ∷ ts) a h = elim a [ ]
alike_legal rules sessions now (c ∷ cs) [] a h = elim a [ ]
alike_legal rules sessions now (c ∷ cs) (t ∷ ts) a h = (
  has_reply rules sessions now c t a.0 a.1 h.0,
  subst (λ call. Legal rules (map_after rules sessions call) cs) (sym a.0)
      (alike_legal rules (map_after rules sessions t.op.call) now cs ts a.2 h.1),
)

-- what the layers know of a row that was exchanged: it is what a bucket change made of the row before it, of ops that
-- their seats had announced
pub record RowStep (setup : Setup) (closing : Closing) (k : Book) (b i : ℕ) : Type 0 where
  pub ops : List (Option Op)
  pub long : length ops ≡ seats_of setup
  pub good : IsGood (rules_of setup) (seats_of setup) (k.state_at b i)
  pub is : k.state_at b (i + 1) ≡ change (rules_of setup) ops (k.state_at b i)
  -- each is the call of its seat with its number
  pub real : (q : ℕ) (op : Op) (c : Placed) → Announces ops q op → In c (calls_of closing) → seat_of c ≡ q →
      number_of c ≡ op.number → call_in c ≡ op.call

module _ (setup : Setup) (closing : Closing) (k : Book) (w : Written setup closing.words k)
    (l : Ledger setup closing k) (only : OnlyAnnounced) (folds : FoldsAlike) (range : InRange (rules_of setup))
    (b i : ℕ) (n : k.named b ≡ true) (h : i < k.top b) (step : RowStep setup closing k b i)
    -- an answered update has the reply of each row with its number: one reply per number
    (replies : (r : Record) → In (answered r) (calls_of closing) →
    applied_of (k.state_at b (i + 1)) r.seat ≡ r.number → reply_at (k.state_at b (i + 1)) r.seat ≡ Some r.reply)
  where
    abbrev was : BucketState
    was = k.state_at b i

    abbrev now : BucketState
    now = change (rules_of setup) step.ops was

    abbrev rows : List ℕ
    rows = k.row_at b (i + 1) ∷ []

    seats : HasSeats was step.ops
    seats = (omega (arith, step.good.numbers, step.long), omega (arith, step.good.answers, step.long))

    -- a seat whose number stays has no call here
    none_here : (q : ℕ) → applied_of now q ≡ applied_of was q → call_at setup closing k w l rows q ≡ []
    none_here q e =
        let low = applied_at setup.shape closing.words (k.row_at b i) q in
        let high = applied_at setup.shape closing.words (k.row_at b (i + 1)) q in
        let same : high ≡ low = applied_is setup closing k w b (i + 1) q n (omega (arith, h))
        ∙ ap (λ (s : BucketState). applied_of s q) step.is ∙ e
        ∙ sym (applied_is setup closing k w b i q n (omega (arith, h))) in
        let nothing : new_number setup.shape closing.words q (k.row_at b (i + 1)) ≡ None =
        new_by setup closing k w q (k.row_at b (i + 1)) (Some (k.row_at b i)) (base_then setup closing k w b i n h)
        ∙ cond-false (nat_lt low high) (Some high) None (le-ltb low high (omega (arith, same))) in
        ap (λ o. option_map_or (λ number. option_to_list (find (is_call q number) (calls_of closing)))
        (option_map_or Some o None) []) nothing

    -- one whose op was taken has that op's call
    one_here : (q : ℕ) → q < seats_of setup → (t : IsTaken (rules_of setup) step.ops was now q) →
        (c : Placed) × (call_at setup closing k w l rows q ≡ c ∷ []) × (call_in c ≡ t.op.call)
        × ((r : Record) → c ≡ answered r → reply_at now q ≡ Some r.reply)
    one_here q inside t =
        let m = t.op.number in
        let here : applied_of (k.state_at b (i + 1)) q ≡ m =
        ap (λ (s : BucketState). applied_of s q) step.is ∙ t.applied in
        let new : NewInRow k b i q m = record { named = n; inside = h; above = t.above; is = here } in
        let a = l.applied b (i + 1) q n (omega (arith, h)) inside (omega (arith, here, t.above)) in
        let is : IsCallOf closing q m a.0 =
        record { there = a.1.there; seat = a.1.seat; number = a.1.number ∙ here } in (
          a.0,
          ap (λ o. option_map_or (λ number. option_to_list (find (is_call q number) (calls_of closing)))
              (option_map_or Some o None) []) (new_row setup closing k w b i q m new)
              ∙ ap option_to_list (find_exactly setup closing k w l q m a.0 is),
          step.real q t.op a.0 t.announced is.there is.seat is.number,
          λ r e. subst (λ (s : BucketState). reply_at s q ≡ Some r.reply) step.is
              (let seat : r.seat ≡ q = ap seat_of (sym e) ∙ is.seat in
              let number : r.number ≡ m = ap number_of (sym e) ∙ is.number in
              subst (λ s. reply_at (k.state_at b (i + 1)) s ≡ Some r.reply) seat
              (replies r (subst (λ z. In z (calls_of closing)) e is.there)
              (ap (applied_of (k.state_at b (i + 1))) seat ∙ here ∙ sym number))),
        )

    -- seat by seat
    alike_from : (q many : ℕ) (rest : List (Option Op)) → length rest ≡ many → q + many ≡ seats_of setup →
        ((j : ℕ) → get_or rest j None ≡ get_or step.ops (q + j) None) →
        Alike now (flat_map (call_at setup closing k w l rows) (range_with_len q many)) (taken_from q rest was now)
    alike_from q zero [] e s same = tt
    alike_from q zero (op ∷ rest) e s same = absurd (omega (arith, e))
    alike_from q (suc many) [] e s same = absurd (omega (arith, e))
    alike_from q (suc many) (op ∷ rest) e s same =
        let tail = subst (λ z. Alike now (flat_map (call_at setup closing k w l rows) (range_with_len (q + 1) many))
        (taken_from z rest was now)) (add-one q)
        (alike_from (q + 1) many rest (omega (arith, e)) (omega (arith, s))
        (λ j. same (suc j) ∙ ap (λ z. get_or step.ops z None) (omega arith))) in
        let head : op ≡ get_or step.ops q None = same 0 ∙ ap (λ z. get_or step.ops z None) (omega arith) in
        elim (only (rules_of setup) step.ops was q seats) [
          | inl u ↦
              let none : taken_at q op (applied_of now q == applied_of was q) ≡ [] =
              ap (taken_at q op) (eq-eqb (applied_of now q) (applied_of was q) u.applied) ∙ no_more q op in
              subst (λ ts. Alike now (call_at setup closing k w l rows q
              ++ flat_map (call_at setup closing k w l rows) (range_with_len (q + 1) many))
              (ts ++ taken_from (suc q) rest was now)) (sym none)
              (subst (λ cs. Alike now (cs ++ flat_map (call_at setup closing k w l rows) (range_with_len (q + 1) many))
              (taken_from (suc q) rest was now)) (sym (none_here q u.applied)) tail)
          | inr t ↦
              let one = one_here q (omega (arith, s)) t in
              let differ : (applied_of now q == applied_of was q) ≡ false =
              ne_eqb (applied_of now q) (applied_of was q) (λ x. absurd (omega (arith, x, t.above, t.applied))) in
              let took : taken_at q op (applied_of now q == applied_of was q) ≡ record { seat = q; op = t.op } ∷ [] =
              ap (taken_at q op) differ ∙ ap (λ o. taken_at q o false) (head ∙ t.announced) in
              subst (λ ts. Alike now (call_at setup closing k w l rows q
              ++ flat_map (call_at setup closing k w l rows) (range_with_len (q + 1) many))
              (ts ++ taken_from (suc q) rest was now)) (sym took)
              (subst (λ cs. Alike now (cs ++ flat_map (call_at setup closing k w l rows) (range_with_len (q + 1) many))
              (record { seat = q; op = t.op } ∷ taken_from (suc q) rest was now)) (sym one.1) (one.2, one.3, tail))
        ]
      where
        no_more : (q : ℕ) (op : Option Op) → taken_at q op true ≡ []
        no_more q None = refl
        no_more q (Some o) = refl

    -- so the calls of the row are those that were taken
    pub row_alike : Alike now (calls_in setup.shape closing (ByBucketRow (k.row_at b (i + 1))))
        (taken (rules_of setup) step.ops was)
    row_alike = alike_from 0 (seats_of setup) step.ops step.long (omega arith)
        (λ j. ap (λ z. get_or step.ops z None) (omega arith))

    -- so they make of what is held what the row says, and were given the replies
    pub row_folds : (sessions : Sessions) → HoldsPart (rules_of setup) was.prefix was.depth was.items sessions →
        HoldsPart (rules_of setup) was.prefix was.depth (k.state_at b (i + 1)).items
        (sessions_after (rules_of setup) sessions (calls_in setup.shape closing (ByBucketRow (k.row_at b (i + 1)))))
        × Legal (rules_of setup) sessions (calls_in setup.shape closing (ByBucketRow (k.row_at b (i + 1))))
    row_folds sessions held =
        let calls = calls_in setup.shape closing (ByBucketRow (k.row_at b (i + 1))) in
        let ts = taken (rules_of setup) step.ops was in
        let r = folds (rules_of setup) (seats_of setup) step.ops was sessions range step.good
        (omega (arith, step.long)) held in (
          subst (λ (s : BucketState). HoldsPart (rules_of setup) was.prefix was.depth s.items
              (sessions_after (rules_of setup) sessions calls)) (sym step.is)
              (subst (HoldsPart (rules_of setup) was.prefix was.depth now.items)
              (sym (alike_sessions (rules_of setup) sessions now calls ts row_alike)) r.0),
          alike_legal (rules_of setup) sessions now calls ts row_alike r.1,
        )
