-- How late the tries of an announced op are: who has lost the last one has its entry in the row in use.
use Rattle.std.proofs.Common.{◌≡◌, ◌≢◌, ℕ, ◌+◌, ◌-◌, ◌<◌, inl, inr, Bool, true, false, cond, List, [], ◌∷◌, ◌++◌, length, Option, Some, None, sym, ap, ◌∙◌, arith, true≢false, lt-ltb}
use Rattle.std.specs.Prelude.{◌==◌, nat_lt}
use Rattle.std.proofs.lemmas.Bool.{cond_both, eqb-true, eqb-false, ltb-true}
use Rattle.plain_map.specs.declared.calls.Call.{Call}
use Rattle.plain_map.specs.declared.calls.Reply.{Reply}
use Rattle.plain_map.specs.Calls.{key_in}
use Rattle.word_rows.specs.ReplyWords.{reply_of_word}
use Rattle.bucket_states.specs.Items.{reply_in}
use Rattle.exchange_model.specs.Plans.{Plan, IsPlan, buckets_of, rules_of, more}
use Rattle.exchange_model.specs.Codes.{is_spent, SLOT_WORDS, ENTRY_WORDS, Entry, generation_in, row_of_words, length_by, count_in, entries_in, entries_start, number_in}
use Rattle.exchange_model.specs.Steps as S
use Rattle.exchange_model.specs.Steps.{Step, SeatNow, Found, NoOp, Keeps, Takes, Try, deed_of, bucket_of_call, new_words, SOLO_TRIES, ALL_TRIES}
use Rattle.exchange_model.specs.Goes.{ScanFate, ScansOn, Scanned, scan_fate_of, Fate, On, Ends, with_free, after_scan, is_announced, lost, ends_with, gives_up, gives_back, ended, unless_spent, is_quiet, share_of, own_op, found_alone, with_own, found_so_far, by_entry, looked, is_here, entry_for, entry_word, after_entry, op_in, reply_for, next_entry, fate}
use Rattle.exchange_model.specs.Worlds.{World, seat_in, found_by}
use Rattle.exchange_laws.proofs.Words.{bucket_small}
use Rattle.exchange_laws.proofs.TrueReads.{ReadsStep, Stood}
use Rattle.exchange_laws.proofs.Announcing.{State}
use Rattle.exchange_laws.proofs.Announcements.{Tells, TellsStep, Announces, IsOther}
use Rattle.exchange_laws.proofs.Tied.{Tied, WasApplied, IsLate, SinceStep, SinceFate, own_pends}

module _ (plan : Plan) (is_plan : IsPlan plan) (x : World) (s : State) (tied : Tied plan x s) (all : Announces plan x)
    (p : ℕ) (inside : p < plan.settings.seats) (call : Call) where
  abbrev now : SeatNow
  now = seat_in x p

  abbrev b : ℕ
  b = bucket_of_call plan call

  small : b < buckets_of plan.settings
  small = bucket_small plan is_plan (key_in call)

  abbrev F : Fate → Type 0
  F f = SinceFate plan s p b f

  abbrev Late : (turn word : ℕ) → Type 0
  Late turn word = IsLate plan s p turn (generation_in plan word)

  abbrev Said : (turn : ℕ) → Type 0
  Said turn = Tells (is_announced turn) (x.store.announced p) (x.store.op p) now.posted b call

  either : (f g : Fate) (c : Bool) → F f → F g → F (cond c f g)
  either f g true l r = l
  either f g false l r = r

  either_on : (f g : Step) (c : Bool) → F (On f) → F (On g) → F (On (cond c f g))
  either_on f g true l r = l
  either_on f g false l r = r

  pub since_ends : (announced : Bool) (reply : Option Reply) → F (ends_with announced reply)
  since_ends true None = tt
  since_ends false None = tt
  since_ends true (Some reply) = tt
  since_ends false (Some reply) = tt

  first_on : (free : List ℕ) → F (with_free free)
  first_on [] = tt
  first_on (row ∷ free) = λ e. absurd (true≢false (sym e))

  given_up : (announced : Bool) → F (gives_up announced)
  given_up true = tt
  given_up false = tt

  given_back : (reply : Option Reply) → WasApplied plan s p b → F (gives_back reply)
  given_back None a = tt
  given_back (Some reply) a = a

  over_then : (ending : S.Ending) → F (ended ending)
  over_then (S.Applied reply) = tt
  over_then S.GivenUp = tt

  unless : (t : Try) → Late t.turn t.word → F (unless_spent plan t)
  unless t l = either (gives_up (is_announced t.turn)) (On (S.LoadPending t)) (is_spent plan t.word)
      (given_up (is_announced t.turn)) l

  by_entries : (t : Try) (entry : Option Entry) → Late t.turn t.word → F (by_entry plan t entry)
  by_entries t None l = unless t l
  by_entries t (Some entry) l = since_ends true entry.reply

  looks : (t : Try) → Late t.turn t.word → F (looked plan p now call t)
  looks t l =
      let quiet = is_quiet (rules_of plan) t.row.items call in
      let answer = reply_in (rules_of plan) t.row.items call in
      either (by_entry plan t (entry_for p now.posted t.row.entries)) (cond quiet (Ends answer) (unless_spent plan t))
      (is_announced t.turn) (by_entries t (entry_for p now.posted t.row.entries) l)
      (either (Ends answer) (unless_spent plan t) quiet tt (unless t l))

  to_ops : (t : Try) (found : List Found) → Late t.turn t.word → F (found_so_far plan p now call t found)
  to_ops t found l =
      let fs = with_own p now call t.turn found in
      either_on (S.LoadAnnounced t fs) (S.StoreRow t fs 0) (nat_lt (length fs) plan.settings.seats) l l

  to_entry : (t : Try) (found : List Found) (announced : ℕ) (entry : Option Entry) → Late t.turn t.word →
      F (after_entry plan p now call t found announced entry)
  to_entry t found announced None l = l
  to_entry t found announced (Some entry) l = to_ops t (more found (Keeps entry)) l

  entries_on : (row at left : ℕ) → WasApplied plan s p b → F (next_entry row at left)
  entries_on row at left a = either_on (S.HeldEntry row at left) S.Stuck (nat_lt 0 left) a tt

  -- a try is lost, and the bucket was exchanged meanwhile
  pub since_lost : (turn word : ℕ) → Said turn → Stood plan x b word → x.store.bucket b ≢ word → Late turn word →
      F (lost turn)
  since_lost turn word tells stood n l = elim stood [
    | inl e ↦ absurd (n e)
    | inr past ↦ cond_both (turn == SOLO_TRIES) (On S.RaisePending)
        (cond (turn == ALL_TRIES) (On S.StoreWant) (On (S.LoadWord (turn + 1)))) F (λ _. tt)
        (λ other. cond_both (turn == ALL_TRIES) (On S.StoreWant) (On (S.LoadWord (turn + 1))) F
        (λ last. is_last past (eqb-true turn ALL_TRIES last)) (λ _. next past (eqb-false turn SOLO_TRIES other)))
  ]
    where
      is_last : generation_in plan word < generation_in plan (x.store.bucket b) → turn ≡ 3 → WasApplied plan s p b
      is_last past three =
          let announced : is_announced turn ≡ true = ap is_announced three in
          let own = own_pends plan is_plan x s tied all p inside call
          (record { turn = turn; word = word; row = record { items = []; entries = [] } }) tells announced in
          let gen = tied.gens b small in
          let same = ap s.generation own.1 in
          let old = l announced in (
            own.0,
            own.1,
            ap (λ c. s.entry c p) (sym own.1)
                ∙ tied.holds.covered p own.0 (omega (arith, old, past, gen, same, three)),
          )

      next : generation_in plan word < generation_in plan (x.store.bucket b) → turn ≢ 1 →
          IsLate plan s p (turn + 1) (s.generation b)
      next past other e =
          let later : 1 < turn + 1 = ltb-true 1 (turn + 1) e in
          let old = l (lt-ltb 1 turn (omega (arith, later, other))) in
          let gen = tied.gens b small in
          omega (arith, old, past, gen)

  pub since_fated : (step : Step) → ReadsStep plan x b step →
      TellsStep (x.store.announced p) (x.store.op p) now.posted b call step → SinceStep plan s p b step →
      IsOther step → F (fate plan p now call step (found_by (deed_of plan p now call step) x.store))
  since_fated S.Scans r k l n = go (scan_fate_of plan p now.scan (found_by (deed_of plan p now call S.Scans) x.store))
    where
      go : (f : ScanFate) → F (after_scan now.free f)
      go (ScansOn scan) = tt
      go (Scanned left held) = first_on (now.free ++ left)
  since_fated (S.LoadWord turn) r k l n = λ e. (let old = l e in let gen = tied.gens b small in omega (arith, old, gen))
  since_fated (S.LoadRow turn old words) r k l n =
      let w = found_by (deed_of plan p now call (S.LoadRow turn old words)) x.store in
      either_on (S.LoadRow turn old (more words w)) (S.CheckWord turn old (more words w))
      (nat_lt (length words + 1) (length_by plan (more words w))) l l
  since_fated (S.CheckWord turn old words) r k l n =
      let t : Try = record { turn = turn; word = old; row = row_of_words plan words } in
      cond_both (x.store.bucket b == old) (looked plan p now call t) (lost turn) F (λ _. looks t l)
      (λ e. since_lost turn old k r.0.stood (eqb-false (x.store.bucket b) old e) l)
  since_fated (S.LoadPending t) r k l n =
      let found = found_alone p (own_op now.posted t.turn call) plan.settings.seats [] in
      either (On (S.StoreRow t found 0)) (found_so_far plan p now call t []) (x.store.pending ==
      share_of (is_announced t.turn))
      l (to_ops t [] l)
  since_fated (S.LoadAnnounced t found) r k l n =
      let w = x.store.announced (length found) in
      let entry = entry_for (length found) (number_in w) t.row.entries in
      either (after_entry plan p now call t found w entry) (found_so_far plan p now call t (more found NoOp))
      (is_here plan b w) (to_entry t found w entry l) (to_ops t (more found NoOp) l)
  since_fated (S.LoadOp t found announced words) r k l n =
      let w = x.store.op (length found) (length words) in
      let one = Takes (op_in announced (more words w)) in
      either (On (S.LoadOp t found announced (more words w))) (found_so_far plan p now call t (more found one))
      (nat_lt (length words + 1) SLOT_WORDS) l (to_ops t (more found one) l)
  since_fated (S.StoreRow t found i) r k l n =
      either_on (S.StoreRow t found (i + 1)) (S.Exchange t found) (nat_lt (i + 1) (length (new_words plan t found))) l l
  since_fated (S.Exchange t found) r k l n =
      cond_both (x.store.bucket b == t.word) (ends_with (is_announced t.turn) (reply_for p (S.made plan t found).made))
      (lost t.turn) F (λ _. since_ends (is_announced t.turn) (reply_for p (S.made plan t found).made))
      (λ e. since_lost t.turn t.word k r.stood (eqb-false (x.store.bucket b) t.word e) l)
  since_fated S.RaisePending r k l n = tt
  since_fated (S.StoreOp i) r k l n = absurd n
  since_fated S.Announce r k l n = absurd n
  since_fated S.StoreWant r k a n = a
  since_fated S.StoreAsking r k a n = a
  since_fated S.HeldWord r k a n = a
  since_fated (S.TakeHold old) r k a n = a
  since_fated (S.HeldHead row) r k a n =
      let w = x.store.row row 0 in entries_on row (entries_start (count_in plan w)) (entries_in plan w) a
  since_fated (S.HeldEntry row at left) r k a n =
      either (On (S.HeldReply row (at + 1))) (next_entry row (at + ENTRY_WORDS) (left - 1))
      (x.store.row row at == entry_word p now.posted) a (entries_on row (at + ENTRY_WORDS) (left - 1) a)
  since_fated (S.HeldReply row at) r k a n = given_back (reply_of_word (x.store.row row at)) a
  since_fated (S.GiveBack reply) r k a n = tt
  since_fated (S.Over ending) r k l n = absurd n
  since_fated (S.LowerPending ending) r k l n = over_then ending
  since_fated S.Stuck r k l n = tt
