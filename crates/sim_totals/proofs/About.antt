-- What an add answers is of the add that it was asked.
use Rattle.std.proofs.Common.{◌≡◌, ◌+◌, ◌==◌, ℕ, Bool, true, false, List, [], ◌∷◌, ◌++◌, ◌⊎◌, inl, inr, refl, sym, ap, subst, ◌∙◌, append_assoc, append-nil}
use Rattle.std.specs.Prelude.{if◌then◌else◌}
use Rattle.std.proofs.lemmas.List.{append_cancel_left}
use Rattle.sim_steps.specs.declared.adds.Add.{Add}
use Rattle.sim_steps.specs.declared.adds.Added.{Added}
use Rattle.sim_steps.specs.Layout.{Settings, desk_of}
use Rattle.sim_steps.specs.Program.{Caller, Phase, Seat, Idle, LoadDone, StoreOp, Announce, LoadRoot, LoadRow, LoadAnnouncement, LoadOp, StoreRow, Publish, StoreDone, answer_of, begun, caller_after, is_idle, log_after, ready}
use Rattle.sim_totals.specs.Rule.{Adds, advanced, told_all}

-- each answer is of this add
abbrev AllOf : Add → List Added → Type 0
AllOf x [] = Unit {0}
AllOf x (a ∷ others) = (a.add ≡ x) × AllOf x others

AllOf-append : (x : Add) (xs ys : List Added) → AllOf x xs → AllOf x ys → AllOf x (xs ++ ys)
AllOf-append x [] ys one two = two
AllOf-append x (a ∷ xs) ys one two = (one.0, AllOf-append x xs ys one.1 two)

-- the seat is in this add, or in none
abbrev IsIn : Add → Seat → Type 0
IsIn x s = (is_idle s.phase ≡ true) ⊎ (s.caller.add ≡ x)

same_add : (b : Bool) (one other : Caller) → one.add ≡ other.add → (if b then one else other).add ≡ other.add
same_add true one other same = same
same_add false one other same = refl

-- a step keeps the add
caller_add : (caller : Caller) (phase : Phase) (word : ℕ) → (caller_after caller phase word).add ≡ caller.add
caller_add caller Idle word = refl
caller_add caller LoadDone word = refl
caller_add caller (StoreOp i) word = refl
caller_add caller Announce word = refl
caller_add caller (LoadRoot turn) word = refl
caller_add caller (LoadRow turn root row) word = refl
caller_add caller (LoadAnnouncement turn root row found) word = refl
caller_add caller (LoadOp turn root row found op words) word = refl
caller_add caller (StoreRow turn root row i) word = refl
caller_add caller (Publish turn root row) word =
    same_add (word == root) (record caller { made = caller.made + 1 }) caller refl
caller_add caller (StoreDone count) word = refl

-- and records answers of it alone
log_more : (seat : ℕ) (caller : Caller) (steps : ℕ) (phase : Phase) (log : List Added) (x : Add) → caller.add ≡ x →
    (more : List Added) × (log_after seat caller steps phase log ≡ log ++ more) × AllOf x more
log_more seat caller steps Idle log x is = ([], sym (append-nil log), tt)
log_more seat caller steps LoadDone log x is = ([], sym (append-nil log), tt)
log_more seat caller steps (StoreOp i) log x is = ([], sym (append-nil log), tt)
log_more seat caller steps Announce log x is = ([], sym (append-nil log), tt)
log_more seat caller steps (LoadRoot turn) log x is = ([], sym (append-nil log), tt)
log_more seat caller steps (LoadRow turn root row) log x is = ([], sym (append-nil log), tt)
log_more seat caller steps (LoadAnnouncement turn root row found) log x is = ([], sym (append-nil log), tt)
log_more seat caller steps (LoadOp turn root row found op words) log x is = ([], sym (append-nil log), tt)
log_more seat caller steps (StoreRow turn root row i) log x is = ([], sym (append-nil log), tt)
log_more seat caller steps (Publish turn root row) log x is = ([], sym (append-nil log), tt)
log_more seat caller steps (StoreDone count) log x is = (answer_of seat caller steps count ∷ [], refl, (is, tt))

ready_by : (b : Bool) (x : Add) (s : Seat) → (b ≡ true) ⊎ (s.caller.add ≡ x) →
    ((if b then begun x s else s).caller.add ≡ x) × ((if b then begun x s else s).log ≡ s.log)
ready_by true x s is = (refl, refl)
ready_by false x s (inl idle) = absurd (cc)
ready_by false x s (inr is) = (is, refl)

-- whatever it is told
told_more : (c : Settings) (i : ℕ) (x : Add) (s : Seat) (told : List ℕ) → IsIn x s →
    (more : List Added) × ((told_all c i x s told).log ≡ s.log ++ more) × AllOf x more
told_more c i x s [] is = ([], sym (append-nil s.log), tt)
told_more c i x s (n ∷ ns) is =
    let r : Seat = ready x s in
    let begins = ready_by (is_idle s.phase) x s is in
    let next : Seat = advanced c i x s n in
    let rest = told_more c i x next ns (inr (caller_add r.caller r.phase n ∙ begins.0)) in
    let one = log_more (desk_of c i).seat r.caller (r.steps + 1) r.phase r.log x begins.0 in
    let first : next.log ≡ s.log ++ one.0 = one.1 ∙ ap (λ (log : List Added). log ++ one.0) begins.1 in (
      one.0 ++ rest.0,
      rest.1 ∙ ap (λ (log : List Added). log ++ rest.0) first ∙ append_assoc s.log one.0 rest.0,
      AllOf-append x one.0 rest.0 one.2 rest.2,
    )

pub added_about : (c : Settings) (i : ℕ) (x : Add) (s t : Seat) (added : Added) → s.phase ≡ Idle →
    Adds c i x s t added → added.add ≡ x
added_about c i x s t added idle adds =
    let more = told_more c i x s adds.told (inl (ap is_idle idle)) in
    let same : s.log ++ more.0 ≡ s.log ++ added ∷ [] =
    sym more.1 ∙ ap (λ (q : Seat). q.log) (sym adds.ends) ∙ adds.log in
    (subst (AllOf x) (append_cancel_left s.log more.0 (added ∷ []) same) more.2).0
