-- From what `clap` states of the words to the plan that they ask for.
use Rattle.std.proofs.Common.{◌≡◌, ◌∙◌, cond, List, [], ◌∷◌, Option, Some, None, Result, Err, ap, refl, sym, arith}
use Rattle.std.specs.Option.{ok_or}
use Rattle.std.proofs.lemmas.Bool.{ne_eqb}
use Rattle.clap.specs.Walk.{Text, first_of, is_empty}
use Rattle.clap.specs.Simple.{matches_of}
use Rattle.clap.specs.Faults.{fault_of}
use Rattle.clap.specs.Kinds.{Kinds}
use Rattle.command_line.specs.Command.{flowdir_app}
use Rattle.command_line.specs.Words.{Answers, Values, plan_of, reads}
use Rattle.command_line.specs.declared.plan.Plan.{Plan}
use Rattle.command_line.specs.declared.words.WordsFault.{WordsFault}
use Rattle.command_line.specs.declared.words.WordsFault.TheVariants as fault

-- the choice that `reads` makes
taken : (kinds : Kinds) (plan : Option Plan) → kinds ≡ [] → cond (is_empty kinds) plan None ≡ plan
taken kinds plan none = ap (λ (ks : Kinds). cond (is_empty ks) plan None) none

refused : (kinds : Kinds) (plan : Option Plan) → (kinds ≡ [] → ⊥) → cond (is_empty kinds) plan None ≡ None
refused [] plan some = absurd (some refl)
refused (k ∷ ks) plan some = ap (λ b. cond b plan None) (ne_eqb _ _ (λ e. omega arith))

-- words that the command takes ask for the plan of its matches
reads_taken : (words : List Text) (given : Values) → fault_of flowdir_app words ≡ []
    → given ≡ (λ name. first_of name (matches_of flowdir_app words)) → reads words ≡ plan_of given
unfolding reads
reads_taken words given none is = taken (fault_of flowdir_app words) _ none ∙ ap plan_of (sym is)

-- a refusal is right where the command finds a fault
pub reads_refused : (words : List Text) (e : WordsFault)
    → (e ≡ fault.Usage → fault_of flowdir_app words ≡ [] → ⊥) → Answers (reads words) (Err e)
unfolding reads
reads_refused words fault.Usage why = refused (fault_of flowdir_app words) _ (why refl)
reads_refused words fault.Memory why = tt

-- an answer that is made of the plan, with a refusal for none
answered : (plan given : Option Plan) (r : Result Plan WordsFault) → plan ≡ given → r ≡ ok_or given fault.Usage
    → Answers plan r
answered plan None r is made = rw made is
answered plan (Some p) r is made = rw made is

pub reads_answered : (words : List Text) (given : Values) (r : Result Plan WordsFault)
    → fault_of flowdir_app words ≡ [] → given ≡ (λ name. first_of name (matches_of flowdir_app words))
    → (plan : Option Plan) → plan ≡ plan_of given → r ≡ ok_or plan fault.Usage → Answers (reads words) r
reads_answered words given r none is plan planned made =
    answered (reads words) plan r (reads_taken words given none is ∙ sym planned) made
