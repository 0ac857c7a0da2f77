-- What some command lines ask for: single lines, and a line with each option for any texts.
use Rattle.std.proofs.Common.{◌≡◌, ◌∙◌, ◌++◌, Bool, cond, true, false, List, [], ◌∷◌, Option, Some, None, codes, refl}
use Rattle.std.specs.List.{list_all}
use Rattle.clap.proofs.OnLiterals.{clap_on_literals}
use Rattle.clap.specs.Faults.{fault_of}
use Rattle.clap.specs.Kinds.{Kinds, or_else}
use Rattle.clap.specs.Simple.{matches_of}
use Rattle.clap.specs.ValueTests.{is_unsigned_in}
use Rattle.clap.specs.Walk.{Text, first_of, is_empty}
use Rattle.clap.specs.declared.error.kind.ErrorKind.TheVariants as kind
use Rattle.command_line.specs.Command.{flowdir_app}
use Rattle.command_line.specs.CommandLines.{Given, Lists, asked, default_plan, faults, flows_plan, line, tests}
use Rattle.command_line.specs.Words.{decimal, plan_of, reads}
use Rattle.command_line.specs.declared.plan.Mode.{Mode}
use Rattle.command_line.specs.declared.plan.Mode.TheVariants.{Serve, Play, Make, Trial, Totals, Check, Flows}
use Rattle.command_line.specs.declared.plan.Plan.{Plan}

-- ---- single lines

pub alone : reads (codes "serve" ∷ []) ≡ Some default_plan
unfolding clap_on_literals reads flowdir_app
alone = refl

pub alone_flows : reads (codes "flows" ∷ []) ≡ Some flows_plan
unfolding clap_on_literals reads flowdir_app
alone_flows = refl

pub spaced : reads (codes "serve" ∷ codes "--items" ∷ codes "3" ∷ []) ≡ Some (record default_plan { items = 3 })
unfolding clap_on_literals reads flowdir_app
spaced = refl

pub no_words : faults [] ≡ kind.MissingRequiredArgument ∷ []
unfolding clap_on_literals flowdir_app
no_words = refl

pub every_none : faults (codes "serve" ∷ codes "--every=0" ∷ []) ≡ kind.ValueValidation ∷ []
unfolding clap_on_literals flowdir_app
every_none = refl

pub twice : faults (codes "serve" ∷ codes "--items=3" ∷ codes "--items=3" ∷ []) ≡ kind.ArgumentConflict ∷ []
unfolding clap_on_literals flowdir_app
twice = refl

-- ---- lines with any texts

-- the reading of a line whose faults and plan are known
reads_by : (words : List Text) (kinds : Kinds) (plan : Option Plan) → fault_of flowdir_app words ≡ kinds
    → plan_of (λ name. first_of name (matches_of flowdir_app words)) ≡ plan
    → reads words ≡ cond (is_empty kinds) plan None
unfolding reads
reads_by words kinds plan e f = λ i. cond (is_empty (e i)) (f i) None

-- the faults of some numbers, by the tests of these
abbrev faults_by : List Bool → Kinds
faults_by [] = []
faults_by (b ∷ bs) = or_else (or_else (or_else (cond b [] (kind.ValueValidation ∷ [])) []) []) (faults_by bs)

all_pass : (bs : List Bool) (plan : Option Plan)
    → cond (is_empty (or_else (faults_by bs) [])) plan None ≡ cond (list_all (λ b. b) bs) plan None
all_pass [] plan = refl
all_pass (true ∷ bs) plan = all_pass bs plan
all_pass (false ∷ bs) plan = refl

one_passes : (b : Bool) (plan : Option Plan)
    → cond (is_empty (or_else (faults_by (b ∷ [])) [])) plan None ≡ cond b plan None
one_passes true plan = refl
one_passes false plan = refl

items_fault : (t : Text) → faults (codes "serve" ∷ (codes "--items=" ++ t) ∷ [])
    ≡ or_else (faults_by (is_unsigned_in 1 16 t ∷ [])) []
unfolding clap_on_literals flowdir_app
items_fault t = refl

items_plan : (t : Text)
    → plan_of (λ name. first_of name (matches_of flowdir_app (codes "serve" ∷ (codes "--items=" ++ t) ∷ [])))
    ≡ Some (record default_plan { items = decimal t })
unfolding clap_on_literals flowdir_app
items_plan t = refl

pub any_items : (t : Text) → reads (codes "serve" ∷ (codes "--items=" ++ t) ∷ [])
    ≡ cond (is_unsigned_in 1 16 t) (Some (record default_plan { items = decimal t })) None
any_items t =
    reads_by _ _ _ (items_fault t) (items_plan t)
    ∙ one_passes (is_unsigned_in 1 16 t) (Some (record default_plan { items = decimal t }))

abbrev pub lists_with : (rows schedule stop tags every : Option Text) → Lists
lists_with rows schedule stop tags every =
    record { rows = rows; schedule = schedule; stop = stop; tags = tags; every = every }

fault_of_lists : (mode : Mode) (g : Given) (rows schedule stop tags every : Option Text)
    → faults (line mode g (lists_with rows schedule stop tags every)) ≡ or_else
    (faults_by (tests g (lists_with rows schedule stop tags every))) []
unfolding clap_on_literals flowdir_app
fault_of_lists Serve g None None None None None = refl
fault_of_lists Serve g None None None None (Some e) = refl
fault_of_lists Serve g None None None (Some u) None = refl
fault_of_lists Serve g None None None (Some u) (Some e) = refl
fault_of_lists Serve g None None (Some t) None None = refl
fault_of_lists Serve g None None (Some t) None (Some e) = refl
fault_of_lists Serve g None None (Some t) (Some u) None = refl
fault_of_lists Serve g None None (Some t) (Some u) (Some e) = refl
fault_of_lists Serve g None (Some s) None None None = refl
fault_of_lists Serve g None (Some s) None None (Some e) = refl
fault_of_lists Serve g None (Some s) None (Some u) None = refl
fault_of_lists Serve g None (Some s) None (Some u) (Some e) = refl
fault_of_lists Serve g None (Some s) (Some t) None None = refl
fault_of_lists Serve g None (Some s) (Some t) None (Some e) = refl
fault_of_lists Serve g None (Some s) (Some t) (Some u) None = refl
fault_of_lists Serve g None (Some s) (Some t) (Some u) (Some e) = refl
fault_of_lists Serve g (Some r) None None None None = refl
fault_of_lists Serve g (Some r) None None None (Some e) = refl
fault_of_lists Serve g (Some r) None None (Some u) None = refl
fault_of_lists Serve g (Some r) None None (Some u) (Some e) = refl
fault_of_lists Serve g (Some r) None (Some t) None None = refl
fault_of_lists Serve g (Some r) None (Some t) None (Some e) = refl
fault_of_lists Serve g (Some r) None (Some t) (Some u) None = refl
fault_of_lists Serve g (Some r) None (Some t) (Some u) (Some e) = refl
fault_of_lists Serve g (Some r) (Some s) None None None = refl
fault_of_lists Serve g (Some r) (Some s) None None (Some e) = refl
fault_of_lists Serve g (Some r) (Some s) None (Some u) None = refl
fault_of_lists Serve g (Some r) (Some s) None (Some u) (Some e) = refl
fault_of_lists Serve g (Some r) (Some s) (Some t) None None = refl
fault_of_lists Serve g (Some r) (Some s) (Some t) None (Some e) = refl
fault_of_lists Serve g (Some r) (Some s) (Some t) (Some u) None = refl
fault_of_lists Serve g (Some r) (Some s) (Some t) (Some u) (Some e) = refl
fault_of_lists Play g None None None None None = refl
fault_of_lists Play g None None None None (Some e) = refl
fault_of_lists Play g None None None (Some u) None = refl
fault_of_lists Play g None None None (Some u) (Some e) = refl
fault_of_lists Play g None None (Some t) None None = refl
fault_of_lists Play g None None (Some t) None (Some e) = refl
fault_of_lists Play g None None (Some t) (Some u) None = refl
fault_of_lists Play g None None (Some t) (Some u) (Some e) = refl
fault_of_lists Play g None (Some s) None None None = refl
fault_of_lists Play g None (Some s) None None (Some e) = refl
fault_of_lists Play g None (Some s) None (Some u) None = refl
fault_of_lists Play g None (Some s) None (Some u) (Some e) = refl
fault_of_lists Play g None (Some s) (Some t) None None = refl
fault_of_lists Play g None (Some s) (Some t) None (Some e) = refl
fault_of_lists Play g None (Some s) (Some t) (Some u) None = refl
fault_of_lists Play g None (Some s) (Some t) (Some u) (Some e) = refl
fault_of_lists Play g (Some r) None None None None = refl
fault_of_lists Play g (Some r) None None None (Some e) = refl
fault_of_lists Play g (Some r) None None (Some u) None = refl
fault_of_lists Play g (Some r) None None (Some u) (Some e) = refl
fault_of_lists Play g (Some r) None (Some t) None None = refl
fault_of_lists Play g (Some r) None (Some t) None (Some e) = refl
fault_of_lists Play g (Some r) None (Some t) (Some u) None = refl
fault_of_lists Play g (Some r) None (Some t) (Some u) (Some e) = refl
fault_of_lists Play g (Some r) (Some s) None None None = refl
fault_of_lists Play g (Some r) (Some s) None None (Some e) = refl
fault_of_lists Play g (Some r) (Some s) None (Some u) None = refl
fault_of_lists Play g (Some r) (Some s) None (Some u) (Some e) = refl
fault_of_lists Play g (Some r) (Some s) (Some t) None None = refl
fault_of_lists Play g (Some r) (Some s) (Some t) None (Some e) = refl
fault_of_lists Play g (Some r) (Some s) (Some t) (Some u) None = refl
fault_of_lists Play g (Some r) (Some s) (Some t) (Some u) (Some e) = refl
fault_of_lists Make g None None None None None = refl
fault_of_lists Make g None None None None (Some e) = refl
fault_of_lists Make g None None None (Some u) None = refl
fault_of_lists Make g None None None (Some u) (Some e) = refl
fault_of_lists Make g None None (Some t) None None = refl
fault_of_lists Make g None None (Some t) None (Some e) = refl
fault_of_lists Make g None None (Some t) (Some u) None = refl
fault_of_lists Make g None None (Some t) (Some u) (Some e) = refl
fault_of_lists Make g None (Some s) None None None = refl
fault_of_lists Make g None (Some s) None None (Some e) = refl
fault_of_lists Make g None (Some s) None (Some u) None = refl
fault_of_lists Make g None (Some s) None (Some u) (Some e) = refl
fault_of_lists Make g None (Some s) (Some t) None None = refl
fault_of_lists Make g None (Some s) (Some t) None (Some e) = refl
fault_of_lists Make g None (Some s) (Some t) (Some u) None = refl
fault_of_lists Make g None (Some s) (Some t) (Some u) (Some e) = refl
fault_of_lists Make g (Some r) None None None None = refl
fault_of_lists Make g (Some r) None None None (Some e) = refl
fault_of_lists Make g (Some r) None None (Some u) None = refl
fault_of_lists Make g (Some r) None None (Some u) (Some e) = refl
fault_of_lists Make g (Some r) None (Some t) None None = refl
fault_of_lists Make g (Some r) None (Some t) None (Some e) = refl
fault_of_lists Make g (Some r) None (Some t) (Some u) None = refl
fault_of_lists Make g (Some r) None (Some t) (Some u) (Some e) = refl
fault_of_lists Make g (Some r) (Some s) None None None = refl
fault_of_lists Make g (Some r) (Some s) None None (Some e) = refl
fault_of_lists Make g (Some r) (Some s) None (Some u) None = refl
fault_of_lists Make g (Some r) (Some s) None (Some u) (Some e) = refl
fault_of_lists Make g (Some r) (Some s) (Some t) None None = refl
fault_of_lists Make g (Some r) (Some s) (Some t) None (Some e) = refl
fault_of_lists Make g (Some r) (Some s) (Some t) (Some u) None = refl
fault_of_lists Make g (Some r) (Some s) (Some t) (Some u) (Some e) = refl
fault_of_lists Trial g None None None None None = refl
fault_of_lists Trial g None None None None (Some e) = refl
fault_of_lists Trial g None None None (Some u) None = refl
fault_of_lists Trial g None None None (Some u) (Some e) = refl
fault_of_lists Trial g None None (Some t) None None = refl
fault_of_lists Trial g None None (Some t) None (Some e) = refl
fault_of_lists Trial g None None (Some t) (Some u) None = refl
fault_of_lists Trial g None None (Some t) (Some u) (Some e) = refl
fault_of_lists Trial g None (Some s) None None None = refl
fault_of_lists Trial g None (Some s) None None (Some e) = refl
fault_of_lists Trial g None (Some s) None (Some u) None = refl
fault_of_lists Trial g None (Some s) None (Some u) (Some e) = refl
fault_of_lists Trial g None (Some s) (Some t) None None = refl
fault_of_lists Trial g None (Some s) (Some t) None (Some e) = refl
fault_of_lists Trial g None (Some s) (Some t) (Some u) None = refl
fault_of_lists Trial g None (Some s) (Some t) (Some u) (Some e) = refl
fault_of_lists Trial g (Some r) None None None None = refl
fault_of_lists Trial g (Some r) None None None (Some e) = refl
fault_of_lists Trial g (Some r) None None (Some u) None = refl
fault_of_lists Trial g (Some r) None None (Some u) (Some e) = refl
fault_of_lists Trial g (Some r) None (Some t) None None = refl
fault_of_lists Trial g (Some r) None (Some t) None (Some e) = refl
fault_of_lists Trial g (Some r) None (Some t) (Some u) None = refl
fault_of_lists Trial g (Some r) None (Some t) (Some u) (Some e) = refl
fault_of_lists Trial g (Some r) (Some s) None None None = refl
fault_of_lists Trial g (Some r) (Some s) None None (Some e) = refl
fault_of_lists Trial g (Some r) (Some s) None (Some u) None = refl
fault_of_lists Trial g (Some r) (Some s) None (Some u) (Some e) = refl
fault_of_lists Trial g (Some r) (Some s) (Some t) None None = refl
fault_of_lists Trial g (Some r) (Some s) (Some t) None (Some e) = refl
fault_of_lists Trial g (Some r) (Some s) (Some t) (Some u) None = refl
fault_of_lists Trial g (Some r) (Some s) (Some t) (Some u) (Some e) = refl
fault_of_lists Totals g None None None None None = refl
fault_of_lists Totals g None None None None (Some e) = refl
fault_of_lists Totals g None None None (Some u) None = refl
fault_of_lists Totals g None None None (Some u) (Some e) = refl
fault_of_lists Totals g None None (Some t) None None = refl
fault_of_lists Totals g None None (Some t) None (Some e) = refl
fault_of_lists Totals g None None (Some t) (Some u) None = refl
fault_of_lists Totals g None None (Some t) (Some u) (Some e) = refl
fault_of_lists Totals g None (Some s) None None None = refl
fault_of_lists Totals g None (Some s) None None (Some e) = refl
fault_of_lists Totals g None (Some s) None (Some u) None = refl
fault_of_lists Totals g None (Some s) None (Some u) (Some e) = refl
fault_of_lists Totals g None (Some s) (Some t) None None = refl
fault_of_lists Totals g None (Some s) (Some t) None (Some e) = refl
fault_of_lists Totals g None (Some s) (Some t) (Some u) None = refl
fault_of_lists Totals g None (Some s) (Some t) (Some u) (Some e) = refl
fault_of_lists Totals g (Some r) None None None None = refl
fault_of_lists Totals g (Some r) None None None (Some e) = refl
fault_of_lists Totals g (Some r) None None (Some u) None = refl
fault_of_lists Totals g (Some r) None None (Some u) (Some e) = refl
fault_of_lists Totals g (Some r) None (Some t) None None = refl
fault_of_lists Totals g (Some r) None (Some t) None (Some e) = refl
fault_of_lists Totals g (Some r) None (Some t) (Some u) None = refl
fault_of_lists Totals g (Some r) None (Some t) (Some u) (Some e) = refl
fault_of_lists Totals g (Some r) (Some s) None None None = refl
fault_of_lists Totals g (Some r) (Some s) None None (Some e) = refl
fault_of_lists Totals g (Some r) (Some s) None (Some u) None = refl
fault_of_lists Totals g (Some r) (Some s) None (Some u) (Some e) = refl
fault_of_lists Totals g (Some r) (Some s) (Some t) None None = refl
fault_of_lists Totals g (Some r) (Some s) (Some t) None (Some e) = refl
fault_of_lists Totals g (Some r) (Some s) (Some t) (Some u) None = refl
fault_of_lists Totals g (Some r) (Some s) (Some t) (Some u) (Some e) = refl
fault_of_lists Check g None None None None None = refl
fault_of_lists Check g None None None None (Some e) = refl
fault_of_lists Check g None None None (Some u) None = refl
fault_of_lists Check g None None None (Some u) (Some e) = refl
fault_of_lists Check g None None (Some t) None None = refl
fault_of_lists Check g None None (Some t) None (Some e) = refl
fault_of_lists Check g None None (Some t) (Some u) None = refl
fault_of_lists Check g None None (Some t) (Some u) (Some e) = refl
fault_of_lists Check g None (Some s) None None None = refl
fault_of_lists Check g None (Some s) None None (Some e) = refl
fault_of_lists Check g None (Some s) None (Some u) None = refl
fault_of_lists Check g None (Some s) None (Some u) (Some e) = refl
fault_of_lists Check g None (Some s) (Some t) None None = refl
fault_of_lists Check g None (Some s) (Some t) None (Some e) = refl
fault_of_lists Check g None (Some s) (Some t) (Some u) None = refl
fault_of_lists Check g None (Some s) (Some t) (Some u) (Some e) = refl
fault_of_lists Check g (Some r) None None None None = refl
fault_of_lists Check g (Some r) None None None (Some e) = refl
fault_of_lists Check g (Some r) None None (Some u) None = refl
fault_of_lists Check g (Some r) None None (Some u) (Some e) = refl
fault_of_lists Check g (Some r) None (Some t) None None = refl
fault_of_lists Check g (Some r) None (Some t) None (Some e) = refl
fault_of_lists Check g (Some r) None (Some t) (Some u) None = refl
fault_of_lists Check g (Some r) None (Some t) (Some u) (Some e) = refl
fault_of_lists Check g (Some r) (Some s) None None None = refl
fault_of_lists Check g (Some r) (Some s) None None (Some e) = refl
fault_of_lists Check g (Some r) (Some s) None (Some u) None = refl
fault_of_lists Check g (Some r) (Some s) None (Some u) (Some e) = refl
fault_of_lists Check g (Some r) (Some s) (Some t) None None = refl
fault_of_lists Check g (Some r) (Some s) (Some t) None (Some e) = refl
fault_of_lists Check g (Some r) (Some s) (Some t) (Some u) None = refl
fault_of_lists Check g (Some r) (Some s) (Some t) (Some u) (Some e) = refl
fault_of_lists Flows g None None None None None = refl
fault_of_lists Flows g None None None None (Some e) = refl
fault_of_lists Flows g None None None (Some u) None = refl
fault_of_lists Flows g None None None (Some u) (Some e) = refl
fault_of_lists Flows g None None (Some t) None None = refl
fault_of_lists Flows g None None (Some t) None (Some e) = refl
fault_of_lists Flows g None None (Some t) (Some u) None = refl
fault_of_lists Flows g None None (Some t) (Some u) (Some e) = refl
fault_of_lists Flows g None (Some s) None None None = refl
fault_of_lists Flows g None (Some s) None None (Some e) = refl
fault_of_lists Flows g None (Some s) None (Some u) None = refl
fault_of_lists Flows g None (Some s) None (Some u) (Some e) = refl
fault_of_lists Flows g None (Some s) (Some t) None None = refl
fault_of_lists Flows g None (Some s) (Some t) None (Some e) = refl
fault_of_lists Flows g None (Some s) (Some t) (Some u) None = refl
fault_of_lists Flows g None (Some s) (Some t) (Some u) (Some e) = refl
fault_of_lists Flows g (Some r) None None None None = refl
fault_of_lists Flows g (Some r) None None None (Some e) = refl
fault_of_lists Flows g (Some r) None None (Some u) None = refl
fault_of_lists Flows g (Some r) None None (Some u) (Some e) = refl
fault_of_lists Flows g (Some r) None (Some t) None None = refl
fault_of_lists Flows g (Some r) None (Some t) None (Some e) = refl
fault_of_lists Flows g (Some r) None (Some t) (Some u) None = refl
fault_of_lists Flows g (Some r) None (Some t) (Some u) (Some e) = refl
fault_of_lists Flows g (Some r) (Some s) None None None = refl
fault_of_lists Flows g (Some r) (Some s) None None (Some e) = refl
fault_of_lists Flows g (Some r) (Some s) None (Some u) None = refl
fault_of_lists Flows g (Some r) (Some s) None (Some u) (Some e) = refl
fault_of_lists Flows g (Some r) (Some s) (Some t) None None = refl
fault_of_lists Flows g (Some r) (Some s) (Some t) None (Some e) = refl
fault_of_lists Flows g (Some r) (Some s) (Some t) (Some u) None = refl
fault_of_lists Flows g (Some r) (Some s) (Some t) (Some u) (Some e) = refl

plan_of_lists : (mode : Mode) (g : Given) (rows schedule stop tags every : Option Text)
    → plan_of (λ name. first_of name (matches_of flowdir_app (line mode g (lists_with rows schedule stop tags every))))
    ≡ asked mode g (lists_with rows schedule stop tags every)
unfolding clap_on_literals flowdir_app
plan_of_lists Serve g None None None None None = refl
plan_of_lists Serve g None None None None (Some e) = refl
plan_of_lists Serve g None None None (Some u) None = refl
plan_of_lists Serve g None None None (Some u) (Some e) = refl
plan_of_lists Serve g None None (Some t) None None = refl
plan_of_lists Serve g None None (Some t) None (Some e) = refl
plan_of_lists Serve g None None (Some t) (Some u) None = refl
plan_of_lists Serve g None None (Some t) (Some u) (Some e) = refl
plan_of_lists Serve g None (Some s) None None None = refl
plan_of_lists Serve g None (Some s) None None (Some e) = refl
plan_of_lists Serve g None (Some s) None (Some u) None = refl
plan_of_lists Serve g None (Some s) None (Some u) (Some e) = refl
plan_of_lists Serve g None (Some s) (Some t) None None = refl
plan_of_lists Serve g None (Some s) (Some t) None (Some e) = refl
plan_of_lists Serve g None (Some s) (Some t) (Some u) None = refl
plan_of_lists Serve g None (Some s) (Some t) (Some u) (Some e) = refl
plan_of_lists Serve g (Some r) None None None None = refl
plan_of_lists Serve g (Some r) None None None (Some e) = refl
plan_of_lists Serve g (Some r) None None (Some u) None = refl
plan_of_lists Serve g (Some r) None None (Some u) (Some e) = refl
plan_of_lists Serve g (Some r) None (Some t) None None = refl
plan_of_lists Serve g (Some r) None (Some t) None (Some e) = refl
plan_of_lists Serve g (Some r) None (Some t) (Some u) None = refl
plan_of_lists Serve g (Some r) None (Some t) (Some u) (Some e) = refl
plan_of_lists Serve g (Some r) (Some s) None None None = refl
plan_of_lists Serve g (Some r) (Some s) None None (Some e) = refl
plan_of_lists Serve g (Some r) (Some s) None (Some u) None = refl
plan_of_lists Serve g (Some r) (Some s) None (Some u) (Some e) = refl
plan_of_lists Serve g (Some r) (Some s) (Some t) None None = refl
plan_of_lists Serve g (Some r) (Some s) (Some t) None (Some e) = refl
plan_of_lists Serve g (Some r) (Some s) (Some t) (Some u) None = refl
plan_of_lists Serve g (Some r) (Some s) (Some t) (Some u) (Some e) = refl
plan_of_lists Play g None None None None None = refl
plan_of_lists Play g None None None None (Some e) = refl
plan_of_lists Play g None None None (Some u) None = refl
plan_of_lists Play g None None None (Some u) (Some e) = refl
plan_of_lists Play g None None (Some t) None None = refl
plan_of_lists Play g None None (Some t) None (Some e) = refl
plan_of_lists Play g None None (Some t) (Some u) None = refl
plan_of_lists Play g None None (Some t) (Some u) (Some e) = refl
plan_of_lists Play g None (Some s) None None None = refl
plan_of_lists Play g None (Some s) None None (Some e) = refl
plan_of_lists Play g None (Some s) None (Some u) None = refl
plan_of_lists Play g None (Some s) None (Some u) (Some e) = refl
plan_of_lists Play g None (Some s) (Some t) None None = refl
plan_of_lists Play g None (Some s) (Some t) None (Some e) = refl
plan_of_lists Play g None (Some s) (Some t) (Some u) None = refl
plan_of_lists Play g None (Some s) (Some t) (Some u) (Some e) = refl
plan_of_lists Play g (Some r) None None None None = refl
plan_of_lists Play g (Some r) None None None (Some e) = refl
plan_of_lists Play g (Some r) None None (Some u) None = refl
plan_of_lists Play g (Some r) None None (Some u) (Some e) = refl
plan_of_lists Play g (Some r) None (Some t) None None = refl
plan_of_lists Play g (Some r) None (Some t) None (Some e) = refl
plan_of_lists Play g (Some r) None (Some t) (Some u) None = refl
plan_of_lists Play g (Some r) None (Some t) (Some u) (Some e) = refl
plan_of_lists Play g (Some r) (Some s) None None None = refl
plan_of_lists Play g (Some r) (Some s) None None (Some e) = refl
plan_of_lists Play g (Some r) (Some s) None (Some u) None = refl
plan_of_lists Play g (Some r) (Some s) None (Some u) (Some e) = refl
plan_of_lists Play g (Some r) (Some s) (Some t) None None = refl
plan_of_lists Play g (Some r) (Some s) (Some t) None (Some e) = refl
plan_of_lists Play g (Some r) (Some s) (Some t) (Some u) None = refl
plan_of_lists Play g (Some r) (Some s) (Some t) (Some u) (Some e) = refl
plan_of_lists Make g None None None None None = refl
plan_of_lists Make g None None None None (Some e) = refl
plan_of_lists Make g None None None (Some u) None = refl
plan_of_lists Make g None None None (Some u) (Some e) = refl
plan_of_lists Make g None None (Some t) None None = refl
plan_of_lists Make g None None (Some t) None (Some e) = refl
plan_of_lists Make g None None (Some t) (Some u) None = refl
plan_of_lists Make g None None (Some t) (Some u) (Some e) = refl
plan_of_lists Make g None (Some s) None None None = refl
plan_of_lists Make g None (Some s) None None (Some e) = refl
plan_of_lists Make g None (Some s) None (Some u) None = refl
plan_of_lists Make g None (Some s) None (Some u) (Some e) = refl
plan_of_lists Make g None (Some s) (Some t) None None = refl
plan_of_lists Make g None (Some s) (Some t) None (Some e) = refl
plan_of_lists Make g None (Some s) (Some t) (Some u) None = refl
plan_of_lists Make g None (Some s) (Some t) (Some u) (Some e) = refl
plan_of_lists Make g (Some r) None None None None = refl
plan_of_lists Make g (Some r) None None None (Some e) = refl
plan_of_lists Make g (Some r) None None (Some u) None = refl
plan_of_lists Make g (Some r) None None (Some u) (Some e) = refl
plan_of_lists Make g (Some r) None (Some t) None None = refl
plan_of_lists Make g (Some r) None (Some t) None (Some e) = refl
plan_of_lists Make g (Some r) None (Some t) (Some u) None = refl
plan_of_lists Make g (Some r) None (Some t) (Some u) (Some e) = refl
plan_of_lists Make g (Some r) (Some s) None None None = refl
plan_of_lists Make g (Some r) (Some s) None None (Some e) = refl
plan_of_lists Make g (Some r) (Some s) None (Some u) None = refl
plan_of_lists Make g (Some r) (Some s) None (Some u) (Some e) = refl
plan_of_lists Make g (Some r) (Some s) (Some t) None None = refl
plan_of_lists Make g (Some r) (Some s) (Some t) None (Some e) = refl
plan_of_lists Make g (Some r) (Some s) (Some t) (Some u) None = refl
plan_of_lists Make g (Some r) (Some s) (Some t) (Some u) (Some e) = refl
plan_of_lists Trial g None None None None None = refl
plan_of_lists Trial g None None None None (Some e) = refl
plan_of_lists Trial g None None None (Some u) None = refl
plan_of_lists Trial g None None None (Some u) (Some e) = refl
plan_of_lists Trial g None None (Some t) None None = refl
plan_of_lists Trial g None None (Some t) None (Some e) = refl
plan_of_lists Trial g None None (Some t) (Some u) None = refl
plan_of_lists Trial g None None (Some t) (Some u) (Some e) = refl
plan_of_lists Trial g None (Some s) None None None = refl
plan_of_lists Trial g None (Some s) None None (Some e) = refl
plan_of_lists Trial g None (Some s) None (Some u) None = refl
plan_of_lists Trial g None (Some s) None (Some u) (Some e) = refl
plan_of_lists Trial g None (Some s) (Some t) None None = refl
plan_of_lists Trial g None (Some s) (Some t) None (Some e) = refl
plan_of_lists Trial g None (Some s) (Some t) (Some u) None = refl
plan_of_lists Trial g None (Some s) (Some t) (Some u) (Some e) = refl
plan_of_lists Trial g (Some r) None None None None = refl
plan_of_lists Trial g (Some r) None None None (Some e) = refl
plan_of_lists Trial g (Some r) None None (Some u) None = refl
plan_of_lists Trial g (Some r) None None (Some u) (Some e) = refl
plan_of_lists Trial g (Some r) None (Some t) None None = refl
plan_of_lists Trial g (Some r) None (Some t) None (Some e) = refl
plan_of_lists Trial g (Some r) None (Some t) (Some u) None = refl
plan_of_lists Trial g (Some r) None (Some t) (Some u) (Some e) = refl
plan_of_lists Trial g (Some r) (Some s) None None None = refl
plan_of_lists Trial g (Some r) (Some s) None None (Some e) = refl
plan_of_lists Trial g (Some r) (Some s) None (Some u) None = refl
plan_of_lists Trial g (Some r) (Some s) None (Some u) (Some e) = refl
plan_of_lists Trial g (Some r) (Some s) (Some t) None None = refl
plan_of_lists Trial g (Some r) (Some s) (Some t) None (Some e) = refl
plan_of_lists Trial g (Some r) (Some s) (Some t) (Some u) None = refl
plan_of_lists Trial g (Some r) (Some s) (Some t) (Some u) (Some e) = refl
plan_of_lists Totals g None None None None None = refl
plan_of_lists Totals g None None None None (Some e) = refl
plan_of_lists Totals g None None None (Some u) None = refl
plan_of_lists Totals g None None None (Some u) (Some e) = refl
plan_of_lists Totals g None None (Some t) None None = refl
plan_of_lists Totals g None None (Some t) None (Some e) = refl
plan_of_lists Totals g None None (Some t) (Some u) None = refl
plan_of_lists Totals g None None (Some t) (Some u) (Some e) = refl
plan_of_lists Totals g None (Some s) None None None = refl
plan_of_lists Totals g None (Some s) None None (Some e) = refl
plan_of_lists Totals g None (Some s) None (Some u) None = refl
plan_of_lists Totals g None (Some s) None (Some u) (Some e) = refl
plan_of_lists Totals g None (Some s) (Some t) None None = refl
plan_of_lists Totals g None (Some s) (Some t) None (Some e) = refl
plan_of_lists Totals g None (Some s) (Some t) (Some u) None = refl
plan_of_lists Totals g None (Some s) (Some t) (Some u) (Some e) = refl
plan_of_lists Totals g (Some r) None None None None = refl
plan_of_lists Totals g (Some r) None None None (Some e) = refl
plan_of_lists Totals g (Some r) None None (Some u) None = refl
plan_of_lists Totals g (Some r) None None (Some u) (Some e) = refl
plan_of_lists Totals g (Some r) None (Some t) None None = refl
plan_of_lists Totals g (Some r) None (Some t) None (Some e) = refl
plan_of_lists Totals g (Some r) None (Some t) (Some u) None = refl
plan_of_lists Totals g (Some r) None (Some t) (Some u) (Some e) = refl
plan_of_lists Totals g (Some r) (Some s) None None None = refl
plan_of_lists Totals g (Some r) (Some s) None None (Some e) = refl
plan_of_lists Totals g (Some r) (Some s) None (Some u) None = refl
plan_of_lists Totals g (Some r) (Some s) None (Some u) (Some e) = refl
plan_of_lists Totals g (Some r) (Some s) (Some t) None None = refl
plan_of_lists Totals g (Some r) (Some s) (Some t) None (Some e) = refl
plan_of_lists Totals g (Some r) (Some s) (Some t) (Some u) None = refl
plan_of_lists Totals g (Some r) (Some s) (Some t) (Some u) (Some e) = refl
plan_of_lists Check g None None None None None = refl
plan_of_lists Check g None None None None (Some e) = refl
plan_of_lists Check g None None None (Some u) None = refl
plan_of_lists Check g None None None (Some u) (Some e) = refl
plan_of_lists Check g None None (Some t) None None = refl
plan_of_lists Check g None None (Some t) None (Some e) = refl
plan_of_lists Check g None None (Some t) (Some u) None = refl
plan_of_lists Check g None None (Some t) (Some u) (Some e) = refl
plan_of_lists Check g None (Some s) None None None = refl
plan_of_lists Check g None (Some s) None None (Some e) = refl
plan_of_lists Check g None (Some s) None (Some u) None = refl
plan_of_lists Check g None (Some s) None (Some u) (Some e) = refl
plan_of_lists Check g None (Some s) (Some t) None None = refl
plan_of_lists Check g None (Some s) (Some t) None (Some e) = refl
plan_of_lists Check g None (Some s) (Some t) (Some u) None = refl
plan_of_lists Check g None (Some s) (Some t) (Some u) (Some e) = refl
plan_of_lists Check g (Some r) None None None None = refl
plan_of_lists Check g (Some r) None None None (Some e) = refl
plan_of_lists Check g (Some r) None None (Some u) None = refl
plan_of_lists Check g (Some r) None None (Some u) (Some e) = refl
plan_of_lists Check g (Some r) None (Some t) None None = refl
plan_of_lists Check g (Some r) None (Some t) None (Some e) = refl
plan_of_lists Check g (Some r) None (Some t) (Some u) None = refl
plan_of_lists Check g (Some r) None (Some t) (Some u) (Some e) = refl
plan_of_lists Check g (Some r) (Some s) None None None = refl
plan_of_lists Check g (Some r) (Some s) None None (Some e) = refl
plan_of_lists Check g (Some r) (Some s) None (Some u) None = refl
plan_of_lists Check g (Some r) (Some s) None (Some u) (Some e) = refl
plan_of_lists Check g (Some r) (Some s) (Some t) None None = refl
plan_of_lists Check g (Some r) (Some s) (Some t) None (Some e) = refl
plan_of_lists Check g (Some r) (Some s) (Some t) (Some u) None = refl
plan_of_lists Check g (Some r) (Some s) (Some t) (Some u) (Some e) = refl
plan_of_lists Flows g None None None None None = refl
plan_of_lists Flows g None None None None (Some e) = refl
plan_of_lists Flows g None None None (Some u) None = refl
plan_of_lists Flows g None None None (Some u) (Some e) = refl
plan_of_lists Flows g None None (Some t) None None = refl
plan_of_lists Flows g None None (Some t) None (Some e) = refl
plan_of_lists Flows g None None (Some t) (Some u) None = refl
plan_of_lists Flows g None None (Some t) (Some u) (Some e) = refl
plan_of_lists Flows g None (Some s) None None None = refl
plan_of_lists Flows g None (Some s) None None (Some e) = refl
plan_of_lists Flows g None (Some s) None (Some u) None = refl
plan_of_lists Flows g None (Some s) None (Some u) (Some e) = refl
plan_of_lists Flows g None (Some s) (Some t) None None = refl
plan_of_lists Flows g None (Some s) (Some t) None (Some e) = refl
plan_of_lists Flows g None (Some s) (Some t) (Some u) None = refl
plan_of_lists Flows g None (Some s) (Some t) (Some u) (Some e) = refl
plan_of_lists Flows g (Some r) None None None None = refl
plan_of_lists Flows g (Some r) None None None (Some e) = refl
plan_of_lists Flows g (Some r) None None (Some u) None = refl
plan_of_lists Flows g (Some r) None None (Some u) (Some e) = refl
plan_of_lists Flows g (Some r) None (Some t) None None = refl
plan_of_lists Flows g (Some r) None (Some t) None (Some e) = refl
plan_of_lists Flows g (Some r) None (Some t) (Some u) None = refl
plan_of_lists Flows g (Some r) None (Some t) (Some u) (Some e) = refl
plan_of_lists Flows g (Some r) (Some s) None None None = refl
plan_of_lists Flows g (Some r) (Some s) None None (Some e) = refl
plan_of_lists Flows g (Some r) (Some s) None (Some u) None = refl
plan_of_lists Flows g (Some r) (Some s) None (Some u) (Some e) = refl
plan_of_lists Flows g (Some r) (Some s) (Some t) None None = refl
plan_of_lists Flows g (Some r) (Some s) (Some t) None (Some e) = refl
plan_of_lists Flows g (Some r) (Some s) (Some t) (Some u) None = refl
plan_of_lists Flows g (Some r) (Some s) (Some t) (Some u) (Some e) = refl

pub any_line : (mode : Mode) (g : Given) (lists : Lists)
    → reads (line mode g lists) ≡ cond (list_all (λ b. b) (tests g lists)) (asked mode g lists) None
any_line mode g lists =
    reads_by _ _ _ (fault_of_lists mode g lists.rows lists.schedule lists.stop lists.tags lists.every)
    (plan_of_lists mode g lists.rows lists.schedule lists.stop lists.tags lists.every) ∙ all_pass (tests g lists)
    (asked mode g lists)
