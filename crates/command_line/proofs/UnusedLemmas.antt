-- What is read has its default wherever its mode does not use the option.
use Rattle.std.proofs.Common.{◌≡◌, Bool, cond, true, false, List, Option, Some, None, IfSome, refl, subst}
use Rattle.clap.specs.Faults.{fault_of}
use Rattle.clap.specs.Simple.{matches_of}
use Rattle.clap.specs.Walk.{Text, first_of, is_empty}
use Rattle.step_counts.specs.declared.rows.SeatRows.{SeatRows}
use Rattle.command_line.specs.Command.{flowdir_app}
use Rattle.command_line.specs.CommandLines.{as_used}
use Rattle.line_fields.specs.Reading.{◌>>=◌}
use Rattle.command_line.specs.Words.{Values, calls_in, framing_in, hashing_in, mode_of, plan_of, plan_with, reads, rows_for, schedule_for}
use Rattle.command_line.specs.Words.{seats_in}
use Rattle.command_line.specs.Words.{share_in, start_in, stops_in, text_in}
use Rattle.command_line.specs.declared.plays.Segment.{Segment}
use Rattle.std.specs.Prelude.{replicate, ℕ}
use Rattle.command_line.specs.declared.plan.Mode.{Mode}
use Rattle.command_line.specs.declared.plan.Mode.TheVariants.{Serve, Play, Make, Trial, Totals, Check, Flows}
use Rattle.command_line.specs.declared.plan.Plan.{Plan}
use Rattle.std.proofs.Common.{codes, []}

-- a plan has what its mode does not use as where no word says it
abbrev pub IsAsUsed : Plan → Type 0
IsAsUsed p = as_used p p.mode ≡ p

-- what holds of each answer holds of the whole
bound : {A B : Type 0} (P : B → Type 0) (o : Option A) (f : A → Option B) → ((a : A) → IfSome (f a) P)
    → IfSome (o >>= f) P
bound P None f each = tt
bound P (Some a) f each = each a

serve_used : (given : Values) (rows : Option SeatRows)
    → IfSome (plan_with Serve rows [] (replicate (seats_in Serve given) None) given) IsAsUsed
serve_used given rows =
    bound IsAsUsed (start_in Serve given) _ (λ start. bound IsAsUsed (hashing_in Serve given) _
    (λ hashing. bound IsAsUsed (share_in Serve given) _ (λ share. bound IsAsUsed (framing_in Serve given) _
    (λ framing. bound IsAsUsed (calls_in Serve given) _ (λ calls. refl)))))

play_used : (given : Values) (rows : Option SeatRows) (schedule : List Segment) (stops : List (Option ℕ))
    → IfSome (plan_with Play rows schedule stops given) IsAsUsed
play_used given rows schedule stops =
    bound IsAsUsed (start_in Play given) _ (λ start. bound IsAsUsed (hashing_in Play given) _
    (λ hashing. bound IsAsUsed (share_in Play given) _ (λ share. bound IsAsUsed (framing_in Play given) _
    (λ framing. bound IsAsUsed (calls_in Play given) _ (λ calls. refl)))))

trial_used : (given : Values)
    → IfSome (plan_with Trial None [] (replicate (seats_in Trial given) None) given) IsAsUsed
trial_used given = bound IsAsUsed (start_in Trial given) _ (λ start. refl)

flows_used : (given : Values)
    → IfSome (plan_with Flows None [] (replicate (seats_in Flows given) None) given) IsAsUsed
flows_used given =
    bound IsAsUsed (framing_in Flows given) _
    (λ framing. bound IsAsUsed (calls_in Flows given) _ (λ calls. refl))

mode_used : (given : Values) (mode : Mode)
    → IfSome (rows_for mode given >>= (λ rows. schedule_for mode (seats_in mode given) given >>=
    (λ schedule. stops_in mode (seats_in mode given) given >>=
    (λ stops. plan_with mode rows schedule stops given)))) IsAsUsed
mode_used given Serve = bound IsAsUsed (rows_for Serve given) _ (λ rows. serve_used given rows)
mode_used given Play =
    bound IsAsUsed (rows_for Play given) _
    (λ rows. bound IsAsUsed (schedule_for Play (seats_in Play given) given) _
    (λ schedule. bound IsAsUsed (stops_in Play (seats_in Play given) given) _
    (λ stops. play_used given rows schedule stops)))
mode_used given Make = refl
mode_used given Trial = trial_used given
mode_used given Totals = bound IsAsUsed (framing_in Totals given) _ (λ framing. refl)
mode_used given Check = refl
mode_used given Flows = flows_used given

plan_used : (given : Values) → IfSome (plan_of given) IsAsUsed
plan_used given = bound IsAsUsed (mode_of (text_in given (codes "mode") [])) _ (mode_used given)

chosen : (b : Bool) (plan : Option Plan) → IfSome plan IsAsUsed → IfSome (cond b plan None) IsAsUsed
chosen true plan h = h
chosen false plan h = tt

reads_used : (words : List Text) → IfSome (reads words) IsAsUsed
unfolding reads
reads_used words = chosen (is_empty (fault_of flowdir_app words)) _
    (plan_used (λ name. first_of name (matches_of flowdir_app words)))

pub unused : (words : List Text) (p : Plan) → reads words ≡ Some p → as_used p p.mode ≡ p
unused words p is = subst (λ (o : Option Plan). IfSome o IsAsUsed) is (reads_used words)
