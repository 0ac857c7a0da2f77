-- The class is the bucket; whether it is in there yet tells the seat's number.
use Rattle.std.proofs.Common.{◌∙◌, ◌/◌, ◌%◌, ℕ, Bool, sym, ap, arith}
use Rattle.std.specs.Prelude.{nat_lt, ◌&&◌, slice_index}
use Rattle.lasting_calls.specs.Updates.{state_at}
use Rattle.lasting_calls.proofs.FindLemmas.{words_same}
use Rattle.lasting_calls.proofs.OpsLemmas.{applied_at}
use Rattle.lasting_calls.proofs.ops.is_due.Goals as goal

pub returns-then-announced-bucket : goal.returns-then-announced-bucket
returns-then-announced-bucket c =
    let state = state_at c.args.desk.now.settings c.args.words.now in
    let later : Bool = nat_lt (slice_index state.applied c.args.seat) (c.args.announced / 32768) in
    ap (λ (n : ℕ). nat_lt n (c.args.announced / 32768))
    (sym (applied_at c.args.desk.now.settings c.args.words.now c.args.seat _ c.requires.seat (omega arith)))
    ∙ sym (ap (λ (b : Bool). b && later)
    (words_same (c.args.announced % 32768) c.args.bucket c.if-announced-bucket.true))
