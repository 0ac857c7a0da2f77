-- The ops are found, the row is stored, and the exchange tells the rest.
use Rattle.std.proofs.Common.{◌≡◌, ◌+◌, ◌∙◌, ℕ, Some, None, length, sym, ap, subst}
use Rattle.step_counts.specs.StepCounts.{bucket_row_words}
use Rattle.bucket_states.specs.States.{BucketState}
use Rattle.table_model.specs.Fits.{Makes}
use Rattle.table_model.specs.Goes.{after_exchange, bucket_in_words}
use Rattle.table_model.specs.Phases.{BucketTry, TryWord}
use Rattle.table_model.specs.Setup.{settings_of}
use Rattle.table_model.specs.Stores.{made_bucket}
use Rattle.seat_calls.specs.Desks.{state_at}
use Rattle.seat_calls.specs.Going.{Going, went}
use Rattle.seat_calls.specs.Tries.{tried}
use Rattle.seat_calls.proofs.ExchangeLemmas.{made_here, row_answers, row_frozen, row_lost, row_won, with_row}
use Rattle.seat_calls.proofs.LeafLemmas.{row_here}
use Rattle.seat_calls.proofs.tries.change_bucket.Goals as goal

pub returns-then-exchange-row-clause-goes : goal.returns-then-exchange-row-clause-goes
returns-then-exchange-row-clause-goes g c =
    let f : Going = g.S.Steps.now c.args.steps.now in
    let t : BucketTry = tried c.args.turn c.args.first c.args.row (bucket_in_words f.setup c.args.words.now) in
    let ops = c.find_ops-spent.new.ops in
    let size : ℕ = length c.change.new.words in
    let long : size ≡ bucket_row_words (settings_of f.setup) = c.change.ensures.len ∙ c.requires.words in
    let put = c.store_row.ensures c.args.round t ops (ap (λ (h : Going). h.phase) c.find_ops-spent.ensures.goes) in
    let lost = row_lost f c.args.round t ops c.find_ops-spent.result size (g.S.Steps.now c.find_ops-spent.new.steps)
    (g.S.Steps.now c.store_row.new.steps) c.find_ops-spent.ensures.goes put long
    c.exchange.result c.if-exchange-row.true in
    c.exchange.ensures.goes ∙ lost
    ∙ (λ i. went f (sym c.requires.used i) (c.find_ops-spent.result + size + 1)
    (TryWord c.args.round (c.args.turn + 1) (Some c.args.first)))

pub unreachable-requires : goal.unreachable-requires
unreachable-requires g c =
    let f : Going = g.S.Steps.now c.args.steps.now in
    let desk = c.args.desk.now in
    let t : BucketTry = tried c.args.turn c.args.first c.args.row (bucket_in_words f.setup c.args.words.now) in
    let ops = c.find_ops-spent.new.ops in
    let size : ℕ = length c.change.new.words in
    let long : size ≡ bucket_row_words (settings_of f.setup) = c.change.ensures.len ∙ c.requires.words in
    let put = c.store_row.ensures c.args.round t ops (ap (λ (h : Going). h.phase) c.find_ops-spent.ensures.goes) in
    let won = row_won f c.args.round t ops c.find_ops-spent.result size (g.S.Steps.now c.find_ops-spent.new.steps)
    (g.S.Steps.now c.store_row.new.steps) c.find_ops-spent.ensures.goes put long
    c.exchange.result c.if-exchange-row.false in
    let made : BucketState = made_bucket f.setup t ops in
    let state : BucketState = state_at desk c.change.new.words in
    let made_is : made ≡ state =
    made_here f desk ops c.args.words.now c.requires.desk ∙ sym c.change.ensures.state in
    let here = row_here f desk c.args.used.now c.requires.desk c.requires.used in
    let answer = row_answers f desk c.args.round made state (desk.first.bucket_rows + c.args.used.now.bucket_rows)
    c.applied_in.result c.args.own.now.number c.requires.desk made_is c.applied_in.ensures c.requires.own.number
    c.if-own-applied_in.true None c.in_default.ensures in
    subst (Makes f.setup) ((λ i. after_exchange f.seat f.flight c.args.round made (sym here i)) ∙ answer)
    (subst (λ (h : Going). Makes h.setup h.phase) won c.exchange.ensures.fits.makes)

pub returns-then-own-applied_in-clause-goes : goal.returns-then-own-applied_in-clause-goes
returns-then-own-applied_in-clause-goes g c =
    let f : Going = g.S.Steps.now c.args.steps.now in
    let desk = c.args.desk.now in
    let t : BucketTry = tried c.args.turn c.args.first c.args.row (bucket_in_words f.setup c.args.words.now) in
    let ops = c.find_ops-spent.new.ops in
    let size : ℕ = length c.change.new.words in
    let long : size ≡ bucket_row_words (settings_of f.setup) = c.change.ensures.len ∙ c.requires.words in
    let put = c.store_row.ensures c.args.round t ops (ap (λ (h : Going). h.phase) c.find_ops-spent.ensures.goes) in
    let won = row_won f c.args.round t ops c.find_ops-spent.result size (g.S.Steps.now c.find_ops-spent.new.steps)
    (g.S.Steps.now c.store_row.new.steps) c.find_ops-spent.ensures.goes put long
    c.exchange.result c.if-exchange-row.false in
    let made : BucketState = made_bucket f.setup t ops in
    let state : BucketState = state_at desk c.change.new.words in
    let made_is : made ≡ state =
    made_here f desk ops c.args.words.now c.requires.desk ∙ sym c.change.ensures.state in
    let here = row_here f desk c.args.used.now c.requires.desk c.requires.used in
    let answer = row_answers f desk c.args.round made state (desk.first.bucket_rows + c.args.used.now.bucket_rows)
    c.applied_in.result c.args.own.now.number c.requires.desk made_is c.applied_in.ensures c.requires.own.number
    c.if-own-applied_in.true (Some c.in-Some.reply) c.in-Some.ensures in
    c.exchange.ensures.goes ∙ won
    ∙ (λ i. went f (with_row (sym c.requires.used i)) (c.find_ops-spent.result + size + 1)
    (((λ j. after_exchange f.seat f.flight c.args.round made (sym here j)) ∙ answer) i))

pub returns-clause-goes : goal.returns-clause-goes
returns-clause-goes g c =
    let f : Going = g.S.Steps.now c.args.steps.now in
    let desk = c.args.desk.now in
    let t : BucketTry = tried c.args.turn c.args.first c.args.row (bucket_in_words f.setup c.args.words.now) in
    let ops = c.find_ops-spent.new.ops in
    let size : ℕ = length c.change.new.words in
    let long : size ≡ bucket_row_words (settings_of f.setup) = c.change.ensures.len ∙ c.requires.words in
    let put = c.store_row.ensures c.args.round t ops (ap (λ (h : Going). h.phase) c.find_ops-spent.ensures.goes) in
    let won = row_won f c.args.round t ops c.find_ops-spent.result size (g.S.Steps.now c.find_ops-spent.new.steps)
    (g.S.Steps.now c.store_row.new.steps) c.find_ops-spent.ensures.goes put long
    c.exchange.result c.if-exchange-row.false in
    let made : BucketState = made_bucket f.setup t ops in
    let state : BucketState = state_at desk c.change.new.words in
    let made_is : made ≡ state =
    made_here f desk ops c.args.words.now c.requires.desk ∙ sym c.change.ensures.state in
    let here = row_here f desk c.args.used.now c.requires.desk c.requires.used in
    let same = ap (λ (row : ℕ). after_exchange f.seat f.flight c.args.round made row) (sym here) in
    let makes = subst (Makes f.setup) same (subst (λ (h : Going). Makes h.setup h.phase) won
    c.exchange.ensures.fits.makes) in
    let left = row_frozen f desk c.args.round made state (desk.first.bucket_rows + c.args.used.now.bucket_rows)
    c.applied_in.result c.args.own.now.number c.requires.desk made_is c.applied_in.ensures c.requires.own.number
    c.if-own-applied_in.false makes in
    c.exchange.ensures.goes ∙ won
    ∙ (λ i. went f (with_row (sym c.requires.used i)) (c.find_ops-spent.result + size + 1) ((same ∙ left) i))
