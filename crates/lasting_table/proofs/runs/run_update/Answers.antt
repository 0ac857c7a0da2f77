use Rattle.lasting_calls.specs.declared.calls.Spent.TheVariants.{Asked, Updates}
use Rattle.std.proofs.Common.{◌∙◌, None, subst}
use Rattle.lasting_table.specs.Parties.{PartyValue}
use Rattle.lasting_table.specs.Calls.{holding_of}
use Rattle.lasting_table.specs.Values.{IsResting}
use Rattle.lasting_table.proofs.Ends.{Made, made, rests}
use Rattle.lasting_table.proofs.runs.run_update.Goals as goal

pub invariant_of-running : goal.invariant_of-running
invariant_of-running g c = rests g.B.Asked.asked g.B.Asked.tries g.B.Asked.since c.args.words.now.key
    c.args.words.now.table_id c.args.token c.requires.table c.requires.size c.requires.rests c.requires.since

pub taken-requires : goal.taken-requires
taken-requires g c = λ e. c.into_token-token.ensures.taken (c.update-made.ensures.ended None e).told_is

pub returns-clause-table : goal.returns-clause-table
returns-clause-table g c =
    let h = holding_of c.args.words.now.key c.args.token.me in
    let first : PartyValue = record { table_id = c.args.token.table_id; holding = h } in
    let all : Made g.B.Asked.asked g.B.Asked.tries g.B.Asked.since first c.requires.since c.update-made.new.steps
    c.into_token-token.ensures.ended c.into_token-token.ensures.waited c.args.words.now.key
    (subst (IsResting c.args.words.now.key) c.requires.rests.one c.requires.rests) c.into_token-token.result.me
    c.into_token-token.ensures.me c.update-made.new.seat c.update-made.ensures.seat c.update-made.result =
    made g.B.Asked.asked g.B.Asked.tries g.B.Asked.since first c.requires.since c.update-made.new.steps
    c.into_token-token.ensures.ended c.into_token-token.ensures.waited c.args.words.now.key
    (subst (IsResting c.args.words.now.key) c.requires.rests.one c.requires.rests) c.into_token-token.result.me
    c.into_token-token.ensures.me c.update-made.new.seat c.update-made.ensures.seat c.update-made.result
    c.update-made.ensures.ended c.update-made.ensures.waits c.into_token-token.ensures.taken in
    c.into_token-token.ensures.table ∙ all.table

pub returns-clause-rests : goal.returns-clause-rests
returns-clause-rests g c =
    let h = holding_of c.args.words.now.key c.args.token.me in
    let first : PartyValue = record { table_id = c.args.token.table_id; holding = h } in
    let all : Made g.B.Asked.asked g.B.Asked.tries g.B.Asked.since first c.requires.since c.update-made.new.steps
    c.into_token-token.ensures.ended c.into_token-token.ensures.waited c.args.words.now.key
    (subst (IsResting c.args.words.now.key) c.requires.rests.one c.requires.rests) c.into_token-token.result.me
    c.into_token-token.ensures.me c.update-made.new.seat c.update-made.ensures.seat c.update-made.result =
    made g.B.Asked.asked g.B.Asked.tries g.B.Asked.since first c.requires.since c.update-made.new.steps
    c.into_token-token.ensures.ended c.into_token-token.ensures.waited c.args.words.now.key
    (subst (IsResting c.args.words.now.key) c.requires.rests.one c.requires.rests) c.into_token-token.result.me
    c.into_token-token.ensures.me c.update-made.new.seat c.update-made.ensures.seat c.update-made.result
    c.update-made.ensures.ended c.update-made.ensures.waits c.into_token-token.ensures.taken in
    all.rests

pub returns-clause-keeps : goal.returns-clause-keeps
returns-clause-keeps g c =
    let h = holding_of c.args.words.now.key c.args.token.me in
    let first : PartyValue = record { table_id = c.args.token.table_id; holding = h } in
    let all : Made g.B.Asked.asked g.B.Asked.tries g.B.Asked.since first c.requires.since c.update-made.new.steps
    c.into_token-token.ensures.ended c.into_token-token.ensures.waited c.args.words.now.key
    (subst (IsResting c.args.words.now.key) c.requires.rests.one c.requires.rests) c.into_token-token.result.me
    c.into_token-token.ensures.me c.update-made.new.seat c.update-made.ensures.seat c.update-made.result =
    made g.B.Asked.asked g.B.Asked.tries g.B.Asked.since first c.requires.since c.update-made.new.steps
    c.into_token-token.ensures.ended c.into_token-token.ensures.waited c.args.words.now.key
    (subst (IsResting c.args.words.now.key) c.requires.rests.one c.requires.rests) c.into_token-token.result.me
    c.into_token-token.ensures.me c.update-made.new.seat c.update-made.ensures.seat c.update-made.result
    c.update-made.ensures.ended c.update-made.ensures.waits c.into_token-token.ensures.taken in
    all.keeps

pub returns-clause-goes_on : goal.returns-clause-goes_on
returns-clause-goes_on g c =
    let h = holding_of c.args.words.now.key c.args.token.me in
    let first : PartyValue = record { table_id = c.args.token.table_id; holding = h } in
    let all : Made g.B.Asked.asked g.B.Asked.tries g.B.Asked.since first c.requires.since c.update-made.new.steps
    c.into_token-token.ensures.ended c.into_token-token.ensures.waited c.args.words.now.key
    (subst (IsResting c.args.words.now.key) c.requires.rests.one c.requires.rests) c.into_token-token.result.me
    c.into_token-token.ensures.me c.update-made.new.seat c.update-made.ensures.seat c.update-made.result =
    made g.B.Asked.asked g.B.Asked.tries g.B.Asked.since first c.requires.since c.update-made.new.steps
    c.into_token-token.ensures.ended c.into_token-token.ensures.waited c.args.words.now.key
    (subst (IsResting c.args.words.now.key) c.requires.rests.one c.requires.rests) c.into_token-token.result.me
    c.into_token-token.ensures.me c.update-made.new.seat c.update-made.ensures.seat c.update-made.result
    c.update-made.ensures.ended c.update-made.ensures.waits c.into_token-token.ensures.taken in
    all.goes_on

pub returns-clause-answer : goal.returns-clause-answer
returns-clause-answer g c =
    let h = holding_of c.args.words.now.key c.args.token.me in
    let first : PartyValue = record { table_id = c.args.token.table_id; holding = h } in
    let all : Made g.B.Asked.asked g.B.Asked.tries g.B.Asked.since first c.requires.since c.update-made.new.steps
    c.into_token-token.ensures.ended c.into_token-token.ensures.waited c.args.words.now.key
    (subst (IsResting c.args.words.now.key) c.requires.rests.one c.requires.rests) c.into_token-token.result.me
    c.into_token-token.ensures.me c.update-made.new.seat c.update-made.ensures.seat c.update-made.result =
    made g.B.Asked.asked g.B.Asked.tries g.B.Asked.since first c.requires.since c.update-made.new.steps
    c.into_token-token.ensures.ended c.into_token-token.ensures.waited c.args.words.now.key
    (subst (IsResting c.args.words.now.key) c.requires.rests.one c.requires.rests) c.into_token-token.result.me
    c.into_token-token.ensures.me c.update-made.new.seat c.update-made.ensures.seat c.update-made.result
    c.update-made.ensures.ended c.update-made.ensures.waits c.into_token-token.ensures.taken in
    λ reply e. all.answer reply (c.taken.ensures.answered reply e)

pub returns-clause-waits : goal.returns-clause-waits
returns-clause-waits g c =
    let h = holding_of c.args.words.now.key c.args.token.me in
    let first : PartyValue = record { table_id = c.args.token.table_id; holding = h } in
    let all : Made g.B.Asked.asked g.B.Asked.tries g.B.Asked.since first c.requires.since c.update-made.new.steps
    c.into_token-token.ensures.ended c.into_token-token.ensures.waited c.args.words.now.key
    (subst (IsResting c.args.words.now.key) c.requires.rests.one c.requires.rests) c.into_token-token.result.me
    c.into_token-token.ensures.me c.update-made.new.seat c.update-made.ensures.seat c.update-made.result =
    made g.B.Asked.asked g.B.Asked.tries g.B.Asked.since first c.requires.since c.update-made.new.steps
    c.into_token-token.ensures.ended c.into_token-token.ensures.waited c.args.words.now.key
    (subst (IsResting c.args.words.now.key) c.requires.rests.one c.requires.rests) c.into_token-token.result.me
    c.into_token-token.ensures.me c.update-made.new.seat c.update-made.ensures.seat c.update-made.result
    c.update-made.ensures.ended c.update-made.ensures.waits c.into_token-token.ensures.taken in
    λ spent e. all.waits spent ((c.taken.ensures.spent spent).0 e)

pub returns-clause-updates : goal.returns-clause-updates
returns-clause-updates g c = (
  (λ e. c.update-made.ensures.updates.0 ((c.taken.ensures.spent Updates).0 e)),
  λ k. (c.taken.ensures.spent Updates).1 (c.update-made.ensures.updates.1 k),
)

pub returns-clause-asked : goal.returns-clause-asked
returns-clause-asked g c = (
  (λ e. c.update-made.ensures.asked.0 ((c.taken.ensures.spent Asked).0 e)),
  λ k. (c.taken.ensures.spent Asked).1 (c.update-made.ensures.asked.1 k),
)
