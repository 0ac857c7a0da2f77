use Rattle.std.proofs.Common.{◌∙◌}
use Rattle.exchange_table.specs.declared.stage.Stage.TheVariants.{Rests}
use Rattle.exchange_table.specs.Parties.{going_of}
use Rattle.exchange_table.specs.Calls.{holding_of, now_of, running_value}
use Rattle.exchange_table.proofs.Ends.{answer_made, keeps_made, none_refused, rests, rests_made, table_made, told_nothing}
use Rattle.exchange_table.proofs.runs.run_update.Goals as goal

pub invariant_of-running : goal.invariant_of-running
invariant_of-running g c = rests g.B.Asked.asked g.B.Asked.tries g.B.Asked.since c.args.words.now.key
    c.args.words.now.table_id c.args.token c.requires.table c.requires.size c.requires.rests c.requires.since

pub update-made-requires-clause-seat : goal.update-made-requires-clause-seat
update-made-requires-clause-seat g c =
    told_nothing (going_of (holding_of c.args.words.now.key c.args.token.me)) c.args.state.now c.requires.keeps

pub returns-clause-table : goal.returns-clause-table
returns-clause-table g c = c.into_token.ensures.table ∙ table_made g.B.Asked.asked g.B.Asked.tries g.B.Asked.since
    (record { table_id = c.args.token.table_id; holding = holding_of c.args.words.now.key c.args.token.me })
    c.requires.since c.update-made.new.steps c.into_token.ensures.ended c.into_token.ensures.taken (now_of
    g.B.Asked.asked
    g.B.Asked.tries (running_value c.args.words.now.key c.args.token Rests)) c.update-made.new.seat c.update-made.result
    c.update-made.ensures.told

pub returns-clause-rests : goal.returns-clause-rests
returns-clause-rests g c = rests_made g.B.Asked.asked g.B.Asked.tries g.B.Asked.since
    (record { table_id = c.args.token.table_id; holding = holding_of c.args.words.now.key c.args.token.me })
    c.requires.since c.update-made.new.steps c.into_token.ensures.ended c.into_token.ensures.taken (now_of
    g.B.Asked.asked
    g.B.Asked.tries (running_value c.args.words.now.key c.args.token Rests)) c.update-made.new.seat c.update-made.result
    c.update-made.ensures.told
    c.args.words.now.key c.requires.rests.opened c.requires.rests.inside c.into_token.result.me c.into_token.ensures.me

pub returns-clause-keeps : goal.returns-clause-keeps
returns-clause-keeps g c = keeps_made g.B.Asked.asked g.B.Asked.tries g.B.Asked.since
    (record { table_id = c.args.token.table_id; holding = holding_of c.args.words.now.key c.args.token.me })
    c.requires.since c.update-made.new.steps c.into_token.ensures.ended c.into_token.ensures.taken (now_of
    g.B.Asked.asked
    g.B.Asked.tries (running_value c.args.words.now.key c.args.token Rests)) c.update-made.new.seat c.update-made.result
    c.update-made.ensures.told
    c.args.words.now.key c.requires.rests.opened c.requires.rests.inside c.into_token.result.me c.into_token.ensures.me
    c.update-made.ensures.seat

pub returns-clause-answer : goal.returns-clause-answer
returns-clause-answer g c = answer_made g.B.Asked.asked g.B.Asked.tries g.B.Asked.since
    (record { table_id = c.args.token.table_id; holding = holding_of c.args.words.now.key c.args.token.me })
    c.requires.since c.update-made.new.steps c.into_token.ensures.ended c.into_token.ensures.taken (now_of
    g.B.Asked.asked
    g.B.Asked.tries (running_value c.args.words.now.key c.args.token Rests)) c.update-made.new.seat c.update-made.result
    c.update-made.ensures.told
    c.args.words.now.key c.requires.rests.opened c.requires.rests.inside c.into_token.result.me c.into_token.ensures.me

pub returns-clause-taken : goal.returns-clause-taken
returns-clause-taken g c = none_refused g.B.Asked.asked g.B.Asked.tries g.B.Asked.since
    (record { table_id = c.args.token.table_id; holding = holding_of c.args.words.now.key c.args.token.me })
    c.requires.since c.update-made.new.steps c.into_token.ensures.ended c.into_token.ensures.taken (now_of
    g.B.Asked.asked
    g.B.Asked.tries (running_value c.args.words.now.key c.args.token Rests)) c.update-made.new.seat c.update-made.result
    c.update-made.ensures.told
