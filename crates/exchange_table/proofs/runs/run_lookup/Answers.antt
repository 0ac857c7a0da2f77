use Rattle.std.proofs.Common.{◌∙◌, ap, refl}
use Rattle.exchange_model.specs.Goes.{Replied}
use Rattle.exchange_table.specs.declared.stage.Stage.TheVariants.{Rests}
use Rattle.exchange_table.specs.Parties.{going_of}
use Rattle.exchange_table.specs.Calls.{holding_of, now_of, running_value}
use Rattle.exchange_table.proofs.Ends.{answer_ends, rests, rests_ends, table_ends, going_ends}
use Rattle.exchange_table.proofs.runs.run_lookup.Goals as goal

pub invariant_of-running : goal.invariant_of-running
invariant_of-running g c = rests g.B.Asked.asked g.B.Asked.tries g.B.Asked.since c.args.words.now.key
    c.args.words.now.table_id c.args.token c.requires.table c.requires.size c.requires.rests c.requires.since

pub returns-clause-table : goal.returns-clause-table
returns-clause-table g c = c.into_token.ensures.table ∙ table_ends g.B.Asked.asked g.B.Asked.tries g.B.Asked.since
    (record { table_id = c.args.token.table_id; holding = holding_of c.args.words.now.key c.args.token.me })
    c.requires.since c.lookup-reply.new.steps c.into_token.ensures.ended (now_of g.B.Asked.asked g.B.Asked.tries
    (running_value c.args.words.now.key c.args.token Rests))
    c.lookup-reply.new.time (Replied c.lookup-reply.result)
    refl
    c.lookup-reply.ensures.told

pub returns-clause-rests : goal.returns-clause-rests
returns-clause-rests g c = rests_ends g.B.Asked.asked g.B.Asked.tries g.B.Asked.since (record {
  table_id =
      c.args.token.table_id;
  holding = holding_of c.args.words.now.key c.args.token.me;
})
    c.requires.since c.lookup-reply.new.steps c.into_token.ensures.ended (now_of g.B.Asked.asked g.B.Asked.tries
    (running_value c.args.words.now.key c.args.token Rests))
    c.lookup-reply.new.time (Replied c.lookup-reply.result)
    refl
    c.lookup-reply.ensures.told
    c.args.words.now.key c.requires.rests.opened c.requires.rests.inside c.into_token.result.me c.into_token.ensures.me

pub returns-clause-answer : goal.returns-clause-answer
returns-clause-answer g c = answer_ends g.B.Asked.asked g.B.Asked.tries g.B.Asked.since (record {
  table_id =
      c.args.token.table_id;
  holding = holding_of c.args.words.now.key c.args.token.me;
})
    c.requires.since c.lookup-reply.new.steps c.into_token.ensures.ended (now_of g.B.Asked.asked g.B.Asked.tries
    (running_value c.args.words.now.key c.args.token Rests))
    c.lookup-reply.new.time (Replied c.lookup-reply.result)
    refl
    c.lookup-reply.ensures.told
    c.args.words.now.key c.requires.rests.opened c.requires.rests.inside c.into_token.result.me c.into_token.ensures.me

pub returns-clause-going : goal.returns-clause-going
returns-clause-going g c = ap going_of (ap (holding_of c.args.words.now.key) c.into_token.ensures.me)
    ∙ going_ends g.B.Asked.asked g.B.Asked.tries g.B.Asked.since (record {
      table_id = c.args.token.table_id;
      holding
          = holding_of c.args.words.now.key c.args.token.me;
    })
    c.requires.since c.lookup-reply.new.steps c.into_token.ensures.ended (now_of g.B.Asked.asked g.B.Asked.tries
    (running_value c.args.words.now.key c.args.token Rests))
    c.lookup-reply.new.time (Replied c.lookup-reply.result)
    refl
    c.lookup-reply.ensures.told
