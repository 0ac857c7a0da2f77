use Rattle.std.proofs.Common.{◌∙◌, ◌≤◌, length}
use Rattle.exchange_table.specs.Values.{told_by_look}
use Rattle.exchange_table.specs.declared.stage.Stage.TheVariants.{Rests}
use Rattle.exchange_table.specs.Calls.{holding_of, now_of, running_value}
use Rattle.exchange_table.proofs.Ends.{answer_ends, look_told, rests, rests_ends, table_ends}
use Rattle.exchange_table.proofs.runs.run_look.Goals as goal

pub invariant_of-running : goal.invariant_of-running
invariant_of-running g c = rests g.B.Asked.asked g.B.Asked.tries g.B.Asked.since c.args.words.now.key
    c.args.words.now.table_id c.args.token c.requires.table c.requires.size c.requires.rests c.requires.since

pub returns-clause-table : goal.returns-clause-table
returns-clause-table g c = c.into_token.ensures.table ∙ table_ends g.B.Asked.asked g.B.Asked.tries g.B.Asked.since
    (record { table_id = c.args.token.table_id; holding = holding_of c.args.words.now.key c.args.token.me })
    c.requires.since c.look_at-count.new.steps c.into_token.ensures.ended (now_of g.B.Asked.asked g.B.Asked.tries
    (running_value c.args.words.now.key c.args.token Rests))
    (now_of g.B.Asked.asked g.B.Asked.tries (running_value c.args.words.now.key c.args.token Rests)).now.time
    (told_by_look c.look_at-count.result c.look_at-count.new.out)
    (look_told g.B.Asked.asked g.B.Asked.tries c.look_at-count.new.steps (now_of g.B.Asked.asked g.B.Asked.tries
    (running_value c.args.words.now.key c.args.token Rests))
    (now_of g.B.Asked.asked g.B.Asked.tries (running_value c.args.words.now.key c.args.token Rests)).now.time
    c.look_at-count.result c.look_at-count.new.out (λ n. n ≤ length c.look_at-count.new.out)
    c.look_at-count.ensures.told).1
    (look_told g.B.Asked.asked g.B.Asked.tries c.look_at-count.new.steps (now_of g.B.Asked.asked g.B.Asked.tries
    (running_value c.args.words.now.key c.args.token Rests))
    (now_of g.B.Asked.asked g.B.Asked.tries (running_value c.args.words.now.key c.args.token Rests)).now.time
    c.look_at-count.result c.look_at-count.new.out (λ n. n ≤ length c.look_at-count.new.out)
    c.look_at-count.ensures.told).0

pub returns-clause-rests : goal.returns-clause-rests
returns-clause-rests g c = rests_ends g.B.Asked.asked g.B.Asked.tries g.B.Asked.since (record {
  table_id =
      c.args.token.table_id;
  holding = holding_of c.args.words.now.key c.args.token.me;
})
    c.requires.since c.look_at-count.new.steps c.into_token.ensures.ended (now_of g.B.Asked.asked g.B.Asked.tries
    (running_value c.args.words.now.key c.args.token Rests))
    (now_of g.B.Asked.asked g.B.Asked.tries (running_value c.args.words.now.key c.args.token Rests)).now.time
    (told_by_look c.look_at-count.result c.look_at-count.new.out)
    (look_told g.B.Asked.asked g.B.Asked.tries c.look_at-count.new.steps (now_of g.B.Asked.asked g.B.Asked.tries
    (running_value c.args.words.now.key c.args.token Rests))
    (now_of g.B.Asked.asked g.B.Asked.tries (running_value c.args.words.now.key c.args.token Rests)).now.time
    c.look_at-count.result c.look_at-count.new.out (λ n. n ≤ length c.look_at-count.new.out)
    c.look_at-count.ensures.told).1
    (look_told g.B.Asked.asked g.B.Asked.tries c.look_at-count.new.steps (now_of g.B.Asked.asked g.B.Asked.tries
    (running_value c.args.words.now.key c.args.token Rests))
    (now_of g.B.Asked.asked g.B.Asked.tries (running_value c.args.words.now.key c.args.token Rests)).now.time
    c.look_at-count.result c.look_at-count.new.out (λ n. n ≤ length c.look_at-count.new.out)
    c.look_at-count.ensures.told).0
    c.args.words.now.key c.requires.rests.opened c.requires.rests.inside c.into_token.result.me c.into_token.ensures.me

pub returns-clause-answer : goal.returns-clause-answer
returns-clause-answer g c = answer_ends g.B.Asked.asked g.B.Asked.tries g.B.Asked.since (record {
  table_id =
      c.args.token.table_id;
  holding = holding_of c.args.words.now.key c.args.token.me;
})
    c.requires.since c.look_at-count.new.steps c.into_token.ensures.ended (now_of g.B.Asked.asked g.B.Asked.tries
    (running_value c.args.words.now.key c.args.token Rests))
    (now_of g.B.Asked.asked g.B.Asked.tries (running_value c.args.words.now.key c.args.token Rests)).now.time
    (told_by_look c.look_at-count.result c.look_at-count.new.out)
    (look_told g.B.Asked.asked g.B.Asked.tries c.look_at-count.new.steps (now_of g.B.Asked.asked g.B.Asked.tries
    (running_value c.args.words.now.key c.args.token Rests))
    (now_of g.B.Asked.asked g.B.Asked.tries (running_value c.args.words.now.key c.args.token Rests)).now.time
    c.look_at-count.result c.look_at-count.new.out (λ n. n ≤ length c.look_at-count.new.out)
    c.look_at-count.ensures.told).1
    (look_told g.B.Asked.asked g.B.Asked.tries c.look_at-count.new.steps (now_of g.B.Asked.asked g.B.Asked.tries
    (running_value c.args.words.now.key c.args.token Rests))
    (now_of g.B.Asked.asked g.B.Asked.tries (running_value c.args.words.now.key c.args.token Rests)).now.time
    c.look_at-count.result c.look_at-count.new.out (λ n. n ≤ length c.look_at-count.new.out)
    c.look_at-count.ensures.told).0
    c.args.words.now.key c.requires.rests.opened c.requires.rests.inside c.into_token.result.me c.into_token.ensures.me
