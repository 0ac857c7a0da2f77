use Rattle.std.proofs.Common.{sym, ap, ◌∙◌, subst}
use Rattle.plain_map.specs.declared.keys.Key.{Key}
use Rattle.table_model.specs.Worlds.{IsRun}
use Rattle.seat_calls.specs.Going.{Going}
use Rattle.shared_table.specs.Rule.{M, plain}
use Rattle.shared_table.specs.Glancing.{Start, front_of}
use Rattle.shared_table.specs.Seen.{WasSeen}
use Rattle.shared_table.proofs.GlanceLemmas.{begins_glancing}
use Rattle.shared_table.proofs.glancing.run_glance.Goals as goal

pub invariant_of-glancing : goal.invariant_of-glancing
invariant_of-glancing g c = begins_glancing g.B.Glance.key g.B.Glance.since c.args.words.now.key
    c.args.words.now.table_id c.args.token c.requires.table c.requires.size c.requires.one c.requires.opened
    c.requires.run c.requires.since

pub returns-clause-table : goal.returns-clause-table
returns-clause-table g c =
    let start : Start = record {
      table_id = c.args.token.table_id;
      opened = plain c.args.words.now.key;
      front = front_of c.args.words.now.key c.args.token.me;
    } in
    c.into_token.ensures.table ∙ (c.into_token.ensures.glanced start c.requires.since).table

pub returns-clause-opened : goal.returns-clause-opened
returns-clause-opened g c =
    let key = c.args.words.now.key in
    let start : Start = record {
      table_id = c.args.token.table_id;
      opened = plain key;
      front = front_of key c.args.token.me;
    } in
    ap (λ (m : M). (front_of key m).setup) c.into_token.ensures.me
    ∙ (c.into_token.ensures.glanced start c.requires.since).opened

pub returns-clause-run : goal.returns-clause-run
returns-clause-run g c =
    let key = c.args.words.now.key in
    let start : Start = record {
      table_id = c.args.token.table_id;
      opened = plain key;
      front = front_of key c.args.token.me;
    } in
    subst (λ (m : M). IsRun (plain key) (front_of key m).known) (sym c.into_token.ensures.me)
    (c.into_token.ensures.glanced start c.requires.since).run

pub returns-clause-held : goal.returns-clause-held
returns-clause-held g c =
    let key = c.args.words.now.key in
    let start : Start = record {
      table_id = c.args.token.table_id;
      opened = plain key;
      front = front_of key c.args.token.me;
    } in
    let row = c.glance-reply.ensures.0 in
    let phase = ap (λ (x : Going). x.phase) c.glance-reply.ensures.1.1 in
    subst (λ (m : M). WasSeen (plain key) (front_of key c.args.token.me) (front_of key m) c.args.key.now
    c.glance-reply.result) (sym c.into_token.ensures.me)
    (subst (λ (k : Key). WasSeen (plain key) (front_of key c.args.token.me)
    c.glance-reply.new.steps.front k c.glance-reply.result) c.requires.key
    ((c.into_token.ensures.glanced start c.requires.since).held c.glance-reply.result row phase))
