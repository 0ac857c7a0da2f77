-- A batch is closed, whose workers are through.
use Rattle.std.proofs.Common.{◌∙◌, ◌+◌, ◌++◌, Vec, Global, ap, refl, subst, sym, vec_len}
use Rattle.plain_map.specs.declared.calls.Call.{Call}
use Rattle.flows_runner.specs.declared.flowing.Flowing.{Flowing}
use Rattle.flows_runner.specs.Going.{block_told}
use Rattle.flows_runner.specs.Hands.{CanTake}
use Rattle.flows_runner.proofs.BatchLemmas.{HasCounted, can_take, few_back, seats_back, through}
use Rattle.flows_runner.proofs.CloseLemmas.{closed_done, closed_going, key_texts, went_on, within}
use Rattle.flows_runner.proofs.job.FlowingJobAsked.close.Goals as goal

pub take_back-requires-clause-seats : goal.take_back-requires-clause-seats
take_back-requires-clause-seats c =
    let r = c.requires.going in
    let o = r.4 in
    let went = through c.args.self.now c.args.made.shared r.0 c.args.made.workers.items c.args.made.kept r.1 r.2 o r.5
    o.seats o.first o.blocks o.served o.have o.so in (
      went.nows,
      went.seats,
      seats_back c.args.self.now c.args.made.shared r.0 c.args.made.workers.items c.args.made.kept r.1 r.2 o r.5
          o.seats o.first o.blocks o.served o.have o.so,
    )

pub take_back-requires-clause-few : goal.take_back-requires-clause-few
take_back-requires-clause-few c =
    let r = c.requires.going in
    let o = r.4 in
    few_back c.args.self.now c.args.made.shared r.0 c.args.made.workers.items c.args.made.kept r.1 r.2 o r.5 o.seats
    o.first o.blocks o.served o.have o.so r.3.few r.6

pub take_back-requires-clause-room : goal.take_back-requires-clause-room
take_back-requires-clause-room c =
    let r = c.requires.going in
    let o = r.4 in
    subst (CanTake c.args.self.now) (sym c.args.made.workers.ok.0)
    (can_take c.args.self.now c.args.made.shared r.0 c.args.made.workers.items c.args.made.kept r.1 r.2 o r.5 o.seats
    o.first o.blocks o.served o.have o.so r.3)

pub block_behind-requires-clause-going : goal.block_behind-requires-clause-going
block_behind-requires-clause-going c =
    let r = c.requires.going in
    let o = r.4 in
    let taken = c.take_back.ensures.taken in
    let counted : Flowing =
    record c.take_back.new.self { packets = c.take_back.new.self.packets + c.from.result } in
    let counts : HasCounted c.args.self.now counted c.args.made.workers.items c.args.made.kept =
    record {
      asked = taken.asked;
      packets = (λ i. taken.packets i + c.from.ensures i);
      calls = taken.calls;
      replies = taken.replies;
    } in
    let limit = within c.args.self.now c.args.made.shared r.0 c.args.made.kept r.1 r.2 o r.7 in
    let went = went_on c.args.self.now counted c.args.made.shared r.0 c.args.made.workers.items c.args.made.kept r.1 r.2
    o r.5 limit counts c.take_back.ensures.met o.seats o.first o.blocks o.served o.have o.so in
    (o.first ++ r.2, o.blocks, went.with_more, went.so)

pub returns-clause-going : goal.returns-clause-going
returns-clause-going c = λ started before packets away opened worked.
    let r = c.requires.going in
    let taken = c.take_back.ensures.taken in
    let counted : Flowing =
    record c.take_back.new.self { packets = c.take_back.new.self.packets + c.from.result } in
    let counts : HasCounted c.args.self.now counted c.args.made.workers.items c.args.made.kept =
    record {
      asked = taken.asked;
      packets = (λ i. taken.packets i + c.from.ensures i);
      calls = taken.calls;
      replies = taken.replies;
    } in
    let limit = within c.args.self.now c.args.made.shared r.0 c.args.made.kept r.1 r.2 r.4 r.7 in
    let same = c.in_ok-block.ensures.same in
    closed_going c.args.self.now counted c.block_behind.new.self c.args.made.shared started
    c.args.made.workers.items c.args.made.kept before packets opened worked limit counts c.take_back.ensures.met
    c.in_ok-block.block c.in_ok-block.ensures.block same _
    (record { asked = refl; replies = refl; packets = refl; calls = refl }) refl refl away
    (ap (λ (spare : Vec (Vec Call Global) Global). vec_len spare) same.spare ∙ taken.spare)

pub returns-clause-some : goal.returns-clause-some
returns-clause-some c =
    let r = c.requires.going in
    let o = r.4 in
    let taken = c.take_back.ensures.taken in
    let counted : Flowing =
    record c.take_back.new.self { packets = c.take_back.new.self.packets + c.from.result } in
    let counts : HasCounted c.args.self.now counted c.args.made.workers.items c.args.made.kept =
    record {
      asked = taken.asked;
      packets = (λ i. taken.packets i + c.from.ensures i);
      calls = taken.calls;
      replies = taken.replies;
    } in
    let limit = within c.args.self.now c.args.made.shared r.0 c.args.made.kept r.1 r.2 o r.7 in
    let went = went_on c.args.self.now counted c.args.made.shared r.0 c.args.made.workers.items c.args.made.kept r.1 r.2
    o r.5 limit counts c.take_back.ensures.met o.seats o.first o.blocks o.served o.have o.so in (
      block_told c.in_ok-block.block,
      (
        refl,
        key_texts counted c.block_behind.new.self c.args.made.shared (o.first ++ r.2) o.blocks went.with_more
            c.args.made.kept c.in_ok-block.block
            (c.in_ok-block.ensures.block (o.first ++ r.2) o.blocks went.with_more went.so),
      ),
    )

pub returns-clause-served : goal.returns-clause-served
returns-clause-served c = λ plan batches put started before packets under away opened worked lines tells.
    let r = c.requires.going in
    let taken = c.take_back.ensures.taken in
    let counted : Flowing =
    record c.take_back.new.self { packets = c.take_back.new.self.packets + c.from.result } in
    let counts : HasCounted c.args.self.now counted c.args.made.workers.items c.args.made.kept =
    record {
      asked = taken.asked;
      packets = (λ i. taken.packets i + c.from.ensures i);
      calls = taken.calls;
      replies = taken.replies;
    } in
    let limit = within c.args.self.now c.args.made.shared r.0 c.args.made.kept r.1 r.2 r.4 r.7 in
    closed_done c.args.self.now counted c.block_behind.new.self c.args.made.shared started
    c.args.made.workers.items c.args.made.kept before packets opened worked limit counts c.take_back.ensures.met
    c.in_ok-block.block c.in_ok-block.ensures.block c.in_ok-block.ensures.same _
    (record { asked = refl; replies = refl; packets = refl; calls = refl }) refl refl plan batches put lines under.seats
    under.have under.so tells.0
