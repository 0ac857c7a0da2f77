use Rattle.std.proofs.Common.{◌≡◌, ◌∙◌, sym, ap, subst, IfOk, OnOk}
use Rattle.plain_map.specs.declared.calls.Reply.{Reply}
use Rattle.plain_map.specs.PlainObject.{Sessions, map_after, reply_of}
use Rattle.class_map.proofs.AnswerLemmas.{map_after-Remove, map_after-Lookup, reply_of-Insert, map_after-Insert, reply_of-Count, map_after-Count, reply_of-Put, map_after-Put}
use Rattle.class_map.proofs.object.PlainMap.answer.Goals as goal

pub returns-in-Remove-clause-change : goal.returns-in-Remove-clause-change
returns-in-Remove-clause-change c =
    c.remove.ensures.change
    ∙ sym (map_after-Remove c.args.rules.now c.args.self.now c.in-Remove.key)
    ∙ ap (map_after c.args.rules.now c.args.self.now) (sym c.in-Remove.is)

pub returns-in-Lookup-clause-change : goal.returns-in-Lookup-clause-change
returns-in-Lookup-clause-change c =
    sym (map_after-Lookup c.args.rules.now c.args.self.now c.in-Lookup.key)
    ∙ ap (map_after c.args.rules.now c.args.self.now) (sym c.in-Lookup.is)

pub returns-in-Tally-clause-reply : goal.returns-in-Tally-clause-reply
returns-in-Tally-clause-reply c =
    c.tally.ensures.reply c.args.rules.now
    ∙ ap (reply_of c.args.rules.now c.args.self.now) (sym c.in-Tally.is)

pub returns-in-Tally-clause-change : goal.returns-in-Tally-clause-change
returns-in-Tally-clause-change c =
    c.tally.ensures.change c.args.rules.now
    ∙ ap (map_after c.args.rules.now c.args.self.now) (sym c.in-Tally.is)

pub returns-in-Insert-clause-reply : goal.returns-in-Insert-clause-reply
returns-in-Insert-clause-reply c =
    subst (λ (x : Reply). IfOk c.insert.result (λ reply. reply ≡ x))
    (reply_of-Insert c.args.rules.now c.args.self.now c.in-Insert.key c.in-Insert.value
    ∙ ap (reply_of c.args.rules.now c.args.self.now) (sym c.in-Insert.is)) c.insert.ensures.reply

pub returns-in-Insert-clause-change : goal.returns-in-Insert-clause-change
returns-in-Insert-clause-change c =
    subst (λ (x : Sessions). OnOk c.insert.result (c.insert.new.self ≡ x))
    (map_after-Insert c.args.rules.now c.args.self.now c.in-Insert.key c.in-Insert.value
    ∙ ap (map_after c.args.rules.now c.args.self.now) (sym c.in-Insert.is)) c.insert.ensures.change

pub returns-in-Count-clause-reply : goal.returns-in-Count-clause-reply
returns-in-Count-clause-reply c =
    subst (λ (x : Reply). IfOk c.count.result (λ reply. reply ≡ x))
    (reply_of-Count c.args.rules.now c.args.self.now c.in-Count.key c.in-Count.value c.in-Count.amount
    ∙ ap (reply_of c.args.rules.now c.args.self.now) (sym c.in-Count.is)) c.count.ensures.reply

pub returns-in-Count-clause-change : goal.returns-in-Count-clause-change
returns-in-Count-clause-change c =
    subst (λ (x : Sessions). OnOk c.count.result (c.count.new.self ≡ x))
    (map_after-Count c.args.rules.now c.args.self.now c.in-Count.key c.in-Count.value c.in-Count.amount
    ∙ ap (map_after c.args.rules.now c.args.self.now) (sym c.in-Count.is)) c.count.ensures.change

pub returns-in-Put-clause-reply : goal.returns-in-Put-clause-reply
returns-in-Put-clause-reply c =
    subst (λ (x : Reply). IfOk c.put.result (λ reply. reply ≡ x))
    (reply_of-Put c.args.rules.now c.args.self.now c.in-Put.key c.in-Put.value
    ∙ ap (reply_of c.args.rules.now c.args.self.now) (sym c.in-Put.is)) c.put.ensures.reply

pub returns-in-Put-clause-change : goal.returns-in-Put-clause-change
returns-in-Put-clause-change c =
    subst (λ (x : Sessions). OnOk c.put.result (c.put.new.self ≡ x))
    (map_after-Put c.args.rules.now c.args.self.now c.in-Put.key c.in-Put.value
    ∙ ap (map_after c.args.rules.now c.args.self.now) (sym c.in-Put.is)) c.put.ensures.change
