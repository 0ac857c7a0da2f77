-- The call is applied, with an entry or without.
use Rattle.std.proofs.Common.{◌∙◌, ℕ, Bool, [], ◌∷◌, ◌++◌, Some, refl, sym, ap, subst}
use Rattle.std.proofs.lemmas.List.{append-nil}
use Rattle.plain_map.specs.declared.calls.Reply.{Reply}
use Rattle.plain_map.specs.Updates.{IsUpdateReply}
use Rattle.exchange_calls.specs.Found.{own_marks}
use Rattle.exchange_calls.specs.declared.marks.Mark.{Mark}
use Rattle.exchange_calls.proofs.ChangeLemmas.{reply_small}
use Rattle.exchange_calls.proofs.ops.apply_own.Goals as goal

-- an entry by its words
abbrev mark_at : (word reply : ℕ) → Mark
mark_at word reply = record { word = word; reply = reply }

pub reply_word-requires : goal.reply_word-requires
reply_word-requires c =
    subst (λ (r : Reply). IsUpdateReply (Some r)) (sym c.change-reply.ensures.answer.reply)
    (reply_small c.args.desk.now.rules c.args.hand.now.items.items c.requires.small c.args.own.now.call
    c.requires.update)

pub returns-then-announced : goal.returns-then-announced
returns-then-announced c = record {
  reply_is = c.change-reply.ensures.answer.reply;
  items = c.change-reply.ensures.answer.after;
  marks = refl;
  next = c.push_reserved.ensures.items
      ∙ (λ i. c.args.hand.now.next.items
      ++ mark_at (c.mark_word.ensures.value i) (c.reply_word.ensures i) ∷ [])
      ∙ ap (λ (b : Bool). c.args.hand.now.next.items
      ++ own_marks b c.args.desk.now.holder c.args.own.now.number c.change-reply.result) (sym c.if-announced.true);
}

pub returns : goal.returns
returns c = record {
  reply_is = c.change-reply.ensures.answer.reply;
  items = c.change-reply.ensures.answer.after;
  marks = refl;
  next = sym (append-nil c.args.hand.now.next.items)
      ∙ ap (λ (b : Bool). c.args.hand.now.next.items
      ++ own_marks b c.args.desk.now.holder c.args.own.now.number c.change-reply.result) (sym c.if-announced.false);
}
