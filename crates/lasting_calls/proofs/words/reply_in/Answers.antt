use Rattle.std.proofs.Common.{◌∙◌, sym, arith}
use Rattle.lasting_calls.proofs.OpsLemmas.{reply_at}
use Rattle.lasting_calls.proofs.words.reply_in.Goals as goal

pub returns : goal.returns
returns c = c.reply_of.ensures.value
    ∙ sym (reply_at c.args.desk.now.settings c.args.words.now c.args.desk.now.seat _ c.args.desk.now.within
    (omega arith))
