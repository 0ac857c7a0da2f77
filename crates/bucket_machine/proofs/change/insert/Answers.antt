use Rattle.std.proofs.Common.{◌≡◌, ◌∙◌, Some, ap, sym, subst}
use Rattle.plain_map.specs.declared.keys.Pair.{Pair}
use Rattle.plain_map.specs.Keys.{held_in, no_pair, pair_of}
use Rattle.plain_map.specs.PlainObject.{new_session}
use Rattle.bucket_states.specs.Items.{value_at}
use Rattle.bucket_states.specs.Places.{IsBrought}
use Rattle.bucket_states.proofs.AnswerLemmas.{IsReply-Insert_held, IsAnswer-Insert_new}
use Rattle.bucket_machine.proofs.WordLemmas.{small_at}
use Rattle.bucket_machine.proofs.change.insert.Goals as goal

pub returns-in-Some-clause-answer : goal.returns-in-Some-clause-answer
returns-in-Some-clause-answer c b spells =
    let place = c.in-Some.ensures.found b spells in
    let is = c.pair_in.ensures.same b spells place.in_range no_pair in
    let held : value_at c.args.pair.now.key b.items ≡ Some (held_in c.pair_in.result) =
    place.value no_pair ∙ ap (λ (p : Pair). Some (held_in p)) (sym is) in
    record {
      left = b.items;
      answer = IsReply-Insert_held _ _ _ _ _ _ held;
      reply = small_at _ b.items c.in-Some.at _ no_pair spells.places.items place.in_range
          (ap (λ (p : Pair). p.value) is);
      spelled = spells;
    }

pub returns-in-None-clause-answer : goal.returns-in-None-clause-answer
returns-in-None-clause-answer c b spells =
    let pair : Pair = c.args.pair.now in
    let begins : pair ≡ pair_of (pair.key, new_session pair.value) =
    λ i. record { key = pair.key; value = pair.value; bytes = c.requires.begins i } in
    let came = c.bring.ensures.brought b spells in
    record {
      left = came.left;
      answer = IsAnswer-Insert_new _ _ _ _ (c.in-None.ensures.found b spells) pair.value _ _
          (subst (λ (p : Pair). IsBrought c.args.rules.now b.depth b.items p came.left c.bring.result) begins
          came.brought);
      reply = came.reply;
      spelled = came.spelled;
    }
