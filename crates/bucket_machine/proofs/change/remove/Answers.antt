use Rattle.std.proofs.Common.{◌≡◌, ◌∙◌, Some, ap, sym}
use Rattle.std.specs.List.{remove}
use Rattle.plain_map.specs.declared.keys.Pair.{Pair}
use Rattle.bucket_states.specs.Items.{value_at}
use Rattle.bucket_states.proofs.AnswerLemmas.{IsReply-Remove_held, IsReply-Remove_absent}
use Rattle.bucket_machine.proofs.WordLemmas.{with_places, small_at, items_removed}
use Rattle.bucket_machine.proofs.change.remove.Goals as goal
use Rattle.plain_map.specs.Keys.{held_in, no_pair}

pub returns-in-Some-clause-answer : goal.returns-in-Some-clause-answer
returns-in-Some-clause-answer c rules b spells =
    let place = c.in-Some.ensures.found b spells in
    let pair : Pair = c.pair_in-value.result in
    let is = c.pair_in-value.ensures.same b spells place.in_range no_pair in
    let held : value_at c.args.key.now b.items ≡ Some (held_in pair) =
    place.value no_pair ∙ ap (λ (p : Pair). Some (held_in p)) (sym is) in
    record {
      left = remove b.items c.in-Some.at;
      answer = IsReply-Remove_held rules b.depth b.items c.args.key.now _ held _ (sym place.rest);
      reply = small_at _ b.items c.in-Some.at _ no_pair spells.places.items place.in_range
          (ap (λ (p : Pair). p.value) is);
      spelled = record {
        places = with_places c.args.settings.now b _ spells.places
            (items_removed _ b.items c.in-Some.at spells.places.items place.in_range);
        words = c.remove_item.ensures.spelled b spells;
      };
    }

pub returns-in-None-clause-answer : goal.returns-in-None-clause-answer
returns-in-None-clause-answer c rules b spells =
    record {
      left = b.items;
      answer = IsReply-Remove_absent rules b.depth b.items c.args.key.now
          (c.in-None.ensures.found b spells);
      reply = tt;
      spelled = spells;
    }
