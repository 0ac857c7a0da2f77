use Rattle.std.proofs.Common.{◌≡◌, ◌∙◌, ◌<◌, ◌^◌, ℕ, List, Some, ap, sym, set, subst, arith, get_or}
use Rattle.plain_map.specs.declared.keys.Key.{Key}
use Rattle.plain_map.specs.declared.keys.Pair.{Pair}
use Rattle.plain_map.specs.declared.calls.Call.TheVariants.{Count}
use Rattle.plain_map.specs.declared.calls.Reply.TheVariants.{Sum}
use Rattle.plain_map.specs.Keys.{held_in, no_pair}
use Rattle.plain_map.specs.PlainObject.{grown}
use Rattle.plain_map.specs.Updates.{summed}
use Rattle.bucket_states.specs.Items.{changed_in, value_at}
use Rattle.bucket_states.specs.Places.{IsReply}
use Rattle.bucket_states.proofs.AnswerLemmas.{IsReply-Count_held, IsAnswer-Count_new}
use Rattle.bucket_states.proofs.ValueLemmas.{summed-small}
use Rattle.bucket_machine.specs.Rows.{bytes_set}
use Rattle.bucket_machine.proofs.WordLemmas.{with_places, items_counted}
use Rattle.bucket_machine.proofs.change.count.Goals as goal

pub returns-in-Some-clause-answer : goal.returns-in-Some-clause-answer
returns-in-Some-clause-answer c b spells =
    let place = c.in-Some.ensures.found b spells in
    let at : ℕ = c.in-Some.at in
    let key : Key = c.args.pair.now.key in
    let value : ℕ = c.args.pair.now.value in
    let amount : ℕ = c.args.pair.now.bytes in
    let pair : Pair = c.pair_in.result in
    let total : ℕ = c.add_bytes-bytes.result in
    let is : pair ≡ get_or b.items at no_pair = c.pair_in.ensures.same b spells place.in_range no_pair in
    let held : value_at key b.items ≡ Some (held_in pair) =
    place.value no_pair ∙ ap (λ (p : Pair). Some (held_in p)) (sym is) in
    let counts : total ≡ summed (get_or b.items at no_pair).bytes amount =
    c.add_bytes-bytes.ensures ∙ ap (λ (p : Pair). summed p.bytes amount) is in
    let left : List Pair = set b.items at (bytes_set (get_or b.items at no_pair) total) in
    let left_is : left ≡ changed_in key (λ held. grown held amount) b.items =
    ap (λ (n : ℕ). set b.items at (bytes_set (get_or b.items at no_pair) n)) counts
    ∙ sym (place.other no_pair (λ held. grown held amount)) in
    let small : total < 2 ^ 61 = omega (arith, counts, summed-small (get_or b.items at no_pair).bytes amount) in
    record {
      left = left;
      answer = subst (λ (n : ℕ). IsReply c.args.rules.now b.depth b.items (Count key value amount) left (Sum n))
          (sym c.add_bytes-bytes.ensures)
          (IsReply-Count_held c.args.rules.now b.depth b.items key value amount (held_in pair) held left left_is);
      reply = small;
      spelled = record {
        places = with_places c.args.settings.now b _ spells.places
            (items_counted _ b.items at total spells.places.items place.in_range small);
        words = c.set_bytes.ensures.spelled b spells;
      };
    }

pub returns-in-None-clause-answer : goal.returns-in-None-clause-answer
returns-in-None-clause-answer c b spells =
    let came = c.bring.ensures.brought b spells in
    record {
      left = came.left;
      answer = IsAnswer-Count_new _ _ _ _ (c.in-None.ensures.found b spells) c.args.pair.now.value c.args.pair.now.bytes
          _ _ came.brought;
      reply = came.reply;
      spelled = came.spelled;
    }
