use Rattle.std.proofs.Common.{◌≡◌, ◌∙◌, ◌<◌, ◌^◌, ℕ, List, Some, ap, sym, set, subst, arith, get_or}
use Rattle.plain_map.specs.declared.keys.Pair.{Pair}
use Rattle.plain_map.specs.declared.calls.Call.TheVariants.{Tally}
use Rattle.plain_map.specs.declared.calls.Reply.TheVariants.{Sum}
use Rattle.plain_map.specs.Keys.{held_in, no_pair}
use Rattle.plain_map.specs.PlainObject.{grown}
use Rattle.plain_map.specs.Updates.{summed}
use Rattle.bucket_states.specs.Items.{tallied_in, value_at}
use Rattle.bucket_states.specs.Places.{IsReply}
use Rattle.bucket_states.proofs.AnswerLemmas.{IsReply-Tally_held, IsReply-Tally_absent}
use Rattle.bucket_states.proofs.ValueLemmas.{summed-small}
use Rattle.bucket_machine.specs.Rows.{bytes_set}
use Rattle.bucket_machine.proofs.WordLemmas.{with_places, items_counted}
use Rattle.bucket_machine.proofs.change.tally.Goals as goal

pub returns-in-Some-clause-answer : goal.returns-in-Some-clause-answer
returns-in-Some-clause-answer c rules b spells =
    let place = c.in-Some.ensures.found b spells in
    let at : ℕ = c.in-Some.at in
    let pair : Pair = c.pair_in.result in
    let total : ℕ = c.add_bytes-bytes.result in
    let is : pair ≡ get_or b.items at no_pair = c.pair_in.ensures.same b spells place.in_range no_pair in
    let held : value_at c.args.key.now b.items ≡ Some (held_in pair) =
    place.value no_pair ∙ ap (λ (p : Pair). Some (held_in p)) (sym is) in
    let counts : total ≡ summed (get_or b.items at no_pair).bytes c.args.amount =
    c.add_bytes-bytes.ensures ∙ ap (λ (p : Pair). summed p.bytes c.args.amount) is in
    let left : List Pair = set b.items at (bytes_set (get_or b.items at no_pair) total) in
    let left_is : left ≡ tallied_in c.args.key.now c.args.amount b.items =
    ap (λ (n : ℕ). set b.items at (bytes_set (get_or b.items at no_pair) n)) counts
    ∙ sym (place.other no_pair (λ held. grown held c.args.amount)) in
    let small : total < 2 ^ 61 = omega (arith, counts, summed-small (get_or b.items at no_pair).bytes c.args.amount) in
    record {
      left = left;
      answer = subst (λ (n : ℕ). IsReply rules b.depth b.items (Tally c.args.key.now c.args.amount) left (Sum n))
          (sym c.add_bytes-bytes.ensures)
          (IsReply-Tally_held rules b.depth b.items c.args.key.now c.args.amount (held_in pair) held left left_is);
      reply = small;
      spelled = record {
        places = with_places c.args.settings.now b _ spells.places
            (items_counted _ b.items at total spells.places.items place.in_range small);
        words = c.set_bytes.ensures.spelled b spells;
      };
    }

pub returns-in-None-clause-answer : goal.returns-in-None-clause-answer
returns-in-None-clause-answer c rules b spells =
    record {
      left = b.items;
      answer = IsReply-Tally_absent rules b.depth b.items c.args.key.now c.args.amount
          (c.in-None.ensures.found b spells);
      reply = tt;
      spelled = spells;
    }
