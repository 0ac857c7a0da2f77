use Rattle.std.proofs.Common.{◌≡◌, ◌∙◌, ℕ, List, Some, ap, sym, set, subst, get_or}
use Rattle.plain_map.specs.declared.keys.Key.{Key}
use Rattle.plain_map.specs.declared.keys.Pair.{Pair}
use Rattle.plain_map.specs.Keys.{held_in, no_pair, pair_of}
use Rattle.plain_map.specs.PlainObject.{new_session, revalued}
use Rattle.bucket_states.specs.Items.{changed_in, value_at}
use Rattle.bucket_states.specs.Places.{IsBrought}
use Rattle.bucket_states.proofs.AnswerLemmas.{IsReply-Put_held, IsAnswer-Put_new}
use Rattle.bucket_machine.specs.Rows.{value_set}
use Rattle.bucket_machine.proofs.WordLemmas.{with_places, small_at, items_valued}
use Rattle.bucket_machine.proofs.change.put.Goals as goal

pub returns-in-Some-clause-answer : goal.returns-in-Some-clause-answer
returns-in-Some-clause-answer c b spells =
    let place = c.in-Some.ensures.found b spells in
    let at : ℕ = c.in-Some.at in
    let key : Key = c.args.pair.now.key in
    let value : ℕ = c.args.pair.now.value in
    let pair : Pair = c.pair_in-old.result in
    let is : pair ≡ get_or b.items at no_pair = c.pair_in-old.ensures.same b spells place.in_range no_pair in
    let held : value_at key b.items ≡ Some (held_in pair) =
    place.value no_pair ∙ ap (λ (p : Pair). Some (held_in p)) (sym is) in
    let left : List Pair = set b.items at (value_set (get_or b.items at no_pair) value) in
    let left_is : left ≡ changed_in key (λ held. revalued held value) b.items =
    sym (place.other no_pair (λ held. revalued held value)) in
    record {
      left = left;
      answer = IsReply-Put_held c.args.rules.now b.depth b.items key value (held_in pair) held left left_is;
      reply = small_at _ b.items at _ no_pair spells.places.items place.in_range (ap (λ (p : Pair). p.value) is);
      spelled = record {
        places = with_places c.args.settings.now b _ spells.places
            (items_valued _ b.items at value spells.places.items place.in_range c.requires.small.0);
        words = c.set_value.ensures.spelled b spells;
      };
    }

pub returns-in-None-clause-answer : goal.returns-in-None-clause-answer
returns-in-None-clause-answer c b spells =
    let pair : Pair = c.args.pair.now in
    let begins : pair ≡ pair_of (pair.key, new_session pair.value) =
    λ i. record { key = pair.key; value = pair.value; bytes = c.requires.begins i } in
    let came = c.bring.ensures.brought b spells in
    record {
      left = came.left;
      answer = IsAnswer-Put_new _ _ _ _ (c.in-None.ensures.found b spells) pair.value _ _
          (subst (λ (p : Pair). IsBrought c.args.rules.now b.depth b.items p came.left c.bring.result) begins
          came.brought);
      reply = came.reply;
      spelled = came.spelled;
    }
