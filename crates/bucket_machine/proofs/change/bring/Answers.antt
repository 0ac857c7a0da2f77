use Rattle.std.proofs.Common.{◌≡◌, ◌<◌, ◌≤◌, ◌∷◌, ◌++◌, [], ℕ, List, ap, arith, get_or, length, refl}
use Rattle.plain_map.specs.declared.keys.Pair.{Pair}
use Rattle.bucket_states.proofs.AnswerLemmas.{IsBrought_placed, IsBrought_split, IsBrought_refused}
use Rattle.bucket_machine.proofs.WordLemmas.{with_places, items_pushed}
use Rattle.bucket_machine.proofs.change.bring.Goals as goal

pub returns-then-row-settings-clause-brought : goal.returns-then-row-settings-clause-brought
returns-then-row-settings-clause-brought c b spells =
    let count : get_or c.args.row.now 4 0 ≡ length b.items = ap (λ (ws : List ℕ). get_or ws 4 0) spells.words in
    let few : length b.items < c.args.settings.now.items = omega (arith, count) in
    let pair : Pair = c.args.pair.now in
    record {
      left = b.items ++ pair ∷ [];
      brought = IsBrought_placed c.args.rules.now b.depth b.items pair _ (omega (arith, few)) refl;
      reply = tt;
      spelled = record {
        places = with_places c.args.settings.now b _ spells.places
            (items_pushed _ b.items pair spells.places.items few c.requires.small);
        words = c.push_item.ensures.spelled b spells;
      };
    }

pub returns-then-row-rules-clause-brought : goal.returns-then-row-rules-clause-brought
returns-then-row-rules-clause-brought c b spells =
    let count : get_or c.args.row.now 4 0 ≡ length b.items = ap (λ (ws : List ℕ). get_or ws 4 0) spells.words in
    let deep : get_or c.args.row.now 1 0 ≡ b.depth = ap (λ (ws : List ℕ). get_or ws 1 0) spells.words in
    let many : c.args.rules.now.items ≤ length b.items = omega (arith, count) in
    let shallow : b.depth < c.args.rules.now.depth = omega (arith, deep) in
    record {
      left = b.items;
      brought = IsBrought_split c.args.rules.now b.depth b.items c.args.pair.now many shallow;
      reply = tt;
      spelled = spells;
    }

pub returns-else-row-rules-clause-brought : goal.returns-else-row-rules-clause-brought
returns-else-row-rules-clause-brought c b spells =
    let count : get_or c.args.row.now 4 0 ≡ length b.items = ap (λ (ws : List ℕ). get_or ws 4 0) spells.words in
    let deep : get_or c.args.row.now 1 0 ≡ b.depth = ap (λ (ws : List ℕ). get_or ws 1 0) spells.words in
    let many : c.args.rules.now.items ≤ length b.items = omega (arith, count) in
    let below : c.args.rules.now.depth ≤ b.depth = omega (arith, deep) in
    record {
      left = b.items;
      brought = IsBrought_refused c.args.rules.now b.depth b.items c.args.pair.now many below;
      reply = tt;
      spelled = spells;
    }
