-- The record is put behind its seat's others.
use Rattle.std.proofs.Common.{◌++◌, List, [], slice_index_or, sym, ap, ◌∙◌}
use Rattle.plain_map.specs.declared.records.Record.{Record}
use Rattle.core_steps.specs.declared.values.Stepped.{Stepped}
use Rattle.core_steps.specs.declared.values.Stepped.TheVariants.{Ended}
use Rattle.core_steps.specs.Steps.{ended_in}
use Rattle.core_steps.proofs.LogLemmas.{all_items, items_set, own_items}
use Rattle.core_steps.proofs.logs.note.Goals as goal

pub returns-in-Ended : goal.returns-in-Ended
returns-in-Ended c =
    items_set c.args.logs.now.items c.args.seat c.push_reserved.new.self _
    (c.push_reserved.ensures.items
    ∙ ap (λ (rs : List Record). rs ++ ended_in (Ended c.in-Ended.record))
    (own_items c.args.logs.now.items c.args.seat c.index_mut.result.now c.requires.inside c.index_mut.ensures.value)
    ∙ ap (λ (stepped : Stepped). slice_index_or (all_items c.args.logs.now.items) c.args.seat [] ++ ended_in stepped)
    (sym c.in-Ended.is))
