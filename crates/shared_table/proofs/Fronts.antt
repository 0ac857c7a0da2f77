-- What a reader knows is a front of every longer run.
use Rattle.std.proofs.Common.{List, ◌++◌, get_or, ap, ◌∙◌, append_assoc}
use Rattle.std.specs.Prelude.{All}
use Rattle.table_model.specs.declared.events.Event.{Event}
use Rattle.table_model.specs.Setup.{Setup}
use Rattle.shared_table.specs.declared.view.View.{View}
use Rattle.shared_table.specs.Fronts.{Front, IsFrontOf}

-- as more events come
pub front_stays : (setup : Setup) (events more : List Event) (front : Front) → IsFrontOf setup events front →
    IsFrontOf setup (events ++ more) front
front_stays setup events more front f = record {
  opened = f.opened;
  later = f.later ++ more;
  is = ap (λ es. es ++ more) f.is ∙ append_assoc front.known f.later more;
}

-- so it is with all views
pub fronts_stay : (setup : Setup) (events more : List Event) (views : List View) →
    All (λ (v : View). All (IsFrontOf setup events) v.fronts) views →
    All (λ (v : View). All (IsFrontOf setup (events ++ more)) v.fronts) views
fronts_stay setup events more views all k d h i e l =
    front_stays setup events more (get_or (get_or views k d).fronts i e) (all k d h i e l)
