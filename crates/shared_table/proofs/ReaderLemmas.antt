-- What a reader's badge has, and what that says of its value.
use Rattle.std.proofs.Common.{◌≡◌, List, [], ◌∷◌, sym, ap, ◌∙◌, subst}
use Rattle.table_model.specs.Worlds.{IsRun}
use Rattle.word_rows.specs.LayoutView.{shape_of}
use Rattle.seat_calls.specs.declared.desk.Desk.{Desk}
use Rattle.shared_table.specs.declared.view.View.{View}
use Rattle.shared_table.specs.Fronts.{Front}
use Rattle.shared_table.specs.Readings.{lone}
use Rattle.shared_table.specs.Readers.{ReaderStands, front_in}

-- a reader of one front stands so
pub stands_by : (desk : Desk) (views : List View) (front : Front) → views ≡ (lone front).0 ∷ [] →
    IsRun front.setup front.known → front.setup.shape ≡ shape_of desk.layout →
    front.setup.hashing ≡ desk.rules.hashing → 0 ≡ desk.seat → ReaderStands desk views
stands_by desk views front is run shape hashing seat =
    let same : front_in desk views ≡ front = ap (front_in desk) is in
    record {
      one = is ∙ ap (λ (f : Front). (lone f).0 ∷ []) (sym same);
      run = subst (λ (f : Front). IsRun f.setup f.known) (sym same) run;
      shape = ap (λ (f : Front). f.setup.shape) same ∙ shape;
      hashing = ap (λ (f : Front). f.setup.hashing) same ∙ hashing;
      seat = seat;
    }

-- the first of the views, or this one
abbrev first_view : View → List View → View
first_view d [] = d
first_view d (v ∷ vs) = v
