-- What contracts see of a reader.
use Rattle.std.specs.Prelude.{◌≡◌, List, [], ◌∷◌}
use Rattle.atomic_table.specs.Seated.{TableId}
use Rattle.table_model.specs.Worlds.{IsRun}
use Rattle.word_rows.specs.LayoutView.{shape_of}
use Rattle.seat_calls.specs.declared.desk.Desk.{Desk}
use Rattle.shared_table.specs.declared.view.View.{View}
use Rattle.shared_table.specs.Fronts.{Front}
use Rattle.shared_table.specs.Glancing.{first_front}
use Rattle.shared_table.specs.Values.{TableValue}

-- its table, and what it knows of the run
pub record ReaderValue : Type 0 where
  pub table_id : TableId
  pub front : Front

-- the reader is one of the table's
pub record ReadsFrom (t : TableValue) (r : ReaderValue) : Type 0 where
  pub table : r.table_id ≡ t.table_id
  pub setup : r.front.setup ≡ t.setup

-- it stays one of the same table
pub record StaysReader (a b : ReaderValue) : Type 0 where
  pub table : b.table_id ≡ a.table_id
  pub setup : b.front.setup ≡ a.front.setup

-- the fronts of a badge, which has one view or none
abbrev pub fronts_in : List View → List Front
fronts_in [] = []
fronts_in (view ∷ views) = view.fronts

-- a reader of a desk that knows nothing; it stands where a badge has no view, which no reader's has
abbrev pub front_of_desk : Desk → Front
front_of_desk desk = record {
  setup = record { shape = shape_of desk.layout; hashing = desk.rules.hashing; first = [] };
  known = [];
  heard = [];
  times = [];
}

-- the front of a reader, by its badge
abbrev pub front_in : Desk → List View → Front
front_in desk views = first_front (front_of_desk desk) (fronts_in views)

-- what contracts see of a reader
abbrev pub reader_value : Desk → TableId → List View → ReaderValue
reader_value desk table_id views = record { table_id = table_id; front = front_in desk views }

-- a reader has one view, which is its front alone, and a desk for its table
pub record ReaderStands (desk : Desk) (views : List View) : Type 0 where
  pub one : views ≡ (record { bundle = []; fronts = front_in desk views ∷ [] }) ∷ []
  pub run : IsRun (front_in desk views).setup (front_in desk views).known
  pub shape : (front_in desk views).setup.shape ≡ shape_of desk.layout
  pub hashing : (front_in desk views).setup.hashing ≡ desk.rules.hashing
  pub seat : 0 ≡ desk.seat
