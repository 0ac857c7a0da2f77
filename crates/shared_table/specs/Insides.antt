-- How the fields of a seat and of a directory give their values.
use Rattle.std.specs.Prelude.{◌≡◌, ℕ, List, [], ◌∷◌, length}
use Rattle.std.specs.Mem.Slots.{IsFull, slots_items, slots_len}
use Rattle.atomic_table.specs.Seated.{TableId}
use Rattle.step_counts.specs.declared.rows.SeatRows.{SeatRows}
use Rattle.step_counts.specs.StepCounts.{need_of}
use Rattle.plain_map.specs.Room.{published}
use Rattle.word_rows.specs.Places.{word_count}
use Rattle.word_rows.specs.Shape.{sizes_of}
use Rattle.word_rows.specs.LayoutView.{shape_of}
use Rattle.table_model.specs.Setup.{settings_of}
use Rattle.table_model.specs.SeatStates.{Idle, fresh_seat}
use Rattle.table_model.specs.Shown.{Holding}
use Rattle.seat_calls.specs.declared.desk.Desk.{Desk}
use Rattle.seat_calls.specs.declared.room.Room.{Room}
use Rattle.seat_calls.specs.Desks.{IsOf, settings_at}
use Rattle.seat_calls.specs.Rooms.{HasAllRoom}
use Rattle.shared_table.specs.declared.view.View.{View}
use Rattle.shared_table.specs.declared.directory.Directory.TheInside as directory
use Rattle.shared_table.specs.declared.in_place.ClosedTable.TheInside as closed
use Rattle.shared_table.specs.declared.zeros.Zeros.{Zeros}
use Rattle.shared_table.specs.Rule.{plain, IsReached}
use Rattle.shared_table.specs.Zeros.{HasZeros}
use Rattle.shared_table.specs.Seating.{no_call}
use Rattle.shared_table.specs.Calls.{first_or, going_of}
use Rattle.shared_table.specs.SeatValues.{SeatValue}
use Rattle.shared_table.specs.Values.{ClosedValue, TableValue}

-- the holdings of a badge, which has one view or none
abbrev pub bundle_of : List View → List Holding
bundle_of [] = []
bundle_of (view ∷ views) = view.bundle

-- the seat of a desk that knows nothing; it stands where a badge has no view, which no seat's has
abbrev pub holding_of_desk : Desk → Holding
holding_of_desk desk = record {
  setup = record { shape = shape_of desk.layout; hashing = desk.rules.hashing; first = [] };
  seat = desk.seat;
  state = fresh_seat;
  known = [];
}

-- the holding of a seat, by its badge
abbrev pub holding_in : Desk → List View → Holding
holding_in desk views = first_or (holding_of_desk desk) (bundle_of views)

-- what contracts see of a seat
abbrev pub seat_value : Desk → TableId → List View → SeatValue
seat_value desk table_id views = record { table_id = table_id; holding = holding_in desk views }

-- between two calls a seat has at hand what its holding tells
pub record IsBetween (desk : Desk) (used sizes need : SeatRows) (answered : ℕ) (h : Holding) : Type 0 where
  pub reached : IsReached h
  pub idle : h.state.stand ≡ Idle
  pub at_desk : IsOf (going_of no_call h) desk
  pub published_is : h.state.account.used ≡ used
  pub spent_is : published h.state.account.spent ≡ used
  pub count : length h.state.account.records ≡ answered
  pub sizes_are : sizes ≡ sizes_of h.setup.shape h.seat
  pub need_is : need ≡ need_of (settings_of h.setup)

-- a seat has one view, which holds it alone, room for each of its tries, and words of its own that are 0
pub record SeatStands (desk : Desk) (room : Room) (views : List View) (used sizes need : SeatRows) (answered : ℕ)
    (zeros : Zeros) : Type 0 where
  pub one : views ≡ (record { bundle = holding_in desk views ∷ []; fronts = [] }) ∷ []
  pub between : IsBetween desk used sizes need answered (holding_in desk views)
  pub room_is : HasAllRoom (settings_at desk) room
  pub has_zeros : HasZeros (holding_in desk views) zeros

-- what contracts see of a directory
abbrev pub table_value : directory.Inside → TableValue
table_value d = record { table_id = d.table.shared.table_id; setup = plain d.table.shared.key }

-- a directory's layout and hashing are those of its table
pub record TableStands (d : directory.Inside) : Type 0 where
  pub shape : shape_of d.layout ≡ (plain d.table.shared.key).shape
  pub hashing_is : d.hashing ≡ (plain d.table.shared.key).hashing
  pub words : d.table.shared.table_id.words ≡ word_count (shape_of d.layout)
  pub slots : d.table.shared.table_id.slots ≡ 0

-- what contracts see of a closed table
abbrev pub closed_value : closed.Inside → ClosedValue
closed_value t = record { shape = shape_of t.layout; words = slots_items t.table.words }

-- all words of a closed table are there, and it has no slots
pub record ClosedStands (t : closed.Inside) : Type 0 where
  pub full : IsFull t.table.words
  pub counts : slots_len t.table.words ≡ t.count
  pub slots : slots_len t.table.slots ≡ 0
