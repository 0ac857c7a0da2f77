-- What a batch came to, once its table is closed.
use Rattle.std.proofs.Common.{◌≡◌, ℕ, ◌≤◌, List, [], length, map, sym, ap, ◌∙◌, subst, arith, zero-add}
use Rattle.std.specs.Prelude.{All}
use Rattle.std.proofs.lemmas.List.Elements.{All-from_get_or}
use Rattle.std.proofs.lemmas.Option.{get_or_from_slice_get, slice_get_within}
use Rattle.plain_map.specs.declared.calls.Call.{Call}
use Rattle.plain_map.specs.declared.keys.Pair.{Pair}
use Rattle.plain_map.specs.declared.records.Record.{Record}
use Rattle.word_rows.specs.Shape.{Shape}
use Rattle.table_model.specs.Setup.{Setup, seats_of, settings_of}
use Rattle.table_model.specs.Closed.{closed_depth}
use Rattle.table_model.specs.Closing.{IsOfARun}
use Rattle.shared_table.specs.SeatValues.{SeatValue}
use Rattle.shared_table.specs.Values.{IsOf, Ran, TableValue, new_seat}
use Rattle.shared_table.specs.Orders.{AreInTurn, ClosedIsOfARun}
use Rattle.trace_share.specs.declared.outcome.Outcome.{Outcome}
use Rattle.trace_share.specs.Outcomes.{asked_in, records_in}
use Rattle.batch_rows.specs.Depths.{IsTableFor}
use Rattle.batch_deals.specs.declared.service.Service.{Service}
use Rattle.batch_runner.specs.Seats.{HaveMade}
use Rattle.batch_runner.specs.Served.{IsOfRun, setup_in}
use Rattle.batch_deals.specs.Dealt.{shares_of}
use Rattle.batch_runner.specs.Told.{IsClosedBatch}
use Rattle.batch_runner.proofs.Alike.{alike}
use Rattle.batch_deals.proofs.Deals.{long_dealt}
use Rattle.batch_runner.proofs.Finished.{all_asked, all_idle, all_records, all_refused, many_made, one_made, records_left}
use Rattle.batch_deals.proofs.Shallow.{shallow}

-- each seat is one of the table's
pub all_of_table : (t : TableValue) (shares : List (List (ℕ × Call))) (seats : List SeatValue)
    (logs : List (List Outcome)) → HaveMade t 0 shares seats logs → All (IsOf t) seats
all_of_table t shares seats logs made =
    All-from_get_or (IsOf t) seats (new_seat t 0)
    (λ i less. (one_made t 0 shares seats logs i (new_seat t 0) made less).1.of)

module _ (service : Service) (first : List Pair) (calls : List (ℕ × Call)) (t : TableValue)
    (table_is : IsTableFor service.settings service.hashing service.rows first calls (settings_of t.setup))
    (setup_is : t.setup ≡ setup_in service (settings_of t.setup) first calls) (shares : List (List (ℕ × Call)))
    (shares_are : shares ≡ shares_of service calls) (seats : List SeatValue) (logs : List (List Outcome))
    (made : HaveMade t 0 shares seats logs) where
  abbrev pub setup : Setup
  setup = setup_in service (settings_of t.setup) first calls

  -- the same table, by its setup
  abbrev table : TableValue
  table = record { table_id = t.table_id; setup = setup }

  made_there : HaveMade table 0 shares seats logs
  made_there =
      subst (λ (s : Setup). HaveMade (record { table_id = t.table_id; setup = s }) 0 shares seats logs) setup_is
      made

  -- there are as many logs and seats
  pub many_logs : length logs ≡ service.settings.seats
  many_logs = (many_made t 0 shares seats logs made).1 ∙ ap length shares_are
      ∙ long_dealt service.share service.settings.seats calls

  pub many_seats : length seats ≡ service.settings.seats
  many_seats = (many_made t 0 shares seats logs made).0 ∙ ap length shares_are
      ∙ long_dealt service.share service.settings.seats calls

  pub all_seats : length seats ≡ seats_of t.setup
  all_seats = many_seats
      ∙ sym (alike service.settings service.hashing service.rows first calls (settings_of t.setup) table_is).seats_are

  -- each made its share
  asked_are : map (λ (log : List Outcome). map asked_in log) logs ≡ shares_of service calls
  asked_are = all_asked t 0 shares seats logs made ∙ shares_are

  -- in turn
  turn : AreInTurn setup seats
  turn = record {
    all = all_seats;
    numbers = λ seat s e.
        let within = slice_get_within seats seat s e in
        let one = one_made t 0 shares seats logs seat s made within in
        ap (λ (x : SeatValue). x.holding.seat) (sym (get_or_from_slice_get seats seat s s e))
        ∙ one.1.number_is ∙ zero-add seat;
  }

  module _ (words : List ℕ) (ran : Ran t.setup words seats) where
    ran_there : Ran setup words seats
    ran_there = subst (λ (s : Setup). Ran s words seats) setup_is ran

    -- they are what a run of the batch's table leaves
    of_run : (outcomes : List (ℕ × Outcome)) (pairs : List Pair) → IsOfRun service (record {
      settings = settings_of t.setup;
      first = first;
      calls = calls;
      logs = logs;
      words = words;
      outcomes = outcomes;
      pairs = pairs;
    })
    of_run outcomes pairs = record {
      events = ran_there.events;
      run = ran_there.is_run;
      words_are = ran_there.words_are;
      idle = all_idle table words shares seats logs ran_there made_there all_seats;
      asked = asked_are;
      records = records_left table words shares seats logs ran_there made_there all_seats;
      refused = λ seat below. all_refused table words shares seats logs ran_there made_there all_seats seat
          (omega (arith, below, many_seats, all_seats));
    }

    -- so they have their one order
    of_a_run : ClosedIsOfARun → IsOfARun setup.shape words (map records_in logs) []
    of_a_run law = subst (λ (rs : List (List Record)). IsOfARun setup.shape words rs [])
        (sym (all_records t 0 shares seats logs made)) (law setup words seats ran_there turn)

    -- and the directory is shallow
    depth_few : closed_depth setup.shape words ≤ (settings_of t.setup).depth
    depth_few = subst (λ (ws : List ℕ). closed_depth setup.shape ws ≤ (settings_of t.setup).depth)
        (sym ran_there.words_are) (shallow setup ran_there.events ran_there.is_run)

    -- so the batch is closed, with the shape of its table
    pub closed_batch : ClosedIsOfARun →
        IsClosedBatch service first calls (record { shape = t.setup.shape; words = words }) logs
    closed_batch law = record {
      table = table_is;
      shape_is = shape_is;
      asked = asked_are;
      of_run = of_run;
      of_a_run = subst (λ (s : Shape). IsOfARun s words (map records_in logs) []) (sym shape_is) (of_a_run law);
      shallow = subst (λ (s : Shape). closed_depth s words ≤ (settings_of t.setup).depth) (sym shape_is) depth_few;
    }
      where
        shape_is : t.setup.shape ≡ setup.shape
        shape_is = ap (λ (s : Setup). s.shape) setup_is
