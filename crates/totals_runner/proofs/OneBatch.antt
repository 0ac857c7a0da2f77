-- A batch that was counted: its order has each seat's packets in their own order, each answer stands in it with its
-- count, and the totals that are left are those of its adds behind the first.
use Rattle.std.proofs.Common.{◌≡◌, ◌==◌, ℕ, ◌+◌, ◌-◌, ◌<◌, ◌≤◌, Bool, cond, List, ◌∷◌, ◌++◌, map, length, get_or, refl, sym, ap, subst, ◌∙◌, arith, length-append}
use Rattle.std.specs.Prelude.{All, Some, count_by, filter, slice_get, slice_index, sum, sum_by}
use Rattle.std.proofs.lemmas.Bool.{cond-true, eq-eqb}
use Rattle.std.proofs.lemmas.List.{get_or-map, get_or_at, get_or_default, length-map, take_all}
use Rattle.std.proofs.lemmas.List.Elements.{All-filter, filter-append, filter_passes}
use Rattle.std.proofs.lemmas.List.FromFn.{length-map-range_with_len}
use Rattle.std.proofs.lemmas.List.Sums.{length-filter}
use Rattle.std.proofs.lemmas.Option.{slice_get-get_or}
use Rattle.std.proofs.lemmas.Simd.{map-map}
use Rattle.std.proofs.lemmas.Bool.{eqb-true}
use Rattle.sim_steps.specs.declared.adds.Add.{Add}
use Rattle.sim_steps.specs.declared.adds.Added.{Added}
use Rattle.sim_steps.specs.declared.words.Address.TheVariants.{Root}
use Rattle.sim_steps.specs.Layout.{AreSettings, Settings, seats_of}
use Rattle.sim_steps.specs.Program.{is_idle, step_bound}
use Rattle.sim_steps.specs.Totals.{adds_of, length_of}
use Rattle.sim_steps.specs.World.{World, seat_in}
use Rattle.sim_steps.specs.Order.{Entry, add_at, adds_in, numbers_of, order_of, read_word, up_to}
use Rattle.sim_steps.specs.Laws.{IsAnswered, applied_in}
use Rattle.sim_steps.proofs.LawProofs.{are_answered, are_totals, is_bounded, is_whole}
use Rattle.totals_runner.specs.PacketAdds.{add_of, adds_by, seat_for}
use Rattle.sim_totals.specs.Rule.{no_add}
use Rattle.totals_runner.specs.Counted.{Counted, IsCounted, settings_of, world_of}
use Rattle.totals_runner.specs.Printed.{packet_of, packets_in}
use Rattle.totals_runner.proofs.Lists.{filter-map, filter_same, map_same}
use Rattle.totals_runner.proofs.Orders.{IsNumbered, at_numbers, numbers_filter, order_numbers, order_seats}
use Rattle.totals_runner.proofs.Named.{AreTurns, IsNamed, seat_below, sum_in_turns}

-- 0 of a seat that rests, and 1 of one that is in an add
abbrev in_add : Bool → ℕ
in_add rests = cond rests 0 1

-- what holds of all of a list holds where it is cut
pub all_at : {X : Type 0} (P : X → Type 0) (xs front back : List X) (x : X) → All P xs → xs ≡ front ++ x ∷ back → P x
all_at P xs front back x all is =
    subst P (get_or_at front x back x (length front) refl)
    (subst (λ ys. All P ys) is all (length front) x (omega (arith, length-append front (x ∷ back))))

module _ (seats : ℕ) (batch : Counted) (is : IsCounted seats batch) (ok : AreSettings (settings_of seats batch))
    (some : 0 < seats) where
  -- its table, and what is left there
  abbrev settings : Settings
  settings = settings_of seats batch

  abbrev world : World
  world = world_of seats batch is.run

  -- what a seat has answered
  abbrev log : ℕ → List Added
  log seat = (seat_in (world_of seats batch is.run) seat).log

  abbrev pub many : ℕ → ℕ
  many seat = length (seat_in (world_of seats batch is.run) seat).log

  -- how many seats the table has
  pub as_many : seats_of (settings_of seats batch) ≡ seats
  as_many = length-map-range_with_len (λ (seat : ℕ). length (adds_by seats seat batch.adds)) 0 seats

  inside : (seat : ℕ) → seat < seats → seat < seats_of (settings_of seats batch)
  inside seat less = omega (arith, less, as_many)

  -- ---- its order

  -- a seat has answered its own packets' adds
  pub log_adds : (seat : ℕ) → seat < seats →
      map (λ (a : Added). a.add) (seat_in (world_of seats batch is.run) seat).log ≡ adds_by seats seat batch.adds
  log_adds seat less =
      let by_seat : Added → Bool = λ a. a.seat == seat in
      let by_packet : Add → Bool = λ x. seat_for seats x.packet == seat in
      let add : Added → Add = λ a. a.add in
      let same : All (λ (a : Added). by_seat a ≡ by_packet a.add) batch.answers =
      λ k d inside. ap (λ (s : ℕ). s == seat) (is.seats_are k d inside) in
      ap (map add) (is.logs seat less ∙ filter_same by_seat (λ (a : Added). by_packet a.add) batch.answers same)
      ∙ sym (filter-map by_packet add batch.answers) ∙ ap (filter by_packet) is.asked

  own_length : (seat : ℕ) → seat < seats →
      length (adds_by seats seat batch.adds) ≡ length (seat_in (world_of seats batch is.run) seat).log
  own_length seat less =
      ap (λ (xs : List Add). length xs) (sym (log_adds seat less))
      ∙ length-map (seat_in (world_of seats batch is.run) seat).log (λ (a : Added). a.add)

  -- its numbers are those from 1 on
  own_numbers : (seat : ℕ) → seat < seats → numbers_of seat batch.order ≡ up_to (many seat)
  own_numbers seat less =
      let whole = is_whole (settings_of seats batch) is.run seat ok (inside seat less) in
      let rests : in_add (is_idle (seat_in (world_of seats batch is.run) seat).phase) ≡ 0 =
      cond-true (is_idle (seat_in (world_of seats batch is.run) seat).phase) 0 1 (ap is_idle (is.idle seat less)) in
      let all : applied_in (settings_of seats batch) (world_of seats batch is.run) seat
      ≡ length (seat_in (world_of seats batch is.run) seat).log =
      omega (arith, whole.ended, whole.begun, whole.counted, rests) in
      ap (numbers_of seat) is.order_is ∙ whole.numbers ∙ ap up_to all

  pub entries : All (IsNumbered seats many) batch.order
  entries =
      let rows : ℕ = sum (settings_of seats batch).adds in
      let words : List ℕ = (world_of seats batch is.run).words in
      let of : All (λ (e : Entry). e.0 < seats_of (settings_of seats batch))
      (order_of (settings_of seats batch) (world_of seats batch is.run).words) = order_seats
      (seats_of (settings_of seats batch)) rows words rows
      (read_word (seats_of (settings_of seats batch)) rows words Root) in
      order_numbers seats many batch.order
      (subst (λ (n : ℕ). All (λ (e : Entry). e.0 < n) batch.order) as_many
      (subst (λ (es : List Entry). All (λ (e : Entry). e.0 < seats_of (settings_of seats batch)) es) (sym is.order_is)
      of)) own_numbers

  -- the place of an entry among its seat's adds
  placed : (e : Entry) → IsNumbered seats many e → e.1 - 1 < length (adds_by seats e.0 batch.adds)
  placed e it = omega (arith, it.some, it.few, own_length e.0 it.seat)

  -- its packet is of its seat
  pub seat_is : (e : Entry) → IsNumbered seats many e → seat_for seats (packet_of seats batch.adds e) ≡ e.0
  seat_is e it =
      eqb-true (seat_for seats (packet_of seats batch.adds e)) e.0
      (filter_passes (λ (x : Add). seat_for seats x.packet == e.0) batch.adds (e.1 - 1) no_add (placed e it))

  -- a seat's packets stand in their own order
  pub turns : AreTurns seats batch.adds (packets_in seats batch)
  turns seat less =
      let by_packet : ℕ → Bool = λ packet. seat_for seats packet == seat in
      let own : Entry → ℕ = packet_of seats batch.adds in
      let adds : List Add = adds_by seats seat batch.adds in
      let same : All (λ (e : Entry). by_packet (own e) ≡ (e.0 == seat)) batch.order =
      λ k d here. ap (λ (s : ℕ). s == seat) (seat_is (get_or batch.order k d) (entries k d here)) in
      let all : length adds ≤ many seat = omega (arith, own_length seat less) in
      filter-map by_packet own batch.order
      ∙ ap (map own) (filter_same (λ (e : Entry). by_packet (own e)) (λ (e : Entry). e.0 == seat) batch.order same)
      ∙ numbers_filter own seat batch.order
      ∙ ap (map (λ (n : ℕ). own (seat, n))) (own_numbers seat less)
      ∙ at_numbers (λ (x : Add). x.packet) adds no_add (many seat) (omega (arith, own_length seat less))
      ∙ ap (map (λ (x : Add). x.packet)) (take_all (many seat) adds all)

  -- ---- its adds by their packets

  module _ (all : List Add) (names : All (IsNamed all) batch.adds) where
    -- the add of an entry is that of its packet
    pub entry_add : (e : Entry) → IsNumbered seats many e →
        add_at (seat_in (world_of seats batch is.run) e.0) e.1 ≡ add_of all (packet_of seats batch.adds e)
    entry_add e it =
        let seat = seat_in (world_of seats batch is.run) e.0 in
        let adds : List Add = adds_by seats e.0 batch.adds in
        let name : IsNamed all (get_or adds (e.1 - 1) no_add) =
        All-filter (λ (x : Add). seat_for seats x.packet == e.0) (IsNamed all) batch.adds names (e.1 - 1) no_add
        (placed e it) in
        ap (λ (xs : List Add). get_or xs (e.1 - 1) seat.caller.add) (log_adds e.0 it.seat)
        ∙ get_or_default adds (e.1 - 1) seat.caller.add no_add (placed e it) ∙ sym name

    pub adds_named : (es : List Entry) → All (IsNumbered seats many) es →
        adds_in (world_of seats batch is.run) es ≡ map (add_of all) (map (packet_of seats batch.adds) es)
    adds_named es are =
        map_same (λ (e : Entry). add_at (seat_in (world_of seats batch is.run) e.0) e.1)
        (λ (e : Entry). add_of all (packet_of seats batch.adds e)) es
        (λ k d here. entry_add (get_or es k d) (are k d here))
        ∙ sym (map-map (add_of all) (packet_of seats batch.adds) es)

    -- what is summed over the order is summed over the adds
    pub sum_of_order : (f : Add → ℕ) →
        sum_by f (adds_in (world_of seats batch is.run) batch.order) ≡ sum_by f batch.adds
    sum_of_order f =
        ap (sum_by f) (adds_named batch.order entries)
        ∙ sum_in_turns seats all batch.adds (packets_in seats batch) some turns names f

    -- the totals that are left
    pub counts_left : (class : ℕ) → class < 3 →
        slice_index batch.left.counts class ≡ slice_index batch.first.counts class + adds_of class batch.adds
    counts_left class few =
        let totals = are_totals (settings_of seats batch) is.run class ok few in
        let order : List Entry = order_of (settings_of seats batch) (world_of seats batch is.run).words in
        is.left_is.counts class few ∙ totals.count
        ∙ ap (λ (es : List Entry). slice_index batch.first.counts class
        + adds_of class (adds_in (world_of seats batch is.run) es)) (sym is.order_is)
        ∙ ap (λ (n : ℕ). slice_index batch.first.counts class + n)
        (sum_of_order (λ (x : Add). cond (x.class == class) 1 0))

    pub bytes_left : (class : ℕ) → class < 3 →
        slice_index batch.left.bytes class ≡ slice_index batch.first.bytes class + length_of class batch.adds
    bytes_left class few =
        let totals = are_totals (settings_of seats batch) is.run class ok few in
        is.left_is.bytes class few ∙ totals.bytes
        ∙ ap (λ (es : List Entry). slice_index batch.first.bytes class
        + length_of class (adds_in (world_of seats batch is.run) es)) (sym is.order_is)
        ∙ ap (λ (n : ℕ). slice_index batch.first.bytes class + n)
        (sum_of_order (λ (x : Add). cond (x.class == class) x.length 0))

  -- ---- its answers

  -- the answer a, behind the answers in front
  pub record Answer (front : List Added) (a : Added) : Type 0 where
    pub seat : a.seat < seats
    pub answered : IsAnswered (settings_of seats batch) (world_of seats batch is.run) a.seat
        (count_by (λ (b : Added). b.seat == a.seat) front + 1) a
    pub within : a.steps ≤ step_bound seats
    pub add_is : get_or (adds_by seats a.seat batch.adds) (count_by (λ (b : Added). b.seat == a.seat) front) no_add
        ≡ a.add

  pub answer : (front back : List Added) (a : Added) → batch.answers ≡ front ++ a ∷ back → Answer front a
  answer front back a cut =
      let by_seat : Added → Bool = λ b. b.seat == a.seat in
      let before : List Added = filter by_seat front in
      let behind : List Added = filter by_seat back in
      let place : ℕ = count_by by_seat front in
      let own : List Added = (seat_in (world_of seats batch is.run) a.seat).log in
      let seat_of : a.seat ≡ seat_for seats a.add.packet =
      all_at (λ (b : Added). b.seat ≡ seat_for seats b.add.packet) batch.answers front back a is.seats_are cut in
      let less : a.seat < seats = (let below = seat_below seats a.add.packet some in omega (arith, seat_of, below)) in
      let here : filter by_seat (a ∷ back) ≡ a ∷ behind =
      cond-true (a.seat == a.seat) (a ∷ behind) behind (eq-eqb a.seat a.seat refl) in
      let log_is : own ≡ before ++ a ∷ behind =
      is.logs a.seat less ∙ ap (filter by_seat) cut ∙ filter-append by_seat front (a ∷ back)
      ∙ ap (λ (xs : List Added). before ++ xs) here in
      let count : length before ≡ place = length-filter by_seat front in
      let long : place < length own = omega (
        arith,
        ap (λ (xs : List Added). length xs) log_is,
        length-append before (a ∷ behind),
        count,
      ) in
      let at : (d : Added) → get_or own place d ≡ a =
      λ d. ap (λ (xs : List Added). get_or xs place d) log_is ∙ get_or_at before a behind d place count in
      let got : slice_get own place ≡ Some a = slice_get-get_or own place a long ∙ ap Some (at a) in
      let bounded = is_bounded (settings_of seats batch) is.run a.seat ok (inside a.seat less) in
      let steps : a.steps ≤ step_bound (seats_of (settings_of seats batch)) =
      all_at (λ (b : Added). b.steps ≤ step_bound (seats_of (settings_of seats batch))) own before behind a bounded.1
      log_is in
      record {
        seat = less;
        answered = are_answered (settings_of seats batch) is.run a.seat ok (inside a.seat less) place a got;
        within = subst (λ (n : ℕ). a.steps ≤ step_bound n) as_many steps;
        add_is = ap (λ (xs : List Add). get_or xs place no_add) (sym (log_adds a.seat less))
            ∙ get_or-map (λ (b : Added). b.add) own place a no_add long ∙ ap (λ (b : Added). b.add) (at a);
      }
