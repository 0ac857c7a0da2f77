-- Batches that were counted one after the other: their answers are right ones to all adds.
use Rattle.std.proofs.Common.{◌≡◌, ◌==◌, ℕ, suc, ◌+◌, ◌-◌, ◌^◌, ◌<◌, ◌≤◌, Bool, true, false, cond, List, [], ◌∷◌, ◌++◌, map, length, take, drop, get_or, inl, inr, refl, sym, ap, subst, ◌∙◌, arith, length-append, append_assoc, append-nil, zero-add}
use Rattle.std.specs.Prelude.{All, count_by, filter, slice_index, sum_by}
use Rattle.std.specs.List.{range_with_len}
use Rattle.std.proofs.lemmas.Bool.{eq-eqb}
use Rattle.std.proofs.lemmas.List.{length-map, map-append}
use Rattle.std.proofs.lemmas.List.Elements.{All-append, All-map, All-nil, All-weaker, filter-append}
use Rattle.std.proofs.lemmas.List.FromFn.{get_or-map-range_with_len, length-map-range_with_len}
use Rattle.std.proofs.lemmas.List.Sums.{count_by-le-length, length-filter, sum_by-append, sum_by-le, sum_by_push}
use Rattle.std.proofs.lemmas.Simd.{map-map}
use Rattle.batch_history.proofs.Cuts.{cut, map_cut}
use Rattle.batch_history.proofs.GoneOn.{index_with}
use Rattle.sim_steps.specs.declared.adds.Add.{Add}
use Rattle.sim_steps.specs.declared.adds.Added.{Added}
use Rattle.sim_steps.specs.declared.adds.Totals.{Totals}
use Rattle.sim_steps.specs.Layout.{AreSettings}
use Rattle.sim_steps.specs.Program.{step_bound}
use Rattle.sim_steps.specs.Totals.{AreSmall, IsAdd, adds_of, length_of}
use Rattle.sim_steps.specs.Order.{Entry, adds_in, how_many}
use Rattle.totals_runner.specs.Adds.{added_on}
use Rattle.list_laws.proofs.Cuts.{cut_at, zero_at}
use Rattle.list_laws.proofs.Places.{All-right, All-left}
use Rattle.totals_runner.specs.PacketAdds.{add_of, adds_by, seat_for}
use Rattle.sim_totals.specs.Rule.{no_add}
use Rattle.totals_runner.specs.Counted.{AreCounted, Counted, IsCounted, settings_of, totals_left, world_of}
use Rattle.totals_runner.specs.Printed.{added_in_all, added_then, adds_on, answers_on, order_on, packet_of, packets_in}
use Rattle.batch_history.specs.Batches.{no_counts}
use Rattle.totals_runner.specs.Right.{CountedAreRight, FEW, Stands, nothing}
use Rattle.totals_runner.proofs.Lists.{sum_by-map, sum_by_same}
use Rattle.totals_runner.proofs.Orders.{IsNumbered}
use Rattle.totals_runner.proofs.Named.{AreTurns, IsNamed, make_adds, make_length, named, sum_in_turns, turns_once}
use Rattle.totals_runner.proofs.OneBatch.{Answer, adds_named, all_at, answer, as_many, bytes_left, counts_left, entries, many, seat_is, turns}

-- the answers are numbered seat by seat
abbrev pub AreNumbered : List Added → Type 0
AreNumbered answers =
    (front back : List Added) (a : Added) → answers ≡ front ++ a ∷ back →
    a.number ≡ count_by (λ b. b.seat == a.seat) front + 1

-- So far these adds have come, of all; the seats have made so many of them.
pub record Come (seats : ℕ) (all adds : List Add) (answers : List Added) (order : List ℕ) (totals : Totals)
    (before : List ℕ) : Type 0 where
  pub asked : map (λ (a : Added). a.add) answers ≡ adds
  pub seats_are : All (λ (a : Added). a.seat ≡ seat_for seats a.add.packet) answers
  pub numbered : AreNumbered answers
  pub turns : AreTurns seats adds order
  pub stand : All (Stands seats all order) answers
  pub within : All (λ (a : Added). a.steps ≤ step_bound seats) answers
  pub counts : (class : ℕ) → class < 3 → slice_index totals.counts class ≡ adds_of class adds
  pub bytes : (class : ℕ) → class < 3 → slice_index totals.bytes class ≡ length_of class adds
  pub before_is : (seat : ℕ) → seat < seats → slice_index before seat ≡ length (adds_by seats seat adds)

-- ---- the settings of a batch

-- no seat has more adds than there are
seat_adds : (seats : ℕ) (adds : List Add) → length adds ≤ FEW →
    All (λ (n : ℕ). n ≤ 4000000) (map (λ seat. length (adds_by seats seat adds)) (range_with_len 0 seats))
seat_adds seats adds few =
    All-map (λ (n : ℕ). n ≤ 4000000) (λ seat. length (adds_by seats seat adds)) (range_with_len 0 seats)
    (λ k d less. own (get_or (range_with_len 0 seats) k d))
  where
    own : (seat : ℕ) → length (adds_by seats seat adds) ≤ 4000000
    own seat =
        let test : Add → Bool = λ (add : Add). seat_for seats add.packet == seat in
        omega (arith, few, length-filter test adds, count_by-le-length test adds)

-- so a table of them can be opened with totals that some adds have made
pub settings_are : (seats : ℕ) (batch : Counted) → 0 < seats → seats ≤ 8 → length batch.adds ≤ FEW →
    AreSmall batch.first → AreSettings (settings_of seats batch)
settings_are seats batch some few short small =
    let rooms : List ℕ = map (λ seat. length (adds_by seats seat batch.adds)) (range_with_len 0 seats) in
    let long : length rooms ≡ seats =
    length-map-range_with_len (λ (seat : ℕ). length (adds_by seats seat batch.adds)) 0 seats in
    record {
      some = omega (arith, some, long);
      few = omega (arith, few, long);
      rows = (let most = sum_by-le (λ (n : ℕ). n) 4000000 rooms (seat_adds seats batch.adds short) in
          omega (arith, most, long, few));
      small = small;
    }

-- the totals of no more adds than are taken are small
pub few_counts : (adds : List Add) (class : ℕ) → length adds ≤ FEW → adds_of class adds < 2 ^ 62
few_counts adds class few = (let most = count_by-le-length (λ (x : Add). x.class == class) adds in
    omega (arith, few, most))

pub few_bytes : (adds : List Add) (class : ℕ) → length adds ≤ FEW → All IsAdd adds → length_of class adds < 2 ^ 62
few_bytes adds class few good =
    let most = sum_by-le (λ (x : Add). cond (x.class == class) x.length 0) 262144 adds
    (λ k d less. own (get_or adds k d) (good k d less)) in
    omega (arith, few, most)
  where
    own : (x : Add) → IsAdd x → cond (x.class == class) x.length 0 ≤ 262144
    own x is = go (x.class == class)
      where
        go : (b : Bool) → cond b x.length 0 ≤ 262144
        go true = is.1
        go false = omega arith

-- ---- one batch more

module _ (seats : ℕ) (some : 0 < seats) (few : seats ≤ 8) (all adds : List Add) (answers : List Added)
    (order : List ℕ) (totals : Totals) (before : List ℕ) (come : Come seats all adds answers order totals before)
    (batch : Counted) (begins : batch.first ≡ totals) (is : IsCounted seats batch) (later : List Add)
    (all_are : all ≡ (adds ++ batch.adds) ++ later) (names : All (IsNamed all) all) (good : All IsAdd all)
    (short : length all ≤ FEW) where
  -- ---- parts of all adds

  both_of : (P : Add → Type 0) → All P all → All P (adds ++ batch.adds)
  both_of P have = All-left P (adds ++ batch.adds) later (subst (λ (xs : List Add). All P xs) all_are have)

  old_of : (P : Add → Type 0) → All P all → All P adds
  old_of P have = All-left P adds batch.adds (both_of P have)

  new_of : (P : Add → Type 0) → All P all → All P batch.adds
  new_of P have = All-right P adds batch.adds (both_of P have)

  lengths : length adds + length batch.adds ≤ FEW
  lengths = omega (
    arith,
    short,
    ap (λ (xs : List Add). length xs) all_are,
    length-append (adds ++ batch.adds) later,
    length-append adds batch.adds,
  )

  ok : AreSettings (settings_of seats batch)
  ok = settings_are seats batch some few (omega (arith, lengths)) (subst AreSmall (sym begins) small)
    where
      small : AreSmall totals
      small class less = (
        (let is_few = few_counts adds class (omega (arith, lengths)) in omega (arith, come.counts class less, is_few)),
        (let is_few = few_bytes adds class (omega (arith, lengths)) (old_of IsAdd good) in
            omega (arith, come.bytes class less, is_few)),
      )

  -- ---- counts of a seat

  -- the answers of a seat are as many as its adds
  seat_answers : (seat : ℕ) → seat < seats →
      count_by (λ (a : Added). a.seat == seat) answers ≡ slice_index before seat
  seat_answers seat less =
      let test : Add → Bool = λ (x : Add). seat_for seats x.packet == seat in
      sum_by_same (λ (a : Added). cond (a.seat == seat) 1 0) (λ (a : Added). cond (test a.add) 1 0) answers
      (λ k d here. ap (λ (s : ℕ). cond (s == seat) 1 0) (come.seats_are k d here))
      ∙ sym (sum_by-map (λ (x : Add). cond (test x) 1 0) (λ (a : Added). a.add) answers)
      ∙ ap (λ (xs : List Add). count_by test xs) come.asked ∙ sym (length-filter test adds)
      ∙ sym (come.before_is seat less)

  -- and so are its packets in the order
  seat_packets : (seat : ℕ) → seat < seats →
      count_by (λ (packet : ℕ). seat_for seats packet == seat) order ≡ slice_index before seat
  seat_packets seat less =
      let test : ℕ → Bool = λ (packet : ℕ). seat_for seats packet == seat in
      sym (length-filter test order) ∙ ap (λ (xs : List ℕ). length xs) (come.turns seat less)
      ∙ length-map (adds_by seats seat adds) (λ (x : Add). x.packet) ∙ sym (come.before_is seat less)

  -- ---- an answer of the batch

  -- its number goes on
  number_on : (front back : List Added) (b : Added) → batch.answers ≡ front ++ b ∷ back →
      slice_index before b.seat + b.number
      ≡ count_by (λ (x : Added). x.seat == b.seat) (answers ++ map (added_on before) front) + 1
  number_on front back b at =
      let of = answer seats batch is ok some front back b at in
      let test : Added → ℕ = λ x. cond (x.seat == b.seat) 1 0 in
      omega (
        arith,
        of.answered.number_is,
        seat_answers b.seat of.seat,
        sum_by-append test answers (map (added_on before) front),
        sum_by-map test (added_on before) front,
      )

  -- it stands in the order of all
  module _ (front back : List Added) (b : Added) (at : batch.answers ≡ front ++ b ∷ back) where
    of : Answer seats batch is ok some front b
    of = answer seats batch is ok some front back b at

    abbrev place : ℕ
    place = count_by (λ (x : Added). x.seat == b.seat) front

    abbrev entry : Entry
    entry = (b.seat, count_by (λ (x : Added). x.seat == b.seat) front + 1)

    -- its packet there
    packet_is : packet_of seats batch.adds (b.seat, count_by (λ (x : Added). x.seat == b.seat) front + 1)
        ≡ b.add.packet
    packet_is =
        let here : (place + 1) - 1 ≡ place = omega arith in
        ap (λ (k : ℕ). (get_or (adds_by seats b.seat batch.adds) k no_add).packet) here
        ∙ ap (λ (x : Add). x.packet) of.add_is

    -- the order of the batch, cut at it
    order_cut : batch.order ≡ of.answered.front ++ entry ∷ of.answered.standing.rest
    order_cut = is.order_is ∙ of.answered.standing.stands

    -- the entries before it, and with it
    first_entries : All (IsNumbered seats (many seats batch is ok some)) (of.answered.front ++ entry ∷ [])
    first_entries =
        let together : of.answered.front ++ entry ∷ of.answered.standing.rest
        ≡ (of.answered.front ++ entry ∷ []) ++ of.answered.standing.rest =
        sym (append_assoc of.answered.front (entry ∷ []) of.answered.standing.rest) in
        All-left (IsNumbered seats (many seats batch is ok some)) (of.answered.front ++ entry ∷ [])
        of.answered.standing.rest
        (subst (λ (es : List Entry). All (IsNumbered seats (many seats batch is ok some)) es) (order_cut ∙ together)
        (entries seats batch is ok some))

    -- how many of a seat stand before it
    front_count : (seat : ℕ) →
        count_by (λ (packet : ℕ). seat_for seats packet == seat) (map (packet_of seats batch.adds) of.answered.front)
        ≡ how_many seat of.answered.front
    front_count seat =
        let own : Entry → ℕ = packet_of seats batch.adds in
        let are = All-left (IsNumbered seats (many seats batch is ok some)) of.answered.front (entry ∷ [])
        first_entries in
        sum_by-map (λ (packet : ℕ). cond (seat_for seats packet == seat) 1 0) own of.answered.front
        ∙ sum_by_same (λ (e : Entry). cond (seat_for seats (own e) == seat) 1 0)
        (λ (e : Entry). cond (e.0 == seat) 1 0) of.answered.front
        (λ k d here. ap (λ (s : ℕ). cond (s == seat) 1 0)
        (seat_is seats batch is ok some (get_or of.answered.front k d) (are k d here)))

    -- its count is that of the adds before it, and it
    abbrev class : ℕ
    class = b.add.class

    count_is : b.count
        ≡ adds_of b.add.class (map (add_of all) (order ++ map (packet_of seats batch.adds) of.answered.front)) + 1
    count_is =
        let own : Entry → ℕ = packet_of seats batch.adds in
        let test : Add → ℕ = λ x. cond (x.class == b.add.class) 1 0 in
        let front_adds : List Add = map (add_of all) (map own of.answered.front) in
        let small : b.add.class < 3 = class_below in
        let new_names = new_of (IsNamed all) names in
        let listed : adds_in (world_of seats batch is.run) (of.answered.front ++ entry ∷ [])
        ≡ front_adds ++ add_of all (own entry) ∷ [] =
        adds_named seats batch is ok some all new_names (of.answered.front ++ entry ∷ []) first_entries
        ∙ ap (map (add_of all)) (map-append own of.answered.front (entry ∷ []))
        ∙ map-append (add_of all) (map own of.answered.front) (own entry ∷ []) in
        let itself : test (add_of all (own entry)) ≡ 1 =
        ap (λ (x : Add). test x) (ap (add_of all) packet_is ∙ named_add)
        ∙ ap (λ (c : Bool). cond c 1 0) (eq-eqb b.add.class b.add.class refl) in
        let older : sum_by test (map (add_of all) order) ≡ adds_of b.add.class adds =
        sum_in_turns seats all adds order some come.turns (old_of (IsNamed all) names) test in
        let parts : sum_by test (map (add_of all) (order ++ map own of.answered.front))
        ≡ sum_by test (map (add_of all) order) + sum_by test front_adds =
        ap (sum_by test) (map-append (add_of all) order (map own of.answered.front))
        ∙ sum_by-append test (map (add_of all) order) front_adds in
        let total : b.count ≡ slice_index batch.first.counts b.add.class
        + sum_by test (front_adds ++ add_of all (own entry) ∷ []) =
        of.answered.counted
        ∙ ap (λ (xs : List Add). slice_index batch.first.counts b.add.class + sum_by test xs) listed in
        omega (
          arith,
          total,
          sum_by_push test front_adds (add_of all (own entry)),
          itself,
          older,
          parts,
          come.counts b.add.class small,
          ap (λ (t : Totals). slice_index t.counts b.add.class) begins,
        )
      where
        -- it is one of the batch's adds
        one_of : (P : Add → Type 0) → All P batch.adds → P b.add
        one_of P have =
            all_at P batch.adds (map (λ (a : Added). a.add) front) (map (λ (a : Added). a.add) back) b.add have
            (sym is.asked ∙ ap (map (λ (a : Added). a.add)) at ∙ map-append (λ (a : Added). a.add) front (b ∷ back))

        named_add : add_of all b.add.packet ≡ b.add
        named_add = one_of (IsNamed all) (new_of (IsNamed all) names)

        class_below : b.add.class < 3
        class_below = (one_of IsAdd (new_of IsAdd good)).0

    stands_on : Stands seats all (order ++ packets_in seats batch) (added_on before b)
    stands_on =
        let own : Entry → ℕ = packet_of seats batch.adds in
        record {
          front = order ++ map own of.answered.front;
          rest = map own of.answered.standing.rest;
          is = ap (λ (es : List Entry). order ++ map own es) order_cut
              ∙ ap (λ (ps : List ℕ). order ++ ps) (map-append own of.answered.front (entry ∷ of.answered.standing.rest))
              ∙ ap (λ (p : ℕ). order ++ (map own of.answered.front ++ p ∷ map own of.answered.standing.rest)) packet_is
              ∙ sym (append_assoc order (map own of.answered.front) (b.add.packet ∷ map own of.answered.standing.rest));
          after = λ seat less. omega (
            arith,
            index_with before b.seen seat,
            of.answered.standing.after seat (omega (arith, less, as_many seats batch is ok some)),
            front_count seat,
            seat_packets seat less,
            sum_by-append (λ (packet : ℕ). cond (seat_for seats packet == seat) 1 0) order (map own of.answered.front),
          );
          counted = count_is;
        }

  -- ---- so they come with the batch

  numbers_on : AreNumbered (answers ++ map (added_on before) batch.answers)
  numbers_on front back a at = elim (cut answers (map (added_on before) batch.answers) front back a at) [
    | inl first ↦ come.numbered front first.more a first.is
    | inr second ↦
        let m = map_cut (added_on before) batch.answers second.more back a second.is in
        let whole : front ≡ answers ++ map (added_on before) m.front =
        second.before_is ∙ ap (λ (xs : List Added). answers ++ xs) m.front_is in
        subst (λ (x : Added). x.number ≡ count_by (λ (y : Added). y.seat == x.seat) front + 1) (sym m.at_is)
        (subst (λ (xs : List Added). slice_index before m.at.seat + m.at.number
        ≡ count_by (λ (y : Added). y.seat == m.at.seat) xs + 1) (sym whole) (number_on m.front m.back m.at m.is))
  ]

  -- an answer that stood in the order still stands there
  still : (a : Added) → Stands seats all order a → Stands seats all (order ++ packets_in seats batch) a
  still a stood = record {
    front = stood.front;
    rest = stood.rest ++ packets_in seats batch;
    is = ap (λ (ps : List ℕ). ps ++ packets_in seats batch) stood.is
        ∙ append_assoc stood.front (a.add.packet ∷ stood.rest) (packets_in seats batch);
    after = stood.after;
    counted = stood.counted;
  }

  come_more : Come seats all (adds ++ batch.adds) (answers ++ map (added_on before) batch.answers)
      (order ++ packets_in seats batch) batch.left (added_then seats before batch)
  come_more =
      let new_names = new_of (IsNamed all) names in
      record {
        asked = map-append (λ (a : Added). a.add) answers (map (added_on before) batch.answers)
            ∙ ap (λ (xs : List Add). xs ++ map (λ (a : Added). a.add) (map (added_on before) batch.answers)) come.asked
            ∙ ap (λ (xs : List Add). adds ++ xs)
            (map-map (λ (a : Added). a.add) (added_on before) batch.answers ∙ is.asked);
        seats_are = All-append (λ (a : Added). a.seat ≡ seat_for seats a.add.packet) answers
            (map (added_on before) batch.answers) come.seats_are
            (All-map (λ (a : Added). a.seat ≡ seat_for seats a.add.packet) (added_on before)
            batch.answers is.seats_are);
        numbered = numbers_on;
        turns = λ seat less.
            let by_seat : ℕ → Bool = λ (packet : ℕ). seat_for seats packet == seat in
            let by_packet : Add → Bool = λ (x : Add). seat_for seats x.packet == seat in
            filter-append by_seat order (packets_in seats batch)
            ∙ ap (λ (ps : List ℕ). ps ++ filter by_seat (packets_in seats batch)) (come.turns seat less)
            ∙ ap (λ (ps : List ℕ). map (λ (x : Add). x.packet) (adds_by seats seat adds) ++ ps)
            (turns seats batch is ok some seat less)
            ∙ sym (map-append (λ (x : Add). x.packet) (adds_by seats seat adds) (adds_by seats seat batch.adds))
            ∙ ap (map (λ (x : Add). x.packet)) (sym (filter-append by_packet adds batch.adds));
        stand = All-append (Stands seats all (order ++ packets_in seats batch)) answers
            (map (added_on before) batch.answers)
            (All-weaker (Stands seats all order) (Stands seats all (order ++ packets_in seats batch)) still answers
            come.stand)
            (All-map (Stands seats all (order ++ packets_in seats batch)) (added_on before) batch.answers
            (λ k d less. stands_on (take k batch.answers) (drop (suc k) batch.answers) (get_or batch.answers k d)
            (cut_at batch.answers k d less)));
        within = All-append (λ (a : Added). a.steps ≤ step_bound seats) answers (map (added_on before) batch.answers)
            come.within
            (All-map (λ (a : Added). a.steps ≤ step_bound seats) (added_on before) batch.answers
            (λ k d less. (answer seats batch is ok some (take k batch.answers) (drop (suc k) batch.answers)
            (get_or batch.answers k d) (cut_at batch.answers k d less)).within));
        counts = λ class less. counts_left seats batch is ok some all new_names class less
            ∙ ap (λ (t : Totals). slice_index t.counts class + adds_of class batch.adds) begins
            ∙ ap (λ (n : ℕ). n + adds_of class batch.adds) (come.counts class less)
            ∙ sym (sum_by-append (λ (x : Add). cond (x.class == class) 1 0) adds batch.adds);
        bytes = λ class less. bytes_left seats batch is ok some all new_names class less
            ∙ ap (λ (t : Totals). slice_index t.bytes class + length_of class batch.adds) begins
            ∙ ap (λ (n : ℕ). n + length_of class batch.adds) (come.bytes class less)
            ∙ sym (sum_by-append (λ (x : Add). cond (x.class == class) x.length 0) adds batch.adds);
        before_is = λ seat less.
            let room : ℕ → ℕ = λ s. length (adds_by seats s batch.adds) in
            let by_packet : Add → Bool = λ (x : Add). seat_for seats x.packet == seat in
            index_with before (map room (range_with_len 0 seats)) seat
            ∙ ap (λ (n : ℕ). slice_index before seat + n)
            (get_or-map-range_with_len room 0 seats seat seat 0 less (zero-add seat))
            ∙ ap (λ (n : ℕ). n + room seat) (come.before_is seat less)
            ∙ sym (length-append (adds_by seats seat adds) (adds_by seats seat batch.adds))
            ∙ ap (λ (xs : List Add). length xs) (sym (filter-append by_packet adds batch.adds));
      }

-- ---- all batches

-- some lists are others
come_same : (seats : ℕ) (all adds adds' : List Add) (answers answers' : List Added) (order order' : List ℕ)
    (totals : Totals) (before : List ℕ) → adds ≡ adds' → answers ≡ answers' → order ≡ order' →
    Come seats all adds answers order totals before → Come seats all adds' answers' order' totals before
come_same seats all adds adds' answers answers' order order' totals before same_adds same_answers same_order come =
    subst (λ (xs : List Add). Come seats all xs answers' order' totals before) same_adds
    (subst (λ (xs : List Added). Come seats all adds xs order' totals before) same_answers
    (subst (λ (xs : List ℕ). Come seats all adds answers xs totals before) same_order come))

pub come_all : (seats : ℕ) → 0 < seats → seats ≤ 8 → (all : List Add) → All (IsNamed all) all → All IsAdd all →
    length all ≤ FEW → (batches : List Counted) (adds : List Add) (answers : List Added) (order : List ℕ)
    (totals : Totals) (before : List ℕ) → Come seats all adds answers order totals before →
    all ≡ adds ++ adds_on batches → AreCounted seats totals batches →
    Come seats all (adds ++ adds_on batches) (answers ++ answers_on seats before batches)
    (order ++ order_on seats batches) (totals_left totals batches) (added_in_all seats before batches)
come_all seats some few all names good short [] adds answers order totals before come all_are counted =
    come_same seats all adds (adds ++ []) answers (answers ++ []) order (order ++ []) totals before
    (sym (append-nil adds)) (sym (append-nil answers)) (sym (append-nil order)) come
come_all seats some few all names good short (batch ∷ batches) adds answers order totals before come all_are counted =
    let rest : List Add = adds_on batches in
    let on : List ℕ = added_then seats before batch in
    let here : all ≡ (adds ++ batch.adds) ++ rest = all_are ∙ sym (append_assoc adds batch.adds rest) in
    let more = come_more seats some few all adds answers order totals before come batch counted.0 counted.1 rest here
    names good short in
    let last = come_all seats some few all names good short batches (adds ++ batch.adds)
    (answers ++ map (added_on before) batch.answers) (order ++ packets_in seats batch) batch.left on more here
    counted.2 in
    come_same seats all ((adds ++ batch.adds) ++ rest) (adds ++ (batch.adds ++ rest))
    ((answers ++ map (added_on before) batch.answers) ++ answers_on seats on batches)
    (answers ++ (map (added_on before) batch.answers ++ answers_on seats on batches))
    ((order ++ packets_in seats batch) ++ order_on seats batches)
    (order ++ (packets_in seats batch ++ order_on seats batches)) (totals_left batch.left batches)
    (added_in_all seats on batches) (append_assoc adds batch.adds rest)
    (append_assoc answers (map (added_on before) batch.answers) (answers_on seats on batches))
    (append_assoc order (packets_in seats batch) (order_on seats batches)) last

-- before the first batch nothing has come
pub come_none : (seats : ℕ) (all : List Add) → Come seats all [] [] [] nothing no_counts
come_none seats all = record {
  asked = refl;
  seats_are = All-nil (λ (a : Added). a.seat ≡ seat_for seats a.add.packet);
  numbered = λ front back a at. absurd (omega (
    arith,
    ap (λ (xs : List Added). length xs) at,
    length-append front (a ∷ back),
  ));
  turns = λ seat less. refl;
  stand = All-nil (Stands seats all []);
  within = All-nil (λ (a : Added). a.steps ≤ step_bound seats);
  counts = λ class less. zero_at 3 class;
  bytes = λ class less. zero_at 3 class;
  before_is = λ seat less. zero_at 8 seat;
}

-- whatever the interleaving, the answers are right
pub counted_are_right : CountedAreRight
counted_are_right framing seats packets batches some few short lengths make counted =
    let all : List Add = adds_on batches in
    let long : length all ≡ length packets = make_length framing 1 packets all make in
    let come = (come_all seats some few all (named framing packets all make) (make_adds framing 1 packets all lengths
    make)
    (omega (arith, long, short)) batches [] [] [] nothing no_counts (come_none seats all) refl counted) in
    record {
      asked = come.asked;
      seats_are = come.seats_are;
      numbered = come.numbered;
      once = turns_once seats all (order_on seats batches) some come.turns;
      turns = come.turns;
      stand = come.stand;
      within = come.within;
      counts = come.counts;
      bytes = come.bytes;
    }
