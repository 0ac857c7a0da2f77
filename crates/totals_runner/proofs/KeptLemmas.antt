-- What is kept of the batches so far, and how one batch more is told.
use Rattle.std.proofs.Common.{◌≡◌, ◌==◌, ℕ, suc, ◌+◌, ◌-◌, ◌%◌, ◌<◌, ◌≤◌, Bool, List, [], ◌∷◌, ◌++◌, Vec, Global, length, vec_len, map, get_or, refl, sym, ap, subst, ◌∙◌, arith, append_assoc, append-nil, length-append}
use Rattle.std.specs.Prelude.{All, flat_map, fold, max, slice_index}
use Rattle.std.specs.List.{range_with_len}
use Rattle.std.proofs.lemmas.List.{get_or-map, length-map}
use Rattle.std.proofs.lemmas.List.Elements.{All-cons, All-head, All-nil, All-tail}
use Rattle.std.proofs.lemmas.List.FromFn.{length-map-range_with_len}
use Rattle.std.proofs.lemmas.List.Folds.{flat_map-map}
use Rattle.std.proofs.lemmas.List.Sums.{count_by-le-length, fold-append, length-filter}
use Rattle.batch_history.specs.Batches.{with_counts, no_counts}
use Rattle.sim_steps.specs.declared.adds.Add.{Add}
use Rattle.sim_steps.specs.declared.adds.Added.{Added}
use Rattle.sim_steps.specs.declared.adds.Totals.{Totals}
use Rattle.sim_steps.specs.Layout.{AreSettings}
use Rattle.sim_steps.specs.Totals.{AreSmall}
use Rattle.sim_steps.specs.World.{seat_in}
use Rattle.sim_steps.specs.Order.{Entry}
use Rattle.sim_totals.specs.declared.table.ClosedTotals.{ClosedTotals}
use Rattle.packet_heads.specs.declared.framing.Framing.{Framing}
use Rattle.packet_adders.specs.declared.frames.Frame.{Frame}
use Rattle.plain_map.specs.declared.records.CallId.{CallId}
use Rattle.report_text.specs.Report.{order_lines}
use Rattle.totals_runner.specs.Adds.{add_batch_lines, add_line, added_on}
use Rattle.totals_runner.specs.declared.counting.Counting.{Counting}
use Rattle.totals_runner.specs.PacketAdds.{MakeAdds, adds_by, seat_for}
use Rattle.sim_totals.specs.Rule.{no_add}
use Rattle.totals_runner.specs.Counted.{AreCounted, Counted, IsCounted, settings_of, totals_left, world_of}
use Rattle.totals_runner.specs.Printed.{added_in_all, added_then, adds_on, answers_on, id_of, lines_of, most_steps, order_on}
use Rattle.totals_runner.specs.Right.{nothing}
use Rattle.totals_runner.specs.Frames.{AreFrames, frames_by, shares_in}
use Rattle.totals_runner.specs.Batch.{AreInTurn, IsEntry, IsOfRun, id_in, no_answer}
use Rattle.totals_runner.specs.Told.{HasCounted}
use Rattle.totals_runner.proofs.Lists.{map_same}
use Rattle.totals_runner.proofs.Orders.{IsNumbered}
use Rattle.totals_runner.proofs.Named.{make_adds, make_length, make_numbers, named}
use Rattle.totals_runner.proofs.OneBatch.{entries, log_adds, many}
use Rattle.totals_runner.proofs.AllBatches.{Come, come_all, come_none, few_bytes, few_counts, settings_are}
use Rattle.totals_runner.proofs.MergeLemmas.{make_of, many_adds}

-- ---- one batch behind others

counted_more : (seats : ℕ) (first : Totals) (batches : List Counted) (batch : Counted) →
    AreCounted seats first batches → batch.first ≡ totals_left first batches → IsCounted seats batch →
    AreCounted seats first (batches ++ batch ∷ [])
counted_more seats first [] batch are begins is = (begins, is, tt)
counted_more seats first (b ∷ batches) batch are begins is =
    (are.0, are.1, counted_more seats b.left batches batch are.2 begins is)

before_more : (seats : ℕ) (before : List ℕ) (batches : List Counted) (batch : Counted) →
    added_in_all seats before (batches ++ batch ∷ []) ≡ added_then seats (added_in_all seats before batches) batch
before_more seats before [] batch = refl
before_more seats before (b ∷ batches) batch = before_more seats (added_then seats before b) batches batch

left_more : (first : Totals) (batches : List Counted) (batch : Counted) →
    totals_left first (batches ++ batch ∷ []) ≡ batch.left
left_more first [] batch = refl
left_more first (b ∷ batches) batch = left_more b.left batches batch

answers_more : (seats : ℕ) (before : List ℕ) (batches : List Counted) (batch : Counted) →
    answers_on seats before (batches ++ batch ∷ [])
    ≡ answers_on seats before batches ++ map (added_on (added_in_all seats before batches)) batch.answers
answers_more seats before [] batch = append-nil (map (added_on before) batch.answers)
answers_more seats before (b ∷ batches) batch =
    ap (λ (xs : List Added). map (added_on before) b.answers ++ xs)
    (answers_more seats (added_then seats before b) batches batch)
    ∙ sym (append_assoc (map (added_on before) b.answers) (answers_on seats (added_then seats before b) batches)
    (map (added_on (added_in_all seats (added_then seats before b) batches)) batch.answers))

pub adds_more : (batches : List Counted) (batch : Counted) →
    adds_on (batches ++ batch ∷ []) ≡ adds_on batches ++ batch.adds
adds_more [] batch = append-nil batch.adds
adds_more (b ∷ batches) batch =
    ap (λ (xs : List Add). b.adds ++ xs) (adds_more batches batch)
    ∙ sym (append_assoc b.adds (adds_on batches) batch.adds)

pub make_append : (framing : Framing) (number last : ℕ) (packets more : List (List ℕ)) (adds others : List Add) →
    MakeAdds framing number packets adds →
    MakeAdds framing last more others → last ≡ number + length packets →
    MakeAdds framing number (packets ++ more) (adds ++ others)
make_append framing number last [] more adds others make rest at =
    let same : last ≡ number = omega (arith, at) in
    subst (λ (n : ℕ). MakeAdds framing n more (adds ++ others)) same
    (subst (λ (xs : List Add). MakeAdds framing last more (xs ++ others)) (sym make) rest)
make_append framing number last (packet ∷ packets) more adds others make rest at = (
  make.0,
  make.1 ++ others,
  make.2,
  make_append framing (suc number) last packets more make.1 others make.3 rest (omega (arith, at)),
  ap (λ (xs : List Add). xs ++ others) make.4,
)

-- the most steps do not hang on what stood before
most_on : (before : List ℕ) (most : ℕ) (answers : List Added) →
    fold (λ (so_far : ℕ) (a : Added). max so_far a.steps) most (map (added_on before) answers)
    ≡ fold (λ (so_far : ℕ) (a : Added). max so_far a.steps) most answers
most_on before most [] = refl
most_on before most (a ∷ answers) = most_on before (max most a.steps) answers

-- ---- what is known of what is kept

module _ (counting : Counting) (batches : List Counted) (kept : HasCounted counting batches)
    (few : length (adds_on batches) ≤ 4000000) where
  come : Come counting.seats (adds_on batches) (adds_on batches) (answers_on counting.seats no_counts batches)
      (order_on counting.seats batches) (totals_left nothing batches) (added_in_all counting.seats no_counts batches)
  come =
      come_all counting.seats (omega (arith, counting.some)) counting.few (adds_on batches)
      (named counting.framing kept.packets (adds_on batches) kept.make)
      (make_adds counting.framing 1 kept.packets (adds_on batches) kept.short kept.make)
      few batches [] [] [] nothing no_counts (come_none counting.seats (adds_on batches)) refl kept.counted

  -- a table can be opened with the totals so far
  pub small_totals : AreSmall counting.totals
  small_totals = subst AreSmall (sym kept.totals) small
    where
      small : AreSmall (totals_left nothing batches)
      small class less = (
        (let is_few = few_counts (adds_on batches) class few in omega (arith, come.counts class less, is_few)),
        (let is_few = few_bytes (adds_on batches) class few
            (make_adds counting.framing 1 kept.packets (adds_on batches) kept.short kept.make) in
            omega (arith, come.bytes class less, is_few)),
      )

  -- no seat has made more adds than there are
  pub few_before : (seat : ℕ) → seat < counting.seats → slice_index counting.before seat ≤ 4000000
  few_before seat less =
      let test : Add → Bool = λ (x : Add). seat_for counting.seats x.packet == seat in
      omega (
        arith,
        ap (λ (xs : List ℕ). slice_index xs seat) kept.before,
        come.before_is seat less,
        length-filter test (adds_on batches),
        count_by-le-length test (adds_on batches),
        few,
      )

-- ---- the shares that are handed over

-- there is a frame for each packet
pub frames_many : (framing : Framing) (number : ℕ) (packets : List (List ℕ)) (frames : List Frame) →
    AreFrames framing number packets frames →
    length frames ≡ length packets
frames_many framing number [] frames are = ap (λ (fs : List Frame). length fs) are
frames_many framing number (packet ∷ packets) frames are =
    ap (λ (fs : List Frame). length fs) are.4 ∙ ap suc (frames_many framing (suc number) packets are.1 are.3)

-- which is no longer than a capture allows
pub frames_short : (framing : Framing) (number : ℕ) (packets : List (List ℕ)) (frames : List Frame) →
    AreFrames framing number packets frames →
    All (λ (packet : List ℕ). length packet ≤ 262144) packets → All (λ (frame : Frame). frame.length ≤ 262144) frames
frames_short framing number [] frames are short =
    subst (All (λ (frame : Frame). frame.length ≤ 262144)) (sym are)
    (All-nil (λ (frame : Frame). frame.length ≤ 262144))
frames_short framing number (packet ∷ packets) frames are short =
    let one : length packet ≤ 262144 = All-head (λ (p : List ℕ). length p ≤ 262144) packet packets short in
    subst (All (λ (frame : Frame). frame.length ≤ 262144)) (sym are.4)
    (All-cons (λ (frame : Frame). frame.length ≤ 262144) are.0 are.1 (omega (arith, are.2.length_is, one))
    (frames_short framing (suc number) packets are.1 are.3
    (All-tail (λ (p : List ℕ). length p ≤ 262144) packet packets short)))

-- there is a share for each seat
pub shares_many : (seats : ℕ) (frames : List Frame) (shares : Vec (Vec Frame Global) Global) →
    map (λ (share : Vec Frame Global). share.items) shares.items ≡ shares_in seats frames → vec_len shares ≡ seats
shares_many seats frames shares are =
    shares.ok.0 ∙ sym (length-map shares.items (λ (share : Vec Frame Global). share.items))
    ∙ ap (λ (xs : List (List Frame)). length xs) are
    ∙ length-map-range_with_len (λ (seat : ℕ). frames_by seats seat frames) 0 seats

-- ---- one batch more

module _ (counting : Counting) (batches : List Counted) (kept : HasCounted counting batches) (before : ℕ)
    (at : length (adds_on batches) ≡ before) (packets : List (List ℕ)) (few : before + length packets ≤ 4000000)
    (frames : List Frame) (are : AreFrames counting.framing (before + 1) packets frames) (logs : List (List Added))
    (closed : ClosedTotals) (batch : Counted)
    (of : IsOfRun counting.seats counting.totals frames logs closed batch) where
  some : 0 < counting.seats
  some = omega (arith, counting.some)

  -- its adds are those of its packets
  pub batch_make : MakeAdds counting.framing (before + 1) packets batch.adds
  batch_make =
      subst (λ (xs : List Add). MakeAdds counting.framing (before + 1) packets xs) of.counted.asked
      (make_of counting.framing (before + 1) packets frames batch.answers are of.answers)

  pub batch_long : length batch.answers ≡ length packets
  batch_long =
      sym (length-map batch.answers (λ (a : Added). a.add)) ∙ ap (λ (xs : List Add). length xs) of.counted.asked
      ∙ make_length counting.framing (before + 1) packets batch.adds batch_make

  ok : AreSettings (settings_of counting.seats batch)
  ok =
      settings_are counting.seats batch some counting.few
      (omega (arith, few, make_length counting.framing (before + 1) packets batch.adds batch_make))
      (subst AreSmall (sym of.begins) (small_totals counting batches kept (omega (arith, at, few))))

  -- the answers of a seat, by the run
  log_is : (seat : ℕ) → seat < counting.seats →
      get_or logs seat [] ≡ (seat_in (world_of counting.seats batch of.counted.run) seat).log
  log_is seat less = of.logs_are seat less ∙ sym (of.counted.logs seat less)

  -- the entries of its order are answers
  pub entries_are : All (IsEntry logs) closed.order.items
  entries_are = subst (All (IsEntry logs)) (sym of.order_is) each
    where
      each : All (IsEntry logs) batch.order
      each k d less =
          let e : Entry = get_or batch.order k d in
          let it = entries counting.seats batch of.counted ok some k d less in
          record {
            seat = omega (arith, it.seat, of.as_many);
            some = it.some;
            few = omega (arith, it.few, ap (λ (xs : List Added). length xs) (log_is e.0 it.seat));
          }

  -- which name its packets
  pub ids_are : map (id_in logs) closed.order.items ≡ map (id_of counting.seats batch.adds) batch.order
  ids_are =
      ap (map (id_in logs)) of.order_is
      ∙ map_same (id_in logs) (id_of counting.seats batch.adds) batch.order
      (λ k d less. same (get_or batch.order k d) (entries counting.seats batch of.counted ok some k d less))
    where
      same : (e : Entry) → IsNumbered counting.seats (many counting.seats batch of.counted ok some) e →
          id_in logs e ≡ id_of counting.seats batch.adds e
      same e it =
          let log : List Added = (seat_in (world_of counting.seats batch of.counted.run) e.0).log in
          let inside : e.1 - 1 < length log = omega (arith, it.some, it.few) in
          ap (λ (packet : ℕ). named_id e packet)
          (ap (λ (xs : List Added). (get_or xs (e.1 - 1) no_answer).add.packet) (log_is e.0 it.seat)
          ∙ sym (ap (λ (x : Add). x.packet) (get_or-map (λ (a : Added). a.add) log (e.1 - 1) no_answer no_add inside))
          ∙ ap (λ (xs : List Add). (get_or xs (e.1 - 1) no_add).packet)
          (log_adds counting.seats batch of.counted ok some e.0 it.seat))
        where
          named_id : Entry → ℕ → CallId
          named_id e packet = record { seat = e.0; number = e.1; packet = packet }

  -- the seats take turns
  pub answers_in_turn : AreInTurn counting.seats before logs batch.answers
  answers_in_turn =
      record {
        turns = λ i d less.
            let a : Added = get_or batch.answers i d in
            let inside : i < length batch.adds = omega (
              arith,
              less,
              ap (λ (xs : List Add). length xs) of.counted.asked,
              length-map batch.answers (λ (x : Added). x.add),
            ) in
            let packet : a.add.packet ≡ (before + 1) + i =
            ap (λ (x : Add). x.packet) (sym (get_or-map (λ (x : Added). x.add) batch.answers i d no_add less))
            ∙ ap (λ (xs : List Add). (get_or xs i no_add).packet) of.counted.asked
            ∙ make_numbers counting.framing (before + 1) packets batch.adds batch_make i no_add inside in
            let place : a.add.packet - 1 ≡ before + i = omega (arith, packet) in
            of.counted.seats_are i d less ∙ ap (λ (n : ℕ). n % counting.seats) place;
        logs_are = of.logs_are;
      }

  -- ---- its lines

  pub lines_are : (old now then : List ℕ) (ids : List CallId) →
      now ≡ old ++ flat_map (λ (a : Added). add_line counting.seats (added_on counting.before a)) batch.answers →
      then ≡ now ++ order_lines ids → ids ≡ map (id_in logs) closed.order.items →
      then ≡ old ++ add_batch_lines counting.seats (lines_of counting.seats counting.before batch)
  unfolding add_batch_lines
  lines_are old now then ids adds order is =
      let line : Added → List ℕ = λ a. add_line counting.seats (added_on counting.before a) in
      order ∙ ap (λ (t : List ℕ). t ++ order_lines ids) adds
      ∙ append_assoc old (flat_map line batch.answers) (order_lines ids)
      ∙ ap (λ (t : List ℕ). old ++ (t ++ order_lines ids))
      (sym (flat_map-map (add_line counting.seats) (added_on counting.before) batch.answers))
      ∙ ap (λ (xs : List CallId). old
      ++ (flat_map (add_line counting.seats) (map (added_on counting.before) batch.answers) ++ order_lines xs))
      (is ∙ ids_are)

  -- ---- what is kept then

  pub then_counted : AreCounted counting.seats nothing (batches ++ batch ∷ [])
  then_counted =
      counted_more counting.seats nothing batches batch kept.counted (of.begins ∙ kept.totals) of.counted

  pub then_before : (sums counts : List ℕ) → sums ≡ with_counts counting.before counts →
      counts ≡ map (λ (seat : ℕ). length (frames_by counting.seats seat frames)) (range_with_len 0 counting.seats) →
      sums ≡ added_in_all counting.seats no_counts (batches ++ batch ∷ [])
  then_before sums counts is are_counts =
      is ∙ ap (with_counts counting.before) (are_counts ∙ same (range_with_len 0 counting.seats))
      ∙ ap (λ (old : List ℕ). added_then counting.seats old batch) kept.before
      ∙ sym (before_more counting.seats no_counts batches batch)
    where
      same : (xs : List ℕ) →
          map (λ (seat : ℕ). length (frames_by counting.seats seat frames)) xs
          ≡ map (λ (seat : ℕ). length (adds_by counting.seats seat batch.adds)) xs
      same [] = refl
      same (x ∷ xs) =
          ap (λ (n : ℕ). n ∷ map (λ (seat : ℕ). length (frames_by counting.seats seat frames)) xs)
          (sym (many_adds counting.seats x frames batch.answers of.answers)
          ∙ ap (λ (adds : List Add). length (adds_by counting.seats x adds)) of.counted.asked)
          ∙ ap (λ (ns : List ℕ). length (adds_by counting.seats x batch.adds) ∷ ns) (same xs)

  pub then_totals : closed.totals ≡ totals_left nothing (batches ++ batch ∷ [])
  then_totals = of.left_is ∙ sym (left_more nothing batches batch)

  pub then_most : (steps : ℕ) →
      steps ≡ fold (λ (so_far : ℕ) (a : Added). max so_far a.steps) counting.most batch.answers →
      steps ≡ most_steps (answers_on counting.seats no_counts (batches ++ batch ∷ []))
  then_most steps is =
      let so_far : ℕ → Added → ℕ = λ m a. max m a.steps in
      let old : List Added = answers_on counting.seats no_counts batches in
      let on : List ℕ = added_in_all counting.seats no_counts batches in
      is ∙ ap (λ (m : ℕ). fold so_far m batch.answers) kept.most ∙ sym (most_on on (most_steps old) batch.answers)
      ∙ sym (fold-append so_far 0 old (map (added_on on) batch.answers))
      ∙ ap most_steps (sym (answers_more counting.seats no_counts batches batch))

  pub then_make : MakeAdds counting.framing 1 (kept.packets ++ packets) (adds_on (batches ++ batch ∷ []))
  then_make =
      subst (λ (xs : List Add). MakeAdds counting.framing 1 (kept.packets ++ packets) xs)
      (sym (adds_more batches batch))
      (make_append counting.framing 1 (before + 1) kept.packets packets (adds_on batches) batch.adds kept.make
      batch_make
      (omega (arith, at, make_length counting.framing 1 kept.packets (adds_on batches) kept.make)))

  pub then_many : counting.packets ≡ before → (more : ℕ) → more ≡ counting.packets + length packets →
      more ≡ length (kept.packets ++ packets)
  then_many here more is = omega (
    arith,
    is,
    kept.many,
    length-append kept.packets packets,
  )
