-- One batch more of a job that counts, and the texts of it.
use Rattle.std.proofs.Common.{◌≡◌, ◌<◌, ◌≤◌, ◌+◌, ℕ, List, Result, Ok, Err, [], ◌∷◌, ◌++◌, length, refl, sym, ap, subst, ◌∙◌, arith, append_assoc, append-nil, length-append}
use Rattle.std.specs.Prelude.{flat_map, OnOk}
use Rattle.std.specs.List.{AllZip}
use Rattle.sim_steps.specs.declared.adds.Add.{Add}
use Rattle.sim_totals.specs.Values.{TableValue}
use Rattle.packet_adders.specs.declared.workers.AddWorker.{AddWorker}
use Rattle.packet_adders.specs.Work.{IsDone}
use Rattle.totals_runner.specs.Adds.{add_batch_lines, totals_head}
use Rattle.totals_runner.specs.declared.batch.Dealt.{Dealt}
use Rattle.totals_runner.specs.declared.frames.Frames.{Frames}
use Rattle.packet_heads.specs.declared.framing.Framing.{Framing}
use Rattle.totals_runner.specs.declared.counting.Asked.{Asked}
use Rattle.totals_runner.specs.declared.counting.Counting.{Counting}
use Rattle.totals_runner.specs.PacketAdds.{MakeAdds}
use Rattle.totals_runner.specs.Counted.{AreCounted, Counted, totals_left}
use Rattle.totals_runner.specs.Printed.{added_in_all, added_then, adds_on, all_lines, answers_on, lines_of, order_on}
use Rattle.batch_history.specs.Batches.{no_counts}
use Rattle.totals_runner.specs.Right.{AreRight, nothing}
use Rattle.totals_runner.specs.Frames.{HasFrames}
use Rattle.totals_runner.specs.Opened.{IsOpened}
use Rattle.totals_runner.specs.Told.{AreOf, BatchesMakeAdds, HasCounted, HasGone, IsCountedSo}
use Rattle.totals_runner.proofs.AllBatches.{counted_are_right}
use Rattle.totals_runner.proofs.KeptLemmas.{make_append}
use Rattle.totals_runner.proofs.Named.{make_length}

-- ---- batches of packets

-- one batch more
of_more : (framing : Framing) (number : ℕ) (batches : List (List (List ℕ))) (counted : List Counted)
    (packets : List (List ℕ))
    (batch : Counted) (last : ℕ) → AreOf framing number batches counted → MakeAdds framing last packets batch.adds →
    last ≡ number + length (adds_on counted) → AreOf framing number (batches ++ packets ∷ []) (counted ++ batch ∷ [])
of_more framing number [] counted packets batch last are make at =
    let none : length (adds_on counted) ≡ 0 = ap (λ (bs : List Counted). length (adds_on bs)) are in
    let same : last ≡ number = omega (arith, at, none) in (
      batch,
      [],
      subst (λ (n : ℕ). MakeAdds framing n packets batch.adds) same make,
      refl,
      ap (λ (bs : List Counted). bs ++ batch ∷ []) are,
    )
of_more framing number (first ∷ batches) counted packets batch last are make at =
    let long : length are.0.adds ≡ length first = make_length framing number first are.0.adds are.2 in
    let all : length (adds_on counted) ≡ length are.0.adds + length (adds_on are.1) =
    ap (λ (bs : List Counted). length (adds_on bs)) are.4 ∙ length-append are.0.adds (adds_on are.1) in (
      are.0,
      are.1 ++ batch ∷ [],
      are.2,
      of_more framing (number + length first) batches are.1 packets batch last are.3 make
          (omega (arith, at, long, all)),
      ap (λ (bs : List Counted). bs ++ batch ∷ []) are.4,
    )

-- all of them make the adds of all their packets
make_from : (framing : Framing) (number : ℕ) (batches : List (List (List ℕ))) (counted : List Counted) →
    AreOf framing number batches counted →
    MakeAdds framing number (flat_map (λ packets. packets) batches) (adds_on counted)
make_from framing number [] counted are = ap adds_on are
make_from framing number (packets ∷ batches) counted are =
    subst (λ (xs : List Add). MakeAdds framing number (packets ++ flat_map (λ (ps : List (List ℕ)). ps) batches) xs)
    (sym (ap adds_on are.4))
    (make_append framing number (number + length packets) packets (flat_map (λ (ps : List (List ℕ)). ps) batches)
    are.0.adds
    (adds_on are.1) are.2 (make_from framing (number + length packets) batches are.1 are.3) refl)

pub batches_make : BatchesMakeAdds
batches_make framing batches counted are = make_from framing 1 batches counted are

-- ---- lines

lines_more : (seats : ℕ) (before : List ℕ) (batches : List Counted) (batch : Counted) →
    flat_map (add_batch_lines seats) (all_lines seats before (batches ++ batch ∷ []))
    ≡ flat_map (add_batch_lines seats) (all_lines seats before batches)
    ++ add_batch_lines seats (lines_of seats (added_in_all seats before batches) batch)
lines_more seats before [] batch = append-nil (add_batch_lines seats (lines_of seats before batch))
lines_more seats before (b ∷ batches) batch =
    ap (λ (t : List ℕ). add_batch_lines seats (lines_of seats before b) ++ t)
    (lines_more seats (added_then seats before b) batches batch)
    ∙ sym (append_assoc (add_batch_lines seats (lines_of seats before b))
    (flat_map (add_batch_lines seats) (all_lines seats (added_then seats before b) batches))
    (add_batch_lines seats (lines_of seats (added_in_all seats (added_then seats before b) batches) batch)))

-- ---- one batch more

-- what was counted is right
right_of : (job : Counting) (seats : ℕ) (batches : List Counted) → job.seats ≡ seats → HasCounted job batches →
    AreRight seats (adds_on batches) (answers_on seats no_counts batches) (order_on seats batches)
    (totals_left nothing batches)
right_of job seats batches same kept =
    let some : 0 < seats = omega (arith, same, job.some) in
    let few : seats ≤ 8 = omega (arith, same, job.few) in
    counted_are_right job.framing seats kept.packets batches some few kept.few_packets kept.short kept.make
    (subst (λ (n : ℕ). AreCounted n nothing batches) same kept.counted)

pub counts_on : (job then : Counting) (asked : Asked) (batches : List (List (List ℕ))) (put old new : List ℕ)
    (packets : List (List ℕ)) (batch : Counted) → (so : IsCountedSo job asked batches put) →
    MakeAdds job.framing (job.packets + 1) packets batch.adds → HasCounted then (so.counted ++ batch ∷ []) →
    then.seats ≡ job.seats → then.framing ≡ job.framing →
    new ≡ old ++ add_batch_lines job.seats (lines_of job.seats job.before batch) →
    (lines : List ℕ) × (new ≡ old ++ lines) × IsCountedSo then asked (batches ++ packets ∷ []) (put ++ lines)
counts_on job then asked batches put old new packets batch so make kept same framed text =
    let seats : ℕ = asked.seats in (
      add_batch_lines job.seats (lines_of job.seats job.before batch),
      text,
      record {
        as_many = same ∙ so.as_many;
        as_framed = framed ∙ so.as_framed;
        counted = so.counted ++ batch ∷ [];
        of = of_more asked.framing 1 batches so.counted packets batch (job.packets + 1) so.of
            (subst (λ (f : Framing). MakeAdds f (job.packets + 1) packets batch.adds) so.as_framed make)
            (omega (arith, so.kept.many, make_length job.framing 1 so.kept.packets (adds_on so.counted) so.kept.make));
        kept = kept;
        right = right_of then seats (so.counted ++ batch ∷ []) (same ∙ so.as_many) kept;
        text_is = (λ i. so.text_is i
            ++ add_batch_lines (so.as_many i) (lines_of (so.as_many i) (so.kept.before i) batch))
            ∙ ap (λ (n : ℕ). (totals_head seats asked.batch
            ++ flat_map (add_batch_lines seats) (all_lines seats no_counts so.counted))
            ++ add_batch_lines seats (lines_of seats (added_in_all n no_counts so.counted) batch)) so.as_many
            ∙ append_assoc (totals_head seats asked.batch)
            (flat_map (add_batch_lines seats) (all_lines seats no_counts so.counted))
            (add_batch_lines seats (lines_of seats (added_in_all seats no_counts so.counted) batch))
            ∙ ap (λ (t : List ℕ). totals_head seats asked.batch ++ t)
            (sym (lines_more seats no_counts so.counted batch));
      },
    )

-- nothing yet
pub begun : (job : Counting) (asked : Asked) (text : List ℕ) → job.seats ≡ asked.seats →
    job.framing ≡ asked.framing → HasCounted job [] → text ≡ totals_head asked.seats asked.batch → IsCountedSo job
    asked [] text
begun job asked text same framed kept is =
    record {
      as_many = same;
      as_framed = framed;
      counted = [];
      of = refl;
      kept = kept;
      right = right_of job asked.seats [] same kept;
      text_is = is ∙ sym (append-nil (totals_head asked.seats asked.batch));
    }

-- what follows of an answer follows of it there
pub follows : {T E : Type 0} {P Q : Type 0} (result : Result T E) → OnOk result P → (P → Q) → OnOk result Q
follows (Ok x) p then = then p
follows (Err e) p then = tt

-- ---- a batch, as the loop has it

-- frames behind as many packets as were counted
pub frames_at : (job : Counting) (frames : Frames) (before : ℕ) (packets : List (List ℕ)) → HasGone job before →
    HasFrames frames before packets → HasFrames frames job.packets packets
frames_at job frames before packets gone has = subst (λ (n : ℕ). HasFrames frames n packets) (sym gone.packets) has

-- so is a batch that is opened
pub opened_at : (job : Counting) (frames : Frames) (t : TableValue) (ws : List AddWorker) (dealt : Dealt) →
    ((packets : List (List ℕ)) → HasFrames frames job.packets packets → IsOpened job t ws dealt job.packets packets) →
    (before : ℕ) (packets : List (List ℕ)) → HasGone job before → HasFrames frames before packets →
    IsOpened job t ws dealt before packets
opened_at job frames t ws dealt made before packets gone has =
    subst (λ (n : ℕ). IsOpened job t ws dealt n packets) gone.packets
    (made packets (frames_at job frames before packets gone has))

pub opened_here : (job : Counting) (t : TableValue) (ws : List AddWorker) (dealt : Dealt) (before : ℕ)
    (packets : List (List ℕ)) → HasGone job before → IsOpened job t ws dealt before packets →
    IsOpened job t ws dealt job.packets packets
opened_here job t ws dealt before packets gone opened =
    subst (λ (n : ℕ). IsOpened job t ws dealt n packets) (sym gone.packets) opened

-- what closing a batch answers
abbrev pub Closes : Counting → Counting → TableValue → List AddWorker → Dealt → List ℕ → List ℕ → Type 0
Closes job then t ws dealt old new =
    (started : List AddWorker) (batches : List Counted) (packets : List (List ℕ)) → HasCounted job batches →
    IsOpened job t started dealt job.packets packets → AllZip (IsDone t) started ws →
    (batch : Counted) × MakeAdds job.framing (job.packets + 1) packets batch.adds × HasCounted then
    (batches ++ batch ∷ [])
    × (then.packets ≡ job.packets + length packets)
    × (new ≡ old ++ add_batch_lines job.seats (lines_of job.seats job.before batch))

-- so the job goes on
pub closed_going : (job then : Counting) (t : TableValue) (ws : List AddWorker) (dealt : Dealt) (old new : List ℕ) →
    Closes job then t ws dealt old new → (started : List AddWorker) (before : ℕ) (packets : List (List ℕ)) →
    HasGone job before → IsOpened job t started dealt before packets → AllZip (IsDone t) started ws →
    HasGone then (before + length packets)
closed_going job then t ws dealt old new closes started before packets gone opened zip =
    let got = closes started gone.batches packets gone.kept
    (opened_here job t started dealt before packets gone opened) zip in
    record {
      batches = gone.batches ++ got.0 ∷ [];
      kept = got.2;
      packets = got.3 ∙ ap (λ (n : ℕ). n + length packets) gone.packets;
    }

-- with the lines of the batch
pub closed_served : (job then : Counting) (t : TableValue) (ws : List AddWorker) (dealt : Dealt) (old new : List ℕ) →
    then.seats ≡ job.seats → then.framing ≡ job.framing → Closes job then t ws dealt old new →
    (asked : Asked) (batches : List (List (List ℕ)))
    (put : List ℕ) (started : List AddWorker) (before : ℕ) (packets : List (List ℕ)) →
    IsCountedSo job asked batches put → HasGone job before → IsOpened job t started dealt before packets →
    AllZip (IsDone t) started ws →
    (lines : List ℕ) × (new ≡ old ++ lines) × IsCountedSo then asked (batches ++ packets ∷ []) (put ++ lines)
closed_served job then t ws dealt old new same framed closes asked batches put started before packets so gone opened
    zip =
    let got = closes started so.counted packets so.kept
    (opened_here job t started dealt before packets gone opened) zip in
    counts_on job then asked batches put old new packets got.0 so got.1 got.2 same framed got.4
