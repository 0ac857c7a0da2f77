-- What the loop over batches of packets leaves is what `serve` leaves.
use Rattle.std.proofs.Common.{◌≡◌, ◌≤◌, ◌<◌, ◌^◌, ℕ, ◌+◌, ◌*◌, suc, zero, List, [], ◌∷◌, ◌++◌, length, map, Option, Some, Result, Ok, Err, sym, ◌∙◌, ap, subst, refl, inl, inr, append_assoc, length-append, mul-zero, arith}
use Rattle.std.specs.Prelude.{slice_index_or}
use Rattle.std.specs.Io.KnownBytes.{Keeps}
use Rattle.std.specs.Result.{IfOk, IsErr, IsErrAnd}
use Rattle.std.proofs.KnownBytes.{Consumes-nil}
use Rattle.std.specs.List.{All, AllByRecursion, flat_map}
use Rattle.std.proofs.lemmas.List.{length-map, length-take-le, nil_from_length}
use Rattle.plain_map.specs.declared.calls.Call.{Call}
use Rattle.capture_faults.specs.declared.ending.Ending.{Ending}
use Rattle.capture_faults.specs.declared.ending.Ending.TheVariants.{Done, ReadFault, Limit, Fault}
use Rattle.report_text.specs.Report.{report_of}
use Rattle.batch_deals.specs.declared.service.Service.{Service}
use Rattle.batch_runner.specs.Served.{Served}
use Rattle.capture_loop.specs.declared.stop.Stop.{Stop}
use Rattle.capture_loop.specs.declared.stop.Stop.TheVariants.{Memory, NotPut}
use Rattle.capture_loop.specs.Batches.{AreBatches}
use Rattle.capture_loop.proofs.LeavesLemmas.{AreCut-alike, IsWhole}
use Rattle.capture_loop.specs.Leaves.{IsLoopFront, IsLoopReport, IsLoopTold, Leaves as LoopLeaves, LoopLeavesAll, PutsInput, ReportsInput, RunReads}
use Rattle.capture_loop.specs.Input.{Serves, in_batches, packet_limit}
use Rattle.command_line.specs.declared.plan.Plan.{Plan}
use Rattle.step_counts.specs.Ranges.{IsWithin}
use Rattle.report_told.specs.Rules.{IsEndingTold, seed_in}
use Rattle.report_told.specs.Verdicts.{Certified}
use Rattle.report_promises.specs.Good.{GoodIsCertified}
use Rattle.mode_parts.specs.Callings.{calling_of}
use Rattle.mode_parts.specs.declared.calling.Calling.{Calling}
use Rattle.packet_heads.specs.Links.{number_in}
use Rattle.mode_parts.specs.declared.status.Status.TheVariants as status
use Rattle.serve_modes.specs.Batches.{AreOfBatches, IsOfBatch, batch_count}
use Rattle.mode_parts.specs.PacketCalls.{MakeCalls, numbered}
use Rattle.mode_parts.specs.Reading.{AreBetween}
use Rattle.serve_modes.specs.Served.{AreDone, ServedArePromised, run_report}
use Rattle.serve_modes.specs.Serving.{AreServedOf, IsLines, IsServedSo, IsWholeReport, joined}
use Rattle.serve_modes.specs.Headline.{IsFront, IsReport, IsTold, Leaves, LeavesAll, PutsReport, Reports}
use Rattle.mode_parts.specs.Statuses.{ReadsFailed, status_by, status_of}
use Rattle.serve_modes.proofs.EndLemmas.{batch_more, between_is_batch, last_count}
use Rattle.mode_parts.proofs.FittingCalls.{calls_fit}
use Rattle.serve_modes.proofs.GoodServes.{serve_is_certified}

-- ---- calls of batches

abbrev calls_in : List Served → List (List (ℕ × Call))
calls_in served = map (λ (batch : Served). batch.calls) served

abbrev all_in : List Served → List (ℕ × Call)
all_in served = flat_map (λ (calls : List (ℕ × Call)). calls) (calls_in served)

-- packets behind packets make the calls of both
MakeCalls-append : (calling : Calling) (packets : List (List ℕ)) (n : ℕ) (calls : List (ℕ × Call))
    (others : List (List ℕ))
    (more : List (ℕ × Call)) → MakeCalls calling n packets calls → MakeCalls calling (n + length packets) others more →
    MakeCalls calling n (packets ++ others) (calls ++ more)
MakeCalls-append calling [] n calls others more none behind =
    let same : n + 0 ≡ n = omega arith in
    subst (λ (l : List (ℕ × Call)). MakeCalls calling n others (l ++ more)) (sym none)
    (subst (λ (k : ℕ). MakeCalls calling k others more) same behind)
MakeCalls-append calling (packet ∷ packets) n calls others more made behind =
    let same : n + length (packet ∷ packets) ≡ suc n + length packets = omega arith in (
      made.0,
      made.1 ++ more,
      made.2,
      MakeCalls-append calling packets (suc n) made.1 others more made.3
          (subst (λ (k : ℕ). MakeCalls calling k others more) same behind),
      ap (λ (l : List (ℕ × Call)). l ++ more) made.4 ∙ append_assoc (numbered n made.0) made.1 more,
    )

-- all packets make all calls
calls_made : (calling : Calling) (batches : List (List (List ℕ))) (before : ℕ) (served : List Served) →
    AreServedOf calling batches before served →
    MakeCalls calling (before + 1) (joined batches) (all_in served)
calls_made calling [] before served none = ap all_in none
calls_made calling (batch ∷ batches) before served are =
    let same : before + length batch + 1 ≡ before + 1 + length batch = omega arith in
    subst (λ (s : List Served). MakeCalls calling (before + 1) (batch ++ joined batches) (all_in s)) (sym are.2)
    (MakeCalls-append calling batch (before + 1) are.0.calls (joined batches) (all_in are.1) are.3
    (subst (λ (k : ℕ). MakeCalls calling k (joined batches) (all_in are.1)) same
    (calls_made calling batches (before + length batch) are.1 are.5)))

-- there are as many batches of calls
same_count : (calling : Calling) (batches : List (List (List ℕ))) (before : ℕ) (served : List Served) →
    AreServedOf calling batches before served →
    length served ≡ length batches
same_count calling [] before served none = ap length none
same_count calling (batch ∷ batches) before served are =
    ap length are.2 ∙ ap suc (same_count calling batches (before + length batch) are.1 are.5)

-- whole batches, but for the last
abbrev AreCut : (size : ℕ) → List (List (List ℕ)) → Type 0
AreCut size [] = Unit {0}
AreCut size (batch ∷ batches) =
    (length batch ≤ size) × (0 < length batches → length batch ≡ size) × AreCut size batches

cut_whole : (size : ℕ) (batches : List (List (List ℕ))) → AllByRecursion (IsWhole size) batches → AreCut size batches
cut_whole size [] each = tt
cut_whole size (batch ∷ batches) each = (omega (arith, each.0), λ more. each.0, cut_whole size batches each.1)

cut_last : (size : ℕ) (front : List (List (List ℕ))) (last : List (List ℕ)) → AllByRecursion (IsWhole size) front →
    length last ≤ size → AreCut size (front ++ last ∷ [])
cut_last size [] last each few = (few, λ more. absurd (omega (arith, more)), tt)
cut_last size (batch ∷ front) last each few =
    (omega (arith, each.0), λ more. each.0, cut_last size front last each.1 few)

-- each call is of its batch: of the first, or of one of the others
batch_at : (size j before : ℕ) (batch : List (List ℕ)) (batches : List (List (List ℕ))) (first : Served)
    (others : List Served) → size * j ≡ before → length batch ≤ size →
    (0 < length batches → length batch ≡ size) → AreBetween before (before + length batch) first.calls →
    length others ≡ length batches →
    (length batch ≡ size → (m : ℕ) → m < length (calls_in others) →
    All (IsOfBatch size (suc j + m)) (slice_index_or (calls_in others) m [])) →
    (k : ℕ) → k < length (first.calls ∷ calls_in others) →
    All (IsOfBatch size (j + k)) (slice_index_or (first.calls ∷ calls_in others) k [])
batch_at size j before batch batches first others whole few full between many next zero inside =
    let same : j ≡ j + 0 = omega arith in
    subst (λ (n : ℕ). All (IsOfBatch size n) first.calls) same
    (between_is_batch size j before (length batch) first.calls whole few between)
batch_at size j before batch batches first others whole few full between many next (suc m) inside =
    let same : suc j + m ≡ j + suc m = omega arith in
    let some : 0 < length batches = omega (arith, inside, length-map others (λ (b : Served). b.calls), many) in
    subst (λ (n : ℕ). All (IsOfBatch size n) (slice_index_or (calls_in others) m [])) same
    (next (full some) m (omega (arith, inside)))

batch_of : (size : ℕ) (calling : Calling) (batches : List (List (List ℕ))) (j before : ℕ) (served : List Served) →
    AreServedOf calling batches before served → size * j ≡ before → AreCut size batches → (k : ℕ) →
    k < length (calls_in served) → All (IsOfBatch size (j + k)) (slice_index_or (calls_in served) k [])
batch_of size calling [] j before served none whole cut k within =
    absurd (omega (arith, within, ap (λ (s : List Served). length (calls_in s)) none))
batch_of size calling (batch ∷ batches) j before served are whole cut k within =
    subst (λ (s : List Served). All (IsOfBatch size (j + k)) (slice_index_or (calls_in s) k [])) (sym are.2)
    (batch_at size j before batch batches are.0 are.1 whole cut.0 cut.1 are.4
    (same_count calling batches (before + length batch) are.1 are.5)
    (λ full m inside.
    batch_of size calling batches (suc j) (before + length batch) are.1 are.5
    (batch_more size j before whole ∙ ap (λ (n : ℕ). before + n) (sym full)) cut.2 m inside) k
    (subst (λ (s : List Served). k < length (calls_in s)) are.2 within))

cut_of : (size : ℕ) (calling : Calling) (batches : List (List (List ℕ))) (served : List Served) →
    AreServedOf calling batches 0 served → AreCut size batches →
    AreOfBatches size (all_in served) (calls_in served)
cut_of size calling batches served are cut =
    record {
      parts = refl;
      each = λ k within.
          let same : 0 + k ≡ k = omega arith in
          subst (λ (n : ℕ). All (IsOfBatch size n) (slice_index_or (calls_in served) k [])) same
          (batch_of size calling batches 0 0 served are (mul-zero size) cut k within);
    }

whole_length : (size : ℕ) (batches : List (List (List ℕ))) → AllByRecursion (IsWhole size) batches →
    size * length batches ≡ length (joined batches)
whole_length size [] each = mul-zero size
whole_length size (batch ∷ batches) each =
    let sum : length (batch ++ joined batches) ≡ length (joined batches) + size =
    omega (arith, length-append batch (joined batches), each.0) in
    batch_more size (length batches) (length (joined batches)) (whole_length size batches each.1) ∙ sym sum

joined-append : (front : List (List (List ℕ))) (last : List (List ℕ)) →
    length (joined (front ++ last ∷ [])) ≡ length (joined front) + length last
joined-append [] last = omega (arith, length-append last [])
joined-append (batch ∷ front) last =
    omega (
      arith,
      length-append batch (joined (front ++ last ∷ [])),
      length-append batch (joined front),
      joined-append front last,
    )

-- how many batches there are of an input whose end is known
all_count : (size : ℕ) (packets : List (List ℕ)) (batches : List (List (List ℕ))) → 0 < size →
    AreBatches size packets batches → length batches ≡ batch_count size (length packets)
all_count size packets batches some cut =
    let many : length batches ≡ suc (length cut.front) =
    omega (arith, ap length cut.parts, length-append cut.front (cut.last ∷ [])) in
    let all : length packets ≡ length (joined cut.front) + length cut.last =
    ap length (sym cut.all) ∙ ap (λ (bs : List (List (List ℕ))). length (joined bs)) cut.parts
    ∙ joined-append cut.front cut.last in
    let none : length cut.last ≡ 0 → length (joined cut.front) ≡ 0 = λ empty.
    ap (λ (bs : List (List (List ℕ))). length (joined bs)) (cut.begun (nil_from_length cut.last empty)) in
    many
    ∙ last_count size (length (joined cut.front)) (length cut.last) (length cut.front) some
    (whole_length size cut.front (AreCut-alike size 0 cut.front cut.whole)) cut.few none
    ∙ ap (batch_count size) (sym all)

-- ---- texts

module _ (law : ServedArePromised) (plan : Plan) (range : IsWithin 2048 65536 plan.batch) where
  done : (service : Service) (batches : List (List (List ℕ))) (served : List Served) →
      IsServedSo plan service batches served → AreCut plan.batch batches → AreDone plan service (all_in served) served
  done service batches served is cut =
      record {
        asks = is.asks;
        cut = cut_of plan.batch (calling_of plan) batches served is.of cut;
        served = is.each;
        promised = law service served is.each;
      }

  made : (packets : List (List ℕ)) (batches : List (List (List ℕ))) (served : List Served) →
      joined batches ≡ packets → AreServedOf (calling_of plan) batches 0 served →
      MakeCalls (calling_of plan) 1 packets (all_in served)
  made packets batches served is are =
      subst (λ (ps : List (List ℕ)). MakeCalls (calling_of plan) 1 ps (all_in served)) is
      (calls_made (calling_of plan) batches 0 served are)

  cut_batches : (packets : List (List ℕ)) (batches : List (List (List ℕ))) → AreBatches plan.batch packets batches →
      AreCut plan.batch batches
  cut_batches packets batches cut =
      subst (AreCut plan.batch) (sym cut.parts) (cut_last plan.batch cut.front cut.last
      (AreCut-alike plan.batch 0 cut.front cut.whole) cut.few)

  -- the calls of these packets were served in as many batches as these are
  pub served_at : (packets : List (List ℕ)) (batches : List (List (List ℕ))) (service : Service)
      (served : List Served) →
      AreBatches plan.batch packets batches → IsServedSo plan service batches served →
      (calls : List (ℕ × Call)) × MakeCalls (calling_of plan) 1 packets calls × AreDone plan service calls served
      × (length served ≡ batch_count plan.batch (length packets))
  served_at packets batches service served cut is = (
    all_in served,
    made packets batches served cut.all is.of,
    done service batches served is (cut_batches packets batches cut),
    same_count (calling_of plan) batches 0 served is.of
        ∙ all_count plan.batch packets batches (omega (arith, range.0)) cut,
  )

  front_of : (packets : List (List ℕ)) (text : List ℕ) → IsLoopFront (in_batches plan.batch) (IsLines plan) packets
      text →
      IsFront plan packets text
  front_of packets text front =
      let batches : List (List (List ℕ)) = front.0 in
      let whole = front.1 in
      let lines = front.2 in (
        all_in lines.1,
        made packets batches lines.1 whole.parts lines.2.of,
        (
          lines.0,
          lines.1,
          done lines.0 batches lines.1 lines.2
              (cut_whole plan.batch batches (AreCut-alike plan.batch 0 batches whole.each)),
          ap (λ (n : ℕ). plan.batch * n) (same_count (calling_of plan) batches 0 lines.1 lines.2.of)
              ∙ whole_length plan.batch batches (AreCut-alike plan.batch 0 batches whole.each) ∙ ap length whole.parts,
          lines.3,
        ),
      )

  told_of : (packets : List (List ℕ)) (text : List ℕ) → IsLoopTold (in_batches plan.batch) (IsLines plan) packets text →
      IsTold plan packets text
  told_of packets text told =
      let lines = told.2 in
      let at = served_at packets told.0 lines.0 lines.1 told.1 lines.2 in
      (at.0, at.1, lines.0, lines.1, at.2, at.3, lines.3)

  report_at : (packets : List (List ℕ)) (ending : Ending) (text : List ℕ) →
      IsLoopReport (in_batches plan.batch) (IsWholeReport plan) packets ending text → IsReport plan packets ending text
  report_at packets ending text report =
      let cut = report.1 in
      let lines = report.2 in
      let at = served_at packets report.0 lines.0 lines.1 cut lines.2 in (
        at.0,
        at.1,
        (
          lines.0,
          lines.1,
          at.2,
          at.3,
          lines.3
              ∙ ap (λ (ps : List (List ℕ)). report_of (run_report plan lines.0 (length ps) lines.1 ending)) cut.all,
        ),
      )

  -- ---- what is left

  reports_at : (bytes : List ℕ) (left : Option (List ℕ)) (ending : Ending) (text : List ℕ) →
      ReportsInput (in_batches plan.batch) (number_in plan.framing.link) (IsWholeReport plan) bytes left ending text →
      Reports plan bytes left ending text
  reports_at bytes left ending text reports = (reports.0, reports.1, report_at reports.0 ending text reports.2)

  -- how many packets are served at most
  few_served : (bytes : List ℕ) (left : Option (List ℕ)) (packets : List (List ℕ)) (ending : Ending) →
      Serves (number_in plan.framing.link) bytes left packets ending → length packets ≤ packet_limit
  few_served bytes left packets (Done rest) serves = serves.holds.0.1
  few_served bytes left packets (Fault found) serves = serves.holds.1
  few_served bytes left packets ReadFault serves = serves.holds.6.1
  few_served bytes left packets (Limit limit) serves =
      let all : List (List ℕ) = serves.holds.0.0 in
      let long : packet_limit ≤ length all = omega (arith, serves.holds.0.3) in
      omega (arith, ap length serves.holds.0.4, length-take-le packet_limit all long)

  module _ (good : GoodIsCertified) (seed : seed_in plan.hashing < 2 ^ 64) where
    -- the report of an input is certified, where its ending can be told
    certified_at : (bytes : List ℕ) (left : Option (List ℕ)) (ending : Ending) (text : List ℕ) →
        IsEndingTold ending → Reports plan bytes left ending text → Certified text
    certified_at bytes left ending text told reports =
        let packets : List (List ℕ) = reports.0 in
        let calls : List (ℕ × Call) = reports.2.0 in
        let makes : MakeCalls (calling_of plan) 1 packets calls = reports.2.1 in
        let report = reports.2.2 in
        let few : length packets ≤ packet_limit = few_served bytes left packets ending reports.1 in
        subst Certified (sym report.4)
        (serve_is_certified good plan report.0 packets calls report.1 ending makes report.2 few
        (calls_fit (calling_of plan) 1 packets calls (omega (arith, few)) makes) seed range told)

  module _ (can_end : Ending → Type 0) (bytes : List ℕ) (left before after : Option (List ℕ)) where
    put_whole : GoodIsCertified → seed_in plan.hashing < 2 ^ 64 → (ending : Ending) → IsEndingTold ending →
        PutsInput (in_batches plan.batch) (number_in plan.framing.link) (IsWholeReport plan) bytes left before after
        ending →
        PutsReport plan bytes left before after ending
    put_whole good seed ending told puts =
        let reports : Reports plan bytes left ending puts.0 = reports_at bytes left ending puts.0 puts.1 in
        (puts.0, (reports, certified_at good seed bytes left ending puts.0 told reports), puts.2)

    of_ok : GoodIsCertified → seed_in plan.hashing < 2 ^ 64 → (ending : Ending) → IsEndingTold ending →
        LoopLeaves (in_batches plan.batch) (number_in plan.framing.link) (IsLines plan) (IsWholeReport plan) can_end
        bytes left
        before
        after (Ok ending) →
        Leaves plan can_end bytes left before after (status_of ending)
    of_ok good seed (Done rest) told leaves = (rest, put_whole good seed (Done rest) told leaves.1)
    of_ok good seed ReadFault told leaves = put_whole good seed ReadFault told leaves.1
    of_ok good seed (Limit limit) told leaves = (limit, put_whole good seed (Limit limit) told leaves.1)
    of_ok good seed (Fault found) told leaves = put_whole good seed (Fault found) told leaves.1

    of_not_put : LoopLeaves (in_batches plan.batch) (number_in plan.framing.link) (IsLines plan) (IsWholeReport plan)
        can_end
        bytes left
        before after (Err NotPut) →
        Leaves plan can_end bytes left before after status.WriteFault
    of_not_put (inl ended) =
        inl (
          ended.0,
          ended.1,
          (ended.2.0, reports_at bytes left ended.0 ended.2.0 ended.2.1, ended.2.2),
        )
    of_not_put (inr begun) = inr (begun.0, begun.1, (begun.2.0, front_of begun.0 begun.2.0 begun.2.1, begun.2.2))

    of_memory : LoopLeaves (in_batches plan.batch) (number_in plan.framing.link) (IsLines plan) (IsWholeReport plan)
        can_end
        bytes left
        before after (Err Memory) →
        Leaves plan can_end bytes left before after status.Memory
    of_memory (inl kept) = inl kept
    of_memory (inr (inl ended)) =
        let told = ended.2.1 in
        inr (inl (
          ended.0,
          ended.1,
          (ended.2.0, (told.0, told.1, told_of told.0 ended.2.0 told.2), ended.2.2),
        ))
    of_memory (inr (inr begun)) =
        inr (inr (begun.0, begun.1, (begun.2.0, front_of begun.0 begun.2.0 begun.2.1, begun.2.2)))

  module _ (can_end : Ending → Type 0) (first left before after : Option (List ℕ)) where
    ok_at : GoodIsCertified → seed_in plan.hashing < 2 ^ 64 → (ending : Ending) → IsEndingTold ending →
        LoopLeavesAll plan.batch (IsLines plan) (IsWholeReport plan) can_end (number_in plan.framing.link) first
        left before
        after (Ok ending) →
        (bytes : List ℕ) → first ≡ Some bytes → Leaves plan can_end bytes left before after (status_of ending)
    ok_at good seed ending told leaves bytes is =
        of_ok can_end bytes left before after good seed ending told (leaves.told bytes is)

    ok_all : GoodIsCertified → seed_in plan.hashing < 2 ^ 64 → (ending : Ending) → IsEndingTold ending →
        LoopLeavesAll plan.batch (IsLines plan) (IsWholeReport plan) can_end (number_in plan.framing.link) first
        left before
        after (Ok ending) →
        LeavesAll plan can_end first left before after (status_of ending)
    ok_all good seed (Done rest) told leaves =
        record {
          told = ok_at good seed (Done rest) told leaves;
          took = (
            leaves.took.0,
            leaves.took.1,
            of_ok can_end leaves.took.0 (Some []) before after good seed (Done rest) told leaves.took.2,
          );
        }
    ok_all good seed ReadFault told leaves =
        record {
          told = ok_at good seed ReadFault told leaves;
          took = (
            leaves.took.0,
            leaves.took.1,
            of_ok can_end leaves.took.0 (Some []) before after good seed ReadFault told leaves.took.2,
          );
        }
    ok_all good seed (Limit limit) told leaves =
        record {
          told = ok_at good seed (Limit limit) told leaves;
          took = (
            leaves.took.0,
            leaves.took.1,
            of_ok can_end leaves.took.0 (Some []) before after good seed (Limit limit) told leaves.took.2,
          );
        }
    ok_all good seed (Fault found) told leaves =
        record {
          told = ok_at good seed (Fault found) told leaves;
          took = (
            leaves.took.0,
            leaves.took.1,
            of_ok can_end leaves.took.0 (Some []) before after good seed (Fault found) told leaves.took.2,
          );
        }

    pub leaves_all : GoodIsCertified → seed_in plan.hashing < 2 ^ 64 → (result : Result Ending Stop) →
        IfOk result IsEndingTold →
        LoopLeavesAll plan.batch (IsLines plan) (IsWholeReport plan) can_end (number_in plan.framing.link) first
        left before
        after result →
        LeavesAll plan can_end first left before after (status_by result)
    leaves_all good seed (Ok ending) told leaves = ok_all good seed ending told leaves
    leaves_all good seed (Err NotPut) told leaves =
        record {
          told = λ bytes is. of_not_put can_end bytes left before after (leaves.told bytes is);
          took = (
            leaves.took.0,
            leaves.took.1,
            of_not_put can_end leaves.took.0 (Some []) before after leaves.took.2,
          );
        }
    leaves_all good seed (Err Memory) told leaves =
        record {
          told = λ bytes is. of_memory can_end bytes left before after (leaves.told bytes is);
          took = (
            leaves.took.0,
            (
              leaves.took.1.0,
              leaves.took.1.1,
              of_memory can_end leaves.took.1.0 (Some []) before after leaves.took.1.2,
            ),
          );
        }

-- ---- devices

pub reads_by : (result : Result Ending Stop) (before after : ℕ) → RunReads result before after →
    ReadsFailed (status_by result) before after
reads_by (Ok (Done rest)) before after failed = failed
reads_by (Ok ReadFault) before after failed = failed
reads_by (Ok (Limit limit)) before after failed = failed
reads_by (Ok (Fault found)) before after failed = failed
reads_by (Err Memory) before after failed = failed
reads_by (Err NotPut) before after failed = failed

-- nothing was read, and nothing put
pub leaves_nothing : (plan : Plan) (can_end : Ending → Type 0) (first left before after : Option (List ℕ)) →
    Keeps before after → LeavesAll plan can_end first left before after status.Memory
leaves_nothing plan can_end first left before after kept =
    record { told = λ bytes told. inl kept; took = (first, ([], Consumes-nil first, inl kept)) }

-- memory ran out before anything was read
pub leaves_none : (plan : Plan) (can_end : Ending → Type 0) (first left before after : Option (List ℕ))
    (result : Result Ending Stop) → IsErr result × IsErrAnd result (λ (stop : Stop). stop ≡ Memory) →
    Keeps before after → LeavesAll plan can_end first left before after (status_by result)
leaves_none plan can_end first left before after (Ok ending) is kept = absurd (cc)
leaves_none plan can_end first left before after (Err stop) is kept =
    subst (λ (s : Stop). LeavesAll plan can_end first left before after (status_by (Err s))) (sym is.1)
    (leaves_nothing plan can_end first left before after kept)
