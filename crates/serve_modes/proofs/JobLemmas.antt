-- Batches of packets that were served: one more, and what is printed of them.
use Rattle.std.proofs.Common.{◌≡◌, ℕ, ◌+◌, List, Result, Ok, Err, [], ◌∷◌, ◌++◌, length, sym, ◌∙◌, ap, subst, refl, append_assoc, append-nil, length-append, arith}
use Rattle.std.specs.List.{flat_map}
use Rattle.std.specs.Prelude.{OnOk, false}
use Rattle.std.proofs.lemmas.List.Elements.{All-weaker}
use Rattle.key_texts.specs.FlowText.{HasText}
use Rattle.plain_map.specs.Calls.{key_in}
use Rattle.trace_share.specs.declared.deals.Share.{Share}
use Rattle.trace_share.specs.Deal.{dealt}
use Rattle.batch_rows.specs.Demands.{IsDemandOf}
use Rattle.shared_table.specs.Values.{TableValue}
use Rattle.trace_share.specs.declared.outcome.Outcome.{Outcome}
use Rattle.batch_runner.specs.declared.workers.SeatWorker.{SeatWorker}
use Rattle.batch_deals.specs.declared.dealing.Dealt.{Dealt}
use Rattle.batch_deals.specs.Dealt.{IsDealt, shares_of}
use Rattle.plain_map.specs.declared.calls.Call.{Call}
use Rattle.capture_faults.specs.declared.ending.Ending.{Ending}
use Rattle.report_text.specs.Report.{batch_lines, head_line, report_of, session_line, tail_lines}
use Rattle.batch_deals.specs.declared.service.Service.{Service}
use Rattle.batch_runner.specs.Served.{Served}
use Rattle.batch_runner.specs.Printed.{lines_of}
use Rattle.command_line.specs.declared.plan.Plan.{Plan}
use Rattle.mode_parts.specs.Callings.{calling_of}
use Rattle.serve_modes.specs.declared.serving.Serving.{Serving}
use Rattle.mode_parts.specs.declared.calling.Calling.{Calling}
use Rattle.mode_parts.specs.PacketCalls.{MakeCalls}
use Rattle.serve_modes.specs.Progress.{HasServed, HasTexts}
use Rattle.mode_parts.specs.Reading.{AreBetween, IsBetween}
use Rattle.mode_parts.specs.Planned.{IsServiceOf, head_of}
use Rattle.serve_modes.specs.Served.{lines_so_far, run_report, tail_with}
use Rattle.serve_modes.specs.Serving.{AreServedOf, HasDone, HasOpenedFor, IsWholeReport, joined}
use Rattle.serve_modes.proofs.PrintLemmas.{last_text, no_lines, section_of}

-- what holds anyway holds of an answer
pub OnOk-any : {T E : Type 0} {P : Type 0} (result : Result T E) → P → OnOk result P
OnOk-any (Ok x) p = p
OnOk-any (Err e) p = tt

-- ---- batches

pub joined-more : (batches : List (List (List ℕ))) (batch : List (List ℕ)) →
    joined (batches ++ batch ∷ []) ≡ joined batches ++ batch
joined-more [] batch = append-nil batch
joined-more (first ∷ batches) batch =
    ap (λ (ps : List (List ℕ)). first ++ ps) (joined-more batches batch)
    ∙ sym (append_assoc first (joined batches) batch)

-- one more was served
pub served_more : (calling : Calling) (batches : List (List (List ℕ))) (before : ℕ) (served : List Served)
    (batch : List (List ℕ))
    (one : Served) (many : ℕ) → AreServedOf calling batches before served → many ≡ before + length (joined batches) →
    MakeCalls calling (many + 1) batch one.calls → AreBetween many (many + length batch) one.calls →
    AreServedOf calling (batches ++ batch ∷ []) before (served ++ one ∷ [])
served_more calling [] before served batch one many none is make between =
    let same : many ≡ before = omega (arith, is) in (
      one,
      [],
      ap (λ (s : List Served). s ++ one ∷ []) none,
      subst (λ (n : ℕ). MakeCalls calling (n + 1) batch one.calls) same make,
      subst (λ (n : ℕ). AreBetween n (n + length batch) one.calls) same between,
      refl,
    )
served_more calling (first ∷ batches) before served batch one many are is make between = (
  are.0,
  are.1 ++ one ∷ [],
  ap (λ (s : List Served). s ++ one ∷ []) are.2,
  are.3,
  are.4,
  served_more calling batches (before + length first) are.1 batch one many are.5
      (omega (arith, is, length-append first (joined batches))) make between,
)

-- the keys of calls between two numbers have texts
pub texts_between : (first last : ℕ) (calls : List (ℕ × Call)) → AreBetween first last calls → HasTexts calls
texts_between first last calls between =
    All-weaker (IsBetween first last) (λ (call : ℕ × Call). HasText (key_in call.1)) (λ (call : ℕ × Call) is. is.text)
    calls between.each

-- ---- the job

-- so does a job's record of them
pub done_more : {K : Type 0} {holds : K → List Outcome → Type 0} {room : K → ℕ} (plan : Plan) (old new : Serving)
    (batches : List (List (List ℕ))) (put : List ℕ) (before : ℕ) (packets : List (List ℕ)) (t : TableValue)
    (workers : List (SeatWorker K)) (many : ℕ) (one : Served) (lines : List ℕ) →
    (done : HasDone old plan batches put) → old.packets ≡ before →
    HasOpenedFor holds room old t workers many before packets → one.calls ≡ old.calls.items →
    new.service ≡ old.service → new.calling ≡ old.calling →
    new.packets ≡ old.packets + many → HasServed old.service new.progress (done.served ++ one ∷ []) →
    lines ≡ batch_lines old.service.settings.seats (lines_of old.service old.progress.before one) →
    HasDone new plan (batches ++ packets ∷ []) (put ++ lines)
done_more plan old new batches put before packets t workers many one lines done at opened calls
    service framed count has is =
    let told : List ℕ = batch_lines old.service.settings.seats (lines_of old.service old.progress.before one) in
    let behind : before ≡ 0 + length (joined batches) = omega (arith, at, done.count) in
    let same : (s : Service) → s ≡ old.service →
    put ++ told ≡ lines_so_far plan s (done.served ++ one ∷ []) = λ s here.
    section_of plan old.service old.progress done.served one put [] told done.asks done.has
    (append-nil put ∙ done.text) refl
    ∙ ap (λ (t : Service). lines_so_far plan t (done.served ++ one ∷ [])) (sym here) in
    record {
      served = done.served ++ one ∷ [];
      asks = subst (IsServiceOf plan) (sym service) done.asks;
      framed = framed ∙ done.framed;
      has = subst (λ (s : Service). HasServed s new.progress (done.served ++ one ∷ [])) (sym service) has;
      of = served_more (calling_of plan) batches 0 done.served packets one before done.of behind
          (subst (λ (f : Calling). MakeCalls f (before + 1) packets one.calls) done.framed
          (subst (MakeCalls old.calling (before + 1) packets) (sym calls) opened.make))
          (subst (AreBetween before (before + length packets)) (sym calls) opened.between);
      count = omega (
        arith,
        count,
        done.count,
        opened.count,
        ap length (joined-more batches packets),
        length-append (joined batches) packets,
      );
      text = ap (λ (ls : List ℕ). put ++ ls) is ∙ same new.service service;
    }

-- before any batch
pub done_none : (job : Serving) (plan : Plan) (text : List ℕ) → job.packets ≡ 0 → IsServiceOf plan job.service →
    job.calling ≡ calling_of plan → HasServed job.service job.progress [] → text ≡ head_line (head_of false plan) →
    HasDone job plan [] text
done_none job plan text none asks framed has is =
    record {
      served = [];
      asks = asks;
      framed = framed;
      has = has;
      of = refl;
      count = none;
      text = is ∙ no_lines plan job.service;
    }

-- the last lines make it whole
pub done_whole : (job : Serving) (plan : Plan) (batches : List (List (List ℕ))) (put : List ℕ) (ending : Ending)
    (packets : ℕ) (text text_then : List ℕ) → HasDone job plan batches put → job.packets ≡ packets →
    text_then ≡ (text ++ flat_map session_line job.progress.pairs.items)
    ++ tail_lines (tail_with job.service packets job.progress.totals job.progress.leaves job.progress.depth ending) →
    (rest : List ℕ) × (text_then ≡ text ++ rest) × IsWholeReport plan batches ending (put ++ rest)
done_whole job plan batches put ending packets text text_then done at is =
    let sessions : List ℕ = flat_map session_line job.progress.pairs.items in
    let tail : List ℕ =
    tail_lines (tail_with job.service packets job.progress.totals job.progress.leaves job.progress.depth ending) in
    let many : packets ≡ length (joined batches) = omega (arith, at, done.count) in
    let whole : put ++ (sessions ++ tail) ≡ report_of (run_report plan job.service packets done.served ending) =
    last_text plan job.service job.progress packets done.served ending put [] (sessions ++ tail) done.has
    (append-nil put ∙ done.text) refl in (
      sessions ++ tail,
      is ∙ append_assoc text sessions tail,
      (
        job.service,
        done.served,
        record { asks = done.asks; each = done.has.served; of = done.of },
        whole ∙ ap (λ (n : ℕ). report_of (run_report plan job.service n done.served ending)) many,
      ),
    )

-- who deals alike deals the same
pub dealt_alike : (one other : Service) (calls : List (ℕ × Call)) (deal : Dealt) →
    (one.share ≡ other.share) × (one.settings.seats ≡ other.settings.seats) → IsDealt one calls deal →
    IsDealt other calls deal
dealt_alike one other calls deal same is =
    let shares : shares_of one calls ≡ shares_of other calls =
    ap (λ (share : Share). dealt share one.settings.seats calls) same.0
    ∙ ap (λ (seats : ℕ). dealt other.share seats calls) same.1 in
    record {
      shares = is.shares ∙ shares;
      demand = subst (λ (s : List (List (ℕ × Call))). IsDemandOf calls s deal.demand) shares is.demand;
    }
