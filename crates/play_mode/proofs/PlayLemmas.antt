-- What a play leaves, where its report was put whole or in part, and which answer it gives where nothing fails.
use Rattle.std.proofs.Common.{◌≡◌, ◌≤◌, ◌<◌, ℕ, ◌+◌, ◌*◌, List, [], ◌∷◌, ◌++◌, length, map, take, get_or, ap, Option, Some, None, Result, Vec, Global, ◌-◌, ◌^◌, Ok, Err, sym, ◌∙◌, subst, refl, inl, inr, ◌⊎◌, arith}
use Rattle.std.specs.List.{All}
use Rattle.std.specs.Prelude.{IfOk}
use Rattle.std.specs.Io.KnownBytes.{Appends, Keeps}
use Rattle.std.proofs.KnownBytes.{Consumes-nil}
use Rattle.std.proofs.lemmas.List.{length-map, length-replicate, map-append, take_all, take_more, length-take-le}
use Rattle.std.proofs.lemmas.List.Elements.{All-weaker}
use Rattle.std.proofs.Math.Nat.{mul-le-mul, pow-le-pow_right}
use Rattle.std.proofs.lemmas.Simd.{map-map}
use Rattle.edge_traits.specs.Edge.{AppendsFront}
use Rattle.plain_map.specs.declared.calls.Call.{Call}
use Rattle.capture_faults.specs.declared.any_fault.AnyFault.{AnyFault}
use Rattle.pcapng_reader.specs.Input.{Input}
use Rattle.pcapng_reader.specs.Laws.{HasOneInput}
use Rattle.pcap_reader.specs.Reading.{Took}
use Rattle.capture_faults.specs.declared.ending.Ending.{Ending}
use Rattle.capture_faults.specs.declared.ending.Ending.TheVariants.{Done, ReadFault, Limit, Fault}
use Rattle.step_counts.specs.declared.rows.SeatRows.{SeatRows}
use Rattle.step_counts.specs.declared.settings.Settings.{Settings}
use Rattle.step_counts.specs.StepCounts.{automatic_rows_of}
use Rattle.table_model.specs.Setup.{IsSetup, Setup}
use Rattle.table_model.specs.Schedules.{CanPlay, IsPlayable}
use Rattle.word_rows.specs.Shape.{AreBelow}
use Rattle.batch_rows.specs.BatchRows.{updates_in_calls}
use Rattle.batch_rows.specs.declared.rows.TheConstants.{CALL_LIMIT}
use Rattle.batch_deals.specs.declared.service.Service.{Service}
use Rattle.batch_deals.specs.Dealt.{shares_of}
use Rattle.batch_deals.proofs.Deals.{dealt_few, dealt_hold}
use Rattle.command_line.specs.declared.plan.Plan.{Plan}
use Rattle.mode_parts.specs.Callings.{calling_of}
use Rattle.mode_parts.specs.declared.status.Status.{Status}
use Rattle.mode_parts.specs.declared.status.Status.TheVariants as status
use Rattle.mode_parts.specs.Reading.{AreBetween, EndsCalls, IsBetween}
use Rattle.capture_loop.specs.Leaves.{IsMet}
use Rattle.mode_parts.specs.Statuses.{TookFor, status_of, status_up_to}
use Rattle.play_mode.specs.Playing.{IsPlayOf, LeavesPlay, LeavesPlayed, PlayReports, PutsPlay, play_in, play_limit, play_report, play_setup, ranges_for}
use Rattle.table_model.specs.Order.{order_of}
use Rattle.table_model.specs.Closed.{closing_of}
use Rattle.capture_loop.specs.Input.{ServesUpTo}
use Rattle.packet_heads.specs.Links.{number_in}
use Rattle.report_told.specs.Verdicts.{Certified}
use Rattle.report_promises.specs.Good.{GoodIsCertified}
use Rattle.mode_parts.proofs.FittingCalls.{calls_fit}
use Rattle.play_mode.proofs.GoodPlays.{play_is_good}
use Rattle.mode_parts.proofs.ExactLemmas.{few_packets, many_packets, same_status}

-- what was played of a whole input is its report
PlayReports-ended :
    (plan : Plan) (bytes : List ℕ) (first now left : Option (List ℕ)) (many : ℕ) (calls : List (ℕ × Call))
    (ending : Ending) (text : List ℕ) (ended : EndsCalls (calling_of plan) play_limit first now many calls ending) →
    IsPlayOf plan many calls ending text →
    ServesUpTo (number_in plan.framing.link) play_limit bytes left ended.packets ending →
    PlayReports plan bytes left ending text
PlayReports-ended plan bytes first now left many calls ending text ended is serves = (
  ended.packets,
  calls,
  serves,
  ended.make,
  subst (λ (n : ℕ). IsPlayOf plan n calls ending text) (sym ended.count) is,
)

-- how many packets are played at most
few_played : (link : ℕ) (bytes : List ℕ) (left : Option (List ℕ)) (packets : List (List ℕ)) (ending : Ending) →
    ServesUpTo link play_limit bytes left packets ending → length packets ≤ play_limit
few_played link bytes left packets (Done rest) serves = serves.holds.0.1
few_played link bytes left packets (Fault found) serves = serves.holds.1
few_played link bytes left packets ReadFault serves = serves.holds.6.1
few_played link bytes left packets (Limit limit) serves =
    let all : List (List ℕ) = serves.holds.0.0 in
    let long : play_limit ≤ length all = omega (arith, serves.holds.0.3) in
    omega (arith, ap length serves.holds.0.4, length-take-le play_limit all long)

-- the report of a play is certified
play_certified : GoodIsCertified → (plan : Plan) (bytes : List ℕ) (left : Option (List ℕ)) (ending : Ending)
    (text : List ℕ) → PlayReports plan bytes left ending text → Certified text
play_certified good plan bytes left ending text (packets, calls, serves, makes, is) =
    let few : length packets ≤ play_limit =
    few_played (number_in plan.framing.link) bytes left packets ending serves in
    subst Certified (sym is.text_is)
    (good (play_report plan is.service (length packets) (length calls) is.played ending)
    (order_of (play_setup is.service calls).shape (closing_of (play_in plan is.service calls).world))
    (play_is_good plan packets calls ending text is makes few
    (calls_fit (calling_of plan) 1 packets calls (omega (arith, few)) makes) is.head is.tail))

-- a report that was put whole leaves what its ending's status says
LeavesPlay-whole :
    GoodIsCertified → (plan : Plan) (can_end : Ending → Type 0) (bytes : List ℕ) (left before after : Option (List ℕ))
    (ending : Ending) (text : List ℕ) → PlayReports plan bytes left ending text → Appends before after text →
    LeavesPlay plan can_end bytes left before after (status_of ending)
LeavesPlay-whole good plan can_end bytes left before after ending text reports put =
    by ending (text, reports, play_certified good plan bytes left ending text reports, put)
  where
    by : (e : Ending) → PutsPlay plan bytes left before after e →
        LeavesPlay plan can_end bytes left before after (status_of e)
    by (Done rest) puts = (rest, puts)
    by ReadFault puts = puts
    by (Limit limit) puts = (limit, puts)
    by (Fault fault) puts = puts

took_whole : (ending : Ending) (first left : Option (List ℕ)) (P : List ℕ → Type 0) → Took first left P →
    TookFor (status_of ending) first left P
took_whole (Done rest) first left P took = took
took_whole ReadFault first left P took = took
took_whole (Limit limit) first left P took = took
took_whole (Fault fault) first left P took = took

module _ (plan : Plan) (can_end : Ending → Type 0) (first left before after : Option (List ℕ)) (many : ℕ)
    (calls : List (ℕ × Call)) (ending : Ending)
    (ended : EndsCalls (calling_of plan) play_limit first left many calls ending)
    (text : List ℕ) (is : IsPlayOf plan many calls ending text) where
  -- by the bytes that the source told
  by_told : (bytes : List ℕ) → first ≡ Some bytes → PlayReports plan bytes left ending text
  by_told bytes told =
      PlayReports-ended plan bytes first left left many calls ending text ended is (ended.ended.told bytes told)

  -- and by those that were taken of it
  by_taken : PlayReports plan ended.ended.took.0 (Some []) ending text
  by_taken =
      PlayReports-ended plan ended.ended.took.0 first left (Some []) many calls ending text ended is ended.ended.took.2

  -- the report was put whole
  pub LeavesPlayed-whole : GoodIsCertified → Appends before after text →
      LeavesPlayed plan can_end first left before after (status_of ending)
  LeavesPlayed-whole good put =
      record {
        told = λ bytes told.
            LeavesPlay-whole good plan can_end bytes left before after ending text (by_told bytes told) put;
        took = took_whole ending first left _ (
          ended.ended.took.0,
          ended.ended.took.1,
          LeavesPlay-whole good plan can_end ended.ended.took.0 (Some []) before after ending text by_taken put,
        );
      }

  -- a write failed
  pub LeavesPlayed-front : IsMet can_end ending → AppendsFront before after text →
      LeavesPlayed plan can_end first left before after status.WriteFault
  LeavesPlayed-front met put =
      record {
        told = λ bytes told. (ending, met, (text, by_told bytes told, put));
        took = (ended.ended.took.0, ended.ended.took.1, (ending, met, (text, by_taken, put)));
      }

-- memory ran out, and nothing was put
pub LeavesPlayed-nothing : (plan : Plan) (can_end : Ending → Type 0) (first left before after : Option (List ℕ)) →
    Keeps before after → LeavesPlayed plan can_end first left before after status.Memory
LeavesPlayed-nothing plan can_end first left before after kept =
    record { told = λ bytes told. kept; took = (first, ([], Consumes-nil first, kept)) }

-- calls of a capture can be played
pub playable : (first last : ℕ) (calls : List (ℕ × Call)) → last ≤ play_limit → AreBetween first last calls →
    All IsPlayable calls
playable first last calls few between =
    All-weaker (IsBetween first last) IsPlayable
    (λ (call : ℕ × Call) is. record { packet = omega (arith, is.upto, few); key = is.key; value = is.askable }) calls
    between.each

-- so can the shares of them, on a table that can be opened
pub can_play : (service : Service) (calls : List (ℕ × Call)) → All IsPlayable calls → length calls ≤ play_limit →
    IsSetup (play_setup service calls) → CanPlay (play_setup service calls) (shares_of service calls)
can_play service calls each few opened =
    record {
      opened = opened;
      playable = dealt_hold IsPlayable service.share service.settings.seats calls each;
      few = All-weaker (λ (own : List (ℕ × Call)). length own ≤ length calls)
          (λ (own : List (ℕ × Call)). length own ≤ 2 ^ 32 - 1) (λ own less. omega (arith, less, few))
          (shares_of service calls) (dealt_few service.share service.settings.seats calls);
    }

-- on a table and shares that are these
pub can_play-at : (service : Service) (calls : List (ℕ × Call)) (setup : Setup) (shares : List (List (ℕ × Call))) →
    setup ≡ play_setup service calls → shares ≡ shares_of service calls → All IsPlayable calls →
    length calls ≤ play_limit → IsSetup setup → CanPlay setup shares
can_play-at service calls setup shares is dealt_so each few opened =
    subst (λ (one : Setup). CanPlay one shares) (sym is)
    (subst (CanPlay (play_setup service calls)) (sym dealt_so)
    (can_play service calls each few (subst IsSetup is opened)))

-- what is known whatever the answer
pub if_ok_any : {T E P : Type 0} (result : Result T E) → P → IfOk result (λ (_ : T). P)
if_ok_any (Ok x) p = p
if_ok_any (Err e) p = tt

-- the rows of the seat of a share that is held
abbrev pub share_rows : Settings → Vec (ℕ × Call) Global → SeatRows
share_rows s share = automatic_rows_of s (updates_in_calls share.items)

-- the rows of a seat are few
pub few_ranges : (s : Settings) (updates : ℕ) (row : SeatRows) → row ≡ automatic_rows_of s updates →
    updates < CALL_LIMIT → AreBelow (2 ^ 32) row
few_ranges s updates row is few =
    let some : 0 < 2 = omega arith in
    let shallow : s.depth + 1 ≤ 13 = omega (arith, s.depth_in_range.1) in
    let twice : 2 ^ (s.depth + 1) ≤ 2 ^ 13 = pow-le-pow_right some shallow in
    let places : 2 ^ s.depth ≤ 2 ^ 12 = pow-le-pow_right some s.depth_in_range.1 in
    let leaves : s.seats * (s.depth + 1) ≤ 8 * 13 =
    mul-le-mul s.seats_in_range.1 shallow in
    subst (AreBelow (2 ^ 32)) (sym is) (record {
      op_rows = omega (arith, few);
      bucket_rows = omega (arith, few, twice, leaves);
      bucket_words = omega (arith, twice, leaves);
      directory_rows = omega (arith, few, places);
    })

-- those of one seat more
pub more_ranges :
    (s : Settings) (shares : List (Vec (ℕ × Call) Global)) (place updates : ℕ) (share : Vec (ℕ × Call) Global)
    (row : SeatRows) (was now : List SeatRows) → place < length shares → share ≡ get_or shares place share →
    updates ≡ updates_in_calls share.items → row ≡ automatic_rows_of s updates → now ≡ was ++ row ∷ [] →
    was ≡ map (share_rows s) (take place shares) → now ≡ map (share_rows s) (take (place + 1) shares)
more_ranges s shares place updates share row was now inside is count made pushed were =
    let own : row ≡ share_rows s (get_or shares place share) =
    made ∙ ap (λ (n : ℕ). automatic_rows_of s n) count ∙ ap (share_rows s) is in
    let next : map (share_rows s) (take (place + 1) shares)
    ≡ map (share_rows s) (take place shares) ++ share_rows s (get_or shares place share) ∷ [] =
    ap (map (share_rows s)) (take_more shares place share inside)
    ∙ map-append (share_rows s) (take place shares) (get_or shares place share ∷ []) in
    pushed ∙ (λ i. were i ++ own i ∷ []) ∙ sym next

-- those of all
pub all_ranges :
    (s : Settings) (given : Option SeatRows) (shares : List (Vec (ℕ × Call) Global)) (place : ℕ)
    (rows : List SeatRows) → given ≡ None → length shares ≤ place →
    rows ≡ map (share_rows s) (take place shares) →
    rows ≡ ranges_for s given (map (λ (share : Vec (ℕ × Call) Global). share.items) shares)
all_ranges s given shares place rows none past is =
    is ∙ ap (map (share_rows s)) (take_all place shares past)
    ∙ sym (map-map (λ (share : List (ℕ × Call)). automatic_rows_of s (updates_in_calls share))
    (λ (share : Vec (ℕ × Call) Global). share.items) shares)
    ∙ ap (λ (some : Option SeatRows). ranges_for s some (map (λ (share : Vec (ℕ × Call) Global). share.items) shares))
    (sym none)

-- there are rows for each seat
pub long_ranges : (s : Settings) (given : Option SeatRows) (shares : List (List (ℕ × Call))) →
    length (ranges_for s given shares) ≡ length shares
long_ranges s (Some rows) shares = length-replicate (length shares) rows
long_ranges s None shares =
    length-map shares (λ (share : List (ℕ × Call)). automatic_rows_of s (updates_in_calls share))

-- where nothing fails, the input decides which answer it is, want of memory apart
pub LeavesPlay-exact :
    (plan : Plan) (can_end : Ending → Type 0) (bytes : List ℕ) (left before after : Option (List ℕ)) (answer : Status)
    (packets : List (List ℕ))
    (ending : Result ℕ AnyFault) →
    HasOneInput (number_in plan.framing.link) bytes → Input (number_in plan.framing.link) bytes packets ending →
    (answer ≡ status.ReadFault → ⊥) →
    (answer ≡ status.WriteFault → ⊥) → LeavesPlay plan can_end bytes left before after answer →
    (answer ≡ status_up_to play_limit packets ending) ⊎ (answer ≡ status.Memory)
LeavesPlay-exact plan can_end bytes left before after status.Done packets ending one input no_read no_write leaves =
    let held = leaves.1.1.2.holds.0 in
    inl (few_packets play_limit leaves.1.1.0 (Ok leaves.0) held.1
    ∙ same_status (number_in plan.framing.link) play_limit bytes leaves.1.1.0 packets (Ok leaves.0) ending one held.0
    input)
LeavesPlay-exact plan can_end bytes left before after (status.BadCapture fault) packets ending one input no_read
    no_write leaves =
    let held = leaves.1.2.holds in
    inl (few_packets play_limit leaves.1.0 (Err fault) held.1
    ∙ same_status (number_in plan.framing.link) play_limit bytes leaves.1.0 packets (Err fault) ending one held.0 input)
LeavesPlay-exact plan can_end bytes left before after status.Limit packets ending one input no_read
    no_write leaves =
    let held = leaves.1.1.2.holds.0 in
    inl (many_packets play_limit held.0 held.1 held.3
    ∙ same_status (number_in plan.framing.link) play_limit bytes held.0 packets held.1 ending one held.2 input)
LeavesPlay-exact plan can_end bytes left before after status.ReadFault packets ending one input no_read
    no_write leaves =
    absurd (no_read refl)
LeavesPlay-exact plan can_end bytes left before after status.WriteFault packets ending one input no_read
    no_write leaves =
    absurd (no_write refl)
LeavesPlay-exact plan can_end bytes left before after status.Memory packets ending one input no_read
    no_write leaves =
    inr refl
LeavesPlay-exact plan can_end bytes left before after status.Usage packets ending one input no_read
    no_write leaves =
    absurd leaves
