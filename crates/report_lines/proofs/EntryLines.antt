-- The whole lines of calls and orders can be read back.
use Rattle.std.proofs.Common.{◌≡◌, ℕ, ◌≤◌, nat_lt, true, codes, List, [], ◌∷◌, ◌++◌, length, Option, Some, refl, sym, ap, ◌∙◌, append_assoc, arith}
use Rattle.std.specs.Prelude.{decimal, map}
use Rattle.std.proofs.lemmas.Option.{cond_some}
use Rattle.std.proofs.lemmas.Bool.{ltb-true, lt-ltb}
use Rattle.plain_map.specs.declared.calls.Call.{Call}
use Rattle.plain_map.specs.declared.calls.Call.TheVariants.{Insert, Remove, Lookup, Tally, Count, Put}
use Rattle.plain_map.specs.declared.calls.Reply.{Reply}
use Rattle.plain_map.specs.declared.calls.Reply.TheVariants.{New, Old, NoRoom, Gone, Found, Absent, Sum}
use Rattle.plain_map.specs.declared.records.Seen.{Seen}
use Rattle.line_fields.specs.Reading.{HasNoDigit}
use Rattle.line_fields.proofs.BindLemmas.{bind_some, text_then}
use Rattle.key_texts.specs.FlowText.{flow_text}
use Rattle.report_text.specs.Report.{call_words, steps_words, after_words, full_words}
use Rattle.report_told.specs.Told.{call_line, waiting_line, packets_line, told_reply_words, ended_words}
use Rattle.report_told.specs.declared.told.Ended.{Ended}
use Rattle.report_told.specs.declared.told.Ended.TheVariants.{Answered, Refused}
use Rattle.report_told.specs.declared.told.CallLine.{CallLine}
use Rattle.report_told.specs.declared.told.PendingLine.{PendingLine}
use Rattle.report_lines.specs.declared.calls.Asked.{Asked}
use Rattle.report_lines.specs.Fields.{most_64, packets_behind}
use Rattle.report_lines.specs.Lines.{asked_at, seen_at, ended_at, call_at, pending_at, order_at}
use Rattle.report_lines.proofs.Behind.{behind, line_behind}
use Rattle.report_lines.proofs.SeenFields.{AreSmall, ArePacketsAt, spaces, packets_again, packets_takes}
use Rattle.report_lines.proofs.PartLaws.{Finds, IsLine, found_as}
use Rattle.report_lines.proofs.CallLines.{AskedFits, EndedFits, SeenFits, asked_text, asked_again, asked_takes, seen_behind, seen_is_line, ended_behind, ended_again, ended_takes}

abbrev pub asked_of : (packet seat : ℕ) → Call → Asked
asked_of packet seat asked = record { packet = packet; seat = seat; call = asked }

-- the words of a call, and what is behind them
call_behind : (packet seat : ℕ) (asked : Call) (words : List (List ℕ)) (rest : List ℕ) →
    behind (call_words packet seat asked ++ words) rest
    ≡ 32 ∷ asked_text (asked_of packet seat asked) (behind words rest)
unfolding call_words
call_behind packet seat (Insert key value) words rest = refl
call_behind packet seat (Remove key) words rest = refl
call_behind packet seat (Lookup key) words rest = refl
call_behind packet seat (Tally key amount) words rest =
    ap (λ (b : List ℕ). 32 ∷ (decimal packet ++ (codes " seat " ++ (decimal seat ++ (codes " tally " ++ b)))))
    (sym (append_assoc (flow_text key) (codes " by " ++ decimal amount) (behind words rest)))
call_behind packet seat (Count key value amount) words rest =
    ap (λ (b : List ℕ). 32 ∷ (decimal packet ++ (codes " seat " ++ (decimal seat ++ (codes " count " ++ b)))))
    (sym (append_assoc (flow_text key) (codes " by " ++ decimal amount) (behind words rest)))
call_behind packet seat (Put key value) words rest = refl

reply_behind : (packet : ℕ) (asked : Call) (told : Reply) (seats steps : ℕ) (seen : Seen) (rest : List ℕ) →
    behind (told_reply_words packet asked told ++ (steps_words steps ++ after_words seats seen)) rest
    ≡ ended_behind seats packet (Answered told steps seen) rest
unfolding after_words
reply_behind packet asked New seats steps seen rest = refl
reply_behind packet asked (Old value) seats steps seen rest = refl
reply_behind packet asked NoRoom seats steps seen rest = refl
reply_behind packet asked (Gone value) seats steps seen rest = refl
reply_behind packet asked (Found value) seats steps seen rest = refl
reply_behind packet asked Absent seats steps seen rest = refl
reply_behind packet asked (Sum total) seats steps seen rest = refl

words_behind : (seats packet : ℕ) (asked : Call) (ended : Ended) (rest : List ℕ) →
    behind (ended_words seats packet asked ended) rest ≡ ended_behind seats packet ended rest
unfolding full_words
words_behind seats packet asked (Answered told steps seen) rest =
    reply_behind packet asked told seats steps seen rest
words_behind seats packet asked (Refused full) rest = refl

ended_starts : (seats packet : ℕ) (ended : Ended) (rest : List ℕ) → HasNoDigit (ended_behind seats packet ended rest)
ended_starts seats packet (Answered New steps seen) rest = refl
ended_starts seats packet (Answered (Old value) steps seen) rest = refl
ended_starts seats packet (Answered NoRoom steps seen) rest = refl
ended_starts seats packet (Answered (Gone value) steps seen) rest = refl
ended_starts seats packet (Answered (Found value) steps seen) rest = refl
ended_starts seats packet (Answered Absent steps seen) rest = refl
ended_starts seats packet (Answered (Sum total) steps seen) rest = refl
ended_starts seats packet (Refused full) rest = refl

-- The line of a call that ended.

abbrev pub call_text : (seats : ℕ) → CallLine → List ℕ → List ℕ
call_text seats told rest = call_line seats told ++ rest

pub record CallFits (seats : ℕ) (told : CallLine) : Type 0 where
  pub asked : AskedFits seats (asked_of told.packet told.seat told.call)
  pub ended : EndedFits seats told.call told.ended

pub call_spelled : (seats : ℕ) (told : CallLine) (rest : List ℕ) →
    call_text seats told rest
    ≡ codes "call " ++ asked_text (asked_of told.packet told.seat told.call)
    (ended_behind seats told.packet told.ended rest)
unfolding call_line
call_spelled seats told rest =
    line_behind (codes "call")
    (call_words told.packet told.seat told.call ++ ended_words seats told.packet told.call told.ended) rest
    ∙ ap (λ (b : List ℕ). codes "call" ++ b)
    (call_behind told.packet told.seat told.call (ended_words seats told.packet told.call told.ended) rest
    ∙ ap (λ (b : List ℕ). 32 ∷ asked_text (asked_of told.packet told.seat told.call) b)
    (words_behind seats told.packet told.call told.ended rest))

call_again : (seats : ℕ) → 1 ≤ seats → seats ≤ 8 → (told : CallLine) (rest : List ℕ) → CallFits seats told →
    call_at seats (call_text seats told rest) ≡ Some (told, rest)
unfolding call_at
call_again seats some few told rest fits =
    let asked : Asked = asked_of told.packet told.seat told.call in
    let small : told.packet ≤ most_64 = omega (arith, fits.asked.packet) in
    ap (call_at seats) (call_spelled seats told rest)
    ∙ rw (
      asked_again seats few (asked_of told.packet told.seat told.call) (ended_behind seats told.packet told.ended rest)
          fits.asked (ended_starts seats told.packet told.ended rest),
      ended_again seats (asked_of told.packet told.seat told.call) some small told.ended rest fits.ended,
    ) refl

call_takes : (seats : ℕ) → 1 ≤ seats → seats ≤ 8 → (bytes : List ℕ) (told : CallLine) (rest : List ℕ) →
    call_at seats bytes ≡ Some (told, rest) → Finds (call_text seats) (CallFits seats) bytes told rest
unfolding call_at
call_takes seats some few bytes told rest is =
    let s1 = text_then (codes "call ") bytes _ (told, rest) is in
    let s2 = bind_some (asked_at seats s1.left) _ (told, rest) s1.then in
    let asked : Finds asked_text (AskedFits seats) s1.left s2.0.0 s2.0.1 = asked_takes seats s1.left s2.0.0 s2.0.1
    s2.1 in
    let s3 = bind_some (ended_at seats s2.0.0 s2.0.1) _ (told, rest) s2.2 in
    let small : s2.0.0.packet ≤ most_64 = omega (arith, asked.fits.packet) in
    let ended : Finds (ended_behind seats s2.0.0.packet) (EndedFits seats s2.0.0.call) s2.0.1 s3.0.0 s3.0.1 =
    ended_takes seats s2.0.0 some small s2.0.1 s3.0.0 s3.0.1 s3.1 in
    let made : CallLine = record { packet = s2.0.0.packet; seat = s2.0.0.seat; call = s2.0.0.call; ended = s3.0.0 } in
    let found : Finds (call_text seats) (CallFits seats) bytes made s3.0.1 = record {
      text_is =
          s1.at
          ∙ ap (λ (b : List ℕ). codes "call " ++ b)
          (asked.text_is ∙ ap (λ (b : List ℕ). asked_text s2.0.0 b) ended.text_is)
          ∙ sym (call_spelled seats made s3.0.1);
      fits = record { asked = asked.fits; ended = ended.fits };
    } in
    found_as (call_text seats) (CallFits seats) bytes made told s3.0.1 rest found s3.2

pub call_is_line : (seats : ℕ) → 1 ≤ seats → seats ≤ 8 → IsLine (call_at seats) (call_text seats) (CallFits seats)
call_is_line seats some few = record { again = call_again seats some few; takes = call_takes seats some few }

-- The line of a pending call.

abbrev pub pending_text : (seats : ℕ) → PendingLine → List ℕ → List ℕ
pending_text seats told rest = waiting_line seats told ++ rest

pub record PendingFits (seats : ℕ) (told : PendingLine) : Type 0 where
  pub asked : AskedFits seats (asked_of told.packet told.seat told.call)
  pub seen : SeenFits seats told.seen

after_behind : (seats : ℕ) (seen : Seen) (rest : List ℕ) → behind (after_words seats seen) rest ≡ seen_behind seats
    seen rest
unfolding after_words
after_behind seats seen rest = refl

pub pending_spelled : (seats : ℕ) (told : PendingLine) (rest : List ℕ) →
    pending_text seats told rest
    ≡ codes "pending " ++ asked_text (asked_of told.packet told.seat told.call) (seen_behind seats told.seen rest)
unfolding waiting_line
pending_spelled seats told rest =
    line_behind (codes "pending") (call_words told.packet told.seat told.call ++ after_words seats told.seen) rest
    ∙ ap (λ (b : List ℕ). codes "pending" ++ b)
    (call_behind told.packet told.seat told.call (after_words seats told.seen) rest
    ∙ ap (λ (b : List ℕ). 32 ∷ asked_text (asked_of told.packet told.seat told.call) b)
    (after_behind seats told.seen rest))

pending_again : (seats : ℕ) → 1 ≤ seats → seats ≤ 8 → (told : PendingLine) (rest : List ℕ) → PendingFits seats told →
    pending_at seats (pending_text seats told rest) ≡ Some (told, rest)
unfolding pending_at
pending_again seats some few told rest fits =
    ap (pending_at seats) (pending_spelled seats told rest)
    ∙ rw (
      asked_again seats few (asked_of told.packet told.seat told.call) (seen_behind seats told.seen rest)
          fits.asked refl,
      (seen_is_line seats some).again told.seen rest fits.seen,
    ) refl

pending_takes : (seats : ℕ) → 1 ≤ seats → seats ≤ 8 → (bytes : List ℕ) (told : PendingLine) (rest : List ℕ) →
    pending_at seats bytes ≡ Some (told, rest) → Finds (pending_text seats) (PendingFits seats) bytes told rest
unfolding pending_at
pending_takes seats some few bytes told rest is =
    let s1 = text_then (codes "pending ") bytes _ (told, rest) is in
    let s2 = bind_some (asked_at seats s1.left) _ (told, rest) s1.then in
    let asked : Finds asked_text (AskedFits seats) s1.left s2.0.0 s2.0.1 = asked_takes seats s1.left s2.0.0 s2.0.1
    s2.1 in
    let s3 = bind_some (seen_at seats s2.0.1) _ (told, rest) s2.2 in
    let seen : Finds (seen_behind seats) (SeenFits seats) s2.0.1 s3.0.0 s3.0.1 =
    (seen_is_line seats some).takes s2.0.1 s3.0.0 s3.0.1 s3.1 in
    let made : PendingLine = record { packet = s2.0.0.packet; seat = s2.0.0.seat; call = s2.0.0.call; seen = s3.0.0 } in
    let found : Finds (pending_text seats) (PendingFits seats) bytes made s3.0.1 = record {
      text_is =
          s1.at
          ∙ ap (λ (b : List ℕ). codes "pending " ++ b)
          (asked.text_is ∙ ap (λ (b : List ℕ). asked_text s2.0.0 b) seen.text_is)
          ∙ sym (pending_spelled seats made s3.0.1);
      fits = record { asked = asked.fits; seen = seen.fits };
    } in
    found_as (pending_text seats) (PendingFits seats) bytes made told s3.0.1 rest found s3.2

pub pending_is_line : (seats : ℕ) → 1 ≤ seats → seats ≤ 8 →
    IsLine (pending_at seats) (pending_text seats) (PendingFits seats)
pending_is_line seats some few = record { again = pending_again seats some few; takes = pending_takes seats some few }

-- The line of an order.

abbrev pub order_text : List ℕ → List ℕ → List ℕ
order_text packets rest = packets_line packets ++ rest

pub record OrderFits (packets : List ℕ) : Type 0 where
  pub some : 1 ≤ length packets
  pub few : length packets ≤ 16
  pub small : AreSmall packets

packets_spaced : (packets rest : List ℕ) → behind (map decimal packets) rest ≡ spaces packets ++ (10 ∷ rest)
packets_spaced [] rest = refl
packets_spaced (packet ∷ packets) rest =
    ap (λ (b : List ℕ). 32 ∷ b)
    (ap (λ (b : List ℕ). decimal packet ++ b) (packets_spaced packets rest)
    ∙ sym (append_assoc (decimal packet) (spaces packets) (10 ∷ rest)))

pub order_spelled : (packets rest : List ℕ) → order_text packets rest ≡ codes "order" ++ (spaces packets ++ (10 ∷ rest))
unfolding packets_line
order_spelled packets rest =
    line_behind (codes "order") (map decimal packets) rest
    ∙ ap (λ (b : List ℕ). codes "order" ++ b) (packets_spaced packets rest)

order_again : (packets rest : List ℕ) → OrderFits packets → order_at (order_text packets rest) ≡ Some (packets, rest)
unfolding order_at
order_again packets rest fits =
    ap order_at (order_spelled packets rest)
    ∙ rw (packets_again 16 packets [] rest fits.few fits.small, lt-ltb 0 (length packets) fits.some) refl

order_takes : (bytes packets rest : List ℕ) → order_at bytes ≡ Some (packets, rest) →
    Finds order_text OrderFits bytes packets rest
unfolding order_at
order_takes bytes packets rest is =
    let s1 = text_then (codes "order") bytes _ (packets, rest) is in
    let s2 = bind_some (packets_behind 16 [] s1.left) _ (packets, rest) s1.then in
    let at : ArePacketsAt 16 [] s1.left s2.0.0 s2.0.1 = packets_takes 16 [] s1.left s2.0.0 s2.0.1 s2.1 in
    let s3 = text_then (codes "\n") s2.0.1 _ (packets, rest) s2.2 in
    let tested : (nat_lt 0 (length s2.0.0) ≡ true) × (◌≡◌ {A = List ℕ × List ℕ} (s2.0.0, s3.left) (packets, rest)) =
    cond_some (nat_lt 0 (length s2.0.0)) (s2.0.0, s3.left) (packets, rest) s3.then in
    let found : Finds order_text OrderFits bytes at.packets s3.left = record {
      text_is =
          s1.at
          ∙ ap (λ (b : List ℕ). codes "order" ++ b) (at.text ∙ ap (λ (b : List ℕ). spaces at.packets ++ b) s3.at)
          ∙ sym (order_spelled at.packets s3.left);
      fits = record {
        some = omega (arith, ltb-true 0 (length s2.0.0) tested.0, ap length at.all_is);
        few = at.few;
        small = at.small;
      };
    } in
    found_as order_text OrderFits bytes at.packets packets s3.left rest found
    (ap (λ (p : List ℕ). pair_up p s3.left) (sym at.all_is) ∙ ap (λ (x : List ℕ × List ℕ). Some x) tested.1)
  where
    pair_up : List ℕ → List ℕ → Option (List ℕ × List ℕ)
    pair_up p r = Some (p, r)

pub order_is_line : IsLine order_at order_text OrderFits
order_is_line = record { again = order_again; takes = order_takes }
