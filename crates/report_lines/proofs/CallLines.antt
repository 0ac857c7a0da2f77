-- The lines of calls and orders can be read back.
use Rattle.std.proofs.Common.{◌≡◌, inl, inr, ℕ, ◌<◌, ◌≤◌, nat_lt, Bool, true, false, cond, codes, List, [], ◌∷◌, ◌++◌, Option, Some, None, refl, ap, ◌∙◌, arith}
use Rattle.std.specs.Prelude.{decimal}
use Rattle.std.proofs.lemmas.Option.{none-some, cond_some}
use Rattle.std.proofs.lemmas.Bool.{ltb-true, lt-ltb}
use Rattle.plain_map.specs.declared.calls.Call.{Call}
use Rattle.plain_map.specs.declared.calls.Call.TheVariants.{Insert, Remove, Lookup, Tally, Count, Put}
use Rattle.plain_map.specs.declared.calls.Reply.{Reply}
use Rattle.plain_map.specs.declared.calls.Reply.TheVariants.{New, Old, NoRoom, Gone, Found, Absent, Sum}
use Rattle.plain_map.specs.declared.full.Full.{Full}
use Rattle.plain_map.specs.declared.records.Seen.{Seen}
use Rattle.line_fields.specs.Reading.{◌>>=◌, HasNoDigit, text_at}
use Rattle.line_fields.proofs.NumberLaws.{number_again}
use Rattle.line_fields.proofs.BindLemmas.{bind_some, number_then, text_then}
use Rattle.report_text.specs.Report.{short_word}
use Rattle.report_told.specs.Rules.{IsSeen}
use Rattle.plain_map.specs.Calls.{is_update}
use Rattle.report_told.specs.declared.told.Ended.{Ended}
use Rattle.report_told.specs.declared.told.Ended.TheVariants.{Answered, Refused}
use Rattle.report_lines.specs.declared.calls.Asked.{Asked}
use Rattle.report_lines.specs.Fields.{behind_or, most_32, most_64, verb_at}
use Rattle.report_lines.specs.Lines.{asked_at, seen_at, refused_at, answered_at, ended_at}
use Rattle.report_lines.proofs.FieldLaws.{Takes, or_takes}
use Rattle.report_lines.proofs.CallFields.{IsVerb, HasWord, verb_text, verb_field, reply_text}
use Rattle.report_lines.proofs.SeenFields.{seen_text}
use Rattle.report_lines.proofs.PartLaws.{number, replied, kind, counts, Part, known, field, Values, ReadSo, Finds, IsLine, found_as, plain_line, reads_again, reads_takes}

-- What a call's line is about.

abbrev pub asked_text : Asked → List ℕ → List ℕ
asked_text asked rest =
    decimal asked.packet ++ (codes " seat " ++ (decimal asked.seat ++ (verb_text asked.call ++ rest)))

pub record AskedFits (seats : ℕ) (asked : Asked) : Type 0 where
  pub packet : asked.packet ≤ most_32
  pub seat : asked.seat < seats
  pub verb : IsVerb asked.packet asked.call

verb_starts : (call : Call) (rest : List ℕ) → HasNoDigit (verb_text call ++ rest)
verb_starts (Insert key value) rest = refl
verb_starts (Remove key) rest = refl
verb_starts (Lookup key) rest = refl
verb_starts (Tally key amount) rest = refl
verb_starts (Count key value amount) rest = refl
verb_starts (Put key value) rest = refl

pub asked_again : (seats : ℕ) → seats ≤ 8 → (asked : Asked) (rest : List ℕ) → AskedFits seats asked → HasNoDigit rest →
    asked_at seats (asked_text asked rest) ≡ Some (asked, rest)
unfolding asked_at
asked_again seats few asked rest fits end =
    let within : asked.seat ≤ 7 = omega (arith, fits.seat) in
    rw (
      number_again most_32 asked.packet (codes " seat " ++ (decimal asked.seat ++ (verb_text asked.call ++ rest)))
          fits.packet (omega (arith, fits.packet)) refl,
      number_again 7 asked.seat (verb_text asked.call ++ rest) within (omega arith) (verb_starts asked.call rest),
      lt-ltb asked.seat seats fits.seat,
      (verb_field asked.packet).again asked.call rest fits.verb end,
    ) refl

made_asked : ℕ → ℕ → Call → Asked
made_asked packet seat call = record { packet = packet; seat = seat; call = call }

pub asked_takes : (seats : ℕ) (bytes : List ℕ) (asked : Asked) (rest : List ℕ) →
    asked_at seats bytes ≡ Some (asked, rest) → Finds asked_text (AskedFits seats) bytes asked rest
unfolding asked_at made_asked
asked_takes seats bytes asked rest is =
    let s1 = number_then most_32 bytes _ (asked, rest) (omega arith) is in
    let s2 = text_then (codes " seat ") s1.left _ (asked, rest) s1.then in
    let s3 = number_then 7 s2.left _ (asked, rest) (omega arith) s2.then in
    let s4 = bind_some (cond (nat_lt s3.number seats) (verb_at s1.number s3.left) None) _ (asked, rest) s3.then in
    let tested : (nat_lt s3.number seats ≡ true) × (verb_at s1.number s3.left ≡ Some s4.0) =
    if_some (nat_lt s3.number seats) (verb_at s1.number s3.left) s4.0 s4.1 in
    let verb : Takes verb_text (IsVerb s1.number) s3.left s4.0.0 s4.0.1 =
    (verb_field s1.number).takes s3.left s4.0.0 s4.0.1 tested.1 in
    let found : Finds asked_text (AskedFits seats) bytes (made_asked s1.number s3.number s4.0.0) s4.0.1 = record {
      text_is =
          s1.at.text
          ∙ ap (λ (b : List ℕ). decimal s1.number ++ b) (s2.at
          ∙ ap (λ (b : List ℕ). codes " seat " ++ b) (s3.at.text
          ∙ ap (λ (b : List ℕ). decimal s3.number ++ b) verb.text_is));
      fits = record {
        packet = s1.at.within;
        seat = ltb-true s3.number seats tested.0;
        verb = verb.fits;
      };
    } in
    found_as asked_text (AskedFits seats) bytes (made_asked s1.number s3.number s4.0.0) asked s4.0.1 rest found s4.2
  where
    if_some : {A : Type 0} (b : Bool) (o : Option A) (y : A) → cond b o None ≡ Some y → (b ≡ true) × (o ≡ Some y)
    if_some true o y is = (refl, is)
    if_some false o y is = absurd (none-some y is)

-- What its caller had seen.

abbrev seen_parts : (seats : ℕ) → List Part
seen_parts seats = known (codes " after ") ∷ field (counts seats) ∷ known (codes "\n") ∷ []

abbrev pub seen_behind : (seats : ℕ) → Seen → List ℕ → List ℕ
seen_behind seats seen rest = codes " after " ++ (seen_text seats seen ++ (10 ∷ rest))

abbrev pub SeenFits : (seats : ℕ) → Seen → Type 0
SeenFits seats seen = IsSeen seats seen × Unit {0}

pub seen_is_line : (seats : ℕ) → 1 ≤ seats → IsLine (seen_at seats) (seen_behind seats) (SeenFits seats)
unfolding seen_at
seen_is_line seats some =
    plain_line (seen_at seats) (seen_behind seats) (seen_parts seats) (λ seen. (seen, tt)) (λ values. values.0)
    (some, tt) (λ bytes. refl) (λ seen rest. refl) (λ seen. refl) (λ values. refl) (λ seen rest. (refl, tt))

-- How it ended.

abbrev refused_parts : List Part
refused_parts =
    field kind ∷ known (codes " ") ∷ field (number most_64) ∷ known (codes " ") ∷ field (number most_64)
    ∷ known (codes "\n") ∷ []

abbrev full_of : Values refused_parts → Full
full_of values = record { what = values.0; left = values.1.0; need = values.1.1.0 }

abbrev tested_refused : Call → Values refused_parts → List ℕ → Option (Ended × List ℕ)
tested_refused asked values left = cond (is_update asked) (Some (Refused (full_of values), left)) None

abbrev pub full_behind : Full → List ℕ → List ℕ
full_behind full rest =
    short_word full.what ++ (32 ∷ (decimal full.left ++ (32 ∷ (decimal full.need ++ (10 ∷ rest)))))

pub record RefusedFits (asked : Call) (full : Full) : Type 0 where
  pub update : is_update asked ≡ true
  pub left : full.left ≤ most_64
  pub need : full.need ≤ most_64

refused_again : (asked : Call) (full : Full) (rest : List ℕ) → RefusedFits asked full →
    refused_at asked (full_behind full rest) ≡ Some (Refused full, rest)
unfolding refused_at
refused_again asked full rest fits =
    reads_again refused_parts (tested_refused asked) (full.what, (full.left, (full.need, tt))) rest (omega arith)
    (tt, (fits.left, (fits.need, tt))) (refl, (refl, (refl, tt)))
    ∙ ap (λ (b : Bool). cond b (Some (Refused full, rest)) None) fits.update

-- the text of how a call ended, to the end of the line
abbrev pub ended_behind : (seats packet : ℕ) → Ended → List ℕ → List ℕ
ended_behind seats packet (Answered reply steps seen) rest =
    reply_text packet reply ++ (codes " steps " ++ (decimal steps ++ seen_behind seats seen rest))
ended_behind seats packet (Refused full) rest = codes " full " ++ full_behind full rest

abbrev pub EndedFits : (seats : ℕ) → Call → Ended → Type 0
EndedFits seats asked (Answered reply steps seen) = HasWord reply × (steps ≤ most_64) × SeenFits seats seen
EndedFits seats asked (Refused full) = RefusedFits asked full

refused_takes : (seats : ℕ) (asked : Asked) (bytes left_behind : List ℕ) (ended : Ended) (rest : List ℕ) →
    bytes ≡ codes " full " ++ left_behind → refused_at asked.call left_behind ≡ Some (ended, rest) →
    Finds (ended_behind seats asked.packet) (EndedFits seats asked.call) bytes ended rest
unfolding refused_at
refused_takes seats asked bytes left_behind ended rest is read =
    let so : ReadSo refused_parts (tested_refused asked.call) left_behind (ended, rest) =
    reads_takes refused_parts (tested_refused asked.call) left_behind (ended, rest) (omega arith) read in
    let tested : (is_update asked.call ≡ true)
    × (◌≡◌ {A = Ended × List ℕ} (Refused (full_of so.values), so.left) (ended, rest)) =
    cond_some (is_update asked.call) (Refused (full_of so.values), so.left) (ended, rest) so.then in
    let found : Finds (ended_behind seats asked.packet) (EndedFits seats asked.call) bytes
    (Refused (full_of so.values)) so.left = record {
      text_is = is ∙ ap (λ (b : List ℕ). codes " full " ++ b) so.text;
      fits = record { update = tested.0; left = so.fits.1.0; need = so.fits.1.1.0 };
    } in
    found_as (ended_behind seats asked.packet) (EndedFits seats asked.call) bytes (Refused (full_of so.values)) ended
    so.left rest found (ap (λ (x : Ended × List ℕ). Some x) tested.1)

abbrev answered_parts : (packet : ℕ) → List Part
answered_parts packet = field (replied packet) ∷ known (codes " steps ") ∷ field (number most_64) ∷ []

abbrev with_seen : (seats packet : ℕ) → Values (answered_parts packet) → List ℕ → Option (Ended × List ℕ)
with_seen seats packet values left = do
  seen ← seen_at seats left
  Some (Answered values.0 values.1.0 seen.0, seen.1)

answered_again : (seats packet : ℕ) → 1 ≤ seats → packet ≤ most_64 → (reply : Reply) (steps : ℕ) (seen : Seen)
    (rest : List ℕ) → HasWord reply → steps ≤ most_64 → SeenFits seats seen →
    answered_at seats packet (ended_behind seats packet (Answered reply steps seen) rest)
    ≡ Some (Answered reply steps seen, rest)
unfolding answered_at
answered_again seats packet some small reply steps seen rest word within fits =
    reads_again (answered_parts packet) (with_seen seats packet) (reply, (steps, tt)) (seen_behind seats seen rest)
    (small, (omega arith, tt)) (word, (within, tt)) (refl, (refl, tt))
    ∙ ap (λ (o : Option (Seen × List ℕ)). ◌>>=◌ {B = Ended × List ℕ} o (λ s. Some (Answered reply steps s.0, s.1)))
    ((seen_is_line seats some).again seen rest fits)

answered_takes : (seats : ℕ) (asked : Asked) → 1 ≤ seats → asked.packet ≤ most_64 → (bytes : List ℕ) (ended : Ended)
    (rest : List ℕ) → answered_at seats asked.packet bytes ≡ Some (ended, rest) →
    Finds (ended_behind seats asked.packet) (EndedFits seats asked.call) bytes ended rest
unfolding answered_at
answered_takes seats asked some small bytes ended rest is =
    let so : ReadSo (answered_parts asked.packet) (with_seen seats asked.packet) bytes (ended, rest) =
    reads_takes (answered_parts asked.packet) (with_seen seats asked.packet) bytes (ended, rest)
    (small, (omega arith, tt)) is in
    let s1 = bind_some (seen_at seats so.left) (λ s. Some (Answered so.values.0 so.values.1.0 s.0, s.1)) (ended, rest)
    so.then in
    let seen : Finds (seen_behind seats) (SeenFits seats) so.left s1.0.0 s1.0.1 =
    (seen_is_line seats some).takes so.left s1.0.0 s1.0.1 s1.1 in
    let found : Finds (ended_behind seats asked.packet) (EndedFits seats asked.call) bytes
    (Answered so.values.0 so.values.1.0 s1.0.0) s1.0.1 = record {
      text_is =
          so.text
          ∙ ap (λ (b : List ℕ). reply_text asked.packet so.values.0 ++
          (codes " steps " ++ (decimal so.values.1.0 ++ b)))
          seen.text_is;
      fits = (so.fits.0, so.fits.1.0, seen.fits);
    } in
    found_as (ended_behind seats asked.packet) (EndedFits seats asked.call) bytes
    (Answered so.values.0 so.values.1.0 s1.0.0) ended s1.0.1 rest found s1.2

-- no reply begins as a refusal does
not_full : (packet : ℕ) (reply : Reply) (rest : List ℕ) → text_at (codes " full ") (reply_text packet reply ++ rest)
    ≡ None
not_full packet New rest = refl
not_full packet (Old value) rest = refl
not_full packet NoRoom rest = refl
not_full packet (Gone value) rest = refl
not_full packet (Found value) rest = refl
not_full packet Absent rest = refl
not_full packet (Sum total) rest = refl

pub ended_again : (seats : ℕ) (asked : Asked) → 1 ≤ seats → asked.packet ≤ most_64 → (ended : Ended) (rest : List ℕ) →
    EndedFits seats asked.call ended → ended_at seats asked (ended_behind seats asked.packet ended rest) ≡ Some
    (ended, rest)
unfolding ended_at
ended_again seats asked some small (Answered reply steps seen) rest fits =
    ap (λ (o : Option (List ℕ)). behind_or o (refused_at asked.call)
    (answered_at seats asked.packet (ended_behind seats asked.packet (Answered reply steps seen) rest)))
    (not_full asked.packet reply (codes " steps " ++ (decimal steps ++ seen_behind seats seen rest)))
    ∙ answered_again seats asked.packet some small reply steps seen rest fits.0 fits.1 fits.2
ended_again seats asked some small (Refused full) rest fits = refused_again asked.call full rest fits

pub ended_takes : (seats : ℕ) (asked : Asked) → 1 ≤ seats → asked.packet ≤ most_64 → (bytes : List ℕ) (ended : Ended)
    (rest : List ℕ) → ended_at seats asked bytes ≡ Some (ended, rest) →
    Finds (ended_behind seats asked.packet) (EndedFits seats asked.call) bytes ended rest
unfolding ended_at
ended_takes seats asked some small bytes ended rest is =
    elim (or_takes (codes " full ") bytes (refused_at asked.call) (answered_at seats asked.packet bytes) (ended, rest)
    is) [
      | inl (left, text, read) ↦ refused_takes seats asked bytes left ended rest text read
      | inr read ↦ answered_takes seats asked some small bytes ended rest read
    ]
