-- Which line may stand at the front, by its first byte.
use Rattle.std.proofs.Common.{◌≡◌, ℕ, List, [], ◌∷◌, ◌++◌, length, Option, Some, None, refl, sym, ap, ◌∙◌, subst, arith}
use Rattle.std.specs.Prelude.{slice_get}
use Rattle.std.proofs.lemmas.Option.{none-some, same_Some, some_pair_parts}
use Rattle.report_text.specs.declared.parts.Head.{Head}
use Rattle.report_told.specs.Told.{Entry, call, pending, order, entry_line}
use Rattle.report_told.specs.Rules.{IsHead, AreEntries}
use Rattle.report_told.specs.declared.told.CallLine.{CallLine}
use Rattle.report_told.specs.declared.told.PendingLine.{PendingLine}
use Rattle.report_lines.specs.Lines.{call_at, pending_at, order_at}
use Rattle.report_lines.proofs.EntryLines.{call_is_line, pending_is_line, order_is_line, call_spelled, pending_spelled, order_spelled}
use Rattle.report_lines.proofs.Machine.{Line, entry, session, leaves, head, input, count, steps, Body, State, body, Next, text_of}
use Rattle.report_lines.proofs.MachineLaws.{last_entry_fits, session_starts, leaves_starts}
use Rattle.report_reading.specs.declared.entries.Entries.{Entries}
use Rattle.report_reading.specs.Entries.{Holds, TakesOrder}
use Rattle.report_reading.specs.Steps.{NoneFollows, NoEntry, with_entries}

-- the first byte of an entry's line
abbrev pub first_byte : Entry → ℕ
first_byte (call told) = 99
first_byte (pending told) = 112
first_byte (order packets) = 111

pub entry_starts : (seats : ℕ) (e : Entry) (rest : List ℕ) →
    (more : List ℕ) × (entry_line seats e ++ rest ≡ first_byte e ∷ more)
entry_starts seats (call told) rest = (_, call_spelled seats told rest)
entry_starts seats (pending told) rest = (_, pending_spelled seats told rest)
entry_starts seats (order packets) rest = (_, order_spelled packets rest)

-- texts that are one begin with one byte
pub same_first : (a b : ℕ) (xs ys : List ℕ) → a ∷ xs ≡ b ∷ ys → a ≡ b
same_first a b xs ys same = cc

byte_of_entry : (seats : ℕ) (bytes : List ℕ) (b : ℕ) (more : List ℕ) (e : Entry) (rest : List ℕ) → bytes ≡ b ∷ more →
    bytes ≡ entry_line seats e ++ rest → b ≡ first_byte e
byte_of_entry seats bytes b more e rest is cut =
    let starts = entry_starts seats e rest in
    same_first b (first_byte e) more starts.0 (sym is ∙ cut ∙ starts.1)

-- what follows a body and begins with a byte that begins no session and no leaves is an entry
only_entries : (b : Body) (bytes : List ℕ) (byte : ℕ) (more : List ℕ) (l : Line) (m : State) (rest : List ℕ) →
    bytes ≡ byte ∷ more → (byte ≡ 115 → ⊥) → (byte ≡ 108 → ⊥) → Next (body b) l m → bytes ≡ text_of (body b) l ++ rest →
    (e : Entry) × (l ≡ entry e)
only_entries b bytes byte more (entry e) m rest is s l next cut = (e, refl)
only_entries b bytes byte more (session p) m rest is no_s no_l next cut =
    let starts = session_starts p rest in
    absurd (no_s (same_first byte 115 more starts.0 (sym is ∙ cut ∙ starts.1)))
only_entries b bytes byte more (leaves l) m rest is no_s no_l next cut =
    let starts = leaves_starts l rest in
    absurd (no_l (same_first byte 108 more starts.0 (sym is ∙ cut ∙ starts.1)))
only_entries b bytes byte more (head h) m rest is no_s no_l next cut = absurd next
only_entries b bytes byte more (input e) m rest is no_s no_l next cut = absurd next
only_entries b bytes byte more (count c) m rest is no_s no_l next cut = absurd next
only_entries b bytes byte more (steps s) m rest is no_s no_l next cut = absurd next

-- Where no entry follows that begins with the byte, nothing does.
stuck_entry : (b : Body) (bytes : List ℕ) (byte : ℕ) (more : List ℕ) → bytes ≡ byte ∷ more → (byte ≡ 115 → ⊥) →
    (byte ≡ 108 → ⊥) → ((e : Entry) (m : State) (rest : List ℕ) → byte ≡ first_byte e → Next (body b) (entry e) m →
    bytes ≡ entry_line b.head.seats e ++ rest → ⊥) → NoneFollows (body b) bytes
stuck_entry b bytes byte more is no_s no_l none l m rest next cut =
    go (only_entries b bytes byte more l m rest is no_s no_l next cut)
  where
    go : (e : Entry) × (l ≡ entry e) → ⊥
    go (e, same) =
        let next' : Next (body b) (entry e) m = subst (λ (x : Line). Next (body b) x m) same next in
        let cut' : bytes ≡ entry_line b.head.seats e ++ rest =
        subst (λ (x : Line). bytes ≡ text_of (body b) x ++ rest) same cut in
        none e m rest (byte_of_entry b.head.seats bytes byte more e rest is cut') next' cut'

-- a call's line that no report goes on with
pub bad_call : (h : Head) (es : List Entry) (bytes more : List ℕ) → IsHead h → bytes ≡ 99 ∷ more →
    ((told : CallLine) (rest : List ℕ) → call_at h.seats bytes ≡ Some (told, rest) →
    AreEntries h (es ++ call told ∷ []) → ⊥) → NoneFollows (body (with_entries h es)) bytes
bad_call h es bytes more in_range is bad =
    stuck_entry (with_entries h es) bytes 99 more is (λ no. absurd (omega arith)) (λ no. absurd (omega arith)) none
  where
    none : (e : Entry) (m : State) (rest : List ℕ) → 99 ≡ first_byte e → Next (body (with_entries h es)) (entry e) m →
        bytes ≡ entry_line h.seats e ++ rest → ⊥
    none (call told) m rest byte next cut =
        bad told rest
        (ap (call_at h.seats) cut
        ∙ (call_is_line h.seats in_range.settings.seats_in_range.0 in_range.settings.seats_in_range.1).again told rest
        (last_entry_fits h in_range es (call told) next.2)) next.2
    none (pending told) m rest byte next cut = omega (arith, byte)
    none (order packets) m rest byte next cut = omega (arith, byte)

pub bad_pending : (h : Head) (es : List Entry) (bytes more : List ℕ) → IsHead h → bytes ≡ 112 ∷ more →
    ((told : PendingLine) (rest : List ℕ) → pending_at h.seats bytes ≡ Some (told, rest) →
    AreEntries h (es ++ pending told ∷ []) → ⊥) → NoneFollows (body (with_entries h es)) bytes
bad_pending h es bytes more in_range is bad =
    stuck_entry (with_entries h es) bytes 112 more is (λ no. absurd (omega arith)) (λ no. absurd (omega arith)) none
  where
    none : (e : Entry) (m : State) (rest : List ℕ) → 112 ≡ first_byte e → Next (body (with_entries h es)) (entry e) m →
        bytes ≡ entry_line h.seats e ++ rest → ⊥
    none (call told) m rest byte next cut = omega (arith, byte)
    none (pending told) m rest byte next cut =
        bad told rest
        (ap (pending_at h.seats) cut
        ∙ (pending_is_line h.seats in_range.settings.seats_in_range.0 in_range.settings.seats_in_range.1).again told
        rest
        (last_entry_fits h in_range es (pending told) next.2)) next.2
    none (order packets) m rest byte next cut = omega (arith, byte)

pub bad_order : (h : Head) (es : List Entry) (bytes more : List ℕ) → IsHead h → bytes ≡ 111 ∷ more →
    order_at bytes ≡ None → NoneFollows (body (with_entries h es)) bytes
bad_order h es bytes more in_range is bad =
    stuck_entry (with_entries h es) bytes 111 more is (λ no. absurd (omega arith)) (λ no. absurd (omega arith)) none
  where
    none : (e : Entry) (m : State) (rest : List ℕ) → 111 ≡ first_byte e → Next (body (with_entries h es)) (entry e) m →
        bytes ≡ entry_line h.seats e ++ rest → ⊥
    none (call told) m rest byte next cut = omega (arith, byte)
    none (pending told) m rest byte next cut = omega (arith, byte)
    none (order packets) m rest byte next cut =
        none-some (packets, rest)
        (sym bad ∙ ap order_at cut
        ∙ order_is_line.again packets rest (last_entry_fits h in_range es (order packets) next.2))

-- no entry begins with another byte
pub no_entry_first : (b : Body) (bytes : List ℕ) (byte : ℕ) (more : List ℕ) → bytes ≡ byte ∷ more →
    (byte ≡ 99 → ⊥) → (byte ≡ 112 → ⊥) → (byte ≡ 111 → ⊥) → NoEntry b bytes
no_entry_first b bytes byte more is no_c no_p no_o e m rest next cut =
    go e (byte_of_entry b.head.seats bytes byte more e rest is cut)
  where
    go : (e : Entry) → byte ≡ first_byte e → ⊥
    go (call told) byte = no_c byte
    go (pending told) byte = no_p byte
    go (order packets) byte = no_o byte

-- and none where nothing is left
pub no_entry_nothing : (b : Body) (bytes : List ℕ) → bytes ≡ [] → NoEntry b bytes
no_entry_nothing b bytes is e m rest next cut =
    let starts = entry_starts b.head.seats e rest in
    omega (arith, ap length (sym is ∙ cut ∙ starts.1))

-- What was read of a call's line, and is no entry.
abbrev pub NotCall : Head → List Entry → Option (CallLine × List ℕ) → Type 0
NotCall h es (Some read) = AreEntries h (es ++ call read.0 ∷ []) → ⊥
NotCall h es None = Unit {0}

pub bad_call_at : (h : Head) (es : List Entry) (bytes more : List ℕ) → IsHead h → bytes ≡ 99 ∷ more →
    (read : Option (CallLine × List ℕ)) → call_at h.seats bytes ≡ read → NotCall h es read →
    NoneFollows (body (with_entries h es)) bytes
bad_call_at h es bytes more in_range is (Some (told, rest)) read never =
    bad_call h es bytes more in_range is (λ other left again are.
    (let same : (other ≡ told) × (left ≡ rest) = some_pair_parts other told left rest (sym again ∙ read) in
    never (subst (λ (t : CallLine). AreEntries h (es ++ call t ∷ [])) same.0 are)))
bad_call_at h es bytes more in_range is None read never =
    bad_call h es bytes more in_range is (λ other left again are. none-some (other, left) (sym read ∙ again))

abbrev pub NotPending : Head → List Entry → Option (PendingLine × List ℕ) → Type 0
NotPending h es (Some read) = AreEntries h (es ++ pending read.0 ∷ []) → ⊥
NotPending h es None = Unit {0}

pub bad_pending_at : (h : Head) (es : List Entry) (bytes more : List ℕ) → IsHead h → bytes ≡ 112 ∷ more →
    (read : Option (PendingLine × List ℕ)) → pending_at h.seats bytes ≡ read → NotPending h es read →
    NoneFollows (body (with_entries h es)) bytes
bad_pending_at h es bytes more in_range is (Some (told, rest)) read never =
    bad_pending h es bytes more in_range is (λ other left again are.
    (let same : (other ≡ told) × (left ≡ rest) = some_pair_parts other told left rest (sym again ∙ read) in
    never (subst (λ (t : PendingLine). AreEntries h (es ++ pending t ∷ [])) same.0 are)))
bad_pending_at h es bytes more in_range is None read never =
    bad_pending h es bytes more in_range is (λ other left again are. none-some (other, left) (sym read ∙ again))

-- the text of what was read
pub call_spelled_at : (h : Head) (bytes : List ℕ) (told : CallLine) (rest : List ℕ) → IsHead h →
    call_at h.seats bytes ≡ Some (told, rest) → bytes ≡ entry_line h.seats (call told) ++ rest
call_spelled_at h bytes told rest is read =
    ((call_is_line h.seats is.settings.seats_in_range.0 is.settings.seats_in_range.1).takes bytes told rest
    read).text_is

pub pending_spelled_at : (h : Head) (bytes : List ℕ) (told : PendingLine) (rest : List ℕ) → IsHead h →
    pending_at h.seats bytes ≡ Some (told, rest) → bytes ≡ entry_line h.seats (pending told) ++ rest
pending_spelled_at h bytes told rest is read =
    ((pending_is_line h.seats is.settings.seats_in_range.0 is.settings.seats_in_range.1).takes bytes told rest
    read).text_is

pub order_stepped : (kept : Entries) (h : Head) (es : List Entry) (bytes : List ℕ) (read : Option (List ℕ × List ℕ))
    (rest : List ℕ) → order_at bytes ≡ read → TakesOrder read kept h es (Some rest) →
    (e : Entry) × (bytes ≡ entry_line h.seats e ++ rest) × Holds kept h (es ++ e ∷ [])
order_stepped kept h es bytes (Some (packets, left)) rest is takes =
    let same : left ≡ rest = sym (same_Some rest left takes.0) in (
      order packets,
      (order_is_line.takes bytes packets left is).text_is ∙ ap
          (λ (r : List ℕ). entry_line h.seats (order packets) ++ r) same,
      takes.1,
    )
order_stepped kept h es bytes None rest is takes = absurd (none-some rest (sym takes))

pub order_stuck : (kept : Entries) (h : Head) (es : List Entry) (bytes : List ℕ) (read : Option (List ℕ × List ℕ)) →
    order_at bytes ≡ read → TakesOrder read kept h es None → order_at bytes ≡ None
order_stuck kept h es bytes (Some line) is takes = absurd (none-some line.1 takes.0)
order_stuck kept h es bytes None is takes = is

-- the first byte, by the clause of `first`
pub nothing_first : (bytes : List ℕ) → None ≡ slice_get bytes 0 → bytes ≡ []
nothing_first [] is = refl
nothing_first (b ∷ bytes) is = absurd (none-some b is)

pub some_first : (bytes : List ℕ) (byte : ℕ) → Some byte ≡ slice_get bytes 0 → (more : List ℕ) × (bytes ≡ byte ∷ more)
some_first [] byte is = absurd (none-some byte (sym is))
some_first (b ∷ bytes) byte is = (bytes, ap (λ (x : ℕ). x ∷ bytes) (sym (same_Some byte b is)))
