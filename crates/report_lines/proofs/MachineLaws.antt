-- The lines of a report are a machine whose lines are read back.
use Rattle.std.proofs.Common.{◌≡◌, ℕ, suc, ◌+◌, ◌*◌, ◌^◌, ◌<◌, ◌≤◌, ◌==◌, false, codes, List, [], ◌∷◌, ◌++◌, Option, Some, None, refl, sym, ap, ◌∙◌, arith}
use Rattle.std.specs.Prelude.{All}
use Rattle.std.proofs.lemmas.List.Elements.{recursion_from_All}
use Rattle.std.proofs.lemmas.Nat.{mul-le}
use Rattle.step_counts.specs.declared.settings.Settings.{Settings}
use Rattle.step_counts.specs.StepCounts.{need_of}
use Rattle.plain_map.specs.declared.keys.Pair.{Pair}
use Rattle.plain_map.specs.declared.calls.Call.{Call}
use Rattle.plain_map.specs.declared.calls.Reply.{Reply}
use Rattle.plain_map.specs.declared.calls.Reply.TheVariants.{New, Old, NoRoom, Gone, Found, Absent, Sum}
use Rattle.plain_map.specs.declared.full.FullKind.{FullKind}
use Rattle.plain_map.specs.declared.full.FullKind.TheVariants.{OpRows, BucketRows, BucketWords, DirRows}
use Rattle.plain_map.specs.declared.calls.Call.TheVariants.{Insert, Remove, Lookup, Tally, Count, Put}
use Rattle.key_texts.specs.Inserts.{IsOfRule}
use Rattle.key_texts.specs.declared.rules.CallRule.{CallRule}
use Rattle.key_texts.specs.declared.rules.CallRule.TheVariants.{Sessions, Flows}
use Rattle.line_fields.proofs.Scan.{IsCut, IsMachine}
use Rattle.flow_reading.specs.Flows.{IsFlow}
use Rattle.report_text.specs.Lines.{line}
use Rattle.report_text.specs.Report.{head_line, session_line, input_line}
use Rattle.report_text.specs.declared.parts.Head.{Head}
use Rattle.report_told.specs.Told.{Entry, call, pending, order, call_line, waiting_line, packets_line, entry_line}
use Rattle.report_told.specs.Rules.{IsHead, IsAsked, IsEnd, IsEntry, IsReply, AreEntries, AreSessions, IsSettingsOf, amount_in, amount_limit, part_of}
use Rattle.report_told.specs.declared.told.Ended.{Ended}
use Rattle.report_told.specs.declared.told.Ended.TheVariants.{Answered, Refused}
use Rattle.report_lines.specs.declared.tails.Leaves.{Leaves}
use Rattle.report_lines.specs.Lines.{head_at, call_at, pending_at, order_at, session_at, leaves_at, input_at, count_at, steps_at}
use Rattle.report_lines.proofs.CallFields.{HasWord, IsTold, most_amount}
use Rattle.report_lines.proofs.TailLines.{SessionFits, LeavesFit, session_is_line, leaves_is_line, leaves_words, count_is_line, count_words, steps_is_line, step_words, input_is_line}
use Rattle.report_lines.proofs.HeadLines.{head_is_line}
use Rattle.report_lines.proofs.CallLines.{AskedFits, EndedFits, asked_text, seen_behind}
use Rattle.report_lines.proofs.EntryLines.{CallFits, PendingFits, OrderFits, asked_of, call_is_line, pending_is_line, order_is_line, pending_spelled, order_spelled}
use Rattle.report_lines.proofs.SeenFields.{spaces}
use Rattle.report_lines.proofs.Behind.{line_behind}
use Rattle.report_lines.proofs.LineFeeds.{head_cut, session_cut, leaves_cut, count_cut, steps_cut, input_cut, call_cut, pending_cut, order_cut}
use Rattle.report_lines.proofs.Machine.{Line, head, entry, session, leaves, input, count, steps, Body, State, start, body, left, ended, counted, Next, IsWholeState, text_of, tagged, first_of, line_at}

-- The settings of a head.

abbrev pub settings_of : (h : Head) → IsHead h → Settings
settings_of h is = record {
  seats = h.seats;
  items = h.items;
  depth = h.depth;
  start = h.start;
  seats_in_range = is.settings.seats_in_range;
  items_in_range = is.settings.items_in_range;
  depth_in_range = is.settings.depth_in_range;
  start_in_range = is.settings.start_in_range;
}

pub settings_are : (h : Head) (is : IsHead h) → IsSettingsOf h (settings_of h is)
settings_are h is = record { seats_are = refl; items_are = refl; depth_is = refl; start_is = refl }

few_leaves : (seats depth : ℕ) → seats ≤ 8 → depth ≤ 12 → seats * (depth + 1) ≤ 104
few_leaves seats depth few shallow =
    omega (arith, mul-le seats (depth + 1) 8 13 few (omega arith))

few_parts : (s : Settings) (what : FullKind) → s.seats ≤ 8 → s.depth ≤ 12 → part_of (need_of s) what ≤ 106
few_parts s OpRows few shallow = omega arith
few_parts s BucketRows few shallow = omega (arith, few_leaves s.seats s.depth few shallow)
few_parts s BucketWords few shallow = omega (arith, few_leaves s.seats s.depth few shallow)
few_parts s DirRows few shallow = omega arith

-- What the lines of entries tell fits.

word_fits : (told : Reply) → IsReply told → HasWord told
word_fits New is = tt
word_fits (Old value) is = omega (arith, is)
word_fits NoRoom is = tt
word_fits (Gone value) is = omega (arith, is)
word_fits (Found value) is = omega (arith, is)
word_fits Absent is = tt
word_fits (Sum total) is = omega (arith, is)

ended_fits : (h : Head) → IsHead h → (asked : Call) (end : Ended) → IsEnd h asked end → EndedFits h.seats asked end
ended_fits h is asked (Answered told took seen) (reply, fits, sees) =
    (word_fits told reply, omega (arith, fits), (sees, tt))
ended_fits h is asked (Refused full) short =
    let need : full.need ≡ part_of (need_of (settings_of h is)) full.what =
    short.need (settings_of h is) (settings_are h is) in
    let few : part_of (need_of (settings_of h is)) full.what ≤ 106 =
    few_parts (settings_of h is) full.what is.settings.seats_in_range.1 is.settings.depth_in_range.1 in
    record {
      update = short.update;
      left = omega (arith, short.short, need, few);
      need = omega (arith, need, few);
    }

-- a rule makes no put
pub told_by_rule : (rule : CallRule) (asked : Call) → IsOfRule rule asked → IsTold asked
told_by_rule Sessions (Insert key value) is = tt
told_by_rule Sessions (Remove key) is = tt
told_by_rule Sessions (Lookup key) is = tt
told_by_rule Sessions (Tally key amount) is = tt
told_by_rule Sessions (Count key value amount) is = tt
told_by_rule Sessions (Put key value) is = is
told_by_rule Flows (Insert key value) is = tt
told_by_rule Flows (Remove key) is = tt
told_by_rule Flows (Lookup key) is = tt
told_by_rule Flows (Tally key amount) is = tt
told_by_rule Flows (Count key value amount) is = tt
told_by_rule Flows (Put key value) is = is

amount_fits : (asked : Call) → amount_in asked < amount_limit asked → amount_in asked ≤ most_amount asked
amount_fits (Insert key value) fits = omega arith
amount_fits (Remove key) fits = omega arith
amount_fits (Lookup key) fits = omega arith
amount_fits (Tally key amount) fits = omega (arith, fits)
amount_fits (Count key value amount) fits = omega (arith, fits)
amount_fits (Put key value) fits = omega arith

asked_fits : (h : Head) (packet seat : ℕ) (asked : Call) → IsAsked h packet seat asked →
    AskedFits h.seats (asked_of packet seat asked)
asked_fits h packet seat asked is = record {
  packet = omega (arith, is.packet_fits);
  seat = is.seat_is;
  verb = record {
    flow = is.flow;
    told = told_by_rule h.calls asked is.rule;
    value = is.value;
    amount = amount_fits asked is.amount;
  };
}

abbrev pub EntryFits : (seats : ℕ) → Entry → Type 0
EntryFits seats (call told) = CallFits seats told
EntryFits seats (pending told) = PendingFits seats told
EntryFits seats (order packets) = OrderFits packets

entry_fits : (h : Head) → IsHead h → (e : Entry) → IsEntry h e → EntryFits h.seats e
entry_fits h is (call told) fits = record {
  asked = asked_fits h told.packet told.seat told.call fits.0;
  ended = ended_fits h is told.call told.ended fits.1;
}
entry_fits h is (pending told) fits = record {
  asked = asked_fits h told.packet told.seat told.call fits.1;
  seen = (fits.2, tt);
}
entry_fits h is (order packets) fits = record {
  some = fits.0;
  few = fits.1;
  small = recursion_from_All (λ packet. packet < 2 ^ 32) packets fits.2;
}

-- what holds of all of a list holds of its last element
pub at_last : {A : Type 0} (P : A → Type 0) (xs : List A) (x : A) → All P (xs ++ x ∷ []) → P x
at_last P [] x all = all 0 x (omega arith)
at_last P (y ∷ xs) x all = at_last P xs x (λ k d inside. all (suc k) d (omega arith))

pub last_entry_fits : (h : Head) → IsHead h → (es : List Entry) (e : Entry) → AreEntries h (es ++ e ∷ []) →
    EntryFits h.seats e
last_entry_fits h is es e are = entry_fits h is e (at_last (IsEntry h) es e are.each)

pub last_session_fits : (ps : List Pair) (p : Pair) → AreSessions (ps ++ p ∷ []) → SessionFits p
last_session_fits ps p are =
    let fits : IsFlow p.key × (p.value < 2 ^ 64) × (p.bytes < 2 ^ 64) =
    at_last (λ pair. IsFlow pair.key × (pair.value < 2 ^ 64) × (pair.bytes < 2 ^ 64)) ps p are.each in
    (fits.0, (omega (arith, fits.1), (omega (arith, fits.2), tt)))

-- Other lines begin otherwise.

not_call : (seats b : ℕ) (bytes : List ℕ) → (99 == b) ≡ false → call_at seats (b ∷ bytes) ≡ None
unfolding call_at
not_call seats b bytes other = rw other refl

not_pending : (seats b : ℕ) (bytes : List ℕ) → (112 == b) ≡ false → pending_at seats (b ∷ bytes) ≡ None
unfolding pending_at
not_pending seats b bytes other = rw other refl

not_order : (b : ℕ) (bytes : List ℕ) → (111 == b) ≡ false → order_at (b ∷ bytes) ≡ None
unfolding order_at
not_order b bytes other = rw other refl

not_session : (b : ℕ) (bytes : List ℕ) → (115 == b) ≡ false → session_at (b ∷ bytes) ≡ None
unfolding session_at
not_session b bytes other = rw other refl

-- Readings, one or the other.

take_first : {T : Type 0} (made : T → Line) (o : Option (T × List ℕ)) (other : Option (Line × List ℕ)) (value : T)
    (rest : List ℕ) → o ≡ Some (value, rest) → first_of (tagged made o) other ≡ Some (made value, rest)
take_first {T} made o other value rest is =
    ap (λ (x : Option (T × List ℕ)). first_of (tagged made x) other) is

pass_first : {T : Type 0} (made : T → Line) (o : Option (T × List ℕ)) (other : Option (Line × List ℕ)) →
    o ≡ None → first_of (tagged made o) other ≡ other
pass_first {T} made o other is = ap (λ (x : Option (T × List ℕ)). first_of (tagged made x) other) is

tagged_is : {T : Type 0} (made : T → Line) (o : Option (T × List ℕ)) (value : T) (rest : List ℕ) →
    o ≡ Some (value, rest) → tagged made o ≡ Some (made value, rest)
tagged_is {T} made o value rest is = ap (λ (x : Option (T × List ℕ)). tagged made x) is

read_entry : (b : Body) → IsHead b.head → (e : Entry) (rest : List ℕ) → EntryFits b.head.seats e →
    line_at (body b) (entry_line b.head.seats e ++ rest) ≡ Some (entry e, rest)
read_entry b is (call told) rest fits =
    take_first (λ told. entry (call told)) (call_at b.head.seats (call_line b.head.seats told ++ rest)) _ told rest
    ((call_is_line b.head.seats is.settings.seats_in_range.0 is.settings.seats_in_range.1).again told rest fits)
read_entry b is (pending told) rest fits =
    let text : waiting_line b.head.seats told ++ rest ≡ codes "pending " ++ asked_text
    (asked_of told.packet told.seat told.call) (seen_behind b.head.seats told.seen rest) =
    pending_spelled b.head.seats told rest in
    pass_first (λ told. entry (call told)) (call_at b.head.seats (waiting_line b.head.seats told ++ rest)) _
    (ap (call_at b.head.seats) text ∙ not_call b.head.seats 112 _ refl)
    ∙ take_first (λ told. entry (pending told)) (pending_at b.head.seats (waiting_line b.head.seats told ++ rest)) _
    told rest
    ((pending_is_line b.head.seats is.settings.seats_in_range.0 is.settings.seats_in_range.1).again told rest fits)
read_entry b is (order packets) rest fits =
    let text : packets_line packets ++ rest ≡ codes "order" ++ (spaces packets ++ (10 ∷ rest)) =
    order_spelled packets rest in
    pass_first (λ told. entry (call told)) (call_at b.head.seats (packets_line packets ++ rest)) _
    (ap (call_at b.head.seats) text ∙ not_call b.head.seats 111 _ refl)
    ∙ pass_first (λ told. entry (pending told)) (pending_at b.head.seats (packets_line packets ++ rest)) _
    (ap (pending_at b.head.seats) text ∙ not_pending b.head.seats 111 _ refl)
    ∙ take_first (λ packets. entry (order packets)) (order_at (packets_line packets ++ rest)) _ packets rest
    (order_is_line.again packets rest fits)

pub session_starts : (p : Pair) (rest : List ℕ) → (more : List ℕ) × (session_line p ++ rest ≡ 115 ∷ more)
unfolding session_line
session_starts p rest = (_, line_behind (codes "session") _ rest)

read_session : (b : Body) (p : Pair) (rest : List ℕ) → SessionFits p →
    line_at (body b) (session_line p ++ rest) ≡ Some (session p, rest)
read_session b p rest fits =
    let text = session_starts p rest in
    pass_first (λ told. entry (call told)) (call_at b.head.seats (session_line p ++ rest)) _
    (ap (call_at b.head.seats) text.1 ∙ not_call b.head.seats 115 text.0 refl)
    ∙ pass_first (λ told. entry (pending told)) (pending_at b.head.seats (session_line p ++ rest)) _
    (ap (pending_at b.head.seats) text.1 ∙ not_pending b.head.seats 115 text.0 refl)
    ∙ pass_first (λ packets. entry (order packets)) (order_at (session_line p ++ rest)) _
    (ap order_at text.1 ∙ not_order 115 text.0 refl)
    ∙ take_first (λ pair. session pair) (session_at (session_line p ++ rest)) _ p rest
    (session_is_line.again p rest fits)

abbrev pub leaves_line_of : Leaves → List ℕ
leaves_line_of l = line (codes "leaves" ∷ leaves_words l)

pub leaves_starts : (l : Leaves) (rest : List ℕ) → (more : List ℕ) × (leaves_line_of l ++ rest ≡ 108 ∷ more)
leaves_starts l rest = (_, line_behind (codes "leaves") (leaves_words l) rest)

read_leaves : (b : Body) (l : Leaves) (rest : List ℕ) → LeavesFit l →
    line_at (body b) (leaves_line_of l ++ rest) ≡ Some (leaves l, rest)
read_leaves b l rest fits =
    let text = leaves_starts l rest in
    pass_first (λ told. entry (call told)) (call_at b.head.seats (leaves_line_of l ++ rest)) _
    (ap (call_at b.head.seats) text.1 ∙ not_call b.head.seats 108 text.0 refl)
    ∙ pass_first (λ told. entry (pending told)) (pending_at b.head.seats (leaves_line_of l ++ rest)) _
    (ap (pending_at b.head.seats) text.1 ∙ not_pending b.head.seats 108 text.0 refl)
    ∙ pass_first (λ packets. entry (order packets)) (order_at (leaves_line_of l ++ rest)) _
    (ap order_at text.1 ∙ not_order 108 text.0 refl)
    ∙ pass_first (λ pair. session pair) (session_at (leaves_line_of l ++ rest)) _
    (ap session_at text.1 ∙ not_session 108 text.0 refl)
    ∙ tagged_is (λ l. leaves l) (leaves_at (leaves_line_of l ++ rest)) l rest (leaves_is_line.again l rest fits)

-- The machine.

pub line_again : (s : State) (l : Line) (m : State) (rest : List ℕ) → Next s l m →
    line_at s (text_of s l ++ rest) ≡ Some (l, rest)
line_again start (head h) m rest next =
    tagged_is (λ h. head h) (head_at (head_line h ++ rest)) h rest (head_is_line.again h rest next.0)
line_again (body b) (entry e) m rest next =
    read_entry b next.0 e rest (last_entry_fits b.head next.0 b.entries e next.2)
line_again (body b) (session p) m rest next = read_session b p rest (last_session_fits b.pairs p next.1)
line_again (body b) (leaves l) m rest next = read_leaves b l rest next.1
line_again (left b l) (input e) m rest next =
    tagged_is (λ e. input e) (input_at (input_line e ++ rest)) e rest (input_is_line.again e rest next.0)
line_again (ended b l e) (count c) m rest next =
    tagged_is (λ c. count c) (count_at (line (codes "count" ∷ count_words c) ++ rest)) c rest
    (count_is_line.again c rest next.0)
line_again (counted b l e c) (steps s) m rest next =
    tagged_is (λ s. steps s) (steps_at (line (codes "steps" ∷ step_words s) ++ rest)) s rest
    (steps_is_line.again s rest next.0)
line_again s l m rest next = absurd next

line_cut : (s : State) (l : Line) (m : State) → Next s l m → IsCut (text_of s l)
line_cut start (head h) m next = head_cut h next.0
line_cut (body b) (entry (call told)) m next =
    call_cut b.head.seats next.0.settings.seats_in_range.1 told
    (last_entry_fits b.head next.0 b.entries (call told) next.2)
line_cut (body b) (entry (pending told)) m next =
    pending_cut b.head.seats next.0.settings.seats_in_range.1 told
    (last_entry_fits b.head next.0 b.entries (pending told) next.2)
line_cut (body b) (entry (order packets)) m next =
    order_cut packets (last_entry_fits b.head next.0 b.entries (order packets) next.2)
line_cut (body b) (session p) m next = session_cut p (last_session_fits b.pairs p next.1)
line_cut (body b) (leaves l) m next = leaves_cut l next.1
line_cut (left b l) (input e) m next = input_cut e next.0
line_cut (ended b l e) (count c) m next = count_cut c next.0
line_cut (counted b l e c) (steps s) m next = steps_cut s next.0
line_cut s l m next = absurd next

one_next : (s : State) (l : Line) (m n : State) → Next s l m → Next s l n → m ≡ n
one_next start (head h) m n a b = a.1 ∙ sym b.1
one_next (body b) (entry e) m n x y = x.3 ∙ sym y.3
one_next (body b) (session p) m n x y = x.2 ∙ sym y.2
one_next (body b) (leaves l) m n x y = x.2 ∙ sym y.2
one_next (left b l) (input e) m n x y = x.1 ∙ sym y.1
one_next (ended b l e) (count c) m n x y = x.1 ∙ sym y.1
one_next (counted b l e c) (steps s) m n x y = x.2 ∙ sym y.2
one_next s l m n a b = absurd a

pub report_machine : IsMachine Next IsWholeState text_of line_at
report_machine = record { again = line_again; cut = line_cut; one = one_next }
