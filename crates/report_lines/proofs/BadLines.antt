-- Where lines were read and none follows, the next line is bad.
use Rattle.std.proofs.Common.{◌≡◌, inl, inr, ℕ, zero, suc, ◌+◌, ◌≤◌, ◌==◌, Bool, true, false, cond, List, [], ◌∷◌, ◌++◌, length, Option, Some, None, refl, sym, ap, ◌∙◌, append_assoc, subst, arith}
use Rattle.std.specs.Option.{option_map}
use Rattle.std.proofs.lemmas.Option.{none-some, same_Some}
use Rattle.std.proofs.lemmas.Bool.{cases_eq}
use Rattle.step_counts.specs.StepCounts.{step_bound}
use Rattle.step_counts.specs.declared.settings.Settings.{Settings}
use Rattle.hash_bits.specs.declared.hashing.Hashing.TheVariants.{Mix}
use Rattle.trace_share.specs.declared.deals.Share.TheVariants.{Round}
use Rattle.key_texts.specs.declared.rules.CallRule.TheVariants.{Sessions}
use Rattle.line_fields.specs.First.{first_lines}
use Rattle.line_fields.proofs.Scan.{Completes, stuck_is_bad, stuck_is_none, begun_here, AreBegun as AreBegunBy}
use Rattle.report_text.specs.declared.parts.Head.{Head}
use Rattle.capture_faults.specs.declared.ending.Ending.{Ending}
use Rattle.capture_faults.specs.declared.ending.Ending.TheVariants.{Done}
use Rattle.report_told.specs.Told.{Told, told_text}
use Rattle.report_told.specs.Rules.{IsHead}
use Rattle.report_told.specs.Verdicts.{Tells, AreBegun, IsBadLine}
use Rattle.report_lines.specs.declared.tails.Leaves.{Leaves}
use Rattle.report_lines.specs.declared.tails.Counts.{Counts}
use Rattle.report_lines.specs.declared.tails.Steps.{Steps}
use Rattle.report_lines.proofs.Machine.{Line, head, leaves, input, count, steps, Body, State, start, body, left, ended, counted, whole, Next, IsWholeState, text_of, line_at, tail_of, told_of, begun_with}
use Rattle.report_lines.proofs.MachineLaws.{report_machine, settings_of}
use Rattle.report_lines.proofs.Grammar.{Spelled, told_lines, bound_small}
use Rattle.report_lines.proofs.Reports.{Behind, spelled_tells, spelled_behind, tells_spelled}

-- Each state can be completed.

abbrev pub Ends : State → Type 0
Ends s = Completes Next IsWholeState text_of line_at s

-- with one line more
one_before : (s : State) (l : Line) (m : State) → Next s l m → Ends m → Ends s
one_before s l m next end = record {
  lines = l ∷ end.lines;
  last = end.last;
  bytes = text_of s l ++ end.bytes;
  spells = (m, end.bytes, next, refl, end.spells);
  done_is = end.done_is;
}

ends_whole : (told : Told) → Ends (whole told)
ends_whole told = record { lines = []; last = whole told; bytes = []; spells = (refl, refl); done_is = tt }

no_steps : (bound : ℕ) → Steps
no_steps bound = record { update = 0; bound = bound; lookup = 0 }

same_bound : (s t : Settings) → s.seats ≡ t.seats → s.items ≡ t.items → s.depth ≡ t.depth → step_bound s ≡ step_bound t
same_bound s t seats items depth = rw (seats, items, depth) refl

ends_counted : (b : Body) (l : Leaves) (e : Ending) (c : Counts) → IsHead b.head → Ends (counted b l e c)
ends_counted b l e c is =
    let bound : ℕ = step_bound (settings_of b.head is) in
    let made : Steps = record { update = 0; bound = step_bound (settings_of b.head is); lookup = 0 } in
    one_before (counted b l e c) (steps made) (whole (told_of b (tail_of l e c made))) (
      (omega arith, (bound_small b.head is, (omega arith, tt))),
      (λ s of_head. same_bound (settings_of b.head is) s (sym of_head.seats_are) (sym of_head.items_are)
          (sym of_head.depth_is)),
      refl,
    )
    (ends_whole (told_of b (tail_of l e c made)))

no_counts : Counts
no_counts = record { packets = 0; calls = 0; passed = 0; full = 0; pending = 0; unbegun = 0 }

ends_ended : (b : Body) (l : Leaves) (e : Ending) → IsHead b.head → Ends (ended b l e)
unfolding no_counts
ends_ended b l e is =
    one_before (ended b l e) (count no_counts) (counted b l e no_counts)
    ((omega arith, (omega arith, (omega arith, (omega arith, (omega arith, (omega arith, tt)))))), refl)
    (ends_counted b l e no_counts is)

ends_left : (b : Body) (l : Leaves) → IsHead b.head → Ends (left b l)
ends_left b l is =
    one_before (left b l) (input (Done 0)) (ended b l (Done 0)) (omega arith, refl) (ends_ended b l (Done 0) is)

no_leaves : Leaves
no_leaves = record { leaves = 0; depth = 0 }

ends_body : (b : Body) → IsHead b.head → Ends (body b)
unfolding no_leaves
ends_body b is =
    one_before (body b) (leaves no_leaves) (left b no_leaves) (is, (omega arith, (omega arith, tt)), refl)
    (ends_left b no_leaves is)

some_head : Head
some_head = record {
  play = false;
  seats = 1;
  items = 1;
  depth = 0;
  start = 0;
  hashing = Mix 0;
  share = Round;
  calls = Sessions;
  batch = 2048;
}

some_head_is : IsHead some_head
unfolding some_head
some_head_is = record {
  settings = record {
    seats_in_range = (omega arith, omega arith);
    items_in_range = (omega arith, omega arith);
    depth_in_range = (omega arith, omega arith);
    start_in_range = (omega arith, omega arith);
  };
  seed = omega arith;
  batch = record { range = (omega arith, omega arith); one = λ play. refl };
}

ends_start : Ends start
ends_start =
    one_before start (head some_head) (body (begun_with some_head)) (some_head_is, refl)
    (ends_body (begun_with some_head) some_head_is)

pub ends_behind : (s : State) (front : List ℕ) → Behind s front → Ends s
ends_behind start front is = ends_start
ends_behind (body b) front is = ends_body b is.0.head
ends_behind (left b l) front is = ends_left b l is.0.head
ends_behind (ended b l e) front is = ends_ended b l e is.0.head
ends_behind (counted b l e c) front is = ends_counted b l e c is.0.head
ends_behind (whole told) front is = ends_whole told

-- Fewer lines.

record IsFront (many : ℕ) (text front : List ℕ) : Type 0 where
  fewer : List ℕ
  there : first_lines many text ≡ Some fewer
  more : List ℕ
  is : front ≡ fewer ++ more

mapped_some : (b : ℕ) (o : Option (List ℕ)) (front : List ℕ) → option_map (λ f. b ∷ f) o ≡ Some front →
    (f : List ℕ) × (o ≡ Some f) × (b ∷ f ≡ front)
mapped_some b (Some f) front is = (f, refl, same_Some (b ∷ f) front is)
mapped_some b None front is = absurd (none-some front is)

fewer_lines : (text : List ℕ) (many : ℕ) (front : List ℕ) → first_lines (suc many) text ≡ Some front →
    IsFront many text front
fewer_lines text zero front is = record { fewer = []; there = refl; more = front; is = refl }
fewer_lines [] (suc many) front is = absurd (none-some front is)
fewer_lines (b ∷ text) (suc many) front is = go (fewer_lines text) (b == 10) refl is
  where
    go : ((many : ℕ) (front : List ℕ) → first_lines (suc many) text ≡ Some front → IsFront many text front) →
        (t : Bool) → (b == 10) ≡ t →
        option_map (λ f. b ∷ f) (cond (b == 10) (first_lines (suc many) text) (first_lines (suc (suc many)) text))
        ≡ Some front →
        IsFront (suc many) (b ∷ text) front
    go later true feed read =
        let step = mapped_some b (first_lines (suc many) text) front
        (sym (ap (λ (u : Bool). option_map (λ f. b ∷ f)
        (cond u (first_lines (suc many) text) (first_lines (suc (suc many)) text))) feed) ∙ read) in
        let before : IsFront many text step.0 = later many step.0 step.1 in
        record {
          fewer = b ∷ before.fewer;
          there =
              ap (λ (u : Bool). option_map (λ f. b ∷ f)
              (cond u (first_lines many text) (first_lines (suc many) text))) feed
              ∙ ap (λ (o : Option (List ℕ)). option_map (λ f. b ∷ f) o) before.there;
          more = before.more;
          is = sym step.2 ∙ ap (λ (f : List ℕ). b ∷ f) before.is;
        }
    go later false other read =
        let step = mapped_some b (first_lines (suc (suc many)) text) front
        (sym (ap (λ (u : Bool). option_map (λ f. b ∷ f)
        (cond u (first_lines (suc many) text) (first_lines (suc (suc many)) text))) other) ∙ read) in
        let before : IsFront (suc many) text step.0 = later (suc many) step.0 step.1 in
        record {
          fewer = b ∷ before.fewer;
          there =
              ap (λ (u : Bool). option_map (λ f. b ∷ f)
              (cond u (first_lines many text) (first_lines (suc many) text))) other
              ∙ ap (λ (o : Option (List ℕ)). option_map (λ f. b ∷ f) o) before.there;
          more = before.more;
          is = sym step.2 ∙ ap (λ (f : List ℕ). b ∷ f) before.is;
        }

begun_fewer : (text : List ℕ) (many : ℕ) → AreBegun text (suc many) → AreBegun text many
begun_fewer text many begun =
    let less : IsFront many text begun.front = fewer_lines text many begun.front begun.there in
    record {
      front = less.fewer;
      there = less.there;
      told = begun.told;
      in_grammar = begun.in_grammar;
      rest = less.more ++ begun.rest;
      begins =
          begun.begins ∙ ap (λ (f : List ℕ). f ++ begun.rest) less.is
          ∙ append_assoc less.fewer less.more begun.rest;
    }

begun_below : (text : List ℕ) (many fewer : ℕ) → fewer ≤ many → AreBegun text many → AreBegun text fewer
begun_below text zero fewer few begun =
    let none : zero ≡ fewer = omega arith in subst (AreBegun text) none begun
begun_below text (suc many) fewer few begun =
    elim (cases_eq fewer (suc many)) [
      | inl same ↦ subst (AreBegun text) (sym same) begun
      | inr other ↦ begun_below text many fewer (omega (arith, other)) (begun_fewer text many begun)
    ]

-- Both ways of saying that lines are begun.

abbrev BegunBy : List ℕ → ℕ → Type 0
BegunBy bytes many = AreBegunBy Next IsWholeState text_of line_at report_machine start bytes many

told_of_state : (ls : List Line) (s : State) (bytes : List ℕ) → IsWholeState s → Spelled start ls s bytes →
    (told : Told) × Tells bytes told
told_of_state ls (whole told) bytes done spelled = (told, spelled_tells ls told bytes spelled)
told_of_state ls start bytes done spelled = absurd done
told_of_state ls (body b) bytes done spelled = absurd done
told_of_state ls (left b l) bytes done spelled = absurd done
told_of_state ls (ended b l e) bytes done spelled = absurd done
told_of_state ls (counted b l e c) bytes done spelled = absurd done

begun_told : (text : List ℕ) (many : ℕ) → BegunBy text many → AreBegun text many
begun_told text many begun =
    let told = told_of_state begun.lines begun.last begun.whole begun.done_is begun.spells in
    record {
      front = begun.front;
      there = begun.there;
      told = told.0;
      in_grammar = told.1.in_grammar;
      rest = begun.rest;
      begins = sym told.1.text_is ∙ begun.begins;
    }

begun_by : (text : List ℕ) (many : ℕ) → AreBegun text many → BegunBy text many
begun_by text many begun = record {
  front = begun.front;
  there = begun.there;
  lines = told_lines begun.told;
  last = whole begun.told;
  whole = told_text begun.told;
  spells = tells_spelled (told_text begun.told) begun.told (record { text_is = refl; in_grammar = begun.in_grammar });
  done_is = tt;
  rest = begun.rest;
  begins = begun.begins;
}

-- no line follows here, and the text is not whole
pub record IsStuck (s : State) (bytes : List ℕ) : Type 0 where
  pub none : (l : Line) (m : State) (rest : List ℕ) → Next s l m → bytes ≡ text_of s l ++ rest → ⊥
  pub unended : bytes ≡ [] → IsWholeState s → ⊥

-- where lines were read and none follows, the next line is bad
pub stuck_is_bad_line : (text front bytes : List ℕ) (ls : List Line) (s : State) → text ≡ front ++ bytes →
    Spelled start ls s front → IsStuck s bytes → IsBadLine text (length ls + 1)
stuck_is_bad_line text front bytes ls s is spelled stuck =
    let end : Ends s = ends_behind s front (spelled_behind ls s front spelled) in
    let here : AreBegun (front ++ bytes) (length ls + 0) =
    begun_told (front ++ bytes) (length ls + 0)
    (begun_here Next IsWholeState text_of line_at report_machine ls start s front bytes spelled end) in
    subst (λ (t : List ℕ). IsBadLine t (length ls + 1)) (sym is) (record {
      no_report = λ told tells.
          stuck_is_none Next IsWholeState text_of line_at report_machine ls start s front bytes spelled stuck.none
          stuck.unended (told_lines told) (whole told) (tells_spelled (front ++ bytes) told tells) tt;
      from_one = omega arith;
      bad = λ begun.
          stuck_is_bad Next IsWholeState text_of line_at report_machine ls start s front bytes spelled stuck.none
          (begun_by (front ++ bytes) (length ls + 1) begun);
      first = λ many below. begun_below (front ++ bytes) (length ls + 0) many (omega (arith, below)) here;
    })
