-- The answers of all seats, put together in packet order: each seat's stand in their own order.
use Rattle.std.proofs.Common.{◌≡◌, ◌==◌, ℕ, suc, ◌<◌, Bool, true, false, cond, List, [], ◌∷◌, length, map, drop, inl, inr, refl, sym, ap, subst, ◌∙◌}
use Rattle.std.specs.Prelude.{All, filter}
use Rattle.std.specs.List.{AllZip}
use Rattle.std.proofs.lemmas.Bool.{cases_eq, cond-false, cond-true, eq-eqb, ne_eqb}
use Rattle.std.proofs.lemmas.List.Elements.{All-cons, All-head, All-nil, All-tail}
use Rattle.sim_steps.specs.declared.adds.Add.{Add}
use Rattle.sim_steps.specs.declared.adds.Added.{Added}
use Rattle.packet_heads.specs.declared.framing.Framing.{Framing}
use Rattle.packet_adders.specs.declared.frames.Frame.{Frame}
use Rattle.packet_adders.specs.Classes.{HasClass}
use Rattle.packet_adders.specs.Frames.{IsFrameOf}
use Rattle.packet_adders.specs.Work.{IsAddOf, IsAnswerTo}
use Rattle.totals_runner.specs.Frames.{AreFrames, frames_by}
use Rattle.totals_runner.specs.PacketAdds.{MakeAdds, MakesAdd, adds_by, seat_for}
use Rattle.totals_runner.proofs.Named.{seat_below}

-- ---- two lists side by side

-- nothing stands beside nothing
pub zip_none : {A B : Type 0} (R : A → B → Type 0) (ys : List B) → AllZip R [] ys → ys ≡ []
zip_none R [] zip = refl
zip_none R (y ∷ ys) zip = absurd zip

-- and something beside something
pub record ZipSome {A B : Type 0} (R : A → B → Type 0) (x : A) (xs : List A) (ys : List B) : Type 0 where
  pub first : B
  pub others : List B
  pub is : ys ≡ first ∷ others
  pub one : R x first
  pub rest : AllZip R xs others

pub zip_some : {A B : Type 0} (R : A → B → Type 0) (x : A) (xs : List A) (ys : List B) → AllZip R (x ∷ xs) ys →
    ZipSome R x xs ys
zip_some R x xs [] zip = absurd zip
zip_some R x xs (y ∷ ys) zip = record { first = y; others = ys; is = refl; one = zip.0; rest = zip.1 }

-- ---- all answers

-- the answer is to this frame, and of its seat
abbrev pub IsAnswerOf : ℕ → Frame → Added → Type 0
IsAnswerOf seats frame a = IsAnswerTo frame a × (a.seat ≡ seat_for seats frame.packet)

-- the answers to these frames, of which these are each seat's
pub record Merged (seats : ℕ) (frames : List Frame) (logs : ℕ → List Added) : Type 0 where
  pub answers : List Added
  pub each : AllZip (IsAnswerOf seats) frames answers
  pub logs_are : (seat : ℕ) → seat < seats → logs seat ≡ filter (λ (a : Added). a.seat == seat) answers

-- what is left of each seat's answers without the first one of this seat
abbrev left_of : ℕ → (ℕ → List Added) → ℕ → List Added
left_of here logs seat = drop (cond (seat == here) 1 0) (logs seat)

-- one frame more, before which its seat has no other
module _ (seats : ℕ) (some : 0 < seats) (frame : Frame) (frames : List Frame) (logs : ℕ → List Added)
    (zips : (seat : ℕ) → seat < seats → AllZip IsAnswerTo (frames_by seats seat (frame ∷ frames)) (logs seat))
    (own : (seat : ℕ) → seat < seats → All (λ (a : Added). a.seat ≡ seat) (logs seat)) where
  less : seat_for seats frame.packet < seats
  less = seat_below seats frame.packet some

  -- it is its seat's first, and no other's
  at_seat : (seat : ℕ) → seat ≡ seat_for seats frame.packet →
      frames_by seats seat (frame ∷ frames) ≡ frame ∷ frames_by seats seat frames
  at_seat seat same =
      cond-true (seat_for seats frame.packet == seat) (frame ∷ frames_by seats seat frames)
      (frames_by seats seat frames) (eq-eqb (seat_for seats frame.packet) seat (sym same))

  at_other : (seat : ℕ) → (seat ≡ seat_for seats frame.packet → ⊥) →
      frames_by seats seat (frame ∷ frames) ≡ frames_by seats seat frames
  at_other seat other =
      cond-false (seat_for seats frame.packet == seat) (frame ∷ frames_by seats seat frames)
      (frames_by seats seat frames) (ne_eqb (seat_for seats frame.packet) seat (λ same. other (sym same)))

  first : ZipSome IsAnswerTo frame (frames_by seats (seat_for seats frame.packet) frames)
      (logs (seat_for seats frame.packet))
  first =
      zip_some IsAnswerTo frame (frames_by seats (seat_for seats frame.packet) frames)
      (logs (seat_for seats frame.packet))
      (subst (λ (fs : List Frame). AllZip IsAnswerTo fs (logs (seat_for seats frame.packet)))
      (at_seat (seat_for seats frame.packet) refl) (zips (seat_for seats frame.packet) less))

  own_first : All (λ (a : Added). a.seat ≡ seat_for seats frame.packet) (first.first ∷ first.others)
  own_first =
      subst (λ (xs : List Added). All (λ (a : Added). a.seat ≡ seat_for seats frame.packet) xs) first.is
      (own (seat_for seats frame.packet) less)

  is_own : first.first.seat ≡ seat_for seats frame.packet
  is_own = All-head (λ (a : Added). a.seat ≡ seat_for seats frame.packet) first.first first.others own_first

  left_here : (seat : ℕ) → seat ≡ seat_for seats frame.packet →
      left_of (seat_for seats frame.packet) logs seat ≡ first.others
  left_here seat same =
      ap (λ (n : ℕ). drop n (logs seat))
      (cond-true (seat == seat_for seats frame.packet) 1 0 (eq-eqb seat (seat_for seats frame.packet) same))
      ∙ ap (λ (s : ℕ). drop 1 (logs s)) same ∙ ap (λ (xs : List Added). drop 1 xs) first.is

  left_other : (seat : ℕ) → (seat ≡ seat_for seats frame.packet → ⊥) →
      left_of (seat_for seats frame.packet) logs seat ≡ logs seat
  left_other seat other =
      ap (λ (n : ℕ). drop n (logs seat))
      (cond-false (seat == seat_for seats frame.packet) 1 0 (ne_eqb seat (seat_for seats frame.packet) other))

  zips_left : (seat : ℕ) → seat < seats →
      AllZip IsAnswerTo (frames_by seats seat frames) (left_of (seat_for seats frame.packet) logs seat)
  zips_left seat inside = elim (cases_eq seat (seat_for seats frame.packet)) [
    | inl same ↦
        subst (λ (xs : List Added). AllZip IsAnswerTo (frames_by seats seat frames) xs) (sym (left_here seat same))
        (subst (λ (s : ℕ). AllZip IsAnswerTo (frames_by seats s frames) first.others) (sym same) first.rest)
    | inr other ↦
        subst (λ (xs : List Added). AllZip IsAnswerTo (frames_by seats seat frames) xs) (sym (left_other seat other))
        (subst (λ (fs : List Frame). AllZip IsAnswerTo fs (logs seat)) (at_other seat other) (zips seat inside))
  ]

  own_left : (seat : ℕ) → seat < seats →
      All (λ (a : Added). a.seat ≡ seat) (left_of (seat_for seats frame.packet) logs seat)
  own_left seat inside = elim (cases_eq seat (seat_for seats frame.packet)) [
    | inl same ↦
        subst (λ (xs : List Added). All (λ (a : Added). a.seat ≡ seat) xs) (sym (left_here seat same))
        (subst (λ (s : ℕ). All (λ (a : Added). a.seat ≡ s) first.others) (sym same)
        (All-tail (λ (a : Added). a.seat ≡ seat_for seats frame.packet) first.first first.others own_first))
    | inr other ↦
        subst (λ (xs : List Added). All (λ (a : Added). a.seat ≡ seat) xs) (sym (left_other seat other))
        (own seat inside)
  ]

  -- its answer stands before those to the other frames
  merge_more : Merged seats frames (left_of (seat_for seats frame.packet) logs) → Merged seats (frame ∷ frames) logs
  merge_more rest =
      record {
        answers = first.first ∷ rest.answers;
        each = ((first.one, is_own), rest.each);
        logs_are = λ seat inside. elim (cases_eq seat (seat_for seats frame.packet)) [
          | inl same ↦
              ap logs same ∙ first.is
              ∙ ap (λ (xs : List Added). first.first ∷ xs) (sym (left_here seat same) ∙ rest.logs_are seat inside)
              ∙ sym (cond-true (first.first.seat == seat)
              (first.first ∷ filter (λ (a : Added). a.seat == seat) rest.answers)
              (filter (λ (a : Added). a.seat == seat) rest.answers)
              (eq-eqb first.first.seat seat (is_own ∙ sym same)))
          | inr other ↦
              sym (left_other seat other) ∙ rest.logs_are seat inside
              ∙ sym (cond-false (first.first.seat == seat)
              (first.first ∷ filter (λ (a : Added). a.seat == seat) rest.answers)
              (filter (λ (a : Added). a.seat == seat) rest.answers)
              (ne_eqb first.first.seat seat (λ same. other (sym same ∙ is_own))))
        ];
      }

-- all answers can be put together
pub merged : (seats : ℕ) → 0 < seats → (frames : List Frame) (logs : ℕ → List Added) →
    ((seat : ℕ) → seat < seats → AllZip IsAnswerTo (frames_by seats seat frames) (logs seat)) →
    ((seat : ℕ) → seat < seats → All (λ (a : Added). a.seat ≡ seat) (logs seat)) → Merged seats frames logs
merged seats some [] logs zips own =
    record {
      answers = [];
      each = tt;
      logs_are = λ seat less. zip_none IsAnswerTo (logs seat) (zips seat less);
    }
merged seats some (frame ∷ frames) logs zips own =
    merge_more seats some frame frames logs zips own
    (merged seats some frames (left_of (seat_for seats frame.packet) logs)
    (zips_left seats some frame frames logs zips own) (own_left seats some frame frames logs zips own))

-- ---- what is known of answers to frames

-- they are of the frames' seats
pub seats_of_answers : (seats : ℕ) (frames : List Frame) (answers : List Added) →
    AllZip (IsAnswerOf seats) frames answers →
    All (λ (a : Added). a.seat ≡ seat_for seats a.add.packet) answers
seats_of_answers seats [] answers zip =
    subst (λ (xs : List Added). All (λ (a : Added). a.seat ≡ seat_for seats a.add.packet) xs)
    (sym (zip_none (IsAnswerOf seats) answers zip)) (All-nil (λ (a : Added). a.seat ≡ seat_for seats a.add.packet))
seats_of_answers seats (frame ∷ frames) answers zip =
    let z = zip_some (IsAnswerOf seats) frame frames answers zip in
    let P : Added → Type 0 = λ a. a.seat ≡ seat_for seats a.add.packet in
    let one : P z.first = z.one.1 ∙ ap (seat_for seats) (sym z.one.0.packet) in
    subst (λ (xs : List Added). All P xs) (sym z.is)
    (All-cons P z.first z.others one (seats_of_answers seats frames z.others z.rest))

-- they are answers to them
pub answers_to : (seats : ℕ) (frames : List Frame) (answers : List Added) →
    AllZip (IsAnswerOf seats) frames answers → AllZip IsAnswerTo frames answers
answers_to seats [] [] zip = tt
answers_to seats [] (a ∷ answers) zip = absurd zip
answers_to seats (frame ∷ frames) [] zip = absurd zip
answers_to seats (frame ∷ frames) (a ∷ answers) zip = (zip.0.0, answers_to seats frames answers zip.1)

-- a seat has as many adds as frames
pub many_adds : (seats seat : ℕ) (frames : List Frame) (answers : List Added) → AllZip IsAnswerTo frames answers →
    length (adds_by seats seat (map (λ (a : Added). a.add) answers)) ≡ length (frames_by seats seat frames)
many_adds seats seat [] answers zip =
    ap (λ (xs : List Added). length (adds_by seats seat (map (λ (a : Added). a.add) xs)))
    (zip_none IsAnswerTo answers zip)
many_adds seats seat (frame ∷ frames) answers zip =
    let z = zip_some IsAnswerTo frame frames answers zip in
    ap (λ (xs : List Added). length (adds_by seats seat (map (λ (a : Added). a.add) xs))) z.is
    ∙ ap (λ (p : ℕ). length (cond (seat_for seats p == seat)
    (z.first.add ∷ adds_by seats seat (map (λ (a : Added). a.add) z.others))
    (adds_by seats seat (map (λ (a : Added). a.add) z.others)))) z.one.packet
    ∙ either (seat_for seats frame.packet == seat) z.first.add frame
    (adds_by seats seat (map (λ (a : Added). a.add) z.others)) (frames_by seats seat frames)
    (many_adds seats seat frames z.others z.rest)
  where
    either : (b : Bool) (x : Add) (f : Frame) (xs : List Add) (fs : List Frame) → length xs ≡ length fs →
        length (cond b (x ∷ xs) xs) ≡ length (cond b (f ∷ fs) fs)
    either true x f xs fs same = ap suc same
    either false x f xs fs same = same

-- the adds are those that the packets make
pub makes_add : (framing : Framing) (number : ℕ) (packet : List ℕ) (frame : Frame) (add : Add) →
    IsFrameOf framing number packet frame →
    IsAddOf frame add → MakesAdd framing number packet add
makes_add framing number packet frame add is of =
    record {
      packet_is = of.packet ∙ is.number_is;
      class_is = subst (HasClass framing packet) (sym of.class) is.class_is;
      length_is = of.length ∙ is.length_is;
    }

pub make_of : (framing : Framing) (number : ℕ) (packets : List (List ℕ)) (frames : List Frame) (answers : List Added) →
    AreFrames framing number packets frames → AllZip IsAnswerTo frames answers →
    MakeAdds framing number packets (map (λ (a : Added). a.add) answers)
make_of framing number [] frames answers are zip =
    ap (map (λ (a : Added). a.add))
    (zip_none IsAnswerTo answers (subst (λ (fs : List Frame). AllZip IsAnswerTo fs answers) are zip))
make_of framing number (packet ∷ packets) frames answers are zip =
    let z = zip_some IsAnswerTo are.0 are.1 answers
    (subst (λ (fs : List Frame). AllZip IsAnswerTo fs answers) are.4 zip) in (
      z.first.add,
      map (λ (a : Added). a.add) z.others,
      makes_add framing number packet are.0 z.first.add are.2 z.one,
      make_of framing (suc number) packets are.1 z.others are.3 z.rest,
      ap (map (λ (a : Added). a.add)) z.is,
    )
