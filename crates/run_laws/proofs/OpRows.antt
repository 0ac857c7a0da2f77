-- What the words say of announced ops: a seat announces its last op row, and each that it has announced spells an op.
use Rattle.std.proofs.Common.{◌≡◌, ◌≢◌, ℕ, ◌+◌, ◌-◌, ◌*◌, ◌<◌, ◌≤◌, ◌⊎◌, Bool, true, false, cond, eqb, List, length, get_or, take, drop, inl, inr, refl, sym, ap, ◌∙◌, subst, arith, ext_get_or, length-take-le, length-drop, get_or-take, get_or-drop, mul-le-mul_right, suc-mul, add-one}
use Rattle.std.proofs.lemmas.Bool.{cases_eq, eqb-true, eqb-false}
use Rattle.step_counts.specs.declared.TheConstants.{OP_WORDS}
use Rattle.step_counts.specs.declared.rows.SeatRows.{SeatRows}
use Rattle.plain_map.specs.declared.full.FullKind.TheVariants.{OpRows}
use Rattle.word_rows.specs.declared.addresses.Address.TheVariants.{Announcement, OpWord}
use Rattle.word_rows.specs.declared.ops.OpRow.{OpRow}
use Rattle.word_rows.specs.Shape.{count_of}
use Rattle.word_rows.specs.OpWords.{SpellsOp}
use Rattle.word_rows.specs.Places.{place}
use Rattle.word_rows.specs.Memory.{Shows}
use Rattle.table_model.specs.Setup.{Setup, seats_of, next_number}
use Rattle.table_model.specs.Worlds.{world_after, seat_in}
use Rattle.table_model.specs.Reading.{words_from, op_spelling}
use Rattle.table_model.specs.Promises.{words_in}
use Rattle.table_model.specs.Rows.{OpRowsAreRight, announced_by}
use Rattle.run_invariant.proofs.InFlight.{used_of}
use Rattle.run_invariant.proofs.Numbers.{next_op, op_no_more, op_no_within}
use Rattle.run_invariant.proofs.Invariant.{Common, Shared, op_no}
use Rattle.run_laws.proofs.Opened.{all_holds}

-- so many words from a word on are these
pub words_are : (words xs : List ℕ) (start : ℕ) → start + length xs ≤ length words →
    ((j : ℕ) → j < length xs → get_or words (start + j) 0 ≡ get_or xs j 0) → words_from words start (length xs) ≡ xs
words_are words xs start fits same =
    let long : length (take (length xs) (drop start words)) ≡ length xs =
    length-take-le (length xs) (drop start words) (omega (arith, length-drop start words, fits)) in
    ext_get_or 0 (take (length xs) (drop start words)) xs long
    (λ j h. let inside : j < length xs = omega (arith, h, long) in
    get_or-take (length xs) (drop start words) j 0 inside ∙ get_or-drop start words j 0 ∙ same j inside)

module _ (setup : Setup) (words : List ℕ) (c : Common) (shows : Shows setup.shape words c.memory) (s : Shared setup c)
    (seat : ℕ) (h : seat < seats_of setup) where
  -- the words of an announced op row are those of the history
  pub op_words_are : (j : ℕ) → j < (c.used seat).op_rows →
      op_spelling setup.shape words (op_no setup seat j) ≡ c.op_words seat j
  op_words_are j n =
      let row = op_no setup seat j in
      let within : row < count_of setup.shape OpRows =
      op_no_within setup seat j s.opened h (omega (arith, n, s.calls.few seat h)) in
      let long : length (c.op_words seat j) ≡ OP_WORDS = (s.calls.sound seat j h n).long in
      let more : (row + 1) * OP_WORDS ≤ count_of setup.shape OpRows * OP_WORDS =
      mul-le-mul_right OP_WORDS (omega (arith, within)) in
      let one : (row + 1) * OP_WORDS ≡ row * OP_WORDS + OP_WORDS =
      ap (λ x. x * OP_WORDS) (add-one row) ∙ suc-mul row OP_WORDS in
      ap (words_from words (place setup.shape (OpWord row 0))) (sym long)
      ∙ words_are words (c.op_words seat j) (place setup.shape (OpWord row 0))
      (omega (arith, shows.long, more, one, long))
      (λ i hi. ap (λ p. get_or words p 0) (omega arith) ∙ shows.same (OpWord row i) (within, omega (arith, hi, long))
      ∙ s.calls.ops_are seat j i h n (omega (arith, hi, long)))

  -- and they spell its op
  pub op_spelled : (j : ℕ) → j < (c.used seat).op_rows → (op : OpRow)
      × SpellsOp op (op_spelling setup.shape words (op_no setup seat j))
  op_spelled j n =
      let op : OpRow = record { number = (c.op_at seat j).number; call = (c.op_at seat j).call } in
      (op, subst (SpellsOp op) (sym (op_words_are j n)) (s.calls.sound seat j h n).spells)

  -- the seat announces its last one
  pub announced_is : c.memory.announced seat ≡ announced_by setup seat (c.used seat)
  announced_is = go (eqb (c.used seat).op_rows 0) refl (cases_eq (c.memory.announced seat) 0)
    where
      go : (t : Bool) → eqb (c.used seat).op_rows 0 ≡ t → (c.memory.announced seat ≡ 0)
          ⊎ (c.memory.announced seat ≢ 0) → c.memory.announced seat ≡ cond t 0
          (next_number setup seat OpRows (c.used seat))
      go true e (inl z) = z
      go true e (inr n) = absurd (omega (arith, eqb-true (c.used seat).op_rows 0 e, (s.calls.posted seat h n).0))
      go false e (inl z) = absurd (eqb-false (c.used seat).op_rows 0 e (s.calls.none seat h z))
      go false e (inr n) =
          let p = s.calls.posted seat h n in
          let more : (c.used seat).op_rows - 1 + 1 ≡ (c.used seat).op_rows = omega (arith, p.0) in
          p.1 ∙ op_no_more setup seat ((c.used seat).op_rows - 1) 1 ∙ ap (op_no setup seat) more
          ∙ sym (next_op setup seat (c.used seat))

-- in every run
pub op_rows_are_right : OpRowsAreRight
unfolding op_no
op_rows_are_right setup events seat run h =
    let holds = all_holds setup events run in
    let follows = holds.follows in
    let c = holds.common in
    let words = words_in setup events in
    let same = used_of setup c seat (seat_in (world_after setup events) seat).account.used (holds.locals seat)
    (seat_in (world_after setup events) seat).stand (follows.seats seat h) in (
      follows.shows.same (Announcement seat) h ∙ announced_is setup words c follows.shows follows.shared seat h
          ∙ ap (announced_by setup seat) same,
      λ j n. op_spelled setup words c follows.shows follows.shared seat h j
          (subst (λ (u : SeatRows). j < u.op_rows) (sym same) n),
    )
