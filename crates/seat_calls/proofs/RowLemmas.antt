-- A bucket row, loaded for a bucket try, a directory try or the last look.
use Rattle.std.proofs.Common.{◌≡◌, ℕ, ◌+◌, ◌<◌, List, [], ◌∷◌, ◌++◌, length, refl, sym, ap, ◌∙◌, subst, arith}
use Rattle.step_counts.specs.StepCounts.{bucket_row_words}
use Rattle.word_rows.specs.Places.{place}
use Rattle.word_rows.specs.BucketWords.{SpellSomeBucket}
use Rattle.word_rows.specs.declared.addresses.Address.TheVariants.{BucketRowWord}
use Rattle.table_model.specs.declared.events.Action.TheVariants.{Load}
use Rattle.table_model.specs.Setup.{settings_of}
use Rattle.table_model.specs.Phases.{Phase, TryRow, DirRow, LastRow}
use Rattle.table_model.specs.Goes.{more}
use Rattle.table_model.specs.Fits.{Finds, IsRowSoFar, Makes}
use Rattle.seat_calls.specs.Going.{Going, AllFit, Leads, Reads, action, goes, goes_by, later, so_far}
use Rattle.seat_calls.specs.Rows.{IsReading, row_then}
use Rattle.seat_calls.proofs.RunLemmas.{counted, counted_leads, length-more, plus, row_goes, row_last, row_reads, short_is, whole_is}

-- how many words a row has
abbrev pub size : Going → ℕ
size g = bucket_row_words (settings_of g.setup)

-- what a loaded row gives: the state after it, a row that spells a bucket, and what may follow
pub record IsLoaded (g : Going) (whole : List ℕ → Phase) (words : List ℕ) : Type 0 where
  pub goes : goes_by g words ≡ later g (size g) (whole words)
  pub spelled : SpellSomeBucket (settings_of g.setup) words
  pub makes : Makes g.setup (whole words)

-- a row that is loaded in phases of one kind
module _ (g : Going) (short whole : List ℕ → Phase) (start : ℕ)
    (step : (words : List ℕ) (word : ℕ) → length words < size g →
    goes (later g (length words) (short words)) word ≡ plus g (length words)
    (so_far (size g) short whole (words ++ word ∷ [])))
    (asked : (words : List ℕ) → length words < size g →
    action (later g (length words) (short words)) ≡ Load (start + length words))
    (finds : (words : List ℕ) (word : ℕ) → Finds g.setup (short words) word → IsRowSoFar g.setup (more words word))
    (at : g.phase ≡ short []) where
  -- the words, one after the other
  row_leads : Leads (counted g (size g) short whole) start (size g)
  row_leads = counted_leads g (size g) short whole start step asked

  same : so_far (size g) short whole [] ≡ short []
  same = short_is (size g) short whole [] (omega arith)

  pub some_reads : (long : ℕ) → long ≡ size g → Reads g start long
  some_reads long is = row_reads g (size g) short whole start row_leads (short []) at same long is

  pub some_loaded : (words : List ℕ) → length words ≡ size g → AllFit g words → IsLoaded g whole words
  some_loaded words is fits =
      let last = row_last g (size g) short whole start row_leads (short []) at same words is (omega arith) fits in
      let front = last.front in
      let long : length (front ++ last.word ∷ []) ≡ size g = ap {A = List ℕ} {B = ℕ} length (sym last.cut) ∙ is in
      record {
        goes = row_goes g (size g) short whole start row_leads (short []) at same words is;
        spelled = subst (SpellSomeBucket (settings_of g.setup)) (sym last.cut)
            (finds front last.word last.fits.finds (omega (arith, long)));
        makes = subst (Makes g.setup)
            (ap (λ (h : Going). h.phase) (step front last.word (omega (arith, long, length-more front last.word)))
            ∙ whole_is (size g) short whole (front ++ last.word ∷ []) (omega (arith, long))
            ∙ ap whole (sym last.cut)) last.fits.makes;
      }

-- the three kinds of phase
module _ (g : Going) (row start : ℕ) (at : start ≡ place g.setup.shape (BucketRowWord row 0)) where
  -- the phase after the row
  abbrev after : Phase → List ℕ → Phase
  after p = row_then g.setup g.seat g.flight p

  pub reads_of : (p : Phase) → g.phase ≡ p → IsReading p row → (long : ℕ) → long ≡ size g → Reads g start long
  reads_of (TryRow round turn first own words) here is =
      some_reads g (TryRow round turn first row) (after (TryRow round turn first row [])) start (λ ws w h. refl)
      (λ ws h. ap Load (omega (arith, at))) (λ ws w f. f)
      (here ∙ (λ i. TryRow round turn first (is.0 i) (is.1 i)))
  reads_of (DirRow round attempt found loaded bucket own words) here is =
      some_reads g (DirRow round attempt found loaded bucket row)
      (after (DirRow round attempt found loaded bucket row [])) start (λ ws w h. refl)
      (λ ws h. ap Load (omega (arith, at))) (λ ws w f. f)
      (here ∙ (λ i. DirRow round attempt found loaded bucket (is.0 i) (is.1 i)))
  reads_of (LastRow own words) here is =
      some_reads g (LastRow row) (after (LastRow row [])) start (λ ws w h. refl)
      (λ ws h. ap Load (omega (arith, at))) (λ ws w f. f)
      (here ∙ (λ i. LastRow (is.0 i) (is.1 i)))
  reads_of p here is = absurd is

  pub loaded_of : (p : Phase) → g.phase ≡ p → IsReading p row → (words : List ℕ) → length words ≡ size g →
      AllFit g words → IsLoaded g (after p) words
  loaded_of (TryRow round turn first own none) here is words long fits =
      subst (λ (k : ℕ). IsLoaded g (after (TryRow round turn first k [])) words) (sym is.0)
      (some_loaded g (TryRow round turn first row) (after (TryRow round turn first row [])) start (λ ws w h. refl)
      (λ ws h. ap Load (omega (arith, at))) (λ ws w f. f)
      (here ∙ (λ i. TryRow round turn first (is.0 i) (is.1 i))) words long fits)
  loaded_of (DirRow round attempt found loaded bucket own none) here is words long fits =
      subst (λ (k : ℕ). IsLoaded g (after (DirRow round attempt found loaded bucket k [])) words) (sym is.0)
      (some_loaded g (DirRow round attempt found loaded bucket row)
      (after (DirRow round attempt found loaded bucket row [])) start (λ ws w h. refl)
      (λ ws h. ap Load (omega (arith, at))) (λ ws w f. f)
      (here ∙ (λ i. DirRow round attempt found loaded bucket (is.0 i) (is.1 i))) words long fits)
  loaded_of (LastRow own none) here is words long fits =
      subst (λ (k : ℕ). IsLoaded g (after (LastRow k [])) words) (sym is.0)
      (some_loaded g (LastRow row) (after (LastRow row [])) start (λ ws w h. refl)
      (λ ws h. ap Load (omega (arith, at))) (λ ws w f. f)
      (here ∙ (λ i. LastRow (is.0 i) (is.1 i))) words long fits)
  loaded_of p here is words long fits = absurd is
