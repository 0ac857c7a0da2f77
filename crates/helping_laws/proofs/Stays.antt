-- What is published stays, with its words; and the words of a table never return to a row that they have left.
use Rattle.std.proofs.Common.{◌≡◌, ℕ, zero, suc, ◌<◌, ◌≤◌, List, ◌∷◌, sym, ap, ◌∙◌, subst, arith, add-one}
use Rattle.std.specs.Prelude.{Some, ◌++◌}
use Rattle.word_rows.specs.BaseWords.{word_of_base}
use Rattle.word_rows.specs.Memory.{Shows}
use Rattle.word_rows.proofs.DirectoryLemmas.{base_spelled}
use Rattle.table_model.specs.declared.events.Event.{Event}
use Rattle.table_model.specs.Setup.{Setup, seats_of}
use Rattle.table_model.specs.Directories.{DirectoryState}
use Rattle.table_model.specs.Worlds.{World, IsRun, world_after, seat_in}
use Rattle.table_model.specs.Reading.{bucket_spelling, directory_spelling, op_spelling, bucket_rows, directory_rows, named_buckets, root_of, row_of}
use Rattle.table_model.specs.Promises.{Among, RowsStay, OpRowsStay, WordsNeverReturn}
use Rattle.run_invariant.proofs.Invariant.{Common, Shared, Descends, op_no}
use Rattle.run_invariant.proofs.InFlight.{used_of}
use Rattle.run_laws.proofs.OpRows.{op_words_are}
use Rattle.run_laws.proofs.Induction.{Holds}
use Rattle.run_laws.proofs.Opened.{all_holds}
use Rattle.run_laws.proofs.TwoParts.{run_first}
use Rattle.closed_laws.proofs.FromWords.{bucket_spelling_is, directory_spelling_is}
use Rattle.closed_laws.proofs.Told.{bases}
use Rattle.helping_laws.proofs.ByPlace
use Rattle.helping_laws.proofs.Extends.{Extends, two_moments}

-- two moments of one run
pub record Moments (setup : Setup) (first second : World) : Type 0 where
  pub was : Holds setup first
  pub now : Holds setup second
  pub extends : Extends was.common now.common

-- the moment after the first part of a run, and that after the whole
pub moments : (setup : Setup) (events later : List Event) → IsRun setup (events ++ later) →
    Moments setup (world_after setup events) (world_after setup (events ++ later))
moments setup events later run =
    let first = all_holds setup events (run_first setup events later run) in
    let both = two_moments setup events later run first in
    record {
      was = first;
      now = record { common = both.common; locals = both.locals; follows = both.follows };
      extends = both.holds;
    }

module _ (setup : Setup) (first second : List ℕ) (c d : Common) (was : Shows setup.shape first c.memory)
    (now : Shows setup.shape second d.memory) (s : Shared setup c) (z : Shared setup d) (t : Descends setup c)
    (y : Descends setup d) (e : Extends c d) where
  -- a row that is published is published, and has its words
  pub row_stays : (row : ℕ) → Among (bucket_rows setup.shape first) row →
      Among (bucket_rows setup.shape second) row
      × (bucket_spelling setup.shape second row ≡ bucket_spelling setup.shape first row)
  row_stays row among =
      let r = ByPlace.stood setup first c was s t row among in
      let up = e.named_up r.bucket r.named in
      let same = e.rows r.bucket r.at r.named r.inside in
      let inside : r.at ≤ d.top r.bucket = omega (arith, r.inside, up.3) in
      let there : row ≡ d.row_at r.bucket r.at = r.is ∙ sym same.0 in (
        subst (Among (bucket_rows setup.shape second)) (sym there)
            (ByPlace.among_rows setup second d now z y r.bucket r.at up.0 inside),
        ap (bucket_spelling setup.shape second) there
            ∙ bucket_spelling_is setup second d now z (bases setup d z y) r.bucket r.at up.0 inside ∙ same.1
            ∙ sym (ap (bucket_spelling setup.shape first) r.is
            ∙ bucket_spelling_is setup first c was s (bases setup c s t) r.bucket r.at r.named r.inside),
      )

  -- the word of a directory row that tells what it was made from
  base_word : (v : ℕ) → v ≤ c.dir_top → d.memory.directory (d.dir_row v) 1 ≡ c.memory.directory (c.dir_row v) 1
  base_word v o =
      sym (base_spelled (d.memory.directory (d.dir_row v) 1))
      ∙ ap word_of_base (y.dir_says v (omega (arith, o, e.dir_up)) ∙ base v o ∙ sym (t.dir_says v o))
      ∙ base_spelled (c.memory.directory (c.dir_row v) 1)
    where
      base : (v : ℕ) → v ≤ c.dir_top → d.dir_base v ≡ c.dir_base v
      base zero o = y.dir_first ∙ sym t.dir_first
      base (suc v) o = ap d.dir_base (sym (add-one v)) ∙ y.dir_bases v (omega (arith, o, e.dir_up))
          ∙ ap Some (e.dirs v (omega (arith, o))).0
          ∙ sym (ap c.dir_base (sym (add-one v)) ∙ t.dir_bases v (omega (arith, o)))

  -- so does a directory row
  pub directory_stays : (row : ℕ) → Among (directory_rows setup.shape first) row →
      Among (directory_rows setup.shape second) row
      × (directory_spelling setup.shape second row ≡ directory_spelling setup.shape first row)
  directory_stays row among =
      let r = ByPlace.version_is setup first c was s t row among in
      let v = r.0 in
      let same = e.dirs v r.1 in
      let inside : v ≤ d.dir_top = omega (arith, r.1, e.dir_up) in
      let there : row ≡ d.dir_row v = r.2 ∙ sym same.0 in (
        subst (Among (directory_rows setup.shape second)) (sym there)
            (ByPlace.among_versions setup second d now z y v inside),
        ap (directory_spelling setup.shape second) there
            ∙ directory_spelling_is setup second d now z (bases setup d z y) v inside
            ∙ ap (λ (x : DirectoryState). x.depth ∷ d.memory.directory (d.dir_row v) 1 ∷ x.entries) same.1
            ∙ ap (λ x. (c.dir_at v).depth ∷ x ∷ (c.dir_at v).entries) (base_word v r.1)
            ∙ sym (ap (directory_spelling setup.shape first) r.2
            ∙ directory_spelling_is setup first c was s (bases setup c s t) v r.1),
      )

  -- so are the op rows of a seat
  pub op_stays : (seat place : ℕ) → seat < seats_of setup → place < (c.used seat).op_rows →
      op_spelling setup.shape second (op_no setup seat place) ≡ op_spelling setup.shape first (op_no setup seat place)
  op_stays seat place h n =
      op_words_are setup second d now z seat h place (omega (arith, n, e.ops_up seat)) ∙ (e.calls seat place n).1
      ∙ sym (op_words_are setup first c was s seat h place n)

  -- ---- a third moment

  module _ (third : List ℕ) (f : Common) (after : Shows setup.shape third f.memory) (g : Shared setup f)
      (x : Descends setup f) (more : Extends d f) where
    -- the root does not return to a row that it has left
    pub root_left : root_of setup.shape first ≡ root_of setup.shape third →
        root_of setup.shape first ≡ root_of setup.shape second
    root_left same =
        let old = e.dirs c.dir_top (omega arith) in
        let kept = more.dirs c.dir_top e.dir_up in
        let at = g.directories.once c.dir_top f.dir_top (omega (arith, e.dir_up, more.dir_up)) (omega arith)
        (kept.0 ∙ old.0 ∙ sym (ByPlace.root_is setup first c was s t) ∙ same
        ∙ ByPlace.root_is setup third f after g x) in
        let here : c.dir_top ≡ d.dir_top = omega (arith, at, e.dir_up, more.dir_up) in
        ByPlace.root_is setup first c was s t ∙ sym old.0 ∙ ap d.dir_row here
        ∙ sym (ByPlace.root_is setup second d now z y)

    -- nor does a bucket word
    pub word_left : (b : ℕ) → Among (named_buckets setup.shape first) b →
        row_of setup.shape first b ≡ row_of setup.shape third b →
        row_of setup.shape first b ≡ row_of setup.shape second b
    word_left b among same =
        let n = ByPlace.named_is setup first c was s t b among in
        let up = e.named_up b n in
        let further = more.named_up b up.0 in
        let old = e.rows b (c.top b) n (omega arith) in
        let kept = more.rows b (c.top b) up.0 up.3 in
        let at = (g.rows.once b b (c.top b) (f.top b) further.0 further.0 (omega (arith, up.3, further.3)) (omega arith)
        (kept.0 ∙ old.0 ∙ sym (ByPlace.word_is setup first c was s t b n) ∙ same
        ∙ ByPlace.word_is setup third f after g x b further.0)).1 in
        let here : c.top b ≡ d.top b = omega (arith, at, up.3, further.3) in
        ByPlace.word_is setup first c was s t b n ∙ sym old.0 ∙ ap (d.row_at b) here
        ∙ sym (ByPlace.word_is setup second d now z y b up.0)

-- ---- the promises

-- published rows stay, and keep their words
pub rows_stay : RowsStay
rows_stay setup events later row run =
    let m = moments setup events later run in (
      row_stays setup _ _ m.was.common m.now.common m.was.follows.shows m.now.follows.shows m.was.follows.shared
          m.now.follows.shared m.was.follows.descent m.now.follows.descent m.extends row,
      directory_stays setup _ _ m.was.common m.now.common m.was.follows.shows m.now.follows.shows m.was.follows.shared
          m.now.follows.shared m.was.follows.descent m.now.follows.descent m.extends row,
    )

-- so do announced op rows
pub op_rows_stay : OpRowsStay
unfolding op_no
op_rows_stay setup events later seat place run h n =
    let m = moments setup events later run in
    let same = used_of setup m.was.common seat (seat_in (world_after setup events) seat).account.used
    (m.was.locals seat) (seat_in (world_after setup events) seat).stand (m.was.follows.seats seat h) in
    op_stays setup _ _ m.was.common m.now.common m.was.follows.shows m.now.follows.shows m.was.follows.shared
    m.now.follows.shared m.was.follows.descent m.now.follows.descent m.extends seat place h
    (omega (arith, n, ap (λ u. u.op_rows) same))

-- no word returns to a row that it has left
pub words_never_return : WordsNeverReturn
words_never_return setup events later more run =
    let m = moments setup events later (run_first setup (events ++ later) more run) in
    let third = two_moments setup (events ++ later) more run m.now in
    let end = third.follows in (
      root_left setup _ _ m.was.common m.now.common m.was.follows.shows m.now.follows.shows m.was.follows.shared
          m.now.follows.shared m.was.follows.descent m.now.follows.descent m.extends
          _ third.common end.shows end.shared end.descent third.holds,
      word_left setup _ _ m.was.common m.now.common m.was.follows.shows m.now.follows.shows m.was.follows.shared
          m.now.follows.shared m.was.follows.descent m.now.follows.descent m.extends
          _ third.common end.shows end.shared end.descent third.holds,
    )
