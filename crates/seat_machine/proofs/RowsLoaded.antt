-- A try after the last word of a bucket's row.
use Rattle.std.proofs.Common.{◌≡◌, ℕ, ◌≤◌, Bool, false, cond, List, length, Option, refl, sym, ap, ◌∙◌, subst, arith}
use Rattle.std.specs.Prelude.{nat_lt}
use Rattle.std.proofs.lemmas.Bool.Decides.{nat_tests}
use Rattle.step_counts.specs.StepCounts.{bucket_row_words}
use Rattle.bucket_states.specs.declared.ops.Op.{Op}
use Rattle.table_model.specs.Directories.{DirectoryState}
use Rattle.table_model.specs.DirectoryChange.{LoadedBucket}
use Rattle.table_model.specs.Fits.{Makes}
use Rattle.table_model.specs.Goes.{after_loaded, after_loaded_words, after_row, after_row_words, bucket_in_words, more, phase_after}
use Rattle.table_model.specs.declared.rounds.Round.{Round}
use Rattle.table_model.specs.Phases.{DirRow, DirectoryTry, Phase, TryRow}
use Rattle.table_model.specs.Setup.{Setup, settings_of}
use Rattle.dir_states.specs.Views.{as_directory}
use Rattle.seat_machine.specs.declared.machine.Machine.{Machine}
use Rattle.seat_machine.specs.declared.stage.Stage.{Stage}
use Rattle.seat_machine.specs.declared.stage.Stage.TheVariants as S
use Rattle.seat_machine.specs.Stages.{attempt_of, directory_try_of, phase_at}
use Rattle.seat_machine.specs.Stands.{AreFew, LoadsNext, LoadsOn}
use Rattle.seat_machine.specs.View.{flight_of, held_of, loaded_in, phase_then, setup_of, sizes}
use Rattle.seat_machine.proofs.LoadLemmas.{few_more}

-- a bucket whose row is loaded whole is one more of those that were loaded
abbrev pub bucket_read : Setup → (bucket row : ℕ) → List ℕ → LoadedBucket
bucket_read setup bucket row words =
    record { bucket = bucket; row = row; state = bucket_in_words setup words }

whole_row : (setup : Setup) (round : Round) (attempt : DirectoryTry) (found : List (Option Op))
    (loaded : List LoadedBucket) (bucket row : ℕ) (words : List ℕ) →
    length words ≡ bucket_row_words (settings_of setup) →
    after_loaded_words setup round attempt found loaded bucket row words
    ≡ after_loaded setup round attempt found (more loaded (bucket_read setup bucket row words))
whole_row setup round attempt found loaded bucket row words whole =
    let long : nat_lt (length words) (bucket_row_words (settings_of setup)) ≡ false = grind (arith, nat_tests) in
    ap (λ (b : Bool). cond b (DirRow round attempt found loaded bucket row words)
    (after_loaded setup round attempt found (more loaded (bucket_read setup bucket row words)))) long

module _ (m now : Machine) (round : Round) (turn first root bucket row word : ℕ) (ws : List ℕ)
    (at : m.stage ≡ S.DirRow round turn first root bucket row) (grown : ws ≡ more m.words.items word)
    (whole : length ws ≡ bucket_row_words (sizes m)) (setup : setup_of now ≡ setup_of m)
    (directory : now.directory ≡ m.directory) (found : now.found ≡ m.found)
    (loaded : loaded_in now ≡ more (loaded_in m) (bucket_read (setup_of m) bucket row ws)) where
  -- the phase then, by the machine after
  abbrev pub after : Phase
  after = after_loaded (setup_of now) round (directory_try_of turn first root (as_directory now.directory))
      now.found.items (loaded_in now)

  -- the try, as it was
  abbrev attempt : DirectoryTry
  attempt = directory_try_of turn first root (as_directory m.directory)

  now_is : after
      ≡ after_loaded (setup_of m) round attempt m.found.items
      (more (loaded_in m) (bucket_read (setup_of m) bucket row ws))
  now_is = λ i. after_loaded (setup i) round (directory_try_of turn first root (as_directory (directory i)))
      (found i).items (loaded i)

  pub loaded_then : after ≡ phase_then m word
  loaded_then =
      now_is
      ∙ sym (whole_row (setup_of m) round attempt m.found.items (loaded_in m) bucket row ws whole)
      ∙ ap (λ (x : List ℕ). after_loaded_words (setup_of m) round attempt m.found.items (loaded_in m) bucket row x)
      grown
      ∙ sym (ap (λ (s : Stage). phase_after (setup_of m) m.seat m.used (flight_of m) (phase_at s (held_of m)) word) at)

  pub loaded_makes : Makes (setup_of m) (phase_then m word) → Makes (setup_of now) after
  loaded_makes makes =
      subst (λ (s : Setup). Makes s after) (sym setup) (subst (Makes (setup_of m)) (sym loaded_then) makes)

  pub loads_more : LoadsOn m → LoadsNext m bucket → now.many ≤ length now.loaded.items → LoadsOn now
  loads_more loads next within =
      let one = bucket_read (setup_of m) bucket row ws in
      let grew = few_more (loaded_in m) one (setup_of m) (as_directory m.directory) m.found.items bucket loads.few
      next refl in
      let depth : now.directory.depth ≡ m.directory.depth = λ i. (directory i).depth in
      let most : (sizes now).depth ≡ (sizes m).depth = λ i. (setup i).shape.settings.depth in
      let seats : (sizes now).seats ≡ (sizes m).seats = λ i. (setup i).shape.settings.seats in
      let many : length now.found.items ≡ length m.found.items = λ i. length (found i).items in
      record {
        depth = omega (arith, depth, most, loads.depth);
        all = omega (arith, seats, many, loads.all);
        within = within;
        few = subst (λ (s : Setup). AreFew s (as_directory now.directory) now.found.items (loaded_in now)) (sym setup)
            (subst (λ (d : DirectoryState). AreFew (setup_of m) d now.found.items (loaded_in now))
            (λ i. as_directory (sym directory i))
            (subst (λ (f : List (Option Op)). AreFew (setup_of m) (as_directory m.directory) f (loaded_in now))
            (λ i. (sym found i).items)
            (subst (λ (l : List LoadedBucket). AreFew (setup_of m) (as_directory m.directory) m.found.items l)
            (sym loaded) grew)));
      }

-- a bucket try after the last word of its row
pub row_then : (m : Machine) (round : Round) (turn first row word : ℕ) (ws : List ℕ) →
    m.stage ≡ S.TryRow round turn first row → ws ≡ more m.words.items word →
    length ws ≡ bucket_row_words (sizes m) →
    after_row m.seat (flight_of m) round (attempt_of turn first row (bucket_in_words (setup_of m) ws))
    ≡ phase_then m word
row_then m round turn first row word ws at grown whole =
    let long : nat_lt (length ws) (bucket_row_words (sizes m)) ≡ false = grind (arith, nat_tests) in
    sym (ap (λ (b : Bool). cond b (TryRow round turn first row ws) (after_row m.seat (flight_of m) round
    (attempt_of turn first row (bucket_in_words (setup_of m) ws)))) long)
    ∙ ap (λ (x : List ℕ). after_row_words (setup_of m) m.seat (flight_of m) round turn first row x) grown
    ∙ sym (ap (λ (s : Stage). phase_after (setup_of m) m.seat m.used (flight_of m) (phase_at s (held_of m)) word) at)
