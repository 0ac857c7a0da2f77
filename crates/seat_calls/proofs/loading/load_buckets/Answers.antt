-- Each op's bucket is loaded before the next op is looked at.
use Rattle.std.proofs.Common.{◌≡◌, ◌+◌, ◌∙◌, ℕ, List, [], ◌∷◌, ◌++◌, Option, Some, None, take, drop, suc, map, sym, ap, subst, arith, false}
use Rattle.std.specs.List.{list_any}
use Rattle.std.proofs.lemmas.List.{take_all}
use Rattle.plain_map.specs.Calls.{key_in}
use Rattle.bucket_states.specs.declared.ops.Op.{Op}
use Rattle.table_model.specs.Directories.{bucket_of}
use Rattle.table_model.specs.DirectoryChange.{is_bucket}
use Rattle.table_model.specs.Fits.{Makes}
use Rattle.table_model.specs.Phases.{DirWord}
use Rattle.step_counts.specs.StepCounts.{bucket_row_words}
use Rattle.word_rows.specs.Shape.{Shape}
use Rattle.table_model.specs.Goes.{after_loaded}
use Rattle.table_model.specs.Setup.{rules_of, settings_of}
use Rattle.dir_states.specs.Views.{as_loaded}
use Rattle.list_laws.proofs.Cuts.{cut_at}
use Rattle.seat_calls.specs.Going.{Going, later}
use Rattle.seat_calls.specs.Loads.{AddsBucket, HasLoaded, IsLoaded}
use Rattle.seat_calls.specs.Tries.{directory_trying}
use Rattle.seat_calls.proofs.DeskLemmas.{rules_same}
use Rattle.seat_calls.proofs.LoadLemmas.{all_loaded, found_new, found_next, found_none, found_old, take_one}
use Rattle.seat_calls.proofs.loading.load_buckets.Goals as goal
use Rattle.seat_calls.proofs.loading.load_buckets.Goals.{in-Some+then-not-is_loaded, in-Some+else-not-is_loaded, in_default}

pub load_bucket-requires-clause-phase : goal.load_bucket-requires-clause-phase
load_bucket-requires-clause-phase g c =
    let first : Going = g.S.Steps.now c.args.steps.now in
    let now : Going = g.S.Steps.now c.loop-i.steps in
    let a = c.args.attempt.now in
    let t = directory_trying a in
    let ops = c.args.ops.now in
    let i = c.loop-i.i in
    let op = c.in-Some.op in
    let loaded = map as_loaded (take c.loop-i.count c.loop-i.loaded) in
    let bucket = c.bucket_in-bucket.result in
    let is : bucket ≡ bucket_of (rules_of first.setup) t.directory (key_in op.call) =
    c.bucket_in-bucket.ensures ∙ (λ j. bucket_of (rules_same first c.args.desk.now c.requires.desk j) t.directory
    (c.key.ensures j)) in
    let cut : ops ≡ take i ops ++ Some op ∷ drop (suc i) ops =
    cut_at ops i None c.loop-i-test.true
    ∙ ap (λ (o : Option Op). take i ops ++ o ∷ drop (suc i) ops) c.in-Some.is in
    let new : list_any (is_bucket bucket) loaded ≡ false = sym c.is_loaded.ensures ∙ c.if-not-is_loaded.true in
    found_next first now a.round t ops (take i ops) loaded c.loop-i.spent c.loop-i.invariant.found op
    (drop (suc i) ops) cut
    (subst (λ (b : ℕ). list_any (is_bucket b) loaded ≡ false) is new)
    ∙ ap (DirWord a.round t ops loaded) (sym is)

pub returns-clause-goes : goal.returns-clause-goes
returns-clause-goes g c =
    let first : Going = g.S.Steps.now c.args.steps.now in
    let now : Going = g.S.Steps.now c.loop-i.steps in
    let a = c.args.attempt.now in
    let t = directory_trying a in
    let ops = c.args.ops.now in
    let loaded = map as_loaded (take c.loop-i.count c.loop-i.loaded) in
    let found = subst (λ (front : List (Option Op)). HasLoaded first now a.round t ops front loaded c.loop-i.spent)
    (take_all c.loop-i.i ops c.loop-i-test.false) c.loop-i.invariant.found in
    found.goes ∙ ap (later first c.loop-i.spent) (all_loaded first now a.round t ops loaded c.loop-i.spent found)

pub returns-clause-makes : goal.returns-clause-makes
returns-clause-makes g c =
    let first : Going = g.S.Steps.now c.args.steps.now in
    let now : Going = g.S.Steps.now c.loop-i.steps in
    let a = c.args.attempt.now in
    let t = directory_trying a in
    let ops = c.args.ops.now in
    let loaded = map as_loaded (take c.loop-i.count c.loop-i.loaded) in
    let found = subst (λ (front : List (Option Op)). HasLoaded first now a.round t ops front loaded c.loop-i.spent)
    (take_all c.loop-i.i ops c.loop-i-test.false) c.loop-i.invariant.found in
    subst (Makes first.setup) (all_loaded first now a.round t ops loaded c.loop-i.spent found) found.makes

pub loop-i-preserved : goal.loop-i-preserved
loop-i-preserved g c =
    let first : Going = g.S.Steps.now c.args.steps.now in
    let now : Going = g.S.Steps.now c.loop-i.steps in
    let a = c.args.attempt.now in
    let t = directory_trying a in
    let ops = c.args.ops.now in
    let i = c.loop-i.i in
    let v = c.loop-i.invariant in
    let spent = c.loop-i.spent in
    let loaded = map as_loaded (take c.loop-i.count c.loop-i.loaded) in
    let wide : 1 + bucket_row_words (settings_of now.setup) ≡ 1 + c.args.desk.now.row_words =
    ap (λ (s : Shape). 1 + bucket_row_words s.settings)
    (ap (λ (h : Going). h.setup.shape) v.found.goes ∙ c.requires.desk.shape)
    ∙ ap (λ (k : ℕ). 1 + k) (sym c.args.desk.now.starts.row) in
    let one = take_one ops i (i + 1) None (omega arith) c.loop-i-test.true in
    elim c.match-ops-i.branch [
      | in-Some+then-not-is_loaded w ↦ (
          let op = w.in-Some.op in
          let is : w.bucket_in-bucket.result ≡ bucket_of (rules_of first.setup) t.directory (key_in op.call) =
          w.bucket_in-bucket.ensures ∙ (λ j. bucket_of (rules_same first c.args.desk.now c.requires.desk j)
          t.directory (w.key.ensures j)) in
          let next = one ∙ ap (λ (o : Option Op). take i ops ++ o ∷ []) w.in-Some.is in
          let now_loaded = map as_loaded (take (c.loop-i.count + 1) w.load_bucket.new.loaded) in
          let last : Going = g.S.Steps.now w.load_bucket.new.steps in
          let adds = subst (λ (b : ℕ). AddsBucket b loaded now_loaded) is w.load_bucket.ensures.adds in
          rw (w.steps-is, w.room-is, w.loaded-is, w.count-is, w.spent-is) (record {
            len = w.load_bucket.ensures.len ∙ v.len;
            found = subst (λ (front : List (Option Op)). HasLoaded first last a.round t ops front now_loaded
                (spent + (1 + c.args.desk.now.row_words))) (sym next)
                (found_new first now a.round t ops (take i ops) loaded spent v.found op last now_loaded
                (1 + c.args.desk.now.row_words) adds
                (w.load_bucket.ensures.goes
                ∙ ap (λ (k : ℕ). later now k (after_loaded now.setup a.round t ops now_loaded)) wide)
                w.load_bucket.ensures.makes);
            few = omega (arith, v.few);
            short = omega (arith, v.short, c.args.desk.now.starts.row);
            room = w.load_bucket.ensures.room;
            each = w.load_bucket.ensures.each;
            items = w.load_bucket.ensures.items;
          }))
      | in-Some+else-not-is_loaded w ↦ (
          let op = w.in-Some.op in
          let is : w.bucket_in-bucket.result ≡ bucket_of (rules_of first.setup) t.directory (key_in op.call) =
          w.bucket_in-bucket.ensures ∙ (λ j. bucket_of (rules_same first c.args.desk.now c.requires.desk j)
          t.directory (w.key.ensures j)) in
          let next = one ∙ ap (λ (o : Option Op). take i ops ++ o ∷ []) w.in-Some.is in
          let old : IsLoaded loaded w.bucket_in-bucket.result = sym w.is_loaded.ensures ∙ w.if-not-is_loaded.false in
          rw (w.steps-is, w.room-is, w.loaded-is, w.count-is, w.spent-is) (record {
            len = v.len;
            found = subst (λ (front : List (Option Op)). HasLoaded first now a.round t ops front loaded spent)
                (sym next)
                (found_old first now a.round t ops (take i ops) loaded spent v.found op
                (subst (IsLoaded loaded) is old));
            few = omega (arith, v.few);
            short = omega (arith, v.short);
            room = v.room;
            each = v.each;
            items = v.items;
          }))
      | in_default w ↦ (
          let next = one ∙ ap (λ (o : Option Op). take i ops ++ o ∷ []) w.in_default.is in
          rw (w.steps-is, w.room-is, w.loaded-is, w.count-is, w.spent-is) (record {
            len = v.len;
            found = subst (λ (front : List (Option Op)). HasLoaded first now a.round t ops front loaded spent)
                (sym next)
                (found_none first now a.round t ops (take i ops) loaded spent v.found);
            few = omega (arith, v.few);
            short = omega (arith, v.short);
            room = v.room;
            each = v.each;
            items = v.items;
          }))
    ]
