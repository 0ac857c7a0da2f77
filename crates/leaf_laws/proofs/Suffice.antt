-- The promise that the rows by keys suffice.
use Rattle.std.proofs.Common.{◌≡◌, ◌+◌, ◌*◌, ◌^◌, sym, subst, arith}
use Rattle.std.specs.Prelude.{min, slice_index}
use Rattle.std.specs.Prelude.{None}
use Rattle.std.proofs.Math.Nat.{le-min}
use Rattle.step_counts.specs.StepCounts.{need_of, new_leaves, automatic_rows_of}
use Rattle.plain_map.specs.Room.{left_of, refusal}
use Rattle.table_model.specs.Setup.{settings_of}
use Rattle.table_model.specs.Worlds.{world_after, seat_in}
use Rattle.table_model.specs.Promises.{updates_in}
use Rattle.table_model.specs.Needs.{inserted_in}
use Rattle.bound_laws.proofs.Batches.{few_roots, few_words, few_rows}
use Rattle.bound_laws.proofs.Counts.{roots_most, words_most}
use Rattle.bound_laws.proofs.Spending.{Spent, SpentStand}
use Rattle.bound_laws.proofs.Gains.{GainsStand}
use Rattle.bound_laws.proofs.Suffice.{enough_none, sizes_are}
use Rattle.bound_laws.proofs.Whole.{called}
use Rattle.leaf_laws.specs.Leaves.{splits_by, rows_by, RowsByKeysSuffice}
use Rattle.leaf_laws.proofs.Crowds.{splits_are_by_keys}

-- at each kind both the automatic ones do and those that so many keys can need
pub rows_by_keys_suffice : RowsByKeysSuffice
rows_by_keys_suffice setup keys updates events seat call run h come ranges idle few =
    let a = called setup events run in
    let c = a.common in
    let by = splits_are_by_keys setup keys events come in
    let splits = splits_by (settings_of setup) keys in
    let many = slice_index updates seat in
    let x = a.holds.1 seat h in
    let account = (seat_in (world_after setup events) seat).account in
    let used = account.used in
    let gain = a.extra seat in
    let spent : Spent account 0 0 0 = subst (SpentStand account) idle x.spends.stand in
    let gained = subst (GainsStand c account gain) idle x.gains.stand in
    let words = words_most setup c a.follows.shared a.follows.descent seat used.bucket_words x.spends.words in
    let roots = roots_most setup c a.follows.shared a.follows.descent a.holds.0.twos in
    let batch_words = few_words setup events a (inserted_in events) (λ key e. e) seat h in
    let batch_rows = few_rows setup events a (inserted_in events) (λ key e. e) seat h in
    let batch_roots = few_roots setup events a (inserted_in events) (λ key e. e) in
    let need = need_of (settings_of setup) in
    let rows = rows_by (settings_of setup) many keys in
    let sizes = sizes_are setup (λ m. rows_by (settings_of setup) m keys) updates seat ranges
    a.follows.shared.opened.shape.each_seat h in
    let two =
    le-min {k = updates_in account + 2} {a = 2 * many} {b = many + 1} (omega (arith, few)) (omega (arith, few)) in
    let bucket = le-min {k = used.bucket_rows + need.bucket_rows}
    {a = (automatic_rows_of (settings_of setup) many).bucket_rows}
    {b = min (2 * many) (many + 1) + 2 * splits + new_leaves (settings_of setup)}
    (omega (arith, spent.bucket_rows, few, words)) (omega (arith, batch_rows, gained.0, two, by)) in
    let word = le-min {k = used.bucket_words + need.bucket_words}
    {a = (automatic_rows_of (settings_of setup) many).bucket_words}
    {b = 2 * splits + new_leaves (settings_of setup)}
    (omega (arith, words)) (omega (arith, batch_words, by)) in
    let least = le-min {k = used.directory_rows + 1} {a = many} {b = 2 ^ setup.shape.settings.depth + 1}
    (omega (arith, spent.directory_rows, few)) (omega (arith, x.spends.dirs, roots)) in
    let batch = le-min {k = used.directory_rows + 1} {a = many} {b = splits + 1}
    (omega (arith, spent.directory_rows, few)) (omega (arith, x.spends.dirs, batch_roots, by)) in
    let dirs = le-min {k = used.directory_rows + 1} {a = min many (2 ^ setup.shape.settings.depth + 1)}
    {b = min many (splits + 1)} least batch in
    subst (λ r. refusal (left_of r used) need call ≡ None) (sym sizes)
    (enough_none (left_of rows used) need call (record {
      op_rows = omega (arith, spent.op_rows, few);
      bucket_rows = omega (arith, bucket);
      bucket_words = omega (arith, word);
      directory_rows = omega (arith, dirs);
    }))
