-- The promises about leaves, and that automatic rows suffice.
use Rattle.std.proofs.Common.{◌≡◌, ◌≢◌, ℕ, zero, suc, ◌+◌, ◌^◌, ◌<◌, ◌≤◌, true, ltb, List, [], ◌∷◌, length, get_or, map, Option, Some, None, inl, inr, refl, sym, ap, ◌∙◌, subst, arith}
use Rattle.std.specs.Prelude.{slice_index}
use Rattle.std.proofs.lemmas.Bool.{cond_both, ltb-true}
use Rattle.std.proofs.lemmas.List.{get_or-map, length-map}
use Rattle.std.proofs.Math.Nat.{le-min}
use Rattle.step_counts.specs.declared.rows.SeatRows.{SeatRows}
use Rattle.step_counts.specs.StepCounts.{need_of, automatic_rows_of}
use Rattle.plain_map.specs.declared.calls.Call.{Call}
use Rattle.plain_map.specs.declared.calls.Call.TheVariants.{Insert, Remove, Lookup, Tally, Count, Put}
use Rattle.plain_map.specs.declared.full.Full.{Full}
use Rattle.plain_map.specs.Room.{IsEnough, left_of, refusal, first_short, no_rows}
use Rattle.word_rows.specs.Shape.{sizes_of}
use Rattle.bucket_states.specs.States.{BucketState}
use Rattle.table_model.specs.declared.events.Event.{Event}
use Rattle.table_model.specs.Setup.{Setup, settings_of, seats_of}
use Rattle.table_model.specs.Worlds.{world_after, seat_in}
use Rattle.table_model.specs.Reading.{bucket_at, directory_row, named_buckets, directory_rows, leaves_new_in, row_of, is_among}
use Rattle.table_model.specs.Promises.{LeavesComeInTwos, LeavesComeOnce, RowsSuffice}
use Rattle.list_laws.proofs.Lists.{In}
use Rattle.closed_laws.proofs.Book.{Book, Written}
use Rattle.closed_laws.proofs.Read.{named_in, directory_rows_in, dir_base_is, new_leaf_in}
use Rattle.closed_laws.proofs.Lines.{among_is_in}
use Rattle.bound_laws.proofs.Read.{book, kept, state_read}
use Rattle.bound_laws.proofs.Family.{once}
use Rattle.bound_laws.proofs.Counts.{roots_most, words_most}
use Rattle.bound_laws.proofs.Spending.{Spent, SpentStand}
use Rattle.bound_laws.proofs.Whole.{Calling, called}

-- ---- leaves

-- a list with two members has two
two_long : (xs : List ℕ) (a b : ℕ) → a ≢ b → In a xs → In b xs → 2 ≤ length xs
two_long [] a b n i j = elim i [ ]
two_long (x ∷ []) a b n (inl e) (inl f) = absurd (n (e ∙ sym f))
two_long (x ∷ []) a b n (inl e) (inr j) = elim j [ ]
two_long (x ∷ []) a b n (inr i) j = elim i [ ]
two_long (x ∷ y ∷ xs) a b n i j = omega arith

module _ (setup : Setup) (events : List Event) (a : Calling setup (world_after setup events)) where
  abbrev words : List ℕ
  words = (world_after setup events).words

  abbrev k : Book
  k = book setup words a.common a.follows.shows a.follows.shared a.follows.descent

  -- what the words tell
  w : Written setup words k
  w = kept setup words a.common a.follows.shows a.follows.shared a.follows.descent

  -- the first directory row was made from none
  twos_at : (row base v : ℕ) → v ≤ a.common.dir_top → row ≡ a.common.dir_row v →
      (directory_row setup.shape words row).base ≡ Some base → 2 ≤ length (leaves_new_in setup.shape words row)
  twos_at row base zero o e based =
      absurd (clash (sym w.dir_first ∙ sym (dir_base_is setup words k w 0 o)
      ∙ ap (λ r. (directory_row setup.shape words r).base) (sym e) ∙ based))
    where
      clash : None ≡ Some base → ⊥
      clash x = cc
  twos_at row base (suc v) o e based =
      let p = a.holds.0.twos v (omega (arith, o)) in
      let next : suc v ≡ v + 1 = omega arith in
      subst (λ r. 2 ≤ length (leaves_new_in setup.shape words r)) (sym (e ∙ ap a.common.dir_row next))
      (two_long (leaves_new_in setup.shape words (a.common.dir_row (v + 1))) p.one p.other p.apart
      (new_leaf_in setup words k w v p.one (omega (arith, o)) p.one_there p.one_born)
      (new_leaf_in setup words k w v p.other (omega (arith, o)) p.other_there p.other_born))

  -- for each published directory row
  twos_in : (row base : ℕ) → is_among (directory_rows setup.shape words) row ≡ true →
      (directory_row setup.shape words row).base ≡ Some base → 2 ≤ length (leaves_new_in setup.shape words row)
  twos_in row base among based =
      (let at = directory_rows_in setup words k w row (among_is_in (directory_rows setup.shape words) row among) in
      twos_at row base at.0 at.1 at.2 based)

-- the promises about leaves
pub leaves_come_in_twos : LeavesComeInTwos
leaves_come_in_twos setup events row base run among based =
    twos_in setup events (called setup events run) row base among based

pub leaves_come_once : LeavesComeOnce
leaves_come_once setup events a b run ma mb deep pre =
    let x = called setup events run in
    let words = (world_after setup events).words in
    let c = x.common in
    let k = book setup words c x.follows.shows x.follows.shared x.follows.descent in
    let w = kept setup words c x.follows.shows x.follows.shared x.follows.descent in
    let na = named_in setup words k w a (among_is_in (named_buckets setup.shape words) a ma) in
    let nb = named_in setup words k w b (among_is_in (named_buckets setup.shape words) b mb) in
    let at : (i : ℕ) → c.named i ≡ true → bucket_at setup.shape words (row_of setup.shape words i) ≡ c.state_at i
    (c.top i) =
    λ i n. ap (bucket_at setup.shape words) (w.word_is i n) ∙ state_read setup words c x.follows.shows x.follows.shared
    x.follows.descent i (c.top i) n (omega arith) in
    let ra = x.follows.shared.rows.sound a (c.top a) na (omega arith) in
    let rb = x.follows.shared.rows.sound b (c.top b) nb (omega arith) in
    once setup c x.follows.shared x.follows.descent a b na nb
    (sym ra.depth_is ∙ ap (λ (s : BucketState). s.depth) (sym (at a na)) ∙ deep
    ∙ ap (λ (s : BucketState). s.depth) (at b nb) ∙ rb.depth_is)
    (sym ra.prefix_is ∙ ap (λ (s : BucketState). s.prefix) (sym (at a na)) ∙ pre
    ∙ ap (λ (s : BucketState). s.prefix) (at b nb) ∙ rb.prefix_is)

-- ---- rows

none_short : (left need : SeatRows) → IsEnough left need → first_short left need ≡ None
none_short left need e =
    let P : Option Full → Type 0 = λ o. o ≡ None in
    cond_both (ltb left.op_rows need.op_rows) _ _ P
    (λ x. absurd (omega (arith, ltb-true left.op_rows need.op_rows x, e.op_rows)))
    (λ _. cond_both (ltb left.bucket_rows need.bucket_rows) _ _ P
    (λ x. absurd (omega (arith, ltb-true left.bucket_rows need.bucket_rows x, e.bucket_rows)))
    (λ _. cond_both (ltb left.bucket_words need.bucket_words) _ _ P
    (λ x. absurd (omega (arith, ltb-true left.bucket_words need.bucket_words x, e.bucket_words)))
    (λ _. cond_both (ltb left.directory_rows need.directory_rows) _ _ P
    (λ x. absurd (omega (arith, ltb-true left.directory_rows need.directory_rows x, e.directory_rows)))
    (λ _. refl))))

-- where as much is left as is needed, no call is refused
pub enough_none : (left need : SeatRows) (call : Call) → IsEnough left need → refusal left need call ≡ None
enough_none left need (Lookup key) e = refl
enough_none left need (Insert key value) e = none_short left need e
enough_none left need (Remove key) e = none_short left need e
enough_none left need (Tally key amount) e = none_short left need e
enough_none left need (Count key value amount) e = none_short left need e
enough_none left need (Put key value) e = none_short left need e

-- a seat's ranges
pub sizes_are : (setup : Setup) (f : ℕ → SeatRows) (updates : List ℕ) (seat : ℕ) → setup.shape.ranges ≡ map f updates →
    length setup.shape.ranges ≡ seats_of setup → seat < seats_of setup →
    sizes_of setup.shape seat ≡ f (slice_index updates seat)
sizes_are setup f updates seat e long h = ap (λ xs. get_or xs seat no_rows) e
    ∙ get_or-map f updates seat 0 no_rows (omega (arith, h, long, ap length e, length-map updates f))

-- the promise about automatic rows
pub rows_suffice : RowsSuffice
rows_suffice setup updates events seat call run h ranges idle few =
    let a = called setup events run in
    let c = a.common in
    let spends = (a.holds.1 seat h).spends in
    let account = (seat_in (world_after setup events) seat).account in
    let spent : Spent account 0 0 0 = subst (SpentStand account) idle spends.stand in
    let words = words_most setup c a.follows.shared a.follows.descent seat account.used.bucket_words spends.words in
    let roots = roots_most setup c a.follows.shared a.follows.descent a.holds.0.twos in
    let many = slice_index updates seat in
    let sizes = sizes_are setup (automatic_rows_of (settings_of setup)) updates seat ranges
    a.follows.shared.opened.shape.each_seat h in
    subst (λ rows. refusal (left_of rows account.used) (need_of (settings_of setup)) call ≡ None) (sym sizes)
    (enough_none (left_of (automatic_rows_of (settings_of setup) (slice_index updates seat)) account.used)
    (need_of (settings_of setup)) call (record {
      op_rows = omega (arith, spent.op_rows, few);
      bucket_rows = omega (arith, spent.bucket_rows, few, words);
      bucket_words = omega (arith, words);
      directory_rows =
          (let both = le-min {k = account.used.directory_rows + 1} {a = many} {b = 2 ^ setup.shape.settings.depth + 1}
          (omega (arith, spent.directory_rows, few)) (omega (arith, spends.dirs, roots)) in omega (arith, both));
    }))
