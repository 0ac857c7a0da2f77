-- What a reader knows stays true as the run goes on, its loads are on words of the table, and each word that it finds
-- leads it on: so in the end it has the reply of one moment.
use Rattle.std.proofs.Common.{◌≡◌, ℕ, ◌+◌, ◌*◌, ◌^◌, ◌<◌, ◌≤◌, true, ltb, List, [], ◌∷◌, ◌++◌, length, get_or, take, drop, refl, sym, ap, ◌∙◌, subst, arith, append_assoc, get_or-drop, length-drop, pow_mono}
use Rattle.std.proofs.lemmas.Bool.{cond_both, ltb-false, ltb-true}
use Rattle.std.proofs.lemmas.List.{append-nil, length_push}
use Rattle.step_counts.specs.declared.TheConstants.{ITEM_WORDS}
use Rattle.step_counts.specs.declared.rows.SeatRows.{SeatRows}
use Rattle.plain_map.specs.declared.keys.Key.{Key}
use Rattle.plain_map.specs.declared.calls.Call.TheVariants.{Lookup}
use Rattle.plain_map.specs.Calls.{key_in}
use Rattle.word_rows.specs.declared.addresses.Address.TheVariants.{BucketWord, BucketRowWord, DirectoryWord}
use Rattle.word_rows.specs.Places.{IsAddress}
use Rattle.word_rows.specs.BucketWords.{items_of_words, words_of_bucket}
use Rattle.word_rows.proofs.BucketLemmas.{items_read}
use Rattle.bucket_states.specs.Items.{reply_in}
use Rattle.bucket_states.specs.States.{BucketState, row_of_state}
use Rattle.table_model.specs.declared.events.Event.{Event}
use Rattle.table_model.specs.declared.rounds.Aim.TheVariants.{ForLookup, ForFirstRound, ForSecondRound, ForLastLook}
use Rattle.table_model.specs.Setup.{Setup, rules_of, seats_of, settings_of}
use Rattle.table_model.specs.Directories.{DirectoryState}
use Rattle.table_model.specs.Phases.{Phase, FindRoot, FindDepth, FindEntry, LookWord, LookCount, LookItems, StoreDone}
use Rattle.table_model.specs.SeatStates.{Flight}
use Rattle.table_model.specs.Asks.{ask_in}
use Rattle.table_model.specs.Steps.{IsOnWord}
use Rattle.table_model.specs.Fits.{Finds}
use Rattle.table_model.specs.Goes.{after_items, phase_after}
use Rattle.table_model.specs.Worlds.{IsRun, found_by, word_at, world_after}
use Rattle.table_model.specs.Reading.{bucket_at, bucket_by, bucket_spelling, current_row, directory_at, root_of, row_of}
use Rattle.table_model.specs.Promises.{words_in}
use Rattle.run_invariant.proofs.Invariant.{Common, bits, lead, width}
use Rattle.run_invariant.proofs.Loads.{bits_below, four_within, width_is}
use Rattle.closed_laws.proofs.FromWords.{bucket_spelling_is}
use Rattle.closed_laws.proofs.Told.{bases}
use Rattle.closed_laws.proofs.Read
use Rattle.helping_laws.proofs.ByPlace
use Rattle.helping_laws.proofs.Stays.{Moments, moments}
use Rattle.list_laws.proofs.Cuts.{seen_more}
use Rattle.run_laws.proofs.TwoParts.{run_first}
use Rattle.peek_laws.specs.Peeks.{IsMomentBetween, WasCurrent}
use Rattle.peek_laws.specs.Glances.{LoadsItems, IsLooking, Sees, WasLed, WasRoot}
use Rattle.peek_laws.proofs.Current.{was_current}
use Rattle.peek_laws.proofs.Replies.{current_rows_reply}

-- ---- as the run goes on

-- a moment stays between
pub goes_on : (first last more moment : List Event) → IsMomentBetween first last moment →
    IsMomentBetween first (last ++ more) moment
goes_on first last more moment b = record {
  before = b.before;
  after = b.after ++ more;
  from_first = b.from_first;
  to_last = ap (λ es. es ++ more) b.to_last ∙ append_assoc moment b.after more;
}

-- and the last goes on from the first
pub last_goes_on : (first last more : List Event) → IsMomentBetween first last last →
    IsMomentBetween first (last ++ more) (last ++ more)
last_goes_on first last more b = record {
  before = b.before ++ more;
  after = [];
  from_first = ap (λ es. es ++ more) b.from_first ∙ append_assoc first b.before more;
  to_last = sym (append-nil (last ++ more));
}

-- what was a moment after one that is between is between
from_there : (first last moment later : List Event) → IsMomentBetween first last moment →
    IsMomentBetween moment last later → IsMomentBetween first last later
from_there first last moment later b l = record {
  before = b.before ++ l.before;
  after = l.after;
  from_first = l.from_first ∙ ap (λ es. es ++ l.before) b.from_first ∙ append_assoc first b.before l.before;
  to_last = l.to_last;
}

-- a row that was current
row_goes_on : (setup : Setup) (first last more : List Event) (key : Key) (row : ℕ) →
    WasCurrent setup first last key row → WasCurrent setup first (last ++ more) key row
row_goes_on setup first last more key row w =
    record { moment = w.moment; between = goes_on first last more w.moment w.between; is = w.is }

-- and a root
root_goes_on : (setup : Setup) (first last more : List Event) (root : ℕ) → WasRoot setup first last root →
    WasRoot setup first (last ++ more) root
root_goes_on setup first last more root w =
    record { moment = w.moment; between = goes_on first last more w.moment w.between; is = w.is }

-- so all that is known stays
pub sees_on : (setup : Setup) (first last more : List Event) (key : Key) (phase : Phase) →
    Sees setup first last key phase → Sees setup first (last ++ more) key phase
unfolding root_goes_on row_goes_on
sees_on setup first last more key (FindRoot aim) k = (k.0, last_goes_on first last more k.1)
sees_on setup first last more key (FindDepth aim root) k = (k.0, root_goes_on setup first last more root k.1)
sees_on setup first last more key (FindEntry aim root depth) k = (
  k.0,
  record { rooted = root_goes_on setup first last more root k.1.rooted; depth_is = k.1.depth_is },
)
sees_on setup first last more key (LookWord root bucket) k =
    record { moment = k.moment; between = goes_on first last more k.moment k.between; is = k.is }
sees_on setup first last more key (LookCount row) k = row_goes_on setup first last more key row k
sees_on setup first last more key (LookItems row count words) k = record {
  current = row_goes_on setup first last more key row k.current;
  count_is = k.count_is;
  few = k.few;
  short = k.short;
  words_are = k.words_are;
}
sees_on setup first last more key (StoreDone reply place) k = record {
  moment = k.moment;
  between = goes_on first last more k.moment k.between;
  reply_is = k.reply_is;
}
sees_on setup first last more key phase k = absurd k

-- ---- what is loaded after a moment

module _ (setup : Setup) (key : Key) (events later : List Event) (run : IsRun setup (events ++ later)) where
  -- the moment, and a later one
  abbrev m : Moments setup (world_after setup events) (world_after setup (events ++ later))
  m = moments setup events later run

  abbrev c : Common
  c = m.was.common

  abbrev d : Common
  d = m.now.common

  -- the words at both
  abbrev was : List ℕ
  was = words_in setup events

  abbrev now : List ℕ
  now = words_in setup (events ++ later)

  -- the directory row in use at the first, and what it says
  abbrev root : ℕ
  root = root_of setup.shape was

  abbrev v : ℕ
  v = c.dir_top

  -- at the later moment it has its place
  root_is : root ≡ d.dir_row v
  root_is = ByPlace.root_is setup was c m.was.follows.shows m.was.follows.shared m.was.follows.descent
      ∙ sym (m.extends.dirs v (omega arith)).0

  -- and says what it said
  directory_was : directory_at setup.shape was root ≡ c.dir_at v
  directory_was =
      ap (directory_at setup.shape was)
      (ByPlace.root_is setup was c m.was.follows.shows m.was.follows.shared m.was.follows.descent)
      ∙ Read.directory_is setup was
      (ByPlace.book setup was c m.was.follows.shows m.was.follows.shared m.was.follows.descent)
      (ByPlace.told setup was c m.was.follows.shows m.was.follows.shared m.was.follows.descent) v (omega arith)

  directory_same : d.dir_at v ≡ directory_at setup.shape was root
  directory_same = (m.extends.dirs v (omega arith)).1 ∙ sym directory_was

  -- its depth is within the table's
  shallow : (directory_at setup.shape was root).depth ≤ setup.shape.settings.depth
  shallow = subst (λ (x : DirectoryState). x.depth ≤ setup.shape.settings.depth) directory_same
      (m.now.follows.shared.directories.shallow v m.extends.dir_up)

  -- its words are words of the table
  pub depth_there : IsAddress setup.shape (DirectoryWord root 0)
  depth_there = (
    omega (arith, m.now.follows.shared.directories.within v m.extends.dir_up, root_is),
    omega arith,
  )

  -- the first is its depth
  pub depth_read : word_at setup.shape now (DirectoryWord root 0) ≡ (directory_at setup.shape was root).depth
  depth_read = m.now.follows.shows.same (DirectoryWord root 0) depth_there
      ∙ ap (λ r. d.memory.directory r 0) root_is
      ∙ m.now.follows.shared.directories.depth_is v m.extends.dir_up
      ∙ ap (λ (x : DirectoryState). x.depth) directory_same

  -- which is that of a table
  pub depth_few : word_at setup.shape now (DirectoryWord root 0) ≤ (settings_of setup).depth
  depth_few = omega (arith, depth_read, shallow)

  module _ (depth : ℕ) (depth_is : depth ≡ (directory_at setup.shape was root).depth) where
    -- the place of the key
    abbrev at : ℕ
    at = bits setup depth key

    at_below : at < 2 ^ (d.dir_at v).depth
    at_below = subst (λ n. bits setup depth key < 2 ^ n)
        (depth_is ∙ sym (ap (λ (x : DirectoryState). x.depth) directory_same))
        (bits_below setup depth key (omega (arith, depth_is, shallow)))

    -- its entry is a word of the table
    pub entry_there : IsAddress setup.shape (DirectoryWord root (2 + at))
    entry_there = (
      omega (arith, m.now.follows.shared.directories.within v m.extends.dir_up, root_is),
      (let up : 2 ^ (d.dir_at v).depth ≤ 2 ^ setup.shape.settings.depth =
          pow_mono (m.now.follows.shared.directories.shallow v m.extends.dir_up) in
          omega (arith, at_below, up)),
    )

    -- and tells the bucket of the key
    pub entry_read : word_at setup.shape now (DirectoryWord root (2 + at)) ≡ bucket_by setup was root key
    entry_read = m.now.follows.shows.same (DirectoryWord root (2 + at)) entry_there
        ∙ ap (λ r. d.memory.directory r (2 + at)) root_is
        ∙ m.now.follows.shared.directories.entries_are v at m.extends.dir_up at_below
        ∙ ap (λ (x : DirectoryState). get_or x.entries at 0) directory_same
        ∙ ap (λ n. get_or (directory_at setup.shape was root).entries (bits setup n key) 0) depth_is

  -- ---- the row that is the key's at the first

  -- its bucket
  abbrev b : ℕ
  b = lead setup c v key

  named : c.named b ≡ true
  named = m.was.follows.shared.leads.there v key (omega arith)

  named_now : d.named b ≡ true
  named_now = (m.extends.named_up b named).0

  -- the bucket of the key has a word
  pub bucket_there : IsAddress setup.shape (BucketWord (bucket_by setup was root key))
  bucket_there = m.now.follows.shared.rows.inside (bucket_by setup was root key)
      (subst (λ x. d.named x ≡ true)
      (sym (ByPlace.by_root setup was c m.was.follows.shows m.was.follows.shared m.was.follows.descent key)) named_now)

  -- the row, and its place
  abbrev row : ℕ
  row = current_row setup was key

  abbrev i : ℕ
  i = c.top b

  row_was : row ≡ c.row_at b i
  row_was = ByPlace.current_is setup was c m.was.follows.shows m.was.follows.shared m.was.follows.descent key

  row_is : row ≡ d.row_at b i
  row_is = row_was ∙ sym (m.extends.rows b i named (omega arith)).0

  inside : i ≤ d.top b
  inside = (m.extends.named_up b named).3

  -- the words that it has
  abbrev pub spelled : List ℕ
  spelled = bucket_spelling setup.shape was row

  spelled_is : spelled ≡ c.words_at b i
  spelled_is = ap (bucket_spelling setup.shape was) row_was
      ∙ bucket_spelling_is setup was c m.was.follows.shows m.was.follows.shared
      (bases setup c m.was.follows.shared m.was.follows.descent) b i named (omega arith)

  spelled_now : d.words_at b i ≡ spelled
  spelled_now = (m.extends.rows b i named (omega arith)).1 ∙ sym spelled_is

  -- there are so many
  pub spelled_long : length spelled ≡ width setup
  spelled_long = ap (λ (ws : List ℕ). length ws) spelled_is
      ∙ (m.was.follows.shared.rows.sound b i named (omega arith)).long

  -- each is a word of the table
  pub word_there : (k : ℕ) → k < width setup → IsAddress setup.shape (BucketRowWord row k)
  word_there k less = (
    omega (arith, m.now.follows.shared.rows.within b i named_now inside, row_is),
    omega (arith, less, width_is setup),
  )

  -- and is the row's
  pub word_read : (k : ℕ) → k < width setup → word_at setup.shape now (BucketRowWord row k) ≡ get_or spelled k 0
  word_read k less = m.now.follows.shows.same (BucketRowWord row k) (word_there k less)
      ∙ ap (λ r. d.memory.bucket_row r k) row_is
      ∙ m.now.follows.shared.rows.rows_are b i k named_now inside less
      ∙ ap (λ ws. get_or ws k 0) spelled_now

  -- its count is that of a table
  pub count_few : get_or spelled 4 0 ≤ (settings_of setup).items
  count_few = subst (λ ws. get_or ws 4 0 ≤ setup.shape.settings.items) (sym spelled_is)
      (m.was.follows.shared.rows.sound b i named (omega arith)).count

  -- and all words of its items say them
  pub items_all : (count : ℕ) (words : List ℕ) → count ≡ get_or spelled 4 0 →
      words ≡ take (length words) (drop 5 spelled) → length words ≡ count * ITEM_WORDS →
      items_of_words count words ≡ (bucket_at setup.shape was row).items
  items_all count words e w l =
      let s = m.was.follows.shared in
      let sound = s.rows.sound b i named (omega arith) in
      let content = row_of_state (c.base_at b i) (c.state_at b i) in
      let spells = spelled_is ∙ sound.spells.1 in
      let many : count ≡ length (c.state_at b i).items = e ∙ ap (λ ws. get_or ws 4 0) spells in
      ap (items_of_words count) (w ∙ ap (λ z. take z (drop 5 spelled)) l
      ∙ ap (λ ws. take (count * ITEM_WORDS) (drop 5 ws)) spells)
      ∙ ap (λ z. items_of_words z (take (z * ITEM_WORDS) (drop 5 (words_of_bucket setup.shape.settings content)))) many
      ∙ items_read setup.shape.settings content sound.spells.0
      ∙ sym (ap (λ (x : BucketState). x.items) (ap (bucket_at setup.shape was) row_was
      ∙ ByPlace.state_is setup was c m.was.follows.shows s m.was.follows.descent b i named (omega arith)))

-- ---- a load, by the phase

-- the later moment is the last
abbrev Whole : Setup → (moment after last : List Event) → Type 0
Whole setup moment after last = (last ≡ moment ++ after) × IsRun setup last

run_there : (setup : Setup) (moment after last : List Event) → last ≡ moment ++ after → IsRun setup last →
    IsRun setup (moment ++ after)
run_there setup moment after last e run = subst (IsRun setup) e run

module _ (setup : Setup) (first last : List Event) (key : Key) (run : IsRun setup last) (seat : ℕ)
    (h : seat < seats_of setup) (used : SeatRows) (flight : Flight) (call : flight.call ≡ Lookup key) where
  -- the key of the call
  key_is : key_in flight.call ≡ key
  key_is = ap key_in call

  -- a row that was current, and its moment
  module _ (row : ℕ) (w : WasCurrent setup first last key row) where
    -- up to the last
    then_run : IsRun setup (w.moment ++ w.between.after)
    then_run = run_there setup w.moment w.between.after last w.between.to_last run

    -- its words are words of the table
    row_there : (k : ℕ) → k < width setup → IsAddress setup.shape (BucketRowWord row k)
    row_there k less = subst (λ r. IsAddress setup.shape (BucketRowWord r k)) (sym w.is)
        (word_there setup key w.moment w.between.after then_run k less)

    -- and are the row's
    row_read : (k : ℕ) → k < width setup →
        word_at setup.shape (words_in setup last) (BucketRowWord row k)
        ≡ get_or (bucket_spelling setup.shape (words_in setup w.moment) row) k 0
    row_read k less =
        ap (λ es. word_at setup.shape (words_in setup es) (BucketRowWord row k)) w.between.to_last
        ∙ ap (λ r. word_at setup.shape (words_in setup (w.moment ++ w.between.after)) (BucketRowWord r k)) w.is
        ∙ word_read setup key w.moment w.between.after then_run k less
        ∙ ap (λ r. get_or (bucket_spelling setup.shape (words_in setup w.moment) r) k 0) (sym w.is)

    -- so many words of its items are loaded: there are more, or the reply is that of the moment
    looked : (count : ℕ) (words : List ℕ) →
        count ≡ get_or (bucket_spelling setup.shape (words_in setup w.moment) row) 4 0 →
        count ≤ (settings_of setup).items →
        words ≡ take (length words) (drop 5 (bucket_spelling setup.shape (words_in setup w.moment) row)) →
        length words ≤ count * ITEM_WORDS → Sees setup first last key (after_items setup flight row count words)
    looked count words c few e less =
        cond_both (ltb (length words) (count * ITEM_WORDS)) (LookItems row count words)
        (StoreDone (reply_in (rules_of setup) (items_of_words count words) flight.call) row)
        (λ ph. Sees setup first last key ph)
        (λ short. record {
          current = w;
          count_is = c;
          few = few;
          short = ltb-true (length words) (count * ITEM_WORDS) short;
          words_are = e;
        })
        (λ all. record {
          moment = w.moment;
          between = w.between;
          reply_is =
              let same = ap (λ r. bucket_spelling setup.shape (words_in setup w.moment) r) w.is in
              ap (λ x. reply_in (rules_of setup) (items_of_words count words) x) call
              ∙ ap (λ items. reply_in (rules_of setup) items (Lookup key))
              (items_all setup key w.moment w.between.after then_run count words
              (c ∙ ap (λ ws. get_or ws 4 0) same) (e ∙ ap (λ ws. take (length words) (drop 5 ws)) same)
              (omega (arith, less, ltb-false (length words) (count * ITEM_WORDS) all)))
              ∙ current_rows_reply setup w.moment key (run_first setup w.moment w.between.after then_run);
        })

    -- its count
    count_is_few : get_or (bucket_spelling setup.shape (words_in setup w.moment) row) 4 0 ≤ (settings_of setup).items
    count_is_few = subst (λ r. get_or (bucket_spelling setup.shape (words_in setup w.moment) r) 4 0
        ≤ (settings_of setup).items) (sym w.is) (count_few setup key w.moment w.between.after then_run)

    -- its length
    row_long : length (bucket_spelling setup.shape (words_in setup w.moment) row) ≡ width setup
    row_long = ap (λ r. length (bucket_spelling setup.shape (words_in setup w.moment) r)) w.is
        ∙ spelled_long setup key w.moment w.between.after then_run

  -- the place of a word of the items
  item_inside : (row count : ℕ) (words : List ℕ) → LoadsItems setup first last key row count words →
      5 + length words < width setup
  item_inside row count words k =
      let most : count * ITEM_WORDS ≤ setup.shape.settings.items * ITEM_WORDS = omega (arith, k.few) in
      omega (arith, most, k.short, width_is setup)

  -- a root, and its moment
  module _ (root : ℕ) (w : WasRoot setup first last root) where
    root_run : IsRun setup (w.moment ++ w.between.after)
    root_run = run_there setup w.moment w.between.after last w.between.to_last run

    -- its depth
    root_there : IsAddress setup.shape (DirectoryWord root 0)
    root_there = subst (λ r. IsAddress setup.shape (DirectoryWord r 0)) (sym w.is)
        (depth_there setup key w.moment w.between.after root_run)

    root_depth : word_at setup.shape (words_in setup last) (DirectoryWord root 0)
        ≡ (directory_at setup.shape (words_in setup w.moment) root).depth
    root_depth =
        ap (λ es. word_at setup.shape (words_in setup es) (DirectoryWord root 0)) w.between.to_last
        ∙ ap (λ r. word_at setup.shape (words_in setup (w.moment ++ w.between.after)) (DirectoryWord r 0)) w.is
        ∙ depth_read setup key w.moment w.between.after root_run
        ∙ ap (λ r. (directory_at setup.shape (words_in setup w.moment) r).depth) (sym w.is)

    root_few : word_at setup.shape (words_in setup last) (DirectoryWord root 0) ≤ (settings_of setup).depth
    root_few = subst (λ u. u ≤ (settings_of setup).depth)
        (ap (λ r. word_at setup.shape (words_in setup (w.moment ++ w.between.after)) (DirectoryWord r 0)) (sym w.is)
        ∙ ap (λ es. word_at setup.shape (words_in setup es) (DirectoryWord root 0)) (sym w.between.to_last))
        (depth_few setup key w.moment w.between.after root_run)

    module _ (depth : ℕ) (e : depth ≡ (directory_at setup.shape (words_in setup w.moment) root).depth) where
      -- the depth by the root of the moment
      depth_then : depth
          ≡ (directory_at setup.shape (words_in setup w.moment) (root_of setup.shape (words_in setup w.moment))).depth
      depth_then = e ∙ ap (λ r. (directory_at setup.shape (words_in setup w.moment) r).depth) w.is

      -- the entry of the key
      root_entry_there : IsAddress setup.shape (DirectoryWord root (2 + bits setup depth key))
      root_entry_there = subst (λ r. IsAddress setup.shape (DirectoryWord r (2 + bits setup depth key))) (sym w.is)
          (entry_there setup key w.moment w.between.after root_run depth depth_then)

      root_entry : word_at setup.shape (words_in setup last) (DirectoryWord root (2 + bits setup depth key))
          ≡ bucket_by setup (words_in setup w.moment) (root_of setup.shape (words_in setup w.moment)) key
      root_entry =
          ap (λ es. word_at setup.shape (words_in setup es) (DirectoryWord root (2 + bits setup depth key)))
          w.between.to_last
          ∙ ap (λ r. word_at setup.shape (words_in setup (w.moment ++ w.between.after))
          (DirectoryWord r (2 + bits setup depth key))) w.is
          ∙ entry_read setup key w.moment w.between.after root_run depth depth_then

  -- a bucket that was the key's
  module _ (bucket : ℕ) (w : WasLed setup first last key bucket) where
    led_run : IsRun setup (w.moment ++ w.between.after)
    led_run = run_there setup w.moment w.between.after last w.between.to_last run

    led_there : IsAddress setup.shape (BucketWord bucket)
    led_there = subst (λ x. IsAddress setup.shape (BucketWord x)) (sym w.is)
        (bucket_there setup key w.moment w.between.after led_run)

    -- its row in use was current
    led_current : WasCurrent setup first last key (row_of setup.shape (words_in setup last) bucket)
    led_current =
        let r = subst (λ es. WasCurrent setup w.moment es key (row_of setup.shape (words_in setup es)
        (bucket_by setup (words_in setup w.moment) (root_of setup.shape (words_in setup w.moment)) key)))
        (sym w.between.to_last) (was_current setup key w.between.after w.moment led_run) in
        record {
          moment = r.moment;
          between = from_there first last w.moment r.moment w.between r.between;
          is = ap (row_of setup.shape (words_in setup last)) w.is ∙ r.is;
        }

  -- each step is on a word of the table
  pub on_word : (phase : Phase) → Sees setup first last key phase →
      IsOnWord setup.shape (ask_in setup seat used flight phase)
  on_word (FindRoot aim) k = tt
  on_word (FindDepth aim version) k = root_there version k.1
  on_word (FindEntry aim version depth) k =
      subst (λ x. IsAddress setup.shape (DirectoryWord version (2 + bits setup depth x))) (sym key_is)
      (root_entry_there version k.1.rooted depth k.1.depth_is)
  on_word (LookWord version bucket) k = led_there bucket k
  on_word (LookCount number) k = row_there number k 4 (four_within setup)
  on_word (LookItems number count words) k =
      row_there number k.current (5 + length words) (item_inside number count words k)
  on_word (StoreDone reply place) k = h
  on_word phase k = absurd k

  -- the word that it finds is what a table holds there
  pub finds : (phase : Phase) → Sees setup first last key phase →
      Finds setup phase (found_by setup (ask_in setup seat used flight phase) (words_in setup last))
  finds (FindRoot aim) k = tt
  finds (FindDepth aim version) k = root_few version k.1
  finds (FindEntry aim version depth) k = tt
  finds (LookWord version bucket) k = tt
  finds (LookCount number) k =
      subst (λ n. n ≤ (settings_of setup).items) (sym (row_read number k 4 (four_within setup))) (count_is_few number k)
  finds (LookItems number count words) k = tt
  finds (StoreDone reply place) k = tt
  finds phase k = absurd k

  -- and leads it on
  pub sees_next : (phase : Phase) → IsLooking phase → Sees setup first last key phase →
      Sees setup first last key (phase_after setup seat used flight phase
      (found_by setup (ask_in setup seat used flight phase) (words_in setup last)))
  sees_next (FindRoot aim) l k = (k.0, record { moment = last; between = k.1; is = refl })
  sees_next (FindDepth aim version) l k = (k.0, record { rooted = k.1; depth_is = root_depth version k.1 })
  sees_next (FindEntry ForLookup version depth) l k = record {
    moment = k.1.rooted.moment;
    between = k.1.rooted.between;
    is = ap (λ x. word_at setup.shape (words_in setup last) (DirectoryWord version (2 + bits setup depth x))) key_is
        ∙ root_entry version k.1.rooted depth k.1.depth_is;
  }
  sees_next (FindEntry ForFirstRound version depth) l k = (let e : ForFirstRound ≡ ForLookup = k.0 in cc)
  sees_next (FindEntry (ForSecondRound other) version depth) l k =
      (let e : ForSecondRound other ≡ ForLookup = k.0 in cc)
  sees_next (FindEntry ForLastLook version depth) l k = (let e : ForLastLook ≡ ForLookup = k.0 in cc)
  sees_next (LookWord version bucket) l k = led_current bucket k
  sees_next (LookCount number) l k = looked number k _ [] (row_read number k 4 (four_within setup))
      (subst (λ n. n ≤ (settings_of setup).items) (sym (row_read number k 4 (four_within setup)))
      (count_is_few number k))
      refl (omega arith)
  sees_next (LookItems number count words) l k =
      let ws = bucket_spelling setup.shape (words_in setup k.current.moment) number in
      let w = word_at setup.shape (words_in setup last) (BucketRowWord number (5 + length words)) in
      let inside = item_inside number count words k in
      let short : length words < length (drop 5 ws) =
      omega (arith, inside, row_long number k.current, length-drop 5 ws) in
      let read : w ≡ get_or (drop 5 ws) (length words) 0 =
      row_read number k.current (5 + length words) inside ∙ sym (get_or-drop 5 ws (length words) 0) in
      looked number k.current count (words ++ w ∷ []) k.count_is k.few
      (seen_more (drop 5 ws) words w short k.words_are read) (omega (arith, k.short, length_push words w))
  sees_next (StoreDone reply place) l k = absurd l
  sees_next phase l k = absurd k
