-- The row in use of a bucket that was a key's at an earlier moment was the current row of the key at some moment from
-- then on: as long as the directory leads there, it is; and when the bucket left the directory, it was frozen, so that
-- its row in use is the one from before.
use Rattle.std.proofs.Common.{◌≡◌, ◌≢◌, ℕ, true, List, [], ◌∷◌, ◌++◌, inl, inr, refl, sym, ap, ◌∙◌, subst, arith, append_assoc}
use Rattle.std.specs.Prelude.{fold}
use Rattle.std.proofs.lemmas.Bool.{cases_eq}
use Rattle.std.proofs.lemmas.List.{append-nil}
use Rattle.plain_map.specs.declared.keys.Key.{Key}
use Rattle.word_rows.specs.declared.addresses.Address.TheVariants.{BucketWord}
use Rattle.word_rows.specs.Places.{place}
use Rattle.bucket_states.specs.States.{BucketState}
use Rattle.table_model.specs.declared.events.Event.{Event}
use Rattle.table_model.specs.Setup.{Setup}
use Rattle.table_model.specs.Worlds.{World, IsRun, happens, opening_world, world_after}
use Rattle.table_model.specs.Reading.{bucket_at, bucket_by, named_buckets, root_of, row_of}
use Rattle.table_model.specs.Promises.{Among, words_in}
use Rattle.run_invariant.proofs.Invariant.{Common, lead, last}
use Rattle.run_invariant.proofs.Histories.{changed_between}
use Rattle.helping_laws.proofs.ByPlace
use Rattle.helping_laws.proofs.Extends.{lead_same}
use Rattle.helping_laws.proofs.Stays.{Moments, moments}
use Rattle.run_laws.proofs.TwoParts.{run_first}
use Rattle.peek_laws.specs.Peeks.{WasCurrent, RowsWereCurrent}
use Rattle.peek_laws.proofs.OneWord.{Changes, one_word, others_stay}

-- the bucket of the key at a moment
abbrev pub bucket_then : Setup → List Event → Key → ℕ
bucket_then setup events key = bucket_by setup (words_in setup events) (root_of setup.shape (words_in setup events)) key

-- the row in use of a bucket
abbrev pub row_then : Setup → List Event → ℕ → ℕ
row_then setup events bucket = row_of setup.shape (words_in setup events) bucket

-- two moments of a run
module _ (setup : Setup) (key : Key) (events later : List Event) (run : IsRun setup (events ++ later)) where
  -- the two, and what the later one keeps of the earlier
  abbrev m : Moments setup (world_after setup events) (world_after setup (events ++ later))
  m = moments setup events later run

  abbrev c : Common
  c = m.was.common

  abbrev d : Common
  d = m.now.common

  -- the words before and after
  abbrev was : List ℕ
  was = words_in setup events

  abbrev now : List ℕ
  now = words_in setup (events ++ later)

  -- the bucket of the key at the first
  abbrev b : ℕ
  b = bucket_then setup events key

  -- it is the one to which the last directory row leads
  b_is : b ≡ lead setup c c.dir_top key
  b_is = ByPlace.by_root setup was c m.was.follows.shows m.was.follows.shared m.was.follows.descent key

  -- so it is named
  named : c.named b ≡ true
  named = subst (λ x. c.named x ≡ true) (sym b_is) (m.was.follows.shared.leads.there c.dir_top key (omega arith))

  -- a bucket that is frozen has the same row in use at the second
  pub frozen_stays : (x : ℕ) → c.named x ≡ true → (last c x).frozen ≡ true →
      row_then setup (events ++ later) x ≡ row_then setup events x
  frozen_stays x n f =
      let up = (m.extends.named_up x n).0 in
      ByPlace.word_is setup now d m.now.follows.shows m.now.follows.shared m.now.follows.descent x up
      ∙ ap (d.row_at x) (m.extends.frozen x n f) ∙ (m.extends.rows x (c.top x) n (omega arith)).0
      ∙ sym (ByPlace.word_is setup was c m.was.follows.shows m.was.follows.shared m.was.follows.descent x n)

  -- the words say whether a bucket is frozen
  frozen_was : (x : ℕ) → c.named x ≡ true →
      (bucket_at setup.shape was (row_then setup events x)).frozen ≡ (last c x).frozen
  frozen_was x n =
      ap (λ r. (bucket_at setup.shape was r).frozen)
      (ByPlace.word_is setup was c m.was.follows.shows m.was.follows.shared m.was.follows.descent x n)
      ∙ ap (λ (s : BucketState). s.frozen) (ByPlace.state_is setup was c m.was.follows.shows m.was.follows.shared
      m.was.follows.descent x (c.top x) n (omega arith))

  -- where the key has another bucket at the second
  module _ (moved : bucket_then setup (events ++ later) key ≢ b) where
    -- the directories lead to another
    leads : lead setup d d.dir_top key ≢ lead setup d c.dir_top key
    leads same = moved (
        ByPlace.by_root setup now d m.now.follows.shows m.now.follows.shared m.now.follows.descent key ∙ same
        ∙ lead_same setup c d m.extends c.dir_top key (omega arith) ∙ sym b_is
        )

    -- so the root is another
    pub root_moved : root_of setup.shape now ≢ root_of setup.shape was
    root_moved same =
        let e = m.extends in
        let z = m.now.follows.shared in
        let at = z.directories.once d.dir_top c.dir_top (omega arith) e.dir_up
        (sym (ByPlace.root_is setup now d m.now.follows.shows z m.now.follows.descent) ∙ same
        ∙ ByPlace.root_is setup was c m.was.follows.shows m.was.follows.shared m.was.follows.descent
        ∙ sym (e.dirs c.dir_top (omega arith)).0) in
        leads (ap (λ v. lead setup d v key) at)

    -- and its bucket is frozen
    pub frozen_now : Among (named_buckets setup.shape now) b
        × ((bucket_at setup.shape now (row_then setup (events ++ later) b)).frozen ≡ true)
    frozen_now =
        let z = m.now.follows.shared in
        let r = changed_between setup d z key c.dir_top d.dir_top m.extends.dir_up leads in
        let step = z.leads.step r.0 key r.2 (λ x. r.4 (x ∙ r.3)) in
        let same : lead setup d r.0 key ≡ b =
        r.3 ∙ lead_same setup c d m.extends c.dir_top key (omega arith) ∙ sym b_is in
        let n : d.named b ≡ true = (m.extends.named_up b named).0 in (
          ByPlace.among_named setup now d m.now.follows.shows z m.now.follows.descent b n,
          ap (λ x. (bucket_at setup.shape now x).frozen)
              (ByPlace.word_is setup now d m.now.follows.shows z m.now.follows.descent b n)
              ∙ ap (λ (s : BucketState). s.frozen) (ByPlace.state_is setup now d m.now.follows.shows z
              m.now.follows.descent b (d.top b) n (omega arith))
              ∙ subst (λ x. (last d x).frozen ≡ true) same step.frozen,
        )

  -- a bucket whose row in use is frozen keeps it
  pub frozen_keeps : (x : ℕ) → Among (named_buckets setup.shape was) x →
      (bucket_at setup.shape was (row_then setup events x)).frozen ≡ true →
      row_then setup (events ++ later) x ≡ row_then setup events x
  frozen_keeps x among f =
      let n = ByPlace.named_is setup was c m.was.follows.shows m.was.follows.shared m.was.follows.descent x among in
      frozen_stays x n (sym (frozen_was x n) ∙ f)

-- one event more
happen_last : (setup : Setup) (w : World) (events : List Event) (e : Event) →
    fold (happens setup) w (events ++ e ∷ []) ≡ happens setup (fold (happens setup) w events) e
happen_last setup w [] e = refl
happen_last setup w (event ∷ events) e = happen_last setup (happens setup w event) events e

-- the words after it
words_next : (setup : Setup) (events : List Event) (e : Event) →
    words_in setup (events ++ e ∷ []) ≡ (happens setup (world_after setup events) e).words
words_next setup events e = ap (λ (w : World). w.words) (happen_last setup (opening_world setup) events e)

-- at the event by which the directory leads elsewhere the row in use of the bucket stays
stays_at : (setup : Setup) (key : Key) (events : List Event) (e : Event) → IsRun setup (events ++ e ∷ []) →
    bucket_then setup (events ++ e ∷ []) key ≢ bucket_then setup events key →
    row_then setup (events ++ e ∷ []) (bucket_then setup events key)
    ≡ row_then setup events (bucket_then setup events key)
stays_at setup key events e run moved =
    others_stay (words_in setup events) (words_in setup (events ++ e ∷ []))
    (subst (Changes (words_in setup events)) (sym (words_next setup events e))
    (one_word setup (world_after setup events) e))
    (root_moved setup key events (e ∷ []) run moved)
    (place setup.shape (BucketWord (bucket_then setup events key))) (λ same. absurd (omega (arith, same)))

-- so that row was the key's at some moment
pub was_current : (setup : Setup) (key : Key) (later events : List Event) → IsRun setup (events ++ later) →
    WasCurrent setup events (events ++ later) key (row_then setup (events ++ later) (bucket_then setup events key))
was_current setup key [] events run = record {
  moment = events;
  between = record { before = []; after = []; from_first = sym (append-nil events); to_last = refl };
  is = ap (λ es. row_then setup es (bucket_then setup events key)) (append-nil events);
}
was_current setup key (e ∷ rest) events run =
    let next : List Event = events ++ e ∷ [] in
    let b : ℕ = bucket_then setup events key in
    let same : next ++ rest ≡ events ++ e ∷ rest = append_assoc events (e ∷ []) rest in
    let whole : IsRun setup (next ++ rest) = subst (IsRun setup) (sym same) run in
    elim (cases_eq (bucket_then setup next key) b) [
      | inl still ↦
          let r = was_current setup key rest next whole in
          record {
            moment = r.moment;
            between = record {
              before = e ∷ r.between.before;
              after = r.between.after;
              from_first = r.between.from_first ∙ append_assoc events (e ∷ []) r.between.before;
              to_last = sym same ∙ r.between.to_last;
            };
            is = ap (λ es. row_then setup es b) (sym same) ∙ ap (row_then setup (next ++ rest)) (sym still) ∙ r.is;
          }
      | inr moved ↦
          let one = run_first setup next rest whole in
          let frozen = frozen_now setup key events (e ∷ []) one moved in
          record {
            moment = events;
            between = record {
              before = [];
              after = e ∷ rest;
              from_first = sym (append-nil events);
              to_last = refl;
            };
            is = ap (λ es. row_then setup es b) (sym same)
                ∙ frozen_keeps setup key next rest whole b frozen.0 frozen.1
                ∙ stays_at setup key events e one moved;
          }
    ]

-- in every run
pub rows_were_current : RowsWereCurrent
rows_were_current setup events later key run = was_current setup key later events run
