-- What a closed table must say of its rows, by positions, for its order to be legal: which rows and directory rows
-- there are, from which each was made, and what its calls make of what the one before it holds.
use Rattle.std.proofs.Common.{◌≡◌, ◌≢◌, ℕ, zero, suc, ◌+◌, ◌<◌, ◌≤◌, ◌⊎◌, Bool, true, List, Some, inl, inr, sym, ap, ◌∙◌, arith}
use Rattle.std.specs.Prelude.{◌-◌}
use Rattle.std.proofs.lemmas.Bool.{cases_eq}
use Rattle.plain_map.specs.declared.keys.Key.{Key}
use Rattle.plain_map.specs.declared.keys.Pair.{Pair}
use Rattle.plain_map.specs.declared.records.Record.{Record}
use Rattle.plain_map.specs.Calls.{key_in}
use Rattle.plain_map.specs.PlainObject.{Sessions, reply_of, map_after}
use Rattle.plain_map.specs.History.{Placed, call_in, Legal, sessions_after}
use Rattle.bucket_states.specs.Items.{prefix_of}
use Rattle.bucket_states.specs.Parts.{HoldsPart}
use Rattle.table_model.specs.Setup.{Setup, rules_of}
use Rattle.table_model.specs.Reading.{bucket_row, directory_row, is_among}
use Rattle.table_model.specs.Order.{Closing, ByBucketRow, ByDirectoryRow, ByLookup, lookups_of, calls_in, first_rows, pieces_of, start_of}
use Rattle.list_laws.proofs.Lists.{In}

-- the published rows, by positions
pub record Story : Type 0 where
  pub dir_top : ℕ
  pub dir_row : ℕ → ℕ
  pub lead : ℕ → Key → ℕ
  pub named : ℕ → Bool
  pub pre : ℕ → ℕ
  pub deep : ℕ → ℕ
  pub born : ℕ → ℕ
  pub top : ℕ → ℕ
  pub row_at : ℕ → ℕ → ℕ
  pub items_at : ℕ → ℕ → List Pair

-- the key has the bucket's prefix
abbrev pub Suits : Setup → Story → ℕ → Key → Type 0
Suits setup s b key = prefix_of (rules_of setup) (s.deep b) key ≡ s.pre b

-- these sessions hold in the part of a bucket what its row at a position has
abbrev pub Holds : Setup → Story → ℕ → ℕ → Sessions → Type 0
Holds setup s b i sessions = HoldsPart (rules_of setup) (s.pre b) (s.deep b) (s.items_at b i) sessions

-- where they lead
pub record Leading (setup : Setup) (s : Story) : Type 0 where
  pub dir_once : (u v : ℕ) → u ≤ s.dir_top → v ≤ s.dir_top → s.dir_row u ≡ s.dir_row v → u ≡ v
  pub row_once : (a b i j : ℕ) → s.named a ≡ true → s.named b ≡ true → i ≤ s.top a → j ≤ s.top b →
      s.row_at a i ≡ s.row_at b j → (a ≡ b) × (i ≡ j)
  pub there : (v : ℕ) (key : Key) → v ≤ s.dir_top → s.named (s.lead v key) ≡ true
  pub for_it : (v : ℕ) (key : Key) → v ≤ s.dir_top → Suits setup s (s.lead v key) key
  -- a bucket is led to by all keys of its prefix
  pub led : (v : ℕ) (key other : Key) → v ≤ s.dir_top → Suits setup s (s.lead v key) other →
      s.lead v other ≡ s.lead v key
  pub born_within : (b : ℕ) → s.named b ≡ true → s.born b ≤ s.dir_top
  pub born_leads : (b : ℕ) (key : Key) → s.named b ≡ true → Suits setup s b key → s.lead (s.born b) key ≡ b
  pub newborn : (v : ℕ) (key : Key) → v < s.dir_top → s.lead (v + 1) key ≢ s.lead v key →
      s.born (s.lead (v + 1) key) ≡ v + 1

-- a bucket row that was exchanged
pub record RowPiece (setup : Setup) (closing : Closing) (s : Story) (row : ℕ) : Type 0 where
  pub bucket : ℕ
  pub before : ℕ
  pub named : s.named bucket ≡ true
  pub inside : before < s.top bucket
  pub is : row ≡ s.row_at bucket (before + 1)
  pub base : (bucket_row setup.shape closing.words row).base ≡ Some (s.row_at bucket before)
  pub keys : (c : Placed) → In c (calls_in setup.shape closing (ByBucketRow row)) →
      Suits setup s bucket (key_in (call_in c))
  pub fold : (sessions : Sessions) → Holds setup s bucket before sessions →
      Holds setup s bucket (before + 1) (sessions_after (rules_of setup) sessions
      (calls_in setup.shape closing (ByBucketRow row)))
      × Legal (rules_of setup) sessions (calls_in setup.shape closing (ByBucketRow row))

-- the first row of a bucket that a directory row named first
pub record FirstRow (s : Story) (version row : ℕ) : Type 0 where
  pub bucket : ℕ
  pub named : s.named bucket ≡ true
  pub born : s.born bucket ≡ version
  pub is : row ≡ s.row_at bucket 0

-- a directory row other than the first
pub record DirPiece (setup : Setup) (closing : Closing) (s : Story) (row : ℕ) : Type 0 where
  pub before : ℕ
  pub inside : before < s.dir_top
  pub is : row ≡ s.dir_row (before + 1)
  pub base : (directory_row setup.shape closing.words row).base ≡ Some (s.dir_row before)
  pub firsts : (first : ℕ) → In first (first_rows setup.shape closing.words row) → FirstRow s (before + 1) first
  pub all_firsts : (b : ℕ) → s.named b ≡ true → s.born b ≡ before + 1 →
      In (s.row_at b 0) (first_rows setup.shape closing.words row)
  pub bases : (key : Key) → s.lead (before + 1) key ≢ s.lead before key →
      (bucket_row setup.shape closing.words (s.row_at (s.lead (before + 1) key) 0)).base ≡ Some
      (s.row_at (s.lead before key) (s.top (s.lead before key)))
  pub keys : (c : Placed) → In c (calls_in setup.shape closing (ByDirectoryRow row)) →
      s.lead (before + 1) (key_in (call_in c)) ≢ s.lead before (key_in (call_in c))
  pub fold : (sessions : Sessions) → ((key : Key) → s.lead (before + 1) key ≢ s.lead before key →
      Holds setup s (s.lead before key) (s.top (s.lead before key)) sessions) →
      ((key : Key) → s.lead (before + 1) key ≢ s.lead before key →
      Holds setup s (s.lead (before + 1) key) 0
      (sessions_after (rules_of setup) sessions (calls_in setup.shape closing (ByDirectoryRow row))))
      × Legal (rules_of setup) sessions (calls_in setup.shape closing (ByDirectoryRow row))

-- an answered lookup
pub record LookPiece (setup : Setup) (s : Story) (r : Record) : Type 0 where
  pub bucket : ℕ
  pub at : ℕ
  pub named : s.named bucket ≡ true
  pub inside : at ≤ s.top bucket
  pub is : r.place ≡ s.row_at bucket at
  pub suits : Suits setup s bucket (key_in r.call)
  pub reply : (sessions : Sessions) → Holds setup s bucket at sessions →
      r.reply ≡ reply_of (rules_of setup) sessions r.call
  pub nothing : (sessions : Sessions) → map_after (rules_of setup) sessions r.call ≡ sessions

-- all of it
pub record Tells (setup : Setup) (closing : Closing) (first : Sessions) (s : Story) : Type 0 where
  pub leading : Leading setup s
  pub start_rows : (b i : ℕ) → s.named b ≡ true → i ≤ s.top b →
      is_among (start_of setup.shape closing).rows (s.row_at b i) ≡ true → (s.born b ≡ 0) × (i ≡ 0)
  pub rows_start : (b : ℕ) → s.named b ≡ true → s.born b ≡ 0 →
      is_among (start_of setup.shape closing).rows (s.row_at b 0) ≡ true
  pub start_dirs : (v : ℕ) → v ≤ s.dir_top →
      is_among (start_of setup.shape closing).directories (s.dir_row v) ≡ true → v ≡ 0
  pub dirs_start : is_among (start_of setup.shape closing).directories (s.dir_row 0) ≡ true
  pub rows : (row : ℕ) → In (ByBucketRow row) (pieces_of setup.shape closing) → RowPiece setup closing s row
  pub dirs : (row : ℕ) → In (ByDirectoryRow row) (pieces_of setup.shape closing) → DirPiece setup closing s row
  pub looks : (r : Record) → In r (lookups_of closing) → LookPiece setup s r
  pub look_pieces : (r : Record) → In (ByLookup r) (pieces_of setup.shape closing) → In r (lookups_of closing)
  pub first_holds : (key : Key) → Holds setup s (s.lead 0 key) 0 first

module _ (setup : Setup) (s : Story) (l : Leading setup s) (key : Key) where
  -- a bucket that is no longer led to was replaced by one of the versions between
  changes : (u k : ℕ) → s.lead (u + k) key ≢ s.lead u key →
      (v : ℕ) × (u ≤ v) × (v < u + k) × (s.lead v key ≡ s.lead u key) × (s.lead (v + 1) key ≢ s.lead u key)
  changes u zero n = absurd (n (ap (λ x. s.lead x key) (omega arith)))
  changes u (suc k) n = elim (cases_eq (s.lead (u + k) key) (s.lead u key)) [
    | inr m ↦ let r = changes u k m in (r.0, r.1, omega (arith, r.2), r.3, r.4)
    | inl e ↦ (u + k, omega arith, omega arith, e, λ x. n (ap (λ y. s.lead y key) (omega arith) ∙ x))
  ]

  -- a bucket is led to from its birth on, or a directory row retired it
  pub leads_or_retired : (b v : ℕ) → s.named b ≡ true → s.born b ≤ v → Suits setup s b key →
      (s.lead v key ≡ b) ⊎ ((u : ℕ) × (u < v) × (s.lead u key ≡ b) × (s.lead (u + 1) key ≢ s.lead u key))
  leads_or_retired b v n o suits =
      let at : s.lead (s.born b) key ≡ b = l.born_leads b key n suits in
      let same : s.born b + (v - s.born b) ≡ v = omega (arith, o) in
      elim (cases_eq (s.lead v key) b) [
        | inl e ↦ inl e
        | inr m ↦ let r = changes (s.born b) (v - s.born b) (λ x. m (ap (λ y. s.lead y key) (sym same) ∙ x ∙ at)) in
            inr (r.0, omega (arith, r.2, same), r.3 ∙ at, λ x. r.4 (x ∙ r.3))
      ]
