-- What a step does to the words: they stay small, each class that is wanted is one, and hold words come to hold rows.
use Rattle.std.proofs.Common.{◌≡◌, ◌≢◌, ◌⊎◌, ℕ, ◌+◌, ◌-◌, ◌<◌, inl, inr, Option, Some, None, refl, sym, ◌∙◌, subst}
use Rattle.std.specs.Prelude.{◌==◌}
use Rattle.std.proofs.lemmas.Bool.{cases_eq, cond_both}
use Rattle.plain_map.specs.declared.calls.Call.{Call}
use Rattle.plain_map.specs.Calls.{key_in}
use Rattle.word_rows.specs.Memory.{put, put_at}
use Rattle.word_rows.proofs.MemoryLemmas.{put_at_same, put_at_row, put_at_place}
use Rattle.exchange_model.specs.Plans.{Plan, IsPlan, holders_of, buckets_of}
use Rattle.exchange_model.specs.Words as W
use Rattle.exchange_model.specs.Words.{held_at, with_word}
use Rattle.exchange_model.specs.Laws.{IsOnTable}
use Rattle.exchange_model.specs.Steps as S
use Rattle.exchange_model.specs.Steps.{Step, Scan, SeatNow, Deed, Aim, OfKey, OfBucket, Glance, deed_of, glance_deed, scan_deed, bucket_of_aim, class_of_aim}
use Rattle.exchange_model.specs.Worlds.{IsAim, store_after}
use Rattle.exchange_laws.proofs.Places.{either_put}
use Rattle.exchange_laws.proofs.Words.{bucket_small}
use Rattle.exchange_laws.proofs.SmallRows.{IsWord}
use Rattle.exchange_laws.proofs.NearSteps.{HoldsRow, NearScan}
use Rattle.exchange_laws.proofs.FitSteps.{AllWords}

-- ---- words

put_small : (f : ℕ → ℕ) (k v : ℕ) → IsWord v → ((j : ℕ) → IsWord (f j)) → (j : ℕ) → IsWord (put f k v j)
put_small f k v small all j = elim (either_put f k v j) [
  | inl e ↦ subst IsWord (sym e.1) small
  | inr n ↦ subst IsWord (sym n.1) (all j)
]

put_at_small : (f : ℕ → ℕ → ℕ) (r i v : ℕ) → IsWord v → ((q j : ℕ) → IsWord (f q j)) → (q j : ℕ) →
    IsWord (put_at f r i v q j)
put_at_small f r i v small all q j = elim (cases_eq q r) [
  | inr n ↦ subst IsWord (sym (put_at_row f r i v q j n)) (all q j)
  | inl e ↦ elim (cases_eq j i) [
    | inr m ↦ subst IsWord (sym (put_at_place f r i v q j m)) (all q j)
    | inl d ↦ subst IsWord (sym ((λ k. put_at f r i v (e k) (d k)) ∙ put_at_same f r i v)) small
  ]
]

with_small : (store : W.Store) (at : W.At) (word : ℕ) → IsWord word → AllWords store →
    AllWords (with_word store at word)
with_small store W.Pending word small all = record {
  announced = all.announced;
  want = all.want;
  hold = all.hold;
  op = all.op;
  bucket = all.bucket;
  row = all.row;
}
with_small store (W.Announced q) word small all = record {
  announced = put_small store.announced q word small all.announced;
  want = all.want;
  hold = all.hold;
  op = all.op;
  bucket = all.bucket;
  row = all.row;
}
with_small store (W.Want q) word small all = record {
  want = put_small store.want q word small all.want;
  announced = all.announced;
  hold = all.hold;
  op = all.op;
  bucket = all.bucket;
  row = all.row;
}
with_small store (W.Hold q) word small all = record {
  hold = put_small store.hold q word small all.hold;
  announced = all.announced;
  want = all.want;
  op = all.op;
  bucket = all.bucket;
  row = all.row;
}
with_small store (W.OpWord q i) word small all = record {
  op = put_at_small store.op q i word small all.op;
  announced = all.announced;
  want = all.want;
  hold = all.hold;
  bucket = all.bucket;
  row = all.row;
}
with_small store (W.Bucket b) word small all = record {
  bucket = put_small store.bucket b word small all.bucket;
  announced = all.announced;
  want = all.want;
  hold = all.hold;
  op = all.op;
  row = all.row;
}
with_small store (W.RowWord r i) word small all = record {
  row = put_at_small store.row r i word small all.row;
  announced = all.announced;
  want = all.want;
  hold = all.hold;
  op = all.op;
  bucket = all.bucket;
}

module _ (plan : Plan) where
  -- ---- what a step does to the words

  -- a class is wanted that there is; and a hold word is the own one, or comes to hold a row
  abbrev pub AtFine : (p : ℕ) → W.At → (word : ℕ) → Type 0
  AtFine p (W.Want q) word = word < buckets_of plan.settings
  AtFine p (W.Hold q) word = (q ≡ p) ⊎ HoldsRow plan word
  AtFine p at word = Unit {0}

  abbrev pub IsPendingAt : W.At → Type 0
  IsPendingAt W.Pending = Unit {0}
  IsPendingAt at = ⊥

  abbrev pub DeedFine : (p : ℕ) → Deed → Type 0
  DeedFine p S.Nothing = Unit {0}
  DeedFine p (S.Load from) = Unit {0}
  DeedFine p (S.Store to word) = AtFine p to word
  DeedFine p (S.Swap at old new) = AtFine p at new
  DeedFine p (S.Raise at) = IsPendingAt at
  DeedFine p (S.Lower at) = IsPendingAt at

  -- the words then
  pub record After (p : ℕ) (was now : W.Store) : Type 0 where
    pub words : AllWords now
    pub wants : (q : ℕ) → q < holders_of plan.settings → now.want q < buckets_of plan.settings
    pub holds : (q : ℕ) → q ≢ p → (now.hold q ≡ was.hold q) ⊎ HoldsRow plan (now.hold q)

  module _ (store : W.Store) (all : AllWords store)
      (wants : (q : ℕ) → q < holders_of plan.settings → store.want q < buckets_of plan.settings) where
    pub same_after : (p : ℕ) → After p store store
    same_after p = record { words = all; wants = wants; holds = λ q n. inl refl }

    stored_after : (p : ℕ) (at : W.At) (word : ℕ) → IsWord word → AtFine p at word →
        After p store (with_word store at word)
    stored_after p W.Pending word small fine =
        record { words = with_small store W.Pending word small all; wants = wants; holds = λ q n. inl refl }
    stored_after p (W.Announced r) word small fine =
        record { words = with_small store (W.Announced r) word small all; wants = wants; holds = λ q n. inl refl }
    stored_after p (W.Want r) word small fine = record {
      words = with_small store (W.Want r) word small all;
      wants = λ q less. elim (either_put store.want r word q) [
        | inl e ↦ subst (λ w. w < buckets_of plan.settings) (sym e.1) fine
        | inr n ↦ subst (λ w. w < buckets_of plan.settings) (sym n.1) (wants q less)
      ];
      holds = λ q n. inl refl;
    }
    stored_after p (W.Hold r) word small fine = record {
      words = with_small store (W.Hold r) word small all;
      wants = wants;
      holds = λ q n. elim (either_put store.hold r word q) [
        | inl e ↦ elim fine [
          | inl own ↦ absurd (n (e.0 ∙ own))
          | inr held ↦ inr (subst (HoldsRow plan) (sym e.1) held)
        ]
        | inr m ↦ inl m.1
      ];
    }
    stored_after p (W.OpWord r i) word small fine =
        record { words = with_small store (W.OpWord r i) word small all; wants = wants; holds = λ q n. inl refl }
    stored_after p (W.Bucket b) word small fine =
        record { words = with_small store (W.Bucket b) word small all; wants = wants; holds = λ q n. inl refl }
    stored_after p (W.RowWord r i) word small fine =
        record { words = with_small store (W.RowWord r i) word small all; wants = wants; holds = λ q n. inl refl }

    counted_after : (p : ℕ) (at : W.At) (word : ℕ) → IsPendingAt at → After p store (with_word store at word)
    counted_after p W.Pending word fine = record {
      words = record {
        announced = all.announced;
        want = all.want;
        hold = all.hold;
        op = all.op;
        bucket = all.bucket;
        row = all.row;
      };
      wants = wants;
      holds = λ q n. inl refl;
    }
    counted_after p (W.Announced r) word fine = absurd fine
    counted_after p (W.Want r) word fine = absurd fine
    counted_after p (W.Hold r) word fine = absurd fine
    counted_after p (W.OpWord r i) word fine = absurd fine
    counted_after p (W.Bucket b) word fine = absurd fine
    counted_after p (W.RowWord r i) word fine = absurd fine

    pub deed_after : (p : ℕ) (deed : Deed) → IsOnTable plan deed → DeedFine p deed →
        After p store (store_after deed store)
    deed_after p S.Nothing on fine = same_after p
    deed_after p (S.Load from) on fine = same_after p
    deed_after p (S.Store to word) on fine = stored_after p to word on.1 fine
    deed_after p (S.Swap at old new) on fine =
        cond_both (held_at store at == old) (with_word store at new) store (After p store)
        (λ _. stored_after p at new on.1 fine) (λ _. same_after p)
    deed_after p (S.Raise at) on fine = counted_after p at (held_at store at + 1) fine
    deed_after p (S.Lower at) on fine = counted_after p at (held_at store at - 1) fine

  module _ (is_plan : IsPlan plan) where
    fine_scan : (p : ℕ) (scan : Option Scan) → NearScan plan scan → DeedFine p (scan_deed plan scan)
    fine_scan p None k = tt
    fine_scan p (Some (S.Seats q left held)) k = tt
    fine_scan p (Some (S.Sees q t left held)) k = tt
    fine_scan p (Some (S.Loads q t class left held)) k = tt
    fine_scan p (Some (S.Gives q t row left held)) k = inr (record { row = row; is = refl; inside = k })

    pub fine_step : (p : ℕ) (now : SeatNow) (call : Call) (step : Step) → NearScan plan now.scan →
        DeedFine p (deed_of plan p now call step)
    fine_step p now call S.Scans k = fine_scan p now.scan k
    fine_step p now call (S.LoadWord turn) k = tt
    fine_step p now call (S.LoadRow turn word words) k = tt
    fine_step p now call (S.CheckWord turn word words) k = tt
    fine_step p now call (S.LoadPending t) k = tt
    fine_step p now call (S.LoadAnnounced t found) k = tt
    fine_step p now call (S.LoadOp t found announced words) k = tt
    fine_step p now call (S.StoreRow t found i) k = tt
    fine_step p now call (S.Exchange t found) k = tt
    fine_step p now call S.RaisePending k = tt
    fine_step p now call (S.StoreOp i) k = tt
    fine_step p now call S.Announce k = tt
    fine_step p now call S.StoreWant k = bucket_small plan is_plan (key_in call)
    fine_step p now call S.StoreAsking k = inl refl
    fine_step p now call S.HeldWord k = tt
    fine_step p now call (S.TakeHold word) k = inl refl
    fine_step p now call (S.HeldHead row) k = tt
    fine_step p now call (S.HeldEntry row at left) k = tt
    fine_step p now call (S.HeldReply row at) k = tt
    fine_step p now call (S.GiveBack reply) k = inl refl
    fine_step p now call (S.Over ending) k = tt
    fine_step p now call (S.LowerPending ending) k = tt
    fine_step p now call S.Stuck k = tt

    class_small : (aim : Aim) → IsAim plan aim → class_of_aim plan aim < buckets_of plan.settings
    class_small (OfKey key) is = bucket_small plan is_plan key
    class_small (OfBucket bucket) is = is

    pub aim_small : (aim : Aim) → IsAim plan aim → bucket_of_aim plan aim < buckets_of plan.settings
    aim_small (OfKey key) is = bucket_small plan is_plan key
    aim_small (OfBucket bucket) is = is

    pub fine_glance : (p time : ℕ) (aim : Aim) (glance : Glance) → IsAim plan aim →
        DeedFine p (glance_deed plan p time aim glance)
    fine_glance p time aim (S.GlanceWord left) is = tt
    fine_glance p time aim (S.GlanceCount source) is = tt
    fine_glance p time aim (S.GlanceItem source pass) is = tt
    fine_glance p time aim (S.GlanceCheck left word kept) is = tt
    fine_glance p time aim S.GlanceWant is = class_small aim is
    fine_glance p time aim S.GlanceAsking is = inl refl
    fine_glance p time aim S.GlanceHeld is = tt
    fine_glance p time aim (S.GlanceTake word) is = inl refl
    fine_glance p time aim (S.GlanceBack kept) is = inl refl
