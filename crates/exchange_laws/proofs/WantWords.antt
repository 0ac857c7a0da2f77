-- A step changes the wanted class of its own seat alone.
use Rattle.std.proofs.Common.{◌≡◌, ◌≢◌, ℕ, ◌+◌, ◌-◌, Option, Some, None, refl, ◌∙◌}
use Rattle.std.specs.Prelude.{◌==◌}
use Rattle.std.proofs.lemmas.Bool.{cond_both}
use Rattle.plain_map.specs.declared.calls.Call.{Call}
use Rattle.word_rows.proofs.MemoryLemmas.{put_other}
use Rattle.exchange_model.specs.Plans.{Plan}
use Rattle.exchange_model.specs.Words as W
use Rattle.exchange_model.specs.Words.{held_at, with_word}
use Rattle.exchange_model.specs.Steps as S
use Rattle.exchange_model.specs.Steps.{SeatNow, Step, Scan, Aim, Glance, Deed, deed_of, glance_deed, scan_deed}
use Rattle.exchange_model.specs.Worlds.{store_after}

-- This word is no wanted class, or that of this seat.
abbrev pub IsOwnWant : (seat : ℕ) → W.At → Type 0
IsOwnWant seat (W.Want other) = other ≡ seat
IsOwnWant seat at = Unit {0}

-- A store of such a word leaves the wanted classes of others.
want_store : (seat q : ℕ) → q ≢ seat → (at : W.At) (store : W.Store) (word : ℕ) → IsOwnWant seat at →
    (with_word store at word).want q ≡ store.want q
want_store seat q n W.Pending store word a = refl
want_store seat q n (W.Announced other) store word a = refl
want_store seat q n (W.Want other) store word a = put_other store.want other word q (λ e. n (e ∙ a))
want_store seat q n (W.Hold holder) store word a = refl
want_store seat q n (W.OpWord other i) store word a = refl
want_store seat q n (W.Bucket b) store word a = refl
want_store seat q n (W.RowWord row i) store word a = refl

-- This deed writes no wanted class, or that of this seat.
abbrev pub WantsOwn : (seat : ℕ) → Deed → Type 0
WantsOwn seat S.Nothing = Unit {0}
WantsOwn seat (S.Load from) = Unit {0}
WantsOwn seat (S.Store to word) = IsOwnWant seat to
WantsOwn seat (S.Swap at old new) = IsOwnWant seat at
WantsOwn seat (S.Raise at) = IsOwnWant seat at
WantsOwn seat (S.Lower at) = IsOwnWant seat at

-- Such a deed leaves the wanted classes of others.
pub want_words : (seat q : ℕ) → q ≢ seat → (deed : Deed) (store : W.Store) → WantsOwn seat deed →
    (store_after deed store).want q ≡ store.want q
want_words seat q n S.Nothing store a = refl
want_words seat q n (S.Load from) store a = refl
want_words seat q n (S.Store to word) store a = want_store seat q n to store word a
want_words seat q n (S.Swap at old new) store a =
    cond_both (held_at store at == old) (with_word store at new) store (λ (s : W.Store). s.want q ≡ store.want q)
    (λ e. want_store seat q n at store new a) (λ e. refl)
want_words seat q n (S.Raise at) store a = want_store seat q n at store (held_at store at + 1) a
want_words seat q n (S.Lower at) store a = want_store seat q n at store (held_at store at - 1) a

-- Each step of a scan is such a deed.
want_scan : (plan : Plan) (seat : ℕ) (scan : Option Scan) → WantsOwn seat (scan_deed plan scan)
want_scan plan seat None = tt
want_scan plan seat (Some (S.Seats k left held)) = tt
want_scan plan seat (Some (S.Sees k t left held)) = tt
want_scan plan seat (Some (S.Loads k t class left held)) = tt
want_scan plan seat (Some (S.Gives k t row left held)) = tt

-- So is each step of an update.
pub want_step : (plan : Plan) (seat : ℕ) (now : SeatNow) (call : Call) (step : Step) →
    WantsOwn seat (deed_of plan seat now call step)
want_step plan seat now call S.Scans = want_scan plan seat now.scan
want_step plan seat now call (S.LoadWord turn) = tt
want_step plan seat now call (S.LoadRow turn word words) = tt
want_step plan seat now call (S.CheckWord turn word words) = tt
want_step plan seat now call (S.LoadPending t) = tt
want_step plan seat now call (S.LoadAnnounced t found) = tt
want_step plan seat now call (S.LoadOp t found announced words) = tt
want_step plan seat now call (S.StoreRow t found i) = tt
want_step plan seat now call (S.Exchange t found) = tt
want_step plan seat now call S.RaisePending = tt
want_step plan seat now call (S.StoreOp i) = tt
want_step plan seat now call S.Announce = tt
want_step plan seat now call S.StoreWant = refl
want_step plan seat now call S.StoreAsking = tt
want_step plan seat now call S.HeldWord = tt
want_step plan seat now call (S.TakeHold word) = tt
want_step plan seat now call (S.HeldHead row) = tt
want_step plan seat now call (S.HeldEntry row at left) = tt
want_step plan seat now call (S.HeldReply row at) = tt
want_step plan seat now call (S.GiveBack reply) = tt
want_step plan seat now call (S.Over ending) = tt
want_step plan seat now call (S.LowerPending ending) = tt
want_step plan seat now call S.Stuck = tt

-- So is each step of a lookup or copy.
pub want_glance : (plan : Plan) (seat time : ℕ) (aim : Aim) (glance : Glance) →
    WantsOwn seat (glance_deed plan seat time aim glance)
want_glance plan seat time aim (S.GlanceWord left) = tt
want_glance plan seat time aim (S.GlanceCount source) = tt
want_glance plan seat time aim (S.GlanceItem source pass) = tt
want_glance plan seat time aim (S.GlanceCheck left word kept) = tt
want_glance plan seat time aim S.GlanceWant = refl
want_glance plan seat time aim S.GlanceAsking = tt
want_glance plan seat time aim S.GlanceHeld = tt
want_glance plan seat time aim (S.GlanceTake word) = tt
want_glance plan seat time aim (S.GlanceBack kept) = tt
