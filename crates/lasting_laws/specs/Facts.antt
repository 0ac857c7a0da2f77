-- Facts about every run of the core that a table rests on whose rows are used again.
use Rattle.std.specs.Prelude.{◌≡◌, ℕ, ◌<◌, ◌≤◌, true, false, List, All, Some, None, slice_index_or}
use Rattle.plain_map.specs.Calls.{key_in, is_update}
use Rattle.bucket_states.specs.Items.{prefix_of}
use Rattle.table_model.specs.declared.events.Event.{Event}
use Rattle.table_model.specs.Setup.{Setup, settings_of, seats_of, rules_of}
use Rattle.table_model.specs.Worlds.{IsRun, world_after, seat_in}
use Rattle.table_model.specs.Reading.{bucket_at, applied_at, bucket_rows, named_buckets, row_of}
use Rattle.table_model.specs.Promises.{words_in, Among}

-- an answered update is in the row in use of each bucket that is open and has its key. So an op that has ended need
-- not be read by who can still win
abbrev pub EndedAreApplied : Type 0
EndedAreApplied =
    (setup : Setup) (events : List Event) (seat bucket : ℕ) → IsRun setup events → seat < seats_of setup →
    (let words = words_in setup events in
    let state = bucket_at setup.shape words (row_of setup.shape words bucket) in
    Among (named_buckets setup.shape words) bucket → state.frozen ≡ false →
    All
    (λ r. is_update r.call ≡ true → prefix_of (rules_of setup) state.depth (key_in r.call) ≡ state.prefix →
    r.number ≤ applied_at setup.shape words (row_of setup.shape words bucket) seat)
    (seat_in (world_after setup events) seat).account.records)

-- each published row that has the number of an answered update has its reply. So whoever has any such row can tell it
abbrev pub NumbersHaveOneReply : Type 0
NumbersHaveOneReply =
    (setup : Setup) (events : List Event) (seat row : ℕ) → IsRun setup events → seat < seats_of setup →
    (let words = words_in setup events in
    Among (bucket_rows setup.shape words) row →
    All
    (λ r. is_update r.call ≡ true → applied_at setup.shape words row seat ≡ r.number →
    slice_index_or (bucket_at setup.shape words row).replies seat None ≡ Some r.reply)
    (seat_in (world_after setup events) seat).account.records)

-- where a table begins as deep as it may be no row in use is frozen: so there never is a directory try
abbrev pub FixedDepthNeverFreezes : Type 0
FixedDepthNeverFreezes =
    (setup : Setup) (events : List Event) (bucket : ℕ) → IsRun setup events →
    (settings_of setup).start ≡ (settings_of setup).depth →
    (let words = words_in setup events in
    Among (named_buckets setup.shape words) bucket →
    (bucket_at setup.shape words (row_of setup.shape words bucket)).frozen ≡ false)
