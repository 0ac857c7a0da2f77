-- The current row of a key answers a lookup as the plain map does after the one order of the calls.
use Rattle.std.proofs.Common.{◌≡◌, ap, ◌∙◌, arith}
use Rattle.std.specs.Option.{option_map_or}
use Rattle.plain_map.specs.declared.calls.Call.TheVariants.{Lookup}
use Rattle.plain_map.specs.declared.calls.Reply.TheVariants.{Absent}
use Rattle.plain_map.specs.PlainObject.{found_in, reply_of}
use Rattle.bucket_states.specs.Items.{reply_in}
use Rattle.bucket_states.specs.States.{BucketState}
use Rattle.table_model.specs.Setup.{rules_of}
use Rattle.table_model.specs.Worlds.{world_after}
use Rattle.table_model.specs.Reading.{bucket_at, current_row}
use Rattle.table_model.specs.Promises.{words_in}
use Rattle.run_invariant.proofs.Invariant.{Common, lead, last}
use Rattle.helping_laws.proofs.ByPlace
use Rattle.order_laws.proofs.AllRuns.{all_tell}
use Rattle.order_laws.proofs.AtEnd.{end_holds}
use Rattle.peek_laws.specs.Peeks.{CurrentRowsReply}

-- the row in use of the key's bucket holds its part of what the order leaves
pub current_rows_reply : CurrentRowsReply
unfolding reply_in reply_of
current_rows_reply setup events key run =
    let a = all_tell setup events run in
    let words = words_in setup events in
    let c : Common = a.common in
    let f = a.follows in
    let b = lead setup c c.dir_top key in
    let n = f.shared.leads.there c.dir_top key (omega arith) in
    let row : bucket_at setup.shape words (current_row setup words key) ≡ last c b =
    ap (bucket_at setup.shape words) (ByPlace.current_is setup words c f.shows f.shared f.descent key)
    ∙ ByPlace.state_is setup words c f.shows f.shared f.descent b (c.top b) n (omega arith) in
    let holds = end_holds setup (world_after setup events) c a.locals f a.extra a.holds key in
    let same = holds.same key (f.shared.leads.for_it c.dir_top key (omega arith)) in
    ap (λ (s : BucketState). reply_in (rules_of setup) s.items (Lookup key)) row
    ∙ ap (λ o. option_map_or found_in o Absent) same
