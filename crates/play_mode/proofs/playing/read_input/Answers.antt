-- What was read of a batch is the whole input.
use Rattle.std.proofs.Common.{◌≡◌, ◌+◌, ℕ, List, [], Option, length, refl, subst, sym, ap, ◌∙◌, arith}
use Rattle.plain_map.specs.declared.calls.Call.{Call}
use Rattle.play_mode.specs.declared.playing.TheConstants.{PLAY_LIMIT}
use Rattle.capture_loop.specs.Endings.{OnEnds, OnLimit}
use Rattle.capture_loop.specs.Input.{StopsAt}
use Rattle.capture_loop.specs.Reading.{HaveCome, HaveEnded}
use Rattle.std.specs.Option.{IfSome}
use Rattle.capture_faults.specs.declared.ending.Ending.{Ending}
use Rattle.mode_parts.specs.declared.calling.Calling.{Calling}
use Rattle.packet_heads.specs.Links.{number_in}
use Rattle.mode_parts.specs.Callings.{calling_way}
use Rattle.mode_parts.proofs.CallingLemmas.{same_calling}
use Rattle.mode_parts.specs.PacketCalls.{MakeCalls}
use Rattle.mode_parts.specs.Reading.{AreBetween, EndsCalls}
use Rattle.capture_loop.proofs.LoopLemmas.{at_some}
use Rattle.capture_loop.proofs.ReadingLemmas.{OnLimit-any, OnLimit-unopened}
use Rattle.play_mode.proofs.playing.read_input.Goals as goal

pub returns-in-Some-clause-ended : goal.returns-in-Some-clause-ended
returns-in-Some-clause-ended g c =
    let calling = c.args.calling in
    let link : ℕ = number_in calling.framing.link in
    let come = subst (λ (n : ℕ). HaveCome n (g.S.Source.left c.args.source.now) (g.S.Source.left c.open.new.source)
    c.in-Ok.reader []) c.number.ensures c.in-Ok.ensures.come in
    let first = g.S.Source.left c.args.source.now in
    let left = g.S.Source.left c.read_rest.new.source in
    let read = c.in_ok-part-in-Ok.ensures.read [] c.in_ok-pile-in-Ok.ensures.holds refl in
    let packets : List (List ℕ) = read.0 in
    record {
      packets = packets;
      ended = at_some (HaveCome link first left c.read_rest.new.reader packets)
          (HaveEnded PLAY_LIMIT link first left packets)
          c.in_ok-part-in-Ok.part.ending c.in-Some.ending c.in-Some.is
          (read.3 link first [] refl come);
      make = subst (λ (f : Calling). MakeCalls f 1 packets c.read_rest.new.pile.calls.items)
          (same_calling c.read_rest.new.pile.calling calling
          (c.read_rest.ensures.way ∙ ap calling_way c.in_ok-pile-in-Ok.ensures.calling)) read.1.make;
      count = read.2;
    }

pub returns-in-Some-clause-between : goal.returns-in-Some-clause-between
returns-in-Some-clause-between g c =
    let read = c.in_ok-part-in-Ok.ensures.read [] c.in_ok-pile-in-Ok.ensures.holds refl in
    let many : 0 + length read.0 ≡ c.in_ok-part-in-Ok.part.packets = omega (arith, read.2) in
    subst (λ (n : ℕ). AreBetween 0 n c.read_rest.new.pile.calls.items) many read.1.between

pub returns-in-Err-Ends-clause-ended : goal.returns-in-Err-Ends-clause-ended
returns-in-Err-Ends-clause-ended g c =
    let calling = c.args.calling in
    let link : ℕ = number_in calling.framing.link in
    let first = g.S.Source.left c.args.source.now in
    let left = g.S.Source.left c.open.new.source in
    let ended : (limit : ℕ) → HaveEnded limit link first left [] c.in-Err-Ends.ending =
    subst (λ (n : ℕ). (limit : ℕ) → HaveEnded limit n first left [] c.in-Err-Ends.ending) c.number.ensures
    (subst (λ fault. OnEnds fault (λ ending. (limit : ℕ) → HaveEnded limit c.number.result first left [] ending))
    c.in-Err-Ends.field-0-is c.in-Err-Ends.ensures.ended) in
    let none : EndsCalls calling PLAY_LIMIT first left 0 [] c.in-Err-Ends.ending =
    record { packets = []; ended = ended PLAY_LIMIT; make = refl; count = refl } in
    let all : EndsCalls calling PLAY_LIMIT first left 0 c.new.result.items c.in-Err-Ends.ending =
    subst (λ (calls : List (ℕ × Call)). EndsCalls calling PLAY_LIMIT first left 0 calls c.in-Err-Ends.ending)
    (sym c.new.ensures.items) none in
    subst (EndsCalls calling PLAY_LIMIT first left 0 c.new.result.items) (sym c.in-Err-Ends.ending-is) all

pub returns-in-Some-clause-start : goal.returns-in-Some-clause-start
returns-in-Some-clause-start g c =
    let first = g.S.Source.left c.args.source.now in
    let left = g.S.Source.left c.read_rest.new.source in
    let link : ℕ = number_in c.args.calling.framing.link in
    let come = subst (λ (n : ℕ). HaveCome n first (g.S.Source.left c.open.new.source) c.in-Ok.reader [])
    c.number.ensures c.in-Ok.ensures.come in
    let far = c.in_ok-part-in-Ok.ensures.beyond [] c.in_ok-pile-in-Ok.ensures.holds refl link first [] refl come in
    subst (λ (n : ℕ). OnLimit c.in-Some.ending (StopsAt link PLAY_LIMIT first left n)) (sym c.start.ensures)
    (subst (λ (e : Option Ending). IfSome e (λ ending. OnLimit ending
    (StopsAt link PLAY_LIMIT first left c.read_rest.new.reader.start))) c.in-Some.is far)

pub returns-in-Err-Ends-clause-start : goal.returns-in-Err-Ends-clause-start
returns-in-Err-Ends-clause-start g c =
    let first = g.S.Source.left c.args.source.now in
    let left = g.S.Source.left c.open.new.source in
    let link : ℕ = number_in c.args.calling.framing.link in
    let ended : (limit : ℕ) → HaveEnded limit link first left [] c.in-Err-Ends.ending =
    subst (λ (n : ℕ). (limit : ℕ) → HaveEnded limit n first left [] c.in-Err-Ends.ending) c.number.ensures
    (subst (λ fault. OnEnds fault (λ ending. (limit : ℕ) → HaveEnded limit c.number.result first left [] ending))
    c.in-Err-Ends.field-0-is c.in-Err-Ends.ensures.ended) in
    subst (λ (e : Ending). OnLimit e (StopsAt link PLAY_LIMIT first left 0)) (sym c.in-Err-Ends.ending-is)
    (OnLimit-any c.in-Err-Ends.ending (StopsAt link PLAY_LIMIT first left 0)
    (OnLimit-unopened link first left c.in-Err-Ends.ending ended))
