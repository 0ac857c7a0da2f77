-- What the reader held is taken as if its source had been read, and nothing was taken of that.
use Rattle.std.proofs.Common.{◌≡◌, ◌+◌, ◌++◌, ◌∷◌, ℕ, List, [], length, refl, sym, ap, subst, ◌∙◌, append_assoc, append-nil, arith}
use Rattle.std.proofs.KnownBytes.{Consumes-nil}
use Rattle.std.proofs.lemmas.List.{length_push}
use Rattle.pcapng_reader.specs.Reading.{Reading}
use Rattle.capture_loop.specs.Intake.{IsTaken}
use Rattle.capture_loop.specs.Reading.{HaveCome}
use Rattle.capture_loop.proofs.PacketLemmas.{packet_short}
use Rattle.capture_loop.proofs.ReadingLemmas.{HaveCome-more}
use Rattle.capture_loop.proofs.intake.take_held.Goals as goal

pub loop-packets-init : goal.loop-packets-init
loop-packets-init g c = record {
  going = c.requires.going;
  given = omega (arith, c.requires.given);
  way = refl;
  taken = (
    [],
    c.requires.none,
    refl,
    λ link first now all come. subst (HaveCome link first now c.args.reader.now) (sym (append-nil all)) come,
  );
}

pub returns-then-not-next_held-clause-taken : goal.returns-then-not-next_held-clause-taken
returns-then-not-next_held-clause-taken g c =
    let inv = c.loop-packets.invariant in
    let t = inv.taken in (
      t.0,
      t.1,
      t.2,
      subst (λ (reader : Reading). IsTaken c.args.limit c.args.reader.now reader c.args.batch c.args.before t.0)
          (sym (c.if-not-next_held.ensures.none refl))
          (record {
            come = t.3;
            going = inv.going;
            given = omega (arith, inv.given, t.2);
            few = omega (arith, t.2);
            limited = omega (arith, t.2);
          }),
    )

pub take-requires-clause-some : goal.take-requires-clause-some
take-requires-clause-some g c =
    let t = c.loop-packets.invariant.taken in
    (c.args.before, t.0, t.1, omega (arith, t.2), omega (arith, t.2))

pub take-requires-clause-short : goal.take-requires-clause-short
take-requires-clause-short g c =
    let given = c.if-not-next_held.ensures.packet refl in
    omega (arith, ap length c.packet.ensures, packet_short given)

pub loop-packets-preserved : goal.loop-packets-preserved
loop-packets-preserved g c =
    let inv = c.loop-packets.invariant in
    let t = inv.taken in
    let given = c.if-not-next_held.ensures.packet refl in
    let packet : List ℕ = c.packet.result.now in
    let next : c.args.before + c.loop-packets.packets + 1 ≡ c.args.before + (c.loop-packets.packets + 1) =
    omega arith in
    record {
      going = given.goes_on;
      given = given.given ∙ ap (λ n. n + 1) inv.given ∙ next;
      way = c.take.ensures.way ∙ inv.way;
      taken = (
        t.0 ++ packet ∷ [],
        c.in_ok-take.ensures.holds c.args.before t.0 t.1 (omega (arith, t.2)),
        length_push t.0 packet ∙ ap (λ n. n + 1) t.2,
        λ link first now all come.
            subst (HaveCome link first now c.next_held.new.self)
            (ap (λ (p : List ℕ). (all ++ t.0) ++ p ∷ []) (sym c.packet.ensures)
            ∙ append_assoc all t.0 (packet ∷ []))
            (HaveCome-more link first now now c.loop-packets.reader c.next_held.new.self (all ++ t.0)
            (t.3 link first now all come) ([], Consumes-nil now, given)),
      );
    }

pub returns-clause-taken : goal.returns-clause-taken
returns-clause-taken g c =
    let inv = c.loop-packets.invariant in
    let t = inv.taken in (
      t.0,
      c.in_ok-prepare.ensures.holds c.args.before t.0 t.1,
      omega (arith, t.2),
      record {
        come = t.3;
        going = inv.going;
        given = omega (arith, inv.given, t.2);
        few = omega (arith, t.2);
        limited = omega (arith, t.2);
      },
    )
