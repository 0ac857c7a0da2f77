-- The loop's facts say how far the input was read; the lemmas say what one packet more, or an ending, makes of it.
use Rattle.std.proofs.Common.{◌≡◌, ◌+◌, ◌++◌, ◌∷◌, [], ℕ, List, length, refl, sym, ap, subst, ◌∙◌, append_assoc, append-nil, length-append, arith}
use Rattle.std.proofs.lemmas.List.{length_push}
use Rattle.capture_loop.specs.Input.{StopsAt}
use Rattle.capture_loop.specs.Reading.{HaveCome}
use Rattle.capture_loop.proofs.PacketLemmas.{packet_short}
use Rattle.capture_loop.proofs.ReadingLemmas.{HaveCome-more, HaveEnded-ended, OnLimit-none}
use Rattle.capture_loop.proofs.intake.read_rest.Goals as goal

pub loop-packets-init : goal.loop-packets-init
loop-packets-init g c = record {
  going = c.requires.going;
  given = c.requires.given;
  from = omega arith;
  way = refl;
  counted = omega arith;
  failed = refl;
  read = λ old holds count. (
    [],
    subst (λ (ps : List (List ℕ)). g.P.Pile.holds c.args.pile.now c.args.before ps) (sym (append-nil old)) holds,
    ap length (append-nil old) ∙ count,
    λ link first all many come.
        subst (λ (ps : List (List ℕ)). HaveCome link first (g.S.Source.left c.args.source.now) c.args.reader.now (all
        ++ ps))
        (sym (append-nil old)) come,
  );
}

pub returns-in-Ended-clause-read : goal.returns-in-Ended-clause-read
returns-in-Ended-clause-read g c = λ old holds count.
    let r = c.loop-packets.invariant.read old holds count in (
      r.0,
      r.1,
      r.2,
      λ link first all many come.
          HaveEnded-ended c.args.portions.now.limit link first (g.S.Source.left c.loop-packets.source)
          (g.S.Source.left c.read_step.new.source) c.loop-packets.reader c.read_step.new.reader (all ++ (old ++ r.0))
          c.in-Ended.ending (r.3 link first all many come)
          (omega (arith, length-append all (old ++ r.0), many, r.2)) c.in-Ended.ensures.ended,
    )

pub returns-in-Dry-clause-read : goal.returns-in-Dry-clause-read
returns-in-Dry-clause-read g c = λ old holds count.
    let r = c.loop-packets.invariant.read old holds count in
    let dry = c.in-Dry.ensures.dry refl in (
      r.0,
      r.1,
      r.2,
      λ link first all many come.
          subst (λ reader. HaveCome link first (g.S.Source.left c.read_step.new.source) reader (all ++ (old ++ r.0)))
          (sym dry.1)
          (subst (λ source. HaveCome link first (g.S.Source.left source) c.loop-packets.reader (all ++ (old ++ r.0)))
          (sym (c.in-Dry.ensures.none_read dry.0)) (r.3 link first all many come)),
    )

pub take-requires-clause-some : goal.take-requires-clause-some
take-requires-clause-some g c =
    let some = c.requires.piled in
    let r = c.loop-packets.invariant.read some.0 some.1 some.2 in (
      c.args.before,
      some.0 ++ r.0,
      r.1,
      omega (arith, r.2),
      omega (arith, r.2),
    )

pub take-requires-clause-short : goal.take-requires-clause-short
take-requires-clause-short g c =
    let given = (c.in-Packet.ensures.packet refl).2 in
    omega (arith, ap length c.packet.ensures, packet_short given)

pub loop-packets-preserved : goal.loop-packets-preserved
loop-packets-preserved g c =
    let inv = c.loop-packets.invariant in
    let given = (c.in-Packet.ensures.packet refl).2 in
    let packet : List ℕ = c.packet.result.now in
    let next : c.args.before + c.loop-packets.packets + 1 ≡ c.args.before + (c.loop-packets.packets + 1) =
    omega arith in
    record {
      going = given.goes_on;
      given = given.given ∙ ap (λ n. n + 1) inv.given ∙ next;
      from = omega (arith, inv.from);
      way = c.take.ensures.way ∙ inv.way;
      counted = omega (arith, inv.counted, c.read_step.ensures.counted);
      failed = c.in-Packet.ensures.failed ∙ inv.failed;
      read = λ old holds count.
          let r = inv.read old holds count in
          let taken = c.in_ok-take.ensures.holds c.args.before (old ++ r.0) r.1 (omega (arith, r.2)) in
          let parts : (old ++ r.0) ++ packet ∷ [] ≡ old ++ (r.0 ++ packet ∷ []) =
          append_assoc old r.0 (packet ∷ []) in (
            r.0 ++ packet ∷ [],
            subst (λ (ps : List (List ℕ)). g.P.Pile.holds c.take.new.self c.args.before ps) parts taken,
            ap length (sym parts) ∙ length_push (old ++ r.0) packet ∙ ap (λ n. n + 1) r.2,
            λ link first all many come.
                subst (λ (ps : List (List ℕ)). HaveCome link first (g.S.Source.left c.read_step.new.source)
                c.read_step.new.reader ps)
                (ap (λ (p : List ℕ). (all ++ (old ++ r.0)) ++ p ∷ []) (sym c.packet.ensures)
                ∙ append_assoc all (old ++ r.0) (packet ∷ []) ∙ ap (λ (ps : List (List ℕ)). all ++ ps) parts)
                (HaveCome-more link first (g.S.Source.left c.loop-packets.source)
                (g.S.Source.left c.read_step.new.source) c.loop-packets.reader c.read_step.new.reader
                (all ++ (old ++ r.0)) (r.3 link first all many come)
                (c.in-Packet.ensures.packet refl)),
          );
    }

pub returns-then-before-from-clause-read : goal.returns-then-before-from-clause-read
returns-then-before-from-clause-read g c = λ old holds count.
    let r = c.loop-packets.invariant.read old holds count in
    (r.0, r.1, omega (arith, r.2), r.3)

pub returns-clause-read : goal.returns-clause-read
returns-clause-read g c = λ old holds count.
    let r = c.loop-packets.invariant.read old holds count in (
      r.0,
      r.1,
      omega (arith, r.2),
      λ link first all many come.
          c.read_past.ensures.ended link first (all ++ (old ++ r.0)) (r.3 link first all many come)
          (omega (arith, length-append all (old ++ r.0), many, r.2)),
    )

pub returns-in-Ended-clause-beyond : goal.returns-in-Ended-clause-beyond
returns-in-Ended-clause-beyond g c = λ old holds count link first all many come.
    OnLimit-none c.loop-packets.reader c.read_step.new.reader (g.S.Source.left c.loop-packets.source)
    (g.S.Source.left c.read_step.new.source) c.in-Ended.ending
    (StopsAt link c.args.portions.now.limit first (g.S.Source.left c.read_step.new.source) c.read_step.new.reader.start)
    c.in-Ended.ensures.ended

pub returns-clause-beyond : goal.returns-clause-beyond
returns-clause-beyond g c = λ old holds count link first all many come.
    let r = c.loop-packets.invariant.read old holds count in
    c.read_past.ensures.beyond link first (all ++ (old ++ r.0)) (r.3 link first all many come)
    (omega (arith, length-append all (old ++ r.0), many, r.2))
