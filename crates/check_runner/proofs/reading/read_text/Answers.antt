use Rattle.std.proofs.Common.{◌≡◌, ◌≤◌, ◌-◌, ℕ, List, ◌++◌, take, arith, ◌∙◌, ap, sym, subst, length, length-append, length-take-le}
use Rattle.std.proofs.KnownBytes.{Consumes-trans}
use Rattle.std.proofs.lemmas.List.{with_items_is}
use Rattle.std.specs.Io.KnownBytes.{Consumes}
use Rattle.check_runner.proofs.CheckLemmas.{whole_text}
use Rattle.check_runner.proofs.reading.read_text.Goals as goal

pub returns-then-count-eq0-clause-read : goal.returns-then-count-eq0-clause-read
returns-then-count-eq0-clause-read g c =
    whole_text _ _ _ c.loop-text.text.items _ c.in-Ok.count (omega (arith, c.if-count-eq0.true))
    (omega (arith, c.loop-text-test.true)) c.loop-text.invariant.taken c.in-Ok.ensures.end c.in-Ok.ensures.bytes

pub loop-text-preserved : goal.loop-text-preserved
loop-text-preserved g c =
    let vec = c.loop-text.piece in
    let buf : List ℕ = c.read_front.new.buf in
    let text : List ℕ = c.loop-text.text.items in
    let count : ℕ = c.in-Ok.count in
    let size : length buf ≡ vec.len = omega (arith, c.read_front.auto.buf, c.as_mut_slice.ensures.len) in
    let long : length buf ≡ 65536 =
    omega (arith, c.read_front.auto.buf, ap length c.as_mut_slice.ensures.value, c.loop-text.invariant.piece) in
    let piece = c.deref.ensures.value ∙ with_items_is vec buf size in
    let items : c.extend_from_slice.new.self.items ≡ text ++ take count buf =
    c.in_ok-extend_from_slice-in-Ok.ensures.items ∙ ap (λ (l : List ℕ). text ++ take count l) piece in
    let most : count ≤ 65536 = omega (arith, c.in-Ok.ensures.within, c.min-most.ensures) in
    let more : count ≤ 4294967296 - length text =
    omega (arith, c.in-Ok.ensures.within, c.min-most.ensures, c.len-in-loop-text.ensures) in
    let came : length (take count buf) ≡ count = length-take-le count buf (omega (arith, most, long)) in
    record {
      taken = subst (Consumes (g.S.Source.left c.args.source.now) (g.S.Source.left c.read_front.new.source)) (sym items)
          (Consumes-trans _ _ _ text (take count buf) c.loop-text.invariant.taken c.in-Ok.ensures.bytes);
      few = omega (
        arith,
        ap length items,
        length-append text (take count buf),
        came,
        more,
        c.loop-text.invariant.few,
      );
      piece = ap length (with_items_is vec buf size) ∙ long;
      counted = omega (arith, c.loop-text.invariant.counted, c.in-Ok.ensures.counted);
      none_failed = c.in-Ok.ensures.none_failed ∙ c.loop-text.invariant.none_failed;
    }

pub returns-in_err-extend_from_slice-in-Ok-clause-few :
    goal.returns-in_err-extend_from_slice-in-Ok-clause-few
returns-in_err-extend_from_slice-in-Ok-clause-few g c =
    let buf : List ℕ = c.read_front.new.buf in
    let text : List ℕ = c.loop-text.text.items in
    let count : ℕ = c.in-Ok.count in
    let long : length buf ≡ 65536 =
    omega (arith, c.read_front.auto.buf, ap length c.as_mut_slice.ensures.value, c.loop-text.invariant.piece) in
    let most : count ≤ 65536 = omega (arith, c.in-Ok.ensures.within, c.min-most.ensures) in
    let more : count ≤ 4294967296 - length text =
    omega (arith, c.in-Ok.ensures.within, c.min-most.ensures, c.len-in-loop-text.ensures) in
    let came : length (take count buf) ≡ count = length-take-le count buf (omega (arith, most, long)) in (
      text ++ take count buf,
      Consumes-trans _ _ _ text (take count buf) c.loop-text.invariant.taken c.in-Ok.ensures.bytes,
      omega (arith, length-append text (take count buf), came, more, c.loop-text.invariant.few),
    )
