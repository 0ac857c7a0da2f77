-- The first bytes of the row are the text of the number, and a dot stands behind it.
use Rattle.std.proofs.Common.{◌≡◌, ◌++◌, ◌+◌, ap, take, get_or, [], ◌∙◌, arith, List, ℕ}
use Rattle.key_texts.specs.declared.octets.TheConstants.{OCTETS}
use Rattle.key_texts.proofs.NumberLemmas.{octet_dotted, octet_text, octet_long, put_front}
use Rattle.key_texts.proofs.written.write_octet.Goals as goal

pub returns-clause-text : goal.returns-clause-text
returns-clause-text c =
    let octet : ℕ = c.args.octet in
    let row : List ℕ = get_or OCTETS octet [] in
    let long = octet_long octet c.ranges.octet.fits in
    let front : List ℕ = take c.args.start c.args.buffer.now in
    put_front c.args.buffer.now row c.write_text.new.buffer c.args.start c.octet_length.result
    c.write_text.result (omega (arith, c.requires)) (omega (arith, long, c.octet_length.ensures.few))
    (omega (arith, long, c.write_text.ensures.end)) c.write_text.ensures.text
    ∙ ap (λ (n : ℕ). front ++ take n row) c.octet_length.ensures.length
    ∙ ap (λ (text : List ℕ). front ++ text) (octet_text octet c.ranges.octet.fits)

pub returns-clause-dotted : goal.returns-clause-dotted
returns-clause-dotted c =
    let sum : c.args.start + c.octet_length.result + 1 ≡ c.args.start + (c.octet_length.result + 1) = omega arith in
    let octet : ℕ = c.args.octet in
    let row : List ℕ = get_or OCTETS octet [] in
    let long = octet_long octet c.ranges.octet.fits in
    let front : List ℕ = take c.args.start c.args.buffer.now in
    ap (λ (n : ℕ). take n c.write_text.new.buffer) sum
    ∙ put_front c.args.buffer.now row c.write_text.new.buffer c.args.start (c.octet_length.result + 1)
    c.write_text.result (omega (arith, c.requires)) (omega (arith, long, c.octet_length.ensures.few))
    (omega (arith, long, c.write_text.ensures.end)) c.write_text.ensures.text
    ∙ ap (λ (n : ℕ). front ++ take (n + 1) row) c.octet_length.ensures.length
    ∙ ap (λ (text : List ℕ). front ++ text) (octet_dotted octet c.ranges.octet.fits)

pub slice_bounds-write_text-end : goal.slice_bounds-write_text-end
slice_bounds-write_text-end c = omega (arith, octet_long c.args.octet c.ranges.octet.fits)

pub write_text-requires : goal.write_text-requires
write_text-requires c = omega (arith, octet_long c.args.octet c.ranges.octet.fits)
