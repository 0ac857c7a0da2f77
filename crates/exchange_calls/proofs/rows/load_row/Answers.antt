-- The head, the items and the entries.
use Rattle.std.proofs.Common.{ℕ, ◌+◌, ◌*◌, ◌∙◌, List, [], ◌∷◌, ◌++◌, length, refl, sym, ap, arith, append_assoc}
use Rattle.std.proofs.lemmas.List.{append-nil, length-append}
use Rattle.plain_map.specs.declared.keys.Pair.{Pair}
use Rattle.word_rows.specs.KeyWords.{words_of_pair}
use Rattle.exchange_model.specs.Codes.{pair_words}
use Rattle.exchange_calls.specs.Going.{Going}
use Rattle.exchange_calls.specs.Marks.{mark_words}
use Rattle.exchange_calls.specs.declared.marks.Mark.{Mark}
use Rattle.exchange_calls.proofs.RowLemmas.{count_same, entries_same, head_asked, head_goes, mark_words-length, mark_words-more, more_asked, more_loaded, pair_words-length, pair_words-more, row_family, row_loaded}
use Rattle.exchange_calls.proofs.rows.load_row.Goals as goal

pub load-head-requires : goal.load-head-requires
load-head-requires g c = record {
  asked = head_asked (g.S.Steps.now c.args.steps.now) c.args.own.now.call c.args.turn c.args.word c.args.desk.now
      c.requires.desk c.args.row c.row-first.result c.requires.row c.row-first.ensures.value c.requires.phase;
}

pub loop-i-init : goal.loop-i-init
loop-i-init g c = record {
  many = ap length c.clear.ensures.items;
  goes = head_goes (g.S.Steps.now c.args.steps.now) c.args.own.now.call c.args.turn c.args.word
      (g.S.Steps.now c.load-head.new.self) c.load-head.result c.requires.phase c.load-head.ensures.goes
      ∙ ap (λ (ps : List Pair). row_family (g.S.Steps.now c.args.steps.now) c.args.own.now.call c.args.turn c.args.word
      (c.load-head.result ∷ pair_words ps)) (sym c.clear.ensures.items);
}

pub load_pair-pair-requires-clause-reads : goal.load_pair-pair-requires-clause-reads
load_pair-pair-requires-clause-reads g c =
    let f : Going = g.S.Steps.now c.args.steps.now in
    let head : ℕ = c.load-head.result in
    let rest : List ℕ = pair_words c.loop-i.hand.items.items in
    let long = pair_words-length c.loop-i.hand.items.items in
    let count = count_same f c.args.own.now.call c.args.turn c.args.word c.args.desk.now c.requires.desk c.args.row
    c.row-first.result c.requires.row c.row-first.ensures.value head c.count_in-count.result
    c.count_in-count.ensures.value in
    more_asked f c.args.own.now.call c.args.turn c.args.word c.args.desk.now c.requires.desk c.args.row
    c.row-first.result c.requires.row c.row-first.ensures.value head rest (g.S.Steps.now c.loop-i.steps)
    c.loop-i.invariant.goes _ 7 (omega (arith, long, c.loop-i.invariant.many))
    (omega (arith, long, c.loop-i.invariant.many, count, c.loop-i-test.true))

pub loop-i-preserved : goal.loop-i-preserved
loop-i-preserved g c =
    let f : Going = g.S.Steps.now c.args.steps.now in
    let head : ℕ = c.load-head.result in
    let items : List Pair = c.loop-i.hand.items.items in
    let pair : Pair = c.load_pair-pair.result in
    let rest : List ℕ = pair_words items in
    let long = pair_words-length items in
    let count = count_same f c.args.own.now.call c.args.turn c.args.word c.args.desk.now c.requires.desk c.args.row
    c.row-first.result c.requires.row c.row-first.ensures.value head c.count_in-count.result
    c.count_in-count.ensures.value in
    let more = length-append items (pair ∷ []) in
    record {
      many = ap length c.push_reserved.ensures.items ∙ omega (arith, more, c.loop-i.invariant.many);
      goes = more_loaded f c.args.own.now.call c.args.turn c.args.word c.args.desk.now c.requires.desk c.args.row
          c.row-first.result c.requires.row c.row-first.ensures.value head rest (g.S.Steps.now c.loop-i.steps)
          c.loop-i.invariant.goes (c.row-first.result + 1 + 7 * c.loop-i.i) 7
          (omega (arith, long, c.loop-i.invariant.many))
          (omega (arith, long, c.loop-i.invariant.many, count, c.loop-i-test.true))
          (g.S.Steps.now c.load_pair-pair.new.steps) (words_of_pair pair) refl c.load_pair-pair.ensures
          ∙ ap (λ (ws : List ℕ). row_family f c.args.own.now.call c.args.turn c.args.word (head ∷ ws))
          (sym (pair_words-more items pair) ∙ ap pair_words (sym c.push_reserved.ensures.items));
    }

pub loop-j-init : goal.loop-j-init
loop-j-init g c =
    let f : Going = g.S.Steps.now c.args.steps.now in
    let items : List Pair = c.loop-i.hand.items.items in
    record {
      items = omega (arith, c.loop-i.invariant.many, c.loop-i-test.false, c.loop-i.auto.i-end);
      many = ap length c.clear-2.ensures.items;
      goes = c.loop-i.invariant.goes
          ∙ ap (λ (ws : List ℕ). row_family f c.args.own.now.call c.args.turn c.args.word (c.load-head.result ∷ ws))
          (sym (append-nil (pair_words items))
          ∙ ap (λ (ms : List Mark). pair_words items ++ mark_words ms) (sym c.clear-2.ensures.items));
    }

pub load_mark-mark-requires-clause-reads : goal.load_mark-mark-requires-clause-reads
load_mark-mark-requires-clause-reads g c =
    let f : Going = g.S.Steps.now c.args.steps.now in
    let head : ℕ = c.load-head.result in
    let pairs : List ℕ = pair_words c.loop-j.hand.items.items in
    let marks : List ℕ = mark_words c.loop-j.hand.marks.items in
    let v = c.loop-j.invariant in
    let a = pair_words-length c.loop-j.hand.items.items in
    let b = mark_words-length c.loop-j.hand.marks.items in
    let both = length-append pairs marks in
    let count = count_same f c.args.own.now.call c.args.turn c.args.word c.args.desk.now c.requires.desk c.args.row
    c.row-first.result c.requires.row c.row-first.ensures.value head c.count_in-count.result
    c.count_in-count.ensures.value in
    let entries = entries_same f c.args.own.now.call c.args.turn c.args.word c.args.desk.now c.requires.desk c.args.row
    c.row-first.result c.requires.row c.row-first.ensures.value head c.entries_in-entries.result
    c.entries_in-entries.ensures.value in
    more_asked f c.args.own.now.call c.args.turn c.args.word c.args.desk.now c.requires.desk c.args.row
    c.row-first.result c.requires.row c.row-first.ensures.value head (pairs ++ marks) (g.S.Steps.now c.loop-j.steps)
    v.goes _ 2 (omega (arith, a, b, both, v.items, v.many))
    (omega (arith, a, b, both, v.items, v.many, count, entries, c.loop-j-test.true))

pub loop-j-preserved : goal.loop-j-preserved
loop-j-preserved g c =
    let f : Going = g.S.Steps.now c.args.steps.now in
    let head : ℕ = c.load-head.result in
    let marks : List Mark = c.loop-j.hand.marks.items in
    let mark : Mark = c.load_mark-mark.result in
    let pairs : List ℕ = pair_words c.loop-j.hand.items.items in
    let v = c.loop-j.invariant in
    let a = pair_words-length c.loop-j.hand.items.items in
    let b = mark_words-length marks in
    let both = length-append pairs (mark_words marks) in
    let more = length-append marks (mark ∷ []) in
    let count = count_same f c.args.own.now.call c.args.turn c.args.word c.args.desk.now c.requires.desk c.args.row
    c.row-first.result c.requires.row c.row-first.ensures.value head c.count_in-count.result
    c.count_in-count.ensures.value in
    let entries = entries_same f c.args.own.now.call c.args.turn c.args.word c.args.desk.now c.requires.desk c.args.row
    c.row-first.result c.requires.row c.row-first.ensures.value head c.entries_in-entries.result
    c.entries_in-entries.ensures.value in
    record {
      items = v.items;
      many = ap length c.push_reserved-in-loop-j.ensures.items ∙ omega (arith, more, v.many);
      goes = more_loaded f c.args.own.now.call c.args.turn c.args.word c.args.desk.now c.requires.desk c.args.row
          c.row-first.result c.requires.row c.row-first.ensures.value head (pairs ++ mark_words marks)
          (g.S.Steps.now c.loop-j.steps) v.goes
          (c.row-first.result + 1 + 7 * c.count_in-count.result + 2 * c.loop-j.j) 2
          (omega (arith, a, b, both, v.items, v.many))
          (omega (arith, a, b, both, v.items, v.many, count, entries, c.loop-j-test.true))
          (g.S.Steps.now c.load_mark-mark.new.steps) (mark_words (mark ∷ [])) refl c.load_mark-mark.ensures
          ∙ ap (λ (ws : List ℕ). row_family f c.args.own.now.call c.args.turn c.args.word (head ∷ ws))
          (append_assoc pairs (mark_words marks) (mark_words (mark ∷ []))
          ∙ ap (λ (ws : List ℕ). pairs ++ ws)
          (sym (mark_words-more marks mark) ∙ ap mark_words (sym c.push_reserved-in-loop-j.ensures.items)));
    }

pub returns : goal.returns
returns g c =
    let f : Going = g.S.Steps.now c.args.steps.now in
    let head : ℕ = c.load-head.result in
    let v = c.loop-j.invariant in
    let count = count_same f c.args.own.now.call c.args.turn c.args.word c.args.desk.now c.requires.desk c.args.row
    c.row-first.result c.requires.row c.row-first.ensures.value head c.count_in-count.result
    c.count_in-count.ensures.value in
    let entries = entries_same f c.args.own.now.call c.args.turn c.args.word c.args.desk.now c.requires.desk c.args.row
    c.row-first.result c.requires.row c.row-first.ensures.value head c.entries_in-entries.result
    c.entries_in-entries.ensures.value in
    row_loaded f c.args.own.now.call c.args.turn c.args.word (g.S.Steps.now c.loop-j.steps) head c.loop-j.hand v.goes
    (v.items ∙ count)
    (omega (arith, v.many, c.loop-j-test.false, c.loop-j.auto.j-end) ∙ entries)
