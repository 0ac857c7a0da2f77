use Rattle.std.proofs.Common.{◌≡◌, ℕ, [], ◌-◌, ◌<◌, ◌^◌, ◌++◌, ◌∙◌, reverse, ap, sym, arith}
use Rattle.sim_steps.specs.Order.{read_order, read_order_to}
use Rattle.sim_steps.proofs.NewsLemmas.{back_order, back_room, back_small, order_end}
use Rattle.sim_steps.proofs.reading.read_order_into.Goals as goal
use Rattle.sim_steps.proofs.reading.read_order_into.Goals.{then-rows-test+else-row_word-gt0, else-rows-test}

pub push_news-requires-clause-room : goal.push_news-requires-clause-room
push_news-requires-clause-room c =
    let d = c.args.desk.now in
    let b : ℕ = c.row_word-base.result in
    let some : 0 < b = omega (arith, c.row_word-base.ensures, c.row_word.ensures) in
    let r = back_room d.seats d.rows c.args.words.now c.rows.more c.rows.row b c.rows-test.true
    c.row_word-base.ensures some (read_order d.seats d.rows c.args.words.now) c.rows.out.items
    c.rows.invariant.order in
    omega (arith, r, c.rows.out.ok.0, c.requires.room, c.rows.invariant.room)

pub push_news-requires-clause-small : goal.push_news-requires-clause-small
push_news-requires-clause-small c =
    let d = c.args.desk.now in
    let b : ℕ = c.row_word-base.result in
    let some : 0 < b = omega (arith, c.row_word-base.ensures, c.row_word.ensures) in
    back_small d.seats d.rows c.args.words.now c.rows.more c.rows.row b c.rows-test.true c.row_word-base.ensures some
    (λ entry. entry.1 < 2 ^ 32) (read_order d.seats d.rows c.args.words.now) c.rows.out.items
    c.rows.invariant.order c.requires.small

pub rows-preserved : goal.rows-preserved
rows-preserved c =
    let d = c.args.desk.now in
    let b : ℕ = c.row_word-base.result in
    let some : 0 < b = omega (arith, c.row_word-base.ensures, c.row_word.ensures) in
    record {
      order = back_order d.seats d.rows c.args.words.now c.rows.more c.rows.row b c.rows-test.true
          c.row_word-base.ensures some (read_order d.seats d.rows c.args.words.now) c.rows.out.items
          c.rows.invariant.order
          ∙ ap (λ xs. read_order_to d.seats d.rows c.args.words.now (c.rows.more - 1) (b - 1) ++ reverse xs)
          (sym c.push_news.ensures.items);
      room = c.push_news.ensures.capacity ∙ c.rows.invariant.room;
    }

pub returns : goal.returns
returns c =
    let d = c.args.desk.now in
    let done : read_order_to d.seats d.rows c.args.words.now c.rows.more c.rows.row ≡ [] =
    order_end d.seats d.rows c.args.words.now c.rows.more c.rows.row
    (λ h k. elim c.rows-test.branch [
      | then-rows-test+else-row_word-gt0 w ↦ omega
          (arith, w, k)
      | else-rows-test w ↦ omega (arith, w, h)
    ]) in
    c.reverse.ensures.items ∙ sym (c.rows.invariant.order ∙ ap (λ xs. xs ++ reverse c.rows.out.items) done)
