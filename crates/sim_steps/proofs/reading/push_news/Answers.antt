use Rattle.std.proofs.Common.{ℕ, List, [], ◌∷◌, ◌++◌, ◌-◌, ◌<◌, ◌≤◌, ◌∙◌, length, reverse, ap, sym, arith, append_assoc, length-append}
use Rattle.sim_steps.specs.Order.{Entry, news, read_applied}
use Rattle.sim_steps.proofs.NewsLemmas.{pushed, passed, number_small, room_left}
use Rattle.sim_steps.proofs.reading.push_news.Goals as goal

pub overflow_cast-number : goal.overflow_cast-number
overflow_cast-number c =
    let o : ℕ → ℕ = read_applied c.args.desk.now.seats c.args.desk.now.rows c.args.words.now c.args.old in
    let n : ℕ → ℕ = read_applied c.args.desk.now.seats c.args.desk.now.rows c.args.words.now c.args.new in
    let s : ℕ = c.seats.seat in
    let rises : o (s - 1) < n (s - 1) = omega (arith, c.row_word.ensures, c.row_word-number.ensures) in
    omega (
      arith,
      number_small o n s c.args.desk.now.seats c.seats-test.true c.seats.invariant.few rises
          c.requires.small,
      c.row_word-number.ensures,
    )

pub push_reserved-requires : goal.push_reserved-requires
push_reserved-requires c =
    let o : ℕ → ℕ = read_applied c.args.desk.now.seats c.args.desk.now.rows c.args.words.now c.args.old in
    let n : ℕ → ℕ = read_applied c.args.desk.now.seats c.args.desk.now.rows c.args.words.now c.args.new in
    let s : ℕ = c.seats.seat in
    let rises : o (s - 1) < n (s - 1) = omega (arith, c.row_word.ensures, c.row_word-number.ensures) in
    let left = room_left o n s c.args.desk.now.seats c.seats-test.true c.seats.invariant.few rises in
    omega (
      arith,
      left,
      c.requires.room,
      c.seats.out.ok.0,
      c.args.out.now.ok.0,
      ap (length {A = Entry}) c.seats.invariant.items,
      length-append c.args.out.now.items (reverse (news o n s (c.args.desk.now.seats - s))),
      c.seats.invariant.room,
    )

pub seats-preserved-then-row_word-number : goal.seats-preserved-then-row_word-number
seats-preserved-then-row_word-number c =
    let o : ℕ → ℕ = read_applied c.args.desk.now.seats c.args.desk.now.rows c.args.words.now c.args.old in
    let n : ℕ → ℕ = read_applied c.args.desk.now.seats c.args.desk.now.rows c.args.words.now c.args.new in
    let s : ℕ = c.seats.seat in
    let rises : o (s - 1) < n (s - 1) = omega (arith, c.row_word.ensures, c.row_word-number.ensures) in
    let entry : ℕ → Entry = λ k. (s - 1, k) in
    let out : List Entry = c.args.out.now.items in
    let before : List Entry = reverse (news o n s (c.args.desk.now.seats - s)) in
    record {
      few = omega (arith, c.seats.invariant.few);
      items = c.push_reserved.ensures.items ∙ ap (λ k. c.seats.out.items ++ entry k ∷ []) c.row_word-number.ensures
          ∙ ap (λ xs. xs ++ entry (n (s - 1)) ∷ []) c.seats.invariant.items
          ∙ append_assoc out before (entry (n (s - 1)) ∷ [])
          ∙ ap (λ xs. out ++ xs) (sym (pushed o n s c.args.desk.now.seats c.seats-test.true c.seats.invariant.few
          rises));
      room = c.push_reserved.ensures.capacity ∙ c.seats.invariant.room;
    }

pub seats-preserved : goal.seats-preserved
seats-preserved c =
    let o : ℕ → ℕ = read_applied c.args.desk.now.seats c.args.desk.now.rows c.args.words.now c.args.old in
    let n : ℕ → ℕ = read_applied c.args.desk.now.seats c.args.desk.now.rows c.args.words.now c.args.new in
    let s : ℕ = c.seats.seat in
    let stays : n (s - 1) ≤ o (s - 1) = omega (arith, c.row_word.ensures, c.row_word-number.ensures) in
    let out : List Entry = c.args.out.now.items in
    record {
      few = omega (arith, c.seats.invariant.few);
      items = c.seats.invariant.items ∙ ap (λ xs. out ++ xs)
          (sym (passed o n s c.args.desk.now.seats c.seats-test.true c.seats.invariant.few stays));
      room = c.seats.invariant.room;
    }
