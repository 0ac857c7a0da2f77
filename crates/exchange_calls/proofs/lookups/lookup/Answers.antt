-- Two tries, and the held look.
use Rattle.std.proofs.Common.{◌∙◌, ℕ, ◌+◌, refl, sym, ap}
use Rattle.exchange_model.specs.Steps.{Aim, OfKey}
use Rattle.exchange_model.specs.Goes.{Replied, glance_lost}
use Rattle.exchange_calls.specs.Going.{Going}
use Rattle.exchange_calls.proofs.EndLemmas.{begun_of, begun_stands, held_told, lost_again, next_try, reply_told, seat_wants, shown_later, shown_told, stands_at}
use Rattle.exchange_calls.proofs.FindLemmas.{still_of}
use Rattle.exchange_calls.proofs.lookups.lookup.Goals as goal

pub try_find-requires-clause-phase : goal.try_find-requires-clause-phase
try_find-requires-clause-phase g c =
    begun_stands (g.S.Steps.now c.args.steps.now) (g.S.Steps.now c.begin_look.new.self) (OfKey c.args.key.now) 2
    c.begin_look.ensures

pub try_find-requires-clause-desk : goal.try_find-requires-clause-desk
try_find-requires-clause-desk g c =
    begun_of (g.S.Steps.now c.args.steps.now) (g.S.Steps.now c.begin_look.new.self) (OfKey c.args.key.now) 2
    c.begin_look.ensures c.args.desk.now c.requires.desk

pub try_find-requires-2-clause-phase : goal.try_find-requires-2-clause-phase
try_find-requires-2-clause-phase g c =
    let base : Going = g.S.Steps.now c.begin_look.new.self in
    let mid : Going = g.S.Steps.now c.try_find.new.steps in
    let aim : Aim = OfKey c.args.key.now in
    stands_at base mid aim 0 (next_try base mid aim 1 0 refl c.in-Lost.ensures)

pub try_find-requires-2-clause-desk : goal.try_find-requires-2-clause-desk
try_find-requires-2-clause-desk g c =
    let base : Going = g.S.Steps.now c.begin_look.new.self in
    let mid : Going = g.S.Steps.now c.try_find.new.steps in
    let aim : Aim = OfKey c.args.key.now in
    still_of base mid aim (glance_lost 1) c.args.desk.now c.in-Lost.ensures
    (begun_of (g.S.Steps.now c.args.steps.now) base aim 2 c.begin_look.ensures c.args.desk.now c.requires.desk)

pub find_held-held-requires-clause-phase : goal.find_held-held-requires-clause-phase
find_held-held-requires-clause-phase g c =
    let f : Going = g.S.Steps.now c.args.steps.now in
    let base : Going = g.S.Steps.now c.begin_look.new.self in
    let mid : Going = g.S.Steps.now c.try_find.new.steps in
    let end : Going = g.S.Steps.now c.try_find-2.new.steps in
    let aim : Aim = OfKey c.args.key.now in
    let lost = lost_again base mid end aim 0 (next_try base mid aim 1 0 refl c.in-Lost.ensures)
    c.in-Lost-try_find.ensures in
    ap (λ (h : Going). h.now.stand) (seat_wants f base aim 2 c.begin_look.ensures end c.requires.seat lost)

pub find_held-held-requires-clause-desk : goal.find_held-held-requires-clause-desk
find_held-held-requires-clause-desk g c =
    let f : Going = g.S.Steps.now c.args.steps.now in
    let base : Going = g.S.Steps.now c.begin_look.new.self in
    let mid : Going = g.S.Steps.now c.try_find.new.steps in
    let end : Going = g.S.Steps.now c.try_find-2.new.steps in
    let aim : Aim = OfKey c.args.key.now in
    still_of base end aim (glance_lost 0) c.args.desk.now
    (lost_again base mid end aim 0 (next_try base mid aim 1 0 refl c.in-Lost.ensures) c.in-Lost-try_find.ensures)
    (begun_of f base aim 2 c.begin_look.ensures c.args.desk.now c.requires.desk)

pub find_held-held-requires-clause-time : goal.find_held-held-requires-clause-time
find_held-held-requires-clause-time g c =
    let f : Going = g.S.Steps.now c.args.steps.now in
    let base : Going = g.S.Steps.now c.begin_look.new.self in
    let mid : Going = g.S.Steps.now c.try_find.new.steps in
    let end : Going = g.S.Steps.now c.try_find-2.new.steps in
    let aim : Aim = OfKey c.args.key.now in
    let lost = lost_again base mid end aim 0 (next_try base mid aim 1 0 refl c.in-Lost.ensures)
    c.in-Lost-try_find.ensures in
    c.requires.time
    ∙ sym (ap (λ (h : Going). h.now.time) (seat_wants f base aim 2 c.begin_look.ensures end c.requires.seat lost)
    ∙ ap (λ (h : Going). h.now.time) c.begin_look.ensures)

pub returns-in-Shown : goal.returns-in-Shown
returns-in-Shown g c =
    let f : Going = g.S.Steps.now c.args.steps.now in
    let base : Going = g.S.Steps.now c.begin_look.new.self in
    let e = c.in-Shown.ensures in
    record {
      told = shown_told f base (OfKey c.args.key.now) 2 c.begin_look.ensures (g.S.Steps.now c.try_find.new.steps) e.kept
          c.args.time.now (Replied c.reply_of.result) c.requires.time
          (reply_told f c.args.key.now e.kept c.in-Shown.found c.reply_of.result e.value c.reply_of.ensures) e.goes;
    }

pub returns-in-Shown-try_find : goal.returns-in-Shown-try_find
returns-in-Shown-try_find g c =
    let f : Going = g.S.Steps.now c.args.steps.now in
    let base : Going = g.S.Steps.now c.begin_look.new.self in
    let mid : Going = g.S.Steps.now c.try_find.new.steps in
    let end : Going = g.S.Steps.now c.try_find-2.new.steps in
    let aim : Aim = OfKey c.args.key.now in
    let e = c.in-Shown-try_find.ensures in
    record {
      told = shown_told f base aim 2 c.begin_look.ensures end e.kept
          c.args.time.now (Replied c.reply_of-in-Shown-try_find.result) c.requires.time
          (reply_told f c.args.key.now e.kept c.in-Shown-try_find.found c.reply_of-in-Shown-try_find.result e.value
          c.reply_of-in-Shown-try_find.ensures)
          (shown_later base mid end aim 0 e.kept (next_try base mid aim 1 0 refl c.in-Lost.ensures) e.goes);
    }

pub returns : goal.returns
returns g c =
    let f : Going = g.S.Steps.now c.args.steps.now in
    let base : Going = g.S.Steps.now c.begin_look.new.self in
    let mid : Going = g.S.Steps.now c.try_find.new.steps in
    let end : Going = g.S.Steps.now c.try_find-2.new.steps in
    let aim : Aim = OfKey c.args.key.now in
    let lost = lost_again base mid end aim 0 (next_try base mid aim 1 0 refl c.in-Lost.ensures)
    c.in-Lost-try_find.ensures in
    let e = c.find_held-held.ensures.shown in
    record {
      told = held_told f base aim 2 c.begin_look.ensures end (g.S.Steps.now c.find_held-held.new.steps) e.kept
          c.find_held-held.new.time (Replied c.reply_of-2.result)
          (seat_wants f base aim 2 c.begin_look.ensures end c.requires.seat lost)
          (c.find_held-held.ensures.time ∙ ap (λ (n : ℕ). n + 1) c.requires.time)
          (reply_told f c.args.key.now e.kept c.find_held-held.result c.reply_of-2.result e.value
          c.reply_of-2.ensures) e.goes;
    }
