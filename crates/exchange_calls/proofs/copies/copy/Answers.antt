-- Two tries, and the held look.
use Rattle.std.proofs.Common.{◌∙◌, ℕ, ◌+◌, List, take, refl, sym, ap}
use Rattle.plain_map.specs.declared.keys.Pair.{Pair}
use Rattle.exchange_model.specs.Steps.{Aim, OfBucket}
use Rattle.exchange_model.specs.Goes.{Pairs, glance_lost}
use Rattle.exchange_calls.specs.Going.{Going}
use Rattle.exchange_calls.proofs.EndLemmas.{begun_of, begun_stands, held_told, lost_again, next_try, seat_wants, shown_later, shown_told, stands_at}
use Rattle.exchange_calls.proofs.FindLemmas.{still_of}
use Rattle.exchange_calls.proofs.copies.copy.Goals as goal

pub try_copy-requires-clause-phase : goal.try_copy-requires-clause-phase
try_copy-requires-clause-phase g c =
    begun_stands (g.S.Steps.now c.args.steps.now) (g.S.Steps.now c.begin_copy.new.self) (OfBucket c.args.bucket) 2
    c.begin_copy.ensures

pub try_copy-requires-clause-desk : goal.try_copy-requires-clause-desk
try_copy-requires-clause-desk g c =
    begun_of (g.S.Steps.now c.args.steps.now) (g.S.Steps.now c.begin_copy.new.self) (OfBucket c.args.bucket) 2
    c.begin_copy.ensures c.args.desk.now c.requires.desk

pub try_copy-requires-2-clause-phase : goal.try_copy-requires-2-clause-phase
try_copy-requires-2-clause-phase g c =
    let base : Going = g.S.Steps.now c.begin_copy.new.self in
    let mid : Going = g.S.Steps.now c.try_copy.new.steps in
    let aim : Aim = OfBucket c.args.bucket in
    stands_at base mid aim 0 (next_try base mid aim 1 0 refl (c.in-None.ensures.lost refl))

pub try_copy-requires-2-clause-desk : goal.try_copy-requires-2-clause-desk
try_copy-requires-2-clause-desk g c =
    let base : Going = g.S.Steps.now c.begin_copy.new.self in
    let mid : Going = g.S.Steps.now c.try_copy.new.steps in
    let aim : Aim = OfBucket c.args.bucket in
    still_of base mid aim (glance_lost 1) c.args.desk.now (c.in-None.ensures.lost refl)
    (begun_of (g.S.Steps.now c.args.steps.now) base aim 2 c.begin_copy.ensures c.args.desk.now c.requires.desk)

pub copy_held-requires-clause-phase : goal.copy_held-requires-clause-phase
copy_held-requires-clause-phase g c =
    let f : Going = g.S.Steps.now c.args.steps.now in
    let base : Going = g.S.Steps.now c.begin_copy.new.self in
    let mid : Going = g.S.Steps.now c.try_copy.new.steps in
    let end : Going = g.S.Steps.now c.try_copy-2.new.steps in
    let aim : Aim = OfBucket c.args.bucket in
    let lost = lost_again base mid end aim 0 (next_try base mid aim 1 0 refl (c.in-None.ensures.lost refl))
    (c.in-None-try_copy.ensures.lost refl) in
    ap (λ (h : Going). h.now.stand) (seat_wants f base aim 2 c.begin_copy.ensures end c.requires.seat lost)

pub copy_held-requires-clause-desk : goal.copy_held-requires-clause-desk
copy_held-requires-clause-desk g c =
    let f : Going = g.S.Steps.now c.args.steps.now in
    let base : Going = g.S.Steps.now c.begin_copy.new.self in
    let mid : Going = g.S.Steps.now c.try_copy.new.steps in
    let end : Going = g.S.Steps.now c.try_copy-2.new.steps in
    let aim : Aim = OfBucket c.args.bucket in
    still_of base end aim (glance_lost 0) c.args.desk.now
    (lost_again base mid end aim 0 (next_try base mid aim 1 0 refl (c.in-None.ensures.lost refl))
    (c.in-None-try_copy.ensures.lost refl))
    (begun_of f base aim 2 c.begin_copy.ensures c.args.desk.now c.requires.desk)

pub copy_held-requires-clause-time : goal.copy_held-requires-clause-time
copy_held-requires-clause-time g c =
    let f : Going = g.S.Steps.now c.args.steps.now in
    let base : Going = g.S.Steps.now c.begin_copy.new.self in
    let mid : Going = g.S.Steps.now c.try_copy.new.steps in
    let end : Going = g.S.Steps.now c.try_copy-2.new.steps in
    let aim : Aim = OfBucket c.args.bucket in
    let lost = lost_again base mid end aim 0 (next_try base mid aim 1 0 refl (c.in-None.ensures.lost refl))
    (c.in-None-try_copy.ensures.lost refl) in
    c.requires.time
    ∙ sym (ap (λ (h : Going). h.now.time) (seat_wants f base aim 2 c.begin_copy.ensures end c.requires.seat lost)
    ∙ ap (λ (h : Going). h.now.time) c.begin_copy.ensures)

pub returns-in-Some-clause-told : goal.returns-in-Some-clause-told
returns-in-Some-clause-told g c =
    let f : Going = g.S.Steps.now c.args.steps.now in
    let base : Going = g.S.Steps.now c.begin_copy.new.self in
    let kept : List Pair = take c.in-Some.count c.try_copy.new.out in
    shown_told f base (OfBucket c.args.bucket) 2 c.begin_copy.ensures (g.S.Steps.now c.try_copy.new.steps) kept
    c.args.time.now (Pairs kept) c.requires.time refl c.in-Some.ensures.shown

pub returns-in-Some-try_copy-clause-told : goal.returns-in-Some-try_copy-clause-told
returns-in-Some-try_copy-clause-told g c =
    let f : Going = g.S.Steps.now c.args.steps.now in
    let base : Going = g.S.Steps.now c.begin_copy.new.self in
    let mid : Going = g.S.Steps.now c.try_copy.new.steps in
    let end : Going = g.S.Steps.now c.try_copy-2.new.steps in
    let aim : Aim = OfBucket c.args.bucket in
    let kept : List Pair = take c.in-Some-try_copy.count c.try_copy-2.new.out in
    shown_told f base aim 2 c.begin_copy.ensures end kept c.args.time.now (Pairs kept) c.requires.time refl
    (shown_later base mid end aim 0 kept (next_try base mid aim 1 0 refl (c.in-None.ensures.lost refl))
    c.in-Some-try_copy.ensures.shown)

pub returns-clause-told : goal.returns-clause-told
returns-clause-told g c =
    let f : Going = g.S.Steps.now c.args.steps.now in
    let base : Going = g.S.Steps.now c.begin_copy.new.self in
    let mid : Going = g.S.Steps.now c.try_copy.new.steps in
    let end : Going = g.S.Steps.now c.try_copy-2.new.steps in
    let aim : Aim = OfBucket c.args.bucket in
    let lost = lost_again base mid end aim 0 (next_try base mid aim 1 0 refl (c.in-None.ensures.lost refl))
    (c.in-None-try_copy.ensures.lost refl) in
    let kept : List Pair = take c.copy_held.result c.copy_held.new.out in
    held_told f base aim 2 c.begin_copy.ensures end (g.S.Steps.now c.copy_held.new.steps) kept
    c.copy_held.new.time (Pairs kept)
    (seat_wants f base aim 2 c.begin_copy.ensures end c.requires.seat lost)
    (c.copy_held.ensures.time ∙ ap (λ (n : ℕ). n + 1) c.requires.time) refl c.copy_held.ensures.shown
