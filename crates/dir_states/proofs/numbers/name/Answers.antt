use Rattle.std.proofs.Common.{◌≡◌, ◌≢◌, ◌+◌, ◌-◌, ◌*◌, ◌<◌, ◌≤◌, ◌^◌, inl, inr, cond, length, get_or, set, refl, sym, ap, ◌∙◌, arith}
use Rattle.std.proofs.Math.ListN.{length-set}
use Rattle.std.proofs.lemmas.Bool.{cases_eq, cases_lt}
use Rattle.std.proofs.lemmas.List.{get_or-set_same, get_or-set_other}
use Rattle.dir_states.proofs.NumberLemmas.{fewer_places, first-place, one_shifted, place-has, place-lacks, places-inside}
use Rattle.dir_states.proofs.numbers.name.Goals as goal

pub overflow_add-place-end : goal.overflow_add-place-end
overflow_add-place-end c =
    let deep = c.args.leaf.now.bucket.depth in
    let prefix = c.args.leaf.now.bucket.prefix in
    let from = first-place c.args.depth deep prefix (omega (arith, c.requires.depth)) c.requires.shallow
    c.requires.prefix in
    let width = one_shifted (c.args.depth - deep) (omega (arith, c.requires.depth)) in
    let inside = places-inside c.args.depth deep prefix c.requires.shallow c.requires.prefix in
    let most : 2 ^ c.args.depth ≤ 2 ^ 32 = fewer_places c.args.depth 32 c.requires.depth in
    let number : 2 ^ 32 ≡ 4294967296 = refl in
    omega (arith, from, width, inside, most, number)

pub bounds-entries-place : goal.bounds-entries-place
bounds-entries-place c =
    let deep = c.args.leaf.now.bucket.depth in
    let prefix = c.args.leaf.now.bucket.prefix in
    let from = first-place c.args.depth deep prefix (omega (arith, c.requires.depth)) c.requires.shallow
    c.requires.prefix in
    let width = one_shifted (c.args.depth - deep) (omega (arith, c.requires.depth)) in
    let inside = places-inside c.args.depth deep prefix c.requires.shallow c.requires.prefix in
    omega (arith, c.loop-place-test.true, from, width, inside, c.loop-place.invariant.len)

pub offset_bounds-entries-place : goal.offset_bounds-entries-place
offset_bounds-entries-place c =
    let deep = c.args.leaf.now.bucket.depth in
    let prefix = c.args.leaf.now.bucket.prefix in
    let from = first-place c.args.depth deep prefix (omega (arith, c.requires.depth)) c.requires.shallow
    c.requires.prefix in
    let width = one_shifted (c.args.depth - deep) (omega (arith, c.requires.depth)) in
    let inside = places-inside c.args.depth deep prefix c.requires.shallow c.requires.prefix in
    let most : 2 ^ c.args.depth ≤ 2 ^ 32 = fewer_places c.args.depth 32 c.requires.depth in
    let number : 2 ^ 32 ≡ 4294967296 = refl in
    omega (arith, c.loop-place-test.true, from, width, inside, most, number)

pub loop-place-preserved : goal.loop-place-preserved
loop-place-preserved c =
    let deep = c.args.leaf.now.bucket.depth in
    let prefix = c.args.leaf.now.bucket.prefix in
    let from = first-place c.args.depth deep prefix (omega (arith, c.requires.depth)) c.requires.shallow
    c.requires.prefix in
    let width = one_shifted (c.args.depth - deep) (omega (arith, c.requires.depth)) in
    let inside = places-inside c.args.depth deep prefix c.requires.shallow c.requires.prefix in
    let here : c.loop-place.place < length c.loop-place.entries =
    omega (arith, c.loop-place-test.true, from, width, inside, c.loop-place.invariant.len) in
    record {
      len = length-set c.loop-place.entries c.loop-place.place c.args.number ∙ c.loop-place.invariant.len;
      low = λ k none lt.
          (let other : k ≢ c.loop-place.place = λ e. omega (arith, e, lt, c.loop-place.auto.place) in
          get_or-set_other c.loop-place.entries c.loop-place.place k c.args.number none other
          ∙ c.loop-place.invariant.low k none lt);
      named = λ k none ge lt. elim (cases_eq k c.loop-place.place) [
        | inl e ↦
            ap (λ j. get_or (set c.loop-place.entries c.loop-place.place c.args.number) j none) e
            ∙ get_or-set_same c.loop-place.entries c.loop-place.place c.args.number none here
        | inr other ↦
            get_or-set_other c.loop-place.entries c.loop-place.place k c.args.number none other
            ∙ c.loop-place.invariant.named k none ge (omega (arith, lt, other))
      ];
      high = λ k none ge.
          (let other : k ≢ c.loop-place.place = λ e. omega (arith, e, ge) in
          get_or-set_other c.loop-place.entries c.loop-place.place k c.args.number none other
          ∙ c.loop-place.invariant.high k none (omega (arith, ge)));
    }

pub returns-clause-named : goal.returns-clause-named
returns-clause-named c = λ place none lt.
    let deep = c.args.leaf.now.bucket.depth in
    let prefix = c.args.leaf.now.bucket.prefix in
    let others = c.args.depth - c.args.leaf.now.bucket.depth in
    let was = get_or c.args.entries.now place none in
    let from = first-place c.args.depth deep prefix (omega (arith, c.requires.depth)) c.requires.shallow
    c.requires.prefix in
    let width = one_shifted (c.args.depth - deep) (omega (arith, c.requires.depth)) in
    elim (cases_lt place (prefix * 2 ^ others)) [
      | inl below ↦
          c.loop-place.invariant.low place none (omega (arith, below, from))
          ∙ sym (ap (λ b. cond b c.args.number was) (place-lacks others prefix place (inl below)))
      | inr above ↦ elim (cases_lt place (prefix * 2 ^ others + 2 ^ others)) [
        | inl inside ↦
            c.loop-place.invariant.named place none (omega (arith, above, from))
            (omega (arith, inside, from, width, c.loop-place-test.false))
            ∙ sym (ap (λ b. cond b c.args.number was) (place-has others prefix place above inside))
        | inr past ↦
            c.loop-place.invariant.high place none (omega (arith, past, from, width, c.loop-place.auto.place-end))
            ∙ sym (ap (λ b. cond b c.args.number was) (place-lacks others prefix place (inr past)))
      ]
    ]
