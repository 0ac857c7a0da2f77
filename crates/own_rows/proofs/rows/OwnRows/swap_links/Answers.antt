-- Both arrays are written at two places.
use Rattle.std.proofs.Common.{◌≡◌, ◌+◌, length, refl, arith}
use Rattle.own_rows.proofs.SwapLemmas.{backs_in, both_then, goes_first, goes_rest, goes_second, nexts_in}
use Rattle.own_rows.proofs.rows.OwnRows.swap_links.Goals as goal

pub returns-clause-sound : goal.returns-clause-sound
returns-clause-sound c =
    let o = c.args.self.now in
    let s = c.requires.sound in
    let long : o.first + length o.next.items ≡ o.first + o.rows + 4 = omega (arith, o.next.ok.0, s.nexts) in
    let wide : o.first + length o.back.items ≡ o.first + o.rows + 4 = omega (arith, o.back.ok.0, s.backs) in
    record {
      few = s.few;
      nexts = s.nexts;
      backs = s.backs;
      buckets = s.buckets;
      generations = s.generations;
      losts = s.losts;
      next_in = nexts_in o.first (o.first + o.rows + 4) o.next.items o.back.items long wide c.args.a c.args.b _ _
          c.requires.a c.requires.b c.after-x.ensures c.after-y.ensures s.next_in s.both;
      back_in = backs_in o.first (o.first + o.rows + 4) o.next.items o.back.items long wide c.args.a c.args.b _ _
          c.requires.a c.requires.b c.after-x.ensures c.after-y.ensures s.next_in s.both s.back_in;
      both = both_then o.first (o.first + o.rows + 4) o.next.items o.back.items long wide c.args.a c.args.b _ _
          c.requires.a c.requires.b c.after-x.ensures c.after-y.ensures s.next_in s.both;
    }

pub returns-clause-swapped : goal.returns-clause-swapped
returns-clause-swapped c =
    let o = c.args.self.now in
    let s = c.requires.sound in
    let long : o.first + length o.next.items ≡ o.first + o.rows + 4 = omega (arith, o.next.ok.0, s.nexts) in
    let wide : o.first + length o.back.items ≡ o.first + o.rows + 4 = omega (arith, o.back.ok.0, s.backs) in
    record {
      first = refl;
      rows = refl;
      buckets = refl;
      generations = refl;
      lost = refl;
      sweeps = refl;
      one = goes_first o.first (o.first + o.rows + 4) o.next.items o.back.items long wide c.args.a c.args.b _ _
          c.requires.a c.requires.b c.after-x.ensures c.after-y.ensures;
      other = goes_second o.first (o.first + o.rows + 4) o.next.items o.back.items long wide c.args.a c.args.b _ _
          c.requires.a c.requires.b c.after-x.ensures c.after-y.ensures;
      rest = goes_rest o.first (o.first + o.rows + 4) o.next.items o.back.items long wide c.args.a c.args.b _ _
          c.requires.a c.requires.b c.after-x.ensures c.after-y.ensures;
    }
