-- The packets are dealt, and the workers are ready.
use Rattle.std.proofs.Common.{◌≡◌, ◌+◌, ◌≤◌, ◌<◌, ◌^◌, ℕ, List, Vec, Global, length, vec_len, map, refl, sym, ap, subst, ◌∙◌, arith}
use Rattle.std.specs.Prelude.{All}
use Rattle.std.specs.List.{range_with_len}
use Rattle.std.proofs.lemmas.List.{length-map}
use Rattle.std.proofs.lemmas.List.Elements.{All-weaker}
use Rattle.sim_steps.specs.declared.adds.Totals.{Totals}
use Rattle.sim_steps.specs.Layout.{AreSettings, Settings}
use Rattle.sim_totals.specs.Values.{TableValue}
use Rattle.packet_heads.specs.declared.framing.Framing.{Framing}
use Rattle.packet_heads.proofs.WayLemmas.{same_way}
use Rattle.packet_adders.specs.declared.frames.Frame.{Frame}
use Rattle.totals_runner.specs.declared.frames.Frames.{Frames}
use Rattle.totals_runner.specs.Frames.{AreFrames, HasFrames, frames_by, shares_in}
use Rattle.totals_runner.specs.Seats.{AreFresh, HaveRoom}
use Rattle.totals_runner.proofs.BatchLemmas.{counts_are, frame_settings, shares_few, shares_short}
use Rattle.totals_runner.proofs.KeptLemmas.{frames_many, frames_short, shares_many, small_totals}
use Rattle.totals_runner.proofs.OpenedLemmas.{kept_many}
use Rattle.totals_runner.proofs.SeatLemmas.{all_ready, all_short, many_fresh, rooms_are}
use Rattle.totals_runner.proofs.counting.Counting.open_batch.Goals as goal

-- the shares are those of the frames
dealt_are : (seats : ℕ) (kept : Frames) (slice : List Frame) (shares : Vec (Vec Frame Global) Global) →
    slice ≡ kept.frames.items → map (λ (share : Vec Frame Global). share.items) shares.items ≡ shares_in seats slice →
    map (λ (share : Vec Frame Global). share.items) shares.items ≡ shares_in seats kept.frames.items
dealt_are seats kept slice shares same are = are ∙ ap (shares_in seats) same

-- so many of each share
short_shares : (seats before : ℕ) (kept : Frames) (packets : List (List ℕ)) (shares : List (Vec Frame Global)) →
    map (λ (share : Vec Frame Global). share.items) shares ≡ shares_in seats kept.frames.items →
    HasFrames kept before packets → length packets ≤ 4000000 →
    All (λ (share : Vec Frame Global). vec_len share ≤ 4000000) shares
short_shares seats before kept packets shares are has few =
    shares_few seats kept.frames.items shares are
    (omega (arith, frames_many kept.framing (before + 1) packets kept.frames.items has.are, few))

pub counts_of-requires : goal.counts_of-requires
counts_of-requires c =
    let going = c.requires.going in
    let shares : Vec (Vec Frame Global) Global = c.in_ok-shares.shares in
    let are = dealt_are c.args.self.now.seats c.args.frames.now c.deref.result.now shares c.deref.ensures.value
    c.in_ok-shares.ensures in
    let few = short_shares c.args.self.now.seats c.args.self.now.packets c.args.frames.now going.1 shares.items are
    going.3 (omega (arith, going.4)) in
    subst (All (λ (share : Vec Frame Global). vec_len share < 2 ^ 32)) (sym c.deref-2.ensures.value)
    (All-weaker (λ (share : Vec Frame Global). vec_len share ≤ 4000000)
    (λ (share : Vec Frame Global). vec_len share < 2 ^ 32) (λ share less. omega (arith, less)) shares.items few)

pub open-requires : goal.open-requires
open-requires c =
    let going = c.requires.going in
    let frames : List Frame = c.args.frames.now.frames.items in
    let shares : Vec (Vec Frame Global) Global = c.in_ok-shares.shares in
    let are = dealt_are c.args.self.now.seats c.args.frames.now c.deref.result.now shares c.deref.ensures.value
    c.in_ok-shares.ensures in
    frame_settings c.args.self.now.seats frames c.deref-3.result.now c.args.self.now.totals c.args.self.now.some
    c.args.self.now.few
    (c.deref-3.ensures.value ∙ c.in_ok-counts.ensures
    ∙ ap (map (λ (share : Vec Frame Global). vec_len share)) c.deref-2.ensures.value
    ∙ counts_are c.args.self.now.seats frames shares.items are)
    (omega (
      arith,
      frames_many c.args.frames.now.framing (c.args.self.now.packets + 1) going.1 frames going.3.are,
      going.4,
    ))
    (small_totals c.args.self.now going.0 going.2
    (omega (arith, kept_many c.args.self.now going.0 going.2, going.4)))

pub overflow_cast-dealt : goal.overflow_cast-dealt
overflow_cast-dealt c =
    let going = c.requires.going in
    omega (
      arith,
      c.len.ensures,
      c.args.frames.now.frames.ok.0,
      frames_many c.args.frames.now.framing (c.args.self.now.packets + 1) going.1 c.args.frames.now.frames.items
          going.3.are,
      going.4,
    )

pub returns-clause-few : goal.returns-clause-few
returns-clause-few c =
    let shares : Vec (Vec Frame Global) Global = c.in_ok-shares.shares in
    let are = dealt_are c.args.self.now.seats c.args.frames.now c.deref.result.now shares c.deref.ensures.value
    c.in_ok-shares.ensures in
    let item : Vec Frame Global → List Frame = λ (share : Vec Frame Global). share.items in
    omega (
      arith,
      c.in_ok-workers.workers.ok.0,
      many_fresh c.in_ok-table.table 0 (map item shares.items) c.in_ok-workers.workers.items c.in_ok-workers.ensures,
      length-map shares.items item,
      shares.ok.0,
      shares_many c.args.self.now.seats c.args.frames.now.frames.items shares are,
      c.args.self.now.few,
    )

-- each seat has room for its share
rooms_of : (counts : List ℕ) (first : Totals) (settings : Settings) (shares slice : List (Vec Frame Global)) →
    settings ≡ record { adds = counts; first = first } →
    counts ≡ map (λ (share : Vec Frame Global). vec_len share) slice → slice ≡ shares →
    map (λ (share : Vec Frame Global). vec_len share) shares ≡ settings.adds
rooms_of counts first settings shares slice opened are same =
    sym (ap (λ (s : Settings). s.adds) opened ∙ are ∙ ap (map (λ (share : Vec Frame Global). vec_len share)) same)

-- the settings, by the frames
opened_with : (seats : ℕ) (frames : List Frame) (counts : List ℕ) (first : Totals) (settings : Settings) →
    settings ≡ record { adds = counts; first = first } →
    counts ≡ map (λ (seat : ℕ). length (frames_by seats seat frames)) (range_with_len 0 seats) →
    settings ≡ record {
      adds = map (λ (seat : ℕ). length (frames_by seats seat frames)) (range_with_len 0 seats);
      first = first;
    }
opened_with seats frames counts first settings is are = is ∙ ap (to_settings first) are
  where
    to_settings : Totals → List ℕ → Settings
    to_settings first adds = record { adds = adds; first = first }

pub returns-clause-ready : goal.returns-clause-ready
returns-clause-ready c =
    let going = c.requires.going in
    let seats : ℕ = c.args.self.now.seats in
    let frames : List Frame = c.args.frames.now.frames.items in
    let shares : Vec (Vec Frame Global) Global = c.in_ok-shares.shares in
    let are = dealt_are seats c.args.frames.now c.deref.result.now shares c.deref.ensures.value
    c.in_ok-shares.ensures in
    let few = short_shares seats c.args.self.now.packets c.args.frames.now going.1 shares.items are going.3
    (omega (arith, going.4)) in
    let countable : All (λ (share : Vec Frame Global). vec_len share < 2 ^ 32) shares.items =
    All-weaker (λ (share : Vec Frame Global). vec_len share ≤ 4000000)
    (λ (share : Vec Frame Global). vec_len share < 2 ^ 32) (λ share less. omega (arith, less)) shares.items few in
    let short = shares_short seats frames shares.items are
    (frames_short c.args.frames.now.framing (c.args.self.now.packets + 1) going.1 frames going.3.are going.3.short) in
    let rooms = rooms_of c.deref-3.result.now c.args.self.now.totals c.in_ok-table.table.settings shares.items
    c.deref-2.result.now c.in_ok-table.ensures.settings (c.deref-3.ensures.value ∙ c.in_ok-counts.ensures)
    c.deref-2.ensures.value in
    all_ready c.in_ok-table.table 0 (map (λ (share : Vec Frame Global). share.items) shares.items)
    c.in_ok-workers.workers.items (all_short shares.items countable short)
    (rooms_are c.in_ok-table.table shares.items rooms) c.in_ok-workers.ensures

pub returns-clause-opened : goal.returns-clause-opened
returns-clause-opened c = λ packets has.
    let going = c.requires.going in
    let seats : ℕ = c.args.self.now.seats in
    let t : TableValue = c.in_ok-table.table in
    let frames : List Frame = c.args.frames.now.frames.items in
    let shares : Vec (Vec Frame Global) Global = c.in_ok-shares.shares in
    let are = dealt_are seats c.args.frames.now c.deref.result.now shares c.deref.ensures.value
    c.in_ok-shares.ensures in
    let first : Totals = c.args.self.now.totals in
    let rooms = rooms_of c.deref-3.result.now first t.settings shares.items c.deref-2.result.now
    c.in_ok-table.ensures.settings (c.deref-3.ensures.value ∙ c.in_ok-counts.ensures) c.deref-2.ensures.value in
    let counts : c.in_ok-counts.counts.items
    ≡ map (λ (seat : ℕ). length (frames_by seats seat frames)) (range_with_len 0 seats) =
    c.in_ok-counts.ensures ∙ ap (map (λ (share : Vec Frame Global). vec_len share)) c.deref-2.ensures.value
    ∙ counts_are seats frames shares.items are in
    let many = frames_many c.args.frames.now.framing (c.args.self.now.packets + 1) going.1 frames going.3.are in
    let ok : AreSettings t.settings =
    subst AreSettings (sym c.in_ok-table.ensures.settings)
    (frame_settings seats frames c.deref-3.result.now first c.args.self.now.some c.args.self.now.few
    (c.deref-3.ensures.value ∙ counts) (omega (arith, many, going.4))
    (small_totals c.args.self.now going.0 going.2
    (omega (arith, kept_many c.args.self.now going.0 going.2, going.4)))) in
    record {
      at = refl;
      frames = frames;
      are = subst (λ (f : Framing). AreFrames f (c.args.self.now.packets + 1) packets frames)
          (same_way c.args.frames.now.framing c.args.self.now.framing c.requires.way) has.are;
      short = has.short;
      settings = opened_with seats frames c.deref-3.result.now first t.settings c.in_ok-table.ensures.settings
          (c.deref-3.ensures.value ∙ counts);
      ok = ok;
      room = subst (HaveRoom t 0) are (rooms_are t shares.items rooms);
      fresh = subst (λ (ss : List (List Frame)). AreFresh t 0 ss c.in_ok-workers.workers.items) are
          c.in_ok-workers.ensures;
      counts = counts;
      behind = has.behind;
      many = c.len.ensures ∙ c.args.frames.now.frames.ok.0
          ∙ frames_many c.args.frames.now.framing (c.args.self.now.packets + 1) packets frames has.are;
    }
