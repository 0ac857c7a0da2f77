-- The line that is written from a plan asks for it.
use Rattle.std.proofs.Common.{◌≡◌, ◌∙◌, ◌-◌, ◌<◌, ◌≤◌, ◌^◌, ℕ, ◌&&◌, Bool, cond, true, [], Option, Some, None}
use Rattle.std.proofs.Common.{IfSome, ap, ap₂, refl, arith}
use Rattle.std.specs.Fmt.{decimal as written}
use Rattle.std.specs.List.{list_all}
use Rattle.std.specs.Option.{option_map, option_map_or}
use Rattle.std.specs.Prelude.{replicate}
use Rattle.std.specs.Str.Parse.{IsNumeral, digits_value, without_leading_plus}
use Rattle.std.proofs.lemmas.Fmt.{decimal_is_IsNumeral}
use Rattle.clap.proofs.ValueTestLemmas.{Accepts-accepts}
use Rattle.clap.specs.declared.builder.value_parser.ValueParser.TheVariants.{Unsigned}
use Rattle.hash_bits.specs.declared.hashing.Hashing.{Hashing}
use Rattle.hash_bits.specs.declared.hashing.Hashing.TheVariants.{Mix, Ports}
use Rattle.step_counts.specs.declared.rows.SeatRows.{SeatRows}
use Rattle.trace_share.specs.declared.deals.Share.{Share}
use Rattle.trace_share.specs.declared.deals.Share.TheVariants.{Round, Block, Flow}
use Rattle.packet_heads.specs.declared.framing.Link.{Link}
use Rattle.packet_heads.specs.declared.framing.Link.TheVariants as link
use Rattle.packet_heads.specs.Heads.{plain_framing}
use Rattle.key_texts.specs.declared.rules.CallRule.{CallRule}
use Rattle.key_texts.specs.declared.rules.CallRule.TheVariants as rule
use Rattle.command_line.specs.Command.{Number, batch, capture_number, depth, every, extensions, items, packets, seats, seed}
use Rattle.command_line.specs.Command.{start, tags}
use Rattle.command_line.specs.CommandLines.{IsAskable, as_used, asked, asked_framing, calls_text, default_plan, given_of, hash_text, is_in}
use Rattle.command_line.specs.CommandLines.{line_of}
use Rattle.command_line.specs.CommandLines.{link_text, lists_of, rows_text, seed_of, share_text, tests}
use Rattle.command_line.specs.Texts.{AreRowsInRange}
use Rattle.line_fields.specs.Reading.{◌>>=◌}
use Rattle.command_line.specs.Words.{asked_rows, asked_schedule, asked_stops, calls_of, decimal, hashing_of, reads, share_of}
use Rattle.command_line.specs.Words.{link_of, start_below}
use Rattle.command_line.specs.declared.plan.Mode.{Mode}
use Rattle.command_line.specs.declared.plan.Mode.TheVariants.{Serve, Play, Make, Trial, Totals, Check, Flows}
use Rattle.command_line.specs.declared.plan.Plan.{Plan}
use Rattle.command_line.proofs.CommandLinesLemmas.{any_line}
use Rattle.command_line.proofs.PlayTextLemmas.{schedule_back, stops_back}
use Rattle.command_line.proofs.TextLemmas.{at_most_of}
use Rattle.command_line.proofs.WrittenLemmas.{bare, read_back, rows_text_back}

-- it is one that its option takes
passes : (n : Number) (x : ℕ) → n.least ≤ x → x ≤ n.most → x < 2 ^ 64 → is_in n (written x) ≡ true
passes n x low high fits =
    let value : digits_value 10 (without_leading_plus (written x)) ≡ x = read_back x fits in
    let numeral : IsNumeral 10 (without_leading_plus (written x)) = rw (bare x fits) (decimal_is_IsNumeral x fits).0 in
    Accepts-accepts true (Unsigned n.least n.most) (written x) (numeral, rw value fits, rw value low, rw value high)

-- ---- the texts of a plan

hash_back : (h : Hashing) → seed_of h < 2 ^ 64 → hashing_of (hash_text h) (decimal (written (seed_of h))) ≡ Some h
hash_back (Mix s) fits = ap (λ n. Some (Mix n)) (read_back s fits)
hash_back (Ports s) fits = ap (λ n. Some (Ports n)) (read_back s fits)

share_back : (s : Share) → share_of (share_text s) ≡ Some s
share_back Round = refl
share_back Block = refl
share_back Flow = refl

start_back : (d s : ℕ) → d < 2 ^ 64 → s < 2 ^ 64 → s ≤ d
    → start_below (decimal (written d)) (decimal (written s)) ≡ Some s
start_back d s df sf low =
    ap₂ start_below (read_back d df) (read_back s sf) ∙ ap (λ b. cond b (Some s) None) (at_most_of d s low)

rows_back : (rows : Option SeatRows) → IfSome rows AreRowsInRange → asked_rows (option_map rows_text rows) ≡ Some rows
rows_back None h = refl
rows_back (Some rows) h = ap (option_map (λ (r : SeatRows). Some r)) (rows_text_back rows h)

link_back : (l : Link) → link_of (link_text l) ≡ Some l
link_back link.Null = refl
link_back link.Ethernet = refl
link_back link.Ppp = refl
link_back link.Raw12 = refl
link_back link.Raw14 = refl
link_back link.Raw = refl
link_back link.Loop = refl
link_back link.LinuxSll = refl
link_back link.Ipv4 = refl
link_back link.Ipv6 = refl
link_back link.LinuxSll2 = refl

calls_back : (c : CallRule) → calls_of (calls_text c) ≡ Some c
calls_back rule.Sessions = refl
calls_back rule.Flows = refl

tags_back : (given : Option ℕ) → IfSome given (λ most. most ≤ tags.most) →
    option_map decimal (option_map written given) ≡ given
tags_back None h = refl
tags_back (Some most) h = ap (λ n. Some n) (read_back most (omega (arith, h)))

every_back : (given : Option ℕ) → IfSome given (λ n. (1 ≤ n) × (n ≤ 2 ^ 52 - 1)) →
    option_map decimal (option_map written given) ≡ given
every_back None h = refl
every_back (Some n) h = ap (λ n. Some n) (read_back n (omega (arith, h.1)))

framing_back : (p : Plan) → IsAskable p → asked_framing (given_of p) (lists_of p) ≡ Some p.framing
framing_back p h =
    let l = link_back p.framing.link in
    let t = tags_back p.framing.tags h.tags in
    let e = read_back p.framing.extensions (omega (arith, h.extensions)) in
    λ i. (l i) >>= (λ link. Some (record { link = link; tags = t i; extensions = e i }))

and : {a b : Bool} → a ≡ true → b ≡ true → (a && b) ≡ true
and e f = ap₂ (λ x y. x && y) e f

-- so are tags, where they are given
tags_pass : (given : Option ℕ) → IfSome given (λ most. most ≤ tags.most) →
    option_map_or (is_in tags) (option_map written given) true ≡ true
tags_pass None h = refl
tags_pass (Some most) h = passes tags most (omega arith) h (omega (arith, h))

-- so is the number of packets between two blocks, where it is given
every_pass : (given : Option ℕ) → IfSome given (λ n. (1 ≤ n) × (n ≤ 2 ^ 52 - 1)) →
    option_map_or (is_in every) (option_map written given) true ≡ true
every_pass None h = refl
every_pass (Some n) h = passes every n h.0 h.1 (omega (arith, h.1))

all_pass : (p : Plan) → IsAskable p → list_all (λ b. b) (tests (given_of p) (lists_of p)) ≡ true
all_pass p h =
    let r = h.range.settings in
    and (passes seats p.seats r.seats_in_range.0 r.seats_in_range.1 (omega arith))
    (and (passes items p.items r.items_in_range.0 r.items_in_range.1 (omega arith))
    (and (passes depth p.depth r.depth_in_range.0 r.depth_in_range.1 (omega arith))
    (and (passes start p.start (omega arith) (omega arith) (omega arith))
    (and (passes seed (seed_of p.hashing) (omega arith) (omega arith) h.seed)
    (and (passes capture_number p.number (omega arith) (omega arith) h.number)
    (and (passes packets p.packets (omega arith) h.range.packets (omega arith))
    (and (passes extensions p.framing.extensions (omega arith) h.extensions (omega (arith, h.extensions)))
    (and (passes batch p.batch h.range.batch.0 h.range.batch.1 (omega (arith, h.range.batch.1)))
    (and (tags_pass p.framing.tags h.tags)
    (and (every_pass p.every h.range.every) refl))))))))))

serve_back : (p : Plan) → IsAskable p → asked Serve (given_of p) (lists_of p) ≡ Some (as_used p Serve)
serve_back p h =
    let r = h.range.settings in
    let n = read_back p.seats (omega arith) in
    let b = read_back p.items (omega arith) in
    let d = read_back p.depth (omega arith) in
    let s = start_back p.depth p.start (omega arith) (omega arith) r.start_in_range.1 in
    let hs = hash_back p.hashing h.seed in
    let sh = share_back p.share in
    let rs = rows_back p.rows h.range.rows in
    let fr = framing_back p h in
    let bt = read_back p.batch (omega (arith, h.range.batch.1)) in
    let cs = calls_back p.calls in
    λ i. (rs i) >>= (λ rows. (s i) >>= (λ start. (hs i) >>= (λ hashing. (sh i) >>= (λ share. (fr i) >>= (λ framing.
    (cs i) >>= (λ calls. Some (record {
      mode = Serve;
      seats = n i;
      items = b i;
      depth = d i;
      start = start;
      hashing = hashing;
      share = share;
      rows = rows;
      schedule = [];
      stops = replicate (n i) None;
      number = 0;
      packets = 1000;
      batch = bt i;
      framing = framing;
      calls = calls;
      every = None;
    })))))))

play_back : (p : Plan) → IsAskable p → asked Play (given_of p) (lists_of p) ≡ Some (as_used p Play)
play_back p h =
    let r = h.range.settings in
    let few : p.seats ≤ 8 = omega (arith, r.seats_in_range) in
    let n = read_back p.seats (omega arith) in
    let b = read_back p.items (omega arith) in
    let d = read_back p.depth (omega arith) in
    let s = start_back p.depth p.start (omega arith) (omega arith) r.start_in_range.1 in
    let hs = hash_back p.hashing h.seed in
    let sh = share_back p.share in
    let rs = rows_back p.rows h.range.rows in
    let sc = ap (λ n. asked_schedule n (lists_of p).schedule) n
    ∙ schedule_back p.seats few p.schedule h.segments h.few in
    let st = ap (λ n. asked_stops n (lists_of p).stop) n ∙ stops_back p.seats few p.stops h.one_each h.stops in
    let fr = framing_back p h in
    let cs = calls_back p.calls in
    λ i. (rs i) >>= (λ rows. (sc i) >>= (λ schedule. (st i) >>= (λ stops. (s i) >>= (λ start.
    (hs i) >>= (λ hashing. (sh i) >>= (λ share. (fr i) >>= (λ framing. (cs i) >>= (λ calls. Some (record {
      mode = Play;
      seats = n i;
      items = b i;
      depth = d i;
      start = start;
      hashing = hashing;
      share = share;
      rows = rows;
      schedule = schedule;
      stops = stops;
      number = 0;
      packets = 1000;
      batch = 2048;
      framing = framing;
      calls = calls;
      every = None;
    })))))))))

make_back : (p : Plan) → IsAskable p → asked Make (given_of p) (lists_of p) ≡ Some (as_used p Make)
make_back p h =
    let n = read_back p.number h.number in
    let k = read_back p.packets (omega (arith, h.range.packets)) in
    λ i. Some (record default_plan { mode = Make; number = n i; packets = k i })

trial_back : (p : Plan) → IsAskable p → asked Trial (given_of p) (lists_of p) ≡ Some (as_used p Trial)
trial_back p h =
    let r = h.range.settings in
    let n = read_back p.seats (omega arith) in
    let b = read_back p.items (omega arith) in
    let d = read_back p.depth (omega arith) in
    let s = start_back p.depth p.start (omega arith) (omega arith) r.start_in_range.1 in
    let hs = read_back (seed_of p.hashing) h.seed in
    let x = read_back p.number h.number in
    let k = read_back p.packets (omega (arith, h.range.packets)) in
    let bt = read_back p.batch (omega (arith, h.range.batch.1)) in
    λ i. (s i) >>= (λ start. Some (record {
      mode = Trial;
      seats = n i;
      items = b i;
      depth = d i;
      start = start;
      hashing = Mix (hs i);
      share = Flow;
      rows = None;
      schedule = [];
      stops = replicate (n i) None;
      number = x i;
      packets = k i;
      batch = bt i;
      framing = plain_framing;
      calls = rule.Sessions;
      every = None;
    }))

totals_back : (p : Plan) → IsAskable p → asked Totals (given_of p) (lists_of p) ≡ Some (as_used p Totals)
totals_back p h =
    let few : p.seats ≤ 8 = omega (arith, h.range.settings.seats_in_range) in
    let n = read_back p.seats (omega arith) in
    let fr = framing_back p h in
    let bt = read_back p.batch (omega (arith, h.range.batch.1)) in
    λ i. (fr i) >>= (λ framing. Some (record default_plan {
      mode = Totals;
      seats = n i;
      stops = replicate (n i) None;
      batch = bt i;
      framing = framing;
    }))

flows_back : (p : Plan) → IsAskable p → asked Flows (given_of p) (lists_of p) ≡ Some (as_used p Flows)
flows_back p h =
    let few : p.seats ≤ 8 = omega (arith, h.range.settings.seats_in_range) in
    let n = read_back p.seats (omega arith) in
    let b = read_back p.items (omega (arith, h.range.settings.items_in_range)) in
    let d = read_back p.depth (omega (arith, h.range.settings.depth_in_range)) in
    let hs = read_back (seed_of p.hashing) h.seed in
    let bt = read_back p.batch (omega (arith, h.range.batch.1)) in
    let fr = framing_back p h in
    let cs = calls_back p.calls in
    let ev = every_back p.every h.range.every in
    λ i. (fr i) >>= (λ framing. (cs i) >>= (λ calls. Some (record {
      mode = Flows;
      seats = n i;
      items = b i;
      depth = d i;
      start = 0;
      hashing = Mix (hs i);
      share = Flow;
      rows = None;
      schedule = [];
      stops = replicate (n i) None;
      number = 0;
      packets = 1000;
      batch = bt i;
      framing = framing;
      calls = calls;
      every = ev i;
    })))

asked_back : (p : Plan) → IsAskable p → (mode : Mode)
    → asked mode (given_of p) (lists_of p) ≡ Some (as_used p mode)
asked_back p h Serve = serve_back p h
asked_back p h Play = play_back p h
asked_back p h Make = make_back p h
asked_back p h Trial = trial_back p h
asked_back p h Totals = totals_back p h
asked_back p h Check = refl
asked_back p h Flows = flows_back p h

pub round_trip : (p : Plan) → IsAskable p → reads (line_of p) ≡ Some (as_used p p.mode)
round_trip p h =
    any_line p.mode (given_of p) (lists_of p)
    ∙ ap (λ b. cond b (asked p.mode (given_of p) (lists_of p)) None) (all_pass p h)
    ∙ asked_back p h p.mode
