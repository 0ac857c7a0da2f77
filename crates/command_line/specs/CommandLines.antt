-- Some command lines: one with each option, and the line that asks for a given plan.
use Rattle.std.specs.Prelude.{ℕ, ◌<◌, ◌^◌, Bool, true, List, [], ◌∷◌, ◌++◌, Option, Some, None, codes}
use Rattle.std.specs.Fmt.{decimal as written}
use Rattle.std.specs.Option.{option_map, option_map_or}
use Rattle.clap.specs.Faults.{fault_of}
use Rattle.clap.specs.Kinds.{Kinds}
use Rattle.clap.specs.ValueTests.{is_unsigned_in}
use Rattle.clap.specs.Walk.{Text}
use Rattle.hash_bits.specs.declared.hashing.Hashing.{Hashing}
use Rattle.hash_bits.specs.declared.hashing.Hashing.TheVariants.{Mix, Ports}
use Rattle.step_counts.specs.declared.rows.SeatRows.{SeatRows}
use Rattle.trace_share.specs.declared.deals.Share.{Share}
use Rattle.trace_share.specs.declared.deals.Share.TheVariants.{Round, Block, Flow}
use Rattle.packet_heads.specs.declared.framing.Framing.{Framing}
use Rattle.packet_heads.specs.declared.framing.Link.{Link}
use Rattle.packet_heads.specs.declared.framing.Link.TheVariants as link
use Rattle.packet_heads.specs.Heads.{plain_framing}
use Rattle.key_texts.specs.declared.rules.CallRule.{CallRule}
use Rattle.key_texts.specs.declared.rules.CallRule.TheVariants as rule
use Rattle.command_line.specs.Command.{Number, batch, capture_number, depth, every, extensions, flowdir_app, items, packets, seats}
use Rattle.command_line.specs.Command.{seed, start, tags}
use Rattle.command_line.specs.Plays.{colon, most_segments, most_slots, most_steps, star}
use Rattle.command_line.specs.Texts.{comma}
use Rattle.line_fields.specs.Reading.{◌>>=◌}
use Rattle.command_line.specs.Words.{IsInRange, asked_rows, asked_schedule, asked_stops, calls_of, decimal, hashing_of}
use Rattle.command_line.specs.Words.{link_of, share_of, start_below}
use Rattle.command_line.specs.declared.plan.Mode.{Mode}
use Rattle.command_line.specs.declared.plan.Mode.TheVariants.{Serve, Play, Make, Trial, Totals, Check, Flows}
use Rattle.command_line.specs.declared.plan.Plan.{Plan}
use Rattle.command_line.specs.declared.plays.Segment.{Segment}
use Rattle.step_counts.specs.Ranges.{IsWithin}
use Rattle.std.specs.List.{All, join_with_byte}
use Rattle.std.specs.Prelude.{◌≡◌, ◌≤◌, ◌+◌, IfSome, length, map, replicate}

-- the plan of `serve` alone
abbrev pub default_plan : Plan
default_plan = record {
  mode = Serve;
  seats = 2;
  items = 8;
  depth = 10;
  start = 0;
  hashing = Mix 0;
  share = Round;
  rows = None;
  schedule = [];
  stops = None ∷ None ∷ [];
  number = 0;
  packets = 1000;
  batch = 2048;
  framing = plain_framing;
  calls = rule.Sessions;
  every = None;
}

-- the plan of `flows` alone
abbrev pub flows_plan : Plan
flows_plan = record default_plan {
  mode = Flows;
  seats = 1;
  items = 16;
  depth = 12;
  share = Flow;
  stops = None ∷ [];
  batch = 65536;
  calls = rule.Flows;
}

-- what the command finds wrong in the words
abbrev pub faults : List Text → Kinds
faults words = fault_of flowdir_app words

-- ---- a line with each option, for any texts

pub record Given : Type 0 where
  pub seats : Text
  pub items : Text
  pub depth : Text
  pub start : Text
  pub hash : Text
  pub seed : Text
  pub share : Text
  pub number : Text
  pub packets : Text
  pub link : Text
  pub extensions : Text
  pub batch : Text
  pub calls : Text

abbrev pub mode_text : Mode → Text
mode_text Serve = codes "serve"
mode_text Play = codes "play"
mode_text Make = codes "make"
mode_text Trial = codes "trial"
mode_text Totals = codes "totals"
mode_text Check = codes "check"
mode_text Flows = codes "flows"

abbrev pub line_with : Mode → Given → List Text → List Text
line_with mode g more = mode_text mode ∷ (codes "--seats=" ++ g.seats) ∷ (codes "--items=" ++ g.items)
    ∷ (codes "--depth=" ++ g.depth) ∷ (codes "--start=" ++ g.start) ∷ (codes "--hash=" ++ g.hash)
    ∷ (codes "--seed=" ++ g.seed) ∷ (codes "--share=" ++ g.share) ∷ (codes "--number=" ++ g.number)
    ∷ (codes "--packets=" ++ g.packets) ∷ (codes "--link=" ++ g.link)
    ∷ (codes "--extensions=" ++ g.extensions) ∷ (codes "--batch=" ++ g.batch)
    ∷ (codes "--calls=" ++ g.calls) ∷ more

-- the texts that have no default
pub record Lists : Type 0 where
  pub rows : Option Text
  pub schedule : Option Text
  pub stop : Option Text
  pub tags : Option Text
  pub every : Option Text

-- an option and its text, or nothing
abbrev pub words_of : Text → Option Text → List Text
words_of name None = []
words_of name (Some text) = (name ++ text) ∷ []

abbrev pub line : Mode → Given → Lists → List Text
line mode g lists =
    line_with mode g (words_of (codes "--rows=") lists.rows ++ (words_of (codes "--schedule=") lists.schedule
    ++ (words_of (codes "--stop=") lists.stop ++ (words_of (codes "--tags=") lists.tags
    ++ words_of (codes "--every=") lists.every))))

abbrev pub is_in : Number → Text → Bool
is_in n text = is_unsigned_in n.least n.most text

-- is each number one in its range?
abbrev pub tests : Given → Lists → List Bool
tests g lists =
    is_in seats g.seats ∷ is_in items g.items ∷ is_in depth g.depth ∷ is_in start g.start ∷ is_in seed g.seed
    ∷ is_in capture_number g.number ∷ is_in packets g.packets ∷ is_in extensions g.extensions
    ∷ is_in batch g.batch ∷ option_map_or (is_in tags) lists.tags true
    ∷ option_map_or (is_in every) lists.every true ∷ []

-- how the packets of a capture are framed, by the texts
abbrev pub asked_framing : Given → Lists → Option Framing
asked_framing g lists = do
  link ← link_of g.link
  Some (record { link = link; tags = option_map decimal lists.tags; extensions = decimal g.extensions })

-- the plan of the texts: of those that the mode uses alone
abbrev pub asked : Mode → Given → Lists → Option Plan
asked Serve g lists = do
  rows ← asked_rows lists.rows
  start ← start_below (decimal g.depth) (decimal g.start)
  hashing ← hashing_of g.hash (decimal g.seed)
  share ← share_of g.share
  framing ← asked_framing g lists
  calls ← calls_of g.calls
  Some (record {
    mode = Serve;
    seats = decimal g.seats;
    items = decimal g.items;
    depth = decimal g.depth;
    start = start;
    hashing = hashing;
    share = share;
    rows = rows;
    schedule = [];
    stops = replicate (decimal g.seats) None;
    number = 0;
    packets = 1000;
    batch = decimal g.batch;
    framing = framing;
    calls = calls;
    every = None;
  })
asked Play g lists = do
  rows ← asked_rows lists.rows
  schedule ← asked_schedule (decimal g.seats) lists.schedule
  stops ← asked_stops (decimal g.seats) lists.stop
  start ← start_below (decimal g.depth) (decimal g.start)
  hashing ← hashing_of g.hash (decimal g.seed)
  share ← share_of g.share
  framing ← asked_framing g lists
  calls ← calls_of g.calls
  Some (record {
    mode = Play;
    seats = decimal g.seats;
    items = decimal g.items;
    depth = decimal g.depth;
    start = start;
    hashing = hashing;
    share = share;
    rows = rows;
    schedule = schedule;
    stops = stops;
    number = 0;
    packets = 1000;
    batch = 2048;
    framing = framing;
    calls = calls;
    every = None;
  })
asked Make g lists = Some (record default_plan {
  mode = Make;
  number = decimal g.number;
  packets = decimal g.packets;
})
asked Trial g lists = do
  start ← start_below (decimal g.depth) (decimal g.start)
  Some (record {
    mode = Trial;
    seats = decimal g.seats;
    items = decimal g.items;
    depth = decimal g.depth;
    start = start;
    hashing = Mix (decimal g.seed);
    share = Flow;
    rows = None;
    schedule = [];
    stops = replicate (decimal g.seats) None;
    number = decimal g.number;
    packets = decimal g.packets;
    batch = decimal g.batch;
    framing = plain_framing;
    calls = rule.Sessions;
    every = None;
  })
asked Totals g lists = do
  framing ← asked_framing g lists
  Some (record default_plan {
    mode = Totals;
    seats = decimal g.seats;
    stops = replicate (decimal g.seats) None;
    batch = decimal g.batch;
    framing = framing;
  })
asked Check g lists = Some (record default_plan { mode = Check })
asked Flows g lists = do
  framing ← asked_framing g lists
  calls ← calls_of g.calls
  Some (record {
    mode = Flows;
    seats = decimal g.seats;
    items = decimal g.items;
    depth = decimal g.depth;
    start = 0;
    hashing = Mix (decimal g.seed);
    share = Flow;
    rows = None;
    schedule = [];
    stops = replicate (decimal g.seats) None;
    number = 0;
    packets = 1000;
    batch = decimal g.batch;
    framing = framing;
    calls = calls;
    every = option_map decimal lists.every;
  })

-- ---- the line that asks for a plan

abbrev pub hash_text : Hashing → Text
hash_text (Mix s) = codes "mix"
hash_text (Ports s) = codes "ports"

abbrev pub seed_of : Hashing → ℕ
seed_of (Mix s) = s
seed_of (Ports s) = s

abbrev pub share_text : Share → Text
share_text Round = codes "round"
share_text Block = codes "block"
share_text Flow = codes "flow"

abbrev pub link_text : Link → Text
link_text link.Null = codes "0"
link_text link.Ethernet = codes "1"
link_text link.Ppp = codes "9"
link_text link.Raw12 = codes "12"
link_text link.Raw14 = codes "14"
link_text link.Raw = codes "101"
link_text link.Loop = codes "108"
link_text link.LinuxSll = codes "113"
link_text link.Ipv4 = codes "228"
link_text link.Ipv6 = codes "229"
link_text link.LinuxSll2 = codes "276"

abbrev pub calls_text : CallRule → Text
calls_text rule.Sessions = codes "sessions"
calls_text rule.Flows = codes "flows"

abbrev pub given_of : Plan → Given
given_of p = record {
  seats = written p.seats;
  items = written p.items;
  depth = written p.depth;
  start = written p.start;
  hash = hash_text p.hashing;
  seed = written (seed_of p.hashing);
  share = share_text p.share;
  number = written p.number;
  packets = written p.packets;
  link = link_text p.framing.link;
  extensions = written p.framing.extensions;
  batch = written p.batch;
  calls = calls_text p.calls;
}

-- four numbers with commas between
abbrev pub rows_text : SeatRows → Text
rows_text rows =
    written rows.op_rows ++ (comma ∷ (written rows.bucket_rows
    ++ (comma ∷ (written rows.bucket_words ++ (comma ∷ written rows.directory_rows)))))

-- I*K, or I*end
abbrev pub slots_text : Option ℕ → Text
slots_text None = codes "end"
slots_text (Some slots) = written slots

abbrev pub segment_text : Segment → Text
segment_text segment = written segment.seat ++ (star ∷ slots_text segment.slots)

abbrev pub stop_text : ℕ × ℕ → Text
stop_text stop = written stop.0 ++ (colon ∷ written stop.1)

-- where each seat from one on is stopped, if it is
abbrev pub stopped_from : (seat : ℕ) → List (Option ℕ) → List (ℕ × ℕ)
stopped_from seat [] = []
stopped_from seat (None ∷ stops) = stopped_from (seat + 1) stops
stopped_from seat (Some steps ∷ stops) = (seat, steps) ∷ stopped_from (seat + 1) stops

-- texts with commas between, where there is one
abbrev pub joined : List Text → Option Text
joined [] = None
joined (text ∷ texts) = Some (join_with_byte comma (text ∷ texts))

abbrev pub lists_of : Plan → Lists
lists_of p = record {
  rows = option_map rows_text p.rows;
  schedule = joined (map segment_text p.schedule);
  stop = joined (map stop_text (stopped_from 0 p.stops));
  tags = option_map written p.framing.tags;
  every = option_map written p.every;
}

abbrev pub line_of : Plan → List Text
line_of p = line p.mode (given_of p) (lists_of p)

-- a segment of one of so many seats
pub record IsAskedSegment (seats : ℕ) (segment : Segment) : Type 0 where
  pub seat : segment.seat < seats
  pub slots : IfSome segment.slots (IsWithin 1 most_slots)

-- a plan whose numbers are in their ranges
pub record IsAskable (p : Plan) : Type 0 where
  pub range : IsInRange p
  pub seed : seed_of p.hashing < 2 ^ 64
  pub number : p.number < 2 ^ 64
  pub tags : IfSome p.framing.tags (λ most. most ≤ tags.most)
  pub extensions : p.framing.extensions ≤ extensions.most
  pub segments : All (IsAskedSegment p.seats) p.schedule
  pub few : length p.schedule ≤ most_segments
  pub one_each : length p.stops ≡ p.seats
  pub stops : All (λ stop. IfSome stop (λ steps. steps ≤ most_steps)) p.stops

-- the plan with what its mode does not use as where no word says it
abbrev pub as_used : Plan → Mode → Plan
as_used p Serve = record {
  mode = Serve;
  seats = p.seats;
  items = p.items;
  depth = p.depth;
  start = p.start;
  hashing = p.hashing;
  share = p.share;
  rows = p.rows;
  schedule = [];
  stops = replicate p.seats None;
  number = 0;
  packets = 1000;
  batch = p.batch;
  framing = p.framing;
  calls = p.calls;
  every = None;
}
as_used p Play = record {
  mode = Play;
  seats = p.seats;
  items = p.items;
  depth = p.depth;
  start = p.start;
  hashing = p.hashing;
  share = p.share;
  rows = p.rows;
  schedule = p.schedule;
  stops = p.stops;
  number = 0;
  packets = 1000;
  batch = 2048;
  framing = p.framing;
  calls = p.calls;
  every = None;
}
as_used p Make = record default_plan { mode = Make; number = p.number; packets = p.packets }
as_used p Trial = record {
  mode = Trial;
  seats = p.seats;
  items = p.items;
  depth = p.depth;
  start = p.start;
  hashing = Mix (seed_of p.hashing);
  share = Flow;
  rows = None;
  schedule = [];
  stops = replicate p.seats None;
  number = p.number;
  packets = p.packets;
  batch = p.batch;
  framing = plain_framing;
  calls = rule.Sessions;
  every = None;
}
as_used p Totals = record default_plan {
  mode = Totals;
  seats = p.seats;
  stops = replicate p.seats None;
  batch = p.batch;
  framing = p.framing;
}
as_used p Check = record default_plan { mode = Check }
as_used p Flows = record {
  mode = Flows;
  seats = p.seats;
  items = p.items;
  depth = p.depth;
  start = 0;
  hashing = Mix (seed_of p.hashing);
  share = Flow;
  rows = None;
  schedule = [];
  stops = replicate p.seats None;
  number = 0;
  packets = 1000;
  batch = p.batch;
  framing = p.framing;
  calls = p.calls;
  every = p.every;
}
