-- What the words of a command line ask for.
--
-- `clap` states, of a simple command, which words it takes (`fault_of` is empty) and what it finds
-- in them (`matches_of`). The plan is a function of what was found: each option's value or its
-- default, where each text that the mode uses is one of the words for it. Of an option that the mode
-- does not use nothing is looked at: it has its default.
use Rattle.std.specs.Prelude.{◌≡◌, ◌≤◌, ◌-◌, ◌^◌, ℕ, Bool, true, false, List, [], Option, Some, None, codes, if◌then◌else◌}
use Rattle.std.specs.Prelude.{Result, Ok, Err, unwrap_or, IfSome, replicate}
use Rattle.std.specs.Option.{option_map, option_map_or}
use Rattle.std.specs.Str.{bytes_eq}
use Rattle.std.specs.Str.Parse.{digits_value, without_leading_plus}
use Rattle.clap.specs.Walk.{Text, first_of, is_empty}
use Rattle.clap.specs.Simple.{matches_of}
use Rattle.clap.specs.Faults.{fault_of}
use Rattle.hash_bits.specs.declared.hashing.Hashing.{Hashing}
use Rattle.hash_bits.specs.declared.hashing.Hashing.TheVariants.{Mix, Ports}
use Rattle.step_counts.specs.Ranges.{AreInRange, IsWithin}
use Rattle.step_counts.specs.declared.rows.SeatRows.{SeatRows}
use Rattle.trace_share.specs.declared.deals.Share.{Share}
use Rattle.trace_share.specs.declared.deals.Share.TheVariants.{Round, Block, Flow}
use Rattle.packet_heads.specs.declared.framing.Framing.{Framing}
use Rattle.key_texts.specs.declared.rules.CallRule.{CallRule}
use Rattle.key_texts.specs.declared.rules.CallRule.TheVariants.{Sessions, Flows}
use Rattle.packet_heads.specs.declared.framing.Link.{Link}
use Rattle.packet_heads.specs.declared.framing.Link.TheVariants as link
use Rattle.command_line.specs.Command.{Number, batch, capture_number, depth, extensions, flowdir_app, flows_depth}
use Rattle.command_line.specs.Command.{flows_batch, flows_items, flows_seats, items, packets, seats, seed, start, with_default}
use Rattle.command_line.specs.Plays.{schedule_of, stops_of}
use Rattle.command_line.specs.Texts.{AreRowsInRange, at_most, rows_of}
use Rattle.line_fields.specs.Reading.{◌>>=◌}
use Rattle.command_line.specs.declared.plan.Mode.{Mode}
use Rattle.command_line.specs.declared.plan.Mode.TheVariants as mode
use Rattle.command_line.specs.declared.plan.Plan.{Plan}
use Rattle.command_line.specs.declared.plays.Segment.{Segment}
use Rattle.command_line.specs.declared.words.WordsFault.{WordsFault}
use Rattle.command_line.specs.declared.words.WordsFault.TheVariants as fault

-- what the words give for a name, if anything
abbrev pub Values : Type 0
Values = Text → Option Text

-- the number that decimal digits write, after a `+` or none
abbrev pub decimal : Text → ℕ
decimal text = digits_value 10 (without_leading_plus text)

-- the number of an option, or its default
abbrev pub number_in : Values → Number → ℕ
number_in given n = option_map_or decimal (given n.name) n.default

-- the text of a name, or the default
abbrev pub text_in : Values → Text → Text → Text
text_in given name default = unwrap_or (given name) default

abbrev pub mode_of : Text → Option Mode
mode_of text = if bytes_eq text (codes "serve") then Some mode.Serve
    else (if bytes_eq text (codes "play") then Some mode.Play
    else (if bytes_eq text (codes "make") then Some mode.Make
    else (if bytes_eq text (codes "trial") then Some mode.Trial
    else (if bytes_eq text (codes "totals") then Some mode.Totals
    else (if bytes_eq text (codes "check") then Some mode.Check
    else (if bytes_eq text (codes "flows") then Some mode.Flows else None))))))

-- ---- what a mode uses

-- the mode has seats: it uses `seats`
abbrev pub has_seats : Mode → Bool
has_seats mode.Serve = true
has_seats mode.Play = true
has_seats mode.Make = false
has_seats mode.Trial = true
has_seats mode.Totals = true
has_seats mode.Check = false
has_seats mode.Flows = true

-- the mode has a table of flows: it uses `items`, `depth` and `seed`
abbrev pub has_table : Mode → Bool
has_table mode.Serve = true
has_table mode.Play = true
has_table mode.Make = false
has_table mode.Trial = true
has_table mode.Totals = false
has_table mode.Check = false
has_table mode.Flows = true

-- the mode makes a capture: it uses `number` and `packets`
abbrev pub makes_capture : Mode → Bool
makes_capture mode.Serve = false
makes_capture mode.Play = false
makes_capture mode.Make = true
makes_capture mode.Trial = true
makes_capture mode.Totals = false
makes_capture mode.Check = false
makes_capture mode.Flows = false

-- the mode goes through a capture batch by batch: it uses `batch`
abbrev pub has_batches : Mode → Bool
has_batches mode.Serve = true
has_batches mode.Play = false
has_batches mode.Make = false
has_batches mode.Trial = true
has_batches mode.Totals = true
has_batches mode.Check = false
has_batches mode.Flows = true

-- the mode reads a capture: it uses `link`, `tags` and `extensions`
abbrev pub reads_capture : Mode → Bool
reads_capture mode.Serve = true
reads_capture mode.Play = true
reads_capture mode.Make = false
reads_capture mode.Trial = false
reads_capture mode.Totals = true
reads_capture mode.Check = false
reads_capture mode.Flows = true

-- the number of an option that may be used, or its default
abbrev pub number_if : Bool → Values → Number → ℕ
number_if uses given n = if uses then number_in given n else n.default

-- what holds where the words have no number: the mode `flows` has a number of its own
abbrev pub default_for : Mode → (flows other : ℕ) → ℕ
default_for mode.Serve flows other = other
default_for mode.Play flows other = other
default_for mode.Make flows other = other
default_for mode.Trial flows other = other
default_for mode.Totals flows other = other
default_for mode.Check flows other = other
default_for mode.Flows flows other = flows

-- the number of an option that may be used, or the mode's own default
abbrev pub number_for : Mode → (flows : ℕ) → Bool → Values → Number → ℕ
number_for mode flows uses given n = number_if uses given (with_default n (default_for mode flows n.default))

abbrev pub items_in : Mode → Values → ℕ
items_in mode given = number_for mode flows_items (has_table mode) given items

abbrev pub depth_in : Mode → Values → ℕ
depth_in mode given = number_for mode flows_depth (has_table mode) given depth

abbrev pub batch_in : Mode → Values → ℕ
batch_in mode given = number_for mode flows_batch (has_batches mode) given batch

abbrev pub start_below : ℕ → ℕ → Option ℕ
start_below depth start = if at_most depth start then Some start else None

-- the starting depth is at most the greatest
abbrev pub start_in : Mode → Values → Option ℕ
start_in mode.Serve given = start_below (number_in given depth) (number_in given start)
start_in mode.Play given = start_below (number_in given depth) (number_in given start)
start_in mode.Make given = Some start.default
start_in mode.Trial given = start_below (number_in given depth) (number_in given start)
start_in mode.Totals given = Some start.default
start_in mode.Check given = Some start.default
start_in mode.Flows given = Some start.default

abbrev pub hashing_of : Text → ℕ → Option Hashing
hashing_of text seed = if bytes_eq text (codes "mix") then Some (Mix seed)
    else (if bytes_eq text (codes "ports") then Some (Ports seed) else None)

abbrev pub hashing_in : Mode → Values → Option Hashing
hashing_in mode.Serve given = hashing_of (text_in given (codes "hash") (codes "mix")) (number_in given seed)
hashing_in mode.Play given = hashing_of (text_in given (codes "hash") (codes "mix")) (number_in given seed)
hashing_in mode.Make given = Some (Mix seed.default)
hashing_in mode.Trial given = Some (Mix (number_in given seed))
hashing_in mode.Totals given = Some (Mix seed.default)
hashing_in mode.Check given = Some (Mix seed.default)
hashing_in mode.Flows given = Some (Mix (number_in given seed))

abbrev pub share_of : Text → Option Share
share_of text = if bytes_eq text (codes "round") then Some Round
    else (if bytes_eq text (codes "block") then Some Block
    else (if bytes_eq text (codes "flow") then Some Flow else None))

-- `trial` and `flows` serve by flows
abbrev pub share_in : Mode → Values → Option Share
share_in mode.Serve given = share_of (text_in given (codes "share") (codes "round"))
share_in mode.Play given = share_of (text_in given (codes "share") (codes "round"))
share_in mode.Make given = Some Round
share_in mode.Trial given = Some Flow
share_in mode.Totals given = Some Round
share_in mode.Check given = Some Round
share_in mode.Flows given = Some Flow

-- the link type of a number, as it stands
abbrev pub link_of : Text → Option Link
link_of text = if bytes_eq text (codes "0") then Some link.Null
    else (if bytes_eq text (codes "1") then Some link.Ethernet
    else (if bytes_eq text (codes "9") then Some link.Ppp
    else (if bytes_eq text (codes "12") then Some link.Raw12
    else (if bytes_eq text (codes "14") then Some link.Raw14
    else (if bytes_eq text (codes "101") then Some link.Raw
    else (if bytes_eq text (codes "108") then Some link.Loop
    else (if bytes_eq text (codes "113") then Some link.LinuxSll
    else (if bytes_eq text (codes "228") then Some link.Ipv4
    else (if bytes_eq text (codes "229") then Some link.Ipv6
    else (if bytes_eq text (codes "276") then Some link.LinuxSll2 else None))))))))))

abbrev pub link_in : Mode → Values → Option Link
link_in mode.Serve given = link_of (text_in given (codes "link") (codes "1"))
link_in mode.Play given = link_of (text_in given (codes "link") (codes "1"))
link_in mode.Make given = Some link.Ethernet
link_in mode.Trial given = Some link.Ethernet
link_in mode.Totals given = link_of (text_in given (codes "link") (codes "1"))
link_in mode.Check given = Some link.Ethernet
link_in mode.Flows given = link_of (text_in given (codes "link") (codes "1"))

-- how many tags may stand there, where it is given
abbrev pub tags_in : Mode → Values → Option ℕ
tags_in mode given = if reads_capture mode then option_map decimal (given (codes "tags")) else None

-- how the packets of a capture are framed
abbrev pub framing_in : Mode → Values → Option Framing
framing_in mode given = do
  link ← link_in mode given
  Some (record {
    link = link;
    tags = tags_in mode given;
    extensions = number_if (reads_capture mode) given extensions;
  })

-- the rule of a word
abbrev pub calls_of : Text → Option CallRule
calls_of text = if bytes_eq text (codes "sessions") then Some Sessions
    else (if bytes_eq text (codes "flows") then Some Flows else None)

-- which call a packet makes: of `flows` a count, where no word says it
abbrev pub calls_in : Mode → Values → Option CallRule
calls_in mode.Serve given = calls_of (text_in given (codes "calls") (codes "sessions"))
calls_in mode.Play given = calls_of (text_in given (codes "calls") (codes "sessions"))
calls_in mode.Make given = Some Sessions
calls_in mode.Trial given = Some Sessions
calls_in mode.Totals given = Some Sessions
calls_in mode.Check given = Some Sessions
calls_in mode.Flows given = calls_of (text_in given (codes "calls") (codes "flows"))

-- after how many packets the sessions are printed, where it is given
abbrev pub every_in : Mode → Values → Option ℕ
every_in mode.Serve given = None
every_in mode.Play given = None
every_in mode.Make given = None
every_in mode.Trial given = None
every_in mode.Totals given = None
every_in mode.Check given = None
every_in mode.Flows given = option_map decimal (given (codes "every"))

-- the rows of a text, automatic where there is no text
abbrev pub asked_rows : Option Text → Option (Option SeatRows)
asked_rows None = Some None
asked_rows (Some text) = option_map (λ (rows : SeatRows). Some rows) (rows_of text)

abbrev pub rows_for : Mode → Values → Option (Option SeatRows)
rows_for mode.Serve given = asked_rows (given (codes "rows"))
rows_for mode.Play given = asked_rows (given (codes "rows"))
rows_for mode.Make given = Some None
rows_for mode.Trial given = Some None
rows_for mode.Totals given = Some None
rows_for mode.Check given = Some None
rows_for mode.Flows given = Some None

abbrev pub seats_in : Mode → Values → ℕ
seats_in mode given = number_for mode flows_seats (has_seats mode) given seats

-- the schedule of a text, empty where there is no text
abbrev pub asked_schedule : (seats : ℕ) → Option Text → Option (List Segment)
asked_schedule n None = Some []
asked_schedule n (Some text) = schedule_of n text

abbrev pub schedule_for : Mode → (seats : ℕ) → Values → Option (List Segment)
schedule_for mode.Serve n given = Some []
schedule_for mode.Play n given = asked_schedule n (given (codes "schedule"))
schedule_for mode.Make n given = Some []
schedule_for mode.Trial n given = Some []
schedule_for mode.Totals n given = Some []
schedule_for mode.Check n given = Some []
schedule_for mode.Flows n given = Some []

-- the stops of a text; no seat is stopped where there is no text
abbrev pub asked_stops : (seats : ℕ) → Option Text → Option (List (Option ℕ))
asked_stops n None = Some (replicate n None)
asked_stops n (Some text) = stops_of n text

abbrev pub stops_in : Mode → (seats : ℕ) → Values → Option (List (Option ℕ))
stops_in mode.Serve n given = Some (replicate n None)
stops_in mode.Play n given = asked_stops n (given (codes "stop"))
stops_in mode.Make n given = Some (replicate n None)
stops_in mode.Trial n given = Some (replicate n None)
stops_in mode.Totals n given = Some (replicate n None)
stops_in mode.Check n given = Some (replicate n None)
stops_in mode.Flows n given = Some (replicate n None)

-- the plan of a mode with these rows, this schedule and these stops
abbrev pub plan_with : Mode → Option SeatRows → List Segment → List (Option ℕ) → Values → Option Plan
plan_with mode rows schedule stops given = do
  start ← start_in mode given
  hashing ← hashing_in mode given
  share ← share_in mode given
  framing ← framing_in mode given
  calls ← calls_in mode given
  Some (record {
    mode = mode;
    seats = seats_in mode given;
    items = items_in mode given;
    depth = depth_in mode given;
    start = start;
    hashing = hashing;
    share = share;
    rows = rows;
    schedule = schedule;
    stops = stops;
    number = number_if (makes_capture mode) given capture_number;
    packets = number_if (makes_capture mode) given packets;
    batch = batch_in mode given;
    framing = framing;
    calls = calls;
    every = every_in mode given;
  })

-- the plan of what the words give, where each text that the mode uses is one of the words for it
abbrev pub plan_of : Values → Option Plan
plan_of given = do
  mode ← mode_of (text_in given (codes "mode") [])
  rows ← rows_for mode given
  schedule ← schedule_for mode (seats_in mode given) given
  stops ← stops_in mode (seats_in mode given) given
  plan_with mode rows schedule stops given

-- the numbers of the plan are those that a table, and a made capture, may have
pub record IsInRange (p : Plan) : Type 0 where
  pub settings : AreInRange p.seats p.items p.depth p.start
  pub rows : IfSome p.rows AreRowsInRange
  pub packets : p.packets ≤ packets.most
  pub batch : IsWithin 2048 65536 p.batch
  pub every : IfSome p.every (IsWithin 1 (2 ^ 52 - 1))

-- the plan that the words ask for: none where the command does not take them
unfoldable pub reads : List Text → Option Plan
reads words = if is_empty (fault_of flowdir_app words)
    then plan_of (λ name. first_of name (matches_of flowdir_app words)) else None

-- the answer is the plan, a refusal where there is none, or want of memory
abbrev pub Answers : Option Plan → Result Plan WordsFault → Type 0
Answers plan (Ok p) = plan ≡ Some p
Answers plan (Err fault.Usage) = plan ≡ None
Answers plan (Err fault.Memory) = Unit {0}
