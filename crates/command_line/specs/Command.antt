-- The command that the words are read by, as `clap` states commands.
--
-- It has one word of its own, the mode, which must be there, and options with one value each. It has
-- no flag for help or version, and its words do not begin with the program's name.
-- Source: the documentation of clap 4, `Command`, `Arg` and `value_parser!` of a u64 in a range.
use Rattle.std.specs.Prelude.{◌≡◌, ℕ, ◌-◌, ◌^◌, true, List, [], ◌∷◌, ◌++◌, map, Some, codes}
use Rattle.clap.specs.Matches.{first_value}
use Rattle.clap.specs.Values.{IsUnsignedIn}
use Rattle.clap.specs.Walk.{Rule, Text}
use Rattle.clap.specs.Simple.{App, new_rule, new_shape}
use Rattle.clap.specs.declared.builder.value_parser.ValueParser.TheVariants.{Unsigned}
use Rattle.clap.specs.declared.parser.matches.Found.{Found}
use Rattle.command_line.specs.declared.words.options.NumberOption.{NumberOption}

-- an option `--name` with a number from `least` to `most`, and the number where the words have none
pub record Number : Type 0 where
  pub name : Text
  pub least : ℕ
  pub most : ℕ
  pub default : ℕ

abbrev pub number : Text → ℕ → ℕ → ℕ → Number
number name least most default = record { name = name; least = least; most = most; default = default }

-- what the code's row says
abbrev pub number_of : NumberOption → Number
number_of option = number option.name.now option.least option.most option.default

-- the word that stands alone, which must be there
abbrev pub mode_rule : Rule
mode_rule = record (new_rule (codes "mode")) { required = true }

-- an option whose value `clap` reads as a number and tests for its range
abbrev pub number_rule : Number → Rule
number_rule n = record (new_rule n.name) {
  long = Some n.name;
  parser = Some (Unsigned n.least n.most);
}

-- an option whose value `clap` takes as it is
abbrev pub text_rule : Text → Rule
text_rule name = record (new_rule name) { long = Some name }

-- a command with these arguments, with no flag for help or version, whose words all count
abbrev pub app_of_rules : Text → List Rule → App
app_of_rules name rules = record {
  top = record (new_shape name) {
    no_binary_name = true;
    disable_help_flag = true;
    disable_version_flag = true;
    rules = rules;
  };
  subs = [];
}

-- a command with a mode and these options
abbrev pub app_with : Text → List Number → List Text → App
app_with name numbers texts =
    app_of_rules name ((mode_rule ∷ map number_rule numbers) ++ map text_rule texts)

-- a value that was found for the number is one in its range
unfoldable pub Passes : Found → Number → Type 0
Passes found n = (text : Text) → first_value found n.name ≡ Some text → IsUnsignedIn n.least n.most text

-- ---- the options of the program, a row each

abbrev pub seats : Number
seats = number (codes "seats") 1 8 2

abbrev pub items : Number
items = number (codes "items") 1 16 8

abbrev pub depth : Number
depth = number (codes "depth") 0 12 10

abbrev pub start : Number
start = number (codes "start") 0 12 0

abbrev pub seed : Number
seed = number (codes "seed") 0 (2 ^ 64 - 1) 0

abbrev pub capture_number : Number
capture_number = number (codes "number") 0 (2 ^ 64 - 1) 0

abbrev pub packets : Number
packets = number (codes "packets") 0 4000000 1000

-- it has no default: where it is not given, another rule holds
abbrev pub tags : Number
tags = number (codes "tags") 0 4 0

-- the most extension heads of IPv6 that a packet is looked behind
abbrev pub extensions : Number
extensions = number (codes "extensions") 0 8 0

-- how many packets a batch has
abbrev pub batch : Number
batch = number (codes "batch") 2048 65536 2048

-- after how many packets the sessions are printed; it has no default: where it is not given, another rule holds
abbrev pub every : Number
every = number (codes "every") 1 (2 ^ 52 - 1) 1

-- the same option with another number where the words have none
abbrev pub with_default : Number → ℕ → Number
with_default n default = record n { default = default }

-- the one table of `flows` has to last: where the words have none it has one caller, and the most room

abbrev pub flows_seats : ℕ
flows_seats = 1

abbrev pub flows_items : ℕ
flows_items = 16

abbrev pub flows_depth : ℕ
flows_depth = 12

-- and its batches are what the reader's buffer holds
abbrev pub flows_batch : ℕ
flows_batch = 65536

abbrev pub numbers : List Number
numbers = seats ∷ items ∷ depth ∷ start ∷ seed ∷ capture_number ∷ packets ∷ tags ∷ extensions ∷ batch ∷ every ∷ []

abbrev pub texts : List Text
texts = codes "hash" ∷ codes "share" ∷ codes "rows" ∷ codes "schedule" ∷ codes "stop" ∷ codes "link"
    ∷ codes "calls" ∷ []

-- the command of the program
unfoldable pub flowdir_app : App
flowdir_app = app_with (codes "flowdir") numbers texts
