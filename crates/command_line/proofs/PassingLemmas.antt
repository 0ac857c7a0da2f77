-- What a parse let through: the values of an option passed the parser of its argument.
--
-- `clap` says this of the command that it built from the caller's, by places and ids. Here it is
-- said of a known list of arguments, whose ids differ.
use Rattle.std.proofs.Common.{◌≡◌, ◌∙◌, ◌<◌, ℕ, suc, Bool, true, List, [], ◌∷◌, map, length, slice_index_or}
use Rattle.std.proofs.Common.{Option, Some, None, ap, sym, subst, refl, inl, inr, arith}
use Rattle.std.specs.List.{All}
use Rattle.std.specs.Borrow.{Bor}
use Rattle.std.specs.Prelude.{option_map, slice_get}
use Rattle.std.specs.Str.{bytes_eq}
use Rattle.std.proofs.lemmas.List.{get_or-map, get_or_append_left, length-append, length-map}
use Rattle.std.proofs.lemmas.List.Elements.{All-get_or}
use Rattle.std.proofs.lemmas.Slice.Eq.{bytes_eq-Decides}
use Rattle.clap.specs.Built.{IsAuto, IsParsedFrom}
use Rattle.clap.specs.Facts.{Entry, EntryPasses, IsParsed, PassesArg, args_of, groups_of, parser_of, parser_of_value}
use Rattle.clap.specs.Matches.{first_value, found_of, has_subcommand, matched_of}
use Rattle.clap.specs.Simple.{App, app_of, shape_of}
use Rattle.clap.specs.Values.{Accepts}
use Rattle.clap.specs.Walk.{Rule, Text, rule_of}
use Rattle.clap.proofs.CallerLemmas.{entry_by_id, same_rules_by_id}
use Rattle.clap.proofs.SimpleLemmas.{all_simple, plain_fields, simple_groups}
use Rattle.clap.specs.declared.builder.arg.Arg.{Arg}
use Rattle.clap.specs.declared.builder.command.Command.{Command}
use Rattle.clap.specs.declared.builder.value_parser.ValueParser.{ValueParser}
use Rattle.clap.specs.declared.builder.value_parser.ValueParser.TheVariants.{Unsigned}
use Rattle.clap.specs.declared.parser.matches.ArgMatches.{ArgMatches}
use Rattle.clap.specs.declared.parser.matches.MatchedArg.{MatchedArg}
use Rattle.command_line.specs.Command.{Number, Passes, app_with, number_rule, text_rule}
use Rattle.command_line.proofs.IdLemmas.{is_apart, one_place, own_id}

-- these matches are of a command that is known, with simple arguments whose ids differ
pub record IsKnown (c : Command) (m : ArgMatches) (rules : List Rule) : Type 0 where
  pub parsed : IsParsedFrom c m
  pub rules_are : map rule_of (args_of c) ≡ rules
  pub plain : (shape_of c).is_plain ≡ true
  pub simple : all_simple rules ≡ true
  pub apart : is_apart rules ≡ true

-- ---- the command's arguments are the known ones

as_long : (c : Command) (m : ArgMatches) (rules : List Rule) → IsKnown c m rules → length (args_of c) ≡ length rules
as_long c m rules known = sym (length-map (args_of c) rule_of) ∙ ap length known.rules_are

rule_at : (c : Command) (m : ArgMatches) (rules : List Rule) → IsKnown c m rules → (j : ℕ) (x : Arg) (d : Rule)
    → j < length (args_of c) → rule_of (slice_index_or (args_of c) j x) ≡ slice_index_or rules j d
rule_at c m rules known j x d inside =
    sym (get_or-map rule_of (args_of c) j x d inside) ∙ ap (λ l. slice_index_or l j d) known.rules_are

id_at : (c : Command) (m : ArgMatches) (rules : List Rule) → IsKnown c m rules → (j : ℕ) (x : Arg) (d : Rule)
    → j < length (args_of c) → (slice_index_or (args_of c) j x).id.now ≡ (slice_index_or rules j d).id
id_at c m rules known j x d inside = ap (λ (r : Rule). r.id) (rule_at c m rules known j x d inside)

no_groups : (c : Command) (m : ArgMatches) (rules : List Rule) (known : IsKnown c m rules)
    → groups_of known.parsed.built ≡ []
no_groups c m rules known =
    (known.parsed.from.same_groups (simple_groups c (ap all_simple known.rules_are ∙ known.simple))).1
    ∙ (plain_fields c known.plain).groups

is_parsed : (c : Command) (m : ArgMatches) (rules : List Rule) (known : IsKnown c m rules)
    → IsParsed known.parsed.built (found_of m) (has_subcommand m)
is_parsed c m rules known = known.parsed.parsed (known.parsed.from.globals ∙ (plain_fields c known.plain).globals)

unique : (c : Command) (m : ArgMatches) (rules : List Rule) → IsKnown c m rules → (k : ℕ) (d : Rule)
    → k < length rules → (x : Arg) (j : ℕ) (y : Arg) → k < length (args_of c) → j < length (args_of c)
    → bytes_eq (slice_index_or (args_of c) j y).id.now (slice_index_or (args_of c) k x).id.now ≡ true → j ≡ k
unique c m rules known k d inside x j y lk lj same =
    let long = as_long c m rules known in
    one_place rules known.apart j k d d (omega arith) inside
    (sym (id_at c m rules known j y d lj) ∙ (bytes_eq-Decides _ _).0 same ∙ id_at c m rules known k x d lk)

-- nor is one of them a flag that the command adds by itself
not_auto : (c : Command) (m : ArgMatches) (rules : List Rule) → IsKnown c m rules → (k : ℕ) (d : Rule)
    → k < length rules → (x : Arg) → k < length (args_of c) → IsAuto (slice_index_or (args_of c) k x) → ⊥
not_auto c m rules known k d inside x lk (inl help) =
    own_id rules known.apart k d inside 1 (omega arith) (sym help ∙ id_at c m rules known k x d lk)
not_auto c m rules known k d inside x lk (inr version) =
    own_id rules known.apart k d inside 2 (omega arith) (sym version ∙ id_at c m rules known k x d lk)

-- ---- a value under the id of an argument passed that argument's parser

of_arg : (c : Command) (m : ArgMatches) (rules : List Rule) (known : IsKnown c m rules) (k : ℕ) (d : Rule)
    → k < length rules → (q : ValueParser) → (slice_index_or rules k d).parser ≡ Some q → (t u : Text)
    → u ≡ (slice_index_or rules k d).id → PassesArg known.parsed.built u t
    → Accepts (slice_index_or rules k d).ignore_case q t
of_arg c m rules known k d inside q parser t u key pass =
    let x = pass.1 in
    let long = as_long c m rules known in
    let lk : k < length (args_of c) = omega arith in
    let at = rule_at c m rules known k x d lk in
    let here : (slice_index_or (args_of c) k x).id.now ≡ u = ap (λ (r : Rule). r.id) at ∙ sym key in
    let same = same_rules_by_id c m known.parsed k x lk
    (λ j y lj e. unique c m rules known k d inside x j y lk lj e)
    (not_auto c m rules known k d inside x lk) pass.0 x pass.2 pass.3
    (subst (λ (w : Text). bytes_eq x.id.now w ≡ true) (sym here) pass.4.0) in
    let is_q : parser_of x ≡ q =
    ap parser_of_value (same.parser q (ap (λ (r : Rule). r.parser) at ∙ parser)) in
    let case : x.ignore_case ≡ (slice_index_or rules k d).ignore_case =
    same.ignore_case ∙ ap (λ (r : Rule). r.ignore_case) at in
    subst (λ (b : Bool). Accepts b q t) case (subst (λ (w : ValueParser). Accepts x.ignore_case w t) is_q pass.4.1)

first_of_vals : (t : Text) (vs : List (Bor Text)) → option_map (λ s. s.now) (slice_get vs 0) ≡ Some t
    → (v : Bor Text) × (0 < length vs) × (slice_index_or vs 0 v ≡ v) × (v.now ≡ t)
first_of_vals t [] e = cc
first_of_vals t (v ∷ vs) e =
    let same : v.now ≡ t = cc in
    (v, omega arith, refl, same)

of_entry : (c : Command) (m : ArgMatches) (rules : List Rule) (known : IsKnown c m rules) (k : ℕ) (d : Rule)
    → k < length rules → (q : ValueParser) → (slice_index_or rules k d).parser ≡ Some q → (t : Text)
    → (x : MatchedArg) (e : Entry) → e.1 ≡ x → bytes_eq e.0.now (slice_index_or rules k d).id ≡ true
    → EntryPasses known.parsed.built e → option_map (λ s. s.now) (slice_get x.vals.items 0) ≡ Some t
    → Accepts (slice_index_or rules k d).ignore_case q t
of_entry c m rules known k d inside q parser t x e same key pass first =
    let key_is : e.0.now ≡ (slice_index_or rules k d).id =
    (bytes_eq-Decides e.0.now (slice_index_or rules k d).id).0 key in
    let v = first_of_vals t x.vals.items first in
    elim pass.0 [
      | inl group ↦ elim (pass.3 group) [
        | inl empty ↦ absurd (own_id rules known.apart k d inside 0 (omega arith) (sym empty ∙ key_is))
        | inr lots ↦
            let bad : 0 < 0 = rw (no_groups c m rules known) at lots in
            absurd (omega arith)
      ]
      | inr all ↦
          let here : All (λ w. PassesArg known.parsed.built e.0.now w.now) x.vals.items = rw same at all in
          let one = All-get_or (λ w. PassesArg known.parsed.built e.0.now w.now) x.vals.items 0 v.0 v.1 here in
          of_arg c m rules known k d inside q parser t e.0.now key_is
          (subst (λ (w : Text). PassesArg known.parsed.built e.0.now w) (ap (λ (b : Bor Text). b.now) v.2 ∙ v.3) one)
    ]

of_found : (c : Command) (m : ArgMatches) (rules : List Rule) (known : IsKnown c m rules) (k : ℕ) (d : Rule)
    → k < length rules → (q : ValueParser) → (slice_index_or rules k d).parser ≡ Some q → (t : Text)
    → (o : Option MatchedArg) → matched_of (found_of m) (slice_index_or rules k d).id ≡ o
    → first_value (found_of m) (slice_index_or rules k d).id ≡ Some t
    → Accepts (slice_index_or rules k d).ignore_case q t
of_found c m rules known k d inside q parser t None is found =
    let bad : None ≡ Some t = rw is at found in
    cc
of_found c m rules known k d inside q parser t (Some x) is found =
    let entry = entry_by_id (EntryPasses known.parsed.built) (found_of m).entries.items (slice_index_or rules k d).id x
    (is_parsed c m rules known).values is in
    of_entry c m rules known k d inside q parser t x entry.0 entry.1 entry.2 entry.3 (rw is at found)

-- the value of an argument passed its parser
pub value_passes : (c : Command) (m : ArgMatches) (rules : List Rule) → IsKnown c m rules → (k : ℕ) (d : Rule)
    → k < length rules → (q : ValueParser) → (slice_index_or rules k d).parser ≡ Some q → (t : Text)
    → first_value (found_of m) (slice_index_or rules k d).id ≡ Some t
    → Accepts (slice_index_or rules k d).ignore_case q t
value_passes c m rules known k d inside q parser t found =
    of_found c m rules known k d inside q parser t (matched_of (found_of m) (slice_index_or rules k d).id) refl found

-- so each number that was found is one in its range
pub numbers_pass : (name : Text) (ns : List Number) (ts : List Text) (c : Command) (m : ArgMatches)
    → IsParsedFrom c m → app_of c ≡ app_with name ns ts → all_simple (app_with name ns ts).top.rules ≡ true
    → is_apart (app_with name ns ts).top.rules ≡ true → All (Passes (found_of m)) ns
unfolding Passes
numbers_pass name ns ts c m parsed is simple apart k d inside t found =
    let rules = (app_with name ns ts).top.rules in
    let known : IsKnown c m rules = record {
      parsed = parsed;
      rules_are = ap (λ (a : App). a.top.rules) is;
      plain = ap (λ (a : App). a.top.is_plain) is;
      simple = simple;
      apart = apart;
    } in
    let short : k < length (map number_rule ns) = rw (length-map ns number_rule) inside in
    let long : suc k < length rules =
    rw (length-append (map number_rule ns) (map text_rule ts)) (omega arith) in
    let at : slice_index_or rules (suc k) (number_rule d) ≡ number_rule (slice_index_or ns k d) =
    get_or_append_left (map number_rule ns) (map text_rule ts) (number_rule d) k short
    ∙ get_or-map number_rule ns k d (number_rule d) inside in
    value_passes c m rules known (suc k) (number_rule d) long
    (Unsigned (slice_index_or ns k d).least (slice_index_or ns k d).most)
    (ap (λ (r : Rule). r.parser) at) t (ap (λ (r : Rule). first_value (found_of m) r.id) at ∙ found)
