-- The head line can be read back.
use Rattle.std.proofs.Common.{◌≡◌, ℕ, ◌≤◌, nat_lt, nat_le, ◌&&◌, Bool, true, cond, codes, List, [], ◌∷◌, ◌++◌, Option, Some, None, refl, sym, ap, ◌∙◌, arith}
use Rattle.std.specs.Prelude.{decimal}
use Rattle.std.proofs.lemmas.Option.{cond_some}
use Rattle.hash_bits.specs.declared.hashing.Hashing.{Hashing}
use Rattle.hash_bits.specs.declared.hashing.Hashing.TheVariants.{Mix, Ports}
use Rattle.trace_share.specs.declared.deals.Share.{Share}
use Rattle.key_texts.specs.declared.rules.CallRule.{CallRule}
use Rattle.report_text.specs.Report.{batch_words, head_line, hash_words, mode_word, rule_words, share_word}
use Rattle.report_text.specs.declared.parts.Head.{Head}
use Rattle.line_fields.proofs.BindLemmas.{bind_some}
use Rattle.line_fields.specs.Reading.{◌>>=◌}
use Rattle.report_told.specs.Rules.{IsHead, seed_in}
use Rattle.report_lines.specs.Fields.{most_64}
use Rattle.report_lines.specs.Lines.{head_at, head_behind, ranged, rule_at}
use Rattle.report_lines.proofs.Behind.{behind, line_behind}
use Rattle.report_lines.proofs.RuleField.{RuleTakes, rule_again, rule_cut, rule_takes, rule_text}
use Rattle.report_lines.proofs.HeadFields.{hashing_text}
use Rattle.report_lines.proofs.PartLaws.{number, mode, hashing, share, Part, known, field, Values, spelled, Fitting, ReadSo, Finds, IsLine, found_as, reads_again, reads_takes}

abbrev head_parts : List Part
head_parts =
    known (codes "flowdir ") ∷ field mode ∷ known (codes " seats ") ∷ field (number 8) ∷ known (codes " items ")
    ∷ field (number 16) ∷ known (codes " depth ") ∷ field (number 12) ∷ known (codes " start ") ∷ field (number 12)
    ∷ known (codes " hash ") ∷ field hashing ∷ known (codes " share ") ∷ field share ∷ []

abbrev head_values : Head → Values head_parts
head_values head =
    (head.play, (head.seats, (head.items, (head.depth, (head.start, (head.hashing, (head.share, tt)))))))

abbrev head_of : Values head_parts → CallRule × ℕ → Head
head_of values told = record {
  play = values.0;
  seats = values.1.0;
  items = values.1.1.0;
  depth = values.1.1.1.0;
  start = values.1.1.1.1.0;
  hashing = values.1.1.1.1.1.0;
  share = values.1.1.1.1.1.1.0;
  calls = told.0;
  batch = told.1;
}

-- what is read behind the share
abbrev head_made : Values head_parts → List ℕ → Option (Head × List ℕ)
head_made values left = rule_at values.0 left >>= λ told. ranged (head_of values told.0) told.1

-- the words behind `hash`
hash_behind : (hash : Hashing) (dealt : Share) (more : List (List ℕ)) (rest : List ℕ) →
    behind (hash_words hash ++ (codes "share" ∷ share_word dealt ∷ more)) rest
    ≡ 32 ∷ (hashing_text hash ++ (codes " share " ++ (share_word dealt ++ behind more rest)))
hash_behind (Mix seed) dealt more rest = refl
hash_behind (Ports seed) dealt more rest = refl

abbrev pub head_text : Head → List ℕ → List ℕ
head_text head rest = head_line head ++ rest

head_spelled : (head : Head) (rest : List ℕ) →
    head_text head rest ≡ spelled head_parts (head_values head) (rule_text head.calls head.batch rest)
unfolding head_line
head_spelled head rest =
    line_behind (codes "flowdir") (mode_word head.play
    ∷ codes "seats" ∷ decimal head.seats ∷ codes "items" ∷ decimal head.items
    ∷ codes "depth" ∷ decimal head.depth ∷ codes "start" ∷ decimal head.start
    ∷ codes "hash" ∷ (hash_words head.hashing
    ++ (codes "share" ∷ share_word head.share ∷ (rule_words head.calls ++ batch_words head.batch)))) rest
    ∙ ap (λ (b : List ℕ). codes "flowdir " ++ (mode_word head.play ++ (codes " seats " ++ (decimal head.seats
    ++ (codes " items " ++ (decimal head.items ++ (codes " depth " ++ (decimal head.depth ++ (codes " start "
    ++ (decimal head.start ++ (codes " hash" ++ b)))))))))))
    (hash_behind head.hashing head.share (rule_words head.calls ++ batch_words head.batch) rest)

in_range : (head : Head) → IsHead head →
    (nat_lt 0 head.seats && nat_lt 0 head.items && nat_le head.start head.depth) ≡ true
in_range head is =
    let seats : 1 ≤ head.seats = is.settings.seats_in_range.0 in
    let items : 1 ≤ head.items = is.settings.items_in_range.0 in
    let start : head.start ≤ head.depth = is.settings.start_in_range.1 in
    grind arith

head_again : (head : Head) (rest : List ℕ) → IsHead head → head_at (head_text head rest) ≡ Some (head, rest)
unfolding head_at head_behind
head_again head rest is =
    let seats : head.seats ≤ 8 = is.settings.seats_in_range.1 in
    let items : head.items ≤ 16 = is.settings.items_in_range.1 in
    let depth : head.depth ≤ 12 = is.settings.depth_in_range.1 in
    let start : head.start ≤ 12 = omega (arith, is.settings.start_in_range.1) in
    let seed : seed_in head.hashing ≤ most_64 = omega (arith, is.seed) in
    ap head_at (head_spelled head rest)
    ∙ reads_again head_parts head_made (head_values head) (rule_text head.calls head.batch rest) (omega arith)
    (tt, (seats, (items, (depth, (start, (seed, (tt, tt)))))))
    (refl, (refl, (refl, (refl, (refl, (refl, (rule_cut head.calls head.batch rest, tt)))))))
    ∙ ap (λ (o : Option ((CallRule × ℕ) × List ℕ)). o >>= λ told. ranged (head_of (head_values head) told.0) told.1)
    (rule_again head.play head.calls head.batch rest is.batch)
    ∙ ap (λ (b : Bool). cond b (Some (head, rest)) None) (in_range head is)

range_is : (seats items depth start : ℕ) → (nat_lt 0 seats && nat_lt 0 items && nat_le start depth) ≡ true →
    (1 ≤ seats) × (1 ≤ items) × (start ≤ depth)
range_is seats items depth start test = (grind arith, grind arith, grind arith)

found_head : (bytes : List ℕ) (head : Head) (rest : List ℕ) (values : Values head_parts) (left : List ℕ)
    (told : CallRule × ℕ) (last : List ℕ) → bytes ≡ spelled head_parts values left → Fitting head_parts values →
    RuleTakes values.0 left told last → ranged (head_of values told) last ≡ Some (head, rest) →
    Finds head_text IsHead bytes head rest
found_head bytes head rest values left told last text fits line then =
    let tested : ((nat_lt 0 (head_of values told).seats && nat_lt 0 (head_of values told).items
    && nat_le (head_of values told).start (head_of values told).depth) ≡ true)
    × (◌≡◌ {A = Head × List ℕ} (head_of values told, last) (head, rest)) =
    cond_some (nat_lt 0 (head_of values told).seats && nat_lt 0 (head_of values told).items
    && nat_le (head_of values told).start (head_of values told).depth) (head_of values told, last) (head, rest) then
    in
    let range : (1 ≤ (head_of values told).seats) × (1 ≤ (head_of values told).items)
    × ((head_of values told).start ≤ (head_of values told).depth) =
    range_is (head_of values told).seats (head_of values told).items (head_of values told).depth
    (head_of values told).start tested.0 in
    let seed : seed_in (head_of values told).hashing ≤ most_64 = fits.1.1.1.1.1.0 in
    let found : Finds head_text IsHead bytes (head_of values told) last = record {
      text_is =
          text ∙ ap (λ (b : List ℕ). spelled head_parts values b) line.text_is
          ∙ sym (head_spelled (head_of values told) last);
      fits = record {
        settings = record {
          seats_in_range = (range.0, fits.1.0);
          items_in_range = (range.1, fits.1.1.0);
          depth_in_range = (omega arith, fits.1.1.1.0);
          start_in_range = (omega arith, range.2);
        };
        seed = omega (arith, seed);
        batch = line.fits;
      };
    } in
    found_as head_text IsHead bytes (head_of values told) head last rest found
    (ap (λ (x : Head × List ℕ). Some x) tested.1)

head_takes : (bytes : List ℕ) (head : Head) (rest : List ℕ) → head_at bytes ≡ Some (head, rest) →
    Finds head_text IsHead bytes head rest
unfolding head_at head_behind
head_takes bytes head rest is =
    let read : ReadSo head_parts head_made bytes (head, rest) =
    reads_takes head_parts head_made bytes (head, rest) (omega arith) is in
    let last = bind_some (rule_at read.values.0 read.left)
    (λ told. ranged (head_of read.values told.0) told.1) (head, rest) read.then in
    found_head bytes head rest read.values read.left last.0.0 last.0.1 read.text read.fits
    (rule_takes read.values.0 read.left last.0.0 last.0.1 last.1) last.2

pub head_is_line : IsLine head_at head_text IsHead
head_is_line = record { again = head_again; takes = head_takes }
