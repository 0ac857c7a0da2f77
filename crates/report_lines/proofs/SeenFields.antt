-- What a caller had seen can be read back, and so can the packets of an order.
use Rattle.std.proofs.Common.{◌≡◌, ℕ, zero, suc, ◌-◌, ◌^◌, ◌<◌, ◌≤◌, codes, List, [], ◌∷◌, ◌++◌, length, replicate, take, Option, Some, None, refl, sym, ap, ◌∙◌, append_assoc, append-nil, subst, arith}
use Rattle.std.specs.Prelude.{decimal, flat_map}
use Rattle.std.specs.List.{AllByRecursion, join_by}
use Rattle.std.proofs.lemmas.List.Elements.{All-from_recursion, recursion_from_All}
use Rattle.std.proofs.lemmas.Option.{some_pair_parts}
use Rattle.plain_map.specs.declared.records.Seen.{Seen}
use Rattle.line_fields.specs.Reading.{HasNoDigit, text_at}
use Rattle.line_fields.proofs.NumberLaws.{number_again}
use Rattle.line_fields.proofs.TextLemmas.{text_takes}
use Rattle.line_fields.proofs.BindLemmas.{bind_some, number_then, text_then}
use Rattle.report_text.specs.Lines.{counts_word}
use Rattle.report_told.specs.Rules.{IsSeen}
use Rattle.report_lines.specs.Fields.{most_32, counts_behind, counts_at, seen_with, packets_behind, next_packet}
use Rattle.report_lines.proofs.FieldLaws.{IsField, Takes}

-- Counts behind commas.

abbrev pub commas : List ℕ → List ℕ
commas counts = flat_map (λ count. codes "," ++ decimal count) counts

abbrev pub AreSmall : List ℕ → Type 0
AreSmall numbers = AllByRecursion (λ n. n < 2 ^ 32) numbers

comma_next : (count : ℕ) (counts rest : List ℕ) →
    commas (count ∷ counts) ++ rest ≡ 44 ∷ (decimal count ++ (commas counts ++ rest))
comma_next count counts rest =
    append_assoc (codes "," ++ decimal count) (commas counts) rest

commas_end : (counts rest : List ℕ) → HasNoDigit rest → HasNoDigit (commas counts ++ rest)
commas_end [] rest end = end
commas_end (count ∷ counts) rest end = refl

counts_behind_again : (counts front rest : List ℕ) → AreSmall counts → HasNoDigit rest →
    counts_behind (length counts) front (commas counts ++ rest) ≡ Some (front ++ counts, rest)
unfolding counts_behind
counts_behind_again [] front rest small end = ap (λ (c : List ℕ). Some (c, rest)) (sym (append-nil front))
counts_behind_again (count ∷ counts) front rest small end =
    ap (λ (b : List ℕ). counts_behind (suc (length counts)) front b) (comma_next count counts rest)
    ∙ rw (number_again most_32 count (commas counts ++ rest) (omega (arith, small.0)) (omega (arith, small.0))
    (commas_end counts rest end))
    (counts_behind_again counts (front ++ count ∷ []) rest small.1 end
    ∙ ap (λ (c : List ℕ). Some (c, rest)) (append_assoc front (count ∷ []) counts))

-- so many counts stand there
record AreCountsAt (many : ℕ) (front bytes all rest : List ℕ) : Type 0 where
  counts : List ℕ
  long : length counts ≡ many
  small : AreSmall counts
  all_is : all ≡ front ++ counts
  text : bytes ≡ commas counts ++ rest

counts_behind_takes : (many : ℕ) (front bytes all rest : List ℕ) → counts_behind many front bytes ≡ Some (all, rest) →
    AreCountsAt many front bytes all rest
unfolding counts_behind
counts_behind_takes zero front bytes all rest is =
    let parts : (front ≡ all) × (bytes ≡ rest) = some_pair_parts front all bytes rest is in
    record { counts = []; long = refl; small = tt; all_is = sym parts.0 ∙ sym (append-nil front); text = parts.1 }
counts_behind_takes (suc many) front bytes all rest is =
    let s1 = text_then (codes ",") bytes _ (all, rest) is in
    let s2 = number_then most_32 s1.left _ (all, rest) (omega arith) s1.then in
    let later : AreCountsAt many (front ++ s2.number ∷ []) s2.left all rest =
    counts_behind_takes many (front ++ s2.number ∷ []) s2.left all rest s2.then in
    record {
      counts = s2.number ∷ later.counts;
      long = omega (arith, later.long);
      small = (omega (arith, s2.at.within), later.small);
      all_is = later.all_is ∙ append_assoc front (s2.number ∷ []) later.counts;
      text =
          s1.at ∙ ap (λ (b : List ℕ). 44 ∷ b) (s2.at.text ∙ ap (λ (b : List ℕ). decimal s2.number ++ b) later.text)
          ∙ sym (comma_next s2.number later.counts rest);
    }

-- Counts of so many seats.

take_front : (xs ys : List ℕ) (n : ℕ) → length xs ≡ n → take n (xs ++ ys) ≡ xs
take_front [] ys zero long = refl
take_front [] ys (suc n) long = absurd (omega arith)
take_front (x ∷ xs) ys zero long = absurd (omega arith)
take_front (x ∷ xs) ys (suc n) long = ap (λ (z : List ℕ). x ∷ z) (take_front xs ys n (omega arith))

-- the word of counts
pub word_of : (seats : ℕ) (told : List ℕ) → length told ≡ seats →
    counts_word seats (told ++ replicate (8 - seats) 0) ≡ join_by decimal (codes ",") told
unfolding counts_word
word_of seats told long =
    ap (λ (c : List ℕ). join_by decimal (codes ",") c) (take_front told (replicate (8 - seats) 0) seats long)

counts_told : (seats first : ℕ) (counts rest : List ℕ) → suc (length counts) ≡ seats → AreSmall (first ∷ counts) →
    HasNoDigit rest →
    counts_at seats (join_by decimal (codes ",") (first ∷ counts) ++ rest) ≡ Some
    (seen_with seats (first ∷ counts), rest)
unfolding counts_at
counts_told seats first counts rest long small end =
    let one_less : seats - 1 ≡ length counts = omega arith in
    ap (λ (b : List ℕ). counts_at seats b) (append_assoc (decimal first) (commas counts) rest)
    ∙ rw (
      number_again most_32 first (commas counts ++ rest) (omega (arith, small.0)) (omega (arith, small.0))
          (commas_end counts rest end),
      one_less,
      counts_behind_again counts (first ∷ []) rest small.1 end,
    ) refl

abbrev pub seen_text : (seats : ℕ) → Seen → List ℕ
seen_text seats seen = counts_word seats seen.counts

counts_again : (seats : ℕ) → 1 ≤ seats → (seen : Seen) (rest : List ℕ) → IsSeen seats seen → HasNoDigit rest →
    counts_at seats (seen_text seats seen ++ rest) ≡ Some (seen, rest)
counts_again seats some seen rest is end = go is.told is.long (recursion_from_All (λ n. n < 2 ^ 32) is.told is.fit)
    is.counts
  where
    go : (told : List ℕ) → length told ≡ seats → AreSmall told → seen.counts ≡ told ++ replicate (8 - seats) 0 →
        counts_at seats (seen_text seats seen ++ rest) ≡ Some (seen, rest)
    go [] long small counts = absurd (omega (arith, long))
    go (first ∷ told) long small counts =
        let made : List ℕ → Seen = λ c. record { counts = c } in
        ap (λ (c : List ℕ). counts_at seats (counts_word seats c ++ rest)) counts
        ∙ ap (λ (w : List ℕ). counts_at seats (w ++ rest)) (word_of seats (first ∷ told) long)
        ∙ counts_told seats first told rest long small end
        ∙ ap (λ (c : List ℕ). Some (made c, rest)) (sym counts)

counts_takes : (seats : ℕ) → 1 ≤ seats → (bytes : List ℕ) (seen : Seen) (rest : List ℕ) →
    counts_at seats bytes ≡ Some (seen, rest) → Takes (seen_text seats) (IsSeen seats) bytes seen rest
unfolding counts_at
counts_takes seats some bytes seen rest is =
    let s1 = number_then most_32 bytes _ (seen, rest) (omega arith) is in
    let s2 = bind_some (counts_behind (seats - 1) (s1.number ∷ []) s1.left) _ (seen, rest) s1.then in
    let at : AreCountsAt (seats - 1) (s1.number ∷ []) s1.left s2.0.0 s2.0.1 =
    counts_behind_takes (seats - 1) (s1.number ∷ []) s1.left s2.0.0 s2.0.1 s2.1 in
    let parts : (seen_with seats s2.0.0 ≡ seen) × (s2.0.1 ≡ rest) =
    some_pair_parts (seen_with seats s2.0.0) seen s2.0.1 rest s2.2 in
    let told : List ℕ = s1.number ∷ at.counts in
    let long : length (s1.number ∷ at.counts) ≡ seats = omega (arith, at.long) in
    let same : seen_with seats (s1.number ∷ at.counts) ≡ seen =
    ap (seen_with seats) (sym at.all_is) ∙ parts.0 in
    let small : AreSmall (s1.number ∷ at.counts) = (omega (arith, s1.at.within), at.small) in
    let whole : Takes (seen_text seats) (IsSeen seats) bytes (seen_with seats (s1.number ∷ at.counts)) s2.0.1 = record {
      text_is =
          s1.at.text ∙ ap (λ (b : List ℕ). decimal s1.number ++ b) at.text
          ∙ sym (append_assoc (decimal s1.number) (commas at.counts) s2.0.1)
          ∙ ap (λ (b : List ℕ). b ++ s2.0.1) (sym (word_of seats (s1.number ∷ at.counts) long));
      fits = record {
        told = s1.number ∷ at.counts;
        long = long;
        fit = All-from_recursion (λ n. n < 2 ^ 32) (s1.number ∷ at.counts) small;
        counts = refl;
      };
    } in
    subst (λ (v : Seen). Takes (seen_text seats) (IsSeen seats) bytes v rest) same
    (subst (λ (r : List ℕ). Takes (seen_text seats) (IsSeen seats) bytes (seen_with seats (s1.number ∷ at.counts)) r)
    parts.1 whole)

pub counts_field : (seats : ℕ) → 1 ≤ seats → IsField (counts_at seats) (seen_text seats) (IsSeen seats)
counts_field seats some = record { again = counts_again seats some; takes = counts_takes seats some }

-- Packets behind spaces.

abbrev pub spaces : List ℕ → List ℕ
spaces packets = flat_map (λ packet. codes " " ++ decimal packet) packets

space_next : (packet : ℕ) (packets rest : List ℕ) →
    spaces (packet ∷ packets) ++ rest ≡ 32 ∷ (decimal packet ++ (spaces packets ++ rest))
space_next packet packets rest = append_assoc (codes " " ++ decimal packet) (spaces packets) rest

spaces_end : (packets rest : List ℕ) → HasNoDigit (spaces packets ++ (10 ∷ rest))
spaces_end [] rest = refl
spaces_end (packet ∷ packets) rest = refl

pub packets_again : (many : ℕ) (packets front rest : List ℕ) → length packets ≤ many → AreSmall packets →
    packets_behind many front (spaces packets ++ (10 ∷ rest)) ≡ Some (front ++ packets, 10 ∷ rest)
unfolding packets_behind
packets_again zero [] front rest few small = ap (λ (c : List ℕ). Some (c, 10 ∷ rest)) (sym (append-nil front))
packets_again (suc many) [] front rest few small = ap (λ (c : List ℕ). Some (c, 10 ∷ rest)) (sym (append-nil front))
packets_again zero (packet ∷ packets) front rest few small = absurd (omega (arith, few))
packets_again (suc many) (packet ∷ packets) front rest few small =
    ap (λ (b : List ℕ). packets_behind (suc many) front b) (space_next packet packets (10 ∷ rest))
    ∙ rw (number_again most_32 packet (spaces packets ++ (10 ∷ rest)) (omega (arith, small.0)) (omega (arith, small.0))
    (spaces_end packets rest))
    (packets_again many packets (front ++ packet ∷ []) rest (omega (arith, few)) small.1
    ∙ ap (λ (c : List ℕ). Some (c, 10 ∷ rest)) (append_assoc front (packet ∷ []) packets))

-- so many packets at most stand there
pub record ArePacketsAt (many : ℕ) (front bytes all rest : List ℕ) : Type 0 where
  pub packets : List ℕ
  pub few : length packets ≤ many
  pub small : AreSmall packets
  pub all_is : all ≡ front ++ packets
  pub text : bytes ≡ spaces packets ++ rest

pub packets_takes : (many : ℕ) (front bytes all rest : List ℕ) → packets_behind many front bytes ≡ Some (all, rest) →
    ArePacketsAt many front bytes all rest
unfolding packets_behind
packets_takes zero front bytes all rest is =
    let parts : (front ≡ all) × (bytes ≡ rest) = some_pair_parts front all bytes rest is in
    record {
      packets = [];
      few = omega arith;
      small = tt;
      all_is = sym parts.0 ∙ sym (append-nil front);
      text = parts.1;
    }
packets_takes (suc many) front bytes all rest is = go (packets_takes many) (text_at (codes " ") bytes) refl is
  where
    go : ((front bytes all rest : List ℕ) → packets_behind many front bytes ≡ Some (all, rest) →
        ArePacketsAt many front bytes all rest) →
        (o : Option (List ℕ)) → text_at (codes " ") bytes ≡ o →
        next_packet (packets_behind many) front bytes o ≡ Some (all, rest) →
        ArePacketsAt (suc many) front bytes all rest
    go later None there read =
        let parts : (front ≡ all) × (bytes ≡ rest) = some_pair_parts front all bytes rest read in
        record {
          packets = [];
          few = omega arith;
          small = tt;
          all_is = sym parts.0 ∙ sym (append-nil front);
          text = parts.1;
        }
    go later (Some left) there read =
        let s2 = number_then most_32 left _ (all, rest) (omega arith) read in
        let next : ArePacketsAt many (front ++ s2.number ∷ []) s2.left all rest =
        later (front ++ s2.number ∷ []) s2.left all rest s2.then in
        record {
          packets = s2.number ∷ next.packets;
          few = omega (arith, next.few);
          small = (omega (arith, s2.at.within), next.small);
          all_is = next.all_is ∙ append_assoc front (s2.number ∷ []) next.packets;
          text =
              text_takes (codes " ") bytes left there
              ∙ ap (λ (b : List ℕ). 32 ∷ b) (s2.at.text ∙ ap (λ (b : List ℕ). decimal s2.number ++ b) next.text)
              ∙ sym (space_next s2.number next.packets rest);
        }
