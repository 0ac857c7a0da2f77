-- What is read as a group is the group's text, and each group's text is read so; so are four groups with colons.
use Rattle.std.proofs.Common.{◌≡◌, ℕ, ◌+◌, ◌*◌, ◌/◌, ◌%◌, ◌^◌, ◌<◌, ◌≤◌, ◌==◌, Bool, true, false, cond, nat_lt, codes, List, [], ◌∷◌, ◌++◌, Option, Some, None, refl, sym, ap, ◌∙◌, append_assoc, subst, arith}
use Rattle.std.proofs.lemmas.Option.{none-some, some_pair_parts}
use Rattle.std.specs.Fmt.{digit_glyph}
use Rattle.line_fields.specs.Reading.{◌>>=◌, hex_digit}
use Rattle.line_fields.proofs.HexLaws.{IsGlyph, glyph_again, glyph_takes}
use Rattle.line_fields.proofs.BindLemmas.{bind_some, text_then}
use Rattle.key_texts.specs.FlowText.{group_text, groups_text}
use Rattle.key_texts.proofs.HexLemmas.{one_digit, two_digits, three_digits, four_digits}
use Rattle.flow_reading.specs.Groups.{digit_at, more_at, rest_at, group_at, groups_at}

-- no hexadecimal digit stands at the front
abbrev pub HasNoHex : List ℕ → Type 0
HasNoHex bytes = digit_at bytes ≡ None

-- a digit behind a group's makes the group's text longer by its glyph
longer : (front digit : ℕ) → 1 ≤ front → front < 4096 → digit < 16 →
    group_text (front * 16 + digit) ≡ group_text front ++ (digit_glyph false digit ∷ [])
longer front digit some small is = go (nat_lt front 16) (nat_lt front 256) refl refl
  where
    last : (front * 16 + digit) % 16 ≡ digit
    last = omega arith

    upper : (front * 16 + digit) / 16 ≡ front
    upper = omega arith

    second : (front * 16 + digit) / 256 ≡ front / 16
    second = omega arith

    first : (front * 16 + digit) / 4096 ≡ front / 256
    first = omega arith

    go : (a b : Bool) → nat_lt front 16 ≡ a → nat_lt front 256 ≡ b →
        group_text (front * 16 + digit) ≡ group_text front ++ (digit_glyph false digit ∷ [])
    go true b one two =
        let low : front < 16 = grind (arith, one) in
        rw (two_digits (front * 16 + digit) (omega arith) (omega arith), one_digit front low, last, upper) refl
    go false true one two =
        let low : 16 ≤ front = grind (arith, one) in
        let high : front < 256 = grind (arith, two) in
        rw (
          three_digits (front * 16 + digit) (omega arith) (omega arith),
          two_digits front low high,
          last,
          upper,
          second,
        ) refl
    go false false one two =
        let low : 256 ≤ front = grind (arith, two) in
        let top : front / 256 % 16 ≡ front / 256 = omega arith in
        rw (
          four_digits (front * 16 + digit) (omega arith) (omega arith),
          three_digits front low small,
          last,
          upper,
          second,
          first,
          top,
        ) refl

-- One digit more.

-- what was read with the digits behind it, and what is left
record IsMoreAt (front : ℕ) (bytes : List ℕ) (n : ℕ) (rest : List ℕ) : Type 0 where
  text : group_text front ++ bytes ≡ group_text n ++ rest
  some : 1 ≤ n
  small : n < front * 16 + 16

more_takes : (front : ℕ) (bytes : List ℕ) → 1 ≤ front → front < 4096 →
    IsMoreAt front bytes ((more_at front bytes).0) ((more_at front bytes).1)
more_takes front [] some small = record { text = refl; some = some; small = omega arith }
more_takes front (b ∷ bytes) some small = go (hex_digit b) refl
  where
    go : (o : Option ℕ) → hex_digit b ≡ o →
        IsMoreAt front (b ∷ bytes) ((more_at front (b ∷ bytes)).0) ((more_at front (b ∷ bytes)).1)
    go (Some digit) there =
        let glyph : IsGlyph b digit = glyph_takes b digit there in
        let is : more_at front (b ∷ bytes) ≡ (front * 16 + digit, bytes) = rw there refl in
        let below : digit < 16 = glyph.small in
        let made : IsMoreAt front (b ∷ bytes) (front * 16 + digit) bytes = record {
          text =
              ap (λ (x : ℕ). group_text front ++ (x ∷ bytes)) glyph.glyph
              ∙ sym (append_assoc (group_text front) (digit_glyph false digit ∷ []) bytes)
              ∙ ap (λ (t : List ℕ). t ++ bytes) (sym (longer front digit some small below));
          some = omega arith;
          small = omega arith;
        } in
        subst (λ (x : ℕ × List ℕ). IsMoreAt front (b ∷ bytes) x.0 x.1) (sym is) made
    go None there =
        let is : more_at front (b ∷ bytes) ≡ (front, b ∷ bytes) = rw there refl in
        let made : IsMoreAt front (b ∷ bytes) front (b ∷ bytes) =
        record { text = refl; some = some; small = omega arith } in
        subst (λ (x : ℕ × List ℕ). IsMoreAt front (b ∷ bytes) x.0 x.1) (sym is) made

more_again : (front digit : ℕ) (rest : List ℕ) → digit < 16 →
    more_at front (digit_glyph false digit ∷ rest) ≡ (front * 16 + digit, rest)
more_again front digit rest small = rw (glyph_again digit small) refl

more_stays : (front : ℕ) (rest : List ℕ) → HasNoHex rest → more_at front rest ≡ (front, rest)
more_stays front rest end = rw end refl

-- A group.

-- the bytes begin with the group's text
pub record IsGroupAt (bytes : List ℕ) (n : ℕ) (rest : List ℕ) : Type 0 where
  pub text : bytes ≡ group_text n ++ rest
  pub small : n < 2 ^ 16

-- the first digit, and three more
rest_takes : (front : ℕ) (bytes : List ℕ) → 1 ≤ front → front < 16 →
    IsGroupAt (group_text front ++ bytes) ((rest_at front bytes).0) ((rest_at front bytes).1)
unfolding rest_at
rest_takes front bytes some small =
    let two = more_at front bytes in
    let three = more_at two.0 two.1 in
    let second : IsMoreAt front bytes two.0 two.1 = more_takes front bytes some (omega arith) in
    let below : two.0 < front * 16 + 16 = second.small in
    let third : IsMoreAt two.0 two.1 three.0 three.1 = more_takes two.0 two.1 second.some (omega arith) in
    let under : three.0 < two.0 * 16 + 16 = third.small in
    let last : IsMoreAt three.0 three.1 ((more_at three.0 three.1).0) ((more_at three.0 three.1).1) =
    more_takes three.0 three.1 third.some (omega arith) in
    record { text = second.text ∙ third.text ∙ last.text; small = omega (arith, last.small) }

digit_takes : (bytes : List ℕ) (digit : ℕ) (rest : List ℕ) → digit_at bytes ≡ Some (digit, rest) →
    (bytes ≡ digit_glyph false digit ∷ rest) × (digit < 16)
digit_takes [] digit rest is = absurd (none-some (digit, rest) is)
digit_takes (b ∷ bytes) digit rest is =
    let step = bind_some (hex_digit b) _ (digit, rest) is in
    let parts : (step.0 ≡ digit) × (bytes ≡ rest) = some_pair_parts step.0 digit bytes rest step.2 in
    let glyph : IsGlyph b digit = glyph_takes b digit (step.1 ∙ ap (λ (n : ℕ). Some n) parts.0) in
    (ap (λ (x : ℕ). x ∷ bytes) glyph.glyph ∙ ap (λ (r : List ℕ). digit_glyph false digit ∷ r) parts.1, glyph.small)

-- a digit alone is a group
digit_alone : (digit : ℕ) (rest : List ℕ) → digit < 16 → digit_glyph false digit ∷ rest ≡ group_text digit ++ rest
digit_alone digit rest small =
    let same : digit % 16 ≡ digit = omega arith in
    rw (one_digit digit small, same) refl

pub group_takes : (bytes : List ℕ) (n : ℕ) (rest : List ℕ) → group_at bytes ≡ Some (n, rest) → IsGroupAt bytes n rest
unfolding group_at
group_takes bytes n rest is =
    let step = bind_some (digit_at bytes) _ (n, rest) is in
    go step.0.0 step.0.1 (digit_takes bytes step.0.0 step.0.1 step.1) (step.0.0 == 0) refl step.2
  where
    go : (digit : ℕ) (left : List ℕ) → (bytes ≡ digit_glyph false digit ∷ left) × (digit < 16) →
        (t : Bool) → (digit == 0) ≡ t → cond t (Some (digit, left)) (Some (rest_at digit left)) ≡ Some (n, rest) →
        IsGroupAt bytes n rest
    go digit left at true none read =
        let parts : (digit ≡ n) × (left ≡ rest) = some_pair_parts digit n left rest read in
        let made : IsGroupAt bytes digit left =
        record { text = at.0 ∙ digit_alone digit left at.1; small = omega (arith, at.1) } in
        subst (λ (x : ℕ). IsGroupAt bytes x rest) parts.0
        (subst (λ (r : List ℕ). IsGroupAt bytes digit r) parts.1 made)
    go digit left at false some read =
        let one : 1 ≤ digit = grind (arith, some) in
        let below : digit < 16 = at.1 in
        let parts : ((rest_at digit left).0 ≡ n) × ((rest_at digit left).1 ≡ rest) =
        some_pair_parts ((rest_at digit left).0) n ((rest_at digit left).1) rest read in
        let whole : IsGroupAt (group_text digit ++ left) ((rest_at digit left).0) ((rest_at digit left).1) =
        rest_takes digit left one below in
        let made : IsGroupAt bytes ((rest_at digit left).0) ((rest_at digit left).1) =
        record { text = at.0 ∙ digit_alone digit left below ∙ whole.text; small = whole.small } in
        subst (λ (x : ℕ). IsGroupAt bytes x rest) parts.0
        (subst (λ (r : List ℕ). IsGroupAt bytes ((rest_at digit left).0) r) parts.1 made)

-- the first digit is read, and then the rest of them
begins : (digit : ℕ) (rest : List ℕ) → digit < 16 → 1 ≤ digit →
    group_at (digit_glyph false digit ∷ rest) ≡ Some (rest_at digit rest)
unfolding group_at
begins digit rest small some =
    let other : (digit == 0) ≡ false = grind arith in
    rw (glyph_again digit small, other) refl

-- three steps, one after the other
steps : (front : ℕ) (bytes : List ℕ) (one two three : ℕ × List ℕ) → more_at front bytes ≡ one →
    more_at one.0 one.1 ≡ two → more_at two.0 two.1 ≡ three → rest_at front bytes ≡ three
unfolding rest_at
steps front bytes one two three e1 e2 e3 =
    ap (λ (x : ℕ × List ℕ). more_at ((more_at x.0 x.1).0) ((more_at x.0 x.1).1)) e1
    ∙ ap (λ (x : ℕ × List ℕ). more_at x.0 x.1) e2
    ∙ e3

one_again : (n : ℕ) (rest : List ℕ) → n < 16 → HasNoHex rest → group_at (group_text n ++ rest) ≡ Some (n, rest)
unfolding group_at
one_again n rest small end =
    ap group_at (sym (digit_alone n rest small)) ∙ rw (glyph_again n small) (go (n == 0) refl)
  where
    go : (t : Bool) → (n == 0) ≡ t → cond (n == 0) (Some (n, rest)) (Some (rest_at n rest)) ≡ Some (n, rest)
    go true none = rw none refl
    go false some =
        rw some
        (ap (λ (x : ℕ × List ℕ). Some x)
        (steps n rest (n, rest) (n, rest) (n, rest) (more_stays n rest end) (more_stays n rest end)
        (more_stays n rest end)))

two_again : (n : ℕ) (rest : List ℕ) → 16 ≤ n → n < 256 → HasNoHex rest →
    group_at (group_text n ++ rest) ≡ Some (n, rest)
two_again n rest low high end =
    let first : n / 16 % 16 ≡ n / 16 = omega arith in
    let whole : n / 16 * 16 + n % 16 ≡ n = omega arith in
    let last : n % 16 < 16 = omega arith in
    ap (λ (t : List ℕ). group_at (t ++ rest)) (two_digits n low high)
    ∙ ap (λ (d : ℕ). group_at (digit_glyph false d ∷ digit_glyph false (n % 16) ∷ rest)) first
    ∙ begins (n / 16) (digit_glyph false (n % 16) ∷ rest) (omega arith) (omega arith)
    ∙ ap (λ (x : ℕ × List ℕ). Some x)
    (steps (n / 16) (digit_glyph false (n % 16) ∷ rest) (n, rest) (n, rest) (n, rest)
    (more_again (n / 16) (n % 16) rest last ∙ ap (λ (m : ℕ). (m, rest)) whole) (more_stays n rest end)
    (more_stays n rest end))

three_again : (n : ℕ) (rest : List ℕ) → 256 ≤ n → n < 4096 → HasNoHex rest →
    group_at (group_text n ++ rest) ≡ Some (n, rest)
three_again n rest low high end =
    let first : n / 256 % 16 ≡ n / 256 = omega arith in
    let upper : n / 256 * 16 + n / 16 % 16 ≡ n / 16 = omega arith in
    let whole : n / 16 * 16 + n % 16 ≡ n = omega arith in
    let middle : n / 16 % 16 < 16 = omega arith in
    let last : n % 16 < 16 = omega arith in
    let later : List ℕ = digit_glyph false (n % 16) ∷ rest in
    ap (λ (t : List ℕ). group_at (t ++ rest)) (three_digits n low high)
    ∙ ap (λ (d : ℕ). group_at
    (digit_glyph false d ∷ digit_glyph false (n / 16 % 16) ∷ digit_glyph false (n % 16) ∷ rest)) first
    ∙ begins (n / 256) (digit_glyph false (n / 16 % 16) ∷ later) (omega arith) (omega arith)
    ∙ ap (λ (x : ℕ × List ℕ). Some x)
    (steps (n / 256) (digit_glyph false (n / 16 % 16) ∷ later) (n / 16, later) (n, rest) (n, rest)
    (more_again (n / 256) (n / 16 % 16) later middle ∙ ap (λ (m : ℕ). (m, later)) upper)
    (more_again (n / 16) (n % 16) rest last ∙ ap (λ (m : ℕ). (m, rest)) whole)
    (more_stays n rest end))

four_again : (n : ℕ) (rest : List ℕ) → 4096 ≤ n → n < 2 ^ 16 → group_at (group_text n ++ rest) ≡ Some (n, rest)
four_again n rest low high =
    let top : n / 4096 * 16 + n / 256 % 16 ≡ n / 256 = omega arith in
    let upper : n / 256 * 16 + n / 16 % 16 ≡ n / 16 = omega arith in
    let whole : n / 16 * 16 + n % 16 ≡ n = omega arith in
    let second : n / 256 % 16 < 16 = omega arith in
    let middle : n / 16 % 16 < 16 = omega arith in
    let last : n % 16 < 16 = omega arith in
    let later : List ℕ = digit_glyph false (n % 16) ∷ rest in
    let more : List ℕ = digit_glyph false (n / 16 % 16) ∷ later in
    ap (λ (t : List ℕ). group_at (t ++ rest)) (four_digits n low high)
    ∙ begins (n / 4096) (digit_glyph false (n / 256 % 16) ∷ more) (omega arith) (omega arith)
    ∙ ap (λ (x : ℕ × List ℕ). Some x)
    (steps (n / 4096) (digit_glyph false (n / 256 % 16) ∷ more) (n / 256, more) (n / 16, later) (n, rest)
    (more_again (n / 4096) (n / 256 % 16) more second ∙ ap (λ (m : ℕ). (m, more)) top)
    (more_again (n / 256) (n / 16 % 16) later middle ∙ ap (λ (m : ℕ). (m, later)) upper)
    (more_again (n / 16) (n % 16) rest last ∙ ap (λ (m : ℕ). (m, rest)) whole))

-- a group's text is read as the group, where no hexadecimal digit stands behind it
pub group_again : (n : ℕ) (rest : List ℕ) → n < 2 ^ 16 → HasNoHex rest →
    group_at (group_text n ++ rest) ≡ Some (n, rest)
group_again n rest small end = go (nat_lt n 16) (nat_lt n 256) (nat_lt n 4096) refl refl refl
  where
    go : (a b c : Bool) → nat_lt n 16 ≡ a → nat_lt n 256 ≡ b → nat_lt n 4096 ≡ c →
        group_at (group_text n ++ rest) ≡ Some (n, rest)
    go true b c one two three = one_again n rest (grind (arith, one)) end
    go false true c one two three = two_again n rest (grind (arith, one)) (grind (arith, two)) end
    go false false true one two three = three_again n rest (grind (arith, two)) (grind (arith, three)) end
    go false false false one two three = four_again n rest (grind (arith, three)) small

-- Four groups.

-- the texts of four groups, with colons between
fours : (a b c d : ℕ) → List ℕ → List ℕ
fours a b c d rest = group_text a ++ (58 ∷ (group_text b ++ (58 ∷ (group_text c ++ (58 ∷ (group_text d ++ rest))))))

groups_regrouped : (n : ℕ) (rest : List ℕ) →
    groups_text n ++ rest ≡ fours (n / 2 ^ 48) (n / 2 ^ 32 % 2 ^ 16) (n / 2 ^ 16 % 2 ^ 16) (n % 2 ^ 16) rest
unfolding groups_text fours
groups_regrouped n rest = simp append_assoc

fours_again : (a b c d : ℕ) (rest : List ℕ) → a < 2 ^ 16 → b < 2 ^ 16 → c < 2 ^ 16 → d < 2 ^ 16 → HasNoHex rest →
    groups_at (fours a b c d rest) ≡ Some (a * 281474976710656 + b * 4294967296 + c * 65536 + d, rest)
unfolding groups_at fours
fours_again a b c d rest fa fb fc fd end =
    rw (
      group_again a (58 ∷ (group_text b ++ (58 ∷ (group_text c ++ (58 ∷ (group_text d ++ rest)))))) fa refl,
      group_again b (58 ∷ (group_text c ++ (58 ∷ (group_text d ++ rest)))) fb refl,
      group_again c (58 ∷ (group_text d ++ rest)) fc refl,
      group_again d rest fd end,
    ) refl

-- four groups' text is read as they are
pub groups_again : (n : ℕ) (rest : List ℕ) → n < 2 ^ 64 → HasNoHex rest →
    groups_at (groups_text n ++ rest) ≡ Some (n, rest)
groups_again n rest small end =
    let whole : n / 2 ^ 48 * 281474976710656 + n / 2 ^ 32 % 2 ^ 16 * 4294967296 + n / 2 ^ 16 % 2 ^ 16 * 65536 + n % 2
    ^ 16 ≡ n =
    omega arith in
    ap groups_at (groups_regrouped n rest)
    ∙ fours_again (n / 2 ^ 48) (n / 2 ^ 32 % 2 ^ 16) (n / 2 ^ 16 % 2 ^ 16) (n % 2 ^ 16) rest (omega arith) (omega arith)
    (omega arith) (omega arith) end
    ∙ ap (λ (m : ℕ). Some (m, rest)) whole

-- the bytes begin with four groups' text
pub record AreGroupsAt (bytes : List ℕ) (n : ℕ) (rest : List ℕ) : Type 0 where
  pub text : bytes ≡ groups_text n ++ rest
  pub small : n < 2 ^ 64

-- a group stands there, and behind it what was read then
record GroupThen {B : Type 0} (bytes : List ℕ) (f : ℕ × List ℕ → Option B) (y : B) : Type 0 where
  number : ℕ
  left : List ℕ
  text : bytes ≡ group_text number ++ left
  small : number < 2 ^ 16
  then : f (number, left) ≡ Some y

group_then : {B : Type 0} (bytes : List ℕ) (f : ℕ × List ℕ → Option B) (y : B) → (group_at bytes >>= f) ≡ Some y →
    GroupThen bytes f y
group_then bytes f y is =
    let step = bind_some (group_at bytes) f y is in
    let at : IsGroupAt bytes step.0.0 step.0.1 = group_takes bytes step.0.0 step.0.1 step.1 in
    record { number = step.0.0; left = step.0.1; text = at.text; small = at.small; then = step.2 }

-- texts put together
four_texts : (bytes r1 r2 r3 r4 r5 r6 r7 : List ℕ) (a b c d : ℕ) →
    bytes ≡ group_text a ++ r1 → r1 ≡ 58 ∷ r2 → r2 ≡ group_text b ++ r3 → r3 ≡ 58 ∷ r4 → r4 ≡ group_text c ++ r5 →
    r5 ≡ 58 ∷ r6 → r6 ≡ group_text d ++ r7 → bytes ≡ fours a b c d r7
unfolding fours
four_texts bytes r1 r2 r3 r4 r5 r6 r7 a b c d e1 e2 e3 e4 e5 e6 e7 =
    e1 ∙ ap (λ (r : List ℕ). group_text a ++ r) (e2 ∙ ap (λ (r : List ℕ). 58 ∷ r) (e3
    ∙ ap (λ (r : List ℕ). group_text b ++ r) (e4 ∙ ap (λ (r : List ℕ). 58 ∷ r) (e5
    ∙ ap (λ (r : List ℕ). group_text c ++ r) (e6 ∙ ap (λ (r : List ℕ). 58 ∷ r) e7)))))

-- four groups that are those of a word
fours_are : (n a b c d : ℕ) (rest : List ℕ) → a < 2 ^ 16 → b < 2 ^ 16 → c < 2 ^ 16 → d < 2 ^ 16 →
    a * 281474976710656 + b * 4294967296 + c * 65536 + d ≡ n → fours a b c d rest ≡ groups_text n ++ rest
fours_are n a b c d rest fa fb fc fd whole =
    let one : a ≡ n / 2 ^ 48 = omega arith in
    let two : b ≡ n / 2 ^ 32 % 2 ^ 16 = omega arith in
    let three : c ≡ n / 2 ^ 16 % 2 ^ 16 = omega arith in
    let four : d ≡ n % 2 ^ 16 = omega arith in
    ap (λ (m : ℕ). fours m b c d rest) one
    ∙ ap (λ (m : ℕ). fours (n / 2 ^ 48) m c d rest) two
    ∙ ap (λ (m : ℕ). fours (n / 2 ^ 48) (n / 2 ^ 32 % 2 ^ 16) m d rest) three
    ∙ ap (λ (m : ℕ). fours (n / 2 ^ 48) (n / 2 ^ 32 % 2 ^ 16) (n / 2 ^ 16 % 2 ^ 16) m rest) four
    ∙ sym (groups_regrouped n rest)

-- what is read as four groups is so
pub groups_takes : (bytes : List ℕ) (n : ℕ) (rest : List ℕ) → groups_at bytes ≡ Some (n, rest) →
    AreGroupsAt bytes n rest
unfolding groups_at
groups_takes bytes n rest is =
    let s1 = group_then bytes _ (n, rest) is in
    let s2 = text_then (codes ":") s1.left _ (n, rest) s1.then in
    let s3 = group_then s2.left _ (n, rest) s2.then in
    let s4 = text_then (codes ":") s3.left _ (n, rest) s3.then in
    let s5 = group_then s4.left _ (n, rest) s4.then in
    let s6 = text_then (codes ":") s5.left _ (n, rest) s5.then in
    let s7 = group_then s6.left _ (n, rest) s6.then in
    let parts : (s1.number * 281474976710656 + s3.number * 4294967296 + s5.number * 65536 + s7.number ≡ n)
    × (s7.left ≡ rest) = some_pair_parts _ n s7.left rest s7.then in
    let f1 : s1.number < 2 ^ 16 = s1.small in
    let f3 : s3.number < 2 ^ 16 = s3.small in
    let f5 : s5.number < 2 ^ 16 = s5.small in
    let f7 : s7.number < 2 ^ 16 = s7.small in
    record {
      text =
          four_texts bytes s1.left s2.left s3.left s4.left s5.left s6.left s7.left s1.number s3.number s5.number
          s7.number
          s1.text s2.at s3.text s4.at s5.text s6.at s7.text
          ∙ fours_are n s1.number s3.number s5.number s7.number s7.left f1 f3 f5 f7 parts.0
          ∙ ap (λ (r : List ℕ). groups_text n ++ r) parts.1;
      small = omega (arith, parts.0);
    }
