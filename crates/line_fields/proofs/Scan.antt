-- A machine of states that accepts lines, and the texts of the lines that it accepts.
use Rattle.std.proofs.Common.{◌≡◌, ℕ, suc, ◌+◌, ◌==◌, Bool, true, false, cond, List, [], ◌∷◌, ◌++◌, length, Option, Some, None, refl, sym, ap, ◌∙◌, append_assoc, append-nil, zero-add, length-append, subst, arith}
use Rattle.std.specs.Option.{option_map}
use Rattle.std.proofs.lemmas.Option.{none-some, some_pair_parts, same_Some}
use Rattle.std.proofs.lemmas.Bool.{eqb-true}
use Rattle.line_fields.specs.First.{first_lines}
use Rattle.line_fields.proofs.Feeds.{HasNoFeed, cut_once}

-- The first lines of a text.

-- over one line
first_over : (many : ℕ) (body text : List ℕ) → HasNoFeed body →
    first_lines (suc many) (body ++ (10 ∷ text)) ≡ option_map (λ front. body ++ (10 ∷ front)) (first_lines many text)
first_over many [] text none = refl
first_over many (b ∷ body) text none =
    ap (λ (t : Bool). option_map (λ front. b ∷ front)
    (cond t (first_lines many (body ++ (10 ∷ text))) (first_lines (suc many) (body ++ (10 ∷ text))))) none.0
    ∙ ap (λ (o : Option (List ℕ)). option_map (λ front. b ∷ front) o) (first_over many body text none.1)
    ∙ twice (first_lines many text)
  where
    twice : (o : Option (List ℕ)) →
        option_map (λ front. b ∷ front) (option_map (λ front. body ++ (10 ∷ front)) o)
        ≡ option_map (λ front. b ∷ (body ++ (10 ∷ front))) o
    twice (Some f) = refl
    twice None = refl

-- what the first line is
pub record IsFirstLine (text line : List ℕ) : Type 0 where
  pub body : List ℕ
  pub none : HasNoFeed body
  pub line_is : line ≡ body ++ (10 ∷ [])
  pub rest : List ℕ
  pub cut : text ≡ body ++ (10 ∷ rest)

mapped_some : {A B : Type 0} (g : A → B) (o : Option A) (y : B) → option_map g o ≡ Some y →
    (x : A) × (o ≡ Some x) × (g x ≡ y)
mapped_some g (Some x) y is = (x, refl, same_Some (g x) y is)
mapped_some g None y is = absurd (none-some y is)

mapped_twice : {A B C : Type 0} (g : B → C) (f : A → B) (o : Option A) →
    option_map g (option_map f o) ≡ option_map (λ x. g (f x)) o
mapped_twice g f (Some x) = refl
mapped_twice g f None = refl

mapped_same : {A : Type 0} (o : Option A) → o ≡ option_map (λ x. x) o
mapped_same (Some x) = refl
mapped_same None = refl

first_one : (text line : List ℕ) → first_lines 1 text ≡ Some line → IsFirstLine text line
first_one [] line is = absurd (none-some line is)
first_one (b ∷ text) line is = go (first_one text) (b == 10) refl
  where
    go : ((line : List ℕ) → first_lines 1 text ≡ Some line → IsFirstLine text line) →
        (t : Bool) → (b == 10) ≡ t → IsFirstLine (b ∷ text) line
    go later true feed =
        let whole : Some (b ∷ []) ≡ Some line = sym
        (ap (λ (t : Bool). option_map (λ front. b ∷ front) (cond t (Some []) (first_lines 1 text))) feed) ∙ is in
        let ten : b ≡ 10 = eqb-true b 10 feed in
        record {
          body = [];
          none = tt;
          line_is = sym (same_Some (b ∷ []) line whole) ∙ ap (λ (n : ℕ). n ∷ []) ten;
          rest = text;
          cut = ap (λ (n : ℕ). n ∷ text) ten;
        }
    go later false other =
        let whole : option_map (λ front. b ∷ front) (first_lines 1 text) ≡ Some line = sym
        (ap (λ (t : Bool). option_map (λ front. b ∷ front) (cond t (Some []) (first_lines 1 text))) other) ∙ is in
        let step = mapped_some (λ front. b ∷ front) (first_lines 1 text) line whole in
        let behind : IsFirstLine text step.0 = later step.0 step.1 in
        record {
          body = b ∷ behind.body;
          none = (other, behind.none);
          line_is = sym step.2 ∙ ap (λ (xs : List ℕ). b ∷ xs) behind.line_is;
          rest = behind.rest;
          cut = ap (λ (xs : List ℕ). b ∷ xs) behind.cut;
        }

-- one line feed, at the end
pub record IsCut (text : List ℕ) : Type 0 where
  pub body : List ℕ
  pub none : HasNoFeed body
  pub feed : text ≡ body ++ (10 ∷ [])

-- The machine.

module _ {S L : Type 0} (Next : S → L → S → Type 0) (Done : S → Type 0) (text : S → L → List ℕ)
    (read : S → List ℕ → Option (L × List ℕ)) where
  -- these lines lead from the one state to the other, and this is their text
  abbrev pub Spells : S → List L → S → List ℕ → Type 0
  Spells s [] t bytes = (s ≡ t) × (bytes ≡ [])
  Spells s (l ∷ ls) t bytes =
      (m : S) × (rest : List ℕ) × (Next s l m) × (bytes ≡ text s l ++ rest) × Spells m ls t rest

  -- a whole text, from this state on
  pub record Completes (s : S) : Type 0 where
    pub lines : List L
    pub last : S
    pub bytes : List ℕ
    pub spells : Spells s lines last bytes
    pub done_is : Done last

  -- a line that is accepted is read back and leads to one state, and a line has one line feed, at its end
  pub record IsMachine : Type 0 where
    pub again : (s : S) (l : L) (m : S) (rest : List ℕ) → Next s l m → read s (text s l ++ rest) ≡ Some (l, rest)
    pub cut : (s : S) (l : L) (m : S) → Next s l m → IsCut (text s l)
    pub one : (s : S) (l : L) (m n : S) → Next s l m → Next s l n → m ≡ n

  module _ (machine : IsMachine) where
    -- the text of an accepted line is not empty
    some_text : (s : S) (l : L) (m : S) (rest : List ℕ) → Next s l m → [] ≡ text s l ++ rest → ⊥
    some_text s l m rest step is =
        let whole : [] ≡ ((machine.cut s l m step).body ++ (10 ∷ [])) ++ rest =
        is ∙ ap (λ (t : List ℕ). t ++ rest) ((machine.cut s l m step).feed) in
        omega (
          arith,
          ap length whole,
          length-append ((machine.cut s l m step).body ++ (10 ∷ [])) rest,
          length-append ((machine.cut s l m step).body) (10 ∷ []),
        )

    -- a text is one line, and then others, in one way
    one_way : (s : S) (l k : L) (m n : S) (x y : List ℕ) → Next s l m → Next s k n →
        text s l ++ x ≡ text s k ++ y → (l ≡ k) × (x ≡ y)
    one_way s l k m n x y one other is =
        some_pair_parts l k x y
        (sym (machine.again s l m x one) ∙ ap (read s) is ∙ machine.again s k n y other)

    -- lines that spell the front of what other lines spell are the front of these
    pub front_same : (ls : List L) (s t : S) (front : List ℕ) → Spells s ls t front →
        (ks : List L) (u : S) (more : List ℕ) → Spells s ks u (front ++ more) →
        (later : List L) × Spells t later u more
    front_same [] s t front spells ks u more all = (
      ks,
      subst (λ (x : S). Spells x ks u more) spells.0
          (subst (λ (b : List ℕ). Spells s ks u (b ++ more)) spells.1 all),
    )
    front_same (l ∷ ls) s t front (m, rest, step, is, spells) [] u more all =
        absurd (some_text s l m (rest ++ more) step
        (sym all.1 ∙ ap (λ (b : List ℕ). b ++ more) is ∙ append_assoc (text s l) rest more))
    front_same (l ∷ ls) s t front (m, rest, step, is, spells) (k ∷ ks) u more (n, behind, other, cut, all) =
        let same : (l ≡ k) × (rest ++ more ≡ behind) =
        one_way s l k m n (rest ++ more) behind step other
        (sym (append_assoc (text s l) rest more) ∙ ap (λ (b : List ℕ). b ++ more) (sym is) ∙ cut) in
        let states : m ≡ n = machine.one s l m n step (subst (λ (x : L). Next s x n) (sym same.0) other) in
        front_same ls m t rest spells ks u more
        (subst (λ (x : S). Spells x ks u (rest ++ more)) (sym states)
        (subst (λ (b : List ℕ). Spells n ks u b) (sym same.1) all))

    -- two whole texts that are one are of the same lines
    pub lines_same : (ls ks : List L) (s t u : S) (bytes : List ℕ) → Spells s ls t bytes → Spells s ks u bytes →
        Done t → Done u → ls ≡ ks
    lines_same [] [] s t u bytes one other a b = refl
    lines_same [] (k ∷ ks) s t u bytes one (n, behind, step, cut, all) a b =
        absurd (some_text s k n behind step (sym one.1 ∙ cut))
    lines_same (l ∷ ls) [] s t u bytes (m, rest, step, is, spells) other a b =
        absurd (some_text s l m rest step (sym other.1 ∙ is))
    lines_same (l ∷ ls) (k ∷ ks) s t u bytes (m, rest, step, is, spells) (n, behind, other, cut, all) a b =
        let same : (l ≡ k) × (rest ≡ behind) = one_way s l k m n rest behind step other (sym is ∙ cut) in
        let states : m ≡ n = machine.one s l m n step (subst (λ (x : L). Next s x n) (sym same.0) other) in
        let later : ls ≡ ks =
        lines_same ls ks m t u rest spells
        (subst (λ (x : S). Spells x ks u rest) (sym states)
        (subst (λ (r : List ℕ). Spells n ks u r) (sym same.1) all)) a b in
        ap (λ (x : L). x ∷ ls) same.0 ∙ ap (λ (xs : List L). k ∷ xs) later

    -- the first lines of a text that begins with lines that were accepted
    first_behind : (ls : List L) (s t : S) (front : List ℕ) → Spells s ls t front → (many : ℕ) (bytes : List ℕ) →
        first_lines (length ls + many) (front ++ bytes) ≡ option_map (λ f. front ++ f) (first_lines many bytes)
    first_behind [] s t front spells many bytes =
        let P : List ℕ → Type 0 = λ b. first_lines (0 + many) (b ++ bytes) ≡ option_map (λ f. b ++ f)
        (first_lines many bytes) in
        subst P (sym spells.1)
        (ap (λ (n : ℕ). first_lines n bytes) (zero-add many) ∙ mapped_same (first_lines many bytes))
    first_behind (l ∷ ls) s t front (m, rest, step, is, spells) many bytes =
        let line_is : text s l ≡ (machine.cut s l m step).body ++ (10 ∷ []) = (machine.cut s l m step).feed in
        let front_is : front ≡ (machine.cut s l m step).body ++ (10 ∷ rest) =
        is ∙ ap (λ (b : List ℕ). b ++ rest) line_is ∙ append_assoc ((machine.cut s l m step).body) (10 ∷ []) rest in
        let count : suc (length ls) + many ≡ suc (length ls + many) = omega arith in
        let P : List ℕ → Type 0 = λ b. first_lines (suc (length ls) + many) (b ++ bytes) ≡ option_map (λ f. b ++ f)
        (first_lines many bytes) in
        subst P (sym front_is)
        (ap (λ (n : ℕ). first_lines n (((machine.cut s l m step).body ++ (10 ∷ rest)) ++ bytes)) count
        ∙ ap (λ (b : List ℕ). first_lines (suc (length ls + many)) b)
        (append_assoc ((machine.cut s l m step).body) (10 ∷ rest) bytes)
        ∙ first_over (length ls + many) ((machine.cut s l m step).body) (rest ++ bytes) ((machine.cut s l m step).none)
        ∙ ap (λ (o : Option (List ℕ)). option_map (λ f. (machine.cut s l m step).body ++ (10 ∷ f)) o)
        (first_behind ls m t rest spells many bytes)
        ∙ mapped_twice (λ f. (machine.cut s l m step).body ++ (10 ∷ f)) (λ f. rest ++ f) (first_lines many bytes)
        ∙ regroup ((machine.cut s l m step).body) rest (first_lines many bytes))
      where
        regroup : (body rest : List ℕ) (o : Option (List ℕ)) →
            option_map (λ f. body ++ (10 ∷ (rest ++ f))) o ≡ option_map (λ f. (body ++ (10 ∷ rest)) ++ f) o
        regroup body rest (Some f) = ap (λ (b : List ℕ). Some b) (sym (append_assoc body (10 ∷ rest) f))
        regroup body rest None = refl

    -- some whole text begins with the first so many lines, which are there
    pub record AreBegun (s : S) (bytes : List ℕ) (many : ℕ) : Type 0 where
      pub front : List ℕ
      pub there : first_lines many bytes ≡ Some front
      pub lines : List L
      pub last : S
      pub whole : List ℕ
      pub spells : Spells s lines last whole
      pub done_is : Done last
      pub rest : List ℕ
      pub begins : whole ≡ front ++ rest

    -- where lines were accepted and then none stands, no whole text begins with one line more
    pub stuck_is_bad : (ls : List L) (s t : S) (front bytes : List ℕ) → Spells s ls t front →
        ((l : L) (m : S) (rest : List ℕ) → Next t l m → bytes ≡ text t l ++ rest → ⊥) →
        AreBegun s (front ++ bytes) (length ls + 1) → ⊥
    stuck_is_bad ls s t front bytes spells stuck begun =
        let found = mapped_some (λ f. front ++ f) (first_lines 1 bytes) begun.front
        (sym (first_behind ls s t front spells 1 bytes) ∙ begun.there) in
        let line : IsFirstLine bytes found.0 = first_one bytes found.0 found.1 in
        let whole_is : begun.whole ≡ front ++ (found.0 ++ begun.rest) =
        begun.begins ∙ ap (λ (f : List ℕ). f ++ begun.rest) (sym found.2) ∙ append_assoc front found.0 begun.rest in
        let later = front_same ls s t front spells begun.lines begun.last (found.0 ++ begun.rest)
        (subst (λ (b : List ℕ). Spells s begun.lines begun.last b) whole_is begun.spells) in
        go found.0 begun.last begun.rest line later.0 later.1
      where
        go : (line : List ℕ) (last : S) (more : List ℕ) → IsFirstLine bytes line → (ks : List L) →
            Spells t ks last (line ++ more) → ⊥
        go line last more first [] spelled =
            let none : (first.body ++ (10 ∷ [])) ++ more ≡ [] =
            ap (λ (b : List ℕ). b ++ more) (sym first.line_is) ∙ spelled.1 in
            omega (
              arith,
              ap length none,
              length-append (first.body ++ (10 ∷ [])) more,
              length-append first.body (10 ∷ []),
            )
        go line last more first (k ∷ ks) (n, behind, step, cut, all) =
            let both : first.body ++ (10 ∷ more) ≡ (machine.cut t k n step).body ++ (10 ∷ behind) =
            sym (append_assoc first.body (10 ∷ []) more)
            ∙ ap (λ (b : List ℕ). b ++ more) (sym first.line_is)
            ∙ cut
            ∙ ap (λ (b : List ℕ). b ++ behind) ((machine.cut t k n step).feed)
            ∙ append_assoc ((machine.cut t k n step).body) (10 ∷ []) behind in
            let same : (first.body ≡ (machine.cut t k n step).body) × (more ≡ behind) =
            cut_once first.body ((machine.cut t k n step).body) more behind first.none ((machine.cut t k n step).none)
            both in
            stuck k n first.rest step
            (first.cut ∙ ap (λ (b : List ℕ). b ++ (10 ∷ first.rest)) same.0
            ∙ sym (append_assoc ((machine.cut t k n step).body) (10 ∷ []) first.rest)
            ∙ ap (λ (b : List ℕ). b ++ first.rest) (sym ((machine.cut t k n step).feed)))

    -- and no whole text is what they begin
    pub stuck_is_none : (ls : List L) (s t : S) (front bytes : List ℕ) → Spells s ls t front →
        ((l : L) (m : S) (rest : List ℕ) → Next t l m → bytes ≡ text t l ++ rest → ⊥) →
        (bytes ≡ [] → Done t → ⊥) →
        (ks : List L) (u : S) → Spells s ks u (front ++ bytes) → Done u → ⊥
    stuck_is_none ls s t front bytes spells stuck unended ks u all done_is =
        let later = front_same ls s t front spells ks u bytes all in
        go later.0 later.1
      where
        go : (ks : List L) → Spells t ks u bytes → ⊥
        go [] spelled = unended spelled.1 (subst Done (sym spelled.0) done_is)
        go (k ∷ ks) (n, behind, step, cut, all) = stuck k n behind step cut

    pub spells_append : (ls ks : List L) (s t u : S) (front more : List ℕ) → Spells s ls t front → Spells t ks u more →
        Spells s (ls ++ ks) u (front ++ more)
    spells_append [] ks s t u front more one other =
        subst (λ (x : S). Spells x ks u (front ++ more)) (sym one.0)
        (subst (λ (b : List ℕ). Spells t ks u (b ++ more)) (sym one.1) other)
    spells_append (l ∷ ls) ks s t u front more (m, rest, step, is, spells) other = (
      m,
      rest ++ more,
      step,
      ap (λ (b : List ℕ). b ++ more) is ∙ append_assoc (text s l) rest more,
      spells_append ls ks m t u rest more spells other,
    )

    -- accepted lines are begun, where they can be completed
    pub begun_here : (ls : List L) (s t : S) (front bytes : List ℕ) → Spells s ls t front → Completes t →
        AreBegun s (front ++ bytes) (length ls + 0)
    begun_here ls s t front bytes spells end =
        record {
          front = front ++ [];
          there = first_behind ls s t front spells 0 bytes;
          lines = ls ++ end.lines;
          last = end.last;
          whole = front ++ end.bytes;
          spells = spells_append ls end.lines s t end.last front end.bytes spells end.spells;
          done_is = end.done_is;
          rest = end.bytes;
          begins = ap (λ (b : List ℕ). b ++ end.bytes) (sym (append-nil front));
        }
