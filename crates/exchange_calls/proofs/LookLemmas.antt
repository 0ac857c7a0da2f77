-- A look, step by step.
use Rattle.std.proofs.Common.{◌≡◌, ℕ, suc, zero, ◌+◌, ◌*◌, ◌<◌, ◌≤◌, Bool, true, false, cond, List, [], ◌∷◌, ◌++◌, length, get_or, Option, Some, None, refl, sym, ap, ◌∙◌, arith}
use Rattle.std.proofs.lemmas.Bool.{cond-true, cond-false, lt-ltb}
use Rattle.std.proofs.lemmas.Bool.Decides.{nat_tests}
use Rattle.std.proofs.lemmas.List.{length-append}
use Rattle.std.specs.Prelude.{nat_lt, ◌==◌, if◌then◌else◌, ◌&&◌, not}
use Rattle.std.specs.Option.{option_map_or}
use Rattle.bucket_states.proofs.AnswerLemmas.{lt_false}
use Rattle.bucket_states.specs.Items.{number_at, reply_in, same_key, value_at}
use Rattle.step_counts.specs.declared.TheConstants.{ITEM_WORDS}
use Rattle.plain_map.specs.Keys.{Session, held_in}
use Rattle.plain_map.specs.PlainObject.{found_in}
use Rattle.plain_map.specs.declared.calls.Call.TheVariants.{Lookup}
use Rattle.plain_map.specs.declared.calls.Reply.TheVariants.{Absent, Found}
use Rattle.plain_map.specs.declared.keys.Key.{Key}
use Rattle.plain_map.specs.declared.keys.Pair.{Pair}
use Rattle.plain_map.specs.declared.rules.Rules.{Rules}
use Rattle.exchange_model.specs.Plans.{more}
use Rattle.exchange_model.specs.Codes.{item_place, loaded_place, pair_in}
use Rattle.exchange_model.specs.Words.{RowWord, place}
use Rattle.exchange_model.specs.Steps.{Aim, OfKey, Glance, GlanceItem, GlanceWord, GlanceWant, Glances, Idle, Pass, Source, glance_deed, row_of_source}
use Rattle.exchange_model.specs.Goes.{Again, Disturbed, GlanceFate, Looks, Shows, glance_fate, gone_through, may_be, passed, pass_fate, pass_on, pass_pair, time_after, with_pair}
use Rattle.exchange_model.specs.Worlds.{look_after}
use Rattle.exchange_calls.specs.Going.{Going, Reads, after_glance, goes, goes_by, numbered, on, task, with_now}
use Rattle.exchange_calls.specs.Going.Task.{Load}
use Rattle.exchange_calls.specs.Items.{IsItem, looking}
use Rattle.exchange_calls.proofs.RunLemmas.{Leads, leads_goes, leads_reads, length-more}

-- more than none
not_none : (n : ℕ) → 0 < n → (n == 0) ≡ false
not_none n some = grind (arith, nat_tests)

-- a step that is not the asking
abbrev pub IsPlain : Glance → Type 0
IsPlain glance = (time : ℕ) → time_after time glance ≡ time

module _ (f : Going) (aim : Aim) (glance : Glance) (plain : IsPlain glance) where
  -- it only leads on
  after_is : (next : GlanceFate) → after_glance (on f (Glances aim glance)) aim glance next ≡ looking f aim next
  after_is (Looks one) = λ i. record (looking f aim (Looks one)) {
    now = record ((looking f aim (Looks one)).now) { time = plain f.now.time i };
  }
  after_is (Shows items) = refl
  after_is Disturbed = refl

  -- so the look goes on from any of its states
  pub look_goes : (now next : Going) (word : ℕ) → now ≡ looking f aim (Looks glance) → next ≡ goes now word →
      next ≡ looking f aim (glance_fate f.plan f.now.time aim glance word)
  look_goes now next word at step =
      step ∙ ap (λ (g : Going). goes g word) at
      ∙ after_is (glance_fate f.plan f.now.time aim glance word)

-- what it asks for
pub look_asks : (f now : Going) (aim : Aim) (glance : Glance) → now ≡ looking f aim (Looks glance) →
    task now ≡ numbered f.plan (glance_deed f.plan f.seat f.now.time aim glance)
look_asks f now aim glance at = ap task at

-- a state that looks
pub looks_at : (g : Going) (aim : Aim) (glance : Glance) → g.now.stand ≡ Glances aim glance →
    g ≡ looking g aim (Looks glance)
looks_at g aim glance at = ap (on g) at

-- a look goes on from where it has come to
pub looking_on : (f : Going) (aim : Aim) (glance : Glance) (next : GlanceFate) →
    looking (looking f aim (Looks glance)) aim next ≡ looking f aim next
looking_on f aim glance (Looks one) = refl
looking_on f aim glance (Shows items) = refl
looking_on f aim glance Disturbed = refl

-- ---- the words of an item

module _ (f : Going) (aim : Aim) (source : Source) (scan : Pass) where
  -- with these words of it
  abbrev pub part_of : List ℕ → Pass
  part_of words = record scan { part = words }

  -- where they lead
  abbrev pub part_fate : List ℕ → GlanceFate
  part_fate words =
      if nat_lt (length words) ITEM_WORDS then Looks (GlanceItem source (part_of words))
      else pass_pair source aim scan (pair_in words)

  abbrev pub part_family : List ℕ → Going
  part_family words = looking f aim (part_fate words)

  short_part : (words : List ℕ) → length words < ITEM_WORDS →
      part_fate words ≡ Looks (GlanceItem source (part_of words))
  short_part words h = cond-true (nat_lt (length words) ITEM_WORDS) _ _ (lt-ltb _ _ h)

  -- one word more
  part_more : (words : List ℕ) (word : ℕ) → 0 < length words → length words < ITEM_WORDS →
      pass_fate source aim (part_of words) word ≡ part_fate (words ++ word ∷ [])
  part_more words word some h =
      let later : (length words == 0) ≡ false = not_none (length words) some in
      ap (λ (b : Bool). if b && not (may_be aim word) then pass_on source (passed (part_of words))
      else (if nat_lt (length words + 1) ITEM_WORDS
      then Looks (GlanceItem source (record (part_of words) { part = more words word }))
      else pass_pair source aim (part_of words) (pair_in (more words word)))) later
      ∙ ap (λ (m : ℕ). if nat_lt m ITEM_WORDS then Looks (GlanceItem source (part_of (more words word)))
      else pass_pair source aim scan (pair_in (more words word))) (sym (length-more words word))

  part_next : (words : List ℕ) (word : ℕ) → 0 < length words → length words < ITEM_WORDS →
      goes (part_family words) word ≡ part_family (words ++ word ∷ [])
  part_next words word some h =
      look_goes f aim (GlanceItem source (part_of words)) (λ t. refl) (part_family words) _ word
      (ap (looking f aim) (short_part words h)) refl
      ∙ ap (looking f aim) (part_more words word some h)

  -- the words of an item, from some of them on
  pub part_leads : (was : List ℕ) (start n : ℕ) → 0 < length was → length was + n ≤ ITEM_WORDS →
      ((i : ℕ) → i < n → place f.plan (RowWord (row_of_source f.plan source) (item_place scan.item
      (length was + i))) ≡ start + i) → Leads part_family was start n
  part_leads was start n some room at = record {
    asked = λ words h.
        let long = length-append was words in
        look_asks f (part_family (was ++ words)) aim (GlanceItem source (part_of (was ++ words)))
        (ap (looking f aim) (short_part (was ++ words) (omega (arith, long, room, h))))
        ∙ ap (λ (k : ℕ). Load (place f.plan (RowWord (row_of_source f.plan source) (item_place scan.item k))))
        long
        ∙ ap Load (at (length words) h);
    next = λ words word h.
        let long = length-append was words in
        part_next (was ++ words) word (omega (arith, long, some)) (omega (arith, long, room, h));
  }

-- the pair that the words of an item spell
pub pair_of_parts : (word : ℕ) (a b : List ℕ) → length a ≡ 4 → length b ≡ 2 →
    pair_in (word ∷ [] ++ a ++ b) ≡ record {
      key = record { k0 = get_or a 0 0; k1 = get_or a 1 0; k2 = get_or a 2 0; k3 = get_or a 3 0; k4 = word };
      value = get_or b 0 0;
      bytes = get_or b 1 0;
    }
pair_of_parts word (a0 ∷ a1 ∷ a2 ∷ a3 ∷ []) (b0 ∷ b1 ∷ []) ha hb = refl
pair_of_parts word (a0 ∷ a1 ∷ a2 ∷ a3 ∷ []) [] ha hb = absurd (omega (arith, hb))
pair_of_parts word (a0 ∷ a1 ∷ a2 ∷ a3 ∷ []) (b0 ∷ []) ha hb = absurd (omega (arith, hb))
pair_of_parts word (a0 ∷ a1 ∷ a2 ∷ a3 ∷ []) (b0 ∷ b1 ∷ b2 ∷ bs) ha hb = absurd (omega (arith, hb))
pair_of_parts word (a0 ∷ a1 ∷ a2 ∷ a3 ∷ a4 ∷ as_) b ha hb = absurd (omega (arith, ha))
pair_of_parts word (a0 ∷ a1 ∷ a2 ∷ []) b ha hb = absurd (omega (arith, ha))
pair_of_parts word (a0 ∷ a1 ∷ []) b ha hb = absurd (omega (arith, ha))
pair_of_parts word (a0 ∷ []) b ha hb = absurd (omega (arith, ha))
pair_of_parts word [] b ha hb = absurd (omega (arith, ha))

-- ---- items that are gone through

-- the first word of an item rules it out
pub goes_past : (source : Source) (key : Key) (scan : Pass) (word : ℕ) → scan.part ≡ [] → (word == key.k4) ≡ false →
    pass_fate source (OfKey key) scan word ≡ pass_on source (passed scan)
goes_past source key scan word none other =
    (λ i. if (length (none i) == 0) && not (other i) then pass_on source (passed scan)
    else (if nat_lt (length scan.part + 1) ITEM_WORDS
    then Looks (GlanceItem source (record scan { part = more scan.part word }))
    else pass_pair source (OfKey key) scan (pair_in (more scan.part word))))

-- or does not
pub goes_into : (source : Source) (aim : Aim) (scan : Pass) (word : ℕ) → scan.part ≡ [] → may_be aim word ≡ true →
    pass_fate source aim scan word ≡ Looks (GlanceItem source (record scan { part = word ∷ [] }))
goes_into source aim scan word none same =
    (λ i. if (length (none i) == 0) && not (same i) then pass_on source (passed scan)
    else (if nat_lt (length (none i) + 1) ITEM_WORDS
    then Looks (GlanceItem source (record scan { part = more (none i) word }))
    else pass_pair source aim scan (pair_in (more (none i) word))))

-- a whole item is the one, or not
pub is_it : (source : Source) (key : Key) (scan : Pass) (pair : Pair) → same_key pair.key key ≡ true →
    pass_pair source (OfKey key) scan pair ≡ gone_through source (more scan.kept pair)
is_it source key scan pair same = cond-true (same_key pair.key key) _ _ same

pub is_not_it : (source : Source) (key : Key) (scan : Pass) (pair : Pair) → same_key pair.key key ≡ false →
    pass_pair source (OfKey key) scan pair ≡ pass_on source (with_pair scan pair)
is_not_it source key scan pair other = cond-false (same_key pair.key key) _ _ other

-- the next item
pub next_item : (source : Source) (scan : Pass) → scan.item < scan.count →
    pass_on source scan ≡ Looks (GlanceItem source scan)
next_item source scan h = cond-true (nat_lt scan.item scan.count) _ _ (lt-ltb _ _ h)

pub no_item : (source : Source) (scan : Pass) → scan.count ≤ scan.item →
    pass_on source scan ≡ gone_through source scan.kept
no_item source scan h = cond-false (nat_lt scan.item scan.count) _ _ (lt_false _ _ h)

-- ---- a key among the pairs that were kept

-- by whether the first pair has it
by_first : (b : Bool) (held : Session) (rest more_ : Option Session) → cond b (Some held) rest ≡ None →
    (rest ≡ None → more_ ≡ cond b (Some held) more_)
by_first true held rest more_ none e = cc
by_first false held rest more_ none e = refl

none_first : (b : Bool) (held : Session) (rest : Option Session) → cond b (Some held) rest ≡ None → b ≡ false
none_first true held rest none = cc
none_first false held rest none = refl

-- one pair more
pub value_at-more : (key : Key) (pairs : List Pair) (pair : Pair) → value_at key pairs ≡ None →
    value_at key (pairs ++ pair ∷ []) ≡ cond (same_key pair.key key) (Some (held_in pair)) None
value_at-more key [] pair none = refl
value_at-more key (p ∷ ps) pair none =
    let b = same_key p.key key in
    let other : b ≡ false = none_first b (held_in p) (value_at key ps) none in
    let rest : value_at key ps ≡ None = sym (cond-false b (Some (held_in p)) (value_at key ps) other) ∙ none in
    cond-false b (Some (held_in p)) (value_at key (ps ++ pair ∷ [])) other ∙ value_at-more key ps pair rest

-- it is found
pub found_last : (key : Key) (pairs : List Pair) (pair : Pair) → value_at key pairs ≡ None →
    same_key pair.key key ≡ true → Some pair.value ≡ number_at key (pairs ++ pair ∷ [])
found_last key pairs pair none same =
    sym (ap (λ (held : Option Session). option_map_or (λ s. Some s.value) held None)
    (value_at-more key pairs pair none ∙ cond-true (same_key pair.key key) (Some (held_in pair)) None same))

-- it is not
pub absent_still : (key : Key) (pairs : List Pair) (pair : Pair) → value_at key pairs ≡ None →
    same_key pair.key key ≡ false → value_at key (pairs ++ pair ∷ []) ≡ None
absent_still key pairs pair none other =
    value_at-more key pairs pair none ∙ cond-false (same_key pair.key key) (Some (held_in pair)) None other

-- nothing is found where it is not
pub found_none : (key : Key) (pairs : List Pair) → value_at key pairs ≡ None → None ≡ number_at key pairs
found_none key pairs none =
    sym (ap (λ (held : Option Session). option_map_or (λ s. Some s.value) held None) none)

-- a lookup tells the session number alone
found_by_number : (held : Option Session) →
    option_map_or found_in held Absent ≡ option_map_or Found (option_map_or (λ s. Some s.value) held None) Absent
found_by_number (Some session) = refl
found_by_number None = refl

pub looked_up : (rules : Rules) (key : Key) (pairs : List Pair) →
    reply_in rules pairs (Lookup key) ≡ option_map_or Found (number_at key pairs) Absent
unfolding reply_in
looked_up rules key pairs = found_by_number (value_at key pairs)

-- ---- no try is left

pub seat_asks : (f : Going) (aim : Aim) → f.holds ≡ true → looking f aim Disturbed ≡ on f (Glances aim GlanceWant)
seat_asks f aim holds = λ i. with_now f
    (if holds i then look_after f.now aim (GlanceWord 0) Disturbed else record f.now { stand = Idle })
    (if holds i then f.told else Some Again)

pub reader_ends : (f : Going) (aim : Aim) → f.holds ≡ false →
    looking f aim Disturbed ≡ record f { now = record f.now { stand = Idle }; told = Some Again }
reader_ends f aim holds = λ i. with_now f
    (if holds i then look_after f.now aim (GlanceWord 0) Disturbed else record f.now { stand = Idle })
    (if holds i then f.told else Some Again)

-- ---- the words of an item, loaded

loaded_low : (i : ℕ) → i < 4 → loaded_place (1 + i) ≡ i
loaded_low zero h = refl
loaded_low (suc zero) h = refl
loaded_low (suc (suc zero)) h = refl
loaded_low (suc (suc (suc zero))) h = refl
loaded_low (suc (suc (suc (suc i)))) h = absurd (omega (arith, h))

loaded_high : (i : ℕ) → i < 2 → loaded_place (5 + i) ≡ 5 + i
loaded_high zero h = refl
loaded_high (suc zero) h = refl
loaded_high (suc (suc i)) h = absurd (omega (arith, h))

module _ (g : Going) (at word : ℕ) (item : IsItem g at word) where
  abbrev family : List ℕ → Going
  family = part_family g item.aim item.source item.scan

  -- the first of its words is loaded
  item_starts : g ≡ family (word ∷ [])
  item_starts =
      looks_at g item.aim (GlanceItem item.source (part_of g item.aim item.source item.scan (word ∷ []))) item.stand
      ∙ ap (looking g item.aim) (sym (short_part g item.aim item.source item.scan (word ∷ []) (omega arith)))

  place_of : (j k : ℕ) → loaded_place j ≡ k →
      place g.plan (RowWord (row_of_source g.plan item.source) (item_place item.scan.item j)) ≡ at + k
  place_of j k is =
      ap (λ (m : ℕ). place g.plan (RowWord (row_of_source g.plan item.source) (1
      + (ITEM_WORDS * item.scan.item + m)))) is
      ∙ omega (arith, item.place_is)

  leads_first : Leads family (word ∷ []) at 4
  leads_first = part_leads g item.aim item.source item.scan (word ∷ []) at 4 (omega arith) (omega arith)
      (λ i h. place_of (1 + i) i (loaded_low i h))

  -- four follow
  pub item_reads : Reads g at 4
  item_reads = leads_reads family (word ∷ []) at 4 leads_first g item_starts

  module _ (a : List ℕ) (four : length a ≡ 4) where
    abbrev so_far : List ℕ
    so_far = word ∷ [] ++ a

    five : length so_far ≡ 5
    five = omega (arith, length-append (word ∷ []) a, four)

    leads_last : Leads family so_far (at + 5) 2
    leads_last = part_leads g item.aim item.source item.scan so_far (at + 5) 2 (omega (arith, five))
        (omega (arith, five))
        (λ i h. ap (λ (n : ℕ). place g.plan (RowWord (row_of_source g.plan item.source)
        (item_place item.scan.item (n + i)))) five
        ∙ place_of (5 + i) (5 + i) (loaded_high i h) ∙ omega arith)

    module _ (mid : Going) (goes_first : mid ≡ goes_by g a) where
      mid_is : mid ≡ family so_far
      mid_is = leads_goes family (word ∷ []) at 4 leads_first g mid a item_starts four goes_first

      -- and two more
      pub item_reads_on : Reads mid (at + 5) 2
      item_reads_on = leads_reads family so_far (at + 5) 2 leads_last mid mid_is

      -- then the item is looked at
      pub item_loaded : (end : Going) (b : List ℕ) → length b ≡ 2 → end ≡ goes_by mid b →
          end ≡ looking g item.aim (pass_pair item.source item.aim item.scan (record {
            key = record { k0 = get_or a 0 0; k1 = get_or a 1 0; k2 = get_or a 2 0; k3 = get_or a 3 0; k4 = word };
            value = get_or b 0 0;
            bytes = get_or b 1 0;
          }))
      item_loaded end b two goes_last =
          let all = so_far ++ b in
          let seven : length all ≡ 7 = omega (arith, length-append so_far b, five, two) in
          leads_goes family so_far (at + 5) 2 leads_last mid end b mid_is two goes_last
          ∙ ap (looking g item.aim) (cond-false (nat_lt (length all) ITEM_WORDS)
          (Looks (GlanceItem item.source (part_of g item.aim item.source item.scan all)))
          (pass_pair item.source item.aim item.scan (pair_in all))
          (lt_false (length all) ITEM_WORDS (omega (arith, seven))))
          ∙ ap (λ (p : Pair). looking g item.aim (pass_pair item.source item.aim item.scan p))
          (pair_of_parts word a b four two)
