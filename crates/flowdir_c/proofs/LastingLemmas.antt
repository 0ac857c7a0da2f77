-- The sizes of a lasting table.
use Rattle.std.proofs.Common.{◌≡◌, ℕ, zero, suc, ◌+◌, ◌*◌, ◌^◌, ◌<◌, ◌≤◌, List, [], ◌∷◌, ◌++◌, length, map, take, drop, set, get_or, ◌⊎◌, inl, inr, refl, sym, ap, ◌∙◌, subst, arith}
use Rattle.std.specs.Prelude.{All, Some}
use Rattle.std.proofs.lemmas.Grind.{take-set_at}
use Rattle.std.proofs.lemmas.List.{take_more}
use Rattle.std.proofs.lemmas.List.Elements.{All-cons, All-nil}
use Rattle.std.proofs.lemmas.Nat.{mul-le}
use Rattle.hash_bits.specs.declared.hashing.Hashing.TheVariants.{Mix}
use Rattle.step_counts.specs.declared.settings.Settings.{Settings}
use Rattle.step_counts.specs.declared.settings.TheConstants.{MOST_DEPTH, MOST_ITEMS, MOST_SEATS}
use Rattle.step_counts.specs.Ranges.{IsWithin}
use Rattle.lasting_model.specs.Plans.{MOST_UPDATES, least_rows}
use Rattle.lasting_model.specs.Words.{most_words, word_count}
use Rattle.lasting_table.specs.Tables.{new_seats}
use Rattle.lasting_table.specs.Values.{Answers, IsPartyOf, IsSame, TableValue, answered_updates, asked_times, new_seat}
use Rattle.lasting_table.proofs.Seated.{most_is}
use Rattle.std.proofs.Math.Pow.{pow_mono}
use Rattle.std.proofs.Math.Seq.{split_at}
use Rattle.plain_map.specs.Keys.{no_pair}
use Rattle.plain_map.specs.declared.keys.Key.{Key}
use Rattle.plain_map.specs.declared.keys.Pair.{Pair}
use Rattle.flowdir_c.specs.declared.answer.Answer.{Answer}
use Rattle.flowdir_c.specs.declared.answer.FlowPair.{FlowPair}
use Rattle.flowdir_c.specs.declared.lasting_options.LastingOptions.{LastingOptions}
use Rattle.flowdir_c.specs.declared.lasting_peeker.LastingPeeker.{LastingPeeker}
use Rattle.flowdir_c.specs.LastingAsked.{AreAsked, AreWithin, plan_in}
use Rattle.flowdir_c.specs.LastingExports.{HasNoSeat, Peeked, PeekedOrNot}
use Rattle.plain_map.specs.declared.calls.Reply.TheVariants.{New}
use Rattle.lasting_model.specs.Goes as C
use Rattle.lasting_calls.specs.declared.calls.Spent.{Spent}
use Rattle.lasting_calls.specs.declared.calls.Spent.TheVariants.{Asked, Updates}
use Rattle.lasting_table.specs.Parties.{PartyValue}
use Rattle.flowdir_c.specs.LastingShelves.{HasBrought, IsNotNew, LastingValue, WasStopped, bringing}
use Rattle.flowdir_c.specs.declared.shelf.NotTaken.{NotTaken}
use Rattle.flowdir_c.specs.declared.shelf.NotTaken.TheVariants.{Busy, Memory}
use Rattle.flowdir_c.specs.Told.{pair_of}
use Rattle.flowdir_c.proofs.FitLemmas.{map_more}

-- there are few buckets
pub few_places : (depth : ℕ) → depth ≤ 12 → 2 ^ depth ≤ 4096
few_places depth small = (let most : 2 ^ depth ≤ 2 ^ 12 = pow_mono small in omega (arith, most))

-- the rows of a seat are few
pub few_rows : (s : Settings) → least_rows s ≤ 16384
few_rows s = (let places = few_places s.depth s.depth_in_range.1 in omega (arith, places, s.seats_in_range))

-- and so are the words of a table
pub words_few : (s : Settings) (seed : ℕ) → word_count (plan_in s seed) ≤ 2 ^ 32
words_few s seed =
    let row : most_words (plan_in s seed) ≤ 130 =
    omega (arith, most_is (plan_in s seed), s.seats_in_range, s.items_in_range) in
    let rows : s.seats * least_rows s ≤ 8 * 16384 =
    mul-le s.seats (least_rows s) 8 16384 s.seats_in_range.1 (few_rows s) in
    let all = mul-le (s.seats * least_rows s) (most_words (plan_in s seed)) (8 * 16384) 130 rows row in
    let places = few_places s.depth s.depth_in_range.1 in
    omega (arith, all, places, s.seats_in_range)

-- the words are those of a table with the least rows
pub words_by : (s : Settings) (seed rows words : ℕ) → rows ≡ least_rows s →
    words ≡ word_count (record { settings = s; hashing = Mix seed; first = []; rows = rows }) →
    words ≡ word_count (plan_in s seed)
words_by s seed rows words least are =
    are ∙ ap (λ r. word_count (record { settings = s; hashing = Mix seed; first = []; rows = r })) least

-- new seats are those of their table
pub new_of : (t : TableValue) (seat many : ℕ) → All (IsPartyOf t) (new_seats t seat many)
new_of t seat zero = All-nil (IsPartyOf t)
new_of t seat (suc many) = All-cons (IsPartyOf t) (new_seat t seat) (new_seats t (suc seat) many)
    (record { table = refl; plan = refl }) (new_of t (suc seat) many)

-- one pair more is written
pub put_more : (out : List FlowPair) (pairs : List Pair) (i : ℕ) (p : FlowPair) (d : Pair) → i < length out →
    i < length pairs → map pair_of (take i out) ≡ take i pairs → pair_of p ≡ get_or pairs i d →
    map pair_of (take (i + 1) (set out i p)) ≡ take (i + 1) pairs
put_more out pairs i p d room less before is =
    ap (map pair_of) (take-set_at out i (i + 1) p refl room) ∙ map_more pair_of (take i out) p
    ∙ (λ j. before j ++ is j ∷ []) ∙ sym (take_more pairs i d less)

-- a peek with some tries is made
pub peeked_some : (key : Key) (tries : ℕ) (was now : List LastingPeeker) (before after : Answer) (status : ℕ) →
    1 ≤ tries → Peeked key was now before after status → PeekedOrNot key tries was now before after status
peeked_some key zero was now before after status some is = absurd (omega (arith, some))
peeked_some key (suc tries) was now before after status some is = is

-- what a shelf is, by its parts
pub value_same : (a b : LastingValue) → a.table ≡ b.table → a.free ≡ b.free → a.places ≡ b.places → a ≡ b
value_same a b table free places = λ i. record { table = table i; free = free i; places = places i }

-- why no seat was taken
pub cause_of : (failed : NotTaken) (status : ℕ) (holders : List LastingValue) →
    (failed ≡ Memory → status ≡ 1) × (failed ≡ Busy → status ≡ 5) → (failed ≡ Busy → HasNoSeat holders) →
    (status ≡ 1) ⊎ ((status ≡ 5) × HasNoSeat holders)
cause_of Memory status holders told none = inl (told.0 refl)
cause_of Busy status holders told none = inr (told.1 refl, none refl)

-- a seat that stays the same twice stays the same
pub same_twice : (a b c : PartyValue) → IsSame a b → IsSame b c → IsSame a c
same_twice a b c first second = record {
  table = second.table ∙ first.table;
  plan = second.plan ∙ first.plan;
  who = second.who ∙ first.who;
}

pub same_self : (a : PartyValue) → IsSame a a
same_self a = record { table = refl; plan = refl; who = refl }

-- and is one of its table's
pub of_same : (t : TableValue) (a b : PartyValue) → IsSame a b → IsPartyOf t a → IsPartyOf t b
of_same t a b same of = record { table = same.table ∙ of.table; plan = same.plan ∙ of.plan }

-- one pair more was brought
pub brought_more : (pairs : List Pair) (pair : Pair) (was then now : PartyValue) → HasBrought pairs was then →
    Answers (C.Called (bringing pair)) (C.Replied New) then now → HasBrought (pairs ++ pair ∷ []) was now
brought_more [] pair was then now before one =
    (now, subst (λ p. Answers (C.Called (bringing pair)) (C.Replied New) p now) before one, refl)
brought_more (p ∷ pairs) pair was then now before one =
    (before.0, before.1, brought_more pairs pair before.0 then now before.2 one)

-- the pair that was reached is new too
pub brought_next : (pairs : List Pair) (i : ℕ) (was then now : PartyValue) → i < length pairs →
    HasBrought (take i pairs) was then →
    Answers (C.Called (bringing (get_or pairs i no_pair))) (C.Replied New) then now →
    HasBrought (take (i + 1) pairs) was now
brought_next pairs i was then now less before one =
    subst (λ ps. HasBrought ps was now) (sym (take_more pairs i no_pair less))
    (brought_more (take i pairs) (get_or pairs i no_pair) was then now before one)

-- or it is not
pub stopped_at : (pairs : List Pair) (i : ℕ) (was then now : PartyValue) → i < length pairs →
    HasBrought (take i pairs) was then → IsNotNew (get_or pairs i no_pair) then now → WasStopped pairs was now
stopped_at pairs i was then now less before not_new = record {
  front = take i pairs;
  pair = get_or pairs i no_pair;
  back = drop (suc i) pairs;
  are = split_at pairs i no_pair less;
  then = then;
  brought = before;
  stopped = not_new;
}

-- there are as many new seats as were asked for
pub length_new : (t : TableValue) (seat many : ℕ) → length (new_seats t seat many) ≡ many
length_new t seat zero = refl
length_new t seat (suc many) = ap suc (length_new t (suc seat) many)

-- why a seat can make no more updates
pub spent_cause : (pair : Pair) (then now : PartyValue) (spent : Spent) →
    (spent ≡ Updates → MOST_UPDATES ≤ answered_updates then) → (spent ≡ Asked → 2 ^ 62 ≤ asked_times then) →
    IsNotNew pair then now
spent_cause pair then now Updates updates asked = inr (inl (updates refl))
spent_cause pair then now Asked updates asked = inr (inr (asked refl))

-- options that give settings are in their ranges
pub within_of : (options : LastingOptions) (s : Settings) → AreAsked options (Some s) → AreWithin options
within_of options s asked = record {
  seats_in_range = subst (IsWithin 1 MOST_SEATS) asked.seats_are s.seats_in_range;
  items_in_range = subst (IsWithin 1 MOST_ITEMS) asked.items_are s.items_in_range;
  depth_in_range = subst (IsWithin 0 MOST_DEPTH) asked.depth_is s.depth_in_range;
  start_in_range = (omega arith, omega arith);
}
