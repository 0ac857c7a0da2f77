-- Each line of a report has one line feed, at its end.
use Rattle.std.proofs.Common.{◌≡◌, ℕ, ◌/◌, ◌%◌, ◌^◌, ◌<◌, ◌≤◌, ◌==◌, Bool, true, false, cond, codes, List, [], ◌∷◌, ◌++◌, refl, sym, ap, ◌∙◌, append_assoc, subst, arith}
use Rattle.std.specs.Prelude.{decimal, map}
use Rattle.std.specs.List.{join_by}
use Rattle.std.proofs.lemmas.List.Elements.{recursion_from_All}
use Rattle.std.proofs.lemmas.Bool.{true≢false}
use Rattle.hash_bits.specs.declared.hashing.Hashing.{Hashing}
use Rattle.hash_bits.specs.declared.hashing.Hashing.TheVariants.{Mix, Ports}
use Rattle.trace_share.specs.declared.deals.Share.{Share}
use Rattle.trace_share.specs.declared.deals.Share.TheVariants.{Round, Block, Flow}
use Rattle.plain_map.specs.declared.keys.Pair.{Pair}
use Rattle.plain_map.specs.declared.calls.Call.{Call}
use Rattle.plain_map.specs.declared.calls.Call.TheVariants.{Insert, Remove, Lookup, Tally, Count, Put}
use Rattle.plain_map.specs.declared.calls.Reply.{Reply}
use Rattle.plain_map.specs.declared.calls.Reply.TheVariants.{New, Old, NoRoom, Gone, Found, Absent, Sum}
use Rattle.plain_map.specs.declared.full.FullKind.{FullKind}
use Rattle.plain_map.specs.declared.full.FullKind.TheVariants.{OpRows, BucketRows, BucketWords, DirRows}
use Rattle.plain_map.specs.declared.records.Seen.{Seen}
use Rattle.plain_map.specs.Calls.{key_in}
use Rattle.capture_faults.specs.declared.fault.CaptureFault.{CaptureFault}
use Rattle.capture_faults.specs.declared.fault.CaptureFault.TheVariants.{ReadFault as NoRead, ShortHeader, Magic, Version, LinkType, RecordLength, Memory}
use Rattle.capture_faults.specs.declared.any_fault.AnyFault.{AnyFault}
use Rattle.capture_faults.specs.declared.any_fault.AnyFault.TheVariants.{Capture, ByteOrder, BlockLength, Trailer, SectionVersion, Interface, CapturedLength, Interfaces, Blocks}
use Rattle.line_fields.proofs.Feeds.{HasNoFeed, no_feed-append}
use Rattle.line_fields.proofs.Scan.{IsCut}
use Rattle.flow_reading.specs.Flows.{IsFlow}
use Rattle.report_text.specs.Lines.{line, spaced, counts_word, hexadecimal}
use Rattle.key_texts.specs.declared.rules.CallRule.{CallRule}
use Rattle.key_texts.specs.declared.rules.CallRule.TheVariants.{Sessions, Flows}
use Rattle.report_text.specs.Report.{batch_words, rule_words, head_line, mode_word, share_word, hash_words, call_words, steps_words, after_words, full_words, short_word, session_line, input_line, ending_words, capture_words, fault_words}
use Rattle.report_text.specs.declared.parts.Head.{Head}
use Rattle.capture_faults.specs.declared.ending.Ending.{Ending}
use Rattle.capture_faults.specs.declared.ending.Ending.TheVariants.{Done, ReadFault, Limit, Fault}
use Rattle.report_told.specs.Told.{call_line, waiting_line, packets_line, told_reply_words, ended_words}
use Rattle.report_told.specs.Rules.{IsHead, IsSeen, seed_in, amount_in}
use Rattle.report_told.specs.declared.told.Ended.{Ended}
use Rattle.report_told.specs.declared.told.Ended.TheVariants.{Answered, Refused}
use Rattle.report_told.specs.declared.told.CallLine.{CallLine}
use Rattle.report_told.specs.declared.told.PendingLine.{PendingLine}
use Rattle.report_lines.specs.declared.tails.Leaves.{Leaves}
use Rattle.report_lines.specs.declared.tails.Counts.{Counts}
use Rattle.report_lines.specs.declared.tails.Steps.{Steps}
use Rattle.report_lines.proofs.CallFields.{HasWord, amount_small}
use Rattle.report_lines.proofs.SeenFields.{AreSmall, commas, word_of}
use Rattle.report_lines.proofs.KeyFeeds.{number, glyph_feed, no_feed-flow}
use Rattle.report_lines.proofs.InputFields.{EndingFits}
use Rattle.report_lines.proofs.FaultFields.{CaptureFits, FaultFits}
use Rattle.report_lines.proofs.TailLines.{SessionFits, LeavesFit, CountsFit, StepsFit, leaves_words, count_words, step_words}
use Rattle.report_lines.proofs.CallLines.{EndedFits}
use Rattle.report_lines.proofs.EntryLines.{CallFits, PendingFits, OrderFits}

-- Words.

abbrev has_feed : List ℕ → Bool
has_feed [] = false
has_feed (b ∷ bytes) = cond (b == 10) true (has_feed bytes)

no_feed-known : (text : List ℕ) → has_feed text ≡ false → HasNoFeed text
no_feed-known [] none = tt
no_feed-known (b ∷ text) none = go (no_feed-known text) (b == 10) refl none
  where
    go : (has_feed text ≡ false → HasNoFeed text) → (t : Bool) → (b == 10) ≡ t →
        cond t true (has_feed text) ≡ false → HasNoFeed (b ∷ text)
    go later true feed none = absurd (true≢false none)
    go later false other none = (other, later none)

abbrev NoFeeds : List (List ℕ) → Type 0
NoFeeds [] = Unit {0}
NoFeeds (word ∷ words) = HasNoFeed word × NoFeeds words

no_feeds-append : (front back : List (List ℕ)) → NoFeeds front → NoFeeds back → NoFeeds (front ++ back)
no_feeds-append [] back f b = b
no_feeds-append (word ∷ front) back f b = (f.0, no_feeds-append front back f.1 b)

no_feed-spaced : (words : List (List ℕ)) → NoFeeds words → HasNoFeed (spaced words)
unfolding spaced
no_feed-spaced [] none = tt
no_feed-spaced (word ∷ words) none =
    (refl, no_feed-append word (spaced words) none.0 (no_feed-spaced words none.1))

line_cut : (first : List ℕ) (words : List (List ℕ)) → HasNoFeed first → NoFeeds words → IsCut (line (first ∷ words))
unfolding line
line_cut first words one others = record {
  body = first ++ spaced words;
  none = no_feed-append first (spaced words) one (no_feed-spaced words others);
  feed = sym (append_assoc first (spaced words) (codes "\n"));
}

-- Lines.

mode_feed : (play : Bool) → HasNoFeed (mode_word play)
mode_feed true = no_feed-known (codes "play") refl
mode_feed false = no_feed-known (codes "serve") refl

share_feed : (dealt : Share) → HasNoFeed (share_word dealt)
share_feed Round = no_feed-known (codes "round") refl
share_feed Block = no_feed-known (codes "block") refl
share_feed Flow = no_feed-known (codes "flow") refl

hash_feeds : (hash : Hashing) → seed_in hash < 2 ^ 64 → NoFeeds (hash_words hash)
hash_feeds (Mix seed) small =
    (no_feed-known (codes "mix") refl, (no_feed-known (codes "seed") refl, (number seed (omega arith), tt)))
hash_feeds (Ports seed) small =
    (no_feed-known (codes "ports") refl, (no_feed-known (codes "seed") refl, (number seed (omega arith), tt)))

batch_feeds : (batch : ℕ) → batch ≤ 65536 → NoFeeds (batch_words batch)
batch_feeds batch small = go (batch == 2048)
  where
    go : (b : Bool) → NoFeeds (cond b [] (codes "batch" ∷ decimal batch ∷ []))
    go true = tt
    go false = (no_feed-known (codes "batch") refl, (number batch (omega arith), tt))

rule_feeds : (rule : CallRule) → NoFeeds (rule_words rule)
rule_feeds Sessions = tt
rule_feeds Flows = (no_feed-known (codes "calls") refl, (no_feed-known (codes "flows") refl, tt))

pub head_cut : (head : Head) → IsHead head → IsCut (head_line head)
unfolding head_line
head_cut head is =
    let seats : head.seats ≤ 8 = is.settings.seats_in_range.1 in
    let items : head.items ≤ 16 = is.settings.items_in_range.1 in
    let depth : head.depth ≤ 12 = is.settings.depth_in_range.1 in
    let start : head.start ≤ 12 = omega (arith, is.settings.start_in_range.1) in
    line_cut (codes "flowdir") _ (no_feed-known (codes "flowdir") refl) (
      mode_feed head.play,
      (
        no_feed-known (codes "seats") refl,
        (
          number head.seats (omega arith),
          (
            no_feed-known (codes "items") refl,
            (
              number head.items (omega arith),
              (
                no_feed-known (codes "depth") refl,
                (
                  number head.depth (omega arith),
                  (
                    no_feed-known (codes "start") refl,
                    (
                      number head.start (omega arith),
                      (
                        no_feed-known (codes "hash") refl,
                        no_feeds-append (hash_words head.hashing)
                            (codes "share" ∷ share_word head.share ∷ (rule_words head.calls ++ batch_words head.batch))
                            (hash_feeds head.hashing is.seed) (
                              no_feed-known (codes "share") refl,
                              (
                                share_feed head.share,
                                no_feeds-append (rule_words head.calls) (batch_words head.batch)
                                    (rule_feeds head.calls) (batch_feeds head.batch is.batch.range.1),
                              ),
                            ),
                      ),
                    ),
                  ),
                ),
              ),
            ),
          ),
        ),
      ),
    )

pub session_cut : (pair : Pair) → SessionFits pair → IsCut (session_line pair)
unfolding session_line
session_cut pair fits =
    line_cut (codes "session") _ (no_feed-known (codes "session") refl) (
      no_feed-flow pair.key fits.0,
      (
        number pair.value fits.1.0,
        (no_feed-known (codes "bytes") refl, (number pair.bytes fits.1.1.0, tt)),
      ),
    )

pub leaves_cut : (told : Leaves) → LeavesFit told → IsCut (line (codes "leaves" ∷ leaves_words told))
leaves_cut told fits =
    line_cut (codes "leaves") _ (no_feed-known (codes "leaves") refl)
    (number told.leaves fits.0, (no_feed-known (codes "depth") refl, (number told.depth (omega (arith, fits.1.0)), tt)))

pub count_cut : (told : Counts) → CountsFit told → IsCut (line (codes "count" ∷ count_words told))
count_cut told fits =
    line_cut (codes "count") _ (no_feed-known (codes "count") refl) (
      no_feed-known (codes "packets") refl,
      (
        number told.packets fits.0,
        (
          no_feed-known (codes "calls") refl,
          (
            number told.calls fits.1.0,
            (
              no_feed-known (codes "passed") refl,
              (
                number told.passed fits.1.1.0,
                (
                  no_feed-known (codes "full") refl,
                  (
                    number told.full fits.1.1.1.0,
                    (
                      no_feed-known (codes "pending") refl,
                      (
                        number told.pending fits.1.1.1.1.0,
                        (no_feed-known (codes "unbegun") refl, (number told.unbegun fits.1.1.1.1.1.0, tt)),
                      ),
                    ),
                  ),
                ),
              ),
            ),
          ),
        ),
      ),
    )

pub steps_cut : (told : Steps) → StepsFit told → IsCut (line (codes "steps" ∷ step_words told))
steps_cut told fits =
    line_cut (codes "steps") _ (no_feed-known (codes "steps") refl) (
      no_feed-known (codes "update") refl,
      (
        number told.update fits.0,
        (
          no_feed-known (codes "bound") refl,
          (
            number told.bound fits.1.0,
            (no_feed-known (codes "lookup") refl, (number told.lookup fits.1.1.0, tt)),
          ),
        ),
      ),
    )

hexadecimal_feed : (bytes : List ℕ) → HasNoFeed (hexadecimal bytes)
unfolding hexadecimal
hexadecimal_feed [] = tt
hexadecimal_feed (byte ∷ bytes) = (glyph_feed (byte / 16), (glyph_feed (byte % 16), hexadecimal_feed bytes))

at_found : (first : List ℕ) (place : ℕ) (found : List ℕ) → HasNoFeed first → place ≤ 18446744073709551615 →
    HasNoFeed found → NoFeeds (first ∷ codes "at" ∷ decimal place ∷ codes "found" ∷ found ∷ [])
at_found first place found f within g =
    (f, (no_feed-known (codes "at") refl, (number place within, (no_feed-known (codes "found") refl, (g, tt)))))

capture_feeds : (fault : CaptureFault) → CaptureFits fault → NoFeeds (capture_words fault)
capture_feeds (ShortHeader have) fits =
    at_found (codes "short-header") 0 (decimal have) (no_feed-known (codes "short-header") refl) (omega arith)
    (number have (omega (arith, fits)))
capture_feeds (Magic bytes) fits =
    at_found (codes "magic") 0 (hexadecimal bytes) (no_feed-known (codes "magic") refl) (omega arith)
    (hexadecimal_feed bytes)
capture_feeds (Version major minor) fits =
    at_found (codes "version") 4 (decimal major ++ (codes "." ++ decimal minor)) (no_feed-known (codes "version") refl)
    (omega arith)
    (no_feed-append (decimal major) (codes "." ++ decimal minor) (number major (omega (arith, fits.0)))
    (refl, number minor (omega (arith, fits.1))))
capture_feeds (LinkType found) fits =
    at_found (codes "link") 20 (decimal found) (no_feed-known (codes "link") refl) (omega arith)
    (number found (omega (arith, fits)))
capture_feeds (RecordLength offset found) fits =
    at_found (codes "length") offset (decimal found) (no_feed-known (codes "length") refl) fits.0
    (number found (omega (arith, fits.1)))
capture_feeds NoRead fits = absurd fits
capture_feeds Memory fits = absurd fits

version_feed : (major minor : ℕ) → major ≤ 65535 → minor ≤ 65535 →
    HasNoFeed (decimal major ++ (codes "." ++ decimal minor))
version_feed major minor a b =
    no_feed-append (decimal major) (codes "." ++ decimal minor) (number major (omega (arith, a)))
    (refl, number minor (omega (arith, b)))

fault_feeds : (fault : AnyFault) → FaultFits fault → NoFeeds (fault_words fault)
fault_feeds (Capture fault) fits = capture_feeds fault fits
fault_feeds (ByteOrder offset bytes) fits =
    at_found (codes "byte-order") offset (hexadecimal bytes) (no_feed-known (codes "byte-order") refl) fits.0
    (hexadecimal_feed bytes)
fault_feeds (BlockLength offset found) fits =
    at_found (codes "block-length") offset (decimal found) (no_feed-known (codes "block-length") refl) fits.0
    (number found (omega (arith, fits.1)))
fault_feeds (Trailer offset found) fits =
    at_found (codes "trailer") offset (decimal found) (no_feed-known (codes "trailer") refl) fits.0
    (number found (omega (arith, fits.1)))
fault_feeds (SectionVersion offset major minor) fits =
    at_found (codes "section-version") offset (decimal major ++ (codes "." ++ decimal minor))
    (no_feed-known (codes "section-version") refl) fits.0 (version_feed major minor fits.1.0 fits.1.1)
fault_feeds (Interface offset found) fits =
    at_found (codes "interface") offset (decimal found) (no_feed-known (codes "interface") refl) fits.0
    (number found (omega (arith, fits.1)))
fault_feeds (CapturedLength offset found) fits =
    at_found (codes "captured-length") offset (decimal found) (no_feed-known (codes "captured-length") refl) fits.0
    (number found (omega (arith, fits.1)))
fault_feeds (Interfaces offset) fits =
    at_found (codes "interfaces") offset (decimal 257) (no_feed-known (codes "interfaces") refl) fits
    (number 257 (omega arith))
fault_feeds (Blocks offset) fits =
    at_found (codes "blocks") offset (decimal 4000001) (no_feed-known (codes "blocks") refl) fits
    (number 4000001 (omega arith))

ending_feeds : (ending : Ending) → EndingFits ending → NoFeeds (ending_words ending)
ending_feeds (Done left) fits =
    (no_feed-known (codes "done") refl, (no_feed-known (codes "rest") refl, (number left (omega (arith, fits)), tt)))
ending_feeds ReadFault fits = (no_feed-known (codes "read-fault") refl, tt)
ending_feeds (Limit limit) fits = (no_feed-known (codes "limit") refl, (number limit fits, tt))
ending_feeds (Fault fault) fits = (no_feed-known (codes "fault") refl, fault_feeds fault fits)

pub input_cut : (ending : Ending) → EndingFits ending → IsCut (input_line ending)
unfolding input_line
input_cut ending fits =
    line_cut (codes "input") (ending_words ending) (no_feed-known (codes "input") refl) (ending_feeds ending fits)

-- The lines of calls and orders.

call_feeds : (packet seat : ℕ) (asked : Call) → packet ≤ 18446744073709551615 → seat ≤ 18446744073709551615 →
    IsFlow (key_in asked) → amount_in asked ≤ 18446744073709551615 → NoFeeds (call_words packet seat asked)
unfolding call_words
call_feeds packet seat (Insert key value) p s flow within = (
  number packet p,
  (
    no_feed-known (codes "seat") refl,
    (
      number seat s,
      (
        no_feed-known (codes "insert") refl,
        (no_feed-flow key flow, tt),
      ),
    ),
  ),
)
call_feeds packet seat (Remove key) p s flow within = (
  number packet p,
  (
    no_feed-known (codes "seat") refl,
    (
      number seat s,
      (
        no_feed-known (codes "remove") refl,
        (no_feed-flow key flow, tt),
      ),
    ),
  ),
)
call_feeds packet seat (Lookup key) p s flow within = (
  number packet p,
  (
    no_feed-known (codes "seat") refl,
    (
      number seat s,
      (
        no_feed-known (codes "lookup") refl,
        (no_feed-flow key flow, tt),
      ),
    ),
  ),
)
call_feeds packet seat (Tally key amount) p s flow within = (
  number packet p,
  (
    no_feed-known (codes "seat") refl,
    (
      number seat s,
      (
        no_feed-known (codes "tally") refl,
        (no_feed-flow key flow, (no_feed-known (codes "by") refl, (number amount within, tt))),
      ),
    ),
  ),
)
call_feeds packet seat (Count key value amount) p s flow within = (
  number packet p,
  (
    no_feed-known (codes "seat") refl,
    (
      number seat s,
      (
        no_feed-known (codes "count") refl,
        (no_feed-flow key flow, (no_feed-known (codes "by") refl, (number amount within, tt))),
      ),
    ),
  ),
)
call_feeds packet seat (Put key value) p s flow within = (
  number packet p,
  (
    no_feed-known (codes "seat") refl,
    (
      number seat s,
      (
        no_feed-known (codes "put") refl,
        (no_feed-flow key flow, tt),
      ),
    ),
  ),
)

commas_feed : (counts : List ℕ) → AreSmall counts → HasNoFeed (commas counts)
commas_feed [] small = tt
commas_feed (count ∷ counts) small = (
  refl,
  no_feed-append (decimal count) (commas counts) (number count (omega (arith, small.0)))
      (commas_feed counts small.1),
)

joined_feed : (counts : List ℕ) → AreSmall counts → HasNoFeed (join_by decimal (codes ",") counts)
joined_feed [] small = tt
joined_feed (count ∷ counts) small =
    no_feed-append (decimal count) (commas counts) (number count (omega (arith, small.0))) (commas_feed counts small.1)

after_feeds : (seats : ℕ) (seen : Seen) → IsSeen seats seen → NoFeeds (after_words seats seen)
unfolding after_words
after_feeds seats seen is =
    let word : counts_word seats seen.counts ≡ join_by decimal (codes ",") is.told =
    ap (counts_word seats) is.counts ∙ word_of seats is.told is.long in (
      no_feed-known (codes "after") refl,
      (subst HasNoFeed (sym word) (joined_feed is.told (recursion_from_All (λ n. n < 2 ^ 32) is.told is.fit)), tt),
    )

reply_feeds : (packet : ℕ) (asked : Call) (told : Reply) → packet ≤ 18446744073709551615 → HasWord told →
    NoFeeds (told_reply_words packet asked told)
reply_feeds packet asked New p fits = (no_feed-known (codes "new") refl, (number packet p, tt))
reply_feeds packet asked (Old value) p fits = (no_feed-known (codes "old") refl, (number value fits, tt))
reply_feeds packet asked NoRoom p fits = (no_feed-known (codes "noroom") refl, tt)
reply_feeds packet asked (Gone value) p fits = (no_feed-known (codes "gone") refl, (number value fits, tt))
reply_feeds packet asked (Found value) p fits = (no_feed-known (codes "found") refl, (number value fits, tt))
reply_feeds packet asked Absent p fits = (no_feed-known (codes "absent") refl, tt)
reply_feeds packet asked (Sum total) p fits = (no_feed-known (codes "sum") refl, (number total fits, tt))

short_feed : (kind : FullKind) → HasNoFeed (short_word kind)
short_feed OpRows = no_feed-known (codes "oprows") refl
short_feed BucketRows = no_feed-known (codes "bucketrows") refl
short_feed BucketWords = no_feed-known (codes "bucketwords") refl
short_feed DirRows = no_feed-known (codes "dirrows") refl

ended_feeds : (seats packet : ℕ) (asked : Call) (ended : Ended) → packet ≤ 18446744073709551615 →
    EndedFits seats asked ended → NoFeeds (ended_words seats packet asked ended)
unfolding full_words
ended_feeds seats packet asked (Answered told steps seen) p fits =
    no_feeds-append (told_reply_words packet asked told) (steps_words steps ++ after_words seats seen)
    (reply_feeds packet asked told p fits.0)
    (no_feed-known (codes "steps") refl, (number steps fits.1, after_feeds seats seen fits.2.0))
ended_feeds seats packet asked (Refused full) p fits = (
  no_feed-known (codes "full") refl,
  (short_feed full.what, (number full.left fits.left, (number full.need fits.need, tt))),
)

pub call_cut : (seats : ℕ) → seats ≤ 8 → (told : CallLine) → CallFits seats told → IsCut (call_line seats told)
unfolding call_line
call_cut seats few told fits =
    let p : told.packet ≤ 18446744073709551615 = omega (arith, fits.asked.packet) in
    let s : told.seat ≤ 18446744073709551615 = omega (arith, fits.asked.seat) in
    line_cut (codes "call") _ (no_feed-known (codes "call") refl)
    (no_feeds-append (call_words told.packet told.seat told.call) (ended_words seats told.packet told.call told.ended)
    (call_feeds told.packet told.seat told.call p s fits.asked.verb.flow
    (amount_small told.call fits.asked.verb.amount))
    (ended_feeds seats told.packet told.call told.ended p fits.ended))

pub pending_cut : (seats : ℕ) → seats ≤ 8 → (told : PendingLine) → PendingFits seats told → IsCut
    (waiting_line seats told)
unfolding waiting_line
pending_cut seats few told fits =
    let p : told.packet ≤ 18446744073709551615 = omega (arith, fits.asked.packet) in
    let s : told.seat ≤ 18446744073709551615 = omega (arith, fits.asked.seat) in
    line_cut (codes "pending") _ (no_feed-known (codes "pending") refl)
    (no_feeds-append (call_words told.packet told.seat told.call) (after_words seats told.seen)
    (call_feeds told.packet told.seat told.call p s fits.asked.verb.flow
    (amount_small told.call fits.asked.verb.amount))
    (after_feeds seats told.seen fits.seen.0))

packet_feeds : (packets : List ℕ) → AreSmall packets → NoFeeds (map decimal packets)
packet_feeds [] small = tt
packet_feeds (packet ∷ packets) small = (number packet (omega (arith, small.0)), packet_feeds packets small.1)

pub order_cut : (packets : List ℕ) → OrderFits packets → IsCut (packets_line packets)
unfolding packets_line
order_cut packets fits =
    line_cut (codes "order") (map decimal packets) (no_feed-known (codes "order") refl)
    (packet_feeds packets fits.small)
