-- A batch is closed: what the job was told, what stands behind the batch, and how far the job is then.
use Rattle.std.proofs.Common.{◌≡◌, ℕ, ◌+◌, ◌<◌, ◌≤◌, Bool, true, false, List, [], ◌∷◌, ◌++◌, length, Option, Some, None, refl, sym, ap, ◌∙◌, subst, vec_len, arith, length-append, append-nil}
use Rattle.std.specs.List.{AllZip}
use Rattle.std.specs.Option.{ForSome}
use Rattle.map_laws.specs.ByKey.{Made}
use Rattle.lasting_table.specs.Parties.{PartyValue}
use Rattle.lasting_table.specs.Meetings.{HaveMet}
use Rattle.lasting_table.specs.Values.{TableValue}
use Rattle.flow_workers.specs.declared.workers.FlowWorker.{FlowWorker}
use Rattle.flow_workers.specs.Work.{HasWorked}
use Rattle.flows_runner.specs.declared.asked.Asked.{Asked}
use Rattle.flows_runner.specs.declared.blocks.Block.{Block}
use Rattle.flows_runner.specs.declared.flowing.Flowing.{Flowing}
use Rattle.flows_runner.specs.declared.pile.TheConstants.{FLOW_LIMIT}
use Rattle.flows_runner.specs.Blocks.{IsBlock, is_place}
use Rattle.flows_runner.specs.Going.{HasBlocks, HasKeyTexts, HaveSeats, IsAway, IsDoneOn, IsFlowing, IsGoing, IsOpened, IsSameJob, StandsBehind, block_in, block_told}
use Rattle.flows_runner.specs.Hands.{IsAsFar}
use Rattle.flows_runner.specs.Served.{AreServed, Served}
use Rattle.flows_runner.specs.Told.{packets_in}
use Rattle.flows_runner.proofs.BatchLemmas.{GoesOn, HasCounted, batch_closed, many_back, through}
use Rattle.flows_runner.proofs.GoingLemmas.{no_place, one_place, packets_more, place_behind}
use Rattle.flows_runner.proofs.OpenLemmas.{flowing_moves}
use Rattle.flows_runner.proofs.ToldLemmas.{told_none, told_one}

-- the batch is within what may be taken
pub within : (job : Flowing) (t : TableValue) (started : List FlowWorker) (kept before : ℕ) (more : List (List ℕ)) →
    IsOpened job t started kept before more → before + length more ≤ FLOW_LIMIT → job.packets + kept ≤ FLOW_LIMIT
within job t started kept before more opened few =
    let packets = opened.so.packets_are in
    let first = opened.before_is in
    let many = opened.kept_is in
    omega (arith, packets, first, many, few)

-- ---- how far it is

-- after the batch the job has served all these packets
pub record ClosedSo (now : Flowing) (t : TableValue) (packets : List (List ℕ)) (served : Served) (later : List Made) :
    Type 0 where
  pub blocks : ℕ
  pub with_more : Served
  pub made : with_more.made ≡ served.made ++ later
  pub so : IsFlowing now (Some t) now.seats.items packets blocks with_more

-- once the job has taken its workers back, they are served
pub went_on : (job counted : Flowing) (t : TableValue) (started workers : List FlowWorker) (kept before : ℕ)
    (more : List (List ℕ)) → IsOpened job t started kept before more → AllZip HasWorked started workers →
    job.packets + kept ≤ FLOW_LIMIT → HasCounted job counted workers kept →
    ((seats : List PartyValue) → HaveSeats workers seats → HaveMet t seats counted.seats.items) →
    (seats : List PartyValue) (packets : List (List ℕ)) (blocks : ℕ) (served : Served) → HaveSeats started seats →
    IsFlowing job (Some t) seats packets blocks served →
    GoesOn counted t counted.seats.items packets more blocks served
went_on job counted t started workers kept before more opened worked limit counts met seats packets blocks served have
    so =
    batch_closed job t started workers kept before more opened worked seats packets blocks served have so counted
    counted.seats.items
    (met _ (through job t started workers kept before more opened worked seats packets blocks served have so).seats)
    counts (let many = opened.kept_is in let were = so.packets_are in omega (arith, many, were, limit))

-- the job has taken its workers back, and a block was put behind the batch, if one was to stand there
module _ (job counted now : Flowing) (t : TableValue) (started workers : List FlowWorker) (kept before : ℕ)
    (more : List (List ℕ)) (opened : IsOpened job t started kept before more)
    (worked : AllZip HasWorked started workers) (limit : job.packets + kept ≤ FLOW_LIMIT)
    (counts : HasCounted job counted workers kept)
    (met : (seats : List PartyValue) → HaveSeats workers seats → HaveMet t seats counted.seats.items)
    (closed : Option Block)
    (behind : (packets : List (List ℕ)) (blocks : ℕ) (served : Served) →
    IsFlowing counted (Some t) counted.seats.items packets blocks served →
    StandsBehind counted now t packets blocks served kept closed)
    (same : IsSameJob counted now) where
  -- what it had served before
  module _ (seats : List PartyValue) (packets : List (List ℕ)) (blocks : ℕ) (served : Served)
      (have : HaveSeats started seats) (so : IsFlowing job (Some t) seats packets blocks served) where
    pub goes : GoesOn counted t counted.seats.items packets more blocks served
    goes = went_on job counted t started workers kept before more opened worked limit counts met seats packets blocks
        served have so

    here : StandsBehind counted now t (packets ++ more) blocks goes.with_more kept closed
    here = behind (packets ++ more) blocks goes.with_more goes.so

    -- there is room for a block more
    room : 0 < kept → blocks + 1 ≤ length (packets ++ more)
    room some =
        let many = opened.kept_is in
        let few = so.few_blocks in
        let all = length-append packets more in
        omega (arith, some, many, few, all)

    closed_by : (block : Option Block) → StandsBehind counted now t (packets ++ more) blocks goes.with_more kept block →
        ClosedSo now t (packets ++ more) served goes.later
    closed_by None stands =
        record { blocks = blocks; with_more = goes.with_more; made = goes.made; so = stands.0 }
    closed_by (Some block) stands = record {
      blocks = blocks + 1;
      with_more = stands.3.served;
      made = stands.3.made ∙ goes.made;
      so = stands.3.so (room stands.0);
    }

    pub closed_so : ClosedSo now t (packets ++ more) served goes.later
    closed_so = closed_by closed here

    -- the place behind the batch, by the packets that are counted
    at_place : counted.packets ≡ length packets + length more
    at_place = (let many = goes.so.packets_are in let all = length-append packets more in omega (arith, many, all))

  -- ---- the text

  -- what was told of these batches
  module _ (asked : Asked) (as_asked : job.asked ≡ asked) (batches : List (List (List ℕ))) (put : List ℕ)
      (seats : List PartyValue) (blocks : ℕ) (served : Served) (have : HaveSeats started seats)
      (so : IsFlowing job (Some t) seats (packets_in batches) blocks served)
      (told : HasBlocks asked batches served put) where
    abbrev packets : List (List ℕ)
    packets = packets_in batches

    abbrev went : GoesOn counted t counted.seats.items packets more blocks served
    went = goes seats packets blocks served have so

    counted_asked : counted.asked ≡ asked
    counted_asked = counts.asked ∙ as_asked

    -- by the place behind the batch
    place_is : (b : Bool) → is_place counted.asked.every counted.packets ≡ b →
        is_place asked.every (length packets + length more) ≡ b
    place_is b is =
        (λ i. is_place ((sym counted_asked) i).every ((sym (at_place seats packets blocks served have so)) i)) ∙ is

    none_behind : (others : List (List ℕ)) → others ≡ more →
        (0 < kept → is_place counted.asked.every counted.packets ≡ false) →
        place_behind asked.every (length packets) others ≡ []
    none_behind [] is none = refl
    none_behind (packet ∷ others) is none =
        no_place asked.every (length packets) (packet ∷ others)
        (subst (λ (l : List (List ℕ)). is_place asked.every (length packets + length l) ≡ false) (sym is)
        (place_is false (none (let long = ap (λ (l : List (List ℕ)). length l) is in
        let many = opened.kept_is in omega (arith, long, many)))))

    told_by : (block : Option Block) →
        (stands : StandsBehind counted now t (packets ++ more) blocks went.with_more kept block) → (lines : List ℕ) →
        lines ≡ block_told block →
        HasBlocks asked (batches ++ more ∷ [])
        (closed_by seats packets blocks served have so block stands).with_more (put ++ lines)
    unfolding closed_by goes
    told_by None stands lines are =
        subst (λ (l : List ℕ). HasBlocks asked (batches ++ more ∷ []) went.with_more l)
        (sym (ap (λ (l : List ℕ). put ++ l) are ∙ append-nil put))
        (told_none asked batches more served went.with_more went.later put told went.made
        (none_behind more refl stands.1))
    told_by (Some block) stands lines are =
        let some : 0 < length more = (let many = opened.kept_is in let any = stands.0 in omega (arith, many, any)) in
        let rested = stands.3 in
        let there = one_place asked.every (length packets) more some (place_is true stands.1)
        ∙ ap (λ (n : ℕ). n ∷ []) (sym (length-append packets more)) in
        let then = rested.so (room seats packets blocks served have so stands.0) in
        let now_asked : now.asked ≡ asked = same.asked ∙ counted_asked in
        subst (λ (l : List ℕ). HasBlocks asked (batches ++ more ∷ []) rested.served (put ++ l)) (sym are)
        (told_one asked batches more served rested.served went.later put told (rested.made ∙ went.made) (block_in block)
        there (subst (λ (a : Asked). AreServed a (packets ++ more) rested.served) now_asked then.served_so)
        (subst (λ (a : Asked). IsBlock a (length (packets ++ more)) rested.served.made (block_in block)) counted_asked
        (subst (λ (made : List Made). IsBlock counted.asked (length (packets ++ more)) made (block_in block))
        (sym rested.made) stands.2.is)))

    pub told_so : (lines : List ℕ) → lines ≡ block_told closed →
        HasBlocks asked (batches ++ more ∷ []) (closed_so seats packets blocks served have so).with_more (put ++ lines)
    unfolding closed_so closed_by
    told_so = told_by closed (here seats packets blocks served have so)

  -- ---- the job, with its table

  module _ (then : Flowing) (as_far : IsAsFar now then) (table : then.table ≡ Some t)
      (seats_kept : then.seats.items ≡ now.seats.items) where
    moved : (packets : List (List ℕ)) (blocks : ℕ) (served : Served) →
        IsFlowing now (Some t) now.seats.items packets blocks served →
        IsFlowing then then.table then.seats.items packets blocks served
    moved packets blocks served so =
        subst (λ (tb : Option TableValue). IsFlowing then tb then.seats.items packets blocks served) (sym table)
        (subst (λ (l : List PartyValue). IsFlowing then (Some t) l packets blocks served) (sym seats_kept)
        (flowing_moves now then (Some t) now.seats.items packets blocks served as_far so))

    then_asked : then.asked ≡ job.asked
    then_asked = as_far.asked ∙ same.asked ∙ counts.asked

    pub closed_going : IsAway job before → vec_len then.spare ≡ length workers → IsGoing then (before + length more)
    closed_going away spare =
        let so = closed_so opened.seats opened.first opened.blocks opened.served opened.have opened.so in
        let many = many_back job t started workers kept before more opened worked opened.seats opened.first
        opened.blocks opened.served opened.have opened.so in
        record {
          packets = opened.first ++ more;
          blocks = so.blocks;
          served = so.with_more;
          so = moved (opened.first ++ more) so.blocks so.with_more so.so;
          spare = record {
            some = subst (λ (a : Asked). 1 ≤ a.seats) (sym then_asked) away.some;
            few = subst (λ (a : Asked). a.seats ≤ 8) (sym then_asked) away.few;
            every = subst (λ (a : Asked). ForSome a.every (λ every. 0 < every)) (sym then_asked) away.every;
            spare = spare ∙ many ∙ ap (λ (a : Asked). a.seats) (sym then_asked);
          };
          many_are = length-append opened.first more ∙ ap (λ (n : ℕ). n + length more) opened.before_is;
        }

    pub closed_done : (asked : Asked) (batches : List (List (List ℕ))) (put lines : List ℕ) (seats : List PartyValue) →
        HaveSeats started seats → IsDoneOn job (Some t) seats asked batches put → lines ≡ block_told closed →
        IsDoneOn then then.table then.seats.items asked (batches ++ more ∷ []) (put ++ lines)
    closed_done asked batches put lines seats have done are =
        let so = closed_so seats (packets_in batches) done.blocks done.served have done.so in
        record {
          as_asked = then_asked ∙ done.as_asked;
          blocks = so.blocks;
          served = so.with_more;
          so = subst (λ (l : List (List ℕ)). IsFlowing then then.table then.seats.items l so.blocks so.with_more)
              (sym (packets_more batches more)) (moved (packets_in batches ++ more) so.blocks so.with_more so.so);
          told = told_so asked done.as_asked batches put seats done.blocks done.served have done.so done.told lines are;
        }

-- what stands behind a batch has texts
pub key_texts : (was now : Flowing) (t : TableValue) (ps : List (List ℕ)) (blocks : ℕ) (served : Served)
    (kept : ℕ) (closed : Option Block) → StandsBehind was now t ps blocks served kept closed → HasKeyTexts closed
key_texts was now t ps blocks served kept None stands = tt
key_texts was now t ps blocks served kept (Some block) stands = stands.2.texts
