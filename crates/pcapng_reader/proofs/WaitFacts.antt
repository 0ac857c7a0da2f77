-- Blocks that are waited for: what is held of them, and what was taken.
use Rattle.std.proofs.Common.{◌≡◌, ◌≤◌, ◌<◌, ℕ, ◌+◌, List, [], ◌++◌, length, take, drop, Option, Some, None, IfSome, refl, sym, ap, ◌∙◌, subst, arith, append_assoc, append-nil, length-append, length-take-le, take-append-drop}
use Rattle.std.specs.Io.KnownBytes.{Consumes, IsAtEnd}
use Rattle.std.proofs.KnownBytes.{Consumes-trans}
use Rattle.std.proofs.lemmas.List.{drop_at, drop-drop, nil_from_length, take_at}
use Rattle.byte_window.specs.Window.{Gathers, IsDrained}
use Rattle.byte_window.proofs.WindowFacts.{drained, gathers_more}
use Rattle.pcap_reader.specs.Reading.{Took}
use Rattle.pcapng_reader.specs.declared.block.Seen.{Seen}
use Rattle.pcapng_reader.specs.declared.block.Seen.TheVariants as seen
use Rattle.pcapng_reader.specs.Section.{State}
use Rattle.pcapng_reader.specs.Blocks.{IsWhole, Sees}
use Rattle.pcapng_reader.specs.Waiting.{Awaits, AwaitsNone, AwaitsTo, Drops, DropsNone, DropsTo, LiesIn, TakesAll}
use Rattle.pcapng_reader.proofs.BlockFacts.{whole_parts}
use Rattle.pcapng_reader.proofs.NextFacts.{packet_lies}

-- where all is held, with a front of so many bytes
at_front : (n : ℕ) (state : State) (offset : ℕ) (old new taken : List ℕ) (sees : Seen) → old ++ taken ≡ new →
    Sees state offset new sees → LiesIn sees (length (take n new)) 0 → Awaits state offset old new sees 0 taken
at_front n state offset old new taken sees held shows lies =
    let whole : new ≡ take n new ++ ([] ++ drop n new) = sym (take-append-drop n new) in
    record {
      front = take n new;
      gone = [];
      behind = drop n new;
      all = held ∙ whole;
      held = whole;
      size = refl;
      shows = subst (λ (l : List ℕ). Sees state offset l sees) whole shows;
      lies = lies;
      few = omega arith;
    }

-- so many bytes are there of a whole block
size_there : (state : State) (offset : ℕ) (new : List ℕ) (sees : Seen) (n : ℕ) → IsWhole sees n →
    Sees state offset new sees → length (take n new) + 0 ≤ n
size_there state offset new sees n whole shows =
    let parts = whole_parts state offset new sees n whole shows in
    omega (arith, length-take-le n new parts.there)

-- what is held shows that
pub awaits_held : (state : State) (offset : ℕ) (old new taken : List ℕ) (sees : Seen) → old ++ taken ≡ new →
    Sees state offset new sees → Awaits state offset old new sees 0 taken
awaits_held state offset old new taken (seen.Packet size at count) held shows =
    let lies = packet_lies state offset new size at count shows in
    let long : length (take size new) ≡ size = length-take-le size new lies.there in
    at_front size state offset old new taken (seen.Packet size at count) held shows
    (omega (arith, long, lies.part), omega (arith, long))
awaits_held state offset old new taken (seen.Section size order) held shows =
    at_front size state offset old new taken (seen.Section size order) held shows
    (size_there state offset new (seen.Section size order) size refl shows)
awaits_held state offset old new taken (seen.Interface size interface) held shows =
    at_front size state offset old new taken (seen.Interface size interface) held shows
    (size_there state offset new (seen.Interface size interface) size refl shows)
awaits_held state offset old new taken (seen.Other size) held shows =
    at_front size state offset old new taken (seen.Other size) held shows
    (size_there state offset new (seen.Other size) size refl shows)
awaits_held state offset old new taken seen.Cut held shows =
    at_front 0 state offset old new taken seen.Cut held shows tt
awaits_held state offset old new taken (seen.Fault found) held shows =
    at_front 0 state offset old new taken (seen.Fault found) held shows tt

-- a block that is not cut asks nothing of the end
pub takes_all : (sees : Seen) (before : Option (List ℕ)) (taken : List ℕ) → (sees ≡ seen.Cut → ⊥) →
    TakesAll sees before taken
takes_all seen.Cut before taken not = absurd (not refl)
takes_all (seen.Packet size at count) before taken not = tt
takes_all (seen.Section size order) before taken not = tt
takes_all (seen.Interface size interface) before taken not = tt
takes_all (seen.Other size) before taken not = tt
takes_all (seen.Fault found) before taken not = tt

-- a block that is held whole, or shows a fault
pub awaits_seen : (state : State) (offset : ℕ) (old new : List ℕ) (before after : Option (List ℕ)) (sees : Seen) →
    Gathers old new before after → Sees state offset new sees → (sees ≡ seen.Cut → ⊥) →
    Took before after (AwaitsTo state offset old new sees 0 before)
awaits_seen state offset old new before after sees g shows not =
    (g.taken, g.told, (awaits_held state offset old new g.taken sees g.held shows, takes_all sees before g.taken not))

-- all that was held and all that was told are all
pub drained_all : (old new taken : List ℕ) (before : Option (List ℕ)) → IsDrained old new before → old ++ taken ≡ new →
    IfSome before (λ bytes. bytes ≡ taken)
drained_all old new taken None all held = tt
drained_all old new taken (Some bytes) all held =
    sym (drop_at old bytes (length old) refl) ∙ ap (drop (length old)) (all ∙ sym held)
    ∙ drop_at old taken (length old) refl

-- a block that is cut at the end of the source
pub awaits_end : (state : State) (offset : ℕ) (old mid new : List ℕ) (before between after : Option (List ℕ)) →
    Gathers old mid before between → Gathers mid new between after → length mid + 0 ≡ length new → IsAtEnd between →
    new ≡ mid → Sees state offset mid seen.Cut → Took before after (AwaitsTo state offset old new seen.Cut 0 before)
awaits_end state offset old mid new before between after first second size end same shows =
    let g = gathers_more old mid new before between after first second in
    let all : IsDrained old new before = drained old mid new before between after first second size end in
    let here : Sees state offset new seen.Cut = subst (λ (l : List ℕ). Sees state offset l seen.Cut) (sym same) shows
    in (
      g.taken,
      g.told,
      (awaits_held state offset old new g.taken seen.Cut g.held here, drained_all old new g.taken before all g.held),
    )

-- a block that is cut where the source failed
pub awaits_failed : (state : State) (offset : ℕ) (old mid new : List ℕ) (before between after : Option (List ℕ)) →
    Gathers old mid before between → Gathers mid new between after → new ≡ mid → Sees state offset mid seen.Cut →
    Took before after (AwaitsNone state offset old new)
awaits_failed state offset old mid new before between after first second same shows =
    let g = gathers_more old mid new before between after first second in
    let here : Sees state offset new seen.Cut = subst (λ (l : List ℕ). Sees state offset l seen.Cut) (sym same) shows in
    (g.taken, g.told, (0, awaits_held state offset old new g.taken seen.Cut g.held here))

-- ---- a wait behind another

-- what was taken before is taken too
pub joined_taken : (old mid first more all : List ℕ) → old ++ first ≡ mid → mid ++ more ≡ all →
    old ++ (first ++ more) ≡ all
joined_taken old mid first more all one two =
    sym (append_assoc old first more) ∙ ap (λ (l : List ℕ). l ++ more) one ∙ two

-- a wait that begins behind more bytes
pub awaits_more : (state : State) (offset : ℕ) (old mid new first more : List ℕ) (sees : Seen) (dropped : ℕ) →
    old ++ first ≡ mid → Awaits state offset mid new sees dropped more →
    Awaits state offset old new sees dropped (first ++ more)
awaits_more state offset old mid new first more sees dropped held h =
    record {
      front = h.front;
      gone = h.gone;
      behind = h.behind;
      all = joined_taken old mid first more (h.front ++ (h.gone ++ h.behind)) held h.all;
      held = h.held;
      size = h.size;
      shows = h.shows;
      lies = h.lies;
      few = h.few;
    }

-- and all that was taken
pub takes_more : (sees : Seen) (before between : Option (List ℕ)) (first more : List ℕ) →
    Consumes before between first →
    TakesAll sees between more → TakesAll sees before (first ++ more)
takes_more seen.Cut None between first more told all = tt
takes_more seen.Cut (Some xs) None first more told all = absurd told
takes_more seen.Cut (Some xs) (Some ys) first more told all = told ∙ ap (λ (l : List ℕ). first ++ l) all
takes_more (seen.Packet size at count) before between first more told all = tt
takes_more (seen.Section size order) before between first more told all = tt
takes_more (seen.Interface size interface) before between first more told all = tt
takes_more (seen.Other size) before between first more told all = tt
takes_more (seen.Fault found) before between first more told all = tt

-- reads, and then a wait
pub awaits_behind : (state : State) (offset : ℕ) (old mid new : List ℕ) (before between after : Option (List ℕ))
    (sees : Seen) (dropped : ℕ) → Gathers old mid before between →
    Took between after (AwaitsTo state offset mid new sees dropped between) →
    Took before after (AwaitsTo state offset old new sees dropped before)
awaits_behind state offset old mid new before between after sees dropped g later = (
  g.taken ++ later.0,
  Consumes-trans before between after g.taken later.0 g.told later.1,
  (
    awaits_more state offset old mid new g.taken later.0 sees dropped g.held later.2.0,
    takes_more sees before between g.taken later.0 g.told later.2.1,
  ),
)

-- and where the source failed
pub awaits_none_behind : (state : State) (offset : ℕ) (old mid new : List ℕ) (before between after : Option (List ℕ)) →
    Gathers old mid before between → Took between after (AwaitsNone state offset mid new) →
    Took before after (AwaitsNone state offset old new)
awaits_none_behind state offset old mid new before between after g later = (
  g.taken ++ later.0,
  Consumes-trans before between after g.taken later.0 g.told later.1,
  (later.2.0, awaits_more state offset old mid new g.taken later.0 seen.Cut later.2.0 g.held later.2.1),
)

-- ---- bytes that are dropped

-- where nothing was dropped yet
pub drops_none : (kept : ℕ) (old : List ℕ) → Drops kept old old 0 []
drops_none kept old =
    let whole : old ≡ take kept old ++ drop kept old = sym (take-append-drop kept old) in
    record {
      gone = [];
      behind = drop kept old;
      all = append-nil old ∙ whole;
      held = whole;
      size = refl;
    }

-- some more were dropped
pub drops_more : (kept some dropped : ℕ) (old mid new taken : List ℕ) → kept ≤ length old → kept + some ≤ length mid →
    new ≡ take kept mid ++ drop (kept + some) mid → Drops kept old mid dropped taken →
    Drops kept old new (dropped + some) taken
drops_more kept some dropped old mid new taken inside within is h =
    let front : List ℕ = take kept old in
    let size : length front ≡ kept = length-take-le kept old inside in
    let long : some ≤ length h.behind = omega (arith, within, ap length h.held, length-append front h.behind, size) in
    let first : take kept mid ≡ front = ap (take kept) h.held ∙ take_at front h.behind kept size in
    let rest : drop (kept + some) mid ≡ drop some h.behind =
    ap (drop (kept + some)) h.held ∙ drop-at-more front h.behind kept some size in
    record {
      gone = h.gone ++ take some h.behind;
      behind = drop some h.behind;
      all =
          h.all
          ∙ ap (λ (l : List ℕ). front ++ l) (ap (λ (l : List ℕ). h.gone ++ l) (sym (take-append-drop some h.behind))
          ∙ sym (append_assoc h.gone (take some h.behind) (drop some h.behind)));
      held = is ∙ ap (λ (l : List ℕ). l ++ drop (kept + some) mid) first ∙ ap (λ (l : List ℕ). front ++ l) rest;
      size = omega (arith, length-append h.gone (take some h.behind), h.size, length-take-le some h.behind long);
    }
  where
    drop-at-more : (xs ys : List ℕ) (n k : ℕ) → length xs ≡ n → drop (n + k) (xs ++ ys) ≡ drop k ys
    drop-at-more xs ys n k is =
        sym (drop-drop k n (xs ++ ys)) ∙ ap (drop k) (drop_at xs ys n is)

-- more was read
pub drops_read : (kept dropped : ℕ) (old mid new : List ℕ) (before between after : Option (List ℕ)) →
    Took before between (Drops kept old mid dropped) → Gathers mid new between after →
    Took before after (Drops kept old new dropped)
drops_read kept dropped old mid new before between after first g =
    let h = first.2 in
    let front : List ℕ = take kept old in (
      first.0 ++ g.taken,
      Consumes-trans before between after first.0 g.taken first.1 g.told,
      record {
        gone = h.gone;
        behind = h.behind ++ g.taken;
        all =
            sym (append_assoc old first.0 g.taken) ∙ ap (λ (l : List ℕ). l ++ g.taken) h.all
            ∙ append_assoc front (h.gone ++ h.behind) g.taken
            ∙ ap (λ (l : List ℕ). front ++ l) (append_assoc h.gone h.behind g.taken);
        held = sym g.held ∙ ap (λ (l : List ℕ). l ++ g.taken) h.held ∙ append_assoc front h.behind g.taken;
        size = h.size;
      },
    )

-- more was read, and then the source was at its end
pub drops_drained : (kept dropped : ℕ) (old mid new : List ℕ) (before between after : Option (List ℕ)) →
    Took before between (Drops kept old mid dropped) → Gathers mid new between after → IsDrained mid new between →
    Took before after (λ taken. Drops kept old new dropped taken × TakesAll seen.Cut before taken)
unfolding drops_read
drops_drained kept dropped old mid new before between after first g all =
    let read = drops_read kept dropped old mid new before between after first g in (
      read.0,
      read.1,
      (
        read.2,
        takes_more seen.Cut before between first.0 g.taken first.1
            (drained_all mid new g.taken between all g.held),
      ),
    )

-- all was taken that the source had, where a read gave nothing
all_read : (before between : Option (List ℕ)) (taken more : List ℕ) → Consumes before between taken →
    IsAtEnd between → more ≡ [] → IfSome before (λ bytes. bytes ≡ taken ++ more)
all_read None between taken more told end none = tt
all_read (Some xs) None taken more told end none = absurd told
all_read (Some xs) (Some ys) taken more told end none = told ∙ ap (λ (l : List ℕ). taken ++ l) (end ∙ sym none)

-- the source was at its end before all were dropped
pub drops_end : (kept count dropped : ℕ) (old mid new : List ℕ) (before between after : Option (List ℕ)) →
    Took before between (Drops kept old mid dropped) → Gathers mid new between after →
    length mid + 0 ≡ length new → IsAtEnd between → length mid ≡ kept → dropped ≤ count →
    Took before after (DropsTo kept count old new dropped before)
unfolding drops_read
drops_end kept count dropped old mid new before between after first g size end held few =
    let none : g.taken ≡ [] = nil_from_length g.taken (omega (arith, length-append mid g.taken, ap length g.held)) in
    let read = drops_read kept dropped old mid new before between after first g in (
      read.0,
      read.1,
      record {
        drops = read.2;
        few = few;
        held = λ fewer. omega (arith, size, held);
        end = λ fewer. all_read before between first.0 g.taken first.1 end none;
      },
    )

-- and where it failed
pub drops_failed : (kept count dropped : ℕ) (old mid new : List ℕ) (before between after : Option (List ℕ)) →
    Took before between (Drops kept old mid dropped) → Gathers mid new between after → new ≡ mid →
    length mid ≡ kept → dropped < count → Took before after (DropsNone kept count old new)
drops_failed kept count dropped old mid new before between after first g same held few =
    let read = drops_read kept dropped old mid new before between after first g in (
      read.0,
      read.1,
      record { dropped = dropped; drops = read.2; few = few; held = ap length same ∙ held },
    )

-- ---- a turn of the wait for a block

-- what was looked at is what is held
pub cut_held : (state : State) (offset : ℕ) (bytes held : List ℕ) (x : Seen) → bytes ≡ held →
    Sees state offset bytes x → x ≡ seen.Cut → Sees state offset held seen.Cut
cut_held state offset bytes held x same shows cut =
    subst (λ (l : List ℕ). Sees state offset l seen.Cut) same
    (subst (λ (y : Seen). Sees state offset bytes y) cut shows)

-- where a block is cut, so it was before more bytes came
pub cut_before : {P G : Type 0} (state : State) (offset : ℕ) (first held : List ℕ) → Sees state offset held seen.Cut →
    ((Sees state offset first seen.Cut → ⊥) → P × (held ≡ first)) → (Sees state offset first seen.Cut → ⊥) → G
cut_before state offset first held cut same not =
    absurd (not (subst (λ (l : List ℕ). Sees state offset l seen.Cut) (same not).1 cut))
