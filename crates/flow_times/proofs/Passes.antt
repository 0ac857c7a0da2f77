-- Passes do not matter: a flow that was taken out is past, so no packet would have come to it.
use Rattle.std.proofs.Common.{◌≡◌, inl, inr, List, [], ◌∷◌, Option, Some, None, sym, ap, ◌∙◌, arith}
use Rattle.flow_times.specs.Moments.{Moment}
use Rattle.flow_times.specs.Flows.{Times, Use, Flow, IsPast, begun, grown, PastStaysPast, PastTakesNone}
use Rattle.flow_times.specs.Passes.{Event, PutOut, AreFrom, takes_in, PassesKeepAKey}
use Rattle.flow_times.specs.Passes.Event.{Takes, Passes}

-- what is past stays past
pub stays : PastStaysPast
stays times flow one other (inl p) (inl f) = inl (omega (arith, p, f))
stays times flow one other (inl p) (inr (e, c)) = inl (omega (arith, p, e))
stays times flow one other (inr (s, d)) (inl f) = inl (omega (arith, s, f))
stays times flow one other (inr (s, d)) (inr (e, c)) = inr (omega (arith, s, e), omega (arith, d, c))

-- and takes no packet
pub takes_none : PastTakesNone
takes_none times flow packet (inl p) b = (let s = b.stretch in omega (arith, p, s))
takes_none times flow packet (inr (s, d)) b = (let w = b.within in omega (arith, d, w))

-- what holds of these events: runs that hold the same put out the same; and so do a run from which a flow that was past
-- was taken out, and one that still holds it
record Alike (times : Times) (events : List Event) : Type 0 where
  same : (now : Moment) (held : Option Flow) (out other : List Flow) → AreFrom now events →
      PutOut times held events out → PutOut times held (takes_in events) other → out ≡ other
  taken : (now : Moment) (flow : Flow) (out other : List Flow) → IsPast times flow now → AreFrom now events →
      PutOut times None events out → PutOut times (Some flow) (takes_in events) other → flow ∷ out ≡ other

-- a flow is put before both
put : (flow : Flow) (out other : List Flow) → out ≡ other → flow ∷ out ≡ flow ∷ other
put flow out other e = ap (λ (flows : List Flow). flow ∷ flows) e

-- behind the last event
same_end : (times : Times) (held : Option Flow) (out other : List Flow) → PutOut times held [] out →
    PutOut times held [] other → out ≡ other
same_end times None out other p q = p ∙ sym q
same_end times (Some flow) out other p q = p ∙ sym q

module _ (times : Times) (events : List Event) (ih : Alike times events) where
  -- at a packet
  same_takes : (packet : Use) (now : Moment) (held : Option Flow) (out other : List Flow) →
      AreFrom now (Takes packet ∷ events) → PutOut times held (Takes packet ∷ events) out →
      PutOut times held (takes_in (Takes packet ∷ events)) other → out ≡ other
  same_takes packet now None out other from p q =
      ih.same packet.moment (Some (begun packet)) out other from.1 p q
  same_takes packet now (Some flow) out other from (inl (b, p)) (inl (c, q)) =
      ih.same packet.moment (Some (grown flow packet)) out other from.1 p q
  same_takes packet now (Some flow) out other from (inl (b, p)) (inr (none, rest, is, q)) = absurd (none b)
  same_takes packet now (Some flow) out other from (inr (none, rest, is, p)) (inl (b, q)) = absurd (none b)
  same_takes packet now (Some flow) out other from (inr (none, rest, is, p)) (inr (not_it, others, are, q)) =
      is ∙ put flow rest others (ih.same packet.moment (Some (begun packet)) rest others from.1 p q) ∙ sym are

  taken_takes : (packet : Use) (now : Moment) (flow : Flow) (out other : List Flow) → IsPast times flow now →
      AreFrom now (Takes packet ∷ events) → PutOut times None (Takes packet ∷ events) out →
      PutOut times (Some flow) (takes_in (Takes packet ∷ events)) other → flow ∷ out ≡ other
  taken_takes packet now flow out other past from p (inl (b, q)) =
      absurd (takes_none times flow packet (stays times flow now packet.moment past from.0) b)
  taken_takes packet now flow out other past from p (inr (none, rest, is, q)) =
      put flow out rest (ih.same packet.moment (Some (begun packet)) out rest from.1 p q) ∙ sym is

  -- at a pass
  same_passes : (later now : Moment) (held : Option Flow) (out other : List Flow) →
      AreFrom now (Passes later ∷ events) → PutOut times held (Passes later ∷ events) out →
      PutOut times held (takes_in (Passes later ∷ events)) other → out ≡ other
  same_passes later now None out other from p q = ih.same later None out other from.1 p q
  same_passes later now (Some flow) out other from (inl (past, rest, is, p)) q =
      is ∙ ih.taken later flow rest other past from.1 p q
  same_passes later now (Some flow) out other from (inr (not_past, p)) q =
      ih.same later (Some flow) out other from.1 p q

  taken_passes : (later now : Moment) (flow : Flow) (out other : List Flow) → IsPast times flow now →
      AreFrom now (Passes later ∷ events) → PutOut times None (Passes later ∷ events) out →
      PutOut times (Some flow) (takes_in (Passes later ∷ events)) other → flow ∷ out ≡ other
  taken_passes later now flow out other past from p q =
      ih.taken later flow out other (stays times flow now later past from.0) from.1 p q

-- of all events
alike : (times : Times) (events : List Event) → Alike times events
alike times [] = record {
  same = λ now held out other from p q. same_end times held out other p q;
  taken = λ now flow out other past from p q. put flow out [] p ∙ sym q;
}
alike times (Takes packet ∷ events) =
    let ih = alike times events in
    record {
      same = same_takes times events ih packet;
      taken = taken_takes times events ih packet;
    }
alike times (Passes later ∷ events) =
    let ih = alike times events in
    record {
      same = same_passes times events ih later;
      taken = taken_passes times events ih later;
    }

pub passes_keep_a_key : PassesKeepAKey
passes_keep_a_key times now events out other from p q = (alike times events).same now None out other from p q
