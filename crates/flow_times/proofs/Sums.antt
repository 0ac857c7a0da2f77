-- Each packet is in one flow that is put out.
use Rattle.std.proofs.Common.{◌≡◌, ℕ, ◌+◌, Bool, true, false, cond, inl, inr, List, [], ◌∷◌, Option, Some, None, refl, ap, arith}
use Rattle.std.specs.Prelude.{sum_by}
use Rattle.std.proofs.lemmas.List.Sums.{sum_by-cons}
use Rattle.flow_times.specs.Flows.{Times, Use, Flow, begun, grown, sent, nothing, packets_of}
use Rattle.flow_times.specs.Passes.{Event, PutOut, many_takes, SumsOfAKeyAreKept}
use Rattle.flow_times.specs.Passes.Event.{Takes, Passes}

-- a flow begins with one packet
new_counts : (packet : Use) → packets_of (begun packet) ≡ 1
new_counts packet = go packet.is_high
  where
    go : (b : Bool) → (cond b nothing (sent nothing packet)).packets + (cond b (sent nothing packet) nothing).packets
        ≡ 1
    go true = refl
    go false = refl

-- and grows by one
grown_counts : (flow : Flow) (packet : Use) → packets_of (grown flow packet) ≡ packets_of flow + 1
grown_counts flow packet = go packet.is_high
  where
    go : (b : Bool) → (cond b flow.low (sent flow.low packet)).packets
        + (cond b (sent flow.high packet) flow.high).packets ≡ flow.low.packets + flow.high.packets + 1
    go true = omega arith
    go false = omega arith

-- how many packets the flow has that is held
in_held : Option Flow → ℕ
in_held None = 0
in_held (Some flow) = packets_of flow

-- the packets of what is put out are those that were held, and those that came
kept : (times : Times) (held : Option Flow) (events : List Event) (out : List Flow) → PutOut times held events out →
    sum_by packets_of out ≡ in_held held + many_takes events
unfolding in_held
kept times None [] out p = ap (sum_by packets_of) p
kept times (Some flow) [] out p =
    (let e = ap (sum_by packets_of) p in let c = sum_by-cons packets_of flow [] in omega (arith, e, c))
kept times None (Takes packet ∷ events) out p =
    (let k = kept times (Some (begun packet)) events out p in let n = new_counts packet in omega (arith, k, n))
kept times None (Passes now ∷ events) out p = kept times None events out p
kept times (Some flow) (Takes packet ∷ events) out (inl (b, p)) =
    (let k = kept times (Some (grown flow packet)) events out p in let n = grown_counts flow packet in
    omega (arith, k, n))
kept times (Some flow) (Takes packet ∷ events) out (inr (none, rest, is, p)) =
    (let k = kept times (Some (begun packet)) events rest p in let n = new_counts packet in
    let e = ap (sum_by packets_of) is in let c = sum_by-cons packets_of flow rest in omega (arith, k, n, e, c))
kept times (Some flow) (Passes now ∷ events) out (inl (past, rest, is, p)) =
    (let k = kept times None events rest p in let e = ap (sum_by packets_of) is in
    let c = sum_by-cons packets_of flow rest in omega (arith, k, e, c))
kept times (Some flow) (Passes now ∷ events) out (inr (none, p)) = kept times (Some flow) events out p

pub sums_of_a_key_are_kept : SumsOfAKeyAreKept
unfolding in_held
sums_of_a_key_are_kept times events out p = (let k = kept times None events out p in omega (arith, k))
