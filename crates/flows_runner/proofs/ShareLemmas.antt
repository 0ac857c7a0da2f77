-- Calls are dealt to the seats of their flows, one by one.
use Rattle.std.proofs.Common.{◌≡◌, ◌≤◌, ◌==◌, ℕ, ◌+◌, ◌<◌, true, false, cond, List, [], ◌∷◌, ◌++◌, Vec, Global, Option, Some, None, IfSome, length, map, get_or, set, replicate, inl, inr, refl, sym, ap, subst, ◌∙◌, arith, append-nil, length-append, get_or-set_same, get_or-set_other, vec_len}
use Rattle.std.specs.List.{All}
use Rattle.std.proofs.lemmas.Bool.{cases_eq, cond-true, cond-false, eq-eqb, ne_eqb}
use Rattle.std.proofs.lemmas.List.{get_or-map, get_or-replicate, length-replicate, length-set, map-append, map-set}
use Rattle.std.proofs.lemmas.List.Elements.{All-append, All-cons, All-nil, filter-append}
use Rattle.std.proofs.lemmas.List.FromFn.{fill_by_all, get_or-map-range_with_len, length-map-range_with_len}
use Rattle.plain_map.specs.declared.calls.Call.{Call}
use Rattle.plain_map.specs.Calls.{key_in}
use Rattle.plain_map.specs.Serving.{IsAskable}
use Rattle.mode_parts.specs.declared.calling.Calling.{Calling}
use Rattle.mode_parts.specs.PacketCalls.{MakeCalls, MakesCall, numbered}
use Rattle.mode_parts.proofs.CallLemmas.{MakeCalls-more}
use Rattle.plain_map.specs.declared.rules.Rules.{Rules}
use Rattle.flows_runner.specs.declared.pile.FlowPile.{FlowPile}
use Rattle.flows_runner.specs.Asked.{flow_seat}
use Rattle.flows_runner.specs.Piles.{HoldsShares, calls_for, shares_of}

-- a call more is one of its seat's, and of no other's
calls_for_more : (rules : Rules) (seats seat : ℕ) (calls : List Call) (call : Call) →
    calls_for rules seats seat (calls ++ call ∷ [])
    ≡ calls_for rules seats seat calls ++ cond (flow_seat rules seats (key_in call) == seat) (call ∷ []) []
calls_for_more rules seats seat calls call =
    filter-append (λ (c : Call). flow_seat rules seats (key_in c) == seat) calls (call ∷ [])

shares_more : (rules : Rules) (seats : ℕ) (calls : List Call) (call : Call) (seat : ℕ) →
    seat ≡ flow_seat rules seats (key_in call) → seat < seats →
    set (shares_of rules seats calls) seat (get_or (shares_of rules seats calls) seat [] ++ call ∷ [])
    ≡ shares_of rules seats (calls ++ call ∷ [])
shares_more rules seats calls call seat is less =
    fill_by_all (λ (s : ℕ). calls_for rules seats s (calls ++ call ∷ []))
    (set (shares_of rules seats calls) seat (get_or (shares_of rules seats calls) seat [] ++ call ∷ [])) seats []
    (length-set (shares_of rules seats calls) seat (get_or (shares_of rules seats calls) seat [] ++ call ∷ [])
    ∙ long) each
  where
    long : length (shares_of rules seats calls) ≡ seats
    long = length-map-range_with_len (λ (s : ℕ). calls_for rules seats s calls) 0 seats

    there : (s : ℕ) → s < seats → get_or (shares_of rules seats calls) s [] ≡ calls_for rules seats s calls
    there s inside =
        get_or-map-range_with_len (λ (r : ℕ). calls_for rules seats r calls) 0 seats s s [] inside (omega arith)

    each : (s : ℕ) → s < seats →
        get_or (set (shares_of rules seats calls) seat (get_or (shares_of rules seats calls) seat [] ++ call ∷ [])) s []
        ≡ calls_for rules seats s (calls ++ call ∷ [])
    each s inside = elim (cases_eq s seat) [
      | inl same ↦
          let within : seat < length (shares_of rules seats calls) = omega (arith, long, less) in
          let own : (flow_seat rules seats (key_in call) == s) ≡ true =
          eq-eqb (flow_seat rules seats (key_in call)) s (sym is ∙ sym same) in
          ap (λ (r : ℕ). get_or (set (shares_of rules seats calls) seat
          (get_or (shares_of rules seats calls) seat [] ++ call ∷ [])) r []) same
          ∙ get_or-set_same (shares_of rules seats calls) seat
          (get_or (shares_of rules seats calls) seat [] ++ call ∷ []) [] within
          ∙ ap (λ (cs : List Call). cs ++ call ∷ []) (there seat less)
          ∙ ap (λ (r : ℕ). calls_for rules seats r calls ++ call ∷ []) (sym same)
          ∙ ap (λ (cs : List Call). calls_for rules seats s calls ++ cs)
          (sym (cond-true (flow_seat rules seats (key_in call) == s) (call ∷ []) [] own))
          ∙ sym (calls_for_more rules seats s calls call)
      | inr other ↦
          let none : (flow_seat rules seats (key_in call) == s) ≡ false =
          ne_eqb (flow_seat rules seats (key_in call)) s (λ eq. other (sym eq ∙ sym is)) in
          get_or-set_other (shares_of rules seats calls) seat s
          (get_or (shares_of rules seats calls) seat [] ++ call ∷ []) [] other
          ∙ there s inside ∙ sym (append-nil (calls_for rules seats s calls))
          ∙ ap (λ (cs : List Call). calls_for rules seats s calls ++ cs)
          (sym (cond-false (flow_seat rules seats (key_in call) == s) (call ∷ []) [] none))
          ∙ sym (calls_for_more rules seats s calls call)
    ]

-- lists of calls, as they are seen
abbrev pub items_in : List (Vec Call Global) → List (List Call)
items_in lists = map (λ (own : Vec Call Global). own.items) lists

-- a push to one of the lists, seen as lists
pushed : (lists : List (Vec Call Global)) (seat : ℕ) (was now : Vec Call Global) (call : Call) →
    seat < length lists → was ≡ get_or lists seat was → now.items ≡ was.items ++ call ∷ [] →
    items_in (set lists seat now)
    ≡ set (items_in lists) seat
    (get_or (items_in lists) seat [] ++ call ∷ [])
pushed lists seat was now call inside is push =
    map-set (λ (own : Vec Call Global). own.items) lists seat now
    ∙ ap (λ (items : List Call). set (items_in lists) seat items)
    (push
    ∙ ap (λ (items : List Call). items ++ call ∷ [])
    (ap (λ (own : Vec Call Global). own.items) is
    ∙ sym (get_or-map (λ (own : Vec Call Global). own.items) lists seat was [] inside)))

-- one call more is dealt to its seat
pub dealt_more : (rules : Rules) (seats : ℕ) (lists : List (Vec Call Global)) (seat : ℕ) (was now : Vec Call Global)
    (call : Call)
    (calls : List Call) → seat < length lists → seat < seats → was ≡ get_or lists seat was →
    now.items ≡ was.items ++ call ∷ [] → seat ≡ flow_seat rules seats (key_in call) →
    items_in lists ≡ shares_of rules seats calls →
    items_in (set lists seat now) ≡ shares_of rules seats (calls ++ call ∷ [])
dealt_more rules seats lists seat was now call calls inside below is push own are =
    pushed lists seat was now call inside is push
    ∙ ap (λ (xs : List (List Call)). set xs seat (get_or xs seat [] ++ call ∷ [])) are
    ∙ shares_more rules seats calls call seat own below

-- no calls, of so many seats
pub shares_none : (rules : Rules) (seats : ℕ) → replicate seats [] ≡ shares_of rules seats []
shares_none rules seats =
    fill_by_all (λ (s : ℕ). calls_for rules seats s []) (replicate seats []) seats [] (length-replicate seats [])
    (λ s inside. get_or-replicate seats s [] [] inside)

-- a pile with no packets, whose lists are empty
pub holds_none : (pile : FlowPile) (before seats : ℕ) → pile.packets ≡ 0 →
    items_in pile.shares.items ≡ replicate seats [] → vec_len pile.shares ≡ seats →
    HoldsShares pile before []
holds_none pile before seats count empty many =
    record {
      count = count;
      few = omega arith;
      calls = [];
      make = refl;
      askable = All-nil (λ (call : ℕ × Call). IsAskable call.1);
      shares_are = empty ∙ shares_none pile.classes.rules seats ∙ ap (λ (n : ℕ). shares_of pile.classes.rules n [])
          (sym many);
    }

-- the call of a packet, where it makes one
abbrev pub call_list : Option Call → List Call
call_list None = []
call_list (Some call) = call ∷ []

-- behind the calls of a pile
calls_more : (number : ℕ) (made : Option Call) (calls : List (ℕ × Call)) →
    map (λ (call : ℕ × Call). call.1) (calls ++ numbered number made)
    ≡ map (λ (call : ℕ × Call). call.1) calls ++ call_list made
calls_more number None calls = map-append (λ (call : ℕ × Call). call.1) calls []
calls_more number (Some call) calls = map-append (λ (call : ℕ × Call). call.1) calls ((number, call) ∷ [])

askable_more : (number : ℕ) (made : Option Call) (calls : List (ℕ × Call)) → IfSome made IsAskable →
    All (λ (call : ℕ × Call). IsAskable call.1) calls →
    All (λ (call : ℕ × Call). IsAskable call.1) (calls ++ numbered number made)
askable_more number None calls fits all =
    subst (All (λ (call : ℕ × Call). IsAskable call.1)) (sym (append-nil calls)) all
askable_more number (Some call) calls fits all =
    All-append (λ (one : ℕ × Call). IsAskable one.1) calls ((number, call) ∷ []) all
    (All-cons (λ (one : ℕ × Call). IsAskable one.1) (number, call) [] fits
    (All-nil (λ (one : ℕ × Call). IsAskable one.1)))

-- one packet more is held, whose call is dealt, where it makes one
pub holds_more : (old new : FlowPile) (before : ℕ) (packets : List (List ℕ)) (packet : List ℕ) (number : ℕ)
    (made : Option Call) → HoldsShares old before packets → number ≡ before + length packets + 1 →
    length packets + 1 ≤ 65536 → MakesCall old.calling number packet made → IfSome made IsAskable →
    new.calling ≡ old.calling → new.classes ≡ old.classes → new.packets ≡ old.packets + 1 →
    ((calls : List Call) →
    items_in old.shares.items ≡ shares_of old.classes.rules (vec_len old.shares) calls →
    items_in new.shares.items
    ≡ shares_of old.classes.rules (vec_len new.shares) (calls ++ call_list made)) →
    HoldsShares new before (packets ++ packet ∷ [])
holds_more old new before packets packet number made holds at few makes fits same by count dealt =
    let size : length (packets ++ packet ∷ []) ≡ length packets + 1 = length-append packets (packet ∷ []) in
    record {
      count = omega (arith, count, holds.count, size);
      few = omega (arith, few, size);
      calls = holds.calls ++ numbered number made;
      make = subst (λ (way : Calling). MakeCalls way (before + 1) (packets ++ packet ∷ [])
          (holds.calls ++ numbered number made)) (sym same)
          (MakeCalls-more old.calling (before + 1) packets holds.calls packet number made (omega (arith, at)) makes
          holds.make);
      askable = askable_more number made holds.calls fits holds.askable;
      shares_are = dealt (map (λ (call : ℕ × Call). call.1) holds.calls) holds.shares_are
          ∙ (λ i. shares_of (sym by i).rules (vec_len new.shares) (sym (calls_more number made holds.calls) i));
    }
