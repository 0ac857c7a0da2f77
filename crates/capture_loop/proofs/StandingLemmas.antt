-- Batches of which the last one may not be told yet: it is told, and put, or not.
use Rattle.std.specs.Option.{ForSome}
use Rattle.std.proofs.Common.{◌≡◌, ◌<◌, ◌≤◌, ◌+◌, ◌∙◌, IfNone, MatchOption, ℕ, List, [], ◌∷◌, ◌++◌, length, Option, Some, None, Result, Ok, Err, IsErrAnd, refl, sym, subst, append-nil, length-append, arith}
use Rattle.std.specs.Prelude.{IfErr, IfOk, OnErr, OnOk}
use Rattle.std.specs.Io.KnownBytes.{Appends}
use Rattle.edge_traits.specs.Edge.{AppendsFront}
use Rattle.pcapng_reader.specs.Reading.{Reading}
use Rattle.capture_faults.specs.declared.ending.Ending.{Ending}
use Rattle.capture_loop.specs.declared.stop.Stop.{Stop}
use Rattle.capture_loop.specs.declared.stop.Stop.TheVariants.{Memory, NotPut}
use Rattle.capture_loop.specs.Batches.{AreWholeBy, IsCutAt}
use Rattle.capture_loop.specs.declared.portions.Portions.{Portions}
use Rattle.capture_loop.specs.Leaves.{Lines, LoopLeavesBy, Reports}
use Rattle.capture_loop.specs.Looping.{HasPut, Standing, Stands, Untold}
use Rattle.capture_loop.specs.Reading.{HaveCome}
use Rattle.capture_loop.proofs.LeavesLemmas.{AreWhole-more, HasPut-cut, HasPut-more, HaveFirst-come, leaves_some}
use Rattle.capture_loop.proofs.LoopLemmas.{last_memory}

-- what was served of batches whose text is known to be their lines
abbrev pub Implies : (served then : Lines) → Type 0
Implies served then = (batches : List (List (List ℕ))) (text : List ℕ) → served batches text → then batches text

module _ {C : Type 0} (portions : Portions) (lines : Lines) (tells : C → List ℕ → Type 0) (link : ℕ)
    (first left before : Option (List ℕ)) where
  -- what stands by what was served stands by what follows of it
  pub Stands-map : (served then : Lines) (many : ℕ) (all : List (List ℕ)) (now : Option (List ℕ)) (held : List ℕ) →
      Implies served then → Stands portions served link first many all before now held →
      Stands portions then link first many all before now held
  Stands-map served then many all now held follows stands = record {
    batches = stands.batches;
    text = stands.text;
    count = stands.count;
    firsts = stands.firsts;
    whole = stands.whole;
    done = follows stands.batches stands.text stands.done;
    put = stands.put;
  }

  pub Standing-map : (untold : Option C) (served then : Lines) (many : ℕ) (all : List (List ℕ))
      (now : Option (List ℕ)) (held : List ℕ) → Implies served then →
      Standing portions served lines tells untold link first left many all before now held →
      Standing portions then lines tells untold link first left many all before now held
  Standing-map None served then many all now held follows stands =
      Stands-map served then many all now held follows stands
  Standing-map (Some closed) served then many all now held follows u = record {
    packets = u.packets;
    last = u.last;
    front = u.front;
    parts = u.parts;
    long = u.long;
    count = u.count;
    few = u.few;
    some = u.some;
    served_so = λ text tell.
        follows (u.front.batches ++ u.last ∷ []) (u.front.text ++ text) (u.served_so text tell);
    come = u.come;
  }

  -- memory ran out, and nothing more was put
  pub standing_memory : (untold : Option C) (served : Lines) (report : Reports) (can_end : Ending → Type 0) (many : ℕ)
      (all : List (List ℕ)) (now : Option (List ℕ)) (held : List ℕ) → Implies served lines →
      Standing portions served lines tells untold link first left many all before now held →
      LoopLeavesBy portions lines report can_end link first left before now (Err Memory)
  standing_memory None served report can_end many all now held follows stands =
      last_memory portions lines report can_end served link first left many all before now held stands
      (follows stands.batches stands.text stands.done)
  standing_memory (Some closed) served report can_end many all now held follows u =
      last_memory portions lines report can_end lines link first left (length u.packets) u.packets before now held
      u.front u.front.done

  module _ (closed : C) (served : Lines) (many : ℕ) (all : List (List ℕ)) (mid after : Option (List ℕ))
      (held text : List ℕ) (u : Untold portions served lines tells closed link first left many all before mid held)
      (tell : tells closed text) where
    few : length all ≤ portions.limit
    few = omega (arith, u.count, u.few)

    whole : AreWholeBy portions all (u.front.batches ++ u.last ∷ [])
    whole = subst (λ (ps : List (List ℕ)). AreWholeBy portions ps (u.front.batches ++ u.last ∷ [])) u.parts
        (AreWhole-more portions u.packets u.last u.front.batches u.front.whole u.long)

    -- all lines of the last batch were put
    pub settled : (then : Lines) (held_then : List ℕ) → Implies served then → Appends mid after (held ++ text) →
        held_then ≡ [] → Stands portions then link first many all before after held_then
    settled then held_then follows put none = record {
      batches = u.front.batches ++ u.last ∷ [];
      text = u.front.text ++ text;
      count = u.count;
      firsts = HaveFirst-come portions.limit link first left u.come.0 all few u.come.1;
      whole = whole;
      done = follows (u.front.batches ++ u.last ∷ []) (u.front.text ++ text) (u.served_so text tell);
      put = subst (λ (h : List ℕ). HasPut before after h (u.front.text ++ text)) (sym none)
          (HasPut-more before mid after held u.front.text text u.front.put put);
    }

    -- or a front of them
    pub cut_off : (report : Reports) (can_end : Ending → Type 0) → Implies served lines →
        AppendsFront mid after (held ++ text) →
        LoopLeavesBy portions lines report can_end link first left before after (Err NotPut)
    cut_off report can_end follows front =
        leaves_some portions lines report can_end link first left before after u.come.0 all
        (u.front.batches ++ u.last ∷ []) (u.front.text ++ text) u.come.1 few whole
        (follows (u.front.batches ++ u.last ∷ []) (u.front.text ++ text) (u.served_so text tell))
        (HasPut-cut before mid after held u.front.text text u.front.put front)

  -- one whole batch more was served, and is not told
  pub untold_next : (closed : C) (served then : Lines) (reading : Reading) (many more : ℕ) (all last : List (List ℕ))
      (now : Option (List ℕ)) (held : List ℕ) →
      (stands : Stands portions served link first many all before now held) →
      Implies served lines → HaveCome link first left reading (all ++ last) → IsCutAt portions many (length last) →
      more ≡ many + length last → more ≤ portions.limit → ((text : List ℕ) × tells closed text) →
      ((text : List ℕ) → tells closed text → then (stands.batches ++ last ∷ []) (stands.text ++ text)) →
      Untold portions then lines tells closed link first left more (all ++ last) before now held
  untold_next closed served then reading many more all last now held stands follows come long is few some served_so =
      record {
        packets = all;
        last = last;
        front = record {
          batches = stands.batches;
          text = stands.text;
          count = refl;
          firsts = stands.firsts;
          whole = stands.whole;
          done = follows stands.batches stands.text stands.done;
          put = stands.put;
        };
        parts = refl;
        long = subst (λ (n : ℕ). IsCutAt portions n (length last)) (sym stands.count) long;
        count = omega (arith, length-append all last, stands.count, is);
        few = few;
        some = some;
        served_so = served_so;
        come = (reading, come);
      }

  -- nothing is to be told of it, and no text is held
  pub stands_next : (served then : Lines) (reading : Reading) (many more : ℕ) (all last : List (List ℕ))
      (now : Option (List ℕ)) (held : List ℕ) →
      (stands : Stands portions served link first many all before now held) →
      HaveCome link first left reading (all ++ last) → IsCutAt portions many (length last) →
      more ≡ many + length last → more ≤ portions.limit →
      then (stands.batches ++ last ∷ []) (stands.text ++ []) →
      Stands portions then link first more (all ++ last) before now held
  stands_next served then reading many more all last now held stands come long is few served_so =
      let count : length (all ++ last) ≡ more = omega (arith, length-append all last, stands.count, is) in
      record {
        batches = stands.batches ++ last ∷ [];
        text = stands.text;
        count = count;
        firsts = HaveFirst-come portions.limit link first left reading (all ++ last) (omega (arith, count, few)) come;
        whole = AreWhole-more portions all last stands.batches stands.whole
            (subst (λ (n : ℕ). IsCutAt portions n (length last)) (sym stands.count) long);
        done = subst (then (stands.batches ++ last ∷ [])) (append-nil stands.text) served_so;
        put = stands.put;
      }

  -- so a batch more was served: what is kept of it is to be told, or there is nothing to tell
  pub standing_next : (untold : Option C) (closed : C) (served then : Lines) (reading : Reading) (many more : ℕ)
      (all last : List (List ℕ)) (now : Option (List ℕ)) (held : List ℕ) →
      (stands : Stands portions served link first many all before now held) →
      Implies served lines → HaveCome link first left reading (all ++ last) → IsCutAt portions many (length last) →
      more ≡ many + length last → more ≤ portions.limit → ((text : List ℕ) × tells closed text) →
      ((text : List ℕ) → tells closed text → then (stands.batches ++ last ∷ []) (stands.text ++ text)) →
      ForSome untold (λ kept. kept ≡ closed) →
      IfNone untold ((held ≡ []) × ((text : List ℕ) → tells closed text → text ≡ [])) →
      Standing portions then lines tells untold link first left more (all ++ last) before now held
  standing_next None closed served then reading many more all last now held stands follows come long is few some
      served_so kept none =
      stands_next served then reading many more all last now held stands come long is few
      (subst (λ (t : List ℕ). then (stands.batches ++ last ∷ []) (stands.text ++ t)) (none.1 some.0 some.1)
      (served_so some.0 some.1))
  standing_next (Some kept_one) closed served then reading many more all last now held stands follows come long is few
      some served_so kept none =
      let same : kept_one ≡ closed = kept kept_one refl in
      untold_next kept_one served then reading many more all last now held stands follows come long is few
      (some.0, subst (λ (one : C). tells one some.0) (sym same) some.1)
      (λ text tell. served_so text (subst (λ (one : C). tells one text) same tell))

-- what is kept of a batch can be told
pub kept_tells : {C : Type 0} (P : C → Type 0) (untold : Option C) (closed : C) →
    ForSome untold (λ kept. kept ≡ closed) → P closed → ForSome untold P
kept_tells {C} P untold closed kept holds = λ one is. subst P (sym (kept one is)) holds

-- what holds of the stop that it is holds of the one that was met
pub if_err : {T : Type 0} (P : Stop → Type 0) (result : Result T Stop) (at : Stop) →
    IsErrAnd result (λ (stop : Stop). stop ≡ at) → P at → IfErr result P
if_err P (Ok x) at is p = tt
if_err P (Err stop) at is p = subst P (sym is) p

-- no text is held where the last batch was told and put, or no batch was untold
pub all_put : {C : Type 0} (untold : Option C) (many : ℕ) (old new : List ℕ) →
    IfNone untold (0 < many → old ≡ []) → MatchOption untold (new ≡ old) (λ closed. new ≡ []) → 0 < many → new ≡ []
all_put None many old new held kept some = kept ∙ held some
all_put (Some closed) many old new held put some = put

-- what is said of an answer that is an error holds where it is one
pub at_err : {T E : Type 0} (P : Type 0) (result : Result T E) (e : E) → result ≡ Err e → OnErr result P → P
at_err P result e is held = subst (λ (r : Result _ _). OnErr r P) is held

-- and what is said of one that is not, where it is not
pub at_ok : {T E : Type 0} (P : T → Type 0) (result : Result T E) (x : T) → result ≡ Ok x → IfOk result P → P x
at_ok P result x is held = subst (λ (r : Result _ _). IfOk r P) is held

-- what holds anyway holds of an error
pub OnErr-any : {T E : Type 0} (P : Type 0) (result : Result T E) → P → OnErr result P
OnErr-any P (Ok x) p = tt
OnErr-any P (Err e) p = p

-- what follows of what is said of an error is said of it
pub OnErr-map : {T E : Type 0} (A P : Type 0) (result : Result T E) → OnErr result A → (A → P) → OnErr result P
OnErr-map A P (Ok x) held follows = tt
OnErr-map A P (Err e) held follows = follows held

-- and so of what is none
pub OnOk-map : {T E : Type 0} (A B P : Type 0) (result : Result T E) → OnOk result A → OnOk result B →
    (A → B → P) → OnOk result P
OnOk-map A B P (Ok x) one two follows = follows one two
OnOk-map A B P (Err e) one two follows = tt

-- what follows where nothing is untold
pub IfNone-map : {C : Type 0} (A P : Type 0) (untold : Option C) → IfNone untold A → (A → P) → IfNone untold P
IfNone-map A P None held follows = follows held
IfNone-map A P (Some closed) held follows = tt

pub IfNone-any : {C : Type 0} (P : Type 0) (untold : Option C) → P → IfNone untold P
IfNone-any P None held = held
IfNone-any P (Some closed) held = tt

-- a run that stops leaves what it leaves by the stop that was met
pub leaves_err : (portions : Portions) (lines : Lines) (report : Reports) (can_end : Ending → Type 0) (link : ℕ)
    (first left before now : Option (List ℕ)) (result : Result Ending Stop) (stop : Stop) →
    IsErrAnd result (λ (met : Stop). met ≡ stop) →
    LoopLeavesBy portions lines report can_end link first left before now (Err stop) →
    LoopLeavesBy portions lines report can_end link first left before now result
leaves_err portions lines report can_end link first left before now (Ok ending) stop is leaves = absurd is
leaves_err portions lines report can_end link first left before now (Err met) stop is leaves =
    subst (λ (s : Stop). LoopLeavesBy portions lines report can_end link first left before now (Err s)) (sym is) leaves
