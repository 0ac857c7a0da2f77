-- What was put makes what a run leaves.
use Rattle.std.proofs.Common.{◌≡◌, ◌<◌, ◌≤◌, ◌⊎◌, ◌+◌, Bool, true, false, ℕ, List, [], ◌∷◌, ◌++◌, length, Option, Some, None, Result, Ok, Err, inl, inr, refl, sym, ap, subst, ◌∙◌, append_assoc, append-nil, length-append, arith}
use Rattle.std.specs.List.{flat_map, AllByRecursion}
use Rattle.std.proofs.lemmas.Bool.{cases_lt}
use Rattle.std.specs.Io.KnownBytes.{Appends, Keeps}
use Rattle.std.proofs.KnownBytes.{Appends-trans, Appends-nil, Consumes-nil}
use Rattle.edge_traits.specs.Edge.{AppendsFront}
use Rattle.pcapng_reader.specs.Reading.{Reading}
use Rattle.pcapng_reader.proofs.ReadFacts.{read_longer}
use Rattle.capture_faults.specs.declared.ending.Ending.{Ending}
use Rattle.capture_loop.specs.declared.portions.Portions.{Portions}
use Rattle.capture_loop.specs.declared.stop.Stop.{Stop}
use Rattle.capture_loop.specs.declared.stop.Stop.TheVariants.{Memory, NotPut}
use Rattle.capture_loop.specs.Input.{BeginsUpTo, IsFirstUpTo, in_batches}
use Rattle.capture_loop.specs.Reading.{HaveCome, HaveEnded}
use Rattle.capture_loop.specs.Batches.{AreBatchesBy, AreCut, AreWholeBy, IsCutAt, cut_of, fits_in}
use Rattle.capture_loop.specs.Leaves.{Accounts, IsMet, LeavesBy, LeavesText, LoopLeavesBy, Lines, Reports, Tellings, TookFor}
use Rattle.capture_loop.specs.Looping.{HasPut, HaveFirst, OnMemory, OnNotPut}
use Rattle.capture_loop.proofs.ReadingLemmas.{taken_by, told_by}
use Rattle.capture_loop.proofs.ServingLemmas.{begins_read, first_read}

-- ---- the text that was put

-- a front of a text that goes on behind what was put
pub AppendsFront-behind : (before mid after : Option (List ℕ)) (done text whole : List ℕ) → Appends before mid done →
    done ++ text ≡ whole → AppendsFront mid after text → AppendsFront before after whole
AppendsFront-behind before mid after done text whole put is front =
    record {
      front = done ++ front.front;
      rest = front.rest;
      parts = sym is ∙ ap (λ (t : List ℕ). done ++ t) front.parts ∙ sym (append_assoc done front.front front.rest);
      appended = Appends-trans before mid after done front.front put front.appended;
    }

-- all that is held is put, with more behind it
pub HasPut-more : (before mid after : Option (List ℕ)) (held text more : List ℕ) → HasPut before mid held text →
    Appends mid after (held ++ more) → HasPut before after [] (text ++ more)
HasPut-more before mid after held text more put appended =
    record {
      done = text ++ more;
      put = subst (Appends before after)
          (sym (append_assoc put.done held more) ∙ ap (λ (t : List ℕ). t ++ more) put.parts)
          (Appends-trans before mid after put.done (held ++ more) put.put appended);
      parts = append-nil (text ++ more);
      whole = inr refl;
    }

pub HasPut-cut : (before mid after : Option (List ℕ)) (held text more : List ℕ) → HasPut before mid held text →
    AppendsFront mid after (held ++ more) → AppendsFront before after (text ++ more)
HasPut-cut before mid after held text more put front =
    AppendsFront-behind before mid after put.done (held ++ more) (text ++ more) put.put
    (sym (append_assoc put.done held more) ∙ ap (λ (t : List ℕ). t ++ more) put.parts) front

-- nothing more is what it was
Keeps-nothing : (before now : Option (List ℕ)) → Appends before now [] → Keeps before now
Keeps-nothing None now put = tt
Keeps-nothing (Some xs) None put = absurd put
Keeps-nothing (Some xs) (Some ys) put = put ∙ append-nil xs

-- what was put, where memory runs out: nothing, or all
pub HasPut-kept : (before now : Option (List ℕ)) (held text : List ℕ) → HasPut before now held text →
    Keeps before now ⊎ Appends before now text
HasPut-kept before now held text put = choose put.whole
  where
    choose : (put.done ≡ []) ⊎ (held ≡ []) → Keeps before now ⊎ Appends before now text
    choose (inl none) = inl (Keeps-nothing before now (subst (Appends before now) none put.put))
    choose (inr none) =
        inr (subst (Appends before now)
        (sym (append-nil put.done) ∙ ap (λ (l : List ℕ). put.done ++ l) (sym none) ∙ put.parts) put.put)

pub HasPut-start : (now : Option (List ℕ)) (held : List ℕ) → HasPut now now held held
HasPut-start now held = record { done = []; put = Appends-nil now; parts = refl; whole = inl refl }

-- ---- batches

parts_more : (xs : List (List (List ℕ))) (x : List (List ℕ)) →
    flat_map (λ batch. batch) (xs ++ x ∷ []) ≡ flat_map (λ batch. batch) xs ++ x
parts_more [] x = append-nil x
parts_more (y ∷ xs) x =
    ap (λ (ps : List (List ℕ)). y ++ ps) (parts_more xs x) ∙ sym (append_assoc y (flat_map (λ batch. batch) xs) x)

-- a batch that may be cut has no more packets than there is room for
fits_few : (eager : Bool) (room packets : ℕ) → fits_in eager room packets → packets ≤ room
fits_few false room packets is = omega (arith, is)
fits_few true room packets is = is.1

-- and has some, where there is room
pub fits_some : (eager : Bool) (room packets : ℕ) → 0 < room → fits_in eager room packets → 0 < packets
fits_some false room packets some is = omega (arith, some, is)
fits_some true room packets some is = is.0

-- so many that may not be cut are not those that may
pub fits_more : (eager : Bool) (room old new : ℕ) → old ≤ new → fits_in eager room new →
    (fits_in eager room old → ⊥) → old < new
fits_more false room old new grows is cannot = elim (cases_lt old new) [
  | inl less ↦ less
  | inr not ↦ absurd (cannot (omega (arith, is, not, grows)))
]
fits_more true room old new grows is cannot = elim (cases_lt old new) [
  | inl less ↦ less
  | inr not ↦ absurd (cannot (omega (arith, is.0, not, grows), omega (arith, is.1, grows)))
]

module _ (portions : Portions) where
  pub cut_few : (before packets : ℕ) → IsCutAt portions before packets → packets ≤ cut_of portions before
  cut_few before packets is = fits_few portions.eager (cut_of portions before) packets is

  -- one batch more behind those that are cut
  AreCut-more : (before : ℕ) (xs : List (List (List ℕ))) (x : List (List ℕ)) → AreCut portions before xs →
      IsCutAt portions (before + length (flat_map (λ batch. batch) xs)) (length x) →
      AreCut portions before (xs ++ x ∷ [])
  AreCut-more before [] x all one =
      (subst (λ (n : ℕ). IsCutAt portions n (length x)) (omega arith) one, tt)
  AreCut-more before (y ∷ xs) x all one =
      let sum = length-append y (flat_map (λ (batch : List (List ℕ)). batch) xs) in (
        all.0,
        AreCut-more (before + length y) xs x all.1
            (subst (λ (n : ℕ). IsCutAt portions n (length x)) (omega (arith, sum)) one),
      )

  pub AreWhole-none : AreWholeBy portions [] []
  AreWhole-none = record { parts = refl; each = tt }

  pub AreWhole-more : (all more : List (List ℕ)) (batches : List (List (List ℕ))) →
      AreWholeBy portions all batches → IsCutAt portions (length all) (length more) →
      AreWholeBy portions (all ++ more) (batches ++ more ∷ [])
  AreWhole-more all more batches whole long =
      record {
        parts = parts_more batches more ∙ ap (λ (ps : List (List ℕ)). ps ++ more) whole.parts;
        each = AreCut-more 0 batches more whole.each
            (subst (λ (n : ℕ). IsCutAt portions n (length more)) (omega (arith, ap length whole.parts)) long);
      }

  -- a last batch is begun, which may have fewer packets
  pub AreBatches-last : (all last : List (List ℕ)) (batches : List (List (List ℕ))) →
      AreWholeBy portions all batches → length last ≤ cut_of portions (length all) → (last ≡ [] → batches ≡ []) →
      AreBatchesBy portions (all ++ last) (batches ++ last ∷ [])
  AreBatches-last all last batches whole few begun =
      record {
        front = batches;
        last = last;
        parts = refl;
        all = parts_more batches last ∙ ap (λ (ps : List (List ℕ)). ps ++ last) whole.parts;
        whole = whole.each;
        few = subst (λ (n : ℕ). length last ≤ cut_of portions n) (sym (ap length whole.parts)) few;
        begun = begun;
      }

  -- or all batches are whole, and there are some
  last_of : (before : ℕ) (batch : List (List ℕ)) (batches : List (List (List ℕ))) →
      AreCut portions before (batch ∷ batches) →
      (front : List (List (List ℕ))) × (last : List (List ℕ)) × (batch ∷ batches ≡ front ++ last ∷ [])
      × AreCut portions before front
      × IsCutAt portions (before + length (flat_map (λ batch. batch) front)) (length last)
  last_of before batch [] all =
      ([], batch, refl, tt, subst (λ (n : ℕ). IsCutAt portions n (length batch)) (omega arith) all.0)
  last_of before batch (next ∷ batches) all =
      let rest = last_of (before + length batch) next batches all.1 in
      let sum = length-append batch (flat_map (λ (b : List (List ℕ)). b) rest.0) in (
        batch ∷ rest.0,
        rest.1,
        ap (λ (bs : List (List (List ℕ))). batch ∷ bs) rest.2,
        (all.0, rest.3),
        subst (λ (n : ℕ). IsCutAt portions n (length rest.1)) (omega (arith, sum)) rest.4,
      )

  some_not_none : (last : List (List ℕ)) → 0 < length last → last ≡ [] → ⊥
  some_not_none [] some none = omega (arith, some)
  some_not_none (p ∷ last) some none = cc

  pub AreBatches-whole : (all : List (List ℕ)) (batches : List (List (List ℕ))) → AreWholeBy portions all batches →
      ((before : ℕ) → 0 < cut_of portions before) → (length all ≡ 0) ⊎ AreBatchesBy portions all batches
  AreBatches-whole all [] whole some = inl (ap length (sym whole.parts))
  AreBatches-whole all (batch ∷ batches) whole some =
      let last = last_of 0 batch batches whole.each in
      let begins : ℕ = length (flat_map (λ (b : List (List ℕ)). b) last.0) in
      let here : IsCutAt portions begins (length last.1) =
      subst (λ (n : ℕ). IsCutAt portions n (length last.1)) (omega arith) last.4 in
      inr (record {
        front = last.0;
        last = last.1;
        parts = last.2;
        all = whole.parts;
        whole = last.3;
        few = cut_few begins (length last.1) here;
        begun = λ none. absurd (some_not_none last.1
            (fits_some portions.eager (cut_of portions begins) (length last.1) (some begins) here) none);
      })

-- a batch of so many
abbrev pub IsWhole : (size : ℕ) → List (List ℕ) → Type 0
IsWhole size batch = length batch ≡ size

-- batches that are cut all alike
pub AreCut-alike : (size before : ℕ) (batches : List (List (List ℕ))) → AreCut (in_batches size) before batches →
    AllByRecursion (IsWhole size) batches
AreCut-alike size before [] all = tt
AreCut-alike size before (batch ∷ batches) all = (all.0, AreCut-alike size (before + length batch) batches all.1)

-- ---- the input

-- the packets that were read are its first
come_first : (most link : ℕ) (first now : Option (List ℕ)) (reading : Reading) (packets : List (List ℕ))
    (bytes : List ℕ) →
    length packets ≤ most → (come : HaveCome link first now reading packets) → first ≡ Some bytes →
    IsFirstUpTo link most bytes packets
come_first most link first now reading packets bytes few come is =
    told_by (λ told left. IsFirstUpTo link most told packets) first now bytes come.0 is come.1
    (λ others left.
    first_read link most (come.0 ++ others) others reading packets few
    (read_longer link come.0 [] others reading packets come.2))

pub HaveFirst-come : (most link : ℕ) (first now : Option (List ℕ)) (reading : Reading) (packets : List (List ℕ)) →
    length packets ≤ most → HaveCome link first now reading packets → HaveFirst most link first packets
HaveFirst-come most link first now reading packets few come =
    record {
      told = λ bytes is. come_first most link first now reading packets bytes few come is;
      took = (now, (come.0, come.1, first_read link most come.0 [] reading packets few come.2));
    }

-- no packets are the first of any input
pub HaveFirst-none : (most link : ℕ) (first : Option (List ℕ)) → HaveFirst most link first []
HaveFirst-none most link first =
    record {
      told = λ bytes is. (omega arith, inl refl);
      took = (first, ([], Consumes-nil first, (omega arith, inl refl)));
    }

-- ---- what is left

module _ (portions : Portions) (lines : Lines) (report : Reports) (can_end : Ending → Type 0) (link : ℕ)
    (first left before after : Option (List ℕ)) where
  -- nothing was put
  pub leaves_nothing : Keeps before after →
      LoopLeavesBy portions lines report can_end link first left before after (Err Memory)
  leaves_nothing kept =
      record { told = λ bytes told. inl kept; took = (first, ([], Consumes-nil first, inl kept)) }

  module _ (packets : List (List ℕ)) (batches : List (List (List ℕ))) (ending : Ending) (text : List ℕ)
      (ended : HaveEnded portions.limit link first left packets ending)
      (cut : AreBatchesBy portions packets batches)
      (met : IsMet can_end ending) where
    -- the whole report was put
    pub leaves_whole : report batches ending text → Appends before after text →
        LoopLeavesBy portions lines report can_end link first left before after (Ok ending)
    leaves_whole is put =
        record {
          told = λ bytes told. (met, (text, (packets, ended.told bytes told, (batches, cut, is)), put));
          took = (ended.took.0, ended.took.1, (met, (text, (packets, ended.took.2, (batches, cut, is)), put)));
        }

    -- or a front of it
    pub leaves_front : report batches ending text → AppendsFront before after text →
        LoopLeavesBy portions lines report can_end link first left before after (Err NotPut)
    leaves_front is put =
        record {
          told = λ bytes told. inl (ending, met, (text, (packets, ended.told bytes told, (batches, cut, is)), put));
          took = (
            ended.took.0,
            ended.took.1,
            inl (ending, met, (text, (packets, ended.took.2, (batches, cut, is)), put)),
          );
        }

    -- or the lines of all batches
    pub leaves_less : lines batches text → Keeps before after ⊎ Appends before after text →
        LoopLeavesBy portions lines report can_end link first left before after (Err Memory)
    leaves_less is (inl kept) = leaves_nothing kept
    leaves_less is (inr put) =
        record {
          told = λ bytes told.
              inr (inl (ending, met, (text, (packets, ended.told bytes told, (batches, cut, is)), put)));
          took = (
            left,
            (
              ended.took.0,
              ended.took.1,
              inr (inl (ending, met, (text, (packets, ended.took.2, (batches, cut, is)), put))),
            ),
          );
        }

  -- lines of whole batches were put, and how the input ends is not known
  pub leaves_before : (packets : List (List ℕ)) (batches : List (List (List ℕ))) (text : List ℕ) →
      HaveFirst portions.limit link first packets → AreWholeBy portions packets batches → lines batches text →
      Keeps before after ⊎ Appends before after text →
      LoopLeavesBy portions lines report can_end link first left before after (Err Memory)
  leaves_before packets batches text firsts whole is (inl kept) = leaves_nothing kept
  leaves_before packets batches text firsts whole is (inr put) =
      record {
        told = λ bytes told. inr (inr (packets, firsts.told bytes told, (text, (batches, whole, is), put)));
        took =
            let took = firsts.took in
            (took.0, (took.1.0, took.1.1, inr (inr (packets, took.1.2, (text, (batches, whole, is), put)))));
      }

  module _ (reading : Reading) (packets : List (List ℕ)) (batches : List (List (List ℕ)))
      (text : List ℕ) (come : HaveCome link first left reading packets) (few : length packets ≤ portions.limit)
      (whole : AreWholeBy portions packets batches) (is : lines batches text) where
    pub leaves_some : AppendsFront before after text →
        LoopLeavesBy portions lines report can_end link first left before after (Err NotPut)
    leaves_some put =
        record {
          told = λ bytes told.
              inr (
                packets,
                told_by (λ all now. BeginsUpTo link portions.limit all now packets) first left bytes come.0 told come.1
                    (λ others now. begins_read link portions.limit come.0 others reading packets few come.2),
                (text, (batches, whole, is), put),
              );
          took = (
            come.0,
            come.1,
            inr (
              packets,
              taken_by (λ all now. BeginsUpTo link portions.limit all now packets) come.0
                  (begins_read link portions.limit come.0 [] reading packets few come.2),
              (text, (batches, whole, is), put),
            ),
          );
        }

  -- a run that stops leaves what it leaves where a write failed, and where memory ran out
  pub leaves_stop : (stop : Stop) (A B : Type 0) →
      OnNotPut {T = Unit {0}} (Err stop) A → OnMemory {T = Unit {0}} (Err stop) B →
      (A → LoopLeavesBy portions lines report can_end link first left before after (Err NotPut)) →
      (B → LoopLeavesBy portions lines report can_end link first left before after (Err Memory)) →
      LoopLeavesBy portions lines report can_end link first left before after (Err stop)
  leaves_stop Memory A B a b on_a on_b = on_b b
  leaves_stop NotPut A B a b on_a on_b = on_a a

-- ---- what follows of what is left

-- What a run leaves by some lines and reports it leaves by those that follow of them.
module _ (most link : ℕ) (front told front_then told_then : Tellings) (report report_then : Accounts)
    (can_end : Ending → Type 0)
    (fronts : (packets : List (List ℕ)) (text : List ℕ) → front packets text → front_then packets text)
    (tolds : (packets : List (List ℕ)) (text : List ℕ) → told packets text → told_then packets text)
    (reports : (packets : List (List ℕ)) (ending : Ending) (text : List ℕ) → report packets ending text →
    report_then packets ending text) where
  text_follows : (bytes : List ℕ) (left before after : Option (List ℕ)) (answer : Result Ending Stop) →
      LeavesText most link front told report can_end bytes left before after answer →
      LeavesText most link front_then told_then report_then can_end bytes left before after answer
  text_follows bytes left before after (Ok ending) (met, (text, (packets, served, is), put)) =
      (met, (text, (packets, served, reports packets ending text is), put))
  text_follows bytes left before after (Err NotPut) (inl (ending, met, (text, (packets, served, is), put))) =
      inl (ending, met, (text, (packets, served, reports packets ending text is), put))
  text_follows bytes left before after (Err NotPut) (inr (packets, begins, (text, is, put))) =
      inr (packets, begins, (text, fronts packets text is, put))
  text_follows bytes left before after (Err Memory) (inl kept) = inl kept
  text_follows bytes left before after (Err Memory) (inr (inl (ending, met, (text, (packets, served, is), put)))) =
      inr (inl (ending, met, (text, (packets, served, tolds packets text is), put)))
  text_follows bytes left before after (Err Memory) (inr (inr (packets, firsts, (text, is, put)))) =
      inr (inr (packets, firsts, (text, fronts packets text is, put)))

  took_follows : (answer : Result Ending Stop) (first left : Option (List ℕ)) (P Q : List ℕ → Type 0) →
      ((taken : List ℕ) → P taken → Q taken) → TookFor answer first left P → TookFor answer first left Q
  took_follows (Ok ending) first left P Q follows (taken, lost, is) = (taken, lost, follows taken is)
  took_follows (Err NotPut) first left P Q follows (taken, lost, is) = (taken, lost, follows taken is)
  took_follows (Err Memory) first left P Q follows (between, (taken, lost, is)) =
      (between, (taken, lost, follows taken is))

  pub leaves_follows : (first left before after : Option (List ℕ)) (answer : Result Ending Stop) →
      LeavesBy most link front told report can_end first left before after answer →
      LeavesBy most link front_then told_then report_then can_end first left before after answer
  leaves_follows first left before after answer leaves = record {
    told = λ bytes is. text_follows bytes left before after answer (leaves.told bytes is);
    took = took_follows answer first left
        (λ taken. LeavesText most link front told report can_end taken (Some []) before after answer)
        (λ taken. LeavesText most link front_then told_then report_then can_end taken (Some []) before after answer)
        (λ taken is. text_follows taken (Some []) before after answer is) leaves.took;
  }

-- what is known stays known
pub Keeps-same : (known : Option (List ℕ)) → Keeps known known
Keeps-same None = tt
Keeps-same (Some bytes) = refl
