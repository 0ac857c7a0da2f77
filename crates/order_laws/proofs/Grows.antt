-- What one event may change of the history and of what is kept beside it, and what therefore stays: all that was
-- published, and all that is known of the other seats.
use Rattle.std.proofs.Common.{◌≡◌, ◌≢◌, ℕ, ◌+◌, ◌<◌, ◌≤◌, ◌⊎◌, true, List, length, get_or, take, drop, Option, Some, inl, refl, sym, ap, ◌∙◌, subst, arith}
use Rattle.step_counts.specs.declared.rows.SeatRows.{SeatRows}
use Rattle.plain_map.specs.declared.calls.Call.{Call}
use Rattle.plain_map.specs.declared.calls.Reply.{Reply}
use Rattle.plain_map.specs.declared.records.Record.{Record}
use Rattle.plain_map.specs.Calls.{key_in}
use Rattle.bucket_states.specs.declared.ops.Op.{Op}
use Rattle.bucket_states.specs.States.{BucketState}
use Rattle.bucket_states.specs.Items.{reply_in}
use Rattle.bucket_states.specs.Laws.{applied_of, reply_at}
use Rattle.table_model.specs.Setup.{Setup, rules_of}
use Rattle.table_model.specs.Directories.{DirectoryState, bucket_of}
use Rattle.table_model.specs.DirectoryChange.{LoadedBucket}
use Rattle.table_model.specs.SeatStates.{Account, Flight, Stand, Idle, InFlight}
use Rattle.table_model.specs.declared.rounds.Aim.{Aim}
use Rattle.table_model.specs.declared.rounds.Aim.TheVariants.{ForLookup, ForFirstRound, ForSecondRound, ForLastLook}
use Rattle.table_model.specs.Phases.{Phase, SeeDone, FindRoot, FindDepth, FindEntry, LookWord, LookCount, LookItems, LastWord, LastRow, StoreDone}
use Rattle.run_invariant.proofs.Invariant.{Common, Local, Moves, KeepsStand, Keeps, bits}
use Rattle.order_laws.proofs.Tale.{Past, past_of, Tale, Made, IsAnnounced, RowMade, VersionMade, Upto, HasRow, HasLook, HasReply, IsRecord, Answers, LooksLater, LooksBy, LooksAt, KnowsAim, Knows, Seated}

-- an event of seat me, in its call with this number
pub record Grows (me number : ℕ) (p : Past) (t : Tale) (q : Past) (u : Tale) : Type 0 where
  pub named_up : (b : ℕ) → p.named b ≡ true →
      (q.named b ≡ true) × (q.pre b ≡ p.pre b) × (q.deep b ≡ p.deep b) × (p.top b ≤ q.top b)
  pub rows : (b i : ℕ) → p.named b ≡ true → i ≤ p.top b →
      (q.row_at b i ≡ p.row_at b i) × (q.words_at b i ≡ p.words_at b i) × (q.state_at b i ≡ p.state_at b i)
  pub dirs : (v : ℕ) → v ≤ p.dir_top → (v ≤ q.dir_top) × (q.dir_at v ≡ p.dir_at v)
  pub announced : (s j : ℕ) → j < p.ops s → (j < q.ops s) × (q.op_at s j ≡ p.op_at s j)
  pub others : (s : ℕ) → s ≢ me → (q.ops s ≡ p.ops s) × (u.answers s ≡ t.answers s)
  pub calls : (s m : ℕ) → (s ≢ me) ⊎ (m ≢ number) →
      (u.call_at s m ≡ t.call_at s m) × ((x : ℕ) → u.seen s m x ≡ t.seen s m x) × (u.looked s m ≡ t.looked s m)
      × (u.waits s m ≡ t.waits s m)

-- an event that publishes nothing and keeps nothing new
pub grows_none : (me number : ℕ) (p : Past) (t : Tale) → Grows me number p t p t
grows_none me number p t = record {
  named_up = λ b n. (n, refl, refl, omega arith);
  rows = λ b i n o. (refl, refl, refl);
  dirs = λ v o. (o, refl);
  announced = λ s j o. (o, refl);
  others = λ s n. (refl, refl);
  calls = λ s m n. (refl, λ x. refl, refl, refl);
}

-- one that changes the history alone
pub grows_moved : (setup : Setup) (me number : ℕ) (c d : Common) (t u : Tale) → Moves setup me c d →
    ((s : ℕ) → u.answers s ≡ t.answers s) →
    ((s m : ℕ) → (u.call_at s m ≡ t.call_at s m) × ((x : ℕ) → u.seen s m x ≡ t.seen s m x)
    × (u.looked s m ≡ t.looked s m) × (u.waits s m ≡ t.waits s m)) → Grows me number (past_of c) t (past_of d) u
grows_moved setup me number c d t u m a k = record {
  named_up = m.named_up;
  rows = m.rows;
  dirs = λ v o. (omega (arith, o, m.dir_up), (m.dirs v o).1);
  announced = λ s j o. (omega (arith, o, m.ops_up s), (m.calls s j o).0);
  others = λ s n. (ap (λ r. r.op_rows) (m.used s n), a s);
  calls = λ s i n. k s i;
}

module _ (setup : Setup) (me number : ℕ) (p : Past) (t : Tale) (q : Past) (u : Tale) (g : Grows me number p t q u) where
  -- an announced op stays so
  is_announced : (s : ℕ) (op : Op) → IsAnnounced setup p t s op → IsAnnounced setup q u s op
  is_announced s op a = let r = g.announced s a.0 a.1 in (a.0, r.0, a.2 ∙ sym r.1)

  -- how a row was made stays told
  pub row_made : (was now : BucketState) (ops : List (Option Op)) → RowMade setup p t was now ops →
      RowMade setup q u was now ops
  row_made was now ops r = record { long = r.long; is = r.is; real = λ s op a. is_announced s op (r.real s op a) }

  -- the prefix of a bucket stays
  suits_up : (b : ℕ) (call : Call) → p.named b ≡ true → bits setup (p.deep b) (key_in call) ≡ p.pre b →
      bits setup (q.deep b) (key_in call) ≡ q.pre b
  suits_up b call n e = let s = g.named_up b n in ap (λ d. bits setup d (key_in call)) s.2 ∙ e ∙ sym s.1

  -- and so does how a version was made
  pub version_made : (v : ℕ) (was now : DirectoryState) (m : Made) →
      ((b : ℕ) → p.named b ≡ true → (q.from b ≡ p.from b) × (q.born b ≡ p.born b)) →
      ((b : ℕ) → q.named b ≡ true → q.born b ≡ v + 1 → p.named b ≡ true) →
      ((b : ℕ) → p.named b ≡ true → (p.state_at b (p.top b)).frozen ≡ true → q.top b ≡ p.top b) →
      VersionMade setup p t v was now m → VersionMade setup q u v was now m
  version_made v was now m same old frozen r = record {
    can = r.can;
    real = λ s op a. is_announced s op (r.real s op a);
    is = r.is;
    loads = λ k d h. let l = r.loads k d h in record {
      key = l.key;
      leads = l.leads;
      named = (g.named_up (get_or m.loaded k d).bucket l.named).0;
      deep = l.deep ∙ sym (g.named_up (get_or m.loaded k d).bucket l.named).2;
      last = λ f. stays (get_or m.loaded k d) l.named f (l.last f);
    };
    once = r.once;
    free = r.free;
    leaves = λ i d h. let l = r.leaves i d h in let b = m.fresh + i in record {
      named = (g.named_up b l.named).0;
      born = (same b l.named).1 ∙ l.born;
      state = (g.rows b 0 l.named (omega arith)).2 ∙ l.state;
      from = l.from ∙ ap (λ x. Some x) (sym (same b l.named).0);
    };
    only = λ b n e. let w = old b n e in r.only b w (sym (same b w).1 ∙ e);
  }
    where
      stays : (l : LoadedBucket) → p.named l.bucket ≡ true → l.state.frozen ≡ true →
          (l.state ≡ p.state_at l.bucket (p.top l.bucket)) × (l.row ≡ p.row_at l.bucket (p.top l.bucket)) →
          (l.state ≡ q.state_at l.bucket (q.top l.bucket)) × (l.row ≡ q.row_at l.bucket (q.top l.bucket))
      stays l n f e =
          let top = frozen l.bucket n (ap (λ (s : BucketState). s.frozen) (sym e.0) ∙ f) in
          let here = g.rows l.bucket (p.top l.bucket) n (omega arith) in
          (e.0 ∙ sym here.2 ∙ ap (q.state_at l.bucket) (sym top), e.1 ∙ sym here.0 ∙ ap (q.row_at l.bucket) (sym top))

  -- a reply stays in its row
  pub has_row : (s n : ℕ) (call : Call) (place : ℕ) (reply : Reply) → HasRow setup p t s n call place reply →
      HasRow setup q u s n call place reply
  has_row s n call place reply r =
      let up = g.named_up r.bucket r.named in
      let row = g.rows r.bucket r.at r.named r.inside in
      record {
        bucket = r.bucket;
        at = r.at;
        named = up.0;
        inside = omega (arith, r.inside, up.3);
        place_is = r.place_is ∙ sym row.0;
        suits = suits_up r.bucket call r.named r.suits;
        number_is = ap (λ (b : BucketState). applied_of b s) row.2 ∙ r.number_is;
        reply_is = ap (λ (b : BucketState). reply_at b s) row.2 ∙ r.reply_is;
      }

  -- and a lookup's in the row that it found
  pub has_look : (s n : ℕ) (call : Call) (place : ℕ) (reply : Reply) → u.looked s n ≡ t.looked s n →
      HasLook setup p t s n call place reply → HasLook setup q u s n call place reply
  has_look s n call place reply same r =
      let up = g.named_up r.bucket r.named in
      let row = g.rows r.bucket r.at r.named r.inside in
      record {
        bucket = r.bucket;
        at = r.at;
        named = up.0;
        inside = omega (arith, r.inside, up.3);
        place_is = r.place_is ∙ sym row.0;
        suits = suits_up r.bucket call r.named r.suits;
        looked_is = same ∙ r.looked_is;
        reply_is = r.reply_is ∙ ap (λ (b : BucketState). reply_in (rules_of setup) b.items call) (sym row.2);
      }

  -- so a reply stays that of its row
  pub has_reply : (s n : ℕ) (call : Call) (place : ℕ) (reply : Reply) → u.looked s n ≡ t.looked s n →
      HasReply setup p t s n call place reply → HasReply setup q u s n call place reply
  has_reply s n call place reply same r = record {
    update = λ e. has_row s n call place reply (r.update e);
    lookup = λ e. has_look s n call place reply same (r.lookup e);
  }

  -- and a record stays right
  pub is_record : (s n : ℕ) (r : Record) → (s ≢ me) ⊎ (n ≢ number) → IsRecord setup p t s n r → IsRecord setup q u s n r
  is_record s n r o k = let same = g.calls s n o in record {
    seat_is = k.seat_is;
    number_is = k.number_is;
    call_is = k.call_is ∙ sym same.0;
    seen_is = λ x. k.seen_is x ∙ sym (same.1 x);
    reply = has_reply s n r.call r.place r.reply same.2 k.reply;
  }

  -- what others know stays
  module _ (s : ℕ) (o : s ≢ me) where
    -- numbers of other seats stay as high as they were
    pub upto_stays : (last : ℕ) → Upto setup p t s last → Upto setup q u s last
    upto_stays last k = record {
      ops = λ j h. let before : j < p.ops s = omega (arith, h, (g.others s o).0) in
          omega (arith, k.ops j before, ap (λ (x : Op). x.number) (g.announced s j before).1);
      looks = λ m l e. k.looks m l (sym (g.calls s m (inl o)).2 ∙ e);
      waits = λ m d e. k.waits m d (sym (g.calls s m (inl o)).3 ∙ e);
    }

    -- and their answers stay
    pub answers_stay : (last : ℕ) (records : List Record) → Answers setup p t s last records →
        Answers setup q u s last records
    answers_stay last records k = record {
      many = (g.others s o).1 ∙ k.many;
      each = λ i d h. is_record s (i + 1) (get_or records i d) (inl o) (k.each i d h);
      unseen = λ m x h. (g.calls s m (inl o)).1 x ∙ k.unseen m x h;
    }

    -- what a lookup has yet to find stays to be found
    later_stays : (n : ℕ) (call : Call) → LooksLater setup p t s n call → LooksLater setup q u s n call
    later_stays n call k = record { lookup = k.lookup; none = (g.calls s n (inl o)).2 ∙ k.none }

    -- the bucket that it found stays the key's
    by_stays : (n : ℕ) (call : Call) (dir : ℕ) → LooksBy setup p t s n call dir → LooksBy setup q u s n call dir
    by_stays n call dir k = record { later = later_stays n call k.later; waits = (g.calls s n (inl o)).3 ∙ k.waits }

    -- what a find is for stays known
    aim_stays : (n : ℕ) (call : Call) (local : Local) (aim : Aim) → KnowsAim setup p t s n call local aim →
        KnowsAim setup q u s n call local aim
    aim_stays n call local ForLookup k = by_stays n call local.dir k
    aim_stays n call local ForFirstRound k = tt
    aim_stays n call local (ForSecondRound first) k = tt
    aim_stays n call local ForLastLook k = tt

    -- the row that it looks at stays
    at_stays : (n : ℕ) (call : Call) (local : Local) → p.named local.at ≡ true → LooksAt setup p t s n call local →
        LooksAt setup q u s n call local
    at_stays n call local there k = record {
      lookup = k.lookup;
      looked_is = (g.calls s n (inl o)).2 ∙ k.looked_is;
      suits = suits_up local.at call there k.suits;
    }

    -- so what is known of a seat in a phase stays known
    knows_stays : (c : Common) (used : SeatRows) (flight : Flight) (local : Local) (phase : Phase) → past_of c ≡ p →
        Keeps setup c s used flight local phase → Knows setup p t s flight.number flight.call local phase →
        Knows setup q u s flight.number flight.call local phase
    knows_stays c used flight local SeeDone e h k =
        record { begun = (k.begun.0, k.begun.1, upto_stays k.begun.0 k.begun.2) }
    knows_stays c used flight local (FindRoot ForLookup) e h k = later_stays flight.number flight.call k
    knows_stays c used flight local (FindRoot ForFirstRound) e h k = tt
    knows_stays c used flight local (FindRoot (ForSecondRound first)) e h k = tt
    knows_stays c used flight local (FindRoot ForLastLook) e h k = tt
    knows_stays c used flight local (FindDepth aim root) e h k = aim_stays flight.number flight.call local aim k
    knows_stays c used flight local (FindEntry aim root depth) e h k = aim_stays flight.number flight.call local aim k
    knows_stays c used flight local (LookWord root bucket) e h k = record {
      by = by_stays flight.number flight.call local.dir k.by;
      old = (g.dirs local.dir k.old).0;
      led = ap (λ d. bucket_of (rules_of setup) d (key_in flight.call)) (g.dirs local.dir k.old).1 ∙ k.led;
    }
    knows_stays c used flight local (LookCount row) e h k =
        at_stays flight.number flight.call local (subst (λ (x : Past). x.named local.at ≡ true) e h.there) k
    knows_stays c used flight local (LookItems row count words) e h k =
        let n = subst (λ (x : Past). x.named local.at ≡ true) e h.there in
        let same = (g.rows local.at local.base n (subst (λ (x : Past). local.base ≤ x.top local.at) e h.old)).1 in
        record {
          looks = at_stays flight.number flight.call local n k.looks;
          count_is = k.count_is ∙ ap (λ ws. get_or ws 4 0) (sym same);
          words_are = k.words_are ∙ ap (λ ws. take (length words) (drop 5 ws)) (sym same);
        }
    knows_stays c used flight local (LastWord root bucket) e h k =
        record { suits = suits_up bucket flight.call (subst (λ (x : Past). x.named bucket ≡ true) e h.there) k.suits }
    knows_stays c used flight local (LastRow row words) e h k =
        record {
          suits = suits_up local.at flight.call (subst (λ (x : Past). x.named local.at ≡ true) e h.there)
              k.suits;
        }
    knows_stays c used flight local (StoreDone reply place) e h k =
        has_reply s flight.number flight.call place reply (g.calls s flight.number (inl o)).2 k
    knows_stays c used flight local phase e h k = tt

    -- and all that is known of a seat does
    pub seated_stays : (c : Common) (local : Local) (account : Account) (stand : Stand) → past_of c ≡ p →
        KeepsStand setup c s account.used local stand → Seated setup p t s local account stand →
        Seated setup q u s local account stand
    seated_stays c local account Idle e h k =
        record {
          answers = answers_stay (length account.records) account.records k.answers;
          upto = upto_stays (length account.records) k.upto;
        }
    seated_stays c local account (InFlight flight phase) e h k = record {
      answers = answers_stay flight.number account.records k.answers;
      upto = upto_stays flight.number k.upto;
      number_is = k.number_is;
      call_is = (g.calls s flight.number (inl o)).0 ∙ k.call_is;
      seen_is = λ x. k.seen_is x ∙ sym ((g.calls s flight.number (inl o)).1 x);
      knows = knows_stays c account.used flight local phase e h k.knows;
    }
