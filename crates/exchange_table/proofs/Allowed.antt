-- Whatever the table is, a party that is ready can take its step.
use Rattle.std.proofs.Common.{◌≡◌, ℕ, ◌+◌, ◌-◌, ◌%◌, ◌^◌, ◌≤◌, eqb, sym, ap, subst, arith}
use prog.Atomic.{either}
use Rattle.atomic_table.specs.Table.{keeps, Allows}
use Rattle.exchange_model.specs.Plans.{Plan}
use Rattle.exchange_model.specs.Steps.{Idle}
use Rattle.exchange_model.specs.Goes.{Asked}
use Rattle.exchange_model.specs.Worlds.{world_after}
use Rattle.exchange_calls.specs.Going.{Task, task}
use Rattle.exchange_calls.specs.Going.Task.{Load, Store, Exchange, Raise, Lower}
use Rattle.exchange_table.specs.Parties.{CanCall, Holding, party, started}
use Rattle.exchange_table.specs.Rule.{Holds, M, Moved, Stepped, after_step, alone, first_or, lone}
use Rattle.exchange_table.specs.Readiness.{IsReady}
use Rattle.exchange_table.proofs.Acting.{Flies}
use Rattle.exchange_table.proofs.Moves.{flies_at, loads_to, lowers_to, raises_to, stores_to, swaps_to, task_code}

-- a token of one party has one holding
pub alone_is : (h k : Holding) → alone h ≡ alone k → h ≡ k
alone_is h k e = ap (λ (m : M). first_or h m.0.bundle) e

-- so what is told of its step is told of it by any name
any_name : (asked : Asked) (tries : ℕ) (h : Holding) (word : ℕ) (w : M) → Stepped asked tries h word w →
    Moved asked tries (alone h) word w
any_name asked tries h word w k other e = subst (λ (z : Holding). Stepped asked tries z word w) (alone_is h other e) k

-- what a party under way asks for
flying : (asked : Asked) (tries : ℕ) (h : Holding) (t : Task) → task (started asked tries h) ≡ t → 1 ≤ task_code t →
    Flies (started asked tries h).now.stand
flying asked tries h t e least = flies_at (started asked tries h) (started asked tries h).now.stand t e least

module _ (slots id : ℕ) (asked : Asked) (tries : ℕ) (h : Holding)
    (may : (party (world_after h.plan h.known) h.who).stand ≡ Idle →
    CanCall h.plan h.who (party (world_after h.plan h.known) h.who) asked tries) where
  load_at : (p : ℕ) → task (started asked tries h) ≡ Load p →
      Allows (Holds h.plan) slots id (alone h) p (λ n. n) (λ n w. Moved asked tries (alone h) n w)
  load_at p e s r homes at less =
      let k = loads_to asked tries h s r id at may (flying asked tries h (Load p) e (omega arith)) p e in
      (lone (after_step asked tries h r.events), keeps, tt, k.0, any_name asked tries h _ _ k.1)

  store_at : (p word : ℕ) → task (started asked tries h) ≡ Store p word →
      Allows (Holds h.plan) slots id (alone h) p (λ _. word) (λ _ w. Moved asked tries (alone h) 0 w)
  store_at p word e s r homes at less =
      let k = stores_to asked tries h s r id at may (flying asked tries h (Store p word) e (omega arith)) p word e in
      (lone (after_step asked tries h r.events), keeps, tt, k.0, any_name asked tries h _ _ k.1)

  swap_at : (p old new : ℕ) → task (started asked tries h) ≡ Exchange p old new →
      Allows (Holds h.plan) slots id (alone h) p (λ n. either (eqb n old) new n)
      (λ n w. Moved asked tries (alone h) n w)
  swap_at p old new e s r homes at less =
      let k = swaps_to asked tries h s r id at may (flying asked tries h (Exchange p old new) e (omega arith)) p old
      new e in
      (lone (after_step asked tries h r.events), keeps, tt, k.0, any_name asked tries h _ _ k.1)

  raise_at : (p : ℕ) → task (started asked tries h) ≡ Raise p →
      Allows (Holds h.plan) slots id (alone h) p (λ n. (n + 1) % 2 ^ 64) (λ n w. Moved asked tries (alone h) n w)
  raise_at p e s r homes at less =
      let k = raises_to asked tries h s r id at may (flying asked tries h (Raise p) e (omega arith)) p e in
      (lone (after_step asked tries h r.events), keeps, tt, k.0, any_name asked tries h _ _ k.1)

  lower_at : (p : ℕ) → task (started asked tries h) ≡ Lower p →
      Allows (Holds h.plan) slots id (alone h) p (λ n. (n + (2 ^ 64 - 1)) % 2 ^ 64)
      (λ n w. Moved asked tries (alone h) n w)
  lower_at p e s r homes at less =
      let k = lowers_to asked tries h s r id at may (flying asked tries h (Lower p) e (omega arith)) p e less in
      (lone (after_step asked tries h r.events), keeps, tt, k.0, any_name asked tries h _ _ k.1)

-- THE RESULTS
module _ (slots id : ℕ) (asked : Asked) (tries : ℕ) (plan : Plan) (m : M) where
  pub loads_at : (p : ℕ) → IsReady asked tries (Load p) plan m →
      Allows (Holds plan) slots id m p (λ n. n) (λ n w. Moved asked tries m n w)
  loads_at p ready =
      subst (λ (z : Plan × M). Allows (Holds (z.0)) slots id (z.1) p (λ n. n) (λ n w. Moved asked tries (z.1) n w))
      (λ i. (ready.opened i, sym ready.one i)) (load_at slots id asked tries ready.holding ready.may p ready.asks)

  pub stores_at : (p word : ℕ) → IsReady asked tries (Store p word) plan m →
      Allows (Holds plan) slots id m p (λ _. word) (λ _ w. Moved asked tries m 0 w)
  stores_at p word ready =
      subst (λ (z : Plan × M). Allows (Holds (z.0)) slots id (z.1) p (λ _. word) (λ _ w. Moved asked tries (z.1) 0 w))
      (λ i. (ready.opened i, sym ready.one i)) (store_at slots id asked tries ready.holding ready.may p word ready.asks)

  pub swaps_at : (p old new : ℕ) → IsReady asked tries (Exchange p old new) plan m →
      Allows (Holds plan) slots id m p (λ n. either (eqb n old) new n) (λ n w. Moved asked tries m n w)
  swaps_at p old new ready =
      subst (λ (z : Plan × M). Allows (Holds (z.0)) slots id (z.1) p (λ n. either (eqb n old) new n)
      (λ n w. Moved asked tries (z.1) n w))
      (λ i. (ready.opened i, sym ready.one i))
      (swap_at slots id asked tries ready.holding ready.may p old new ready.asks)

  pub raises_at : (p : ℕ) → IsReady asked tries (Raise p) plan m →
      Allows (Holds plan) slots id m p (λ n. (n + 1) % 2 ^ 64) (λ n w. Moved asked tries m n w)
  raises_at p ready =
      subst (λ (z : Plan × M). Allows (Holds (z.0)) slots id (z.1) p (λ n. (n + 1) % 2 ^ 64)
      (λ n w. Moved asked tries (z.1) n w))
      (λ i. (ready.opened i, sym ready.one i)) (raise_at slots id asked tries ready.holding ready.may p ready.asks)

  pub lowers_at : (p : ℕ) → IsReady asked tries (Lower p) plan m →
      Allows (Holds plan) slots id m p (λ n. (n + (2 ^ 64 - 1)) % 2 ^ 64) (λ n w. Moved asked tries m n w)
  lowers_at p ready =
      subst (λ (z : Plan × M). Allows (Holds (z.0)) slots id (z.1) p (λ n. (n + (2 ^ 64 - 1)) % 2 ^ 64)
      (λ n w. Moved asked tries (z.1) n w))
      (λ i. (ready.opened i, sym ready.one i)) (lower_at slots id asked tries ready.holding ready.may p ready.asks)
