-- Sums over the seats: there are no more rows, and no more adds in effect, than room.
use Rattle.std.proofs.Common.{◌≡◌, ◌≢◌, ℕ, zero, suc, ◌+◌, ◌<◌, ◌≤◌, Bool, true, false, cond, eqb, List, [], ◌∷◌, length, get_or, sum, refl, sym, ap, ◌∙◌, arith}
use Rattle.std.proofs.lemmas.List.Sums.{sum_by-cons}
use Rattle.sim_steps.specs.Layout.{Settings, seats_of, room_of}
use Rattle.sim_steps.specs.Program.{Phase, Idle, LoadDone, StoreOp, Announce, LoadRoot, LoadRow, LoadAnnouncement, LoadOp, StoreRow, Publish, StoreDone, Caller}
use Rattle.sim_steps.proofs.Memory.{put, put_same, put_other}
use Rattle.sim_steps.proofs.Ghost.{Common, Keeps, common_after, published}

-- of so many seats from one on
abbrev pub total : (ℕ → ℕ) → ℕ → ℕ → ℕ
total f k zero = 0
total f k (suc more) = f k + total f (k + 1) more

-- a sum of what is less is less
pub total_le : (f g : ℕ → ℕ) (k more : ℕ) → ((p : ℕ) → p < k + more → f p ≤ g p) → total f k more ≤ total g k more
total_le f g k zero h = omega arith
total_le f g k (suc more) h = omega (arith, h k (omega arith), total_le f g (k + 1) more (λ p n. h p (omega arith)))

-- a sum of the same is the same
pub total_same : (f g : ℕ → ℕ) (k more : ℕ) → ((p : ℕ) → k ≤ p → f p ≡ g p) → total f k more ≡ total g k more
total_same f g k zero h = refl
total_same f g k (suc more) h = omega (arith, h k (omega arith), total_same f g (k + 1) more (λ p n. h p (omega arith)))

-- one more at one seat
pub total_put : (f : ℕ → ℕ) (me v k more i : ℕ) → v ≡ f me + 1 → me ≡ k + i → i < more →
    total (put f me v) k more ≡ total f k more + 1
total_put f me v k zero i e at h = absurd (omega arith)
total_put f me v k (suc more) zero e at h =
    let here : k ≡ me = omega arith in
    omega (
      arith,
      ap (put f me v) here,
      ap f here,
      put_same f me v,
      total_same (put f me v) f (k + 1) more (λ p n. put_other f me v p (let m : p ≢ me = omega arith in m)),
    )
total_put f me v k (suc more) (suc i) e at h =
    let m : k ≢ me = omega arith in omega (
      arith,
      put_other f me v k m,
      total_put f me v (k + 1) more i e (omega arith) (omega arith),
    )

-- a sum of zeros is 0
pub total_zero : (k more : ℕ) → total (λ p. 0) k more ≡ 0
total_zero k zero = refl
total_zero k (suc more) = omega (arith, total_zero (k + 1) more)

-- the elements of a list
total_shift : (x : ℕ) (xs : List ℕ) (k more : ℕ) →
    total (λ p. get_or (x ∷ xs) p 0) (k + 1) more ≡ total (λ p. get_or xs p 0) k more
total_shift x xs k zero = refl
total_shift x xs k (suc more) =
    let e : k + 1 ≡ suc k = omega arith in
    omega (arith, ap (λ i. get_or (x ∷ xs) i 0) e, total_shift x xs (k + 1) more)

-- a sum over the seats is that of the list
pub total_list : (xs : List ℕ) → total (λ p. get_or xs p 0) 0 (length xs) ≡ sum xs
total_list [] = refl
total_list (x ∷ xs) = ap (λ n. x + n) (total_shift x xs 0 (length xs) ∙ total_list xs) ∙ sym (sum_by-cons (λ n. n) x xs)

-- what fits each seat's room fits all rooms
pub total_room : (l : Settings) (f : ℕ → ℕ) → ((p : ℕ) → p < seats_of l → f p ≤ room_of l p) →
    total f 0 (seats_of l) ≤ sum l.adds
total_room l f h = omega (arith, total_le f (room_of l) 0 (seats_of l) (λ p n. h p (omega arith)), total_list l.adds)

-- ---- as many rows were published as the seats have published

-- the versions are as many as the rows that were made
abbrev pub Tallied : Settings → Common → Type 0
Tallied l c = c.top ≡ total c.made 0 (seats_of l)

-- so after a step
pub tallied_step : (l : Settings) (me : ℕ) (c : Common) (seat : Caller) (base : ℕ) (phase : Phase) →
    me < seats_of l → Keeps l c me seat base phase → Tallied l c → Tallied l (common_after l me seat phase c)
tallied_step l me c seat base (Publish turn root row) h k t = go (eqb c.memory.root root)
  where
    go : (b : Bool) → Tallied l (cond b (published l me seat root row c) c)
    go true = let z : me ≡ 0 + me = omega arith in
        omega (
          arith,
          total_put c.made me (seat.made + 1) 0 (seats_of l) me
              (ap (λ n. n + 1) (sym k.works.made_is)) z h,
          t,
        )
    go false = t
tallied_step l me c seat base Idle h k t = t
tallied_step l me c seat base LoadDone h k t = t
tallied_step l me c seat base (StoreOp i) h k t = t
tallied_step l me c seat base Announce h k t = t
tallied_step l me c seat base (LoadRoot turn) h k t = t
tallied_step l me c seat base (LoadRow turn root row) h k t = t
tallied_step l me c seat base (LoadAnnouncement turn root row found) h k t = t
tallied_step l me c seat base (LoadOp turn root row found op words) h k t = t
tallied_step l me c seat base (StoreRow turn root row i) h k t = t
tallied_step l me c seat base (StoreDone count) h k t = t

-- and at the opening
pub tallied_first : (l : Settings) (k more : ℕ) → total (λ p. 0) k more ≡ 0
tallied_first l k more = total_zero k more

-- a seat has published no more than it may add
made_few : (l : Settings) (c : Common) (p : ℕ) (seat : Caller) (base : ℕ) (phase : Phase) →
    Keeps l c p seat base phase → c.made p ≤ room_of l p
made_few l c p seat base Idle k = omega (arith, k.made_is, k.spare, k.few)
made_few l c p seat base LoadDone k = omega (arith, k.begins.made_is, k.begins.spare, k.begins.few)
made_few l c p seat base (StoreOp i) k = omega (arith, k.begins.made_is, k.begins.spare, k.begins.few)
made_few l c p seat base Announce k = omega (arith, k.begins.made_is, k.begins.spare, k.begins.few)
made_few l c p seat base (LoadRoot turn) k = omega (arith, k.works.made_is, k.works.spare, k.works.few)
made_few l c p seat base (LoadRow turn root row) k = omega (arith, k.works.made_is, k.works.spare, k.works.few)
made_few l c p seat base (LoadAnnouncement turn root row found) k =
    omega (arith, k.works.made_is, k.works.spare, k.works.few)
made_few l c p seat base (LoadOp turn root row found op words) k =
    omega (arith, k.works.made_is, k.works.spare, k.works.few)
made_few l c p seat base (StoreRow turn root row i) k = omega (arith, k.works.made_is, k.works.spare, k.works.few)
made_few l c p seat base (Publish turn root row) k = omega (arith, k.works.made_is, k.works.spare, k.works.few)
made_few l c p seat base (StoreDone count) k = omega (arith, k.rests.made_is, k.rests.spare, k.rests.few)

-- so there are no more than rooms
pub top_few : (l : Settings) (c : Common) (callers : ℕ → Caller) (bases : ℕ → ℕ) (phases : ℕ → Phase) →
    ((p : ℕ) → p < seats_of l → Keeps l c p (callers p) (bases p) (phases p)) → Tallied l c → c.top ≤ sum l.adds
top_few l c callers bases phases k t = omega (
  arith,
  t,
  total_room l c.made
      (λ p h. made_few l c p (callers p) (bases p) (phases p) (k p h)),
)
