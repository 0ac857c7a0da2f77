-- The order is after, and it is whole.
use Rattle.std.proofs.Common.{◌≡◌, ℕ, suc, ◌+◌, ◌≤◌, ◌⊎◌, true, List, [], ◌∷◌, ◌++◌, map, take, drop, refl, inl, inr, sym, ap, ◌∙◌, subst, subst₂, arith, append_assoc, append-nil}
use Rattle.std.specs.Prelude.{◌-◌, flat_map, Any, IsPermutation}
use Rattle.std.specs.List.{list_all, range_with_len}
use Rattle.std.proofs.lemmas.Bool.{and_parts, cases_lt}
use Rattle.std.proofs.lemmas.List.Sorted.{IsPermutation-refl, IsPermutation-trans, IsPermutation-append_comm, IsPermutation-append_left, IsPermutation-append_right}
use Rattle.plain_map.specs.History.{Placed, answered, pending, seat_of, number_of, seen_of, Stands, IsAfter, After, Whole}
use Rattle.table_model.specs.Setup.{Setup, seats_of}
use Rattle.table_model.specs.Order.{Closing, Piece, Placing, is_call, calls_in, is_placed, are_placed, is_next, has_base, pieces_of, placing_of, order_of, effects_of}
use Rattle.list_laws.proofs.Lists.{In, all_at, any_at, in_left, in_right, in_at, range_in, without, without_is, with_it, flat_map_append, Once, same_members, in_flat_map, flat_map_in}
use Rattle.placing_laws.proofs.Turns.{Turn, after, placing_keeps}
use Rattle.placing_laws.proofs.Stuck.{call_is_at, Kept, kept_step, kept_start}
use Rattle.placing_laws.proofs.Alone.{Separate, once_calls}

-- a member for which something holds is one of some for which it holds
any_of : {A : Type 0} → (P : A → Type 0) (xs : List A) (x : A) → In x xs → P x → Any P xs
any_of P [] x i h = elim i [ ]
any_of P (y ∷ xs) x (inl e) h = (0, y, omega arith, refl, subst P e h)
any_of P (y ∷ xs) x (inr i) h = let r = any_of P xs x i h in (suc r.0, r.1, omega (arith, r.2), r.3, r.4)

-- a list of two parts, cut
append_cut : (xs ys before later : List Placed) (c : Placed) → xs ++ ys ≡ before ++ c ∷ later →
    ((more : List Placed) × (xs ≡ before ++ c ∷ more))
    ⊎ ((more : List Placed) × (before ≡ xs ++ more) × (ys ≡ more ++ c ∷ later))
append_cut [] ys before later c e = inr (before, refl, e)
append_cut (x ∷ xs) ys [] later c e = (let same : x ≡ c = cc in inl (xs, ap (λ z. z ∷ xs) same))
append_cut (x ∷ xs) ys (b ∷ before) later c e =
    let same : x ≡ b = cc in
    let rest : xs ++ ys ≡ before ++ c ∷ later = cc in
    elim (append_cut xs ys before later c rest) [
      | inl r ↦ inl (r.0, ap (λ z. z ∷ xs) same ∙ ap (λ zs. b ∷ zs) r.1)
      | inr r ↦ inr (r.0, ap (λ zs. b ∷ zs) r.1 ∙ ap (λ z. z ∷ (xs ++ r.0)) (sym same), r.2)
    ]

-- a call that is placed stands
placed_stands : (order more : List Placed) (seat number : ℕ) → is_placed order seat number ≡ true →
    Stands (order ++ more) seat number
placed_stands order more seat number h =
    let there = any_at (is_call seat number) order h in
    any_of (λ c. (seat_of c ≡ seat) × (number_of c ≡ number)) (order ++ more) there.0
    (in_left there.0 order more there.1) (call_is_at there.0 seat number there.2)

module _ (setup : Setup) (closing : Closing) where
  -- no call had seen any of a seat that there is not
  abbrev pub SeesSeats : Type 0
  SeesSeats = (x : Piece) (c : Placed) (seat : ℕ) → In x (pieces_of setup.shape closing) →
      In c (calls_in setup.shape closing x) → seats_of setup ≤ seat → seen_of c seat ≡ 0

  -- a call that is next stands after its seat's earlier calls and after all that its caller had seen
  next_after : (order more : List Placed) (c : Placed) → is_next setup.shape order c ≡ true →
      ((seat : ℕ) → seats_of setup ≤ seat → seen_of c seat ≡ 0) → IsAfter (order ++ more) c
  next_after order more c h none =
      let parts = and_parts (are_placed order (number_of c - 1) (seat_of c))
      (list_all (λ seat. are_placed order (seen_of c seat) seat) (range_with_len 0 (seats_of setup))) h in
      record {
        own = λ n one less. placed_stands order more (seat_of c) n
            (all_at (is_placed order (seat_of c)) (range_with_len 1 (number_of c - 1)) n parts.0
            (range_in 1 (number_of c - 1) n one (omega (arith, less, one))));
        seen = λ seat n inside one less. elim (cases_lt seat (seats_of setup)) [
          | inr out ↦ absurd (omega (arith, none seat out, one, less))
          | inl in_it ↦ placed_stands order more seat n
              (all_at (is_placed order seat) (range_with_len 1 (seen_of c seat)) n
              (all_at (λ s. are_placed order (seen_of c s) s) (range_with_len 0 (seats_of setup)) seat parts.1
              (range_in 0 (seats_of setup) seat (omega arith) (omega (arith, in_it))))
              (range_in 1 (seen_of c seat) n one (omega (arith, less))))
        ];
      }

  -- what each turn keeps: the placed calls stand after what they must
  pub record Following (p : Placing) : Type 0 where
    pub kept : Kept setup closing p
    pub after_is : After p.order

  -- so it stays with one more piece placed
  following_step : SeesSeats → (p : Placing) (at : ℕ) (piece : Piece) → Turn setup closing p at piece → Following p →
      Following (after setup closing p at piece)
  following_step sees p at piece t f = record {
    kept = kept_step setup closing p at piece t f.kept;
    after_is = λ before later c e. elim (append_cut p.order (calls_in setup.shape closing piece) before later c e) [
      | inl r ↦ f.after_is before r.0 c r.1
      | inr r ↦
          let member = subst (In c) (sym r.2) (in_right c r.0 (c ∷ later) (inl refl)) in
          let next = all_at (is_next setup.shape p.order) (calls_in setup.shape closing piece) c
          (and_parts (has_base setup.shape closing p piece)
          (list_all (is_next setup.shape p.order) (calls_in setup.shape closing piece)) t.ready).1 member in
          subst (λ b. IsAfter b c) (sym r.1)
          (next_after p.order r.0 c next
          (λ seat. sees piece c seat (f.kept.known piece (in_at p.left at piece t.stands)) member))
    ];
  }

  -- of no calls there is nothing to say
  nil_after : After []
  nil_after [] later c e = cc
  nil_after (b ∷ before) later c e = cc

  -- each call stands after its seat's earlier calls and after all that its caller had seen
  pub order_after : SeesSeats → After (order_of setup.shape closing)
  order_after sees = (placing_keeps setup closing Following (following_step sees)
      (record { kept = kept_start setup closing; after_is = nil_after })).after_is

  -- ---- whole

  -- the calls of all pieces are those that are placed and those of the pieces that are left
  abbrev Moved : Placing → Type 0
  Moved p = IsPermutation (flat_map (calls_in setup.shape closing) (pieces_of setup.shape closing))
      (p.order ++ flat_map (calls_in setup.shape closing) p.left)

  -- so it stays with one more piece placed
  moved_step : (p : Placing) (at : ℕ) (piece : Piece) → Turn setup closing p at piece → Moved p →
      Moved (after setup closing p at piece)
  moved_step p at piece t m =
      let f = flat_map (calls_in setup.shape closing) in
      let mine = calls_in setup.shape closing piece in
      let front = take at p.left in
      let back = drop (suc at) p.left in
      let was : f p.left ≡ f front ++ (mine ++ f back) =
      ap f (with_it p.left at piece t.stands)
      ∙ flat_map_append (calls_in setup.shape closing) front (piece ∷ back) in
      let now : f (without p.left at) ≡ f front ++ f back = flat_map_append (calls_in setup.shape closing) front back in
      let turned : IsPermutation (f front ++ (mine ++ f back)) (mine ++ (f front ++ f back)) =
      subst₂ IsPermutation (append_assoc (f front) mine (f back)) (append_assoc mine (f front) (f back))
      (IsPermutation-append_left (f back) (f front ++ mine) (mine ++ f front)
      (IsPermutation-append_comm (f front) mine)) in
      let here : IsPermutation (p.order ++ f p.left) (p.order ++ (mine ++ (f front ++ f back))) =
      IsPermutation-append_right p.order (f p.left) (mine ++ (f front ++ f back))
      (subst (λ l. IsPermutation l (mine ++ (f front ++ f back))) (sym was) turned) in
      let then : p.order ++ (mine ++ (f front ++ f back)) ≡ (p.order ++ mine)
      ++ f (take at p.left ++ drop (at + 1) p.left) =
      sym (append_assoc p.order mine (f front ++ f back))
      ∙ ap (λ l. (p.order ++ mine) ++ l) (sym now ∙ ap f (sym (without_is p.left at))) in
      subst (IsPermutation (f (pieces_of setup.shape closing))) then
      (IsPermutation-trans (f (pieces_of setup.shape closing)) (p.order ++ f p.left)
      (p.order ++ (mine ++ (f front ++ f back))) m here)

  -- where all pieces are placed, the order is their calls in another order
  pub order_is : (placing_of setup.shape closing).left ≡ [] →
      IsPermutation (flat_map (calls_in setup.shape closing) (pieces_of setup.shape closing))
      (order_of setup.shape closing)
  order_is e =
      let f = flat_map (calls_in setup.shape closing) in
      let moved = placing_keeps setup closing Moved moved_step
      (IsPermutation-refl (f (pieces_of setup.shape closing))) in
      let nil : (order_of setup.shape closing)
      ++ f (placing_of setup.shape closing).left ≡ order_of setup.shape closing =
      ap (λ l. order_of setup.shape closing ++ f l) e ∙ append-nil (order_of setup.shape closing) in
      subst (IsPermutation (f (pieces_of setup.shape closing))) nil moved

  -- each call that is to stand comes with exactly one piece, and no other call does
  pub record Holding : Type 0 where
    pub separate : Separate setup closing
    pub each_once : (x : Piece) → In x (pieces_of setup.shape closing) → Once (calls_in setup.shape closing x)
    pub once : Once (map answered closing.records ++ map pending (effects_of setup.shape closing))
    pub there : (c : Placed) → In c (map answered closing.records ++ map pending (effects_of setup.shape closing)) →
        (x : Piece) × In x (pieces_of setup.shape closing) × In c (calls_in setup.shape closing x)
    pub back : (c : Placed) (x : Piece) → In x (pieces_of setup.shape closing) →
        In c (calls_in setup.shape closing x) →
        In c (map answered closing.records ++ map pending (effects_of setup.shape closing))

  -- so the order has the answered calls and the updates that took effect, each once
  pub order_whole : Holding → (placing_of setup.shape closing).left ≡ [] →
      Whole closing.records (effects_of setup.shape closing) (order_of setup.shape closing)
  order_whole h e =
      let f = flat_map (calls_in setup.shape closing) in
      let all = map answered closing.records ++ map pending (effects_of setup.shape closing) in
      IsPermutation-trans all (f (pieces_of setup.shape closing)) (order_of setup.shape closing)
      (same_members all (f (pieces_of setup.shape closing)) h.once
      (once_calls setup closing (pieces_of setup.shape closing) h.separate.apart h.each_once)
      (λ c i. let r = h.there c i in flat_map_in (calls_in setup.shape closing)
      (pieces_of setup.shape closing) r.0 c r.1 r.2)
      (λ c i. let r = in_flat_map (calls_in setup.shape closing) (pieces_of setup.shape closing) c i in
      h.back c r.0 r.1 r.2))
      (order_is e)
