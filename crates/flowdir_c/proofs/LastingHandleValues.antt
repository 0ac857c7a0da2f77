-- A `LastingHandle`. Assumes `Logic`.
use Rattle.std.proofs.Common.{◌≡◌, ℕ, List, [], ◌∷◌, ◌++◌, refl, subst}
use seplogic.Ra.Ura.{Ura}
use mir.Syntax.{w64}
use mir.Raw.{raw as bare}
use mir.Val.{Val, vint, vptr, vstruct, of_list}
use base.Logic.{never, fst∗}
use types.Logic.{Logic, sem}
use types.Kit.{Item, Goal, Seq, Step, step, ‵, ◌$◌, drop, fsplit, fjoin, fpick, fpack, feq_i, feq_l}
use denote.RattleType.{Valss}
use denote.Builtin.{RawPtr}
use denote.Memory.{lone}
use denote.RawPtr.{Ptr, block_ptr, null_ptr, ptr_val, in_a_block}
use denote.Steps.{nothing}
use denote.Struct.Struct.{within}
use denote.Struct.Owning.{shape}
use Rattle.std_alloc.specs.Box.Ownership.{box_owns}
use Rattle.flowdir_c.specs.contracts.lasting_tables.LastingHandle as handle
use Rattle.flowdir_c.specs.contracts.lasting_shelf.LastingShelf as holder
use Rattle.flowdir_c.specs.Handles.{the_heap}
use Rattle.std.specs.contracts.impls.GlobalAllocator.TheImpl.{ghosts}
use Rattle.flowdir_c.proofs.Values.{alone}

module _ {M : Type 1} {𝓤 : Ura M} {𝓛 : Logic 𝓤} {K : Type 0} {Γ : List (Item 𝓤)} {G : Goal 𝓤 𝓛.H} where
  pub handle_in : K → (b o : ℕ) (x : holder.the_row.Denot)
      → Step K 𝓛
      (‵ (handle.the_row.own_val (record { at = block_ptr b o; holders = x ∷ [] }) (alone (vptr b o) ∷ [])) ∷ Γ) G
      (‵ (box_owns (ghosts.dealloc_token the_heap) holder.the_row (block_ptr b o) x) ∷ Γ) G
  handle_in t b o x = step (λ s. let v : Val = alone (vptr b o) in
      nothing t $ feq_i t (List Val) (vptr b o ∷ []) (vptr b o ∷ []) refl $ fjoin t $
      feq_i t (List Val) (v ∷ []) (v ∷ []) refl $ fjoin t $
      fpack t (Valss (RawPtr ∷ [])) (within (shape handle.the_type) (block_ptr b o, tt) (v ∷ [])) (vptr b o ∷ [], tt) $
      fjoin t $ s)

  pub handle_out : K → (p : Ptr) (x : holder.the_row.Denot) (vs : List Val)
      → ((b o : ℕ) → p ≡ block_ptr b o → vs ≡ alone (vptr b o) ∷ []
      → Seq K 𝓛 (‵ (box_owns (ghosts.dealloc_token the_heap) holder.the_row (block_ptr b o) x) ∷ Γ) G)
      → Seq K 𝓛 (‵ (handle.the_row.own_val (record { at = p; holders = x ∷ [] }) vs) ∷ Γ) G
  handle_out t p x vs k =
      fsplit t $ fpick t (λ vss. fsplit t $ feq_l t (λ ev. fsplit t $ feq_l t (λ ep. drop t $
      in_a_block t p (λ q. box_owns (ghosts.dealloc_token the_heap) holder.the_row q x)
      (fst∗ 𝓤 (never 𝓤) (sem 𝓛 (ghosts.dealloc_token the_heap (bare (lone holder.the_row.mir)) null_ptr))) (λ b o e.
      k b o e
      (subst (λ (q : Ptr). vs ≡ vstruct (of_list (ptr_val q ∷ [])) ∷ []) e
      (subst (λ (ps : List Val). vs ≡ vstruct (of_list (ps ++ [])) ∷ []) ep ev))))))

  pub blank_in : K → Step K 𝓛
      (‵ (handle.the_row.own_val (record { at = null_ptr; holders = [] }) (alone (vint w64 0) ∷ [])) ∷ Γ) G Γ G
  blank_in t = step (λ s. let v : Val = alone (vint w64 0) in
      nothing t $ nothing t $ feq_i t (List Val) (vint w64 0 ∷ []) (vint w64 0 ∷ []) refl $ fjoin t $
      feq_i t (List Val) (v ∷ []) (v ∷ []) refl $ fjoin t $
      fpack t (Valss (RawPtr ∷ [])) (within (shape handle.the_type) (null_ptr, tt) (v ∷ [])) (vint w64 0 ∷ [], tt) $
      fjoin t $ s)
