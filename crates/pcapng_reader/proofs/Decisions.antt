-- Tests that are met or not, and what both sides of them give.
use Rattle.std.proofs.Common.{inl, inr}
use Rattle.pcap_reader.proofs.Decisions.{Decided}
use Rattle.pcapng_reader.specs.Blocks.{Where}

-- one test has one side
pub where_once : {T A B C D G : Type 0} → (A → C → G) → (B → D → G) → Where T A B → Where T C D → G
where_once met others (inl p) (inl q) = met p.1 q.1
where_once met others (inl p) (inr q) = absurd (q.0 p.0)
where_once met others (inr p) (inl q) = absurd (p.0 q.0)
where_once met others (inr p) (inr q) = others p.1 q.1

-- a test that is decided has a side
pub where_some : {X T : Type 0} (A B : X → Type 0) → Decided T → ((x : X) × A x) →
    ((T → ⊥) → (x : X) × B x) → (x : X) × Where T (A x) (B x)
where_some A B (inl t) met others = (met.0, inl (t, met.1))
where_some A B (inr n) met others = ((others n).0, inr (n, (others n).1))

-- two tests that are one, with more that follows
pub where_map : {T S A B C D : Type 0} → (T → S) → (S → T) → (T → A → C) → ((T → ⊥) → B → D) → Where T A B →
    Where S C D
where_map there back met others (inl p) = inl (there p.0, met p.0 p.1)
where_map there back met others (inr p) = inr (λ s. p.0 (back s), others p.0 p.1)
