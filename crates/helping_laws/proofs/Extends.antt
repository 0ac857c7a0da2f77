-- What one moment of a run keeps of an earlier one.
use Rattle.std.proofs.Common.{◌≡◌, ℕ, ◌<◌, ◌≤◌, true, List, refl, sym, ap, ◌∙◌, subst, arith}
use Rattle.std.specs.Prelude.{◌++◌}
use Rattle.plain_map.specs.declared.keys.Key.{Key}
use Rattle.table_model.specs.declared.events.Event.{Event}
use Rattle.table_model.specs.Setup.{Setup, rules_of}
use Rattle.table_model.specs.Directories.{DirectoryState, bucket_of}
use Rattle.table_model.specs.Worlds.{World, IsRun, opening_world, world_after, seat_in}
use Rattle.run_invariant.proofs.Invariant.{Common, Local, Moves, lead, last}
use Rattle.run_laws.proofs.Layers.{Steps, HoldsWith, run_with}
use Rattle.run_laws.proofs.Induction.{Holds}
use Rattle.run_laws.proofs.Changes.{changes_from_laws}
use Rattle.run_laws.proofs.Opened.{bucket_laws}
use Rattle.run_laws.proofs.TwoParts.{events_then, happen_both}
use Rattle.helping_laws.proofs.Layer.{moves_of}

-- the rows, the buckets and the announced ops that there were are there still
pub record Extends (c d : Common) : Type 0 where
  pub dir_up : c.dir_top ≤ d.dir_top
  pub dirs : (v : ℕ) → v ≤ c.dir_top → (d.dir_row v ≡ c.dir_row v) × (d.dir_at v ≡ c.dir_at v)
  pub named_up : (b : ℕ) → c.named b ≡ true →
      (d.named b ≡ true) × (d.pre b ≡ c.pre b) × (d.deep b ≡ c.deep b) × (c.top b ≤ d.top b)
  pub rows : (b i : ℕ) → c.named b ≡ true → i ≤ c.top b →
      (d.row_at b i ≡ c.row_at b i) × (d.words_at b i ≡ c.words_at b i) × (d.state_at b i ≡ c.state_at b i)
  pub frozen : (b : ℕ) → c.named b ≡ true → (last c b).frozen ≡ true → d.top b ≡ c.top b
  pub ops_up : (p : ℕ) → (c.used p).op_rows ≤ (d.used p).op_rows
  pub calls : (p j : ℕ) → j < (c.used p).op_rows → (d.op_at p j ≡ c.op_at p j) × (d.op_words p j ≡ c.op_words p j)

-- each moment extends itself
pub extends_self : (c : Common) → Extends c c
extends_self c = record {
  dir_up = omega arith;
  dirs = λ v o. (refl, refl);
  named_up = λ b n. (n, refl, refl, omega arith);
  rows = λ b i n o. (refl, refl, refl);
  frozen = λ b n f. refl;
  ops_up = λ p. omega arith;
  calls = λ p j h. (refl, refl);
}

-- and an event keeps that
pub extends_next : (setup : Setup) (me : ℕ) (b c d : Common) → Extends b c → Moves setup me c d → Extends b d
extends_next setup me b c d e m = record {
  dir_up = omega (arith, e.dir_up, m.dir_up);
  dirs = λ v o. (let was = e.dirs v o in let now = m.dirs v (omega (arith, o, e.dir_up)) in
      (now.0 ∙ was.0, now.1 ∙ was.1));
  named_up = λ x n. (let was = e.named_up x n in let now = m.named_up x was.0 in
      (now.0, now.1 ∙ was.1, now.2 ∙ was.2, omega (arith, was.3, now.3)));
  rows = λ x i n o. (let there = e.named_up x n in let was = e.rows x i n o in
      let now = m.rows x i there.0 (omega (arith, o, there.3)) in (now.0 ∙ was.0, now.1 ∙ was.1, now.2 ∙ was.2));
  frozen = λ x n f.
      let there = e.named_up x n in
      let same = e.frozen x n f in
      let still : (last c x).frozen ≡ true =
      ap (λ i. (c.state_at x i).frozen) same ∙ ap (λ y. y.frozen) (e.rows x (b.top x) n (omega arith)).2 ∙ f in
      m.frozen x there.0 still ∙ same;
  ops_up = λ p. omega (arith, e.ops_up p, m.ops_up p);
  calls = λ p j h. (let was = e.calls p j h in let now = m.calls p j (omega (arith, h, e.ops_up p)) in
      (now.0 ∙ was.0, now.1 ∙ was.1));
}

-- the directories that there were lead as they did
pub lead_same : (setup : Setup) (c d : Common) → Extends c d → (v : ℕ) (key : Key) → v ≤ c.dir_top →
    lead setup d v key ≡ lead setup c v key
lead_same setup c d e v key o = ap (λ (x : DirectoryState). bucket_of (rules_of setup) x key) (e.dirs v o).1

-- a layer that holds at the end of the first part holds at the end of the whole
pub later_with : (E : Type 0) (setup : Setup) (P : World → Common → (ℕ → Local) → E → Type 0) → Steps E setup P →
    (events later : List Event) → IsRun setup (events ++ later) →
    HoldsWith E setup P (world_after setup events) → HoldsWith E setup P (world_after setup (events ++ later))
later_with E setup P steps events later run a =
    subst (HoldsWith E setup P) (sym (happen_both setup (opening_world setup) events later))
    (run_with E bucket_laws changes_from_laws setup P steps later (world_after setup events) a
    (events_then setup (opening_world setup) events later run.follow))

-- ---- two moments

-- the layer: that the moment extends the first
abbrev pub Extending : Common → World → Common → (ℕ → Local) → Unit {0} → Type 0
Extending first w c locals e = Extends first c

-- and its steps
extending : (setup : Setup) (first : Common) → Steps (Unit {0}) setup (Extending first)
extending setup first w c locals e me flight phase a h from k x = (
  tt,
  extends_next setup me first c _ x (moves_of setup c me (seat_in w me).account flight
      (locals me) phase h a.shared k),
)

-- the moment after the first part, and that after the whole, which extends it
pub two_moments : (setup : Setup) (events later : List Event) → IsRun setup (events ++ later) →
    (first : Holds setup (world_after setup events)) →
    HoldsWith (Unit {0}) setup (Extending first.common) (world_after setup (events ++ later))
two_moments setup events later run first = later_with (Unit {0}) setup (Extending first.common)
    (extending setup first.common) events later run
    (record {
      common = first.common;
      locals = first.locals;
      follows = first.follows;
      extra = tt;
      holds = extends_self first.common;
    })
