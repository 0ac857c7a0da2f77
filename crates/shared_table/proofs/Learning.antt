-- How what a seat knows grows, and how many events of its own come with that.
use Rattle.std.proofs.Common.{◌≡◌, ℕ, ◌+◌, Bool, cond, eqb, List, [], ◌∷◌, ◌++◌, refl, sym, ap, ◌∙◌, arith, append_assoc}
use Rattle.std.proofs.lemmas.Bool.{eq-eqb}
use Rattle.std.proofs.lemmas.List.{append-nil}
use Rattle.std.proofs.lemmas.List.Sums.{sum_by-append, sum_by-cons}
use Rattle.table_model.specs.declared.events.Event.{Event}
use Rattle.shared_table.specs.Rule.{Learned}

-- a test as a number
abbrev bit : Bool → ℕ
bit b = cond b 1 0

module _ (seat : ℕ) where
  -- nothing more
  pub learned_none : (known : List Event) → Learned seat 0 known known
  learned_none known = record { later = []; is = sym (append-nil known); counts = refl }

  -- one event of the seat
  pub learned_one : (known : List Event) (e : Event) → e.seat ≡ seat → Learned seat 1 known (known ++ e ∷ [])
  learned_one known e same = record {
    later = e ∷ [];
    is = refl;
    counts = omega (arith, sum_by-cons (λ (x : Event). bit (eqb x.seat seat)) e [], ap bit (eq-eqb e.seat seat same));
  }

  -- first the one, then the other
  pub learned_then : (a b : ℕ) (known between now : List Event) → Learned seat a known between →
      Learned seat b between now → Learned seat (a + b) known now
  learned_then a b known between now l m = record {
    later = l.later ++ m.later;
    is = m.is ∙ ap (λ (es : List Event). es ++ m.later) l.is ∙ append_assoc known l.later m.later;
    counts = omega (arith, sum_by-append (λ (x : Event). bit (eqb x.seat seat)) l.later m.later, l.counts, m.counts);
  }

  -- by an equal number
  pub learned_as : (a b : ℕ) (known now : List Event) → Learned seat a known now → a ≡ b → Learned seat b known now
  learned_as a b known now l same = record { later = l.later; is = l.is; counts = l.counts ∙ same }
