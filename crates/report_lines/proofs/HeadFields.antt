-- The fields of the head line can be read back.
use Rattle.std.proofs.Common.{◌≡◌, inl, inr, ℕ, ◌≤◌, Bool, true, false, codes, List, ◌++◌, Some, refl, arith}
use Rattle.std.specs.Prelude.{decimal}
use Rattle.std.proofs.lemmas.Option.{none-some}
use Rattle.hash_bits.specs.declared.hashing.Hashing.{Hashing}
use Rattle.hash_bits.specs.declared.hashing.Hashing.TheVariants.{Mix, Ports}
use Rattle.trace_share.specs.declared.deals.Share.{Share}
use Rattle.trace_share.specs.declared.deals.Share.TheVariants.{Round, Block, Flow}
use Rattle.line_fields.specs.Reading.{HasNoDigit}
use Rattle.report_text.specs.Report.{mode_word, share_word}
use Rattle.report_told.specs.Rules.{seed_in}
use Rattle.report_lines.specs.Fields.{most_64, mode_at, hashing_at, share_at}
use Rattle.report_lines.proofs.FieldLaws.{IsField, Takes, or_takes, numbered_takes, numbered_again, numbered_text, known_text}

abbrev pub Always : {T : Type 0} → T → Type 0
Always value = Unit {0}

mode_again : (play : Bool) (rest : List ℕ) → mode_at (mode_word play ++ rest) ≡ Some (play, rest)
unfolding mode_at
mode_again true rest = refl
mode_again false rest = refl

mode_takes : (bytes : List ℕ) (play : Bool) (rest : List ℕ) → mode_at bytes ≡ Some (play, rest) →
    Takes mode_word Always bytes play rest
unfolding mode_at
mode_takes bytes play rest is =
    elim (or_takes (codes "serve") bytes _ _ (play, rest) is) [
      | inl (left, text, read) ↦ known_text mode_word Always false (codes "serve") bytes left play rest refl tt text
          read
      | inr other ↦ elim (or_takes (codes "play") bytes _ _ (play, rest) other) [
        | inl (left, text, read) ↦ known_text mode_word Always true (codes "play") bytes left play rest refl tt text
            read
        | inr none ↦ absurd (none-some (play, rest) none)
      ]
    ]

pub mode_field : IsField mode_at mode_word Always
mode_field = record { again = λ value rest fits end. mode_again value rest; takes = mode_takes }

share_again : (share : Share) (rest : List ℕ) → share_at (share_word share ++ rest) ≡ Some (share, rest)
unfolding share_at
share_again Round rest = refl
share_again Block rest = refl
share_again Flow rest = refl

share_takes : (bytes : List ℕ) (share : Share) (rest : List ℕ) → share_at bytes ≡ Some (share, rest) →
    Takes share_word Always bytes share rest
unfolding share_at
share_takes bytes share rest is =
    elim (or_takes (codes "round") bytes _ _ (share, rest) is) [
      | inl (left, text, read) ↦ known_text share_word Always Round (codes "round") bytes left share rest refl tt text
          read
      | inr other ↦ elim (or_takes (codes "block") bytes _ _ (share, rest) other) [
        | inl (left, text, read) ↦ known_text share_word Always Block (codes "block") bytes left share rest refl tt
            text read
        | inr another ↦ elim (or_takes (codes "flow") bytes _ _ (share, rest) another) [
          | inl (left, text, read) ↦
              known_text share_word Always Flow (codes "flow") bytes left share rest refl tt text read
          | inr none ↦ absurd (none-some (share, rest) none)
        ]
      ]
    ]

pub share_field : IsField share_at share_word Always
share_field = record { again = λ value rest fits end. share_again value rest; takes = share_takes }

-- the hash and its seed
abbrev pub hashing_text : Hashing → List ℕ
hashing_text (Mix seed) = codes "mix seed " ++ decimal seed
hashing_text (Ports seed) = codes "ports seed " ++ decimal seed

abbrev pub HasSeed : Hashing → Type 0
HasSeed hashing = seed_in hashing ≤ most_64

hashing_again : (hashing : Hashing) (rest : List ℕ) → HasSeed hashing → HasNoDigit rest →
    hashing_at (hashing_text hashing ++ rest) ≡ Some (hashing, rest)
unfolding hashing_at
hashing_again (Mix seed) rest fits end = numbered_again most_64 (λ s. Mix s) seed rest (omega arith) fits end
hashing_again (Ports seed) rest fits end = numbered_again most_64 (λ s. Ports s) seed rest (omega arith) fits end

hashing_takes : (bytes : List ℕ) (hashing : Hashing) (rest : List ℕ) → hashing_at bytes ≡ Some (hashing, rest) →
    Takes hashing_text HasSeed bytes hashing rest
unfolding hashing_at
hashing_takes bytes hashing rest is =
    elim (or_takes (codes "mix seed ") bytes _ _ (hashing, rest) is) [
      | inl (left, text, read) ↦
          numbered_text hashing_text HasSeed most_64 (λ s. Mix s) (codes "mix seed ") bytes left hashing rest
          (λ n. refl)
          (λ n within. within) text (numbered_takes most_64 (λ s. Mix s) left hashing rest (omega arith) read)
      | inr other ↦ elim (or_takes (codes "ports seed ") bytes _ _ (hashing, rest) other) [
        | inl (left, text, read) ↦
            numbered_text hashing_text HasSeed most_64 (λ s. Ports s) (codes "ports seed ") bytes left hashing rest
            (λ n. refl) (λ n within. within) text
            (numbered_takes most_64 (λ s. Ports s) left hashing rest (omega arith) read)
        | inr none ↦ absurd (none-some (hashing, rest) none)
      ]
    ]

pub hashing_field : IsField hashing_at hashing_text HasSeed
hashing_field = record { again = hashing_again; takes = hashing_takes }
