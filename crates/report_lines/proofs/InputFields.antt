-- How the input ended can be read back.
use Rattle.std.proofs.Common.{◌≡◌, inl, inr, ℕ, ◌≤◌, codes, List, ◌++◌, Some, refl, arith}
use Rattle.std.specs.Prelude.{decimal}
use Rattle.std.proofs.lemmas.Option.{none-some}
use Rattle.line_fields.specs.Reading.{HasNoDigit}
use Rattle.capture_faults.specs.declared.ending.Ending.{Ending}
use Rattle.capture_faults.specs.declared.ending.Ending.TheVariants.{Done, ReadFault, Limit, Fault}
use Rattle.report_lines.specs.Fields.{most_32, most_64, fault_at, ending_at}
use Rattle.report_lines.proofs.FieldLaws.{IsField, Takes, or_takes, numbered_takes, numbered_again, numbered_text, known_text, made_again, made_takes}
use Rattle.report_lines.proofs.FaultFields.{FaultFits, fault_text, fault_field}

abbrev pub ending_text : Ending → List ℕ
ending_text (Done rest) = codes "done rest " ++ decimal rest
ending_text ReadFault = codes "read-fault"
ending_text (Limit limit) = codes "limit " ++ decimal limit
ending_text (Fault fault) = codes "fault " ++ fault_text fault

abbrev pub EndingFits : Ending → Type 0
EndingFits (Done rest) = rest ≤ most_32
EndingFits ReadFault = Unit {0}
EndingFits (Limit limit) = limit ≤ most_64
EndingFits (Fault fault) = FaultFits fault

ending_again : (ending : Ending) (rest : List ℕ) → EndingFits ending → HasNoDigit rest →
    ending_at (ending_text ending ++ rest) ≡ Some (ending, rest)
unfolding ending_at
ending_again (Done left) rest fits end = numbered_again most_32 (λ n. Done n) left rest (omega arith) fits end
ending_again ReadFault rest fits end = refl
ending_again (Limit limit) rest fits end = numbered_again most_64 (λ n. Limit n) limit rest (omega arith) fits end
ending_again (Fault fault) rest fits end =
    made_again fault_at fault_text FaultFits fault_field (λ f. Fault f) fault rest fits end

ending_takes : (bytes : List ℕ) (ending : Ending) (rest : List ℕ) → ending_at bytes ≡ Some (ending, rest) →
    Takes ending_text EndingFits bytes ending rest
unfolding ending_at
ending_takes bytes ending rest is =
    elim (or_takes (codes "done rest ") bytes _ _ (ending, rest) is) [
      | inl (left, text, read) ↦
          numbered_text ending_text EndingFits most_32 (λ n. Done n) (codes "done rest ") bytes left ending rest
          (λ n. refl) (λ n within. within) text
          (numbered_takes most_32 (λ n. Done n) left ending rest (omega arith) read)
      | inr a ↦ elim (or_takes (codes "read-fault") bytes _ _ (ending, rest) a) [
        | inl (left, text, read) ↦
            known_text ending_text EndingFits ReadFault (codes "read-fault") bytes left ending rest refl tt text read
        | inr b ↦ elim (or_takes (codes "limit ") bytes _ _ (ending, rest) b) [
          | inl (left, text, read) ↦
              numbered_text ending_text EndingFits most_64 (λ n. Limit n) (codes "limit ") bytes left ending rest
              (λ n. refl) (λ n within. within) text
              (numbered_takes most_64 (λ n. Limit n) left ending rest (omega arith) read)
          | inr c ↦ elim (or_takes (codes "fault ") bytes _ _ (ending, rest) c) [
            | inl (left, text, read) ↦
                made_takes fault_at fault_text FaultFits fault_field ending_text EndingFits (λ f. Fault f)
                (codes "fault ") bytes left ending rest (λ f. refl) (λ f fits. fits) text read
            | inr none ↦ absurd (none-some (ending, rest) none)
          ]
        ]
      ]
    ]

pub ending_field : IsField ending_at ending_text EndingFits
ending_field = record { again = ending_again; takes = ending_takes }
