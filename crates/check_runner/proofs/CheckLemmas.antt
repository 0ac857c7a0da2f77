-- What was found of what was taken of a source, was found of its bytes, where these are told.
use Rattle.std.proofs.Common.{◌≡◌, ◌≤◌, ◌<◌, ℕ, ◌+◌, List, ◌++◌, length, take, Option, Some, None, IfSome, Err, refl, sym, ap, ◌∙◌, subst, arith, append-nil, length-append}
use Rattle.std.proofs.KnownBytes.{Consumes-trans}
use Rattle.std.specs.Io.KnownBytes.{Consumes}
use Rattle.edge_traits.specs.Edge.{AppendsFront, IsEndExactly}
use Rattle.report_reading.specs.declared.reading.TheConstants.{TEXT_LIMIT}
use Rattle.report_told.specs.declared.verdict.Verdict.{Verdict}
use Rattle.report_told.specs.Verdicts.{Deserves}
use Rattle.list_laws.proofs.Options.{some_same}
use Rattle.check_runner.specs.declared.checking.Checked.{Checked}
use Rattle.check_runner.specs.declared.checking.Checked.TheVariants.{Judged, TooLong}
use Rattle.check_runner.specs.declared.checking.Stop.TheVariants.{NotPut}
use Rattle.check_runner.specs.Checked.{HasFound, IsChecked, IsWhole, LeavesChecked, Takes, line_of}

-- where a read gave no byte, what was taken is all that a source told
all_taken : (first before : Option (List ℕ)) (text : List ℕ) (count : ℕ) → count ≡ 0 → Consumes first before text →
    IsEndExactly count before → IfSome first (λ bytes. bytes ≡ text)
all_taken None before text count zero taken end = tt
all_taken (Some xs) None text count zero taken end = absurd taken
all_taken (Some xs) (Some ys) text count zero taken end =
    taken ∙ ap (λ (l : List ℕ). text ++ l) (end.0 zero) ∙ append-nil text

pub whole_text : (first before after : Option (List ℕ)) (text buf : List ℕ) (count : ℕ) → count ≡ 0 →
    length text ≤ TEXT_LIMIT → Consumes first before text → IsEndExactly count before →
    Consumes before after (take count buf) → IsWhole text first after
whole_text first before after text buf count zero fits taken end read =
    let none : text ++ take count buf ≡ text = ap (λ (n : ℕ). text ++ take n buf) zero ∙ append-nil text in
    record {
      fits = fits;
      taken = subst (Consumes first after) none (Consumes-trans first before after text (take count buf) taken read);
      all = all_taken first before text count zero taken end;
    }

-- of the bytes that a source told
pub found_told : (before after : Option (List ℕ)) (bytes : List ℕ) (found : Checked) → before ≡ Some bytes →
    HasFound found before after → IsChecked bytes found
found_told None after bytes found is has = absurd (cc)
found_told (Some xs) after bytes (Judged v) is has =
    subst (λ (l : List ℕ). IsChecked l (Judged v)) (sym (has.all v refl) ∙ some_same is) has.is
found_told (Some xs) None bytes TooLong is has = absurd has.lost
found_told (Some xs) (Some ys) bytes TooLong is has =
    omega (arith, has.is, ap length has.lost, length-append has.taken ys, ap length (some_same is))

-- what was judged of a text that was read whole
pub found_judged : (before after : Option (List ℕ)) (text : List ℕ) (verdict : Verdict) (x : Checked) →
    x ≡ Judged verdict → IsWhole text before after → Deserves text verdict → HasFound x before after
found_judged before after text verdict x is whole deserves =
    subst (λ (y : Checked). HasFound y before after) (sym is)
    (record {
      taken = text;
      lost = whole.taken;
      few = omega (arith, whole.fits);
      is = (whole.fits, deserves);
      all = λ v same. whole.all;
    })

-- what was found of one that is too long
pub found_longer : (before after : Option (List ℕ)) (x : Checked) → x ≡ TooLong →
    Takes before after (λ taken. (TEXT_LIMIT < length taken) × (length taken ≤ TEXT_LIMIT + 1)) →
    HasFound x before after
found_longer before after x is takes =
    subst (λ (y : Checked). HasFound y before after) (sym is)
    (record {
      taken = takes.0;
      lost = takes.1;
      few = takes.2.1;
      is = takes.2.0;
      all = λ v same. absurd (cc);
    })

-- where a front of the line was put
pub leaves_front : (first left before after : Option (List ℕ)) (found : Checked) → HasFound found first left →
    AppendsFront before after (line_of found) → LeavesChecked first left before after (Err NotPut)
leaves_front first left before after found has put =
    record {
      told = λ bytes is. (found, found_told first left bytes found is has, put);
      taken = has.taken;
      lost = has.lost;
      few = has.few;
      took = (found, has.is, put);
      all = λ v same. absurd (cc);
    }
