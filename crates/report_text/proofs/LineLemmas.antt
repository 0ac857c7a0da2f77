-- A line, from the pieces that were put one after another.
use Rattle.std.proofs.Common.{◌≡◌, ℕ, List, [], ◌∷◌, ◌++◌, codes, sym, ap, ◌∙◌, append_assoc}
use Rattle.std.proofs.lemmas.List.{append-nil}
use Rattle.std.proofs.lemmas.List.Concat.{flat_map-append}
use Rattle.report_text.specs.Lines.{line, spaced, Puts, Begins, Ends}

pub spaced-append : (xs ys : List (List ℕ)) → spaced (xs ++ ys) ≡ spaced xs ++ spaced ys
unfolding spaced
spaced-append xs ys = flat_map-append (λ word. codes " " ++ word) xs ys

pub spaced_word : (word : List ℕ) → spaced (word ∷ []) ≡ codes " " ++ word
unfolding spaced
spaced_word word = append-nil (codes " " ++ word)

-- words, and then words
infixr 30 ◌⨟◌
pub ◌⨟◌ : {old between new : List ℕ} {xs ys : List (List ℕ)} →
    Puts old xs between → Puts between ys new → Puts old (xs ++ ys) new
◌⨟◌ {old} {between} {new} {xs} {ys} before after = record {
  appended =
      after.appended
      ∙ ap (λ (text : List ℕ). text ++ spaced ys) before.appended
      ∙ append_assoc old (spaced xs) (spaced ys)
      ∙ ap (λ (text : List ℕ). old ++ text) (sym (spaced-append xs ys));
}

-- no words
pub puts_none : (text : List ℕ) → Puts text [] text
unfolding spaced
puts_none text = record { appended = sym (append-nil text) }

-- text after a space is a word
pub puts_after_space : {old between new text : List ℕ} →
    between ≡ old ++ codes " " → new ≡ between ++ text → Puts old (text ∷ []) new
puts_after_space {old} {between} {new} {text} space put = record {
  appended =
      put
      ∙ ap (λ (before : List ℕ). before ++ text) space
      ∙ append_assoc old (codes " ") text
      ∙ ap (λ (word : List ℕ). old ++ word) (sym (spaced_word text));
}

-- a line is its first word, its other words, and its end
pub line_whole : {old begun full new first : List ℕ} {words : List (List ℕ)} →
    Begins old first begun → Puts begun words full → Ends full new → new ≡ old ++ line (first ∷ words)
unfolding line
line_whole {old} {begun} {full} {new} {first} {words} head body end =
    end.appended
    ∙ ap (λ (text : List ℕ). text ++ codes "\n") body.appended
    ∙ append_assoc begun (spaced words) (codes "\n")
    ∙ ap (λ (text : List ℕ). text ++ (spaced words ++ codes "\n")) head.appended
    ∙ append_assoc old first (spaced words ++ codes "\n")

-- three texts, appended one after another
pub three_texts : (old first second third after_first after_second : List ℕ) → after_first ≡ old ++ first
    → after_second ≡ after_first ++ second → after_second ++ third ≡ old ++ (first ++ (second ++ third))
three_texts old first second third after_first after_second one two =
    ap (λ (text : List ℕ). text ++ third) (two ∙ ap (λ (text : List ℕ). text ++ second) one)
    ∙ append_assoc (old ++ first) second third ∙ append_assoc old first (second ++ third)
