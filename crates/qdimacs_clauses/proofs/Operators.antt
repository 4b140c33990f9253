-- The clauses of an operator, its operands being one variable or two, by the words of these.
-- Assumes nothing.
use mathlib.Core.Path.{◌≡◌, sym, ◌∙◌, ap}
use mathlib.Core.Bool.{Bool}
use Prim.Native.Nat.{ℕ, ◌<◌}
use native.Mathlib.Omega.{arith}
use Rattle.qdimacs_form.specs.Clauses.{one_operand, two_operands, written_clauses}
use Rattle.qdimacs_form.proofs.Shapes.{two_written, same_written}
use Rattle.qdimacs_words.specs.Words.{numeral_word}
use Rattle.qdimacs_words.proofs.Words.{numeral_word_apart}
use Rattle.qdimacs_rows.specs.Rows.{lines_text, IsWord}

module _ (g : ℕ) (f : Bool → Bool → Bool) {x y a b : ℕ} (u : IsWord x a) (v : IsWord y b) (below : a < g) where
  -- one word, one variable
  pub same_operands : x ≡ y → lines_text (written_clauses (two_operands g f a b)) ≡ lines_text (one_operand g (λ p. f p p) a)
  same_operands e =
      let one : b ≡ a = numeral_word_apart b a v.writable u.writable (sym v.word_of ∙ sym e ∙ u.word_of) in
      ap (λ z. lines_text (written_clauses (two_operands g f a z))) one ∙ ap lines_text (same_written g f a (λ q. omega arith))

  -- two words, two variables
  pub different_operands : (x ≡ y → ⊥) → b < g → lines_text (written_clauses (two_operands g f a b)) ≡ lines_text (two_operands g f a b)
  different_operands n lower =
      ap lines_text
      (two_written g f a b (λ q. n (u.word_of ∙ ap numeral_word q ∙ sym v.word_of)) (λ q. omega arith) (λ q. omega arith))
