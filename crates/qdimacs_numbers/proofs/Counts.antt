-- How many clauses the gate of a node has.
-- Assumes nothing.
use mathlib.Core.Path.{◌≡◌, refl, sym, ◌∙◌, ap}
use mathlib.Core.Bool.{Bool}
use Prim.Native.Nat.{ℕ, ◌≤◌, ◌<◌}
use native.Mathlib.Omega.{arith}
use lib.Dec.{eqb}
use lib.ListN.{length}
use borrow.Author.Tests.{eqb-true, eqb-false, eq-eqb, ne_eqb}
use Rattle.lists.specs.Choice.{pick, pick_yes, pick_no, Is, is_true, is_false, look, same_test}
use Rattle.lists.proofs.Parts.{pick_within}
use Rattle.formula.specs.declared.NodeWords.{NodeWords}
use Rattle.qdimacs_form.specs.Clauses.{no_operand, one_operand, two_operands, written_clauses}
use Rattle.texts.specs.Bounds.{number_bound}
use Rattle.qdimacs_words.specs.Words.{numeral_word}
use Rattle.qdimacs_words.proofs.Words.{numeral_word_apart}
use Rattle.qdimacs_form.proofs.Shapes.{none_written_lem, one_written, two_written, same_written}
use Rattle.qdimacs_numbers.specs.Numbering.{clause_count}

-- By the words of the node.
module _ (w : NodeWords) (x y : ℕ) where
  pub count_constant : w.kind ≡ 1 → clause_count w x y ≡ 1
  unfolding clause_count
  count_constant e = pick_yes _ _ _ (eq-eqb w.kind 1 e)

  pub count_one : (w.kind ≡ 1 → ⊥) → (w.kind ≡ 4 → ⊥) → clause_count w x y ≡ 2
  unfolding clause_count
  count_one n m = pick_no _ _ _ (ne_eqb w.kind 1 n) ∙ pick_no _ _ _ (ne_eqb w.kind 4 m)

  count_operator : w.kind ≡ 4 → clause_count w x y ≡ pick (eqb x y) 2 4
  unfolding clause_count
  count_operator e = pick_no _ _ _ (ne_eqb w.kind 1 (λ k. omega arith)) ∙ pick_yes _ _ _ (eq-eqb w.kind 4 e)

  pub count_same : w.kind ≡ 4 → x ≡ y → clause_count w x y ≡ 2
  count_same e s = count_operator e ∙ pick_yes _ _ _ (eq-eqb x y s)

  pub count_two : w.kind ≡ 4 → (x ≡ y → ⊥) → clause_count w x y ≡ 4
  count_two e n = count_operator e ∙ pick_no _ _ _ (ne_eqb x y n)

  count_within : clause_count w x y ≤ 4
  unfolding clause_count
  count_within =
      pick_within _ _ _ 4 (omega arith)
      (pick_within _ _ _ 4 (pick_within _ _ _ 4 (omega arith) (omega arith)) (omega arith))

  pub count_low : (count : ℕ) → count ≡ clause_count w x y → count ≤ 4
  count_low count e = omega (arith, count_within)

-- Of the words of two variables it is what it is of the variables.
pub count_words : (w : NodeWords) (x y : ℕ) → x < number_bound → y < number_bound → clause_count w (numeral_word x) (numeral_word y) ≡ clause_count w x y
unfolding clause_count
count_words w x y h k =
    let e : eqb (numeral_word x) (numeral_word y) ≡ eqb x y =
    same_test _ _
    (λ q. eq-eqb x y (numeral_word_apart x y h k (eqb-true (numeral_word x) (numeral_word y) q)))
    (λ q. eq-eqb (numeral_word x) (numeral_word y) (ap numeral_word (eqb-true x y q))) in
    rw e refl

-- Of the clauses that are written there are as many, the variables of the operands not being the gate's.
module _ (w : NodeWords) (g x y : ℕ) where
  pub constant_written : w.kind ≡ 1 → (v : Bool) → clause_count w x y ≡ length (written_clauses (no_operand g v))
  unfolding no_operand
  constant_written e v = count_constant w x y e ∙ sym (ap length (none_written_lem g v))

  pub operand_written : (w.kind ≡ 1 → ⊥) → (w.kind ≡ 4 → ⊥) → (f : Bool → Bool) (z : ℕ) → (z ≡ g → ⊥)
      → clause_count w x y ≡ length (written_clauses (one_operand g f z))
  unfolding one_operand
  operand_written n m f z apart = count_one w x y n m ∙ sym (ap length (one_written g f z apart))

  two_apart : w.kind ≡ 4 → (f : Bool → Bool → Bool) → (x ≡ g → ⊥) → (y ≡ g → ⊥) → (x ≡ y → ⊥)
      → clause_count w x y ≡ length (written_clauses (two_operands g f x y))
  unfolding two_operands
  two_apart e f n m d = count_two w x y e d ∙ sym (ap length (two_written g f x y d n m))

  two_same : w.kind ≡ 4 → (f : Bool → Bool → Bool) → (x ≡ g → ⊥) → x ≡ y
      → clause_count w x y ≡ length (written_clauses (two_operands g f x y))
  unfolding one_operand
  two_same e f n s =
      count_same w x y e s
      ∙ sym (ap (λ z. length (written_clauses (two_operands g f x z))) (sym s) ∙ ap length (same_written g f x n))

  pub operands_written : w.kind ≡ 4 → (f : Bool → Bool → Bool) → (x ≡ g → ⊥) → (y ≡ g → ⊥)
      → clause_count w x y ≡ length (written_clauses (two_operands g f x y))
  operands_written e f n m = go (look (eqb x y))
    where
      go : Is (eqb x y) → clause_count w x y ≡ length (written_clauses (two_operands g f x y))
      go (is_true q) = two_same e f n (eqb-true x y q)
      go (is_false q) = two_apart e f n m (eqb-false x y q)
