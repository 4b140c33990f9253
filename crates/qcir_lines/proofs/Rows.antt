-- The gate line of a row, by its kind.
-- Assumes nothing.
use mathlib.Core.Path.{◌≡◌, refl}
use mathlib.Core.Bool.{Bool, false}
use mathlib.Core.List.{List, [], ◌∷◌}
use Prim.Native.Nat.{ℕ, ◌*◌, ◌/◌, ◌%◌}
use native.Mathlib.Omega.{arith}
use lib.Dec.{eqb}
use borrow.Author.Tests.{ne_eqb}
use Rattle.qcir.specs.File.{Literal, conjunction, junction_gate, xor_gate}
use Rattle.qcir.specs.Spelling.{gate_signs, gates_signs}
use Rattle.qcir_text.specs.Text.{signs_text}
use Rattle.qcir_text.specs.Pieces.{named, literal_of}
use Rattle.qcir_text.proofs.Files.{one_gate}
use Rattle.qcir_form.specs.Rows.{RowKind, constant_row, left_row, right_row, and_row, xor_row}
use Rattle.qcir_form.specs.File.{turned, unsigned, row_gates}

-- a word without its sign
pub unsigned_word : (c : ℕ) → literal_of (c / 2 * 2) ≡ unsigned (literal_of c)
unfolding literal_of unsigned
unsigned_word c =
    let n : c / 2 * 2 / 2 ≡ c / 2 = omega arith in
    let e : eqb (c / 2 * 2 % 2) 1 ≡ false = ne_eqb (c / 2 * 2 % 2) 1 (λ q. omega arith) in
    rw (n, e)

abbrev row_text : RowKind → Bool → Bool → ℕ → Literal → Literal → List ℕ
row_text k a b g l m = signs_text (gates_signs (row_gates k a b g l m))

module _ (a b : Bool) (g : ℕ) (l m : Literal) where
  pub row_and : (c d : ℕ) → literal_of c ≡ turned a l → literal_of d ≡ turned b m
      → row_text and_row a b g l m ≡ signs_text (gate_signs (junction_gate conjunction (named g) (literal_of c ∷ literal_of d ∷ [])))
  unfolding row_gates
  row_and c d p r = rw (p, r) (one_gate _)

  pub row_xor : (c d : ℕ) → literal_of c ≡ unsigned l → literal_of d ≡ unsigned m
      → row_text xor_row a b g l m ≡ signs_text (gate_signs (xor_gate (named g) (literal_of c) (literal_of d)))
  unfolding row_gates
  row_xor c d p r = rw (p, r) (one_gate _)

  pub row_constant : row_text constant_row a b g l m ≡ signs_text (gate_signs (junction_gate conjunction (named g) []))
  unfolding row_gates
  row_constant = one_gate _

  -- a signed operand has no gate
  pub row_left : row_text left_row a b g l m ≡ []
  unfolding row_gates signs_text gates_signs
  row_left = refl

  pub row_right : row_text right_row a b g l m ≡ []
  unfolding row_gates signs_text gates_signs
  row_right = refl
