-- What each node is written as: a gate line whose inputs are what stands for the operands in use, a name, or what stands for its one
-- operand in use.
-- Assumes nothing.
use mathlib.Core.Path.{◌≡◌, refl, sym, ◌∙◌, ap}
use mathlib.Core.Bool.{true, false}
use mathlib.Core.List.{List, [], ◌∷◌, map}
use Prim.Native.Nat.{ℕ}
use Rattle.lists.specs.Choice.{clash}
use Rattle.formula.specs.Node.{Node, constant, variable, negation, operator, block, is_block}
use Rattle.formula.specs.FreeVariables.{stands_at}
use Rattle.qcir.specs.File.{Literal, Gate, gate_name, gate_variables, gate_inputs, numbers_of, names_of}
use Rattle.qcir_form.specs.Rows.{RowKind, constant_row, left_row, right_row, and_row, xor_row, row}
use Rattle.qcir_form.specs.File.{row_operands, used_operands, turned, unsigned, row_has_gate, has_gate, row_literal, node_literal, row_gates, node_gates}

-- The number that stands for a node, with or without a minus sign.
abbrev pub number_for : (ℕ → Literal) → ℕ → ℕ
number_for at a = (at a).name.number

-- A gate line of this number with these inputs.
pub record LineOf (g : ℕ) (inputs : List ℕ) (line : Gate) : Type 0 where
  pub name_is : (gate_name line).number ≡ g
  pub plain : gate_variables line ≡ []
  pub inputs_are : numbers_of (names_of (gate_inputs line)) ≡ inputs

pub data Writing (at : ℕ → Literal) (g : ℕ) (nd : Node) : Type 0 where
  as_gate : has_gate nd ≡ true → (node_literal at g nd).name.number ≡ g → ((x : ℕ) → stands_at x nd ≡ false)
      → (line : Gate) → node_gates at g nd ≡ line ∷ [] → LineOf g (map (number_for at) (used_operands nd)) line → Writing at g nd
  as_name : (x : ℕ) → nd ≡ variable x → Writing at g nd
  as_operand : has_gate nd ≡ false → ((x : ℕ) → stands_at x nd ≡ false)
      → (a : ℕ) → used_operands nd ≡ a ∷ [] → (node_literal at g nd).name.number ≡ number_for at a → Writing at g nd

module _ (at : ℕ → Literal) (g f a b : ℕ) where
  -- an operator of a row that has a gate
  gate_row : (k : RowKind) → (row f).kind ≡ k → row_has_gate k ≡ true
      → (row_literal k (row f).whole g (at a) (at b)).name.number ≡ g
      → (line : Gate) → row_gates k (row f).left (row f).right g (at a) (at b) ≡ line ∷ []
      → LineOf g (map (number_for at) (row_operands k a b)) line → Writing at g (operator f a b)
  unfolding has_gate node_literal node_gates used_operands stands_at
  gate_row k e gated number line lines is =
      as_gate (ap row_has_gate e ∙ gated)
      (ap (λ r. (row_literal r (row f).whole g (at a) (at b)).name.number) e ∙ number)
      (λ x. refl) line
      (ap (λ r. row_gates r (row f).left (row f).right g (at a) (at b)) e ∙ lines)
      record {
        name_is = is.name_is;
        plain = is.plain;
        inputs_are = is.inputs_are ∙ ap (λ r. map (number_for at) (row_operands r a b)) (sym e);
      }

  -- an operator of a row that has none
  pass_row : (k : RowKind) → (row f).kind ≡ k → row_has_gate k ≡ false
      → (c : ℕ) → row_operands k a b ≡ c ∷ [] → (row_literal k (row f).whole g (at a) (at b)).name.number ≡ number_for at c
      → Writing at g (operator f a b)
  unfolding has_gate node_literal used_operands stands_at
  pass_row k e gated c used number =
      as_operand (ap row_has_gate e ∙ gated) (λ x. refl) c (ap (λ r. row_operands r a b) e ∙ used)
      (ap (λ r. (row_literal r (row f).whole g (at a) (at b)).name.number) e ∙ number)

  writing_row : (k : RowKind) → (row f).kind ≡ k → Writing at g (operator f a b)
  unfolding row_has_gate row_literal row_gates row_operands turned unsigned numbers_of names_of gate_name gate_variables gate_inputs
  writing_row constant_row e = gate_row constant_row e refl refl _ refl record { name_is = refl; plain = refl; inputs_are = refl }
  writing_row left_row e = pass_row left_row e refl a refl refl
  writing_row right_row e = pass_row right_row e refl b refl refl
  writing_row and_row e = gate_row and_row e refl refl _ refl record { name_is = refl; plain = refl; inputs_are = refl }
  writing_row xor_row e = gate_row xor_row e refl refl _ refl record { name_is = refl; plain = refl; inputs_are = refl }

pub writing : (at : ℕ → Literal) (g : ℕ) (nd : Node) → is_block nd ≡ false → Writing at g nd
unfolding has_gate node_literal node_gates used_operands stands_at is_block turned numbers_of names_of gate_name gate_variables gate_inputs
writing at g (constant c) h = as_gate refl refl (λ x. refl) _ refl record { name_is = refl; plain = refl; inputs_are = refl }
writing at g (variable x) h = as_name x refl
writing at g (negation a) h = as_operand refl (λ x. refl) a refl refl
writing at g (operator f a b) h = writing_row at g f a b (row f).kind refl
writing at g (block q xs a) h = clash refl h
