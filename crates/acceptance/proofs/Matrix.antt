-- What the nodes of an accepted matrix are.
-- Assumes nothing.
use mathlib.Core.Path.{◌≡◌, refl, sym, subst}
use mathlib.Core.Bool.{true, false}
use mathlib.Core.List.{List, []}
use Prim.Native.Nat.{ℕ, ◌<◌}
use native.Mathlib.Omega.{arith}
use Rattle.lists.specs.Choice.{clash}
use Rattle.formula.specs.Node.{Node, constant, variable, negation, operator, block, is_block}
use Rattle.formula.specs.Words.{node_count, words_at, node_at, table_of}
use Rattle.formula.proofs.Nodes.{node_constant, node_variable, node_negation, node_operator}
use Rattle.acceptance.specs.Limits.{matrix_within}
use Rattle.acceptance.specs.Verdict.{is_number_to}
use Rattle.acceptance.specs.Accepted.{AcceptedWithin}
use Rattle.acceptance.proofs.Accepted.{Formed, formed_constant, formed_variable, formed_negation, formed_operator, formed_exists, formed_for_all, formed_cases}

-- A node of a matrix whose numbers are from 1 up to m: no block, and its truth table is one of the sixteen.
abbrev pub MatrixNode : ℕ → Node → Type 0
MatrixNode m (constant b) = Unit {0}
MatrixNode m (variable x) = is_number_to m x ≡ true
MatrixNode m (negation a) = Unit {0}
MatrixNode m (operator f a b) = f < 16
MatrixNode m (block q xs a) = ⊥

not_a_block : (m : ℕ) (nd : Node) → MatrixNode m nd → is_block nd ≡ false
unfolding is_block
not_a_block m (constant b) w = refl
not_a_block m (variable x) w = refl
not_a_block m (negation a) w = refl
not_a_block m (operator f a b) w = refl
not_a_block m (block q xs a) w = absurd w

module _ (nodes most : ℕ) (ns : List ℕ) (a : AcceptedWithin (matrix_within nodes most) ns []) where
  pub matrix_node : (i : ℕ) → i < node_count ns → MatrixNode most ((table_of ns []).node i)
  unfolding table_of
  matrix_node i h = go (formed_cases (matrix_within nodes most) (words_at ns i) (a.formed i h))
    where
      go : Formed (matrix_within nodes most) (words_at ns i) → MatrixNode most (node_at ns [] i)
      go (formed_constant e _ _ _) = subst (MatrixNode most) (sym (node_constant ns [] i e)) tt
      go (formed_variable e n _ _) = subst (MatrixNode most) (sym (node_variable ns [] i e)) n
      go (formed_negation e _ _) = subst (MatrixNode most) (sym (node_negation ns [] i e)) tt
      go (formed_operator e n) = subst (MatrixNode most) (sym (node_operator ns [] i e)) (omega arith)
      go (formed_exists e p) = clash p refl
      go (formed_for_all e p) = clash p refl

  pub no_block : (i : ℕ) → i < node_count ns → is_block ((table_of ns []).node i) ≡ false
  no_block i h = not_a_block most ((table_of ns []).node i) (matrix_node i h)
