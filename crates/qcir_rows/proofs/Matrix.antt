-- The nodes of a matrix, by their words as they are read.
-- Assumes nothing.
use mathlib.Core.Path.{◌≡◌, refl, sym, ◌∙◌, ap}
use mathlib.Core.Bool.{true, not}
use mathlib.Core.List.{List, []}
use Prim.Native.Nat.{ℕ, zero, suc, ◌<◌, ◌≤◌}
use native.Mathlib.Omega.{arith}
use lib.Dec.{eqb, leb}
use borrow.Author.Tests.{leb-true}
use Rattle.lists.specs.Choice.{pick, clash, and_left, and_right}
use Rattle.formula.specs.Node.{constant, variable, negation, operator}
use Rattle.formula.specs.Words.{node_count, words_at, node_of, node_at, table_of}
use Rattle.formula.specs.declared.NodeWords.{NodeWords}
use Rattle.acceptance.specs.Limits.{matrix_within}
use Rattle.acceptance.specs.Verdict.{is_number_to, well_formed}
use Rattle.acceptance.specs.Accepted.{AcceptedWithin}
use Rattle.acceptance.proofs.Accepted.{Formed, formed_constant, formed_variable, formed_negation, formed_operator, formed_exists, formed_for_all, formed_cases}
use Rattle.form_check.specs.Verdict.{form_limits}
use Rattle.qcir_form.specs.Rows.{OperatorRow, row}
use Rattle.qcir_rows.specs.declared.Row.{Row}
use Rattle.qcir_rows.specs.declared.RowKind.TheVariants.{Constant, Left}
use Rattle.qcir_rows.specs.declared.Shape.TheVariants as shape
use Rattle.qcir_rows.specs.Shapes.{row_meant, leaf_shape, RowFor, constant_node, negation_node, operator_node, ShapeFor}
use Rattle.qcir_rows.proofs.Shapes.{operands_low}

-- The words of a node of each kind.
module _ (w : NodeWords) where
  of_operator : w.kind ≡ 4 → node_of [] w ≡ operator w.a w.b w.c
  unfolding node_of pick
  of_operator e = rw e

  of_negation : w.kind ≡ 3 → node_of [] w ≡ negation w.a
  unfolding node_of pick
  of_negation e = rw e

  of_variable : w.kind ≡ 2 → node_of [] w ≡ variable w.a
  unfolding node_of pick
  of_variable e = rw e

  of_constant : w.kind ≡ 1 → node_of [] w ≡ constant (eqb w.a 1)
  unfolding node_of pick
  of_constant e = rw e

-- A constant's sign: a minus for 0.
constant_sign : (a : ℕ) → a ≤ 1 → not (eqb a 1) ≡ eqb a 0
constant_sign zero h = refl
constant_sign (suc zero) h = refl
constant_sign (suc (suc a)) h = absurd (omega arith)

-- A node of a matrix, which may hold so many nodes and numbers up to this one. w are its words.
module _ (nodes most : ℕ) (ns : List ℕ) (ok : AcceptedWithin (matrix_within nodes most) ns []) (i : ℕ) (h : i < node_count ns)
    (w : NodeWords) (r : w ≡ words_at ns i) where
  formed : Formed (matrix_within nodes most) w
  formed = formed_cases (matrix_within nodes most) w (ap (well_formed (matrix_within nodes most)) r ∙ ok.formed i h)

  node_is : node_at ns [] i ≡ node_of [] w
  unfolding node_at
  node_is = ap (node_of []) (sym r)

  -- an operator
  pub table_low : w.kind ≡ 4 → w.a < 16
  table_low k = go formed
    where
      go : Formed (matrix_within nodes most) w → w.a < 16
      go (formed_constant e a b c) = absurd (omega arith)
      go (formed_variable e a b c) = absurd (omega arith)
      go (formed_negation e b c) = absurd (omega arith)
      go (formed_operator e a) = omega arith
      go (formed_exists e b) = clash b refl
      go (formed_for_all e b) = clash b refl

  pub shape_operator : w.kind ≡ 4 → (r : Row) → row_meant r ≡ row w.a → ShapeFor (node_at ns [] i) (shape.Row w.b w.c r)
  shape_operator k r e = rw (node_is, of_operator w k, e) (operator_node w.a w.b w.c)

  -- a not node
  pub shape_negation : w.kind ≡ 3 → ShapeFor (node_at ns [] i) (leaf_shape Left true w.a)
  shape_negation k = rw (node_is, of_negation w k) (negation_node w.a)

  -- a variable
  pub shape_variable : w.kind ≡ 2 → ShapeFor (node_at ns [] i) (shape.Name w.a)
  shape_variable k = node_is ∙ of_variable w k

  -- what else there is: a constant
  constant_else : (w.kind ≡ 4 → ⊥) → (w.kind ≡ 3 → ⊥) → (w.kind ≡ 2 → ⊥) → (w.kind ≡ 1) × (w.a ≤ 1)
  constant_else n4 n3 n2 = go formed
    where
      go : Formed (matrix_within nodes most) w → (w.kind ≡ 1) × (w.a ≤ 1)
      go (formed_constant e a b c) = (e, a)
      go (formed_variable e a b c) = absurd (n2 e)
      go (formed_negation e b c) = absurd (n3 e)
      go (formed_operator e a) = absurd (n4 e)
      go (formed_exists e b) = clash b refl
      go (formed_for_all e b) = clash b refl

  pub shape_constant : (w.kind ≡ 4 → ⊥) → (w.kind ≡ 3 → ⊥) → (w.kind ≡ 2 → ⊥) → ShapeFor (node_at ns [] i) (leaf_shape Constant (eqb w.a 0) 0)
  shape_constant n4 n3 n2 =
      let e = constant_else n4 n3 n2 in
      rw (node_is, of_constant w e.0, ← constant_sign w.a e.1) (constant_node (eqb w.a 1))

  -- a variable's name
  name_low : (x : ℕ) → node_at ns [] i ≡ variable x → (1 ≤ x) × (x ≤ most)
  unfolding is_number_to
  name_low x v = go formed
    where
      here : node_of [] w ≡ variable x
      here = sym node_is ∙ v

      go : Formed (matrix_within nodes most) w → (1 ≤ x) × (x ≤ most)
      go (formed_constant e a b c) = let k = of_constant w e in absurd (cc (k, here))
      go (formed_variable e a b c) =
          let k = of_variable w e in
          let l : w.a ≡ x = cc (k, here) in
          let p = leb-true 1 w.a (and_left (leb 1 w.a) (leb w.a most) a) in
          let q = leb-true w.a most (and_right (leb 1 w.a) (leb w.a most) a) in
          (omega arith, omega arith)
      go (formed_negation e b c) = let k = of_negation w e in absurd (cc (k, here))
      go (formed_operator e a) = let k = of_operator w e in absurd (cc (k, here))
      go (formed_exists e b) = clash b refl
      go (formed_for_all e b) = clash b refl

-- A node of a form's matrix: its name has a place in the flags, and its operands have places in the marks.
module _ {ns : List ℕ} (ok : AcceptedWithin form_limits ns []) {i : ℕ} (h : i < node_count ns) where
  pub form_name_low : {x : ℕ} → node_at ns [] i ≡ variable x → (1 ≤ x) × (x ≤ 77823)
  form_name_low v = name_low 40960 77823 ns ok i h (words_at ns i) refl _ v

  pub form_operands_low : {r : OperatorRow} {a b : ℕ} → RowFor (node_at ns [] i) r a b → (a < 40960) × (b < 40960)
  unfolding table_of
  form_operands_low s =
      let l = operands_low (table_of ns []) ok.proper.tree i h s in
      let m = ok.nodes_limit in
      (omega arith, omega arith)
