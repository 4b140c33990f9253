-- Every variable of a clause of a form's problem stands in exactly one block, and there once.
-- Assumes nothing.
use mathlib.Core.Path.{◌≡◌, refl, sym, ◌∙◌, ap}
use mathlib.Core.Bool.{true, false, not, ◌&&◌}
use mathlib.Core.List.{List, [], ◌++◌}
use Prim.Native.Nat.{ℕ, zero, suc, ◌+◌, ◌-◌, ◌≤◌, ◌<◌}
use native.Mathlib.Omega.{arith}
use lib.Dec.{eqb, ltb}
use borrow.Author.Tests.{eq-eqb, ltb-true, ltb-false}
use Rattle.lists.specs.Choice.{Is, is_true, is_false, look, absent, and_both, and_off_left, and_off_right}
use Rattle.lists.specs.Members.{mem, times}
use Rattle.lists.specs.Parts.{numbers}
use Rattle.lists.proofs.Members.{times_zero, times_append, times_distinct}
use Rattle.lists.proofs.Parts.{distinct_numbers, sum_positive}
use Rattle.lists.proofs.Passing.{strict_distinct}
use Rattle.formula.specs.Node.{variable, Table, operands, is_block}
use Rattle.formula.specs.Words.{table_of}
use Rattle.formula.specs.Truth.{node_free, free_at, free}
use Rattle.formula.specs.Form.{Block, binds, blocks_of, form_free}
use Rattle.formula.specs.FreeVariables.{form_free_variables}
use Rattle.formula.specs.Tree.{Tree, times_named}
use Rattle.formula.proofs.Unfolding.{free_at_node}
use Rattle.formula.proofs.FreeVariables.{through_free, form_free-listed}
use Rattle.acceptance.specs.Limits.{matrix_within}
use Rattle.form_check.specs.Accepted.{AcceptedFormWithin, prefix_names}
use Rattle.acceptance.proofs.Matrix.{no_block}
use Rattle.form_check.proofs.Flags.{binds_names}
use Rattle.qdimacs_form.specs.Clauses.{has_gate, gates_below, first_gate, gate_variable, form_problem}
use Rattle.qdimacs_form.specs.Laws.{bound_once, ProblemBound}
use Rattle.qdimacs_form.proofs.Gates.{gate_first, gate_number_lem, below_gates, name_below, prefix_below, open_below}
use Rattle.qdimacs_form.proofs.Blocks.{problem_names}
use Rattle.qdimacs_form.proofs.Numbers.{form_clauses}

-- In a tree without blocks what stands at a node is free at the root.
module _ (t : Table) (tree : Tree t) (plain : (i : ℕ) → i < t.size → is_block (t.node i) ≡ false) (x : ℕ) where
  -- each node but the last is named by a higher one
  named : (i : ℕ) → suc i < t.size → (j : ℕ) × (j < t.size) × (mem i (operands (t.node j)) ≡ true)
  unfolding times_named
  named i h =
      let once : times_named t i ≡ 1 = tree.once i h in
      let r = sum_positive (λ j. times i (operands (t.node j))) t.size (omega arith) in
      (r.0, r.1, go r.0 r.2 (look (mem i (operands (t.node r.0)))))
    where
      go : (j : ℕ) → 0 < times i (operands (t.node j)) → Is (mem i (operands (t.node j))) → mem i (operands (t.node j)) ≡ true
      go j k (is_true m) = m
      go j k (is_false m) = absurd (omega (arith, times_zero i (operands (t.node j)) m))

  free_above : (k i : ℕ) → t.size ≤ i + k → i < t.size → free_at t.size t x i ≡ true → free t x ≡ true
  unfolding free
  free_above zero i l h e = absurd (omega arith)
  free_above (suc k) i l h e = go (look (ltb (suc i) t.size)) (free_above k)
    where
      go : Is (ltb (suc i) t.size) → ((j : ℕ) → t.size ≤ j + k → j < t.size → free_at t.size t x j ≡ true → free t x ≡ true) → free t x ≡ true
      go (is_true b) next =
          let u = named i (ltb-true (suc i) t.size b) in
          let j : ℕ = u.0 in
          let up : i < j = tree.lower j i u.1 u.2 in
          next j (omega arith) u.1
          (free_at_node t tree.lower x j u.1
          ∙ through_free (free_at t.size t x) x (t.node j) i u.2 e (and_off_left _ _ (plain j u.1)))
      go (is_false b) next =
          let s : i ≡ t.size - 1 = omega (arith, ltb-false (suc i) t.size b) in
          ap (free_at t.size t x) (sym s) ∙ e

  pub stands_free : (i : ℕ) → i < t.size → t.node i ≡ variable x → free t x ≡ true
  unfolding node_free
  stands_free i h e =
      free_above t.size i (omega arith) h
      (free_at_node t tree.lower x i h ∙ ap (node_free (free_at t.size t x) x) e ∙ eq-eqb x x refl)

module _ (nodes most : ℕ) (ns ps xs : List ℕ) (form : AcceptedFormWithin (matrix_within nodes most) ns ps xs) where
  abbrev table : Table
  table = table_of ns []

  abbrev blocks : List Block
  blocks = blocks_of ps xs

  abbrev first : ℕ
  first = first_gate table blocks

  abbrev open_names : List ℕ
  open_names = form_free_variables ns ps xs

  abbrev gates : List ℕ
  gates = numbers first (gates_below table table.size)

  -- What stands once among the open names, those of the prefix and the gates, and elsewhere not.
  abbrev Once : ℕ → Type 0
  Once x = times x (prefix_names (form_problem ns ps xs).blocks) ≡ 1

  in_parts : (x : ℕ) → times x open_names + (times x (prefix_names blocks) + times x gates) ≡ 1 → Once x
  in_parts x h =
      ap (times x) (problem_names ns ps xs)
      ∙ omega (arith, times_append x open_names (prefix_names blocks ++ gates), times_append x (prefix_names blocks) gates)

  -- a gate's variable: it is above all names
  gate_once : (i : ℕ) → i < table.size → has_gate table i ≡ true → Once (gate_variable table first i)
  gate_once i h g =
      let x : ℕ = gate_variable table first i in
      let high : first ≤ x = gate_first table first i in
      let no_open : mem x open_names ≡ false = absent _ (λ m. omega (arith, open_below ns ps xs x m)) in
      let no_name : mem x (prefix_names blocks) ≡ false = absent _ (λ m. omega (arith, prefix_below table blocks x m)) in
      let gate = times_distinct x gates (distinct_numbers first _) (gate_number_lem table first i h g) in
      in_parts x (omega (arith, times_zero x open_names no_open, times_zero x (prefix_names blocks) no_name, gate))

  open_is : (x : ℕ) → mem x open_names ≡ (free table x && not (binds blocks x))
  unfolding form_free
  open_is x = (form_free-listed ns ps xs form.matrix.proper.tree).members x

  -- a name at a variable node: a block binds it, or it is open
  name_once : (i x : ℕ) → i < table.size → table.node i ≡ variable x → Once x
  unfolding table_of
  name_once i x h e = go (look (binds blocks x))
    where
      go : Is (binds blocks x) → Once x
      go (is_true b) =
          let no_open : mem x open_names ≡ false = open_is x ∙ and_off_right (free table x) _ (ap not b) in
          let one = times_distinct x (prefix_names blocks) form.apart (binds_names blocks x ∙ b) in
          let no_gate = below_gates table first x (name_below table blocks i x h e) in
          in_parts x (omega (arith, times_zero x open_names no_open, one, times_zero x gates no_gate))
      go (is_false b) =
          let listed = form_free-listed ns ps xs form.matrix.proper.tree in
          let is_free : free table x ≡ true = stands_free table form.matrix.proper.tree (no_block nodes most ns form.matrix) x i h e in
          let is_open : mem x open_names ≡ true = open_is x ∙ and_both (free table x) _ is_free (ap not b) in
          let one = times_distinct x open_names (strict_distinct open_names listed.ascending) is_open in
          let no_gate = below_gates table first x (name_below table blocks i x h e) in
          in_parts x (omega (arith, one, times_zero x (prefix_names blocks) (binds_names blocks x ∙ b), times_zero x gates no_gate))

pub problem_bound : ProblemBound
unfolding bound_once
problem_bound nodes most ns ps xs form =
    form_clauses nodes most ns ps xs form (λ x. eqb (times x (prefix_names (form_problem ns ps xs).blocks)) 1)
    (λ i h g. eq-eqb _ 1 (gate_once nodes most ns ps xs form i h g)) (λ i x h e. eq-eqb _ 1 (name_once nodes most ns ps xs form i x h e))
