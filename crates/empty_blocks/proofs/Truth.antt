-- Truth and free variables are kept: each node's value, and whether a number is free in it, is found again at its new index.
-- Assumes nothing.
use mathlib.Core.Path.{◌≡◌, refl, sym, ◌∙◌, ap, fun_ext}
use mathlib.Core.Bool.{Bool, true}
use mathlib.Core.List.{List, []}
use Prim.Native.Nat.{ℕ, zero, suc, ◌-◌, ◌<◌}
use native.Mathlib.Omega.{arith}
use Rattle.lists.specs.Choice.{Is, is_true, is_false, look}
use Rattle.lists.specs.Members.{mem}
use Rattle.lists.proofs.Passing.{one_list}
use Rattle.formula.specs.Node.{Quantifier, Node, block, Table, operands}
use Rattle.formula.specs.Valuation.{Valuation, quant}
use Rattle.formula.specs.Truth.{node_value, value, truth, node_free, free_at, free}
use Rattle.formula.specs.FreeVariables.{free_variables}
use Rattle.formula.specs.Words.{node_count, field, node_at, table_of}
use Rattle.formula.specs.Form.{quantifier_of}
use Rattle.formula.specs.Tree.{Tree}
use Rattle.formula.proofs.Unfolding.{node_cong, node_free_cong, value_node, free_at_node}
use Rattle.formula.proofs.FreeVariables.{free_listed}
use Rattle.acceptance.specs.Accepted.{LowerOperands}
use Rattle.empty_blocks.specs.Removal.{stays, left_below, new_index, without_empty_blocks}
use Rattle.empty_blocks.proofs.Named.{named_stays, named_body, body_lower}
use Rattle.empty_blocks.proofs.Left.{left_order, left_count}
use Rattle.empty_blocks.proofs.Nodes.{moved, moved_value, moved_free, left_node, gone_node}
use Rattle.empty_blocks.proofs.Tree.{operands_below, root_last, new_tree}

-- What is found of a node from what is found of its operands alone (step), and of an empty block as of its body:
record ByOperands (A : Type 0) (step : (ℕ → A) → Node → A) : Type 0 where
  only : (nd : Node) (f g : ℕ → A) → ((a : ℕ) → mem a (operands nd) ≡ true → f a ≡ g a) → step f nd ≡ step g nd
  move : (index : ℕ → ℕ) (at : ℕ → A) (nd : Node) → step at (moved index nd) ≡ step (λ a. at (index a)) nd
  pass : (at : ℕ → A) (q : Quantifier) (a : ℕ) → step at (block q [] a) ≡ at a

value_by : ByOperands (Valuation → Bool) node_value
unfolding node_value quant
value_by =
    record {
      only = λ nd f g same. fun_ext (λ v. node_cong nd f g (λ a m u. ap (λ (h : Valuation → Bool). h u) (same a m)) v);
      move = λ index at nd. fun_ext (λ v. moved_value index at nd v);
      pass = λ at q a. refl;
    }

free_by : (x : ℕ) → ByOperands Bool (λ at nd. node_free at x nd)
unfolding node_free mem
free_by x =
    record {
      only = λ nd f g same. node_free_cong x nd f g same;
      move = λ index at nd. moved_free index at x nd;
      pass = λ at q a. refl;
    }

module _ (ws ls : List ℕ) (tree : Tree (table_of ws ls)) (ordered : LowerOperands ws) where
  -- What is so found of the nodes of the table, and of the nodes left, is the same at a node and at its new index.
  module _ (A : Type 0) (step : (ℕ → A) → Node → A) (by : ByOperands A step) (before after : ℕ → A)
      (at_before : (i : ℕ) → i < node_count ws → before i ≡ step before (node_at ws ls i))
      (at_after : (k : ℕ) → k < left_below ws (node_count ws) → after k ≡ step after (node_at (without_empty_blocks ws) ls k)) where
    kept_below : (m i : ℕ) → i < m → i < node_count ws → after (new_index ws i) ≡ before i
    kept_below zero i l h = absurd (omega arith)
    kept_below (suc m) i l h = go (look (stays ws i)) (kept_below m)
      where
        go : Is (stays ws i) → ((a : ℕ) → a < m → a < node_count ws → after (new_index ws a) ≡ before a) → after (new_index ws i) ≡ before i
        go (is_true s) lower =
            ap after (named_stays ws i s)
            ∙ at_after (left_below ws i) (left_order ws i (node_count ws) s h)
            ∙ ap (step after) (left_node ws ls i h s)
            ∙ by.move (new_index ws) after (node_at ws ls i)
            ∙ by.only (node_at ws ls i) (λ a. after (new_index ws a)) before
            (λ a o. let b : a < i = operands_below ws ls tree ordered i a h o in lower a (omega arith) (omega arith))
            ∙ sym (at_before i h)
        go (is_false s) lower =
            let b : field ws i 3 < i = body_lower ws ordered i h s in
            ap after (named_body ws ordered i h s)
            ∙ lower (field ws i 3) (omega arith) (omega arith)
            ∙ sym (at_before i h ∙ ap (step before) (gone_node ws ls i s) ∙ by.pass before (quantifier_of (field ws i 0)) (field ws i 3))

    kept : (i : ℕ) → i < node_count ws → after (new_index ws i) ≡ before i
    kept i h = kept_below (suc i) i (omega arith) h

    -- the root's
    root_kept : after (node_count (without_empty_blocks ws) - 1) ≡ before (node_count ws - 1)
    unfolding table_of
    root_kept =
        let some : 0 < node_count ws = tree.nonempty in
        let e : node_count (without_empty_blocks ws) - 1 ≡ new_index ws (node_count ws - 1) =
        omega (arith, root_last ws ls tree ordered, left_count ws) in
        ap after e ∙ kept (node_count ws - 1) (omega arith)

  abbrev stored : Table
  stored = table_of ws ls

  abbrev new : Table
  new = table_of (without_empty_blocks ws) ls

  pub same_truth : (v : Valuation) → truth new v ≡ truth stored v
  unfolding truth table_of
  same_truth v =
      let tree' = new_tree ws ls tree ordered in
      ap (λ (f : Valuation → Bool). f v)
      (root_kept (Valuation → Bool) node_value value_by (value stored.size stored) (value new.size new)
      (λ i h. fun_ext (λ u. value_node stored tree.lower i h u))
      (λ k h. fun_ext (λ u. value_node new tree'.lower k (rw left_count h) u)))

  same-free_at : (x : ℕ) → free new x ≡ free stored x
  unfolding free table_of
  same-free_at x =
      let tree' = new_tree ws ls tree ordered in
      root_kept Bool (λ at nd. node_free at x nd) (free_by x) (free_at stored.size stored x) (free_at new.size new x)
      (λ i h. free_at_node stored tree.lower x i h)
      (λ k h. free_at_node new tree'.lower x k (rw left_count h))

  pub same_free : free_variables new ≡ free_variables stored
  same_free =
      let listed = free_listed new (new_tree ws ls tree ordered) in
      one_list (free stored) (free_variables new) (free_variables stored)
      (record { members = λ x. listed.members x ∙ same-free_at x; ascending = listed.ascending })
      (free_listed stored tree)
