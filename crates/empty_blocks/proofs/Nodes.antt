-- The nodes of the table without empty blocks, and what an empty block is as a node.
-- Assumes nothing.
use mathlib.Core.Path.{◌≡◌, refl, ◌∙◌, ap}
use mathlib.Core.Bool.{Bool, true, false}
use mathlib.Core.List.{List, [], map}
use Prim.Native.Nat.{ℕ, ◌+◌, ◌<◌}
use borrow.Author.Tests.{eqb-true, not-false}
use Rattle.lists.specs.Choice.{pick, clash, and_right}
use Rattle.formula.specs.Node.{Node, constant, variable, negation, operator, block, operands, is_block, bound}
use Rattle.formula.specs.Valuation.{Valuation}
use Rattle.formula.specs.Truth.{node_value, node_free}
use Rattle.formula.specs.Words.{node_count, field, is_block_kind, is_empty_block, range, words_at, node_of, node_at}
use Rattle.formula.specs.Form.{quantifier_of}
use Rattle.formula.specs.declared.NodeWords.{NodeWords}
use Rattle.formula.proofs.Nodes.{Kind, kind_of_lem, kind_constant, kind_variable, kind_negation, kind_operator, kind_exists, kind_for_all, kind_none, is_block_lem, node_block}
use Rattle.acceptance.specs.Limits.{table_limits, stored_limits}
use Rattle.acceptance.specs.Verdict.{well_formed}
use Rattle.empty_blocks.specs.Removal.{stays, left_below, new_index, renumbered, without_empty_blocks}
use Rattle.empty_blocks.proofs.Named.{gone_block}
use Rattle.empty_blocks.proofs.Left.{left_words}

-- A node with each operand and body at its new index.
unfoldable pub moved : (ℕ → ℕ) → Node → Node
moved f (constant b) = constant b
moved f (variable x) = variable x
moved f (negation a) = negation (f a)
moved f (operator o a b) = operator o (f a) (f b)
moved f (block q xs a) = block q xs (f a)

module _ (f : ℕ → ℕ) where
  pub moved_operands : (nd : Node) → operands (moved f nd) ≡ map f (operands nd)
  unfolding moved operands
  moved_operands (constant b) = refl
  moved_operands (variable x) = refl
  moved_operands (negation a) = refl
  moved_operands (operator o a b) = refl
  moved_operands (block q xs a) = refl

  pub moved_bound : (nd : Node) → bound (moved f nd) ≡ bound nd
  unfolding moved bound
  moved_bound (constant b) = refl
  moved_bound (variable x) = refl
  moved_bound (negation a) = refl
  moved_bound (operator o a b) = refl
  moved_bound (block q xs a) = refl

  pub moved_block : (nd : Node) → is_block (moved f nd) ≡ is_block nd
  unfolding moved is_block
  moved_block (constant b) = refl
  moved_block (variable x) = refl
  moved_block (negation a) = refl
  moved_block (operator o a b) = refl
  moved_block (block q xs a) = refl

  pub moved_value : (at : ℕ → Valuation → Bool) (nd : Node) (v : Valuation) → node_value at (moved f nd) v ≡ node_value (λ a. at (f a)) nd v
  unfolding moved node_value
  moved_value at (constant b) v = refl
  moved_value at (variable x) v = refl
  moved_value at (negation a) v = refl
  moved_value at (operator o a b) v = refl
  moved_value at (block q xs a) v = refl

  pub moved_free : (at : ℕ → Bool) (x : ℕ) (nd : Node) → node_free at x (moved f nd) ≡ node_free (λ a. at (f a)) x nd
  unfolding moved node_free
  moved_free at x (constant b) = refl
  moved_free at x (variable y) = refl
  moved_free at x (negation a) = refl
  moved_free at x (operator o a b) = refl
  moved_free at x (block q xs a) = refl

  -- That is the node which its words make with operands and body at their new indices. These words are formed as they were.

  node_renumbered_by : (ls : List ℕ) (w : NodeWords) → Kind w.kind → node_of ls (renumbered f w) ≡ moved f (node_of ls w)
  unfolding renumbered node_of moved is_block_kind pick
  node_renumbered_by ls w (kind_constant e) = rw e
  node_renumbered_by ls w (kind_variable e) = rw e
  node_renumbered_by ls w (kind_negation e) = rw e
  node_renumbered_by ls w (kind_operator e) = rw e
  node_renumbered_by ls w (kind_exists e) = rw e
  node_renumbered_by ls w (kind_for_all e) = rw e
  node_renumbered_by ls w (kind_none e1 e2 e3 e4 e5 e6) = rw (e1, e2, e3, e4, e5, e6)

  formed_renumbered_by : (w : NodeWords) → Kind w.kind → well_formed table_limits (renumbered f w) ≡ well_formed stored_limits w
  unfolding renumbered well_formed is_block_kind pick
  formed_renumbered_by w (kind_constant e) = rw e
  formed_renumbered_by w (kind_variable e) = rw e
  formed_renumbered_by w (kind_negation e) = rw e
  formed_renumbered_by w (kind_operator e) = rw e
  formed_renumbered_by w (kind_exists e) = rw e
  formed_renumbered_by w (kind_for_all e) = rw e
  formed_renumbered_by w (kind_none e1 e2 e3 e4 e5 e6) = rw (e1, e2, e3, e4, e5, e6)

  pub formed_renumbered : (w : NodeWords) → well_formed table_limits (renumbered f w) ≡ well_formed stored_limits w
  formed_renumbered w = formed_renumbered_by w (kind_of_lem w.kind)

  -- a block's range stays as it is
  range_renumbered_by : (w : NodeWords) → Kind w.kind → is_block_kind w.kind ≡ true
      → (renumbered f w).a + (renumbered f w).b ≡ w.a + w.b
  unfolding renumbered is_block_kind pick
  range_renumbered_by w (kind_constant e) b = rw e
  range_renumbered_by w (kind_variable e) b = rw e
  range_renumbered_by w (kind_negation e) b = clash b (rw e)
  range_renumbered_by w (kind_operator e) b = clash b (rw e)
  range_renumbered_by w (kind_exists e) b = rw e
  range_renumbered_by w (kind_for_all e) b = rw e
  range_renumbered_by w (kind_none e1 e2 e3 e4 e5 e6) b = rw (e3, e4)

  pub range_renumbered : (w : NodeWords) → is_block_kind w.kind ≡ true → (renumbered f w).a + (renumbered f w).b ≡ w.a + w.b
  range_renumbered w = range_renumbered_by w (kind_of_lem w.kind)

-- a node that stays, where it stands
pub left_node : (ws ls : List ℕ) (i : ℕ) → i < node_count ws → stays ws i ≡ true
    → node_at (without_empty_blocks ws) ls (left_below ws i) ≡ moved (new_index ws) (node_at ws ls i)
unfolding node_at
left_node ws ls i h s = ap (node_of ls) (left_words ws i h s) ∙ node_renumbered_by (new_index ws) ls (words_at ws i) (kind_of_lem (field ws i 0))

-- a node that does not stay is an empty block
pub gone_node : (ws ls : List ℕ) (i : ℕ) → stays ws i ≡ false → node_at ws ls i ≡ block (quantifier_of (field ws i 0)) [] (field ws i 3)
unfolding stays is_empty_block range
gone_node ws ls i s =
    let none : field ws i 2 ≡ 0 = eqb-true _ _ (and_right (is_block_kind (field ws i 0)) _ (not-false _ s)) in
    node_block ws ls i (is_block_lem ws ls i ∙ gone_block ws i s) ∙ rw none
