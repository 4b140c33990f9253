-- The nodes of an accepted table: how many there are, how deep they stand, and what their words say as they are read.
-- Assumes nothing.
use mathlib.Core.Path.{◌≡◌, sym, ◌∙◌, ap, subst}
use mathlib.Core.Bool.{true}
use mathlib.Core.List.{List}
use Prim.Native.Nat.{ℕ, suc, ◌<◌, ◌≤◌}
use native.Mathlib.Omega.{arith}
use lib.Dec.{eqb}
use borrow.Author.Tests.{eqb-true, eqb-false}
use Rattle.lists.specs.Choice.{pick_yes, Is, is_true, is_false, look}
use Rattle.lists.proofs.Parts.{highest_le}
use Rattle.formula.specs.Node.{is_block}
use Rattle.formula.specs.declared.NodeWords.{NodeWords}
use Rattle.formula.specs.Words.{node_count, is_block_kind, words_at, node_of, node_at, table_of}
use Rattle.formula.specs.Tree.{Tree, count}
use Rattle.formula.proofs.Nodes.{is_block_lem, block_kind}
use Rattle.refusals.specs.Verdict.{accepted}
use Rattle.acceptance.specs.Limits.{limit}
use Rattle.acceptance.specs.Verdict.{count_at, verdict}
use Rattle.acceptance.proofs.Accepted.{accepted_holds, count_at_lem}
use Rattle.prenex_form.specs.Scope.{level}
use Rattle.prenex_form.specs.Levels.{levels}
use Rattle.prenex_form.proofs.Paths.{level_below}

-- what holds of number i and of those above it, for a pass downward
pub from_here : (P : ℕ → Type 0) (i n : ℕ) → P i → ((x : ℕ) → suc i ≤ x → x < n → P x) → (x : ℕ) → i ≤ x → x < n → P x
from_here P i n p q x k l = go (look (eqb x i))
  where
    go : Is (eqb x i) → P x
    go (is_true e) = subst P (sym (eqb-true x i e)) p
    go (is_false e) =
        let d = eqb-false x i e in q x (omega arith) l

-- node i, by its words as they are read
module _ (ws ls : List ℕ) (i : ℕ) (w : NodeWords) (r : w ≡ words_at ws i) where
  pub node_read : node_at ws ls i ≡ node_of ls w
  unfolding node_at
  node_read = ap (node_of ls) (sym r)

  pub block_read : is_block_kind w.kind ≡ is_block (node_at ws ls i)
  block_read = ap (λ (v : NodeWords). is_block_kind v.kind) r ∙ sym (is_block_lem ws ls i)

module _ (ws ls : List ℕ) (ok : verdict ws ls ≡ accepted) where
  pub accepted_tree : Tree (table_of ws ls)
  accepted_tree = (accepted_holds ws ls ok).proper.tree

  pub nodes_few : node_count ws ≤ limit
  nodes_few = (accepted_holds ws ls ok).nodes_limit

  pub table_few : (table_of ws ls).size ≤ limit
  unfolding table_of
  table_few = nodes_few

  module _ (i : ℕ) (h : i < node_count ws) where
    pub level_small : level (table_of ws ls) i < limit
    unfolding table_of
    level_small = omega (arith, level_below (table_of ws ls) accepted_tree i h, nodes_few)

    pub count_read : (w : NodeWords) → w ≡ words_at ws i → is_block (node_at ws ls i) ≡ true → w.b ≡ count (table_of ws ls) i
    unfolding count_at
    count_read w r e =
        ap (λ (v : NodeWords). v.b) r
        ∙ sym (count_at_lem ws ls i (λ b. (accepted_holds ws ls ok).fits i h b) ∙ pick_yes _ _ _ (block_kind ws ls i e))

  pub levels_small : levels (table_of ws ls) ≤ limit
  unfolding levels table_of
  levels_small = highest_le (level (table_of ws ls)) (node_count ws) limit (λ i h. omega (arith, level_small i h))
