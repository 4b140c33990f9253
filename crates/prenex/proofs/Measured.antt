-- The sizes of an accepted table from its parts, and their limits.
-- Assumes nothing.
use mathlib.Core.Path.{◌≡◌, refl, sym, ◌∙◌, ap}
use mathlib.Core.List.{List}
use Prim.Native.Nat.{ℕ, suc, ◌+◌, ◌-◌, ◌≤◌, ◌<◌}
use native.Mathlib.Omega.{arith}
use lib.Dec.{eqb}
use Rattle.lists.specs.Choice.{pick}
use Rattle.lists.specs.Parts.{sum}
use Rattle.lists.proofs.Parts.{pick_le}
use Rattle.formula.specs.Node.{Table, is_block}
use Rattle.formula.specs.Words.{node_count, table_of}
use Rattle.formula.specs.Tree.{Tree}
use Rattle.refusals.specs.Verdict.{accepted}
use Rattle.acceptance.specs.Verdict.{verdict}
use Rattle.acceptance.proofs.Accepted.{accepted_holds}
use Rattle.prenex_form.specs.declared.Sizes.{Sizes}
use Rattle.prenex_form.specs.Names.{bound_count, inner_bound_below, inner_below}
use Rattle.prenex_form.specs.Levels.{levels}
use Rattle.prenex_form.specs.Matrix.{kept}
use Rattle.prenex_form.specs.Prefix.{block_count}
use Rattle.prenex_form.specs.Sizes.{added_by, sizes}
use Rattle.prenex_form.proofs.Paths.{depth_levels}
use Rattle.prenex_form.proofs.PrefixNames.{inner_below-le, block_count-le, prefix_levels}
use Rattle.prenex_form.proofs.NameLaws.{inner_bound_le_lem}
use Rattle.prenex_form.proofs.Limits.{bound_limit, size_limit}
use Rattle.prenex_form.proofs.WrittenSizes.{nodes_few}
use Rattle.prenex_form.proofs.Theorem.{size_rule}
use Rattle.arrays.proofs.Nodes.{levels_small}

-- 1 if the root is a block
abbrev pub root_blocks : Table → ℕ
root_blocks t = pick (is_block (t.node (t.size - 1))) 1 0

pub root_le : (t : Table) → root_blocks t ≤ 1
root_le t = pick_le (is_block (t.node (t.size - 1))) 1

module _ (ws ls : List ℕ) (ok : verdict ws ls ≡ accepted) where
  tree : Tree (table_of ws ls)
  tree = (accepted_holds ws ls ok).proper.tree

  -- the sizes, each given by its part
  pub sizes_are : (n b q d nodes blocks entries : ℕ)
      → n ≡ node_count ws
      → b ≡ block_count (table_of ws ls)
      → q ≡ bound_count (table_of ws ls)
      → d ≡ levels (table_of ws ls) + root_blocks (table_of ws ls)
      → nodes ≡ node_count ws - root_blocks (table_of ws ls) + sum (added_by (table_of ws ls)) (node_count ws)
      → blocks ≡ pick (eqb (block_count (table_of ws ls)) 0) 0 (levels (table_of ws ls) + 1)
      → entries ≡ bound_count (table_of ws ls) + inner_bound_below (table_of ws ls) (node_count ws) + inner_below (table_of ws ls) (node_count ws)
      → ◌≡◌ {A = Sizes} (record { n = n; b = b; q = q; depth = d; nodes = nodes; blocks = blocks; entries = entries }) (sizes (table_of ws ls))
  unfolding sizes kept table_of tree
  sizes_are n b q d nodes blocks entries e1 e2 e3 e4 e5 e6 e7 =
      let f4 = e4 ∙ sym (depth_levels (table_of ws ls) tree) in
      let rule = size_rule (table_of ws ls) tree ((accepted_holds ws ls ok).filled refl) in
      let f5 = e5 ∙ sym rule.nodes_rule in
      let s : levels (table_of ws ls) + 1 ≡ suc (levels (table_of ws ls)) = omega arith in
      let f6 = e6 ∙ ap (λ (k : ℕ). pick (eqb (block_count (table_of ws ls)) 0) 0 k) s ∙ sym (prefix_levels (table_of ws ls)) in
      let f7 = e7 ∙ sym rule.entries_rule in
      λ i. record { n = e1 i; b = e2 i; q = e3 i; depth = f4 i; nodes = f5 i; blocks = f6 i; entries = f7 i }

  -- their limits
  pub levels_limit : levels (table_of ws ls) ≤ 4096
  levels_limit = levels_small ws ls ok

  pub count_limit : node_count ws ≤ 4096
  count_limit = (accepted_holds ws ls ok).nodes_limit

  pub count_some : 0 < node_count ws
  unfolding table_of tree
  count_some = tree.nonempty

  pub added_limit : node_count ws - root_blocks (table_of ws ls) + sum (added_by (table_of ws ls)) (node_count ws) ≤ 40960
  unfolding kept table_of
  added_limit = nodes_few (table_of ws ls) (size_limit ws ls (accepted_holds ws ls ok)) (bound_limit ws ls (accepted_holds ws ls ok))

  pub bound_few : bound_count (table_of ws ls) ≤ 4096
  bound_few = bound_limit ws ls (accepted_holds ws ls ok)

  pub inner_bound_few : inner_bound_below (table_of ws ls) (node_count ws) ≤ 4096
  unfolding bound_count table_of
  inner_bound_few = omega (arith, inner_bound_le_lem (table_of ws ls) (node_count ws), bound_few)

  pub inner_few : inner_below (table_of ws ls) (node_count ws) ≤ 4096
  unfolding table_of
  inner_few = omega (arith, inner_below-le (table_of ws ls), block_count-le (table_of ws ls), count_limit)
