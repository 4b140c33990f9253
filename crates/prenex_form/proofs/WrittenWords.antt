-- The words of the written nodes: whole nodes, a tree, and few.
-- Assumes nothing.
use mathlib.Core.Path.{◌≡◌, sym, subst}
use mathlib.Core.Bool.{false}
use mathlib.Core.List.{[]}
use Prim.Native.Nat.{ℕ, ◌+◌, ◌*◌, ◌≤◌, ◌<◌}
use native.Mathlib.Omega.{arith}
use lib.ListN.{length, get_or}
use Rattle.formula.specs.Node.{constant, Table}
use Rattle.formula.specs.Words.{width, node_count, words_at, words_of, table_of}
use Rattle.formula.specs.Tree.{Tree, NoEmptyBlocks}
use Rattle.prenex_form.specs.Names.{bound_count}
use Rattle.prenex_form.specs.Matrix.{prenex_nodes, written_nodes}
use Rattle.prenex_form.specs.Prefix.{block_count}
use Rattle.prenex_form.proofs.NodeLists.{length_words, words_count, words_at_lem}
use Rattle.prenex_form.proofs.WrittenOrder.{written_table}
use Rattle.prenex_form.proofs.WrittenSizes.{length-prenex_nodes, nodes_le, nodes_few}
use Rattle.prenex_form.proofs.WrittenTree.{prenex_tree}

module _ (t : Table) where
  pub written_whole : length (written_nodes t) ≡ width * node_count (written_nodes t)
  unfolding written_nodes
  written_whole = omega (arith, length_words (prenex_nodes t))

  pub written_count : node_count (written_nodes t) ≡ length (prenex_nodes t)
  unfolding written_nodes
  written_count = words_count (prenex_nodes t)

  pub written_words : (i : ℕ) → i < node_count (written_nodes t) → words_at (written_nodes t) i ≡ words_of (get_or (prenex_nodes t) i (constant false))
  unfolding written_nodes
  written_words i h = words_at_lem (prenex_nodes t) i (rw words_count at h)

module _ (t : Table) (tree : Tree t) (filled : NoEmptyBlocks t) where
  pub written_tree : Tree (table_of (written_nodes t) [])
  written_tree = subst Tree (sym (written_table t tree)) (prenex_tree t tree filled)

  pub written_bound : node_count (written_nodes t) ≤ t.size + 5 * block_count t + 4 * bound_count t
  written_bound = omega (arith, written_count t, length-prenex_nodes t tree filled, nodes_le t)

  pub written_few : t.size ≤ 4096 → bound_count t ≤ 4096 → node_count (written_nodes t) ≤ 40960
  written_few n q = omega (arith, written_count t, length-prenex_nodes t tree filled, nodes_few t n q)
