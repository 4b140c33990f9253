-- How deep the levels of an accepted table go.
-- Assumes nothing.
use mathlib.Core.Path.{◌≡◌}
use mathlib.Core.Bool.{true, not}
use mathlib.Core.List.{List}
use Prim.Native.Nat.{ℕ, suc, ◌+◌, ◌≤◌, ◌<◌}
use native.Mathlib.Omega.{arith}
use lib.Dec.{ltb, eqb}
use borrow.Author.Tests.{ltb-true, ltb-false}
use Rattle.lists.specs.Choice.{Is, is_true, is_false, look, and_left}
use Rattle.formula.specs.Node.{Table}
use Rattle.formula.specs.Words.{table_of}
use Rattle.formula.specs.Tree.{Tree}
use Rattle.refusals.specs.Verdict.{accepted}
use Rattle.acceptance.specs.Limits.{limit}
use Rattle.acceptance.specs.Verdict.{verdict}
use Rattle.acceptance.specs.Accepted.{Accepted}
use Rattle.acceptance.proofs.Accepted.{accepted_holds}
use Rattle.prenex_form.specs.Scope.{inner}
use Rattle.prenex_form.specs.Levels.{levels}
use Rattle.prenex_form.specs.Matrix.{body_of}
use Rattle.prenex_form.proofs.Paths.{body_named, blocks_at-lt, blocks_at-inner, blocks_at-level, level_nonempty, level_below}

module _ (t : Table) (tree : Tree t) where
  -- an inner block has a body below it
  inner_positive : (i : ℕ) → i < t.size → inner t i ≡ true → 0 < i
  unfolding inner
  inner_positive i h e =
      omega (arith, tree.lower i (body_of (t.node i)) h (body_named (t.node i) (and_left _ (not (eqb (suc i) t.size)) e)))

  -- with inner blocks, the deepest level stays below the number of nodes by two
  deepest : 0 < levels t → suc (levels t) < t.size
  deepest h =
      let r = level_nonempty t tree (levels t) h (omega arith) in
      let l = blocks_at-lt t tree (levels t) r.0 r.1 in
      omega (
        arith,
        level_below t tree r.0 l,
        blocks_at-level t tree (levels t) r.0 r.1,
        inner_positive r.0 l (blocks_at-inner t tree (levels t) r.0 r.1),
      )

module _ (ws ls : List ℕ) (v : verdict ws ls ≡ accepted) where
  ok : Accepted ws ls
  ok = accepted_holds ws ls v

  -- the level after the deepest is within the arrays
  next_level : (suc (levels (table_of ws ls)) ≤ (table_of ws ls).size) × (suc (levels (table_of ws ls)) < limit)
  unfolding table_of
  next_level = go (look (ltb 0 (levels (table_of ws ls))))
    where
      go : Is (ltb 0 (levels (table_of ws ls))) → (suc (levels (table_of ws ls)) ≤ (table_of ws ls).size) × (suc (levels (table_of ws ls)) < limit)
      go (is_true e) = omega (arith, deepest (table_of ws ls) ok.proper.tree (ltb-true 0 (levels (table_of ws ls)) e), ok.nodes_limit)
      go (is_false e) = omega (arith, ltb-false 0 (levels (table_of ws ls)) e, ok.proper.tree.nonempty)

  -- up to that level the arrays have a chain
  pub level_fits : (l : ℕ) → l ≤ levels (table_of ws ls) + 1 → (l ≤ (table_of ws ls).size) × (l < limit)
  level_fits l h = omega (arith, next_level.0, next_level.1)
