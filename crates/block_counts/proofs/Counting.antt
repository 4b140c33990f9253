-- What the pass from the root down counts, step by step, and how large the counts can be.
-- Assumes nothing.
use mathlib.Core.Path.{◌≡◌, ◌∙◌}
use mathlib.Core.Bool.{Bool, true, false}
use mathlib.Core.List.{List}
use Prim.Native.Nat.{ℕ, zero, suc, ◌+◌, ◌*◌, ◌<◌, ◌≤◌, max}
use native.Mathlib.Numerals.{add-one}
use native.Mathlib.Omega.{arith}
use lib.Dec.{eqb}
use borrow.Author.Tests.{eqb-true, eqb-false}
use Rattle.lists.specs.Choice.{pick, pick_yes, pick_no, Is, is_true, is_false, look}
use Rattle.lists.specs.Parts.{sum}
use Rattle.lists.proofs.Parts.{highest_le, pick_le}
use Rattle.formula.specs.Node.{Table, is_block}
use Rattle.formula.specs.declared.NodeWords.{NodeWords}
use Rattle.formula.specs.Words.{node_count, words_at, node_at, table_of}
use Rattle.formula.specs.Tree.{Tree, count, bound_below}
use Rattle.refusals.specs.Verdict.{accepted}
use Rattle.acceptance.specs.Limits.{limit}
use Rattle.acceptance.specs.Verdict.{verdict}
use Rattle.acceptance.proofs.Accepted.{accepted_holds}
use Rattle.prenex_form.specs.Scope.{parent, inner, level}
use Rattle.prenex_form.specs.Levels.{levels}
use Rattle.prenex_form.specs.Names.{bound_count, inner_bound_below, inner_below}
use Rattle.prenex_form.specs.Prefix.{block_count}
use Rattle.prenex_form.specs.Sizes.{added_by}
use Rattle.prenex_form.proofs.Paths.{inner_is, not_inner, inner_root, parent_lt, parent_higher, level_root, level_step, level_le_levels}
use Rattle.prenex_form.proofs.NameLaws.{none_bound, inner_bound_le_lem}
use Rattle.arrays.proofs.Nodes.{from_here, accepted_tree, nodes_few, count_read}
use Rattle.block_counts.specs.declared.Counts.{Counts}
use Rattle.block_counts.specs.Counting.{no_blocks, with_root, with_inner, Small, CountsFrom, BlockCounts}

-- sums over the nodes below i
ones_le : (p : ℕ → Bool) (n : ℕ) → sum (λ j. pick (p j) 1 0) n ≤ n
unfolding sum
ones_le p zero = omega arith
ones_le p (suc n) = go (look (p n)) (ones_le p n)
  where
    go : Is (p n) → sum (λ j. pick (p j) 1 0) n ≤ n → sum (λ j. pick (p j) 1 0) n + pick (p n) 1 0 ≤ suc n
    go (is_true e) r = omega (arith, pick_yes {A = ℕ} (p n) 1 0 e)
    go (is_false e) r = omega (arith, pick_no {A = ℕ} (p n) 1 0 e)

module _ (t : Table) where
  added_below : (n : ℕ) → sum (added_by t) n ≤ 4 * bound_below t n + 5 * n
  unfolding sum bound_below added_by
  added_below zero = omega arith
  added_below (suc n) = let r = added_below n in omega (arith, pick_le (inner t n) (4 * count t n + 5))

  -- no node is passed yet
  pub counts_none : CountsFrom t t.size no_blocks
  unfolding block_count bound_count
  counts_none =
      record {
        blocks_is = omega arith;
        bound_is = omega arith;
        inner_is = omega arith;
        inner_bound_is = omega arith;
        added_is = omega arith;
        deepest_le = omega arith;
        deepest_from = λ x k l. absurd (omega arith);
      }

  -- no count is large
  counts_le : (i : ℕ) (c : Counts) → t.size ≤ limit → bound_below t t.size ≤ limit → CountsFrom t i c → Small c
  unfolding block_count bound_count inner_below
  counts_le i c k l s =
      record {
        blocks_le = omega (arith, s.blocks_is, ones_le (λ j. is_block (t.node j)) t.size);
        bound_le = omega (arith, s.bound_is);
        inner_le = omega (arith, s.inner_is, ones_le (inner t) t.size);
        inner_bound_le = omega (arith, s.inner_bound_is, inner_bound_le_lem t t.size);
        added_le = omega (arith, s.added_is, added_below t.size);
      }

  -- once all nodes are passed
  pub counts_end : (i : ℕ) (c : Counts) → i ≡ 0 → CountsFrom t i c → BlockCounts t c
  unfolding sum bound_below inner_below inner_bound_below levels
  counts_end i c z s =
      let s' : CountsFrom t 0 c = rw z at s in
      let g = highest_le (level t) t.size c.deepest (λ x h. s'.deepest_from x (omega arith) h) in
      record {
        blocks_is = omega (arith, s'.blocks_is);
        bound_is = omega (arith, s'.bound_is);
        inner_is = omega (arith, s'.inner_is);
        inner_bound_is = omega (arith, s'.inner_bound_is);
        added_is = omega (arith, s'.added_is);
        deepest_is = omega (arith, s'.deepest_le);
      }

  -- node i, which is no block, the root block or an inner block
  module _ (tree : Tree t) (i : ℕ) (h : i < t.size) (c : Counts) (s : CountsFrom t (suc i) c) where
    -- a node that is no inner block is no deeper than its parent
    outer_level : inner t i ≡ false → level t i ≤ c.deepest
    outer_level n = go (look (eqb (suc i) t.size))
      where
        go : Is (eqb (suc i) t.size) → level t i ≤ c.deepest
        go (is_true e) = omega (arith, level_root t tree i (eqb-true _ _ e))
        go (is_false e) =
            let d = eqb-false (suc i) t.size e in
            let l : suc i < t.size = omega arith in
            let p = s.deepest_from (parent t i) (omega (arith, parent_higher t tree i l)) (parent_lt t tree i l) in
            omega (arith, level_step t tree i l, pick_no {A = ℕ} (inner t i) 1 0 n)

    counts_plain : is_block (t.node i) ≡ false → CountsFrom t i c
    unfolding sum bound_below inner_below inner_bound_below added_by count
    counts_plain e =
        let n = not_inner t i e in
        record {
          blocks_is = omega (arith, s.blocks_is, pick_no {A = ℕ} (is_block (t.node i)) 1 0 e);
          bound_is = omega (arith, s.bound_is, none_bound (t.node i) e);
          inner_is = omega (arith, s.inner_is, pick_no {A = ℕ} (inner t i) 1 0 n);
          inner_bound_is = omega (arith, s.inner_bound_is, pick_no {A = ℕ} (inner t i) (count t i) 0 n);
          added_is = omega (arith, s.added_is, pick_no {A = ℕ} (inner t i) (4 * count t i + 5) 0 n);
          deepest_le = s.deepest_le;
          deepest_from = from_here (λ x. level t x ≤ c.deepest) i t.size (outer_level n) s.deepest_from;
        }

    counts_root : is_block (t.node i) ≡ true → suc i ≡ t.size → CountsFrom t i (with_root (count t i) c)
    unfolding sum bound_below inner_below inner_bound_below added_by
    counts_root e r =
        let n = inner_root t i r in
        record {
          blocks_is = omega (arith, s.blocks_is, pick_yes {A = ℕ} (is_block (t.node i)) 1 0 e);
          bound_is = omega (arith, s.bound_is);
          inner_is = omega (arith, s.inner_is, pick_no {A = ℕ} (inner t i) 1 0 n);
          inner_bound_is = omega (arith, s.inner_bound_is, pick_no {A = ℕ} (inner t i) (count t i) 0 n);
          added_is = omega (arith, s.added_is, pick_no {A = ℕ} (inner t i) (4 * count t i + 5) 0 n);
          deepest_le = s.deepest_le;
          deepest_from = from_here (λ x. level t x ≤ c.deepest) i t.size (outer_level n) s.deepest_from;
        }

    counts_inner : is_block (t.node i) ≡ true → inner t i ≡ true → CountsFrom t i (with_inner (count t i) (level t i) c)
    unfolding sum bound_below inner_below inner_bound_below added_by
    counts_inner e n =
        record {
          blocks_is = omega (arith, s.blocks_is, pick_yes {A = ℕ} (is_block (t.node i)) 1 0 e);
          bound_is = omega (arith, s.bound_is);
          inner_is = omega (arith, s.inner_is, pick_yes {A = ℕ} (inner t i) 1 0 n);
          inner_bound_is = omega (arith, s.inner_bound_is, pick_yes {A = ℕ} (inner t i) (count t i) 0 n);
          added_is = omega (arith, s.added_is, pick_yes {A = ℕ} (inner t i) (4 * count t i + 5) 0 n);
          deepest_le = omega (arith, s.deepest_le, level_le_levels t tree i h);
          deepest_from = from_here (λ x. level t x ≤ max c.deepest (level t i)) i t.size (omega arith) (λ x k l. omega (arith, s.deepest_from x k l));
        }

-- The same of an accepted table.
module _ (ws ls : List ℕ) (ok : verdict ws ls ≡ accepted) (i : ℕ) (h : i < node_count ws) where
  module _ (c : Counts) (s : CountsFrom (table_of ws ls) (i + 1) c) where
    pub plain_counted : is_block (node_at ws ls i) ≡ false → CountsFrom (table_of ws ls) i c
    unfolding table_of
    plain_counted e = counts_plain (table_of ws ls) (accepted_tree ws ls ok) i h c (rw add-one at s) e

    module _ (w : NodeWords) (r : w ≡ words_at ws i) (e : is_block (node_at ws ls i) ≡ true) where
      pub root_counted : i + 1 ≡ node_count ws → CountsFrom (table_of ws ls) i (with_root w.b c)
      unfolding table_of
      root_counted z =
          rw (count_read ws ls ok i h w r e)
          (counts_root (table_of ws ls) (accepted_tree ws ls ok) i h c (rw add-one at s) e (rw add-one at z))

      pub inner_counted : (v : ℕ) → (i + 1 ≡ node_count ws → ⊥) → v ≡ level (table_of ws ls) i → CountsFrom (table_of ws ls) i (with_inner w.b v c)
      unfolding table_of
      inner_counted v n q =
          rw (q, count_read ws ls ok i h w r e)
          (counts_inner (table_of ws ls) (accepted_tree ws ls ok) i h c (rw add-one at s) e (inner_is (table_of ws ls) i (omega arith) ∙ e))

  pub counted_small : (c : Counts) → CountsFrom (table_of ws ls) i c → Small c
  unfolding table_of
  counted_small c s = counts_le (table_of ws ls) i c (nodes_few ws ls ok) (accepted_holds ws ls ok).counts_limit s
