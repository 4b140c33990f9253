-- What is free in a table is what is free below blocks from the root down and is no name of theirs.
-- Assumes nothing.
use mathlib.Core.Path.{◌≡◌, refl, sym, ◌∙◌, ap}
use mathlib.Core.Bool.{Bool, true, false, not, ◌&&◌, ◌||◌, and-true}
use mathlib.Core.List.{List, flat_map}
use Prim.Native.Nat.{ℕ, zero, suc, ◌-◌, ◌≤◌, ◌<◌}
use native.Mathlib.Omega.{arith}
use Rattle.lists.specs.Choice.{clash}
use Rattle.lists.specs.Members.{mem}
use Rattle.lists.specs.Parts.{up_to}
use Rattle.lists.proofs.Members.{mem_append}
use Rattle.formula.specs.Node.{Node, constant, variable, negation, operator, block, Table, is_block, bound}
use Rattle.formula.specs.Words.{node_count, node_at, table_of}
use Rattle.formula.specs.Truth.{node_free, free_at, free}
use Rattle.formula.specs.Tree.{Tree}
use Rattle.kept_prefix.specs.Blocks.{prefix_names}
use Rattle.formula.proofs.Unfolding.{free_at_tables, free_at_node}
use Rattle.refusals.specs.Verdict.{accepted}
use Rattle.acceptance.specs.Verdict.{verdict}
use Rattle.acceptance.proofs.Accepted.{accepted_holds}
use Rattle.prenex_form.specs.Matrix.{kept, body_of}
use Rattle.prenex_form.proofs.Paths.{root_body, kept_root, kept_positive}
use Rattle.kept_prefix.specs.Leading.{from_root, outermost, words_below}
use Rattle.kept_prefix.specs.Promise.{AllBlocks, Below}
use Rattle.kept_prefix.proofs.Leading.{names_next}
use Rattle.kept_prefix.proofs.Below.{below_none, count_below, node_below, blocks_below}

node_free_lem : (at : ℕ → Bool) (x : ℕ) (nd : Node) → is_block nd ≡ true → node_free at x nd ≡ (not (mem x (bound nd)) && at (body_of nd))
unfolding node_free is_block bound body_of
node_free_lem at x (constant b) h = clash h refl
node_free_lem at x (variable y) h = clash h refl
node_free_lem at x (negation a) h = clash h refl
node_free_lem at x (operator f a b) h = clash h refl
node_free_lem at x (block q xs a) h = refl

-- A block as root takes its names away from the table below it.
block_free : (t s : Table) → Tree t → t.size ≡ suc s.size → ((i : ℕ) → i < s.size → t.node i ≡ s.node i)
    → is_block (t.node s.size) ≡ true → (x : ℕ) → free t x ≡ (not (mem x (bound (t.node s.size))) && free s x)
unfolding free
block_free t s tree more same b x =
    let n : ℕ = s.size in
    let root : t.size - 1 ≡ n = omega arith in
    let k : kept t ≡ n = kept_root t n (sym more) b in
    let some = kept_positive t tree in
    let body : body_of (t.node n) ≡ n - 1 = root_body t tree n (sym more) b ∙ ap (λ m. m - 1) k in
    ap (free_at t.size t x) root
    ∙ free_at_node t tree.lower x n (omega arith)
    ∙ node_free_lem (free_at t.size t x) x (t.node n) b
    ∙ ap (λ c. not (mem x (bound (t.node n))) && c)
    (ap (free_at t.size t x) body
    ∙ free_at_tables t s n same (λ i a h m. tree.lower i a (omega arith) m) x t.size n (n - 1) (omega arith) (omega arith) (omega arith))

one_more : (m l s : Bool) → ((not l && s) && not m) ≡ (s && not (m || l))
one_more true true true = refl
one_more true true false = refl
one_more true false true = refl
one_more true false false = refl
one_more false true true = refl
one_more false true false = refl
one_more false false true = refl
one_more false false false = refl

module _ (ws ls : List ℕ) (ok : verdict ws ls ≡ accepted) where
  abbrev t : Table
  t = table_of ws ls

  abbrev rest : ℕ → Table
  rest k = table_of (words_below k ws) ls

  -- the block at the root of what is below k others
  next_free : (k : ℕ) → suc k ≤ node_count ws → AllBlocks t (suc k) → (x : ℕ)
      → free (rest k) x ≡ (not (mem x (bound (from_root t k))) && free (rest (suc k)) x)
  unfolding table_of from_root
  next_free k h blocks x =
      let a = accepted_holds ws ls ok in
      let b : Below ws ls k = blocks_below ws ls k ok (omega arith) (λ j l. blocks j (omega arith)) in
      let c : node_count (words_below k ws) ≡ node_count ws - k = count_below ws ls a k (omega arith) in
      let d : node_count (words_below (suc k) ws) ≡ node_count ws - suc k = count_below ws ls a (suc k) h in
      let root : node_at (words_below k ws) ls (node_count (words_below (suc k) ws)) ≡ node_at ws ls (node_count ws - suc k) =
      ap (node_at (words_below k ws) ls) d ∙ node_below ws ls a k (omega arith) (node_count ws - suc k) (omega arith) in
      block_free (rest k) (rest (suc k)) (accepted_holds (words_below k ws) ls b.accepts).proper.tree (omega arith)
      (λ i l. node_below ws ls a k (omega arith) i (omega arith) ∙ sym (node_below ws ls a (suc k) h i (omega arith)))
      (ap is_block root ∙ blocks k (omega arith)) x
      ∙ ap (λ nd. not (mem x (bound nd)) && free (rest (suc k)) x) root

  pub free_below : (k : ℕ) → k ≤ node_count ws → AllBlocks t k → (x : ℕ)
      → free t x ≡ (free (table_of (words_below k ws) ls) x && not (mem x (prefix_names (outermost t k))))
  unfolding outermost up_to prefix_names flat_map mem
  free_below zero h blocks x = ap (λ us. free (table_of us ls) x) (sym (below_none ws (accepted_holds ws ls ok).whole)) ∙ sym (and-true (free (rest 0) x))
  free_below (suc k) h blocks x =
      free_below k (omega arith) (λ j l. blocks j (omega arith)) x
      ∙ ap (λ c. c && not (mem x (prefix_names (outermost t k)))) (next_free k h blocks x)
      ∙ one_more (mem x (prefix_names (outermost t k))) (mem x (bound (from_root t k))) (free (rest (suc k)) x)
      ∙ ap (λ c. free (rest (suc k)) x && not c) (sym (ap (mem x) (names_next t k) ∙ mem_append x (prefix_names (outermost t k)) (bound (from_root t k))))
