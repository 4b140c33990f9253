-- The form that keeps the leading blocks, by its parts: the front, and the lift of what is below it.
-- Assumes nothing.
use mathlib.Core.Path.{◌≡◌, sym, ◌∙◌, ap, subst, fun_ext}
use mathlib.Core.Bool.{Bool}
use mathlib.Core.List.{List, ◌++◌, map}
use Prim.Native.Nat.{ℕ, ◌+◌, ◌-◌, ◌*◌, ◌≤◌}
use native.Mathlib.Omega.{arith}
use lib.ListN.{length, take, length-append}
use Rattle.lists.proofs.Search.{lowest_le}
use Rattle.formula.specs.Node.{Table}
use Rattle.formula.specs.Words.{width, node_count, table_of}
use Rattle.formula.specs.Form.{Block, prefix_width, prefix_words}
use Rattle.kept_prefix.specs.Blocks.{prefix_names, filled_blocks}
use Rattle.formula.proofs.Prefix.{length-prefix_words}
use Rattle.refusals.specs.Verdict.{accepted}
use Rattle.acceptance.specs.Verdict.{verdict}
use Rattle.acceptance.proofs.Accepted.{accepted_holds}
use Rattle.prenex_form.specs.Matrix.{prenex_nodes}
use Rattle.prenex_form.specs.Prefix.{block_count, prefix_blocks, written_variables}
use Rattle.prenex_form.specs.Names.{bound_count}
use Rattle.prenex_form.specs.Scope.{depth}
use Rattle.prenex_form.specs.Sizes.{sizes}
use Rattle.kept_prefix.specs.Leading.{stops, leading_count, leading_blocks, outermost, words_below, below}
use Rattle.kept_prefix.specs.Kept.{kept_block, front_blocks, kept_blocks, kept_prefix, kept_variables, kept_sizes}
use Rattle.kept_prefix.specs.Promise.{AllBlocks, Below}
use Rattle.kept_prefix.proofs.Leading.{leading_most, names_append}
use Rattle.kept_prefix.proofs.Below.{blocks_below, stands_below_lem}
use Rattle.front_writer.specs.Written.{front_words, front_names, FrontFits, WrittenTo}
use Rattle.front_writer.proofs.Laws.{words_append}
use Rattle.leading_blocks.specs.declared.Front.{Front}
use Rattle.leading_blocks.specs.Front.{FrontTo}
use Rattle.lift_kept.specs.Steps.{FrontRoom, with_front}

-- An accepted table's leading blocks.
module _ (ws ls : List ℕ) (ok : verdict ws ls ≡ accepted) where
  abbrev t : Table
  t = table_of ws ls

  abbrev k : ℕ
  k = leading_count t

  count_within : k ≤ node_count ws
  unfolding leading_count table_of
  count_within = lowest_le (stops t) (node_count ws)

  pub off : Below ws ls k
  off = blocks_below ws ls k ok count_within (leading_most t).blocks

  -- the names that stand below stand in the table
  front_same : front_blocks (below ws ls) (leading_blocks t) ≡ front_blocks t (outermost t k)
  unfolding below leading_blocks front_blocks
  front_same =
      ap (λ (p : ℕ → Bool). filled_blocks (map (kept_block p) (outermost t k)))
      (fun_ext (stands_below_lem ws ls k ok count_within (leading_most t).blocks))

  pub blocks_parts : kept_blocks ws ls ≡ front_blocks t (outermost t k) ++ prefix_blocks (below ws ls)
  unfolding kept_blocks
  blocks_parts = ap (λ (bs : List Block). bs ++ prefix_blocks (below ws ls)) front_same

  pub prefix_parts : kept_prefix ws ls ≡ front_words t k ++ prefix_words (length (front_names t k)) (prefix_blocks (below ws ls))
  unfolding kept_prefix front_words front_names
  prefix_parts =
      let z : 0 + length (prefix_names (front_blocks t (outermost t k))) ≡ length (prefix_names (front_blocks t (outermost t k))) = omega arith in
      ap (prefix_words 0) blocks_parts
      ∙ words_append 0 (front_blocks t (outermost t k)) (prefix_blocks (below ws ls))
      ∙ ap (λ (n : ℕ). prefix_words 0 (front_blocks t (outermost t k)) ++ prefix_words n (prefix_blocks (below ws ls))) z

  pub variables_parts : kept_variables ws ls ≡ front_names t k ++ written_variables (below ws ls)
  unfolding kept_variables front_names written_variables prefix_names
  variables_parts = ap prefix_names blocks_parts ∙ names_append (front_blocks t (outermost t k)) (prefix_blocks (below ws ls))

  -- the table below, as it is lent
  pub below_accepted : verdict (words_below k ws) ls ≡ accepted
  below_accepted = off.accepts

  pub front_taken : (k ≤ node_count ws) × AllBlocks t k
  front_taken = (count_within, (leading_most t).blocks)

  pub words_lent : take (length ws - width * k) ws ≡ words_below k ws
  unfolding words_below
  words_lent =
      let w = (accepted_holds ws ls ok).whole in
      let e : length ws - width * k ≡ width * (node_count ws - k) = omega (arith, w, count_within) in
      ap (λ (n : ℕ). take n ws) e

  -- what is counted of the front
  module _ (front : Front) (f : FrontTo t k front) where
    pub front_words_lem : length (front_words t k) ≡ prefix_width * front.blocks
    unfolding front_words
    front_words_lem = omega (arith, length-prefix_words 0 (front_blocks t (outermost t k)), f.blocks_are)

    pub front_names_lem : length (front_names t k) ≡ front.names
    unfolding front_names
    front_names_lem = sym f.names_are

    -- the front as it is written
    pub front_at : (front.taken ≤ node_count ws) × AllBlocks t front.taken
    front_at = subst (λ (n : ℕ). (n ≤ node_count ws) × AllBlocks t n) (sym f.taken_is) front_taken

    pub front_room : (prefix variables : List ℕ) → FrontRoom front prefix variables → FrontFits t front.taken prefix variables
    front_room prefix variables r =
        subst (λ (n : ℕ). FrontFits t n prefix variables) (sym f.taken_is)
        (record {
          words_fit = omega (arith, front_words_lem, r.blocks_fit);
          names_fit = omega (arith, front_names_lem, r.names_fit);
        })

    pub front_put : (prefix variables prefix' variables' : List ℕ) → WrittenTo t front.taken prefix variables prefix' variables'
        → WrittenTo t k prefix variables prefix' variables'
    front_put prefix variables prefix' variables' w = subst (λ (n : ℕ). WrittenTo t n prefix variables prefix' variables') f.taken_is w

    -- the sizes answered
    pub sizes_parts : with_front (sizes (below ws ls)) front ≡ kept_sizes ws ls
    unfolding with_front sizes kept_sizes below table_of
    sizes_parts =
        let n : node_count (words_below k ws) + front.taken ≡ node_count ws = omega (arith, off.nodes_less, f.taken_is) in
        let b : block_count (table_of (words_below k ws) ls) + front.taken ≡ block_count t = omega (arith, off.blocks_less, f.taken_is) in
        let q : bound_count (table_of (words_below k ws) ls) + front.bound ≡ bound_count t = omega (arith, off.bound_less, f.bound_is) in
        let d : depth (table_of (words_below k ws) ls) + front.taken ≡ depth t = omega (arith, off.depth_less, f.taken_is) in
        let p : length (prefix_blocks (below ws ls)) + front.blocks ≡ length (kept_blocks ws ls) =
        omega (arith, ap length blocks_parts, length-append (front_blocks t (outermost t k)) (prefix_blocks (below ws ls)), f.blocks_are) in
        let x : length (written_variables (below ws ls)) + front.names ≡ length (kept_variables ws ls) =
        omega (arith, ap length variables_parts, length-append (front_names t k) (written_variables (below ws ls)), front_names_lem) in
        λ i. record { n = n i; b = b i; q = q i; depth = d i; nodes = length (prenex_nodes (below ws ls)); blocks = p i; entries = x i }
