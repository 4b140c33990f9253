-- What is owed of a prenex form: the three lists ns (words of nodes), ps (words of prefix blocks) and xs (variables) are a
-- prenex form of the table t, with its truth value under every valuation and within the promised sizes. That the written form of
-- every accepted table is one is the theorem `prenex`, and that it has the measured sizes the theorem `sizes_written`
-- (proofs/Theorem.antt).
-- Assumes nothing.
use Rattle.std.specs.Prelude.{Bool, true, false, ◌||◌, List, [], ◌≡◌, ℕ, ◌+◌, ◌*◌, ◌/◌, ◌<◌, ◌≤◌, length, get_or}
use Rattle.lists.specs.Members.{mem, all, distinct}
use Rattle.lists.specs.Parts.{sum}
use Rattle.formula.specs.Node.{Table, bound}
use Rattle.formula.specs.Words.{width, node_count, words_at, table_of}
use Rattle.formula.specs.Valuation.{Valuation}
use Rattle.formula.specs.Truth.{truth, free}
use Rattle.formula.specs.Form.{prefix_width, form_truth, form_free}
use Rattle.formula.specs.FreeVariables.{stands_at, some_node, free_variables, form_free_variables}
use Rattle.formula.specs.Tree.{Tree}
use Rattle.refusals.specs.Verdict.{accepted}
use Rattle.acceptance.specs.Limits.{matrix_limits}
use Rattle.acceptance.specs.Verdict.{is_number_to, well_formed, verdict_within}
use Rattle.prenex_form.specs.declared.Sizes.{Sizes}
use Rattle.prenex_form.specs.Scope.{depth}
use Rattle.prenex_form.specs.Names.{highest_number, bound_count}
use Rattle.prenex_form.specs.Prefix.{block_count}

-- F + 2 q + b, the highest name that a form may hold: q new names, at most q copies and at most b definition variables after F.
abbrev pub highest_name : Table → ℕ
highest_name t = highest_number t + 2 * bound_count t + block_count t

-- Two valuations give the same value to each number that is free in the table.
abbrev pub SameOnFree : Table → Valuation → Valuation → Type 0
SameOnFree t v u = (x : ℕ) → free t x ≡ true → v x ≡ u x

pub record PrenexOf (t : Table) (ns ps xs : List ℕ) : Type 0 where
  -- Table and written form have the same truth value for every setting: "One setting serves table and form".
  pub same_truth : (v : Valuation) → form_truth ns ps xs v ≡ truth t v
  -- "what it gives to a number that is nowhere free in the table changes neither value"
  pub table_by_free : (v u : Valuation) → SameOnFree t v u → truth t v ≡ truth t u
  pub form_by_free : (v u : Valuation) → SameOnFree t v u → form_truth ns ps xs v ≡ form_truth ns ps xs u
  -- the same free variables, so the same list of them (SameList)
  pub same_free : (x : ℕ) → form_free ns ps xs x ≡ free t x
  -- no variable is bound twice
  pub bound_once : distinct xs ≡ true
  -- "get F + 1 and up": no number of the table stands in the prefix
  pub names_new : (x : ℕ) → mem x xs ≡ true → highest_number t < x
  -- no quantifier below the prefix: the nodes are a tree of constants, variables, not nodes and operators within document 01's
  -- ranges, with names from 1 up to the highest
  pub whole_nodes : length ns ≡ width * node_count ns
  pub matrix_formed : (i : ℕ) → i < node_count ns → well_formed (matrix_limits (highest_name t)) (words_at ns i) ≡ true
  pub matrix_tree : Tree (table_of ns [])
  -- and so are the names in the prefix
  pub prefix_names_lem : all (is_number_to (highest_name t)) xs ≡ true
  -- "three words a block: kind 5 or 6, first, count, with stretches following one another in the output list from entry 0"
  pub whole_blocks : length ps ≡ prefix_width * (length ps / prefix_width)
  pub block_kinds_from : (j : ℕ) → j < length ps / prefix_width → 5 ≤ get_or ps (prefix_width * j) 0
  pub block_kinds_to : (j : ℕ) → j < length ps / prefix_width → get_or ps (prefix_width * j) 0 ≤ 6
  pub ranges_follow : (j : ℕ) → j < length ps / prefix_width → get_or ps (prefix_width * j + 1) 0 ≡ sum (λ k. get_or ps (prefix_width * k + 2) 0) j
  pub ranges_fill : sum (λ k. get_or ps (prefix_width * k + 2) 0) (length ps / prefix_width) ≡ length xs
  -- no prefix block is empty
  pub blocks_filled : (j : ℕ) → j < length ps / prefix_width → 0 < get_or ps (prefix_width * j + 2) 0
  -- at most n + 5 b + 4 q nodes, 2 q + b prefix variables, and one prefix block more than the depth
  pub nodes_bound : node_count ns ≤ t.size + 5 * block_count t + 4 * bound_count t
  pub variables_bound : length xs ≤ 2 * bound_count t + block_count t
  pub blocks_bound : length ps / prefix_width ≤ depth t + 1
  -- at most 40,960 nodes, and names at most 77,823
  pub nodes_limit : node_count ns ≤ 40960
  pub names_limit : highest_name t ≤ 77823

-- The list of the free variables of a prenex form is the table's own, the one that listing writes: the theorem `same_list`
-- (proofs/Theorem.antt), by `same_free`.
abbrev pub SameList : Type 0
SameList =
    (t : Table) → Tree t → (ns ps xs : List ℕ) → PrenexOf t ns ps xs
    → form_free_variables ns ps xs ≡ free_variables t

-- The nodes of a form pass the checker's tests, with 40,960 nodes and numbers up to 77,823 allowed and no blocks: the theorem
-- `matrix_passes` (proofs/Theorem.antt).
abbrev pub MatrixPasses : List ℕ → Type 0
MatrixPasses ns = verdict_within (matrix_limits 77823) ns [] ≡ accepted

-- Measured sizes are the sizes written: the nodes, prefix blocks and list entries of s are those of the three lists.
pub record SizesOf (s : Sizes) (ns ps xs : List ℕ) : Type 0 where
  pub nodes_measured : length ns ≡ width * s.nodes
  pub blocks_measured : length ps ≡ prefix_width * s.blocks
  pub entries_measured : length xs ≡ s.entries

-- The number x stands at a variable node or in a block's range.
unfoldable pub holds : Table → ℕ → Bool
holds t x = some_node t (λ nd. stands_at x nd || mem x (bound nd))

-- "A setting gives 0 (false) or 1 (true) to each whole number from 1 up". A valuation gives a value to 0 too, which changes nothing:
-- no accepted table and no prenex form of one holds the number 0. This is the theorem `zero_unused` (proofs/Theorem.antt).
pub record ZeroUnused (t : Table) (ns ps xs : List ℕ) : Type 0 where
  pub not_in_table : holds t 0 ≡ false
  pub not_in_matrix : holds (table_of ns []) 0 ≡ false
  pub not_in_prefix : mem 0 xs ≡ false
  pub table_from_one : (v u : Valuation) → ((x : ℕ) → 1 ≤ x → v x ≡ u x) → truth t v ≡ truth t u
  pub form_from_one : (v u : Valuation) → ((x : ℕ) → 1 ≤ x → v x ≡ u x) → form_truth ns ps xs v ≡ form_truth ns ps xs u
