-- What is owed of a prenex form that keeps names of the table.
-- Assumes nothing.
use Rattle.std.specs.Prelude.{true, List, [], ◌≡◌, ℕ, ◌+◌, ◌*◌, ◌/◌, ◌<◌, ◌≤◌, length, get_or}
use Rattle.lists.specs.Members.{all, distinct}
use Rattle.lists.specs.Parts.{sum}
use Rattle.formula.specs.Node.{Table}
use Rattle.formula.specs.Words.{width, node_count, words_at, table_of}
use Rattle.formula.specs.Valuation.{Valuation}
use Rattle.formula.specs.Truth.{truth, free}
use Rattle.formula.specs.Form.{prefix_width, form_truth, form_free}
use Rattle.formula.specs.Tree.{Tree}
use Rattle.acceptance.specs.Limits.{matrix_limits}
use Rattle.acceptance.specs.Verdict.{is_number_to, well_formed}
use Rattle.prenex_form.specs.Scope.{depth}
use Rattle.prenex_form.specs.Names.{bound_count}
use Rattle.prenex_form.specs.Prefix.{block_count}
use Rattle.prenex_form.specs.Promise.{highest_name, SameOnFree}

-- A prenex form whose prefix may hold numbers of the table: PrenexOf without its field names_new, and nothing else changed.
-- Every lift is one (lift_form, proofs/Theorem.antt).
pub record FormOf (t : Table) (ns ps xs : List ℕ) : Type 0 where
  -- Table and written form have the same truth value for every setting: "One setting serves table and form".
  pub same_truth : (v : Valuation) → form_truth ns ps xs v ≡ truth t v
  -- "what it gives to a number that is nowhere free in the table changes neither value"
  pub table_by_free : (v u : Valuation) → SameOnFree t v u → truth t v ≡ truth t u
  pub form_by_free : (v u : Valuation) → SameOnFree t v u → form_truth ns ps xs v ≡ form_truth ns ps xs u
  -- the same free variables
  pub same_free : (x : ℕ) → form_free ns ps xs x ≡ free t x
  -- no variable is bound twice
  pub bound_once : distinct xs ≡ true
  -- no quantifier below the prefix: the nodes are a tree of constants, variables, not nodes and operators within document 01's
  -- ranges, with names from 1 up to the highest
  pub whole_nodes : length ns ≡ width * node_count ns
  pub matrix_formed : (i : ℕ) → i < node_count ns → well_formed (matrix_limits (highest_name t)) (words_at ns i) ≡ true
  pub matrix_tree : Tree (table_of ns [])
  -- and so are the names in the prefix
  pub prefix_names_lem : all (is_number_to (highest_name t)) xs ≡ true
  -- "three words a block: kind 5 or 6, first, count, with stretches following one another in the output list from entry 0"
  pub whole_blocks : length ps ≡ prefix_width * (length ps / prefix_width)
  pub block_kinds_from : (j : ℕ) → j < length ps / prefix_width → 5 ≤ get_or ps (prefix_width * j) 0
  pub block_kinds_to : (j : ℕ) → j < length ps / prefix_width → get_or ps (prefix_width * j) 0 ≤ 6
  pub ranges_follow : (j : ℕ) → j < length ps / prefix_width → get_or ps (prefix_width * j + 1) 0 ≡ sum (λ k. get_or ps (prefix_width * k + 2) 0) j
  pub ranges_fill : sum (λ k. get_or ps (prefix_width * k + 2) 0) (length ps / prefix_width) ≡ length xs
  -- no prefix block is empty
  pub blocks_filled : (j : ℕ) → j < length ps / prefix_width → 0 < get_or ps (prefix_width * j + 2) 0
  -- at most n + 5 b + 4 q nodes, 2 q + b prefix variables, and one prefix block more than the depth
  pub nodes_bound : node_count ns ≤ t.size + 5 * block_count t + 4 * bound_count t
  pub variables_bound : length xs ≤ 2 * bound_count t + block_count t
  pub blocks_bound : length ps / prefix_width ≤ depth t + 1
  -- at most 40,960 nodes, and names at most 77,823
  pub nodes_limit : node_count ns ≤ 40960
  pub names_limit : highest_name t ≤ 77823
