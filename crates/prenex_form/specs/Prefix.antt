-- The prefix of a prenex form (document 01, "The written form").
-- Assumes nothing.
use mathlib.Core.List.{List, [], ◌∷◌, ◌++◌, flat_map}
use Rattle.std.specs.Prelude.{ℕ, zero, suc, ◌-◌, eqb}
use Rattle.lists.specs.Choice.{pick}
use Rattle.lists.specs.Parts.{sum, up_to}
use Rattle.formula.specs.Node.{Table, is_block}
use Rattle.formula.specs.Form.{Block, prefix_words}
use Rattle.prenex_form.specs.Names.{new_names, copies, definition_variable}
use Rattle.prenex_form.specs.Levels.{blocks_at, levels, level_quantifier}

-- b, the number of blocks
unfoldable pub block_count : Table → ℕ
block_count t = sum (λ i. pick (is_block (t.node i)) 1 0) t.size

-- Of block 0, "the root block's names" (a root that is no block binds none); of block j, "for each block of level j its names,
-- then its mark".
unfoldable pub leading : Table → ℕ → List ℕ
leading t zero = new_names t (t.size - 1)
leading t (suc j) = flat_map (λ i. new_names t i ++ (definition_variable t i ∷ [])) (blocks_at t (suc j))

-- "Block 0 has level 1's quantifier: the root block's names, then the copies of level 1. Block j, for level j, has the dual of level
-- j's quantifier: .. then the copies of level j + 1."
unfoldable pub prefix_block : Table → ℕ → Block
prefix_block t j =
    record {
      quantifier = level_quantifier t j;
      variables = leading t j ++ flat_map (copies t) (blocks_at t (suc j));
    }

-- "A table without blocks has no prefix at all"; any other has one block more than levels.
unfoldable pub prefix_blocks : Table → List Block
prefix_blocks t = pick (eqb (block_count t) 0) [] (up_to (λ j. prefix_block t j ∷ []) (suc (levels t)))

unfoldable pub written_prefix : Table → List ℕ
written_prefix t = prefix_words 0 (prefix_blocks t)

unfoldable pub written_variables : Table → List ℕ
written_variables t = flat_map (λ (b : Block). b.variables) (prefix_blocks t)
