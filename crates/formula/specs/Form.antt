-- The truth value of a prenex form (document 01, "Truth and size": the written form): nodes, a prefix of three words a
-- block, and a list of variables, of any length and with names of any size.
-- Assumes nothing.
use Rattle.std.specs.Prelude.{Bool, false, not, ◌&&◌, ◌||◌, List, [], ◌∷◌, ℕ, zero, suc, ◌+◌, ◌*◌, ◌/◌, eqb, length, get_or}
use Rattle.lists.specs.Choice.{pick}
use Rattle.lists.specs.Members.{mem}
use Rattle.formula.specs.Node.{Quantifier, exists, for_all}
use Rattle.formula.specs.Words.{range, table_of}
use Rattle.formula.specs.Valuation.{Valuation, quant}
use Rattle.formula.specs.Truth.{truth, free}

-- A prefix block: its quantifier and its variables.
pub record Block : Type 0 where
  pub quantifier : Quantifier
  pub variables : List ℕ

-- "The prefix is three words a block: kind 5 or 6, first, count."
abbrev pub prefix_width : ℕ
prefix_width = 3

unfoldable pub quantifier_of : ℕ → Quantifier
quantifier_of kind = pick (eqb kind 5) exists for_all

unfoldable pub kind_of : Quantifier → ℕ
kind_of exists = 5
kind_of for_all = 6

-- Block j of a prefix.
unfoldable pub block_at : List ℕ → List ℕ → ℕ → Block
block_at ps xs j =
    record {
      quantifier = quantifier_of (get_or ps (prefix_width * j) 0);
      variables = range xs (get_or ps (prefix_width * j + 1) 0) (get_or ps (prefix_width * j + 2) 0);
    }

-- m blocks from block j on
unfoldable pub blocks_from : List ℕ → List ℕ → ℕ → ℕ → List Block
blocks_from ps xs j zero = []
blocks_from ps xs j (suc m) = block_at ps xs j ∷ blocks_from ps xs (suc j) m

unfoldable pub blocks_of : List ℕ → List ℕ → List Block
blocks_of ps xs = blocks_from ps xs 0 (length ps / prefix_width)

-- The words of prefix blocks: "kind 5 or 6, first, count, with stretches following one another in the output list", whose
-- first stretch begins at entry s.
unfoldable pub prefix_words : ℕ → List Block → List ℕ
prefix_words s [] = []
prefix_words s (b ∷ bs) = kind_of b.quantifier ∷ s ∷ length b.variables ∷ prefix_words (s + length b.variables) bs

-- "Each prefix block is read as a block of its kind over all that follows it, block 0 outermost, the last one over the
-- last node. With no prefix it is that node's alone."
unfoldable pub quantify : List Block → (Valuation → Bool) → Valuation → Bool
quantify [] f v = f v
quantify (b ∷ bs) f v = quant b.quantifier b.variables (quantify bs f) v

-- The truth value of the matrix: that of its last node. A matrix is a table without blocks, so its list is empty.
unfoldable pub matrix_truth : List ℕ → Valuation → Bool
matrix_truth ns v = truth (table_of ns []) v

unfoldable pub form_truth : List ℕ → List ℕ → List ℕ → Valuation → Bool
form_truth ns ps xs v = quantify (blocks_of ps xs) (matrix_truth ns) v

-- Whether some prefix block binds x.
unfoldable pub binds : List Block → ℕ → Bool
binds [] x = false
binds (b ∷ bs) x = mem x b.variables || binds bs x

-- Whether x is free in a prenex form: it stands at the matrix's root or at a node below it, and no prefix block binds it.
unfoldable pub form_free : List ℕ → List ℕ → List ℕ → ℕ → Bool
form_free ns ps xs x = free (table_of ns []) x && not (binds (blocks_of ps xs) x)
