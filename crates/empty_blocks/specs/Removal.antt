-- A table's words without its empty blocks (request S-6).
-- Assumes nothing.
use Rattle.std.specs.Prelude.{Bool, not, ◌||◌, List, [], ℕ, zero, suc, eqb}
use Rattle.lists.specs.Choice.{pick}
use Rattle.lists.specs.Parts.{sum, up_to}
use Rattle.formula.specs.Words.{node_count, is_block_kind, is_empty_block, words_at, word_list}
use Rattle.formula.specs.declared.NodeWords.{NodeWords}

-- Node i is no empty block.
unfoldable pub stays : List ℕ → ℕ → Bool
stays ws i = not (is_empty_block (words_at ws i))

-- How many of the nodes below node i stay, and how many are empty blocks.
unfoldable pub left_below : List ℕ → ℕ → ℕ
left_below ws i = sum (λ j. pick (stays ws j) 1 0) i

unfoldable pub empty_below : List ℕ → ℕ → ℕ
empty_below ws i = sum (λ j. pick (is_empty_block (words_at ws j)) 1 0) i

-- "the body being named where the block was": what is named where node i was. That is node i if it stays, and what is named where
-- its body was if it does not. The first argument bounds how far down the bodies go; where bodies are lower, i suffices, and the new
-- indices follow two rules without it (specs/Laws.antt).
unfoldable pub named_for : ℕ → List ℕ → ℕ → ℕ
named_for zero ws i = i
named_for (suc f) ws i = pick (stays ws i) i (named_for f ws (words_at ws i).c)

-- "and what follows renumbered in order": the index of this node among those that stay.
unfoldable pub new_index : List ℕ → ℕ → ℕ
new_index ws i = left_below ws (named_for i ws i)

-- A node's words with each operand and body at its new index: those of a not node, an operator and a block stand where document 01's
-- table of kinds has them.
unfoldable pub renumbered : (ℕ → ℕ) → NodeWords → NodeWords
renumbered index w =
    record {
      kind = w.kind;
      a = pick (eqb w.kind 3) (index w.a) w.a;
      b = pick (eqb w.kind 4) (index w.b) w.b;
      c = pick (eqb w.kind 4 || is_block_kind w.kind) (index w.c) w.c;
    }

-- What is written of node i.
unfoldable pub left_of : List ℕ → ℕ → List ℕ
left_of ws i = pick (stays ws i) (word_list (renumbered (new_index ws) (words_at ws i))) []

-- "writes the nodes without such blocks"
unfoldable pub without_empty_blocks : List ℕ → List ℕ
without_empty_blocks ws = up_to (left_of ws) (node_count ws)
