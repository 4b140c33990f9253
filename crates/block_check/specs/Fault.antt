-- What the words of a block say of refusals 4, 5, 16 and 6.
-- Assumes nothing.
use Rattle.std.specs.Prelude.{Bool, ◌||◌, ℕ, ◌+◌, eqb, leb, ltb}
use Rattle.lists.specs.Choice.{pick}
use Rattle.formula.specs.declared.NodeWords.{NodeWords}
use Rattle.acceptance.specs.Limits.{limit}

-- The first of refusals 4, 5, 16 and 6 that applies to a block at node i, 0 if none does. The list has so many entries, and the blocks
-- below it bind `before` variables.
unfoldable pub block_fault : ℕ → ℕ → ℕ → NodeWords → ℕ
block_fault entries i before w =
    pick (leb i w.c) 4
    (pick (ltb entries (w.a + w.b)) 5
    (pick (eqb w.b 0) 16
    (pick (ltb limit (before + w.b)) 6
    0)))

-- The answers past which a pass over the nodes may go on: 0, and 16, which refuses no stored table.
abbrev pub passable : ℕ → Bool
passable fault = eqb fault 0 || eqb fault 16
