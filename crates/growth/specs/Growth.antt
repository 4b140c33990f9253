-- Growth, written over input nodes, and the file that grew most (request S-13).
-- Assumes nothing.
use Rattle.std.specs.Prelude.{Bool, not, ◌&&◌, ℕ, ◌*◌, ltb}
use Rattle.lists.specs.Choice.{pick}
use Rattle.lists.specs.Search.{lowest, some_below}
use Rattle.growth.specs.declared.Line.{Line}
use Rattle.growth.specs.declared.Growth.{Growth}

-- The growth of a file: its written and its input nodes.
unfoldable pub growth_of : Line → Growth
growth_of l = record { written = l.nodes; input = l.n }

unfoldable pub no_growth : Growth
no_growth = record { written = 0; input = 0 }

-- "a line with 0 input nodes takes no part"
unfoldable pub takes_part : Growth → Bool
takes_part g = ltb 0 g.input

-- "Growth is compared as a fraction of whole numbers": written over input is less of g than of h.
unfoldable pub less : Growth → Growth → Bool
less g h = ltb (g.written * h.input) (h.written * g.input)

-- File i of n takes part, and no file that takes part grew more.
unfoldable pub unsurpassed : (ℕ → Growth) → ℕ → ℕ → Bool
unsurpassed gs n i = takes_part (gs i) && not (some_below (λ j. takes_part (gs j) && less (gs i) (gs j)) n)

-- "the file that grew most", of n files, "the earlier file winning a tie"; n if no file takes part.
unfoldable pub most_grown : (ℕ → Growth) → ℕ → ℕ
most_grown gs n = lowest (unsurpassed gs n) n

-- "the written and input nodes of the file that grew most .. with no accepted file left both are 0"
unfoldable pub most_growth : (ℕ → Growth) → ℕ → Growth
most_growth gs n = pick (ltb (most_grown gs n) n) (gs (most_grown gs n)) no_growth
