-- Lines of figures (request S-13): "refusal number, n, b, q, depth, nodes written, prefix variables".
-- Assumes nothing.
use Rattle.std.specs.Prelude.{List, [], ◌∷◌, ℕ, ◌+◌, ◌*◌, eqb, get_or}
use Rattle.lists.specs.Choice.{pick}
use Rattle.growth.specs.declared.Line.{Line}

-- How many words a line has.
abbrev pub line_width : ℕ
line_width = 7

-- "zeros where refused"
unfoldable pub refused_line : ℕ → Line
refused_line number = record { number = number; n = 0; b = 0; q = 0; depth = 0; nodes = 0; variables = 0 }

-- Line i of a list of words, "a refused line's six being read as zeros".
unfoldable pub line_at : List ℕ → ℕ → Line
line_at ws i =
    let word : ℕ → ℕ = λ k. get_or ws (line_width * i + k) 0 in
    pick (eqb (word 0) 0)
    (record { number = word 0; n = word 1; b = word 2; q = word 3; depth = word 4; nodes = word 5; variables = word 6 })
    (refused_line (word 0))

-- The figures of a line in their order.
unfoldable pub line_figures : Line → List ℕ
line_figures l = l.number ∷ l.n ∷ l.b ∷ l.q ∷ l.depth ∷ l.nodes ∷ l.variables ∷ []
