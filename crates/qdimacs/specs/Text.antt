-- The text of a problem as it is written (request S-7): "one a line, single spaces, LF after every line".
-- Assumes nothing.
use mathlib.Core.List.{List, [], ◌∷◌, ◌++◌, flat_map}
use Rattle.std.specs.Prelude.{ℕ}
use Rattle.qdimacs.specs.Problem.{Problem}
use Rattle.qdimacs.specs.Spelling.{Word, problem_lines}

unfoldable pub line_text : List Word → List ℕ
line_text [] = 10 ∷ []
line_text (w ∷ []) = w ++ (10 ∷ [])
line_text (w ∷ u ∷ ws) = w ++ (32 ∷ line_text (u ∷ ws))

unfoldable pub problem_text : Problem → List ℕ
problem_text p = flat_map line_text (problem_lines p)
