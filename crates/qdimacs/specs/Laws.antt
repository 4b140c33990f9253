-- What texts say, as statements. Each law is proved under the name beside it: those of one problem in proofs/Unique.antt, the others in
-- proofs/Says.antt.
-- Assumes nothing.
use Rattle.std.specs.Prelude.{List, ◌≡◌, ℕ}
use Rattle.qdimacs.specs.Problem.{Problem}
use Rattle.qdimacs.specs.Spelling.{Grammatical, Says}
use Rattle.qdimacs.specs.Text.{problem_text}

-- A text says at most one problem (one_problem),
abbrev pub OneProblem : Type 0
OneProblem = (text : List ℕ) (p q : Problem) → Says text p → Says text q → p ≡ q

-- and the text of a problem says it (text_says).
abbrev pub TextSays : Type 0
TextSays = (p : Problem) → Grammatical p → Says (problem_text p) p
