-- What the two passes over a matrix leave: which names are free, the word of the variable that stands for each node, and how many clauses
-- there are.
-- Assumes nothing.
use Rattle.std.specs.Prelude.{Bool, ◌&&◌, List, ◌≡◌, ℕ, suc, ◌+◌, ◌<◌, eqb, length, get_or}
use Rattle.lists.specs.Choice.{pick}
use Rattle.lists.specs.Search.{some_below}
use Rattle.lists.specs.Parts.{up_to}
use Rattle.formula.specs.Node.{Table}
use Rattle.formula.specs.declared.NodeWords.{NodeWords}
use Rattle.formula.specs.FreeVariables.{stands_at}
use Rattle.name_flags.specs.Flags.{flag_with, Highest}
use Rattle.qdimacs_form.specs.Clauses.{gates_below, variable_of, node_clauses}
use Rattle.qdimacs_words.specs.Words.{numeral_word}
use Rattle.qdimacs_numbers.specs.declared.Numbering.{Numbering}

-- The name stands at a variable node below node k.
unfoldable pub stands_below : Table → ℕ → ℕ → Bool
stands_below t k x = some_below (λ i. stands_at x (t.node i)) k

-- Each name at a node below node k has a flag, and this is the highest of those that had none before.
pub record FlaggedBelow (t : Table) (before : List ℕ) (k : ℕ) (names : List ℕ) (highest : ℕ) : Type 0 where
  pub flagged : (x : ℕ) → get_or names x 0 ≡ flag_with (get_or before x 0) (stands_below t k x)
  pub highest_is : Highest (λ x. eqb (get_or before x 0) 0 && stands_below t k x) highest

-- The words of the variables of the nodes below node i stand in the array, the first gate being this one.
abbrev pub WordsBelow : Table → ℕ → ℕ → List ℕ → Type 0
WordsBelow t first i words = (j : ℕ) → j < i → get_or words j 0 ≡ numeral_word (variable_of t first j)

-- The same, with the number of the next gate, and of the clauses so far, the root's own among them.
pub record NumberedBelow (t : Table) (first i : ℕ) (words : List ℕ) (s : Numbering) : Type 0 where
  pub filled : WordsBelow t first i words
  pub next_is : s.next ≡ first + gates_below t i
  pub clauses_are : s.clauses ≡ suc (length (up_to (node_clauses t first) i))

-- How many clauses the gate of a node with these words has, x and y being the variables of its operands, or the words of these.
unfoldable pub clause_count : NodeWords → ℕ → ℕ → ℕ
clause_count w x y = pick (eqb w.kind 1) 1 (pick (eqb w.kind 4) (pick (eqb x y) 2 4) 2)
