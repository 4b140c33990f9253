-- The parts of a block's constraint (document 01, "The written form", steps 1 and 2), given its names and its words.
-- Assumes nothing.
use Rattle.std.specs.Prelude.{List, [], ◌∷◌, ℕ, ◌+◌, ◌-◌, ◌*◌, eqb}
use Rattle.lists.specs.Choice.{pick}
use Rattle.lists.specs.Parts.{up_to}
use Rattle.formula.specs.Node.{Node, variable, operator}
use Rattle.prenex_form.specs.Matrix.{and, iff}

-- The nodes of entry k, its name x and its copy y, the first as node at: prenex_form's `equation`, given the two numbers
-- and the index.
unfoldable pub entry_nodes : ℕ → ℕ → ℕ → ℕ → List Node
entry_nodes x y at k =
    pick (eqb k 0)
    (variable x ∷ variable y ∷ operator iff at (at + 1) ∷ [])
    (variable x ∷ variable y ∷ operator iff at (at + 1) ∷ operator and (at - 1) (at + 2) ∷ [])

-- The equations of count entries, the first name x, the first copy y, the first node at index s. "for each entry the variable, its
-- copy, operator 9 of the two, and from the second entry on operator 8": four nodes an entry, but three for the first.
unfoldable pub entries_nodes : ℕ → ℕ → ℕ → ℕ → List Node
entries_nodes x y s count = up_to (λ k. entry_nodes (x + k) (y + k) (s + (4 * k - 1)) k) count

-- "mark, then operator 9 (mark, the block's body)", the first as node at
abbrev pub definition_nodes : ℕ → ℕ → ℕ → List Node
definition_nodes at definition body = variable definition ∷ operator iff at body ∷ []

-- "then mark, then operator 14 (mark, that) for exists or 11 (mark, that) for for-all; then operator 8 (step 1's operator, this)",
-- the first as node at
abbrev pub guard_nodes : ℕ → ℕ → ℕ → ℕ → List Node
guard_nodes at definition table equation = variable definition ∷ operator table at (at - 1) ∷ operator and equation (at + 1) ∷ []
