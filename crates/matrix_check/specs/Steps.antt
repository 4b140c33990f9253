-- The limits of a form's matrix, and its check in steps: what the functions of this crate decide and hold.
-- Assumes nothing.
use Rattle.std.specs.Prelude.{Bool, not, ◌&&◌, List, ◌≡◌, ℕ, min, length, get_or}
use Rattle.formula.specs.declared.NodeWords.{NodeWords}
use Rattle.acceptance.specs.Limits.{TableLimits, matrix_limits}
use Rattle.acceptance.specs.Verdict.{well_formed, forward_reference}
use Rattle.tree_check.specs.Named.{named_below}

-- "names up to 77,823 being allowed"
abbrev pub highest_name : ℕ
highest_name = 77823

abbrev pub node_limits : TableLimits
node_limits = matrix_limits highest_name

-- Neither refusal 3 nor 4 applies to node i with these words.
unfoldable pub sound_node : ℕ → NodeWords → Bool
sound_node i w = well_formed node_limits w && not (forward_reference i w)

-- The array holds, for each number x, whether f x is 0, 1 or more, for which 2 stands.
abbrev pub Tally : List ℕ → (ℕ → ℕ) → Type 0
Tally named f = (x : ℕ) → get_or named x 0 ≡ min 2 (f x)

-- So often do the nodes below node i name each node.
pub record Tallied (ns named : List ℕ) (i : ℕ) : Type 0 where
  pub wide : length named ≡ node_limits.nodes
  pub tally : Tally named (λ x. named_below ns x i)
