-- The lines of a form's text, by what the walk over the form is lent.
-- Assumes nothing.
use Rattle.std.specs.Prelude.{Bool, not, ◌&&◌, List, [], ◌∷◌, ℕ, ◌+◌, ◌*◌, ◌/◌, ◌<◌, ◌≤◌, eqb, length, get_or}
use Rattle.lists.specs.Choice.{pick}
use Rattle.lists.specs.Parts.{up_to}
use Rattle.formula.specs.Node.{Node, Table}
use Rattle.formula.specs.Words.{node_at}
use Rattle.formula.specs.Form.{Block, prefix_width, block_at, binds}
use Rattle.qcir.specs.File.{Gate}
use Rattle.qcir.specs.Spelling.{word, name, comma, free_word, prefix_signs, gates_signs}
use Rattle.qcir_text.specs.Text.{signs_text}
use Rattle.qcir_text.specs.Pieces.{named, list_lines, literal_of, open_text, AllWritable}
use Rattle.qcir_form.specs.File.{node_gates, occurs}

-- The last index at which the free line or the gate lines may start, and a bound on the prefix lines: no index wraps.
abbrev pub last_start : ℕ
last_start = 2147483648

abbrev pub text_bound : ℕ
text_bound = 4194304

-- The name is open and occurs in a gate or output line.
abbrev pub is_free : Table → List Block → ℕ → Bool
is_free t bs x = occurs t x && not (binds bs x)

-- What a name adds to the free line, its flag being this one: it may be the line's first.
unfoldable pub name_text : Bool → ℕ → ℕ → List ℕ
name_text first flag x =
    pick (eqb flag 2)
    (pick first (open_text free_word (x ∷ [])) (signs_text (word comma ∷ name (named x) ∷ [])))
    []

-- The line of a block, if it has one, and the lines of the first m blocks of a prefix.
unfoldable pub block_text : Block → List ℕ
block_text b = signs_text (prefix_signs (list_lines b.quantifier b.variables))

unfoldable pub blocks_text : List ℕ → List ℕ → ℕ → List ℕ
blocks_text ps xs m = up_to (λ j. block_text (block_at ps xs j)) m

-- A prefix that can be written: ranges that fit, names that are not too high, and lines that are not too long together.
pub record Writable (ps xs : List ℕ) : Type 0 where
  pub fits : (j : ℕ) → j < length ps / prefix_width → get_or ps (prefix_width * j + 1) 0 + get_or ps (prefix_width * j + 2) 0 ≤ length xs
  pub names : (j : ℕ) → j < length ps / prefix_width → AllWritable (block_at ps xs j).variables
  pub short : length (blocks_text ps xs (length ps / prefix_width)) ≤ text_bound

-- The gate line of node i, if it has one. Each node's literal is held in a word, and 0 for a node that is not written; a gate's number is
-- half of its node's word.
unfoldable pub held_gates : List ℕ → ℕ → Node → List Gate
held_gates literals i nd =
    pick (eqb (get_or literals i 0) 0) []
    (node_gates (λ a. literal_of (get_or literals a 0)) (get_or literals i 0 / 2) nd)

-- The gate lines of the nodes below n.
unfoldable pub gates_text : List ℕ → List ℕ → ℕ → List ℕ
gates_text ns literals n = up_to (λ i. signs_text (gates_signs (held_gates literals i (node_at ns [] i)))) n
