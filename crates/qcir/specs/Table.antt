-- The formula table of a QCIR file (request S-1): "Nodes are stored gate line by gate line: inputs from left to right, each with its
-- not, an operator right after its second operand; then the output's nodes, then the prefix lines as blocks, the last line lowest.
-- Stretches follow one another in node order."
-- Assumes nothing.
use Rattle.std.specs.Prelude.{Bool, true, false, ℕ, suc, ◌-◌, eqb, length}
use mathlib.Core.List.{List, [], ◌∷◌, ◌++◌, map, flat_map}
use Rattle.lists.specs.Choice.{pick}
use Rattle.formula.specs.Node.{Quantifier, constant, variable, negation, operator}
use Rattle.formula.specs.Words.{node_count, words_of, block_words, word_list}
use Rattle.formula.specs.Form.{Block, kind_of, prefix_words}
use Rattle.formula.specs.declared.NodeWords.{NodeWords}
use Rattle.qcir.specs.File.{Literal, Junction, conjunction, disjunction, Gate, junction_gate, xor_gate, quantifier_gate, gate_name, Line, line_variables, File, numbers_of}

-- The nodes and list entries stored so far, and the gates' nodes: one more than the node that stands for a gate, 0 for a name that
-- is no gate's.
pub record Draft : Type 0 where
  pub words : List ℕ
  pub entries : List ℕ
  pub gate : ℕ → ℕ

-- A draft, and the node in it that stands for what was stored last.
pub record Stored : Type 0 where
  pub draft : Draft
  pub node : ℕ

-- One node more, by its words.
unfoldable pub store : Draft → NodeWords → Stored
store d w =
    record {
      draft = record { words = d.words ++ word_list w; entries = d.entries; gate = d.gate };
      node = node_count d.words;
    }

-- A name: the gate's node where it is a gate's, else a variable node.
unfoldable pub store_name : Draft → ℕ → Stored
store_name d x = pick (eqb (d.gate x) 0) (store d (words_of (variable x))) (record { draft = d; node = d.gate x - 1 })

-- "each with its not": "a minus sign is a not node".
unfoldable pub store_literal : Draft → Literal → Stored
store_literal d l =
    let s = store_name d l.name.number in
    pick l.minus (store s.draft (words_of (negation s.node))) s

-- "Gates with several inputs become operators from left to right": the operator with truth table t over what is stored and the
-- inputs that follow.
unfoldable pub store_inputs : ℕ → Stored → List Literal → Stored
store_inputs t s [] = s
store_inputs t s (l ∷ ls) =
    let r = store_literal s.draft l in
    store_inputs t (store r.draft (words_of (operator t s.node r.node))) ls

-- A block over what is stored, with its variables at the list's end.
unfoldable pub store_block : Quantifier → List ℕ → Stored → Stored
store_block q xs s =
    let d = s.draft in
    store (record { words = d.words; entries = d.entries ++ xs; gate = d.gate }) (block_words (kind_of q) (length d.entries) (length xs) s.node)

-- and is 8, or is 14.
unfoldable pub junction_table : Junction → ℕ
junction_table conjunction = 8
junction_table disjunction = 14

-- "`and()` is constant 1, `or()` constant 0"
unfoldable pub empty_value : Junction → Bool
empty_value conjunction = true
empty_value disjunction = false

-- The nodes of a gate line. "one input stands for itself"; xor is 6.
unfoldable pub store_gate : Draft → Gate → Stored
store_gate d (junction_gate j g []) = store d (words_of (constant (empty_value j)))
store_gate d (junction_gate j g (l ∷ ls)) = store_inputs (junction_table j) (store_literal d l) ls
store_gate d (xor_gate g l r) = store_inputs 6 (store_literal d l) (r ∷ [])
store_gate d (quantifier_gate q g x xs l) = store_block q (numbers_of (x ∷ xs)) (store_literal d l)

-- "gate line by gate line": from then on the gate's name stands for its node.
unfoldable pub store_gates : Draft → List Gate → Draft
store_gates d [] = d
store_gates d (g ∷ gs) =
    let s = store_gate d g in
    let e = s.draft in
    store_gates (record { words = e.words; entries = e.entries; gate = λ x. pick (eqb x (gate_name g).number) (suc s.node) (e.gate x) }) gs

-- "then the prefix lines as blocks, the last line lowest"
unfoldable pub store_prefix : Stored → List Line → Stored
store_prefix s [] = s
store_prefix s (l ∷ ls) = store_block l.quantifier (numbers_of (line_variables l)) (store_prefix s ls)

unfoldable pub empty_draft : Draft
empty_draft = record { words = []; entries = []; gate = λ x. 0 }

-- The first step, the matrix: the gate lines, "then the output's nodes".
unfoldable pub store_matrix : File → Stored
store_matrix f = store_literal (store_gates empty_draft f.gates) f.output

-- The second: the prefix lines over it.
unfoldable pub store_file : File → Stored
store_file f = store_prefix (store_matrix f) f.prefix

-- The words of the table's nodes, and its list.
unfoldable pub table_words : File → List ℕ
table_words f = (store_file f).draft.words

unfoldable pub table_list : File → List ℕ
table_list f = (store_file f).draft.entries

-- With the prefix lines kept as prefix: the first step's words and list, ..
unfoldable pub matrix_words : File → List ℕ
matrix_words f = (store_matrix f).draft.words

unfoldable pub matrix_list : File → List ℕ
matrix_list f = (store_matrix f).draft.entries

-- .. and the lines as prefix blocks, with the words and the list of these.
unfoldable pub line_block : Line → Block
line_block l = record { quantifier = l.quantifier; variables = numbers_of (line_variables l) }

unfoldable pub file_prefix : File → List Block
file_prefix f = map line_block f.prefix

unfoldable pub file_prefix_words : File → List ℕ
file_prefix_words f = prefix_words 0 (file_prefix f)

unfoldable pub file_prefix_list : File → List ℕ
file_prefix_list f = flat_map (λ (b : Block). b.variables) (file_prefix f)
