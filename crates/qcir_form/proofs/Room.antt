-- How many bytes the text of a form takes at most.
-- Assumes nothing.
use mathlib.Core.Path.{◌≡◌, refl}
use mathlib.Core.Bool.{Bool, true, false, not, ◌&&◌}
use mathlib.Core.List.{List, [], ◌∷◌, ◌++◌}
use Prim.Native.Nat.{ℕ, suc, ◌+◌, ◌*◌, ◌≤◌, ◌<◌}
use native.Mathlib.Omega.{arith}
use lib.ListN.{length, length-append}
use Rattle.lists.specs.Choice.{and_left}
use Rattle.lists.specs.Parts.{sum}
use Rattle.lists.proofs.Parts.{sum_add, sum_mono}
use Rattle.lists.proofs.Sums.{sum_ones}
use Rattle.formula.specs.Node.{Node, constant, variable, negation, operator, block, Table}
use Rattle.formula.specs.Words.{node_count, table_of}
use Rattle.formula.specs.Truth.{digit}
use Rattle.formula.specs.Form.{Block, blocks_of, binds}
use Rattle.formula.specs.FreeVariables.{highest_variable}
use Rattle.formula.proofs.FreeVariables.{Occurs, variables, passing_variables}
use Rattle.formula.proofs.Meaning.{blocks_count}
use Rattle.form_check.specs.Accepted.{AcceptedForm}
use Rattle.form_check.proofs.Entries.{names_few, names_below}
use Rattle.qcir.specs.File.{File}
use Rattle.qcir.specs.Spelling.{newline, header, free_signs, prefix_signs, output_signs, gates_signs, file_signs}
use Rattle.qcir.specs.Unbounded.{names_up_to}
use Rattle.qcir_text.specs.Text.{signs_text, file_text}
use Rattle.qcir_form.specs.Rows.{row}
use Rattle.qcir_form.specs.File.{row_has_gate, has_gate, written, is_gate, gate_number, node_literal_of, node_gates, gates_of, occurs, free_names, prefix_lines, first_gate, matrix_file, form_file, form_text}
use Rattle.qcir_form.specs.Laws.{TextRoom}
use Rattle.qcir_form.proofs.Numbers.{occurs_from}
use Rattle.qcir_form.proofs.Names.{file_up_to}
use Rattle.qcir_form.proofs.Weights.{weight, weights, weights_append, signs_weigh, output_weighs, free_weighs, prefix_weighs, node_weighs, gates_weigh}

-- A node is a gate or a variable, or neither: gates and open names together are no more than the nodes.
digit_le : (b : Bool) → digit b + 0 ≤ 1
unfolding digit
digit_le true = omega arith
digit_le false = omega arith

no_gate : (w : Bool) → digit (w && false) + 1 ≤ 1
unfolding digit
no_gate true = omega arith
no_gate false = omega arith

gate_or_variable : (w : Bool) (nd : Node) → digit (w && has_gate nd) + variables nd ≤ 1
unfolding has_gate variables
gate_or_variable w (constant c) = digit_le (w && true)
gate_or_variable w (variable x) = no_gate w
gate_or_variable w (negation a) = digit_le (w && false)
gate_or_variable w (operator f a b) = digit_le (w && row_has_gate (row f).kind)
gate_or_variable w (block q xs a) = digit_le (w && false)

module _ (t : Table) (bs : List Block) where
  open_stands : (x : ℕ) → (occurs t x && not (binds bs x)) ≡ true → Occurs t x
  open_stands x h =
      let o = occurs_from t x (and_left (occurs t x) (not (binds bs x)) h) in
      record { node = o.0; within = o.1; variable_is = o.3 }

  together : sum (λ i. digit (is_gate t i)) t.size + length (free_names t bs) ≤ t.size
  unfolding free_names is_gate
  together =
      let gates : ℕ → ℕ = λ i. digit (written t i && has_gate (t.node i)) in
      let vars : ℕ → ℕ = λ i. variables (t.node i) in
      let few = passing_variables t (λ x. occurs t x && not (binds bs x)) open_stands (suc (highest_variable t)) in
      let both : sum (λ i. gates i + vars i) t.size ≤ sum (λ i. 1) t.size =
      sum_mono _ _ t.size (λ i h. gate_or_variable (written t i) (t.node i)) in
      omega (arith, few, both, sum_add gates vars t.size, sum_ones (λ i. 1) t.size (λ i h. refl))

-- The bytes of a file's text by its parts.
module _ (f : File) (most : ℕ) (low : most < 1000000) (named_low : names_up_to most (file_signs f) ≡ true) where
  file_bytes : length (file_text f)
      ≤ 10 + (weights (free_signs f.free) + (weights (prefix_signs f.prefix) + (weights (output_signs f.output) + weights (gates_signs f.gates))))
  unfolding file_text file_signs weights weight names_up_to
  file_bytes =
      let outputs = output_signs f.output in
      let gates = gates_signs f.gates in
      let prefixes = prefix_signs f.prefix in
      let frees = free_signs f.free in
      omega (
        arith,
        length-append header (signs_text (newline ∷ file_signs f)),
        signs_weigh most low (newline ∷ file_signs f) named_low,
        weights_append frees (prefixes ++ (outputs ++ gates)),
        weights_append prefixes (outputs ++ gates),
        weights_append outputs gates,
      )

module _ (ns ps xs : List ℕ) (a : AcceptedForm ns ps xs) where
  t : Table
  t = table_of ns []

  bs : List Block
  bs = blocks_of ps xs

  first : ℕ
  first = first_gate (free_names t bs) (prefix_lines bs)

  parts : length (form_text ns ps xs) ≤ 31 * (node_count ns + 1) + weights (prefix_signs (prefix_lines bs))
  unfolding form_text form_file matrix_file t bs first gates_of table_of
  parts =
      let f = form_file ns ps xs in
      omega (
        arith,
        file_bytes f (77823 + node_count ns) (omega (arith, a.matrix.nodes_limit)) (file_up_to 40960 77823 ns ps xs a),
        free_weighs (free_names t bs),
        output_weighs f.output,
        gates_weigh (is_gate t) (λ i. node_gates (node_literal_of t first) (gate_number t first i) (t.node i)) t.size (λ i. node_weighs _ _ (t.node i)),
        together t bs,
      )

pub text_room : TextRoom
unfolding bs
text_room ns ps xs a = omega (arith, parts ns ps xs a, (prefix_weighs (blocks_of ps xs)).0, blocks_count ps xs, names_few ns ps xs a)

-- Whatever the prefix: what the code counts by does not wrap.
pub text_short : (ns ps xs : List ℕ) → AcceptedForm ns ps xs → length (form_text ns ps xs) ≤ 4194304
unfolding bs
text_short ns ps xs a =
    omega (arith, parts ns ps xs a, (prefix_weighs (blocks_of ps xs)).1, names_below ns ps xs a, a.matrix.nodes_limit)
