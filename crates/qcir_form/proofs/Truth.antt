-- "The file has the form's truth value under every setting": the prefix lines quantify as the blocks do, and after the gate lines what
-- stands for a node that is written has the node's value.
-- Assumes nothing.
use mathlib.Core.Path.{◌≡◌, refl, sym, ◌∙◌, ap, fun_ext}
use mathlib.Core.Bool.{Bool, true}
use mathlib.Core.List.{List, [], ◌∷◌, ◌++◌, flat_map}
use Prim.Native.Nat.{ℕ, zero, suc, ◌-◌, ◌≤◌, ◌<◌}
use native.Mathlib.Omega.{arith}
use native.Mathlib.Nat.{not-suc-le-zero}
use lib.Dec.{eqb, ltb}
use borrow.Author.Tests.{ne_eqb, ltb-true, ltb-false}
use Rattle.lists.specs.Choice.{pick, pick_yes, pick_no, Is, is_true, is_false, look, and_both, and_off_right}
use Rattle.lists.specs.Members.{mem}
use Rattle.lists.specs.Parts.{up_to}
use Rattle.lists.proofs.Members.{mem_head}
use Rattle.formula.specs.Node.{Quantifier, Node, constant, variable, negation, operator, block, Table}
use Rattle.formula.specs.Words.{table_of}
use Rattle.formula.specs.Valuation.{Valuation, quant}
use Rattle.formula.specs.Truth.{value, truth}
use Rattle.formula.specs.Form.{Block, blocks_of, quantify, matrix_truth, form_truth}
use Rattle.formula.specs.Tree.{Tree}
use Rattle.formula.proofs.Quantify.{quant_cong}
use Rattle.formula.proofs.Unfolding.{value_node}
use Rattle.acceptance.proofs.Matrix.{MatrixNode, matrix_node}
use Rattle.qcir.specs.File.{Literal, Gate, gate_name, Line, line_variables}
use Rattle.qcir.specs.Meaning.{Meaning, literal_value, gate_value, meaning, prefix_value, file_truth}
use Rattle.qcir_form.specs.Rows.{RowKind, constant_row, left_row, right_row, and_row, xor_row, row}
use Rattle.qcir_form.specs.File.{row_operands, used_operands, written, turned, row_has_gate, has_gate, row_literal, node_literal, node_gates, is_gate, gate_number, node_literal_of, gates_of, free_names, list_lines, prefix_lines, first_gate, matrix_file, form_file}
use Rattle.qcir_form.specs.Laws.{FileTruth}
use Rattle.qcir_form.proofs.Numbers.{gate_first, gate_grows, gate_rises, numbers_named, names_below}
use Rattle.qcir_form.proofs.TruthNodes.{literal_kept, gates_kept, no_gates, node_says}
use Rattle.qcir_form.proofs.Written.{used_lower, written_root, written_down, literal_step}

-- The prefix.

line_value : (q : Quantifier) (xs : List ℕ) (ls : List Line) (g : Valuation → Bool) (v : Valuation)
    → prefix_value (list_lines q xs ++ ls) g v ≡ quant q xs (prefix_value ls g) v
unfolding list_lines prefix_value line_variables quant
line_value q [] ls g v = refl
line_value q (x ∷ xs) ls g v = ap (λ ys. quant q ys (prefix_value ls g) v) (numbers_named (x ∷ xs))

prefix_value_lem : (bs : List Block) (g : Valuation → Bool) (v : Valuation) → prefix_value (prefix_lines bs) g v ≡ quantify bs g v
unfolding prefix_lines flat_map prefix_value quantify
prefix_value_lem [] g v = refl
prefix_value_lem (b ∷ bs) g v =
    line_value b.quantifier b.variables (prefix_lines bs) g v
    ∙ quant_cong b.quantifier b.variables (prefix_value (prefix_lines bs) g) (quantify bs g) v (prefix_value_lem bs g)

-- Gate lines, and then more.
meaning_append : (m : Meaning) (gs hs : List Gate) → meaning m (gs ++ hs) ≡ meaning (meaning m gs) hs
unfolding meaning
meaning_append m [] hs = refl
meaning_append m (g ∷ gs) hs = meaning_append (λ x v. pick (eqb x (gate_name g).number) (gate_value m g v) (m x v)) gs hs

-- The name of what stands for a node is below a bound that its own gate, its name and those of its operands are below.

row_low : (k : RowKind) (whole : Bool) (g a b bound : ℕ) (at : ℕ → Literal) → (row_has_gate k ≡ true → g < bound)
    → ((c : ℕ) → mem c (row_operands k a b) ≡ true → (at c).name.number < bound)
    → (row_literal k whole g (at a) (at b)).name.number < bound
unfolding row_has_gate row_literal row_operands turned
row_low constant_row whole g a b bound at own low = own refl
row_low left_row whole g a b bound at own low = low a (mem_head a [])
row_low right_row whole g a b bound at own low = low b (mem_head b [])
row_low and_row whole g a b bound at own low = own refl
row_low xor_row whole g a b bound at own low = own refl

node_low : (most : ℕ) (nd : Node) (g bound : ℕ) (at : ℕ → Literal) → MatrixNode most nd → (has_gate nd ≡ true → g < bound)
    → ((x : ℕ) → nd ≡ variable x → x < bound)
    → ((a : ℕ) → mem a (used_operands nd) ≡ true → (at a).name.number < bound)
    → (node_literal at g nd).name.number < bound
unfolding has_gate node_literal used_operands turned
node_low most (constant c) g bound at w own names low = own refl
node_low most (variable x) g bound at w own names low = names x refl
node_low most (negation a) g bound at w own names low = low a (mem_head a [])
node_low most (operator f a b) g bound at w own names low = row_low (row f).kind (row f).whole g a b bound at own low
node_low most (block q xs a) g bound at w own names low = absurd w

-- The values of variables, before the gate lines.
abbrev start : Meaning
start = λ x u. u x

-- The gate line of node i, if it has one.
abbrev line_of : Table → ℕ → ℕ → List Gate
line_of t first i = pick (is_gate t i) (node_gates (node_literal_of t first) (gate_number t first i) (t.node i)) []

-- The values of names after the gate lines of the nodes below k.
after : Table → ℕ → ℕ → Meaning
after t first k = meaning start (up_to (line_of t first) k)

after_step : (t : Table) (first k : ℕ) → after t first (suc k) ≡ meaning (after t first k) (line_of t first k)
unfolding after up_to
after_step t first k = meaning_append start (up_to (line_of t first) k) (line_of t first k)

-- A matrix, all of whose names that are written are below the first gate.
module _ (t : Table) (tree : Tree t) (first most : ℕ)
    (plain : (i : ℕ) → i < t.size → MatrixNode most (t.node i))
    (below : (i x : ℕ) → i < t.size → written t i ≡ true → t.node i ≡ variable x → x < first) where
  literal_of_lem : (i : ℕ) → i < t.size → node_literal_of t first i ≡ node_literal (node_literal_of t first) (gate_number t first i) (t.node i)
  unfolding node_literal_of
  literal_of_lem i h = literal_step t tree (gate_number t first) i h

  -- What stands for a node has a name below the gates of the nodes above it: for nodes below n.
  literal_low_to : (n i : ℕ) → i < n → i < t.size → written t i ≡ true → (node_literal_of t first i).name.number < gate_number t first (suc i)
  unfolding is_gate
  literal_low_to zero i l h w = absurd (not-suc-le-zero l)
  literal_low_to (suc n) i l h w =
      rw (literal_of_lem i h)
      (node_low most (t.node i) (gate_number t first i) (gate_number t first (suc i)) (node_literal_of t first) (plain i h)
      (λ e. gate_rises t first i (suc i) (omega arith) (and_both (written t i) (has_gate (t.node i)) w e))
      (λ x e. omega (arith, below i x h w e, gate_first t first (suc i)))
      (λ a m.
      let k : a < i = used_lower t tree i a h m in
      omega (arith, literal_low_to n a (omega arith) (omega arith) (written_down t tree i a h w m), gate_grows t first (suc a) (suc i) (omega arith))))

  pub literal_low : (i : ℕ) → i < t.size → written t i ≡ true → (node_literal_of t first i).name.number < gate_number t first (suc i)
  literal_low i h w = literal_low_to (suc i) i (omega arith) h w

  -- A node's gate line changes no lower name,
  line_kept : (m : Meaning) (k x : ℕ) (v : Valuation) → x < gate_number t first k → meaning m (line_of t first k) x v ≡ m x v
  unfolding meaning
  line_kept m k x v l = go (look (is_gate t k))
    where
      go : Is (is_gate t k) → meaning m (line_of t first k) x v ≡ m x v
      go (is_true e) =
          ap (λ gs. meaning m gs x v) (pick_yes _ _ _ e)
          ∙ gates_kept (t.node k) (node_literal_of t first) m (gate_number t first k) x v (ne_eqb x (gate_number t first k) (λ q. omega arith))
      go (is_false e) = ap (λ gs. meaning m gs x v) (pick_no _ _ _ e)

  step_kept : (k x : ℕ) (v : Valuation) → x < gate_number t first k → after t first (suc k) x v ≡ after t first k x v
  step_kept k x v l = ap (λ m. m x v) (after_step t first k) ∙ line_kept (after t first k) k x v l

  -- and no variable.
  variables_kept : (k x : ℕ) (v : Valuation) → x < first → after t first k x v ≡ v x
  unfolding after up_to meaning
  variables_kept zero x v l = refl
  variables_kept (suc k) x v l = step_kept k x v (omega (arith, gate_first t first k)) ∙ variables_kept k x v l

  -- The gate line of a node that is written.
  written_line : (k : ℕ) → written t k ≡ true
      → line_of t first k ≡ node_gates (node_literal_of t first) (gate_number t first k) (t.node k)
  unfolding is_gate
  written_line k w = go (look (has_gate (t.node k)))
    where
      go : Is (has_gate (t.node k)) → line_of t first k ≡ node_gates (node_literal_of t first) (gate_number t first k) (t.node k)
      go (is_true e) = pick_yes _ _ _ (and_both (written t k) (has_gate (t.node k)) w e)
      go (is_false e) =
          pick_no _ _ _ (and_off_right (written t k) (has_gate (t.node k)) e)
          ∙ sym (no_gates (t.node k) (node_literal_of t first) (gate_number t first k) e)

  -- What stands for node i has its value after the gate lines of the nodes below k.
  abbrev Known : ℕ → ℕ → Type 0
  Known k i = (v : Valuation) → literal_value (after t first k) (node_literal_of t first i) v ≡ value t.size t i v

  -- It keeps it,
  known_kept : (k i : ℕ) → i < k → k < t.size → written t i ≡ true → Known k i → Known (suc k) i
  known_kept k i l h w known v =
      let low : (node_literal_of t first i).name.number < gate_number t first k =
      omega (arith, literal_low i (omega arith) w, gate_grows t first (suc i) k l) in
      literal_kept (after t first (suc k)) (after t first k) v (node_literal_of t first i) (step_kept k (node_literal_of t first i).name.number v low)
      ∙ known v

  -- and the next node gets it, if those below it have theirs.
  known_next : (k : ℕ) → k < t.size → written t k ≡ true → ((i : ℕ) → i < k → written t i ≡ true → Known k i) → Known (suc k) k
  known_next k h w known v =
      let at : ℕ → Literal = node_literal_of t first in
      let gates : List Gate = node_gates at (gate_number t first k) (t.node k) in
      ap (λ m. literal_value m (at k) v) (after_step t first k ∙ ap (meaning (after t first k)) (written_line k w))
      ∙ ap (λ l. literal_value (meaning (after t first k) gates) l v) (literal_of_lem k h)
      ∙ node_says (after t first k) at (value t.size t) (gate_number t first k) v most (t.node k) (plain k h)
      (λ x e. variables_kept k x v (below k x h w e))
      (λ a m. known a (used_lower t tree k a h m) (written_down t tree k a h w m) v)
      ∙ sym (value_node t tree.lower k h v)

  all_known : (k : ℕ) → k ≤ t.size → (i : ℕ) → i < k → written t i ≡ true → Known k i
  all_known zero h i l w = absurd (not-suc-le-zero l)
  all_known (suc k) h i l w = go (look (ltb i k)) (all_known k (omega arith))
    where
      go : Is (ltb i k) → ((j : ℕ) → j < k → written t j ≡ true → Known k j) → Known (suc k) i
      go (is_true b) known = let n : i < k = ltb-true i k b in known_kept k i n (omega arith) w (known i n w)
      go (is_false b) known =
          let n : k ≤ i = ltb-false i k b in
          let e : i ≡ k = omega arith in
          let here : written t k ≡ true = rw e at w in rw e (known_next k (omega arith) here known)

  matrix_value : (v : Valuation)
      → literal_value (meaning start (gates_of t first)) (node_literal_of t first (t.size - 1)) v ≡ truth t v
  unfolding gates_of truth after
  matrix_value v =
      all_known t.size (omega arith) (t.size - 1) (omega (arith, tree.nonempty)) (written_root t tree.nonempty) v

pub file_truth_lem : FileTruth
unfolding file_truth form_file matrix_file form_truth matrix_truth table_of
file_truth_lem nodes most ns ps xs a v =
    let t : Table = table_of ns [] in
    let bs : List Block = blocks_of ps xs in
    let first : ℕ = first_gate (free_names t bs) (prefix_lines bs) in
    prefix_value_lem bs (literal_value (meaning start (gates_of t first)) (node_literal_of t first (t.size - 1))) v
    ∙ ap (λ f. quantify bs f v)
    (fun_ext (matrix_value t a.matrix.proper.tree first most (matrix_node nodes most ns a.matrix) (names_below t bs)))
