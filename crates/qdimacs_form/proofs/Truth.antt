-- "The file is true exactly if some setting of the open names makes the form true": over the gates, some values make all clauses true
-- exactly if the matrix is true; the blocks quantify as those of the form; and the open names may have the values of any setting.
-- Assumes nothing.
use mathlib.Core.Path.{◌≡◌, refl, sym, ◌∙◌, ap, fun_ext}
use mathlib.Core.Bool.{Bool, true, false, ◌&&◌}
use mathlib.Core.List.{List, []}
use Prim.Native.Nat.{ℕ, zero, suc, ◌-◌, ◌<◌}
use native.Mathlib.Omega.{arith}
use native.Mathlib.Nat.{not-suc-le-zero}
use lib.Dec.{eqb}
use borrow.Author.Tests.{eqb-true, eq-eqb}
use Rattle.lists.specs.Choice.{pick, pick_yes, pick_no, Is, is_true, is_false, look, and_left, and_right, and_both, same_test}
use Rattle.lists.specs.Search.{lowest}
use Rattle.lists.specs.Members.{mem}
use Rattle.lists.specs.Parts.{up_to, numbers}
use Rattle.lists.proofs.Search.{lowest_holds, lowest_least}
use Rattle.formula.specs.Node.{exists, variable, Table, is_block}
use Rattle.formula.specs.Words.{table_of}
use Rattle.formula.specs.Valuation.{Valuation, quant}
use Rattle.formula.specs.Truth.{node_value, value, truth}
use Rattle.formula.specs.Form.{Block, blocks_of, quantify, matrix_truth, form_truth}
use Rattle.formula.specs.FreeVariables.{number_at, free_variables, form_free_variables}
use Rattle.formula.specs.Tree.{Tree}
use Rattle.formula.specs.Meaning.{DiffersAtMostAt}
use Rattle.formula.proofs.FreeVariables.{table_by_list, form_by_list}
use Rattle.formula.proofs.Meaning.{exists_read}
use Rattle.formula.proofs.Unfolding.{value_node, value_variable}
use Rattle.acceptance.specs.Limits.{matrix_within}
use Rattle.form_check.specs.Accepted.{AcceptedFormWithin}
use Rattle.acceptance.proofs.Matrix.{no_block}
use Rattle.qdimacs.specs.Problem.{clauses_value, problem_truth}
use Rattle.qdimacs_form.specs.Clauses.{has_gate, gates_below, first_gate, gate_variable, variable_of, no_operand, gate_clauses, node_clauses, matrix_clauses, matrix_problem, form_problem}
use Rattle.qdimacs_form.specs.Laws.{ProblemTruth}
use Rattle.qdimacs_form.proofs.Gates.{root_gate, no_gate, variable_gate, variable_name, gate_apart, gate_number_lem, below_gates, name_below, free_below}
use Rattle.qdimacs_form.proofs.TruthNodes.{xor_equal, equal_xor, written_value, clauses_append, clauses_up_to, up_to_clauses, gate_none, gate_value_lem, node_same}
use Rattle.qdimacs_form.proofs.TruthBlocks.{closed_value}

-- The variables of the gates.
abbrev gates_of : Table → ℕ → List ℕ
gates_of t first = numbers first (gates_below t t.size)

-- The node whose gate variable is x.
node_of : Table → ℕ → ℕ → ℕ
node_of t first x = lowest (λ i. has_gate t i && eqb (gate_variable t first i) x) t.size

-- v, but for the gates, which have the values of their nodes under v.
with_gates : Table → ℕ → Valuation → Valuation
with_gates t first v x = pick (mem x (gates_of t first)) (value t.size t (node_of t first x) v) (v x)

-- A matrix, all of whose names are below the first gate.
module _ (t : Table) (tree : Tree t) (first : ℕ)
    (plain : (i : ℕ) → i < t.size → is_block (t.node i) ≡ false)
    (below : (i x : ℕ) → i < t.size → t.node i ≡ variable x → x < first)
    (free_low : (x : ℕ) → mem x (free_variables t) ≡ true → x < first) where
  -- The gate of node i, if it has one, has the value that the node has by what stands for its operands.
  abbrev Says : Valuation → ℕ → Type 0
  Says u i = has_gate t i ≡ true → u (gate_variable t first i) ≡ node_value (λ a w. w (variable_of t first a)) (t.node i) u

  -- So say its clauses,
  gate_clauses_lem : (u : Valuation) (i : ℕ) → has_gate t i ≡ true
      → clauses_value (node_clauses t first i) u ≡ clauses_value (gate_clauses (variable_of t first) (gate_variable t first i) (t.node i)) u
  unfolding node_clauses
  gate_clauses_lem u i g = ap (λ cs. clauses_value cs u) (pick_yes _ _ _ g) ∙ written_value u _

  said : (u : Valuation) (i : ℕ) → i < t.size → clauses_value (node_clauses t first i) u ≡ true → Says u i
  said u i h c g =
      xor_equal _ _
      (sym (gate_value_lem u (variable_of t first) (gate_variable t first i) (t.node i) (plain i h)) ∙ sym (gate_clauses_lem u i g) ∙ c)

  -- and nothing else.
  says : (u : Valuation) (i : ℕ) → i < t.size → Says u i → clauses_value (node_clauses t first i) u ≡ true
  unfolding node_clauses clauses_value
  says u i h s = go (look (has_gate t i))
    where
      go : Is (has_gate t i) → clauses_value (node_clauses t first i) u ≡ true
      go (is_true g) =
          gate_clauses_lem u i g
          ∙ gate_value_lem u (variable_of t first) (gate_variable t first i) (t.node i) (plain i h)
          ∙ equal_xor _ _ (s g)
      go (is_false g) = ap (λ cs. clauses_value cs u) (pick_no _ _ _ g)

  -- Where all clauses are true, what stands for a node has its value: for nodes below n.
  known_to : (u : Valuation) → clauses_value (up_to (node_clauses t first) t.size) u ≡ true
      → (n i : ℕ) → i < n → i < t.size → u (variable_of t first i) ≡ value t.size t i u
  known_to u c zero i l h = absurd (not-suc-le-zero l)
  known_to u c (suc n) i l h = go (look (has_gate t i)) (known_to u c n)
    where
      go : Is (has_gate t i) → ((a : ℕ) → a < n → a < t.size → u (variable_of t first a) ≡ value t.size t a u)
          → u (variable_of t first i) ≡ value t.size t i u
      go (is_true g) known =
          ap u (variable_gate t first i g)
          ∙ said u i h (up_to_clauses u (node_clauses t first) t.size i h c) g
          ∙ node_same (t.node i) (λ a w. w (variable_of t first a)) (value t.size t) u u (plain i h)
          (λ a m. let k : a < i = tree.lower i a h m in known a (omega arith) (omega arith))
          (λ x e. refl)
          ∙ sym (value_node t tree.lower i h u)
      go (is_false g) known =
          ap u (variable_name t first i g)
          ∙ sym (value_variable t tree.lower i h u (number_at (t.node i)) (no_gate t i (plain i h) g))

  -- The root's gate stands for it.
  root_stands : variable_of t first (t.size - 1) ≡ gate_variable t first (t.size - 1)
  root_stands = variable_gate t first (t.size - 1) (root_gate t tree.nonempty)

  -- So the matrix is true there.
  clauses_truth : (u : Valuation) → clauses_value (matrix_clauses t first) u ≡ true → truth t u ≡ true
  unfolding matrix_clauses truth no_operand
  clauses_truth u c =
      let g : ℕ = gate_variable t first (t.size - 1) in
      let gates : Bool = clauses_value (up_to (node_clauses t first) t.size) u in
      let own : Bool = clauses_value (no_operand g true) u in
      let both : (gates && own) ≡ true = sym (clauses_append u (up_to (node_clauses t first) t.size) (no_operand g true)) ∙ c in
      let here : u g ≡ true = xor_equal _ _ (sym (gate_none u g true) ∙ and_right gates own both) in
      sym (known_to u (and_left gates own both) t.size (t.size - 1) (omega (arith, tree.nonempty)) (omega (arith, tree.nonempty)))
      ∙ ap u root_stands
      ∙ here

  -- The other way round: gates with the values of their nodes.

  gate_filled : (v : Valuation) (i : ℕ) → i < t.size → has_gate t i ≡ true
      → with_gates t first v (gate_variable t first i) ≡ value t.size t i v
  unfolding with_gates node_of
  gate_filled v i h g =
      let x : ℕ = gate_variable t first i in
      let test : ℕ → Bool = λ j. has_gate t j && eqb (gate_variable t first j) x in
      let low : lowest test t.size < t.size =
      omega (arith, lowest_least test t.size i h (and_both (has_gate t i) (eqb x x) g (eq-eqb x x refl))) in
      let j : ℕ = lowest test t.size in
      let passes : test j ≡ true = lowest_holds test t.size low in
      let same : j ≡ i =
      gate_apart t first j i (and_left (has_gate t j) (eqb (gate_variable t first j) x) passes) g
      (eqb-true (gate_variable t first j) x (and_right (has_gate t j) (eqb (gate_variable t first j) x) passes)) in
      pick_yes _ _ _ (gate_number_lem t first i h g) ∙ ap (λ k. value t.size t k v) same

  name_kept : (v : Valuation) (x : ℕ) → x < first → with_gates t first v x ≡ v x
  unfolding with_gates
  name_kept v x h = pick_no _ _ _ (below_gates t first x h)

  -- Then what stands for a node has its value,
  filled_known : (v : Valuation) (i : ℕ) → i < t.size → with_gates t first v (variable_of t first i) ≡ value t.size t i v
  filled_known v i h = go (look (has_gate t i))
    where
      go : Is (has_gate t i) → with_gates t first v (variable_of t first i) ≡ value t.size t i v
      go (is_true g) = ap (with_gates t first v) (variable_gate t first i g) ∙ gate_filled v i h g
      go (is_false g) =
          let e : t.node i ≡ variable (number_at (t.node i)) = no_gate t i (plain i h) g in
          ap (with_gates t first v) (variable_name t first i g)
          ∙ name_kept v (number_at (t.node i)) (below i (number_at (t.node i)) h e)
          ∙ sym (value_variable t tree.lower i h v (number_at (t.node i)) e)

  filled_says : (v : Valuation) (i : ℕ) → i < t.size → Says (with_gates t first v) i
  filled_says v i h g =
      gate_filled v i h g
      ∙ value_node t tree.lower i h v
      ∙ node_same (t.node i) (value t.size t) (λ a w. w (variable_of t first a)) v (with_gates t first v) (plain i h)
      (λ a m. let k : a < i = tree.lower i a h m in sym (filled_known v a (omega arith)))
      (λ x e. sym (name_kept v x (below i x h e)))

  -- and all clauses are true if the matrix is.
  truth_clauses : (v : Valuation) → truth t v ≡ true → clauses_value (matrix_clauses t first) (with_gates t first v) ≡ true
  unfolding matrix_clauses truth no_operand
  truth_clauses v e =
      let u : Valuation = with_gates t first v in
      let g : ℕ = gate_variable t first (t.size - 1) in
      let h : t.size - 1 < t.size = omega (arith, tree.nonempty) in
      let here : u g ≡ true = ap u (sym root_stands) ∙ filled_known v (t.size - 1) h ∙ e in
      clauses_append u (up_to (node_clauses t first) t.size) (no_operand g true)
      ∙ and_both _ _ (clauses_up_to u (node_clauses t first) t.size (λ i l. says u i l (filled_says v i l)))
      (gate_none u g true ∙ equal_xor (u g) true here)

  -- Valuations that differ at gates only give the matrix one value.
  gates_blind : (v u : Valuation) → DiffersAtMostAt (gates_of t first) v u → truth t v ≡ truth t u
  gates_blind v u out = table_by_list t tree v u (λ x m. out x (below_gates t first x (free_low x m)))

  filled_differs : (v : Valuation) → DiffersAtMostAt (gates_of t first) v (with_gates t first v)
  unfolding with_gates
  filled_differs v x m = sym (pick_no _ _ _ m)

  -- Some values of the gates make all clauses true exactly if the matrix is true.
  matrix_value : (v : Valuation) → quant exists (gates_of t first) (clauses_value (matrix_clauses t first)) v ≡ truth t v
  matrix_value v =
      let reads = exists_read (gates_of t first) (clauses_value (matrix_clauses t first)) v in
      same_test _ _
      (λ e. let r = reads.0 e in gates_blind v r.0 r.1 ∙ clauses_truth r.0 r.2)
      (λ e. reads.1 (with_gates t first v, filled_differs v, truth_clauses v e))

-- The problem has the value of the form under its open names.
problem_value : (nodes most : ℕ) (ns ps xs : List ℕ) → AcceptedFormWithin (matrix_within nodes most) ns ps xs → (v : Valuation)
    → problem_truth (form_problem ns ps xs) v ≡ quant exists (form_free_variables ns ps xs) (form_truth ns ps xs) v
unfolding problem_truth form_problem matrix_problem form_truth matrix_truth table_of
problem_value nodes most ns ps xs a v =
    let t : Table = table_of ns [] in
    let bs : List Block = blocks_of ps xs in
    let first : ℕ = first_gate t bs in
    closed_value (clauses_value (matrix_clauses t first)) (form_free_variables ns ps xs) bs (gates_of t first) v
    ∙ ap (λ f. quant exists (form_free_variables ns ps xs) (quantify bs f) v)
    (fun_ext (matrix_value t a.matrix.proper.tree first (no_block nodes most ns a.matrix) (name_below t bs) (free_below t bs)))

-- The values of one valuation inside a list, those of another outside it.
inside : List ℕ → Valuation → Valuation → Valuation
inside xs u v x = pick (mem x xs) (u x) (v x)

pub problem_truth_lem : ProblemTruth
unfolding inside
problem_truth_lem nodes most ns ps xs a v =
    let e = problem_value nodes most ns ps xs a v in
    let open_names : List ℕ = form_free_variables ns ps xs in
    let reads = exists_read open_names (form_truth ns ps xs) v in (
      (λ h. let r = reads.0 (sym e ∙ h) in (r.0, r.2)),
      (λ s.
          let same : form_truth ns ps xs (inside open_names s.0 v) ≡ form_truth ns ps xs s.0 =
          form_by_list ns ps xs a.matrix.proper.tree (inside open_names s.0 v) s.0 (λ x m. pick_yes _ _ _ m) in
          e ∙ reads.1 (inside open_names s.0 v, (λ x m. sym (pick_no _ _ _ m)), same ∙ s.1)),
    )
