-- A form's problem is one that the format has: both numbers of its header are from 1 up, and no block and no clause is empty or has the
-- number 0.
-- Assumes nothing.
use mathlib.Core.Path.{◌≡◌, refl, sym, ◌∙◌, ap, subst}
use mathlib.Core.Bool.{Bool, true, not, ◌&&◌}
use mathlib.Core.List.{List, [], ◌∷◌, ◌++◌, flat_map}
use Prim.Native.Nat.{ℕ, ◌-◌, ◌≤◌, ◌<◌}
use native.Mathlib.Omega.{arith}
use lib.Dec.{eqb, leb}
use lib.ListN.{length, length-append, length-map}
use borrow.Author.Tests.{le-leb}
use Rattle.lists.specs.Choice.{and_left, and_right, and_both}
use Rattle.lists.specs.Members.{mem, all, distinct}
use Rattle.lists.specs.Parts.{up_to}
use Rattle.lists.proofs.Members.{all_mem, all_intro, mem_left, mem_right}
use Rattle.lists.proofs.Parts.{numbers_from}
use Rattle.formula.specs.Node.{variable, Table}
use Rattle.formula.specs.Words.{table_of}
use Rattle.formula.specs.Tree.{Tree}
use Rattle.formula.specs.Form.{Block, binds, blocks_of, form_free}
use Rattle.formula.specs.FreeVariables.{form_free_variables}
use Rattle.formula.proofs.FreeVariables.{free_occurs, form_free-listed}
use Rattle.acceptance.specs.Limits.{matrix_within}
use Rattle.acceptance.specs.Verdict.{is_number_to}
use Rattle.form_check.specs.Accepted.{AcceptedFormWithin, prefix_names}
use Rattle.acceptance.proofs.Matrix.{MatrixNode, matrix_node}
use Rattle.qdimacs.specs.Problem.{Clause, clause_variables, every}
use Rattle.qdimacs.specs.Spelling.{is_variables}
use Rattle.qdimacs_form.specs.Clauses.{has_value, gate_variable, first_gate, is_tautology, node_clauses, matrix_clauses, matrix_problem, form_problem}
use Rattle.qdimacs_form.specs.Laws.{sound_clause, ProblemGrammatical}
use Rattle.qdimacs_form.proofs.Gates.{gate_first}
use Rattle.qdimacs_form.proofs.Sound.{problem_clauses}
use Rattle.qdimacs_form.proofs.Blocks.{is_filled, problem_blocks}
use Rattle.qdimacs_form.proofs.Numbers.{all_pass, form_clauses, form_blocks}

-- Lists that are not empty and whose elements are from 1 up.

filled_blocks_lem : (bs : List Block) → every is_filled bs ≡ true → all (λ x. leb 1 x) (prefix_names bs) ≡ true
    → every (λ (b : Block). is_variables b.variables) bs ≡ true
unfolding every prefix_names flat_map is_variables
filled_blocks_lem [] f h = refl
filled_blocks_lem (b ∷ bs) f h =
    let part : (ys : List ℕ) → ((x : ℕ) → mem x ys ≡ true → mem x (b.variables ++ prefix_names bs) ≡ true) → all (λ x. leb 1 x) ys ≡ true =
    λ ys in_both. all_intro (λ x. leb 1 x) ys (λ x m. all_mem (λ x. leb 1 x) (b.variables ++ prefix_names bs) x h (in_both x m)) in
    and_both _ _ (and_both _ _ (and_left (is_filled b) _ f) (part b.variables (λ x. mem_left x b.variables (prefix_names bs))))
    (filled_blocks_lem bs (and_right (is_filled b) _ f) (part (prefix_names bs) (λ x. mem_right x b.variables (prefix_names bs))))

filled_clause : (c : Clause) → sound_clause c ≡ true → all_pass (λ x. leb 1 x) c ≡ true → is_variables (clause_variables c) ≡ true
unfolding sound_clause is_variables clause_variables
filled_clause c s h =
    let some : not (eqb (length c) 0) ≡ true =
    and_left (not (eqb (length c) 0)) _ (and_left (not (eqb (length c) 0) && distinct (clause_variables c)) (not (is_tautology c)) s) in
    and_both _ _ (ap (λ n. not (eqb n 0)) (length-map c _) ∙ some) h

filled_clauses : (cs : List Clause) → every sound_clause cs ≡ true → every (all_pass (λ x. leb 1 x)) cs ≡ true
    → every (λ (c : Clause). is_variables (clause_variables c)) cs ≡ true
unfolding every
filled_clauses [] s h = refl
filled_clauses (c ∷ cs) s h =
    let pass : Bool = all_pass (λ x. leb 1 x) c in
    and_both _ _ (filled_clause c (and_left (sound_clause c) _ s) (and_left pass _ h))
    (filled_clauses cs (and_right (sound_clause c) _ s) (and_right pass _ h))

module _ (nodes most : ℕ) (ns ps xs : List ℕ) (form : AcceptedFormWithin (matrix_within nodes most) ns ps xs) where
  abbrev table : Table
  table = table_of ns []

  abbrev first : ℕ
  first = first_gate table (blocks_of ps xs)

  number_from_one : (x : ℕ) → is_number_to most x ≡ true → leb 1 x ≡ true
  unfolding is_number_to
  number_from_one x h = and_left (leb 1 x) _ h

  -- a name at a variable node, so one that is free
  name_from_one : (i x : ℕ) → i < table.size → table.node i ≡ variable x → leb 1 x ≡ true
  unfolding table_of
  name_from_one i x h e = number_from_one x (subst (MatrixNode most) e (matrix_node nodes most ns form.matrix i h))

  open_from_one : (x : ℕ) → mem x (form_free_variables ns ps xs) ≡ true → leb 1 x ≡ true
  unfolding form_free
  open_from_one x m =
      let tree : Tree table = form.matrix.proper.tree in
      let o = free_occurs table tree x (and_left _ (not (binds (blocks_of ps xs) x)) (sym ((form_free-listed ns ps xs tree).members x) ∙ m)) in
      name_from_one o.node x o.within o.variable_is

  -- one of the prefix, and a gate's variable
  prefix_from_one : (x : ℕ) → mem x (prefix_names (blocks_of ps xs)) ≡ true → leb 1 x ≡ true
  prefix_from_one x m = number_from_one x (all_mem (is_number_to most) (prefix_names (blocks_of ps xs)) x form.numbered m)

  high_from_one : (x : ℕ) → first ≤ x → leb 1 x ≡ true
  unfolding first_gate
  high_from_one x h = le-leb 1 x (omega arith)

  root_clause : 1 ≤ length (matrix_clauses table first)
  unfolding matrix_clauses
  root_clause =
      let root : Clause = has_value (gate_variable table first (table.size - 1)) true ∷ [] in
      omega (arith, length-append (up_to (node_clauses table first) table.size) (root ∷ []))

pub problem_grammatical : ProblemGrammatical
unfolding form_problem matrix_problem first_gate
problem_grammatical nodes most ns ps xs form =
    let t : Table = table_of ns [] in
    let first : ℕ = first_gate t (blocks_of ps xs) in
    let from_one : ℕ → Bool = λ x. leb 1 x in
    let high = high_from_one nodes most ns ps xs form in
    record {
      some_variable = omega (arith, gate_first t first (t.size - 1));
      some_clause = root_clause nodes most ns ps xs form;
      blocks_filled = filled_blocks_lem _ (problem_blocks nodes most ns ps xs form).filled
          (form_blocks nodes most ns ps xs form from_one (open_from_one nodes most ns ps xs form) (prefix_from_one nodes most ns ps xs form)
          (λ x m. high x (numbers_from first _ x m)));
      clauses_filled = filled_clauses _ (problem_clauses nodes most ns ps xs form)
          (form_clauses nodes most ns ps xs form from_one (λ i h g. high _ (gate_first t first i)) (name_from_one nodes most ns ps xs form));
    }
