-- The clauses of a node of a matrix, by the node's words.
-- Assumes nothing.
use mathlib.Core.Path.{◌≡◌, refl, sym, ◌∙◌, ap, subst}
use mathlib.Core.Bool.{true, not}
use mathlib.Core.List.{List, [], ◌∷◌, flat_map}
use Prim.Native.Nat.{ℕ, suc, ◌-◌, ◌<◌}
use native.Mathlib.Omega.{arith}
use lib.Dec.{eqb, leb}
use lib.ListN.{get_or}
use borrow.Author.Tests.{eq-eqb, ne_eqb, leb-true}
use Rattle.lists.specs.Choice.{pick_yes, pick_no, clash, and_right, or_left, or_right, or_neither}
use Rattle.lists.specs.Members.{mem}
use Rattle.lists.proofs.Members.{mem_head, mem_tail}
use Rattle.formula.specs.Node.{Node, constant, variable, negation, operator, operands}
use Rattle.formula.specs.Truth.{operator_value}
use Rattle.formula.specs.Words.{node_count, words_at, node_at, table_of}
use Rattle.formula.specs.declared.NodeWords.{NodeWords}
use Rattle.formula.proofs.Nodes.{node_constant, node_variable, node_negation, node_operator}
use Rattle.acceptance.specs.Verdict.{is_number_to}
use Rattle.acceptance.specs.Accepted.{AcceptedWithin}
use Rattle.acceptance.proofs.Accepted.{Formed, formed_constant, formed_variable, formed_negation, formed_operator, formed_exists, formed_for_all, formed_cases}
use Rattle.form_check.specs.Verdict.{form_limits}
use Rattle.texts.specs.Bounds.{number_bound}
use Rattle.qdimacs.specs.Problem.{Clause}
use Rattle.qdimacs_form.specs.Clauses.{is_gate_node, has_gate, no_operand, one_operand, two_operands, gate_clauses, written_clauses}
use Rattle.qdimacs_form.proofs.Shapes.{none_written_lem, one_written}
use Rattle.qdimacs_words.specs.Words.{Loose}
use Rattle.qdimacs_words.proofs.Loose.{loose_none, loose_as}
use Rattle.qdimacs_rows.specs.Rows.{lines_text, IsWord, SomeWord}
use Rattle.qdimacs_clauses.specs.Held.{WordsHeld, clauses_at}

module _ (ns : List ℕ) (ok : AcceptedWithin form_limits ns []) (i : ℕ) (h : i < node_count ns) (w : NodeWords) (r : w ≡ words_at ns i) where
  formed : Formed form_limits w
  formed = subst (Formed form_limits) (sym r) (formed_cases form_limits (words_at ns i) (ok.formed i h))

  -- What the node is, by its kind.
  is_constant : w.kind ≡ 1 → node_at ns [] i ≡ constant (eqb w.a 1)
  is_constant = subst (λ (v : NodeWords). v.kind ≡ 1 → node_at ns [] i ≡ constant (eqb v.a 1)) (sym r) (node_constant ns [] i)

  is_variable_lem : w.kind ≡ 2 → node_at ns [] i ≡ variable w.a
  is_variable_lem = subst (λ (v : NodeWords). v.kind ≡ 2 → node_at ns [] i ≡ variable v.a) (sym r) (node_variable ns [] i)

  is_negation : w.kind ≡ 3 → node_at ns [] i ≡ negation w.a
  is_negation = subst (λ (v : NodeWords). v.kind ≡ 3 → node_at ns [] i ≡ negation v.a) (sym r) (node_negation ns [] i)

  is_operator : w.kind ≡ 4 → node_at ns [] i ≡ operator w.a w.b w.c
  is_operator = subst (λ (v : NodeWords). v.kind ≡ 4 → node_at ns [] i ≡ operator v.a v.b v.c) (sym r) (node_operator ns [] i)

  -- What its words may be.
  pub variable_low : w.kind ≡ 2 → w.a < number_bound
  unfolding is_number_to
  variable_low k = go formed
    where
      go : Formed form_limits w → w.a < number_bound
      go (formed_constant e _ _ _) = absurd (omega arith)
      go (formed_variable e n _ _) = omega (arith, leb-true w.a 77823 (and_right (leb 1 w.a) (leb w.a 77823) n))
      go (formed_negation e _ _) = absurd (omega arith)
      go (formed_operator e _) = absurd (omega arith)
      go (formed_exists e p) = clash p refl
      go (formed_for_all e p) = clash p refl

  pub table_low : w.kind ≡ 4 → w.a < 16
  table_low k = go formed
    where
      go : Formed form_limits w → w.a < 16
      go (formed_constant e _ _ _) = absurd (omega arith)
      go (formed_variable e _ _ _) = absurd (omega arith)
      go (formed_negation e _ _) = absurd (omega arith)
      go (formed_operator e n) = omega arith
      go (formed_exists e p) = clash p refl
      go (formed_for_all e p) = clash p refl

  -- What is none of the others is a constant.
  pub else_constant : (w.kind ≡ 2 → ⊥) → (w.kind ≡ 4 → ⊥) → (w.kind ≡ 3 → ⊥) → w.kind ≡ 1
  else_constant n2 n4 n3 = go formed
    where
      go : Formed form_limits w → w.kind ≡ 1
      go (formed_constant e _ _ _) = e
      go (formed_variable e _ _ _) = absurd (n2 e)
      go (formed_negation e _ _) = absurd (n3 e)
      go (formed_operator e _) = absurd (n4 e)
      go (formed_exists e p) = clash p refl
      go (formed_for_all e p) = clash p refl

  -- Which nodes it names: lower ones.
  left_named : w.kind ≡ 4 → mem w.b (operands (node_at ns [] i)) ≡ true
  unfolding operands
  left_named k = ap (λ nd. mem w.b (operands nd)) (is_operator k) ∙ mem_head w.b (w.c ∷ [])

  right_named : w.kind ≡ 4 → mem w.c (operands (node_at ns [] i)) ≡ true
  unfolding operands
  right_named k = ap (λ nd. mem w.c (operands nd)) (is_operator k) ∙ mem_tail w.c w.b (w.c ∷ []) (mem_head w.c [])

  only_named : w.kind ≡ 3 → mem w.a (operands (node_at ns [] i)) ≡ true
  unfolding operands
  only_named k = ap (λ nd. mem w.a (operands nd)) (is_negation k) ∙ mem_head w.a []

  lower : (a : ℕ) → mem a (operands (node_at ns [] i)) ≡ true → a < node_count ns
  unfolding table_of
  lower a m = omega (arith, ok.proper.tree.lower i a h m)

  pub left_low : w.kind ≡ 4 → w.b < node_count ns
  left_low k = lower w.b (left_named k)

  pub right_low : w.kind ≡ 4 → w.c < node_count ns
  right_low k = lower w.c (right_named k)

  pub only_low : w.kind ≡ 3 → w.a < node_count ns
  only_low k = lower w.a (only_named k)

  -- Its clauses: none of a variable below the root,
  module _ (variables : ℕ → ℕ) where
    pub no_clauses : w.kind ≡ 2 → suc i < node_count ns → clauses_at (table_of ns []) variables i ≡ []
    unfolding clauses_at has_gate table_of is_gate_node
    no_clauses k l =
        pick_no _ _ _
        (or_neither (is_gate_node (node_at ns [] i)) _ (ap is_gate_node (is_variable_lem k)) (ne_eqb (suc i) (node_count ns) (λ e. omega arith)))

    -- and those of its gate otherwise.
    written_at : has_gate (table_of ns []) i ≡ true → (nd : Node) → node_at ns [] i ≡ nd
        → clauses_at (table_of ns []) variables i ≡ written_clauses (gate_clauses variables (variables i) nd)
    unfolding clauses_at table_of
    written_at g nd e = pick_yes _ _ _ g ∙ ap (λ n. written_clauses (gate_clauses variables (variables i) n)) e

    gate_at : (nd : Node) → node_at ns [] i ≡ nd → is_gate_node nd ≡ true
        → clauses_at (table_of ns []) variables i ≡ written_clauses (gate_clauses variables (variables i) nd)
    unfolding has_gate table_of
    gate_at nd e g = written_at (or_left (is_gate_node (node_at ns [] i)) _ (ap is_gate_node e ∙ g)) nd e

    pub constant_clauses : w.kind ≡ 1 → clauses_at (table_of ns []) variables i ≡ no_operand (variables i) (eqb w.a 1)
    unfolding is_gate_node gate_clauses
    constant_clauses k = gate_at (constant (eqb w.a 1)) (is_constant k) refl ∙ none_written_lem (variables i) (eqb w.a 1)

    pub operator_clauses : w.kind ≡ 4 → clauses_at (table_of ns []) variables i
        ≡ written_clauses (two_operands (variables i) (operator_value w.a) (variables w.b) (variables w.c))
    unfolding is_gate_node gate_clauses
    operator_clauses k = gate_at (operator w.a w.b w.c) (is_operator k) refl

  module _ (words : List ℕ) (held : WordsHeld (table_of ns []) words) where
    -- A node's variable is above those of the nodes that it names.
    above : (a : ℕ) → mem a (operands (node_at ns [] i)) ≡ true → held.variables a < held.variables i
    unfolding table_of
    above a m = held.above i a h m

    pub left_above : w.kind ≡ 4 → held.variables w.b < held.variables i
    left_above k = above w.b (left_named k)

    pub right_above : w.kind ≡ 4 → held.variables w.c < held.variables i
    right_above k = above w.c (right_named k)

    pub negation_clauses : w.kind ≡ 3
        → clauses_at (table_of ns []) held.variables i ≡ one_operand (held.variables i) not (held.variables w.a)
    unfolding is_gate_node gate_clauses
    negation_clauses k =
        let under = above w.a (only_named k) in
        gate_at held.variables (negation w.a) (is_negation k) refl
        ∙ one_written (held.variables i) not (held.variables w.a) (λ e. omega arith)

    -- A variable root has a gate too.
    pub root_clauses : w.kind ≡ 2 → suc i ≡ node_count ns
        → clauses_at (table_of ns []) held.variables i ≡ one_operand (held.variables i) (λ a. a) w.a
    unfolding has_gate table_of gate_clauses
    root_clauses k last =
        let root : node_count ns - 1 ≡ i = omega arith in
        let under : w.a < held.variables i =
        subst (λ j. w.a < held.variables j) root (held.above_root w.a (ap (node_at ns []) root ∙ is_variable_lem k)) in
        written_at held.variables (or_right (is_gate_node (node_at ns [] i)) _ (eq-eqb (suc i) (node_count ns) last)) (variable w.a) (is_variable_lem k)
        ∙ one_written (held.variables i) (λ a. a) w.a (λ e. omega arith)

-- The word of a node.
pub word_at : (ns words : List ℕ) (held : WordsHeld (table_of ns []) words) (j : ℕ) → j < node_count ns → IsWord (get_or words j 0) (held.variables j)
unfolding table_of
word_at ns words held j h = held.words_are j h

pub some_word : (ns words : List ℕ) → WordsHeld (table_of ns []) words → (j : ℕ) → j < node_count ns → SomeWord (get_or words j 0)
some_word ns words held j h = (held.variables j, word_at ns words held j h)

-- No clauses, nothing put.
pub nothing_put : {before : List ℕ} {at : ℕ} (cs : List Clause) → cs ≡ [] → Loose before at (lines_text cs) before at
unfolding lines_text flat_map
nothing_put cs e = loose_as (ap lines_text e) loose_none
