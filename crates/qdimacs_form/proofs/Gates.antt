-- The gates of the problem of a form: their variables follow one another in node order, above every name at a variable node and in a
-- prefix block.
-- Assumes nothing.
use mathlib.Core.Path.{◌≡◌, refl, sym, ◌∙◌, ap}
use mathlib.Core.Bool.{true, false}
use mathlib.Core.List.{List, []}
use Prim.Native.Nat.{ℕ, zero, suc, ◌+◌, ◌-◌, ◌≤◌, ◌<◌}
use native.Mathlib.Omega.{arith}
use lib.Dec.{eqb, ltb}
use borrow.Author.Tests.{eq-eqb, ltb-true, ltb-false}
use Rattle.lists.specs.Choice.{pick_yes, pick_no, Is, is_true, is_false, look, clash, absent, or_right, or_neither_left}
use Rattle.lists.specs.Members.{mem}
use Rattle.lists.specs.Parts.{sum, numbers}
use Rattle.lists.proofs.Members.{maximum_ge}
use Rattle.lists.proofs.Parts.{mem_numbers, numbers_from, sum_grows, highest_ge}
use Rattle.lists.proofs.Passing.{passing_from}
use Rattle.formula.specs.Node.{Node, constant, variable, negation, operator, block, Table, is_block}
use Rattle.formula.specs.Words.{table_of}
use Rattle.formula.specs.Truth.{digit, free}
use Rattle.formula.specs.Form.{Block, blocks_of, form_free}
use Rattle.formula.specs.FreeVariables.{number_at, highest_variable, free_variables, form_free_variables}
use Rattle.form_check.specs.Accepted.{prefix_names}
use Rattle.qdimacs_form.specs.Clauses.{is_gate_node, has_gate, gates_below, first_gate, gate_variable, variable_of}

-- A node that is neither a block nor one with a gate of its own is a variable.
plain_variable : (nd : Node) → is_block nd ≡ false → is_gate_node nd ≡ false → nd ≡ variable (number_at nd)
unfolding is_block is_gate_node number_at
plain_variable (constant b) p g = clash refl g
plain_variable (variable x) p g = refl
plain_variable (negation a) p g = clash refl g
plain_variable (operator f a b) p g = clash refl g
plain_variable (block q xs a) p g = clash refl p

-- The variables of gates.
module _ (t : Table) where
  -- The root has a gate.
  pub root_gate : 0 < t.size → has_gate t (t.size - 1) ≡ true
  unfolding has_gate
  root_gate h =
      or_right (is_gate_node (t.node (t.size - 1))) (eqb (suc (t.size - 1)) t.size) (eq-eqb (suc (t.size - 1)) t.size (omega arith))

  -- A node without a gate is a variable node,
  pub no_gate : (i : ℕ) → is_block (t.node i) ≡ false → has_gate t i ≡ false → t.node i ≡ variable (number_at (t.node i))
  unfolding has_gate
  no_gate i p g = plain_variable (t.node i) p (or_neither_left (is_gate_node (t.node i)) (eqb (suc i) t.size) g)

  module _ (first : ℕ) where
    -- and its number stands for it; of another node its gate variable does.
    pub variable_gate : (i : ℕ) → has_gate t i ≡ true → variable_of t first i ≡ gate_variable t first i
    unfolding variable_of
    variable_gate i g = pick_yes _ _ _ g

    pub variable_name : (i : ℕ) → has_gate t i ≡ false → variable_of t first i ≡ number_at (t.node i)
    unfolding variable_of
    variable_name i g = pick_no _ _ _ g

    pub gate_first : (i : ℕ) → first ≤ gate_variable t first i
    unfolding gate_variable
    gate_first i = omega arith

    pub gate_grows : (i j : ℕ) → i ≤ j → gate_variable t first i ≤ gate_variable t first j
    unfolding gate_variable gates_below
    gate_grows i j h = omega (arith, sum_grows (λ k. digit (has_gate t k)) i j h)

    pub gate_next : (i : ℕ) → has_gate t i ≡ true → gate_variable t first (suc i) ≡ suc (gate_variable t first i)
    unfolding gate_variable gates_below sum digit
    gate_next i g = let one : digit (has_gate t i) ≡ 1 = ap digit g in omega arith

    pub gate_rises : (i j : ℕ) → i < j → has_gate t i ≡ true → gate_variable t first i < gate_variable t first j
    gate_rises i j h g = omega (arith, gate_next i g, gate_grows (suc i) j h)

    -- Two gates with one variable are one.
    pub gate_apart : (i j : ℕ) → has_gate t i ≡ true → has_gate t j ≡ true → gate_variable t first i ≡ gate_variable t first j → i ≡ j
    gate_apart i j g k e = go (look (ltb i j)) (look (ltb j i))
      where
        go : Is (ltb i j) → Is (ltb j i) → i ≡ j
        go (is_true l) _ = absurd (omega (arith, gate_rises i j (ltb-true i j l) g))
        go (is_false _) (is_true l) = absurd (omega (arith, gate_rises j i (ltb-true j i l) k))
        go (is_false l) (is_false m) = omega (arith, ltb-false i j l, ltb-false j i m)

    pub gate_last : (i : ℕ) → i < t.size → has_gate t i ≡ true → gate_variable t first i < first + gates_below t t.size
    unfolding gate_variable
    gate_last i h g = omega (arith, gate_rises i t.size h g)

    -- The root's is the last.
    pub gate_root : 0 < t.size → suc (gate_variable t first (t.size - 1)) ≡ first + gates_below t t.size
    unfolding gate_variable
    gate_root h =
        let e : suc (t.size - 1) ≡ t.size = omega arith in
        let up : gate_variable t first (suc (t.size - 1)) ≡ suc (gate_variable t first (t.size - 1)) = gate_next (t.size - 1) (root_gate h) in
        sym up ∙ ap (gate_variable t first) e

    -- The variables of gates are these numbers,
    pub gate_number_lem : (i : ℕ) → i < t.size → has_gate t i ≡ true
        → mem (gate_variable t first i) (numbers first (gates_below t t.size)) ≡ true
    gate_number_lem i h g = mem_numbers first (gates_below t t.size) (gate_variable t first i) (gate_first i) (gate_last i h g)

    -- each of them is one,
    pub number_gate_below : (n x : ℕ) → first ≤ x → x < gate_variable t first n
        → (i : ℕ) × (i < n) × (has_gate t i ≡ true) × (gate_variable t first i ≡ x)
    unfolding gate_variable gates_below sum digit
    number_gate_below zero x l h = absurd (omega arith)
    number_gate_below (suc n) x l h = go (look (ltb x (gate_variable t first n))) (look (has_gate t n)) (number_gate_below n x l)
      where
        go : Is (ltb x (gate_variable t first n)) → Is (has_gate t n)
            → (x < gate_variable t first n → (i : ℕ) × (i < n) × (has_gate t i ≡ true) × (gate_variable t first i ≡ x))
            → (i : ℕ) × (i < suc n) × (has_gate t i ≡ true) × (gate_variable t first i ≡ x)
        go (is_true b) _ next = let r = next (ltb-true x (gate_variable t first n) b) in (r.0, omega (arith, r.1), r.2, r.3)
        go (is_false b) (is_true g) next =
            let e : digit (has_gate t n) ≡ 1 = ap digit g in
            (n, omega arith, g, omega (arith, ltb-false x (gate_variable t first n) b))
        go (is_false b) (is_false g) next =
            let e : digit (has_gate t n) ≡ 0 = ap digit g in
            absurd (omega (arith, ltb-false x (gate_variable t first n) b))

    -- and no number below the first is.
    pub below_gates : (x : ℕ) → x < first → mem x (numbers first (gates_below t t.size)) ≡ false
    below_gates x h =
        absent (mem x (numbers first (gates_below t t.size))) (λ m. omega (arith, numbers_from first (gates_below t t.size) x m))

  -- Names are below the first gate.
  module _ (bs : List Block) where
    pub variable_below : (x : ℕ) → x ≤ highest_variable t → x < first_gate t bs
    unfolding first_gate
    variable_below x h = omega arith

    pub name_below : (i x : ℕ) → i < t.size → t.node i ≡ variable x → x < first_gate t bs
    unfolding highest_variable number_at
    name_below i x h e =
        let n : number_at (t.node i) ≡ x = ap number_at e in
        variable_below x (omega (arith, highest_ge (λ j. number_at (t.node j)) t.size i h))

    pub free_below : (x : ℕ) → mem x (free_variables t) ≡ true → x < first_gate t bs
    unfolding free_variables
    free_below x m = variable_below x (omega (arith, (passing_from (free t) (suc (highest_variable t)) x m).0))

    pub prefix_below : (x : ℕ) → mem x (prefix_names bs) ≡ true → x < first_gate t bs
    unfolding first_gate
    prefix_below x m = omega (arith, maximum_ge (prefix_names bs) x m)

pub open_below : (ns ps xs : List ℕ) (x : ℕ) → mem x (form_free_variables ns ps xs) ≡ true → x < first_gate (table_of ns []) (blocks_of ps xs)
unfolding form_free_variables
open_below ns ps xs x m =
    variable_below (table_of ns []) (blocks_of ps xs) x
    (omega (arith, (passing_from (form_free ns ps xs) (suc (highest_variable (table_of ns []))) x m).0))
