-- The numbers of the file of a form: those of gates ascend from the first, which is above every name of the free and prefix lines, and
-- so above every name that is written.
-- Assumes nothing.
use mathlib.Core.Path.{◌≡◌, refl, sym, ◌∙◌, ap}
use mathlib.Core.Bool.{Bool, true, not, ◌&&◌}
use mathlib.Core.List.{List, [], ◌∷◌, ◌++◌, map, flat_map}
use Prim.Native.Nat.{ℕ, suc, ◌≤◌, ◌<◌}
use native.Mathlib.Omega.{arith}
use borrow.Author.Tests.{eqb-true, eq-eqb, ltb-true, lt-ltb}
use Rattle.lists.specs.Choice.{Is, is_true, is_false, look, clash, and_left, and_right, and_both}
use Rattle.lists.specs.Search.{lowest, some_below}
use Rattle.lists.specs.Members.{mem, ListOf}
use Rattle.lists.specs.Parts.{sum}
use Rattle.lists.proofs.Search.{lowest_holds, lowest_least}
use Rattle.lists.proofs.Members.{mem_left, mem_right, maximum_ge}
use Rattle.lists.proofs.Parts.{sum_grows, highest_ge}
use Rattle.lists.proofs.Passing.{passing_lists}
use Rattle.formula.specs.Node.{Quantifier, Node, constant, variable, negation, operator, block, Table}
use Rattle.formula.specs.Truth.{digit}
use Rattle.formula.specs.Form.{Block, binds}
use Rattle.formula.specs.FreeVariables.{stands_at, number_at, highest_variable}
use Rattle.form_check.specs.Accepted.{prefix_names}
use Rattle.qcir.specs.File.{Line, line_variables, prefix_variables, numbers_of}
use Rattle.qcir.proofs.GateLines.{numbers_append}
use Rattle.form_check.proofs.Flags.{binds_names}
use Rattle.qcir_form.specs.File.{written, named, is_gate, gate_number, occurs, free_names, list_lines, prefix_lines, first_gate}

-- The numbers of gates.

module _ (t : Table) (first : ℕ) where
  pub gate_first : (i : ℕ) → first ≤ gate_number t first i
  unfolding gate_number
  gate_first i = omega arith

  pub gate_grows : (i j : ℕ) → i ≤ j → gate_number t first i ≤ gate_number t first j
  unfolding gate_number
  gate_grows i j h = omega (arith, sum_grows (λ k. digit (is_gate t k)) i j h)

  pub gate_rises : (i j : ℕ) → i < j → is_gate t i ≡ true → gate_number t first i < gate_number t first j
  unfolding gate_number sum digit
  gate_rises i j h e =
      let one : digit (is_gate t i) ≡ 1 = ap digit e in
      omega (arith, sum_grows (λ k. digit (is_gate t k)) (suc i) j h)

-- The names of the prefix lines are those of the blocks.

pub numbers_named : (xs : List ℕ) → numbers_of (map named xs) ≡ xs
unfolding numbers_of map
numbers_named [] = refl
numbers_named (x ∷ xs) = ap (λ l. x ∷ l) (numbers_named xs)

line_numbers : (q : Quantifier) (xs : List ℕ) (ls : List Line)
    → numbers_of (prefix_variables (list_lines q xs ++ ls)) ≡ xs ++ numbers_of (prefix_variables ls)
unfolding list_lines prefix_variables line_variables
line_numbers q [] ls = refl
line_numbers q (x ∷ xs) ls =
    numbers_append (map named (x ∷ xs)) (prefix_variables ls) ∙ ap (λ l. l ++ numbers_of (prefix_variables ls)) (numbers_named (x ∷ xs))

pub prefix_numbers : (bs : List Block) → numbers_of (prefix_variables (prefix_lines bs)) ≡ prefix_names bs
unfolding prefix_lines prefix_names flat_map prefix_variables numbers_of map
prefix_numbers [] = refl
prefix_numbers (b ∷ bs) =
    line_numbers b.quantifier b.variables (prefix_lines bs) ∙ ap (λ l. b.variables ++ l) (prefix_numbers bs)

pub known_below : (names : List ℕ) (lines : List Line) (x : ℕ) → mem x (names ++ numbers_of (prefix_variables lines)) ≡ true
    → x < first_gate names lines
unfolding first_gate
known_below names lines x m = omega (arith, maximum_ge (names ++ numbers_of (prefix_variables lines)) x m)

-- A name occurs if it stands at a variable node that is written.

stands_variable : (x : ℕ) (nd : Node) → stands_at x nd ≡ true → nd ≡ variable x
unfolding stands_at
stands_variable x (constant c) e = clash e refl
stands_variable x (variable y) e = ap variable (sym (eqb-true x y e))
stands_variable x (negation a) e = clash e refl
stands_variable x (operator f a b) e = clash e refl
stands_variable x (block q xs a) e = clash e refl

module _ (t : Table) where
  pub occurs_in : (x i : ℕ) → i < t.size → written t i ≡ true → t.node i ≡ variable x → occurs t x ≡ true
  unfolding occurs some_below stands_at
  occurs_in x i h w e =
      let s : stands_at x (t.node i) ≡ true = ap (stands_at x) e ∙ eq-eqb x x refl in
      let test : ℕ → Bool = λ j. written t j && stands_at x (t.node j) in
      lt-ltb (lowest test t.size) t.size
      (omega (arith, lowest_least test t.size i h (and_both (written t i) (stands_at x (t.node i)) w s)))

  pub occurs_from : (x : ℕ) → occurs t x ≡ true → (i : ℕ) × (i < t.size) × (written t i ≡ true) × (t.node i ≡ variable x)
  unfolding occurs some_below
  occurs_from x e =
      let test : ℕ → Bool = λ j. written t j && stands_at x (t.node j) in
      let i : ℕ = lowest test t.size in
      let h : i < t.size = ltb-true (lowest test t.size) t.size e in
      let p : test i ≡ true = lowest_holds test t.size h in
      (i, h, and_left (written t i) (stands_at x (t.node i)) p, stands_variable x (t.node i) (and_right (written t i) (stands_at x (t.node i)) p))

  occurs_below : (x : ℕ) → occurs t x ≡ true → x < suc (highest_variable t)
  unfolding highest_variable number_at
  occurs_below x e =
      let o = occurs_from x e in
      let n : number_at (t.node o.0) ≡ x = ap number_at o.3 in
      omega (arith, highest_ge (λ i. number_at (t.node i)) t.size o.0 o.1)

  -- The open names are the names that occur and that no block binds, ascending.
  pub open_lists : (bs : List Block) → ListOf (λ x. occurs t x && not (binds bs x)) (free_names t bs)
  unfolding free_names
  open_lists bs =
      passing_lists (λ x. occurs t x && not (binds bs x)) (suc (highest_variable t))
      (λ x e. occurs_below x (and_left (occurs t x) (not (binds bs x)) e))

  pub occurs_known : (bs : List Block) (x : ℕ) → occurs t x ≡ true
      → mem x (free_names t bs ++ numbers_of (prefix_variables (prefix_lines bs))) ≡ true
  occurs_known bs x o = rw (prefix_numbers bs) (go (look (binds bs x)))
    where
      go : Is (binds bs x) → mem x (free_names t bs ++ prefix_names bs) ≡ true
      go (is_true b) = mem_right x (free_names t bs) (prefix_names bs) (binds_names bs x ∙ b)
      go (is_false b) =
          mem_left x (free_names t bs) (prefix_names bs)
          ((open_lists bs).members x ∙ and_both (occurs t x) (not (binds bs x)) o (ap not b))

  pub written_known : (bs : List Block) (i x : ℕ) → i < t.size → written t i ≡ true → t.node i ≡ variable x
      → mem x (free_names t bs ++ numbers_of (prefix_variables (prefix_lines bs))) ≡ true
  written_known bs i x h w e = occurs_known bs x (occurs_in x i h w e)

  -- A name that is written is below the first gate.
  pub names_below : (bs : List Block) (i x : ℕ) → i < t.size → written t i ≡ true → t.node i ≡ variable x
      → x < first_gate (free_names t bs) (prefix_lines bs)
  names_below bs i x h w e = known_below (free_names t bs) (prefix_lines bs) x (written_known bs i x h w e)
