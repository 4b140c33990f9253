-- The box of a table whose root is a block (request S-10): what values of the first block of its prenex form say of the root's variables.
-- No operation cites this yet.
-- Assumes nothing.
use Rattle.std.specs.Prelude.{Bool, true, false, ◌≡◌, ℕ, ◌-◌, ◌<◌, length, get_or, drop}
use mathlib.Core.List.{List, ◌++◌, flat_map}
use Rattle.lists.specs.Choice.{pick}
use Rattle.lists.specs.Members.{mem, place}
use Rattle.formula.specs.Node.{Quantifier, exists, for_all, block, Table}
use Rattle.formula.specs.Words.{table_of}
use Rattle.formula.specs.Valuation.{Valuation}
use Rattle.formula.specs.Truth.{value}
use Rattle.formula.specs.Meaning.{DiffersAtMostAt}
use Rattle.formula.specs.Form.{block_at, blocks_of, quantify, matrix_truth}
use Rattle.refusals.specs.Verdict.{accepted}
use Rattle.acceptance.specs.Verdict.{verdict}
use Rattle.prenex_form.specs.Names.{new_names, copies}
use Rattle.prenex_form.specs.Levels.{blocks_at}
use Rattle.prenex_form.specs.Matrix.{written_nodes}
use Rattle.prenex_form.specs.Prefix.{written_prefix, written_variables}

-- "if exists, values that make the rest true; if for-all, values that make the rest false"
unfoldable pub sought : Quantifier → Bool
sought exists = true
sought for_all = false

-- The truth value of the rest of a form: what stands behind its first block.
unfoldable pub rest_truth : List ℕ → List ℕ → List ℕ → Valuation → Bool
rest_truth ns ps ys u = quantify (drop 1 (blocks_of ps ys)) (matrix_truth ns) u

-- "the order false before true, leftmost name deciding": read along the names ys, the values of u come before those of w.
pub record Before (ys : List ℕ) (u w : Valuation) : Type 0 where
  pub at : ℕ
  pub within : at < length ys
  pub same_left : (j : ℕ) → j < at → u (get_or ys j 0) ≡ w (get_or ys j 0)
  pub first_false : u (get_or ys at 0) ≡ false
  pub second_true : w (get_or ys at 0) ≡ true

-- No values of ys that give f the value sought, all other numbers having v's, come before those of u.
abbrev pub NoneBefore : Quantifier → List ℕ → (Valuation → Bool) → Valuation → Valuation → Type 0
NoneBefore q ys f v u = (w : Valuation) → DiffersAtMostAt ys v w → f w ≡ sought q → Before ys w u → ⊥

-- v with the numbers xs given the values that u gives the names ys, position by position.
unfoldable pub given : List ℕ → List ℕ → Valuation → Valuation → Valuation
given xs ys u v x = pick (mem x xs) (u (get_or ys (place x xs) 0)) (v x)

-- The new names of the root's variables, and the copies that follow them in the first block, those of level 1.
abbrev pub root_names : Table → List ℕ
root_names t = new_names t (t.size - 1)

abbrev pub first_copies : Table → List ℕ
first_copies t = flat_map (copies t) (blocks_at t 1)

-- The root of t is a block of the quantifier q over xs with the body a, and ns, ps and ys are a form of t.
pub record RootBox (t : Table) (q : Quantifier) (xs : List ℕ) (a : ℕ) (ns ps ys : List ℕ) : Type 0 where
  -- The first block is the root's quantifier over these names and copies.
  pub first_block : block_at ps ys 0 ≡ record { quantifier = q; variables = root_names t ++ first_copies t }
  -- "What is shown is proved to do so": values of the first block that give the rest the value sought give it to the root's body, the
  -- root's variables having the values of their names.
  pub shown : (v u : Valuation) → DiffersAtMostAt (root_names t ++ first_copies t) v u → rest_truth ns ps ys u ≡ sought q
      → value t.size t a (given xs (root_names t) u v) ≡ sought q
  -- Values of the root's variables that give it to the body are those of their names in some values of the first block that give it
  -- to the rest.
  pub extended : (v w : Valuation) → DiffersAtMostAt xs v w → value t.size t a w ≡ sought q
      → (u : Valuation) × DiffersAtMostAt (root_names t ++ first_copies t) v u
      × ((k : ℕ) → k < length xs → u (get_or (root_names t) k 0) ≡ w (get_or xs k 0)) × (rest_truth ns ps ys u ≡ sought q)
  -- "Of several, the first": with none before them, the values of the first block give the root's variables values with none before.
  pub first_shown : (v u : Valuation)
      → NoneBefore q (root_names t ++ first_copies t) (rest_truth ns ps ys) v u
      → NoneBefore q xs (value t.size t a) v (given xs (root_names t) u v)

-- The theorem `root_box` (proofs/RootBox.antt).
abbrev pub RootBoxes : Type 0
RootBoxes =
    (ws ls : List ℕ) → verdict ws ls ≡ accepted
    → (q : Quantifier) (xs : List ℕ) (a : ℕ) → (table_of ws ls).node ((table_of ws ls).size - 1) ≡ block q xs a
    → RootBox (table_of ws ls) q xs a (written_nodes (table_of ws ls)) (written_prefix (table_of ws ls)) (written_variables (table_of ws ls))
