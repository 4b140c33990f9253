-- Which nodes of a matrix are written, and which names without a flag occur at them, as a pass from the root down finds it.
-- Assumes nothing.
use Rattle.std.specs.Prelude.{Bool, not, ◌&&◌, ◌||◌, true, List, ◌≡◌, ℕ, suc, max, eqb, leb, get_or}
use Rattle.lists.specs.Choice.{pick}
use Rattle.lists.specs.Search.{some_below}
use Rattle.lists.specs.Members.{mem}
use Rattle.formula.specs.Node.{Node, Table}
use Rattle.formula.specs.Truth.{digit}
use Rattle.formula.specs.FreeVariables.{stands_at, number_at}
use Rattle.name_flags.specs.Flags.{flag_with, Highest}
use Rattle.qcir_form.specs.File.{used_operands, written, occurs}

-- Some number from k up and below n passes the test.
unfoldable pub some_from : (ℕ → Bool) → ℕ → ℕ → Bool
some_from p k n = some_below (λ j. leb k j && p j) n

-- Node i is the root, or a written node from k up uses it.
unfoldable pub reached : Table → ℕ → ℕ → Bool
reached t k i = eqb (suc i) t.size || some_from (λ j. written t j && mem i (used_operands (t.node j))) k t.size

-- Only the root is.
unfoldable pub root_mark : Table → ℕ → ℕ
root_mark t i = digit (eqb (suc i) t.size)

-- The name stands at a written node from k up.
unfoldable pub occurs_from : Table → ℕ → ℕ → Bool
occurs_from t k x = some_from (λ i. written t i && stands_at x (t.node i)) k t.size

-- What the pass has found once the nodes from k up are done, the names' flags having been these before it.
pub record MarkedFrom (t : Table) (before : List ℕ) (k : ℕ) (marks names : List ℕ) (highest : ℕ) : Type 0 where
  pub marked : (i : ℕ) → get_or marks i 0 ≡ digit (reached t k i)
  pub flagged : (x : ℕ) → get_or names x 0 ≡ flag_with (get_or before x 0) (occurs_from t k x)
  pub highest_is : Highest (λ x. eqb (get_or before x 0) 0 && occurs_from t k x) highest

-- The same of the whole matrix.
pub record Marked (t : Table) (before marks names : List ℕ) (highest : ℕ) : Type 0 where
  pub marked : (i : ℕ) → get_or marks i 0 ≡ digit (written t i)
  pub flagged : (x : ℕ) → get_or names x 0 ≡ flag_with (get_or before x 0) (occurs t x)
  pub highest_is : Highest (λ x. eqb (get_or before x 0) 0 && occurs t x) highest

-- What one node does, if it is written: the operands that it uses are marked,
unfoldable pub marks_after : Bool → Node → List ℕ → ℕ → ℕ
marks_after live nd marks i = pick (live && mem i (used_operands nd)) 1 (get_or marks i 0)

-- its name gets a flag if it has none, and is then among those of which the highest is kept.
unfoldable pub flags_after : Bool → Node → List ℕ → ℕ → ℕ
flags_after live nd names x = pick (live && stands_at x nd) (flag_with (get_or names x 0) true) (get_or names x 0)

unfoldable pub highest_after : Bool → Node → List ℕ → ℕ → ℕ
highest_after live nd names h = pick (live && eqb (get_or names (number_at nd) 0) 0) (max h (number_at nd)) h

pub record NodeMarked (live : Bool) (nd : Node) (marks names : List ℕ) (h : ℕ) (marks' names' : List ℕ) (h' : ℕ) : Type 0 where
  pub marks_are : (i : ℕ) → get_or marks' i 0 ≡ marks_after live nd marks i
  pub flags_are : (x : ℕ) → get_or names' x 0 ≡ flags_after live nd names x
  pub highest_is : h' ≡ highest_after live nd names h

-- The node is marked.
unfoldable pub is_marked : List ℕ → ℕ → Bool
is_marked marks i = not (eqb (get_or marks i 0) 0)
