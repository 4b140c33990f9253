-- Laws of nodes, of names and of what blocks bind.
-- Assumes nothing.
use mathlib.Core.Path.{◌≡◌, refl, sym, ap}
use mathlib.Core.Bool.{true, ◌||◌}
use mathlib.Core.List.{List, [], ◌∷◌, ◌++◌}
use Prim.Native.Nat.{ℕ, ◌≤◌}
use native.Mathlib.Omega.{arith}
use borrow.Author.Tests.{eqb-true, leb-true}
use lib.Dec.{leb}
use Rattle.lists.specs.Choice.{clash, and_right}
use Rattle.lists.specs.Members.{mem}
use Rattle.lists.proofs.Members.{or_group}
use Rattle.formula.specs.Node.{Node, constant, variable, negation, operator, block}
use Rattle.formula.specs.Form.{Block, binds}
use Rattle.formula.specs.FreeVariables.{stands_at}
use Rattle.acceptance.specs.Verdict.{is_number_to}
use Rattle.prenex_form.proofs.Limits.{number_from, is_number_lem}

-- A node at which a number stands is its variable.
pub stands_variable : (x : ℕ) (nd : Node) → stands_at x nd ≡ true → nd ≡ variable x
unfolding stands_at
stands_variable x (constant b) h = clash h refl
stands_variable x (variable y) h = ap variable (sym (eqb-true x y h))
stands_variable x (negation a) h = clash h refl
stands_variable x (operator f a b) h = clash h refl
stands_variable x (block q xs a) h = clash h refl

-- What blocks in two parts bind.
pub binds_append : (bs cs : List Block) (x : ℕ) → binds (bs ++ cs) x ≡ (binds bs x || binds cs x)
unfolding binds
binds_append [] cs x = refl
binds_append (b ∷ bs) cs x = or_group (mem x b.variables) (binds (bs ++ cs) x) (binds bs x) (binds cs x) (binds_append bs cs x)

-- A number up to a limit is one up to a higher limit.
pub number_mono : (m k x : ℕ) → m ≤ k → is_number_to m x ≡ true → is_number_to k x ≡ true
unfolding is_number_to
number_mono m k x l h = is_number_lem k x (number_from m x h) (omega (arith, leb-true x m (and_right (leb 1 x) (leb x m) h)))
