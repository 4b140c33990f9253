-- The free variables of a table by their binders (document 01, "Names"; request S-4).
-- Assumes nothing.
use Rattle.std.specs.Prelude.{Bool, ◌&&◌, ◌≡◌, ℕ, suc, eqb}
use Rattle.lists.specs.Search.{some_below}
use Rattle.lists.specs.Parts.{passing}
use Rattle.formula.specs.Node.{Table}
use Rattle.formula.specs.Tree.{Tree}
use Rattle.formula.specs.FreeVariables.{stands_at, highest_variable, free_variables}
use Rattle.prenex_form.specs.Scope.{binder}

-- x stands at node i, a variable node whose binder is none.
abbrev pub unbound_at : Table → ℕ → ℕ → Bool
unbound_at t x i = stands_at x (t.node i) && eqb (binder t i x) t.size

-- "a number with a variable node that no block above it covers"
unfoldable pub stands_unbound : Table → ℕ → Bool
stands_unbound t x = some_below (unbound_at t x) t.size

-- The free variables of a table, free in the sense of truth, are the list of these numbers: the theorem `free_by_binder`
-- (proofs/FreeNames.antt).
abbrev pub FreeByBinder : Type 0
FreeByBinder = (t : Table) → Tree t → free_variables t ≡ passing (stands_unbound t) (suc (highest_variable t))
