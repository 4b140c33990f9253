-- Names at variable nodes: what is free stands at one, and what stands at one is a number of the table.
-- Assumes nothing.
use mathlib.Core.Path.{◌≡◌, refl, ◌∙◌, ap, subst}
use mathlib.Core.Bool.{Bool, true}
use mathlib.Core.List.{List}
use Prim.Native.Nat.{ℕ, ◌≤◌, ◌<◌}
use native.Mathlib.Omega.{arith}
use borrow.Author.Tests.{eq-eqb, lt-ltb, ltb-true}
use Rattle.lists.specs.Search.{lowest, some_below}
use Rattle.lists.proofs.Search.{lowest_holds, lowest_least}
use Rattle.formula.specs.Node.{Table}
use Rattle.formula.specs.Words.{table_of}
use Rattle.formula.specs.Truth.{free}
use Rattle.formula.specs.Tree.{Tree}
use Rattle.formula.specs.FreeVariables.{stands_at, some_node}
use Rattle.formula.proofs.FreeVariables.{Occurs, free_occurs}
use Rattle.acceptance.specs.Limits.{table_limits}
use Rattle.acceptance.specs.Accepted.{Accepted}
use Rattle.prenex_form.specs.Names.{highest_number}
use Rattle.kept_prefix.proofs.Laws.{stands_variable}
use Rattle.prenex_form.proofs.Limits.{Within, number_from, node_within}
use Rattle.prenex_form.proofs.NameLaws.{variable_le}
use Rattle.kept_prefix.specs.Kept.{stands}

module _ (t : Table) (x : ℕ) where
  abbrev here : ℕ → Bool
  here i = stands_at x (t.node i)

  occurs_stands : Occurs t x → stands t x ≡ true
  unfolding stands some_node some_below stands_at
  occurs_stands o =
      let at : here o.node ≡ true = ap (stands_at x) o.variable_is ∙ eq-eqb x x refl in
      lt-ltb (lowest here t.size) t.size (omega (arith, lowest_least here t.size o.node o.within at, o.within))

  stands_occurs : stands t x ≡ true → Occurs t x
  unfolding stands some_node some_below
  stands_occurs h =
      let l : lowest here t.size < t.size = ltb-true _ _ h in
      record {
        node = lowest here t.size;
        within = l;
        variable_is = stands_variable x (t.node (lowest here t.size)) (lowest_holds here t.size l);
      }

  pub free_stands : Tree t → free t x ≡ true → stands t x ≡ true
  free_stands tree e = occurs_stands (free_occurs t tree x e)

  pub stands_low : stands t x ≡ true → x ≤ highest_number t
  stands_low h = let o = stands_occurs h in variable_le t o.node x o.within o.variable_is

-- It is no 0.
pub stands_from_one : (ws ls : List ℕ) → Accepted ws ls → (x : ℕ) → stands (table_of ws ls) x ≡ true → 1 ≤ x
unfolding table_of
stands_from_one ws ls a x h =
    let o = stands_occurs (table_of ws ls) x h in
    number_from 65535 x (subst (Within 65535) o.variable_is (node_within table_limits ws ls a o.node o.within))
