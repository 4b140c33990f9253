-- Outside all blocks no entry is in scope: empty chains hold what there is.
-- Assumes nothing.
use mathlib.Core.Path.{◌≡◌, sym, ◌∙◌}
use mathlib.Core.Bool.{false}
use Prim.Native.Nat.{ℕ, suc, ◌<◌}
use lib.ListN.{replicate, length-replicate, get_or-replicate}
use Rattle.lists.specs.Choice.{clash}
use Rattle.formula.specs.Node.{Table}
use Rattle.formula.specs.Tree.{Tree}
use Rattle.acceptance.specs.Limits.{limit}
use Rattle.prenex_form.specs.Names.{highest_number, bound_count}
use Rattle.arrays.proofs.Link.{link_stops}
use Rattle.binders.specs.Scope.{in_chain, Open}
use Rattle.binders.proofs.Scope.{scope_outside}

module _ (t : Table) (tree : Tree t) where
  none_chained : (h e : ℕ) → e < bound_count t → in_chain t t.size h e ≡ false
  none_chained h e l = rw (scope_outside t tree e l)

  -- so new arrays with a head for each number hold the chains
  pub open_outside : (n : ℕ) → highest_number t < n → Open t t.size 0 (replicate n 0) (replicate (suc limit) 0)
  open_outside n wide =
      record {
        heads_wide = rw (length-replicate {A = ℕ} n 0) wide;
        nexts_length = length-replicate {A = ℕ} (suc limit) 0;
        head_is = λ x l.
            get_or-replicate {A = ℕ} n x 0 0 (rw (length-replicate {A = ℕ} n 0) at l)
            ∙ sym (link_stops (in_chain t t.size x) 0 (bound_count t) (λ e a b. none_chained x e b));
        next_is = λ e a b s. clash s (scope_outside t tree e b);
      }
