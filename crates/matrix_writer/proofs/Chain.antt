-- A level has blocks.
-- Assumes nothing.
use mathlib.Core.Path.{◌≡◌, refl}
use mathlib.Core.List.{[]}
use Prim.Native.Nat.{ℕ, ◌≤◌, ◌<◌}
use Rattle.lists.specs.Choice.{clash}
use Rattle.lists.specs.Members.{mem}
use Rattle.formula.specs.Node.{Table}
use Rattle.formula.specs.Tree.{Tree}
use Rattle.prenex_form.specs.Levels.{blocks_at, levels}
use Rattle.prenex_form.proofs.Paths.{level_nonempty}

pub level_has_blocks : (t : Table) (l : ℕ) → Tree t → 0 < l → l ≤ levels t → [] ≡ blocks_at t l → ⊥
unfolding mem
level_has_blocks t l tree h k e =
    let r = level_nonempty t tree l h k in clash (rw (← e) at r.1) refl
