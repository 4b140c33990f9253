-- How large figures and sums are, so that no sum and no product wraps.
-- Assumes nothing.
use Rattle.std.specs.Prelude.{ℕ, ◌≤◌}
use Rattle.growth.specs.declared.Growth.{Growth}
use Rattle.growth.specs.declared.Totals.{Totals}

-- A growth of 32-bit figures.
pub record Narrow (g : Growth) : Type 0 where
  pub written : g.written ≤ 4294967295
  pub input : g.input ≤ 4294967295

-- Sums up to a bound.
pub record Within (bound : ℕ) (t : Totals) : Type 0 where
  pub read : t.read ≤ bound
  pub refused : t.refused ≤ bound
  pub n : t.n ≤ bound
  pub b : t.b ≤ bound
  pub q : t.q ≤ bound
  pub depth : t.depth ≤ bound
  pub nodes : t.nodes ≤ bound
  pub variables : t.variables ≤ bound
  pub most : Narrow t.most

-- The sums of 256 lines of 32-bit figures.
abbrev pub sum_bound : ℕ
sum_bound = 1099511627776
