-- What one line more makes of totals, and how large they are.
-- Assumes nothing.
use mathlib.Core.Path.{◌≡◌, refl}
use Prim.Native.Nat.{ℕ, ◌+◌, ◌≤◌}
use native.Mathlib.Numerals.{add-one}
use native.Mathlib.Omega.{arith}
use Rattle.lists.specs.Parts.{sum}
use Rattle.growth.specs.declared.Line.{Line}
use Rattle.growth.specs.declared.Totals.{Totals}
use Rattle.growth.specs.Growth.{no_growth}
use Rattle.growth.specs.Totals.{totals, no_totals}
use Rattle.growth.specs.Steps.{with_line}
use Rattle.growth.specs.Bounds.{Within}
use Rattle.growth.proofs.MostGrown.{most_start, most_next}

sum_next : (f : ℕ → ℕ) (i : ℕ) → sum f (i + 1) ≡ sum f i + f i
unfolding sum
sum_next f i = rw add-one refl

-- the default totals
pub none_by_default : (t : Totals)
    → (t.read ≡ 0) × ((t.refused ≡ 0) × ((t.n ≡ 0) × ((t.b ≡ 0) × ((t.q ≡ 0) × ((t.depth ≡ 0) × ((t.nodes ≡ 0) × ((t.variables ≡ 0)
    × ((t.most.written ≡ 0) × (t.most.input ≡ 0))))))))) → t ≡ no_totals
unfolding no_totals no_growth
none_by_default t (read, (refused, (n, (b, (q, (depth, (nodes, (variables, (written, input))))))))) =
    λ k. record {
      read = read k;
      refused = refused k;
      n = n k;
      b = b k;
      q = q k;
      depth = depth k;
      nodes = nodes k;
      variables = variables k;
      most = record { written = written k; input = input k };
    }

pub totals_start : (ls : ℕ → Line) → totals ls 0 ≡ no_totals
unfolding totals no_totals sum
totals_start ls = rw most_start

pub totals_next : (ls : ℕ → Line) (i : ℕ) → totals ls (i + 1) ≡ with_line (totals ls i) (ls i)
unfolding totals with_line
totals_next ls i = simp (sum_next, most_next)

pub within_start : (bound : ℕ) → Within bound no_totals
unfolding no_totals no_growth
within_start bound =
    record {
      read = omega arith;
      refused = omega arith;
      n = omega arith;
      b = omega arith;
      q = omega arith;
      depth = omega arith;
      nodes = omega arith;
      variables = omega arith;
      most = record { written = omega arith; input = omega arith };
    }

pub within_more : {a b : ℕ} {t : Totals} → a ≤ b → Within a t → Within b t
within_more h w =
    record {
      read = omega arith;
      refused = omega arith;
      n = omega arith;
      b = omega arith;
      q = omega arith;
      depth = omega arith;
      nodes = omega arith;
      variables = omega arith;
      most = w.most;
    }
