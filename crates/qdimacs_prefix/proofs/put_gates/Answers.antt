-- `qdimacs_prefix::put_gates` meets its contract.
-- Assumes nothing.
use mathlib.Core.Path.{◌≡◌}
use Prim.Native.Nat.{◌-◌}
use native.Mathlib.Omega.{arith}
use lib.ListN.{length}
use Rattle.lists.specs.Parts.{numbers}
use Rattle.lists.proofs.Parts.{length_numbers}
use Rattle.qdimacs_prefix.proofs.Steps.{block_none, block_put}
use Rattle.qdimacs_prefix.proofs.put_gates.Goals as goal

pub returns-then-first-end : goal.returns-then-first-end
returns-then-first-end c =
    let g = c.args.gates in
    let n = length_numbers g.first (g.end - g.first) in
    let none : length (numbers g.first (g.end - g.first)) ≡ 0 = omega arith in record {
      goes = search block_none;
      at_bound = omega arith;
    }

pub returns : goal.returns
returns c =
    let g = c.args.gates in
    let n = length_numbers g.first (g.end - g.first) in
    let some : length (numbers g.first (g.end - g.first)) ≡ 0 → ⊥ =
    λ z. c.if-first-end.false (omega (arith, n, c.requires.0)) in record {
      goes = search block_put;
      at_bound = omega arith;
    }
