-- `chains::put_first` meets its contract.
-- Assumes nothing.
use mathlib.Core.Path.{refl, ap}
use Prim.Native.Nat.{ℕ}
use native.Mathlib.Omega.{arith}
use lib.ListN.{set}
use Rattle.chains.proofs.put_first.Goals as goal

pub returns : goal.returns
returns c =
    record {
      firsts_after = ap (λ (v : ℕ). set c.args.firsts.now c.args.key v) (omega arith);
      nexts_after = refl;
    }
