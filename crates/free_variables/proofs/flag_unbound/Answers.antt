-- `free_variables::flag_unbound` meets its contract. The invariant: the nodes passed are flagged.
-- Assumes nothing.
use mathlib.Core.Path.{◌≡◌}
use native.Mathlib.Omega.{arith}
use Rattle.formula.specs.Words.{node_count}
use Rattle.free_variables.proofs.flag_unbound.Goals as goal

pub returns : goal.returns
returns c = let all : node_count c.args.words.now ≡ c.loop-i.i = omega arith in rw all c.loop-i.invariant
