-- `qcir_table::output_index` meets its contract. The loop's invariant: the tokens before token i are outer ones.
-- Assumes nothing.
use mathlib.Core.Path.{◌≡◌}
use mathlib.Core.Bool.{false, not}
use Prim.Native.Nat.{ℕ, ◌<◌}
use lib.ListN.{get_or}
use Rattle.qcir_tokens.specs.Tokens.{is_outer}
use Rattle.qcir_table.proofs.output_index.Given as goal

abbrev pub invariant-loop-i : goal.invariant-loop-i
invariant-loop-i l = (k : ℕ) → k < l.i → not (is_outer (get_or l.tokens.roles.now k 0)) ≡ false
