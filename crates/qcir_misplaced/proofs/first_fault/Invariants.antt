-- `qcir_misplaced::first_fault` meets its contract. The invariant: no token passed is at fault, and the pass over all tokens goes on from here.
-- Assumes nothing.
use mathlib.Core.Path.{◌≡◌}
use Prim.Native.Nat.{◌≤◌}
use lib.ListN.{length}
use Rattle.qcir_tokens.specs.Held.{number_count}
use Rattle.qcir_misplaced.proofs.Turn.{From, All}
use Rattle.qcir_misplaced.proofs.first_fault.Given as goal

abbrev pub invariant-loop-i : goal.invariant-loop-i
invariant-loop-i l = (l.line ≤ l.i) × (length l.lists ≡ number_count)
    × (All l.gates l.tokens.roles.now l.tokens.numbers.now l.tokens.positions.now l.tokens.count l.initial.lists ≡ From l.gates l.tokens.roles.now l.tokens.numbers.now l.tokens.positions.now l.tokens.count l.lists l.line l.i)
