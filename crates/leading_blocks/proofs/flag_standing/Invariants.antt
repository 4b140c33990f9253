-- `leading_blocks::flag_standing` meets its contract. The invariant: the nodes passed are flagged.
-- Assumes nothing.
use Rattle.formula.specs.Words.{table_of}
use Rattle.leading_blocks.specs.Flags.{Flags, stands_below}
use Rattle.leading_blocks.proofs.flag_standing.Given as goal

abbrev pub invariant-loop-i : goal.invariant-loop-i
invariant-loop-i l = Flags (stands_below (table_of l.words l.list) l.i) l.standing
