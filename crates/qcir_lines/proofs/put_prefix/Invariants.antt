-- `qcir_lines::put_prefix` meets its contract. The invariant: the lines of the first j blocks are put.
-- Assumes nothing.
use Rattle.texts.specs.Put.{Put}
use Rattle.qcir_lines.specs.Lines.{blocks_text}
use Rattle.qcir_lines.proofs.put_prefix.Given as goal

abbrev pub invariant-loop-j : goal.invariant-loop-j
invariant-loop-j l = Put l.initial.text l.at (blocks_text l.prefix l.variables l.j) l.text l.next
