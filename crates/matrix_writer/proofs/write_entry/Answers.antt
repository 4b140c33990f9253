-- `matrix_writer::write_entry` meets its contract. Three nodes for the first entry, four for any other.
-- Assumes nothing.
use mathlib.Core.Path.{refl}
use native.Mathlib.Omega.{arith}
use Rattle.matrix_writer.proofs.Buffer.{with_three, with_four, wrote}
use Rattle.matrix_writer.proofs.Entries.{entry_first, entry_later}
use Rattle.matrix_writer.proofs.write_entry.Goals as goal

pub returns-then-k-eq0 : goal.returns-then-k-eq0
returns-then-k-eq0 c =
    wrote _ (entry_first _ _ _ _ c.if-k-eq0.true)
    (with_three _ _ _ _ _ _ _ _ c.put_variable.ensures c.put_variable-2.ensures c.put_operator.ensures
    (omega (arith, c.requires)))
    refl

pub returns : goal.returns
returns c =
    wrote _ (entry_later _ _ _ _ c.if-k-eq0.false)
    (with_four _ _ _ _ _ _ _ _ _ _ c.put_variable.ensures c.put_variable-2.ensures c.put_operator.ensures c.put_operator-2.ensures
    (omega (arith, c.requires)))
    refl
