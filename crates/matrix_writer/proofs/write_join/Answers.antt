-- `matrix_writer::write_join` meets its contract. The quantifier says which operator it is.
-- Assumes nothing.
use Rattle.prenex_form.specs.Matrix.{level_join}
use Rattle.matrix_writer.proofs.write_join.Goals as goal

pub returns-in-Exists : goal.returns-in-Exists
unfolding level_join
returns-in-Exists c = rw c.in-Exists.is c.put_operator.ensures

pub returns-in-ForAll : goal.returns-in-ForAll
unfolding level_join
returns-in-ForAll c = rw c.in-ForAll.is c.put_operator-in-ForAll.ensures
