-- `matrix_check::sound_leaf` meets its contract: at a variable and at a constant, refusal 3 is the only one of the two, and its test is this one.
-- Assumes nothing.
use mathlib.Core.Path.{sym}
use Rattle.matrix_check.proofs.Nodes.{sound_variable, sound_other}
use Rattle.matrix_check.proofs.sound_leaf.Goals as goal

pub returns-then-node-eq-VARIABLE : goal.returns-then-node-eq-VARIABLE
returns-then-node-eq-VARIABLE c = λ i. rw c.is_name.ensures (sym (sound_variable i _ c.if-node-eq-VARIABLE.true))

pub returns : goal.returns
returns c = λ i. sym (sound_other i _ c.if-node-eq-VARIABLE.false c.requires.0 c.requires.1)
