-- `qcir_marks::mark_node` meets its contract: the node is not marked, or is a name, or is written by a row.
-- Assumes nothing.
use native.Mathlib.Omega.{arith}
use mathlib.Core.List.{[]}
use Rattle.formula.specs.Words.{node_at}
use Rattle.qcir_rows.proofs.Matrix.{form_name_low, form_operands_low}
use Rattle.qcir_marks.proofs.Steps.{node_unmarked, node_name, node_row}
use Rattle.qcir_marks.proofs.mark_node.Goals as goal

pub returns-then-marks-i-eq0 : goal.returns-then-marks-i-eq0
returns-then-marks-i-eq0 c = let a = c.args in node_unmarked a.marks.now a.names.now a.i a.highest (node_at a.nodes.now [] a.i) (omega arith)

pub flag_name-requires : goal.flag_name-requires
flag_name-requires c = let l = form_name_low c.requires.accepted_within c.requires.i_bound.0 c.in-Name.ensures in omega arith

pub returns-in-Name : goal.returns-in-Name
returns-in-Name c = let a = c.args in node_name a.marks.now a.names.now a.i a.highest _ _ _ _ (λ z. omega arith) c.in-Name.ensures c.flag_name.ensures.by_index c.flag_name.ensures.value

pub mark_operands-requires : goal.mark_operands-requires
mark_operands-requires c =
    let l = form_operands_low c.requires.accepted_within c.requires.i_bound.0 c.in-Row.ensures in
    (omega arith, omega arith)

pub returns-in-Row : goal.returns-in-Row
returns-in-Row c = let a = c.args in node_row a.marks.now a.names.now a.i a.highest _ _ (λ z. omega arith) c.in-Row.ensures c.mark_operands.ensures
