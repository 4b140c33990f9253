-- `qcir_literals::fill_node` meets its contract: the node is not marked, or is a name, or is written by a row.
-- Assumes nothing.
use native.Mathlib.Omega.{arith}
use mathlib.Core.List.{[]}
use Rattle.formula.specs.Words.{node_at}
use Rattle.qcir_rows.proofs.Matrix.{form_name_low, form_operands_low}
use Rattle.qcir_literals.specs.Literals.{skipped}
use Rattle.qcir_literals.proofs.Nodes.{node_name, node_row}
use Rattle.qcir_literals.proofs.fill_node.Goals as goal

pub returns-then-literals-i-eq0 : goal.returns-then-literals-i-eq0
returns-then-literals-i-eq0 c = skipped c.if-literals-i-eq0.true

pub overflow_mul-literals : goal.overflow_mul-literals
overflow_mul-literals c = let l = form_name_low c.requires.accepted_within c.requires.i_bound.0 c.in-Name.ensures in omega arith

pub returns-in-Name : goal.returns-in-Name
returns-in-Name c =
    let l = form_name_low c.requires.accepted_within c.requires.i_bound.0 c.in-Name.ensures in
    node_name (node_at c.args.nodes.now [] c.args.i) c.args.i c.args.gate c.args.literals.now _ c.in-Name.ensures l c.if-literals-i-eq0.false

pub bounds-literals-left : goal.bounds-literals-left
bounds-literals-left c = let l = form_operands_low c.requires.accepted_within c.requires.i_bound.0 c.in-Row.ensures in omega arith

pub bounds-literals-right : goal.bounds-literals-right
bounds-literals-right c = let l = form_operands_low c.requires.accepted_within c.requires.i_bound.0 c.in-Row.ensures in omega arith

pub returns-in-Row : goal.returns-in-Row
returns-in-Row c =
    let f = c.row_literal.ensures in
    node_row c.in-Row.ensures c.args.i c.args.gate c.args.literals.now _ _ c.if-literals-i-eq0.false f.result_value f.lower_bound.0 f.lower_bound.1 c.gate_after.ensures
