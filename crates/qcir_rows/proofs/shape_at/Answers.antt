-- `qcir_rows::shape_at` meets its contract: a node of a matrix is an operator, a not node, a variable or a constant.
-- Assumes nothing.
use native.Mathlib.Omega.{arith}
use Rattle.qcir_rows.proofs.Matrix.{table_low, shape_operator, shape_negation, shape_variable, shape_constant}
use Rattle.qcir_rows.proofs.shape_at.Goals as goal

pub row_of-requires : goal.row_of-requires
row_of-requires c = table_low 40960 77823 _ c.requires.accepted_within c.args.i c.requires.i_bound _ c.node_at-node.ensures c.in-4.is

pub returns-in-4 : goal.returns-in-4
returns-in-4 c = shape_operator 40960 77823 _ c.requires.accepted_within c.args.i c.requires.i_bound _ c.node_at-node.ensures c.in-4.is _ c.row_of.ensures

pub returns-in-3 : goal.returns-in-3
returns-in-3 c = rw c.leaf.ensures (shape_negation 40960 77823 _ c.requires.accepted_within c.args.i c.requires.i_bound _ c.node_at-node.ensures c.in-3.is)

pub returns-in-2 : goal.returns-in-2
returns-in-2 c = shape_variable 40960 77823 _ c.requires.accepted_within c.args.i c.requires.i_bound _ c.node_at-node.ensures c.in-2.is

pub returns-in_default : goal.returns-in_default
returns-in_default c = rw c.leaf-in_default.ensures (shape_constant 40960 77823 _ c.requires.accepted_within c.args.i c.requires.i_bound _ c.node_at-node.ensures (λ k. omega arith) (λ k. omega arith) (λ k. omega arith))
