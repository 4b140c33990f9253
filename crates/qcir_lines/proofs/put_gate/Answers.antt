-- `qcir_lines::put_gate` meets its contract: the node is not written, or is a name, or is written by a row.
-- Assumes nothing.
use native.Mathlib.Omega.{arith}
use mathlib.Core.List.{[]}
use Rattle.formula.specs.Words.{node_at}
use Rattle.qcir_rows.proofs.Matrix.{form_operands_low}
use Rattle.qcir_lines.proofs.Nodes.{put_blank, put_name, put_by_row}
use Rattle.qcir_lines.proofs.put_gate.Goals as goal

pub returns-then-own-eq0-clause-put : goal.returns-then-own-eq0-clause-put
returns-then-own-eq0-clause-put c = put_blank c.args.literals.now c.args.i _ _ _ c.if-own-eq0.true

pub returns-in-Name-clause-put : goal.returns-in-Name-clause-put
returns-in-Name-clause-put c = put_name c.args.literals.now c.args.i (node_at c.args.nodes.now [] c.args.i) _ _ c.in-Name.ensures

pub bounds-literals-left : goal.bounds-literals-left
bounds-literals-left c = let l = form_operands_low c.requires.accepted_within c.requires.i_bound.0 c.in-Row.ensures in omega arith

pub bounds-literals-right : goal.bounds-literals-right
bounds-literals-right c = let l = form_operands_low c.requires.accepted_within c.requires.i_bound.0 c.in-Row.ensures in omega arith

pub returns-in-Row-clause-put : goal.returns-in-Row-clause-put
returns-in-Row-clause-put c = put_by_row c.args.literals.now c.args.i (node_at c.args.nodes.now [] c.args.i) c.in-Row.ensures c.if-own-eq0.false c.put_row.ensures.put
