-- `qcir_literals::fill_literals` meets its contract. The invariant: the nodes below i have their literals.
-- Assumes nothing.
use native.Mathlib.Omega.{arith}
use mathlib.Core.Path.{◌≡◌}
use mathlib.Core.List.{[]}
use Prim.Native.Nat.{◌<◌}
use native.Mathlib.Numerals.{add-one}
use lib.ListN.{length}
use Rattle.formula.specs.Words.{node_count, table_of}
use Rattle.qcir_literals.proofs.Pass.{gate_low, gate_from, fill_start, fill_next, fill_end}
use Rattle.qcir_literals.proofs.fill_literals.Goals as goal

pub loop-i-init : goal.loop-i-init
loop-i-init c = fill_start (table_of c.args.nodes.now []) c.requires.accepted_within.proper.tree c.args.first c.args.literals.now c.requires.literals_len.1

pub fill_node-gate-requires-clause-i_bound : goal.fill_node-gate-requires-clause-i_bound
unfolding table_of
fill_node-gate-requires-clause-i_bound c =
    let t = table_of c.args.nodes.now [] in
    let g = gate_low t c.args.first c.loop-i.i in
    let h = gate_from t c.args.first c.loop-i.i in
    let m = c.requires.accepted_within.nodes_limit in
    (omega arith, omega arith, omega arith, omega arith)

pub loop-i-preserved : goal.loop-i-preserved
unfolding table_of
loop-i-preserved c =
    let l = c.loop-i in
    let h : l.i < node_count c.args.nodes.now = omega arith in
    let room : l.i < length l.literals = omega (arith, c.requires.accepted_within.nodes_limit) in
    rw add-one (fill_next (table_of c.args.nodes.now []) c.requires.accepted_within.proper.tree c.args.first l.i h l.literals room l.gate l.invariant _ _ c.fill_node-gate.ensures)

pub returns : goal.returns
unfolding table_of
returns c =
    let l = c.loop-i in
    let all : l.i ≡ node_count c.args.nodes.now = omega arith in
    fill_end (table_of c.args.nodes.now []) c.requires.accepted_within.proper.tree c.args.first _ _ (rw all at l.invariant)
