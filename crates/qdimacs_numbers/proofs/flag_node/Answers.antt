-- `qdimacs_numbers::flag_node` meets its contract: the node has a name, or none.
-- Assumes nothing.
use native.Mathlib.Omega.{arith}
use mathlib.Core.Path.{sym, ◌∙◌, ap}
use mathlib.Core.List.{[]}
use Rattle.formula.specs.Words.{table_of}
use Rattle.formula.specs.declared.NodeWords.{NodeWords}
use Rattle.formula.specs.Node.{variable}
use Rattle.formula.proofs.Nodes.{node_variable}
use Rattle.qdimacs_numbers.proofs.Flags.{name_low, no_name, flags_past, flags_name}
use Rattle.qdimacs_numbers.proofs.flag_node.Goals as goal

pub returns-then-node-ne-VARIABLE : goal.returns-then-node-ne-VARIABLE
unfolding table_of
returns-then-node-ne-VARIABLE c =
    let k = ap (λ (w : NodeWords). w.kind) c.node_at-node.ensures in
    λ before done. flags_past (table_of c.args.nodes.now []) before c.args.i _ _ done
    (no_name c.args.nodes.now c.args.i (λ e. c.if-node-ne-VARIABLE.true (k ∙ e)))

pub flag_name-requires : goal.flag_name-requires
flag_name-requires c =
    let e = c.node_at-node.ensures in
    let l = name_low 40960 77823 c.args.nodes.now c.requires.accepted_within c.args.i c.requires.i_bound.0 (ap (λ (w : NodeWords). w.kind) (sym e) ∙ c.if-node-ne-VARIABLE.false) in
    omega (arith, l, ap (λ (w : NodeWords). w.a) e, c.requires.i_bound.1)

pub returns : goal.returns
unfolding table_of
returns c =
    let e = c.node_at-node.ensures in
    let f = c.flag_name.ensures in
    let v = node_variable c.args.nodes.now [] c.args.i (ap (λ (w : NodeWords). w.kind) (sym e) ∙ c.if-node-ne-VARIABLE.false) in
    λ before done. flags_name (table_of c.args.nodes.now []) before c.args.i _ _ done _
    (v ∙ ap (λ (w : NodeWords). variable w.a) (sym e)) _ _ f.by_index f.value
