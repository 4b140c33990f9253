-- `leading_blocks::flag_node` meets its contract: the node is no variable node, or its number is flagged.
-- Assumes nothing.
use mathlib.Core.Path.{◌≡◌, sym, ◌∙◌, ap}
use Prim.Native.Nat.{◌<◌}
use native.Mathlib.Omega.{arith}
use Rattle.formula.specs.declared.NodeWords.{NodeWords}
use Rattle.formula.specs.Words.{field}
use Rattle.acceptance.proofs.Accepted.{accepted_holds}
use Rattle.leading_blocks.proofs.Flags.{plain_flags, variable_flags, number_low}
use Rattle.leading_blocks.proofs.flag_node.Goals.{Else-node-ne-VARIABLE}
use Rattle.leading_blocks.proofs.flag_node.Goals as goal

kind-here : (c : Else-node-ne-VARIABLE) → field c.args.words.now c.args.i 0 ≡ 2
kind-here c = sym (ap (λ (w : NodeWords). w.kind) c.node_at-node.ensures) ∙ c.if-node-ne-VARIABLE.false

low-here : (c : Else-node-ne-VARIABLE) → field c.args.words.now c.args.i 1 < 65536
low-here c = number_low c.args.words.now c.args.list.now (accepted_holds _ _ c.requires.list_value) c.args.i c.requires.i_bound (kind-here c)

pub returns-then-node-ne-VARIABLE : goal.returns-then-node-ne-VARIABLE
returns-then-node-ne-VARIABLE c = plain_flags c.args.words.now c.args.list.now _ _ (λ e. c.if-node-ne-VARIABLE.true (ap (λ (w : NodeWords). w.kind) c.node_at-node.ensures ∙ e)) c.requires.flags

pub bounds-standing-x : goal.bounds-standing-x
bounds-standing-x c =
    let a = ap (λ (w : NodeWords). w.a) c.node_at-node.ensures in
    omega (arith, low-here (goal.at.bounds-standing-x c).Else-node-ne-VARIABLE, c.requires.flags.size)

pub returns : goal.returns
returns c =
    let a = ap (λ (w : NodeWords). w.a) c.node_at-node.ensures in
    rw a (variable_flags c.args.words.now c.args.list.now _ _ (kind-here (goal.at.returns c).Else-node-ne-VARIABLE) (low-here (goal.at.returns c).Else-node-ne-VARIABLE) c.requires.flags)
