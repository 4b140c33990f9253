-- `free_variables::flag_node` meets its contract: the node is no variable, its number is bound, or it is flagged.
-- Assumes nothing.
use mathlib.Core.Path.{◌≡◌, sym, ◌∙◌, ap}
use Prim.Native.Nat.{◌<◌}
use native.Mathlib.Omega.{arith}
use lib.ListN.{get_or}
use Rattle.formula.specs.declared.NodeWords.{NodeWords}
use Rattle.formula.specs.Words.{field}
use Rattle.acceptance.proofs.Accepted.{accepted_holds}
use Rattle.free_variables.proofs.Flags.{plain_flags, number_flag, bound_flags, free_flags}
use Rattle.free_variables.proofs.flag_node.Goals.{Else-node-ne-VARIABLE}
use Rattle.free_variables.proofs.flag_node.Goals as goal

-- the node is a variable node
kind-here : (c : Else-node-ne-VARIABLE) → field c.args.words.now c.args.i 0 ≡ 2
kind-here c = sym (ap (λ (w : NodeWords). w.kind) c.node_at-node.ensures) ∙ c.if-node-ne-VARIABLE.false

pub returns-then-node-ne-VARIABLE : goal.returns-then-node-ne-VARIABLE
returns-then-node-ne-VARIABLE c = plain_flags c.args.words.now c.args.list.now _ _ _ (λ e. c.if-node-ne-VARIABLE.true (ap (λ (w : NodeWords). w.kind) c.node_at-node.ensures ∙ e)) c.requires.flagged

pub bounds-bindings-i : goal.bounds-bindings-i
bounds-bindings-i c = omega (arith, c.requires.bound.bindings_length, c.requires.i_bound, (accepted_holds c.args.words.now c.args.list.now c.requires.list_value).nodes_limit)

pub returns-then-bindings-i-gt0 : goal.returns-then-bindings-i-gt0
returns-then-bindings-i-gt0 c =
    let p : 0 < get_or c.args.bindings.now c.args.i 0 = omega (arith, c.if-bindings-i-gt0.true) in
    bound_flags c.args.words.now c.args.list.now (accepted_holds c.args.words.now c.args.list.now c.requires.list_value).proper c.args.bindings.now c.requires.bound.bindings_hold c.args.i c.requires.i_bound (kind-here (goal.at.returns-then-bindings-i-gt0 c).Else-node-ne-VARIABLE) _ _ c.requires.flagged p

pub set_flag-requires : goal.set_flag-requires
set_flag-requires c =
    let m = c.requires.flagged in
    let l = number_flag c.args.words.now c.args.list.now (accepted_holds c.args.words.now c.args.list.now c.requires.list_value).proper c.args.bindings.now c.requires.bound.bindings_hold c.args.i c.requires.i_bound (kind-here (goal.at.set_flag-requires c).Else-node-ne-VARIABLE) _ _ m in record {
      x_in_bounds = (omega (arith, l, ap (λ (w : NodeWords). w.a) c.node_at-node.ensures), m.low);
      are_set = m.are_set;
    }

pub returns : goal.returns
returns c =
    let z : get_or c.args.bindings.now c.args.i 0 ≡ 0 = omega (arith, c.if-bindings-i-gt0.false) in
    let f = c.set_flag.ensures in
    let a = ap (λ (w : NodeWords). w.a) c.node_at-node.ensures in
    let u = rw a at f in
    rw u.0 (free_flags c.args.words.now c.args.list.now (accepted_holds c.args.words.now c.args.list.now c.requires.list_value).proper c.args.bindings.now c.requires.bound.bindings_hold c.args.i c.requires.i_bound (kind-here (goal.at.returns c).Else-node-ne-VARIABLE) _ _ c.requires.flagged z _ (rw u.0 at u.1))
