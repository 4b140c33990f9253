-- `qcir_nodes::write_name` meets its contract: a node for a variable, none for a gate.
-- Assumes nothing.
use mathlib.Core.Path.{◌≡◌}
use native.Mathlib.Omega.{arith}
use borrow.Author.Tests.{eq-eqb, ne_eqb}
use Rattle.qcir_nodes.specs.Nodes.{add_name}
use Rattle.qcir_nodes.proofs.Nodes.{room_yes, wrote_yes, wrote_no, wrote_none}
use Rattle.qcir_nodes.proofs.write_name.Goals as goal

pub returns-in-Some : goal.returns-in-Some
unfolding add_name
returns-in-Some c =
    let e = c.in-Some.ensures in
    rw e.1 (wrote_no _ _ _ _ _ _ _ (ne_eqb c.args.gate 0 (λ z. omega (arith, e.0))) (wrote_none _ _ _))

pub write_node-requires : goal.write_node-requires
unfolding add_name
write_node-requires c =
    let z : c.args.gate ≡ 0 = omega (arith, c.in-None.ensures) in
    let r = room_yes _ _ _ _ (eq-eqb _ _ z) c.requires in
    record { fits = r.fits; small = r.small }

pub returns-in-None : goal.returns-in-None
unfolding add_name
returns-in-None c =
    let z : c.args.gate ≡ 0 = omega (arith, c.in-None.ensures) in
    wrote_yes _ _ _ _ _ _ _ (eq-eqb _ _ z) (rw c.variable_node.ensures at c.write_node.ensures)
