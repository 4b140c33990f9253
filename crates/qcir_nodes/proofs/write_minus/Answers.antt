-- `qcir_nodes::write_minus` meets its contract: a node where there is a minus sign.
-- Assumes nothing.
use mathlib.Core.Bool.{true, false}
use mathlib.Core.Path.{◌≡◌}
use native.Mathlib.Omega.{arith}
use Rattle.qcir_nodes.specs.Nodes.{add_minus}
use Rattle.qcir_nodes.proofs.Nodes.{room_yes, wrote_yes, wrote_no, wrote_none}
use Rattle.qcir_nodes.proofs.write_minus.Goals as goal

pub returns-then-not-minus : goal.returns-then-not-minus
unfolding add_minus
returns-then-not-minus c = let m : c.args.minus ≡ false = grind arith in wrote_no _ _ _ _ _ _ _ m (wrote_none _ _ _)

pub write_node-requires : goal.write_node-requires
unfolding add_minus
write_node-requires c = let m : c.args.minus ≡ true = grind arith in let r = room_yes _ _ _ _ m c.requires in record { fits = r.fits; small = r.small }

pub returns : goal.returns
unfolding add_minus
returns c = let m : c.args.minus ≡ true = grind arith in wrote_yes _ _ _ _ _ _ _ m (rw c.negation_node.ensures at c.write_node.ensures)
