-- `lift_kept::lift` meets its contract.
-- Assumes nothing.
use Rattle.prenex.specs.Outcome.{buffers, after}
use Rattle.prenex.proofs.Answers.{accepted_by}
use Rattle.lift_kept.proofs.Ways.{promised, refused_kept}
use Rattle.lift_kept.proofs.lift.Goals as goal

pub returns-then-fault-ne-ACCEPTED : goal.returns-then-fault-ne-ACCEPTED
returns-then-fault-ne-ACCEPTED c =
    let before = buffers c.args.nodes.now c.args.prefix.now c.args.variables.now in let w = promised c.args.words.now c.args.list.now (after c.refused.result before) before
    (refused_kept c.args.words.now c.args.list.now c.check-fault.result c.check-fault.ensures.verdict c.if-fault-ne-ACCEPTED.true _ c.refused.ensures before) in record { outcome = w.0; sizes = w.1.0; form = w.1.1.0; kept = w.1.1.1 }

pub lift_accepted-requires : goal.lift_accepted-requires
lift_accepted-requires c = accepted_by c.args.words.now c.args.list.now c.check-fault.result c.check-fault.ensures.verdict c.if-fault-ne-ACCEPTED.false

pub returns : goal.returns
returns c = let w = promised c.args.words.now c.args.list.now _ _ c.lift_accepted.ensures in record { outcome = w.0; sizes = w.1.0; form = w.1.1.0; kept = w.1.1.1 }
