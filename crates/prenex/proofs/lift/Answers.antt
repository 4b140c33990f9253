-- `prenex::lift` meets its contract.
-- Assumes nothing.
use native.Mathlib.Omega.{arith}
use Rattle.prenex.proofs.Answers.{accepted_by, lifted_refused}
use Rattle.prenex.specs.Outcome.{buffers}
use Rattle.prenex.proofs.Form.{lifted_sizes, lifted_form}
use Rattle.prenex.proofs.lift.Goals as goal

pub returns-then-fault-ne-ACCEPTED : goal.returns-then-fault-ne-ACCEPTED
returns-then-fault-ne-ACCEPTED c =
    let before = buffers c.args.nodes.now c.args.prefix.now c.args.variables.now in
    let e = lifted_refused c.args.words.now c.args.list.now c.check-fault.result c.check-fault.ensures.verdict (λ z. omega arith) _ c.refused.ensures before in record {
      outcome = e;
      sizes = lifted_sizes c.args.words.now c.args.list.now before _ e;
      form = lifted_form c.args.words.now c.args.list.now before _ e;
    }

pub lift_accepted-requires : goal.lift_accepted-requires
lift_accepted-requires c = accepted_by c.args.words.now c.args.list.now c.check-fault.result c.check-fault.ensures.verdict (omega arith)

pub returns : goal.returns
returns c =
    let before = buffers c.args.nodes.now c.args.prefix.now c.args.variables.now in
    let e = c.lift_accepted.ensures in record {
      outcome = e;
      sizes = lifted_sizes c.args.words.now c.args.list.now before _ e;
      form = lifted_form c.args.words.now c.args.list.now before _ e;
    }
