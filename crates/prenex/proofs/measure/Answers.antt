-- `prenex::measure` meets its contract.
-- Assumes nothing.
use native.Mathlib.Omega.{arith}
use Rattle.prenex.proofs.Answers.{accepted_by, measured_refused, measured_done}
use Rattle.prenex.proofs.Form.{measured_sizes}
use Rattle.prenex.proofs.measure.Goals as goal

pub returns-then-verdict-ne-ACCEPTED : goal.returns-then-verdict-ne-ACCEPTED
returns-then-verdict-ne-ACCEPTED c =
    let e = measured_refused c.args.words.now c.args.list.now c.check-verdict.result c.check-verdict.ensures.verdict (λ z. omega arith) _ c.refused.ensures in record {
      answer = e;
      sizes = measured_sizes c.args.words.now c.args.list.now _ e;
    }

pub measure_accepted-requires : goal.measure_accepted-requires
measure_accepted-requires c = accepted_by c.args.words.now c.args.list.now c.check-verdict.result c.check-verdict.ensures.verdict (omega arith)

pub returns : goal.returns
returns c =
    let ok = accepted_by c.args.words.now c.args.list.now c.check-verdict.result c.check-verdict.ensures.verdict (omega arith) in
    let e = measured_done c.args.words.now c.args.list.now ok _ _ c.done.ensures c.measure_accepted.ensures in record {
      answer = e;
      sizes = measured_sizes c.args.words.now c.args.list.now _ e;
    }
