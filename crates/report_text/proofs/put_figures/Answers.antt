-- `report_text::put_figures` meets its contract. The loop's invariant: the figures before the index are put.
-- Assumes nothing.
use Prim.Native.Nat.{◌≤◌}
use native.Mathlib.Omega.{arith}
use lib.ListN.{length}
use Rattle.report_text.proofs.Pieces.{figures_none, figures_next, figures_all}
use Rattle.report_text.proofs.put_figures.Goals as goal

pub loop-x-init : goal.loop-x-init
loop-x-init c = (figures_none _ c.args.figures.now _, omega arith)

pub loop-x-preserved : goal.loop-x-preserved
loop-x-preserved c =
    let turn = c.loop-x in
    let put = c.put_figure-next.ensures in (
      figures_next _ turn.x-index c.loop-x-test.true turn.invariant.0 put.0,
      omega (arith, turn.invariant.1, put.1),
    )

pub returns : goal.returns
returns c =
    let turn = c.loop-x in
    let end : length c.args.figures.now ≤ turn.x-index = omega (arith, c.loop-x-test.false) in
    (figures_all _ turn.x-index end turn.invariant.0, omega (arith, turn.invariant.1))
