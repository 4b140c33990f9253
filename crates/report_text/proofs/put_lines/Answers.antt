-- `report_text::put_lines` meets its contract. The loop's invariant: the lines before line i are put.
-- Assumes nothing.
use mathlib.Core.Path.{sym, ap}
use mathlib.Core.List.{List}
use Prim.Native.Nat.{ℕ, ◌≤◌, ◌<◌}
use native.Mathlib.Omega.{arith}
use lib.ListN.{length}
use Rattle.texts.proofs.Put.{put_as}
use Rattle.growth.specs.Lines.{line_figures}
use Rattle.name_lines.specs.Names.{names as names_of}
use Rattle.name_lines.specs.Walk.{part}
use Rattle.report_text.specs.Report.{line_text}
use Rattle.report_text.proofs.Lines.{few_names, lines_none, name_short, lines_next, lines_all}
use Rattle.report_text.proofs.put_lines.Goals as goal

pub loop-i-init : goal.loop-i-init
loop-i-init c = lines_none _ _ _ _ c.requires

pub put_name_line-at-requires : goal.put_name_line-at-requires
put_name_line-at-requires c =
    let pre = c.requires in
    let turn = c.loop-i in
    let next = c.next_name-name.ensures in
    let left : turn.i < length (names_of c.args.names.now) =
    omega (arith, pre.number, c.loop-i-test.true) in (
      omega (arith, (few_names _ _ _ pre).0, turn.invariant.room),
      next.order,
      next.within,
      name_short _ _ _ _ _ _ _ turn.invariant _ next left,
    )

pub loop-i-preserved : goal.loop-i-preserved
loop-i-preserved c =
    let turn = c.loop-i in
    let line = c.line_at-line.ensures in
    let put = c.put_name_line-at.ensures in
    let left : turn.i < length (names_of c.args.names.now) =
    omega (arith, c.requires.number, c.loop-i-test.true) in
    let this : List ℕ = part c.args.names.now c.next_name-name.result.from c.next_name-name.result.end in
    lines_next _ _ _ _ _ _ _ turn.invariant _ c.next_name-name.ensures left _ _
    (put_as (ap (λ l. line_text this (line_figures l)) (sym line)) put.0) put.1

pub returns : goal.returns
returns c =
    let pre = c.requires in
    let turn = c.loop-i in
    let end : length (names_of c.args.names.now) ≤ turn.i =
    omega (arith, pre.number, c.loop-i-test.false) in
    (lines_all turn.invariant end, omega (arith, (few_names _ _ _ pre).0, turn.invariant.room))
