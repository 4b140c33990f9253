-- `command_line::after` meets its contract.
-- Assumes nothing.
use mathlib.Core.Path.{◌≡◌, sym, ◌∙◌}
use mathlib.Core.Bool.{true, false}
use Prim.Native.Nat.{suc, ◌+◌}
use lib.Dec.{eqb}
use native.Mathlib.Omega.{arith}
use borrow.Author.Tests.{eq-eqb, ne_eqb}
use Rattle.lists.specs.Choice.{pick_yes, pick_no}
use Rattle.command_line.specs.Place.{line_end}
use Rattle.command_line.proofs.after.Goals as goal

pub returns-then-byte-eq-LINE_END : goal.returns-then-byte-eq-LINE_END
returns-then-byte-eq-LINE_END c =
    let here = c.args.here in
    let at_end : eqb c.args.byte line_end ≡ true = eq-eqb _ _ c.if-byte-eq-LINE_END.true in
    let on : here.line + 1 ≡ suc here.line = omega arith in
    (on ∙ sym (pick_yes _ _ _ at_end), sym (pick_yes _ _ _ at_end))

pub returns : goal.returns
returns c =
    let here = c.args.here in
    let inside : eqb c.args.byte line_end ≡ false = ne_eqb _ _ c.if-byte-eq-LINE_END.false in
    let on : here.column + 1 ≡ suc here.column = omega arith in
    (sym (pick_no _ _ _ inside), on ∙ sym (pick_no _ _ _ inside))
