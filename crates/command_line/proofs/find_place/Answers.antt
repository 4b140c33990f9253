-- `command_line::find_place` meets its contract. The loop keeps the place of the byte after those passed.
-- Assumes nothing.
use Prim.Native.Nat.{◌≤◌, ◌<◌, ◌+◌}
use mathlib.Core.Path.{◌≡◌, refl, sym, ap, ◌∙◌}
use lib.ListN.{length, take, get_or}
use native.Mathlib.Omega.{arith}
use Rattle.std.proofs.lemmas.Grind.{common_steps}
use Rattle.command_line.specs.Place.{line, column, next_line, next_column, through}
use Rattle.command_line.proofs.Places.{through_next, line_bound, column_bound}
use Rattle.command_line.proofs.find_place.Goals as goal

pub loop-byte-init : goal.loop-byte-init
unfolding through
loop-byte-init c = (refl, refl, omega arith, omega arith)

pub loop-byte-preserved : goal.loop-byte-preserved
loop-byte-preserved c =
    let turn = c.loop-byte in
    let text = c.args.text.now in
    let byte = get_or text turn.byte-index 0 in
    let inside : turn.byte-index < length text = grind (arith, common_steps) in
    let made = c.after-here.ensures in
    let end = c.min-end.result in
    let same : get_or (take end text) turn.byte-index 0 ≡ byte = grind (arith, common_steps) in
    let line_is : c.after-here.result.line ≡ next_line turn.here.line byte = made.0 ∙ ap (next_line turn.here.line) same in
    let column_is : c.after-here.result.column ≡ next_column turn.here.column byte = made.1 ∙ ap (next_column turn.here.column) same in
    let l : turn.here.line ≤ turn.byte-index + 1 = turn.invariant.2 in
    let m : turn.here.column ≤ turn.byte-index + 1 = turn.invariant.3 in
    let lb = line_bound turn.here.line byte in
    let cb = column_bound turn.here.column byte in (
      line_is ∙ ap (λ x. next_line x byte) turn.invariant.0 ∙ sym (through_next next_line 1 text turn.byte-index inside),
      column_is ∙ ap (λ x. next_column x byte) turn.invariant.1 ∙ sym (through_next next_column 1 text turn.byte-index inside),
      omega arith,
      omega arith,
    )
