-- `lift_text::lift_table` meets its contract.
-- Assumes nothing.
use mathlib.Core.Path.{◌∙◌, ap}
use mathlib.Core.List.{List}
use Prim.Native.Nat.{ℕ}
use Rattle.lift_text.specs.Lifting.{written_as}
use Rattle.lift_text.proofs.lift_table.Goals as goal

pub returns-then-verdict-ne-MEMORY_TOO_SHORT : goal.returns-then-verdict-ne-MEMORY_TOO_SHORT
returns-then-verdict-ne-MEMORY_TOO_SHORT c = c.lift_small-answer.ensures.done c.if-verdict-ne-MEMORY_TOO_SHORT.true

pub returns : goal.returns
returns c = c.lift_large-2.ensures ∙ ap (λ (out : List ℕ). written_as c.args.format out c.args.words.now c.args.list.now) (c.lift_small-answer.ensures.short c.if-verdict-ne-MEMORY_TOO_SHORT.false)
