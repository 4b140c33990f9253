-- `qdimacs_words::numeral_word` meets its contract. The loop's invariant: the word holds the digits after those of `left`, and the space.
-- Assumes nothing.
use native.Mathlib.Omega.{arith}
use Rattle.qdimacs_words.proofs.Words.{behind_start, behind_bounds, behind_step, behind_end}
use Rattle.qdimacs_words.proofs.numeral_word.Goals as goal

pub loop-left-init : goal.loop-left-init
loop-left-init c = behind_start _

pub overflow_mul-word : goal.overflow_mul-word
overflow_mul-word c = omega (arith, behind_bounds _ _ _ _ c.loop-left.invariant c.requires)

pub overflow_add-word : goal.overflow_add-word
overflow_add-word c = omega (arith, behind_bounds _ _ _ _ c.loop-left.invariant c.requires)

pub overflow_add-word-in-loop-left : goal.overflow_add-word-in-loop-left
overflow_add-word-in-loop-left c = omega (arith, behind_bounds _ _ _ _ c.loop-left.invariant c.requires)

pub overflow_add-length : goal.overflow_add-length
overflow_add-length c = omega (arith, behind_bounds _ _ _ _ c.loop-left.invariant c.requires)

pub loop-left-preserved : goal.loop-left-preserved
loop-left-preserved c = behind_step _ _ _ _ c.loop-left.invariant c.requires (omega arith)

pub overflow_mul-result : goal.overflow_mul-result
overflow_mul-result c = omega (arith, behind_bounds _ _ _ _ c.loop-left.invariant c.requires)

pub overflow_add-result : goal.overflow_add-result
overflow_add-result c = omega (arith, behind_bounds _ _ _ _ c.loop-left.invariant c.requires)

pub overflow_add-result-2 : goal.overflow_add-result-2
overflow_add-result-2 c = omega (arith, behind_bounds _ _ _ _ c.loop-left.invariant c.requires)

pub overflow_mul-result-2 : goal.overflow_mul-result-2
overflow_mul-result-2 c = omega (arith, behind_bounds _ _ _ _ c.loop-left.invariant c.requires)

pub overflow_add-result-3 : goal.overflow_add-result-3
overflow_add-result-3 c = omega (arith, behind_bounds _ _ _ _ c.loop-left.invariant c.requires)

pub returns : goal.returns
returns c = behind_end _ _ _ _ c.loop-left.invariant c.requires (omega arith)
