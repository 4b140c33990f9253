-- `range_check::EntryChains::in_chain` meets its contract: the loop's invariant is `Walked`, from the chain's head down to where the walk has come; the variable is met,
-- or none of the block's entries below the head is it. The measure is where the walk has come.
-- Assumes nothing.
use mathlib.Core.Path.{sym}
use Prim.Native.Nat.{◌-◌}
use native.Mathlib.Omega.{arith}
use Rattle.range_check.proofs.Chains.{walked_none, walked_more, walked_found, walked_end}
use Rattle.range_check.proofs.EntryChains.in_chain.Goals as goal

pub loop-c-init : goal.loop-c-init
loop-c-init c = walked_none _ _ _ _ _ _ c.requires

pub returns-then-list-first : goal.returns-then-list-first
returns-then-list-first c = sym (walked_found _ _ _ _ _ _ _ c.loop-c.invariant c.loop-c-test.true c.if-list-first.true c.requires.in_list)

pub overflow_cast-c-in-loop-c : goal.overflow_cast-c-in-loop-c
overflow_cast-c-in-loop-c c =
    omega (arith, (c.loop-c.invariant.chain.linked (c.loop-c.c - c.args.before - 1) (omega arith)).low)

pub loop-c-smaller : goal.loop-c-smaller
loop-c-smaller c = omega (arith, (c.loop-c.invariant.chain.linked (c.loop-c.c - c.args.before - 1) (omega arith)).low)

pub loop-c-preserved : goal.loop-c-preserved
loop-c-preserved c = walked_more _ _ _ _ _ _ _ c.loop-c.invariant c.loop-c-test.true c.if-list-first.false

pub returns : goal.returns
returns c = sym (walked_end _ _ _ _ _ _ _ c.loop-c.invariant c.loop-c-test.false)
