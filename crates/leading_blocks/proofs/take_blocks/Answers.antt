-- `leading_blocks::take_blocks` meets its contract. The invariant: no node passed stops the search, and all of them are taken off.
-- Assumes nothing.
use mathlib.Core.Path.{◌≡◌}
use native.Mathlib.Omega.{arith}
use borrow.Author.Count.{below_more}
use Rattle.formula.specs.Words.{node_count, table_of}
use Rattle.leading_blocks.proofs.Taking.{leading_stops, leading_all, taken_none}
use Rattle.leading_blocks.proofs.take_blocks.Goals as goal

pub loop-k-init : goal.loop-k-init
loop-k-init c = (λ j h. absurd (omega arith), taken_none (table_of c.args.words.now c.args.list.now) _ c.requires.flags_2)

pub take_block-requires : goal.take_block-requires
take_block-requires c =
    record {
      list_value = c.requires.list_value;
      flags = c.requires.flags;
      k_bound = c.loop-k-test.true;
      taken = c.loop-k.invariant.1;
    }

pub returns-in_default : goal.returns-in_default
unfolding table_of
returns-in_default c =
    let l = c.loop-k in
    leading_stops (table_of c.args.words.now c.args.list.now) l.k c.loop-k-test.true l.invariant.0 c.in_default.ensures _ l.invariant.1.front_is

pub loop-k-preserved : goal.loop-k-preserved
loop-k-preserved c =
    let l = c.loop-k in
    let e = c.in-Some.ensures in
    (below_more _ _ l.invariant.0 e.0, e.1)

pub returns : goal.returns
unfolding table_of
returns c =
    let l = c.loop-k in
    let all : node_count c.args.words.now ≡ l.k = omega arith in
    leading_all (table_of c.args.words.now c.args.list.now) l.k all l.invariant.0 _ l.invariant.1.front_is
