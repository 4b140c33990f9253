-- `leading_blocks::use_names` meets its contract. The invariant: the names passed are flagged, none of them repeats, and those that stand
-- at a variable node are counted.
-- Assumes nothing.
use mathlib.Core.Path.{refl}
use mathlib.Core.Bool.{false}
use native.Mathlib.Omega.{arith}
use lib.ListN.{get_or}
use Rattle.kept_prefix.specs.Blocks.{keep}
use Rattle.leading_blocks.proofs.Joined.{joining_start, kept_next, kept_few, join_next, join_repeats, added_all}
use Rattle.leading_blocks.proofs.use_names.Goals as goal

pub loop-name-init : goal.loop-name-init
unfolding keep
loop-name-init c = (refl, λ before f d. joining_start before c.args.names.now _ f d)

pub overflow_cast-x : goal.overflow_cast-x
overflow_cast-x c = omega (arith, c.type_inv.names c.loop-name.name-index)

pub bounds-used-x : goal.bounds-used-x
bounds-used-x c = omega (arith, c.requires.numbered c.loop-name.name-index c.loop-name-test.true, c.requires.standing_len)

pub returns-then-used-x : goal.returns-then-used-x
returns-then-used-x c =
    let l = c.loop-name in
    λ before f d. join_repeats _ l.name-index c.loop-name-test.true before l.used (l.invariant.1 before f d) c.if-used-x.true

pub bounds-used-x-in-loop-name : goal.bounds-used-x-in-loop-name
bounds-used-x-in-loop-name c = omega (arith, c.requires.numbered c.loop-name.name-index c.loop-name-test.true, c.requires.standing_len)

pub bounds-standing-x : goal.bounds-standing-x
bounds-standing-x c = omega (arith, c.requires.numbered c.loop-name.name-index c.loop-name-test.true, c.requires.standing_len)

pub overflow_add-standing_names : goal.overflow_add-standing_names
overflow_add-standing_names c =
    let l = c.loop-name in
    omega (arith, kept_few c.args.names.now l.name-index c.loop-name-test.true (λ x. get_or c.args.standing.now x false) _ l.invariant.0)

pub loop-name-preserved : goal.loop-name-preserved
loop-name-preserved c =
    let l = c.loop-name in
    let h = c.loop-name-test.true in (
      kept_next c.args.names.now l.name-index h (λ x. get_or c.args.standing.now x false) _ l.invariant.0,
      λ before f d. join_next c.args.names.now l.name-index h before l.used (l.invariant.1 before f d) (c.requires.numbered l.name-index h) c.if-used-x.false,
    )

pub returns : goal.returns
returns c =
    let l = c.loop-name in
    λ before f d. added_all before _ _ _ l.name-index l.standing_names (omega arith) (l.invariant.1 before f d) l.invariant.0
