-- `form_check::first_bad` meets its contract: the loop's invariant: the blocks passed are without a fault, and their names are flagged.
-- Assumes nothing.
use mathlib.Core.Path.{◌≡◌, sym, ◌∙◌}
use Prim.Native.Nat.{◌/◌}
use native.Mathlib.Omega.{arith}
use lib.ListN.{length}
use borrow.Author.Count.{below_more}
use borrow.Author.Tests.{not-true, not-false}
use Rattle.lists.proofs.Search.{lowest_is}
use Rattle.formula.specs.Form.{prefix_width}
use Rattle.form_check.proofs.Names.{names_none}
use Rattle.form_check.proofs.first_bad.Goals as goal

pub loop-j-init : goal.loop-j-init
loop-j-init c = (rw (names_none c.args.prefix.now c.args.variables.now) c.requires, λ k l. absurd (omega arith))

pub take_block-requires : goal.take_block-requires
take_block-requires c =
    record {
      j_in_bounds = c.loop-j-test.true;
      names_flagged = c.loop-j.invariant.0;
    }

pub returns-then-not-take_block : goal.returns-then-not-take_block
returns-then-not-take_block c =
    let l = c.loop-j in
    (c.loop-j-test.true, sym (lowest_is _ _ l.j c.loop-j-test.true (not-false _ (sym c.take_block.ensures.value ∙ c.if-not-take_block.true)) l.invariant.1))

pub loop-j-preserved : goal.loop-j-preserved
loop-j-preserved c =
    let r = c.take_block.ensures in
    let t = c.if-not-take_block.false in
    (r.names_flagged_2 t, below_more _ _ c.loop-j.invariant.1 (not-true _ (sym r.value ∙ t)))

pub returns : goal.returns
returns c =
    let l = c.loop-j in
    let all : length c.args.prefix.now / prefix_width ≡ l.j = omega arith in
    (rw all l.invariant.1, rw all l.invariant.0)
