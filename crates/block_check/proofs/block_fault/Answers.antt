-- `block_check::block_fault` meets its contract: each return is one of the five answers of `block_fault`, and past refusals 4 and 5 the body
-- is lower and is counted. What the tests before a return say is left to `omega`, so that no answer names a test.
-- Assumes nothing.
use mathlib.Core.Path.{sym}
use Rattle.lists.specs.Choice.{clash}
use Rattle.block_check.proofs.Fault.{block_forward, block_past_end, block_empty, block_too_many, block_within}
use mathlib.Core.Path.{refl}
use borrow.Author.Tests.{eq-eqb, ne_eqb}
use native.Mathlib.Omega.{arith}
use Rattle.block_check.proofs.block_fault.Goals as goal

pub returns-then-i-body : goal.returns-then-i-body
returns-then-i-body c =
    let a = c.args in record {
      value = sym (block_forward a.entries a.i a.before a.node (omega arith));
      x_after = λ p. clash p refl;
    }

pub returns-then-entries-end : goal.returns-then-entries-end
returns-then-entries-end c =
    let a = c.args in record {
      value = sym (block_past_end a.entries a.i a.before a.node (omega arith) (omega arith));
      x_after = λ p. clash p refl;
    }

pub count_name-requires : goal.count_name-requires
count_name-requires c =
    let room = c.requires.room in
    (omega (arith, room.wide), omega (arith, room.room c.args.node.c))

pub returns-then-binds_none : goal.returns-then-binds_none
returns-then-binds_none c =
    let a = c.args in record {
      value = sym (block_empty a.entries a.i a.before a.node (omega arith) (omega arith) (eq-eqb a.node.b 0 (omega arith)));
      x_after = λ p. c.count_name.ensures;
    }

pub returns-then-bound-gt-LIMIT : goal.returns-then-bound-gt-LIMIT
returns-then-bound-gt-LIMIT c =
    let a = c.args in record {
      value = sym (block_too_many a.entries a.i a.before a.node (omega arith) (omega arith) (ne_eqb a.node.b 0 (λ e. omega arith)) (omega arith));
      x_after = λ p. clash p refl;
    }

pub returns : goal.returns
returns c =
    let a = c.args in record {
      value = sym (block_within a.entries a.i a.before a.node (omega arith) (omega arith) (ne_eqb a.node.b 0 (λ e. omega arith)) (omega arith));
      x_after = λ p. c.count_name.ensures;
    }
