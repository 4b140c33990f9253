-- `table_check::block_node_fault` meets its contract: where none of the refusals of `block_fault` applies, the range is in the list and
-- within the limit, so that its entries can be tested; where 16 does, there are none.
-- Assumes nothing.
use mathlib.Core.Path.{refl, sym, ◌∙◌}
use Rattle.lists.specs.Choice.{clash, or_left}
use Rattle.block_check.proofs.Fault.{block_adds_none, block_clear}
use Rattle.table_check.proofs.Faults.{block_refused, block_bad, block_good}
use Rattle.tree_check.proofs.Named.{names_block}
use borrow.Author.Tests.{eq-eqb}
use Rattle.table_check.proofs.block_node_fault.Goals as goal

pub block_fault-fault-requires : goal.block_fault-fault-requires
block_fault-fault-requires c =
    record {
      before_le_limit = c.requires.entries_le_limit;
      room = c.requires.room;
    }

pub returns-then-fault-ne-ACCEPTED : goal.returns-then-fault-ne-ACCEPTED
returns-then-fault-ne-ACCEPTED c =
    let a = c.args in
    let e = c.block_fault-fault.ensures.value in
    let f = rw e at c.if-fault-ne-ACCEPTED.true in
    let none = block_adds_none _ a.i a.chains.now.entries a.node f in
    let body = names_block a.node c.requires.kind_value in
    let named = c.block_fault-fault.ensures.x_after in record {
      value = e ∙ sym (block_refused _ _ _ _ f);
      entries_after = λ p. sym (none (rw e at p));
      ready_2 = λ p. c.requires.ready;
      x_after = λ p x. rw body (named p x);
    }

pub good_range-requires : goal.good_range-requires
good_range-requires c =
    let e = sym c.block_fault-fault.ensures.value ∙ c.if-fault-ne-ACCEPTED.false in
    let r = block_clear _ _ _ c.args.node c.requires.entries_le_limit (or_left _ _ (eq-eqb _ 0 e)) in record {
      count_bound = (r.2, r.1);
      ready = c.requires.ready;
    }

pub returns-then-not-good_range : goal.returns-then-not-good_range
returns-then-not-good_range c =
    let e = sym c.block_fault-fault.ensures.value ∙ c.if-fault-ne-ACCEPTED.false in
    let g = sym c.good_range.ensures.value ∙ c.if-not-good_range.true in record {
      value = sym (block_bad _ _ _ _ e g);
      entries_after = λ p. clash p refl;
      ready_2 = λ p. clash p refl;
      x_after = λ p. clash p refl;
    }

pub returns : goal.returns
returns c =
    let z = c.if-fault-ne-ACCEPTED.false in
    let r = c.good_range.ensures in
    let g = c.if-not-good_range.false in
    let body = names_block c.args.node c.requires.kind_value in
    let named = c.block_fault-fault.ensures.x_after (or_left _ _ (eq-eqb _ 0 z)) in record {
      value = sym (block_good _ _ _ _ (sym c.block_fault-fault.ensures.value ∙ z) (sym r.value ∙ g));
      entries_after = λ p. r.entries g;
      ready_2 = λ p. r.ready_2 g;
      x_after = λ p x. rw body (named x);
    }
