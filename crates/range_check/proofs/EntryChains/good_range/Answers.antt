-- `range_check::EntryChains::good_range` meets its contract: the loop's invariant is that the entries passed so far are good and chained; an entry that is not new spoils the range.
-- Assumes nothing.
use mathlib.Core.Bool.{true}
use mathlib.Core.Path.{◌≡◌, refl, sym, ◌∙◌}
use native.Mathlib.Omega.{arith}
use Rattle.lists.specs.Choice.{clash}
use Rattle.range_check.proofs.Chains.{chains_none, chains_earlier}
use Rattle.range_check.proofs.Ranges.{good_none, good_more, good_fails}
use Rattle.range_check.proofs.EntryChains.good_range.Goals as goal

pub loop-k-init : goal.loop-k-init
loop-k-init c = (good_none _ _, chains_none _ _ _ _ _ c.requires.ready, refl)

pub returns-then-not-enter : goal.returns-then-not-enter
returns-then-not-enter c =
    let r = sym c.enter.ensures.value ∙ c.if-not-enter.true in record {
      value = sym (good_fails _ _ _ _ c.loop-k-test.true c.requires.count_bound.1 r);
      entries = λ t. clash t refl;
      refused = λ _. c.enter.ensures.entries ∙ c.loop-k.invariant.2;
      ready_2 = λ t. clash t refl;
    }

pub loop-k-preserved : goal.loop-k-preserved
loop-k-preserved c =
    let r = c.enter.ensures in
    let t : c.enter.result ≡ true = c.if-not-enter.false in
    (good_more _ _ _ (omega arith) c.loop-k.invariant.0 (sym r.value ∙ t), r.chains_2 t, r.entries ∙ c.loop-k.invariant.2)

pub returns : goal.returns
returns c =
    let inv = c.loop-k.invariant in
    let e : c.loop-k.k ≡ c.args.count = omega arith in record {
      value = rw (← e) (sym inv.0);
      entries = λ t. refl;
      refused = λ t. clash refl t;
      ready_2 = λ t. rw (← e) (chains_earlier _ _ _ _ _ _ inv.1);
    }
