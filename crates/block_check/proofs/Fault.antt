-- Laws of a block's fault: by the tests of the code, and what holds of a block past which a pass may go on.
-- Assumes nothing.
use mathlib.Core.Path.{◌≡◌, refl, ◌∙◌}
use mathlib.Core.Bool.{Bool, true, false}
use Prim.Native.Nat.{ℕ, ◌+◌, ◌≤◌, ◌<◌}
use native.Mathlib.Omega.{arith}
use lib.Dec.{eqb, ltb}
use borrow.Author.Tests.{eqb-true, ne_eqb, ltb-false, lt-ltb, le-ltb, le-leb, lt-leb, leb-false}
use Rattle.lists.specs.Choice.{pick, pick_yes, pick_no, Is, is_true, is_false, look, clash}
use Rattle.formula.specs.declared.NodeWords.{NodeWords}
use Rattle.acceptance.specs.Limits.{limit}
use Rattle.block_check.specs.Fault.{block_fault, passable}

-- a choice between the number of a refusal and what comes after, where a pass may go on
clear : (t : Bool) (n rest : ℕ) → passable n ≡ false → passable (pick t n rest) ≡ true → (t ≡ false) × (passable rest ≡ true)
unfolding pick
clear true n rest f p = clash p f
clear false n rest f p = (refl, p)

-- 16 is the answer of its own test
empty_from : (t4 t5 t16 t6 : Bool) → let fault : ℕ = pick t4 4 (pick t5 5 (pick t16 16 (pick t6 6 0))) in fault ≡ 16 → t16 ≡ true
unfolding pick
empty_from true t5 t16 t6 e = absurd (omega arith)
empty_from false true t16 t6 e = absurd (omega arith)
empty_from false false true t6 e = refl
empty_from false false false true e = absurd (omega arith)
empty_from false false false false e = absurd (omega arith)

-- A block at node i above blocks that bind `before` variables, with a list of so many entries.
module _ (entries i before : ℕ) (w : NodeWords) where
  pub block_forward : i ≤ w.c → block_fault entries i before w ≡ 4
  unfolding block_fault
  block_forward h = pick_yes _ _ _ (le-leb i w.c h)

  module _ (l : w.c < i) where
    pub block_past_end : entries < w.a + w.b → block_fault entries i before w ≡ 5
    unfolding block_fault
    block_past_end h = pick_no _ _ _ (lt-leb i w.c l) ∙ pick_yes _ _ _ (lt-ltb _ _ h)

    module _ (f : w.a + w.b ≤ entries) where
      pub block_empty : eqb w.b 0 ≡ true → block_fault entries i before w ≡ 16
      unfolding block_fault
      block_empty h = pick_no _ _ _ (lt-leb i w.c l) ∙ pick_no _ _ _ (le-ltb _ _ f) ∙ pick_yes _ _ _ h

      -- past refusals 4, 5 and 16
      module _ (s : eqb w.b 0 ≡ false) where
        past : block_fault entries i before w ≡ pick (ltb limit (before + w.b)) 6 0
        unfolding block_fault
        past = pick_no _ _ _ (lt-leb i w.c l) ∙ pick_no _ _ _ (le-ltb _ _ f) ∙ pick_no _ _ _ s

        pub block_too_many : limit < before + w.b → block_fault entries i before w ≡ 6
        block_too_many h = past ∙ pick_yes _ _ _ (lt-ltb _ _ h)

        pub block_within : before + w.b ≤ limit → block_fault entries i before w ≡ 0
        block_within m = past ∙ pick_no _ _ _ (le-ltb _ _ m)

  binds_none : block_fault entries i before w ≡ 16 → w.b ≡ 0
  unfolding block_fault
  binds_none e = eqb-true w.b 0 (empty_from _ _ _ _ e)

  -- a block with a refusal past which a pass may go on is empty
  pub block_adds_none : (block_fault entries i before w ≡ 0 → ⊥) → passable (block_fault entries i before w) ≡ true → before + w.b ≡ before
  block_adds_none f p =
      let fault = block_fault entries i before w in
      let e = eqb-true fault 16 (rw (ne_eqb fault 0 f) at p) in omega (arith, binds_none e)

  -- the counts stay within the limit, as an empty block adds nothing
  counts_within : Is (eqb w.b 0) → before ≤ limit
      → passable (pick (eqb w.b 0) 16 (pick (ltb limit (before + w.b)) 6 0)) ≡ true → before + w.b ≤ limit
  counts_within (is_true t) m p = omega (arith, eqb-true w.b 0 t)
  counts_within (is_false t) m p = ltb-false _ _ (clear _ 6 _ refl (rw (pick_no _ _ _ t) at p)).0

  -- what holds of a block past which a pass may go on
  pub block_clear : before ≤ limit → passable (block_fault entries i before w) ≡ true
      → (w.c < i) × (w.a + w.b ≤ entries) × (before + w.b ≤ limit)
  unfolding block_fault
  block_clear m p =
      let past4 = clear _ 4 _ refl p in
      let past5 = clear _ 5 _ refl past4.1 in
      (leb-false _ _ past4.0, ltb-false _ _ past5.0, counts_within (look (eqb w.b 0)) m past5.1)
