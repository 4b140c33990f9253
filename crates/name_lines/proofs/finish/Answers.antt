-- `name_lines::finish` meets its contract.
-- Assumes nothing.
use mathlib.Core.Path.{◌≡◌, refl, subst}
use native.Mathlib.Omega.{arith}
use Rattle.name_lines.proofs.Verdicts.{passed}
use Rattle.name_lines.proofs.Endings.{taken_refused, taken_all}
use Rattle.name_lines.proofs.finish.Goals as goal

pub returns-then-verdict-ne-ACCEPTED : goal.returns-then-verdict-ne-ACCEPTED
returns-then-verdict-ne-ACCEPTED c = (
  omega arith,
  λ text h. taken_refused text _ _ _ _ h c.judge-verdict.ensures c.if-verdict-ne-ACCEPTED.true refl refl,
)

pub end_line-s-requires : goal.end_line-s-requires
end_line-s-requires c = (passed _ _ (subst (λ v. v.number ≡ 0) c.judge-verdict.ensures c.if-verdict-ne-ACCEPTED.false)).few

pub returns-then-kept-at : goal.returns-then-kept-at
returns-then-kept-at c = (
  omega arith,
  λ text h.
      taken_all text _ _ _ _ _ h c.judge-verdict.ensures
      c.if-verdict-ne-ACCEPTED.false (c.end_line-s.ensures _ h) refl
      (λ fits. absurd (omega (arith, fits, c.if-kept-at.true))),
)

pub returns : goal.returns
returns c = (
  omega (arith, c.if-kept-at.false),
  λ text h.
      taken_all text _ _ _ _ _ h c.judge-verdict.ensures
      c.if-verdict-ne-ACCEPTED.false (c.end_line-s.ensures _ h) refl (λ _. refl),
)
