-- `form_check::flag_name` meets its contract: x is no name, or flagged already, or its flag is set.
-- Assumes nothing.
use mathlib.Core.Bool.{true, true≢false}
use mathlib.Core.Path.{◌≡◌, sym, ◌∙◌}
use native.Mathlib.Omega.{arith}
use Rattle.acceptance.specs.Verdict.{is_number_to}
use Rattle.form_check.proofs.Flags.{no_name, name_again, name_new, flagged_next, name_below}
use Rattle.form_check.proofs.flag_name.Goals.{Else-not-is_name}
use Rattle.form_check.proofs.flag_name.Goals as goal

pub returns-then-not-is_name : goal.returns-then-not-is_name
returns-then-not-is_name c = λ names f. (no_name names _ _ f _ (sym c.is_name.ensures ∙ c.if-not-is_name.true), λ z. absurd (true≢false (sym z)))

-- past the first test x is a name
is_name : (c : Else-not-is_name) → is_number_to 77823 c.args.x ≡ true
is_name c = sym c.is_name.ensures ∙ c.if-not-is_name.false

pub bounds-bound-at : goal.bounds-bound-at
bounds-bound-at c = omega (arith, name_below _ (is_name (goal.at.bounds-bound-at c).Else-not-is_name), c.requires)

pub returns-then-bound-at-ne0 : goal.returns-then-bound-at-ne0
returns-then-bound-at-ne0 c = λ names f. (name_again names _ _ f _ (is_name (goal.at.returns-then-bound-at-ne0 c).Else-not-is_name) (λ z. omega (arith, c.if-bound-at-ne0.true)), λ z. absurd (true≢false (sym z)))

pub bounds-bound-at-2 : goal.bounds-bound-at-2
bounds-bound-at-2 c = omega (arith, name_below _ (is_name (goal.at.bounds-bound-at-2 c).Else-not-is_name), c.requires)

pub returns : goal.returns
returns c =
    λ names f. (
      name_new names _ _ f _ (is_name (goal.at.returns c).Else-not-is_name) (omega (arith, c.if-bound-at-ne0.false)),
      λ z. flagged_next names _ _ f _ (name_below _ (is_name (goal.at.returns c).Else-not-is_name)) _ c.higher.ensures,
    )
