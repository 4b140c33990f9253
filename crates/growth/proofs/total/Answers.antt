-- `growth::total` meets its contract.
-- Assumes nothing.
use mathlib.Core.Path.{◌≡◌, refl, sym, ◌∙◌}
use mathlib.Core.List.{List}
use Prim.Native.Nat.{ℕ, ◌/◌, ◌%◌, ◌≤◌, ◌<◌}
use native.Mathlib.Omega.{arith}
use lib.ListN.{length}
use borrow.Author.Tests.{eq-eqb, ne_eqb, lt-ltb, le-ltb}
use Rattle.lists.specs.Choice.{pick_yes, pick_no}
use Rattle.refusals.specs.Verdict.{refusal, accepted}
use Rattle.refusals.specs.Outcome.{refused as refused_of, done}
use Rattle.refusals.proofs.Outcome.{answer_next, answer_refused}
use Rattle.growth.specs.Lines.{line_width, line_at}
use Rattle.growth.specs.Totals.{totals as totals_of, no_totals, lines_verdict, totalled}
use Rattle.growth.proofs.total.Goals as goal

-- what comes of words that are no whole lines, of too many lines, and of lines that are taken
module _ (ws : List ℕ) where
  cut : (length ws % line_width ≡ 0 → ⊥) → totalled ws ≡ refused_of (refusal 1 0) no_totals
  unfolding totalled lines_verdict refusal
  cut h =
      let v : lines_verdict ws ≡ refusal 1 0 = pick_no _ _ _ (ne_eqb _ _ h) in
      rw v (answer_refused (refusal 1 0) no_totals _ (λ z. omega arith))

  module _ (whole : length ws % line_width ≡ 0) where
    many : 256 < length ws / line_width → totalled ws ≡ refused_of (refusal 20 0) no_totals
    unfolding totalled lines_verdict refusal
    many h =
        let v : lines_verdict ws ≡ refusal 20 0 = pick_yes _ _ _ (eq-eqb _ _ whole) ∙ pick_yes _ _ _ (lt-ltb _ _ h) in
        rw v (answer_refused (refusal 20 0) no_totals _ (λ z. omega arith))

    taken : length ws / line_width ≤ 256 → totalled ws ≡ done (totals_of (line_at ws) (length ws / line_width))
    unfolding totalled lines_verdict accepted
    taken h =
        let v : lines_verdict ws ≡ accepted = pick_yes _ _ _ (eq-eqb _ _ whole) ∙ pick_no _ _ _ (le-ltb _ _ h) in
        rw v (answer_next accepted no_totals _ refl)

pub returns-then-lines-ne0 : goal.returns-then-lines-ne0
returns-then-lines-ne0 c = c.refused.ensures ∙ sym (cut _ c.if-lines-ne0.true)

pub returns-then-count-gt-LINES : goal.returns-then-count-gt-LINES
returns-then-count-gt-LINES c =
    let ws = c.args.lines.now in
    let over : 256 < length ws / line_width = omega (arith, c.if-count-gt-LINES.true) in
    c.refused-then-count-gt-LINES.ensures ∙ sym (many ws c.if-lines-ne0.false over)

pub total_lines-totals-requires : goal.total_lines-totals-requires
total_lines-totals-requires c = (omega arith, omega arith)

pub returns : goal.returns
unfolding done
returns c =
    let ws = c.args.lines.now in
    let few : length ws / line_width ≤ 256 = omega (arith, c.if-count-gt-LINES.false) in
    (λ k. record { verdict = c.accepted-verdict.ensures k; sizes = c.total_lines-totals.ensures k })
    ∙ sym (taken ws c.if-lines-ne0.false few)
