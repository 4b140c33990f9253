-- `file_line::line_of` meets its contract.
-- Assumes nothing.
use mathlib.Core.Path.{◌≡◌, sym, ap, ◌∙◌}
use Prim.Native.Nat.{ℕ}
use Rattle.refusals.specs.Outcome.{AnswerWith}
use Rattle.prenex_form.specs.declared.Sizes.{Sizes}
use Rattle.prenex.specs.Outcome.{no_sizes, answer_of}
use Rattle.growth.specs.declared.Line.{Line}
use Rattle.growth.specs.Lines.{refused_line}
use Rattle.file_line.specs.FileLine.{line_of}
use Rattle.file_line.proofs.Zeros.{no_sizes_lem}
use Rattle.file_line.proofs.line_of.Goals as goal

-- a line whose answer has no sizes
zeros : (l : Line) (a : AnswerWith Sizes) → l ≡ line_of a → a.sizes ≡ no_sizes → l ≡ refused_line l.number
unfolding line_of refused_line no_sizes
zeros l a e none =
    e ∙ ap (λ (s : Sizes). line_of (record { verdict = a.verdict; sizes = s })) none ∙ ap (λ (n : ℕ). refused_line n) (sym (ap (λ (x : Line). x.number) e))

-- a refused line is that of a refused answer
refuses : (l : Line) (a : AnswerWith Sizes) → l ≡ line_of a → (l.number ≡ 0 → ⊥) → a.verdict.number ≡ 0 → ⊥
unfolding line_of
refuses l a e h zero = h (ap (λ (x : Line). x.number) e ∙ zero)

pub returns : goal.returns
returns c =
    let measured = c.measure_text.ensures in
    let line = c.measured_line.ensures in
    record {
      answer = answer_of c.measure_text.result;
      measured = measured;
      figures = line;
      zeros = λ h. zeros _ _ line (no_sizes_lem _ _ measured.outcome (refuses _ _ line h));
    }
