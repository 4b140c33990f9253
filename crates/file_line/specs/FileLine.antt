-- The line of figures of a QCIR text (request S-13).
-- Assumes nothing.
use Rattle.std.specs.Prelude.{List, ◌≡◌, ℕ}
use Rattle.refusals.specs.Outcome.{AnswerWith}
use Rattle.prenex_form.specs.declared.Sizes.{Sizes}
use Rattle.growth.specs.declared.Line.{Line}
use Rattle.growth.specs.Lines.{refused_line}
use Rattle.lift_text.specs.Measuring.{MeasuresText}

-- "refusal number, n, b, q, depth, nodes written, prefix variables": what measuring answers.
unfoldable pub line_of : AnswerWith Sizes → Line
line_of a =
    record {
      number = a.verdict.number;
      n = a.sizes.n;
      b = a.sizes.b;
      q = a.sizes.q;
      depth = a.sizes.depth;
      nodes = a.sizes.nodes;
      variables = a.sizes.entries;
    }

-- The line is that of the one answer that measuring the text gives, "zeros where refused".
pub record FileLine (text : List ℕ) (l : Line) : Type 0 where
  pub answer : AnswerWith Sizes
  pub measured : MeasuresText text answer
  pub figures : l ≡ line_of answer
  pub zeros : (l.number ≡ 0 → ⊥) → l ≡ refused_line l.number
