-- What lines of figures come to (request S-13).
-- Assumes nothing.
use Rattle.std.specs.Prelude.{List, [], ◌∷◌, ℕ, ◌/◌, ◌%◌, eqb, ltb, length}
use Rattle.lists.specs.Choice.{pick}
use Rattle.lists.specs.Parts.{sum}
use Rattle.refusals.specs.Verdict.{refusal, accepted}
use Rattle.refusals.specs.declared.Verdict.{Verdict}
use Rattle.refusals.specs.Outcome.{AnswerWith, done, answer_unless_refused}
use Rattle.growth.specs.declared.Line.{Line}
use Rattle.growth.specs.declared.Totals.{Totals}
use Rattle.growth.specs.declared.Answer.{Answer}
use Rattle.growth.specs.Lines.{line_width, line_at}
use Rattle.growth.specs.Growth.{growth_of, no_growth, most_growth}

-- "files read (all but 22), files with a refusal (22 too), the six sums, and the written and input nodes of the file that grew most"
unfoldable pub totals : (ℕ → Line) → ℕ → Totals
totals ls n =
    record {
      read = sum (λ i. pick (eqb (ls i).number 22) 0 1) n;
      refused = sum (λ i. pick (eqb (ls i).number 0) 0 1) n;
      n = sum (λ i. (ls i).n) n;
      b = sum (λ i. (ls i).b) n;
      q = sum (λ i. (ls i).q) n;
      depth = sum (λ i. (ls i).depth) n;
      nodes = sum (λ i. (ls i).nodes) n;
      variables = sum (λ i. (ls i).variables) n;
      most = most_growth (λ i. growth_of (ls i)) n;
    }

unfoldable pub no_totals : Totals
no_totals = record { read = 0; refused = 0; n = 0; b = 0; q = 0; depth = 0; nodes = 0; variables = 0; most = no_growth }

-- The figures of totals in their order.
unfoldable pub total_figures : Totals → List ℕ
total_figures t =
    t.read
    ∷ t.refused
    ∷ t.n
    ∷ t.b
    ∷ t.q
    ∷ t.depth
    ∷ t.nodes
    ∷ t.variables
    ∷ t.most.written
    ∷ t.most.input
    ∷ []

-- "any list of up to 256 lines": 1 for words that are no whole lines, then 20 for more than 256 lines.
unfoldable pub lines_verdict : List ℕ → Verdict
lines_verdict ws =
    pick (eqb (length ws % line_width) 0) (pick (ltb 256 (length ws / line_width)) (refusal 20 0) accepted)
    (refusal 1 0)

abbrev pub answer_of : Answer → AnswerWith Totals
answer_of a = record { verdict = a.verdict; sizes = a.totals }

-- What comes of a list of words.
unfoldable pub totalled : List ℕ → AnswerWith Totals
totalled ws = answer_unless_refused (lines_verdict ws) no_totals (done (totals (line_at ws) (length ws / line_width)))
