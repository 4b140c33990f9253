-- What measuring and lifting answer and leave in the lent buffers (document 01, "When the lifter says no").
-- Assumes nothing.
use Rattle.std.specs.Prelude.{Bool, ◌||◌, List, ◌≡◌, ℕ, ◌*◌, ltb, length, take}
use Rattle.std.specs.Borrow.{Bor}
use Rattle.lists.specs.Parts.{overwrite}
use Rattle.formula.specs.Node.{Table}
use Rattle.formula.specs.Words.{width, table_of}
use Rattle.formula.specs.Form.{prefix_width}
use Rattle.refusals.specs.Outcome.{AnswerWith, Outcome, done, answer_unless_refused, unless_refused, unless_short}
use Rattle.acceptance.specs.Verdict.{verdict}
use Rattle.prenex_form.specs.declared.Sizes.{Sizes}
use Rattle.prenex_form.specs.Matrix.{written_nodes}
use Rattle.prenex_form.specs.Prefix.{written_prefix, written_variables}
use Rattle.prenex_form.specs.Sizes.{sizes}
use Rattle.prenex_form.specs.Promise.{PrenexOf, SizesOf}
use Rattle.prenex.specs.declared.Answer.{Answer}

-- The table in two lent slices, its words and its list.
abbrev pub table_in : Bor (List ℕ) → Bor (List ℕ) → Table
table_in words list = table_of words.now list.now

-- "On refusal all sizes .. are 0."
unfoldable pub no_sizes : Sizes
no_sizes = record { n = 0; b = 0; q = 0; depth = 0; nodes = 0; blocks = 0; entries = 0 }

abbrev pub answer_of : Answer → AnswerWith Sizes
answer_of r = record { verdict = r.verdict; sizes = r.sizes }

-- Refusals 1 to 8 and 16. "Measuring never gives 9."
unfoldable pub measured : List ℕ → List ℕ → AnswerWith Sizes
measured ws ls = answer_unless_refused (verdict ws ls) no_sizes (done (sizes (table_of ws ls)))

-- The three buffers of a lift.
pub record FormBuffers : Type 0 where
  pub nodes : List ℕ
  pub prefix : List ℕ
  pub variables : List ℕ

abbrev pub buffers : List ℕ → List ℕ → List ℕ → FormBuffers
buffers nodes prefix variables = record { nodes = nodes; prefix = prefix; variables = variables }

-- The written form of a table: the words of its nodes, its prefix and its list.
abbrev pub written_form : Table → FormBuffers
written_form t = buffers (written_nodes t) (written_prefix t) (written_variables t)

-- Refusal 9, BufferTooShort (document 01: no room): "an output buffer shorter than the size needed".
unfoldable pub too_short : Table → FormBuffers → Bool
too_short t before =
    ltb (length before.nodes) (length (written_nodes t))
    || ltb (length before.prefix) (length (written_prefix t))
    || ltb (length before.variables) (length (written_variables t))

-- The written form at the buffers' starts: "words after the last one written keep their content".
unfoldable pub written : Table → FormBuffers → FormBuffers
written t before =
    record {
      nodes = overwrite before.nodes 0 (written_nodes t);
      prefix = overwrite before.prefix 0 (written_prefix t);
      variables = overwrite before.variables 0 (written_variables t);
    }

-- Refusals 1 to 8 and 16, then 9, with every buffer as it was; else done.
unfoldable pub lifted : List ℕ → List ℕ → FormBuffers → Outcome Sizes FormBuffers
lifted ws ls before =
    let t = table_of ws ls in
    unless_refused (verdict ws ls) no_sizes before
    (unless_short (too_short t before) no_sizes before
    (record { answer = done (sizes t); buffers = written t before }))

-- An answer of the code, and what the buffers hold with it.
abbrev pub after : Answer → FormBuffers → Outcome Sizes FormBuffers
after r held = record { answer = answer_of r; buffers = held }

-- If done, the sizes that are answered are those of what lifting writes.
unfoldable pub SizesWritten : Table → AnswerWith Sizes → Type 0
SizesWritten t a = a.verdict.number ≡ 0 → SizesOf a.sizes (written_nodes t) (written_prefix t) (written_variables t)

-- What stands in the buffers, as far as the sizes say.
abbrev pub form_left : Outcome Sizes FormBuffers → FormBuffers
form_left o =
    let s = o.answer.sizes in
    let held = o.buffers in
    buffers (take (width * s.nodes) held.nodes) (take (prefix_width * s.blocks) held.prefix) (take s.entries held.variables)

-- If done, that is a prenex form of the table.
unfoldable pub FormWritten : Table → Outcome Sizes FormBuffers → Type 0
FormWritten t o =
    let form = form_left o in
    o.answer.verdict.number ≡ 0 → PrenexOf t form.nodes form.prefix form.variables
