-- What comes of a table of which a form is to be written, whichever form: prenex (specs/Outcome.antt) says it of the lift, and lifting's
-- outcome is the one here with the lift's form and sizes (lifted_outcome, proofs/Outcomes.antt).
-- Assumes nothing.
use Rattle.std.specs.Prelude.{Bool, ◌||◌, ◌≡◌, ltb, length}
use Rattle.lists.specs.Parts.{overwrite}
use Rattle.formula.specs.Node.{Table}
use Rattle.refusals.specs.declared.Verdict.{Verdict}
use Rattle.refusals.specs.Outcome.{AnswerWith, Outcome, done, unless_refused, unless_short}
use Rattle.prenex_form.specs.declared.Sizes.{Sizes}
use Rattle.prenex_form.specs.Promise.{SizesOf}
use Rattle.prenex.specs.Outcome.{no_sizes, FormBuffers, form_left}
use Rattle.kept_prefix.specs.Form.{FormOf}

-- Refusal 9, BufferTooShort (document 01: no room): "an output buffer shorter than the size needed" for this form.
unfoldable pub too_short_for : FormBuffers → FormBuffers → Bool
too_short_for form before =
    ltb (length before.nodes) (length form.nodes)
    || ltb (length before.prefix) (length form.prefix)
    || ltb (length before.variables) (length form.variables)

-- The form at the buffers' starts: "words after the last one written keep their content".
unfoldable pub with_form : FormBuffers → FormBuffers → FormBuffers
with_form form before =
    record {
      nodes = overwrite before.nodes 0 form.nodes;
      prefix = overwrite before.prefix 0 form.prefix;
      variables = overwrite before.variables 0 form.variables;
    }

-- What comes of a table with this verdict, of which this form is to be written and these sizes are to be answered: its refusal, then 9, with
-- every buffer as it was; else done.
unfoldable pub form_outcome : Verdict → FormBuffers → Sizes → FormBuffers → Outcome Sizes FormBuffers
form_outcome v form s before =
    unless_refused v no_sizes before
    (unless_short (too_short_for form before) no_sizes before
    (record { answer = done s; buffers = with_form form before }))

-- If done, the sizes that are answered are those of the form that is written.
unfoldable pub SizesAnswered : FormBuffers → AnswerWith Sizes → Type 0
SizesAnswered form a = a.verdict.number ≡ 0 → SizesOf a.sizes form.nodes form.prefix form.variables

-- If done, what stands in the buffers, as far as the sizes say, is what is owed.
unfoldable pub FormOwed : (FormBuffers → Type 0) → Outcome Sizes FormBuffers → Type 0
FormOwed Owed o = o.answer.verdict.number ≡ 0 → Owed (form_left o)

-- What is owed of every form: it is a prenex form of the table.
abbrev pub FormIn : Table → FormBuffers → Type 0
FormIn t form = FormOf t form.nodes form.prefix form.variables
