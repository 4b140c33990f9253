-- From an operation's outcome to the one that C's words say.
-- Assumes nothing.
use mathlib.Core.Path.{◌≡◌, sym, ◌∙◌, ap, subst}
use Rattle.formula.specs.Node.{Table}
use Rattle.refusals.specs.Outcome.{AnswerWith, Outcome}
use Rattle.prenex_form.specs.declared.Sizes.{Sizes}
use Rattle.prenex.specs.Outcome.{SizesWritten}

-- the same outcome with an equal answer
pub said : {Sizes Buffers : Type 0} (a b : AnswerWith Sizes) (held : Buffers) (o : Outcome Sizes Buffers) → a ≡ b
    → record { answer = b; buffers = held } ≡ o → record { answer = a; buffers = held } ≡ o
said {Sizes} {Buffers} a b held o e out = ap (λ (x : AnswerWith Sizes). record { answer = x; buffers = held }) e ∙ out

-- what is promised of it holds of that one too
pub promise_said : {Sizes Buffers : Type 0} (P : Outcome Sizes Buffers → Type 0) (a b : AnswerWith Sizes) (held : Buffers) → a ≡ b
    → P (record { answer = b; buffers = held }) → P (record { answer = a; buffers = held })
promise_said {Sizes} P a b held e = subst (λ (x : AnswerWith Sizes). P (record { answer = x; buffers = held })) (sym e)

-- what is promised of an answer's sizes holds of those of an equal one
pub sizes_said : (t : Table) (a b : AnswerWith Sizes) → a ≡ b → SizesWritten t b → SizesWritten t a
sizes_said t a b e = subst (SizesWritten t) (sym e)
