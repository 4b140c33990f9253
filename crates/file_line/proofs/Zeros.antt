-- The figures of a text that is refused are zeros.
-- Assumes nothing.
use mathlib.Core.List.{List}
use mathlib.Core.Path.{◌≡◌, refl}
use Prim.Native.Nat.{ℕ}
use Rattle.refusals.specs.Verdict.{accepted}
use Rattle.refusals.specs.Outcome.{AnswerWith, Outcome, refused, done}
use Rattle.prenex_form.specs.declared.Sizes.{Sizes}
use Rattle.prenex.specs.Outcome.{no_sizes}
use Rattle.qcir.specs.FromText.{limits, refused_text}
use Rattle.qcir.proofs.Answers.{from_text}
use Rattle.lift_text.specs.Measuring.{alone, measured_table, Measuring}

pub no_sizes_lem : (text : List ℕ) (a : AnswerWith Sizes) → Measuring text a → (a.verdict.number ≡ 0 → ⊥) → a.sizes ≡ no_sizes
unfolding refused_text refused measured_table done accepted
no_sizes_lem text a h =
    from_text limits no_sizes tt measured_table text (λ (o : Outcome Sizes (Unit {0})). (o.answer.verdict.number ≡ 0 → ⊥) → o.answer.sizes ≡ no_sizes)
    (λ number position m n. refl) (λ f s n z refuses. absurd (refuses refl)) (alone a) h
