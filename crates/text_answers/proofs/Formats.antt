-- The numbers that no format has.
-- Assumes nothing.
use mathlib.Core.Path.{◌≡◌}
use Prim.Native.Nat.{ℕ}
use Rattle.form_writer.specs.declared.Format.{Format}
use Rattle.form_writer.specs.declared.Format.TheVariants.{Qcir, Qdimacs}
use Rattle.text_answers.specs.Formats.{number_of}

pub no_format : (number : ℕ) → (number ≡ 1 → ⊥) → (number ≡ 2 → ⊥) → (format : Format) → number ≡ number_of format → ⊥
unfolding number_of
no_format number a b Qcir e = a e
no_format number a b Qdimacs e = b e
