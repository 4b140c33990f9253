-- The formats by their numbers.
-- Assumes nothing.
use Rattle.std.specs.Prelude.{◌≡◌, ℕ, Option, None, Some}
use Rattle.form_writer.specs.declared.Format.{Format}
use Rattle.form_writer.specs.declared.Format.TheVariants.{Qcir, Qdimacs}

unfoldable pub number_of : Format → ℕ
number_of Qcir = 1
number_of Qdimacs = 2

-- A number names a format, or none.
unfoldable pub Numbers : ℕ → Option Format → Type 0
Numbers number (Some format) = number ≡ number_of format
Numbers number None = (format : Format) → number ≡ number_of format → ⊥

-- What holds of a call with the number of a format, and of one with another number.
pub data InFormat (number : ℕ) (Lifts : Format → Type 0) (Refuses : Type 0) : Type 0 where
  known : (format : Format) → number ≡ number_of format → Lifts format → InFormat number Lifts Refuses
  unknown : ((format : Format) → number ≡ number_of format → ⊥) → Refuses → InFormat number Lifts Refuses
