-- The text of a prenex form in each of the two formats, and its room.
-- Assumes nothing.
use Rattle.std.specs.Prelude.{List, ℕ}
use Rattle.qcir_form.specs.File.{form_text}
use Rattle.qcir_form.specs.Laws as qcir
use Rattle.qdimacs_form.specs.Clauses.{clauses_text}
use Rattle.qdimacs_form.specs.Laws as qdimacs
use Rattle.form_writer.specs.declared.Format.{Format}
use Rattle.form_writer.specs.declared.Format.TheVariants.{Qcir, Qdimacs}

-- QCIR is request S-5's text, QDIMACS request S-7's.
unfoldable pub text_as : Format → List ℕ → List ℕ → List ℕ → List ℕ
text_as Qcir = form_text
text_as Qdimacs = clauses_text

-- Bytes that are enough for the text of a form with so many nodes, prefix blocks and prefix variables (text_room, proofs/Formats.antt).
unfoldable pub room_as : Format → ℕ → ℕ → ℕ → ℕ
room_as Qcir = qcir.room_for
room_as Qdimacs = qdimacs.room_for
