-- What each writer leaves, by its format, and the room of a text.
-- Assumes nothing.
use mathlib.Core.Path.{◌≡◌}
use mathlib.Core.List.{List}
use Prim.Native.Nat.{ℕ, ◌/◌, ◌≤◌}
use lib.ListN.{length}
use Rattle.formula.specs.Words.{node_count}
use Rattle.formula.specs.Form.{prefix_width}
use Rattle.refusals.specs.Outcome.{Outcome}
use Rattle.form_check.specs.Verdict.{form_verdict}
use Rattle.form_check.specs.Accepted.{AcceptedForm}
use Rattle.form_texts.specs.Writing.{text_outcome}
use Rattle.qcir_form.proofs.Room as qcir_room
use Rattle.qdimacs_form.proofs.Room as qdimacs_room
use Rattle.qcir_writer.specs.Writing as qcir_writing
use Rattle.qdimacs_writer.specs.Writing as qdimacs_writing
use Rattle.form_writer.specs.declared.Format.{Format}
use Rattle.form_writer.specs.declared.Format.TheVariants.{Qcir, Qdimacs}
use Rattle.form_writer.specs.Formats.{text_as, room_as}

module _ (format : Format) (ns ps xs before : List ℕ) (o : Outcome ℕ (List ℕ)) where
  pub as_qcir : format ≡ Qcir → o ≡ qcir_writing.write_outcome ns ps xs before → o ≡ text_outcome (form_verdict ns ps xs) (text_as format ns ps xs) before
  unfolding text_as qcir_writing.write_outcome
  as_qcir f e = rw f e

  pub as_qdimacs : format ≡ Qdimacs → o ≡ qdimacs_writing.write_outcome ns ps xs before → o ≡ text_outcome (form_verdict ns ps xs) (text_as format ns ps xs) before
  unfolding text_as qdimacs_writing.write_outcome
  as_qdimacs f e = rw f e

pub text_room : (format : Format) (ns ps xs : List ℕ) → AcceptedForm ns ps xs
    → length (text_as format ns ps xs) ≤ room_as format (node_count ns) (length ps / prefix_width) (length xs)
unfolding text_as room_as
text_room Qcir ns ps xs a = qcir_room.text_room ns ps xs a
text_room Qdimacs ns ps xs a = qdimacs_room.text_room ns ps xs a
