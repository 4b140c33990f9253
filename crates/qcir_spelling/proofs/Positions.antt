-- A text says at most one file, apart from positions.
-- Assumes nothing.
use mathlib.Core.Path.{sym, ◌∙◌, ap}
use Rattle.qcir.specs.Positions.{unplaced, OneSaid}
use Rattle.qcir_spelling.proofs.Unbounded.{unique_any}

pub one_said : OneSaid
one_said a b text f g s t = sym s.same ∙ ap unplaced (unique_any a b text s.placed t.placed s.spells t.spells) ∙ t.same
