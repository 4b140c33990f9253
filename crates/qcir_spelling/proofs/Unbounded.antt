-- A text spells at most one file, whatever the limits on names.
-- Assumes nothing.
use Prim.Native.Nat.{max}
use native.Mathlib.Omega.{arith}
use Rattle.qcir.specs.Laws.{UniqueAny, UniqueUnbounded}
use Rattle.qcir.proofs.Bounds.{spells_more}
use Rattle.qcir_spelling.proofs.Unique.{unique}

pub unique_any : UniqueAny
unique_any a b text f g s t =
    unique (spells_more a (max a b) text f (omega arith) s) (spells_more b (max a b) text g (omega arith) t)

pub unique_unbounded : UniqueUnbounded
unique_unbounded text f g s t = unique_any s.most t.most text f g s.spells t.spells
