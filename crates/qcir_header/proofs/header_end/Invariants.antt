-- `qcir_header::header_end` meets its contract. The invariant: the text has the header's bytes so far, and its end is that of what comes from here on.
-- Assumes nothing.
use mathlib.Core.Path.{◌≡◌}
use Prim.Native.Nat.{◌+◌, ◌≤◌, ◌<◌}
use lib.ListN.{length, drop}
use Rattle.qcir.specs.Spelling.{header}
use Rattle.qcir_header.specs.Header.{common, header_end}
use Rattle.qcir_header.proofs.header_end.Given as goal

abbrev pub invariant-loop-i : goal.invariant-loop-i
invariant-loop-i l = (0 < l.i → l.from + l.i ≤ length l.text) × (header_end l.text l.from ≡ l.from + l.i + common (drop l.i header) (drop (l.from + l.i) l.text))
