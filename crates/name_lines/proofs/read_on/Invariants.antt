use mathlib.Core.List.{List, ◌++◌}
use Prim.Native.Nat.{ℕ}
use lib.ListN.{take}
use Rattle.name_lines.specs.Kept.{HasRead}
use Rattle.name_lines.proofs.read_on.Given as goal

abbrev pub invariant-loop-byte : goal.invariant-loop-byte
invariant-loop-byte l = (text : List ℕ) → HasRead text l.initial.s l.initial.kept → HasRead (text ++ take l.byte-index l.part) l.s l.kept
