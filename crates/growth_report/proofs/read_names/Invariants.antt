-- `growth_report::read_names` meets its contract. The loop's invariant: what has been read since it began is what the reader gave.
-- Assumes nothing.
use Rattle.std.proofs.Common.{◌≡◌, ℕ, List, ◌++◌, false}
use Rattle.std.specs.Prelude.{IsNone}
use Rattle.std.specs.Io.KnownBytes.{Consumes, IsAtEnd}
use Rattle.name_lines.specs.Kept.{HasRead}
use Rattle.growth_report.proofs.read_names.Given as goal

abbrev pub invariant-loop : goal.invariant-loop
invariant-loop g l = ((first : List ℕ) → HasRead first l.initial.p.state l.initial.kept
    → ((part : List ℕ) × HasRead (first ++ part) l.p.state l.kept × Consumes (g.R.Read.remaining l.initial.from) (g.R.Read.remaining l.from) part))
    × (l.p.more ≡ false → IsNone l.p.failed → IsAtEnd (g.R.Read.remaining l.from))
