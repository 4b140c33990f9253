-- What one line more makes of totals.
-- Assumes nothing.
use Rattle.std.specs.Prelude.{not, ◌&&◌, ◌||◌, ◌+◌, eqb}
use Rattle.lists.specs.Choice.{pick}
use Rattle.growth.specs.declared.Line.{Line}
use Rattle.growth.specs.declared.Growth.{Growth}
use Rattle.growth.specs.declared.Totals.{Totals}
use Rattle.growth.specs.Growth.{growth_of, takes_part, less}

-- The growth of the file that grew most, once one file more is there.
unfoldable pub more_grown : Growth → Growth → Growth
more_grown most here = pick (takes_part here && (not (takes_part most) || less most here)) here most

unfoldable pub with_line : Totals → Line → Totals
with_line t l =
    record {
      read = t.read + pick (eqb l.number 22) 0 1;
      refused = t.refused + pick (eqb l.number 0) 0 1;
      n = t.n + l.n;
      b = t.b + l.b;
      q = t.q + l.q;
      depth = t.depth + l.depth;
      nodes = t.nodes + l.nodes;
      variables = t.variables + l.variables;
      most = more_grown t.most (growth_of l);
    }
