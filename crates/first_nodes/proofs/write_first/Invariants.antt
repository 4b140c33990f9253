-- `first_nodes::write_first` meets its contract. The loop's invariant: the first i nodes are written, and the inner blocks among
-- them have their definition variables.
-- Assumes nothing.
use mathlib.Core.Path.{◌≡◌}
use Rattle.lists.specs.Parts.{overwrite}
use Rattle.formula.specs.Words.{table_of}
use Rattle.first_nodes.specs.Given.{Counted, DefinedBelow}
use Rattle.first_nodes.proofs.Renamed.{first_words}
use Rattle.first_nodes.proofs.write_first.Given as goal

abbrev pub invariant-loop-i : goal.invariant-loop-i
invariant-loop-i l = (l.nodes ≡ overwrite l.initial.nodes 0 (first_words (table_of l.renaming.words.now l.renaming.list.now) l.i))
    × Counted l.renaming.words.now l.renaming.list.now l.i l.definitions l.counter
    × DefinedBelow (table_of l.renaming.words.now l.renaming.list.now) l.i l.definitions
