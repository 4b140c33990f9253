-- `texts::store_word` meets its contract. The loop's invariant: the first k bytes of the word are stored.
-- Assumes nothing.
use mathlib.Core.Path.{◌≡◌}
use lib.ListN.{take}
use Rattle.lists.specs.Parts.{overwrite}
use Rattle.texts.proofs.store_word.Given as goal

abbrev pub invariant-loop-k : goal.invariant-loop-k
invariant-loop-k l = l.text ≡ overwrite l.initial.text l.at (take l.k l.word)
