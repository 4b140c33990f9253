-- Which texts are files if names may be of any size.
-- Assumes nothing.
use Rattle.std.specs.Prelude.{Bool, true, ◌&&◌, List, [], ◌∷◌, ℕ, leb}
use Rattle.qcir.specs.File.{File}
use Rattle.qcir.specs.Spelling.{Sign, word, name, newline, Spells}

-- The text spells the file, without a limit on names: some limit is high enough.
pub record SpellsUnbounded (text : List ℕ) (f : File) : Type 0 where
  pub most : ℕ
  pub spells : Spells most text f

-- No name among the signs is above `most`.
unfoldable pub names_up_to : ℕ → List Sign → Bool
names_up_to most [] = true
names_up_to most (word w ∷ ss) = names_up_to most ss
names_up_to most (name x ∷ ss) = leb x.number most && names_up_to most ss
names_up_to most (newline ∷ ss) = names_up_to most ss
