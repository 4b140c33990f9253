-- A text spells at most one file: a file is known by its tokens.
-- Assumes nothing.
use mathlib.Core.Path.{◌≡◌, sym, ◌∙◌}
use mathlib.Core.List.{List}
use Prim.Native.Nat.{ℕ}
use Rattle.qcir.specs.File.{File}
use Rattle.qcir.specs.Spelling.{Spells}
use Rattle.qcir_tokens.proofs.Files.{tokens_injective}
use Rattle.qcir_spelling.proofs.Complete.{complete}

pub unique : {most : ℕ} {text : List ℕ} {f g : File} → Spells most text f → Spells most text g → f ≡ g
unique {most} {text} {f} {g} s t = tokens_injective f g (sym (complete s).1 ∙ (complete t).1)
