-- The machine and the grammar: what the machine accepts is what spells a file, its tokens are the file's, and it is alive as long
-- as some file begins with the bytes taken.
-- Assumes nothing.
use mathlib.Core.Path.{◌≡◌}
use mathlib.Core.Bool.{true, false}
use mathlib.Core.List.{List}
use Prim.Native.Nat.{ℕ, ◌*◌, ◌≤◌}
use lib.ListN.{length}
use Rattle.qcir.specs.File.{File}
use Rattle.qcir.specs.Spelling.{Spells, SpellingFault}
use Rattle.qcir_tokens.specs.Tokens.{file_tokens, ascending, numbered}
use Rattle.qcir_spelling.specs.Machine.{start, alive, accepts, tokens_of}
use Rattle.qcir_spelling.proofs.Complete as Complete
use Rattle.qcir_spelling.proofs.Sound as Sound
use Rattle.qcir_spelling.proofs.Live as Live
use Rattle.qcir_spelling.proofs.Unique as Unique
use Rattle.qcir_spelling.proofs.Order as Order
use Rattle.qcir_spelling.proofs.Few as Few

-- A text that spells a file is accepted, and its tokens are the file's.
pub complete : {most : ℕ} {text : List ℕ} {f : File} → Spells most text f → (accepts most text ≡ true) × (tokens_of most text ≡ file_tokens f)
complete s = Complete.complete s

-- An accepted text spells a file.
pub sound : (most : ℕ) (text : List ℕ) → accepts most text ≡ true → Sound.SpelledFile most text
sound most text h = Sound.sound most text h

-- One that is not accepted is refused where the machine is no longer alive.
pub refused : (most : ℕ) (text : List ℕ) → 1 ≤ most → accepts most text ≡ false → SpellingFault most text (alive most start text)
refused most text l h = Live.refused most text l h

-- A text spells at most one file.
pub unique : {most : ℕ} {text : List ℕ} {f g : File} → Spells most text f → Spells most text g → f ≡ g
unique s t = Unique.unique s t

-- The tokens stand in the order of the text.
pub ordered : {most : ℕ} {text : List ℕ} {f : File} → Spells most text f → ascending 0 (file_tokens f) ≡ true
ordered s = Order.ordered s

-- Their numbers are 1 to the limit.
pub ranged : {most : ℕ} {text : List ℕ} {f : File} → Spells most text f → numbered most (file_tokens f) ≡ true
ranged s = Order.ranged s

-- A text has at least two bytes for each token.
pub few : (most : ℕ) (text : List ℕ) → 2 * length (tokens_of most text) ≤ length text
few most text = Few.few most text
