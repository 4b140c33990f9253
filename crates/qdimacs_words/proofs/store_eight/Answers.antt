-- `qdimacs_words::store_eight` meets its contract. The word is taken by `omega`, so that an edit of it falls at its value and not at its form.
-- Assumes nothing.
use mathlib.Core.Path.{◌∙◌, ap}
use native.Mathlib.Omega.{arith}
use Rattle.std.specs.Int.{w64, to_le_bytes}
use Rattle.qdimacs_words.proofs.Pieces.{word_stored}
use Rattle.qdimacs_words.proofs.store_eight.Goals as goal

pub returns : goal.returns
returns c = word_stored c.args.text.now _ c.args.at _ c.args.word (omega arith) (c.copy_from_slice.ensures.after ∙ c.to_le_bytes.ensures ∙ ap (to_le_bytes w64) (omega arith))
