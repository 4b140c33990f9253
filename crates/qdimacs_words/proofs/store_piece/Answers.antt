-- `qdimacs_words::store_piece` meets its contract.
-- Assumes nothing.
use mathlib.Core.Path.{refl}
use Rattle.qdimacs_words.proofs.Pieces.{piece_stored}
use Rattle.qdimacs_words.proofs.store_piece.Goals as goal

pub returns : goal.returns
returns c =
    let p = c.requires in record {
      by_index = λ bytes h. piece_stored _ _ bytes _ _ h p.1 p.0 c.store_eight.ensures;
      value = refl;
    }
