-- `qdimacs_words::store_end` meets its contract.
-- Assumes nothing.
use native.Mathlib.Omega.{arith}
use mathlib.Core.Path.{refl}
use lib.ListN.{length-set}
use Rattle.qdimacs_words.proofs.Pieces.{end_stored}
use Rattle.qdimacs_words.proofs.store_end.Goals as goal

pub bounds-text-at-2 : goal.bounds-text-at-2
bounds-text-at-2 c = simp length-set (omega arith)

pub returns : goal.returns
returns c =
    record {
      loose = end_stored c.args.text.now c.args.at 48 10 c.requires;
      value = refl;
    }
