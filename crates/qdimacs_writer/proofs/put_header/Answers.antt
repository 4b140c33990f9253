-- `qdimacs_writer::put_header` meets its contract.
-- Assumes nothing.
use native.Mathlib.Omega.{arith}
use Rattle.texts.proofs.Put.{put_then}
use Rattle.qdimacs_writer.proofs.put_header.Goals as goal

pub returns : goal.returns
returns c =
    record {
      put = put_then c.put_word-next.ensures (put_then c.put_number-next.ensures.put (put_then c.put_word-next-2.ensures (put_then c.put_number-next-2.ensures.put c.put_word.ensures)));
      upper_bound = omega (arith, c.put_word-next.ensures.counted, c.put_number-next.ensures.upper_bound, c.put_word-next-2.ensures.counted, c.put_number-next-2.ensures.upper_bound, c.put_word.ensures.counted);
    }
