-- `qdimacs_writer::put_text` meets its contract: its pieces one after the other.
-- Assumes nothing.
use native.Mathlib.Omega.{arith}
use Rattle.qdimacs_prefix.proofs.Held.{form_held}
use Rattle.qdimacs_writer.proofs.Pieces.{next_some, next_low, gates_follow, words_held, put_pieces}
use Rattle.qdimacs_writer.proofs.put_text.Goals as goal

pub overflow_sub-outline : goal.overflow_sub-outline
overflow_sub-outline c = next_some _ _ _ _ _ _ c.requires

pub put_header-next-requires : goal.put_header-next-requires
put_header-next-requires c =
    let h = c.requires in
    (omega (arith, next_low _ _ _ _ _ _ h), omega (arith, h.few))

pub put_blocks-next-requires : goal.put_blocks-next-requires
put_blocks-next-requires c =
    let h = c.requires in record {
      prefix_held = form_held _ _ _ h.form;
      highest_in_bounds = (omega (arith, h.free.below, h.free.size), omega (arith, h.free.size));
      first_le_end = (gates_follow _ _ _ _ _ _ h, omega (arith, next_low _ _ _ _ _ _ h), omega (arith, c.put_header-next.ensures.upper_bound));
    }

pub put_gates-next-requires : goal.put_gates-next-requires
put_gates-next-requires c =
    let h = c.requires in record {
      accepted_within = h.form.matrix;
      words_held = words_held _ _ _ _ _ _ h;
      at_le_last_line = c.put_blocks-next.ensures.upper_bound;
    }

pub put_root-requires : goal.put_root-requires
put_root-requires c =
    let h = c.requires in record {
      accepted_within = h.form.matrix;
      words_held = words_held _ _ _ _ _ _ h;
      at_le_last_piece = omega (arith, c.put_gates-next.ensures.upper_bound, c.put_blocks-next.ensures.upper_bound, h.form.matrix.nodes_limit);
    }

pub returns : goal.returns
returns c =
    let h = c.requires in
    put_pieces _ _ _ _ _ _ h c.put_header-next.ensures.put c.put_blocks-next.ensures.loose (c.put_gates-next.ensures.loose (words_held _ _ _ _ _ _ h)) (c.put_root.ensures (words_held _ _ _ _ _ _ h))
