-- `qcir_table::write_line` meets its contract: the entries, then the block.
-- Assumes nothing.
use Rattle.qcir_table.proofs.Lines.{line_wrote}
use Rattle.qcir_table.proofs.write_line.Goals as goal

pub returns : goal.returns
returns c =
    record {
      wrote = line_wrote _ _ _ (rw c.line_block_kind.ensures at c.block_node-block.ensures) c.write_node.ensures;
      list_after = c.copy_numbers.ensures;
    }
