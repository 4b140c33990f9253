-- `leading_blocks::find_front` meets its contract: no flag is set at first.
-- Assumes nothing.
use Rattle.leading_blocks.proofs.Flags.{flags_none}
use Rattle.leading_blocks.proofs.find_front.Goals as goal

pub take_blocks-requires : goal.take_blocks-requires
take_blocks-requires c =
    record {
      list_value = c.requires.list_value;
      flags = c.requires.flags;
      flags_2 = flags_none;
    }
