-- `lift_kept::with_flags` meets its contract.
-- Assumes nothing.
use Rattle.leading_blocks.proofs.Flags.{flags_none}
use Rattle.lift_kept.proofs.Put.{counted, put_asks, put_does}
use Rattle.lift_kept.proofs.with_flags.Goals as goal

pub flag_standing-requires : goal.flag_standing-requires
flag_standing-requires c =
    record {
      list_value = c.requires.list_value;
      flags = flags_none;
    }

pub put_front-requires : goal.put_front-requires
put_front-requires c = let w = put_asks _ _ _ _ _ _ c.in-Put.is c.requires.doable in record { list_value = c.requires.list_value; flags = c.flag_standing.ensures; front_to = w.0; front_room = w.1.0; movable = w.1.1 }

pub returns-in-Count : goal.returns-in-Count
returns-in-Count c = counted _ _ _ _ _ c.in-Count.is c.find_front.ensures

pub returns-in-Put : goal.returns-in-Put
returns-in-Put c = put_does _ _ _ _ _ _ _ _ _ c.in-Put.is c.put_front.ensures
