-- `lift_kept::put_front` meets its contract.
-- Assumes nothing.
use Rattle.lift_kept.proofs.Form.{front_at, front_room, front_put, front_words_lem}
use Rattle.lift_kept.proofs.Put.{still_movable, put_done}
use Rattle.lift_kept.proofs.put_front.Goals as goal

pub write_front-requires : goal.write_front-requires
write_front-requires c =
    let ws = c.args.words.now in
    let ls = c.args.list.now in
    let f = c.requires.front_to in record {
      list_value = c.requires.list_value;
      flags = c.requires.flags;
      taken_bound = front_at ws ls c.requires.list_value _ f;
      front_fits = front_room ws ls c.requires.list_value _ f _ _ c.requires.front_room;
    }

pub move_ranges-requires : goal.move_ranges-requires
move_ranges-requires c =
    let ws = c.args.words.now in
    let ls = c.args.list.now in
    let f = c.requires.front_to in
    still_movable _ _ (front_words_lem ws ls c.requires.list_value _ f) _ _ _ _ _ c.requires.front_room c.requires.movable
    (front_put ws ls c.requires.list_value _ f _ _ _ _ c.write_front.ensures)

pub returns : goal.returns
returns c =
    let ws = c.args.words.now in
    let ls = c.args.list.now in
    let f = c.requires.front_to in
    put_done _ _ (front_words_lem ws ls c.requires.list_value _ f) _ _ _ _ _ c.requires.front_room c.requires.movable
    (front_put ws ls c.requires.list_value _ f _ _ _ _ c.write_front.ensures) _ c.move_ranges.ensures
