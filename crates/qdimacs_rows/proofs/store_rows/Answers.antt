-- `qdimacs_rows::store_rows` meets its contract: after each row there is room for those that follow.
-- Assumes nothing.
use Rattle.formula.specs.Truth.{operator_value}
use Rattle.qdimacs_words.proofs.Loose.{loose_then, loose_as}
use Rattle.qdimacs_rows.proofs.Lines.{two_lines, bit_none, bit_right, bit_left, bit_both, says}
use Rattle.qdimacs_rows.proofs.Rooms.{two_room, room_first, room_after, three_room}
use Rattle.qdimacs_rows.proofs.store_rows.Goals as goal

pub store_three-next-requires-clause-length_in_bounds : goal.store_three-next-requires-clause-length_in_bounds
store_three-next-requires-clause-length_in_bounds c =
    let p = c.requires.some_word in
    let l = c.literal-left.ensures.by_index p.1.0 p.1.1 in
    let r = c.literal-right.ensures.by_index p.2.0 p.2.1 in
    let h1 = says _ (bit_none c.args.table) (c.literal-none.ensures.by_index p.0.0 p.0.1) in
    let all = two_room c.args.text.now p.0.0 (operator_value c.args.table) p.1.0 p.2.0 _ (c.requires.by_index p.0.0 p.1.0 p.2.0 p.0.1 p.1.1 p.2.1) in
    three_room l r h1 (room_first _ _ all)

pub store_three-next-requires-2-clause-length_in_bounds : goal.store_three-next-requires-2-clause-length_in_bounds
store_three-next-requires-2-clause-length_in_bounds c =
    let p = c.requires.some_word in
    let l = c.literal-left.ensures.by_index p.1.0 p.1.1 in
    let r = c.literal-right.ensures.by_index p.2.0 p.2.1 in
    let q = c.literal-turned_right.ensures.by_index p.2.0 p.2.1 in
    let h1 = says _ (bit_none c.args.table) (c.literal-none.ensures.by_index p.0.0 p.0.1) in
    let h2 = says _ (bit_right c.args.table) (c.literal-right_only.ensures.by_index p.0.0 p.0.1) in
    let all = two_room c.args.text.now p.0.0 (operator_value c.args.table) p.1.0 p.2.0 _ (c.requires.by_index p.0.0 p.1.0 p.2.0 p.0.1 p.1.1 p.2.1) in
    let room1 = room_after _ (c.store_three-next.ensures.by_index _ _ _ l r h1) all in
    three_room l q h2 (room_first _ _ room1)

pub store_three-next-requires-3-clause-length_in_bounds : goal.store_three-next-requires-3-clause-length_in_bounds
store_three-next-requires-3-clause-length_in_bounds c =
    let p = c.requires.some_word in
    let l = c.literal-left.ensures.by_index p.1.0 p.1.1 in
    let r = c.literal-right.ensures.by_index p.2.0 p.2.1 in
    let m = c.literal-turned_left.ensures.by_index p.1.0 p.1.1 in
    let q = c.literal-turned_right.ensures.by_index p.2.0 p.2.1 in
    let h1 = says _ (bit_none c.args.table) (c.literal-none.ensures.by_index p.0.0 p.0.1) in
    let h2 = says _ (bit_right c.args.table) (c.literal-right_only.ensures.by_index p.0.0 p.0.1) in
    let h3 = says _ (bit_left c.args.table) (c.literal-left_only.ensures.by_index p.0.0 p.0.1) in
    let all = two_room c.args.text.now p.0.0 (operator_value c.args.table) p.1.0 p.2.0 _ (c.requires.by_index p.0.0 p.1.0 p.2.0 p.0.1 p.1.1 p.2.1) in
    let room1 = room_after _ (c.store_three-next.ensures.by_index _ _ _ l r h1) all in
    let room2 = room_after _ (c.store_three-next-2.ensures.by_index _ _ _ l q h2) room1 in
    three_room m r h3 (room_first _ _ room2)

pub store_three-requires-clause-length_in_bounds : goal.store_three-requires-clause-length_in_bounds
store_three-requires-clause-length_in_bounds c =
    let p = c.requires.some_word in
    let l = c.literal-left.ensures.by_index p.1.0 p.1.1 in
    let r = c.literal-right.ensures.by_index p.2.0 p.2.1 in
    let m = c.literal-turned_left.ensures.by_index p.1.0 p.1.1 in
    let q = c.literal-turned_right.ensures.by_index p.2.0 p.2.1 in
    let h1 = says _ (bit_none c.args.table) (c.literal-none.ensures.by_index p.0.0 p.0.1) in
    let h2 = says _ (bit_right c.args.table) (c.literal-right_only.ensures.by_index p.0.0 p.0.1) in
    let h3 = says _ (bit_left c.args.table) (c.literal-left_only.ensures.by_index p.0.0 p.0.1) in
    let h4 = says _ (bit_both c.args.table p.3) (c.literal-both.ensures.by_index p.0.0 p.0.1) in
    let all = two_room c.args.text.now p.0.0 (operator_value c.args.table) p.1.0 p.2.0 _ (c.requires.by_index p.0.0 p.1.0 p.2.0 p.0.1 p.1.1 p.2.1) in
    let room1 = room_after _ (c.store_three-next.ensures.by_index _ _ _ l r h1) all in
    let room2 = room_after _ (c.store_three-next-2.ensures.by_index _ _ _ l q h2) room1 in
    let room3 = room_after _ (c.store_three-next-3.ensures.by_index _ _ _ m r h3) room2 in
    three_room m q h4 room3

pub returns : goal.returns
returns c =
    let table = c.args.table in
    let l = c.literal-left.ensures.by_index in
    let r = c.literal-right.ensures.by_index in
    let m = c.literal-turned_left.ensures.by_index in
    let q = c.literal-turned_right.ensures.by_index in
    λ g a b w u v. loose_as (two_lines g (operator_value table) a b)
    (loose_then
    (c.store_three-next.ensures.by_index _ _ _ (l a u) (r b v) (says _ (bit_none table) (c.literal-none.ensures.by_index g w)))
    (loose_then
    (c.store_three-next-2.ensures.by_index _ _ _ (l a u) (q b v) (says _ (bit_right table) (c.literal-right_only.ensures.by_index g w)))
    (loose_then
    (c.store_three-next-3.ensures.by_index _ _ _ (m a u) (r b v) (says _ (bit_left table) (c.literal-left_only.ensures.by_index g w)))
    (c.store_three.ensures.by_index _ _ _ (m a u) (q b v) (says _ (bit_both table c.requires.some_word.3) (c.literal-both.ensures.by_index g w))))))
