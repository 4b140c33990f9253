-- `prefix_writer::write_block` meets its contract.
-- Assumes nothing.
use mathlib.Core.Path.{refl}
use native.Mathlib.Omega.{arith}
use Rattle.prefix_writer.proofs.Writing.{tail_room, tail_back}
use Rattle.prefix_writer.proofs.write_block.Goals as goal

pub write_variables-count-requires : goal.write_variables-count-requires
write_variables-count-requires c =
    let p = c.requires in record {
      j_bound = p.j_bound;
      j_in_bounds = tail_room c.args.variables.now _ _ _ refl p.j_in_bounds;
    }

pub overflow_add-result : goal.overflow_add-result
overflow_add-result c = let p = c.requires in omega (arith, c.write_variables-count.ensures.value, p.j_bound_2)

pub returns : goal.returns
returns c =
    let p = c.requires in
    let v = c.write_variables-count.ensures in record {
      prefix_after = rw (← v.value) c.write_words.ensures;
      variables_after = tail_back _ _ _ _ (omega (arith, p.j_in_bounds)) v.out_after;
      value = omega (arith, v.value);
    }
