-- `front_writer::write_names` meets its contract. The loop's invariant: the names passed whose flag is set stand at the start of the buffer,
-- and `at` is behind them.
-- Assumes nothing.
use mathlib.Core.Path.{refl, sym}
use mathlib.Core.Bool.{Bool, false}
use Prim.Native.Nat.{ℕ}
use native.Mathlib.Omega.{arith}
use lib.ListN.{get_or}
use lib.Seq.{take_all}
use Rattle.lists.specs.Choice.{pick_yes}
use Rattle.kept_prefix.specs.Blocks.{keep}
use Rattle.lists.proofs.Overwrite.{overwrite_nil}
use Rattle.front_writer.proofs.Laws.{kept_count, kept_room, kept_turn}
use Rattle.front_writer.proofs.write_names.Goals as goal

pub loop-x-init : goal.loop-x-init
unfolding keep
loop-x-init c = (refl, sym (overwrite_nil c.args.out.now 0))

pub overflow_cast-flag : goal.overflow_cast-flag
overflow_cast-flag c = omega (arith, c.type_inv.names c.loop-x.x-index)

pub bounds-standing-x : goal.bounds-standing-x
bounds-standing-x c = omega (arith, c.requires.numbered.1, c.requires.numbered.0 c.loop-x.x-index c.loop-x-test.true)

pub write_name-at-requires : goal.write_name-at-requires
write_name-at-requires c =
    λ t. let l = c.loop-x in
    let p : ℕ → Bool = λ x. get_or c.args.standing.now x false in
    let xs = c.args.names.now in
    let h = c.loop-x-test.true in
    omega (arith, c.requires.names_in_bounds, c.loop-x.auto.out, l.invariant.0, kept_count p xs l.x-index h, kept_room p xs l.x-index h, pick_yes {A = ℕ} (p (get_or xs l.x-index 0)) 1 0 t)

pub loop-x-preserved : goal.loop-x-preserved
loop-x-preserved c =
    let l = c.loop-x in
    let p : ℕ → Bool = λ x. get_or c.args.standing.now x false in
    let xs = c.args.names.now in
    let h = c.loop-x-test.true in
    (omega (arith, c.write_name-at.ensures.1, l.invariant.0, kept_count p xs l.x-index h), kept_turn p xs l.x-index h _ _ _ _ l.invariant.1 l.invariant.0 c.write_name-at.ensures.0 c.requires.names_in_bounds)

pub returns : goal.returns
returns c =
    let l = c.loop-x in
    let all = take_all l.x-index c.args.names.now c.loop-x-test.false in record {
      out_after = rw all at l.invariant.1;
      value = rw all at l.invariant.0;
    }
