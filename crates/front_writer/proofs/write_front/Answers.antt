-- `front_writer::write_front` meets its contract. The loop's invariant: what stands in front of the blocks passed is written.
-- The number of the block that is written is taken by `omega`, so that an edit of it falls at its value and not at its form.
-- Assumes nothing.
use mathlib.Core.Path.{◌≡◌, refl, ◌∙◌}
use native.Mathlib.Omega.{arith}
use Rattle.formula.specs.Words.{table_of}
use Rattle.front_writer.proofs.Laws.{written_of_same, words_of_same, names_of_same, none_sized, none_written_lem, front_fits}
use Rattle.front_writer.proofs.write_front.Goals as goal

pub loop-k-init : goal.loop-k-init
loop-k-init c = let t = table_of c.args.words.now c.args.list.now in (none_sized t, none_written_lem t c.args.prefix.now c.args.variables.now)

pub write_block-at-requires : goal.write_block-at-requires
write_block-at-requires c =
    let l = c.loop-k in
    let some = c.loop-k-test.true in
    let t = table_of c.args.words.now c.args.list.now in
    let blocks = c.requires.taken_bound in record {
      list_value = c.requires.list_value;
      flags = c.requires.flags;
      k_bound = (omega (arith, blocks.0), λ j h. blocks.1 j (omega arith));
      front_fits = front_fits _ _ c.args.taken _ _ _ _ (omega arith) c.loop-k.auto.prefix c.loop-k.auto.variables c.requires.front_fits;
      blocks_value = (l.invariant.0.0 ∙ words_of_same t (omega arith), l.invariant.0.1 ∙ names_of_same t (omega arith));
    }

pub loop-k-preserved : goal.loop-k-preserved
loop-k-preserved c =
    let l = c.loop-k in
    let some = c.loop-k-test.true in
    let t = table_of c.args.words.now c.args.list.now in
    let sizes = c.write_block-at.ensures.blocks_value_2 in
    let fits = front_fits _ _ c.args.taken _ _ _ _ (omega arith) refl refl c.requires.front_fits in (
      (sizes.0 ∙ words_of_same t (omega arith), sizes.1 ∙ names_of_same t (omega arith)),
      written_of_same (omega arith) (c.write_block-at.ensures.by_index _ _ fits (written_of_same (omega arith) l.invariant.1)),
    )

pub returns : goal.returns
returns c =
    let l = c.loop-k in
    let all : c.args.taken ≡ l.k = omega arith in
    rw all l.invariant.1
