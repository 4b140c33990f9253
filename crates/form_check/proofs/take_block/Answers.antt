-- `form_check::take_block` meets its contract: the block does not fit, or its names are tried one by one.
-- Assumes nothing.
use mathlib.Core.Bool.{true≢false}
use mathlib.Core.Path.{sym, ◌∙◌}
use Rattle.form_check.proofs.Flags.{fitting_le, block_unfit, block_good, block_flagged}
use Rattle.form_check.proofs.take_block.Goals as goal

pub returns-then-not-block_fits : goal.returns-then-not-block_fits
returns-then-not-block_fits c =
    record {
      value = block_unfit _ _ _ _ c.block_at-block.ensures (sym c.block_fits.ensures ∙ c.if-not-block_fits.true);
      names_flagged_2 = λ z. absurd (true≢false (sym z));
    }

pub slice_bounds-flag_names-end : goal.slice_bounds-flag_names-end
slice_bounds-flag_names-end c = fitting_le _ _ (sym c.block_fits.ensures ∙ c.if-not-block_fits.false)

pub returns : goal.returns
returns c =
    let r = c.flag_names.ensures _ c.requires.names_flagged in
    let e = c.block_at-block.ensures in record {
      value = block_good _ _ _ _ e (sym c.block_fits.ensures ∙ c.if-not-block_fits.false) _ r.0;
      names_flagged_2 = λ z. block_flagged _ _ _ _ e _ _ (r.1 z);
    }
