-- `try_formulas::large` meets its contract: the array is as long as its type says.
-- Assumes nothing.
use Rattle.std.proofs.Common.{◌≤◌, length, sym, arith}
use Rattle.std.proofs.lemmas.List.{length-take-le}
use Rattle.try_formulas.proofs.large.Goals as goal

pub slice_bounds-show_words-end-5 : goal.slice_bounds-show_words-end-5
slice_bounds-show_words-end-5 g c =
    let l : 16384 ≤ length c.chain.new.words = omega (arith, c.chain.array_long) in
    sym (length-take-le 16384 _ l)
