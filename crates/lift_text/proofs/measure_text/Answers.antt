-- `lift_text::measure_text` meets its contract.
-- Assumes nothing.
use mathlib.Core.Path.{sym}
use Prim.Native.Nat.{ℕ, ◌≤◌}
use lib.ListN.{length, length-replicate}
use lib.Seq.{length-take-le}
use Rattle.prenex.specs.Outcome.{no_sizes}
use Rattle.lift_text.specs.Measuring.{measured_table}
use Rattle.lift_text.proofs.Texts.{read_done}
use Rattle.lift_text.proofs.Calls.{refused_measure, done_measure}
use Rattle.lift_text.proofs.measure_text.Goals.{Else-verdict-ne-ACCEPTED}
use Rattle.lift_text.proofs.measure_text.Goals as goal

pub returns-then-verdict-ne-ACCEPTED : goal.returns-then-verdict-ne-ACCEPTED
returns-then-verdict-ne-ACCEPTED c = refused_measure c.args.text.now _ _ (length-replicate {A = ℕ} 16384 0) (length-replicate {A = ℕ} 4096 0) _ c.read-read.ensures.reading c.if-verdict-ne-ACCEPTED.true _ c.refused.ensures

-- the table that was read stands in the arrays
words_in : (c : Else-verdict-ne-ACCEPTED) → c.read-read.result.words ≤ length c.read-read.new.words
words_in c = (read_done _ _ (length-replicate {A = ℕ} 16384 0) (length-replicate {A = ℕ} 4096 0) c.args.text.now no_sizes tt measured_table _ c.read-read.ensures.reading c.if-verdict-ne-ACCEPTED.false).words_in

list_in : (c : Else-verdict-ne-ACCEPTED) → c.read-read.result.entries ≤ length c.read-read.new.list
list_in c = (read_done _ _ (length-replicate {A = ℕ} 16384 0) (length-replicate {A = ℕ} 4096 0) c.args.text.now no_sizes tt measured_table _ c.read-read.ensures.reading c.if-verdict-ne-ACCEPTED.false).list_in

pub slice_bounds-words-end : goal.slice_bounds-words-end
slice_bounds-words-end c = words_in (goal.at.slice_bounds-words-end c).Else-verdict-ne-ACCEPTED

pub slice_bounds-measure-end : goal.slice_bounds-measure-end
slice_bounds-measure-end c = sym (length-take-le _ _ (words_in (goal.at.slice_bounds-measure-end c).Else-verdict-ne-ACCEPTED))

pub slice_bounds-list-end : goal.slice_bounds-list-end
slice_bounds-list-end c = list_in (goal.at.slice_bounds-list-end c).Else-verdict-ne-ACCEPTED

pub slice_bounds-measure-end-2 : goal.slice_bounds-measure-end-2
slice_bounds-measure-end-2 c = sym (length-take-le _ _ (list_in (goal.at.slice_bounds-measure-end-2 c).Else-verdict-ne-ACCEPTED))

pub returns : goal.returns
returns c = done_measure c.args.text.now _ _ (length-replicate {A = ℕ} 16384 0) (length-replicate {A = ℕ} 4096 0) _ c.read-read.ensures.reading c.if-verdict-ne-ACCEPTED.false c.read-read.ensures.table _ c.measure.ensures.answer
