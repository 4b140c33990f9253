-- `lift_text::lift_text_in` meets its contract.
-- Assumes nothing.
use mathlib.Core.Path.{sym}
use Prim.Native.Nat.{ℕ, ◌≤◌}
use lib.ListN.{length, length-replicate}
use lib.Seq.{length-take-le}
use Rattle.qcir.specs.Reading.{TableWritten}
use Rattle.text_answers.specs.Answers.{no_text_sizes}
use Rattle.lift_text.specs.Memory.{lent, written_in}
use Rattle.lift_text.proofs.Texts.{read_done}
use Rattle.lift_text.proofs.Calls.{refused_call, done_call}
use Rattle.lift_text.proofs.lift_text_in.Goals.{Else-verdict-ne-ACCEPTED}
use Rattle.lift_text.proofs.lift_text_in.Goals as goal

pub returns-then-verdict-ne-ACCEPTED : goal.returns-then-verdict-ne-ACCEPTED
returns-then-verdict-ne-ACCEPTED c = refused_call c.args.format c.args.text.now (lent c.args.nodes.now c.args.out.now) _ _ (length-replicate {A = ℕ} 16384 0) (length-replicate {A = ℕ} 4096 0) _ c.read-read.ensures.reading c.if-verdict-ne-ACCEPTED.true _ c.refused.ensures

-- the table that was read stands in the arrays
words_in : (c : Else-verdict-ne-ACCEPTED) → c.read-read.result.words ≤ length c.read-read.new.words
words_in c = (read_done _ _ (length-replicate {A = ℕ} 16384 0) (length-replicate {A = ℕ} 4096 0) c.args.text.now no_text_sizes (lent c.args.nodes.now c.args.out.now) (written_in c.args.format (lent c.args.nodes.now c.args.out.now)) _ c.read-read.ensures.reading c.if-verdict-ne-ACCEPTED.false).words_in

list_in : (c : Else-verdict-ne-ACCEPTED) → c.read-read.result.entries ≤ length c.read-read.new.list
list_in c = (read_done _ _ (length-replicate {A = ℕ} 16384 0) (length-replicate {A = ℕ} 4096 0) c.args.text.now no_text_sizes (lent c.args.nodes.now c.args.out.now) (written_in c.args.format (lent c.args.nodes.now c.args.out.now)) _ c.read-read.ensures.reading c.if-verdict-ne-ACCEPTED.false).list_in

pub slice_bounds-words-end : goal.slice_bounds-words-end
slice_bounds-words-end c = words_in (goal.at.slice_bounds-words-end c).Else-verdict-ne-ACCEPTED

pub slice_bounds-lift_table_in-end : goal.slice_bounds-lift_table_in-end
slice_bounds-lift_table_in-end c = sym (length-take-le _ _ (words_in (goal.at.slice_bounds-lift_table_in-end c).Else-verdict-ne-ACCEPTED))

pub slice_bounds-list-end : goal.slice_bounds-list-end
slice_bounds-list-end c = list_in (goal.at.slice_bounds-list-end c).Else-verdict-ne-ACCEPTED

pub slice_bounds-lift_table_in-end-2 : goal.slice_bounds-lift_table_in-end-2
slice_bounds-lift_table_in-end-2 c = sym (length-take-le _ _ (list_in (goal.at.slice_bounds-lift_table_in-end-2 c).Else-verdict-ne-ACCEPTED))

pub lift_table_in-requires : goal.lift_table_in-requires
unfolding TableWritten
lift_table_in-requires c = (c.read-read.ensures.table c.if-verdict-ne-ACCEPTED.false).accepts

pub returns : goal.returns
returns c =
    done_call c.args.format c.args.text.now (lent c.args.nodes.now c.args.out.now) _ _ (length-replicate {A = ℕ} 16384 0) (length-replicate {A = ℕ} 4096 0) _ c.read-read.ensures.reading c.if-verdict-ne-ACCEPTED.false _
    c.lift_table_in.ensures
