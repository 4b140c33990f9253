-- `qcir_lines::put_row` meets its contract, kind by kind.
-- Assumes nothing.
use mathlib.Core.Logic.{⊎_elim}
use Rattle.texts.proofs.Put.{put_none, put_as}
use Rattle.qcir_lines.proofs.Rows.{unsigned_word, row_and, row_xor, row_constant, row_left, row_right}
use Rattle.qcir_lines.proofs.put_row.Goals as goal

pub returns-in-Left-clause-put : goal.returns-in-Left-clause-put
returns-in-Left-clause-put c =
    ⊎_elim
    (λ e. rw e (put_as (row_left _ _ _ _ _) (put_none _ _)))
    (λ e. rw e (put_as (row_right _ _ _ _ _) (put_none _ _)))
    c.in-Left.is

pub returns-in-And-clause-put : goal.returns-in-And-clause-put
returns-in-And-clause-put c = rw c.in-And.is (put_as (row_and _ _ _ _ _ _ _ c.turned-left.ensures.result_value c.turned-right.ensures.result_value) c.put_and.ensures.put)

pub returns-in-Xor-clause-put : goal.returns-in-Xor-clause-put
returns-in-Xor-clause-put c = rw c.in-Xor.is (put_as (row_xor _ _ _ _ _ _ _ (unsigned_word c.args.l) (unsigned_word c.args.m)) c.put_xor.ensures.put)

pub returns-in-Constant-clause-put : goal.returns-in-Constant-clause-put
returns-in-Constant-clause-put c = rw c.in-Constant.is (put_as (row_constant _ _ _ _ _) c.put_constant.ensures.put)
