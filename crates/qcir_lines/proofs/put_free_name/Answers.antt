-- `qcir_lines::put_free_name` meets its contract.
-- Assumes nothing.
use native.Mathlib.Omega.{arith}
use Rattle.texts.proofs.Put.{put_none, put_as}
use Rattle.qcir_lines.proofs.Free.{name_none, name_first, name_next}
use Rattle.qcir_lines.proofs.put_free_name.Goals as goal

pub returns-then-flag-ne-FREE-clause-put : goal.returns-then-flag-ne-FREE-clause-put
returns-then-flag-ne-FREE-clause-put c = put_as (name_none c.args.first c.args.flag c.args.x (λ e. omega arith)) (put_none _ _)

pub returns-then-first-clause-put : goal.returns-then-first-clause-put
returns-then-first-clause-put c = put_as (name_first c.args.first c.args.flag c.args.x (omega arith) c.if-first.true) c.put_first_free.ensures.put

pub returns-clause-put : goal.returns-clause-put
returns-clause-put c = put_as (name_next c.args.first c.args.flag c.args.x (omega arith) c.if-first.false) c.put_next_name.ensures.put
