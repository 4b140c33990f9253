-- `qcir_unbound::all_marked` meets its contract. The invariant: every variable used before token i is marked.
-- Assumes nothing.
use mathlib.Core.Bool.{true≢false}
use mathlib.Core.Path.{sym, ◌∙◌}
use native.Mathlib.Omega.{arith}
use Rattle.qcir_unbound.proofs.Marks.{all_marked_none, all_marked_next}
use Rattle.qcir_unbound.proofs.all_marked.Goals as goal

pub loop-i-init : goal.loop-i-init
loop-i-init c =
    let a = c.args in
    all_marked_none a.tokens.now.roles.now a.tokens.now.numbers.now a.gates.now a.marks.now a.first

pub returns-then-is_unmarked : goal.returns-then-is_unmarked
returns-then-is_unmarked c = λ e. absurd (true≢false (sym e))

pub loop-i-preserved : goal.loop-i-preserved
loop-i-preserved c =
    let a = c.args in
    let l = c.loop-i in
    all_marked_next a.tokens.now.roles.now a.tokens.now.numbers.now a.gates.now a.marks.now a.first l.i (sym c.is_unmarked.ensures ∙ c.if-is_unmarked.false) l.invariant

pub returns : goal.returns
returns c = λ e k l h. c.loop-i.invariant k l (omega arith)
