-- `qcir_misplaced::first_fault` meets its contract. The invariant: no token passed is at fault, and the pass over all tokens goes on from here.
-- Assumes nothing.
use mathlib.Core.Path.{sym, ◌∙◌, ap}
use Prim.Native.Nat.{◌+◌}
use native.Mathlib.Omega.{arith}
use lib.ListN.{get_or}
use Rattle.qcir_misplaced.specs.Faults.{first_of}
use Rattle.qcir_misplaced.proofs.Turn.{line_below, From, from_start, found_here, found_later, found_none}
use Rattle.qcir_misplaced.proofs.first_fault.Goals as goal

pub loop-i-init : goal.loop-i-init
loop-i-init c = (omega arith, c.requires.gates_len.1, from_start c.args.gates.now c.args.tokens.now.roles.now c.args.tokens.now.numbers.now c.args.tokens.now.positions.now c.args.tokens.now.count c.args.lists.now)

pub is_fault-requires : goal.is_fault-requires
is_fault-requires c = omega arith

pub returns-then-is_fault : goal.returns-then-is_fault
returns-then-is_fault c =
    let a = c.args in
    sym (ap first_of c.loop-i.invariant.2
    ∙ found_here a.gates.now a.tokens.now.roles.now a.tokens.now.numbers.now a.tokens.now.positions.now a.tokens.now.count c.loop-i.lists c.loop-i.line c.loop-i.i c.loop-i-test.true
    (sym c.is_fault.ensures ∙ c.if-is_fault.true))

pub pass-line-requires : goal.pass-line-requires
pass-line-requires c =
    record {
      x_in_bounds = omega arith;
      line_le_token_limit = (omega arith, omega arith);
    }

pub loop-i-preserved : goal.loop-i-preserved
loop-i-preserved c =
    let a = c.args in
    let r = c.pass-line.ensures.value in
    let next =
    found_later a.gates.now a.tokens.now.roles.now a.tokens.now.numbers.now a.tokens.now.positions.now a.tokens.now.count c.loop-i.lists c.pass-line.new.lists c.loop-i.line c.loop-i.i c.loop-i-test.true
    (sym c.is_fault.ensures ∙ c.if-is_fault.false) c.pass-line.ensures.by_index in (
      omega (arith, line_below (get_or a.tokens.now.roles.now c.loop-i.i 0) c.loop-i.line c.loop-i.i c.loop-i.invariant.0),
      c.pass-line.auto.lists ∙ c.loop-i.invariant.1,
      c.loop-i.invariant.2 ∙ next ∙ ap (λ l. From a.gates.now a.tokens.now.roles.now a.tokens.now.numbers.now a.tokens.now.positions.now a.tokens.now.count c.pass-line.new.lists l (c.loop-i.i + 1)) (sym r),
    )

pub returns : goal.returns
returns c =
    let a = c.args in
    sym (ap first_of c.loop-i.invariant.2
    ∙ found_none a.gates.now a.tokens.now.roles.now a.tokens.now.numbers.now a.tokens.now.positions.now a.tokens.now.count c.loop-i.lists c.loop-i.line c.loop-i.i (omega arith))
