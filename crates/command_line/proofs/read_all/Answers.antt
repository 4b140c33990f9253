-- `command_line::read_all` meets its contract.
-- Assumes nothing.
use Rattle.std.proofs.Common.{rules, arith, subst}
use Rattle.std.specs.Io.KnownBytes.{Consumes}
use Rattle.std.proofs.KnownBytes.{Consumes-nil, Consumes-trans}
use Rattle.command_line.proofs.Filled.{read_on, read_none}
use Rattle.command_line.proofs.read_all.Goals as goal

pub loop-length-init : goal.loop-length-init
loop-length-init g c = (search rules, search rules, Consumes-nil _)

pub loop-length-preserved : goal.loop-length-preserved
loop-length-preserved g c =
    let inv = c.loop-length.invariant in
    let read = c.in_ok-more.ensures in
    let joined = read_on c.loop-length.length _ c.in_ok-more.more c.loop-length.text c.read.new.buf inv.0 read.bound.0 in
    (search rules, search rules, subst (Consumes _ _) joined (Consumes-trans _ _ _ _ _ inv.2 read.bytes.0))

pub returns-then-more-eq0-clause-bytes : goal.returns-then-more-eq0-clause-bytes
returns-then-more-eq0-clause-bytes g c =
    let inv = c.loop-length.invariant in
    let read = c.in_ok-more.ensures in
    let joined = read_none c.loop-length.length _ c.in_ok-more.more c.loop-length.text c.read.new.buf c.if-more-eq0.true inv.0 read.bound.0 in
    subst (Consumes _ _) joined (Consumes-trans _ _ _ _ _ inv.2 read.bytes.0)

pub returns-then-more-eq0-clause-end : goal.returns-then-more-eq0-clause-end
returns-then-more-eq0-clause-end g c = λ _. c.in_ok-more.ensures.bytes.1 c.if-more-eq0.true (omega (arith, c.read.auto.buf, c.loop-length-test.true))

pub returns-clause-end : goal.returns-clause-end
returns-clause-end g c = λ room. absurd (omega (arith, room, c.loop-length-test.false))
