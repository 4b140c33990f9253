-- `growth_report::read_names` meets its contract.
-- Assumes nothing.
use Rattle.std.proofs.Common.{ℕ, sym, subst}
use Rattle.std.specs.Prelude.{IsNone}
use mathlib.Core.List.{List, [], append-nil, append_assoc}
use borrow.Author.Tests.{not-true}
use Rattle.std.proofs.KnownBytes.{Consumes-nil, Consumes-trans}
use Rattle.name_lines.specs.Kept.{HasRead}
use Rattle.growth_report.proofs.read_names.Goals as goal

pub loop-init : goal.loop-init
loop-init g c =
    let p = c.read_part-p.result in
    let kept = c.read_part-p.new.kept in
    (λ first h. ([], subst (λ (l : List ℕ). HasRead l p.state kept) (sym (append-nil first)) h, Consumes-nil _), c.read_part-p.ensures.end)

pub returns-then-not-p-clause-found : goal.returns-then-not-p-clause-found
returns-then-not-p-clause-found g c =
    let given = c.names_given.ensures.found in
    let first = c.read_part-p.ensures.read [] (c.start.ensures c.requires) in
    let rest = c.loop.invariant.0 first.0 first.1 in
    (given.0, (_, given.1 _ rest.1, Consumes-trans _ _ _ _ _ first.2 rest.2))

pub loop-preserved : goal.loop-preserved
loop-preserved g c =
    let part = c.read_part-p-in-loop.ensures in
    let p = c.read_part-p-in-loop.result in
    let kept = c.read_part-p-in-loop.new.kept in (
      λ first h.
          let before = c.loop.invariant.0 first h in
          let read = part.read _ before.1 in
          (_, subst (λ (l : List ℕ). HasRead l p.state kept) (append_assoc first before.0 read.0) read.1, Consumes-trans _ _ _ _ _ before.2 read.2),
      part.end,
    )

pub returns-clause-found : goal.returns-clause-found
returns-clause-found g c =
    let given = c.names_given-2.ensures.found in
    let first = c.read_part-p.ensures.read [] (c.start.ensures c.requires) in
    let rest = c.loop.invariant.0 first.0 first.1 in
    (given.0, (_, given.1 _ rest.1, Consumes-trans _ _ _ _ _ first.2 rest.2))

pub returns-then-not-p-clause-end : goal.returns-then-not-p-clause-end
returns-then-not-p-clause-end g c = λ none. c.loop.invariant.1 (not-true _ c.if-not-p.true) (subst IsNone c.names_given.ensures.failed none)
