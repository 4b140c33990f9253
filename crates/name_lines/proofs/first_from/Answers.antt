-- `name_lines::first_from` meets its contract.
-- Assumes nothing.
use mathlib.Core.Bool.{Bool, true, false}
use mathlib.Core.Path.{◌∙◌}
use Prim.Native.Nat.{ℕ}
use native.Mathlib.Omega.{arith}
use borrow.Author.Rules.{rules}
use borrow.Author.Tests.{tests}
use lib.ListN.{drop, length-drop}
use lib.Seq.{take_all}
use Rattle.std.proofs.lemmas.Iterator.{IsFirst-from_position, YieldsList-from_slice}
use Rattle.std.proofs.lemmas.Option.{MatchOption-at_some, MatchOption-at_none}
use Rattle.name_lines.specs.contracts.first_from.F-Fn as fn
use Rattle.name_lines.proofs.Walk.{first_found, first_none}
use Rattle.name_lines.proofs.first_from.Goals as goal

pub returns-in-Some : goal.returns-in-Some
returns-in-Some g c =
    let at = c.args in
    let Answers : ℕ → Bool → Type 0 = (fn.words g.row.F g.F.Fn).post at.test in
    let rest = c.iter.ensures.rest ∙ take_all _ (drop at.from at.text.now) (omega (arith, length-drop at.from at.text.now)) in
    first_found Answers at.text.now at.from c.requires.within c.in-Some.k (
    MatchOption-at_some _ _ _ c.in-Some.is
    (IsFirst-from_position _ _ _ (λ b. Answers b true) (λ b. Answers b false) c.position.ensures.ran (YieldsList-from_slice _ rest)
    (λ x q k. search (rules, tests)) (λ x q k. search (rules, tests)))
    )

pub returns : goal.returns
returns g c =
    let at = c.args in
    let Answers : ℕ → Bool → Type 0 = (fn.words g.row.F g.F.Fn).post at.test in
    let rest = c.iter.ensures.rest ∙ take_all _ (drop at.from at.text.now) (omega (arith, length-drop at.from at.text.now)) in
    first_none Answers at.text.now at.from c.requires.within (
    MatchOption-at_none _ _ c.in-None.is
    (IsFirst-from_position _ _ _ (λ b. Answers b true) (λ b. Answers b false) c.position.ensures.ran (YieldsList-from_slice _ rest)
    (λ x q k. search (rules, tests)) (λ x q k. search (rules, tests)))
    )
