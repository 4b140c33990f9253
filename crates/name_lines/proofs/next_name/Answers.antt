-- `name_lines::next_name` meets its contract.
-- Assumes nothing.
use borrow.Author.Rules.{rules}
use borrow.Author.Tests.{tests}
use Rattle.name_lines.proofs.Walk.{past_end, skipped, line_ends, next_name}
use Rattle.name_lines.proofs.next_name.Goals as goal

pub returns-then-text-from : goal.returns-then-text-from
returns-then-text-from c = past_end _ _ c.if-text-from.true

pub returns : goal.returns
returns c =
    next_name _ _ _ _ (skipped _ _ _ _ c.first_from-start.ensures (λ b t. search (rules, tests)) (λ b t. search (rules, tests)))
    (line_ends _ _ _ _ c.first_from-end.ensures (λ b t. search (rules, tests)) (λ b t. search (rules, tests)))
