-- `growth::line_at` meets its contract.
-- Assumes nothing.
use mathlib.Core.Path.{◌≡◌, sym, ap, ◌∙◌}
use mathlib.Core.List.{List}
use Prim.Native.Nat.{ℕ, ◌+◌, ◌*◌, ◌-◌, ◌<◌}
use native.Mathlib.Omega.{arith}
use lib.ListN.{get_or, take, drop}
use lib.Seq.{get_or-take, get_or-drop}
use borrow.Author.Tests.{eq-eqb, ne_eqb}
use Rattle.lists.specs.Choice.{pick_yes, pick_no}
use Rattle.growth.specs.Lines.{line_width, refused_line, line_at}
use Rattle.growth.proofs.line_at.Goals as goal

-- a word of a line
word : (ws : List ℕ) (i k : ℕ) → k < line_width
    → get_or (take (line_width * i + line_width - line_width * i) (drop (line_width * i) ws)) k 0 ≡ get_or ws (line_width * i + k) 0
word ws i k h = get_or-take _ (drop (line_width * i) ws) k 0 (omega arith) ∙ get_or-drop (line_width * i) ws k 0

pub returns-then-number-ne-ACCEPTED : goal.returns-then-number-ne-ACCEPTED
unfolding line_at
returns-then-number-ne-ACCEPTED c =
    let number = word c.args.lines.now c.args.i 0 (omega arith) in
    c.refused_line.ensures
    ∙ ap refused_line number
    ∙ sym (pick_no _ _ _ (ne_eqb _ _ (λ z. omega (arith, number, c.if-number-ne-ACCEPTED.true))))

pub returns : goal.returns
unfolding line_at
returns c =
    let at = c.args in
    let ws = at.lines.now in
    let number = word ws at.i 0 (omega arith) in
    (λ k. record {
      number = number k;
      n = word ws at.i 1 (omega arith) k;
      b = word ws at.i 2 (omega arith) k;
      q = word ws at.i 3 (omega arith) k;
      depth = word ws at.i 4 (omega arith) k;
      nodes = word ws at.i 5 (omega arith) k;
      variables = word ws at.i 6 (omega arith) k;
    })
    ∙ sym (pick_yes _ _ _ (eq-eqb _ _ (omega (arith, number, c.if-number-ne-ACCEPTED.false))))
