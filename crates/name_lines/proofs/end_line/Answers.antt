use Rattle.name_lines.proofs.Kept.{ends_empty, ends_name}
use Rattle.name_lines.proofs.end_line.Goals as goal

pub returns-then-s-eq0 : goal.returns-then-s-eq0
returns-then-s-eq0 c = λ a h. ends_empty a _ _ c.requires c.if-s-eq0.true h

pub returns : goal.returns
returns c = λ a h. ends_name a _ _ _ _ c.requires c.if-s-eq0.false c.keep.ensures h
