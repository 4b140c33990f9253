use Rattle.name_lines.proofs.Kept.{begins}
use Rattle.name_lines.proofs.begin_name.Goals as goal

pub returns : goal.returns
returns c = λ a h. begins a _ _ _ _ _ c.requires.0 c.requires.1 c.requires.2 c.keep.ensures h
