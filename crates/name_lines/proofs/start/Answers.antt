use Rattle.name_lines.proofs.Kept.{started}
use Rattle.name_lines.proofs.start.Goals as goal

pub returns : goal.returns
returns c = λ l. started _ l
