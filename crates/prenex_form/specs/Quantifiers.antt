-- The quantifiers of the code are those of the nodes.
-- Assumes nothing.
use Rattle.formula.specs.Node.{exists, for_all}
use Rattle.formula.specs.Node as node
use Rattle.prenex_form.specs.declared.Quantifier.{Quantifier}
use Rattle.prenex_form.specs.declared.Quantifier.TheVariants.{Exists, ForAll}

abbrev pub node_quantifier : Quantifier → node.Quantifier
node_quantifier Exists = exists
node_quantifier ForAll = for_all
