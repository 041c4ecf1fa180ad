use Rattle.std.proofs.Common.{List}
use Rattle.std.specs.List.{All}
use Rattle.std.proofs.lemmas.List.Elements.{All-contains}
use Rattle.loop_core.specs.declared.nest.Atom.{Atom}
use Rattle.uf_constraints.specs.declared.system.Diff.{Diff}
use Rattle.uf_constraints.specs.Over.{AllOver, IsOver as are_listed}
use Rattle.index_props.specs.Rules.{instances_of}
use Rattle.index_props.specs.Table.{IsRuleOver as are_all_listed}
use Rattle.rule_laws.specs.Small.{IsSmall, IsSmallRule}
use Rattle.rule_laws.proofs.AllOver.{all_over}
use Rattle.rule_laws.proofs.AllSmall.{all_small}
use Rattle.bound_ways.specs.Over.{AreOver}
use Rattle.bound_close.proofs.laws.instances_can_be_closed.Goals as goal

over : (atoms : List Atom) (ds : List Diff) → AllOver atoms ds → All IsSmall ds → AreOver atoms ds
over atoms ds listed small d h =
    let both = All-contains (are_listed atoms) ds d listed h in
    record { left = both.0; right = both.1; small = All-contains IsSmall ds d small h }

pub returns : goal.returns
returns c = λ decls props atoms names closed within bounds r h.
    let listed = All-contains (are_all_listed atoms) (instances_of decls props atoms) r (all_over decls atoms closed props names) h in
    let small = All-contains IsSmallRule (instances_of decls props atoms) r (all_small decls atoms within props bounds) h in
    record { premises = over atoms r.premises listed.0 small.0; results = over atoms r.results listed.1 small.1 }
