use Rattle.std.proofs.Common.{List, subst}
use Rattle.loop_core.specs.declared.decl.PropDecl.{PropDecl}
use Rattle.loop_core.specs.declared.nest.Nest.{Nest}
use Rattle.index_props.specs.Meanings.{Passes}
use Rattle.wave_main.proofs.RunLaws.{passed}
use Rattle.wave_main.proofs.input.check_properties.Goals as goal

pub returns-in-Ok-clause-answer : goal.returns-in-Ok-clause-answer
returns-in-Ok-clause-answer c inputs is =
    let P : List PropDecl → Type 0 = λ l. Passes l c.args.input.now.arrays in
    let Q : Nest → Type 0 = λ n. Passes n.props c.args.input.now.arrays in
    passed inputs c.args.input.now is (subst Q c.nest.ensures.nest (subst P c.as_slice.ensures c.in-Ok.ensures.passes))

pub returns-in-Ok-clause-passes : goal.returns-in-Ok-clause-passes
returns-in-Ok-clause-passes c =
    let P : List PropDecl → Type 0 = λ l. Passes l c.args.input.now.arrays in
    let Q : Nest → Type 0 = λ n. Passes n.props c.args.input.now.arrays in
    subst Q c.nest.ensures.nest (subst P c.as_slice.ensures c.in-Ok.ensures.passes)
