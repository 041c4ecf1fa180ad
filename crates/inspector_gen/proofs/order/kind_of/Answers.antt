use Rattle.std.proofs.Common.{◌∙◌, ◌++◌, sym}
use Rattle.std.specs.List.{flat_map}
use Rattle.inspector_gen.specs.declared.kind.Way.TheVariants as ways
use Rattle.inspector_gen.specs.Made.{AreFacts}
use Rattle.inspector_gen.specs.Kinds.{found_at, located_at, kinds_along}
use Rattle.inspector_gen.proofs.Orders.{or_some, or_none}
use Rattle.inspector_gen.proofs.order.kind_of.Goals as goal

pub returns-in-Some : goal.returns-in-Some
returns-in-Some c = λ f facts.
    or_some (kinds_along f c.args.earlier.now c.args.v ways.Given)
    (flat_map (found_at f c.args.earlier.now c.args.v) f.atoms ++ flat_map (located_at f c.args.earlier.now c.args.v) f.atoms)
    c.in_ok-given.given c.in-Some.kind (c.in_ok-given.ensures f facts.atoms_are facts.table) c.in-Some.is

pub returns-in_ok-by_entries-in-None : goal.returns-in_ok-by_entries-in-None
returns-in_ok-by_entries-in-None c = λ f facts.
    let here : AreFacts c.as_slice-decls.result.now c.as_slice-props.result.now c.args.closure.now f =
    record { decls_are = facts.decls_are ∙ sym c.as_slice-decls.ensures; props_are = facts.props_are ∙ sym c.as_slice-props.ensures; atoms_are = facts.atoms_are; table = facts.table } in
    c.in_ok-by_entries-in-None.ensures f here
    ∙ or_none (kinds_along f c.args.earlier.now c.args.v ways.Given)
    (flat_map (found_at f c.args.earlier.now c.args.v) f.atoms ++ flat_map (located_at f c.args.earlier.now c.args.v) f.atoms)
    c.in_ok-given.given (c.in_ok-given.ensures f facts.atoms_are facts.table) c.in-None.is
