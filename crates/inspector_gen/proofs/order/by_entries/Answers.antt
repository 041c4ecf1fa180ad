use Rattle.std.proofs.Common.{◌∙◌}
use Rattle.std.specs.List.{flat_map}
use Rattle.inspector_gen.specs.Kinds.{found_at, located_at}
use Rattle.inspector_gen.proofs.Orders.{or_some, or_none}
use Rattle.inspector_gen.proofs.order.by_entries.Goals as goal

pub returns-in-Some : goal.returns-in-Some
returns-in-Some c = λ f facts.
    or_some (flat_map (found_at f c.args.earlier.now c.args.v) f.atoms) (flat_map (located_at f c.args.earlier.now c.args.v) f.atoms)
    c.in_ok-found.found c.in-Some.kind (c.in_ok-found.ensures f c.args.props.now facts) c.in-Some.is

pub returns-in_ok-by_search-in-None : goal.returns-in_ok-by_search-in-None
returns-in_ok-by_search-in-None c = λ f facts.
    c.in_ok-by_search-in-None.ensures f facts
    ∙ or_none (flat_map (found_at f c.args.earlier.now c.args.v) f.atoms) (flat_map (located_at f c.args.earlier.now c.args.v) f.atoms)
    c.in_ok-found.found (c.in_ok-found.ensures f c.args.props.now facts) c.in-None.is
