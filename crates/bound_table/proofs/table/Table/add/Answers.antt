use Rattle.std.proofs.Common.{rules, arith, ◌≡◌, ◌++◌, ◌∷◌, ℤ, List, [], length, take, drop, subst, sym, ◌∙◌, w64}
use Rattle.std.proofs.lemmas.Int.{to_z-of_z}
use mir.Val.{SFits}
use Rattle.bound_table.specs.Rows.{Adds, IsMarks, AllMarked, entry}
use Rattle.bound_table.proofs.Edges.{lent, IsTraced-add}
use Rattle.bound_table.proofs.table.Table.add.Goals as goal

pub returns-clause-adds : goal.returns-clause-adds
returns-clause-adds c =
    let fc : SFits w64 c.args.edge.c = search rules in
    let long : length c.tighten.new.rows ≡ length c.args.self.now.rows.items = search rules in
    let same : take c.args.self.now.rows.len (c.tighten.new.rows ++ drop (length c.tighten.new.rows) c.args.self.now.rows.items) ≡ c.tighten.new.rows = lent c.args.self.now.rows.items c.tighten.new.rows c.args.self.now.rows.len (search (rules, arith, long)) in
    subst (λ (r : List (List ℤ)). Adds (length c.args.self.now.rows.items) (entry c.args.self.now.rows.items) c.args.edge.a c.args.edge.b c.args.edge.c (entry r)) (sym same) (rw (to_z-of_z w64 c.args.edge.c fc, c.deref_mut.ensures.value) at c.tighten.ensures.adds)

pub returns-clause-traced : goal.returns-clause-traced
returns-clause-traced c =
    let fc : SFits w64 c.args.edge.c = search rules in
    let long : length c.tighten.new.rows ≡ length c.args.self.now.rows.items = search rules in
    let shape : IsMarks (length c.args.self.now.rows.items) c.tighten.new.marks = rw c.deref_mut.ensures.value at c.tighten.ensures.marks in
    let wide : length c.tighten.new.marks ≡ length c.args.self.now.marks.items = shape.long ∙ sym c.requires.traced.in_shape.long in
    let rows : take c.args.self.now.rows.len (c.tighten.new.rows ++ drop (length c.tighten.new.rows) c.args.self.now.rows.items) ≡ c.tighten.new.rows = lent c.args.self.now.rows.items c.tighten.new.rows c.args.self.now.rows.len (search (rules, arith, long)) in
    let marks : take c.args.self.now.marks.len (c.tighten.new.marks ++ drop (length c.tighten.new.marks) c.args.self.now.marks.items) ≡ c.tighten.new.marks = lent c.args.self.now.marks.items c.tighten.new.marks c.args.self.now.marks.len (search (rules, arith, wide)) in
    let edges : c.push.new.self.items ≡ c.args.self.now.edges.items ++ c.args.edge ∷ [] = search rules in
    let adds : Adds (length c.args.self.now.rows.items) (entry c.args.self.now.rows.items) c.args.edge.a c.args.edge.b c.args.edge.c (entry c.tighten.new.rows) = rw (to_z-of_z w64 c.args.edge.c fc, c.deref_mut.ensures.value) at c.tighten.ensures.adds in
    let number : c.len-number.result ≡ length c.args.self.now.edges.items = search rules in
    let marked : AllMarked (length c.args.self.now.rows.items) (length c.args.self.now.edges.items) c.args.self.now.rows.items c.tighten.new.rows c.args.self.now.marks.items c.tighten.new.marks = rw (c.deref_mut.ensures.value, c.deref_mut-2.ensures.value, number) at c.tighten.ensures.marked in
    rw (rows, marks, edges)
    (IsTraced-add c.args.self.now.rows.items c.tighten.new.rows c.args.self.now.marks.items c.tighten.new.marks c.args.self.now.edges.items c.args.edge c.requires.traced c.requires.a c.requires.b c.requires.few c.requires.fits long c.tighten.ensures.table adds shape marked)

pub returns-clause-marked : goal.returns-clause-marked
returns-clause-marked c =
    let long : length c.tighten.new.rows ≡ length c.args.self.now.rows.items = search rules in
    let shape : IsMarks (length c.args.self.now.rows.items) c.tighten.new.marks = rw c.deref_mut.ensures.value at c.tighten.ensures.marks in
    let wide : length c.tighten.new.marks ≡ length c.args.self.now.marks.items = shape.long ∙ sym c.requires.traced.in_shape.long in
    let rows : take c.args.self.now.rows.len (c.tighten.new.rows ++ drop (length c.tighten.new.rows) c.args.self.now.rows.items) ≡ c.tighten.new.rows = lent c.args.self.now.rows.items c.tighten.new.rows c.args.self.now.rows.len (search (rules, arith, long)) in
    let marks : take c.args.self.now.marks.len (c.tighten.new.marks ++ drop (length c.tighten.new.marks) c.args.self.now.marks.items) ≡ c.tighten.new.marks = lent c.args.self.now.marks.items c.tighten.new.marks c.args.self.now.marks.len (search (rules, arith, wide)) in
    let number : c.len-number.result ≡ length c.args.self.now.edges.items = search rules in
    rw (rows, marks) (rw (c.deref_mut.ensures.value, c.deref_mut-2.ensures.value, number) at c.tighten.ensures.marked)
