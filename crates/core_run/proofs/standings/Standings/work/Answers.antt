use Rattle.std.proofs.Common.{ℤ, List, take, sym, ap, subst}
use Rattle.core_book.specs.declared.book.How.{How}
use Rattle.core_book.specs.Caught.{IsCaught}
use Rattle.core_run.proofs.Stood.{here, moved, caught_moved, turned_stand}
use Rattle.core_run.proofs.standings.Standings.work.Goals as goal

pub returns-clause-stands : goal.returns-clause-stands
returns-clause-stands c = let s = c.index_mut-standing.result.now in let t = c.turn.new.self in let items = c.self.inside.items.items in let room = c.self.inside.room in let seats = c.args.self.now in
    let is = sym c.self.view_is in let turned = c.turn.ensures in
    moved items room c.args.worker _ _ seats is
    (turned_stand c.args.begins s t _ turned.place turned.words turned.len (here items room c.args.worker s s seats is c.requires.worker c.index_mut-standing.ensures.value))

pub returns-clause-caught : goal.returns-clause-caught
returns-clause-caught c = let t = c.turn.new.self in
    λ all same caught. caught_moved c.args.book.now all c.self.inside.items.items c.self.inside.room c.args.worker _ c.args.self.now (sym c.self.view_is) caught
    (subst (λ (z : List How × List ℤ). IsCaught c.args.book.now z.0 z.1 c.value.new.self) (λ i. (sym same i, ap (take t.len) c.deref.ensures.value i)) c.value.ensures.caught)
