use Rattle.std.proofs.Common.{rules, ◌≡◌, ◌-◌, ℕ, Bool, List, ◌++◌, length, map, refl, ap, subst, ◌∙◌, append_assoc, arith}
use Rattle.std.proofs.lemmas.List.{length-append, length-map}
use Rattle.loop_core.specs.declared.place.Place.{Place}
use Rattle.loop_core.specs.Variables.{bindings}
use Rattle.loop_core.specs.Instances.{Formula, formula}
use Rattle.core_value.specs.Taken.{flagged}
use Rattle.core_run.specs.declared.action.Action.{Action}
use Rattle.core_unroll.specs.Plans.{shared_by, others_by, read_of, write_of}
use Rattle.core_unroll.specs.Moves.{IsStatement}
use Rattle.core_unroll.proofs.unrolling.UnrollingVisitor.visit.Goals as goal

pub returns : goal.returns
returns c =
    let u = c.args.self.now in
    let f : Formula = formula c.args.arrays.now (bindings c.args.env.now) c.args.value.now in
    let flags = c.as_slice.ensures.value in
    let reads : List Place = shared_by (flagged u.book.written.items) f in
    let listed = c.in_ok-list_reads.ensures.actions ∙ ap (λ (l : List Bool). u.actions.items ++ map read_of (shared_by (flagged l) f)) flags in
    let count : c.len.result - c.len-start.result ≡ length reads =
    (let n = ap (λ (l : List Action). length l) listed in
    let k = length-append u.actions.items (map read_of reads) in
    let m = length-map reads read_of in
    let a = c.len.ensures in
    let b = c.len-start.ensures in
    omega arith) in
    let from : c.len-from.result ≡ length u.book.others.items = search rules in
    let at : c.len-at.result ≡ length u.hows.items = search rules in
    let wrote : ◌≡◌ {A = List Action} c.list_write.new.actions.items (c.list_reads.new.actions.items ++ write_of c.len-at.result c.args.effect) = c.in_ok-list_write.ensures in
    let put_down : ◌≡◌ {A = List Action} c.list_write.new.actions.items (u.actions.items ++ (map read_of reads ++ write_of (length u.hows.items) c.args.effect)) =
    wrote
    ∙ (ap (λ (l : List Action). l ++ write_of c.len-at.result c.args.effect) listed
    ∙ (append_assoc u.actions.items (map read_of reads) (write_of c.len-at.result c.args.effect)
    ∙ ap (λ (n : ℕ). u.actions.items ++ (map read_of reads ++ write_of n c.args.effect)) at)) in
    record {
      how = record { statement = c.in_ok-statement.statement; keeps = c.local_of.result; before = u.before; from = c.len-from.result };
      expr = c.args.value.now;
      index = c.args.arrays.now;
      env = bindings c.args.env.now;
      value = refl;
      stands = subst (λ (n : ℕ). IsStatement c.find_statement.new.statements.items c.in_ok-statement.statement c.args.value.now n) count c.in_ok-statement.ensures.found;
      keeps = c.local_of.ensures;
      before = refl;
      from = from;
      hows = c.in_ok-push.ensures.items;
      actions = put_down;
      others = c.in_ok-list_reads.ensures.others ∙ ap (λ (l : List Bool). u.book.others.items ++ others_by (flagged l) u.values f) flags;
      statements = c.in_ok-statement.ensures.grew;
      written = refl;
      values = refl;
      next = c.in_ok-next.ensures;
      room = refl;
    }
