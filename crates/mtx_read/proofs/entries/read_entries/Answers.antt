use Rattle.std.proofs.Common.{ℕ, ℤ, ◌<◌, length, subst, arith}
use Rattle.std.proofs.lemmas.Bool.Decides.{nat_tests}
use Rattle.text_base.proofs.LineLaws.{after_less}
use Rattle.mtx_read.specs.declared.entry.Line.{Line}
use Rattle.mtx_read.specs.Reading.{IsLine}
use Rattle.mtx_read.specs.Entry.{entry, mirrored}
use Rattle.mtx_read.proofs.Rows.{skips, takes, refuses, extra_entry, extra_refused, short}
use Rattle.mtx_read.proofs.entries.read_entries.Goals as goal

pub loop-rest-smaller-in-Skipped : goal.loop-rest-smaller-in-Skipped
loop-rest-smaller-in-Skipped c =
    let some : 0 < length c.loop-rest.rest.now = grind (arith, nat_tests) in
    rw c.line_at-found.ensures.leaves (after_less c.loop-rest.rest.now some)

pub loop-rest-preserved-in-Skipped : goal.loop-rest-preserved-in-Skipped
loop-rest-preserved-in-Skipped c =
    let some : 0 < length c.loop-rest.rest.now = grind (arith, nat_tests) in
    let line = subst (λ (f : Line (ℕ × ℕ × ℤ)). IsLine (entry c.args.shape.now) c.loop-rest.rest.now f c.line_at-found.result.1.now) c.in-Skipped.is c.line_at-found.ensures in
    let less : length c.line_at-found.result.1.now < length c.loop-rest.rest.now = rw c.line_at-found.ensures.leaves (after_less c.loop-rest.rest.now some) in
    record {
      so_far = skips (entry c.args.shape.now) (mirrored c.args.shape.now.symmetry) c.args.shape.now.stored _ c.loop-rest.have c.loop-rest.triples.items c.loop-rest.line c.loop-rest.rest.now c.line_at-found.result.1.now c.loop-rest.invariant.so_far some line;
      room = omega (arith, less, c.loop-rest.invariant.room);
    }

pub returns-then-have-shape : goal.returns-then-have-shape
returns-then-have-shape c =
    let line = subst (λ (f : Line (ℕ × ℕ × ℤ)). IsLine (entry c.args.shape.now) c.loop-rest.rest.now f c.line_at-found.result.1.now) c.in-Refused.is c.line_at-found.ensures in
    extra_refused (entry c.args.shape.now) (mirrored c.args.shape.now.symmetry) c.args.shape.now.stored _ c.loop-rest.have c.loop-rest.triples.items c.loop-rest.line c.loop-rest.rest.now c.line_at-found.result.1.now c.in-Refused.kind c.loop-rest.invariant.so_far (grind (arith, nat_tests)) line c.if-have-shape.true

pub returns-in-Refused : goal.returns-in-Refused
returns-in-Refused c =
    let line = subst (λ (f : Line (ℕ × ℕ × ℤ)). IsLine (entry c.args.shape.now) c.loop-rest.rest.now f c.line_at-found.result.1.now) c.in-Refused.is c.line_at-found.ensures in
    refuses (entry c.args.shape.now) (mirrored c.args.shape.now.symmetry) c.args.shape.now.stored _ c.loop-rest.have c.loop-rest.triples.items c.loop-rest.line c.loop-rest.rest.now c.line_at-found.result.1.now c.in-Refused.kind c.loop-rest.invariant.so_far (grind (arith, nat_tests)) line (omega (arith, c.loop-rest.invariant.so_far.few))

pub returns-then-have-shape-2 : goal.returns-then-have-shape-2
returns-then-have-shape-2 c =
    let line = subst (λ (f : Line (ℕ × ℕ × ℤ)). IsLine (entry c.args.shape.now) c.loop-rest.rest.now f c.line_at-found.result.1.now) c.in-Entry.is c.line_at-found.ensures in
    extra_entry (entry c.args.shape.now) (mirrored c.args.shape.now.symmetry) c.args.shape.now.stored _ c.loop-rest.have c.loop-rest.triples.items c.loop-rest.line c.loop-rest.rest.now c.line_at-found.result.1.now c.in-Entry.triple c.loop-rest.invariant.so_far (grind (arith, nat_tests)) line c.if-have-shape-2.true

pub loop-rest-smaller : goal.loop-rest-smaller
loop-rest-smaller c =
    let some : 0 < length c.loop-rest.rest.now = grind (arith, nat_tests) in
    rw c.line_at-found.ensures.leaves (after_less c.loop-rest.rest.now some)

pub loop-rest-preserved : goal.loop-rest-preserved
loop-rest-preserved c =
    let pushed = c.in_ok-push_entry-in-Entry.ensures.ok in
    let some : 0 < length c.loop-rest.rest.now = grind (arith, nat_tests) in
    let line = subst (λ (f : Line (ℕ × ℕ × ℤ)). IsLine (entry c.args.shape.now) c.loop-rest.rest.now f c.line_at-found.result.1.now) c.in-Entry.is c.line_at-found.ensures in
    let less : length c.line_at-found.result.1.now < length c.loop-rest.rest.now = rw c.line_at-found.ensures.leaves (after_less c.loop-rest.rest.now some) in
    record {
      so_far = rw pushed (takes (entry c.args.shape.now) (mirrored c.args.shape.now.symmetry) c.args.shape.now.stored _ c.loop-rest.have c.loop-rest.triples.items c.loop-rest.line c.loop-rest.rest.now c.line_at-found.result.1.now c.in-Entry.triple c.loop-rest.invariant.so_far some line (omega (arith, c.loop-rest.invariant.so_far.few)));
      room = omega (arith, less, c.loop-rest.invariant.room);
    }

pub returns-then-have-shape-3 : goal.returns-then-have-shape-3
returns-then-have-shape-3 c = short (entry c.args.shape.now) (mirrored c.args.shape.now.symmetry) c.args.shape.now.stored _ c.loop-rest.have c.loop-rest.triples.items c.loop-rest.line c.loop-rest.rest.now c.loop-rest.invariant.so_far (grind (arith, nat_tests)) (omega arith)
