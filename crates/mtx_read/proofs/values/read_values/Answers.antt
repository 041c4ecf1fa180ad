use Rattle.std.proofs.Common.{ℤ, ◌<◌, length, subst, arith, rules}
use Rattle.std.proofs.lemmas.Bool.Decides.{nat_tests}
use Rattle.std.specs.Prelude.{FitsSigned}
use Rattle.std.specs.Int.{w64}
use Rattle.std.proofs.lemmas.Int.{to_z-of_z}
use Rattle.text_base.proofs.LineLaws.{after_less}
use Rattle.mtx_read.specs.declared.entry.Line.{Line}
use Rattle.mtx_read.specs.Reading.{IsLine}
use Rattle.mtx_read.specs.Entry.{value, alone}
use Rattle.mtx_read.proofs.Rows.{skips, takes, refuses, extra_entry, extra_refused, short}
use Rattle.mtx_read.proofs.values.read_values.Goals as goal

pub loop-rest-smaller-in-Skipped : goal.loop-rest-smaller-in-Skipped
loop-rest-smaller-in-Skipped c =
    let some : 0 < length c.loop-rest.rest.now = grind (arith, nat_tests) in
    rw c.value_at-found.ensures.leaves (after_less c.loop-rest.rest.now some)

pub loop-rest-preserved-in-Skipped : goal.loop-rest-preserved-in-Skipped
loop-rest-preserved-in-Skipped c =
    let some : 0 < length c.loop-rest.rest.now = grind (arith, nat_tests) in
    let line = subst (λ (f : Line ℤ). IsLine value c.loop-rest.rest.now f c.value_at-found.result.1.now) c.in-Skipped.is c.value_at-found.ensures in
    let less : length c.value_at-found.result.1.now < length c.loop-rest.rest.now = rw c.value_at-found.ensures.leaves (after_less c.loop-rest.rest.now some) in
    record {
      so_far = skips value alone c.args.rows _ c.loop-rest.have c.loop-rest.values.items c.loop-rest.line c.loop-rest.rest.now c.value_at-found.result.1.now c.loop-rest.invariant.so_far some line;
      room = omega (arith, less, c.loop-rest.invariant.room);
    }

pub returns-then-have-rows : goal.returns-then-have-rows
returns-then-have-rows c =
    let line = subst (λ (f : Line ℤ). IsLine value c.loop-rest.rest.now f c.value_at-found.result.1.now) c.in-Refused.is c.value_at-found.ensures in
    extra_refused value alone c.args.rows _ c.loop-rest.have c.loop-rest.values.items c.loop-rest.line c.loop-rest.rest.now c.value_at-found.result.1.now c.in-Refused.kind c.loop-rest.invariant.so_far (grind (arith, nat_tests)) line c.if-have-rows.true

pub returns-in-Refused : goal.returns-in-Refused
returns-in-Refused c =
    let line = subst (λ (f : Line ℤ). IsLine value c.loop-rest.rest.now f c.value_at-found.result.1.now) c.in-Refused.is c.value_at-found.ensures in
    refuses value alone c.args.rows _ c.loop-rest.have c.loop-rest.values.items c.loop-rest.line c.loop-rest.rest.now c.value_at-found.result.1.now c.in-Refused.kind c.loop-rest.invariant.so_far (grind (arith, nat_tests)) line (omega (arith, c.loop-rest.invariant.so_far.few))

pub returns-then-have-rows-2 : goal.returns-then-have-rows-2
returns-then-have-rows-2 c =
    let line = subst (λ (f : Line ℤ). IsLine value c.loop-rest.rest.now f c.value_at-found.result.1.now) c.in-Entry.is c.value_at-found.ensures in
    extra_entry value alone c.args.rows _ c.loop-rest.have c.loop-rest.values.items c.loop-rest.line c.loop-rest.rest.now c.value_at-found.result.1.now c.in-Entry.a c.loop-rest.invariant.so_far (grind (arith, nat_tests)) line c.if-have-rows-2.true

pub loop-rest-smaller : goal.loop-rest-smaller
loop-rest-smaller c =
    let some : 0 < length c.loop-rest.rest.now = grind (arith, nat_tests) in
    rw c.value_at-found.ensures.leaves (after_less c.loop-rest.rest.now some)

pub loop-rest-preserved : goal.loop-rest-preserved
loop-rest-preserved c =
    let range : FitsSigned w64 c.in-Entry.a = search rules in
    let pushed = simp (c.in_ok-push-in-Entry.was, to_z-of_z) at c.in_ok-push-in-Entry.ensures.items in
    let some : 0 < length c.loop-rest.rest.now = grind (arith, nat_tests) in
    let line = subst (λ (f : Line ℤ). IsLine value c.loop-rest.rest.now f c.value_at-found.result.1.now) c.in-Entry.is c.value_at-found.ensures in
    let less : length c.value_at-found.result.1.now < length c.loop-rest.rest.now = rw c.value_at-found.ensures.leaves (after_less c.loop-rest.rest.now some) in
    record {
      so_far = rw pushed (takes value alone c.args.rows _ c.loop-rest.have c.loop-rest.values.items c.loop-rest.line c.loop-rest.rest.now c.value_at-found.result.1.now c.in-Entry.a c.loop-rest.invariant.so_far some line (omega (arith, c.loop-rest.invariant.so_far.few)));
      room = omega (arith, less, c.loop-rest.invariant.room);
    }

pub returns-then-have-rows-3 : goal.returns-then-have-rows-3
returns-then-have-rows-3 c = short value alone c.args.rows _ c.loop-rest.have c.loop-rest.values.items c.loop-rest.line c.loop-rest.rest.now c.loop-rest.invariant.so_far (grind (arith, nat_tests)) (omega arith)
