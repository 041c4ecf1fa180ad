use Rattle.std.proofs.Common.{◌≡◌, ◌^◌, [], IfOk, ap, ◌∙◌, subst, sym}
use Rattle.std.specs.List.{flat_map}
use Rattle.uf_constraints.specs.Constants.{IndexesWithin}
use Rattle.uf_constraints.specs.Universe.{all_listed, asked_beside}
use Rattle.uf_constraints.proofs.Plainly.{due_is, kept_within}
use Rattle.uf_constraints.proofs.plain.due.Goals as goal

pub asked-requires : goal.asked-requires
asked-requires c =
    let kept : c.in_ok-kept.kept ≡ all_listed [] c.in_ok-all.all = c.in_ok-kept.ensures ∙ ap (all_listed []) c.as_slice.ensures in
    let small = kept_within (2 ^ 21) c.args.base.now c.args.extra.now c.in_ok-all.all c.in_ok-kept.kept c.requires.base c.requires.extra c.in_ok-all.ensures kept in
    subst (IndexesWithin (2 ^ 21)) (sym c.as_slice-2.ensures) small

pub returns : goal.returns
returns c =
    let kept : c.in_ok-kept.kept ≡ all_listed [] c.in_ok-all.all = c.in_ok-kept.ensures ∙ ap (all_listed []) c.as_slice.ensures in
    let asked : c.in_ok-asked.asked ≡ flat_map (asked_beside c.args.props.now) c.in_ok-kept.kept = c.in_ok-asked.ensures ∙ ap (flat_map (asked_beside c.args.props.now)) c.as_slice-2.ensures in
    let due = due_is c.args.base.now c.args.extra.now c.args.props.now c.in_ok-all.all c.in_ok-kept.kept c.in_ok-asked.asked c.in_ok-all.ensures kept asked in
    subst (λ due. IfOk c.first_places-2.result (λ atoms. atoms ≡ due)) (ap (all_listed []) (c.as_slice-3.ensures ∙ c.in_ok-append.ensures) ∙ due) c.first_places-2.ensures
