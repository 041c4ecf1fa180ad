-- The properties before one hold, and it fails, or it holds too.
use Rattle.std.proofs.Common.{ℕ, ◌≡◌, ◌<◌, ◌≤◌, ◌+◌, List, ◌∷◌, ◌++◌, length, take, drop, get_or, suc, sym, ap, ◌∙◌, subst, arith}
use Rattle.std.proofs.lemmas.List.{length-take-le, take_all}
use Rattle.std.proofs.lemmas.List.Elements.{All-more}
use Rattle.std.proofs.Math.Seq.{split_at}
use Rattle.loop_core.specs.declared.decl.PropDecl.{PropDecl}
use Rattle.loop_core.specs.Lists.{Lists}
use Rattle.index_props.specs.Meanings.{Means, Passes}
use Rattle.index_props.specs.Places.{FailsAt}
use Rattle.prop_check.specs.Broken.{FirstBroken}

pub fails_first : (props : List PropDecl) (a : Lists) (k first second : ℕ) (prop : PropDecl) → k < length props → prop ≡ get_or props k prop → Passes (take k props) a → FailsAt a prop.kind first second → FirstBroken props a (k + 1) first second
fails_first props a k first second prop lt here pass fails = record {
  earlier = take k props;
  broken = prop;
  later = drop (suc k) props;
  stand = split_at props k prop lt ∙ ap (λ x. take k props ++ x ∷ drop (suc k) props) (sym here);
  number = ap (λ n. n + 1) (sym (length-take-le k props (omega arith)));
  hold = pass;
  fails = fails;
}

pub one_more : (props : List PropDecl) (a : Lists) (k : ℕ) (prop : PropDecl) → k < length props → prop ≡ get_or props k prop → Passes (take k props) a → Means a prop.kind → Passes (take (k + 1) props) a
one_more props a k prop lt here pass means = All-more (λ p. Means a p.kind) props k prop lt pass (subst (λ p. Means a p.kind) here means)

pub no_more : (props : List PropDecl) (a : Lists) (k : ℕ) → length props ≤ k → Passes (take k props) a → Passes props a
no_more props a k le pass = subst (λ ps. Passes ps a) (take_all k props le) pass
