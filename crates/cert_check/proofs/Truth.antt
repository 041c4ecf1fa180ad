-- What is derivable by sound instances is true wherever the base is.
use Rattle.std.proofs.Common.{ℤ, ◌≡◌, arith, List, subst, sym}
use Rattle.std.specs.List.{All, Contains}
use Rattle.std.proofs.lemmas.Int.{ints}
use Rattle.std.proofs.lemmas.List.Elements.{All-contains, All-weaker, All-contains_itself}
use Rattle.loop_core.specs.declared.decl.Decl.{Decl}
use Rattle.loop_core.specs.declared.decl.PropDecl.{PropDecl}
use Rattle.loop_core.specs.declared.nest.Atom.{Atom}
use Rattle.loop_core.specs.Lists.{Lists}
use Rattle.loop_core.specs.Binding.{Binding}
use Rattle.uf_constraints.specs.declared.system.Diff.{Diff}
use Rattle.uf_constraints.specs.Truth.{Holds, AllHold}
use Rattle.index_props.specs.declared.rule.RuleInst.{RuleInst}
use Rattle.index_props.specs.Derivable.{Derivable}
use Rattle.index_props.specs.Derivable.Derivable.{given, same, joined, weaker, fired}
use Rattle.index_props.specs.Rules.{instances_of}
use Rattle.index_props.specs.Sound.{Follows, AllNameIndexes}
use Rattle.rule_laws.proofs.AllSound.{all_follow}
use Rattle.cert_check.specs.Answer.{IsTrueFor}

module _ (u : List Atom) (base : List Diff) (rules : List RuleInst) (a : Lists) (env : List Binding) (follow : All (Follows a env) rules) (hold : AllHold a env base) where
  pub derivable_holds : (x y : Atom) (c : ℤ) → Derivable u base rules x y c → Holds a env (record { a = x; b = y; c = c })
  derivable_holds x y c (given d h) = All-contains (Holds a env) base d hold h
  derivable_holds x y c (same b h) = omega (arith, ints)
  derivable_holds x y c (joined p q r k l g h) =
      let i = derivable_holds p q k g in
      let j = derivable_holds q r l h in
      omega (arith, ints)
  derivable_holds x y c (weaker p q k l g h) =
      let i = derivable_holds p q k g in
      omega (arith, ints)
  derivable_holds x y c (fired r d inn ps h) =
      let premises : AllHold a env r.premises = All-weaker (Contains r.premises) (Holds a env) (λ p i. derivable_holds p.a p.b p.c (ps p i)) r.premises (All-contains_itself r.premises) in
      All-contains (Holds a env) r.results d (All-contains (Follows a env) rules r follow inn premises) h

-- so it is where the instances are those of a universe, declarations and properties
pub true_for : (u : List Atom) (base : List Diff) (rules : List RuleInst) (decls : List Decl) (props : List PropDecl) → AllNameIndexes decls props → rules ≡ instances_of decls props u → (d : Diff) → Derivable u base rules d.a d.b d.c → IsTrueFor decls props base d
true_for u base rules decls props names is d derived a env lengths passes hold =
    let follow : All (Follows a env) rules = subst (All (Follows a env)) (sym is) (all_follow decls u props names a env lengths passes) in
    derivable_holds u base rules a env follow hold d.a d.b d.c derived
