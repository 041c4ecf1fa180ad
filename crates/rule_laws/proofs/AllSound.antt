-- All instances are sound.
use Rattle.std.proofs.Common.{true, false, List, arith}
use Rattle.std.specs.List.{All}
use Rattle.std.proofs.lemmas.Int.{ints}
use Rattle.std.proofs.lemmas.List.Elements.{All-weaker, All-contains}
use Rattle.loop_core.specs.declared.decl.Decl.{Decl}
use Rattle.loop_core.specs.declared.decl.PropDecl.{PropDecl}
use Rattle.loop_core.specs.declared.decl.PropKind.{PropKind}
use Rattle.loop_core.specs.declared.decl.PropKind.TheVariants.{Before}
use Rattle.loop_core.specs.declared.nest.Atom.{Atom}
use Rattle.loop_core.specs.Lists.{Lists}
use Rattle.loop_core.specs.Binding.{Binding}
use Rattle.index_props.specs.declared.rule.RuleInst.{RuleInst}
use Rattle.index_props.specs.Meanings.{Means, Passes}
use Rattle.index_props.specs.Rules.{instances_of}
use Rattle.index_props.specs.Sound.{IndexLengths, Follows, IsSound, NamesIndexes, AllNameIndexes}
use Rattle.index_props.specs.Table.{IsLine, IsInstance}
use Rattle.index_props.specs.Table.IsLine.{range, rising_forth, rising_back, strict, injective, sorted, below, upto, diagonal, before}
use Rattle.index_props.specs.Table.IsInstance.{equal, declared}
use Rattle.rule_laws.proofs.Soundness as LINES
use Rattle.rule_laws.proofs.Every.{instances_are}

module _ (decls : List Decl) (atoms : List Atom) where
  line_sound : (kind : PropKind) (r : RuleInst) → IsLine decls atoms kind r → NamesIndexes decls kind → IsSound decls kind r
  line_sound kind r (range f lo hi t at) n = LINES.range_sound decls f lo hi t n.1 n.2 n.0
  line_sound kind r (rising_forth p s t as_ at) n = LINES.rising_forth decls p s t n
  line_sound kind r (rising_back p s t as_ at) n = LINES.rising_back decls p s t n
  line_sound kind r (strict false false p s t as_ at) n = LINES.strict_forth_weak decls p s t n
  line_sound kind r (strict true true p s t as_ at) n = LINES.strict_back_strict decls p s t n
  line_sound kind r (strict true false p s t as_ at) n = LINES.strict_forth decls p s t n
  line_sound kind r (strict false true p s t as_ at) n = LINES.strict_back decls p s t n
  line_sound kind r (injective f s t as_ at) n = LINES.injective_sound decls f s t n
  line_sound kind r (sorted true false f p s t u as_ at start stop) n = LINES.sorted_strict_forth decls f p s t u n.0 n.1
  line_sound kind r (sorted false false f p s t u as_ at start stop) n = LINES.sorted_forth decls f p s t u n.0 n.1
  line_sound kind r (sorted false true f p s t u as_ at start stop) n = LINES.sorted_back decls f p s t u n.0 n.1
  line_sound kind r (sorted true true f p s t u as_ at start stop) n = LINES.sorted_strict_back decls f p s t u n.0 n.1
  line_sound kind r (below f p s u as_ start stop) n = LINES.below_sound decls f p s u n.0 n.1
  line_sound kind r (upto f p s u as_ start stop) n = LINES.upto_sound decls f p s u n.0 n.1
  line_sound kind r (diagonal d f p t ad back start stop) n = LINES.diagonal_sound decls d f p t n.0 n.2
  line_sound kind r (before f g t af ag) n = LINES.before_sound decls f g t n.0

  module _ (props : List PropDecl) (names : AllNameIndexes decls props) (a : Lists) (env : List Binding) (lengths : IndexLengths decls a) (passes : Passes props a) where
    instance_follows : (r : RuleInst) → IsInstance decls props atoms r → Follows a env r
    instance_follows r (equal f s t as_ at) = LINES.equal_sound decls (Before f f) f s t a env lengths (λ i lt. omega (arith, ints))
    instance_follows r (declared p r2 here line) =
        line_sound p.kind r2 line (All-contains (λ q. NamesIndexes decls q.kind) props p names here) a env lengths (All-contains (λ q. Means a q.kind) props p passes here)

    pub all_follow : All (Follows a env) (instances_of decls props atoms)
    all_follow = All-weaker (IsInstance decls props atoms) (Follows a env) instance_follows (instances_of decls props atoms) (instances_are decls atoms props)
