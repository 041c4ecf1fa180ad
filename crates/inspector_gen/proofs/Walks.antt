-- The order of a relation's unknowns, side by side, each side from the outside in.
use Rattle.std.proofs.Common.{◌≡◌, ℕ, Bool, true, false, ◌&&◌, ◌||◌, List, [], ◌∷◌, ◌++◌, append-nil, refl, sym, ◌∙◌, subst}
use Rattle.std.specs.Prelude.{◌==◌}
use Rattle.std.specs.List.{All, flat_map}
use Rattle.std.proofs.lemmas.List.Elements.{All-head, All-tail}
use Rattle.loop_core.specs.declared.decl.Decl.{Decl}
use Rattle.loop_core.specs.declared.nest.Side.{Side}
use Rattle.loop_core.specs.declared.nest.Side.TheVariants.{Own}
use Rattle.loop_core.specs.declared.nest.VarId.{VarId}
use Rattle.loop_core.specs.declared.nest.Term.{Term}
use Rattle.loop_core.specs.Binding.{same_side}
use Rattle.uf_constraints.specs.declared.reach.Around.{Around}
use Rattle.uf_constraints.specs.declared.reach.Around.TheVariants.{Loop, Guard}
use Rattle.uf_constraints.specs.Bases.{on}
use Rattle.inspector_run.specs.IsPlan.{is_among}
use Rattle.inspector_gen.specs.declared.unknown.Unknown.{Unknown}
use Rattle.inspector_gen.specs.declared.unknown.Span.TheVariants.{Rows, Between}
use Rattle.inspector_gen.specs.Variables.{variable, unknown_of}
use Rattle.inspector_gen.proofs.Along.{Along, among_push, side_itself}
use Rattle.inspector_gen.proofs.Scoped.{Fits, AreScoped, lines_in, is_line, line_push}

-- the variables of a side that come earlier are those of the loops at these lines
abbrev pub AreOn : Side → List VarId → List ℕ → Type 0
AreOn side earlier ls = (k : ℕ) → is_among earlier (variable k side) ≡ is_line ls k

and_true_is : (b c : Bool) → c ≡ true → (b && c) ≡ b
and_true_is true c h = h
and_true_is false c h = refl

and_false_is : (b c : Bool) → c ≡ false → (b && c) ≡ false
and_false_is true c h = h
and_false_is false c h = refl

or_none_is : (b : Bool) → (b || (false || false)) ≡ b
or_none_is true = refl
or_none_is false = refl

push_own : (side : Side) (earlier : List VarId) (ls : List ℕ) (line : ℕ) → AreOn side earlier ls → AreOn side (earlier ++ variable line side ∷ []) (ls ++ line ∷ [])
push_own side earlier ls line are k =
    among_push earlier (variable line side) (variable k side)
    ∙ (λ i. are k i || (and_true_is (line == k) (same_side side side) (side_itself side) i || false))
    ∙ sym (line_push ls line k)

push_other : (side other : Side) (earlier : List VarId) (ls : List ℕ) (line : ℕ) → same_side side other ≡ false → AreOn other earlier ls → AreOn other (earlier ++ variable line side ∷ []) ls
push_other side other earlier ls line apart are k =
    among_push earlier (variable line side) (variable k other)
    ∙ (λ i. are k i || (and_false_is (line == k) (same_side side other) apart i || false))
    ∙ or_none_is (is_line ls k)

-- Along an order: B of each unknown, E at the end, where H holds of what stands round.

abbrev pub row_of : ℕ → Side → Unknown
row_of outer side = record { var = variable outer side; span = Rows }

abbrev pub side_of : ℕ → Side → List Around → List Unknown
side_of outer side around = row_of outer side ∷ flat_map (unknown_of side) around

module _ (B : List VarId → Unknown → Type 0) (E : List VarId → Type 0) (H : Side → Around → Type 0) (decls : List Decl) (outer : ℕ)
    (row : (side : Side) (earlier : List VarId) → same_side side Own ≡ false → AreOn side earlier [] → B earlier (row_of outer side))
    (step : (side : Side) (earlier : List VarId) (ls : List ℕ) (line : ℕ) (lo hi : Term) → AreOn side earlier ls → Fits decls ls lo → Fits decls ls hi
    → is_line ls line ≡ false → H side (Loop line lo hi) → B earlier (record { var = variable line side; span = Between (on side lo) (on side hi) })) where
  inner_along : (side other : Side) (apart : same_side side other ≡ false) (lt : List ℕ) (around : List Around) (earlier : List VarId) (ls : List ℕ) (more : List Unknown)
      → AreOn side earlier ls → AreOn other earlier lt → AreScoped decls ls around → All (H side) around
      → ((after : List VarId) → AreOn side after (lines_in ls around) → AreOn other after lt → Along B E after more)
      → Along B E earlier (flat_map (unknown_of side) around ++ more)
  inner_along side other apart lt [] earlier ls more own others scoped all next = next earlier own others
  inner_along side other apart lt (Loop line lo hi ∷ xs) earlier ls more own others scoped all next = (
    step side earlier ls line lo hi own scoped.0.0 scoped.0.1 scoped.1 (All-head (H side) (Loop line lo hi) xs all),
    inner_along side other apart lt xs (earlier ++ variable line side ∷ []) (ls ++ line ∷ []) more (push_own side earlier ls line own) (push_other side other earlier lt line apart others) scoped.2 (All-tail (H side) (Loop line lo hi) xs all) next,
  )
  inner_along side other apart lt (Guard rel s t ∷ xs) earlier ls more own others scoped all next =
      inner_along side other apart lt xs earlier ls more own others scoped.1 (All-tail (H side) (Guard rel s t) xs all) next

  side_along : (side other : Side) (moves : same_side side Own ≡ false) (apart : same_side side other ≡ false) (lt : List ℕ) (around : List Around) (earlier : List VarId) (more : List Unknown)
      → AreOn side earlier [] → AreOn other earlier lt → AreScoped decls (outer ∷ []) around → All (H side) around
      → ((after : List VarId) → AreOn side after (lines_in (outer ∷ []) around) → AreOn other after lt → Along B E after more)
      → Along B E earlier (side_of outer side around ++ more)
  side_along side other moves apart lt around earlier more own others scoped all next = (
    row side earlier moves own,
    inner_along side other apart lt around (earlier ++ variable outer side ∷ []) (outer ∷ []) more (push_own side earlier [] outer own) (push_other side other earlier lt outer apart others) scoped all next,
  )

  pub order_along : (side other : Side) → same_side side Own ≡ false → same_side other Own ≡ false → same_side side other ≡ false → same_side other side ≡ false → (around beyond : List Around)
      → AreScoped decls (outer ∷ []) around → AreScoped decls (outer ∷ []) beyond → All (H side) around → All (H other) beyond
      → ((after : List VarId) → AreOn side after (lines_in (outer ∷ []) around) → AreOn other after (lines_in (outer ∷ []) beyond) → E after)
      → Along B E [] (side_of outer side around ++ side_of outer other beyond)
  order_along side other moves moves_too apart back around beyond scoped scoped_beyond all all_beyond end =
      side_along side other moves apart [] around [] (side_of outer other beyond) (λ k. refl) (λ k. refl) scoped all
      (λ after own others. subst (Along B E after) (append-nil (side_of outer other beyond))
      (side_along other side moves_too back (lines_in (outer ∷ []) around) beyond after [] others own scoped_beyond all_beyond
      (λ last of_other of_side. end last of_side of_other)))
