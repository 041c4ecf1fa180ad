-- What stands round a site of a nest, and which terms it has.
use Rattle.std.proofs.Common.{◌≡◌, ◌⊎◌, inl, inr, Bool, true, false, List, [], ◌∷◌, sym, ap, ◌∙◌, subst, arith}
use Rattle.std.specs.Prelude.{◌==◌, if◌then◌else◌}
use Rattle.std.specs.List.{Contains}
use Rattle.std.proofs.lemmas.Bool.{eqb-true, false≢true}
use Rattle.std.proofs.lemmas.Bool.Decides.{nat_tests}
use Rattle.std.proofs.lemmas.List.Elements.{All-contains}
use Rattle.loop_core.specs.declared.nest.Nest.{Nest}
use Rattle.loop_core.specs.IsNest.{IsNest}
use Rattle.uf_constraints.specs.declared.reach.Usage.TheVariants.{Entry}
use Rattle.uf_constraints.specs.declared.reach.Bracket.{Bracket}
use Rattle.uf_constraints.specs.declared.reach.Spot.{Spot}
use Rattle.uf_constraints.specs.declared.reach.Site.{Site}
use Rattle.uf_constraints.specs.Brackets.{spots}
use Rattle.uf_constraints.specs.Relations.{sites}
use Rattle.dep_extract.proofs.Members.{both, and_true, none, cons_cases, here, there}
use Rattle.dep_extract.proofs.Writing.{use_of}
use Rattle.dep_extract.proofs.Dependent.{from_site}
use Rattle.inspector_gen.specs.Variables.{around_in, is_at}
use Rattle.inspector_gen.proofs.Lists.{known_or}
use Rattle.inspector_gen.proofs.Scoped.{Fits, AreScoped, lines_in, IsScoped, IsFineAt, spots_scoped, same_spot}

not_entry : (w : Bool) → use_of w ≡ Entry → ⊥
not_entry true e = absurd (cc)
not_entry false e = absurd (cc)

at_itself : (s : Site) → is_at s.reference s ≡ true
at_itself s = and_true (s.reference.line == s.reference.line) (s.reference.bracket == s.reference.bracket) (grind (arith, nat_tests)) (grind (arith, nat_tests))

-- the first site at a reference has what stands round it, where all on its line have that
round_in : (s : Site) (all : List Site) → Contains all s → ((x : Site) → Contains all x → x.reference.line ≡ s.reference.line → x.around ≡ s.around) → around_in all s.reference ≡ s.around
round_in s [] h same = absurd (none s h)
round_in s (x ∷ more) h same =
    known_or (is_at s.reference x) (λ b. (if b then x.around else around_in more s.reference) ≡ s.around)
    (λ e. same x (here x more) (eqb-true x.reference.line s.reference.line (both (x.reference.line == s.reference.line) (x.reference.bracket == s.reference.bracket) e).0))
    (λ e. by e (cons_cases x more s h) (λ c. round_in s more c (λ y d l. same y (there x more y d) l)))
  where
    by : is_at s.reference x ≡ false → (x ≡ s) ⊎ Contains more s → (Contains more s → around_in more s.reference ≡ s.around) → around_in more s.reference ≡ s.around
    by e (inl is) rest = absurd (false≢true (sym e ∙ ap (is_at s.reference) is ∙ at_itself s))
    by e (inr c) rest = rest c

module _ (nest : Nest) (is_nest : IsNest nest) where
  -- the terms of a site fit
  abbrev pub SiteFits : Site → Type 0
  SiteFits t = AreScoped nest.decls (nest.line ∷ []) t.around × Fits nest.decls (lines_in (nest.line ∷ []) t.around) t.at

  pub site_fits : (t : Site) → Contains (sites nest) t → SiteFits t
  site_fits t h =
      let f = from_site nest t h in
      let spot : Spot = f.1 in
      let b : Bracket = f.2 in
      let scoped = All-contains (IsScoped nest.decls nest.line) (spots nest) spot (spots_scoped nest is_nest) f.3.0 in
      let fine = All-contains (λ (c : Bracket). IsFineAt nest.decls (lines_in (nest.line ∷ []) spot.around) c.usage c.at) spot.brackets b scoped.brackets f.3.1 in
      subst SiteFits f.4 (scoped.around, by f.0 spot b f.3.2 fine)
    where
      by : (w : Bool) (spot : Spot) (b : Bracket) → b.usage ≡ use_of w → IsFineAt nest.decls (lines_in (nest.line ∷ []) spot.around) b.usage b.at → Fits nest.decls (lines_in (nest.line ∷ []) spot.around) b.at
      by w spot b is (inl e) = absurd (not_entry w (sym is ∙ e))
      by w spot b is (inr fits) = fits

  same_round : (s t : Site) → Contains (sites nest) s → Contains (sites nest) t → s.reference.line ≡ t.reference.line → s.around ≡ t.around
  same_round s t h g same =
      let f = from_site nest s h in
      let k = from_site nest t g in
      let first : f.1.line ≡ s.reference.line = ap (λ (z : Site). z.reference.line) f.4 in
      let second : k.1.line ≡ t.reference.line = ap (λ (z : Site). z.reference.line) k.4 in
      let is : f.1 ≡ k.1 = same_spot nest is_nest f.1 k.1 f.3.0 k.3.0 (first ∙ same ∙ sym second) in
      sym (ap (λ (z : Site). z.around) f.4) ∙ ap (λ (z : Spot). z.around) is ∙ ap (λ (z : Site). z.around) k.4

  pub round_is : (s : Site) → Contains (sites nest) s → around_in (sites nest) s.reference ≡ s.around
  round_is s h = round_in s (sites nest) h (λ x c l. same_round x s c h l)
