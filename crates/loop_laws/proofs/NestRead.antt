-- What was read is a nest that the loop language can say.
use Rattle.std.proofs.Common.{◌≡◌, ℕ, IsTrue, List, ◌∷◌, ◌++◌, sym, subst}
use Rattle.std.specs.List.{list_all, flat_map}
use Rattle.loop_core.specs.declared.nest.Nest.{Nest}
use Rattle.loop_core.specs.Names.{is_name}
use Rattle.loop_core.specs.Shape.{Line, body_lines, line_names, line_numbers, line_terms}
use Rattle.loop_core.specs.IsNest.{IsNest, declared_names, names_anew, knows_variables, knows_locals, uses_kinds, has_constants, is_literal}
use Rattle.loop_syntax.specs.Numbered.{numbered}
use Rattle.loop_syntax.specs.TextNest.{IsRead}
use Rattle.loop_syntax.proofs.ReadLaws.{fits, is_few}
use Rattle.loop_syntax.proofs.ShallowLaws.{shallow}
use Rattle.loop_syntax.proofs.ArrayLaws.{few_arrays, few_locals}
use Rattle.loop_laws.proofs.NestForms.{text_body}
use Rattle.loop_laws.proofs.NestBody.{body_is, rising}
use Rattle.loop_laws.proofs.NestCounts.{few_references}
use Rattle.loop_laws.proofs.NestProps.{properties_are, bounds_are}
use Rattle.loop_laws.proofs.NestKinds.{kinds_are, constants_are}
use Rattle.loop_laws.proofs.NestNames.{names_are, literals}
use Rattle.loop_laws.proofs.NestMatrix.{one_matrix}
use Rattle.loop_laws.proofs.NestDistinct.{distinct, anew}
use Rattle.loop_laws.proofs.NestScopes.{in_scope}
use Rattle.loop_laws.proofs.NestLocals.{of_locals}

module _ (ls : List (List ℕ)) (nest : Nest) (read : IsRead ls nest) where
  same : text_body (numbered ls) ≡ body_lines nest
  same = sym (body_is (numbered ls) nest (fits ls read.accepted) read.of_text)

  -- what holds of the lines of the text's loop holds of the nest's
  in_body : (P : List Line → Type 0) → P (text_body (numbered ls)) → P (body_lines nest)
  in_body P h = subst P same h

  pub is_nest : IsNest nest
  is_nest = record {
    one_matrix = one_matrix ls nest read;
    names = in_body (λ b. IsTrue (list_all is_name (declared_names nest ++ nest.name ∷ flat_map (λ l. line_names l.form) b))) (names_are ls nest read);
    distinct = distinct ls nest read;
    anew = in_body (λ b. IsTrue (list_all (names_anew nest) b)) (anew ls nest read);
    few_arrays = few_arrays (numbered ls) nest (is_few ls read.accepted) read.of_text;
    few_locals = few_locals (numbered ls) nest (is_few ls read.accepted) read.of_text;
    properties = properties_are ls nest read;
    bounds = bounds_are ls nest read;
    in_scope = in_body (λ b. IsTrue (list_all knows_variables b)) (in_scope ls nest read);
    of_locals = in_body (λ b. IsTrue (list_all (knows_locals nest) b)) (of_locals ls nest read);
    of_kinds = in_body (λ b. IsTrue (list_all (uses_kinds nest.decls) b)) (kinds_are ls nest read);
    constants = in_body (λ b. IsTrue (list_all has_constants (flat_map (λ l. line_terms l.form) b))) (constants_are ls nest read);
    literals = in_body (λ b. IsTrue (list_all is_literal (flat_map (λ l. line_numbers l.form) b))) (literals ls nest read);
    shallow = shallow (numbered ls) nest (fits ls read.accepted) (is_few ls read.accepted) read.of_text;
    few_references = few_references ls nest read;
    rising = rising ls nest read;
  }
