-- The texts of `check`, `explain` and `show`.
use Rattle.std.specs.Prelude.{◌≡◌, ℕ, ◌+◌, List, [], ◌∷◌, ◌++◌, length, codes, decimal}
use Rattle.loop_core.specs.declared.nest.Nest.{Nest}
use Rattle.loop_print.specs.PrintText.{nest_text}
use Rattle.uf_constraints.specs.declared.system.Relation.{Relation}
use Rattle.uf_constraints.specs.Relations.{relations}
use Rattle.dep_simplify.specs.declared.verdict.Verdict.{Verdict}
use Rattle.dep_simplify.specs.declared.verdict.Verdict.TheVariants as verdicts
use Rattle.dep_simplify.specs.Verdicts.{AreVerdicts}
use Rattle.wave_report.specs.declared.relation.Said.{Said}
use Rattle.wave_report.specs.declared.relation.Said.TheVariants as words
use Rattle.wave_report.specs.RelationText.{relation_text}
use Rattle.wave_main.specs.Files.{Inputs}
use Rattle.wave_main.specs.Loops.{IsLoop}
use Rattle.wave_main.specs.Status.{line}

-- how many properties a loop declares
abbrev pub passed_text : Nest → List ℕ
passed_text nest = line (codes "passed " ++ decimal (length nest.props))

pub record CheckPrints (files : Inputs) (text : List ℕ) : Type 0 where
  pub nest : Nest
  pub is_loop : IsLoop files.loop_file nest
  pub printed : text ≡ passed_text nest

-- what is said of a relation: its verdict, certificates aside
abbrev pub said : Verdict → Said
said (verdicts.Dropped cert) = words.Dropped
said (verdicts.Covered number) = words.Covered number
said verdicts.Kept = words.Kept

-- the lines of relations with their verdicts, with numbers from the first one on
abbrev pub relation_lines : ℕ → List Relation → List Verdict → List ℕ
relation_lines number (r ∷ more) (v ∷ others) = relation_text number r.first r.second (said v) ++ relation_lines (number + 1) more others
relation_lines number _ _ = []

-- the relations of the loop, numbered from 1, with their verdicts
pub record ExplainPrints (files : Inputs) (text : List ℕ) : Type 0 where
  pub nest : Nest
  pub is_loop : IsLoop files.loop_file nest
  pub verdicts : List Verdict
  pub are_verdicts : AreVerdicts nest verdicts
  pub printed : text ≡ relation_lines 1 (relations nest) verdicts

-- the canonical text of the loop
pub record ShowPrints (files : Inputs) (text : List ℕ) : Type 0 where
  pub nest : Nest
  pub is_loop : IsLoop files.loop_file nest
  pub printed : text ≡ nest_text nest
