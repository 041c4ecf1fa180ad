-- The printed line of a relation.
use Rattle.std.specs.Prelude.{ℕ, Bool, true, false, if◌then◌else◌, List, ◌++◌, codes, decimal}
use Rattle.uf_constraints.specs.declared.system.Reference.{Reference}
use Rattle.wave_report.specs.declared.relation.Said.{Said}
use Rattle.wave_report.specs.declared.relation.Said.TheVariants.{Dropped, Covered, Kept}
use Rattle.wave_report.specs.Line.{line}

-- `LINE:BRACKET`
abbrev pub reference_text : Reference → List ℕ
reference_text r = decimal r.line ++ codes ":" ++ decimal r.bracket

-- `output` where both write, `true` where the first alone writes, `anti` where the second alone writes
abbrev pub kind_text : Bool → Bool → List ℕ
kind_text first_writes second_writes = if first_writes then (if second_writes then codes "output" else codes "true") else codes "anti"

abbrev pub verdict_text : Said → List ℕ
verdict_text Dropped = codes "dropped"
verdict_text (Covered k) = codes "covered " ++ decimal k
verdict_text Kept = codes "kept"

-- `relation NUMBER FIRST SECOND KIND VERDICT`
abbrev pub relation_text : ℕ → Reference → Reference → Said → List ℕ
relation_text number first second said =
    line (
    codes "relation " ++ decimal number ++ codes " " ++ reference_text first ++ codes " " ++ reference_text second
    ++ codes " " ++ kind_text first.writes second.writes ++ codes " " ++ verdict_text said)
