-- The printed summary.
use Rattle.std.specs.Prelude.{ℕ, List, ◌++◌, codes, decimal}
use Rattle.wave_report.specs.declared.counts.Summary.{Summary}
use Rattle.wave_report.specs.Line.{line}

-- `relations R dropped D covered C kept K`
abbrev pub relations_line : Summary → List ℕ
relations_line s =
    line (codes "relations " ++ decimal s.relations ++ codes " dropped " ++ decimal s.dropped ++ codes " covered " ++ decimal s.covered ++ codes " kept " ++ decimal s.kept)

-- `rows N stored Z edges E`
abbrev pub rows_line : Summary → List ℕ
rows_line s = line (codes "rows " ++ decimal s.rows ++ codes " stored " ++ decimal s.stored ++ codes " edges " ++ decimal s.edges)

-- `levels L tasks T cross X waits Y`
abbrev pub levels_line : Summary → List ℕ
levels_line s =
    line (codes "levels " ++ decimal s.levels ++ codes " tasks " ++ decimal s.tasks ++ codes " cross " ++ decimal s.cross ++ codes " waits " ++ decimal s.waits)

-- the three lines
abbrev pub summary_text : Summary → List ℕ
summary_text s = relations_line s ++ rows_line s ++ levels_line s
