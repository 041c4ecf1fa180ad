-- What holds of the nest that is read.
use Rattle.std.proofs.Common.{ℕ, ◌≤◌, List, length}
use Rattle.loop_core.specs.declared.nest.Nest.{Nest}
use Rattle.loop_core.specs.Depth.{body_depth}
use Rattle.loop_core.specs.Sizes.{sizes}
use Rattle.loop_lines.specs.Plain.{HasNames}
use Rattle.loop_syntax.specs.Numbered.{numbered}
use Rattle.loop_syntax.specs.TextNest.{IsRead}
use Rattle.loop_syntax.proofs.ReadLaws.{fits, is_few}
use Rattle.loop_syntax.proofs.ShallowLaws.{shallow}
use Rattle.loop_syntax.proofs.ArrayLaws.{few_arrays, few_locals}
use Rattle.loop_syntax.proofs.NameLaws.{has_names}

pub record Accepted (nest : Nest) : Type 0 where
  pub shallow : body_depth nest.body ≤ 5
  pub few : length (sizes nest.decls) ≤ 64
  pub few_locals : length nest.locals ≤ 16
  pub names : HasNames nest

pub accepted : (ls : List (List ℕ)) (nest : Nest) → IsRead ls nest → Accepted nest
accepted ls nest read = record {
  shallow = shallow (numbered ls) nest (fits ls read.accepted) (is_few ls read.accepted) read.of_text;
  few = few_arrays (numbered ls) nest (is_few ls read.accepted) read.of_text;
  few_locals = few_locals (numbered ls) nest (is_few ls read.accepted) read.of_text;
  names = has_names ls nest read.of_text;
}
