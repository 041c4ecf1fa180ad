use Rattle.std.proofs.Common.{◌≡◌, map, drop}
use Rattle.wave_io.specs.Shelf.{named, bytes_of}
use Rattle.wave_io.proofs.mem_library.find.Given as goal

-- no file before this one has the name
abbrev pub invariant-loop-file : goal.invariant-loop-file
invariant-loop-file l =
    bytes_of (map named (drop l.file-index l.files)) l.name ≡ bytes_of (map named l.files) l.name
