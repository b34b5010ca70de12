use Rattle.std.proofs.Common.{◌≡◌, ◌++◌, length}
use Rattle.std.specs.Str.{IsUtf8}
use Rattle.std.specs.String.{string_bytes}
use Rattle.config_load.specs.Joined.{directory_of}
use Rattle.config_load.proofs.joined.push_directory.Given as goal

-- what was put there and the directory of the rest make the whole
abbrev pub invariant-loop-folder : goal.invariant-loop-folder
invariant-loop-folder l = record {
  whole : string_bytes l.text ++ directory_of l.rest ≡ string_bytes l.fn.text ++ directory_of l.name;
  text : IsUtf8 l.rest;
}

abbrev pub decreases-loop-folder : goal.decreases-loop-folder
decreases-loop-folder l = length l.rest
