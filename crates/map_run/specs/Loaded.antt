-- What files give to groot-map, which no limit bounds but the largest.
use Rattle.std.specs.Prelude.{ℕ, List}
use Rattle.io_edges.specs.Files.{FilesTold}
use Rattle.config_load.specs.Conf.{loaded_within}
use Rattle.config_load.specs.Limits.{largest_limits}
use Rattle.config_load.specs.Reading.{Reading}
use Rattle.config_load.specs.declared.loaded.Loaded.{Loaded}

-- what the files give for a metadata file's name, with each row's server, origin and names of files
abbrev pub loaded : List ℕ → FilesTold → Reading Loaded
loaded = loaded_within largest_limits
