-- The codes of faults in metadata. No metadata are refused because memory ran out, and its word is never printed.
use Rattle.std.specs.Prelude.{ℕ, List, codes}
use Rattle.meta_read.specs.declared.fault.MetaFault.{MetaFault}
use Rattle.meta_read.specs.declared.fault.MetaFault.TheVariants.{NotJson, Shape, BadName, TopUnhosted, NoTops, TooManyRows, NoMemory}

-- the code of a fault in the metadata, the word that is printed for it
abbrev pub meta_code : MetaFault → List ℕ
meta_code NotJson = codes "not-json"
meta_code (Shape row) = codes "bad-shape"
meta_code (BadName row) = codes "bad-name"
meta_code (TopUnhosted name) = codes "top-unhosted"
meta_code NoTops = codes "no-tops"
meta_code TooManyRows = codes "too-many-rows"
meta_code NoMemory = codes "no-memory"
