-- The codes of what is wrong in a master file.
use Rattle.std.specs.Prelude.{ℕ, List, codes}
use Rattle.master_lex.specs.Kinds.{lex_code}
use Rattle.rdata_forms.specs.Codes.{data_code}
use Rattle.master_read.specs.declared.fault.TextCause.{TextCause}
use Rattle.master_read.specs.declared.fault.TextCause.TheVariants as causes

-- the code of a cause for which a master file doesn't read, the word that is printed for it
abbrev pub text_code : TextCause → List ℕ
text_code (causes.Lex kind) = lex_code kind
text_code causes.BadDirective = codes "bad-directive"
text_code causes.NotSupported = codes "not-supported"
text_code (causes.BadOwner fault) = codes "bad-owner"
text_code causes.NoOwner = codes "no-owner"
text_code causes.NoType = codes "no-type"
text_code causes.UnknownType = codes "unknown-type"
text_code causes.NotIn = codes "not-in"
text_code causes.BadTtl = codes "bad-ttl"
text_code (causes.Rdata fault) = data_code fault
text_code causes.NoTtl = codes "no-ttl"
text_code causes.TooMany = codes "too-many-records"
text_code causes.IncludeDepth = codes "include-depth"
text_code causes.TooManyIncludes = codes "too-many-includes"
