-- The query and the type that an entry's value names are single, and those of the entry.
use Rattle.std.proofs.Common.{◌≡◌, ℕ, List, [], Option, Some, Result, Ok, Err, refl, sym, ap, ◌∙◌}
use Rattle.dns_data.proofs.DataTexts.{name_same}
use Rattle.dns_data.specs.Name.{Labels, IsName}
use Rattle.dns_data.specs.RrType.{type_of_word, word_of}
use Rattle.dns_data.specs.Spelling.{name_of_text, name_text}
use Rattle.dns_data.specs.declared.fault.NameFault.{NameFault}
use Rattle.dns_data.specs.declared.rr_type.RrType.{RrType}
use Rattle.dns_data.specs.declared.rr_type.RrType.TheVariants.{A, Ns, Cname, Soa, Ptr, Hinfo, Mx, Txt, Aaaa, Srv, Dname, Caa}
use Rattle.dns_data.proofs.RoundTrip.{text_reads_back}
use Rattle.graph_form.specs.declared.report.ReportEntry.{ReportEntry}
use Rattle.report_json.specs.Report.{entry_value}
use Rattle.serde_json.specs.Data.{Data, string}
use Rattle.report_check.specs.RightEntries.{NamesQuery}

-- names to which one text is read are equal
one_read : (one other : Labels) (read : Result Labels NameFault) → read ≡ Ok one → read ≡ Ok other → one ≡ other
one_read one other read is also = cc

-- a type is read back from its word
word_back : (rtype : RrType) → type_of_word (word_of rtype) ≡ Some rtype
word_back A = refl
word_back Ns = refl
word_back Cname = refl
word_back Soa = refl
word_back Ptr = refl
word_back Hinfo = refl
word_back Mx = refl
word_back Txt = refl
word_back Aaaa = refl
word_back Srv = refl
word_back Dname = refl
word_back Caa = refl

-- the name that has a text is the one that the text is read as
pub named_by : (text : List ℕ) (name : Labels) → name_of_text text [] ≡ Ok name → (other : Labels) → IsName other → text ≡ name_text other → other ≡ name
named_by text name reads other is e =
    one_read other name (name_of_text text []) (ap (λ (t : List ℕ). name_of_text t []) e ∙ text_reads_back other [] is) reads

-- a text that is read as none is that of none
pub not_named : (text : List ℕ) (fault : NameFault) → name_of_text text [] ≡ Err fault → (other : Labels) → IsName other → text ≡ name_text other → ⊥
not_named text fault reads other is e =
    no_other (name_of_text text []) reads (ap (λ (t : List ℕ). name_of_text t []) e ∙ text_reads_back other [] is)
  where
    no_other : (read : Result Labels NameFault) → read ≡ Err fault → read ≡ Ok other → ⊥
    no_other read is also = cc

-- types with the same word are equal
pub one_type : (one other : RrType) → word_of one ≡ word_of other → one ≡ other
one_type one other e =
    let same : Some one ≡ Some other = sym (word_back one) ∙ ap type_of_word e ∙ word_back other in
    cc

-- strings that are one have one text
one_text : (one other : List ℕ) (found : Option Data) → found ≡ Some (string one) → found ≡ Some (string other) → one ≡ other
one_text one other found is also = cc

-- a value names one query and one type
pub one_query : (value : Data) (query other : Labels) (rtype with_type : RrType) → NamesQuery value query rtype → NamesQuery value other with_type
    → (query ≡ other) × (rtype ≡ with_type)
one_query value query other rtype with_type is also = (
  name_same query other is.is_name also.is_name (one_text (name_text query) (name_text other) _ is.query_is also.query_is),
  one_type rtype with_type (one_text (word_of rtype) (word_of with_type) _ is.type_is also.type_is),
)

-- the value of an entry names the entry's query and its type
pub entry_names : (entry : ReportEntry) → IsName entry.query → NamesQuery (entry_value entry) entry.query entry.seen.rtype
entry_names entry is = record { is_name = is; query_is = refl; type_is = refl }
