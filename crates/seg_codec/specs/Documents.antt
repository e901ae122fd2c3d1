-- The documents part of a segment: the names of fields, and each document without its tokens.
use Rattle.std.specs.Prelude.{ℕ, Bool, List, [], ◌∷◌, length, map, slice_index_or, sum_by, Result, Ok, nat_lt, nat_le, ◌==◌, ◌&&◌, ◌||◌}
use Rattle.std.specs.Bool.{nat_eq}
use Rattle.std.specs.Cmp.Lexicographic.{pointwise}
use Rattle.std.specs.Int.{w16, w32}
use Rattle.ri_base.specs.Collection.{names_of}
use Rattle.ri_base.specs.Documents.{Field}
use Rattle.ri_base.specs.Vocabulary.{with_terms}
use Rattle.ri_base.specs.declared.limits.TheConstants.{MAX_DOC_TOKENS}
use Rattle.ri_base.specs.Fields.{docno, name_behind, number, ruled}
use Rattle.ri_base.specs.Reading.{Reading, ◌>>=◌, repeat, whole}
use Rattle.seg_codec.specs.declared.header.Header.{Header}
use Rattle.seg_codec.specs.declared.documents.Entry.{Entry}
use Rattle.seg_codec.specs.declared.documents.Row.{Row}

-- a field whose name is told by its number
abbrev pub named : List (List ℕ) → Row → Field
named names r = record { name = slice_index_or names r.name []; begin = r.begin; end = r.end }

abbrev pub first_row : Row
first_row = record { name = 0; begin = 0; end = 0 }

-- by begin, then end, then the number of the name
abbrev pub is_behind : Row → Row → Bool
is_behind a b = nat_lt a.begin b.begin || (a.begin == b.begin) && (nat_lt a.end b.end || (a.end == b.end) && nat_lt a.name b.name)

-- a field of a document of so many tokens, behind another
unfoldable pub row : ℕ → ℕ → Row → List ℕ → Reading Row
row names tokens before bytes = do
  name ← ruled w16 (λ n. nat_lt n names) bytes
  begin ← ruled w32 (λ b. nat_le before.begin b) name.1
  end ← ruled w32 (λ e. nat_lt begin.0 e && nat_le e tokens && is_behind before (record { name = name.0; begin = begin.0; end = e })) begin.1
  Ok (record { name = name.0; begin = begin.0; end = end.0 }, end.1)

unfoldable pub rows : ℕ → ℕ → List ℕ → Reading (List Row)
rows names tokens bytes = do
  count ← number w16 bytes
  repeat (row names tokens) (λ _ r. r) count.0 first_row count.1

unfoldable pub fields : List (List ℕ) → ℕ → List ℕ → Reading (List Field)
fields names tokens bytes = do
  rs ← rows (length names) tokens bytes
  Ok (map (named names) rs.0, rs.1)

-- a document without its tokens
unfoldable pub entry : List (List ℕ) → List ℕ → Reading Entry
entry names bytes = do
  d ← docno bytes
  n ← ruled w32 (λ n. nat_le n MAX_DOC_TOKENS) d.1
  fs ← fields names n.0 n.1
  Ok (record { docno = d.0; tokens = n.0; fields = fs.0 }, fs.1)

-- the distinct names of the fields, in rising order of bytes
abbrev pub names_in_order : List Entry → List (List ℕ)
names_in_order [] = []
names_in_order (e ∷ es) = with_terms (names_of e.fields) (names_in_order es)

abbrev pub Listed : Type 0
Listed = List (List ℕ) × List Entry

-- the names of the fields, and then the documents
unfoldable pub listed : ℕ → ℕ → List ℕ → Reading Listed
listed names docs bytes = do
  ns ← repeat name_behind (λ _ x. x) names [] bytes
  es ← repeat {S = ℕ} (λ _. entry ns.0) (λ s _. s) docs 0 ns.1
  Ok ((ns.0, es.0), es.1)

-- the lengths have the header's sum, and each name is that of a field
abbrev pub are_whole : ℕ → Listed → Bool
are_whole tokens x = (sum_by (λ e. e.tokens) x.1 == tokens) && pointwise (pointwise nat_eq) x.0 (names_in_order x.1)

abbrev pub documents : Header → List ℕ → Result (List Entry) ℕ
documents h bytes = whole (are_whole h.tokens) (λ x. x.1) (listed h.names h.docs bytes)
