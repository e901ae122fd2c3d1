-- The next document of an input by its form.
use Rattle.std.proofs.Common.{ℕ, ◌≡◌, ◌+◌, ◌-◌, false, List, [], ◌∷◌, ◌++◌, length, take, drop, Option, Some, None, Result, Ok, Err, IsTrue, refl, sym, ap, ◌∙◌, subst, arith, append_assoc, length-append, length-take}
use Rattle.std.specs.Prelude.{codes}
use Rattle.std.specs.List.{list_all, prefix_len}
use Rattle.std.proofs.Math.Seq.{drop-append_seam, take-append-add}
use Rattle.std.proofs.lemmas.List.{take-append-drop}
use Rattle.ri_base.specs.Ascii.{is_space}
use Rattle.ri_base.specs.declared.limits.TheConstants.{MAX_DOC_BYTES}
use Rattle.trec_reader.specs.Documents.{Reading}
use Rattle.trec_reader.specs.Pieces.{pieces}
use Rattle.trec_reader.specs.Form.{IsDocumentText, IsEntry}
use Rattle.trec_reader.specs.Read.{behind_space, bounded_document, document_at, document_read, entry}
use Rattle.trec_reader.specs.declared.document.RawDoc.{RawDoc}
use Rattle.trec_reader.specs.declared.piece.Piece.{Piece}
use Rattle.trec_reader.specs.declared.refusal.TrecRefusal.{TrecRefusal}
use Rattle.trec_reader.proofs.FormLaw.{Front, document_is, document_reads, front_rest, nest, run_exact, run_front}
use Rattle.trec_reader.proofs.TagForms.{tag_open}

pair : {A B : Type 0} (a c : A) (b d : B) → ◌≡◌ {A = Result (Option A × B) TrecRefusal} (Ok (Some a, b)) (Ok (Some c, d)) → (a ≡ c) × (b ≡ d)
pair {A = A} {B = B} a c b d e = let same : ◌≡◌ {A = Option A × B} (Some a, b) (Some c, d) = cc in let first : ◌≡◌ {A = Option A} (Some a) (Some c) = ap (λ x. x.0) same in (cc, ap (λ x. x.1) same)

entry_from : (offset : ℕ) (bytes rest : List ℕ) (d : RawDoc) (front : Front (λ xs. IsTrue (list_all is_space xs)) bytes (prefix_len is_space bytes)) → (r : Reading (List ℕ × List Piece)) → bounded_document (behind_space bytes) ≡ r → document_read (offset + prefix_len is_space bytes) (behind_space bytes) r ≡ Ok (Some d, rest) → IsEntry offset bytes d rest
unfolding bounded_document
entry_from offset bytes rest d front (Ok ((name, found), n)) is e =
    let form = document_is (take MAX_DOC_BYTES (behind_space bytes)) name found n is in
    let s = form.1 in
    let same = pair (record { docno = name; offset = offset + prefix_len is_space bytes; pieces = found }) d (drop n (behind_space bytes)) rest e in
    let behind : behind_space bytes ≡ s.whole ++ (s.rest ++ drop MAX_DOC_BYTES (behind_space bytes)) =
    sym (take-append-drop MAX_DOC_BYTES (behind_space bytes)) ∙ ap (λ xs. xs ++ drop MAX_DOC_BYTES (behind_space bytes)) s.parts ∙ append_assoc s.whole s.rest _ in
    let tail : s.rest ++ drop MAX_DOC_BYTES (behind_space bytes) ≡ rest = sym (drop-append_seam s.whole _) ∙ ap (λ xs. drop (length s.whole) xs) (sym behind) ∙ ap (λ k. drop k (behind_space bytes)) s.long ∙ same.1 in
    let spaced : bytes ≡ front.front ++ behind_space bytes = front.parts ∙ ap (λ xs. front.front ++ xs) (sym (front_rest bytes (prefix_len is_space bytes) front)) in
    record {
      space = front.front;
      whole = s.whole;
      text = form.0;
      parts = spaced ∙ ap (λ xs. front.front ++ xs) behind ∙ ap (λ xs. front.front ++ (s.whole ++ xs)) tail ∙ sym (append_assoc front.front s.whole rest);
      spaces = front.is;
      is_document = subst (λ x. IsDocumentText x form.0 s.whole) (ap (λ x. x.docno) same.0) s.is_document;
      short = omega (arith, ap length s.parts, length-append s.whole s.rest, length-take MAX_DOC_BYTES (behind_space bytes));
      offset_is = sym (ap (λ x. x.offset) same.0) ∙ ap (λ k. offset + k) (sym front.long);
      pieces_are = sym (ap (λ x. x.pieces) same.0) ∙ form.2;
    }
entry_from offset bytes rest d front (Err stop) is e = absurd cc

pub entry_is : (offset : ℕ) (bytes rest : List ℕ) (d : RawDoc) → entry offset bytes ≡ Ok (Some d, rest) → IsEntry offset bytes d rest
unfolding entry
entry_is offset bytes rest d e = by (behind_space bytes) refl e
  where
    by : (xs : List ℕ) → behind_space bytes ≡ xs → document_at (offset + prefix_len is_space bytes) xs ≡ Ok (Some d, rest) → IsEntry offset bytes d rest
    by [] is e = let same : ◌≡◌ {A = Option RawDoc × List ℕ} (None, []) (Some d, rest) = cc in let no : ◌≡◌ {A = Option RawDoc} None (Some d) = ap (λ x. x.0) same in absurd cc
    by (b ∷ xs) is e = entry_from offset bytes rest d (run_front is_space bytes) (bounded_document (behind_space bytes)) refl (subst (λ ys. document_read (offset + prefix_len is_space bytes) ys (bounded_document ys) ≡ Ok (Some d, rest)) (sym is) e)

-- bytes at which a document is read are some
some_at : (offset n : ℕ) (b : ℕ) (bytes all : List ℕ) (x : List ℕ × List Piece) → all ≡ b ∷ bytes → bounded_document all ≡ Ok (x, n) → document_at offset all ≡ document_read offset all (Ok (x, n))
some_at offset n b bytes all x is e = subst (λ ys. document_at offset ys ≡ document_read offset ys (bounded_document ys)) (sym is) refl ∙ ap (document_read offset all) e

pub entry_reads : (offset : ℕ) (bytes rest : List ℕ) (d : RawDoc) → IsEntry offset bytes d rest → entry offset bytes ≡ Ok (Some d, rest)
unfolding entry bounded_document
entry_reads offset bytes rest d h =
    let doc = h.is_document in
    let sign = tag_open false (codes "doc") doc.doc_tag doc.begins in
    let opens : h.whole ++ rest ≡ 60 ∷ (sign.more ++ (doc.space_before_tag ++ (doc.docno_tag ++ (doc.space_before ++ (d.docno ++ (doc.space_behind ++ (doc.docno_end ++ (h.text ++ (doc.doc_end ++ rest))))))))) = ap (λ xs. xs ++ rest) doc.whole ∙ nest doc.doc_tag _ _ _ _ _ _ _ _ rest ∙ ap (λ xs. xs ++ (doc.space_before_tag ++ (doc.docno_tag ++ (doc.space_before ++ (d.docno ++ (doc.space_behind ++ (doc.docno_end ++ (h.text ++ (doc.doc_end ++ rest))))))))) sign.is in
    let parts : bytes ≡ h.space ++ (h.whole ++ rest) = h.parts ∙ append_assoc h.space h.whole rest in
    let run : prefix_len is_space bytes ≡ length h.space = ap (prefix_len is_space) parts ∙ run_exact is_space h.space (h.whole ++ rest) h.spaces (ap (prefix_len is_space) opens) in
    let behind : behind_space bytes ≡ h.whole ++ rest = ap (λ k. drop k bytes) run ∙ ap (drop (length h.space)) parts ∙ drop-append_seam h.space (h.whole ++ rest) in
    let sum : MAX_DOC_BYTES ≡ length h.whole + (MAX_DOC_BYTES - length h.whole) = omega (arith, h.short) in
    let cut : take MAX_DOC_BYTES (h.whole ++ rest) ≡ h.whole ++ take (MAX_DOC_BYTES - length h.whole) rest = ap (λ k. take k (h.whole ++ rest)) sum ∙ take-append-add h.whole rest (MAX_DOC_BYTES - length h.whole) in
    let read : bounded_document (h.whole ++ rest) ≡ Ok ((d.docno, pieces h.text), length h.whole) = document_reads _ d.docno h.text (length h.whole) (record { whole = h.whole; rest = take (MAX_DOC_BYTES - length h.whole) rest; parts = cut; long = refl; is_document = doc }) in
    ap (document_at (offset + prefix_len is_space bytes)) behind ∙ some_at _ (length h.whole) 60 _ (h.whole ++ rest) (d.docno, pieces h.text) opens read
    ∙ ap (λ xs. Ok (Some (record { docno = d.docno; offset = offset + prefix_len is_space bytes; pieces = pieces h.text }), xs)) (drop-append_seam h.whole rest)
    ∙ ap (λ k. Ok (Some (record { docno = d.docno; offset = k; pieces = pieces h.text }), rest)) (ap (λ k. offset + k) run ∙ sym h.offset_is)
    ∙ ap (λ ps. Ok (Some (record { docno = d.docno; offset = d.offset; pieces = ps }), rest)) (sym h.pieces_are)
