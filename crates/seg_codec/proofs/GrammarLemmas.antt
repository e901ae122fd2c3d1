-- the grammar of a whole file, part by part
use Rattle.std.proofs.Common.{◌≡◌, ◌<◌, ℕ, List, length, take, Result, Ok, Err, sym, ap, ◌∙◌, arith}
use Rattle.std.proofs.lemmas.List.{take_all}
use Rattle.ri_base.specs.declared.places.Place.{Place}
use Rattle.seg_codec.specs.Whole.{Fault, all_postings, and_then, dictionary_in, documents_in, grammar, header_in}
use Rattle.seg_codec.specs.declared.dictionary.TermBlocks.{TermBlocks}
use Rattle.seg_codec.specs.declared.documents.Entry.{Entry}
use Rattle.seg_codec.specs.declared.header.Header.{Header}
use Rattle.seg_codec.specs.declared.whole.Whole.{Whole}

pub all_taken : (bytes : List ℕ) → length bytes < 64 → bytes ≡ take 64 bytes
all_taken bytes lt = sym (take_all 64 bytes (omega arith))

abbrev pub made_whole : Header → List Entry → List TermBlocks → List (List Place) → Whole
made_whole h es ts ps = record { header = h; documents = es; terms = ts; postings = ps }

abbrev done : Whole → Result Whole Fault
done w = Ok w

abbrev behind_dictionary : List ℕ → Header → List Entry → List TermBlocks → Result Whole Fault
behind_dictionary bytes h es ts = and_then (all_postings bytes es ts) (λ ps. done (made_whole h es ts ps))

abbrev behind_documents : List ℕ → Header → List Entry → Result Whole Fault
behind_documents bytes h es = and_then (dictionary_in bytes h) (λ ts. behind_dictionary bytes h es ts)

abbrev behind_header : List ℕ → Header → Result Whole Fault
behind_header bytes h = and_then (documents_in bytes h) (λ es. behind_documents bytes h es)

after_header : (bytes : List ℕ) (h : Header) → header_in bytes ≡ Ok h → grammar bytes ≡ behind_header bytes h
unfolding grammar
after_header bytes h e = ap (λ r. and_then r (λ h. behind_header bytes h)) e

after_documents : (bytes : List ℕ) (h : Header) (es : List Entry) → header_in bytes ≡ Ok h → documents_in bytes h ≡ Ok es → grammar bytes ≡ behind_documents bytes h es
after_documents bytes h es e1 e2 = after_header bytes h e1 ∙ ap (λ r. and_then r (λ es. behind_documents bytes h es)) e2

after_dictionary : (bytes : List ℕ) (h : Header) (es : List Entry) (ts : List TermBlocks) → header_in bytes ≡ Ok h → documents_in bytes h ≡ Ok es → dictionary_in bytes h ≡ Ok ts → grammar bytes ≡ behind_dictionary bytes h es ts
after_dictionary bytes h es ts e1 e2 e3 = after_documents bytes h es e1 e2 ∙ ap (λ r. and_then r (λ ts. behind_dictionary bytes h es ts)) e3

-- ---- the first part that is broken

pub broken_header : (bytes : List ℕ) (f : Fault) → header_in bytes ≡ Err f → grammar bytes ≡ Err f
unfolding grammar
broken_header bytes f e = ap (λ r. and_then r (λ h. behind_header bytes h)) e

pub broken_documents : (bytes : List ℕ) (h : Header) (f : Fault) → header_in bytes ≡ Ok h → documents_in bytes h ≡ Err f → grammar bytes ≡ Err f
broken_documents bytes h f e1 e2 = after_header bytes h e1 ∙ ap (λ r. and_then r (λ es. behind_documents bytes h es)) e2

pub broken_dictionary : (bytes : List ℕ) (h : Header) (es : List Entry) (f : Fault) → header_in bytes ≡ Ok h → documents_in bytes h ≡ Ok es → dictionary_in bytes h ≡ Err f → grammar bytes ≡ Err f
broken_dictionary bytes h es f e1 e2 e3 = after_documents bytes h es e1 e2 ∙ ap (λ r. and_then r (λ ts. behind_dictionary bytes h es ts)) e3

pub broken_blocks : (bytes : List ℕ) (h : Header) (es : List Entry) (ts : List TermBlocks) (f : Fault) → header_in bytes ≡ Ok h → documents_in bytes h ≡ Ok es → dictionary_in bytes h ≡ Ok ts → all_postings bytes es ts ≡ Err f
    → grammar bytes ≡ Err f
broken_blocks bytes h es ts f e1 e2 e3 e4 = after_dictionary bytes h es ts e1 e2 e3 ∙ ap (λ r. and_then r (λ ps. done (made_whole h es ts ps))) e4

-- ---- each part keeps its grammar

pub parts_read : (bytes : List ℕ) (h : Header) (es : List Entry) (ts : List TermBlocks) (ps : List (List Place)) → header_in bytes ≡ Ok h → documents_in bytes h ≡ Ok es → dictionary_in bytes h ≡ Ok ts → all_postings bytes es ts ≡ Ok ps
    → grammar bytes ≡ Ok (made_whole h es ts ps)
parts_read bytes h es ts ps e1 e2 e3 e4 = after_dictionary bytes h es ts e1 e2 e3 ∙ ap (λ r. and_then r (λ ps. done (made_whole h es ts ps))) e4
