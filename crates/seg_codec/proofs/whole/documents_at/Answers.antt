use Rattle.std.proofs.Common.{◌≡◌, ap, ◌≤◌, ◌+◌, List, ℕ, length, subst, arith}
use Rattle.ri_base.specs.declared.seg_fault.PartName.TheVariants as parts
use Rattle.seg_codec.specs.Documents.{documents}
use Rattle.seg_codec.specs.Whole.{AnswersFile, in_part}
use Rattle.seg_codec.specs.declared.documents.Entry.{Entry}
use Rattle.seg_codec.proofs.WholeLemmas.{between_most, in_part_answers}
use Rattle.seg_codec.proofs.whole.documents_at.Goals as goal

pub between-part-requires : goal.between-part-requires
between-part-requires c =
    let first = c.requires.documents in
    let second = c.requires.dictionary in
    let third = c.requires.blocks in
    let last = c.requires.end in
    record { rises = omega arith; within = omega arith }

pub read_documents-requires : goal.read_documents-requires
read_documents-requires c =
    let h = c.args.header.now in
    let most = between_most c.args.bytes.now h.documents_at h.dictionary_at in
    let same = ap length c.between-part.ensures in
    let first : h.documents_at ≡ 64 = c.requires.documents in
    let second : 64 ≤ h.dictionary_at = c.requires.dictionary in
    let third : h.dictionary_at ≤ h.blocks_at = c.requires.blocks in
    let last : h.blocks_at ≤ length c.args.bytes.now = c.requires.end in
    omega (arith, most, same)

pub returns : goal.returns
returns c =
    let h = c.args.header.now in
    subst (λ (x : List ℕ). AnswersFile (λ (v : List Entry). v) c.read_documents.result (in_part parts.Documents (h.documents_at + length x) (documents h x)) c.args.file) c.between-part.ensures
    (in_part_answers (λ (v : List Entry). v) c.read_documents.result (documents h c.between-part.result.now) c.args.file parts.Documents (h.documents_at + length c.between-part.result.now) c.read_documents.ensures.exact)
