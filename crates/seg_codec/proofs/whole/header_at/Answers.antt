use Rattle.std.proofs.Common.{◌≡◌, List, ℕ, length, subst}
use Rattle.ri_base.specs.declared.seg_fault.PartName.TheVariants as parts
use Rattle.seg_codec.specs.Headers.{header}
use Rattle.seg_codec.specs.Whole.{AnswersFile, docs_told, in_part}
use Rattle.seg_codec.specs.declared.header.Header.{Header}
use Rattle.seg_codec.proofs.WholeLemmas.{in_part_answers, placed_if_read}
use Rattle.seg_codec.proofs.whole.header_at.Goals as goal

pub returns-clause-exact : goal.returns-clause-exact
returns-clause-exact c =
    let front : List ℕ = c.header_part-front.result.now in
    let told : c.docs_told.result ≡ docs_told front = c.docs_told.ensures in
    let read = in_part_answers (λ (v : Header). v) c.read_header.result (header c.docs_told.result (length c.args.bytes.now) front) c.args.file parts.Header (length front) c.read_header.ensures.exact in
    subst (λ (x : List ℕ). AnswersFile (λ (v : Header). v) c.read_header.result (in_part parts.Header (length x) (header (docs_told x) (length c.args.bytes.now) x)) c.args.file) c.header_part-front.ensures
    (subst (λ (n : ℕ). AnswersFile (λ (v : Header). v) c.read_header.result (in_part parts.Header (length front) (header n (length c.args.bytes.now) front)) c.args.file) told read)

pub returns-clause-placed : goal.returns-clause-placed
returns-clause-placed c = placed_if_read c.read_header.result c.header_part-front.result.now c.docs_told.result (length c.args.bytes.now) c.read_header.ensures.found
