use Rattle.std.proofs.Common.{ap, ◌≤◌, ◌+◌, List, ℕ, length, subst, arith}
use Rattle.ri_base.specs.declared.seg_fault.PartName.TheVariants as parts
use Rattle.seg_codec.specs.Dictionary.{dictionary}
use Rattle.seg_codec.specs.Whole.{AnswersFile, in_part}
use Rattle.seg_codec.specs.declared.dictionary.TermBlocks.{TermBlocks}
use Rattle.seg_codec.proofs.WholeLemmas.{between_most, in_part_answers, within_if_read}
use Rattle.seg_codec.proofs.whole.dictionary_at.Goals as goal

pub read_dictionary-requires : goal.read_dictionary-requires
read_dictionary-requires c =
    let h = c.args.header.now in
    let most = between_most c.args.bytes.now h.dictionary_at h.blocks_at in
    let same = ap length c.between-part.ensures in
    let third : h.dictionary_at ≤ h.blocks_at = c.requires.blocks in
    let last : h.blocks_at ≤ length c.args.bytes.now = c.requires.end in
    omega (arith, most, same)

pub returns-clause-exact : goal.returns-clause-exact
returns-clause-exact c =
    let h = c.args.header.now in
    subst (λ (x : List ℕ). AnswersFile (λ (v : List TermBlocks). v) c.read_dictionary.result (in_part parts.Dictionary (h.dictionary_at + length x) (dictionary h x)) c.args.file) c.between-part.ensures
    (in_part_answers (λ (v : List TermBlocks). v) c.read_dictionary.result (dictionary h c.between-part.result.now) c.args.file parts.Dictionary (h.dictionary_at + length c.between-part.result.now) c.read_dictionary.ensures.exact)

pub returns-clause-within : goal.returns-clause-within
returns-clause-within c = within_if_read (length c.args.bytes.now) c.args.header.now c.between-part.result.now c.read_dictionary.result c.requires c.read_dictionary.ensures.found
