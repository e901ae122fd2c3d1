use Rattle.std.proofs.Common.{◌≡◌, ◌+◌, length, ap, ◌∙◌, arith}
use Rattle.ri_base.proofs.FieldFaults.{answer_found, answer_only}
use Rattle.ri_base.specs.declared.seg_fault.PartName.TheVariants as parts
use Rattle.seg_codec.specs.Dictionary.{dictionary}
use Rattle.seg_codec.specs.Fits.{FitDictionary}
use Rattle.seg_codec.specs.Spelling.{dictionary_bytes}
use Rattle.seg_codec.proofs.DictionaryLaws.{dictionary_takes, dictionary_again}
use Rattle.seg_codec.proofs.calls.read_dictionary.Goals as goal

pub returns-clause-found : goal.returns-clause-found
returns-clause-found c =
    answer_found (λ v. v) (λ x. (c.args.bytes.now ≡ dictionary_bytes x) × FitDictionary c.args.header.now x) (dictionary c.args.header.now c.args.bytes.now)
    (λ x e. dictionary_takes c.args.header.now c.args.bytes.now x (record { small = λ i. omega (arith, c.type_inv.bytes i) }) e) c.dictionary_answer.result c.args.file parts.Dictionary (c.args.header.now.dictionary_at + length c.args.bytes.now) c.dictionary_answer.ensures

pub returns-clause-only : goal.returns-clause-only
returns-clause-only c x fit is =
    answer_only (λ v. v) (dictionary c.args.header.now c.args.bytes.now) c.dictionary_answer.result c.args.file parts.Dictionary (c.args.header.now.dictionary_at + length c.args.bytes.now) c.dictionary_answer.ensures x (ap (dictionary c.args.header.now) is ∙ dictionary_again c.args.header.now x fit)
